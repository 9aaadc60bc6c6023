-- Checks 1 to 7 pass exactly where the rules of form hold.
--
--   at_zero, zero-at              a search that names no place: it ran to its end
--   header-passes                 a framed plan passes checks 1 to 5 and 23 (framed, in Framing.antt, is the other way)
--   entries_below, below-entries  check 6 passes exactly where every entry has its bits
--   pairs-right, right-pairs      check 7 passes exactly where the check list is on the sheet and rises
--   formed                        where checks 1 to 7 pass, the code is formed; form-passes is the other way
--
-- Assumes nothing.
use mathlib.Core.Path.{◌≡◌, refl, ap, ◌∙◌}
use mathlib.Core.Bool.{Bool, true, false, not, ◌||◌, ◌&&◌}
use mathlib.Core.List.{List}
use Prim.Native.Nat.{ℕ, zero, suc, ◌+◌, ◌-◌, ◌*◌, ◌^◌, ◌≤◌, ◌<◌}
use native.Mathlib.Nat.{mul-le-mul_right, suc-mul}
use native.Mathlib.Decide.{dec_lt}
use native.Mathlib.Omega.{arith}
use borrow.Author.Tests.{ltb-false, ltb-true, leb-false, eqb-true, lt-leb, le-ltb, lt-ltb, eq-eqb, not-false}
use lib.Dec.{eqb, ltb, leb}
use lib.ListN.{length}
use Rattle.finite.specs.Search.{least}
use Rattle.finite.proofs.Truth.{or-false, or_cases, or_left, or_right, and_left, and_right, and_both}
use Rattle.finite.proofs.Search.{least_first, least-none}
use Rattle.boxcode.specs.Code.{Code, Formed, cell_number}
use Rattle.plan.specs.declared.verdict.Verdict.{Verdict}
use Rattle.plan.specs.Verdict.{accepted, refusal, verdict_if, ◌or_else◌}
use Rattle.plan.specs.Header.{header_length, header_of, Framed, columns_start, checks_start, plan_length}
use Rattle.plan.specs.Bytes.{code_of}
use Rattle.plan.specs.Form.{bad_offsets, sizes_verdict, offsets_verdict, fields_verdict, header_verdict, first_large, entries_verdict}
use Rattle.plan.specs.Form.{rises, bad_pair, list_verdict, form_verdict, verdict_at}
use Rattle.plan.proofs.Framing.{small-sizes, framed}
use Rattle.plan.proofs.Sequence.{else-zero, else-second, else-if, if-zero}

-- a search over n places whose refusal is not given has found nothing
pub at_zero : (n : ℕ) (p : ℕ → Bool) (m a b : ℕ) → (verdict_at n (least n p) (refusal (suc m) a b)).number ≡ 0 → (k : ℕ) → k < n → p k ≡ false
at_zero n p m a b e k l =
    let u : n ≤ least n p = ltb-false (least n p) n (if-zero (ltb (least n p) n) m a b e) in
    least_first n p k (omega arith)

pub zero-at : (n : ℕ) (p : ℕ → Bool) (v : Verdict) → ((k : ℕ) → k < n → p k ≡ false) → verdict_at n (least n p) v ≡ accepted
zero-at n p v h = rw (least-none n p h, le-ltb n n (omega arith))

pub header-passes : (s : List ℕ) → Framed s (header_of s) → header_verdict s ≡ accepted
unfolding header_verdict fields_verdict offsets_verdict bad_offsets
header-passes s F =
    let h = header_of s in
    let o : bad_offsets (length s) h ≡ false =
    rw (
      eq-eqb h.rows header_length F.rows_at,
      eq-eqb h.columns (columns_start h) F.columns_from,
      eq-eqb h.checks (checks_start h) F.checks_at,
      eq-eqb h.total (plan_length h) F.total_at,
      eq-eqb (length s) (plan_length h) F.long,
    ) in
    else-if (ltb (length s) header_length) _ _ (le-ltb (length s) header_length (omega (arith, F.long)))
    ∙ else-second (sizes_verdict h) _ (ap (λ (v : Verdict). v.number) (small-sizes h F.small))
    ∙ ap (λ (t : Bool). verdict_if t (refusal 5 0 0)) o

module _ (c : Code) where
  pub entries_below : (entries_verdict c).number ≡ 0
      → ((k : ℕ) → k < c.n1 * c.b2 → c.row_entry k < 2 ^ c.rv) × ((k : ℕ) → k < c.n2 * c.b1 → c.column_entry k < 2 ^ c.rh)
  unfolding entries_verdict first_large
  entries_below e =
      let z = else-zero (verdict_at (c.n1 * c.b2) (first_large (c.n1 * c.b2) c.rv c.row_entry)
      (refusal 6 0 (first_large (c.n1 * c.b2) c.rv c.row_entry))) _ e in (
        λ k l. leb-false _ _ (at_zero (c.n1 * c.b2) (λ k. leb (2 ^ c.rv) (c.row_entry k)) 5 0 _ z.0 k l),
        λ k l. leb-false _ _ (at_zero (c.n2 * c.b1) (λ k. leb (2 ^ c.rh) (c.column_entry k)) 5 1 _ z.1 k l),
      )

  pub below-entries : ((k : ℕ) → k < c.n1 * c.b2 → c.row_entry k < 2 ^ c.rv) → ((k : ℕ) → k < c.n2 * c.b1 → c.column_entry k < 2 ^ c.rh)
      → entries_verdict c ≡ accepted
  unfolding entries_verdict first_large
  below-entries f g =
      let v = zero-at (c.n1 * c.b2) (λ k. leb (2 ^ c.rv) (c.row_entry k)) (refusal 6 0 (first_large (c.n1 * c.b2) c.rv c.row_entry))
      (λ k l. lt-leb _ _ (f k l)) in
      else-second _ _ (ap (λ (x : Verdict). x.number) v)
      ∙ zero-at (c.n2 * c.b1) (λ k. leb (2 ^ c.rh) (c.column_entry k)) _ (λ k l. lt-leb _ _ (g k l))

  -- what a pair of the check list must be
  pub record Pair (k : ℕ) : Type 0 where
    pub row : c.check_row k < c.n1
    pub column : c.check_column k < c.n2
    pub after : rises c k ≡ true

  pair-right : (k : ℕ) → bad_pair c k ≡ false → Pair k
  unfolding bad_pair
  pair-right k e =
      let x = or-false (leb c.n1 (c.check_row k) || leb c.n2 (c.check_column k)) (not (rises c k)) e in
      let y = or-false (leb c.n1 (c.check_row k)) (leb c.n2 (c.check_column k)) x.0 in
      record { row = leb-false _ _ y.0; column = leb-false _ _ y.1; after = not-false (rises c k) x.1 }

  right-pair : (k : ℕ) → Pair k → bad_pair c k ≡ false
  unfolding bad_pair
  right-pair k p = rw (lt-leb c.n1 (c.check_row k) p.row, lt-leb c.n2 (c.check_column k) p.column, p.after)

  pub pairs-right : (list_verdict c).number ≡ 0 → (k : ℕ) → k < c.rv + c.rh → Pair k
  unfolding list_verdict
  pairs-right e k l = pair-right k (at_zero (c.rv + c.rh) (bad_pair c) 6 _ 0 e k l)

  pub right-pairs : ((k : ℕ) → k < c.rv + c.rh → Pair k) → list_verdict c ≡ accepted
  unfolding list_verdict
  right-pairs f = zero-at (c.rv + c.rh) (bad_pair c) _ (λ k l. right-pair k (f k l))

  -- rising, row first, is rising in sheet order, for columns on the sheet
  pub number-rises : (k : ℕ) → c.check_column k < c.n2 → rises c (suc k) ≡ true
      → cell_number c (c.check_row k) (c.check_column k) < cell_number c (c.check_row (suc k)) (c.check_column (suc k))
  unfolding cell_number rises
  number-rises k l e =
      or_cases (eqb (suc k) 0 || ltb (c.check_row (suc k - 1)) (c.check_row (suc k))) _ e
      (λ a. or_cases (eqb (suc k) 0) (ltb (c.check_row (suc k - 1)) (c.check_row (suc k))) a
      (λ z. let f = eqb-true (suc k) 0 z in absurd (omega arith))
      (λ z. row (rw (back k) at (ltb-true (c.check_row (suc k - 1)) (c.check_row (suc k)) z))))
      (λ a. column
      (rw (back k) at (eqb-true (c.check_row (suc k - 1)) (c.check_row (suc k)) (and_left _ (ltb (c.check_column (suc k - 1)) (c.check_column (suc k))) a)))
      (rw (back k) at (ltb-true (c.check_column (suc k - 1)) (c.check_column (suc k)) (and_right (eqb (c.check_row (suc k - 1)) (c.check_row (suc k))) _ a))))
    where
      back : (k : ℕ) → suc k - 1 ≡ k
      back k = omega arith

      row : c.check_row k < c.check_row (suc k) → c.check_row k * c.n2 + c.check_column k < c.check_row (suc k) * c.n2 + c.check_column (suc k)
      row u = omega (arith, mul-le-mul_right c.n2 u, suc-mul (c.check_row k) c.n2)

      column : c.check_row k ≡ c.check_row (suc k) → c.check_column k < c.check_column (suc k)
          → c.check_row k * c.n2 + c.check_column k < c.check_row (suc k) * c.n2 + c.check_column (suc k)
      column u v = rw u (omega arith)

  pub rises-number : (k : ℕ) → c.check_column (suc k) < c.n2
      → cell_number c (c.check_row k) (c.check_column k) < cell_number c (c.check_row (suc k)) (c.check_column (suc k)) → rises c (suc k) ≡ true
  unfolding cell_number rises
  rises-number k l u = rw (back k) (go (dec_lt (c.check_row k) (c.check_row (suc k))) (dec_lt (c.check_row (suc k)) (c.check_row k)))
    where
      back : (k : ℕ) → suc k - 1 ≡ k
      back k = omega arith

      go : Dec (c.check_row k < c.check_row (suc k)) → Dec (c.check_row (suc k) < c.check_row k)
          → (eqb (suc k) 0 || ltb (c.check_row k) (c.check_row (suc k))
          || (eqb (c.check_row k) (c.check_row (suc k)) && ltb (c.check_column k) (c.check_column (suc k)))) ≡ true
      go (yes a) d = or_left (eqb (suc k) 0 || ltb (c.check_row k) (c.check_row (suc k))) _ (or_right (eqb (suc k) 0) _ (lt-ltb _ _ a))
      go (no a) (yes b) = absurd (omega (arith, mul-le-mul_right c.n2 b, suc-mul (c.check_row (suc k)) c.n2))
      go (no a) (no b) =
          let e : c.check_row k ≡ c.check_row (suc k) = omega arith in
          let f : c.check_row k * c.n2 ≡ c.check_row (suc k) * c.n2 = ap (λ (x : ℕ). x * c.n2) e in
          or_right (eqb (suc k) 0 || ltb (c.check_row k) (c.check_row (suc k))) _
          (and_both (eqb (c.check_row k) (c.check_row (suc k))) _ (eq-eqb _ _ e) (lt-ltb (c.check_column k) (c.check_column (suc k)) (omega arith)))

rises-first : (c : Code) → rises c 0 ≡ true
unfolding rises
rises-first c = refl

-- the rules of form, from the bounds of the header and the two tests
rules : (s : List ℕ) → Framed s (header_of s)
    → ((k : ℕ) → k < (code_of s).n1 * (code_of s).b2 → (code_of s).row_entry k < 2 ^ (code_of s).rv)
    × ((k : ℕ) → k < (code_of s).n2 * (code_of s).b1 → (code_of s).column_entry k < 2 ^ (code_of s).rh)
    → ((k : ℕ) → k < (code_of s).rv + (code_of s).rh → Pair (code_of s) k) → Formed (code_of s)
unfolding code_of
rules s F entries pairs =
    let p = F.small in
    record {
      b1_pos = p.b1_pos;
      b1_most = p.b1_most;
      b2_pos = p.b2_pos;
      b2_most = p.b2_most;
      n1_least = p.n1_least;
      n1_most = p.n1_most;
      n2_least = p.n2_least;
      n2_most = p.n2_most;
      rv_pos = p.rv_pos;
      rv_most = p.rv_most;
      rh_pos = p.rh_pos;
      rh_most = p.rh_most;
      t_most = p.t_most;
      row_entries = entries.0;
      column_entries = entries.1;
      check_rows = λ k l. (pairs k l).row;
      check_columns = λ k l. (pairs k l).column;
      check_rising = λ k l. number-rises (code_of s) k (pairs k (omega arith)).column (pairs (suc k) l).after;
    }

pub formed : (s : List ℕ) → (form_verdict s).number ≡ 0 → Framed s (header_of s) × Formed (code_of s)
unfolding form_verdict
formed s e =
    let z = else-zero (header_verdict s) (entries_verdict (code_of s) or_else list_verdict (code_of s)) e in
    let y = else-zero (entries_verdict (code_of s)) (list_verdict (code_of s)) z.1 in
    let F = framed s z.0 in
    (F, rules s F (entries_below (code_of s) y.0) (pairs-right (code_of s) y.1))

-- a pair of a formed code is right
formed-pair : (c : Code) → Formed c → (k : ℕ) → k < c.rv + c.rh → Pair c k
formed-pair c G zero l = record { row = G.check_rows 0 l; column = G.check_columns 0 l; after = rises-first c }
formed-pair c G (suc k) l = record {
  row = G.check_rows (suc k) l;
  column = G.check_columns (suc k) l;
  after = rises-number c k (G.check_columns (suc k) l) (G.check_rising k l);
}

pub form-passes : (s : List ℕ) → Framed s (header_of s) → Formed (code_of s) → form_verdict s ≡ accepted
unfolding form_verdict
form-passes s F G =
    else-second (header_verdict s) _ (ap (λ (v : Verdict). v.number) (header-passes s F))
    ∙ else-second (entries_verdict (code_of s)) _ (ap (λ (v : Verdict). v.number) (below-entries (code_of s) G.row_entries G.column_entries))
    ∙ right-pairs (code_of s) (formed-pair (code_of s) G)
