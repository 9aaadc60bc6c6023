-- The answer of the test of a plan is small: its number and places fit the fields of the packed answer.
--
--   SmallVerdict v    number below 32, p below 65,536, q below 4,096; and places 0, 0 where the number is 0
--   else-fits, if-fits, at-fits, pair_fits   of the parts an answer is made of
--   plan-fits         of the test of a plan
--
-- Assumes nothing.
use mathlib.Core.Path.{◌≡◌, refl}
use mathlib.Core.Bool.{Bool, true, false, cond}
use mathlib.Core.List.{List}
use Prim.Native.Nat.{ℕ, zero, suc, ◌+◌, ◌-◌, ◌*◌, ◌≤◌, ◌<◌}
use native.Mathlib.Omega.{arith}
use borrow.Author.Tests.{eqb-true, ltb-true}
use lib.Dec.{eqb, ltb}
use lib.ListN.{length}
use Rattle.finite.specs.Search.{least}
use Rattle.gf2.specs.Independence.{spanned}
use Rattle.boxcode.specs.Code.{Code, Formed, check_joint}
use Rattle.boxcode.specs.Condition.{everyone, row_pair_free, column_pair_free}
use Rattle.plan.specs.declared.verdict.Verdict.{Verdict}
use Rattle.plan.specs.declared.header.Header.{Header}
use Rattle.plan.specs.Verdict.{accepted, refusal, verdict_if, ◌or_else◌}
use Rattle.plan.specs.Header.{header_length, header_of}
use Rattle.plan.specs.Bytes.{code_of}
use Rattle.plan.specs.Form.{bad_burst, bad_sheet, bad_widths, bad_cells, bad_offsets, sizes_verdict, offsets_verdict, fields_verdict, header_verdict}
use Rattle.plan.specs.Form.{verdict_at, first_large, entries_verdict, bad_pair, list_verdict, form_verdict}
use Rattle.plan.proofs.Framing.{framed}
use Rattle.plan.proofs.Forming.{formed}
use Rattle.std.proofs.Common.{Option, Some, None}
use Rattle.accept.specs.Pairs.{in_row, from_row, first_failing, pair_verdict}
use Rattle.accept.specs.Verdict.{rows_verdict, columns_verdict, checks_verdict, conditions_verdict, plan_verdict}

pub record SmallVerdict (v : Verdict) : Type 0 where
  pub number_fits : v.number < 32
  pub p_fits : v.p < 65536
  pub q_fits : v.q < 4096
  -- the sentence of document 01: "A call that succeeds has number 0 and places 0, 0"
  pub silent : v.number ≡ 0 → (v.p ≡ 0) × (v.q ≡ 0)

-- a number that is not 0 is that of a refusal, which may have places
refuses : {v : Verdict} → 0 < v.number → v.number ≡ 0 → (v.p ≡ 0) × (v.q ≡ 0)
refuses l e = absurd (omega arith)

pub accepted-fits : SmallVerdict accepted
accepted-fits = record { number_fits = omega arith; p_fits = omega arith; q_fits = omega arith; silent = λ _. (refl, refl) }

pub else-fits : (v w : Verdict) → SmallVerdict v → (v.number ≡ 0 → SmallVerdict w) → SmallVerdict (v or_else w)
unfolding ◌or_else◌
else-fits v w f g = go (eqb v.number 0) refl
  where
    go : (t : Bool) → eqb v.number 0 ≡ t → SmallVerdict (cond t w v)
    go true e = g (eqb-true v.number 0 e)
    go false e = f

pub if-fits : (t : Bool) (v : Verdict) → (t ≡ true → SmallVerdict v) → SmallVerdict (verdict_if t v)
if-fits true v f = f refl
if-fits false v f = accepted-fits

-- a refusal at the place that a search over n places found
pub at-fits : (n k : ℕ) (v : Verdict) → (k < n → SmallVerdict v) → SmallVerdict (verdict_at n k v)
at-fits n k v f = if-fits (ltb k n) v (λ e. f (ltb-true k n e))

-- a failing pair lies below the number of starts
PairBelow : ℕ → Option (ℕ × ℕ) → Type 0
PairBelow n (Some (i, j)) = (i < n) × (j < n)
PairBelow n None = Unit {0}

row_below : (ok : ℕ → ℕ → Bool) (n i m j : ℕ) (rest : Option (ℕ × ℕ)) → i < n → j + m ≤ n → PairBelow n rest → PairBelow n (in_row ok i j m rest)
unfolding in_row PairBelow
row_below ok n i zero j rest l u b = b
row_below ok n i (suc m) j rest l u b = go (ok i j) (row_below ok n i m (suc j) rest l (omega arith) b)
  where
    go : (t : Bool) → PairBelow n (in_row ok i (suc j) m rest) → PairBelow n (cond t (in_row ok i (suc j) m rest) (Some (i, j)))
    go true ih = ih
    go false ih = (l, omega arith)

rows-below : (ok : ℕ → ℕ → Bool) (start : ℕ → ℕ) (n m i : ℕ) → ((k : ℕ) → k < n → start k ≤ n) → i + m ≤ n → PairBelow n (from_row ok start n i m)
unfolding from_row PairBelow
rows-below ok start n zero i s u = tt
rows-below ok start n (suc m) i s u =
    let l = s i (omega arith) in
    row_below ok n i (n - start i) (start i) (from_row ok start n (suc i) m) (omega arith) (omega arith) (rows-below ok start n m (suc i) s (omega arith))

pub pair_fits : (number n : ℕ) (ok : ℕ → ℕ → Bool) (start : ℕ → ℕ) → 0 < number → number < 32 → n ≤ 4096 → ((k : ℕ) → k < n → start k ≤ n)
    → SmallVerdict (pair_verdict number (first_failing ok start n))
unfolding first_failing PairBelow
pair_fits number n ok start some l u s = go (from_row ok start n 0 n) (rows-below ok start n n 0 s (omega arith))
  where
    go : (p : Option (ℕ × ℕ)) → PairBelow n p → SmallVerdict (pair_verdict number p)
    go (Some (i, j)) b = record { number_fits = l; p_fits = omega (arith, b.0); q_fits = omega (arith, b.1); silent = refuses some }
    go None b = accepted-fits

pub refusal-fits : (n : ℕ) → n < 32 → SmallVerdict (refusal n 0 0)
refusal-fits n l = record { number_fits = l; p_fits = omega arith; q_fits = omega arith; silent = λ _. (refl, refl) }

pub sizes-fits : (h : Header) → SmallVerdict (sizes_verdict h)
unfolding sizes_verdict
sizes-fits h =
    else-fits (verdict_if (bad_burst h) (refusal 2 0 0)) (third or_else fourth or_else fifth)
    (if-fits (bad_burst h) (refusal 2 0 0) (λ _. refusal-fits 2 (omega arith)))
    (λ _. else-fits third (fourth or_else fifth) (if-fits (bad_sheet h) (refusal 3 0 0) (λ _. refusal-fits 3 (omega arith)))
    (λ _. else-fits fourth fifth (if-fits (bad_widths h) (refusal 4 0 0) (λ _. refusal-fits 4 (omega arith)))
    (λ _. if-fits (bad_cells h) (refusal 23 0 0) (λ _. refusal-fits 23 (omega arith)))))
  where
    third : Verdict
    third = verdict_if (bad_sheet h) (refusal 3 0 0)

    fourth : Verdict
    fourth = verdict_if (bad_widths h) (refusal 4 0 0)

    fifth : Verdict
    fifth = verdict_if (bad_cells h) (refusal 23 0 0)

pub fields-fits : (size : ℕ) (h : Header) → SmallVerdict (fields_verdict size h)
unfolding fields_verdict offsets_verdict
fields-fits size h =
    else-fits (sizes_verdict h) (offsets_verdict size h) (sizes-fits h)
    (λ _. if-fits (bad_offsets size h) (refusal 5 0 0) (λ _. refusal-fits 5 (omega arith)))

header-fits : (s : List ℕ) → SmallVerdict (header_verdict s)
unfolding header_verdict
header-fits s =
    else-fits (verdict_if (ltb (length s) header_length) (refusal 1 0 0)) (fields_verdict (length s) (header_of s))
    (if-fits (ltb (length s) header_length) (refusal 1 0 0) (λ _. refusal-fits 1 (omega arith))) (λ _. fields-fits (length s) (header_of s))

-- a refusal at an index of a table, or of the check list
index-fits : (n k m p : ℕ) → n ≤ 2792 → 0 < m → m < 32 → p ≤ 1 → SmallVerdict (verdict_at n k (refusal m p k))
index-fits n k m p u some l o =
    at-fits n k (refusal m p k) (λ lk. record { number_fits = l; p_fits = omega arith; q_fits = omega arith; silent = refuses some })

place-fits : (n k m : ℕ) → n ≤ 64 → 0 < m → m < 32 → SmallVerdict (verdict_at n k (refusal m k 0))
place-fits n k m u some l =
    at-fits n k (refusal m k 0) (λ lk. record { number_fits = l; p_fits = omega arith; q_fits = omega arith; silent = refuses some })

entries-fits : (c : Code) → c.n1 * c.b2 ≤ 2048 → c.n2 * c.b1 ≤ 2792 → SmallVerdict (entries_verdict c)
unfolding entries_verdict
entries-fits c u w =
    else-fits (verdict_at (c.n1 * c.b2) v (refusal 6 0 v)) (verdict_at (c.n2 * c.b1) h (refusal 6 1 h))
    (index-fits (c.n1 * c.b2) v 6 0 (omega arith) (omega arith) (omega arith) (omega arith))
    (λ _. index-fits (c.n2 * c.b1) h 6 1 w (omega arith) (omega arith) (omega arith))
  where
    v : ℕ
    v = first_large (c.n1 * c.b2) c.rv c.row_entry

    h : ℕ
    h = first_large (c.n2 * c.b1) c.rh c.column_entry

list-fits : (c : Code) → c.rv + c.rh ≤ 64 → SmallVerdict (list_verdict c)
unfolding list_verdict
list-fits c u = place-fits (c.rv + c.rh) (least (c.rv + c.rh) (bad_pair c)) 7 u (omega arith) (omega arith)

form-fits : (s : List ℕ) → SmallVerdict (form_verdict s)
unfolding form_verdict code_of
form-fits s =
    else-fits (header_verdict s) (entries_verdict (code_of s) or_else list_verdict (code_of s)) (header-fits s)
    (λ e. let p = (framed s e).small in
    else-fits (entries_verdict (code_of s)) (list_verdict (code_of s)) (entries-fits (code_of s) p.row_positions p.column_positions)
    (λ _. list-fits (code_of s) (omega (arith, p.rv_most, p.rh_most))))

conditions-fits : (c : Code) → Formed c → SmallVerdict (conditions_verdict c)
unfolding conditions_verdict rows_verdict columns_verdict checks_verdict
conditions-fits c F =
    else-fits (rows_verdict c) (columns_verdict c or_else checks_verdict c)
    (pair_fits 8 (c.n1 - c.b1 + 1) (row_pair_free c) (λ i. i) (omega arith) (omega arith) (omega (arith, F.n1_most)) (λ k l. omega arith))
    (λ _. else-fits (columns_verdict c) (checks_verdict c)
    (pair_fits 9 (c.n2 - c.b2 + 1) (column_pair_free c) (λ i. i + 1) (omega arith) (omega arith) (omega (arith, F.n2_most)) (λ k l. omega arith))
    (λ _. place-fits (c.rv + c.rh) (least (c.rv + c.rh) (λ k. spanned k everyone (check_joint c) (check_joint c k))) 10
    (omega (arith, F.rv_most, F.rh_most)) (omega arith) (omega arith)))

pub plan-fits : (s : List ℕ) → SmallVerdict (plan_verdict s)
unfolding plan_verdict
plan-fits s = else-fits (form_verdict s) (conditions_verdict (code_of s)) (form-fits s) (λ e. conditions-fits (code_of s) (formed s e).1)
