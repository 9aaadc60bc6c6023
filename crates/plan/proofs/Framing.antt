-- From the checks of the header to the bounds that every later step uses.
--
--   sizes-small, small-sizes   checks 2 to 4 and 23 pass exactly where the header's numbers are in range
--   position-fits   a cell's entry lies in its table
--   table-room      either table has room in 2,792 words
--   fields-framed, framed   where checks 2 to 5 and 23 pass of its header, or 1 to 5 and 23 of it, the plan is framed
--   framed-code     its code, by the header under a name of its own
--   same-header, same-code   header and code of a view over the plan
--
-- Assumes nothing.
use mathlib.Core.Path.{◌≡◌, refl, ◌∙◌, ap}
use mathlib.Core.Bool.{Bool, false, not, ◌||◌}
use mathlib.Core.List.{List}
use Prim.Native.Nat.{ℕ, ◌+◌, ◌*◌, ◌%◌, ◌≤◌, ◌<◌}
use native.Mathlib.Nat.{mul-le-mul, mod-lt}
use native.Mathlib.Omega.{arith}
use borrow.Author.Tests.{ltb-false, eqb-false, eqb-true, not-false, le-ltb, ne_eqb}
use lib.Arith.{digits_lt}
use lib.Dec.{eqb, ltb}
use lib.ListN.{length}
use Rattle.finite.proofs.Truth.{or-false}
use Rattle.plan.specs.declared.header.Header.{Header}
use Rattle.plan.specs.declared.table.Table.{Table}
use Rattle.plan.specs.declared.table.Table.TheVariants.{Rows, Columns}
use Rattle.plan.specs.Table.{entries_of}
use Rattle.plan.specs.Verdict.{accepted, verdict_if, refusal}
use Rattle.plan.specs.Header.{header_length, header_of, Small, Framed, columns_start, checks_start, plan_length}
use Rattle.plan.specs.Bytes.{code_with, code_of}
use Rattle.plan.specs.Form.{bad_burst, bad_sheet, bad_widths, bad_cells, bad_offsets, sizes_verdict, offsets_verdict, fields_verdict, header_verdict}
use Rattle.plan.proofs.Sequence.{else-zero, if-zero, else-if}

-- four tests that all fail
four : (a b c d : Bool) → (a || b || c || d) ≡ false → (a ≡ false) × (b ≡ false) × (c ≡ false) × (d ≡ false)
four a b c d e =
    let x = or-false (a || b || c) d e in
    let y = or-false (a || b) c x.0 in
    let z = or-false a b y.0 in
    (z.0, z.1, y.1, x.1)

small : (h : Header) → bad_burst h ≡ false → bad_sheet h ≡ false → bad_widths h ≡ false → bad_cells h ≡ false → Small h
unfolding bad_burst bad_sheet bad_widths bad_cells
small h p q r s =
    let burst = four (eqb h.b1 0) (ltb 4 h.b1) (eqb h.b2 0) (ltb 4 h.b2) p in
    let sheet = four (ltb h.n1 h.b1) (ltb 512 h.n1) (ltb h.n2 h.b2) (ltb 698 h.n2) q in
    let widths = four (eqb h.rv 0) (ltb 32 h.rv) (eqb h.rh 0) (ltb 32 h.rh) r in
    let n1_most : h.n1 ≤ 512 = ltb-false 512 h.n1 sheet.1 in
    let n2_most : h.n2 ≤ 698 = ltb-false 698 h.n2 sheet.3 in
    let b1_most : h.b1 ≤ 4 = ltb-false 4 h.b1 burst.1 in
    let b2_most : h.b2 ≤ 4 = ltb-false 4 h.b2 burst.3 in
    let b1-some = eqb-false h.b1 0 burst.0 in
    let b2-some = eqb-false h.b2 0 burst.2 in
    let rv-some = eqb-false h.rv 0 widths.0 in
    let rh-some = eqb-false h.rh 0 widths.2 in
    record {
      b1_pos = omega arith;
      b1_most = b1_most;
      b2_pos = omega arith;
      b2_most = b2_most;
      n1_least = ltb-false h.n1 h.b1 sheet.0;
      n1_most = n1_most;
      n2_least = ltb-false h.n2 h.b2 sheet.2;
      n2_most = n2_most;
      rv_pos = omega arith;
      rv_most = ltb-false 32 h.rv widths.1;
      rh_pos = omega arith;
      rh_most = ltb-false 32 h.rh widths.3;
      t_most = ltb-false 2 h.t s;
      row_positions = mul-le-mul n1_most b2_most;
      column_positions = mul-le-mul n2_most b1_most;
      box_positions = mul-le-mul b1_most b2_most;
    }

pub sizes-small : (h : Header) → (sizes_verdict h).number ≡ 0 → Small h
unfolding sizes_verdict
sizes-small h e =
    let burst = else-zero (verdict_if (bad_burst h) (refusal 2 0 0)) _ e in
    let sheet = else-zero (verdict_if (bad_sheet h) (refusal 3 0 0)) _ burst.1 in
    let widths = else-zero (verdict_if (bad_widths h) (refusal 4 0 0)) (verdict_if (bad_cells h) (refusal 23 0 0)) sheet.1 in
    small h (if-zero (bad_burst h) 1 0 0 burst.0) (if-zero (bad_sheet h) 2 0 0 sheet.0) (if-zero (bad_widths h) 3 0 0 widths.0)
    (if-zero (bad_cells h) 22 0 0 widths.1)

-- four tests that all fail
four-false : (a b c d : Bool) → a ≡ false → b ≡ false → c ≡ false → d ≡ false → (a || b || c || d) ≡ false
four-false a b c d p q r s = rw (p, q, r, s)

pub small-sizes : (h : Header) → Small h → sizes_verdict h ≡ accepted
unfolding sizes_verdict bad_burst bad_sheet bad_widths bad_cells
small-sizes h p =
    else-if (bad_burst h) _ _
    (four-false _ _ _ _ (ne_eqb h.b1 0 (λ e. omega (arith, p.b1_pos))) (le-ltb 4 h.b1 p.b1_most) (ne_eqb h.b2 0 (λ e. omega (arith, p.b2_pos)))
    (le-ltb 4 h.b2 p.b2_most))
    ∙ else-if (bad_sheet h) _ _
    (four-false _ _ _ _ (le-ltb h.n1 h.b1 p.n1_least) (le-ltb 512 h.n1 p.n1_most) (le-ltb h.n2 h.b2 p.n2_least)
    (le-ltb 698 h.n2 p.n2_most))
    ∙ else-if (bad_widths h) _ _
    (four-false _ _ _ _ (ne_eqb h.rv 0 (λ e. omega (arith, p.rv_pos))) (le-ltb 32 h.rv p.rv_most) (ne_eqb h.rh 0 (λ e. omega (arith, p.rh_pos)))
    (le-ltb 32 h.rh p.rh_most))
    ∙ ap (λ (t : Bool). verdict_if t (refusal 23 0 0)) (le-ltb 2 h.t p.t_most)

-- a negated equality test that fails
same : (a b : ℕ) → not (eqb a b) ≡ false → a ≡ b
same a b e = eqb-true a b (not-false (eqb a b) e)

pub fields-framed : (s : List ℕ) → (fields_verdict (length s) (header_of s)).number ≡ 0 → Framed s (header_of s)
unfolding fields_verdict offsets_verdict bad_offsets
fields-framed s e =
    let h = header_of s in
    let sizes = else-zero (sizes_verdict h) (offsets_verdict (length s) h) e in
    let offsets = or-false _ (not (eqb (length s) (plan_length h))) (if-zero (bad_offsets (length s) h) 4 0 0 sizes.1) in
    let three = four (not (eqb h.rows header_length)) (not (eqb h.columns (columns_start h))) (not (eqb h.checks (checks_start h)))
    (not (eqb h.total (plan_length h))) offsets.0 in
    record {
      is = refl;
      small = sizes-small h sizes.0;
      rows_at = same h.rows header_length three.0;
      columns_from = same h.columns (columns_start h) three.1;
      checks_at = same h.checks (checks_start h) three.2;
      total_at = same h.total (plan_length h) three.3;
      long = same (length s) (plan_length h) offsets.1;
    }

pub framed : (s : List ℕ) → (header_verdict s).number ≡ 0 → Framed s (header_of s)
unfolding header_verdict
framed s e = fields-framed s (else-zero (verdict_if (ltb (length s) header_length) (refusal 1 0 0)) _ e).1

-- the position of a cell's entry lies in its table
pub position-fits : (i j b n : ℕ) → i < n → 1 ≤ b → i * b + j % b < n * b
position-fits i j b n l p = digits_lt l (mod-lt j p)

-- either table has room in 2,792 words
pub table-room : (h : Header) (t : Table) → Small h → entries_of h t ≤ 2792
table-room h Rows p = omega (arith, p.row_positions)
table-room h Columns p = p.column_positions

pub framed-code : (s : List ℕ) (h : Header) → Framed s h → code_with s h ≡ code_of s
unfolding code_of
framed-code s h F = ap (code_with s) F.is

pub same-code : {s s' : List ℕ} {h : Header} → Framed s' h → s' ≡ s → code_with s' h ≡ code_of s
same-code {s} {s'} {h} F e = framed-code s' h F ∙ ap code_of e

pub same-header : {s s' : List ℕ} {h : Header} → Framed s' h → s' ≡ s → h ≡ header_of s
same-header F e = F.is ∙ ap header_of e
