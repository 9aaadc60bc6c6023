-- What 64 bits tell as an answer of the reader, and which of them are the answer of a burst.
--
--   Within, told-within   a rectangle no larger than the plan's burst, and on the sheet
--   told-inside, few-told, within-burst   its cells lie in it, and where they are few enough they are a burst
--   no_cells, no-crowd, told-nothing   a rectangle without rows or columns has no cells, so not too many, and their answer is 0
--   no_within, no-outside, no-crowded   whether an answer is that of no burst, by its rectangle first, and then by how many cells it has
--   told_back             the answer of a burst tells that burst's cells
--   burst-told            so it is the answer of a burst
--   Told, told-burst      an answer of a burst: its rectangle lies within, and its cells are few enough and have this answer
--   wide-size, told-size  a rectangle within that has rows and columns is of a burst's size; so is that of any answer of a burst but 0
--
-- Assumes nothing.
use mathlib.Core.Path.{◌≡◌, refl, sym, ap, ap₂, ◌∙◌}
use mathlib.Core.Bool.{Bool, true, false, not, ◌||◌}
use Prim.Native.Nat.{ℕ, ◌+◌, ◌-◌, ◌≤◌, ◌<◌}
use native.Mathlib.Decide.{dec_lt}
use native.Mathlib.Omega.{arith}
use borrow.Author.Tests.{ltb-false, le-ltb, eq-eqb, eqb-true}
use borrow.Author.Tests as tests
use lib.Dec.{eqb, ltb}
use Rattle.finite.specs.Search.{few}
use Rattle.finite.proofs.Truth.{Truth, is_true, is_false, true-or-false, clash, not-true, or-false, or_left}
use Rattle.finite.proofs.Count.{most-few}
use Rattle.answer.specs.Answer.{top_in, left_in, height_in, width_in, pattern_in, packed}
use Rattle.boxcode.specs.Code.{Code, Formed}
use Rattle.boxcode.specs.Syndrome.{Cells}
use Rattle.boxcode.specs.Burst.{Inside, Burst, cell_count}
use Rattle.boxcode.specs.Reader.{Report, report_of}
use Rattle.boxcode.proofs.Burst.{burst-on}
use Rattle.boxcode.proofs.Cells.{cells-equal, cells-none}
use Rattle.boxcode.proofs.Trial.{box-inside}
use Rattle.boxcode.proofs.Report.{burst-report, report-cells, report-pattern}
use Rattle.plan.specs.Verdict.{accepted}
use Rattle.mend.specs.Report.{report_as}
use Rattle.mend.specs.Strip.{BurstSize}
use Rattle.packing.specs.Packed.{report_fields, burst_answer}
use Rattle.packing.proofs.Packed.{answer-carries, answer-none}
use Rattle.putback.specs.PutBack.{cells_told, exceeds, leaves, crowded, no_burst}

pub record Within (c : Code) (a : ℕ) : Type 0 where
  pub height_most : height_in a ≤ c.b1
  pub width_most : width_in a ≤ c.b2
  pub rows_on : top_in a + height_in a ≤ c.n1
  pub columns_on : left_in a + width_in a ≤ c.n2

-- ---- the cells

pub told-inside : (a : ℕ) → Inside (top_in a) (left_in a) (height_in a) (width_in a) (cells_told a)
unfolding cells_told
told-inside a = box-inside (top_in a) (left_in a) (height_in a) (width_in a) (pattern_in a)

-- h places from t on lie in b places from some s on, all below n
corner : (t h b n : ℕ) → h ≤ b → b ≤ n → t + h ≤ n → (s : ℕ) × (s ≤ t) × (s + b ≤ n) × (t + h ≤ s + b)
corner t h b n lh lb on = go (dec_lt n (t + b))
  where
    go : Dec (n < t + b) → (s : ℕ) × (s ≤ t) × (s + b ≤ n) × (t + h ≤ s + b)
    go (yes l) = (n - b, omega arith, omega arith, omega arith)
    go (no l) = (t, omega arith, omega arith, omega arith)

pub few-told : (c : Code) (a : ℕ) → crowded c a ≡ false → few c.t (cell_count c.n1 c.n2 (cells_told a)) ≡ true
unfolding crowded
few-told c a f = tests.not-false _ f

pub within-burst : (c : Code) → Formed c → (a : ℕ) → Within c a → crowded c a ≡ false → Burst c (cells_told a)
within-burst c F a W f =
    let r = corner (top_in a) (height_in a) c.b1 c.n1 W.height_most F.n1_least W.rows_on in
    let k = corner (left_in a) (width_in a) c.b2 c.n2 W.width_most F.n2_least W.columns_on in
    let on = told-inside a in
    record {
      top = r.0;
      left = k.0;
      rows_on = r.2;
      columns_on = k.2;
      inside = record {
        row_from = λ i j t. omega (arith, r.1, on.row_from i j t);
        row_to = λ i j t. omega (arith, r.3, on.row_to i j t);
        column_from = λ i j t. omega (arith, k.1, on.column_from i j t);
        column_to = λ i j t. omega (arith, k.3, on.column_to i j t);
      };
      sparse = few-told c a f;
    }

-- no rows, or no columns
pub no_cells : (a : ℕ) → (eqb (height_in a) 0 || eqb (width_in a) 0) ≡ true → (i j : ℕ) → cells_told a i j ≡ false
no_cells a z i j = not-true (cells_told a i j) (λ t. go (told-inside a) t z)
  where
    go : Inside (top_in a) (left_in a) (height_in a) (width_in a) (cells_told a) → cells_told a i j ≡ true
        → (eqb (height_in a) 0 || eqb (width_in a) 0) ≡ true → ⊥
    go on t z =
        let h : height_in a ≡ 0 → ⊥ = λ e. omega (arith, on.row_from i j t, on.row_to i j t) in
        let w : width_in a ≡ 0 → ⊥ = λ e. omega (arith, on.column_from i j t, on.column_to i j t) in
        clash z (ap₂ ◌||◌ (tests.ne_eqb (height_in a) 0 h) (tests.ne_eqb (width_in a) 0 w))

pub no-crowd : (c : Code) (a : ℕ) → (eqb (height_in a) 0 || eqb (width_in a) 0) ≡ true → crowded c a ≡ false
unfolding crowded
no-crowd c a z = rw (cells-none c.n1 c.n2 (cells_told a) (λ i j li lj. no_cells a z i j), most-few c.t 0 (omega arith))

pub told-nothing : (c : Code) (a : ℕ) → (eqb (height_in a) 0 || eqb (width_in a) 0) ≡ true → burst_answer c (cells_told a) ≡ 0
told-nothing c a z = answer-none c (cells_told a) (λ i j li lj. no_cells a z i j)

-- ---- the answer of no burst

pub told-within : (c : Code) (a : ℕ) → exceeds c a ≡ false → leaves c a ≡ false → Within c a
unfolding exceeds leaves
told-within c a e l =
    let p = or-false (ltb c.b1 (height_in a)) (ltb c.b2 (width_in a)) e in
    let q = or-false (ltb c.n1 (top_in a + height_in a)) (ltb c.n2 (left_in a + width_in a)) l in
    record {
      height_most = ltb-false c.b1 (height_in a) p.0;
      width_most = ltb-false c.b2 (width_in a) p.1;
      rows_on = ltb-false c.n1 (top_in a + height_in a) q.0;
      columns_on = ltb-false c.n2 (left_in a + width_in a) q.1;
    }

pub no-outside : (c : Code) (a : ℕ) → (exceeds c a || leaves c a) ≡ true → true ≡ no_burst c a
unfolding no_burst
no-outside c a = go (exceeds c a) (leaves c a) (crowded c a || not (eqb (burst_answer c (cells_told a)) a))
  where
    go : (s t u : Bool) → (s || t) ≡ true → true ≡ (s || (t || u))
    go true t u e = refl
    go false true u e = refl
    go false false u e = clash e refl

-- the rectangle lies within
module _ (c : Code) (a : ℕ) (e : (exceeds c a || leaves c a) ≡ false) where
  by-cells : (crowded c a || not (eqb (burst_answer c (cells_told a)) a)) ≡ no_burst c a
  unfolding no_burst
  by-cells = let p = or-false (exceeds c a) (leaves c a) e in rw (p.0, p.1)

  pub no-crowded : crowded c a ≡ true → true ≡ no_burst c a
  no-crowded f = sym (or_left (crowded c a) (not (eqb (burst_answer c (cells_told a)) a)) f) ∙ by-cells

  pub no_within : crowded c a ≡ false → not (eqb (burst_answer c (cells_told a)) a) ≡ no_burst c a
  no_within f = ap (λ (b : Bool). b || not (eqb (burst_answer c (cells_told a)) a)) (sym f) ∙ by-cells

-- ---- the answer of a burst

module _ (c : Code) (F : Formed c) (e : Cells) (B : Burst c e) where
  pub told_back : (i j : ℕ) → cells_told (burst_answer c e) i j ≡ e i j
  unfolding cells_told
  told_back i j =
      let K = answer-carries c F e B in
      rw (K.top, K.left, K.height, K.width, K.pattern) (report-pattern c e (burst-on c e B) i j)

  again : burst_answer c (cells_told (burst_answer c e)) ≡ burst_answer c e
  unfolding burst_answer
  again =
      ap (λ (r : Report). packed (report_fields accepted (report_as r))) (report-cells c (cells_told (burst_answer c e)) e (λ i j li lj. told_back i j))

  told-few : crowded c (burst_answer c e) ≡ false
  unfolding crowded
  told-few = rw (cells-equal c.n1 c.n2 (cells_told (burst_answer c e)) e (λ i j li lj. told_back i j), B.sparse)

  pub burst-told : no_burst c (burst_answer c e) ≡ false
  unfolding no_burst exceeds leaves
  burst-told =
      let K = answer-carries c F e B in
      let s = burst-report c F e B in
      rw (
        K.top,
        K.left,
        K.height,
        K.width,
        le-ltb c.b1 (report_of c e).height s.height_most,
        le-ltb c.b2 (report_of c e).width s.width_most,
        le-ltb c.n1 ((report_of c e).top + (report_of c e).height) s.rows_on,
        le-ltb c.n2 ((report_of c e).left + (report_of c e).width) s.columns_on,
        told-few,
        eq-eqb (burst_answer c (cells_told (burst_answer c e))) (burst_answer c e) again,
      )

pub record Told (c : Code) (a : ℕ) : Type 0 where
  pub within : Within c a
  pub sparse : crowded c a ≡ false
  pub same : burst_answer c (cells_told a) ≡ a

pub told-burst : (c : Code) (a : ℕ) → no_burst c a ≡ false → Told c a
unfolding no_burst
told-burst c a n =
    let p = or-false (exceeds c a) (leaves c a || (crowded c a || not (eqb (burst_answer c (cells_told a)) a))) n in
    let q = or-false (leaves c a) (crowded c a || not (eqb (burst_answer c (cells_told a)) a)) p.1 in
    let r = or-false (crowded c a) (not (eqb (burst_answer c (cells_told a)) a)) q.1 in
    record {
      within = told-within c a p.0 q.0;
      sparse = r.0;
      same = eqb-true (burst_answer c (cells_told a)) a (tests.not-false _ r.1);
    }

-- rows and columns
pub wide-size : (c : Code) → Formed c → (a : ℕ) → Within c a → (eqb (height_in a) 0 || eqb (width_in a) 0) ≡ false → BurstSize (height_in a) (width_in a)
wide-size c F a W z =
    let p = or-false (eqb (height_in a) 0) (eqb (width_in a) 0) z in
    let m : height_in a ≡ 0 → ⊥ = tests.eqb-false (height_in a) 0 p.0 in
    let n : width_in a ≡ 0 → ⊥ = tests.eqb-false (width_in a) 0 p.1 in
    record {
      b1_pos = omega arith;
      b1_most = omega (arith, W.height_most, F.b1_most);
      b2_pos = omega arith;
      b2_most = omega (arith, W.width_most, F.b2_most);
    }

pub told-size : (c : Code) → Formed c → (a : ℕ) → Told c a → (a ≡ 0 → ⊥) → BurstSize (height_in a) (width_in a)
told-size c F a T h = go (true-or-false (eqb (height_in a) 0 || eqb (width_in a) 0))
  where
    go : Truth (eqb (height_in a) 0 || eqb (width_in a) 0) → BurstSize (height_in a) (width_in a)
    go (is_true z) = absurd (h (sym T.same ∙ told-nothing c a z))
    go (is_false z) = wide-size c F a T.within z
