-- The 64 bits of which nothing of 02's list for check 22 is true are the answers of bursts.
--
--   told-sound    of the answer of a burst, nothing of the list is true
--   sound-told    and 64 bits of which nothing is true are the answer of the cells that they tell
--
-- Assumes nothing.
use mathlib.Core.Path.{◌≡◌, refl, sym, ap, ap₂, subst, ◌∙◌}
use mathlib.Core.Bool.{true, false, not}
use mathlib.Core.List.{List}
use Prim.Native.Nat.{ℕ, ◌+◌, ◌*◌, ◌/◌, ◌%◌, ◌<◌}
use native.Mathlib.Nat.{div-add-mod'}
use native.Mathlib.Omega.{arith}
use Rattle.finite.specs.Search.{bit, any_below}
use Rattle.finite.proofs.Truth.{Truth, is_true, is_false, true-or-false, clash, not-true}
use Rattle.finite.proofs.Search.{any_found, any_here, any_none}
use Rattle.finite.proofs.Count.{few-most, few-when}
use Rattle.finite.proofs.Digits.{bits-equal}
use Rattle.answer.specs.Answer.{Carries, fields_in, p_in, q_in, cells_in, top_in, left_in, height_in, width_in, pattern_in, packed}
use Rattle.answer.proofs.Fields.{success-silent, packed-back}
use Rattle.boxcode.specs.Code.{Code, Formed}
use Rattle.boxcode.specs.Syndrome.{Cells}
use Rattle.boxcode.specs.Burst.{cell_count}
use Rattle.boxcode.specs.Reader.{Report, row_touched, report_of, LiesIn}
use Rattle.boxcode.proofs.Burst.{OnSheet, burst-on}
use Rattle.boxcode.proofs.Trial.{box-cell}
use Rattle.boxcode.proofs.Report.{report-inside, report-least, report-below, report-bit, box-place}
use Rattle.plan.specs.Verdict.{accepted}
use Rattle.plan.specs.Bytes.{code_of}
use Rattle.mend.specs.Report.{report_as}
use Rattle.packing.specs.Packed.{report_fields, burst_answer}
use Rattle.packing.proofs.Packed.{answer-carries, answer-none}
use Rattle.putback.specs.PutBack.{cells_told, crowded}
use Rattle.putback.proofs.Told.{Within, Told, told-inside, few-told, within-burst}
use Rattle.promise.specs.PutBack.{report_told, Sound}

module _ (plan : List ℕ) (F : Formed (code_of plan)) (a : ℕ) where
  abbrev c : Code
  c = code_of plan

  abbrev e : Cells
  e = cells_told a

  -- ---- of the answer of a burst

  module _ (T : Told c a) where
    carried : Carries a (report_fields accepted (report_as (report_of c e)))
    carried =
        subst (λ (x : ℕ). Carries x (report_fields accepted (report_as (report_of c e)))) T.same
        (answer-carries c F e (within-burst c F a T.within T.sparse))

    told-report : report_told a ≡ report_of c e
    told-report =
        let K = carried in
        λ i. record { cells = K.cells i; top = K.top i; left = K.left i; height = K.height i; width = K.width i; pattern = K.pattern i }

    counted : cells_in a ≡ cell_count c.n1 c.n2 e
    counted = carried.cells ∙ (unfold report_of in refl)

    pub told-sound : Sound plan a
    told-sound =
        let K = carried in
        let on = burst-on c e (within-burst c F a T.within T.sparse) in
        record {
          height_within = T.within.height_most;
          width_within = T.within.width_most;
          rows_on = T.within.rows_on;
          columns_on = T.within.columns_on;
          smallest = λ i j t top left height width h.
              subst (λ (r : Report). LiesIn r top left height width) (sym told-report)
              (report-least c top left height width e h i j (on.rows i j t) (on.columns i j t) t);
          none_beyond = rw (K.pattern, K.height, K.width) (report-below c e);
          count = counted;
          few_cells = λ l. omega (arith, counted, few-most c.t (cell_count c.n1 c.n2 e) l (few-told c a T.sparse));
          none_zero = λ h. sym T.same ∙ answer-none c e (λ i j li lj. h i j);
          success = K.number;
          spare_zero = K.below;
        }

  -- ---- and the other way round

  module _ (S : Sound plan a) where
    within : Within c a
    within = record { height_most = S.height_within; width_most = S.width_within; rows_on = S.rows_on; columns_on = S.columns_on }

    sparse : crowded c a ≡ false
    unfolding crowded
    sparse = ap not (few-when c.t (cell_count c.n1 c.n2 e) (λ l. omega (arith, S.count, S.few_cells l)))

    on : OnSheet c e
    on = burst-on c e (within-burst c F a within sparse)

    -- where the pattern has a cell, the rectangle that is told is that of the report, and so is the pattern
    module _ (i j : ℕ) (t : e i j ≡ true) where
      abbrev r : Report
      r = report_of c e

      mine : LiesIn r (top_in a) (left_in a) (height_in a) (width_in a)
      mine = report-least c (top_in a) (left_in a) (height_in a) (width_in a) e (told-inside a) i j (on.rows i j t) (on.columns i j t) t

      theirs : LiesIn (report_told a) r.top r.left r.height r.width
      theirs = S.smallest i j t r.top r.left r.height r.width (report-inside c e on)

      top-same : top_in a ≡ r.top
      top-same = omega (arith, mine.above, theirs.above)

      left-same : left_in a ≡ r.left
      left-same = omega (arith, mine.before, theirs.before)

      height-same : height_in a ≡ r.height
      height-same = omega (arith, mine.above, theirs.above, mine.under, theirs.under)

      width_same : width_in a ≡ r.width
      width_same = omega (arith, mine.before, theirs.before, mine.past, theirs.past)

      digit-same : (k : ℕ) → k < height_in a * width_in a → bit (pattern_in a) k ≡ bit r.pattern k
      unfolding cells_told
      digit-same k l =
          let p = box-place (height_in a) (width_in a) k l in
          let x = k / width_in a in
          let y = k % width_in a in
          let lx : x < r.height = omega (arith, p.0, height-same) in
          let ly : y < r.width = omega (arith, p.1, width_same) in
          let home : x * width_in a + y ≡ k = div-add-mod' k (width_in a) in
          ap (bit (pattern_in a)) (sym home)
          ∙ sym (box-cell (top_in a) (left_in a) (height_in a) (width_in a) (pattern_in a) x y p.0 p.1)
          ∙ ap₂ (λ (m n : ℕ). cells_told a (m + x) (n + y)) top-same left-same
          ∙ sym (report-bit c e x y lx ly)
          ∙ ap (bit r.pattern) (ap (λ (w : ℕ). x * w + y) (sym width_same) ∙ home)

      pattern-same : pattern_in a ≡ r.pattern
      pattern-same =
          bits-equal (height_in a * width_in a) (pattern_in a) r.pattern S.none_beyond (rw (height-same, width_same) (report-below c e)) digit-same

      fields-same : fields_in a ≡ report_fields accepted (report_as r)
      unfolding p_in q_in
      fields-same = λ n. record {
        number = S.success n;
        p = success-silent a (a / 32 % 65536) S.success n;
        q = success-silent a (a / 2097152 % 4096) S.success n;
        cells = tally n;
        top = top-same n;
        left = left-same n;
        height = height-same n;
        width = width_same n;
        pattern = pattern-same n;
      }
        where
          tally : cells_in a ≡ r.cells
          tally = S.count ∙ (unfold report_of in refl)

      some_same : burst_answer c e ≡ a
      unfolding burst_answer
      some_same = ap packed (sym fields-same) ∙ packed-back a S.success S.spare_zero

    same : burst_answer c e ≡ a
    unfolding row_touched
    same = go (true-or-false (any_below c.n1 (row_touched c e)))
      where
        go : Truth (any_below c.n1 (row_touched c e)) → burst_answer c e ≡ a
        go (is_true t) =
            let w = any_found c.n1 (row_touched c e) t in
            let v = any_found c.n2 (e w.0) w.2 in
            some_same w.0 v.0 v.2
        go (is_false t) =
            let none : (i j : ℕ) → e i j ≡ false =
            (λ i j. not-true (e i j) (λ u.
            clash (any_here c.n2 (e i) j (on.columns i j u) u) (any_none c.n1 (row_touched c e) t i (on.rows i j u)))) in
            answer-none c e (λ i j li lj. none i j) ∙ sym (S.none_zero none)

    pub sound-told : Told c a
    sound-told = record { within = within; sparse = sparse; same = same }
