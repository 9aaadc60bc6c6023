-- Where a data bit stands:
--
--   count_most         the data cells are few
--   follows-here, follows-past  so n + q is the data cell that has n before it, where no further check cell stands at it or before
--   data-all           the data cells of the sheet
--   row-bits, bits-row   the cells of a row are those that have as many data cells before them as the row has bits
--   row-rank           the data bit of a cell of the row
--   bit-inside, bit-twice   turned or not, a bit of the row stays one, and turned twice it is itself
--   row_on, bit-room, bit_below, bit-rank   the data bit of a cell, from its row and the row's ends
--   holds_at           so the cell of a data bit is found
--
-- Assumes nothing.
use mathlib.Core.Path.{◌≡◌, refl, sym, ap, ◌∙◌}
use mathlib.Core.Bool.{Bool, true, false, cond, not}
use Prim.Native.Nat.{ℕ, ◌+◌, ◌-◌, ◌*◌, ◌/◌, ◌%◌, ◌≤◌, ◌<◌}
use native.Mathlib.Nat.{mul-le-mul_right, div-add-mod'}
use native.Mathlib.Decide.{dec_lt}
use native.Mathlib.Omega.{arith}
use lib.Arith.{digits_div}
use Rattle.finite.proofs.Count.{count-split, count-rise}
use Rattle.boxcode.specs.Code.{Code, Formed}
use Rattle.boxcode.specs.Check.{check_at, runs_down, data_order, data_size, rank, data_cell}
use Rattle.boxcode.proofs.Check.{sheet-cells, row_inside, column-inside, check-listed, rank-data}
use Rattle.position.specs.Walk.{checks_before, data_before, next_check, row_ends, data_bit}
use Rattle.position.specs.Placed.{Follows, Holds}
use Rattle.position.proofs.Size.{rows_next}
use Rattle.position.proofs.Before.{UpTo, both-before, passed-only, next_past, next-free, up-to-last}
use Rattle.position.proofs.Order.{rank_up, rank_down}

module _ (c : Code) (F : Formed c) where
  module _ (n : ℕ) (l : n < data_size c) where
    pub count_most : n ≤ 357376
    unfolding data_size
    count_most = omega (arith, sheet-cells F.n1_most F.n2_most)

    pub follows-here : (q next : ℕ) → UpTo c (n + q) q → next ≡ next_check c q → n + q < next → Follows c n (n + q)
    unfolding data_size
    follows-here q next U e m =
        let p : q ≡ checks_before c (n + q) = up-to-last c F (n + q) q next U e (omega arith) in
        record {
          on = omega (arith, U.most);
          free = next-free c F (n + q) q p (n + q) (omega arith) (omega arith);
          before = omega (arith, both-before c (n + q));
        }

    pub follows-past : (q : ℕ) → UpTo c (n + q) q → c.rv + c.rh ≤ q → Follows c n (n + q)
    unfolding data_size
    follows-past q U h = follows-here q (c.n1 * c.n2) U (sym (next_past c q h)) (omega (arith, U.most))

  -- ---- the data cells before a row

  data-mono : (s t : ℕ) → s ≤ t → data_before c s ≤ data_before c t
  unfolding data_before
  data-mono s t l =
      let e : t ≡ s + (t - s) = omega arith in
      rw (e, count-split s (t - s) (λ u. not (check_at c u))) (omega arith)

  data-rise : (s t : ℕ) → check_at c s ≡ false → s < t → data_before c s < data_before c t
  unfolding data_before
  data-rise s t f l = count-rise s t (λ u. not (check_at c u)) (ap not f) l

  pub data-all : data_before c (c.n1 * c.n2) ≡ data_size c
  unfolding data_size
  data-all =
      let p : c.rv + c.rh ≡ checks_before c (c.n1 * c.n2) =
      passed-only c F (c.n1 * c.n2) (c.rv + c.rh) (omega arith) (check-listed c F).below (λ h. absurd (omega arith)) in
      omega (arith, both-before c (c.n1 * c.n2))

  -- ---- a row

  module _ (i : ℕ) where
    -- the data cells before row i, and before the next
    abbrev from : ℕ
    from = data_before c (i * c.n2)

    abbrev to : ℕ
    to = data_before c ((i + 1) * c.n2)

    row-bits : (t : ℕ) → check_at c t ≡ false → i * c.n2 ≤ t → t < (i + 1) * c.n2 → (from ≤ data_before c t) × (data_before c t < to)
    row-bits t f l u = (data-mono (i * c.n2) t l, data-rise t ((i + 1) * c.n2) f u)

    bits-row : (t : ℕ) → check_at c t ≡ false → from ≤ data_before c t → data_before c t < to → (i * c.n2 ≤ t) × (t < (i + 1) * c.n2)
    bits-row t f l u = (low (dec_lt t (i * c.n2)), high (dec_lt t ((i + 1) * c.n2)))
      where
        low : Dec (t < i * c.n2) → i * c.n2 ≤ t
        low (yes h) = let r : data_before c t < from = data-rise t (i * c.n2) f h in absurd (omega arith)
        low (no h) = omega arith

        high : Dec (t < (i + 1) * c.n2) → t < (i + 1) * c.n2
        high (yes h) = h
        high (no h) = let r : to ≤ data_before c t = data-mono ((i + 1) * c.n2) t (omega arith) in absurd (omega arith)

    -- the data bit of a cell of the row, by the data cells before it
    row-rank : (t : ℕ) → check_at c t ≡ false → i * c.n2 ≤ t → t < (i + 1) * c.n2 → data_bit i (data_before c t) (row_ends c i) ≡ rank c (data_order c t)
    unfolding data_bit
    row-rank t f l u = go (runs_down i) refl
      where
        same : i * c.n2 + (t - i * c.n2) ≡ t
        same = omega arith

        inside : t - i * c.n2 < c.n2
        inside = let n = rows_next i c.n2 in omega arith

        go : (b : Bool) → runs_down i ≡ b → cond b (row_ends c i - (data_before c t + 1)) (data_before c t) ≡ rank c (data_order c t)
        go true o =
            let e : data_before c t + 1 + rank c (data_order c t) ≡ row_ends c i =
            rw same at (rank_down c i (t - i * c.n2) inside o (ap (check_at c) same ∙ f)) in
            omega arith
        go false o = sym (rw same at (rank_up c i (t - i * c.n2) inside o))

    -- turned or not, a bit of the row stays one, and turned twice it is itself
    bit-inside : (d : ℕ) → from ≤ d → d < to → (from ≤ data_bit i d (row_ends c i)) × (data_bit i d (row_ends c i) < to)
    unfolding data_bit row_ends
    bit-inside d l u = go (runs_down i)
      where
        go : (b : Bool) → (from ≤ cond b (from + to - (d + 1)) d) × (cond b (from + to - (d + 1)) d < to)
        go true = (omega arith, omega arith)
        go false = (l, u)

    bit-twice : (d : ℕ) → d < row_ends c i → data_bit i (data_bit i d (row_ends c i)) (row_ends c i) ≡ d
    unfolding data_bit
    bit-twice d l = go (runs_down i)
      where
        go : (b : Bool) → cond b (row_ends c i - (cond b (row_ends c i - (d + 1)) d + 1)) (cond b (row_ends c i - (d + 1)) d) ≡ d
        go true = omega arith
        go false = refl

  -- ---- a data bit, from the data cell that has as many data cells before it

  module _ (d t : ℕ) (S : Follows c d t) where
    pub row_on : t / c.n2 < c.n1
    row_on = row_inside c t S.on

    row_from : (t / c.n2) * c.n2 ≤ t
    row_from = omega (arith, div-add-mod' t c.n2)

    row-to : t < (t / c.n2 + 1) * c.n2
    row-to = let n = rows_next (t / c.n2) c.n2 in omega (arith, div-add-mod' t c.n2, column-inside c t S.on)

    bits : (data_before c ((t / c.n2) * c.n2) ≤ d) × (d < data_before c ((t / c.n2 + 1) * c.n2))
    bits = rw S.before at (row-bits (t / c.n2) t S.free row_from row-to)

    pub bit-room : d < row_ends c (t / c.n2)
    unfolding row_ends
    bit-room = let b = bits in omega arith

    pub bit_below : data_bit (t / c.n2) d (row_ends c (t / c.n2)) < data_size c
    bit_below =
        let b = bit-inside (t / c.n2) d bits.0 bits.1 in
        let m : (t / c.n2 + 1) * c.n2 ≤ c.n1 * c.n2 = mul-le-mul_right c.n2 (let r = row_on in omega arith) in
        let u : data_before c ((t / c.n2 + 1) * c.n2) ≤ data_before c (c.n1 * c.n2) = data-mono ((t / c.n2 + 1) * c.n2) (c.n1 * c.n2) m in
        let e = data-all in
        omega arith

    pub bit-rank : data_bit (t / c.n2) d (row_ends c (t / c.n2)) ≡ rank c (data_order c t)
    bit-rank =
        ap (λ (x : ℕ). data_bit (t / c.n2) x (row_ends c (t / c.n2))) (sym S.before) ∙ row-rank (t / c.n2) t S.free row_from row-to

    -- the cell t' that has as many data cells before it as the row's bits tell
    module _ (t' : ℕ) (S' : Follows c (data_bit (t / c.n2) d (row_ends c (t / c.n2))) t') where
      in_row : ((t / c.n2) * c.n2 ≤ t') × (t' < (t / c.n2 + 1) * c.n2)
      in_row =
          let e = S'.before in
          let b = bit-inside (t / c.n2) d bits.0 bits.1 in
          bits-row (t / c.n2) t' S'.free (omega arith) (omega arith)

      holds-bit : t' ≡ data_cell c d
      holds-bit =
          sym (rank-data c F t' S'.on S'.free)
          ∙ ap (data_cell c)
          (sym (row-rank (t / c.n2) t' S'.free in_row.0 in_row.1)
          ∙ ap (λ (x : ℕ). data_bit (t / c.n2) x (row_ends c (t / c.n2))) S'.before
          ∙ bit-twice (t / c.n2) d bit-room)

      same_row : t / c.n2 ≡ t' / c.n2
      same_row =
          let w = in_row in
          let n = rows_next (t / c.n2) c.n2 in
          let e : (t / c.n2) * c.n2 + (t' - (t / c.n2) * c.n2) ≡ t' = omega arith in
          sym (digits_div (t / c.n2) (omega arith)) ∙ ap (λ (x : ℕ). x / c.n2) e

      pub holds_at : Holds c d (record { row = t / c.n2; column = t' % c.n2 })
      holds_at = record { row = same_row ∙ ap (λ (x : ℕ). x / c.n2) holds-bit; column = ap (λ (x : ℕ). x % c.n2) holds-bit }
