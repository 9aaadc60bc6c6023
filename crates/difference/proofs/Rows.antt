-- Rows and bytes: the row of the first byte that differs is the first row in which a cell differs.
--
--   row_same        where no cell of a row differs, no byte of it does
--   bytes_same      and the other way round
--   row-found       byte k is the first that differs: its row is the first in which a cell differs
--   row-none        no byte differs: no cell does
--
-- Assumes nothing.
use mathlib.Core.Path.{◌≡◌, sym, ap, ◌∙◌}
use mathlib.Core.Bool.{true, false, xor}
use mathlib.Core.List.{List}
use Prim.Native.Nat.{ℕ, ◌+◌, ◌*◌, ◌/◌, ◌%◌, ◌<◌}
use native.Mathlib.Nat.{div-lt_iff_lt-mul, div-add-mod'}
use native.Mathlib.Omega.{arith}
use lib.ListN.{get_or}
use Rattle.finite.specs.Search.{bit}
use Rattle.finite.proofs.Digits.{bits-equal}
use Rattle.finite.proofs.Search.{least-is, least-none, any_none, none_any}
use Rattle.finite.proofs.Truth.{xor-equal, xor_self, Truth, is_true, is_false, true-or-false}
use Rattle.layout.specs.Cells.{row_bytes, sheet_bytes, byte_of, cell_of, used_bits, RightForm}
use Rattle.layout.specs.Differ.{first_different}
use Rattle.layout.proofs.Form.{byte_inside, byte-row, row-some, cell_row, cell-column, cell-byte}
use Rattle.layout.proofs.Agreement.{different-found, different-before}
use Rattle.boxcode.specs.Code.{Code}
use Rattle.difference.specs.Difference.{row_differs, differing_row}

module _ (c : Code) (s t : List ℕ) (fs : RightForm c.n1 c.n2 s) (ft : RightForm c.n1 c.n2 t) where
  abbrev w : ℕ
  w = row_bytes c.n2

  abbrev size : ℕ
  size = sheet_bytes c.n1 c.n2

  pub row_same : (k : ℕ) → k < size → row_differs c s t (k / w) ≡ false → get_or s k 0 ≡ get_or t k 0
  unfolding row_differs
  row_same k l e =
      bits-equal (used_bits c.n2 k) (get_or s k 0) (get_or t k 0) (fs.used k l) (ft.used k l)
      (λ d ld.
      sym (cell-byte c.n1 c.n2 k l s d ld)
      ∙ xor-equal _ _ (any_none c.n2 _ e (8 * (k % w) + d) (cell-column c.n1 c.n2 k l d ld))
      ∙ cell-byte c.n1 c.n2 k l t d ld)

  pub bytes_same : (i : ℕ) → ((k : ℕ) → k / w ≡ i → k < size → get_or s k 0 ≡ get_or t k 0) → i < c.n1 → row_differs c s t i ≡ false
  unfolding row_differs cell_of
  bytes_same i h li =
      none_any c.n2 _
      (λ j lj.
      let k = byte_of c.n2 i j in
      let e : get_or s k 0 ≡ get_or t k 0 = h k (byte-row c.n2 j lj i) (byte_inside c.n2 j lj c.n1 i li) in
      ap (λ (x : ℕ). xor (bit x (j % 8)) (bit (get_or t k 0) (j % 8))) e ∙ xor_self (bit (get_or t k 0) (j % 8)))

  pub row-found : first_different s t < size → differing_row c s t ≡ first_different s t / w
  unfolding differing_row
  row-found l =
      let k = first_different s t in
      least-is c.n1 (row_differs c s t) (k / w) (cell_row c.n1 c.n2 k l)
      (here (true-or-false (row_differs c s t (k / w))))
      (λ i li. bytes_same i (λ b eb lb. different-before s t b (before b (omega arith))) (let m = cell_row c.n1 c.n2 k l in omega arith))
    where
      here : Truth (row_differs c s t (first_different s t / w)) → row_differs c s t (first_different s t / w) ≡ true
      here (is_true e) = e
      here (is_false e) = absurd (different-found s t (let z = fs.size in omega arith) (row_same (first_different s t) l e))

      -- a byte of an earlier row is an earlier byte
      before : (b : ℕ) → b / w < first_different s t / w → b < first_different s t
      before b h =
          let k = first_different s t in
          let u : b < k / w * w = (div-lt_iff_lt-mul (row-some c.n1 c.n2 k l)).0 h in
          let e : k / w * w + k % w ≡ k = div-add-mod' k w in
          omega arith

  pub row-none : first_different s t ≡ size → differing_row c s t ≡ c.n1
  unfolding differing_row
  row-none e = least-none c.n1 (row_differs c s t) (λ i li. bytes_same i (λ k ek lk. different-before s t k (omega arith)) li)
