-- A burst turned over on the bytes of a sheet, digit by digit, in either layout.
--
--   Rectangle n1 n2 top left b1 b2   the rectangle lies on the sheet
--   digits_turned                    the bytes after the first n digits of pattern number x
--   box_turned                       the bytes after all digits
--
-- That box_turned has the cells of the pattern turned over and no others is `box-turned`, in proofs/Turned.antt.
use Rattle.std.specs.Prelude.{ℕ, zero, suc, ◌+◌, ◌*◌, ◌/◌, ◌%◌, ◌≤◌, List}
use Rattle.finite.specs.Search.{bit}
use Rattle.layout.specs.Stored.{turned_in}
use Rattle.layout.specs.declared.stored.Layout.{Layout}

pub record Rectangle (n1 n2 top left b1 b2 : ℕ) : Type 0 where
  pub n1_most : n1 ≤ 512
  pub n2_most : n2 ≤ 698
  pub rows_on : top + b1 ≤ n1
  pub columns_on : left + b2 ≤ n2

unfoldable pub digits_turned : Layout → (n1 n2 : ℕ) → List ℕ → (top left b2 x n : ℕ) → List ℕ
digits_turned lay n1 n2 s top left b2 x zero = s
digits_turned lay n1 n2 s top left b2 x (suc k) =
    turned_in (bit x k) lay n1 n2 (digits_turned lay n1 n2 s top left b2 x k) (top + k / b2) (left + k % b2)

unfoldable pub box_turned : Layout → (n1 n2 : ℕ) → List ℕ → (top left b1 b2 x : ℕ) → List ℕ
box_turned lay n1 n2 s top left b1 b2 x = digits_turned lay n1 n2 s top left b2 x (b1 * b2)
