-- The steps of writing, as the code takes them; laws join them to the written sheet.
--
--   JointSum c s r          r is the joint sum of the sheet s, and has rv + rh digits
--   turned_to lay c y n s   the bytes s with those of the first n check cells turned over whose digit of y is 1
use Rattle.std.specs.Prelude.{ℕ, zero, suc, ◌+◌, ◌^◌, ◌<◌, ◌≡◌, List}
use Rattle.finite.specs.Search.{bit}
use Rattle.layout.specs.Stored.{turned_in}
use Rattle.layout.specs.declared.stored.Layout.{Layout}
use Rattle.boxcode.specs.Code.{Code, joint_weight}
use Rattle.boxcode.specs.Syndrome.{Cells, weight_sum}

pub record JointSum (c : Code) (s : Cells) (r : ℕ) : Type 0 where
  pub value : r ≡ weight_sum c.n1 c.n2 (joint_weight c) s
  pub below : r < 2 ^ (c.rv + c.rh)

unfoldable pub turned_to : Layout → Code → ℕ → ℕ → List ℕ → List ℕ
turned_to lay c y zero s = s
turned_to lay c y (suc n) s = turned_in (bit y n) lay c.n1 c.n2 (turned_to lay c y n s) (c.check_row n) (c.check_column n)
