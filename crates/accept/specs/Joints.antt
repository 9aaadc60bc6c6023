-- The joint entries of the check cells, as the code gathers them.
--
--   joints_of c     the joint entries of the check cells
--   Joint c i j r   r is the joint entry of cell (i, j), and has rv + rh bits
--   Joints c words  the first rv + rh words are the joint entries
use Rattle.std.specs.Prelude.{ℕ, ◌+◌, ◌^◌, ◌≤◌, ◌<◌, ◌≡◌, List, length, take}
use Rattle.gf2.specs.Vectors.{listed}
use Rattle.boxcode.specs.Code.{Code, joint_weight, check_joint}
use Rattle.boxcode.specs.Condition.{everyone}

unfoldable pub joints_of : Code → List ℕ
joints_of c = listed (c.rv + c.rh) everyone (check_joint c)

pub record Joint (c : Code) (i j r : ℕ) : Type 0 where
  pub value : r ≡ joint_weight c i j
  pub below : r < 2 ^ (c.rv + c.rh)

pub record Joints (c : Code) (words : List ℕ) : Type 0 where
  pub size : length words ≡ 64
  pub few : c.rv + c.rh ≤ 64
  pub held : take (c.rv + c.rh) words ≡ joints_of c
