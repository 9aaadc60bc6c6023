-- `stackform::entry_broken` meets its contract: the entry lies in the header, and its two numbers are asked. Assumes nothing.
use mathlib.Core.Path.{ap, ap₂}
use mathlib.Core.Bool.{not, ◌||◌}
use Prim.Native.Nat.{ℕ}
use native.Mathlib.Omega.{arith}
use lib.Dec.{eqb, ltb}
use Rattle.stackform.specs.Stack.{header_end, room_of, offset_of, entry_broken}
use Rattle.stackform.proofs.entry_broken.Goals as goal

pub u16_at-room-requires : goal.u16_at-room-requires
unfolding header_end
u16_at-room-requires c = omega arith

pub u32_at-offset-requires : goal.u32_at-offset-requires
unfolding header_end
u32_at-offset-requires c = omega arith

pub returns : goal.returns
unfolding entry_broken offset_of room_of
returns c =
    ap₂ ◌||◌ (ap (ltb 1) c.u16_at-room.ensures.value)
    (ap₂ (λ (o p : ℕ). not (eqb o p)) c.u32_at-offset.ensures.value c.place.ensures)
