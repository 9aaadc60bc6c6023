-- `layout::number::u32_at` meets its contract: std's number of four bytes is the one of specs/. Assumes nothing.
use Rattle.std.proofs.Common.{◌≡◌, ◌+◌, arith}
use Rattle.layout.specs.Number.{u16_at, u32_at}
use Rattle.layout.proofs.number.u32_at.Goals as goal

pub returns : goal.returns
unfolding u32_at u16_at
returns c =
    let e : c.args.at + 2 + 1 ≡ c.args.at + 3 = omega arith in
    record { value = rw e (omega arith); below = omega arith }
