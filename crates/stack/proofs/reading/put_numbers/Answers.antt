-- `stack::reading::put_numbers` meets its contract: nine numbers fill the place. Assumes nothing.
use native.Mathlib.Omega.{arith}
use Rattle.reader.specs.Read.{outcome}
use Rattle.stack.proofs.Numbers.{numbers-written}
use Rattle.stack.proofs.reading.put_numbers.Goals as goal

pub put_u16-requires-9 : goal.put_u16-requires-9
put_u16-requires-9 c =
    -- the length at the start is too far back to be found
    omega (arith, c.requires)

pub returns : goal.returns
returns c =
    numbers-written (outcome c.args.answer c.args.numbers.now c.args.numbers.now) _ _ _ _ _ _ _ _ _ _ c.requires
    c.put_u16.ensures c.put_u16-2.ensures c.put_u16-3.ensures c.put_u16-4.ensures c.put_u16-5.ensures
    c.put_u16-6.ensures c.put_u16-7.ensures c.put_u16-8.ensures c.put_u16-9.ensures
