-- `gf2::powers::modulus_of` meets its contract. Assumes nothing.
use native.Mathlib.Omega.{arith}
use borrow.Author.Tests.{le-leb, lt-leb}
use Rattle.gf2.specs.Xor.{◌⊕◌}
use Rattle.gf2.specs.Powers.{modulus_of}
use Rattle.gf2.proofs.Multiplication.{break-le}
use Rattle.gf2.proofs.powers.modulus_of.Goals as goal

pub overflow_add-k : goal.overflow_add-k
overflow_add-k c = let l = c.first_break-k.ensures in omega (arith, break-le 0 c.args.words.now)

pub returns-then-words-k : goal.returns-then-words-k
unfolding modulus_of
returns-then-words-k c = rw (← c.first_break-k.ensures, le-leb _ _ c.if-words-k.true)

pub overflow_mul-result : goal.overflow_mul-result
overflow_mul-result c = let b = c.requires c.first_break-k.result (omega arith) in omega arith

pub returns : goal.returns
unfolding modulus_of ◌⊕◌
returns c = rw (← c.first_break-k.ensures, lt-leb _ _ c.if-words-k.false)
