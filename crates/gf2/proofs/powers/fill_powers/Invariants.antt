-- `gf2::powers::fill_powers` meets its contract. The invariant: the first k words are the first k powers, and x is the next. Assumes nothing.
use mathlib.Core.Path.{◌≡◌}
use Rattle.gf2.specs.Powers.{polynomial, power, PowersIn}
use Rattle.gf2.proofs.powers.fill_powers.Given as goal

abbrev pub invariant-loop-word : goal.invariant-loop-word
invariant-loop-word l =
    let p = polynomial l.degree l.low in
    PowersIn p l.word-index l.initial.word-items l.word-items × (l.x ≡ power p l.word-index)
