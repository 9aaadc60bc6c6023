use mathlib.Core.Path.{◌≡◌, sym, ◌∙◌}
use Prim.Native.Nat.{ℕ, ◌*◌, ◌%◌, ◌^◌, ◌≤◌}
use native.Mathlib.Nat.{one-mul}
use native.Mathlib.Omega.{arith}
use lib.Pow.{shl_exact}
use Rattle.finite.proofs.Search.{search-finds, search-ends}
use Rattle.trial.proofs.pattern.first_pattern.Goals as goal

-- the number of patterns, as the code has it
counted : (n : ℕ) → n ≤ 16 → 1 * 2 ^ n % 2 ^ 32 ≡ 2 ^ n
counted n l = shl_exact 1 n 32 (omega arith) (omega arith) ∙ one-mul (2 ^ n)

pub returns-then-fits : goal.returns-then-fits
returns-then-fits c =
    let e = counted c.args.n (omega arith) in
    c.from.ensures ∙ search-finds _ _ c.loop-x.x (omega arith) c.loop-x.invariant (sym c.fits.ensures ∙ c.if-fits.true)

pub returns : goal.returns
returns c =
    let e = counted c.args.n (omega arith) in
    c.from-2.ensures ∙ search-ends _ _ _ (omega arith) (omega arith) (λ j l. c.loop-x.invariant j (omega arith))
