use mathlib.Core.Path.{◌≡◌, refl, ap, ◌∙◌}
use Prim.Native.Nat.{ℕ, ◌+◌, ◌*◌, ◌%◌, ◌^◌, ◌<◌}
use native.Mathlib.Numerals.{add-one}
use native.Mathlib.Omega.{arith}
use lib.Pow.{pow_mono}
use Rattle.gf2.specs.Powers.{times_z, polynomial, power}
use Rattle.gf2.proofs.Extension.{bit_is}
use Rattle.gf2.proofs.Multiplication.{polynomial-degree, power_below}
use Rattle.gf2.proofs.PowerTable.{powers-none, powers-stored}
use Rattle.gf2.proofs.powers.fill_powers.Goals as goal

-- the polynomial, as the code makes it
made : (d low : ℕ) → d < 64 → 1 * 2 ^ d % 2 ^ 64 + low ≡ polynomial d low
unfolding polynomial
made d low l = rw (bit_is d l)

next : (p x k : ℕ) → x ≡ power p k → times_z p x ≡ power p (k + 1)
unfolding power
next p x k e = rw (add-one k, e)

pub overflow_add-p : goal.overflow_add-p
overflow_add-p c =
    let d = c.args.degree in
    rw (bit_is d (omega arith)) (omega (arith, pow_mono {i = d} {j = 32} c.requires.le_degree.1))

pub loop-word-init : goal.loop-word-init
loop-word-init c = (powers-none _ _, unfold power in refl)

pub times_z-x-requires : goal.times_z-x-requires
times_z-x-requires c =
    let a = c.args in
    let p = c.requires.le_degree in
    rw c.loop-word.invariant.1
    (omega (
      arith,
      power_below a.degree (polynomial a.degree a.low) p.0 (polynomial-degree a.degree a.low p.2) c.loop-word.word-index,
      pow_mono {i = a.degree} {j = 32} p.1,
    ))

pub loop-word-preserved : goal.loop-word-preserved
loop-word-preserved c =
    let l = c.loop-word in
    let d = c.args.degree in (
      powers-stored _ _ _ _ _ (omega (arith, l.invariant.0.size)) l.invariant.0 l.invariant.1,
      c.times_z-x.ensures ∙ ap (λ (p : ℕ). times_z p l.x) (made d _ (omega arith)) ∙ next _ _ l.word-index l.invariant.1,
    )
