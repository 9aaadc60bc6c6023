use mathlib.Core.Path.{sym, ap, ◌∙◌}
use mathlib.Core.List.{[], ◌∷◌, ◌++◌}
use Prim.Native.Nat.{ℕ, ◌/◌}
use native.Mathlib.Omega.{arith}
use Rattle.text.specs.Text.{decimal_bytes}
use Rattle.text.proofs.Putting.{put_as, put-more, put-length, decimal-one, decimal-more, decimal-most}
use Rattle.text.proofs.+put_decimal.Goals as goal

pub returns-then-x-lt10 : goal.returns-then-x-lt10
returns-then-x-lt10 t c =
    put_as c.put_byte.ensures (ap (λ (d : ℕ). d ∷ []) c.digit.ensures ∙ sym (decimal-one _ c.if-x-lt10.true))

pub put_byte-requires-2 : goal.put_byte-requires-2
put_byte-requires-2 t c =
    let p = c.put_decimal-m.ensures in
    let e = put-length p in
    let x = c.args.x in
    let m = decimal-most 18 (x / 10) (omega arith) in
    omega (arith, p.past)

pub returns : goal.returns
returns t c =
    let x = c.args.x in
    put_as (put-more c.put_decimal-m.ensures c.put_byte-2.ensures)
    (ap (λ (d : ℕ). decimal_bytes (x / 10) ++ (d ∷ [])) c.digit-2.ensures ∙ sym (decimal-more _ c.if-x-lt10.false))
