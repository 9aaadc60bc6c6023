-- `answer::unpack` meets its contract: each field is taken as it is laid out. Assumes nothing.
use mathlib.Core.Path.{◌≡◌, refl, ◌∙◌}
use mathlib.Core.Bool.{Bool, true, false, not, cond}
use Prim.Native.Nat.{ℕ, ◌%◌}
use lib.Dec.{eqb}
use Rattle.answer.specs.Answer.{number_in, on_success, on_refusal, p_in, q_in, cells_in, top_in, left_in, height_in, width_in, pattern_in}
use Rattle.answer.proofs.unpack.Goals as goal

of-success : (a x : ℕ) {r : ℕ} → r ≡ cond (eqb (a % 32) 0) x 0 → r ≡ on_success a x
unfolding on_success number_in
of-success a x e = e

of-refusal : (a x : ℕ) {r : ℕ} → r ≡ cond (not (eqb (a % 32) 0)) x 0 → r ≡ on_refusal a x
unfolding on_refusal number_in
of-refusal a x e = e ∙ go (eqb (a % 32) 0)
  where
    go : (t : Bool) → cond (not t) x 0 ≡ cond t 0 x
    go true = refl
    go false = refl

pub returns : goal.returns
unfolding cells_in height_in left_in number_in p_in pattern_in q_in top_in width_in
returns c =
    let a = c.args.answer in
    simp (
      of-refusal a _ c.field.ensures,
      of-refusal a _ c.field-2.ensures,
      of-success a _ c.field-3.ensures,
      of-success a _ c.field-4.ensures,
      of-success a _ c.field-5.ensures,
      of-success a _ c.field-6.ensures,
      of-success a _ c.field-7.ensures,
      of-success a _ c.field-8.ensures,
    )
