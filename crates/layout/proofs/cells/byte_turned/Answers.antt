-- `layout::cells::byte_turned` meets its contract. Assumes nothing.
use mathlib.Core.Path.{◌≡◌, refl, sym, ◌∙◌}
use mathlib.Core.Bool.{Bool, true, false, cond}
use Prim.Native.Nat.{ℕ, ◌%◌, ◌^◌}
use borrow.Author.Tests.{eq-eqb}
use Rattle.gf2.specs.Xor.{◌⊕◌}
use Rattle.layout.specs.Cells.{byte_of, byte_turned}
use Rattle.layout.proofs.Turned.{bit-turned, byte-stays}
use Rattle.layout.proofs.cells.byte_turned.Goals as goal

-- the byte of the cell
own : (b : Bool) (n2 i j k x : ℕ) → byte_of n2 i j ≡ k → cond b (x ⊕ 2 ^ (j % 8)) x ≡ byte_turned b n2 i j k x
own true n2 i j k x e = rw (eq-eqb (byte_of n2 i j) k e)
own false n2 i j k x e = refl

pub returns-then-byte_of-k : goal.returns-then-byte_of-k
returns-then-byte_of-k c =
    let a = c.args in
    sym (byte-stays a.asked _ _ _ _ _ (λ e. c.if-byte_of-k.true (c.byte_of.ensures ∙ e)))

pub returns : goal.returns
returns c =
    let a = c.args in
    rw c.from.ensures (bit-turned a.x a.j a.asked) ∙ own a.asked _ _ _ _ _ (sym c.byte_of.ensures ∙ c.if-byte_of-k.false)
