-- `encode::parts::put_pair` meets its contract: one number, and the other after it. Assumes nothing.
use mathlib.Core.Path.{sym, ap, ◌∙◌}
use mathlib.Core.List.{List}
use Prim.Native.Nat.{ℕ, ◌+◌}
use Rattle.layout.specs.Number.{low_bytes, overwritten}
use Rattle.layout.proofs.Overwriting.{low-length, overwritten-append}
use Rattle.encode.proofs.parts.put_pair.Goals as goal

pub returns : goal.returns
returns c =
    let a = c.args in
    let x = low_bytes 2 a.first in
    let y = low_bytes 2 a.second in
    c.put_u16-2.ensures
    ∙ ap (λ (t : List ℕ). overwritten t (a.at + 2) y) c.put_u16.ensures
    ∙ ap (λ (n : ℕ). overwritten (overwritten a.plan.now a.at x) (a.at + n) y) (sym (low-length 2 a.first))
    ∙ sym (overwritten-append a.plan.now a.at x y)
