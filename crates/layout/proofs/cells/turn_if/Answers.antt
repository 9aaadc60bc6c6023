-- `layout::cells::turn_if` meets its contract. Assumes nothing.
use mathlib.Core.Path.{◌≡◌, refl, ap, ◌∙◌}
use mathlib.Core.Bool.{Bool, true, false, cond}
use mathlib.Core.List.{List}
use Prim.Native.Nat.{ℕ, ◌%◌, ◌^◌}
use lib.ListN.{get_or, set}
use lib.Seq.{set-get_or}
use Rattle.gf2.specs.Xor.{◌⊕◌}
use Rattle.layout.specs.Cells.{byte_of, turned, turned_if}
use Rattle.layout.proofs.Turned.{bit-turned}
use Rattle.layout.proofs.cells.turn_if.Goals as goal

-- asked or not
either : (n2 : ℕ) (s : List ℕ) (i j : ℕ) (b : Bool)
    → set s (byte_of n2 i j) (cond b (get_or s (byte_of n2 i j) 0 ⊕ 2 ^ (j % 8)) (get_or s (byte_of n2 i j) 0)) ≡ turned_if b n2 s i j
unfolding turned
either n2 s i j true = refl
either n2 s i j false = set-get_or s (byte_of n2 i j) 0

pub returns : goal.returns
returns c =
    let a = c.args in
    let k = byte_of a.n2 a.i a.j in
    rw (c.byte_of-k.ensures, c.from.ensures)
    (ap (set a.s.now k) (bit-turned (get_or a.s.now k 0) a.j a.asked) ∙ either a.n2 a.s.now a.i a.j a.asked)
