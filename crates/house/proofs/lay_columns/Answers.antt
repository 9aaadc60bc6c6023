use mathlib.Core.Path.{◌≡◌, ap, ◌∙◌}
use mathlib.Core.List.{List}
use Prim.Native.Nat.{ℕ, ◌<◌}
use native.Mathlib.Omega.{arith}
use lib.ListN.{get_or}
use Rattle.gf2.specs.Powers.{power}
use Rattle.gf2.proofs.PowerTable.{powers-stored}
use Rattle.house.specs.House.{house_polynomial, house_entries, house_columns}
use Rattle.house.proofs.Table.{house-entry}
use Rattle.house.proofs.lay_columns.Goals as goal

-- an entry of the table, as it was handed back
entry : (table : List ℕ) (k : ℕ) → table ≡ house_columns → k < house_entries → get_or table k 0 ≡ power house_polynomial k
entry table k e l = ap (λ (t : List ℕ). get_or t k 0) e ∙ house-entry k l

pub loop-k-preserved : goal.loop-k-preserved
loop-k-preserved c =
    let l = c.loop-k in
    let e = entry _ l.k c.columns-table.ensures c.loop-k-test.true in
    powers-stored _ _ _ _ _ (omega arith) l.invariant (c.from-word.ensures ∙ e)
