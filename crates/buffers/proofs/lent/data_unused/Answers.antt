-- `buffers::lent::data_unused` meets its contract: data is stored as one row. Assumes nothing.
use mathlib.Core.Path.{sym, ◌∙◌}
use native.Mathlib.Nat.{mul-le-mul}
use native.Mathlib.Omega.{arith}
use Rattle.layout.proofs.Form.{row-sheet}
use Rattle.buffers.proofs.lent.data_unused.Goals as goal

pub unused_verdict-requires : goal.unused_verdict-requires
unused_verdict-requires c =
    let m = mul-le-mul c.requires.small.n1_most c.requires.small.n2_most in
    record { n1_bound = (omega arith, omega (arith, c.data_size.ensures)); s_len = rw c.data_size.ensures (c.requires.bits_len ∙ sym (row-sheet _)) }

pub returns : goal.returns
returns c = c.unused_verdict.ensures ∙ rw c.data_size.ensures
