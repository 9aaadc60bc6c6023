-- The outcome of writing, and the written sheet by its bytes.
--
--   write-refused                   the outcome where a check fails
--   written-form, written-cell      the written sheet is of the right form; its cells
--   written-belongs                 it belongs to the plan
--
-- Assumes nothing.
use mathlib.Core.Path.{◌≡◌, sym}
use mathlib.Core.List.{List}
use Prim.Native.Nat.{ℕ, ◌<◌}
use borrow.Author.Tests.{eq-eqb, ne_eqb}
use Rattle.layout.specs.Stored.{cell_in, FormIn}
use Rattle.layout.specs.declared.stored.Layout.{Layout}
use Rattle.layout.proofs.Layouts.{laws}
use Rattle.boxcode.specs.Syndrome.{Belongs}
use Rattle.boxcode.specs.Check.{data_size, written}
use Rattle.boxcode.proofs.Syndrome.{belongs-cells}
use Rattle.boxcode.proofs.Theorems as code
use Rattle.plan.specs.Bytes.{code_of}
use Rattle.accept.specs.Verdict.{Accepted}
use Rattle.buffers.specs.Buffers.{write_checks}
use Rattle.writer.specs.Write.{data_bits, written_in, wrote, write_in}

pub write-refused : (lay : Layout) (plan bits sheet : List ℕ) → ((write_checks lay plan bits sheet).number ≡ 0 → ⊥)
    → write_in lay plan bits sheet ≡ wrote (write_checks lay plan bits sheet) sheet
unfolding write_in
write-refused lay plan bits sheet h = rw (ne_eqb (write_checks lay plan bits sheet).number 0 h)

-- where the checks gave 0, as the code meets it
pub write_done : (lay : Layout) (plan bits sheet : List ℕ) → (write_checks lay plan bits sheet).number ≡ 0
    → write_in lay plan bits sheet ≡ wrote (write_checks lay plan bits sheet) (written_in lay plan bits)
unfolding write_in
write_done lay plan bits sheet e = rw (eq-eqb (write_checks lay plan bits sheet).number 0 e)

module _ (lay : Layout) (plan bits : List ℕ) where
  pub written-form : FormIn lay (code_of plan).n1 (code_of plan).n2 (written_in lay plan bits)
  unfolding written_in
  written-form = (laws lay (code_of plan).n1 (code_of plan).n2).form (written (code_of plan) (data_bits (data_size (code_of plan)) bits))

  pub written-cell : (i j : ℕ) → i < (code_of plan).n1 → j < (code_of plan).n2
      → cell_in lay (code_of plan).n1 (code_of plan).n2 (written_in lay plan bits) i j ≡ written (code_of plan) (data_bits (data_size (code_of plan)) bits) i j
  unfolding written_in
  written-cell = (laws lay (code_of plan).n1 (code_of plan).n2).cell (written (code_of plan) (data_bits (data_size (code_of plan)) bits))

  module _ (A : Accepted plan) where
    pub written-belongs : Belongs (code_of plan) (cell_in lay (code_of plan).n1 (code_of plan).n2 (written_in lay plan bits))
    written-belongs =
        belongs-cells (code_of plan) (written (code_of plan) (data_bits (data_size (code_of plan)) bits))
        (cell_in lay (code_of plan).n1 (code_of plan).n2 (written_in lay plan bits))
        (λ i j li lj. sym (written-cell i j li lj)) (code.written-belongs (code_of plan) A.formed A.conditions (data_bits (data_size (code_of plan)) bits))
