-- The read of one sheet of a stack, where the checks of the stack pass:
--
--   alone-lengths    checks 1 to 12 pass for each sheet of the stack and its place in the data buffer
--   alone-told       so 13 and 14 are the only refusals that a sheet is told
--
-- Assumes nothing.
use mathlib.Core.Path.{refl}
use mathlib.Core.List.{List}
use Prim.Native.Nat.{ℕ, ◌*◌, ◌<◌}
use Rattle.layout.specs.declared.stored.Layout.TheVariants.{ByRow}
use Rattle.stackform.specs.Stack.{sheet_count, sheet_place}
use Rattle.stackform.proofs.Parts.{part_length}
use Rattle.plan.specs.Bytes.{code_of}
use Rattle.buffers.proofs.Passing.{Lengths}
use Rattle.reader.proofs.Left.{OneOf, read_told}
use Rattle.stack.specs.ReadStack.{sheet_size, data_bytes, sheet_at, bits_at, read_alone, lent}
use Rattle.stack.proofs.Passing.{StackFits, sized}
use Rattle.stack.proofs.Steps.{sheet-inside, bits_inside}

module _ (plan stack numbers bits : List ℕ) (F : StackFits plan stack numbers bits) (i : ℕ) (l : i < sheet_count stack) where
  pub alone-lengths : Lengths ByRow plan (sheet_at (code_of plan) stack i) (bits_at (code_of plan) bits i)
  alone-lengths =
      let c = code_of plan in
      let n = sheet_count stack in
      record {
        accepted = F.accepted;
        sheet_len = part_length stack (sheet_place (sheet_size c) n i) (sheet_size c) (sheet-inside plan c refl n (lent stack numbers bits) (sized F) i l);
        bits_size = part_length bits (i * data_bytes c) (data_bytes c) (bits_inside plan c refl n (lent stack numbers bits) (sized F) i l);
      }

  pub alone-told : OneOf (read_alone plan stack bits i).verdict.number
  unfolding read_alone
  alone-told = read_told ByRow plan (sheet_at (code_of plan) stack i) (bits_at (code_of plan) bits i) alone-lengths
