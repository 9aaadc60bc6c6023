-- Writing a sheet (document 01, "Sheet and data"; checks 1 to 13), in either layout.
--
--   data_bits k s                 the string of k bits in the bytes s: one row of k cells
--   written_in lay plan bits      every byte of the sheet written from the data under the plan
--   Wrote, wrote                  what a call leaves: its answer and the bytes of the sheet
--   write_in lay plan bits sheet  the outcome of writing: number 0 and the written sheet, or the first check that fails and the
--                                 sheet as it was
--   written_bytes, write          the same of sheets by row, document 01's layout
use Rattle.std.specs.Prelude.{ℕ, cond, List, eqb}
use Rattle.layout.specs.Cells.{cell_of}
use Rattle.layout.specs.Stored.{bytes_in}
use Rattle.layout.specs.declared.stored.Layout.{Layout}
use Rattle.layout.specs.declared.stored.Layout.TheVariants.{ByRow}
use Rattle.boxcode.specs.Check.{Bits, data_size, written}
use Rattle.plan.specs.declared.verdict.Verdict.{Verdict}
use Rattle.plan.specs.Bytes.{code_of}
use Rattle.buffers.specs.Buffers.{write_checks}

abbrev pub data_bits : ℕ → List ℕ → Bits
data_bits k s d = cell_of k s 0 d

unfoldable pub written_in : Layout → (plan bits : List ℕ) → List ℕ
written_in lay plan bits = let c = code_of plan in bytes_in lay c.n1 c.n2 (written c (data_bits (data_size c) bits))

pub record Wrote : Type 0 where
  pub verdict : Verdict
  pub sheet : List ℕ

abbrev pub wrote : Verdict → List ℕ → Wrote
wrote v s = record { verdict = v; sheet = s }

unfoldable pub write_in : Layout → (plan bits sheet : List ℕ) → Wrote
write_in lay plan bits sheet =
    let v = write_checks lay plan bits sheet in
    wrote v (cond (eqb v.number 0) (written_in lay plan bits) sheet)

abbrev pub written_bytes : (plan bits : List ℕ) → List ℕ
written_bytes plan bits = written_in ByRow plan bits

abbrev pub write : (plan bits sheet : List ℕ) → Wrote
write plan bits sheet = write_in ByRow plan bits sheet
