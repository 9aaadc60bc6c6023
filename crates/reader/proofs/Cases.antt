-- What a read that succeeds says of its input:
--
--   zero-reads   where the number is 0 the plan is accepted, the buffers are right, and some burst fits
--
-- Assumes nothing.
use mathlib.Core.Path.{◌≡◌}
use mathlib.Core.Bool.{true}
use mathlib.Core.List.{List}
use Prim.Native.Nat.{ℕ}
use Rattle.layout.specs.Stored.{cell_in}
use Rattle.layout.specs.declared.stored.Layout.{Layout}
use Rattle.boxcode.proofs.Reader.{mendable}
use Rattle.plan.specs.Bytes.{code_of}
use Rattle.plan.proofs.Sequence.{else-zero}
use Rattle.buffers.specs.Buffers.{read_checks}
use Rattle.buffers.proofs.Passing.{MayRead, read-zero}
use Rattle.mend.proofs.First.{first-has}
use Rattle.reader.specs.Read.{burst_in, read_verdict}

module _ (lay : Layout) (plan sheet bits : List ℕ) where
  pub zero-reads : (read_verdict lay plan sheet bits).number ≡ 0
      → MayRead lay plan sheet bits × (mendable (code_of plan) (cell_in lay (code_of plan).n1 (code_of plan).n2 sheet) ≡ true)
  unfolding read_verdict burst_in mendable
  zero-reads e =
      let z = else-zero (read_checks lay plan sheet bits) _ e in
      (read-zero lay plan sheet bits z.0, first-has (code_of plan) _ _ z.1)
