-- A sheet turned into the other layout (document 02, request i: "turning"), as a call leaves it. lay is the layout of the source.
--
--   turned_sheet lay plan source       every byte of the target: the cells of the source, in the other layout
--   TurnedOver, turned_over            what a call leaves: its answer and the bytes of the target
--   turn_over lay plan source target   the outcome: number 0 and the turned sheet, or the first check that fails and the target as it was
use Rattle.std.specs.Prelude.{ℕ, cond, List, eqb}
use Rattle.layout.specs.Stored.{transposed}
use Rattle.layout.specs.declared.stored.Layout.{Layout}
use Rattle.plan.specs.declared.verdict.Verdict.{Verdict}
use Rattle.plan.specs.Bytes.{code_of}
use Rattle.buffers.specs.Buffers.{transpose_checks}

unfoldable pub turned_sheet : Layout → (plan source : List ℕ) → List ℕ
turned_sheet lay plan source = let c = code_of plan in transposed lay c.n1 c.n2 source

pub record TurnedOver : Type 0 where
  pub verdict : Verdict
  pub target : List ℕ

abbrev pub turned_over : Verdict → List ℕ → TurnedOver
turned_over v s = record { verdict = v; target = s }

unfoldable pub turn_over : Layout → (plan source target : List ℕ) → TurnedOver
turn_over lay plan source target =
    let v = transpose_checks lay plan source target in
    turned_over v (cond (eqb v.number 0) (turned_sheet lay plan source) target)
