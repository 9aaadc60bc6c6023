-- `stackform::broken` meets its contract: the first of the four tests that fails decides. Assumes nothing.
use mathlib.Core.Path.{◌∙◌}
use native.Mathlib.Omega.{arith}
use Rattle.stackform.specs.Stack.{sheet_place}
use Rattle.stackform.proofs.Header.{no-count, too_many, other_length, entries-decide}
use Rattle.stackform.proofs.broken.Goals as goal

pub returns-then-stack-lt2 : goal.returns-then-stack-lt2
returns-then-stack-lt2 c = no-count _ _ c.if-stack-lt2.true

pub returns-then-count-gt64 : goal.returns-then-count-gt64
returns-then-count-gt64 c = too_many _ _ _ c.count_of-count.ensures.0 c.if-count-gt64.true

pub returns-then-stack-place : goal.returns-then-stack-place
returns-then-stack-place c = other_length _ _ _ c.count_of-count.ensures.0 _ c.place.ensures c.if-stack-place.true

pub entries_broken-requires : goal.entries_broken-requires
unfolding sheet_place
entries_broken-requires c = (c.requires, omega arith, omega arith)

pub returns : goal.returns
returns c =
    c.entries_broken.ensures
    ∙ entries-decide _ _ _ c.count_of-count.ensures.0 (omega arith) (omega arith) (c.if-stack-place.false ∙ c.place.ensures)
