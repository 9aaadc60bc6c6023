-- `gf2::sweep` meets its contract. The loop's invariant: the words from the index on leave the same of what is left as all leave of v.
-- Assumes nothing.
use mathlib.Core.Path.{◌≡◌}
use lib.ListN.{drop}
use Rattle.gf2.specs.Swept.{swept}
use Rattle.gf2.proofs.sweep.Given as goal

abbrev pub invariant-loop-word : goal.invariant-loop-word
invariant-loop-word l = swept l.words l.v ≡ swept (drop l.word-index l.words) l.left
