-- What checks that begin with the test of a plan answer and leave.
--
--   Checked s v r words   r is the answer v; where it is 0, words has the column table of the plan s, which the test unpacked
use Rattle.std.specs.Prelude.{ℕ, ◌≡◌, List}
use Rattle.plan.specs.declared.verdict.Verdict.{Verdict}
use Rattle.plan.specs.Header.{header_of}
use Rattle.plan.specs.Table.{Unpacked}

pub record Checked (s : List ℕ) (v r : Verdict) (words : List ℕ) : Type 0 where
  pub verdict : r ≡ v
  pub unpacked : r.number ≡ 0 → Unpacked s (header_of s) words
