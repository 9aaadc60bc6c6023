-- Which way the program trialread searches for the burst (02 j: "it runs the trial for plans of at most 64 cells and the usual reader beyond").
--
--   small_cells   the most cells of a plan that is read by trial
--   search_for    of a plan: by trial where it is accepted and has at most so many cells, else by windows, the usual way
use Rattle.std.specs.Prelude.{ℕ, ◌*◌, cond, ◌&&◌, List, eqb, leb}
use Rattle.plan.specs.Bytes.{code_of}
use Rattle.accept.specs.Verdict.{plan_verdict}
use Rattle.reader.specs.declared.search.Search.{Search}
use Rattle.reader.specs.declared.search.Search.TheVariants.{ByWindow, ByTrial}

abbrev pub small_cells : ℕ
small_cells = 64

unfoldable pub search_for : List ℕ → Search
search_for plan = let c = code_of plan in cond (eqb (plan_verdict plan).number 0 && leb (c.n1 * c.n2) small_cells) ByTrial ByWindow
