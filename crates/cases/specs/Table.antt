-- The table of cases: what is handed in, and what the definitions answer.
--
--   Case       a call: the test of a plan, writing, or reading, with what is handed in and what must come of it
--   table      the starred cases of document 01, "Small plans and what they do", in its order, as document 02 c) and k) have them
use Rattle.std.specs.Prelude.{ℕ, List, [], ◌∷◌}
use Rattle.plan.specs.declared.verdict.Verdict.{Verdict}
use Rattle.plan.specs.Verdict.{accepted, refusal}
use Rattle.mend.specs.declared.report.Report.{Report}
use Rattle.writer.specs.Write as w
use Rattle.reader.specs.Read as r
use Rattle.cases.specs.Plans.{S, T, plan_s, plan_t}

-- the plan; the plan, the data and the sheet before; the plan, the sheet and the data before
pub data Case : Type 0 where
  testing : List ℕ → Verdict → Case
  writing : List ℕ → List ℕ → List ℕ → w.Wrote → Case
  reading : List ℕ → List ℕ → List ℕ → r.Outcome → Case

-- the check list of S
checks : List ℕ
checks = 0 ∷ 0 ∷ 0 ∷ 1 ∷ 0 ∷ 2 ∷ 1 ∷ 0 ∷ []

-- a sheet is written, and a sheet is read: what the buffers held before is of no account
abbrev writes : List ℕ → List ℕ → List ℕ → List ℕ → Case
writes plan bits old sheet = writing plan bits old (w.wrote accepted sheet)

abbrev six : ℕ → ℕ → ℕ → ℕ → ℕ → ℕ → Report
six cells top left height width pattern = record { cells = cells; top = top; left = left; height = height; width = width; pattern = pattern }

abbrev reads : List ℕ → List ℕ → List ℕ → Report → List ℕ → List ℕ → Case
reads plan sheet old report mended bits = reading plan sheet old (record { verdict = accepted; report = report; sheet = mended; bits = bits })

-- 14: both buffers stay as they were
abbrev none : List ℕ → List ℕ → List ℕ → Case
none plan sheet old = reading plan sheet old (r.refused (refusal 14 0 0) sheet old)

unfoldable pub table : List Case
unfolding S T plan_s plan_t checks
table =
    -- 1. S and T are accepted
    testing S accepted
    ∷ testing T accepted
    -- 2. S: data 00 gives 00 00 00; 01 gives 05 05 00 (02 c); 1f gives 01 07 07
    ∷ writes S (0 ∷ []) (9 ∷ 9 ∷ 9 ∷ []) (0 ∷ 0 ∷ 0 ∷ [])
    ∷ writes S (1 ∷ []) (9 ∷ 9 ∷ 9 ∷ []) (5 ∷ 5 ∷ 0 ∷ [])
    ∷ writes S (31 ∷ []) (9 ∷ 9 ∷ 9 ∷ []) (1 ∷ 7 ∷ 7 ∷ [])
    -- 3. S: sheet 03 03 01 gives 1 2 0 1 1 and 1 (02 k), data 02 (02 c)
    ∷ reads S (3 ∷ 3 ∷ 1 ∷ []) (9 ∷ []) (six 1 2 0 1 1 1) (3 ∷ 3 ∷ 0 ∷ []) (2 ∷ [])
    -- 4. S: sheets 03 00 00 and 06 01 00 give 14
    ∷ none S (3 ∷ 0 ∷ 0 ∷ []) (9 ∷ [])
    ∷ none S (6 ∷ 1 ∷ 0 ∷ []) (9 ∷ [])
    -- 5. T: data 01, 02, 03 give 0a 0a, 05 05 (02 c), 0f 0f
    ∷ writes T (1 ∷ []) (9 ∷ 9 ∷ []) (10 ∷ 10 ∷ [])
    ∷ writes T (2 ∷ []) (9 ∷ 9 ∷ []) (5 ∷ 5 ∷ [])
    ∷ writes T (3 ∷ []) (9 ∷ 9 ∷ []) (15 ∷ 15 ∷ [])
    -- 6. T: sheet 03 05 is mended to 05 05; its six numbers and its data, 3 and 02 at the end, are those of case 12 (02 c, k)
    ∷ reads T (3 ∷ 5 ∷ []) (9 ∷ []) (six 2 0 1 1 2 3) (5 ∷ 5 ∷ []) (2 ∷ [])
    -- 7. T: sheets 0c 05 and 01 01 give 14
    ∷ none T (12 ∷ 5 ∷ []) (9 ∷ [])
    ∷ none T (1 ∷ 1 ∷ []) (9 ∷ [])
    -- 8. S with V = 1 2 2 gives 8 at 1, 2; with V = 0 1 2, 8 at 0, 0
    ∷ testing (plan_s (1 ∷ 2 ∷ 2 ∷ []) (0 ∷ 1 ∷ 2 ∷ []) checks) (refusal 8 1 2)
    ∷ testing (plan_s (0 ∷ 1 ∷ 2 ∷ []) (0 ∷ 1 ∷ 2 ∷ []) checks) (refusal 8 0 0)
    -- 9. S with H = 0 1 1 gives 9 at 1, 2; T with H = 0 0 1 1, 9 at 0, 2
    ∷ testing (plan_s (1 ∷ 2 ∷ 3 ∷ []) (0 ∷ 1 ∷ 1 ∷ []) checks) (refusal 9 1 2)
    ∷ testing (plan_t (0 ∷ 0 ∷ 1 ∷ 1 ∷ [])) (refusal 9 0 2)
    -- 10. S with check cells (0,0) (0,1) (1,0) (2,0) gives 10 at 3, 0
    ∷ testing (plan_s (1 ∷ 2 ∷ 3 ∷ []) (0 ∷ 1 ∷ 2 ∷ []) (0 ∷ 0 ∷ 0 ∷ 1 ∷ 1 ∷ 0 ∷ 2 ∷ 0 ∷ [])) (refusal 10 3 0)
    ∷ []
