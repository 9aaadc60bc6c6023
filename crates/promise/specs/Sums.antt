-- The two sums of a run of rows (document 02, request e), on bytes: what the call gives, and how the sums of runs hang together. The call answers
-- by `sum_run`. Nothing is assumed but that the test of the plan gives number 0, that the sheet is of the right form and that the buffer has 8 bytes.
-- Each theorem is proved under its name in proofs/Sums.antt.
--
--   RoomFor            a buffer of 8 bytes, holding anything
--   v_of, h_of         the V sum and the H sum that the call leaves in it: 32 bits each, low byte first
--   GivesSums          the call gives number 0 with places 0, 0, and these two sums
--
--   SumsGiven          the two sums of any run are given
--   SumsRefused        where a check fails, its number and places are told, and each byte stays
--   EmptyRun           an empty run has sums 0
--   PastSheet          rows past the sheet add nothing
--   JoinedRuns         two runs, the second from where the first ends, combine by exclusive-or
--   WholeSheet         the run from 0 to n1 has the two sums of the sheet
--   BelongsBySums      the sheet belongs to its plan exactly if both are 0
use Rattle.std.specs.Prelude.{ℕ, ◌≤◌, min, ◌≡◌, ◌↔◌, List, length}
use Rattle.gf2.specs.Xor.{◌⊕◌}
use Rattle.layout.specs.Number.{u32_at}
use Rattle.boxcode.specs.Syndrome.{row_syndrome, column_syndrome}
use Rattle.boxcode.specs.Run.{row_syndrome_in, column_syndrome_in}
use Rattle.plan.specs.Verdict.{accepted}
use Rattle.plan.specs.Bytes.{code_of}
use Rattle.buffers.specs.Buffers.{sums_checks}
use Rattle.runsums.specs.RunSums.{summed, sum_run}
use Rattle.promise.specs.Promise.{Passes, SheetFor, cells_of, BelongsTo}

-- ---- the words

abbrev pub RoomFor : List ℕ → Type 0
RoomFor old = length old ≡ 8

abbrev pub v_of : (plan sheet : List ℕ) (first past : ℕ) (old : List ℕ) → ℕ
v_of plan sheet first past old = u32_at (sum_run plan sheet first past old).sums 0

abbrev pub h_of : (plan sheet : List ℕ) (first past : ℕ) (old : List ℕ) → ℕ
h_of plan sheet first past old = u32_at (sum_run plan sheet first past old).sums 4

pub record GivesSums (plan sheet : List ℕ) (first past : ℕ) (old : List ℕ) (v h : ℕ) : Type 0 where
  pub verdict : (sum_run plan sheet first past old).verdict ≡ accepted
  pub row : v_of plan sheet first past old ≡ v
  pub column : h_of plan sheet first past old ≡ h

-- ---- what the call gives

abbrev pub SumsGiven : Type 0
SumsGiven = (plan sheet : List ℕ) (first past : ℕ) (old : List ℕ) → Passes plan → SheetFor plan sheet → RoomFor old
    → let c = code_of plan in
    GivesSums plan sheet first past old (row_syndrome_in c first past (cells_of plan sheet)) (column_syndrome_in c first past (cells_of plan sheet))

abbrev pub SumsRefused : Type 0
SumsRefused = (plan sheet : List ℕ) (first past : ℕ) (old : List ℕ) → ((sums_checks plan sheet old).number ≡ 0 → ⊥)
    → sum_run plan sheet first past old ≡ summed (sums_checks plan sheet old) old

-- ---- how the sums of runs hang together

-- 02, request e: "a run with b at or below a is empty", "An empty run has sums 0"
abbrev pub EmptyRun : Type 0
EmptyRun = (plan sheet : List ℕ) (first past : ℕ) (old : List ℕ) → Passes plan → SheetFor plan sheet → RoomFor old → past ≤ first
    → GivesSums plan sheet first past old 0 0

-- 02, request e: "Courses past the sheet add nothing"; answer and bytes are those of the run that ends where the sheet does, of any input
abbrev pub PastSheet : Type 0
PastSheet = (plan sheet : List ℕ) (first past : ℕ) (old : List ℕ)
    → sum_run plan sheet first past old ≡ sum_run plan sheet first (min past (code_of plan).n1) old

-- 02, request e: "for a at most b at most c, the sums of the runs a to b and b to c combine by exclusive-or to those of a to c"; what the three
-- buffers held may be any
abbrev pub JoinedRuns : Type 0
JoinedRuns = (plan sheet : List ℕ) (a b c : ℕ) (old old' old'' : List ℕ) → Passes plan → SheetFor plan sheet
    → RoomFor old → RoomFor old' → RoomFor old'' → a ≤ b → b ≤ c
    → GivesSums plan sheet a c old (v_of plan sheet a b old' ⊕ v_of plan sheet b c old'') (h_of plan sheet a b old' ⊕ h_of plan sheet b c old'')

-- 02, request e: "The whole sheet becomes the run from 0 to n1"
abbrev pub WholeSheet : Type 0
WholeSheet = (plan sheet old : List ℕ) → Passes plan → SheetFor plan sheet → RoomFor old
    → let c = code_of plan in GivesSums plan sheet 0 c.n1 old (row_syndrome c (cells_of plan sheet)) (column_syndrome c (cells_of plan sheet))

abbrev pub BelongsBySums : Type 0
BelongsBySums = (plan sheet old : List ℕ) → Passes plan → SheetFor plan sheet → RoomFor old
    → BelongsTo plan sheet ↔ GivesSums plan sheet 0 (code_of plan).n1 old 0 0
