-- The answer of a check: the number of document 01's table and its two places.
--
--   accepted        no check failed
--   refusal n p q   check n failed at the places p, q
--   verdict_if      the refusal where the check fails, else accepted
--   v or_else w     v if it refuses, else w: the first refusal, in the order in which the checks run
--   refusal_of r    number and places of a refusal of the code: document 01's table, and 02's from Polynomial on
--   told r          what is told of a result of the code: accepted, or its refusal
use Rattle.std.specs.Prelude.{ℕ, Bool, cond, eqb, Result, Ok, Err}
use Rattle.plan.specs.declared.table.Table.TheVariants.{Rows, Columns}
use Rattle.plan.specs.declared.verdict.Verdict.{Verdict}
use Rattle.plan.specs.declared.verdict.Refusal.{Refusal}
use Rattle.plan.specs.declared.verdict.Refusal.TheVariants.{ShortPlan, BurstSize, SheetSize, EntryWidths, Offsets, LargeEntry, CheckList}
use Rattle.plan.specs.declared.verdict.Refusal.TheVariants.{RowWindows, ColumnStrips, CheckCells, SheetLength, DataLength, UnusedBits, NoBurst}
use Rattle.plan.specs.declared.verdict.Refusal.TheVariants.{Polynomial, FewCheckCells, Position, Foreign, ScansDiffer, StackForm}
use Rattle.plan.specs.declared.verdict.Refusal.TheVariants.{NumbersLength, NotAnAnswer, BurstCells, SumsLength}

abbrev pub refusal : ℕ → ℕ → ℕ → Verdict
refusal n p q = record { number = n; p = p; q = q }

abbrev pub accepted : Verdict
accepted = refusal 0 0 0

abbrev pub verdict_if : Bool → Verdict → Verdict
verdict_if t v = cond t v accepted

infixr 20 ◌or_else◌
unfoldable pub ◌or_else◌ : Verdict → Verdict → Verdict
v or_else w = cond (eqb v.number 0) w v

abbrev pub refusal_of : Refusal → Verdict
refusal_of ShortPlan = refusal 1 0 0
refusal_of BurstSize = refusal 2 0 0
refusal_of SheetSize = refusal 3 0 0
refusal_of EntryWidths = refusal 4 0 0
refusal_of Offsets = refusal 5 0 0
refusal_of (LargeEntry Rows k) = refusal 6 0 k
refusal_of (LargeEntry Columns k) = refusal 6 1 k
refusal_of (CheckList k) = refusal 7 k 0
refusal_of (RowWindows i j) = refusal 8 i j
refusal_of (ColumnStrips a b) = refusal 9 a b
refusal_of (CheckCells k) = refusal 10 k 0
refusal_of SheetLength = refusal 11 0 0
refusal_of DataLength = refusal 12 0 0
refusal_of (UnusedBits k) = refusal 13 k 0
refusal_of NoBurst = refusal 14 0 0
refusal_of Polynomial = refusal 15 0 0
refusal_of FewCheckCells = refusal 16 0 0
refusal_of Position = refusal 17 0 0
refusal_of Foreign = refusal 18 0 0
refusal_of ScansDiffer = refusal 19 0 0
refusal_of StackForm = refusal 20 0 0
refusal_of NumbersLength = refusal 21 0 0
refusal_of NotAnAnswer = refusal 22 0 0
refusal_of BurstCells = refusal 23 0 0
refusal_of SumsLength = refusal 24 0 0

abbrev pub told : {A : Type 0} → Result A Refusal → Verdict
told (Ok x) = accepted
told (Err r) = refusal_of r
