-- Two scans of one film, read together (document 02, request g), on bytes: what the call gives. The call answers by `read_two`. Nothing is assumed
-- but that the test of the plan gives number 0, that both scans are of the right form, and that the data buffer has the right length. Each theorem
-- is proved under its name in proofs/TwoScans.antt.
--
--   told               the number that is told
--   MendsTo            a burst fits the scan, and turns it into this sheet
--
--   TwoBack            two scans of one written sheet, a burst on either or both, give its data, whatever the data buffer held
--   SameAsData         two sheets that belong hold the same data exactly if they are equal
--   TwoAnswers         what is answered to two scans of the right form (TwoAnswered)
--   NoDataAgrees       with k = 0 the number is never 19
--   TwoRefused         where a check fails, its number and places are told, and each byte of the data buffer stays
use Rattle.std.specs.Prelude.{ℕ, ◌≡◌, ◌↔◌, List}
use Rattle.boxcode.specs.Syndrome.{Cells}
use Rattle.boxcode.specs.Check.{data_size}
use Rattle.plan.specs.Verdict.{accepted, refusal}
use Rattle.plan.specs.Bytes.{code_of}
use Rattle.buffers.specs.Buffers.{read_two_checks}
use Rattle.writer.specs.Write.{written_bytes}
use Rattle.scans.specs.ReadTwo.{two_read, read_two}
use Rattle.promise.specs.Promise.{Passes, DataFor, SheetFor, BufferFor, BelongsTo, BurstOn, FitsOn, NoneFits, data_in, corrupted}

-- ---- the words

abbrev pub told : (plan first second old : List ℕ) → ℕ
told plan first second old = (read_two plan first second old).verdict.number

pub record MendsTo (plan scan sheet : List ℕ) : Type 0 where
  pub cells : Cells
  pub burst : BurstOn plan cells
  pub fits : FitsOn plan scan cells
  pub gives : corrupted plan scan cells ≡ sheet

-- ---- what the call gives

-- 02, request g: "Two scans of one written sheet, a blot on either or both, always give its data"; either burst, or both, may be empty
abbrev pub TwoBack : Type 0
TwoBack = (plan : List ℕ) → Passes plan → (bits old : List ℕ) (e e' : Cells) → DataFor plan bits → BurstOn plan e → BurstOn plan e' → BufferFor plan old
    → let w = written_bytes plan bits in read_two plan (corrupted plan w e) (corrupted plan w e') old ≡ two_read accepted bits

-- so data agree exactly if the mended sheets agree
abbrev pub SameAsData : Type 0
SameAsData = (plan : List ℕ) → Passes plan → (sheet sheet' : List ℕ) → SheetFor plan sheet → SheetFor plan sheet' → BelongsTo plan sheet
    → BelongsTo plan sheet' → (data_in plan sheet ≡ data_in plan sheet') ↔ (sheet ≡ sheet')

-- 02, request g: "If both can be mended and their data agree, or only one can be mended, give that data; if neither, the answer is 14", and "19,
-- after 14: both are mended and the data differ"
pub record TwoAnswered (plan first second old : List ℕ) : Type 0 where
  pub agree : (s s' : List ℕ) → MendsTo plan first s → MendsTo plan second s' → data_in plan s ≡ data_in plan s'
      → read_two plan first second old ≡ two_read accepted (data_in plan s)
  pub first_alone : (s : List ℕ) → MendsTo plan first s → NoneFits plan second → read_two plan first second old ≡ two_read accepted (data_in plan s)
  pub second_alone : (s' : List ℕ) → NoneFits plan first → MendsTo plan second s' → read_two plan first second old ≡ two_read accepted (data_in plan s')
  pub neither : NoneFits plan first → NoneFits plan second → read_two plan first second old ≡ two_read (refusal 14 0 0) old
  pub differ : (s s' : List ℕ) → MendsTo plan first s → MendsTo plan second s' → (data_in plan s ≡ data_in plan s' → ⊥)
      → read_two plan first second old ≡ two_read (refusal 19 0 0) old
  -- and these numbers are told there alone
  pub only_neither : told plan first second old ≡ 14 → NoneFits plan first × NoneFits plan second
  pub only_differ : told plan first second old ≡ 19
      → (s : List ℕ) × (s' : List ℕ) × MendsTo plan first s × MendsTo plan second s' × (data_in plan s ≡ data_in plan s' → ⊥)

abbrev pub TwoAnswers : Type 0
TwoAnswers = (plan : List ℕ) → Passes plan → (first second old : List ℕ) → SheetFor plan first → SheetFor plan second → BufferFor plan old
    → TwoAnswered plan first second old

-- no data differ from no data
abbrev pub NoDataAgrees : Type 0
NoDataAgrees = (plan : List ℕ) → Passes plan → (first second old : List ℕ) → SheetFor plan first → SheetFor plan second → BufferFor plan old
    → data_size (code_of plan) ≡ 0 → told plan first second old ≡ 19 → ⊥

abbrev pub TwoRefused : Type 0
TwoRefused = (plan first second old : List ℕ) → ((read_two_checks plan first second old).number ≡ 0 → ⊥)
    → read_two plan first second old ≡ two_read (read_two_checks plan first second old) old
