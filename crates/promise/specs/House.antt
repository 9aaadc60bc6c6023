-- The house plan (document 02, request d). The constant that the program holds is `house_columns`: the contract of `house::columns` says so.
-- Each theorem is proved under its name in proofs/House.antt.
--
--   HouseRule      the constant has 2,094 entries: the first is 1, and each after it is z times the one before, modulo the house polynomial
--   HouseTable     a plan of this size that is made with the house polynomial for its columns, whatever polynomial its rows have, has this
--                  column table, entry for entry
--   HouseRefused   in a buffer of another length nothing is made: the answer is 5, with places 0, 0, and each byte stays
use Rattle.std.specs.Prelude.{ℕ, suc, ◌<◌, ◌≡◌, List, length, get_or}
use Rattle.gf2.specs.Powers.{times_z}
use Rattle.plan.specs.Verdict.{refusal}
use Rattle.plan.specs.Bytes.{code_of}
use Rattle.maker.specs.Make.{made, make}
use Rattle.house.specs.House.{house_polynomial, house_entries, house_columns}
use Rattle.houseplan.specs.HousePlan.{house_with, house_parameters, house_bytes}

-- 02, request d: "The first entry is 1 and each entry after it is z times the one before, modulo the house polynomial; this is shown for the
-- entire table"
pub record HouseRule : Type 0 where
  pub size : length house_columns ≡ house_entries
  pub first : get_or house_columns 0 0 ≡ 1
  pub next : (k : ℕ) → suc k < house_entries → get_or house_columns (suc k) 0 ≡ times_z house_polynomial (get_or house_columns k 0)

-- 02, request d: "a plan of this size which the maker makes from it has this needle table"; the polynomial of the rows, degree rv and
-- coefficients v, and what the buffer held may be any
abbrev pub HouseTable : Type 0
HouseTable = (rv v : ℕ) (old : List ℕ) → (make (house_with rv v) old).verdict.number ≡ 0
    → (k : ℕ) → k < house_entries → (code_of (make (house_with rv v) old).plan).column_entry k ≡ get_or house_columns k 0

abbrev pub HouseRefused : Type 0
HouseRefused = (old : List ℕ) → (length old ≡ house_bytes → ⊥) → make house_parameters old ≡ made (refusal 5 0 0) old
