-- What the byte layer takes of the box-error code, for every code of the right form; read after specs/. The promise (crate
-- promise) is these theorems on bytes.
--
--   mendable-iff       a sheet is mendable exactly where some burst fits it
--   written-data       the written sheet holds its data
-- and if the code meets the conditions:
--   at_most_one        at most one burst, as a set of cells, fits a sheet
--   change-is          the cells that the reader turns over are those of the burst that fits
--   written-belongs, written-only   the written sheet belongs, and is the only one that does and holds the data
--   written_same       equal data, equal written sheets
--
-- Assumes nothing.
use mathlib.Core.Path.{◌≡◌}
use Prim.Native.Nat.{ℕ, ◌<◌}
use Rattle.boxcode.specs.Code.{Code, Formed}
use Rattle.boxcode.specs.Condition.{Conditions}
use Rattle.boxcode.specs.Syndrome.{Cells, Belongs, SameCells}
use Rattle.boxcode.specs.Burst.{Burst, Fits}
use Rattle.boxcode.specs.Check.{Bits, data_size, written, data_of}
use Rattle.boxcode.specs.Reader.{change}
use Rattle.boxcode.proofs.Separated.{fits-unique}
use Rattle.boxcode.proofs.Condition.{separated}
use Rattle.boxcode.proofs.Written as Written
use Rattle.boxcode.proofs.Written.{writable}
use Rattle.boxcode.proofs.Reader as Reader
pub use Rattle.boxcode.proofs.Reader.{mendable-iff}
pub use Rattle.boxcode.proofs.Written.{written-data}

module _ (c : Code) (F : Formed c) (K : Conditions c) where
  -- 01: "Under an accepted plan at most one blot, as a set of cells, fits"
  pub at_most_one : (s e e' : Cells) → Burst c e → Burst c e' → Fits c s e → Fits c s e' → (i j : ℕ) → e i j ≡ e' i j
  at_most_one = fits-unique c (separated c F K)

  pub change-is : (s e : Cells) → Burst c e → Fits c s e → (i j : ℕ) → change c s i j ≡ e i j
  change-is s = Reader.change-is c F s (separated c F K)

  -- 01: "the one sheet .. that holds this string in the cells that are not check cells .. and belongs to the plan"
  pub written-belongs : (x : Bits) → Belongs c (written c x)
  written-belongs = (writable c F K).belongs

  pub written-only : (x : Bits) (s : Cells) → Belongs c s → ((d : ℕ) → d < data_size c → data_of c s d ≡ x d) → SameCells c s (written c x)
  written-only = Written.written-only c F (writable c F K)

  pub written_same : (x x' : Bits) → ((d : ℕ) → d < data_size c → x d ≡ x' d) → SameCells c (written c x) (written c x')
  written_same = Written.written_same c F (writable c F K)
