-- Sheets and data in bytes:
--
--   corrupted-form, corrupted-cell  the sheet with a burst's cells turned over is of the right form, and its cells
--   corrupted-none, corrupted-back  turning over nothing, or the same cells twice, gives the sheet back
--   fits-cells, cells_fit           a burst fits the bytes exactly where it fits their cells
--   data-form                       the data that a sheet holds is of the right form
--   data-bit                        the bits of the data that a sheet holds
--   data-held                       a sheet that has the bits of some data holds that data
--
-- Assumes nothing.
use mathlib.Core.Path.{◌≡◌, sym, ap, ◌∙◌}
use mathlib.Core.Bool.{Bool, xor}
use mathlib.Core.List.{List}
use Prim.Native.Nat.{ℕ, ◌<◌}
use native.Mathlib.Omega.{arith}
use Rattle.finite.proofs.Truth.{xor-none, xor-back}
use Rattle.layout.specs.Cells.{cell_of}
use Rattle.layout.specs.declared.stored.Layout.{Layout}
use Rattle.layout.proofs.Form.{bytes-form, bytes-cell, bytes-equal, bytes_back}
use Rattle.layout.proofs.Layouts.{laws}
use Rattle.boxcode.specs.Syndrome.{Cells, flip}
use Rattle.boxcode.specs.Burst.{Fits}
use Rattle.boxcode.specs.Check.{data_size, data_of}
use Rattle.boxcode.proofs.Syndrome.{belongs-cells}
use Rattle.plan.specs.Bytes.{code_of}
use Rattle.writer.specs.Write.{data_bits}
use Rattle.promise.specs.Promise.{DataFor, SheetIn, FitsIn, cells_in, held_in, corrupted_in, empty}

module _ (lay : Layout) (plan sheet : List ℕ) where
  pub corrupted-form : (e : Cells) → SheetIn lay plan (corrupted_in lay plan sheet e)
  unfolding corrupted_in
  corrupted-form e = (laws lay (code_of plan).n1 (code_of plan).n2).form (flip (cells_in lay plan sheet) e)

  pub corrupted-cell : (e : Cells) (i j : ℕ) → i < (code_of plan).n1 → j < (code_of plan).n2
      → cells_in lay plan (corrupted_in lay plan sheet e) i j ≡ xor (cells_in lay plan sheet i j) (e i j)
  unfolding corrupted_in
  corrupted-cell e = (laws lay (code_of plan).n1 (code_of plan).n2).cell (flip (cells_in lay plan sheet) e)

  pub corrupted-none : SheetIn lay plan sheet → corrupted_in lay plan sheet empty ≡ sheet
  corrupted-none f =
      (laws lay (code_of plan).n1 (code_of plan).n2).same (corrupted_in lay plan sheet empty) sheet (corrupted-form empty) f
      (λ i j li lj. corrupted-cell empty i j li lj ∙ xor-none (cells_in lay plan sheet i j))

  pub fits-cells : (e : Cells) → FitsIn lay plan sheet e → Fits (code_of plan) (cells_in lay plan sheet) e
  fits-cells e f = belongs-cells (code_of plan) (cells_in lay plan (corrupted_in lay plan sheet e)) (flip (cells_in lay plan sheet) e) (corrupted-cell e) f

  pub cells_fit : (e : Cells) → Fits (code_of plan) (cells_in lay plan sheet) e → FitsIn lay plan sheet e
  cells_fit e f =
      belongs-cells (code_of plan) (flip (cells_in lay plan sheet) e) (cells_in lay plan (corrupted_in lay plan sheet e))
      (λ i j li lj. sym (corrupted-cell e i j li lj)) f

pub corrupted-back : (lay : Layout) (plan sheet : List ℕ) (e : Cells) → SheetIn lay plan sheet → corrupted_in lay plan (corrupted_in lay plan sheet e) e ≡ sheet
corrupted-back lay plan sheet e f =
    (laws lay (code_of plan).n1 (code_of plan).n2).same (corrupted_in lay plan (corrupted_in lay plan sheet e) e) sheet
    (corrupted-form lay plan (corrupted_in lay plan sheet e) e) f
    (λ i j li lj.
    corrupted-cell lay plan (corrupted_in lay plan sheet e) e i j li lj ∙ ap (λ (b : Bool). xor b (e i j)) (corrupted-cell lay plan sheet e i j li lj)
    ∙ xor-back (cells_in lay plan sheet i j) (e i j))

-- ---- data: one row of k cells

pub data-form : (lay : Layout) (plan sheet : List ℕ) → DataFor plan (held_in lay plan sheet)
unfolding held_in
data-form lay plan sheet = bytes-form 1 (data_size (code_of plan)) (λ i d. data_of (code_of plan) (cells_in lay plan sheet) d)

pub data-bit : (lay : Layout) (plan sheet : List ℕ) (d : ℕ) → d < data_size (code_of plan)
    → data_bits (data_size (code_of plan)) (held_in lay plan sheet) d ≡ data_of (code_of plan) (cells_in lay plan sheet) d
unfolding held_in
data-bit lay plan sheet d l = bytes-cell 1 (data_size (code_of plan)) (λ i d. data_of (code_of plan) (cells_in lay plan sheet) d) 0 d (omega arith) l

pub data-held : (lay : Layout) (plan sheet bits : List ℕ) → DataFor plan bits
    → ((d : ℕ) → d < data_size (code_of plan) → data_of (code_of plan) (cells_in lay plan sheet) d ≡ data_bits (data_size (code_of plan)) bits d)
    → held_in lay plan sheet ≡ bits
unfolding held_in
data-held lay plan sheet bits right h =
    let k = data_size (code_of plan) in
    bytes-equal 1 k (λ i d. data_of (code_of plan) (cells_in lay plan sheet) d) (cell_of k bits)
    (λ i d li ld. h d ld ∙ ap (λ (z : ℕ). cell_of k bits z d) (let e : 0 ≡ i = omega arith in e))
    ∙ bytes_back 1 k bits right
