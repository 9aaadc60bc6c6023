-- Two mended sheets:
--
--   bits-sheets, sheets-bits   their data agree exactly if they do
--   agree-mended               so either may be compared
--   agree-found                and the bytes with the burst of each turned over are the mended ones
--
-- Assumes nothing.
use mathlib.Core.Path.{◌≡◌, refl, sym, ap, ap₂, ◌∙◌}
use mathlib.Core.Bool.{Bool, true}
use mathlib.Core.List.{List}
use Prim.Native.Nat.{ℕ}
use native.Mathlib.Omega.{arith}
use Rattle.finite.proofs.Truth.{same_truth}
use Rattle.layout.specs.Cells.{cell_of, RightForm}
use Rattle.layout.specs.Differ.{agree}
use Rattle.layout.specs.declared.stored.Layout.TheVariants.{ByRow}
use Rattle.layout.proofs.Form.{bytes-form, bytes-cell, bytes-equal}
use Rattle.layout.proofs.Agreement.{agree-equal, equal-agree}
use Rattle.boxcode.specs.Code.{Code, Formed}
use Rattle.boxcode.specs.Condition.{Conditions}
use Rattle.boxcode.specs.Syndrome.{Cells, Belongs, row_syndrome, column_syndrome}
use Rattle.boxcode.specs.Check.{data_size, data_of}
use Rattle.boxcode.specs.Reader.{mended}
use Rattle.boxcode.proofs.Reader.{mendable, change-fits}
use Rattle.boxcode.proofs.Written.{belongs-only}
use Rattle.payload.specs.Packed.{packed_data}
use Rattle.mend.specs.Found.{IsBurst}
use Rattle.reader.specs.Turn.{box_turned}
use Rattle.reader.specs.Read.{sheet_read, bits_read}
use Rattle.reader.proofs.Outcome.{burst-sheet, burst-bits}

-- a mended sheet belongs
mended-belongs : (c : Code) → Formed c → (s : Cells) → mendable c s ≡ true → Belongs c (mended c s)
unfolding mended
mended-belongs c F s m = change-fits c F s m

module _ (c : Code) (F : Formed c) (K : Conditions c) (s t : List ℕ) (ms : mendable c (cell_of c.n2 s) ≡ true)
    (mt : mendable c (cell_of c.n2 t) ≡ true) where
  pub bits-sheets : bits_read ByRow c s ≡ bits_read ByRow c t → sheet_read ByRow c s ≡ sheet_read ByRow c t
  unfolding sheet_read bits_read
  bits-sheets e =
      let p = mended c (cell_of c.n2 s) in
      let q = mended c (cell_of c.n2 t) in
      bytes-equal c.n1 c.n2 p q
      (belongs-only c F K p q (mended-belongs c F (cell_of c.n2 s) ms) (mended-belongs c F (cell_of c.n2 t) mt)
      (λ d l.
      sym (bytes-cell 1 (data_size c) (λ i d. data_of c p d) 0 d (omega arith) l)
      ∙ ap (λ (y : List ℕ). cell_of (data_size c) y 0 d) e
      ∙ bytes-cell 1 (data_size c) (λ i d. data_of c q d) 0 d (omega arith) l))

  pub sheets-bits : sheet_read ByRow c s ≡ sheet_read ByRow c t → bits_read ByRow c s ≡ bits_read ByRow c t
  sheets-bits e =
      sym (burst-bits ByRow c F s (sheet_read ByRow c s) refl)
      ∙ ap (λ (y : List ℕ). packed_data c (cell_of c.n2 y)) e
      ∙ burst-bits ByRow c F t (sheet_read ByRow c t) refl

  pub agree-mended : agree (sheet_read ByRow c s) (sheet_read ByRow c t) ≡ agree (bits_read ByRow c s) (bits_read ByRow c t)
  unfolding sheet_read bits_read
  agree-mended =
      let p = mended c (cell_of c.n2 s) in
      let q = mended c (cell_of c.n2 t) in
      same_truth (agree (sheet_read ByRow c s) (sheet_read ByRow c t)) (agree (bits_read ByRow c s) (bits_read ByRow c t))
      (λ a.
      equal-agree (bits_read ByRow c s) (bits_read ByRow c t)
      (sheets-bits (agree-equal (sheet_read ByRow c s) (sheet_read ByRow c t) ((bytes-form c.n1 c.n2 p).size ∙ sym (bytes-form c.n1 c.n2 q).size) a)))
      (λ a.
      equal-agree (sheet_read ByRow c s) (sheet_read ByRow c t)
      (bits-sheets
      (agree-equal (bits_read ByRow c s) (bits_read ByRow c t)
      ((bytes-form 1 (data_size c) (λ i d. data_of c p d)).size ∙ sym (bytes-form 1 (data_size c) (λ i d. data_of c q d)).size) a)))

module _ (c : Code) (F : Formed c) (K : Conditions c) where
  -- the sums of the scan are asked for
  abbrev FoundOn : List ℕ → ℕ → ℕ → ℕ → Type 0
  FoundOn s top left x = IsBurst c (row_syndrome c (cell_of c.n2 s)) (column_syndrome c (cell_of c.n2 s)) top left x

  pub agree-found : (s : List ℕ) → RightForm c.n1 c.n2 s → (top left x : ℕ) → FoundOn s top left x
      → (t : List ℕ) → RightForm c.n1 c.n2 t → (top' left' x' : ℕ) → FoundOn t top' left' x'
      → (r : Bool) → r ≡ agree (box_turned ByRow c.n1 c.n2 s top left c.b1 c.b2 x) (box_turned ByRow c.n1 c.n2 t top' left' c.b1 c.b2 x')
      → agree (bits_read ByRow c s) (bits_read ByRow c t) ≡ r
  unfolding mendable
  agree-found s f top left x b t g top' left' x' b' r e =
      sym
      (e
      ∙ ap₂ agree (burst-sheet ByRow c F s f top left x b) (burst-sheet ByRow c F t g top' left' x' b')
      ∙ agree-mended c F K s t b.has b'.has)
