-- A sheet with the cell of a data bit turned over:
--
--   turned-joint     its joint sum is the joint entry of the cell, where it belonged before
--   turned_bit       a string of data with one bit turned over
--   turned-altered   brought up to date, it is the sheet written from its data with that bit turned over
--
-- Assumes nothing.
use mathlib.Core.Path.{◌≡◌, sym, ap, ◌∙◌}
use mathlib.Core.Bool.{Bool, xor}
use mathlib.Core.List.{List}
use Prim.Native.Nat.{ℕ, ◌/◌, ◌%◌, ◌<◌}
use native.Mathlib.Omega.{arith}
use lib.Dec.{eqb}
use Rattle.layout.specs.Cells.{cell_of, RightForm, bytes_of, turned}
use Rattle.layout.proofs.Form.{bytes-form, bytes-cell, bytes-equal}
use Rattle.layout.proofs.Turned.{turned-cell}
use Rattle.boxcode.specs.Code.{Code, Formed, joint_weight}
use Rattle.boxcode.specs.Condition.{Conditions}
use Rattle.boxcode.specs.Syndrome.{Belongs, flip}
use Rattle.boxcode.specs.Check.{Bits, data_size, data_cell, written, data_of}
use Rattle.boxcode.proofs.Syndrome.{weight-cells}
use Rattle.boxcode.proofs.Fill.{data-cells}
use Rattle.boxcode.proofs.One.{one_cell, one-turned, row_on, column-on, turned-data}
use Rattle.boxcode.proofs.Theorems.{written_same}
use Rattle.accept.specs.Joints.{Joint}
use Rattle.payload.specs.Packed.{packed_data}
use Rattle.writer.specs.Steps.{JointSum}
use Rattle.writer.specs.Write.{data_bits}
use Rattle.alter.specs.Alter.{turned_data}

-- a bit of data with bit d turned over
pub turned_bit : (k : ℕ) (bits : List ℕ) → RightForm 1 k bits → (d e : ℕ) → d < k → e < k
    → data_bits k (turned k bits 0 d) e ≡ xor (data_bits k bits e) (eqb d e)
turned_bit k bits f d e ld le = turned-cell 1 k bits f 0 d (omega arith) ld 0 e (omega arith) le

module _ (c : Code) (F : Formed c) (sheet : List ℕ) (f : RightForm c.n1 c.n2 sheet) where
  pub turned-joint : (i j r : ℕ) → i < c.n1 → j < c.n2 → Belongs c (cell_of c.n2 sheet) → Joint c i j r
      → JointSum c (cell_of c.n2 (turned c.n2 sheet i j)) r
  turned-joint i j r li lj b J = record {
    value =
        J.value
        ∙ sym
        (weight-cells c.n1 c.n2 (joint_weight c) (cell_of c.n2 (turned c.n2 sheet i j)) (flip (cell_of c.n2 sheet) (one_cell i j))
        (turned-cell c.n1 c.n2 sheet f i j li lj)
        ∙ one-turned c F (cell_of c.n2 sheet) i j li lj b);
    below = J.below;
  }

  module _ (d : ℕ) (l : d < data_size c) where
    -- the data of the sheet, packed, with bit d turned over
    packed-turned : (e : ℕ) → e < data_size c
        → data_bits (data_size c) (turned_data c d (packed_data c (cell_of c.n2 sheet))) e ≡ xor (data_of c (cell_of c.n2 sheet) e) (eqb d e)
    packed-turned e le =
        turned_bit (data_size c) (packed_data c (cell_of c.n2 sheet)) (bytes-form 1 (data_size c) (λ i d. data_of c (cell_of c.n2 sheet) d)) d e l le
        ∙ ap (λ (b : Bool). xor b (eqb d e)) (bytes-cell 1 (data_size c) (λ i d. data_of c (cell_of c.n2 sheet) d) 0 e (omega arith) le)

    pub turned-altered : Conditions c → (t u : List ℕ) → t ≡ turned c.n2 sheet (data_cell c d / c.n2) (data_cell c d % c.n2)
        → u ≡ bytes_of c.n1 c.n2 (written c (data_of c (cell_of c.n2 t)))
        → u ≡ bytes_of c.n1 c.n2 (written c (data_bits (data_size c) (turned_data c d (packed_data c (cell_of c.n2 sheet)))))
    turned-altered K t u et eu =
        eu
        ∙ bytes-equal c.n1 c.n2 (written c (data_of c (cell_of c.n2 t))) (written c y)
        (written_same c F K (data_of c (cell_of c.n2 t)) y
        (λ e le.
        rw et
        (data-cells c F (cell_of c.n2 (turned c.n2 sheet i j)) (flip (cell_of c.n2 sheet) (one_cell i j))
        (turned-cell c.n1 c.n2 sheet f i j (row_on c F d l) (column-on c F d l)) e le
        ∙ turned-data c F d l (cell_of c.n2 sheet) e le ∙ sym (packed-turned e le))))
      where
        i : ℕ
        i = data_cell c d / c.n2

        j : ℕ
        j = data_cell c d % c.n2

        y : Bits
        y = data_bits (data_size c) (turned_data c d (packed_data c (cell_of c.n2 sheet)))
