-- A run in bytes:
--
--   put-more, take_more       one cell more
--   put-length, take-length   the number of bytes is kept
--   reaches                   the cells and bits of a cursor's run stand in the buffers
--
-- Assumes nothing.
use mathlib.Core.Path.{◌≡◌, refl, sym, ap, ◌∙◌}
use mathlib.Core.Bool.{Bool}
use mathlib.Core.List.{List}
use Prim.Native.Nat.{ℕ, zero, suc, ◌+◌, ◌<◌}
use native.Mathlib.Numerals.{add-one}
use native.Mathlib.Omega.{arith}
use lib.ListN.{length}
use Rattle.layout.specs.Cells.{row_bytes, cell_of, turned_if}
use Rattle.layout.specs.Stored.{size_in, cell_in, turned_in}
use Rattle.layout.specs.declared.stored.Layout.{Layout}
use Rattle.layout.proofs.Layouts.{in-turned-length}
use Rattle.layout.proofs.Turned.{turned-if-length}
use Rattle.boxcode.specs.Code.{Code, Formed}
use Rattle.boxcode.specs.Check.{data_size}
use Rattle.boxcode.proofs.Check.{sheet-cells}
use Rattle.position.specs.declared.cursor.Cursor.{Cursor}
use Rattle.position.specs.Walk.{run_length, bit_at, At}
use Rattle.position.proofs.Before.{ends-most}
use Rattle.position.proofs.Stand.{run-column, run_room, run-below}
use Rattle.payload.specs.Transfer.{put_run, take_run, Reaches}
use Rattle.payload.proofs.Size.{place_inside}

module _ (lay : Layout) (k n1 n2 : ℕ) (bits sheet : List ℕ) (r : Cursor) where
  -- one cell more, of what the code holds: b is the number of the data bit, and dark the cell or the bit
  pub put-more : (j b : ℕ) (dark : Bool) (old new : List ℕ) → b ≡ bit_at r j → dark ≡ cell_of k bits 0 b → old ≡ put_run j k bits lay n1 n2 sheet r
      → new ≡ turned_in dark lay n1 n2 old r.row (r.column + j) → new ≡ put_run (j + 1) k bits lay n1 n2 sheet r
  unfolding put_run
  put-more j b dark old new eb ed eo e = e ∙ rw (add-one j, eo, ed, eb)

  pub take_more : (j b : ℕ) (dark : Bool) (old new : List ℕ) → b ≡ bit_at r j → dark ≡ cell_in lay n1 n2 sheet r.row (r.column + j)
      → old ≡ take_run j lay n1 n2 sheet k bits r → new ≡ turned_if dark k old 0 b → new ≡ take_run (j + 1) lay n1 n2 sheet k bits r
  unfolding take_run
  take_more j b dark old new eb ed eo e = e ∙ rw (add-one j, eo, ed, eb)

  pub put-length : (j : ℕ) → length (put_run j k bits lay n1 n2 sheet r) ≡ length sheet
  unfolding put_run
  put-length zero = refl
  put-length (suc j) =
      in-turned-length (cell_of k bits 0 (bit_at r j)) lay n1 n2 (put_run j k bits lay n1 n2 sheet r) r.row (r.column + j) ∙ put-length j

  pub take-length : (j : ℕ) → length (take_run j lay n1 n2 sheet k bits r) ≡ length bits
  unfolding take_run
  take-length zero = refl
  take-length (suc j) =
      turned-if-length (cell_in lay n1 n2 sheet r.row (r.column + j)) k (take_run j lay n1 n2 sheet k bits r) 0 (bit_at r j) ∙ take-length j

pub reaches : (lay : Layout) (c : Code) (F : Formed c) (r : Cursor) → At c r → r.row < c.n1 → (k bits n2 sheet len : ℕ) → k ≡ data_size c
    → bits ≡ row_bytes (data_size c) → n2 ≡ c.n2 → sheet ≡ size_in lay c.n1 c.n2 → len ≡ run_length c.n2 r → Reaches k bits lay c.n1 n2 sheet len r
unfolding data_size
reaches lay c F r A l k bits n2 sheet len ek eb en es el =
    let m = sheet-cells F.n1_most F.n2_most in
    let d = run-column c F r A l in
    record {
      k_most = omega arith;
      sizes = record { n1_most = F.n1_most; n2_most = omega (arith, F.n2_most) };
      sheet_len = rw en es;
      ends_most = let e = ends-most c F r.row A.row_most in omega (arith, A.ends_is);
      row_below = l;
      column_most = omega arith;
      room = λ j b. run_room c F r A l j (omega arith);
      bit_in = λ j b. place_inside k (bit_at r j) bits (eb ∙ ap row_bytes (sym ek)) (let w = run-below c F r A l j (omega arith) in omega arith);
    }
