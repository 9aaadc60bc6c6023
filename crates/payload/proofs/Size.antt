-- Places of bytes:
--
--   place_inside  the byte of a data bit stands in the data
--
-- Assumes nothing.
use mathlib.Core.Path.{◌≡◌}
use Prim.Native.Nat.{ℕ, ◌<◌}
use native.Mathlib.Omega.{arith}
use Rattle.layout.specs.Cells.{row_bytes, sheet_bytes, byte_of}
use Rattle.layout.proofs.Form.{byte_inside, row-sheet}

pub place_inside : (k d n : ℕ) → n ≡ row_bytes k → d < k → byte_of k 0 d < n
place_inside k d n e l =
    let b : byte_of k 0 d < sheet_bytes 1 k = byte_inside k d l 1 0 (omega arith) in
    let f : sheet_bytes 1 k ≡ row_bytes k = row-sheet k in
    omega arith
