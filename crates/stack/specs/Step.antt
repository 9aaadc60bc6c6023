-- One sheet of a stack after the other.
--
--   Sized c n l               the three buffers have the lengths of a stack of n sheets
--   read_left o               what the read of one sheet leaves in its three places: the sheet, its numbers and its data
--   stepped plan c n i l      the buffers l with sheet i of n read
--   partly plan c n i l       the buffers l with the first i of n sheets read
use Rattle.std.specs.Prelude.{ℕ, ◌*◌, ◌≡◌, List, length}
use Rattle.stackform.specs.Stack.{header_end, sheet_place}
use Rattle.stackform.specs.Parts.{part, replaced, laid}
use Rattle.boxcode.specs.Code.{Code}
use Rattle.buffers.specs.Buffers.{numbers_size}
use Rattle.reader.specs.Read.{Outcome, read_outcome}
use Rattle.stack.specs.ReadStack.{sheet_size, data_bytes, bits_at, number_bytes, Lent, lent}

pub record Sized (c : Code) (n : ℕ) (l : Lent) : Type 0 where
  pub stack_size : length l.stack ≡ sheet_place (sheet_size c) n n
  pub numbers_len : length l.numbers ≡ n * numbers_size
  pub bits_size : length l.bits ≡ n * data_bytes c

abbrev pub read_left : Outcome → Lent
read_left o = lent o.sheet (number_bytes o) o.bits

-- the read of the sheet that lies there, of a stack of n
abbrev pub read_in : (plan : List ℕ) → Code → ℕ → (stack bits : List ℕ) → ℕ → Outcome
read_in plan c n s b i = read_outcome plan (part s (sheet_place (sheet_size c) n i) (sheet_size c)) (bits_at c b i)

unfoldable pub stepped : (plan : List ℕ) → Code → (n i : ℕ) → Lent → Lent
stepped plan c n i l =
    let o = read_in plan c n l.stack l.bits i in
    lent (replaced l.stack (sheet_place (sheet_size c) n i) (sheet_size c) o.sheet) (replaced l.numbers (i * numbers_size) numbers_size (number_bytes o))
    (replaced l.bits (i * data_bytes c) (data_bytes c) o.bits)

unfoldable pub partly : (plan : List ℕ) → Code → (n i : ℕ) → Lent → Lent
partly plan c n i l =
    let read = read_in plan c n l.stack l.bits in
    lent (laid (header_end n) (sheet_size c) i (λ j. (read j).sheet) l.stack) (laid 0 numbers_size i (λ j. number_bytes (read j)) l.numbers)
    (laid 0 (data_bytes c) i (λ j. (read j).bits) l.bits)
