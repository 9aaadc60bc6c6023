-- A stack of sheets in bytes (document 02, request h): a header, and then the sheets, in the header's order and without gaps. All numbers
-- are low byte first; a sheet has size bytes.
--
--   sheet_count s          the count: how many sheets the stack holds, 16 bits
--   room_of s i            the room of sheet i: 16 bits
--   offset_of s i          its offset from the stack's first byte: 32 bits
--   header_end n           where the header of n sheets ends
--   sheet_place size n i   where sheet i of n begins: after the header and the sheets before it
--   entry_broken size n s i what the header tells of sheet i breaks the rules: its room is over 1, or its offset is not where it begins
--   stack_broken size s    the stack breaks the rules: it has no count, or one over 64, or does not end after the last sheet, or the header
--                          breaks them for a sheet
use Rattle.std.specs.Prelude.{ℕ, ◌+◌, ◌*◌, Bool, not, ◌||◌, List, eqb, ltb, length}
use Rattle.finite.specs.Search.{any_below}
use Rattle.layout.specs.Number.{u16_at, u32_at}

unfoldable pub sheet_count : List ℕ → ℕ
sheet_count s = u16_at s 0

unfoldable pub room_of : List ℕ → ℕ → ℕ
room_of s i = u16_at s (2 + 6 * i)

unfoldable pub offset_of : List ℕ → ℕ → ℕ
offset_of s i = u32_at s (4 + 6 * i)

unfoldable pub header_end : ℕ → ℕ
header_end n = 2 + 6 * n

unfoldable pub sheet_place : (size n i : ℕ) → ℕ
sheet_place size n i = header_end n + i * size

unfoldable pub entry_broken : (size n : ℕ) → List ℕ → ℕ → Bool
entry_broken size n s i = ltb 1 (room_of s i) || not (eqb (offset_of s i) (sheet_place size n i))

unfoldable pub stack_broken : ℕ → List ℕ → Bool
stack_broken size s =
    let n = sheet_count s in
    ltb (length s) 2 || (ltb 64 n || (not (eqb (length s) (sheet_place size n n)) || any_below n (entry_broken size n s)))
