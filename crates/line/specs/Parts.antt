-- What the function that makes the line asks and promises.
--
--   DataSize plan r           r is small, and where the plan is accepted it is the number of bytes of its data
--   Room                      the buffers have room for the input, for the data of any plan, and for the longest line
use Rattle.std.specs.Prelude.{ℕ, ◌≤◌, ◌≡◌, List, length}
use Rattle.accept.specs.Verdict.{Accepted}
use Rattle.line.specs.Line.{data_bytes}

pub record DataSize (plan : List ℕ) (r : ℕ) : Type 0 where
  pub most : r ≤ 44672
  pub right : Accepted plan → r ≡ data_bytes plan

-- 160 bytes, and two for each byte of data, are enough for a line: a word, six fields of at most 21 bytes, a space and a newline are 130 bytes
pub record Room (input sheet bits out : List ℕ) : Type 0 where
  pub sheet_room : length input ≤ length sheet
  pub bits_room : 44672 ≤ length bits
  pub out_room : 89504 ≤ length out
