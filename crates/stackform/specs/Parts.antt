-- Parts of a string of bytes, as the sheets of a stack, their numbers and their data are of their buffers.
--
--   part s a k            the k bytes of s from place a on
--   replaced s a k t      s with t in their place
--   laid a size n f s     s with its first n parts of size bytes from place a on replaced by f 0, f 1, and so on
use Rattle.std.specs.Prelude.{ℕ, ◌+◌, ◌*◌, List, ◌++◌, take, drop}
use Rattle.layout.specs.Joined.{joined}

unfoldable pub part : List ℕ → (a k : ℕ) → List ℕ
part s a k = take k (drop a s)

unfoldable pub replaced : List ℕ → (a k : ℕ) → List ℕ → List ℕ
replaced s a k t = take a s ++ (t ++ drop k (drop a s))

unfoldable pub laid : (a size n : ℕ) → (ℕ → List ℕ) → List ℕ → List ℕ
laid a size n f s = take a s ++ (joined n f ++ drop (a + n * size) s)
