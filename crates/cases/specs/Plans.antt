-- The small plans of document 01, as bytes.
--
--   le16, le32     a number in two and in four bytes, low byte first
--   plan_bytes     a plan from its numbers, its two tables and its check list, with the offsets and length by the rule and t = 0
--   S, T           the plans S and T, here with any tables and check list
use Rattle.std.specs.Prelude.{ℕ, ◌+◌, ◌*◌, ◌/◌, ◌%◌, List, [], ◌∷◌, ◌++◌, length}

le16 : ℕ → List ℕ
le16 n = n % 256 ∷ n / 256 % 256 ∷ []

le32 : ℕ → List ℕ
le32 n = n % 256 ∷ n / 256 % 256 ∷ n / 65536 % 256 ∷ n / 16777216 % 256 ∷ []

encoded : (ℕ → List ℕ) → List ℕ → List ℕ
encoded f [] = []
encoded f (x ∷ xs) = f x ++ encoded f xs

-- the check list as row, column, row, column, …
unfoldable pub plan_bytes : (n1 n2 b1 b2 rv rh : ℕ) → (rows columns checks : List ℕ) → List ℕ
unfolding le16 le32 encoded
plan_bytes n1 n2 b1 b2 rv rh rows columns checks =
    let start = 22 + 4 * length rows in
    let list = start + 4 * length columns in
    let end = list + 2 * length checks in
    encoded le16 (n1 ∷ n2 ∷ b1 ∷ b2 ∷ rv ∷ rh ∷ 22 ∷ start ∷ list ∷ end ∷ 0 ∷ [])
    ++ (encoded le32 rows ++ (encoded le32 columns ++ encoded le16 checks))

-- S: 3 rows, 3 columns, bursts of one cell
unfoldable pub plan_s : (rows columns checks : List ℕ) → List ℕ
unfolding plan_bytes
plan_s rows columns checks = plan_bytes 3 3 1 1 2 2 rows columns checks

-- T: 2 rows, 4 columns, bursts of one row and two columns
unfoldable pub plan_t : (columns : List ℕ) → List ℕ
unfolding plan_bytes
plan_t columns = plan_bytes 2 4 1 2 4 2 (1 ∷ 2 ∷ 4 ∷ 8 ∷ []) columns (0 ∷ 0 ∷ 0 ∷ 1 ∷ 0 ∷ 2 ∷ 0 ∷ 3 ∷ 1 ∷ 0 ∷ 1 ∷ 1 ∷ [])

unfoldable pub S : List ℕ
unfolding plan_s
S = plan_s (1 ∷ 2 ∷ 3 ∷ []) (0 ∷ 1 ∷ 2 ∷ []) (0 ∷ 0 ∷ 0 ∷ 1 ∷ 0 ∷ 2 ∷ 1 ∷ 0 ∷ [])

unfoldable pub T : List ℕ
unfolding plan_t
T = plan_t (0 ∷ 0 ∷ 1 ∷ 2 ∷ [])
