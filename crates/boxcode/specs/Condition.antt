-- The three conditions on an accepted plan (document 01, "When a plan is accepted"), and the definitions that compute them.
--
--   in_window          a position of the row table lies in a window (01: b1 consecutive courses)
--   row_member         a position of the row table lies in one of two windows
--   column_member      the member (remainder x / b1, r = x % b1) stands on different columns in two strips (01: b2 consecutive needles)
--   column_difference  the exclusive-or of the two H entries of that member
--   Conditions        the conditions on courses, needles and check cells, as 01 words them, and 02 m where t is not 0
--   row_pair_free, column_pair_free   the same for a pair, as computed
use Rattle.std.specs.Prelude.{ℕ, ◌+◌, ◌*◌, ◌/◌, ◌%◌, ◌≤◌, ◌<◌, ◌≡◌, Bool, true, ◌||◌, not, cond, eqb}
use Rattle.gf2.specs.Xor.{◌⊕◌}
use Rattle.gf2.specs.Independence.{Independent, free}
use Rattle.gf2.specs.Sparse.{Apart, IndependentUpTo, apart, free_up_to}
use Rattle.finite.specs.Search.{within, place}
use Rattle.boxcode.specs.Code.{Code, check_joint}

-- position k of the row table belongs to a row of the window at i
abbrev pub in_window : Code → ℕ → ℕ → Bool
in_window c i k = within i c.b1 (k / c.b2)

-- or of the window at i'
unfoldable pub row_member : Code → ℕ → ℕ → ℕ → Bool
row_member c i i' k = in_window c i k || in_window c i' k

-- the H entry, for r = x % b1, of the column with remainder x / b1 in the strip at a
unfoldable pub strip_entry : Code → ℕ → ℕ → ℕ
strip_entry c a x = c.column_entry (place c.b2 a (x / c.b1) * c.b1 + x % c.b1)

-- the remainder x / b1 stands on different columns in the strips at a and a'
unfoldable pub column_member : Code → ℕ → ℕ → ℕ → Bool
column_member c a a' x = not (eqb (place c.b2 a (x / c.b1)) (place c.b2 a' (x / c.b1)))

unfoldable pub column_difference : Code → ℕ → ℕ → ℕ → ℕ
column_difference c a a' x = strip_entry c a x ⊕ strip_entry c a' x

-- every listed check cell is a member
abbrev pub everyone : ℕ → Bool
everyone k = true

pub record Conditions (c : Code) : Type 0 where
  pub rows : c.t ≡ 0 → (i i' : ℕ) → i ≤ i' → i' + c.b1 ≤ c.n1 → Independent (c.n1 * c.b2) (row_member c i i') c.row_entry
  pub columns : c.t ≡ 0 → (a a' : ℕ) → a < a' → a' + c.b2 ≤ c.n2
      → Independent (c.b2 * c.b1) (column_member c a a') (column_difference c a a')
  -- 02 m: no "two different sets of at most t positions, one in each window, with the same V sum"
  pub sparse_rows : 1 ≤ c.t → (i i' : ℕ) → i ≤ i' → i' + c.b1 ≤ c.n1
      → Apart c.t (c.n1 * c.b2) (in_window c i) (in_window c i') c.row_entry
  -- 02 m: no "nonempty set of at most t members with exclusive-or 0"
  pub sparse_columns : 1 ≤ c.t → (a a' : ℕ) → a < a' → a' + c.b2 ≤ c.n2
      → IndependentUpTo c.t (c.b2 * c.b1) (column_member c a a') (column_difference c a a')
  pub checks : Independent (c.rv + c.rh) everyone (check_joint c)

unfoldable pub row_pair_free : Code → ℕ → ℕ → Bool
row_pair_free c i i' =
    cond (eqb c.t 0) (free (c.n1 * c.b2) (row_member c i i') c.row_entry)
    (apart c.t (c.n1 * c.b2) (in_window c i) (in_window c i') c.row_entry)

unfoldable pub column_pair_free : Code → ℕ → ℕ → Bool
column_pair_free c a a' =
    cond (eqb c.t 0) (free (c.b2 * c.b1) (column_member c a a') (column_difference c a a'))
    (free_up_to c.t (c.b2 * c.b1) (column_member c a a') (column_difference c a a'))
