-- Sets of few members (document 02, request m), and definitions that compute with them.
--
--   Apart t n member member' f   no two different sets of at most t places below n, one of members and one of members', have the same sum
--   IndependentUpTo t n member f no nonempty set of at most t members below n has exclusive-or 0
--   set_of t n member x          the places whose digit in x is 1 are at most t of the members below n
--   apart, free_up_to            the two, computed: over all sets, each by its number
--
-- Equal values at different places are different members, as in Independence.
use Rattle.std.specs.Prelude.{ℕ, ◌^◌, ◌≤◌, ◌<◌, ◌≡◌, Bool, false, ◌&&◌, not, eqb, leb}
use Rattle.finite.specs.Search.{bit, any_below, count_below}
use Rattle.gf2.specs.Sum.{chosen_sum}
use Rattle.gf2.specs.Independence.{Within}

abbrev pub Apart : ℕ → ℕ → (ℕ → Bool) → (ℕ → Bool) → (ℕ → ℕ) → Type 0
Apart t n member member' f =
    (m m' : ℕ → Bool) → Within m member → Within m' member' → count_below n m ≤ t → count_below n m' ≤ t
    → chosen_sum n m f ≡ chosen_sum n m' f → (k : ℕ) → k < n → m k ≡ m' k

abbrev pub IndependentUpTo : ℕ → ℕ → (ℕ → Bool) → (ℕ → ℕ) → Type 0
IndependentUpTo t n member f =
    (m : ℕ → Bool) → Within m member → count_below n m ≤ t → chosen_sum n m f ≡ 0 → (k : ℕ) → k < n → m k ≡ false

unfoldable pub set_of : ℕ → ℕ → (ℕ → Bool) → ℕ → Bool
set_of t n member x = leb (count_below n (bit x)) t && not (any_below n (λ k. bit x k && not (member k)))

unfoldable pub apart : ℕ → ℕ → (ℕ → Bool) → (ℕ → Bool) → (ℕ → ℕ) → Bool
apart t n member member' f =
    not (any_below (2 ^ n) (λ x. any_below (2 ^ n) (λ y.
    (set_of t n member x && set_of t n member' y) && (not (eqb x y) && eqb (chosen_sum n (bit x) f) (chosen_sum n (bit y) f)))))

unfoldable pub free_up_to : ℕ → ℕ → (ℕ → Bool) → (ℕ → ℕ) → Bool
free_up_to t n member f =
    not (any_below (2 ^ n) (λ x. set_of t n member x && (not (eqb x 0) && eqb (chosen_sum n (bit x) f) 0)))
