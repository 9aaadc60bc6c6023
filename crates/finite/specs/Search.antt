-- Small searches and counts over the numbers below a bound, and digits of a number.
--
--   bit x k          digit k of x is 1
--   number_of n p    the number below 2 to the power n whose digit k is 1 where p k holds
--   within a m x     x is one of the m numbers from a on
--   any_below n p    p holds at some k below n
--   count_below n p  at how many k below n p holds
--   few t n          n is at most t; where t is 0, any n is (02 m)
--   least n p        the first k below n at which p holds, or n where there is none
--   first_of n p     the first k below n at which p holds, or 0 where there is none
--   past_of n p      one more than the last k below n at which p holds, or 0 where there is none
--   place b a r      the number among the b numbers from a on whose remainder modulo b is r (r below b)
use Rattle.std.specs.Prelude.{ℕ, zero, suc, ◌+◌, ◌-◌, ◌*◌, ◌/◌, ◌%◌, ◌^◌, Bool, false, cond, ◌&&◌, ◌||◌, leb, ltb, eqb}

unfoldable pub bit : ℕ → ℕ → Bool
bit x k = eqb (x / 2 ^ k % 2) 1

unfoldable pub number_of : ℕ → (ℕ → Bool) → ℕ
number_of zero p = 0
number_of (suc n) p = cond (p 0) 1 0 + 2 * number_of n (λ k. p (suc k))

unfoldable pub within : ℕ → ℕ → ℕ → Bool
within a m x = leb a x && ltb x (a + m)

unfoldable pub any_below : ℕ → (ℕ → Bool) → Bool
any_below zero p = false
any_below (suc n) p = any_below n p || p n

unfoldable pub count_below : ℕ → (ℕ → Bool) → ℕ
count_below zero p = 0
count_below (suc n) p = count_below n p + cond (p n) 1 0

unfoldable pub few : ℕ → ℕ → Bool
few t n = eqb t 0 || leb n t

unfoldable pub least : ℕ → (ℕ → Bool) → ℕ
least zero p = 0
least (suc n) p = cond (p 0) 0 (suc (least n (λ k. p (suc k))))

unfoldable pub first_of : ℕ → (ℕ → Bool) → ℕ
first_of zero p = 0
first_of (suc n) p = cond (any_below n p) (first_of n p) (cond (p n) n 0)

unfoldable pub past_of : ℕ → (ℕ → Bool) → ℕ
past_of zero p = 0
past_of (suc n) p = cond (p n) (suc n) (past_of n p)

unfoldable pub place : ℕ → ℕ → ℕ → ℕ
place b a r = a + (r + (b - a % b)) % b
