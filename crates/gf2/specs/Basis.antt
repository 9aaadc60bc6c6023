-- A basis by leading digit: a list of 64 words, of which word k is 0 or has digit k as its leading digit.
--
--   empty_words       the words of the empty basis
--   top v             the place of the leading digit of v
--   lowered b v       v with the word at its leading digit taken off
--   reduced b v       what is left of v when that is done as long as it makes v smaller
--   inserted b v      the words b with v at the place of its leading digit
--
-- All are defined for any list of words. The laws are in proofs/Reduction.antt and proofs/Basis.antt.
use Rattle.std.specs.Prelude.{ℕ, zero, suc, ◌-◌, cond, List, ltb, get_or, set, replicate}
use Rattle.std.specs.Int.Count.{count_leading_zeros}
use Rattle.gf2.specs.Xor.{◌⊕◌}

unfoldable pub empty_words : List ℕ
empty_words = replicate 64 0

unfoldable pub top : ℕ → ℕ
top v = 63 - count_leading_zeros 64 v

unfoldable pub lowered : List ℕ → ℕ → ℕ
lowered b v = v ⊕ get_or b (top v) 0

-- at most n times
unfoldable pub settled : ℕ → List ℕ → ℕ → ℕ
settled zero b v = v
settled (suc n) b v = cond (ltb (lowered b v) v) (settled n b (lowered b v)) v

-- v gets smaller each time, so v times are enough
unfoldable pub reduced : List ℕ → ℕ → ℕ
reduced b v = settled v b v

unfoldable pub inserted : List ℕ → ℕ → List ℕ
inserted b v = set b (top v) v
