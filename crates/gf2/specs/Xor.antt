-- Exclusive-or of numbers, as vectors over the field of two elements.
--
--   a ⊕ b      the exclusive-or of a and b
--   pick t x   x where t is true, else 0
use Rattle.std.specs.Prelude.{ℕ, Bool, true, false}
use Rattle.std.specs.Int.Bits.{bit_xor}

infixl 60 ◌⊕◌
-- the exclusive-or of two numbers, digit by digit; shut, so that laws and not digits are used
unfoldable pub ◌⊕◌ : ℕ → ℕ → ℕ
a ⊕ b = bit_xor a b

-- the number where it is chosen, and 0 where it is not
unfoldable pub pick : Bool → ℕ → ℕ
pick true x = x
pick false x = 0
