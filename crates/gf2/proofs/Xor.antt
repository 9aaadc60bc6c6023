-- Laws of exclusive-or and of `pick`. They are named by their shape:
--
--   xor_is, xor_comm, xor_assoc, xor_self, xor_zero_left, xor_zero_right, xor-swap, xor-cancel, xor-back, xor-again,
--   xor_below (a bound by a power of two), parity, pick-xor, pick-zero, pick-below, pick-differ, bit-xor
--
-- Assumes nothing.
use mathlib.Core.Path.{◌≡◌, refl, sym, ap, ap₂, ◌∙◌}
use mathlib.Core.Bool.{Bool, true, false, xor}
use Prim.Native.Nat.{ℕ, zero, suc, ◌+◌, ◌*◌, ◌/◌, ◌%◌, ◌^◌, ◌<◌}
use native.Mathlib.Nat.{mod-lt, zero-lt-suc}
use native.Mathlib.Omega.{arith}
use lib.Bits as bits
use lib.Bits.{bit_xor, differ}
use lib.Arith.{bin_ind}
use lib.Dec.{eqb}
use lib.Pow.{pow_pos}
use Rattle.finite.specs.Search.{bit}
use Rattle.gf2.specs.Xor.{◌⊕◌, pick}

-- what the code's `^` says
pub xor_is : (a b : ℕ) → bit_xor a b ≡ a ⊕ b
unfolding ◌⊕◌
xor_is a b = refl

pub xor_comm : (a b : ℕ) → a ⊕ b ≡ b ⊕ a
unfolding ◌⊕◌
xor_comm a b = bits.xor_comm a b

pub xor_self : (a : ℕ) → a ⊕ a ≡ 0
unfolding ◌⊕◌
xor_self a = bits.xor_self a

pub xor_zero_left : (a : ℕ) → 0 ⊕ a ≡ a
unfolding ◌⊕◌
xor_zero_left a = bits.xor_zero_l a

pub xor_zero_right : (a : ℕ) → a ⊕ 0 ≡ a
unfolding ◌⊕◌
xor_zero_right a = bits.xor_zero_r a

pub xor_below : (k a b : ℕ) → a < 2 ^ k → b < 2 ^ k → a ⊕ b < 2 ^ k
unfolding ◌⊕◌
xor_below k a b = bits.xor_lt k a b

-- one digit
differ-assoc : (x y z : ℕ) → x < 2 → y < 2 → z < 2 → differ (differ x y) z ≡ differ x (differ y z)
differ-assoc zero y z hx hy hz = refl
differ-assoc (suc zero) zero z hx hy hz = refl
differ-assoc (suc zero) (suc zero) zero hx hy hz = refl
differ-assoc (suc zero) (suc zero) (suc zero) hx hy hz = refl
differ-assoc (suc zero) (suc zero) (suc (suc z)) hx hy hz = absurd (omega arith)
differ-assoc (suc zero) (suc (suc y)) z hx hy hz = absurd (omega arith)
differ-assoc (suc (suc x)) y z hx hy hz = absurd (omega arith)

-- the lowest digit
pub parity : (a b : ℕ) → bit_xor a b % 2 ≡ differ (a % 2) (b % 2)
parity a b = go (a % 2) (b % 2) (mod-lt a (zero-lt-suc 1)) (mod-lt b (zero-lt-suc 1)) (bits.xor_step a b)
  where
    go : (x y : ℕ) → x < 2 → y < 2 → bit_xor a b ≡ bit_xor (a / 2) (b / 2) * 2 + differ x y → bit_xor a b % 2 ≡ differ x y
    go zero zero hx hy e = omega arith
    go zero (suc zero) hx hy e = omega arith
    go zero (suc (suc y)) hx hy e = absurd (omega arith)
    go (suc zero) zero hx hy e = omega arith
    go (suc zero) (suc zero) hx hy e = omega arith
    go (suc zero) (suc (suc y)) hx hy e = absurd (omega arith)
    go (suc (suc x)) y hx hy e = absurd (omega arith)

assoc : (a b c : ℕ) → bit_xor (bit_xor a b) c ≡ bit_xor a (bit_xor b c)
assoc a =
    bin_ind (λ (n : ℕ). (b c : ℕ) → bit_xor (bit_xor n b) c ≡ bit_xor n (bit_xor b c)) (λ b c. refl)
    (λ n ih b c.
    bits.xor_step (bit_xor n b) c
    ∙ ap₂ (λ (x y : ℕ). x * 2 + y)
    (ap (λ (x : ℕ). bit_xor x (c / 2)) (bits.xor_shr n b 1) ∙ ih (b / 2) (c / 2)
    ∙ ap (λ (x : ℕ). bit_xor (n / 2) x) (sym (bits.xor_shr b c 1)))
    (ap (λ (x : ℕ). differ x (c % 2)) (parity n b)
    ∙ differ-assoc (n % 2) (b % 2) (c % 2) (mod-lt n (zero-lt-suc 1)) (mod-lt b (zero-lt-suc 1)) (mod-lt c (zero-lt-suc 1))
    ∙ ap (λ (x : ℕ). differ (n % 2) x) (sym (parity b c)))
    ∙ sym (bits.xor_step n (bit_xor b c)))
    a

pub xor_assoc : (a b c : ℕ) → (a ⊕ b) ⊕ c ≡ a ⊕ (b ⊕ c)
unfolding ◌⊕◌
xor_assoc a b c = assoc a b c

-- four numbers, the middle two exchanged
pub xor-swap : (a b c d : ℕ) → (a ⊕ b) ⊕ (c ⊕ d) ≡ (a ⊕ c) ⊕ (b ⊕ d)
xor-swap a b c d =
    xor_assoc a b (c ⊕ d)
    ∙ ap (λ (x : ℕ). a ⊕ x) (sym (xor_assoc b c d) ∙ ap (λ (x : ℕ). x ⊕ d) (xor_comm b c) ∙ xor_assoc c b d)
    ∙ sym (xor_assoc a c (b ⊕ d))

-- adding a number twice changes nothing
pub xor-back : (a b : ℕ) → (a ⊕ b) ⊕ b ≡ a
xor-back a b = xor_assoc a b b ∙ ap (λ (x : ℕ). a ⊕ x) (xor_self b) ∙ xor_zero_right a

pub xor-again : (a b : ℕ) → a ⊕ (a ⊕ b) ≡ b
xor-again a b = sym (xor_assoc a a b) ∙ ap (λ (x : ℕ). x ⊕ b) (xor_self a) ∙ xor_zero_left b

-- two numbers with exclusive-or 0 are equal
pub xor-cancel : (a b : ℕ) → a ⊕ b ≡ 0 → a ≡ b
xor-cancel a b e = sym (xor-back a b) ∙ ap (λ (x : ℕ). x ⊕ b) e ∙ xor_zero_left b

pub pick-zero : (t : Bool) → pick t 0 ≡ 0
unfolding pick
pick-zero true = refl
pick-zero false = refl

pub pick-xor : (t : Bool) (a b : ℕ) → pick t (a ⊕ b) ≡ pick t a ⊕ pick t b
unfolding pick
pick-xor true a b = refl
pick-xor false a b = sym (xor_zero_left 0)

-- chosen by the difference of two choices: the exclusive-or of what each chooses
pub pick-differ : (s t : Bool) (a : ℕ) → pick (xor s t) a ≡ pick s a ⊕ pick t a
unfolding pick xor
pick-differ true true a = sym (xor_self a)
pick-differ true false a = sym (xor_zero_right a)
pick-differ false true a = sym (xor_zero_left a)
pick-differ false false a = sym (xor_zero_left 0)

pub pick-below : (k : ℕ) (t : Bool) (a : ℕ) → a < 2 ^ k → pick t a < 2 ^ k
unfolding pick
pick-below k true a h = h
pick-below k false a h = pow_pos k

-- ---- digits

odd-differ : (p q : ℕ) → p < 2 → q < 2 → eqb (differ p q) 1 ≡ xor (eqb p 1) (eqb q 1)
unfolding xor
odd-differ zero zero hp hq = refl
odd-differ zero (suc zero) hp hq = refl
odd-differ zero (suc (suc q)) hp hq = absurd (omega arith)
odd-differ (suc zero) zero hp hq = refl
odd-differ (suc zero) (suc zero) hp hq = refl
odd-differ (suc zero) (suc (suc q)) hp hq = absurd (omega arith)
odd-differ (suc (suc p)) q hp hq = absurd (omega arith)

pub bit-xor : (a b k : ℕ) → bit (a ⊕ b) k ≡ xor (bit a k) (bit b k)
unfolding bit ◌⊕◌
bit-xor a b k =
    ap (λ (n : ℕ). eqb n 1) (ap (λ (n : ℕ). n % 2) (bits.xor_shr a b k) ∙ parity (a / 2 ^ k) (b / 2 ^ k))
    ∙ odd-differ (a / 2 ^ k % 2) (b / 2 ^ k % 2) (mod-lt (a / 2 ^ k) (zero-lt-suc 1)) (mod-lt (b / 2 ^ k) (zero-lt-suc 1))
