-- Strings of bytes one after the other:
--
--   joined_length   n of one size are n times as long
--   joined-equal    those that are equal one by one are equal
--
-- Assumes nothing.
use mathlib.Core.Path.{◌≡◌, refl, sym, ap₂}
use mathlib.Core.List.{List, ◌++◌}
use Prim.Native.Nat.{ℕ, zero, suc, ◌*◌, ◌<◌}
use native.Mathlib.Nat.{zero-mul, suc-mul, lt-suc_self}
use native.Mathlib.Omega.{arith}
use lib.ListN.{length, length-append}
use Rattle.layout.specs.Joined.{joined}

pub joined_length : (size n : ℕ) (f : ℕ → List ℕ) → ((i : ℕ) → i < n → length (f i) ≡ size) → length (joined n f) ≡ n * size
unfolding joined
joined_length size zero f h = sym (zero-mul size)
joined_length size (suc n) f h =
    let u = length-append (joined n f) (f n) in
    let v = joined_length size n f (λ i l. h i (omega arith)) in
    let w = h n (lt-suc_self n) in
    let m = suc-mul n size in
    omega arith

pub joined-equal : (n : ℕ) (f g : ℕ → List ℕ) → ((i : ℕ) → i < n → f i ≡ g i) → joined n f ≡ joined n g
unfolding joined
joined-equal zero f g h = refl
joined-equal (suc n) f g h = ap₂ ◌++◌ (joined-equal n f g (λ i l. h i (omega arith))) (h n (lt-suc_self n))
