-- The parts of the three buffers that are lent for sheet i, and what comes back:
--
--   cut-part     the bytes from a up to a + m are the part of m bytes
--   put-part     others in their place
--   step-taken   the three places of sheet i, with what its read leaves in them: the buffers with sheet i read
--
-- Assumes nothing.
use mathlib.Core.Path.{◌≡◌, refl, ap, ap₂, ◌∙◌}
use mathlib.Core.List.{List, ◌++◌}
use Prim.Native.Nat.{ℕ, ◌+◌, ◌-◌, ◌*◌}
use native.Mathlib.Omega.{arith}
use lib.ListN.{take, drop}
use Rattle.stackform.specs.Stack.{sheet_place}
use Rattle.stackform.specs.Parts.{part, replaced}
use Rattle.boxcode.specs.Code.{Code}
use Rattle.buffers.specs.Buffers.{numbers_size}
use Rattle.reader.specs.Read.{read_outcome}
use Rattle.stack.specs.ReadStack.{sheet_size, data_bytes, Lent, lent}
use Rattle.stack.specs.Step.{read_left, read_in, stepped}

module _ (s : List ℕ) (a m a' k : ℕ) (e : a ≡ a') (f : m ≡ k) where
  size : a + m - a ≡ k
  size = omega arith

  pub cut-part : take (a + m - a) (drop a s) ≡ part s a' k
  unfolding part
  cut-part = ap₂ (λ (x y : ℕ). take x (drop y s)) size e

  pub put-part : (t : List ℕ) → take a s ++ (t ++ drop (a + m - a) (drop a s)) ≡ replaced s a' k t
  unfolding replaced
  put-part t = ap₂ (λ (x y : ℕ). take y s ++ (t ++ drop x (drop y s))) size e

module _ (plan : List ℕ) (c : Code) (n i : ℕ) (s t b : List ℕ) (a m k : ℕ) (ea : a ≡ sheet_place (sheet_size c) n i) (em : m ≡ sheet_size c)
    (ek : k ≡ data_bytes c) where
  pub step-taken : (x : Lent)
      → x ≡ read_left (read_outcome plan (take (a + m - a) (drop a s)) (take (i * k + k - i * k) (drop (i * k) b)))
      → let z = numbers_size in
      lent (take a s ++ (x.stack ++ drop (a + m - a) (drop a s))) (take (i * z) t ++ (x.numbers ++ drop (i * z + z - i * z) (drop (i * z) t)))
      (take (i * k) b ++ (x.bits ++ drop (i * k + k - i * k) (drop (i * k) b)))
      ≡ stepped plan c n i (lent s t b)
  unfolding stepped
  step-taken x h =
      let p = sheet_place (sheet_size c) n i in
      let g = ap (λ (y : ℕ). i * y) ek in
      let e : x ≡ read_left (read_in plan c n s b i) =
      h
      ∙ ap₂ (λ (u v : List ℕ). read_left (read_outcome plan u v)) (cut-part s a m p (sheet_size c) ea em)
      (cut-part b (i * k) k (i * data_bytes c) (data_bytes c) g ek) in
      let u = put-part s a m p (sheet_size c) ea em x.stack ∙ ap (λ (y : Lent). replaced s p (sheet_size c) y.stack) e in
      let z = numbers_size in
      let v = put-part t (i * z) z (i * z) z refl refl x.numbers ∙ ap (λ (y : Lent). replaced t (i * z) z y.numbers) e in
      let w = put-part b (i * k) k (i * data_bytes c) (data_bytes c) g ek x.bits
      ∙ ap (λ (y : Lent). replaced b (i * data_bytes c) (data_bytes c) y.bits) e in
      λ j. lent (u j) (v j) (w j)
