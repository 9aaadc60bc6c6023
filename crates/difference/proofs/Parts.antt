-- A part of a string of bytes:
--
--   row-size      row i is as long as a row
--   part_length   a part that lies in the string has its length
--   part-byte     byte k of the part is byte k from its start
--   part_none     the empty part has no bytes
--
-- Assumes nothing.
use mathlib.Core.Path.{◌≡◌, refl, ◌∙◌}
use mathlib.Core.List.{List, []}
use Prim.Native.Nat.{ℕ, ◌+◌, ◌-◌, ◌*◌, ◌<◌}
use native.Mathlib.Nat.{one-mul, add-mul}
use native.Mathlib.Omega.{arith}
use lib.ListN.{length, get_or, drop, length-drop}
use lib.Seq.{length-take-le, get_or-take, get_or-drop}
use Rattle.layout.specs.Cells.{row_bytes}
use Rattle.difference.specs.declared.Part.{Part}
use Rattle.difference.specs.Difference.{row_part, no_part, part_of}
use Rattle.difference.proofs.Outcomes.{Inside}

pub row-size : (n2 i : ℕ) → (row_part n2 i).end - (row_part n2 i).start ≡ row_bytes n2
unfolding row_part
row-size n2 i =
    let e : (i + 1) * row_bytes n2 ≡ i * row_bytes n2 + 1 * row_bytes n2 = add-mul i 1 (row_bytes n2) in
    let f : 1 * row_bytes n2 ≡ row_bytes n2 = one-mul (row_bytes n2) in
    omega arith

module _ (p : Part) (s : List ℕ) where
  pub part_length : Inside p (length s) → length (part_of p s) ≡ p.end - p.start
  unfolding part_of
  part_length I =
      let d : length (drop p.start s) ≡ length s - p.start = length-drop p.start s in
      length-take-le (p.end - p.start) (drop p.start s) (omega (arith, I.ordered, I.within))

  pub part-byte : (k : ℕ) → k < p.end - p.start → get_or (part_of p s) k 0 ≡ get_or s (p.start + k) 0
  unfolding part_of
  part-byte k l = get_or-take (p.end - p.start) (drop p.start s) k 0 l ∙ get_or-drop p.start s k 0

pub part_none : (s : List ℕ) → part_of no_part s ≡ []
unfolding part_of
part_none s = refl
