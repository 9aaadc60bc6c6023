-- One sheet of a stack after the other:
--
--   sheet-inside, bits_inside  sheet i, and its place in the data buffer, lie in their buffers
--   read-sheet, read-bits      its read leaves both as long as they were
--   partly_none                before the first sheet nothing is changed
--   partly_sized               the buffers keep their lengths
--   partly-next                sheet i read: one sheet more
--   partly-all                 after the last, each sheet's read is in its place
--
-- Assumes nothing.
use mathlib.Core.Path.{◌≡◌, sym, ap, ap₂, ◌∙◌}
use mathlib.Core.List.{List, ◌++◌}
use Prim.Native.Nat.{ℕ, suc, ◌+◌, ◌*◌, ◌≤◌, ◌<◌}
use native.Mathlib.Nat.{zero-add, suc-mul, mul-le-mul_right}
use native.Mathlib.Omega.{arith}
use lib.ListN.{length, take}
use Rattle.layout.specs.Joined.{joined}
use Rattle.layout.specs.declared.stored.Layout.TheVariants.{ByRow}
use Rattle.stackform.specs.Stack.{sheet_count, header_end, sheet_place}
use Rattle.stackform.specs.Parts.{part, replaced, laid}
use Rattle.stackform.proofs.Parts.{part_length, laid_none, laid-length, laid-part, laid_next, laid-all}
use Rattle.boxcode.specs.Code.{Code}
use Rattle.plan.specs.Bytes.{code_of}
use Rattle.buffers.specs.Buffers.{numbers_size}
use Rattle.reader.specs.Read.{Outcome, read_outcome}
use Rattle.reader.proofs.Left.{sheet-length, bits-length}
use Rattle.stack.specs.ReadStack.{sheet_size, data_bytes, number_bytes, Lent, lent, read_alone, each_read}
use Rattle.stack.specs.Step.{Sized, read_in, stepped, partly}
use Rattle.stack.proofs.Numbers.{numbers-length}

-- part i of n lies in as many bytes as n parts have
part-inside : (a size n i : ℕ) → i < n → a + i * size + size ≤ a + n * size
part-inside a size n i l =
    let p : suc i * size ≤ n * size = mul-le-mul_right size l in
    let q = suc-mul i size in
    omega arith

-- strings from the first byte on
module _ (size n i : ℕ) (f : ℕ → List ℕ) (s : List ℕ) (long : length s ≡ n * size) (l : i < n)
    (each : (j : ℕ) → j < i → length (f j) ≡ size) where
  room : 0 + i * size + size ≤ length s
  room = let b = part-inside 0 size n i l in omega arith

  first_part : part (laid 0 size i f s) (i * size) size ≡ part s (i * size) size
  first_part =
      ap (λ (k : ℕ). part (laid 0 size i f s) k size) (sym (zero-add (i * size)))
      ∙ laid-part 0 size i f s each room
      ∙ ap (λ (k : ℕ). part s k size) (zero-add (i * size))

  first_next : replaced (laid 0 size i f s) (i * size) size (f i) ≡ laid 0 size (suc i) f s
  first_next = ap (λ (k : ℕ). replaced (laid 0 size i f s) k size (f i)) (sym (zero-add (i * size))) ∙ laid_next 0 size i f s each room

module _ (plan : List ℕ) (c : Code) (is : c ≡ code_of plan) (n : ℕ) (b : Lent) (S : Sized c n b) where
  abbrev read : ℕ → Outcome
  read j = read_in plan c n b.stack b.bits j

  pub sheet-inside : (i : ℕ) → i < n → sheet_place (sheet_size c) n i + sheet_size c ≤ length b.stack
  unfolding sheet_place
  sheet-inside i l = let q = part-inside (header_end n) (sheet_size c) n i l in let e = S.stack_size in omega arith

  pub bits_inside : (i : ℕ) → i < n → i * data_bytes c + data_bytes c ≤ length b.bits
  bits_inside i l = let q = part-inside 0 (data_bytes c) n i l in let e = S.bits_size in omega arith

  pub read-sheet : (i : ℕ) → i < n → length (read i).sheet ≡ sheet_size c
  read-sheet i l =
      let e = ap (λ (d : Code). sheet_size d) is in
      sheet-length ByRow plan _ _ (part_length b.stack (sheet_place (sheet_size c) n i) (sheet_size c) (sheet-inside i l) ∙ e) ∙ sym e

  pub read-bits : (i : ℕ) → i < n → length (read i).bits ≡ data_bytes c
  read-bits i l =
      let e = ap (λ (d : Code). data_bytes d) is in
      bits-length ByRow plan _ _ (part_length b.bits (i * data_bytes c) (data_bytes c) (bits_inside i l) ∙ e) ∙ sym e

  pub partly_none : b ≡ partly plan c n 0 b
  unfolding partly
  partly_none =
      let u = laid_none (header_end n) (sheet_size c) (λ j. (read j).sheet) b.stack in
      let v = laid_none 0 numbers_size (λ j. number_bytes (read j)) b.numbers in
      let w = laid_none 0 (data_bytes c) (λ j. (read j).bits) b.bits in
      λ k. lent (u k) (v k) (w k)

  pub partly_sized : (i : ℕ) → i ≤ n → Sized c n (partly plan c n i b)
  unfolding partly sheet_place
  partly_sized i l =
      let p : i * sheet_size c ≤ n * sheet_size c = mul-le-mul_right (sheet_size c) l in
      let q : i * data_bytes c ≤ n * data_bytes c = mul-le-mul_right (data_bytes c) l in
      let e = S.stack_size in
      let f = S.numbers_len in
      let g = S.bits_size in
      record {
        stack_size = laid-length (header_end n) (sheet_size c) i (λ j. (read j).sheet) b.stack (λ j lj. read-sheet j (omega arith)) (omega arith) ∙ e;
        numbers_len = laid-length 0 numbers_size i (λ j. number_bytes (read j)) b.numbers (λ j lj. numbers-length (read j)) (omega arith) ∙ f;
        bits_size = laid-length 0 (data_bytes c) i (λ j. (read j).bits) b.bits (λ j lj. read-bits j (omega arith)) (omega arith) ∙ g;
      }

  module _ (i : ℕ) (l : i < n) where
    -- sheet i is still what it was
    same_read : (let p = partly plan c n i b in read_in plan c n p.stack p.bits i) ≡ read i
    unfolding partly sheet_place
    same_read =
        let u = laid-part (header_end n) (sheet_size c) i (λ j. (read j).sheet) b.stack (λ j lj. read-sheet j (omega arith)) (sheet-inside i l) in
        let v = first_part (data_bytes c) n i (λ j. (read j).bits) b.bits S.bits_size l (λ j lj. read-bits j (omega arith)) in
        ap₂ (read_outcome plan) u v

    pub partly-next : stepped plan c n i (partly plan c n i b) ≡ partly plan c n (suc i) b
    unfolding stepped partly sheet_place
    partly-next =
        let e = same_read in
        let p = partly plan c n i b in
        let u = ap (λ (o : Outcome). replaced p.stack (header_end n + i * sheet_size c) (sheet_size c) o.sheet) e
        ∙ laid_next (header_end n) (sheet_size c) i (λ j. (read j).sheet) b.stack (λ j lj. read-sheet j (omega arith)) (sheet-inside i l) in
        let v = ap (λ (o : Outcome). replaced p.numbers (i * numbers_size) numbers_size (number_bytes o)) e
        ∙ first_next numbers_size n i (λ j. number_bytes (read j)) b.numbers S.numbers_len l (λ j lj. numbers-length (read j)) in
        let w = ap (λ (o : Outcome). replaced p.bits (i * data_bytes c) (data_bytes c) o.bits) e
        ∙ first_next (data_bytes c) n i (λ j. (read j).bits) b.bits S.bits_size l (λ j lj. read-bits j (omega arith)) in
        λ k. lent (u k) (v k) (w k)

  -- each sheet's read in its place, by the code and the count of that name
  abbrev placed : Code → ℕ → Lent
  placed d m =
      let r = read_in plan d m b.stack b.bits in
      lent (take (header_end m) b.stack ++ joined m (λ j. (r j).sheet)) (joined m (λ j. number_bytes (r j))) (joined m (λ j. (r j).bits))

  pub partly-all : n ≡ sheet_count b.stack → partly plan c n n b ≡ each_read plan b.stack b.bits
  unfolding partly each_read read_alone sheet_place
  partly-all e =
      let u = laid-all (header_end n) (sheet_size c) n (λ j. (read j).sheet) b.stack S.stack_size in
      let v = laid-all 0 numbers_size n (λ j. number_bytes (read j)) b.numbers (S.numbers_len ∙ sym (zero-add (n * numbers_size))) in
      let w = laid-all 0 (data_bytes c) n (λ j. (read j).bits) b.bits (S.bits_size ∙ sym (zero-add (n * data_bytes c))) in
      let h : partly plan c n n b ≡ placed c n = λ k. lent (u k) (v k) (w k) in
      h ∙ ap₂ placed is e
