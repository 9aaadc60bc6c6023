-- The read of a stack, and what each sheet of it gets:
--
--   told-as                    the answer is that of the checks
--   stack-refuses              where they refuse, no buffer is changed
--   stack-reads                where they pass, the answer is 0, and each sheet's read is in its place
--   frame-stays                what a call leaves has the header and the lengths of what it was lent
--   sheet-after, numbers_after, bits-after
--                              where the checks pass: sheet i after the call, its numbers and its data are those of its read alone
--   same-checks                the checks answer by the plan, the header and the lengths only
--
-- Assumes nothing.
use mathlib.Core.Path.{◌≡◌, refl, sym, ap, ◌∙◌}
use mathlib.Core.Bool.{Bool, not}
use mathlib.Core.List.{List, []}
use Prim.Native.Nat.{ℕ, ◌+◌, ◌*◌, ◌<◌}
use native.Mathlib.Nat.{zero-add}
use native.Mathlib.Decide.{ℕ_discrete}
use native.Mathlib.Omega.{arith}
use lib.Dec.{eqb}
use lib.ListN.{length, take, length-append}
use lib.Seq.{length-take-le, take_at}
use Rattle.layout.specs.Joined.{joined}
use Rattle.layout.proofs.Joined.{joined_length}
use Rattle.stackform.specs.Stack.{sheet_count, header_end, sheet_place}
use Rattle.stackform.specs.Parts.{part}
use Rattle.stackform.proofs.Parts.{joined-part}
use Rattle.stackform.proofs.Header.{same_count, same-broken}
use Rattle.plan.specs.declared.verdict.Verdict.{Verdict}
use Rattle.plan.specs.Verdict.{accepted, refusal, verdict_if, ◌or_else◌}
use Rattle.plan.specs.Bytes.{code_of}
use Rattle.accept.specs.Verdict.{plan_verdict}
use Rattle.buffers.specs.Buffers.{numbers_size, length_verdict}
use Rattle.stack.specs.ReadStack.{sheet_size, data_bytes, sheet_at, numbers_at, bits_at, stack_checks, read_alone, number_bytes, Lent, lent, SameFrame, each_read}
use Rattle.stack.specs.ReadStack.{StackRead, stack_read, read_stack}
use Rattle.stack.proofs.Passing.{StackFits, stack-zero, stacks-pass, sized, refuses, reads}
use Rattle.stack.proofs.Numbers.{numbers-length}
use Rattle.stack.proofs.Steps.{read-sheet, read-bits}

-- ---- strings joined from the first byte on

first-string : (size n : ℕ) (f : ℕ → List ℕ) → ((i : ℕ) → i < n → length (f i) ≡ size) → (i : ℕ) → i < n → part (joined n f) (i * size) size ≡ f i
first-string size n f h i l = ap (λ (k : ℕ). part (joined n f) k size) (sym (zero-add (i * size))) ∙ joined-part [] size n f h i l

-- ---- each sheet's read in its place

module _ (plan stack numbers bits : List ℕ) (F : StackFits plan stack numbers bits) where
  abbrev n : ℕ
  n = sheet_count stack

  abbrev front : List ℕ
  front = take (header_end n) stack

  read-long : (i : ℕ) → i < n → length (read_alone plan stack bits i).sheet ≡ sheet_size (code_of plan)
  unfolding read_alone
  read-long = read-sheet plan (code_of plan) refl n (lent stack numbers bits) (sized F)

  data-long : (i : ℕ) → i < n → length (read_alone plan stack bits i).bits ≡ data_bytes (code_of plan)
  unfolding read_alone
  data-long = read-bits plan (code_of plan) refl n (lent stack numbers bits) (sized F)

  front_long : length front ≡ header_end n
  unfolding sheet_place
  front_long = let w = F.whole.long in length-take-le (header_end n) stack (omega arith)

  each-frame : SameFrame (lent stack numbers bits) (each_read plan stack bits)
  unfolding each_read sheet_place
  each-frame =
      let a = F.whole.long in
      let b = front_long in
      let u = joined_length (sheet_size (code_of plan)) n (λ i. (read_alone plan stack bits i).sheet) read-long in
      let v = joined_length numbers_size n (λ i. number_bytes (read_alone plan stack bits i)) (λ i l. numbers-length (read_alone plan stack bits i)) in
      let w = joined_length (data_bytes (code_of plan)) n (λ i. (read_alone plan stack bits i).bits) data-long in
      let t = length-append front (joined n (λ i. (read_alone plan stack bits i).sheet)) in
      record {
        header = sym (take_at front (joined n (λ i. (read_alone plan stack bits i).sheet)) (header_end n) b);
        stack_size = omega arith;
        numbers_len = F.numbers_len ∙ sym v;
        bits_size = F.bits_size ∙ sym w;
      }

  each-sheet : (i : ℕ) → i < n → sheet_at (code_of plan) (each_read plan stack bits).stack i ≡ (read_alone plan stack bits i).sheet
  unfolding each_read sheet_place
  each-sheet i l =
      let z = sheet_size (code_of plan) in
      let s = (each_read plan stack bits).stack in
      ap (λ (m : ℕ). part s (header_end m + i * z) z) (sym (same_count stack s each-frame.header))
      ∙ ap (λ (k : ℕ). part s (k + i * z) z) (sym front_long)
      ∙ joined-part front z n (λ i. (read_alone plan stack bits i).sheet) read-long i l

  each-numbers : (i : ℕ) → i < n → numbers_at (each_read plan stack bits).numbers i ≡ number_bytes (read_alone plan stack bits i)
  unfolding each_read
  each-numbers =
      first-string numbers_size n (λ i. number_bytes (read_alone plan stack bits i)) (λ i l. numbers-length (read_alone plan stack bits i))

  each_bits : (i : ℕ) → i < n → bits_at (code_of plan) (each_read plan stack bits).bits i ≡ (read_alone plan stack bits i).bits
  unfolding each_read
  each_bits = first-string (data_bytes (code_of plan)) n (λ i. (read_alone plan stack bits i).bits) data-long

-- ---- the read of the stack

module _ (plan stack numbers bits : List ℕ) where
  pub told-as : (read_stack plan stack numbers bits).verdict ≡ stack_checks plan stack numbers bits
  unfolding read_stack
  told-as = refl

  pub stack-refuses : ((stack_checks plan stack numbers bits).number ≡ 0 → ⊥)
      → read_stack plan stack numbers bits ≡ stack_read (stack_checks plan stack numbers bits) (lent stack numbers bits)
  stack-refuses h = sym (refuses plan stack numbers bits (stack_checks plan stack numbers bits) refl h)

  pub stack-reads : (stack_checks plan stack numbers bits).number ≡ 0 → read_stack plan stack numbers bits ≡ stack_read accepted (each_read plan stack bits)
  stack-reads e =
      let passes = stacks-pass plan stack numbers bits (stack-zero plan stack numbers bits e) in
      sym (reads plan stack numbers bits accepted (sym passes) refl (each_read plan stack bits) refl)

  pub frame-stays : SameFrame (lent stack numbers bits) (read_stack plan stack numbers bits).left
  frame-stays = go (ℕ_discrete (stack_checks plan stack numbers bits).number 0)
    where
      go : Dec ((stack_checks plan stack numbers bits).number ≡ 0) → SameFrame (lent stack numbers bits) (read_stack plan stack numbers bits).left
      go (yes e) = rw (stack-reads e) (each-frame plan stack numbers bits (stack-zero plan stack numbers bits e))
      go (no h) = rw (stack-refuses h) record { header = refl; stack_size = refl; numbers_len = refl; bits_size = refl }

  module _ (e : (stack_checks plan stack numbers bits).number ≡ 0) (i : ℕ) (l : i < sheet_count stack) where
    left-each : (read_stack plan stack numbers bits).left ≡ each_read plan stack bits
    left-each = ap (λ (r : StackRead). r.left) (stack-reads e)

    pub sheet-after : sheet_at (code_of plan) (read_stack plan stack numbers bits).left.stack i ≡ (read_alone plan stack bits i).sheet
    sheet-after =
        ap (λ (r : Lent). sheet_at (code_of plan) r.stack i) left-each
        ∙ each-sheet plan stack numbers bits (stack-zero plan stack numbers bits e) i l

    pub numbers_after : numbers_at (read_stack plan stack numbers bits).left.numbers i ≡ number_bytes (read_alone plan stack bits i)
    numbers_after =
        ap (λ (r : Lent). numbers_at r.numbers i) left-each ∙ each-numbers plan stack numbers bits (stack-zero plan stack numbers bits e) i l

    pub bits-after : bits_at (code_of plan) (read_stack plan stack numbers bits).left.bits i ≡ (read_alone plan stack bits i).bits
    bits-after =
        ap (λ (r : Lent). bits_at (code_of plan) r.bits i) left-each ∙ each_bits plan stack numbers bits (stack-zero plan stack numbers bits e) i l

-- ---- two runs

-- the checks, by the count, whether the stack breaks the rules, and the lengths of the two other buffers
abbrev told : (plan : List ℕ) → (n : ℕ) → Bool → (numbers bits : ℕ) → Verdict
told plan n b x y =
    plan_verdict plan or_else verdict_if b (refusal 20 0 0) or_else verdict_if (not (eqb x (n * numbers_size))) (refusal 21 0 0)
    or_else verdict_if (not (eqb y (n * data_bytes (code_of plan)))) (refusal 12 0 0)

pub same-checks : (plan : List ℕ) (k l : Lent) → SameFrame k l
    → stack_checks plan k.stack k.numbers k.bits ≡ stack_checks plan l.stack l.numbers l.bits
unfolding stack_checks length_verdict
same-checks plan k l O =
    let u = same_count k.stack l.stack O.header in
    let v = same-broken k.stack l.stack O.header O.stack_size (sheet_size (code_of plan)) in
    let x = O.numbers_len in
    let y = O.bits_size in
    λ j. told plan (u j) (v j) (x j) (y j)
