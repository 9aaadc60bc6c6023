-- The answer of a call, packed in one 64-bit number (docs/ANSWER.md).
--
--   Fields      the number of the check or 0, its places p and q, and the reader's six numbers
--   fields_of    the fields of the code's struct
--   places_fields   the fields of an answer that has a number and places alone
--   InRange     each field fits its bits
--   Exclusive   a success has no places, a refusal no report
--   place_bits, report_bits   the places one above the other, and the six numbers likewise
--   packed      the number lowest; above it the report where the number is 0, and else the places
--   on_success, on_refusal   a value where the number of an answer is 0, or is not 0; elsewhere 0
--   number_in, p_in, q_in, cells_in, top_in, left_in, height_in, width_in, pattern_in   a field of an answer
--   fields_in    all fields of an answer
--   Carries     each field, taken out of an answer, is that of the fields given; bits 51 to 63 of the answer are 0
--   packed_part           a part of a buffer: the byte where it starts, and its length above
--   place_in, length_in    the start and the length of such an answer
--   PartCarries          both, taken out of an answer, are those given; the answer is below 2 to the power 63
use Rattle.std.specs.Prelude.{◌≡◌, cond, ℕ, ◌+◌, ◌*◌, ◌/◌, ◌%◌, ◌^◌, ◌<◌, eqb}
use Rattle.answer.specs.declared.Answer.{Answer}

pub record Fields : Type 0 where
  pub number : ℕ
  pub p : ℕ
  pub q : ℕ
  pub cells : ℕ
  pub top : ℕ
  pub left : ℕ
  pub height : ℕ
  pub width : ℕ
  pub pattern : ℕ

abbrev pub fields_of : Answer → Fields
fields_of a = record {
  number = a.number;
  p = a.p;
  q = a.q;
  cells = a.cells;
  top = a.top;
  left = a.left;
  height = a.height;
  width = a.width;
  pattern = a.pattern;
}

abbrev pub places_fields : (number p q : ℕ) → Fields
places_fields number p q = record { number = number; p = p; q = q; cells = 0; top = 0; left = 0; height = 0; width = 0; pattern = 0 }

pub record InRange (f : Fields) : Type 0 where
  pub number_fits : f.number < 32
  pub p_fits : f.p < 65536
  pub q_fits : f.q < 4096
  pub cells_fits : f.cells < 32
  pub top_fits : f.top < 512
  pub left_fits : f.left < 1024
  pub height_fits : f.height < 8
  pub width_fits : f.width < 8
  pub pattern_fits : f.pattern < 65536

-- a success has no places, and a refusal no report: so the two may share bits
pub record Exclusive (f : Fields) : Type 0 where
  pub success : f.number ≡ 0 → (f.p ≡ 0) × (f.q ≡ 0)
  pub refusal : (f.number ≡ 0 → ⊥)
      → (f.cells ≡ 0) × (f.top ≡ 0) × (f.left ≡ 0) × (f.height ≡ 0) × (f.width ≡ 0) × (f.pattern ≡ 0)

unfoldable pub place_bits : Fields → ℕ
place_bits f = f.p + 65536 * f.q

unfoldable pub report_bits : Fields → ℕ
report_bits f = f.cells + 32 * (f.top + 512 * (f.left + 1024 * (f.height + 8 * (f.width + 8 * f.pattern))))

unfoldable pub packed : Fields → ℕ
packed f = f.number + 32 * cond (eqb f.number 0) (report_bits f) (place_bits f)

unfoldable pub number_in : ℕ → ℕ
number_in a = a % 32

unfoldable pub on_success : (a x : ℕ) → ℕ
on_success a x = cond (eqb (number_in a) 0) x 0

unfoldable pub on_refusal : (a x : ℕ) → ℕ
on_refusal a x = cond (eqb (number_in a) 0) 0 x

unfoldable pub p_in : ℕ → ℕ
p_in a = on_refusal a (a / 32 % 65536)

unfoldable pub q_in : ℕ → ℕ
q_in a = on_refusal a (a / 2097152 % 4096)

unfoldable pub cells_in : ℕ → ℕ
cells_in a = on_success a (a / 32 % 32)

unfoldable pub top_in : ℕ → ℕ
top_in a = on_success a (a / 1024 % 512)

unfoldable pub left_in : ℕ → ℕ
left_in a = on_success a (a / 524288 % 1024)

unfoldable pub height_in : ℕ → ℕ
height_in a = on_success a (a / 536870912 % 8)

unfoldable pub width_in : ℕ → ℕ
width_in a = on_success a (a / 4294967296 % 8)

unfoldable pub pattern_in : ℕ → ℕ
pattern_in a = on_success a (a / 34359738368 % 65536)

abbrev pub fields_in : ℕ → Fields
fields_in a = record {
  number = number_in a;
  p = p_in a;
  q = q_in a;
  cells = cells_in a;
  top = top_in a;
  left = left_in a;
  height = height_in a;
  width = width_in a;
  pattern = pattern_in a;
}

pub record Carries (a : ℕ) (f : Fields) : Type 0 where
  pub number : number_in a ≡ f.number
  pub p : p_in a ≡ f.p
  pub q : q_in a ≡ f.q
  pub cells : cells_in a ≡ f.cells
  pub top : top_in a ≡ f.top
  pub left : left_in a ≡ f.left
  pub height : height_in a ≡ f.height
  pub width : width_in a ≡ f.width
  pub pattern : pattern_in a ≡ f.pattern
  pub below : a < 2 ^ 51

unfoldable pub packed_part : (start length : ℕ) → ℕ
packed_part start length = start + 4294967296 * length

unfoldable pub place_in : ℕ → ℕ
place_in a = a % 4294967296

unfoldable pub length_in : ℕ → ℕ
length_in a = a / 4294967296

pub record PartCarries (a start length : ℕ) : Type 0 where
  pub place : place_in a ≡ start
  pub size : length_in a ≡ length
  pub below : a < 2 ^ 63
