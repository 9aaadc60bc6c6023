-- The header of a plan (document 01, "Plan bytes"), and where the tables must stand.
--
--   header_length   the number of bytes of the header
--   header_of       the eleven numbers of the header; total is the length of the plan, and t the most cells of a burst (02 m), 0 for any
--   columns_start, checks_start, plan_length   where the column table and the check list begin and the plan ends, by the rule
--   ruled h        the header with the seven numbers of h, and its places and length by the rule
--   Small h        checks 2 to 4 and 23 hold
--   Framed s h     h is the header of the plan s, and checks 1 to 5 and 23 hold: what every later step starts from
use Rattle.std.specs.Prelude.{ℕ, ◌+◌, ◌*◌, ◌≤◌, ◌≡◌, List, length}
use Rattle.layout.specs.Number.{u16_at}
use Rattle.plan.specs.declared.header.Header.{Header}

abbrev pub header_length : ℕ
header_length = 22

unfoldable pub header_of : List ℕ → Header
header_of s = record {
  n1 = u16_at s 0;
  n2 = u16_at s 2;
  b1 = u16_at s 4;
  b2 = u16_at s 6;
  rv = u16_at s 8;
  rh = u16_at s 10;
  rows = u16_at s 12;
  columns = u16_at s 14;
  checks = u16_at s 16;
  total = u16_at s 18;
  t = u16_at s 20;
}

abbrev pub columns_start : Header → ℕ
columns_start h = header_length + 4 * (h.n1 * h.b2)

abbrev pub checks_start : Header → ℕ
checks_start h = columns_start h + 4 * (h.n2 * h.b1)

abbrev pub plan_length : Header → ℕ
plan_length h = checks_start h + 4 * (h.rv + h.rh)

unfoldable pub ruled : Header → Header
ruled h = record {
  n1 = h.n1;
  n2 = h.n2;
  b1 = h.b1;
  b2 = h.b2;
  rv = h.rv;
  rh = h.rh;
  rows = header_length;
  columns = columns_start h;
  checks = checks_start h;
  total = plan_length h;
  t = h.t;
}

-- checks 2 to 4 and 23 hold of a header, and what follows for the sizes of its tables
pub record Small (h : Header) : Type 0 where
  pub b1_pos : 1 ≤ h.b1
  pub b1_most : h.b1 ≤ 4
  pub b2_pos : 1 ≤ h.b2
  pub b2_most : h.b2 ≤ 4
  pub n1_least : h.b1 ≤ h.n1
  pub n1_most : h.n1 ≤ 512
  pub n2_least : h.b2 ≤ h.n2
  pub n2_most : h.n2 ≤ 698
  pub rv_pos : 1 ≤ h.rv
  pub rv_most : h.rv ≤ 32
  pub rh_pos : 1 ≤ h.rh
  pub rh_most : h.rh ≤ 32
  pub t_most : h.t ≤ 2
  pub row_positions : h.n1 * h.b2 ≤ 2048
  pub column_positions : h.n2 * h.b1 ≤ 2792
  pub box_positions : h.b1 * h.b2 ≤ 16

pub record Framed (s : List ℕ) (h : Header) : Type 0 where
  pub is : h ≡ header_of s
  pub small : Small h
  pub rows_at : h.rows ≡ header_length
  pub columns_from : h.columns ≡ columns_start h
  pub checks_at : h.checks ≡ checks_start h
  pub total_at : h.total ≡ plan_length h
  pub long : length s ≡ plan_length h
