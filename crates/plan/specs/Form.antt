-- The rules of form, checks 1 to 7 of document 01's table and 23 of document 02 (m), each a definition of its own.
--
--   bad_burst, bad_sheet, bad_widths, bad_cells, bad_offsets   checks 2 to 4, 23 (02 m) and 5, over plain numbers
--   sizes_verdict      checks 2 to 4 and 23: the header's seven numbers, which need no plan
--   offsets_verdict    check 5: where the tables stand
--   header_verdict     checks 1 to 5, with 23 after 4
--   first_large        the first position of a table whose entry has too many bits, or the table's size
--   entries_verdict    check 6, of V and then of H
--   bad_pair           a pair of the check list is off the sheet, or not after the one before
--   list_verdict       check 7
--   form_verdict       checks 1 to 7
use Rattle.std.specs.Prelude.{ℕ, ◌+◌, ◌-◌, ◌*◌, ◌^◌, Bool, not, ◌||◌, ◌&&◌, List, leb, ltb, eqb, length}
use Rattle.finite.specs.Search.{least}
use Rattle.boxcode.specs.Code.{Code}
use Rattle.plan.specs.declared.verdict.Verdict.{Verdict}
use Rattle.plan.specs.declared.header.Header.{Header}
use Rattle.plan.specs.Verdict.{refusal, verdict_if, ◌or_else◌}
use Rattle.plan.specs.Header.{header_length, header_of, columns_start, checks_start, plan_length}
use Rattle.plan.specs.Bytes.{code_of}

-- check 2: b1 or b2 is 0 or over 4
unfoldable pub bad_burst : Header → Bool
bad_burst h = eqb h.b1 0 || ltb 4 h.b1 || eqb h.b2 0 || ltb 4 h.b2

-- check 3: n1 < b1, n1 > 512, n2 < b2 or n2 > 698
unfoldable pub bad_sheet : Header → Bool
bad_sheet h = ltb h.n1 h.b1 || ltb 512 h.n1 || ltb h.n2 h.b2 || ltb 698 h.n2

-- check 4: rv or rh is 0 or over 32
unfoldable pub bad_widths : Header → Bool
bad_widths h = eqb h.rv 0 || ltb 32 h.rv || eqb h.rh 0 || ltb 32 h.rh

-- check 23: t is over 2
unfoldable pub bad_cells : Header → Bool
bad_cells h = ltb 2 h.t

-- check 5: an offset, the length field or the true length differs from the rule
unfoldable pub bad_offsets : ℕ → Header → Bool
bad_offsets size h =
    not (eqb h.rows header_length) || not (eqb h.columns (columns_start h)) || not (eqb h.checks (checks_start h))
    || not (eqb h.total (plan_length h)) || not (eqb size (plan_length h))

unfoldable pub sizes_verdict : Header → Verdict
sizes_verdict h =
    verdict_if (bad_burst h) (refusal 2 0 0) or_else verdict_if (bad_sheet h) (refusal 3 0 0)
    or_else verdict_if (bad_widths h) (refusal 4 0 0) or_else verdict_if (bad_cells h) (refusal 23 0 0)

unfoldable pub offsets_verdict : ℕ → Header → Verdict
offsets_verdict size h = verdict_if (bad_offsets size h) (refusal 5 0 0)

-- checks 2 to 5 of a plan of size bytes
unfoldable pub fields_verdict : ℕ → Header → Verdict
fields_verdict size h = sizes_verdict h or_else offsets_verdict size h

unfoldable pub header_verdict : List ℕ → Verdict
header_verdict s =
    verdict_if (ltb (length s) header_length) (refusal 1 0 0) or_else fields_verdict (length s) (header_of s)

-- the first of n entries that is not below 2 to the power w
unfoldable pub first_large : ℕ → ℕ → (ℕ → ℕ) → ℕ
first_large n w f = least n (λ k. leb (2 ^ w) (f k))

-- a refusal at the place that a search found, accepted where it ran to its end n
abbrev pub verdict_at : ℕ → ℕ → Verdict → Verdict
verdict_at n k v = verdict_if (ltb k n) v

-- check 6: 0 for V or 1 for H, and the index
unfoldable pub entries_verdict : Code → Verdict
entries_verdict c =
    let v = first_large (c.n1 * c.b2) c.rv c.row_entry in
    let h = first_large (c.n2 * c.b1) c.rh c.column_entry in
    verdict_at (c.n1 * c.b2) v (refusal 6 0 v) or_else verdict_at (c.n2 * c.b1) h (refusal 6 1 h)

-- pair k comes after pair k - 1, row first; the first pair comes after nothing
unfoldable pub rises : Code → ℕ → Bool
rises c k =
    eqb k 0 || ltb (c.check_row (k - 1)) (c.check_row k)
    || (eqb (c.check_row (k - 1)) (c.check_row k) && ltb (c.check_column (k - 1)) (c.check_column k))

unfoldable pub bad_pair : Code → ℕ → Bool
bad_pair c k = leb c.n1 (c.check_row k) || leb c.n2 (c.check_column k) || not (rises c k)

-- check 7
unfoldable pub list_verdict : Code → Verdict
list_verdict c = let k = least (c.rv + c.rh) (bad_pair c) in verdict_at (c.rv + c.rh) k (refusal 7 k 0)

unfoldable pub form_verdict : List ℕ → Verdict
form_verdict s = header_verdict s or_else entries_verdict (code_of s) or_else list_verdict (code_of s)
