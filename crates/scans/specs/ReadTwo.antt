-- Two scans of one film, read together (document 02, request g). Each scan is read by the reader's own definition, read_outcome, and the two
-- outcomes decide: a and b are the reads of the first scan and of the second.
--
--   mends o                  the scan of a read can be mended
--   none_verdict a b          check 14: neither scan can be mended
--   differ_verdict a b        check 19: both are mended and the data differ
--   given_bits a b            the data that is given: that of the scan that can be mended, and of either where both can
--   TwoRead, two_read         what a call leaves: its answer and the data buffer
--   alone o                  what a read of one scan leaves of these
--   decide a b bits          what checks 14 and 19 leave of the two reads: number 0 and the data, or the refusal and the buffer as it was
--   read_two plan first second bits   the read of two scans
use Rattle.std.specs.Prelude.{ℕ, Bool, cond, not, ◌&&◌, ◌||◌, List, eqb}
use Rattle.layout.specs.Differ.{agree}
use Rattle.plan.specs.declared.verdict.Verdict.{Verdict}
use Rattle.plan.specs.Verdict.{refusal, verdict_if, ◌or_else◌}
use Rattle.buffers.specs.Buffers.{read_two_checks}
use Rattle.reader.specs.Read.{Outcome, read_outcome}

abbrev pub mends : Outcome → Bool
mends o = eqb o.verdict.number 0

abbrev pub none_verdict : Outcome → Outcome → Verdict
none_verdict a b = verdict_if (not (mends a || mends b)) (refusal 14 0 0)

abbrev pub differ_verdict : Outcome → Outcome → Verdict
differ_verdict a b = verdict_if (mends a && (mends b && not (agree a.bits b.bits))) (refusal 19 0 0)

abbrev pub given_bits : Outcome → Outcome → List ℕ
given_bits a b = cond (mends a) a.bits b.bits

pub record TwoRead : Type 0 where
  pub verdict : Verdict
  pub bits : List ℕ

abbrev pub two_read : Verdict → List ℕ → TwoRead
two_read v bits = record { verdict = v; bits = bits }

abbrev pub alone : Outcome → TwoRead
alone o = two_read o.verdict o.bits

unfoldable pub decide : Outcome → Outcome → List ℕ → TwoRead
decide a b bits =
    let v = none_verdict a b or_else differ_verdict a b in
    two_read v (cond (eqb v.number 0) (given_bits a b) bits)

unfoldable pub read_two : (plan first second bits : List ℕ) → TwoRead
read_two plan first second bits =
    let v = read_two_checks plan first second bits in
    cond (eqb v.number 0) (decide (read_outcome plan first bits) (read_outcome plan second bits) bits) (two_read v bits)
