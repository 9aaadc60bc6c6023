-- `sparse::collect::add_last` meets its contract: the sum of the place alone, and those of the pairs where there may be two. Assumes nothing.
use native.Mathlib.Omega.{arith}
use Rattle.plan.specs.Table.{word_at}
use Rattle.sparse.proofs.Growth.{one-added, last_one, last-two}
use Rattle.sparse.proofs.collect.add_last.Goals as goal

pub returns-then-t-ne2 : goal.returns-then-t-ne2
returns-then-t-ne2 c =
    let a = c.args in
    let r = c.add.ensures in
    let g = one-added (word_at a.words.now a.k) a.count a.sums.now a.marks.now c.requires.sums_len.0 c.requires.sums_len.1 (omega arith) r.sums_after r.marks_after in
    record { lower_bound = (omega arith, omega arith); grown = last_one a.t (word_at a.words.now) a.first a.k g c.if-t-ne2.true }

pub add_pairs-requires : goal.add_pairs-requires
add_pairs-requires c =
    let a = c.args in
    let r = c.add.ensures in
    let g = one-added (word_at a.words.now a.k) a.count a.sums.now a.marks.now c.requires.sums_len.0 c.requires.sums_len.1 (omega arith) r.sums_after r.marks_after in
    record { first_le_k = (omega arith, omega arith, omega arith); sums_len = (g.long, g.marked) }

pub returns : goal.returns
returns c =
    let a = c.args in
    let r = c.add.ensures in
    let g = one-added (word_at a.words.now a.k) a.count a.sums.now a.marks.now c.requires.sums_len.0 c.requires.sums_len.1 (omega arith) r.sums_after r.marks_after in
    let w = c.add_pairs.ensures in record {
      lower_bound = (omega arith, omega arith);
      grown = last-two a.t (word_at a.words.now) a.first a.k g
          c.if-t-ne2.false w.grown;
    }
