use mathlib.Core.Path.{sym, ◌∙◌}
use native.Mathlib.Omega.{arith}
use Rattle.gf2.specs.Xor.{◌⊕◌}
use Rattle.sparse.proofs.Marks.{unmarked, run_join, run-here, run_past}
use Rattle.sparse.proofs.hits.pair_hits.Invariants.{pair_at}
use Rattle.sparse.proofs.hits.pair_hits.Goals as goal

pub next_marked-l-requires : goal.next_marked-l-requires
next_marked-l-requires c = (c.requires.from_le_k.0, c.requires.from_le_k.1, c.requires.marked.size)

pub loop-l-init : goal.loop-l-init
loop-l-init c =
    let e = c.next_marked-l.ensures in
    (λ j l m. unmarked c.args.sums.now c.args.marks.now _ c.requires.marked (e.none j l m), e.least, e.most)

pub offset_bounds-words-l : goal.offset_bounds-words-l
offset_bounds-words-l c = omega arith

pub bounds-words-l : goal.bounds-words-l
bounds-words-l c = omega arith

pub offset_bounds-words-k : goal.offset_bounds-words-k
offset_bounds-words-k c = omega arith

pub bounds-words-k : goal.bounds-words-k
bounds-words-k c = omega arith

pub returns-then-among : goal.returns-then-among
unfolding ◌⊕◌
returns-then-among c =
    let l = c.loop-l in
    sym (run-here (pair_at c.args.words.now c.args.sums.now c.args.k) c.args.from c.args.k l.l (omega arith) (omega arith)
    (sym c.among.ensures ∙ c.if-among.true))

pub overflow_add-l : goal.overflow_add-l
overflow_add-l c = omega arith

pub next_marked-l-requires-in-loop-l : goal.next_marked-l-requires-in-loop-l
next_marked-l-requires-in-loop-l c = (omega arith, c.requires.from_le_k.1, c.requires.marked.size)

pub loop-l-smaller : goal.loop-l-smaller
loop-l-smaller c = let e = c.next_marked-l-in-loop-l.ensures in omega (arith, e.least, e.most)

pub loop-l-preserved : goal.loop-l-preserved
unfolding ◌⊕◌
loop-l-preserved c =
    let l = c.loop-l in
    let e = c.next_marked-l-in-loop-l.ensures in (
      run_join (pair_at c.args.words.now c.args.sums.now c.args.k) c.args.from l.l _ l.invariant.0
          (sym c.among.ensures ∙ c.if-among.false)
          (λ j a b. unmarked c.args.sums.now c.args.marks.now _ c.requires.marked (e.none j a b)),
      omega (arith, e.least),
      e.most,
    )

pub returns : goal.returns
returns c =
    let l = c.loop-l in
    sym (run_past (pair_at c.args.words.now c.args.sums.now c.args.k) c.args.from c.args.k l.l (omega arith) l.invariant.0)
