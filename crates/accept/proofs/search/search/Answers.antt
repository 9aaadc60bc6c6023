use Rattle.std.proofs.Common.{◌≡◌, ℕ, ◌+◌, ◌*◌, ◌≤◌, ◌<◌, max, Bool, ◌&&◌, List, [], length, nat_eq, refl, sym, ap, ◌∙◌, arith}
use native.Mathlib.Nat.{mul-le-mul_right, sub-zero}
use Rattle.gf2.specs.Vectors.{free_from, part}
use Rattle.plan.specs.declared.table.Table.{Table}
use Rattle.plan.specs.Table.{word_at}
use Rattle.accept.specs.Pairs.{from_row, first_failing}
use Rattle.accept.specs.Windows.{windows_free, start_of, Windows, Prepared}
use Rattle.accept.proofs.Pairing.{row_next, row-fails, row-end, rows_next, rows_end}
use Rattle.accept.proofs.Shift.{window-in, start-from}
use Rattle.accept.proofs.search.search.Goals as goal

-- what the answer for a pair says, if the first window was made ready
told : (t : Table) (words : List ℕ) {rest : List ℕ} {step size count taken : ℕ} (i j : ℕ) {r : Bool} → Windows (length words) step size count
    → Prepared t words size (i * step) taken rest → i ≤ j → j < count
    → r ≡ (nat_eq taken size && free_from [] (part (max (i * step + size) (j * step)) (j * step + size) rest))
    → windows_free t (word_at words) step size i j ≡ r
told t words {step = step} i j w p l u e = p.free (j * step) (mul-le-mul_right step l) (window-in w j u) ∙ sym e

pub search-init : goal.search-init
unfolding first_failing
search-init c = (c.requires.1, refl, ap (from_row _ _ _ 0) (sym (sub-zero c.args.count)))

pub loop-j-init : goal.loop-j-init
loop-j-init c =
    let s = c.search in
    let e = c.start_of-j.ensures in (
      omega (arith, e, start-from c.args.t s.i),
      s.invariant.1,
      rw e (s.invariant.2 ∙ rows_next _ (start_of c.args.t) _ s.i c.search-test.true),
    )

pub loop-j-preserved : goal.loop-j-preserved
loop-j-preserved c =
    let a = c.args in
    let l = c.loop-j in
    let p = c.prepare-taken.ensures in (
      omega arith,
      l.invariant.1,
      l.invariant.2
          ∙ row_next _ _ _ l.j _ c.loop-j-test.true
          (told a.t a.words.now c.search.i l.j c.requires.0 p l.invariant.0 c.loop-j-test.true c.pair_free.ensures ∙ c.if-not-pair_free.false),
    )

pub search-preserved : goal.search-preserved
search-preserved c =
    let l = c.loop-j in
    (c.prepare-taken.ensures.long, l.invariant.1, l.invariant.2 ∙ row-end _ _ _ _ _ c.loop-j-test.false)

pub returns-after-search : goal.returns-after-search
returns-after-search c = c.search.invariant.1 ∙ sym (c.search.invariant.2 ∙ rows_end _ _ _ _ c.search-test.false)

pub returns-then-not-pair_free : goal.returns-then-not-pair_free
returns-then-not-pair_free c =
    let a = c.args in
    let l = c.loop-j in
    let p = c.prepare-taken.ensures in
    sym (l.invariant.2
    ∙ row-fails _ _ _ l.j _ c.loop-j-test.true
    (told a.t a.words.now c.search.i l.j c.requires.0 p l.invariant.0 c.loop-j-test.true c.pair_free.ensures ∙ c.if-not-pair_free.true))
