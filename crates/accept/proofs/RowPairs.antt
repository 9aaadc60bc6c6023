-- The pairs of windows of the row table are those of the code.
--
--   window-run    the positions of a window of rows are a run of the table
--   row-pair      the pair test on the entries is the pair test of the code
--
-- Assumes nothing.
use mathlib.Core.Path.{◌≡◌, ap₂}
use mathlib.Core.Bool.{Bool, ◌||◌, cond}
use Prim.Native.Nat.{ℕ, ◌+◌, ◌*◌, ◌/◌, ◌≤◌, ◌<◌}
use native.Mathlib.Nat.{le-div_iff_mul-le, div-lt_iff_lt-mul, add-mul, mul-le-mul_right}
use native.Mathlib.Omega.{arith}
use lib.Dec.{eqb}
use Rattle.finite.specs.Search.{within}
use Rattle.finite.proofs.Truth.{same_truth, within-from, within-to, in_within}
use Rattle.gf2.specs.Independence.{free}
use Rattle.gf2.specs.Sparse.{apart}
use Rattle.gf2.proofs.Runs.{free-two-runs}
use Rattle.boxcode.specs.Code.{Code}
use Rattle.boxcode.specs.Condition.{row_member, row_pair_free}
use Rattle.plan.specs.Bytes.{code_from}
use Rattle.plan.specs.declared.header.Header.{Header}
use Rattle.plan.specs.declared.table.Table.TheVariants.{Rows}
use Rattle.accept.specs.Windows.{rest_run, pair_list, pair_free, windows_free, sparse_free, table_pass, windows_pass}

pub window-run : (i m b k : ℕ) → 0 < b → within i m (k / b) ≡ within (i * b) (m * b) k
window-run i m b k p =
    same_truth (within i m (k / b)) (within (i * b) (m * b) k)
    (λ e. in_within (i * b) (m * b) k ((le-div_iff_mul-le p).0 (within-from i m (k / b) e))
    (let u = (div-lt_iff_lt-mul p).0 (within-to i m (k / b) e) in omega (arith, u, add-mul i m b)))
    (λ e. in_within i m (k / b) ((le-div_iff_mul-le p).1 (within-from (i * b) (m * b) k e))
    ((div-lt_iff_lt-mul p).1 (let u = within-to (i * b) (m * b) k e in omega (arith, u, add-mul i m b))))

row-free : (c : Code) → 0 < c.b2 → (i j : ℕ) → i ≤ j → j + c.b1 ≤ c.n1
    → free (c.n1 * c.b2) (row_member c i j) c.row_entry ≡ windows_free Rows c.row_entry c.b2 (c.b1 * c.b2) i j
unfolding row_member pair_free pair_list rest_run
row-free c pos i j l u =
    free-two-runs (c.n1 * c.b2) (i * c.b2) (j * c.b2) (c.b1 * c.b2) (row_member c i j) c.row_entry
    (mul-le-mul_right c.b2 l) (omega (arith, mul-le-mul_right c.b2 u, add-mul j c.b1 c.b2))
    (λ k _. ap₂ ◌||◌ (window-run i c.b1 c.b2 k pos) (window-run j c.b1 c.b2 k pos))

pub row-pair : (h : Header) (v w row column : ℕ → ℕ) → 0 < h.b2 → (i j : ℕ) → i ≤ j → j + h.b1 ≤ h.n1
    → row_pair_free (code_from h v w row column) i j ≡ windows_pass h Rows v i j
unfolding row_pair_free windows_pass table_pass sparse_free
row-pair h v w row column pos i j l u =
    let c = code_from h v w row column in
    ap₂ (λ (a b : Bool). cond (eqb h.t 0) a b) (row-free c pos i j l u)
    (ap₂ (λ (p q : ℕ → Bool). apart h.t (h.n1 * h.b2) p q v)
    (λ x k. window-run i h.b1 h.b2 k pos x) (λ x k. window-run j h.b1 h.b2 k pos x))
