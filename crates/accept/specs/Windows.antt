-- Pairs of windows on a table, as the code tests them. A window is a run of entries of a table: of V, those of b1 rows (01: a window),
-- of H, those of b2 columns (01: a strip).
--
--   reduction f a size k   entry k, with the entry of the window at place a that has the same remainder taken off
--   pair_list t f size a b  the numbers of which two windows, at the places a ≤ b, ask that they are independent. Of V: the entries of both,
--                          each position once. Of H: those of the second that are not in the first, reduced by the first
--   pair_free t f size a b  they are
--   windows_free t f step size i j   the same of windows number i and j, where each begins step entries after the one before
--   sparse_free t f most n size a b   of sets of at most most entries (02 m), in windows at the places a ≤ b of a table of n: of V, no two
--                          different ones, one in each window, have the same sum; of H, none of those that pair_list has has sum 0
--   line_clear most f floor step size T i j   no set of at most most entries, from the place floor on, that lies in window j and has its last
--                          place in that window's last line, has a sum in T
--   table_pass t f most n step size i j   windows number i and j pass: independent where most is 0, else of sets of at most most entries
--   windows_pass h t f i j  the same of a header's table, by the header's t
--   Block, Reduced         what a strip leaves of n words, and of all words after it: the strip's words of the same remainder taken off
--   start_of t i            the first window that is paired with window i: itself, or of H the next
--   WindowIn n a size      a window at place a lies in a table of n words
--   Windows n step size count       count windows do
--   Prepared t words size a taken rest  after the window at a, these tell of each later window whether the pair is independent: how many
--                          of the window's own words count, and what it leaves of the words after it
--   step_of h t             how many entries a line of a table has: b2 a row of V, b1 a column of H
--   window_size h t         how many a window has
--   windows_of h t          how many windows there are
--   Entries32 n words      the first n words fit 32 bits
--   table_of t v w          of the tables v and w the one meant
--   condition_number t      the number of the check of a table's pairs
--   table_verdict h t f     that check, of the entries f: the first pair of windows that are not independent
--   condition_of c t        the same as document 01 words it of a code: check 8 or check 9
use Rattle.std.specs.Prelude.{ℕ, ◌+◌, ◌-◌, ◌*◌, ◌%◌, ◌≤◌, ◌<◌, max, ◌≡◌, Bool, ◌&&◌, not, cond, List, [], ◌++◌, eqb, length}
use Rattle.gf2.specs.Xor.{◌⊕◌}
use Rattle.gf2.specs.Vectors.{free_from, run, part}
use Rattle.gf2.specs.Sparse.{apart, free_up_to}
use Rattle.finite.specs.Search.{within}
use Rattle.boxcode.specs.Code.{Code}
use Rattle.plan.specs.declared.header.Header.{Header}
use Rattle.plan.specs.declared.verdict.Verdict.{Verdict}
use Rattle.plan.specs.declared.table.Table.{Table}
use Rattle.plan.specs.declared.table.Table.TheVariants.{Rows, Columns}
use Rattle.plan.specs.Table.{entries_of, word_at}
use Rattle.sparse.specs.Sets.{line_hit}
use Rattle.accept.specs.Pairs.{first_failing, pair_verdict}
use Rattle.accept.specs.Verdict.{rows_verdict, columns_verdict}

unfoldable pub reduction : (ℕ → ℕ) → ℕ → ℕ → ℕ → ℕ
reduction f a size k = f k ⊕ f (a + (k - a) % size)

-- of the window at b what comes after the window at a
unfoldable pub rest_run : (ℕ → ℕ) → ℕ → ℕ → ℕ → List ℕ
rest_run f size a b = run f (max (a + size) b) (b + size - max (a + size) b)

unfoldable pub pair_list : Table → (ℕ → ℕ) → ℕ → ℕ → ℕ → List ℕ
pair_list Rows f size a b = run f a size ++ rest_run f size a b
pair_list Columns f size a b = rest_run (reduction f a size) size a b

unfoldable pub pair_free : Table → (ℕ → ℕ) → ℕ → ℕ → ℕ → Bool
pair_free t f size a b = free_from [] (pair_list t f size a b)

abbrev pub windows_free : Table → (ℕ → ℕ) → ℕ → ℕ → ℕ → ℕ → Bool
windows_free t f step size i j = pair_free t f size (i * step) (j * step)

unfoldable pub sparse_free : Table → (ℕ → ℕ) → (most n size a b : ℕ) → Bool
sparse_free Rows f most n size a b = apart most n (within a size) (within b size) f
sparse_free Columns f most n size a b =
    let m = max (a + size) b in free_up_to most n (within m (b + size - m)) (reduction f a size)

-- of windows number i and j
abbrev pub few_free : Table → (ℕ → ℕ) → (most n step size : ℕ) → ℕ → ℕ → Bool
few_free t f most n step size i j = sparse_free t f most n size (i * step) (j * step)

unfoldable pub line_clear : ℕ → (ℕ → ℕ) → (floor step size : ℕ) → (ℕ → Bool) → ℕ → ℕ → Bool
line_clear most f floor step size T i j = not (line_hit most f (max floor (j * step)) (j * step + size - step) step T)

abbrev pub start_of : Table → ℕ → ℕ
start_of Rows i = i
start_of Columns i = i + 1

pub record WindowIn (n a size : ℕ) : Type 0 where
  pub size_pos : 1 ≤ size
  pub size_most : size ≤ 16
  pub inside : a + size ≤ n
  pub few : n ≤ 2792

pub record Windows (n step size count : ℕ) : Type 0 where
  pub size_pos : 1 ≤ size
  pub size_most : size ≤ 16
  pub some : 1 ≤ count
  pub most : count ≤ 698
  pub inside : count * step + size ≤ n + step
  pub few : n ≤ 2792

-- n words from k on, each with that at the same place from a on taken off; those before k stay
pub record Block (f : ℕ → ℕ) (a k n : ℕ) (old rest : List ℕ) : Type 0 where
  pub long : length rest ≡ length old
  pub before : (x : ℕ) → x < k → word_at rest x ≡ word_at old x
  pub here : (d : ℕ) → d < n → word_at rest (k + d) ≡ f (k + d) ⊕ f (a + d)

-- the words after the strip at a, each with the strip's word of the same remainder taken off
pub record Reduced (words : List ℕ) (size a : ℕ) (rest : List ℕ) : Type 0 where
  pub long : length rest ≡ length words
  pub value : (k : ℕ) → a + size ≤ k → k < length words → word_at rest k ≡ reduction (word_at words) a size k

-- windows after window i whose sets, from the place floor on, can be asked for
pub record Later (step size count i floor : ℕ) : Type 0 where
  pub step_most : step ≤ size
  pub here : i < count
  pub floor_most : floor ≤ i * step + size

-- sets of at most t entries, t being 1 or 2, of the windows from window i on
pub record FewWindows (t step size count i : ℕ) : Type 0 where
  pub some : 1 ≤ t
  pub few : t ≤ 2
  pub step_most : step ≤ size
  pub here : i < count

pub record Prepared (t : Table) (words : List ℕ) (size a taken : ℕ) (rest : List ℕ) : Type 0 where
  pub long : length rest ≡ length words
  pub free : (b : ℕ) → a ≤ b → b + size ≤ length words
      → pair_free t (word_at words) size a b ≡ (eqb taken size && free_from [] (part (max (a + size) b) (b + size) rest))

abbrev pub step_of : Header → Table → ℕ
step_of h Rows = h.b2
step_of h Columns = h.b1

abbrev pub window_size : Header → Table → ℕ
window_size h Rows = h.b1 * h.b2
window_size h Columns = h.b2 * h.b1

abbrev pub windows_of : Header → Table → ℕ
windows_of h Rows = h.n1 - h.b1 + 1
windows_of h Columns = h.n2 - h.b2 + 1

abbrev pub Entries32 : ℕ → List ℕ → Type 0
Entries32 n words = (k : ℕ) → k < n → word_at words k < 4294967296

abbrev pub table_of : Table → (ℕ → ℕ) → (ℕ → ℕ) → ℕ → ℕ
table_of Rows v w = v
table_of Columns v w = w

abbrev pub condition_number : Table → ℕ
condition_number Rows = 8
condition_number Columns = 9

unfoldable pub table_pass : Table → (ℕ → ℕ) → (most n step size : ℕ) → ℕ → ℕ → Bool
table_pass t f most n step size i j = cond (eqb most 0) (windows_free t f step size i j) (few_free t f most n step size i j)

unfoldable pub windows_pass : Header → Table → (ℕ → ℕ) → ℕ → ℕ → Bool
windows_pass h t f = table_pass t f h.t (entries_of h t) (step_of h t) (window_size h t)

unfoldable pub table_verdict : Header → Table → (ℕ → ℕ) → Verdict
table_verdict h t f = pair_verdict (condition_number t) (first_failing (windows_pass h t f) (start_of t) (windows_of h t))

abbrev pub condition_of : Code → Table → Verdict
condition_of c Rows = rows_verdict c
condition_of c Columns = columns_verdict c
