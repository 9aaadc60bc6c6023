-- The two tables of a plan: V and H in document 01.
--
--   entries_of h t          how many entries a table has
--   entry_of s h t k        entry k of a table of the plan s
--   word_at words k         word k of an unpacked table
--   EntriesIn s h t words   word k is entry k of a table, for each k below its size
--   Unpacked s h words      the same of the column table (01: "the needle table is unpacked once into 2,792 words")
use Rattle.std.specs.Prelude.{ℕ, ◌*◌, ◌<◌, ◌≡◌, List, length, get_or}
use Rattle.plan.specs.declared.header.Header.{Header}
use Rattle.plan.specs.declared.table.Table.{Table}
use Rattle.plan.specs.declared.table.Table.TheVariants.{Rows, Columns}
use Rattle.plan.specs.Bytes.{row_entry_at, column_entry_at}

abbrev pub entries_of : Header → Table → ℕ
entries_of h Rows = h.n1 * h.b2
entries_of h Columns = h.n2 * h.b1

abbrev pub entry_of : List ℕ → Header → Table → ℕ → ℕ
entry_of s h Rows k = row_entry_at s k
entry_of s h Columns k = column_entry_at s h k

abbrev pub word_at : List ℕ → ℕ → ℕ
word_at words k = get_or words k 0

pub record EntriesIn (s : List ℕ) (h : Header) (t : Table) (words : List ℕ) : Type 0 where
  pub size : length words ≡ 2792
  pub entry : (k : ℕ) → k < entries_of h t → word_at words k ≡ entry_of s h t k
  pub below : (k : ℕ) → k < entries_of h t → word_at words k < 4294967296

abbrev pub Unpacked : List ℕ → Header → List ℕ → Type 0
Unpacked s h words = EntriesIn s h Columns words
