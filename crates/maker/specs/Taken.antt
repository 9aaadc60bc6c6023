-- The check cells that are taken, as the code holds them.
--
--   bare_code h v w            the code with the numbers of a header and two tables, its check list empty
--   cell_joint c t             the joint entry of the cell with number t in sheet order
--   Tables h rows columns      the words hold two tables: room for all entries, each of at most 32 digits
--   HeldTo h rows columns n t  t holds the first rv + rh cells that are taken among the first n
use Rattle.std.specs.Prelude.{ℕ, ◌+◌, ◌/◌, ◌%◌, ◌≡◌, List, length}
use Rattle.gf2.specs.Taking.{TakenIn}
use Rattle.boxcode.specs.Code.{Code, joint_weight}
use Rattle.plan.specs.declared.header.Header.{Header}
use Rattle.plan.specs.declared.table.Table.TheVariants.{Rows, Columns}
use Rattle.plan.specs.Bytes.{code_from}
use Rattle.plan.specs.Table.{entries_of, word_at}
use Rattle.accept.specs.Windows.{Entries32}
use Rattle.maker.specs.declared.taking.Taken.{Taken}

abbrev pub bare_code : Header → (v w : ℕ → ℕ) → Code
bare_code h v w = code_from h v w (λ k. 0) (λ k. 0)

unfoldable pub cell_joint : Code → ℕ → ℕ
cell_joint c t = joint_weight c (t / c.n2) (t % c.n2)

pub record Tables (h : Header) (rows columns : List ℕ) : Type 0 where
  pub rows_size : length rows ≡ 2792
  pub columns_size : length columns ≡ 2792
  pub rows_below : Entries32 (entries_of h Rows) rows
  pub columns_below : Entries32 (entries_of h Columns) columns

abbrev pub HeldTo : Header → (rows columns : List ℕ) → ℕ → Taken → Type 0
HeldTo h rows columns n t =
    TakenIn (cell_joint (bare_code h (word_at rows) (word_at columns))) (h.rv + h.rh) n t.words t.cells t.count
