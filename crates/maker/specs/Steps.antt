-- The steps of making a plan, as the code takes them.
--
--   Degrees g                     both polynomials are good: checks 4 and 15 hold
--   PowerTables g h rows columns  the words hold the two tables of powers
use Rattle.std.specs.Prelude.{ℕ, ◌^◌, ◌≤◌, ◌<◌, ◌≡◌, List, length}
use Rattle.plan.specs.declared.header.Header.{Header}
use Rattle.plan.specs.declared.table.Table.TheVariants.{Rows, Columns}
use Rattle.plan.specs.Table.{entries_of, word_at}
use Rattle.maker.specs.declared.parameters.Parameters.{Parameters}
use Rattle.maker.specs.Make.{row_table, column_table}

pub record Degrees (g : Parameters) : Type 0 where
  pub rv_pos : 1 ≤ g.rv
  pub rv_most : g.rv ≤ 32
  pub v_below : g.vlow < 2 ^ g.rv
  pub rh_pos : 1 ≤ g.rh
  pub rh_most : g.rh ≤ 32
  pub h_below : g.hlow < 2 ^ g.rh

pub record PowerTables (g : Parameters) (h : Header) (rows columns : List ℕ) : Type 0 where
  pub rows_size : length rows ≡ 2792
  pub columns_size : length columns ≡ 2792
  pub row : (k : ℕ) → k < entries_of h Rows → word_at rows k ≡ row_table g k
  pub column : (k : ℕ) → k < entries_of h Columns → word_at columns k ≡ column_table g k
