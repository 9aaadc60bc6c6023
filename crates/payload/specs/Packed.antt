-- Data in bytes: in the cells of a sheet, and packed (document 01, "Sheet and data").
--
--   filled_bytes lay c bits   the bytes of the sheet that holds the data of some bytes, and light check cells
--   packed_data c s           the data that the cells s hold, packed: one row of k cells
use Rattle.std.specs.Prelude.{ℕ, List}
use Rattle.layout.specs.Cells.{cell_of, bytes_of}
use Rattle.layout.specs.Stored.{bytes_in}
use Rattle.layout.specs.declared.stored.Layout.{Layout}
use Rattle.boxcode.specs.Code.{Code}
use Rattle.boxcode.specs.Syndrome.{Cells}
use Rattle.boxcode.specs.Check.{data_size, fill, data_of}

abbrev pub filled_bytes : Layout → Code → List ℕ → List ℕ
filled_bytes lay c bits = bytes_in lay c.n1 c.n2 (fill c (λ d. cell_of (data_size c) bits 0 d) 0)

abbrev pub packed_data : Code → Cells → List ℕ
packed_data c s = bytes_of 1 (data_size c) (λ i d. data_of c s d)
