-- The column table of the house plan (document 02, request d: "Its needle table of 2,094 entries is held in the program as a constant").
--
--   house_polynomial   the house polynomial of the columns, by its degree and the coefficients below that, 0x8f7 (house_degree, house_low)
--   house_entries      how many entries the table has: 3 for each of 698 columns
--   house_columns      the table: "The first entry is 1 and each entry after it is z times the one before, modulo the house polynomial"
use Rattle.std.specs.Prelude.{ℕ, List}
use Rattle.gf2.specs.Powers.{polynomial, powers_from}

abbrev pub house_degree : ℕ
house_degree = 14

abbrev pub house_low : ℕ
house_low = 2295

unfoldable pub house_polynomial : ℕ
house_polynomial = polynomial house_degree house_low

abbrev pub house_entries : ℕ
house_entries = 2094

unfoldable pub house_columns : List ℕ
house_columns = powers_from house_polynomial 1 house_entries
