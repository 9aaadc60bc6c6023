-- The house plan (document 02, request d): "a plan for 3 by 3 blots, 512 courses and 698 needles".
--
--   house_with rv v   the eight numbers of a plan of this size, with the house polynomial for its columns and any polynomial for its rows:
--                     degree rv, and the coefficients v below it
--   house_parameters  the house numbers: degree 22 and 0x39f0d for the rows
--   house_bytes       how many bytes the house plan has
use Rattle.std.specs.Prelude.{ℕ}
use Rattle.maker.specs.declared.parameters.Parameters.{Parameters}
use Rattle.house.specs.House.{house_degree, house_low}

abbrev pub house_with : ℕ → ℕ → Parameters
house_with rv v = record { n1 = 512; n2 = 698; b1 = 3; b2 = 3; t = 0; rv = rv; vlow = v; rh = house_degree; hlow = house_low }

abbrev pub house_parameters : Parameters
house_parameters = house_with 22 237325

abbrev pub house_bytes : ℕ
house_bytes = 14686
