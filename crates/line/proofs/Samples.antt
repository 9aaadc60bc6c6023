-- The definitions of the line, tried on a few lines.
--
--   case-twelve      ok 2 0 1 1 2 3 02
--   no-data          ok 16 511 697 4 4 65535
--   letters          ok 0 0 0 0 0 0 0aff
--   refusal-places   no 8 100 2791
--
-- Assumes nothing.
use mathlib.Core.Path.{◌≡◌, refl}
use mathlib.Core.List.{[], ◌∷◌}
use Rattle.text.specs.Text.{field, digit_of, decimal_within, decimal_bytes, each, hex_bytes, hex_text}
use Rattle.line.specs.Line.{data_field, numbers, ok_line, no_line}

pub case-twelve : ok_line (record { cells = 2; top = 0; left = 1; height = 1; width = 2; pattern = 3 }) (2 ∷ [])
    ≡ 111 ∷ 107 ∷ 32 ∷ 50 ∷ 32 ∷ 48 ∷ 32 ∷ 49 ∷ 32 ∷ 49 ∷ 32 ∷ 50 ∷ 32 ∷ 51 ∷ 32 ∷ 48 ∷ 50 ∷ 10 ∷ []
unfolding ok_line numbers data_field field decimal_bytes decimal_within hex_text each hex_bytes digit_of
case-twelve = refl

pub no-data : ok_line (record { cells = 16; top = 511; left = 697; height = 4; width = 4; pattern = 65535 }) []
    ≡ 111 ∷ 107 ∷ 32 ∷ 49 ∷ 54 ∷ 32 ∷ 53 ∷ 49 ∷ 49 ∷ 32 ∷ 54 ∷ 57 ∷ 55 ∷ 32 ∷ 52 ∷ 32 ∷ 52 ∷ 32 ∷ 54 ∷ 53 ∷ 53 ∷ 51 ∷ 53 ∷ 10 ∷ []
unfolding ok_line numbers data_field field decimal_bytes decimal_within hex_text each hex_bytes digit_of
no-data = refl

pub letters : ok_line (record { cells = 0; top = 0; left = 0; height = 0; width = 0; pattern = 0 }) (10 ∷ 255 ∷ [])
    ≡ 111 ∷ 107 ∷ 32 ∷ 48 ∷ 32 ∷ 48 ∷ 32 ∷ 48 ∷ 32 ∷ 48 ∷ 32 ∷ 48 ∷ 32 ∷ 48 ∷ 32 ∷ 48 ∷ 97 ∷ 102 ∷ 102 ∷ 10 ∷ []
unfolding ok_line numbers data_field field decimal_bytes decimal_within hex_text each hex_bytes digit_of
letters = refl

pub refusal-places : no_line (record { number = 8; p = 100; q = 2791 })
    ≡ 110 ∷ 111 ∷ 32 ∷ 56 ∷ 32 ∷ 49 ∷ 48 ∷ 48 ∷ 32 ∷ 50 ∷ 55 ∷ 57 ∷ 49 ∷ 10 ∷ []
unfolding no_line field decimal_bytes decimal_within digit_of
refusal-places = refl
