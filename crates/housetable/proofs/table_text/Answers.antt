-- `housetable::table_text` meets its contract: the powers are the table, and each takes at most 21 bytes. Assumes nothing.
use mathlib.Core.Path.{refl, ap}
use native.Mathlib.Omega.{arith}
use Rattle.gf2.proofs.PowerTable.{powers-table}
use Rattle.text.specs.Text.{lines_text}
use Rattle.text.proofs.Putting.{put-printed}
use Rattle.house.specs.House.{house_polynomial, house_entries, house_columns}
use Rattle.housetable.proofs.table_text.Goals as goal

pub returns : goal.returns
unfolding house_columns house_polynomial
returns c =
    let p = c.put_lines.ensures in
    let f = c.fill_powers.ensures in
    put-printed p.put (omega (arith, p.upper_bound, f.size, c.requires)) (ap lines_text (powers-table house_polynomial house_entries _ _ f refl))
