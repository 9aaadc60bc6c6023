-- `line::whole::line` meets its contract: the parts that it hands on are those of the definition. Assumes nothing.
use mathlib.Core.Path.{refl, sym, ap, ◌∙◌}
use mathlib.Core.List.{List}
use Prim.Native.Nat.{ℕ, ◌-◌, ◌≤◌}
use native.Mathlib.Omega.{arith}
use lib.Seq.{length-take-le}
use lib.ListN.{length, take, drop, length-take}
use Rattle.text.proofs.Putting.{put_front, put-printed}
use Rattle.line.proofs.Lines.{parts-fit, zeros-part, rest_part, line_made}
use Rattle.line.proofs.whole.line.Goals as goal

pub slice_bounds-plan-end : goal.slice_bounds-plan-end
slice_bounds-plan-end c =
    let fits : c.plan_size-n.result ≤ length c.args.input.now = let p = parts-fit c.args.input.now in omega (arith, c.plan_size-n.ensures) in
    sym (length-take-le _ _ fits)

pub slice_bounds-copy-count : goal.slice_bounds-copy-count
slice_bounds-copy-count c =
    let fits : c.plan_size-n.result ≤ length c.args.input.now = let p = parts-fit c.args.input.now in omega (arith, c.plan_size-n.ensures) in
    fits

pub slice_bounds-copy-start : goal.slice_bounds-copy-start
slice_bounds-copy-start c =
    let fits : c.plan_size-n.result ≤ length c.args.input.now = let p = parts-fit c.args.input.now in omega (arith, c.plan_size-n.ensures) in
    fits

pub slice_bounds-read_line-end-2 : goal.slice_bounds-read_line-end-2
slice_bounds-read_line-end-2 c =
    let p = c.copy-m in
    let h : p.result ≤ length p.new.to = omega arith in
    sym (length-take-le _ _ h)

pub slice_bounds-read_line-end-4 : goal.slice_bounds-read_line-end-4
slice_bounds-read_line-end-4 c =
    let h : c.data_bytes-k.result ≤ length c.clear.new.s = omega arith in
    sym (length-take-le _ _ h)

pub read_line-requires : goal.read_line-requires
read_line-requires c =
    let e = length-take c.data_bytes-k.result c.clear.new.s in
    omega arith

pub returns : goal.returns
returns c =
    -- the places after each call, from the last to the first
    let input = c.args.input.now in
    let n = c.plan_size-n.result in
    let k = c.data_bytes-k.result in
    let p = c.read_line.ensures in
    let l = length-take (length input - n) (drop n input) in
    let h : length (take (length input - n) (drop n input)) ≤ length c.args.sheet.now = omega arith in
    let f : k ≤ length c.args.bits.now = omega arith in
    put-printed p.put p.upper_bound
    (line_made _ _ _ _ _ _ c.plan_size-n.ensures refl (put_front c.copy-m.ensures h ∙ rest_part n input)
    (ap (λ (s : List ℕ). take k s) c.clear.ensures ∙ zeros-part _ _ f) c.data_bytes-k.ensures)
