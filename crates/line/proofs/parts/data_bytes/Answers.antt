-- `line::parts::data_bytes` meets its contract: no early answer is given under an accepted plan. Assumes nothing.
use mathlib.Core.Path.{ap, ◌∙◌}
use Prim.Native.Nat.{◌+◌, ◌-◌, ◌*◌}
use native.Mathlib.Nat.{mul-le-mul}
use native.Mathlib.Omega.{arith}
use Rattle.layout.specs.Cells.{row_bytes}
use Rattle.boxcode.specs.Check.{data_size}
use Rattle.boxcode.proofs.Check.{checks-fit}
use Rattle.plan.specs.declared.header.Header.{Header}
use Rattle.plan.specs.Bytes.{code_of}
use Rattle.line.specs.Line.{data_bytes}
use Rattle.line.proofs.parts.data_bytes.Goals as goal

pub returns-then-h-gt512 : goal.returns-then-h-gt512
returns-then-h-gt512 c =
    record {
      most = omega arith;
      right = λ A. let e = ap (λ (h : Header). h.n1) c.header_of-h.ensures in absurd (omega (arith, A.framed.small.n1_most));
    }

pub returns-then-h-gt698 : goal.returns-then-h-gt698
returns-then-h-gt698 c =
    record {
      most = omega arith;
      right = λ A. let e = ap (λ (h : Header). h.n2) c.header_of-h.ensures in absurd (omega (arith, A.framed.small.n2_most));
    }

pub returns-then-h-gt32 : goal.returns-then-h-gt32
returns-then-h-gt32 c =
    record {
      most = omega arith;
      right = λ A.
          let e = ap (λ (h : Header). h.rv) c.header_of-h.ensures in
          absurd (omega (arith, A.framed.small.rv_most));
    }

pub returns-then-h-gt32-2 : goal.returns-then-h-gt32-2
returns-then-h-gt32-2 c =
    record {
      most = omega arith;
      right = λ A.
          let e = ap (λ (h : Header). h.rh) c.header_of-h.ensures in
          absurd (omega (arith, A.framed.small.rh_most));
    }

pub overflow_mul-cells : goal.overflow_mul-cells
overflow_mul-cells c =
    let m = mul-le-mul c.if-h-gt512.false c.if-h-gt698.false in
    omega arith

pub returns-then-cells-checks : goal.returns-then-cells-checks
unfolding code_of
returns-then-cells-checks c =
    record {
      most = omega arith;
      right = λ A.
          let e = c.header_of-h.ensures in
          let p = ap (λ (h : Header). h.n1 * h.n2) e in
          let q = ap (λ (h : Header). h.rv + h.rh) e in
          absurd (omega (arith, checks-fit _ A.formed));
    }

pub row_bytes-requires : goal.row_bytes-requires
row_bytes-requires c =
    let m = mul-le-mul c.if-h-gt512.false c.if-h-gt698.false in
    omega arith

pub returns : goal.returns
unfolding code_of data_bytes data_size row_bytes
returns c =
    let m = mul-le-mul c.if-h-gt512.false c.if-h-gt698.false in
    record {
      most = omega (arith, c.row_bytes.ensures);
      right = λ A.
          c.row_bytes.ensures
          ∙ ap (λ (h : Header). row_bytes (h.n1 * h.n2 - (h.rv + h.rh))) c.header_of-h.ensures;
    }
