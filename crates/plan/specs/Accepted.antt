-- An accepted plan (document 01, "When a plan is accepted").
--
--   AcceptedAs s h c   h is the header of the plan s and checks 1 to 5 and 23 hold; its code c has the right form (checks 6 and 7 hold too)
--                      and meets the three conditions
--   AcceptedWith s h   the same of the code with the header h in the bytes s
use Rattle.std.specs.Prelude.{ℕ, List}
use Rattle.boxcode.specs.Code.{Code, Formed}
use Rattle.boxcode.specs.Condition.{Conditions}
use Rattle.plan.specs.declared.header.Header.{Header}
use Rattle.plan.specs.Header.{Framed}
use Rattle.plan.specs.Bytes.{code_with}

pub record AcceptedAs (s : List ℕ) (h : Header) (c : Code) : Type 0 where
  pub framed : Framed s h
  pub formed : Formed c
  pub conditions : Conditions c

abbrev pub AcceptedWith : List ℕ → Header → Type 0
AcceptedWith s h = AcceptedAs s h (code_with s h)
