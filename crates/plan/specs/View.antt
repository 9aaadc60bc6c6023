-- What a view of a plan stands for.
--
--   code_in v   the code of the plan that v looks at
use Rattle.boxcode.specs.Code.{Code}
use Rattle.plan.specs.declared.view.View.{View}
use Rattle.plan.specs.Bytes.{code_with}

abbrev pub code_in : View → Code
code_in v = code_with v.plan.now v.header
