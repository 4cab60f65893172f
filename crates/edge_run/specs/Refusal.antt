-- What written rules refuse.
use Rattle.db_load.specs.declared.refusal.BrokenArgs.{BrokenArgs}
use Rattle.db_draft.specs.declared.refusal.Broken.{Broken}
use Rattle.edge_run.specs.declared.outcome.Doc.{Doc}
use Rattle.edge_run.specs.declared.outcome.UsageRule.{UsageRule}
use Rattle.edge_run.specs.declared.outcome.SchemaRefusal.{SchemaRefusal}
use Rattle.edge_run.specs.declared.outcome.QueryRefusal.{QueryRefusal}
use Rattle.edge_run.specs.declared.outcome.Outcome.{Outcome}
use Rattle.edge_run.specs.declared.outcome.Outcome.TheVariants as outcome

-- what a written rule refuses; failed devices and want of memory are none of these
pub data Refusal : Type 0 where
  Usage : UsageRule → Refusal
  TooLong : Doc → Refusal
  Schema : SchemaRefusal → Refusal
  Data : Broken → Refusal
  Query : QueryRefusal → Refusal
  Args : BrokenArgs → Refusal

-- the end that tells a refusal
abbrev pub told : Refusal → Outcome
told (Usage u) = outcome.Usage u
told (TooLong d) = outcome.TooLong d
told (Schema r) = outcome.SchemaRefused r
told (Data b) = outcome.DataRefused b
told (Query r) = outcome.QueryRefused r
told (Args b) = outcome.ArgsRefused b
