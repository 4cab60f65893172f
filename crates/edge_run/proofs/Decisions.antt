-- What is decided of a text, whatever it is judged as.
use Rattle.std.proofs.Common.{◌≡◌, ℕ, List, Result}
use Rattle.edge_run.specs.Judgement.{Judgement, AsSchema, AsData, AsQuery, AsArgs, Matter, Decides}
use Rattle.edge_run.specs.Refusal.{Refusal}
use Rattle.edge_run.proofs.ArgsLaws as of_args
use Rattle.edge_run.proofs.DataLaws as of_data
use Rattle.edge_run.proofs.QueryLaws as of_query
use Rattle.edge_run.proofs.SchemaLaws as of_schema

-- of each text at most one thing is decided
pub one_decision : (j : Judgement) (text : List ℕ) (a b : Result (Matter j) Refusal) → Decides j text a → Decides j text b → a ≡ b
one_decision AsSchema text a b is is' = of_schema.one_decision text a b is is'
one_decision (AsData schema) text a b is is' = of_data.one_decision schema text a b is is'
one_decision (AsQuery schema) text a b is is' = of_query.one_decision schema text a b is is'
one_decision (AsArgs schema) text a b is is' = of_args.one_decision schema text a b is is'
