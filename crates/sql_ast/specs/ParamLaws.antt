-- The law of the parameters of a statement.
use Rattle.std.specs.Prelude.{◌≡◌, ℕ, List, [], ◌∷◌}
use Rattle.std.specs.Cmp.Lexicographic.{slice_cmp}
use Rattle.std.specs.Ordering.{nat_cmp}
use Rattle.std.specs.declared.cmp.Ordering.TheVariants.{Less}
use Rattle.ev_list.specs.declared.param.Param.{Param}
use Rattle.sql_ast.specs.declared.select.Stmt.{Stmt}
use Rattle.sql_ast.specs.Params.{args_of, params_of, scalar_params, type_of_param}

-- each name is less by its bytes than the next
abbrev pub NamesRise : List Param → Type 0
NamesRise [] = Unit {0}
NamesRise (p ∷ []) = Unit {0}
NamesRise (p ∷ q ∷ more) = (slice_cmp nat_cmp p.name q.name ≡ Less) × NamesRise (q ∷ more)

-- the names rise, so each stands once; and just the names of the statement's ARGs with scalar types are there, with the type of the first
pub record ParamsAreThoseThatOccur : Type 0 where
  pub rise : (s : Stmt) → NamesRise (params_of s)
  pub occur : (s : Stmt) (name : List ℕ) → type_of_param name (params_of s) ≡ type_of_param name (scalar_params (args_of s))
