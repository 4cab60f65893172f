-- What is known from the places before: the type of each numbered root, and the parameters.
use Rattle.std.specs.Prelude.{ℕ, ◌==◌, if◌then◌else◌, List, Option, Some, None}
use Rattle.std.specs.BTreeMap as tree
use Rattle.std.specs.Cmp.Lexicographic.{slice_cmp}
use Rattle.std.specs.Ordering.{nat_cmp}
use Rattle.std.specs.Str.{bytes_eq}
use Rattle.ev_list.specs.declared.param.Param.{Param}
use Rattle.core_ir.specs.declared.ty.Ty.{Ty}
use Rattle.core_ir.specs.declared.ty.Ty.TheVariants as made
use Rattle.core_ir.specs.declared.path.Root.{Root}
use Rattle.core_ir.specs.declared.path.Root.TheVariants as root
use Rattle.type_rules.specs.declared.notes.Notes.{Notes}

-- the type of each alias, variable, subject and base that is known, by its number, and each parameter, by its name
pub record Known : Type 0 where
  pub type_of : ℕ → Option Ty
  pub parameter : List ℕ → Option Param

-- nothing is known yet
abbrev pub nothing_known : Known
nothing_known = record { type_of = λ n. None; parameter = λ name. None }

-- what is known, and the type of one more root
abbrev pub with_type : ℕ → Ty → Known → Known
with_type n t known = record { type_of = λ m. if n == m then Some t else known.type_of m; parameter = known.parameter }

-- what is known, and the type of the expression that a path begins with
abbrev pub with_base : Root → Ty → Known → Known
with_base (root.Base n) t known = with_type n t known
with_base other t known = known

-- what is known, and one more parameter
abbrev pub with_parameter : Param → Known → Known
with_parameter p known = record { type_of = known.type_of; parameter = λ name. if bytes_eq p.name name then Some p else known.parameter name }

-- what notes say
abbrev pub known_by : Notes → Known
known_by notes = record { type_of = λ n. tree.get nat_cmp notes.types n; parameter = λ name. tree.get (slice_cmp nat_cmp) notes.parameters name }

-- the type of the objects or items at which a path begins
abbrev pub root_type : Known → Root → Option Ty
root_type known (root.Extent t) = Some (made.Object t)
root_type known (root.Alias n) = known.type_of n
root_type known (root.Var n) = known.type_of n
root_type known (root.Subject n) = known.type_of n
root_type known (root.Base n) = known.type_of n
