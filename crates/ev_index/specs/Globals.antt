-- Globals by their names.
use Rattle.std.specs.Prelude.{ℕ, List, [], ◌∷◌, Option, Some, None, if◌then◌else◌}
use Rattle.std.specs.Str.{bytes_eq}
use Rattle.ev_schema.specs.declared.types.GlobalInfo.{GlobalInfo}
use Rattle.ev_value.specs.declared.value.ScalarTy.{ScalarTy}

-- the type of the first global that has a name
abbrev pub global_type : List GlobalInfo → List ℕ → Option ScalarTy
global_type [] name = None
global_type (info ∷ more) name = if bytes_eq info.name name then Some info.ty else global_type more name
