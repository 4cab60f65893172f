-- The names of the scalar types.
use Rattle.std.specs.Prelude.{ℕ, List, codes, Option, Some, None, if◌then◌else◌}
use Rattle.std.specs.Str.{bytes_eq}
use Rattle.ev_value.specs.declared.value.ScalarTy.{ScalarTy}
use Rattle.ev_value.specs.declared.value.ScalarTy.TheVariants as scalar

-- the scalar type with a name, which has no module
abbrev pub scalar_named : List ℕ → Option ScalarTy
scalar_named name =
    if bytes_eq name (codes "int64") then Some scalar.Int64 else
    (if bytes_eq name (codes "str") then Some scalar.Str else
    (if bytes_eq name (codes "bool") then Some scalar.Bool else
    (if bytes_eq name (codes "uuid") then Some scalar.Uuid else None)))
