-- M5: constraints and defaults that do not suit the type of their pointer.
use Rattle.std.specs.Prelude.{ℕ, Bool, true, false, not, ◌&&◌, List, [], ◌∷◌, codes, Option, Some, None, if◌then◌else◌}
use Rattle.std.specs.List.{list_all}
use Rattle.std.specs.Str.{bytes_eq}
use Rattle.ast.specs.declared.expression.Expr.{Expr}
use Rattle.ev_value.specs.declared.value.ScalarTy.{ScalarTy}
use Rattle.ev_value.specs.declared.value.ScalarTy.TheVariants as scalar
use Rattle.sdl_ast.specs.declared.item.Item.{Item}
use Rattle.sdl_ast.specs.declared.item.Item.TheVariants as item
use Rattle.schema_build.specs.declared.names.Meant.{Meant}
use Rattle.schema_build.specs.declared.names.Meant.TheVariants as meant
use Rattle.schema_build.specs.declared.suits.Constraining.{Constraining}
use Rattle.schema_build.specs.declared.suits.Constraining.TheVariants as constraining
use Rattle.schema_build.specs.Least.{at_if}
use Rattle.schema_build.specs.Literal.{literal_type}

-- the constraints, by their names as written
abbrev pub constraint_named : List ℕ → Option Constraining
constraint_named name =
    if bytes_eq name (codes "exclusive") then Some constraining.Exclusive else
    (if bytes_eq name (codes "min_value") then Some constraining.MinValue else
    (if bytes_eq name (codes "max_value") then Some constraining.MaxValue else
    (if bytes_eq name (codes "min_ex_value") then Some constraining.MinExValue else
    (if bytes_eq name (codes "max_ex_value") then Some constraining.MaxExValue else
    (if bytes_eq name (codes "min_len_value") then Some constraining.MinLen else
    (if bytes_eq name (codes "max_len_value") then Some constraining.MaxLen else
    (if bytes_eq name (codes "one_of") then Some constraining.OneOf else None)))))))

-- a literal of a scalar type
abbrev pub is_of : ScalarTy → Option ScalarTy → Bool
is_of scalar.Int64 (Some scalar.Int64) = true
is_of scalar.Str (Some scalar.Str) = true
is_of scalar.Bool (Some scalar.Bool) = true
is_of scalar.Uuid (Some scalar.Uuid) = true
is_of _ _ = false

-- A literal is of a pointer's type; none is of an object type.
abbrev pub is_literal_of : Option Meant → Expr → Bool
is_literal_of (Some (meant.Scalar t)) e = is_of t (literal_type e)
is_literal_of (Some (meant.Object o)) e = false
is_literal_of None e = false

-- whether a pointer is of a scalar type
abbrev pub has_scalar : ScalarTy → Option Meant → Bool
has_scalar t (Some (meant.Scalar s)) = is_of t (Some s)
has_scalar t (Some (meant.Object o)) = false
has_scalar t None = false

-- one number
abbrev pub is_one_number : List Expr → Bool
is_one_number [] = false
is_one_number (e ∷ []) = is_of scalar.Int64 (literal_type e)
is_one_number (e ∷ f ∷ more) = false

-- whether there are no arguments
abbrev pub has_none : List Expr → Bool
has_none [] = true
has_none (e ∷ more) = false

-- Whether a constraint with these arguments suits a pointer of a type: `exclusive` any, those on values a number, those
-- on lengths a text, and `one_of` a property whose type all its arguments have.
abbrev pub suits : Option Meant → Constraining → List Expr → Bool
suits m constraining.Exclusive args = has_none args
suits m constraining.MinValue args = has_scalar scalar.Int64 m && is_one_number args
suits m constraining.MaxValue args = has_scalar scalar.Int64 m && is_one_number args
suits m constraining.MinExValue args = has_scalar scalar.Int64 m && is_one_number args
suits m constraining.MaxExValue args = has_scalar scalar.Int64 m && is_one_number args
suits m constraining.MinLen args = has_scalar scalar.Str m && is_one_number args
suits m constraining.MaxLen args = has_scalar scalar.Str m && is_one_number args
suits m constraining.OneOf args = not (has_none args) && list_all (is_literal_of m) args

-- whether a constraint suits a pointer of a type; a name that is none does not
abbrev pub suits_if_known : Option Meant → Option Constraining → List Expr → Bool
suits_if_known m None args = false
suits_if_known m (Some c) args = suits m c args

-- a constraint or a default that does not suit a pointer of a type
abbrev pub unsuited_item : Option Meant → Item → Option ℕ
unsuited_item m (item.Constraint s c) = at_if (not (suits_if_known m (constraint_named c.name.text) c.arguments)) s.start
unsuited_item m (item.Default s e) = at_if (not (is_literal_of m e)) s.start
unsuited_item m (item.Property s p) = None
unsuited_item m (item.Deletion s d) = None
unsuited_item m (item.Annotation a) = None
