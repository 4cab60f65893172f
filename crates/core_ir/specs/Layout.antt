-- How the items of an expression in a result position are laid out.
use Rattle.std.specs.Prelude.{Bool, true, List, [], ◌∷◌, Option, Some, None}
use Rattle.core_ir.specs.declared.card.Card.{Card}
use Rattle.core_ir.specs.Card.{is_many}
use Rattle.core_ir.specs.declared.layout.Layout.{Layout}
use Rattle.core_ir.specs.declared.layout.Layout.TheVariants as layout
use Rattle.core_ir.specs.declared.layout.LayoutField.{LayoutField}
use Rattle.core_ir.specs.declared.ty.Ty.{Ty, Row_of-Ty, end_of-Ty, more_of-Ty}
use Rattle.core_ir.specs.declared.ty.Ty as ty
use Rattle.core_ir.specs.declared.tree.Expr.{Expr, Row_of-Expr, end_of-Expr, more_of-Expr, Row_of-Element, end_of-Element, more_of-Element}
use Rattle.core_ir.specs.declared.tree.Expr as e
use Rattle.core_ir.specs.declared.tree.Select.{Select'}

-- what has no shape in it: a scalar, an object, a tuple of these, an array, which is laid out as one value
unfoldable mutual
  pub plain : Ty → Layout
  plain (ty.Scalar _) = layout.Scalar
  plain (ty.Object _) = layout.Object
  plain (ty.Tuple' _ parts) = layout.Tuple (plain_of parts)
  plain (ty.Array _) = layout.Scalar

  pub plain_of : {m : _} → Row_of-Ty m → List Layout
  plain_of end_of-Ty = []
  plain_of (more_of-Ty t rest) = plain t ∷ plain_of rest

-- a field is an array where it may have many items
abbrev pub is_multi : Option Card → Bool
is_multi (Some c) = is_many c
is_multi None = true

-- Of a type that is not filled in yet nothing is known.
abbrev pub plain_slot : Option Ty → Layout
plain_slot (Some t) = plain t
plain_slot None = layout.Scalar

-- The layout of an expression with a type: shapes as they are written, tuples by their parts, and else what the type says.
unfoldable mutual
  pub layout_by : Expr → Option Ty → Layout
  layout_by (e.Shaped' _ _ _ _ _ _ elements) t = layout.Shape (fields elements)
  layout_by (e.Tuple' _ _ parts) (Some (ty.Tuple' _ types)) = layout.Tuple (layouts parts types)
  layout_by (e.Select' _ _ _ (Select' _ (more_of-Expr x end_of-Expr) _ _ _ _ _ _ _)) t = layout_by x t
  layout_by (e.For' _ _ _ _ _ _ _ _ _ _ _ (more_of-Expr x end_of-Expr)) t = layout_by x t
  layout_by _ t = plain_slot t

  pub layouts : {m n : _} → Row_of-Expr m → Row_of-Ty n → List Layout
  layouts (more_of-Expr x rest) (more_of-Ty t types) = layout_by x (Some t) ∷ layouts rest types
  layouts _ _ = []

  pub fields : {m : _} → Row_of-Element m → List LayoutField
  fields end_of-Element = []
  fields (more_of-Element _ n _ _ t c _ _ _ (more_of-Expr x end_of-Expr) rest) =
      record { name = n; multi = is_multi c; layout = layout_by x t } ∷ fields rest
