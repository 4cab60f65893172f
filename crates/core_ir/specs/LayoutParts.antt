-- The layouts of lists of parts.
use Rattle.std.specs.Prelude.{List, [], ◌∷◌, Some}
use Rattle.core_ir.specs.declared.layout.Layout.{Layout}
use Rattle.core_ir.specs.declared.layout.LayoutField.{LayoutField}
use Rattle.core_ir.specs.declared.tree.Element.{Element}
use Rattle.core_ir.specs.declared.tree.Expr.{Expr}
use Rattle.core_ir.specs.declared.ty.Ty.{Ty}
use Rattle.core_ir.specs.Layout.{is_multi, layout_by}

-- the field of an element of a shape
abbrev pub field_of : Element → LayoutField
field_of x = record { name = x.name; multi = is_multi x.card; layout = layout_by x.value.body x.ty }

-- the layouts of expressions with their types, as far as both go
abbrev pub layouts_of : List Expr → List Ty → List Layout
layouts_of (x ∷ xs) (t ∷ ts) = layout_by x (Some t) ∷ layouts_of xs ts
layouts_of _ _ = []
