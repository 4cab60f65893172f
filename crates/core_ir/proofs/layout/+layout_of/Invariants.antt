-- What was laid out and what is left.
use Rattle.std.proofs.Common.{◌≡◌, ◌++◌, map, take, drop}
use Rattle.core_ir.specs.LayoutParts.{field_of, layouts_of}
use Rattle.core_ir.proofs.layout.+layout_of.Given as goal

abbrev pub invariant-layouts-loop-expr : goal.invariant-layouts-loop-expr
invariant-layouts-loop-expr l = l.found ++ layouts_of (drop l.expr-index l.exprs) l.rest ≡ layouts_of l.exprs l.types

abbrev pub invariant-fields-loop-element : goal.invariant-fields-loop-element
invariant-fields-loop-element l = l.found ≡ map field_of (take l.element-index l.elements)
