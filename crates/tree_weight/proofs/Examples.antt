-- Worked trees.
use Rattle.std.proofs.Common.{◌≡◌, true, false, List, [], ◌∷◌, Some, None, refl}
use Rattle.ev_value.specs.declared.value.ScalarTy.TheVariants as scalar
use Rattle.ev_value.specs.declared.value.Val.TheVariants as val
use Rattle.core_ir.specs.declared.card.Card.TheVariants as card
use Rattle.core_ir.specs.declared.path.Root.TheVariants as root
use Rattle.core_ir.specs.declared.path.Step.{Step}
use Rattle.core_ir.specs.declared.path.Step.TheVariants as step
use Rattle.core_ir.specs.declared.phase.Carded.{Carded}
use Rattle.core_ir.specs.declared.phase.Core.{Core}
use Rattle.core_ir.specs.declared.tree.Expr.{Expr}
use Rattle.core_ir.specs.declared.tree.Expr.TheBlock as block
use Rattle.core_ir.specs.declared.tree.Expr.TheVariants as form
use Rattle.core_ir.specs.declared.tree.Select.{roll-Select}
use Rattle.core_ir.specs.declared.ty.Ty.TheVariants as ty
use Rattle.ev_schema.specs.declared.policy.PolicyKind.TheVariants as kind
use Rattle.ev_schema.specs.declared.schema.Schema.{Schema}
use Rattle.tree_weight.specs.Depth.{depth}
use Rattle.tree_weight.specs.Trees.{measured}
use Rattle.tree_weight.specs.Weight.{weight, weight_in_schema}
use denote.Hole.Carrier as carrier

-- a path from the objects of the type with the number 0
path : List Step → Expr
path steps = form.Path 0 (record { name = []; path = record { root = root.Extent (record { 0 = 0 }); steps = steps }; places = [] })

-- a statement that only has a subject
select : Expr → Core
select x = record { subject = None; root = record { start = 0; ty = None; body = form.Select 0 [] (roll-Select (record { subject = x; ty = None; number = 0; filter = None; keys = []; offset = None; limit = None })) } }

literal : Expr
literal = form.Literal 0 (val.Bool true)

carded : Expr → Carded
carded x = record { typed = record { core = record { subject = Some (record { 0 = 0 }); root = record { start = 0; ty = None; body = x } }; ty = ty.Scalar scalar.Bool }; card = card.One }

-- `type User { property name: str; }`
users : Schema
users = record { types = record { name = []; is_abstract = false; ancestors = []; pointers = [] } ∷ []; pointers = []; globals = []; policies = []; conditions = []; computed = [] }

-- `select User.name` is a statement, a root and a step.
three_nodes : weight users (select (path (step.Prop (record { 0 = 0 }) ∷ []))) ≡ 3
unfolding measured roll-Select carrier.roll carrier.hidden block.hidden-the_row-Expr-0 block.hidden-the_row-Alias-4 block.hidden-the_row-Scope-5 block.hidden-the_row-Key-6 path select users
three_nodes = refl

three_levels : depth users (select (path (step.Prop (record { 0 = 0 }) ∷ []))) ≡ 3
unfolding measured roll-Select carrier.roll carrier.hidden block.hidden-the_row-Expr-0 block.hidden-the_row-Alias-4 block.hidden-the_row-Scope-5 block.hidden-the_row-Key-6 path select users
three_levels = refl

-- `type Admin extending User { access policy p allow select using (true); }` beside `User`, of which pointer 0 is `true`
guarded : Schema
guarded = record {
  types = record { name = []; is_abstract = false; ancestors = []; pointers = [] } ∷ record { name = []; is_abstract = false; ancestors = record { 0 = 0 } ∷ []; pointers = [] } ∷ [];
  pointers = [];
  globals = [];
  policies = record { origin = record { 0 = 1 }; name = []; allow = true; kinds = kind.Select ∷ [] } ∷ [];
  conditions = Some (carded literal) ∷ [];
  computed = record { pointer = record { 0 = 0 }; ty = ty.Scalar scalar.Bool; card = card.One; expr = carded literal } ∷ [];
}

-- A statement, a root, the rule of a descendant and its condition, a computed step and its expression.
six_nodes : weight guarded (select (path (step.Comp (record { 0 = 0 }) ∷ []))) ≡ 6
unfolding measured roll-Select carrier.roll carrier.hidden block.hidden-the_row-Expr-0 block.hidden-the_row-Alias-4 block.hidden-the_row-Scope-5 block.hidden-the_row-Key-6 path select guarded carded literal
six_nodes = refl

-- The condition stands below its rule, this below the root, this below the step, and this below the statement.
five_levels : depth guarded (select (path (step.Comp (record { 0 = 0 }) ∷ []))) ≡ 5
unfolding measured roll-Select carrier.roll carrier.hidden block.hidden-the_row-Expr-0 block.hidden-the_row-Alias-4 block.hidden-the_row-Scope-5 block.hidden-the_row-Key-6 path select guarded carded literal
five_levels = refl

-- While the schema is checked, the condition does not count.
five_nodes : weight_in_schema guarded (select (path (step.Comp (record { 0 = 0 }) ∷ []))) ≡ 5
unfolding measured roll-Select carrier.roll carrier.hidden block.hidden-the_row-Expr-0 block.hidden-the_row-Alias-4 block.hidden-the_row-Scope-5 block.hidden-the_row-Key-6 path select guarded carded literal
five_nodes = refl
