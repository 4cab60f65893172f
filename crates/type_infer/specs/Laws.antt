-- What is true of the rules of types.
use Rattle.std.specs.Prelude.{◌≡◌, ◌↔◌}
use Rattle.core_ir.specs.declared.phase.Core.{Core}
use Rattle.core_ir.specs.declared.phase.Typed.{Typed}
use Rattle.core_ir.specs.declared.tree.Expr.{Expr}
use Rattle.core_ir.specs.declared.ty.Ty.{Ty}
use Rattle.ev_schema.specs.declared.schema.Schema.{Schema}
use Rattle.plan.specs.Plan.{Derives}
use Rattle.type_infer.specs.HasType.{HasType, scoped}
use Rattle.type_rules.specs.Known.{Known}
use Rattle.type_infer.specs.Typing.{known_before, typing}

-- a tree has these types, by cases
abbrev pub HasTypes : Schema → Core → Typed → Type 0
HasTypes schema core typed =
    (x : Expr × Ty) × (behind : Known) × HasType schema (known_before core.subject) core.root.body x behind
    × (typed ≡ record { core = record { subject = core.subject; root = scoped core.root.start x }; ty = x.1 })

-- The rules derive types of a tree exactly where it has them by cases.
abbrev pub TypesAreByCases : Type 0
TypesAreByCases = (schema : Schema) (core : Core) (typed : Typed) → Derives (typing schema core) typed ↔ HasTypes schema core typed
