-- The rules derive types of a tree exactly where it has them by cases.
use Rattle.std.proofs.Common.{ap, sym, ◌∙◌, subst, refl}
use Rattle.core_ir.specs.declared.phase.Core.{Core}
use Rattle.core_ir.specs.declared.phase.Typed.{Typed}
use Rattle.core_ir.specs.declared.tree.Scope.{Scope}
use Rattle.core_ir.specs.declared.ty.Ty.{Ty}
use Rattle.ev_schema.specs.declared.schema.Schema.{Schema}
use Rattle.plan.specs.Plan.{Derives}
use Rattle.type_infer.specs.Forms as rule
use Rattle.type_rules.specs.Known.{Known}
use Rattle.type_infer.specs.Laws.{HasTypes, TypesAreByCases}
use Rattle.type_infer.specs.Typing.{known_before, typing}
use Rattle.type_infer.proofs.Cases.{has_type, derives, same}

-- a tree with its root, and the type of its items
abbrev typed_by : Core → (Scope × Ty) × Known → Typed
typed_by core v = record { core = record { subject = core.subject; root = v.0.0 }; ty = v.0.1 }

has_types : (schema : Schema) (core : Core) (typed : Typed) → Derives (typing schema core) typed → HasTypes schema core typed
unfolding rule.scope
has_types schema core typed (v, (z, dz, is), made) =
    (z.0, z.1, has_type schema core.root.body (known_before core.subject) z dz, sym (ap (typed_by core) (same is) ∙ same made))

derived : (schema : Schema) (core : Core) (typed : Typed) → HasTypes schema core typed → Derives (typing schema core) typed
unfolding rule.scope
derived schema core typed (x, behind, has, is) = subst (Derives (typing schema core)) (sym is) (_, (_, derives schema has, refl), refl)

pub types_are_by_cases : TypesAreByCases
types_are_by_cases schema core typed = (has_types schema core typed, derived schema core typed)
