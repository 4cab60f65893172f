-- Computed pointers whose expressions have their types are typed.
use Rattle.std.proofs.Common.{Option, Some, List, [], ◌∷◌, subst}
use Rattle.ev_value.specs.declared.args.Args.{Args}
use Rattle.core_ir.specs.declared.path.TypeId.{TypeId}
use Rattle.core_ir.specs.declared.ty.Ty.{Ty}
use Rattle.ev_schema.specs.declared.pointer.Computed.{Computed}
use Rattle.ev_schema.specs.declared.schema.Schema.{Schema}
use Rattle.eql_agree.specs.Kinds.{Each}
use Rattle.eql_agree.specs.Kinded.{HasAsScope}
use Rattle.store_agree.specs.Typed.{typing, IsTyped, ComputedTyped}
use Rattle.type_agree.specs.Premises.{IsTypedSchema}
use Rattle.type_agree.specs.Law.{names_before, types_before}
use Rattle.type_agree.specs.Computed.{IsInferred, InferredAreTyped}
use Rattle.type_agree.proofs.Trees.{types_are_kinds}

module _ (s : Schema) (args : Args) (schema : IsTypedSchema s) where
  is_typed : (c : Computed) → IsInferred s args c → IsTyped s args c
  is_typed c h a e =
      let body = c.expr.typed.core.root.body in
      let kind = types_are_kinds.of_trees s args h.types h.core c.expr.typed h.has_types schema h.numbers h.arguments in
      subst (λ (t : Ty). HasAsScope (typing s args) body (names_before (Some a)) (types_before (Some a)) t) h.same
      (subst (λ (o : Option TypeId). HasAsScope (typing s args) body (names_before o) (types_before o) c.expr.typed.ty) e kind)

  each_typed : (cs : List Computed) → Each (IsInferred s args) cs → ComputedTyped s args cs
  each_typed [] h = tt
  each_typed (c ∷ cs) h = (is_typed c h.0, each_typed cs h.1)

pub inferred_are_typed : InferredAreTyped
inferred_are_typed = record { of_schema = λ s args schema h. each_typed s args schema s.computed h }
