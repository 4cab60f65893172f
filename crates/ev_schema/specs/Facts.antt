-- Schemas of some parts.
use Rattle.std.specs.Prelude.{◌≡◌, ◌≢◌, List, [], ◌∷◌, ◌++◌, Option, Some, None, codes, slice_get, slice_set}
use Rattle.ev_value.specs.declared.value.ScalarTy.TheVariants as scalar
use Rattle.core_ir.specs.declared.card.Card.{Card}
use Rattle.core_ir.specs.declared.card.Card.TheVariants as card
use Rattle.core_ir.specs.declared.path.PtrId.{PtrId}
use Rattle.core_ir.specs.declared.phase.Carded.{Carded}
use Rattle.core_ir.specs.declared.ty.Ty.TheVariants as ty
use Rattle.ev_schema.specs.declared.types.GlobalInfo.{GlobalInfo}
use Rattle.ev_schema.specs.declared.types.TypeInfo.{TypeInfo}
use Rattle.ev_schema.specs.declared.pointer.Computed.{Computed}
use Rattle.ev_schema.specs.declared.pointer.PtrInfo.{PtrInfo}
use Rattle.ev_schema.specs.declared.pointer.Body.TheVariants as body
use Rattle.ev_schema.specs.declared.pointer.Limit.TheVariants as limit
use Rattle.ev_schema.specs.declared.policy.Policy.{Policy}
use Rattle.ev_schema.specs.declared.schema.Schema.{Schema}

-- `id`: a required uuid of which no two objects have the same
abbrev pub id_info : PtrInfo
id_info = record {
  name = codes "id";
  origin = record { 0 = 0 };
  card = card.One;
  body = body.Stored (ty.Scalar scalar.Uuid);
  limits = limit.Exclusive ∷ [];
  link_props = [];
  default = None;
}

-- The schema of some parts, with `id` behind its pointers. No expression of a computed pointer or of a rule is known.
abbrev pub made_of : List TypeInfo → List PtrInfo → List GlobalInfo → List Policy → Schema
made_of types pointers globals policies = record {
  types = types;
  pointers = pointers ++ id_info ∷ [];
  globals = globals;
  policies = policies;
  conditions = [];
  computed = [];
}

-- the same schema with the conditions of its rules
abbrev pub with_conditions : List (Option Carded) → Schema → Schema
with_conditions conditions s = record {
  types = s.types;
  pointers = s.pointers;
  globals = s.globals;
  policies = s.policies;
  conditions = conditions;
  computed = s.computed;
}

-- the same pointer within other bounds
abbrev pub bounded : Card → PtrInfo → PtrInfo
bounded c info = record info { card = c }

-- pointers with one put anew within other bounds, if it is one of them
abbrev pub with_bounded : List PtrInfo → PtrId → Card → Option PtrInfo → List PtrInfo
with_bounded pointers p c None = pointers
with_bounded pointers p c (Some info) = slice_set pointers p.0 (bounded c info)

-- the same pointers, of which one has other bounds
abbrev pub with_bounds : PtrId → Card → List PtrInfo → List PtrInfo
with_bounds p c pointers = with_bounded pointers p c (slice_get pointers p.0)

-- the same schema with one more expression, whose bounds are those of its pointer from then on
abbrev pub with_computed : Computed → Schema → Schema
with_computed c s = record {
  types = s.types;
  pointers = with_bounds c.pointer c.card s.pointers;
  globals = s.globals;
  policies = s.policies;
  conditions = s.conditions;
  computed = s.computed ++ c ∷ [];
}

-- Once an expression is known, its pointer has its bounds, and what is known of the others stays.
pub record ComputedIsBounded : Type 0 where
  pub own : (c : Computed) (s : Schema) (info : PtrInfo) → slice_get (with_computed c s).pointers c.pointer.0 ≡ Some info → info.card ≡ c.card
  pub others : (c : Computed) (s : Schema) (p : PtrId) → p.0 ≢ c.pointer.0 → slice_get (with_computed c s).pointers p.0 ≡ slice_get s.pointers p.0
