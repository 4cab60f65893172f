-- What has types over a schema has them over one with one more expression.
use Rattle.std.specs.Prelude.{◌≢◌}
use Rattle.core_ir.specs.declared.phase.Core.{Core}
use Rattle.core_ir.specs.declared.phase.Typed.{Typed}
use Rattle.ev_schema.specs.Facts.{with_computed}
use Rattle.ev_schema.specs.declared.pointer.Computed.{Computed}
use Rattle.ev_schema.specs.declared.schema.Schema.{Schema}
use Rattle.eql_agree.specs.Kinds.{Each}
use Rattle.type_infer.specs.Laws.{HasTypes}
use Rattle.type_agree.specs.Premises.{IsOfOrigin, IsTypedSchema}

-- Trees keep their types, and a schema whose types and pointers suit each other stays so, once an expression is known.
pub record TypesAreKept : Type 0 where
  pub of_trees : (s : Schema) (c : Computed) (core : Core) (typed : Typed) → HasTypes s core typed → HasTypes (with_computed c s) core typed
  pub of_schemas : (s : Schema) (c : Computed) → IsTypedSchema s → IsOfOrigin s c → Each (λ (d : Computed). d.pointer.0 ≢ c.pointer.0) s.computed → IsTypedSchema (with_computed c s)
