-- The expressions of a schema's computed pointers, where each has its types over that schema.
use Rattle.std.specs.Prelude.{◌≡◌, ℕ, Option}
use Rattle.ev_value.specs.declared.args.Args.{Args}
use Rattle.core_ir.specs.declared.phase.Core.{Core}
use Rattle.core_ir.specs.declared.ty.Ty.{Ty}
use Rattle.ev_schema.specs.declared.pointer.Computed.{Computed}
use Rattle.ev_schema.specs.declared.schema.Schema.{Schema}
use Rattle.eql_agree.specs.Kinds.{Each}
use Rattle.store_agree.specs.Typed.{ComputedTyped}
use Rattle.type_infer.specs.Laws.{HasTypes}
use Rattle.type_agree.specs.Noted.{notes_of_tree}
use Rattle.type_agree.specs.Premises.{IsTypedSchema, HasOneTypeEach, ArgumentsSuit}

-- The expression of a computed pointer has its types over a schema, and its pointer has the type of its items.
pub record IsInferred (s : Schema) (args : Args) (c : Computed) : Type 0 where
  -- the tree before it had types, and the types of its numbers
  pub core : Core
  pub types : ℕ → Option Ty
  pub has_types : HasTypes s core c.expr.typed
  pub same : c.expr.typed.ty ≡ c.ty
  pub numbers : HasOneTypeEach types (notes_of_tree c.expr.typed.core)
  pub arguments : ArgumentsSuit s args (notes_of_tree c.expr.typed.core)

-- Computed pointers whose expressions have their types over the schema are typed there.
pub record InferredAreTyped : Type 0 where
  pub of_schema : (s : Schema) (args : Args) → IsTypedSchema s → Each (IsInferred s args) s.computed → ComputedTyped s args s.computed
