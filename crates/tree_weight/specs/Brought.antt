-- What a schema brings into a tree: its rules, and the expressions of its computed pointers.
use Rattle.std.specs.Prelude.{◌==◌, List, [], ◌∷◌, length, map, Option, Some, None, slice_get, unwrap_or, if◌then◌else◌}
use Rattle.core_ir.specs.declared.path.TypeId.{TypeId}
use Rattle.core_ir.specs.declared.phase.Core.{Core}
use Rattle.ev_schema.specs.Pointers.{target_of}
use Rattle.ev_schema.specs.declared.pointer.Computed.{Computed}
use Rattle.ev_schema.specs.declared.pointer.PtrInfo.{PtrInfo}
use Rattle.ev_schema.specs.declared.schema.Schema.{Schema}
use Rattle.tree_weight.specs.Measure.{Measure, Brought}
use Rattle.tree_weight.specs.Rules.{rulings, alone, rules_below}
use Rattle.tree_weight.specs.Trees.{measured}
use Rattle.tree_weight.specs.declared.ruling.Ruling.{Ruling}

-- the type whose objects a pointer leads to, if there is such a pointer and it is a stored link
abbrev pub target_if_known : Option PtrInfo → Option TypeId
target_if_known None = None
target_if_known (Some info) = target_of info.body

module _ {A : Type 0} (m : Measure A) where
  -- what comes with a type, if there is one
  abbrev pub with_target : (TypeId → A) → Option TypeId → A
  with_target by_type None = m.none
  with_target by_type (Some t) = by_type t

  -- what some types bring, and the links to them; no computed pointer brings anything yet
  abbrev pub by_types : (TypeId → A) → List PtrInfo → Brought A
  by_types by_type pointers = record {
    by_type = by_type;
    by_link = λ p. with_target by_type (target_if_known (slice_get pointers p.0));
    by_computed = λ p. m.none;
  }

  -- One more computed pointer brings its expression, with all that is brought into this.
  abbrev pub with_computed : Brought A → Computed → Brought A
  with_computed b c = record {
    by_type = b.by_type;
    by_link = b.by_link;
    by_computed = λ p. if c.pointer.0 == p.0 then measured m b c.expr.typed.core.root.body else b.by_computed p;
  }

  -- The same of some, one after the other: each names only pointers that stand before it.
  abbrev pub with_all : Brought A → List Computed → Brought A
  with_all b [] = b
  with_all b (c ∷ more) = with_all (with_computed b c) more

  -- what the types bring, and the computed pointers over them
  abbrev pub brought_over : (TypeId → A) → Schema → Brought A
  brought_over by_type schema = with_all (by_types by_type schema.pointers) schema.computed

  -- what is brought where rules do not count: the expressions of computed pointers
  abbrev pub without_rules : Schema → Brought A
  without_rules = brought_over (λ t. m.none)

  -- what some rules bring, at each type of a schema those that concern it
  abbrev pub by_rules : Schema → List (Ruling A) → TypeId → A
  by_rules schema rules t = unwrap_or (slice_get (rules_below m schema.types rules (length schema.types)) t.0) m.none

  -- In a query a rule brings itself and, where it is for reading, its condition, in which rules do not count.
  abbrev pub in_query : Schema → Brought A
  in_query schema = brought_over (by_rules schema (rulings m (measured m (without_rules schema)) schema.conditions 0 schema.policies)) schema

  -- While the expressions of a schema are checked, a rule brings itself alone.
  abbrev pub in_schema : Schema → Brought A
  in_schema schema = brought_over (by_rules schema (map (alone m) schema.policies)) schema

  -- a query, and an expression of the schema, with all that is brought into them
  abbrev pub of_query : Schema → Core → A
  of_query schema c = measured m (in_query schema) c.root.body

  abbrev pub of_schema_expression : Schema → Core → A
  of_schema_expression schema c = measured m (in_schema schema) c.root.body
