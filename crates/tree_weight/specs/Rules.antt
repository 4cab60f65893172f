-- The rules that concern a type, and what they come to.
use Rattle.std.specs.Prelude.{ℕ, zero, suc, Bool, true, false, List, [], ◌∷◌, ◌++◌, length, Option, Some, None, slice_get, if◌then◌else◌}
use Rattle.std.specs.List.{list_any}
use Rattle.core_ir.specs.declared.path.TypeId.{TypeId}
use Rattle.core_ir.specs.declared.phase.Carded.{Carded}
use Rattle.core_ir.specs.declared.tree.Expr.{Expr}
use Rattle.ev_schema.specs.Types.{is_subtype}
use Rattle.ev_schema.specs.declared.policy.Policy.{Policy}
use Rattle.ev_schema.specs.declared.policy.PolicyKind.{PolicyKind}
use Rattle.ev_schema.specs.declared.policy.PolicyKind.TheVariants as kind
use Rattle.ev_schema.specs.declared.types.TypeInfo.{TypeInfo}
use Rattle.tree_weight.specs.Measure.{Measure, leaf}
use Rattle.tree_weight.specs.declared.ruling.Ruling.{Ruling}

-- among the first so many types those that are a given one or extend it
abbrev pub heirs_below : List TypeInfo → TypeId → ℕ → List TypeId
heirs_below types t zero = []
heirs_below types t (suc k) = heirs_below types t k ++ (if is_subtype types (record { 0 = k }) t then record { 0 = k } ∷ [] else [])

-- Whether a rule that a type declares concerns another type, whose heirs are given: that type itself, one that extends it, or
-- one that either of these extends declares the rule.
abbrev pub concerns : List TypeInfo → List TypeId → TypeId → Bool
concerns types heirs origin = list_any (λ (d : TypeId). is_subtype types d origin) heirs

abbrev pub is_select : PolicyKind → Bool
is_select kind.Select = true
is_select _ = false

-- whether a rule is for reading
abbrev pub reads : Policy → Bool
reads p = list_any is_select p.kinds

-- a condition, if there is one
abbrev pub if_any : Option (Option Carded) → Option Carded
if_any None = None
if_any (Some c) = c

-- the condition of the rule at a place, if it has one and it is known
abbrev pub condition_at : List (Option Carded) → ℕ → Option Carded
condition_at conditions k = if_any (slice_get conditions k)

module _ {A : Type 0} (m : Measure A) where
  -- what a condition that is known comes to where its rule is for reading
  abbrev pub of_condition : (Expr → A) → Bool → Option Carded → A
  of_condition measured for_reading None = m.none
  of_condition measured for_reading (Some c) = if for_reading then measured c.typed.core.root.body else m.none

  -- Each rule, with the type that declares it, is a node above its condition; the first one stands at the place k. So the
  -- condition is two levels below the root or step that brings the rule.
  abbrev pub rulings : (Expr → A) → List (Option Carded) → ℕ → List Policy → List (Ruling A)
  rulings measured conditions k [] = []
  rulings measured conditions k (p ∷ more) =
      record { origin = p.origin; size = m.above (of_condition measured (reads p) (condition_at conditions k)) } ∷ rulings measured conditions (suc k) more

  -- a rule without its condition
  abbrev pub alone : Policy → Ruling A
  alone p = record { origin = p.origin; size = leaf m }

  -- what those of some rules come to that concern a type with some heirs, behind something
  abbrev pub rules_behind : List TypeInfo → List TypeId → A → List (Ruling A) → A
  rules_behind types heirs before [] = before
  rules_behind types heirs before (r ∷ more) = rules_behind types heirs (if concerns types heirs r.origin then m.beside before r.size else before) more

  -- what the rules that concern a type come to
  abbrev pub rules_of : List TypeInfo → List (Ruling A) → TypeId → A
  rules_of types rules t = rules_behind types (heirs_below types t (length types)) m.none rules

  -- the same of each of the first so many types
  abbrev pub rules_below : List TypeInfo → List (Ruling A) → ℕ → List A
  rules_below types rules zero = []
  rules_below types rules (suc k) = rules_below types rules k ++ rules_of types rules (record { 0 = k }) ∷ []
