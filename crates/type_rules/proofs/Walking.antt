-- The turns of the loop over the steps of a path.
use Rattle.std.proofs.Common.{◌≡◌, ℕ, ◌+◌, ◌<◌, ◌≤◌, List, ◌∷◌, length, get_or, drop, ap, sym, ◌∙◌, length-drop, drop-cons, add-one, arith}
use Rattle.std.proofs.lemmas.List.{drop_all}
use Rattle.core_ir.specs.declared.path.Step.{Step}
use Rattle.ev_schema.specs.declared.schema.Schema.{Schema}
use Rattle.plan.specs.Plan.{Told, Given, and_then, tells}
use Rattle.type_rules.specs.declared.steps.Walked.{Walked}
use Rattle.type_rules.specs.declared.refusal.TypeRefusal.{TypeRefusal}
use Rattle.type_rules.specs.Steps.{walk, walk_on, place_of}

rest_is : {X : Type 0} (xs : List X) (i : ℕ) (x : X) → i < length xs → x ≡ get_or xs i x → drop i xs ≡ x ∷ drop (i + 1) xs
rest_is xs i x lt is = drop-cons xs i x lt ∙ (λ j. sym is j ∷ drop (sym (add-one i) j) xs)

module _ (schema : Schema) (start : ℕ) (places : List ℕ) (steps : List Step) (i : ℕ) where
  -- what is told of the steps from one on
  abbrev pub from : Walked → List Step → Told TypeRefusal (Walked × Unit {0})
  from done more = tells (walk schema start places done more tt)

  left : (behind : ℕ) → behind + (i + 1) ≡ length steps → length (drop (i + 1) steps) ≡ behind
  left behind e = length-drop (i + 1) steps ∙ omega (arith, e)

  -- what is left is the next step, at its place, and those behind it
  pub comes : (done : Walked) (x : Step) (behind : ℕ) (whole : Told TypeRefusal (Walked × Unit {0})) → i < length steps → x ≡ get_or steps i x → behind + (i + 1) ≡ length steps → from done (drop i steps) ≡ whole
      → whole ≡ and_then (tells (walk_on schema done x (place_of start places behind) tt)) (λ b. tells (walk schema start places b.0 (drop (i + 1) steps) b.1))
  comes done x behind whole lt is e inv =
      sym inv ∙ ap (from done) (rest_is steps i x lt is) ∙ (λ j. and_then (tells (walk_on schema done x (place_of start places (left behind e j)) tt)) (λ b. tells (walk schema start places b.0 (drop (i + 1) steps) b.1)))

  -- a step that leads on
  pub goes : (done : Walked) (x : Step) (next : Walked) (behind : ℕ) (whole : Told TypeRefusal (Walked × Unit {0})) → i < length steps → x ≡ get_or steps i x → behind + (i + 1) ≡ length steps → from done (drop i steps) ≡ whole
      → tells (walk_on schema done x (place_of start places behind) tt) ≡ Given (next, tt) → from next (drop (i + 1) steps) ≡ whole
  goes done x next behind whole lt is e inv t =
      sym (comes done x behind whole lt is e inv ∙ ap (λ t. and_then t (λ b. tells (walk schema start places b.0 (drop (i + 1) steps) b.1))) t)

  -- no step is left
  pub ends : (done : Walked) (whole : Told TypeRefusal (Walked × Unit {0})) → length steps ≤ i → from done (drop i steps) ≡ whole → whole ≡ Given (done, tt)
  ends done whole h inv = sym inv ∙ ap (from done) (drop_all i steps h)
