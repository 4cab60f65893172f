-- What the items of a query make due.
use Rattle.std.proofs.Common.{◌≡◌, ℕ, List, [], ◌∷◌, Result, Ok, Err, ◌⊎◌, inl, inr, true, false, refl, rules}
use Rattle.ev_io.specs.Shelf.{ShelfView}
use Rattle.ev_value.specs.Item.{has_fault, faults, values}
use Rattle.ev_value.specs.declared.item.Fault.{Fault}
use Rattle.ev_value.specs.declared.item.Item.{Item}
use Rattle.ev_value.specs.declared.item.Item.TheVariants as item
use Rattle.ev_value.specs.declared.value.Val.{Val}
use Rattle.edge_run.specs.Plan.{Goes}
use Rattle.edge_run.specs.Modes.{answered, answer_text}
use Rattle.edge_run.specs.declared.outcome.Outcome.{Outcome}
use Rattle.edge_run.specs.declared.outcome.Outcome.TheVariants as outcome
use Rattle.edge_run.proofs.PlanLaws.{stopped, quiet}

pub faulty : (xs : List (Item Val)) (f : Fault) (more : List Fault) → faults xs ≡ f ∷ more → has_fault xs ≡ true
faulty [] f more e = search rules
faulty (item.Value a ∷ xs) f more e = faulty xs f more e
faulty (item.Fault g ∷ xs) f more e = refl

pub faultless : (xs : List (Item Val)) → faults xs ≡ [] → has_fault xs ≡ false
faultless [] e = refl
faultless (item.Value a ∷ xs) e = faultless xs e
faultless (item.Fault g ∷ xs) e = search rules

pub answered_fault : (xs : List (Item Val)) (f : Fault) (more : List Fault) → faults xs ≡ f ∷ more → (s : ShelfView)
    → Goes (answered xs) s (Err (outcome.RunFault f)) s
unfolding answered Goes
answered_fault xs f more e s = rw (faulty xs f more e) (inr (f, rw e (search rules), refl, refl))

pub answered_text : (xs : List (Item Val)) (r : Result (List ℕ) Outcome) → faults xs ≡ []
    → (r ≡ Ok (answer_text (values xs))) ⊎ (r ≡ Err outcome.Memory) → (s : ShelfView) → Goes (answered xs) s r s
unfolding answered Goes
answered_text xs r e (inl is) s = rw (faultless xs e) (inr (is, refl))
answered_text xs r e (inr is) s = stopped (answered xs) s s r (is, quiet s)
