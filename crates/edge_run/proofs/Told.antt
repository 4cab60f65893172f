-- Each end tells at most one refusal.
use Rattle.std.proofs.Common.{◌≡◌, Option, Some, None, refl, sym, ap, ◌∙◌, rules}
use Rattle.ev_value.specs.declared.item.Fault.{Fault}
use Rattle.edge_run.specs.Refusal.{Refusal, Usage, TooLong, Schema, Data, Query, Args, told}
use Rattle.edge_run.specs.declared.outcome.Doc.{Doc}
use Rattle.edge_run.specs.declared.outcome.Outcome.{Outcome}
use Rattle.edge_run.specs.declared.outcome.Outcome.TheVariants as outcome

-- the refusal that an end tells
untold : Outcome → Option Refusal
untold outcome.Done = None
untold (outcome.Usage u) = Some (Usage u)
untold (outcome.ReadFault d) = None
untold (outcome.TooLong d) = Some (TooLong d)
untold (outcome.WriteFault c) = None
untold (outcome.SchemaRefused r) = Some (Schema r)
untold (outcome.DataRefused b) = Some (Data b)
untold (outcome.QueryRefused r) = Some (Query r)
untold (outcome.ArgsRefused b) = Some (Args b)
untold (outcome.RunFault f) = None
untold outcome.Memory = None

untold_told : (x : Refusal) → untold (told x) ≡ Some x
unfolding untold
untold_told (Usage u) = refl
untold_told (TooLong d) = refl
untold_told (Schema r) = refl
untold_told (Data b) = refl
untold_told (Query r) = refl
untold_told (Args b) = refl

some_is : (x y : Refusal) → ◌≡◌ {A = Option Refusal} (Some x) (Some y) → x ≡ y
some_is x y e = cc

some_not_none : (x : Refusal) → ◌≡◌ {A = Option Refusal} (Some x) None → ⊥
some_not_none x e = search rules

pub told_same : (x y : Refusal) → told x ≡ told y → x ≡ y
told_same x y e = some_is x y (sym (untold_told x) ∙ ap untold e ∙ untold_told y)

pub told_not_memory : (x : Refusal) → told x ≡ outcome.Memory → ⊥
unfolding untold
told_not_memory x e = some_not_none x (sym (untold_told x) ∙ ap untold e)

pub told_not_read : (x : Refusal) (d : Doc) → told x ≡ outcome.ReadFault d → ⊥
unfolding untold
told_not_read x d e = some_not_none x (sym (untold_told x) ∙ ap untold e)

pub told_not_fault : (x : Refusal) (f : Fault) → told x ≡ outcome.RunFault f → ⊥
unfolding untold
told_not_fault x f e = some_not_none x (sym (untold_told x) ∙ ap untold e)
