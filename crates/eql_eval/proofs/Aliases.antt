-- Aliases one after the other, and conditions.
use Rattle.std.proofs.Common.{◌≡◌, true, false, cond, List, [], ◌∷◌, sym, ap, ◌∙◌}
use Rattle.std.specs.List.{list_any}
use Rattle.ev_value.proofs.Items.{append_nil, bind_only_faults}
use Rattle.ev_value.specs.Item.{bind, one, collect, faults, values, only_faults}
use Rattle.ev_value.specs.declared.item.Fault.{Fault}
use Rattle.ev_value.specs.declared.item.Item.{Item}
use Rattle.ev_value.specs.declared.value.Val.{Val}
use Rattle.ev_list.specs.Aggregate.{is_true}
use Rattle.core_ir.specs.declared.tree.Alias.{Alias}
use Rattle.eql_sem.specs.Items.{IsSettled}
use Rattle.eql_sem.specs.Parts.{aliased, values_in}
use Rattle.eql_sem.specs.Scopes.{Gives}
use Rattle.eql_sem.specs.Selects.{when}
use Rattle.eql_eval.specs.Statements.{IsDefined}
use Rattle.eql_sem.specs.World.{World}
use Rattle.eql_sem.specs.declared.binding.Bound.{Bound}
use Rattle.eql_sem.specs.declared.binding.Bound.TheVariants as bound
use Rattle.eql_sem.specs.declared.binding.Name.{Name}
use Rattle.eql_sem.specs.declared.binding.Name.TheVariants as name
use Rattle.eql_sem.specs.declared.form.Formed.{Formed}
use Rattle.eql_sem.specs.declared.item.Settled.TheVariants as settled
use Rattle.eql_eval.specs.declared.statement.Defined.TheVariants as defined

collect_values : {A B : Type 0} (f : List A → List (Item B)) (xs : List (Item A)) (vs : List A) → IsSettled (settled.Values vs) xs → collect f xs ≡ f vs
collect_values f xs vs h = ap (λ t. cond t (only_faults (faults xs)) (f (values xs))) h.0 ∙ ap f (sym h.1)

collect_faults : {A B : Type 0} (f : List A → List (Item B)) (xs : List (Item A)) (es : List Fault) → IsSettled (settled.Faults es) xs → collect f xs ≡ only_faults es
collect_faults f xs es h = ap (λ t. cond t (only_faults (faults xs)) (f (values xs))) h.0 ∙ ap only_faults (sym h.1)

-- ---- aliases

module _ (w : World) where
  -- the aliases from here on stand for all of them, where the names so far are bound
  abbrev pub Reached : List Alias → List Name → List Bound → List Alias → List Name → List Bound → Type 0
  Reached rest ns b all ns' b' = (gives : Gives Formed) → aliased w all gives ns' b' ≡ aliased w rest gives ns b

  pub defined_turn : (a : Alias) (rest all : List Alias) (ns ns' inner : List Name) (b b' stand : List Bound) (vs : List Val)
      → Reached (a ∷ rest) ns b all ns' b' → IsSettled (settled.Values vs) (values_in w a.value.body ns b)
      → inner ≡ name.Alias a.number ∷ ns → stand ≡ bound.Listed vs ∷ b → Reached rest inner stand all ns' b'
  defined_turn a rest all ns ns' inner b b' stand vs so_far found is_inner is_stand = λ gives.
      so_far gives
      ∙ collect_values (λ us. aliased w rest gives (name.Alias a.number ∷ ns) (bound.Listed us ∷ b)) (values_in w a.value.body ns b) vs found
      ∙ (λ i. aliased w rest gives (sym is_inner i) (sym is_stand i))

  pub defined_faults : (a : Alias) (rest all : List Alias) (ns ns' : List Name) (b b' : List Bound) (es : List Fault)
      → Reached (a ∷ rest) ns b all ns' b' → IsSettled (settled.Faults es) (values_in w a.value.body ns b) → IsDefined w (defined.Faults es) all ns' b'
  defined_faults a rest all ns ns' b b' es so_far found = λ gives.
      so_far gives ∙ collect_faults (λ us. aliased w rest gives (name.Alias a.number ∷ ns) (bound.Listed us ∷ b)) (values_in w a.value.body ns b) es found

  pub defined_end : (all : List Alias) (ns ns' : List Name) (b b' : List Bound) → Reached [] ns b all ns' b' → IsDefined w (defined.Names ns b) all ns' b'
  defined_end all ns ns' b b' so_far = so_far

  pub behind_names : (gives : Gives Formed) (all : List Alias) (ns ns' : List Name) (b b' : List Bound) (xs : List (Item Formed))
      → IsDefined w (defined.Names ns b) all ns' b' → xs ≡ gives ns b → xs ≡ aliased w all gives ns' b'
  behind_names gives all ns ns' b b' xs stands given = given ∙ sym (stands gives)

  pub behind_faults : (gives : Gives Formed) (all : List Alias) (ns' : List Name) (b' : List Bound) (es : List Fault) (xs : List (Item Formed))
      → IsDefined w (defined.Faults es) all ns' b' → xs ≡ only_faults es → xs ≡ aliased w all gives ns' b'
  behind_faults gives all ns' b' es xs stands told = told ∙ sym (stands gives)

-- ---- conditions

pub when_true : {X : Type 0} (c : List (Item Val)) (vs : List Val) (xs : List (Item X)) → IsSettled (settled.Values vs) c → list_any is_true vs ≡ true → xs ≡ when c xs
when_true c vs xs h t =
    sym (ap (λ l. bind l (λ (u : Unit {0}). xs)) (collect_values (λ us. cond (list_any is_true us) (one tt) []) c vs h ∙ ap (λ b. cond b (one tt) []) t) ∙ append_nil xs)

pub when_false : {X : Type 0} (c : List (Item Val)) (vs : List Val) (xs : List (Item X)) → IsSettled (settled.Values vs) c → list_any is_true vs ≡ false → [] ≡ when c xs
when_false c vs xs h t =
    sym (ap (λ l. bind l (λ (u : Unit {0}). xs)) (collect_values (λ us. cond (list_any is_true us) (one tt) []) c vs h ∙ ap (λ b. cond b (one tt) []) t))

pub when_faulty : {X : Type 0} (c : List (Item Val)) (es : List Fault) (xs : List (Item X)) → IsSettled (settled.Faults es) c → only_faults es ≡ when c xs
when_faulty c es xs h =
    sym (ap (λ l. bind l (λ (u : Unit {0}). xs)) (collect_faults (λ us. cond (list_any is_true us) (one tt) []) c es h) ∙ bind_only_faults es (λ (u : Unit {0}). xs))
