-- Loops that take items from the end.
use Rattle.std.proofs.Common.{◌≡◌, List, [], ◌∷◌, ◌++◌, reverse, refl, sym, ap, ◌∙◌, append_assoc}
use Rattle.std.proofs.lemmas.List.{reverse-append}
use Rattle.ev_value.proofs.Items.{append_nil, values_append}
use Rattle.ev_value.specs.Item.{all_of, values}
use Rattle.ev_value.specs.declared.item.Fault.{Fault}
use Rattle.ev_value.specs.declared.item.Item.{Item}
use Rattle.ev_value.specs.declared.item.Item.TheVariants as item

module _ {A : Type 0} where
  pub value_turn : (whole : List A) (old new : List (Item A)) (v : A) (taken more : List A) → values old ++ reverse taken ≡ whole → old ≡ new ++ item.Value v ∷ [] → more ≡ taken ++ v ∷ [] → values new ++ reverse more ≡ whole
  value_turn whole old new v taken more is e m =
      ap (λ l. values new ++ l) (ap reverse m ∙ reverse-append taken (v ∷ []))
      ∙ sym (append_assoc (values new) (v ∷ []) (reverse taken))
      ∙ sym (ap (λ l. l ++ reverse taken) (ap values e ∙ values_append new (item.Value v ∷ []))) ∙ is

  pub fault_turn : (whole : List A) (old new : List (Item A)) (e : Fault) (taken : List A) → values old ++ reverse taken ≡ whole → old ≡ new ++ item.Fault e ∷ [] → values new ++ reverse taken ≡ whole
  fault_turn whole old new e taken is h =
      sym (ap (λ l. l ++ reverse taken) (ap values h ∙ values_append new (item.Fault e ∷ []) ∙ append_nil (values new))) ∙ is

  all_of_last : (xs : List A) (x : A) → all_of (xs ++ x ∷ []) ≡ all_of xs ++ item.Value x ∷ []
  all_of_last [] x = refl
  all_of_last (y ∷ ys) x = ap (λ l. item.Value y ∷ l) (all_of_last ys x)

  pub all_turn : (whole : List (Item A)) (old new : List A) (v : A) (taken more : List (Item A)) → all_of old ++ reverse taken ≡ whole → old ≡ new ++ v ∷ [] → more ≡ taken ++ item.Value v ∷ [] → all_of new ++ reverse more ≡ whole
  all_turn whole old new v taken more is e m =
      ap (λ l. all_of new ++ l) (ap reverse m ∙ reverse-append taken (item.Value v ∷ []))
      ∙ sym (append_assoc (all_of new) (item.Value v ∷ []) (reverse taken))
      ∙ sym (ap (λ l. l ++ reverse taken) (ap all_of e ∙ all_of_last new v)) ∙ is
