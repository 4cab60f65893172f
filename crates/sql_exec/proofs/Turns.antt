-- The turns of FROM, one item after the other, and what is told of the rows in the end.
use Rattle.std.proofs.Common.{◌≡◌, ℕ, suc, ◌+◌, ◌<◌, ◌≤◌, List, [], ◌∷◌, Some, None, length, drop, get_or, refl, sym, ap, ◌∙◌, arith, Contains}
use Rattle.std.proofs.Math.ListN.{drop_of_length-le}
use Rattle.std.proofs.Math.Seq.{drop-cons}
use Rattle.ev_value.specs.Item.{bind, all_of, faults, values}
use Rattle.ev_value.specs.declared.item.Fault.{Fault}
use Rattle.ev_value.specs.declared.item.Item.{Item}
use Rattle.ev_value.specs.declared.item.Item.TheVariants as item
use Rattle.ev_value.proofs.Items.{bind_assoc, bind_unit}
use Rattle.ev_list.specs.Items.{first_fault}
use Rattle.sql_ast.specs.declared.select.FromItem.{FromItem}
use Rattle.sql_table.specs.Forms.{turns_of}
use Rattle.sql_table.specs.Meaning.{turns_of_item}
use Rattle.sql_table.specs.Names.{Scope, World}

drop_one : {A : Type 0} (xs : List A) (i : ℕ) (x : A) → i < length xs → x ≡ get_or xs i x → drop i xs ≡ x ∷ drop (i + 1) xs
drop_one xs i x h is = drop-cons xs i x h ∙ (λ k. sym is k ∷ drop (one_more i k) xs)
  where
    one_more : (n : ℕ) → suc n ≡ n + 1
    one_more n = omega arith

module _ (w : World) where
  pub turns_turn : (whole : List (Item Scope)) (items : List FromItem) (at : ℕ) (i : FromItem) (old new : List (Item Scope))
      → bind old (turns_of w (drop at items)) ≡ whole → at < length items → i ≡ get_or items at i → new ≡ bind old (turns_of_item w i) → bind new (turns_of w (drop (at + 1) items)) ≡ whole
  turns_turn whole items at i old new is h here n =
      ap (λ l. bind l (turns_of w (drop (at + 1) items))) n ∙ bind_assoc old (turns_of_item w i) (turns_of w (drop (at + 1) items))
      ∙ sym (ap (λ m. bind old (turns_of w m)) (drop_one items at i h here)) ∙ is

  pub turns_end : (whole : List (Item Scope)) (items : List FromItem) (at : ℕ) (turns : List (Item Scope)) → bind turns (turns_of w (drop at items)) ≡ whole → length items ≤ at → turns ≡ whole
  turns_end whole items at turns is h = sym (bind_unit turns) ∙ sym (ap (λ m. bind turns (turns_of w m)) (drop_of_length-le items h)) ∙ is

pub told : {A : Type 0} (xs : List (Item A)) (e : Fault) → first_fault xs ≡ Some e → Contains (faults xs) e
told [] e h = cc
told (item.Value a ∷ xs) e h = told xs e h
told (item.Fault f ∷ xs) e h = (0, omega arith, cc)

pub clean : {A : Type 0} (xs : List (Item A)) → first_fault xs ≡ None → xs ≡ all_of (values xs)
clean [] h = refl
clean (item.Value a ∷ xs) h = ap (λ l. item.Value a ∷ l) (clean xs h)
clean (item.Fault f ∷ xs) h = cc
