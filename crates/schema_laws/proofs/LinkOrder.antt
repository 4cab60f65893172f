-- The properties of a built link stand in byte order of their names.
use Rattle.std.proofs.Common.{◌≡◌, ◌≢◌, ℕ, List, [], ◌∷◌, ◌++◌, None, refl, sym, ap, subst, ◌∙◌, append-nil}
use Rattle.ev_list.specs.Order.{in_order, keyless}
use Rattle.ev_schema.specs.Policies.{by_name}
use Rattle.ev_schema.specs.declared.pointer.LinkProperty.{LinkProperty}
use Rattle.db_store.specs.Fits.{Each, Ascend, text_before}
use Rattle.schema_build.specs.Least.{at_if}
use Rattle.schema_build.specs.LinkProperties.{repeated_items}
use Rattle.schema_build.specs.Made.{scalar_of, properties_in, link_properties}
use Rattle.ev_names.specs.Names.{is_among}
use Rattle.schema_build.specs.Names.{meaning_of}
use Rattle.sdl_ast.specs.declared.item.Item.{Item}
use Rattle.sdl_ast.specs.declared.item.Item.TheVariants as item
use Rattle.db_check.specs.Laws.{NamesDiffer}
use Rattle.db_check.proofs.IdOrder.{each_more}
use Rattle.db_check.proofs.NameOrder.{name_key, names_ascend}
use Rattle.db_check.proofs.Sorted.{keyed, all_keyed, sorted_is}
use Rattle.schema_laws.proofs.Passing.{none_sooner, not_at}
use Rattle.schema_laws.proofs.Texts.{absent}

abbrev property_name_in : LinkProperty → List ℕ
property_name_in p = p.name

each_split : {A : Type 0} (P : A → Type 0) (xs ys : List A) → Each P (xs ++ ys) → Each P xs × Each P ys
each_split P [] ys h = (tt, h)
each_split P (x ∷ xs) ys h = let later = each_split P xs ys h.1 in ((h.0, later.0), later.1)

module _ (types : List (List ℕ)) where
  abbrev declared : Item → List LinkProperty
  declared (item.Property s p) = record { name = p.name.text; ty = scalar_of (meaning_of types p.ty) } ∷ []
  declared (item.Constraint s c) = []
  declared (item.Default s e) = []
  declared (item.Deletion s d) = []
  declared (item.Annotation a) = []

  -- the properties of a link, in the order of the text
  abbrev all_declared : List Item → List LinkProperty
  all_declared [] = []
  all_declared (i ∷ more) = declared i ++ all_declared more

  keyed_are : (is : List Item) → properties_in types is ≡ all_keyed (name_key property_name_in) (all_declared is)
  keyed_are [] = refl
  keyed_are (item.Property s p ∷ more) = ap (λ l. keyed (name_key property_name_in) (record { name = p.name.text; ty = scalar_of (meaning_of types p.ty) }) ∷ l) (keyed_are more)
  keyed_are (item.Constraint s c ∷ more) = keyed_are more
  keyed_are (item.Default s e ∷ more) = keyed_are more
  keyed_are (item.Deletion s d ∷ more) = keyed_are more
  keyed_are (item.Annotation a ∷ more) = keyed_are more

  -- their names differ, and none is one of those before
  abbrev AreNew : List (List ℕ) → List Item → Type 0
  AreNew before is = Each (λ (p : LinkProperty). Each (λ x. x ≢ p.name) before) (all_declared is) × NamesDiffer property_name_in (all_declared is)

  are_new : (before : List (List ℕ)) (is : List Item) → repeated_items before is ≡ None → AreNew before is
  are_new before [] e = (tt, tt)
  are_new before (item.Property s p ∷ more) e =
      let both = none_sooner (at_if (is_among p.name.text before) s.start) (repeated_items (before ++ p.name.text ∷ []) more) e in
      let later = are_new (before ++ p.name.text ∷ []) more both.1 in
      let parts = λ (q : LinkProperty) (h : Each (λ x. x ≢ q.name) (before ++ p.name.text ∷ [])). each_split (λ x. x ≢ q.name) before (p.name.text ∷ []) h in (
        (
          absent p.name.text before (not_at (is_among p.name.text before) s.start both.0),
          each_more (λ (q : LinkProperty). Each (λ x. x ≢ q.name) (before ++ p.name.text ∷ [])) (λ (q : LinkProperty). Each (λ x. x ≢ q.name) before) (λ q h. (parts q h).0) (all_declared more) later.0,
        ),
        (
          each_more (λ (q : LinkProperty). Each (λ x. x ≢ q.name) (before ++ p.name.text ∷ [])) (λ (q : LinkProperty). p.name.text ≢ q.name) (λ q h. (parts q h).1.0) (all_declared more) later.0,
          later.1,
        ),
      )
  are_new before (item.Constraint s c ∷ more) e = are_new before more (ap (λ l. repeated_items l more) (sym (append-nil before)) ∙ e)
  are_new before (item.Default s d ∷ more) e = are_new before more (ap (λ l. repeated_items l more) (sym (append-nil before)) ∙ e)
  are_new before (item.Deletion s d ∷ more) e = are_new before more (ap (λ l. repeated_items l more) (sym (append-nil before)) ∙ e)
  are_new before (item.Annotation a ∷ more) e = are_new before more (ap (λ l. repeated_items l more) (sym (append-nil before)) ∙ e)

  pub properties_ascend : (is : List Item) → repeated_items [] is ≡ None → Ascend (λ (a b : LinkProperty). text_before a.name b.name) (link_properties types is)
  properties_ascend is e =
      subst (Ascend (λ (a b : LinkProperty). text_before a.name b.name))
      (sym (ap (λ l. keyless (in_order by_name l)) (keyed_are is) ∙ sorted_is (name_key property_name_in) (all_declared is)))
      (names_ascend property_name_in (all_declared is) (are_new [] is e).1)
