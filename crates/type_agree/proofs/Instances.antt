-- The premises can be met: by an empty schema and a literal, and by a type with a property and a path to its values.
use Rattle.std.proofs.Common.{◌≡◌, ◌≢◌, IsTrue, ℕ, zero, suc, ◌==◌, Bool, true, false, ◌||◌, Some, None, [], ◌∷◌, refl, sym, ap, subst, arith}
use Rattle.std.specs.Prelude.{codes, pos, slice_get, AllPairs}
use Rattle.std.specs.List.{list_any}
use Rattle.std.proofs.lemmas.Bool.Decides.{Decides-eqb}
use Rattle.ev_value.specs.declared.args.Args.{Args}
use Rattle.ev_value.specs.declared.value.ScalarTy.TheVariants as scalar
use Rattle.ev_value.specs.declared.value.Val.TheVariants as val
use Rattle.core_ir.specs.declared.card.Card.TheVariants as card
use Rattle.core_ir.specs.declared.path.PtrId.{PtrId}
use Rattle.core_ir.specs.declared.path.Root.TheVariants as root
use Rattle.core_ir.specs.declared.path.Step.{Step}
use Rattle.core_ir.specs.declared.path.Step.TheVariants as step
use Rattle.core_ir.specs.declared.path.TypeId.{TypeId}
use Rattle.core_ir.specs.declared.phase.Typed.{Typed}
use Rattle.core_ir.specs.declared.tree.Expr.{Expr}
use Rattle.core_ir.specs.declared.tree.Expr.TheVariants as form
use Rattle.core_ir.specs.declared.tree.Occurrence.{Occurrence}
use Rattle.core_ir.specs.declared.ty.Ty.TheVariants.{Scalar}
use Rattle.ev_schema.specs.Facts.{made_of}
use Rattle.ev_schema.specs.Steps.{type_stored}
use Rattle.ev_schema.specs.Types.{same_type, is_subtype, ancestors}
use Rattle.core_ir.proofs.Paths as same
use Rattle.ev_schema.specs.declared.pointer.Body.TheVariants as body
use Rattle.ev_schema.specs.declared.pointer.Computed.{Computed}
use Rattle.ev_schema.specs.declared.pointer.LinkProperty.{LinkProperty}
use Rattle.ev_schema.specs.declared.pointer.PtrInfo.{PtrInfo}
use Rattle.ev_schema.specs.declared.schema.Schema.{Schema}
use Rattle.eql_agree.specs.Kinded.{HasAsScope}
use Rattle.store_agree.specs.Typed.{typing, ExtendsOn}
use Rattle.type_infer.specs.HasType as has
use Rattle.type_rules.specs.Known.{nothing_known}
use Rattle.type_agree.specs.Noted.{notes, notes_of_tree}
use Rattle.type_agree.specs.Premises.{lists, IsTypedSchema, HasOneTypeEach, ArgumentsSuit}
use Rattle.type_agree.proofs.Widened.{none_some, some_same}
use Rattle.type_agree.proofs.Trees.{types_are_kinds}

-- nothing is handed over
abbrev pub nothing : Args
nothing = record { globals = []; params = [] }

plain_or : (b : Bool) → IsTrue (b || false) → IsTrue b
plain_or true h = refl
plain_or false h = h

-- where no type extends another, what extends on extends
alone : (s : Schema) → ((a : TypeId) → ancestors s.types a ≡ []) → (a b : TypeId) → IsTrue (is_subtype s.types a b) → a ≡ b
alone s h a b p =
    let q : IsTrue (same_type a b || list_any (same_type b) []) = subst (λ xs. IsTrue (same_type a b || list_any (same_type b) xs)) (h a) p in
    let e : root.Extent a ≡ root.Extent b = (same.roots (root.Extent a) (root.Extent b)).0 (plain_or (same_type a b) q) in
    cc

flat : (s : Schema) → ((a : TypeId) → ancestors s.types a ≡ []) → ExtendsOn s
flat s h a b c p q = subst (λ b. IsTrue (is_subtype s.types b c)) (sym (alone s h a b p)) q

no_pairs : {A : Type 0} (R : A → A → Type 0) → AllPairs R []
no_pairs R i j d lt less = absurd (omega arith)

-- what is asked of a tree that says nothing
says_nothing : (s : Schema) (x : Typed) → notes_of_tree x.core ≡ [] → s.globals ≡ [] → HasOneTypeEach (λ n. None) (notes_of_tree x.core) × ArgumentsSuit s nothing (notes_of_tree x.core)
says_nothing s x e g = (
  subst (λ ns. HasOneTypeEach (λ n. None) ns) (sym e) (record { each = tt }),
  subst (λ ns. ArgumentsSuit s nothing ns) (sym e) (record { globals = λ n a f. refl; parameters = tt }),
)

-- ---- an empty schema

abbrev pub empty : Schema
empty = made_of [] [] [] []

empty_is_typed : IsTypedSchema empty
empty_is_typed = record {
  extends = flat empty (λ a. refl);
  id = λ p h. at_zero p ((Decides-eqb (suc p.0) 1).0 h);
  listed = λ a p info h e. let clash : false ≡ true = h in absurd cc;
  subjects = tt;
  once = no_pairs (λ (c d : Computed). c.pointer.0 ≢ d.pointer.0);
  properties = λ p info e. subst (AllPairs (λ (q r : LinkProperty). q.name ≢ r.name)) (sym (none_there p.0 info e)) (no_pairs (λ (q r : LinkProperty). q.name ≢ r.name));
}
  where
    at_zero : (p : PtrId) → suc p.0 ≡ 1 → type_stored (slice_get empty.pointers p.0) ≡ Some (Scalar scalar.Uuid)
    at_zero p e = let zero_is : p.0 ≡ 0 = omega arith in ap (λ n. type_stored (slice_get empty.pointers n)) zero_is

    none_there : (n : ℕ) (info : PtrInfo) → slice_get empty.pointers n ≡ Some info → info.link_props ≡ []
    none_there zero info e = ap (λ (info : PtrInfo). info.link_props) (sym (some_same e))
    none_there (suc n) info e = none_some e

abbrev pub one : Expr
one = form.Literal 0 (val.Int (pos 1))

abbrev pub one_typed : Typed
one_typed = record { core = record { subject = None; root = record { start = 0; ty = Some (Scalar scalar.Int64); body = one } }; ty = Scalar scalar.Int64 }

pub one_is_a_number : HasAsScope (typing empty nothing) one [] [] (Scalar scalar.Int64)
unfolding notes
one_is_a_number =
    let q = says_nothing empty one_typed refl refl in
    types_are_kinds.of_trees empty nothing (λ n. None) (record { subject = None; root = record { start = 0; ty = None; body = one } }) one_typed
    ((one, Scalar scalar.Int64), nothing_known, has.constant refl, refl) empty_is_typed q.0 q.1

-- ---- a type `Doc` with a property `title`

abbrev pub documents : Schema
documents = made_of
    (record { name = codes "Doc"; is_abstract = false; ancestors = []; pointers = record { 0 = 0 } ∷ [] } ∷ [])
    (record { name = codes "title"; origin = record { 0 = 0 }; card = card.One; body = body.Stored (Scalar scalar.Str); limits = []; link_props = []; default = None } ∷ []) [] []

documents_are_typed : IsTypedSchema documents
documents_are_typed = record {
  extends = flat documents (λ a. no_ancestors a.0);
  id = λ p h. at_last p ((Decides-eqb (suc p.0) 2).0 h);
  listed = λ a p info h e. of_origin a.0 p.0 info h e;
  subjects = tt;
  once = no_pairs (λ (c d : Computed). c.pointer.0 ≢ d.pointer.0);
  properties = λ p info e. subst (AllPairs (λ (q r : LinkProperty). q.name ≢ r.name)) (sym (none_there p.0 info e)) (no_pairs (λ (q r : LinkProperty). q.name ≢ r.name));
}
  where
    no_ancestors : (n : ℕ) → ancestors documents.types (record { 0 = n }) ≡ []
    no_ancestors zero = refl
    no_ancestors (suc n) = refl

    at_last : (p : PtrId) → suc p.0 ≡ 2 → type_stored (slice_get documents.pointers p.0) ≡ Some (Scalar scalar.Uuid)
    at_last p e = let one_is : p.0 ≡ 1 = omega arith in ap (λ n. type_stored (slice_get documents.pointers n)) one_is

    none_there : (n : ℕ) (info : PtrInfo) → slice_get documents.pointers n ≡ Some info → info.link_props ≡ []
    none_there zero info e = ap (λ (info : PtrInfo). info.link_props) (sym (some_same e))
    none_there (suc zero) info e = ap (λ (info : PtrInfo). info.link_props) (sym (some_same e))
    none_there (suc (suc n)) info e = none_some e

    of_origin : (n m : ℕ) (info : PtrInfo) → IsTrue (lists documents (record { 0 = n }) (record { 0 = m })) → slice_get documents.pointers m ≡ Some info → IsTrue (is_subtype documents.types (record { 0 = n }) info.origin)
    of_origin zero zero info h e = ap (λ (info : PtrInfo). is_subtype documents.types (record { 0 = 0 }) info.origin) (sym (some_same e))
    of_origin zero (suc m) info h e = let clash : 0 ≡ suc m = (Decides-eqb 0 (suc m)).0 (plain_or (0 == suc m) h) in absurd (omega arith)
    of_origin (suc n) m info h e = let clash : false ≡ true = h in absurd cc

-- `Doc.title` as it is named, and with its types
abbrev title_by : Step → Occurrence
title_by x = record { name = codes "Doc"; path = record { root = root.Extent (record { 0 = 0 }); steps = x ∷ [] }; places = [] }

abbrev pub title : Expr
title = form.Path 0 (title_by (step.Prop (record { 0 = 0 })))

abbrev title_typed : Typed
title_typed = record { core = record { subject = None; root = record { start = 0; ty = Some (Scalar scalar.Str); body = title } }; ty = Scalar scalar.Str }

pub title_is_a_text : HasAsScope (typing documents nothing) title [] [] (Scalar scalar.Str)
unfolding notes
title_is_a_text =
    let q = says_nothing documents title_typed refl refl in
    types_are_kinds.of_trees documents nothing (λ n. None) (record { subject = None; root = record { start = 0; ty = None; body = form.Path 0 (title_by (step.Dot (codes "title"))) } }) title_typed
    ((title, Scalar scalar.Str), nothing_known, has.path_of (has.path refl (has.on (has.pointer refl refl) refl has.here)), refl) documents_are_typed q.0 q.1
