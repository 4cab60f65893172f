-- The types of a tree are kinds of it.
use Rattle.std.proofs.Common.{ℕ, Option, Some, None, List, [], ◌∷◌, ◌++◌, refl, sym, subst}
use Rattle.ev_value.specs.declared.args.Args.{Args}
use Rattle.core_ir.specs.declared.path.TypeId.{TypeId}
use Rattle.core_ir.specs.declared.phase.Core.{Core}
use Rattle.core_ir.specs.declared.phase.Typed.{Typed}
use Rattle.core_ir.specs.declared.tree.Expr.{Expr}
use Rattle.core_ir.specs.declared.ty.Ty.{Ty}
use Rattle.core_ir.specs.declared.ty.Ty.TheVariants.{Object}
use Rattle.ev_schema.specs.declared.schema.Schema.{Schema}
use Rattle.eql_agree.specs.Kinds.{Each}
use Rattle.eql_agree.specs.Kinded.{HasAsScope}
use Rattle.type_rules.specs.Known.{Known, nothing_known}
use Rattle.type_infer.specs.HasType.{HasType}
use Rattle.type_infer.specs.Typing.{known_before}
use Rattle.type_infer.specs.Laws.{HasTypes}
use Rattle.store_agree.specs.Typed.{typing}
use Rattle.type_agree.specs.Noted.{notes, notes_before, notes_of_tree}
use Rattle.type_agree.specs.Premises.{IsTypedSchema, IsGivenTo, IsAnswered, HasOneTypeEach, ArgumentsSuit}
use Rattle.store_agree.proofs.TypedWorld.{values_have_their_types}
use Rattle.type_agree.specs.Law.{names_before, types_before, TypesAreKinds, TypedTreesGiveTheirTypes}
use Rattle.type_agree.proofs.Widened.{none_some}
use Rattle.type_agree.proofs.Rows.{each_front, each_back, in_scope}
use Rattle.type_agree.proofs.Scopes.{Named}
use Rattle.type_agree.proofs.Forms.{Within, within_type, IsSo, gives}

each_both : {A : Type 0} (P Q : A → Type 0) (xs : List A) → Each P xs → Each Q xs → Each (λ x. P x × Q x) xs
each_both P Q [] p q = tt
each_both P Q (x ∷ xs) p q = ((p.0, q.0), each_both P Q xs p.1 q.1)

module _ (s : Schema) (types : ℕ → Option Ty) (args : Args) where
  -- what is known before a tree, and the names there
  before : (subject : Option TypeId) → Each (IsSo types args) (notes_before subject) → Within s types (known_before subject) × Named s types (names_before subject) (types_before subject)
  before None h = ((λ n t e. none_some e), tt)
  before (Some a) h = (within_type s types 0 (Object a) nothing_known h.0.0 (λ n t e. none_some e), ((Object a, h.0.0, refl), tt))

  tree_has : IsTypedSchema s → (subject : Option TypeId) (x : Expr) (y : Expr × Ty) (l : Known) → HasType s (known_before subject) x y l
      → HasOneTypeEach types (notes_before subject ++ notes y.0) → ArgumentsSuit s args (notes_before subject ++ notes y.0)
      → HasAsScope (typing s args) y.0 (names_before subject) (types_before subject) y.1
  tree_has typed subject x y l d numbers suit =
      let all = each_both (IsGivenTo types) (IsAnswered args) (notes_before subject ++ notes y.0) numbers.each suit.parameters in
      let b = before subject (each_front (IsSo types args) (notes_before subject) (notes y.0) all) in
      let g = gives s types args typed suit.globals d b.0 (each_back (IsSo types args) (notes_before subject) (notes y.0) all) in
      in_scope s types typed args y.0 y.1 g.0 (names_before subject) (types_before subject) b.1

typed_tree_has : (s : Schema) (args : Args) (types : ℕ → Option Ty) (core : Core) (typed : Typed) → HasTypes s core typed
    → IsTypedSchema s → HasOneTypeEach types (notes_of_tree typed.core) → ArgumentsSuit s args (notes_of_tree typed.core)
    → HasAsScope (typing s args) typed.core.root.body (names_before typed.core.subject) (types_before typed.core.subject) typed.ty
typed_tree_has s args types core typed (x, l, d, is) schema numbers suit =
    subst (λ (t : Typed). HasAsScope (typing s args) t.core.root.body (names_before t.core.subject) (types_before t.core.subject) t.ty) (sym is)
    (tree_has s types args schema core.subject core.root.body x l d
    (subst (λ (t : Typed). HasOneTypeEach types (notes_of_tree t.core)) is numbers)
    (subst (λ (t : Typed). ArgumentsSuit s args (notes_of_tree t.core)) is suit))

pub types_are_kinds : TypesAreKinds
types_are_kinds = record { of_trees = typed_tree_has }

pub typed_trees_give_their_types : TypedTreesGiveTheirTypes
typed_trees_give_their_types = record {
  of_values = λ s os args types core typed h schema numbers suit fits computed b k.
      values_have_their_types.of_values s os args fits schema.extends computed typed.core.root.body (names_before typed.core.subject) (types_before typed.core.subject) b typed.ty (typed_tree_has s args types core typed h schema numbers suit) k;
  of_items = λ s os args types core typed h schema numbers suit fits computed b k.
      values_have_their_types.of_items s os args fits schema.extends computed typed.core.root.body (names_before typed.core.subject) (types_before typed.core.subject) b typed.ty (typed_tree_has s args types core typed h schema numbers suit) k;
}
