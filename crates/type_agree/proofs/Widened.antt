-- A type may stand for itself, and what types agree on for each of them.
use Rattle.std.proofs.Common.{◌≡◌, IsTrue, Bool, true, false, ◌&&◌, ◌||◌, if◌then◌else◌, Option, Some, None, List, [], ◌∷◌, refl, sym, ap, ◌∙◌, subst}
use Rattle.std.specs.List.{list_any}
use Rattle.ev_value.specs.declared.value.ScalarTy.{ScalarTy}
use Rattle.ev_value.specs.declared.value.ScalarTy.TheVariants as scalar
use Rattle.core_ir.specs.declared.path.TypeId.{TypeId}
use Rattle.core_ir.specs.declared.path.Root.TheVariants as root
use Rattle.core_ir.specs.declared.ty.Ty.{Ty, Row_of-Ty, end_of-Ty, more_of-Ty}
use Rattle.core_ir.specs.declared.ty.Ty as ty
use Rattle.core_ir.specs.declared.ty.Ty.TheVariants as made
use Rattle.core_ir.specs.declared.ty.Ty.TheBlock as block
use denote.Hole.Carrier as carrier
use Rattle.ev_schema.specs.declared.schema.Schema.{Schema}
use Rattle.ev_schema.specs.Types.{same_type, is_subtype, ancestors}
use Rattle.core_ir.proofs.Paths as paths
use Rattle.eql_agree.specs.Kinds.{Each}
use Rattle.type_rules.specs.Agreement.{one_scalar, one_array, as_tuple, with_first, higher, agreed, agreed_parts, agreed_from, agreed_among}
use Rattle.type_rules.specs.Agreement as rules
use Rattle.store_agree.specs.Typed.{same_scalar, is_scalar, is_array, widens, all_widen, ExtendsOn}

-- ---- truths

pub both : (a b : Bool) → IsTrue a → IsTrue b → IsTrue (a && b)
both true b h r = r
both false b h r = let clash : false ≡ true = h in absurd cc

pub left : (a b : Bool) → IsTrue a → IsTrue (a || b)
left true b h = refl
left false b h = let clash : false ≡ true = h in absurd cc

pub right : (a b : Bool) → IsTrue b → IsTrue (a || b)
right true b h = refl
right false b h = h

pub first_of_two : (a b : Bool) → IsTrue (a && b) → IsTrue a
first_of_two true b h = refl
first_of_two false b h = h

pub second_of_two : (a b : Bool) → IsTrue (a && b) → IsTrue b
second_of_two true b h = h
second_of_two false b h = let clash : false ≡ true = h in absurd cc

-- what is chosen by a test
pub chosen : {A C : Type 0} (b : Bool) (x y z : A) → (if b then x else y) ≡ z → (b ≡ true → x ≡ z → C) → (b ≡ false → y ≡ z → C) → C
chosen true x y z e f g = f refl e
chosen false x y z e f g = g refl e

pub none_some : {A C : Type 0} {a : A} → ◌≡◌ {A = Option A} None (Some a) → C
none_some e = absurd cc

pub some_same : {A : Type 0} {a b : A} → ◌≡◌ {A = Option A} (Some a) (Some b) → a ≡ b
some_same e = cc

-- ---- scalar types

pub scalar_itself : (a : ScalarTy) → IsTrue (same_scalar a a)
scalar_itself scalar.Int64 = refl
scalar_itself scalar.Str = refl
scalar_itself scalar.Bool = refl
scalar_itself scalar.Uuid = refl

-- what the rules take as one is one
pub scalar_is : (a b : ScalarTy) → rules.same_scalar a b ≡ true → a ≡ b
scalar_is scalar.Int64 scalar.Int64 h = refl
scalar_is scalar.Str scalar.Str h = refl
scalar_is scalar.Bool scalar.Bool h = refl
scalar_is scalar.Uuid scalar.Uuid h = refl
scalar_is _ _ h = absurd cc

-- what kinds take as one is one
pub typed_is : (a b : ScalarTy) → same_scalar a b ≡ true → a ≡ b
typed_is scalar.Int64 scalar.Int64 h = refl
typed_is scalar.Str scalar.Str h = refl
typed_is scalar.Bool scalar.Bool h = refl
typed_is scalar.Uuid scalar.Uuid h = refl
typed_is _ _ h = absurd cc

pub same_as_itself : (a b : ScalarTy) → a ≡ b → IsTrue (same_scalar a b)
same_as_itself a b e = subst (λ c. IsTrue (same_scalar a c)) e (scalar_itself a)

module _ (s : Schema) where
  pub subtype_itself : (a : TypeId) → IsTrue (is_subtype s.types a a)
  subtype_itself a = left (same_type a a) (list_any (same_type a) (ancestors s.types a)) ((paths.roots (root.Extent a) (root.Extent a)).1 refl)

  -- ---- a type stands for itself

  mutual
    unfolding widens

    pub itself : (t : Ty) → IsTrue (widens s t t)
    itself (ty.Scalar a) = scalar_itself a
    itself (ty.Object a) = subtype_itself a
    itself (ty.Tuple' _ ts) = each_itself ts
    itself (ty.Array a) = scalar_itself a

    each_itself : {m : _} (ts : Row_of-Ty m) → IsTrue (all_widen s ts ts)
    each_itself end_of-Ty = refl
    each_itself (more_of-Ty t ts) = both (widens s t t) (all_widen s ts ts) (itself t) (each_itself ts)

  pub itself_at : (t u : Ty) → t ≡ u → IsTrue (widens s t u)
  itself_at t u e = subst (λ u. IsTrue (widens s t u)) e (itself t)

  -- ---- what two types agree on

  -- both of two types may stand for a third
  abbrev pub BothWiden : Ty → Ty → Ty → Type 0
  BothWiden a b t = IsTrue (widens s a t) × IsTrue (widens s b t)

  scalars_agree : (a b : ScalarTy) (t : Ty) → one_scalar a b ≡ Some t → BothWiden (made.Scalar a) (made.Scalar b) t
  scalars_agree a b t e =
      chosen (rules.same_scalar a b) (Some (made.Scalar a)) None (Some t) e
      (λ h i. (itself_at (made.Scalar a) t (some_same i), itself_at (made.Scalar b) t (ap (λ c. made.Scalar c) (sym (scalar_is a b h)) ∙ some_same i)))
      (λ h i. none_some i)

  arrays_agree : (a b : ScalarTy) (t : Ty) → one_array a b ≡ Some t → BothWiden (made.Array a) (made.Array b) t
  arrays_agree a b t e =
      chosen (rules.same_scalar a b) (Some (made.Array a)) None (Some t) e
      (λ h i. (itself_at (made.Array a) t (some_same i), itself_at (made.Array b) t (ap (λ c. made.Array c) (sym (scalar_is a b h)) ∙ some_same i)))
      (λ h i. none_some i)

  object_widens : (a b : TypeId) → IsTrue (is_subtype s.types a b) → IsTrue (widens s (made.Object a) (made.Object b))
  unfolding widens
  object_widens a b h = h

  object_at : (a b : TypeId) (t : Ty) → IsTrue (is_subtype s.types a b) → made.Object b ≡ t → IsTrue (widens s (made.Object a) t)
  object_at a b t h e = subst (λ t. IsTrue (widens s (made.Object a) t)) e (object_widens a b h)

  objects_agree : (a b : TypeId) (t : Ty) → higher s.types a b ≡ Some t → BothWiden (made.Object a) (made.Object b) t
  objects_agree a b t e =
      chosen (is_subtype s.types a b) (Some (made.Object b)) (if is_subtype s.types b a then Some (made.Object a) else None) (Some t) e
      (λ h i. (object_at a b t h (some_same i), object_at b b t (subtype_itself b) (some_same i)))
      (λ h i. chosen (is_subtype s.types b a) (Some (made.Object a)) None (Some t) i
      (λ h i. (object_at a a t (subtype_itself a) (some_same i), object_at b a t h (some_same i)))
      (λ h i. none_some i))

  -- the types of tuples as they stand in rows
  abbrev AllWiden : {m n : _} → Row_of-Ty m → Row_of-Ty n → List Ty → Type 0
  AllWiden us vs ts = IsTrue (all_widen s us (block.hidden-the_row-Ty-0 ts)) × IsTrue (all_widen s vs (block.hidden-the_row-Ty-0 ts))

  tuple_of : (f : _) (g : _) (us : Row_of-Ty _) (vs : Row_of-Ty _) (o : Option (List Ty)) (t : Ty) → as_tuple o ≡ Some t → ((ts : List Ty) → o ≡ Some ts → AllWiden us vs ts) → BothWiden (ty.Tuple' f us) (ty.Tuple' g vs) t
  unfolding widens
  tuple_of f g us vs None t e h = none_some e
  tuple_of f g us vs (Some ts) t e h =
      let w = h ts refl in
      (subst (λ t. IsTrue (widens s (ty.Tuple' f us) t)) (some_same e) w.0, subst (λ t. IsTrue (widens s (ty.Tuple' g vs) t)) (some_same e) w.1)

  parts_of : {m n : _} (a b : Ty) (us : Row_of-Ty m) (vs : Row_of-Ty n) (o : Option Ty) (more : Option (List Ty)) (ts : List Ty) → with_first o more ≡ Some ts → ((t : Ty) → o ≡ Some t → BothWiden a b t)
      → ((ts : List Ty) → more ≡ Some ts → AllWiden us vs ts) → AllWiden (more_of-Ty a us) (more_of-Ty b vs) ts
  unfolding widens carrier.hidden block.hidden-the_row-Ty-0
  parts_of a b us vs (Some t) (Some rest) ts e h g =
      let w = h t refl in
      let q = g rest refl in
      subst (AllWiden (more_of-Ty a us) (more_of-Ty b vs)) (some_same e) (both (widens s a t) (all_widen s us (block.hidden-the_row-Ty-0 rest)) w.0 q.0, both (widens s b t) (all_widen s vs (block.hidden-the_row-Ty-0 rest)) w.1 q.1)
  parts_of a b us vs None more ts e h g = none_some e
  parts_of a b us vs (Some t) None ts e h g = none_some e

  none_widen : AllWiden end_of-Ty end_of-Ty []
  unfolding widens carrier.hidden block.hidden-the_row-Ty-0
  none_widen = (refl, refl)

  mutual
    unfolding agreed widens

    -- what two types agree on, each may stand for
    pub agreed_widens : (a b t : Ty) → agreed s.types a b ≡ Some t → BothWiden a b t
    agreed_widens (ty.Scalar a) (ty.Scalar b) t e = scalars_agree a b t e
    agreed_widens (ty.Object a) (ty.Object b) t e = objects_agree a b t e
    agreed_widens (ty.Array a) (ty.Array b) t e = arrays_agree a b t e
    agreed_widens (ty.Tuple' f us) (ty.Tuple' g vs) t e = tuple_of f g us vs (agreed_parts s.types us vs) t e (λ ts i. parts_widen_both us vs ts i)
    agreed_widens _ _ t e = none_some e

    parts_widen_both : {m n : _} (us : Row_of-Ty m) (vs : Row_of-Ty n) (ts : List Ty) → agreed_parts s.types us vs ≡ Some ts → AllWiden us vs ts
    parts_widen_both end_of-Ty end_of-Ty ts e = subst (AllWiden end_of-Ty end_of-Ty) (some_same e) none_widen
    parts_widen_both (more_of-Ty a us) (more_of-Ty b vs) ts e =
        parts_of a b us vs (agreed s.types a b) (agreed_parts s.types us vs) ts e (λ t i. agreed_widens a b t i) (λ ts i. parts_widen_both us vs ts i)
    parts_widen_both end_of-Ty (more_of-Ty b vs) ts e = none_some e
    parts_widen_both (more_of-Ty a us) end_of-Ty ts e = none_some e

  -- ---- one type after another

  module _ (extends : ExtendsOn s) where
    scalar_after : (a : ScalarTy) (b c : Ty) → IsTrue (is_scalar a b) → IsTrue (widens s b c) → IsTrue (is_scalar a c)
    unfolding widens
    scalar_after a (ty.Scalar b) c h r = subst (λ a. IsTrue (is_scalar a c)) (sym (typed_is a b h)) r
    scalar_after a (ty.Object b) c h r = let clash : false ≡ true = h in absurd cc
    scalar_after a (ty.Array b) c h r = let clash : false ≡ true = h in absurd cc
    scalar_after a (ty.Tuple' f b) c h r = let clash : false ≡ true = h in absurd cc

    array_after : (a : ScalarTy) (b c : Ty) → IsTrue (is_array a b) → IsTrue (widens s b c) → IsTrue (is_array a c)
    unfolding widens
    array_after a (ty.Array b) c h r = subst (λ a. IsTrue (is_array a c)) (sym (typed_is a b h)) r
    array_after a (ty.Object b) c h r = let clash : false ≡ true = h in absurd cc
    array_after a (ty.Scalar b) c h r = let clash : false ≡ true = h in absurd cc
    array_after a (ty.Tuple' f b) c h r = let clash : false ≡ true = h in absurd cc

    mutual
      unfolding widens

      pub after : (a b c : Ty) → IsTrue (widens s a b) → IsTrue (widens s b c) → IsTrue (widens s a c)
      after (ty.Scalar a) b c h r = scalar_after a b c h r
      after (ty.Array a) b c h r = array_after a b c h r
      after (ty.Object a) (ty.Object b) (ty.Object c) h r = extends a b c h r
      after (ty.Object a) (ty.Object b) (ty.Scalar c) h r = r
      after (ty.Object a) (ty.Object b) (ty.Array c) h r = r
      after (ty.Object a) (ty.Object b) (ty.Tuple' f c) h r = r
      after (ty.Object a) (ty.Scalar b) c h r = let clash : false ≡ true = h in absurd cc
      after (ty.Object a) (ty.Array b) c h r = let clash : false ≡ true = h in absurd cc
      after (ty.Object a) (ty.Tuple' f b) c h r = let clash : false ≡ true = h in absurd cc
      after (ty.Tuple' f a) (ty.Tuple' g b) (ty.Tuple' j c) h r = all_after a b c h r
      after (ty.Tuple' f a) (ty.Tuple' g b) (ty.Scalar c) h r = r
      after (ty.Tuple' f a) (ty.Tuple' g b) (ty.Array c) h r = r
      after (ty.Tuple' f a) (ty.Tuple' g b) (ty.Object c) h r = r
      after (ty.Tuple' f a) (ty.Scalar b) c h r = let clash : false ≡ true = h in absurd cc
      after (ty.Tuple' f a) (ty.Array b) c h r = let clash : false ≡ true = h in absurd cc
      after (ty.Tuple' f a) (ty.Object b) c h r = let clash : false ≡ true = h in absurd cc

      all_after : {l m n : _} (us : Row_of-Ty l) (vs : Row_of-Ty m) (ts : Row_of-Ty n) → IsTrue (all_widen s us vs) → IsTrue (all_widen s vs ts) → IsTrue (all_widen s us ts)
      all_after end_of-Ty end_of-Ty ts h r = r
      all_after end_of-Ty (more_of-Ty v vs) ts h r = let clash : false ≡ true = h in absurd cc
      all_after (more_of-Ty u us) end_of-Ty ts h r = let clash : false ≡ true = h in absurd cc
      all_after (more_of-Ty u us) (more_of-Ty v vs) end_of-Ty h r = r
      all_after (more_of-Ty u us) (more_of-Ty v vs) (more_of-Ty t ts) h r =
          both (widens s u t) (all_widen s us ts)
          (after u v t (first_of_two (widens s u v) (all_widen s us vs) h) (first_of_two (widens s v t) (all_widen s vs ts) r))
          (all_after us vs ts (second_of_two (widens s u v) (all_widen s us vs) h) (second_of_two (widens s v t) (all_widen s vs ts) r))

    -- what some types agree on from the left, each may stand for
    from_left : (o : Option Ty) (us : List Ty) (t : Ty) → agreed_from s.types o us ≡ Some t → (a : Ty) × (o ≡ Some a) × IsTrue (widens s a t) × Each (λ u. IsTrue (widens s u t)) us
    from_left None us t e = none_some e
    from_left (Some a) [] t e = (a, refl, itself_at a t (some_same e), tt)
    from_left (Some a) (u ∷ us) t e =
        let q = from_left (agreed s.types a u) us t e in
        let w = agreed_widens a u q.0 q.1 in
        (a, refl, after a q.0 t w.0 q.2, (after u q.0 t w.1 q.2, q.3))

    pub among_widen : (us : List Ty) (t : Ty) → agreed_among s.types us ≡ Some t → Each (λ u. IsTrue (widens s u t)) us
    among_widen [] t e = none_some e
    among_widen (u ∷ us) t e =
        let q = from_left (Some u) us t e in
        (subst (λ u. IsTrue (widens s u t)) (sym (some_same q.1)) q.2, q.3)
