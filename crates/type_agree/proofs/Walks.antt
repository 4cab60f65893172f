-- Paths with types: each step leads on from the type before it, so kinds lead along them.
use Rattle.std.proofs.Common.{◌≡◌, ◌≢◌, IsTrue, ℕ, zero, suc, ◌<◌, ◌-◌, ◌==◌, Bool, true, false, ◌&&◌, ◌||◌, if◌then◌else◌, Option, Some, None, List, [], ◌∷◌, ◌++◌, length, take, drop, get_or, refl, sym, ap, ◌∙◌, subst, append_assoc, append-nil, arith}
use Rattle.std.specs.Prelude.{AllPairs, slice_get}
use Rattle.std.specs.List.{list_any}
use Rattle.std.proofs.lemmas.Option.{slice_get_within}
use Rattle.std.proofs.lemmas.Bool.Decides.{Decides-eqb}
use Rattle.ev_value.specs.declared.args.Args.{Args}
use Rattle.ev_value.specs.declared.value.ScalarTy.TheVariants as scalar
use Rattle.core_ir.specs.declared.path.PtrId.{PtrId}
use Rattle.core_ir.specs.declared.path.Step.{Step}
use Rattle.core_ir.specs.declared.path.Step.TheVariants as step
use Rattle.core_ir.specs.declared.path.TypeId.{TypeId}
use Rattle.core_ir.specs.declared.ty.Ty.{Ty}
use Rattle.core_ir.specs.declared.ty.Ty as ty
use Rattle.core_ir.specs.declared.ty.Ty.TheVariants as made
use Rattle.ev_schema.specs.declared.pointer.Body.{Body}
use Rattle.ev_schema.specs.declared.pointer.Body.TheVariants as body
use Rattle.ev_schema.specs.declared.pointer.Computed.{Computed}
use Rattle.ev_schema.specs.declared.pointer.PtrInfo.{PtrInfo}
use Rattle.ev_schema.specs.declared.schema.Schema.{Schema}
use Rattle.ev_schema.specs.Pointers.{is_id, has_name, id_pointer, first_named, id_named, or_id, pointer_named, computed_among}
use Rattle.ev_schema.specs.Steps.{type_of_body, type_stored, type_computed, lower_type, link_of, type_after}
use Rattle.ev_schema.specs.Types.{is_subtype, listed_pointers}
use Rattle.eql_agree.specs.Kinds.{Each}
use Rattle.eql_agree.specs.Kinded.{Leads}
use Rattle.type_rules.specs.declared.steps.Walked.{Walked}
use Rattle.type_rules.specs.Steps.{step_by, step_of}
use Rattle.type_infer.specs.HasType.{StandsFor, IsPath}
use Rattle.type_infer.specs.HasType as has
use Rattle.store_agree.specs.Typed.{is_scalar, widens, widens_from, leads, takes, computed_leads, step_leads, typing}
use Rattle.type_agree.specs.Premises.{lists, IsOfOrigin, IsTypedSchema}
use Rattle.type_agree.proofs.Widened.{both, left, right, none_some, some_same, chosen, itself_at}

-- what holds of each pair holds of each behind the first one
pub each_of_all : {A : Type 0} (P : A → Type 0) (xs : List A) → ((k : ℕ) (d : A) → k < length xs → P (get_or xs k d)) → Each P xs
each_of_all P [] h = tt
each_of_all P (x ∷ xs) h = (h 0 x (omega arith), each_of_all P xs (λ k d lt. h (suc k) d (omega arith)))

pub apart_from : {A : Type 0} (R : A → A → Type 0) (x : A) (xs : List A) → AllPairs R (x ∷ xs) → Each (R x) xs
apart_from R x xs h = each_of_all (R x) xs (λ k d lt. h 0 (suc k) d (omega arith) (omega arith))

pub apart_behind : {A : Type 0} (R : A → A → Type 0) (x : A) (xs : List A) → AllPairs R (x ∷ xs) → AllPairs R xs
apart_behind R x xs h = λ i j d lt less. h (suc i) (suc j) d (omega arith) (omega arith)

test_false : (b : Bool) → (b ≡ true → ⊥) → b ≡ false
test_false true h = absurd (h refl)
test_false false h = refl

module _ (s : Schema) where
  -- a pointer is one that a type lists, with what the schema says of it
  abbrev IsOwned : Ty → PtrId → Type 0
  IsOwned (ty.Object a) p = (info : PtrInfo) × (slice_get s.pointers p.0 ≡ Some info) × IsTrue (lists s a p)
  IsOwned _ p = Unit {0}

  -- a step by a computed pointer is from a type that has it
  abbrev IsOwn : Ty → Step → Type 0
  IsOwn u (step.Comp p) = IsOwned u p
  IsOwn u (step.Prop p) = Unit {0}
  IsOwn u (step.Link p) = Unit {0}
  IsOwn u (step.Back p a) = Unit {0}
  IsOwn u (step.Is a) = Unit {0}
  IsOwn u (step.LinkProp n) = Unit {0}
  IsOwn u (step.Dot n) = Unit {0}
  IsOwn u (step.BackDot n a) = Unit {0}

  -- steps lead from a type to another, each from the type before it
  abbrev pub Walks : Option PtrId → Ty → List Step → Ty → Type 0
  Walks link u [] t = u ≡ t
  Walks link u (x ∷ more) t = (v : Ty) × (type_after s link u x ≡ Some v) × IsOwn u x × Walks (link_of x) v more t

  -- they lead to one type
  pub walks_one : (link : Option PtrId) (u : Ty) (xs : List Step) (t v : Ty) → Walks link u xs t → Walks link u xs v → t ≡ v
  walks_one link u [] t v p q = sym p ∙ q
  walks_one link u (x ∷ more) t v (w, e, o, p) (w', e', o', q) =
      walks_one (link_of x) w more t v p (subst (λ w. Walks (link_of x) w more v) (some_same (sym e' ∙ e)) q)

  -- ---- from the rules

  module _ (typed : IsTypedSchema s) where
    -- the first of some pointers that has a name is one of them
    among_listed : (pointers : List PtrInfo) (ps : List PtrId) (n : List ℕ) (p : PtrId) → first_named pointers ps n ≡ Some p → IsTrue (list_any (λ (q : PtrId). q.0 == p.0) ps)
    among_listed pointers [] n p e = none_some e
    among_listed pointers (q ∷ ps) n p e =
        chosen (has_name (slice_get pointers q.0) n) (Some q) (first_named pointers ps n) (Some p) e
        (λ h i. left (q.0 == p.0) (list_any (λ (q : PtrId). q.0 == p.0) ps) ((Decides-eqb q.0 p.0).1 (ap (λ (q : PtrId). q.0) (some_same i))))
        (λ h i. right (q.0 == p.0) (list_any (λ (q : PtrId). q.0 == p.0) ps) (among_listed pointers ps n p i))

    -- `id` is stored
    id_is_stored : (info : PtrInfo) (p : PtrId) → slice_get s.pointers p.0 ≡ Some info → info.body ≡ body.Computed → IsTrue (is_id s.pointers p) → ⊥
    id_is_stored info p e c h =
        let stored : type_of_body info.body ≡ Some (made.Scalar scalar.Uuid) = ap type_stored (sym e) ∙ typed.id p h in
        let computed : type_of_body info.body ≡ None = ap type_of_body c in
        none_some (sym computed ∙ stored)

    id_is_last : (info : PtrInfo) (p : PtrId) (n : List ℕ) → slice_get s.pointers p.0 ≡ Some info → id_named s.pointers n ≡ Some p → IsTrue (is_id s.pointers p)
    id_is_last info p n e i =
        let within : p.0 < length s.pointers = slice_get_within s.pointers p.0 info e in
        chosen (has_name (slice_get s.pointers (id_pointer s.pointers).0) n) (Some (id_pointer s.pointers)) None (Some p) i
        (λ h j.
        let last : length s.pointers - 1 ≡ p.0 = ap (λ (q : PtrId). q.0) (some_same j) in
        let same : suc p.0 ≡ length s.pointers = omega arith in
        (Decides-eqb (suc p.0) (length s.pointers)).1 same)
        (λ h j. none_some j)

    is_listed : (a : TypeId) (n : List ℕ) (p : PtrId) (info : PtrInfo) → slice_get s.pointers p.0 ≡ Some info → info.body ≡ body.Computed → (o : Option PtrId) → first_named s.pointers (listed_pointers s.types a) n ≡ o
        → or_id o (id_named s.pointers n) ≡ Some p → IsTrue (lists s a p)
    is_listed a n p info e c (Some q) f i = among_listed s.pointers (listed_pointers s.types a) n p (f ∙ i)
    is_listed a n p info e c None f i = absurd (id_is_stored info p e c (id_is_last info p n e i))

    own_by : (a : TypeId) (n : List ℕ) (p : PtrId) (info : PtrInfo) → slice_get s.pointers p.0 ≡ Some info → pointer_named s a n ≡ Some p → (b : Body) → info.body ≡ b → (c : Option Computed) (y : Step) → step_by p b c ≡ Some y
        → IsOwn (made.Object a) y
    own_by a n p info e f (body.Stored (ty.Object b)) i c y g = subst (IsOwn (made.Object a)) (some_same g) tt
    own_by a n p info e f (body.Stored (ty.Scalar b)) i c y g = subst (IsOwn (made.Object a)) (some_same g) tt
    own_by a n p info e f (body.Stored (ty.Tuple' _ b)) i c y g = subst (IsOwn (made.Object a)) (some_same g) tt
    own_by a n p info e f (body.Stored (ty.Array b)) i c y g = subst (IsOwn (made.Object a)) (some_same g) tt
    own_by a n p info e f body.Computed i None y g = none_some g
    own_by a n p info e f body.Computed i (Some c) y g =
        subst (IsOwn (made.Object a)) (some_same g) (info, e, is_listed a n p info e i (first_named s.pointers (listed_pointers s.types a) n) refl f)

    own_of_pointer : (a : TypeId) (n : List ℕ) (p : PtrId) (y : Step) → pointer_named s a n ≡ Some p → (o : Option PtrInfo) → slice_get s.pointers p.0 ≡ o → step_of p o (computed_among s.computed p) ≡ Some y → IsOwn (made.Object a) y
    own_of_pointer a n p y f None e g = none_some g
    own_of_pointer a n p y f (Some info) e g = own_by a n p info e f info.body refl (computed_among s.computed p) y g

    own_of : (u : Ty) (x y : Step) → StandsFor s u x y → IsOwn u y
    own_of _ _ y (has.pointer f g) = own_of_pointer _ _ _ y f _ refl g
    own_of _ _ _ (has.back f g) = tt
    own_of _ _ _ has.narrowing = tt
    own_of _ _ _ has.property = tt

    -- the steps behind those that have types already
    pub led : (w : Walked) (xs : List Step) (v : Walked) → has.Leads s w xs v → (more : List Step) × (v.steps ≡ w.steps ++ more) × Walks w.link w.reached more v.reached
    led w _ _ has.here = ([], sym (append-nil w.steps), refl)
    led w _ v (has.on {y = y} {t = t} f g l) =
        let q = led _ _ v l in
        (y ∷ q.0, q.1 ∙ append_assoc w.steps (y ∷ []) q.0, (t, g, own_of _ _ _ f, q.2))

  -- ---- kinds lead along

  -- a pointer's expressions have one type, and are over a type that the pointer is of
  module _ (typed : IsTypedSchema s) where
    none_by : (c : Computed) (cs : List Computed) (p : PtrId) (u t : Ty) → c.pointer.0 ≢ p.0 → IsTrue (computed_leads s cs p u t) → (b : Bool) → (c.pointer.0 == p.0) ≡ b
        → IsTrue ((if b then takes s c.expr.typed.core.subject u && widens s c.ty t else true) && computed_leads s cs p u t)
    none_by c cs p u t h more true e = absurd (h ((Decides-eqb c.pointer.0 p.0).0 e))
    none_by c cs p u t h more false e = more

    none_leads : (cs : List Computed) (p : PtrId) (u t : Ty) → Each (λ (c : Computed). c.pointer.0 ≢ p.0) cs → IsTrue (computed_leads s cs p u t)
    none_leads [] p u t h = refl
    none_leads (c ∷ cs) p u t h = none_by c cs p u t h.0 (none_leads cs p u t h.1) (c.pointer.0 == p.0) refl

    turned : (n : ℕ) (cs : List Computed) → Each (λ (e : Computed). n ≢ e.pointer.0) cs → Each (λ (e : Computed). e.pointer.0 ≢ n) cs
    turned n [] h = tt
    turned n (e ∷ cs) h = ((λ i. h.0 (sym i)), turned n cs h.1)

    taken : (a : TypeId) (c : Computed) (info : PtrInfo) → slice_get s.pointers c.pointer.0 ≡ Some info → IsOfOrigin s c → IsTrue (is_subtype s.types a info.origin) → IsTrue (takes s c.expr.typed.core.subject (made.Object a))
    unfolding widens
    taken a c info e h r = subst (λ o. IsTrue (takes s o (made.Object a))) (sym (h info e)) r

    one_or_more : (a : TypeId) (p : PtrId) (info : PtrInfo) → slice_get s.pointers p.0 ≡ Some info → IsTrue (is_subtype s.types a info.origin) → (c : Computed) (cs : List Computed) → IsOfOrigin s c
        → AllPairs (λ (c d : Computed). c.pointer.0 ≢ d.pointer.0) (c ∷ cs) → (t : Ty) → (type_computed (computed_among cs p) ≡ Some t → IsTrue (computed_leads s cs p (made.Object a) t))
        → (b : Bool) → (c.pointer.0 == p.0) ≡ b → type_computed (if b then Some c else computed_among cs p) ≡ Some t
        → IsTrue ((if b then takes s c.expr.typed.core.subject (made.Object a) && widens s c.ty t else true) && computed_leads s cs p (made.Object a) t)
    one_or_more a p info e sub c cs o d t more true f j =
        let same : c.pointer.0 ≡ p.0 = (Decides-eqb c.pointer.0 p.0).0 f in
        both (takes s c.expr.typed.core.subject (made.Object a) && widens s c.ty t) (computed_leads s cs p (made.Object a) t)
        (both (takes s c.expr.typed.core.subject (made.Object a)) (widens s c.ty t) (taken a c info (ap (slice_get s.pointers) same ∙ e) o sub) (itself_at s c.ty t (some_same j)))
        (none_leads cs p (made.Object a) t (subst (λ n. Each (λ (c : Computed). c.pointer.0 ≢ n) cs) same (turned c.pointer.0 cs (apart_from (λ (c d : Computed). c.pointer.0 ≢ d.pointer.0) c cs d))))
    one_or_more a p info e sub c cs o d t more false f j = more j

    all_lead : (a : TypeId) (p : PtrId) (info : PtrInfo) → slice_get s.pointers p.0 ≡ Some info → IsTrue (is_subtype s.types a info.origin) → (cs : List Computed) → Each (IsOfOrigin s) cs → AllPairs (λ (c d : Computed). c.pointer.0 ≢ d.pointer.0) cs
        → (t : Ty) → type_computed (computed_among cs p) ≡ Some t → IsTrue (computed_leads s cs p (made.Object a) t)
    all_lead a p info e sub [] o d t i = refl
    all_lead a p info e sub (c ∷ cs) o d t i =
        one_or_more a p info e sub c cs o.0 d t (λ j. all_lead a p info e sub cs o.1 (apart_behind (λ (c d : Computed). c.pointer.0 ≢ d.pointer.0) c cs d) t j) (c.pointer.0 == p.0) refl i

    comp_leads : (u t : Ty) (link : Option PtrId) (p : PtrId) → type_after s link u (step.Comp p) ≡ Some t → IsOwned u p → IsTrue (computed_leads s s.computed p u t)
    comp_leads (ty.Object a) t link p e (info, f, h) = all_lead a p info f (typed.listed a p info h f) s.computed typed.subjects typed.once t e
    comp_leads (ty.Scalar a) t link p e h = none_some e
    comp_leads (ty.Tuple' _ a) t link p e h = none_some e
    comp_leads (ty.Array a) t link p e h = none_some e

    stored_leads : (o : Option Ty) (t : Ty) → o ≡ Some t → IsTrue (widens_from s o t)
    stored_leads None t e = none_some e
    stored_leads (Some u) t e = itself_at s u t (some_same e)

    prop_leads : (p : PtrId) (t : Ty) → type_stored (slice_get s.pointers p.0) ≡ Some t → (b : Bool) → is_id s.pointers p ≡ b → IsTrue (if b then is_scalar scalar.Uuid t else leads s p t)
    prop_leads p t e true h = subst (λ t. IsTrue (is_scalar scalar.Uuid t)) (some_same (sym (typed.id p h) ∙ e)) refl
    prop_leads p t e false h = stored_leads (type_stored (slice_get s.pointers p.0)) t e

    narrow_leads : (a b : TypeId) (t : Ty) → lower_type s.types a b ≡ Some t → IsTrue (widens s (made.Object a) t || widens s (made.Object b) t)
    narrow_leads a b t e =
        chosen (is_subtype s.types a b) (Some (made.Object a)) (if is_subtype s.types b a then Some (made.Object b) else None) (Some t) e
        (λ h i. left (widens s (made.Object a) t) (widens s (made.Object b) t) (itself_at s (made.Object a) t (some_same i)))
        (λ h i. chosen (is_subtype s.types b a) (Some (made.Object b)) None (Some t) i
        (λ h i. right (widens s (made.Object a) t) (widens s (made.Object b) t) (itself_at s (made.Object b) t (some_same i)))
        (λ h i. none_some i))

    from_object : (link : Option PtrId) (a : TypeId) (x : Step) (t : Ty) → type_after s link (made.Object a) x ≡ Some t → IsOwn (made.Object a) x → IsTrue (step_leads s x (made.Object a) t)
    from_object link a (step.Prop p) t e o = prop_leads p t e (is_id s.pointers p) refl
    from_object link a (step.Link p) t e o = stored_leads (type_stored (slice_get s.pointers p.0)) t e
    from_object link a (step.Comp p) t e o = comp_leads (made.Object a) t link p e o
    from_object link a (step.Back p b) t e o = itself_at s (made.Object b) t (some_same e)
    from_object link a (step.Is b) t e o = narrow_leads a b t e
    from_object link a (step.LinkProp n) t e o = refl
    from_object link a (step.Dot n) t e o = none_some e
    from_object link a (step.BackDot n b) t e o = none_some e

    one_leads : (link : Option PtrId) (u : Ty) (x : Step) (t : Ty) → type_after s link u x ≡ Some t → IsOwn u x → IsTrue (step_leads s x u t)
    one_leads link (ty.Object a) x t e o = from_object link a x t e o
    one_leads link (ty.Scalar a) x t e o = none_some e
    one_leads link (ty.Tuple' _ a) x t e o = none_some e
    one_leads link (ty.Array a) x t e o = none_some e

    module _ (args : Args) where
      pub lead_on : (link : Option PtrId) (u : Ty) (xs : List Step) (t : Ty) → Walks link u xs t → Leads (typing s args) xs u t
      lead_on link u [] t h = h
      lead_on link u (x ∷ more) t (v, e, o, h) = (v, one_leads link u x v e o, lead_on (link_of x) v more t h)

      -- the first steps lead to a type, and the others on from there
      pub parted : (link : Option PtrId) (u : Ty) (n : ℕ) (xs : List Step) (t : Ty) → Walks link u xs t → (v : Ty) × Walks link u (take n xs) v × Leads (typing s args) (drop n xs) v t
      parted link u zero xs t h = (u, refl, lead_on link u xs t h)
      parted link u (suc n) [] t h = (u, refl, h)
      parted link u (suc n) (x ∷ more) t (v, e, o, h) =
          let q = parted (link_of x) v n more t h in
          (q.0, (v, e, o, q.1), q.2)
