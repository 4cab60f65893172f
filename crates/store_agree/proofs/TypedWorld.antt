-- The world of a store gives values of their types.
use Rattle.std.proofs.Common.{◌≡◌, IsTrue, ℕ, zero, suc, ◌<◌, ◌==◌, ◌&&◌, ◌||◌, Bool, true, false, cond, Option, Some, None, List, [], ◌∷◌, length, map, filter, fold, slice_get, slice_index_or, refl, ap, ◌∙◌, subst, arith}
use Rattle.std.proofs.lemmas.Bool.{eq-eqb, eqb-true, ltb-true}
use Rattle.std.specs.List.{list_any}
use Rattle.std.specs.Prelude.{nat_lt}
use Rattle.std.specs.Str.{bytes_eq}
use Rattle.ev_value.specs.Item.{one, all_of, values, EachValue}
use Rattle.ev_value.specs.declared.args.Args.{Args}
use Rattle.ev_value.specs.declared.item.Item.{Item}
use Rattle.ev_value.specs.declared.value.ScalarTy.{ScalarTy}
use Rattle.ev_value.specs.declared.value.ScalarTy.TheVariants as scalar
use Rattle.ev_value.specs.declared.value.Val.{Val}
use Rattle.ev_value.specs.declared.value.Val.TheVariants as made
use Rattle.ev_value.proofs.Items.{each_bind}
use Rattle.core_ir.specs.declared.path.PtrId.{PtrId}
use Rattle.core_ir.specs.declared.path.Step.{Step}
use Rattle.core_ir.specs.declared.path.Step.TheVariants as step
use Rattle.core_ir.specs.declared.path.TypeId.{TypeId}
use Rattle.core_ir.specs.declared.ty.Ty.{Ty}
use Rattle.core_ir.specs.declared.ty.Ty as ty
use Rattle.core_ir.specs.Path.{subject}
use Rattle.ev_schema.specs.declared.pointer.Body.{Body}
use Rattle.ev_schema.specs.declared.pointer.Body.TheVariants as body
use Rattle.ev_schema.specs.declared.pointer.Computed.{Computed}
use Rattle.ev_schema.specs.declared.pointer.LinkProperty.{LinkProperty}
use Rattle.ev_schema.specs.declared.pointer.PtrInfo.{PtrInfo}
use Rattle.ev_schema.specs.declared.schema.Schema.{Schema}
use Rattle.ev_schema.specs.Pointers.{is_id}
use Rattle.ev_schema.specs.Steps.{type_of_body, type_stored}
use Rattle.ev_schema.specs.Types.{is_subtype}
use Rattle.db_store.specs.declared.object.LinkValue.{LinkValue}
use Rattle.db_store.specs.declared.object.Object.{Object}
use Rattle.db_store.specs.declared.object.PtrValue.{PtrValue}
use Rattle.db_store.specs.declared.object.PtrValue.TheVariants as value
use Rattle.db_store.specs.declared.object.Target.{Target}
use Rattle.db_store.specs.Fits as fit
use Rattle.db_store.specs.Fits.{Fits, FitsObject, FitsEntry, FitsValue, FitsTarget, FitsProperty, stored_type}
use Rattle.db_store.specs.Objects.{find, object_of, entry, values_if_stored, targets_if_stored, values_at, targets_at, as_value}
use Rattle.eql_sem.specs.declared.binding.Bound.TheVariants as bound
use Rattle.eql_sem.specs.declared.binding.Name.TheVariants as name
use Rattle.eql_steps.specs.Steps.{of_object, leads_to, property_named, property_at, argument_named, link_property, is_target, targets_among, is_source, property, sources_among, is_of, is_of_type, narrowed}
use Rattle.eql_world.specs.StoreWorld.{Computes, values_for, stepped, world_where, knowing, computing, world_of}
use Rattle.eql_agree.specs.Kinds.{Each}
use Rattle.eql_agree.specs.Agreeing.{IfThere, AgreeBy}
use Rattle.eql_agree.proofs.Lists.{each_all_of, each_weaker, each_collect}
use Rattle.eql_agree.proofs.Agreement.{agreeing_is_kept}
use Rattle.store_agree.specs.Typed.{is_scalar, is_array, is_of_ty, widens, widens_from, leads, property_leads, of_link, takes, computed_leads, step_leads, given_fits, types, ExtendsOn, IsTyped, ComputedTyped, ValuesHaveTheirTypes}
use Rattle.store_agree.proofs.TypedLaws.{plain_in, scalar_in, array_in, widen_in, types_are_sound}
use Rattle.store_agree.proofs.Truths.{first_true, second_true, either_true}
use Rattle.store_agree.proofs.Stored.{object_fits, Stored, entry_fits}

-- ---- a store whose ids stand in order

before : Object → Object → Bool
before a b = nat_lt a.id b.id

found_first : (o : Object) (x : Option Object) (b : Bool) → b ≡ true → ◌≡◌ {A = Option Object} (cond b (Some o) x) (Some o)
found_first o x b e = ap (λ c. cond c (Some o) x) e

not_self : (n m : ℕ) → nat_lt n m ≡ true → n ≡ m → ⊥
not_self n m h e = omega (arith, ltb-true n m h, e)

found_behind : (x o : Object) (xs : List Object) (b : Bool) → x.id == o.id ≡ b → nat_lt x.id o.id ≡ true → find xs o.id ≡ Some o → ◌≡◌ {A = Option Object} (cond b (Some x) (find xs o.id)) (Some o)
found_behind x o xs true e h r = absurd (not_self x.id o.id h (eqb-true x.id o.id e))
found_behind x o xs false e h r = r

each_behind : (x : Object) (xs ys : List Object) → fit.Each (λ (y : Object). nat_lt x.id y.id ≡ true) ys → Each (λ (o : Object). find xs o.id ≡ Some o) ys → Each (λ (o : Object). find (x ∷ xs) o.id ≡ Some o) ys
each_behind x xs [] h r = tt
each_behind x xs (y ∷ ys) h r = (found_behind x y xs (x.id == y.id) refl h.0 r.0, each_behind x xs ys h.1 r.1)

pub found_self : (os : List Object) → fit.Ascend (λ (a b : Object). nat_lt a.id b.id) os → Each (λ (o : Object). find os o.id ≡ Some o) os
found_self [] h = tt
found_self (o ∷ os) h = (found_first o (find os o.id) (o.id == o.id) (eq-eqb o.id o.id refl), each_behind o os os h.0 (found_self os h.1))

any_at : {A C : Type 0} (f : A → Bool) (x : A) (xs : List A) (b : Bool) → f x ≡ b → b || list_any f xs ≡ true → (f x ≡ true → C) → (list_any f xs ≡ true → C) → C
any_at f x xs true e h g r = g e
any_at f x xs false e h g r = r h

-- something of some element
any_of : {A C : Type 0} (Q : A → Type 0) (f : A → Bool) (xs : List A) → list_any f xs ≡ true → fit.Each Q xs → ((x : A) → f x ≡ true → Q x → C) → C
any_of Q f [] h q g = let clash : false ≡ true = h in absurd cc
any_of Q f (x ∷ xs) h q g = any_at f x xs (f x) refl h (λ e. g x e q.0) (λ e. any_of Q f xs e q.1 g)

any_plain : {A C : Type 0} (f : A → Bool) (xs : List A) → list_any f xs ≡ true → ((x : A) → f x ≡ true → C) → C
any_plain f [] h g = let clash : false ≡ true = h in absurd cc
any_plain f (x ∷ xs) h g = any_at f x xs (f x) refl h (λ e. g x e) (λ e. any_plain f xs e g)

kept_at : (P : Val → Type 0) (b : Bool) (o : Object) (vs : List Object) → (b ≡ true → P (as_value o)) → Each P (map as_value vs) → Each P (map as_value (cond b (o ∷ vs) vs))
kept_at P true o vs h r = (h refl, r)
kept_at P false o vs h r = r

kept_of : (P : Val → Type 0) (os : List Object) (f : Object → Bool) (xs : List Object) → Each (λ (o : Object). find os o.id ≡ Some o) xs → ((o : Object) → find os o.id ≡ Some o → f o ≡ true → P (as_value o)) → Each P (map as_value (filter f xs))
kept_of P os f [] h g = tt
kept_of P os f (x ∷ xs) h g = kept_at P (f x) x (filter f xs) (g x h.0) (kept_of P os f xs h.1 g)

module _ (s : Schema) (os : List Object) (args : Args) (extends : ExtendsOn s) (fits : Fits s os) where
  abbrev Is : Ty → Val → Type 0
  Is t v = IsTrue (is_of_ty s os t v)

  as_ty : (a : TypeId) (v : Val) → IsTrue (is_of_type s os a v) → Is (ty.Object a) v
  unfolding is_of_ty
  as_ty a v h = h

  object_is : (a : TypeId) (o : Object) → find os o.id ≡ Some o → is_subtype s.types o.ty a ≡ true → Is (ty.Object a) (as_value o)
  unfolding is_of_ty
  object_is a o e h = ap (is_of s os a) e ∙ h

  id_is : (o : Object) (t : Ty) → IsTrue (is_scalar scalar.Uuid t) → Is t (made.Id o.id)
  id_is o t h = scalar_in s os args extends scalar.Uuid t (made.Id o.id) h refl

  of_those : (t : Ty) (f : Object → Bool) → ((o : Object) → find os o.id ≡ Some o → f o ≡ true → Is t (as_value o)) → Each (λ v. IsTrue (is_of_ty s os t v)) (map as_value (filter f os))
  of_those t f g = kept_of (λ v. IsTrue (is_of_ty s os t v)) os f os (found_self os fits.in_order) g

  extent_is : (a : TypeId) (t : Ty) → IsTrue (widens s (ty.Object a) t) → Each (λ v. IsTrue (is_of_ty s os t v)) (map as_value (filter (λ (o : Object). is_subtype s.types o.ty a) os))
  extent_is a t h = of_those t (λ (o : Object). is_subtype s.types o.ty a) (λ o e r. widen_in s os args extends (ty.Object a) t (as_value o) h (object_is a o e r))

  -- ---- what is stored

  -- the type that is stored of a body
  stored_is : (b : Body) (u : Ty) → stored_type b ≡ Some u → type_of_body b ≡ Some u
  stored_is (body.Stored t) u e = e
  stored_is body.Computed u e = let clash : None ≡ Some u = e in absurd cc

  leads_on : (p : PtrId) (info : PtrInfo) (u t : Ty) → slice_get s.pointers p.0 ≡ Some info → stored_type info.body ≡ Some u → IsTrue (leads s p t) → IsTrue (widens s u t)
  leads_on p info u t e r h = subst (λ (o : Option Ty). IsTrue (widens_from s o t)) (stored_is info.body u r) (subst (λ (o : Option PtrInfo). IsTrue (widens_from s (type_stored o) t)) e h)

  values_are : (info : PtrInfo) (a : ScalarTy) (t : Ty) (vs : List Val) → IsTrue (is_scalar a t) → FitsValue s os info (ty.Scalar a) (value.Vals vs) → Each (λ v. IsTrue (is_of_ty s os t v)) vs
  values_are info a t [] h r = tt
  values_are info a t (v ∷ vs) h r = (scalar_in s os args extends a t v h r.0.0, values_are info a t vs h r.1)

  scalar_widens : (a : ScalarTy) (t : Ty) → IsTrue (widens s (ty.Scalar a) t) → IsTrue (is_scalar a t)
  unfolding widens
  scalar_widens a t h = h

  arrays_are : (info : PtrInfo) (a : ScalarTy) (t : Ty) (vs : List Val) → IsTrue (is_array a t) → FitsValue s os info (ty.Array a) (value.Vals vs) → Each (λ v. IsTrue (is_of_ty s os t v)) vs
  arrays_are info a t [] h r = tt
  arrays_are info a t (v ∷ vs) h r = (array_in s os args extends a t v h r.0.0, arrays_are info a t vs h r.1)

  array_widens : (a : ScalarTy) (t : Ty) → IsTrue (widens s (ty.Array a) t) → IsTrue (is_array a t)
  unfolding widens
  array_widens a t h = h

  stored_are : (p : PtrId) (t : Ty) (x : Option PtrValue) → IsTrue (leads s p t) → IfThere (Stored s os p) x → Each (λ v. IsTrue (is_of_ty s os t v)) (values_if_stored x)
  stored_are p t None h r = tt
  stored_are p t (Some (value.Links ts)) h r = tt
  stored_are p t (Some (value.Vals vs)) h r = by_type r.1 (leads_on p r.0 r.1 t r.2 r.3 h) r.4
    where
      by_type : (u : Ty) → IsTrue (widens s u t) → FitsValue s os r.0 u (value.Vals vs) → Each (λ v. IsTrue (is_of_ty s os t v)) vs
      by_type (ty.Scalar a) w q = values_are r.0 a t vs (scalar_widens a t w) q
      by_type (ty.Array a) w q = arrays_are r.0 a t vs (array_widens a t w) q
      by_type (ty.Object a) w q = absurd q
      by_type (ty.Tuple' _ us) w q = absurd q

  property_is : (p : PtrId) (t : Ty) (o : Object) → IsTrue (cond (is_id s.pointers p) (is_scalar scalar.Uuid t) (leads s p t)) → FitsObject s (λ info. info.card) os o → Each (λ v. IsTrue (is_of_ty s os t v)) (property s p o)
  property_is p t o h r = by_id (is_id s.pointers p) h
    where
      by_id : (b : Bool) → IsTrue (cond b (is_scalar scalar.Uuid t) (leads s p t)) → Each (λ v. IsTrue (is_of_ty s os t v)) (cond b (made.Id o.id ∷ []) (values_at o p))
      by_id true q = (id_is o t q, tt)
      by_id false q = stored_are p t (entry o.values p) q (entry_fits s os o.ty o.values p r.entries)

  of_object_is : (t : Ty) (x : Option Object) (f : Object → List Val) → ((o : Object) → FitsObject s (λ info. info.card) os o → Each (λ v. IsTrue (is_of_ty s os t v)) (f o)) → IfThere (FitsObject s (λ info. info.card) os) x → Each (λ v. IsTrue (is_of_ty s os t v)) (of_object x f)
  of_object_is t None f h r = tt
  of_object_is t (Some o) f h r = h o r

  -- ---- links

  target_is : (p : PtrId) (t : Ty) (o : Object) (x : Option PtrValue) → IsTrue (leads s p t) → IfThere (Stored s os p) x → leads_to o (targets_if_stored x) ≡ true → Is t (as_value o)
  target_is p t o None h r e = let clash : false ≡ true = e in absurd cc
  target_is p t o (Some (value.Vals vs)) h r e = let clash : false ≡ true = e in absurd cc
  target_is p t o (Some (value.Links ts)) h r e = by_type r.1 (leads_on p r.0 r.1 t r.2 r.3 h) r.4
    where
      at : (a : TypeId) → (x : Target) → x.id == o.id ≡ true → FitsTarget s os r.0 a x → IsTrue (is_of_type s os a (as_value o))
      at a x q k = subst (λ (n : ℕ). is_of s os a (find os n) ≡ true) (eqb-true x.id o.id q) (ap (is_of s os a) k.0.1 ∙ k.0.2)

      by_type : (u : Ty) → IsTrue (widens s u t) → FitsValue s os r.0 u (value.Links ts) → Is t (as_value o)
      by_type (ty.Scalar a) w q = absurd q
      by_type (ty.Object a) w q = any_of (FitsTarget s os r.0 a) (λ (x : Target). x.id == o.id) ts e q.1 (λ x z k. widen_in s os args extends (ty.Object a) t (as_value o) w (as_ty a (as_value o) (at a x z k)))
      by_type (ty.Array a) w q = absurd q
      by_type (ty.Tuple' _ us) w q = absurd q

  source_leads : (p : PtrId) (t : Ty) (o : Object) (x : Option Object) → IsTrue (leads s p t) → IfThere (FitsObject s (λ info. info.card) os) x → leads_to o (of_object x (λ source. targets_at source p)) ≡ true → Is t (as_value o)
  source_leads p t o None h r e = let clash : false ≡ true = e in absurd cc
  source_leads p t o (Some a) h r e = target_is p t o (entry a.values p) h (entry_fits s os a.ty a.values p r.entries) e

  links_are : (p : PtrId) (t : Ty) (vs : List Val) → IsTrue (leads s p t) → Each (λ v. IsTrue (is_of_ty s os t v)) (targets_among os p vs)
  links_are p t vs h = of_those t (λ (o : Object). list_any (is_target os p o) vs) (λ o e r. any_plain (is_target os p o) vs r (λ v q. source_leads p t o (object_of os v) h (object_fits s os fits v) q))

  sources_are : (p : PtrId) (a : TypeId) (t : Ty) (vs : List Val) → IsTrue (widens s (ty.Object a) t) → Each (λ v. IsTrue (is_of_ty s os t v)) (sources_among s os p a vs)
  sources_are p a t vs h =
      of_those t (λ (o : Object). is_subtype s.types o.ty a && list_any (is_source os p o) vs)
      (λ o e r. widen_in s os args extends (ty.Object a) t (as_value o) h (object_is a o e (first_true (is_subtype s.types o.ty a) (list_any (is_source os p o) vs) r)))

  -- ---- a property of a link

  declared_is : (ds : List LinkProperty) (q : LinkProperty) (n : List ℕ) (t : Ty) (k : ℕ) → k < length ds → slice_index_or ds k q ≡ q → IsTrue (property_leads s ds n t) → bytes_eq q.name n ≡ true → IsTrue (is_scalar q.ty t)
  declared_is [] q n t k l e h r = let clash : ⊥ = omega (arith, l) in absurd clash
  declared_is (d ∷ ds) q n t zero l e h r =
      let here : IsTrue (cond (bytes_eq d.name n) (is_scalar d.ty t) true) = first_true (cond (bytes_eq d.name n) (is_scalar d.ty t) true) (property_leads s ds n t) h in
      let same : IsTrue (cond (bytes_eq q.name n) (is_scalar q.ty t) true) = subst (λ (d : LinkProperty). IsTrue (cond (bytes_eq d.name n) (is_scalar d.ty t) true)) e here in
      subst (λ (b : Bool). IsTrue (cond b (is_scalar q.ty t) true)) r same
  declared_is (d ∷ ds) q n t (suc k) l e h r = declared_is ds q n t k (omega (arith, l)) e (second_true (cond (bytes_eq d.name n) (is_scalar d.ty t) true) (property_leads s ds n t) h) r

  named_is : (declared : List LinkProperty) (ps : List LinkValue) (n : List ℕ) (t : Ty) → IsTrue (property_leads s declared n t) → fit.Each (FitsProperty s declared) ps → Each (λ v. IsTrue (is_of_ty s os t v)) (property_named ps n)
  named_is declared [] n t h r = tt
  named_is declared (v ∷ ps) n t h r = at (bytes_eq v.name n) refl (named_is declared ps n t h r.1)
    where
      at : (b : Bool) → bytes_eq v.name n ≡ b → Each (λ v. IsTrue (is_of_ty s os t v)) (property_named ps n) → Each (λ v. IsTrue (is_of_ty s os t v)) (cond b (v.value ∷ []) (property_named ps n))
      at true e q =
          let k = r.0 in
          (scalar_in s os args extends k.0.ty t v.value (declared_is declared k.0 n t k.1.0 k.1.1 k.1.2 h (ap (λ (m : List ℕ). bytes_eq m n) k.2 ∙ e)) k.3, tt)
      at false e q = q

  at_target_is : (info : PtrInfo) (a : TypeId) (ts : List Target) (o : Object) (n : List ℕ) (t : Ty) → IsTrue (property_leads s info.link_props n t) → fit.Each (FitsTarget s os info a) ts → Each (λ v. IsTrue (is_of_ty s os t v)) (property_at ts o n)
  at_target_is info a [] o n t h r = tt
  at_target_is info a (x ∷ ts) o n t h r = at (x.id == o.id) (at_target_is info a ts o n t h r.1)
    where
      at : (b : Bool) → Each (λ v. IsTrue (is_of_ty s os t v)) (property_at ts o n) → Each (λ v. IsTrue (is_of_ty s os t v)) (cond b (property_named x.properties n) (property_at ts o n))
      at true q = named_is info.link_props x.properties n t h r.0.2
      at false q = q

  targets_are : (l : PtrId) (x : Option PtrValue) (o : Object) (n : List ℕ) (t : Ty) → IsTrue (of_link s (slice_get s.pointers l.0) n t) → IfThere (Stored s os l) x → Each (λ v. IsTrue (is_of_ty s os t v)) (property_at (targets_if_stored x) o n)
  targets_are l None o n t h r = tt
  targets_are l (Some (value.Vals vs)) o n t h r = tt
  targets_are l (Some (value.Links ts)) o n t h r = by_type r.1 r.4
    where
      by_type : (u : Ty) → FitsValue s os r.0 u (value.Links ts) → Each (λ v. IsTrue (is_of_ty s os t v)) (property_at ts o n)
      by_type (ty.Scalar a) q = absurd q
      by_type (ty.Object a) q = at_target_is r.0 a ts o n t (subst (λ (i : Option PtrInfo). IsTrue (of_link s i n t)) r.2 h) q.1
      by_type (ty.Array a) q = absurd q
      by_type (ty.Tuple' _ us) q = absurd q

  link_property_is : (l : PtrId) (n : List ℕ) (t : Ty) (x y : Val) → IsTrue (of_link s (slice_get s.pointers l.0) n t) → Each (λ v. IsTrue (is_of_ty s os t v)) (link_property os l n x y)
  link_property_is l n t x y h =
      of_object_is t (object_of os x) (λ a. of_object (object_of os y) (λ b. property_at (targets_at a l) b n))
      (λ a fa. of_object_is t (object_of os y) (λ b. property_at (targets_at a l) b n) (λ b fb. targets_are l (entry a.values l) b n t h (entry_fits s os a.ty a.values l fa.entries)) (object_fits s os fits y)) (object_fits s os fits x)

  -- ---- steps

  narrowed_is : (a : TypeId) (u t : Ty) (xs : List (Item Val)) → IsTrue (widens s u t || widens s (ty.Object a) t) → EachValue (λ v. IsTrue (is_of_ty s os u v)) xs → EachValue (λ v. IsTrue (is_of_ty s os t v)) (narrowed s os a xs)
  narrowed_is a u t xs h r = each_bind (λ v. IsTrue (is_of_ty s os u v)) (λ v. IsTrue (is_of_ty s os t v)) xs (λ v. cond (is_of_type s os a v) (one v) []) r (λ v q. at v q (is_of_type s os a v) refl)
    where
      at : (v : Val) → IsTrue (is_of_ty s os u v) → (b : Bool) → is_of_type s os a v ≡ b → EachValue (λ v. IsTrue (is_of_ty s os t v)) (cond b (one v) [])
      at v q true e = (either_true (widens s u t) (widens s (ty.Object a) t) h (λ w. widen_in s os args extends u t v w q) (λ w. widen_in s os args extends (ty.Object a) t v w (as_ty a v e)), tt)
      at v q false e = tt

  -- what computed pointers give has its type, for those that are asked for as the schema has them
  abbrev ComputesTyped : Computes → Type 0
  ComputesTyped f = (p : PtrId) (u t : Ty) (v : Val) → IsTrue (computed_leads s s.computed p u t) → IsTrue (is_of_ty s os u v) → EachValue (λ v. IsTrue (is_of_ty s os t v)) (f p v)

  step_is : (f : Computes) → ComputesTyped f → (x : Step) (u t : Ty) (xs : List (Item Val)) → IsTrue (step_leads s x u t) → EachValue (λ v. IsTrue (is_of_ty s os u v)) xs → EachValue (λ v. IsTrue (is_of_ty s os t v)) (stepped s os args f x xs)
  step_is f c (step.Prop p) u t xs h r =
      each_bind (λ v. IsTrue (is_of_ty s os u v)) (λ v. IsTrue (is_of_ty s os t v)) xs (λ v. all_of (of_object (object_of os v) (property s p))) r
      (λ v q. each_all_of (λ v. IsTrue (is_of_ty s os t v)) (of_object (object_of os v) (property s p)) (of_object_is t (object_of os v) (property s p) (λ o k. property_is p t o h k) (object_fits s os fits v)))
  step_is f c (step.Link p) u t xs h r = each_collect (λ v. IsTrue (is_of_ty s os t v)) (λ vs. all_of (targets_among os p vs)) xs (each_all_of (λ v. IsTrue (is_of_ty s os t v)) (targets_among os p (values xs)) (links_are p t (values xs) h))
  step_is f c (step.Comp p) u t xs h r = each_bind (λ v. IsTrue (is_of_ty s os u v)) (λ v. IsTrue (is_of_ty s os t v)) xs (f p) r (λ v q. c p u t v h q)
  step_is f c (step.Back p a) u t xs h r = each_collect (λ v. IsTrue (is_of_ty s os t v)) (λ vs. all_of (sources_among s os p a vs)) xs (each_all_of (λ v. IsTrue (is_of_ty s os t v)) (sources_among s os p a (values xs)) (sources_are p a t (values xs) h))
  step_is f c (step.Is a) u t xs h r = narrowed_is a u t xs h r
  step_is f c (step.LinkProp n) u t xs h r = tt
  step_is f c (step.Dot n) u t xs h r = tt
  step_is f c (step.BackDot n a) u t xs h r = tt

  argument_is : (o : Option Val) (t : Ty) → IsTrue (given_fits o t) → IfThere (λ v. IsTrue (is_of_ty s os t v)) o
  argument_is None t h = tt
  argument_is (Some v) t h = plain_in s os args extends t v h

  agree : (f : Computes) → ComputesTyped f → AgreeBy (types s os args) (world_where s os args f) (world_where s os args f)
  agree f c = record {
    extents = λ a t h. (refl, extent_is a t h);
    steps = λ x u t xs h r. (refl, step_is f c x u t xs h r);
    properties = λ l n u v t x y h p q. (refl, link_property_is l n t x y h);
    params = λ q t h. (refl, argument_is (argument_named args.params q.name) t h);
    globals = λ n t h. (refl, argument_is (argument_named args.globals n) t h);
  }

  -- ---- computed pointers, each where those before it are known

  subject_is : (o : Option TypeId) (c : Computed) (f : Computes) → ComputesTyped f → c.expr.typed.core.subject ≡ o → IsTyped s args c → (u : Ty) (v : Val) → IsTrue (takes s o u) → IsTrue (is_of_ty s os u v)
      → EachValue (λ v. IsTrue (is_of_ty s os c.ty v)) (values_for (world_where s os args f) c.expr v)
  subject_is None c f k e typed u v h r = let clash : false ≡ true = h in absurd cc
  subject_is (Some a) c f k e typed u v h r =
      ((agreeing_is_kept Ty).same_values (types s os args) (world_where s os args f) (world_where s os args f) (types_are_sound s os args extends) (agree f k) c.expr.typed.core.root.body (name.Prefix (subject 0) ∷ []) (ty.Object a ∷ []) (bound.One v ∷ []) c.ty (typed a e) (widen_in s os args extends u (ty.Object a) v h r, tt)).1

  each_widened : (u t : Ty) (xs : List (Item Val)) → IsTrue (widens s u t) → EachValue (λ v. IsTrue (is_of_ty s os u v)) xs → EachValue (λ v. IsTrue (is_of_ty s os t v)) xs
  each_widened u t xs h r = each_weaker (λ v. IsTrue (is_of_ty s os u v)) (λ v. IsTrue (is_of_ty s os t v)) xs (λ v q. widen_in s os args extends u t v h q) r

  knowing_typed : (f : Computes) (c : Computed) → ComputesTyped f → IsTyped s args c
      → ((p : PtrId) (u t : Ty) → IsTrue (computed_leads s s.computed p u t) → IsTrue (cond (c.pointer.0 == p.0) (takes s c.expr.typed.core.subject u && widens s c.ty t) true)) → ComputesTyped (knowing s os args f c)
  knowing_typed f c k typed here p u t v h r = at (c.pointer.0 == p.0) (here p u t h)
    where
      there : (x : Option Object) → IsTrue (takes s c.expr.typed.core.subject u && widens s c.ty t) → EachValue (λ v. IsTrue (is_of_ty s os t v)) (of_object x (λ o. values_for (world_where s os args f) c.expr v))
      there None q = tt
      there (Some o) q =
          each_widened c.ty t (values_for (world_where s os args f) c.expr v) (second_true (takes s c.expr.typed.core.subject u) (widens s c.ty t) q)
          (subject_is c.expr.typed.core.subject c f k refl typed u v (first_true (takes s c.expr.typed.core.subject u) (widens s c.ty t) q) r)

      at : (b : Bool) → IsTrue (cond b (takes s c.expr.typed.core.subject u && widens s c.ty t) true) → EachValue (λ v. IsTrue (is_of_ty s os t v)) (cond b (of_object (object_of os v) (λ o. values_for (world_where s os args f) c.expr v)) (f p v))
      at true q = there (object_of os v) q
      at false q = k p u t v h r

  computing_typed : (cs : List Computed) (f : Computes) → ComputedTyped s args cs → ((p : PtrId) (u t : Ty) → IsTrue (computed_leads s s.computed p u t) → IsTrue (computed_leads s cs p u t)) → ComputesTyped f → ComputesTyped (fold (knowing s os args) f cs)
  computing_typed [] f typed m k = k
  computing_typed (c ∷ cs) f typed m k =
      computing_typed cs (knowing s os args f c) typed.1
      (λ p u t h. second_true (cond (c.pointer.0 == p.0) (takes s c.expr.typed.core.subject u && widens s c.ty t) true) (computed_leads s cs p u t) (m p u t h))
      (knowing_typed f c k typed.0 (λ p u t h. first_true (cond (c.pointer.0 == p.0) (takes s c.expr.typed.core.subject u && widens s c.ty t) true) (computed_leads s cs p u t) (m p u t h)))

  whole : ComputedTyped s args s.computed → AgreeBy (types s os args) (world_of s os args) (world_of s os args)
  whole typed = agree (computing s os args s.computed) (computing_typed s.computed (λ p v. []) typed (λ p u t h. h) (λ p u t v h r. tt))

pub values_have_their_types : ValuesHaveTheirTypes
values_have_their_types = record {
  of_values = λ s os args fits extends typed x ns ts b t h a.
      ((agreeing_is_kept Ty).same_values (types s os args) (world_of s os args) (world_of s os args) (types_are_sound s os args extends) (whole s os args extends fits typed) x ns ts b t h a).1;
  of_items = λ s os args fits extends typed x ns ts b t h a.
      ((agreeing_is_kept Ty).same_items (types s os args) (world_of s os args) (world_of s os args) (types_are_sound s os args extends) (whole s os args extends fits typed) x ns ts b t h a).1;
}
