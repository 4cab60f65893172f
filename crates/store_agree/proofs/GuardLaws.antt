-- The guarded world gives what the world of the view gives.
use Rattle.std.proofs.Common.{◌≡◌, IsTrue, ℕ, ◌==◌, ◌&&◌, ◌||◌, Bool, true, false, cond, Option, Some, None, List, [], ◌∷◌, ◌++◌, map, filter, fold, refl, sym, ap, ◌∙◌}
use Rattle.std.proofs.lemmas.Bool.{eqb-true}
use Rattle.std.specs.List.{list_any}
use Rattle.ev_value.specs.Item.{one, all_of, collect, has_fault, faults, only_faults, values, EachValue}
use Rattle.ev_value.specs.declared.args.Args.{Args}
use Rattle.ev_value.specs.declared.args.Argument.{Argument}
use Rattle.ev_value.specs.declared.item.Fault.{Fault}
use Rattle.ev_value.specs.declared.item.Item.{Item}
use Rattle.ev_value.specs.declared.item.Item.TheVariants as it
use Rattle.ev_value.specs.declared.value.Val.{Val}
use Rattle.ev_value.specs.declared.value.Val as val
use Rattle.ev_value.specs.declared.value.Val.TheVariants as made
use Rattle.ev_value.proofs.Items.{each_bind, bind_only_faults}
use Rattle.core_ir.specs.declared.path.PtrId.{PtrId}
use Rattle.core_ir.specs.declared.path.Step.{Step}
use Rattle.core_ir.specs.declared.path.Step.TheVariants as step
use Rattle.core_ir.specs.declared.path.TypeId.{TypeId}
use Rattle.core_ir.specs.declared.phase.Carded.{Carded}
use Rattle.core_ir.specs.Path.{subject}
use Rattle.ev_schema.specs.declared.pointer.Computed.{Computed}
use Rattle.ev_schema.specs.declared.schema.Schema.{Schema}
use Rattle.ev_schema.specs.Pointers.{is_id}
use Rattle.ev_schema.specs.Types.{is_subtype}
use Rattle.db_store.specs.declared.object.Object.{Object}
use Rattle.db_store.specs.declared.object.Target.{Target}
use Rattle.db_store.specs.Fits as fit
use Rattle.db_store.specs.Fits.{Fits, FitsObject, entry_before}
use Rattle.db_store.specs.Objects.{find, object_of, targets_at, as_value}
use Rattle.eql_sem.specs.declared.binding.Bound.TheVariants as bound
use Rattle.eql_sem.specs.declared.binding.Name.TheVariants as name
use Rattle.eql_steps.specs.Steps.{of_object, leads_to, is_among_targets, property_named, property_at, link_property, is_target, targets_among, links, is_source, property, extent, properties, sources_among, back_links, is_of, is_of_type, narrowed}
use Rattle.eql_world.specs.StoreWorld.{Computes, values_for, stepped, world_where, knowing, computing, world_of}
use Rattle.eql_world.specs.View.{shown, is_shown, seen, cut_targets, cut, view_of}
use Rattle.eql_agree.specs.Kinds.{Each}
use Rattle.eql_agree.specs.Agreeing.{Same, IfThere}
use Rattle.eql_agree.specs.Uniform.{anything, IsClosed, AgreeOn, Literals}
use Rattle.eql_agree.proofs.Lists.{each_all_of, each_values, same_bind}
use Rattle.eql_agree.proofs.Anything.{asks_anything}
use Rattle.eql_agree.proofs.OneKind.{agreeing_worlds_give_the_same}
use Rattle.store_agree.specs.Guarded.{shows, only_shown, guarded_step, guarded_where, guarded_knowing, guarded_computing, guarded, GuardsGiveTheView}
use Rattle.eql_world.proofs.Cuts.{find_kept}
use Rattle.store_agree.proofs.CutLaws.{values_cut, targets_cut}
use Rattle.store_agree.proofs.Scalars as stored
use Rattle.store_agree.proofs.Stored.{object_fits}
use Rattle.store_agree.proofs.TypedWorld.{found_self}
use Rattle.store_agree.proofs.EachObject.{objects_closed}
use Rattle.store_agree.specs.EachObject.{each_object}

-- ---- lists

any_same : {A : Type 0} (f g : A → Bool) (P : A → Type 0) (xs : List A) → Each P xs → ((x : A) → P x → f x ≡ g x) → list_any f xs ≡ list_any g xs
any_same f g P [] h e = refl
any_same f g P (x ∷ xs) h e = λ i. e x h.0 i || any_same f g P xs h.1 e i

module _ (sees : ℕ → Bool) where
  abbrev In : Val → Type 0
  In v = IsTrue (shows sees v)

  pub shows_closed : IsClosed (shows sees)
  shows_closed = objects_closed sees

  shows_object : (o : Object) → shows sees (as_value o) ≡ sees o.id
  unfolding each_object
  shows_object o = refl

  -- ---- only what is shown

  keeps : (v : Val) (b : Bool) → shows sees v ≡ b → EachValue In (cond b (one v) [])
  keeps v true e = (e, tt)
  keeps v false e = tt

  any_value : (xs : List (Item Val)) → EachValue (λ (v : Val). Unit {0}) xs
  any_value [] = tt
  any_value (it.Value v ∷ xs) = (tt, any_value xs)
  any_value (it.Fault e ∷ xs) = any_value xs

  only_in : (xs : List (Item Val)) → EachValue In (only_shown sees xs)
  only_in xs = each_bind (λ (v : Val). Unit {0}) In xs (λ v. cond (shows sees v) (one v) []) (any_value xs) (λ v t. keeps v (shows sees v) refl)

  filter_at : (b : Bool) (v : Val) (vs : List Val) → shows sees v ≡ b → Each In vs → Each In (cond b (v ∷ vs) vs)
  filter_at true v vs e h = (e, h)
  filter_at false v vs e h = h

  filter_in : (vs : List Val) → Each In (filter (shows sees) vs)
  filter_in [] = tt
  filter_in (v ∷ vs) = filter_at (shows sees v) v (filter (shows sees) vs) refl (filter_in vs)

  only_all_at : (b : Bool) (v : Val) (vs : List Val) → only_shown sees (all_of vs) ≡ all_of (filter (shows sees) vs) → cond b (one v) [] ++ only_shown sees (all_of vs) ≡ all_of (cond b (v ∷ filter (shows sees) vs) (filter (shows sees) vs))
  only_all_at true v vs e = ap (λ l. it.Value v ∷ l) e
  only_all_at false v vs e = e

  only_all : (vs : List Val) → only_shown sees (all_of vs) ≡ all_of (filter (shows sees) vs)
  only_all [] = refl
  only_all (v ∷ vs) = only_all_at (shows sees v) v vs (only_all vs)

  only_cond : (b : Bool) (es : List Fault) (xs : List (Item Val)) → only_shown sees (cond b (only_faults es) xs) ≡ cond b (only_faults es) (only_shown sees xs)
  only_cond true es xs = bind_only_faults es (λ v. cond (shows sees v) (one v) [])
  only_cond false es xs = refl

  only_collect : (f : List Val → List Val) (g : List Val → List Val) (xs : List (Item Val)) → filter (shows sees) (f (values xs)) ≡ g (values xs) → only_shown sees (collect (λ vs. all_of (f vs)) xs) ≡ collect (λ vs. all_of (g vs)) xs
  only_collect f g xs e =
      only_cond (has_fault xs) (faults xs) (all_of (f (values xs))) ∙ ap (cond (has_fault xs) (only_faults (faults xs))) (only_all (f (values xs)) ∙ ap all_of e)

  -- ---- targets

  -- the object that a target leads to is seen
  any_cut_at : (o : Object) (t : Target) (ts : List Target) (b c : Bool) → sees t.id ≡ b → t.id == o.id ≡ c → sees o.id ≡ true
      → list_any (λ (t : Target). t.id == o.id) (filter (λ (t : Target). sees t.id) ts) ≡ list_any (λ (t : Target). t.id == o.id) ts
      → list_any (λ (t : Target). t.id == o.id) (cond b (t ∷ filter (λ (t : Target). sees t.id) ts) (filter (λ (t : Target). sees t.id) ts)) ≡ c || list_any (λ (t : Target). t.id == o.id) ts
  any_cut_at o t ts true c e q s r = λ i. q i || r i
  any_cut_at o t ts false false e q s r = r
  any_cut_at o t ts false true e q s r = let clash : false ≡ true = sym e ∙ ap sees (eqb-true t.id o.id q) ∙ s in absurd cc

  any_cut : (o : Object) (ts : List Target) → sees o.id ≡ true → leads_to o (cut_targets sees ts) ≡ leads_to o ts
  any_cut o [] s = refl
  any_cut o (t ∷ ts) s = any_cut_at o t ts (sees t.id) (t.id == o.id) refl refl s (any_cut o ts s)

  property_cut_at : (o : Object) (n : List ℕ) (t : Target) (ts : List Target) (b c : Bool) → sees t.id ≡ b → t.id == o.id ≡ c → sees o.id ≡ true
      → property_at (filter (λ (t : Target). sees t.id) ts) o n ≡ property_at ts o n
      → property_at (cond b (t ∷ filter (λ (t : Target). sees t.id) ts) (filter (λ (t : Target). sees t.id) ts)) o n ≡ cond c (property_named t.properties n) (property_at ts o n)
  property_cut_at o n t ts true c e q s r = λ i. cond (q i) (property_named t.properties n) (r i)
  property_cut_at o n t ts false false e q s r = r
  property_cut_at o n t ts false true e q s r = let clash : false ≡ true = sym e ∙ ap sees (eqb-true t.id o.id q) ∙ s in absurd cc

  property_cut : (o : Object) (n : List ℕ) (ts : List Target) → sees o.id ≡ true → property_at (cut_targets sees ts) o n ≡ property_at ts o n
  property_cut o n [] s = refl
  property_cut o n (t ∷ ts) s = property_cut_at o n t ts (sees t.id) (t.id == o.id) refl refl s (property_cut o n ts s)

  at_cut : (o : Object) (n : List ℕ) (ts : List Target) → property_at ts (cut sees o) n ≡ property_at ts o n
  at_cut o n [] = refl
  at_cut o n (t ∷ ts) = ap (cond (t.id == o.id) (property_named t.properties n)) (at_cut o n ts)

module _ (s : Schema) (os : List Object) (args : Args) (fits : Fits s os) where
  abbrev sees : ℕ → Bool
  sees = seen s os args

  abbrev view : List Object
  view = view_of s os args

  abbrev Shows : Val → Type 0
  Shows v = IsTrue (shows (seen s os args) v)

  abbrev cut_found : Option Object → Option Object
  cut_found None = None
  cut_found (Some o) = Some (cut (seen s os args) o)

  -- ---- an object that is seen stands in the view, cut

  look_found : (id : ℕ) (x : Option Object) → find os id ≡ x → is_shown s os args x ≡ true → find (view_of s os args) id ≡ cut_found x
  look_found id None e h = let clash : false ≡ true = h in absurd cc
  look_found id (Some o) e h = find_kept s (seen s os args) (shown s os args) os id o e h

  look : (v : Val) → Shows v → object_of (view_of s os args) v ≡ cut_found (object_of os v)
  unfolding each_object
  look (val.Obj id) h = look_found id (find os id) refl h
  look (val.Int z) h = refl
  look (val.Str z) h = refl
  look (val.Bool b) h = refl
  look (val.Id n) h = refl
  look (val.Tuple' _ vs) h = refl
  look (val.Array' _ vs) h = refl

  id_found : (xs : List Object) (id : ℕ) → IfThere (λ (o : Object). o.id ≡ id) (find xs id)
  id_found [] id = tt
  id_found (x ∷ xs) id = at (x.id == id) refl (id_found xs id)
    where
      at : (b : Bool) → x.id == id ≡ b → IfThere (λ (o : Object). o.id ≡ id) (find xs id) → IfThere (λ (o : Object). o.id ≡ id) (cond b (Some x) (find xs id))
      at true e r = eqb-true x.id id e
      at false e r = r

  seen_found : (id : ℕ) (x : Option Object) → IfThere (λ (o : Object). o.id ≡ id) x → sees id ≡ true → IfThere (λ (o : Object). sees o.id ≡ true) x
  seen_found id None e h = tt
  seen_found id (Some o) e h = ap (seen s os args) e ∙ h

  seen_there : (v : Val) → Shows v → IfThere (λ (o : Object). sees o.id ≡ true) (object_of os v)
  unfolding each_object
  seen_there (val.Obj id) h = seen_found id (find os id) (id_found os id) h
  seen_there (val.Int z) h = tt
  seen_there (val.Str z) h = tt
  seen_there (val.Bool b) h = tt
  seen_there (val.Id n) h = tt
  seen_there (val.Tuple' _ vs) h = tt
  seen_there (val.Array' _ vs) h = tt

  abbrev FitsOne : Object → Type 0
  FitsOne o = FitsObject s (λ info. info.card) os o

  there : (v : Val) → IfThere (λ (o : Object). FitsObject s (λ info. info.card) os o) (object_of os v)
  there v = object_fits s os fits v

  of_same_at : {X : Type 0} (f g : Object → List X) (x : Option Object) → IfThere (λ (o : Object). FitsObject s (λ info. info.card) os o) x → IfThere (λ (o : Object). sees o.id ≡ true) x
      → ((o : Object) → FitsObject s (λ info. info.card) os o → sees o.id ≡ true → f o ≡ g (cut (seen s os args) o)) → of_object x f ≡ of_object (cut_found x) g
  of_same_at f g None h r e = refl
  of_same_at f g (Some o) h r e = e o h r

  -- what is made of the object that a value is
  of_same : {X : Type 0} (f g : Object → List X) (v : Val) → Shows v → ((o : Object) → FitsObject s (λ info. info.card) os o → sees o.id ≡ true → f o ≡ g (cut (seen s os args) o)) → of_object (object_of os v) f ≡ of_object (object_of (view_of s os args) v) g
  of_same f g v h e = of_same_at f g (object_of os v) (there v) (seen_there v h) e ∙ ap (λ y. of_object y g) (sym (look v h))

  -- ---- properties

  property_same : (p : PtrId) (o : Object) → FitsObject s (λ info. info.card) os o → property s p o ≡ property s p (cut (seen s os args) o)
  property_same p o h = ap (cond (is_id s.pointers p) (made.Id o.id ∷ [])) (sym (values_cut s (seen s os args) o p h.in_order))

  properties_same : (p : PtrId) (xs : List (Item Val)) → EachValue Shows xs → Same Shows (properties s os p xs) (properties s (view_of s os args) p xs)
  properties_same p xs r =
      same_bind Shows Shows xs xs (λ v. all_of (of_object (object_of os v) (property s p))) (λ v. all_of (of_object (object_of (view_of s os args) v) (property s p))) (refl, r)
      (λ v q. (
        ap all_of (of_same (property s p) (property s p) v q (λ o h k. property_same p o h)),
        each_all_of Shows (of_object (object_of os v) (property s p))
            (stored.of_object_in (shows (seen s os args)) (shows_closed (seen s os args)) s os fits (object_of os v) (property s p) (stored.property_in (shows (seen s os args)) (shows_closed (seen s os args)) s os fits p) (there v)),
      ))

  -- ---- lists of objects

  kept_at : (f g : Object → Bool) (x : Object) (F K : List Object) (a b : Bool) → shown s os args x ≡ a → shows (seen s os args) (as_value x) ≡ a → f x ≡ b → (a ≡ true → f x ≡ g (cut (seen s os args) x))
      → filter (shows (seen s os args)) (map as_value F) ≡ map as_value (filter g (map (cut (seen s os args)) K))
      → filter (shows (seen s os args)) (map as_value (cond b (x ∷ F) F)) ≡ map as_value (filter g (map (cut (seen s os args)) (cond a (x ∷ K) K)))
  kept_at f g x F K true true e d q m r =
      ap (λ c. cond c (as_value x ∷ filter (shows (seen s os args)) (map as_value F)) (filter (shows (seen s os args)) (map as_value F))) d
      ∙ ap (λ l. as_value x ∷ l) r
      ∙ sym (ap (λ c. map as_value (cond c (cut (seen s os args) x ∷ filter g (map (cut (seen s os args)) K)) (filter g (map (cut (seen s os args)) K)))) (sym (m refl) ∙ q))
  kept_at f g x F K true false e d q m r =
      r ∙ sym (ap (λ c. map as_value (cond c (cut (seen s os args) x ∷ filter g (map (cut (seen s os args)) K)) (filter g (map (cut (seen s os args)) K)))) (sym (m refl) ∙ q))
  kept_at f g x F K false true e d q m r =
      ap (λ c. cond c (as_value x ∷ filter (shows (seen s os args)) (map as_value F)) (filter (shows (seen s os args)) (map as_value F))) d ∙ r
  kept_at f g x F K false false e d q m r = r

  sees_shown : (x : Object) → find os x.id ≡ Some x → seen s os args x.id ≡ shown s os args x
  sees_shown x e = ap (is_shown s os args) e

  kept_same : (f g : Object → Bool) (xs : List Object) → Each (λ (o : Object). find os o.id ≡ Some o) xs → fit.Each (FitsObject s (λ info. info.card) os) xs
      → ((o : Object) → FitsObject s (λ info. info.card) os o → sees o.id ≡ true → f o ≡ g (cut (seen s os args) o))
      → filter (shows (seen s os args)) (map as_value (filter f xs)) ≡ map as_value (filter g (map (cut (seen s os args)) (filter (shown s os args) xs)))
  kept_same f g [] h k m = refl
  kept_same f g (x ∷ xs) h k m =
      kept_at f g x (filter f xs) (filter (shown s os args) xs) (shown s os args x) (f x) refl (shows_object (seen s os args) x ∙ sees_shown x h.0) refl
      (λ e. m x k.0 (sees_shown x h.0 ∙ e)) (kept_same f g xs h.1 k.1 m)

  all_kept : (f g : Object → Bool) → ((o : Object) → FitsObject s (λ info. info.card) os o → sees o.id ≡ true → f o ≡ g (cut (seen s os args) o))
      → filter (shows (seen s os args)) (map as_value (filter f os)) ≡ map as_value (filter g (view_of s os args))
  all_kept f g m = kept_same f g os (found_self os fits.in_order) fits.each m

  -- ---- links

  target_same : (l : PtrId) (o : Object) (v : Val) → sees o.id ≡ true → Shows v → is_target os l o v ≡ is_target (view_of s os args) l (cut (seen s os args) o) v
  target_same l o v k h =
      let ts = of_object (object_of os v) (λ a. targets_at a l) in
      sym (any_cut (seen s os args) o ts k)
      ∙ ap (leads_to o) (cut_of (object_of os v) ∙ of_same (λ a. cut_targets (seen s os args) (targets_at a l)) (λ a. targets_at a l) v h (λ a fa q. sym (targets_cut s (seen s os args) a l fa.in_order)))
    where
      cut_of : (x : Option Object) → cut_targets (seen s os args) (of_object x (λ a. targets_at a l)) ≡ of_object x (λ a. cut_targets (seen s os args) (targets_at a l))
      cut_of None = refl
      cut_of (Some a) = refl

  source_at : (l : PtrId) (o : Object) (x : Option Object) → FitsObject s (λ info. info.card) os o → IfThere (λ (b : Object). sees b.id ≡ true) x → is_among_targets (targets_at o l) x ≡ is_among_targets (targets_at (cut (seen s os args) o) l) (cut_found x)
  source_at l o None h r = refl
  source_at l o (Some b) h r = sym (any_cut (seen s os args) b (targets_at o l) r) ∙ ap (leads_to b) (sym (targets_cut s (seen s os args) o l h.in_order))

  source_same : (l : PtrId) (o : Object) (v : Val) → FitsObject s (λ info. info.card) os o → Shows v → is_source os l o v ≡ is_source (view_of s os args) l (cut (seen s os args) o) v
  source_same l o v h r = source_at l o (object_of os v) h (seen_there v r) ∙ ap (is_among_targets (targets_at (cut (seen s os args) o) l)) (sym (look v r))

  links_same : (l : PtrId) (xs : List (Item Val)) → EachValue Shows xs → only_shown (seen s os args) (links os l xs) ≡ links (view_of s os args) l xs
  links_same l xs r =
      only_collect (seen s os args) (targets_among os l) (targets_among (view_of s os args) l) xs
      (all_kept (λ (o : Object). list_any (is_target os l o) (values xs)) (λ (o : Object). list_any (is_target (view_of s os args) l o) (values xs))
      (λ o h k. any_same (is_target os l o) (is_target (view_of s os args) l (cut (seen s os args) o)) Shows (values xs) (each_values Shows xs r) (λ v q. target_same l o v k q)))

  backs_same : (l : PtrId) (t : TypeId) (xs : List (Item Val)) → EachValue Shows xs → only_shown (seen s os args) (back_links s os l t xs) ≡ back_links s (view_of s os args) l t xs
  backs_same l t xs r =
      only_collect (seen s os args) (sources_among s os l t) (sources_among s (view_of s os args) l t) xs
      (all_kept (λ (o : Object). is_subtype s.types o.ty t && list_any (is_source os l o) (values xs)) (λ (o : Object). is_subtype s.types o.ty t && list_any (is_source (view_of s os args) l o) (values xs))
      (λ o h k. ap (λ b. is_subtype s.types o.ty t && b) (any_same (is_source os l o) (is_source (view_of s os args) l (cut (seen s os args) o)) Shows (values xs) (each_values Shows xs r) (λ v q. source_same l o v h q))))

  is_of_cut : (t : TypeId) (x : Option Object) → is_of s os t x ≡ is_of s (view_of s os args) t (cut_found x)
  is_of_cut t None = refl
  is_of_cut t (Some o) = refl

  narrowed_same : (t : TypeId) (xs : List (Item Val)) → EachValue Shows xs → Same Shows (narrowed s os t xs) (narrowed s (view_of s os args) t xs)
  narrowed_same t xs r =
      same_bind Shows Shows xs xs (λ v. cond (is_of_type s os t v) (one v) []) (λ v. cond (is_of_type s (view_of s os args) t v) (one v) []) (refl, r)
      (λ v q. (ap (λ b. cond b (one v) []) (is_of_cut t (object_of os v) ∙ ap (is_of s (view_of s os args) t) (sym (look v q))), at v (is_of_type s os t v) q))
    where
      at : (v : Val) (b : Bool) → Shows v → EachValue Shows (cond b (one v) [])
      at v true q = (q, tt)
      at v false q = tt

  link_property_same : (l : PtrId) (n : List ℕ) (x y : Val) → Shows x → Shows y → link_property os l n x y ≡ link_property (view_of s os args) l n x y
  link_property_same l n x y hx hy =
      of_same (λ a. of_object (object_of os y) (λ b. property_at (targets_at a l) b n)) (λ a. of_object (object_of (view_of s os args) y) (λ b. property_at (targets_at a l) b n)) x hx
      (λ a fa ka. of_same (λ b. property_at (targets_at a l) b n) (λ b. property_at (targets_at (cut (seen s os args) a) l) b n) y hy
      (λ b fb kb. sym (property_cut (seen s os args) b n (targets_at a l) kb) ∙ ap (λ ts. property_at ts b n) (sym (targets_cut s (seen s os args) a l fa.in_order)) ∙ sym (at_cut (seen s os args) b n (targets_at (cut (seen s os args) a) l))))

  -- ---- worlds

  abbrev ComputesSame : Computes → Computes → Type 0
  ComputesSame f g = (p : PtrId) (v : Val) → Shows v → Same Shows (f p v) (g p v)

  step_same : (f g : Computes) → ComputesSame f g → (t : Step) (xs : List (Item Val)) → EachValue Shows xs → Same Shows (guarded_step (seen s os args) s os args f t xs) (stepped s (view_of s os args) args g t xs)
  step_same f g h (step.Prop p) xs r = properties_same p xs r
  step_same f g h (step.Link p) xs r = (links_same p xs r, only_in (seen s os args) (links os p xs))
  step_same f g h (step.Comp p) xs r = same_bind Shows Shows xs xs (f p) (g p) (refl, r) (h p)
  step_same f g h (step.Back p t) xs r = (backs_same p t xs r, only_in (seen s os args) (back_links s os p t xs))
  step_same f g h (step.Is t) xs r = narrowed_same t xs r
  step_same f g h (step.LinkProp n) xs r = (refl, tt)
  step_same f g h (step.Dot n) xs r = (refl, tt)
  step_same f g h (step.BackDot n t) xs r = (refl, tt)

  module _ (params : Each (λ (a : Argument). IsTrue (shows (seen s os args) a.value)) args.params) (globals : Each (λ (a : Argument). IsTrue (shows (seen s os args) a.value)) args.globals) where
    agree : (f g : Computes) → ComputesSame f g → AgreeOn (shows (seen s os args)) anything (guarded_where (seen s os args) s os args f) (world_where s (view_of s os args) args g)
    agree f g h = record {
      extents = λ t a. (all_kept (λ (o : Object). is_subtype s.types o.ty t) (λ (o : Object). is_subtype s.types o.ty t) (λ o k q. refl), filter_in (seen s os args) (extent s os t));
      steps = λ t xs a r. step_same f g h t xs r;
      properties = λ l n x y a b p q. (link_property_same l n x y p q, stored.link_property_in (shows (seen s os args)) (shows_closed (seen s os args)) s os fits l n x y);
      params = λ n. (refl, stored.argument_in (shows (seen s os args)) (shows_closed (seen s os args)) s os fits args.params n params);
      globals = λ n. (refl, stored.argument_in (shows (seen s os args)) (shows_closed (seen s os args)) s os fits args.globals n globals);
    }

    for_same : (f g : Computes) → ComputesSame f g → (x : Carded) → Literals (shows (seen s os args)) x.typed.core.root.body → (v : Val) → Shows v → Same Shows (values_for (guarded_where (seen s os args) s os args f) x v) (values_for (world_where s (view_of s os args) args g) x v)
    for_same f g h x l v r =
        agreeing_worlds_give_the_same.same_values (shows (seen s os args)) anything (guarded_where (seen s os args) s os args f) (world_where s (view_of s os args) args g) (shows_closed (seen s os args)) (agree f g h) x.typed.core.root.body (asks_anything x.typed.core.root.body) l (name.Prefix (subject 0) ∷ []) (bound.One v ∷ []) (r, tt)

    knowing_same : (f g : Computes) (c : Computed) → ComputesSame f g → Literals (shows (seen s os args)) c.expr.typed.core.root.body → ComputesSame (guarded_knowing (seen s os args) s os args f c) (knowing s (view_of s os args) args g c)
    knowing_same f g c h l p v r = at (c.pointer.0 == p.0)
      where
        one_object : (x y : Option Object) → y ≡ cut_found x → Same Shows (of_object x (λ o. values_for (guarded_where (seen s os args) s os args f) c.expr v)) (of_object y (λ o. values_for (world_where s (view_of s os args) args g) c.expr v))
        one_object None y e = (ap (λ y. of_object y (λ o. values_for (world_where s (view_of s os args) args g) c.expr v)) (sym e), tt)
        one_object (Some o) y e = let k = for_same f g h c.expr l v r in (k.0 ∙ ap (λ y. of_object y (λ o. values_for (world_where s (view_of s os args) args g) c.expr v)) (sym e), k.1)

        at : (b : Bool) → Same Shows (cond b (of_object (object_of os v) (λ o. values_for (guarded_where (seen s os args) s os args f) c.expr v)) (f p v)) (cond b (of_object (object_of (view_of s os args) v) (λ o. values_for (world_where s (view_of s os args) args g) c.expr v)) (g p v))
        at true = one_object (object_of os v) (object_of (view_of s os args) v) (look v r)
        at false = h p v r

    computing_same : (cs : List Computed) (f g : Computes) → Each (λ (c : Computed). Literals (shows (seen s os args)) c.expr.typed.core.root.body) cs → ComputesSame f g → ComputesSame (fold (guarded_knowing (seen s os args) s os args) f cs) (fold (knowing s (view_of s os args) args) g cs)
    computing_same [] f g l h = h
    computing_same (c ∷ cs) f g l h = computing_same cs (guarded_knowing (seen s os args) s os args f c) (knowing s (view_of s os args) args g c) l.1 (knowing_same f g c h l.0)

    whole : Each (λ (c : Computed). Literals (shows (seen s os args)) c.expr.typed.core.root.body) s.computed → AgreeOn (shows (seen s os args)) anything (guarded s os args) (world_of s (view_of s os args) args)
    whole l =
        agree (guarded_computing (seen s os args) s os args s.computed) (computing s (view_of s os args) args s.computed) (computing_same s.computed (λ p v. []) (λ p v. []) l (λ p v r. (refl, tt)))

pub guards_give_the_view : GuardsGiveTheView
guards_give_the_view = record {
  same_items = λ s os args fits ps gs l x lx ns b a.
      (agreeing_worlds_give_the_same.same_items (shows (seen s os args)) anything (guarded s os args) (world_of s (view_of s os args) args) (shows_closed (seen s os args)) (whole s os args fits ps gs l) x (asks_anything x) lx ns b a).0;
}
