-- The objects of what a query gives are in the store.
use Rattle.std.proofs.Common.{◌≡◌, IsTrue, ◌==◌, ◌&&◌, Bool, true, false, cond, Option, Some, None, is_some, List, [], ◌∷◌, map, filter, fold, refl, ap}
use Rattle.std.proofs.lemmas.Bool.{eq-eqb}
use Rattle.std.specs.List.{list_any}
use Rattle.ev_value.specs.Item.{one, all_of, values, EachValue}
use Rattle.ev_value.specs.declared.args.Args.{Args}
use Rattle.ev_value.specs.declared.args.Argument.{Argument}
use Rattle.ev_value.specs.declared.item.Item.{Item}
use Rattle.ev_value.specs.declared.value.Val.{Val}
use Rattle.ev_value.proofs.Items.{each_bind}
use Rattle.core_ir.specs.declared.path.PtrId.{PtrId}
use Rattle.core_ir.specs.declared.path.Step.{Step}
use Rattle.core_ir.specs.declared.path.Step.TheVariants as step
use Rattle.core_ir.specs.declared.path.TypeId.{TypeId}
use Rattle.core_ir.specs.declared.phase.Carded.{Carded}
use Rattle.ev_schema.specs.declared.pointer.Computed.{Computed}
use Rattle.ev_schema.specs.declared.schema.Schema.{Schema}
use Rattle.ev_schema.specs.Types.{is_subtype}
use Rattle.db_store.specs.declared.object.Object.{Object}
use Rattle.db_store.specs.Fits.{Fits}
use Rattle.db_store.specs.Objects.{find, object_of, as_value}
use Rattle.eql_sem.specs.declared.binding.Bound.TheVariants as bound
use Rattle.eql_sem.specs.declared.binding.Name.TheVariants as name
use Rattle.core_ir.specs.Path.{subject}
use Rattle.eql_steps.specs.Steps.{of_object, is_target, targets_among, is_source, property, sources_among, is_of_type, narrowed}
use Rattle.eql_world.specs.StoreWorld.{Computes, values_for, stepped, world_where, knowing, computing, world_of}
use Rattle.eql_agree.specs.Kinds.{Each}
use Rattle.eql_agree.specs.Uniform.{anything, IsClosed, AgreeOn, Literals}
use Rattle.eql_agree.proofs.Lists.{each_all_of, each_collect}
use Rattle.eql_agree.proofs.Anything.{asks_anything}
use Rattle.eql_agree.proofs.OneKind.{agreeing_worlds_give_the_same}
use Rattle.store_agree.specs.EachObject.{each_object}
use Rattle.store_agree.specs.InStore.{is_in, ObjectsAreInTheStore}
use Rattle.store_agree.proofs.EachObject.{objects_closed}
use Rattle.store_agree.proofs.Scalars as stored
use Rattle.store_agree.proofs.Stored.{object_fits}

-- ---- a store and its objects

found_at : (b : Bool) (o : Object) (x : Option Object) → IsTrue (is_some x) → IsTrue (is_some (cond b (Some o) x))
found_at true o x h = refl
found_at false o x h = h

each_found_behind : (o : Object) (os : List Object) (xs : List Object) → Each (λ (x : Object). IsTrue (is_some (find os x.id))) xs → Each (λ (x : Object). IsTrue (is_some (find (o ∷ os) x.id))) xs
each_found_behind o os [] h = tt
each_found_behind o os (x ∷ xs) h = (found_at (o.id == x.id) o (find os x.id) h.0, each_found_behind o os xs h.1)

found_first : (o : Object) (x : Option Object) (b : Bool) → b ≡ true → IsTrue (is_some (cond b (Some o) x))
found_first o x b e = ap (λ c. is_some (cond c (Some o) x)) e

each_found : (os : List Object) → Each (λ (x : Object). IsTrue (is_some (find os x.id))) os
each_found [] = tt
each_found (o ∷ os) = (found_first o (find os o.id) (o.id == o.id) (eq-eqb o.id o.id refl), each_found_behind o os os (each_found os))

module _ (os : List Object) where
  abbrev In : Val → Type 0
  In v = IsTrue (is_in os v)

  closed : IsClosed (is_in os)
  closed = objects_closed (λ id. is_some (find os id))

  -- the objects of a store that pass a test
  kept_if : (b : Bool) (o : Object) (vs : List Object) → In (as_value o) → Each In (map as_value vs) → Each In (map as_value (cond b (o ∷ vs) vs))
  kept_if true o vs h r = (h, r)
  kept_if false o vs h r = r

  kept_in : (f : Object → Bool) (xs : List Object) → Each (λ (x : Object). IsTrue (is_some (find os x.id))) xs → Each In (map as_value (filter f xs))
  unfolding each_object
  kept_in f [] h = tt
  kept_in f (x ∷ xs) h = kept_if (f x) x (filter f xs) h.0 (kept_in f xs h.1)

  of_store : (f : Object → Bool) → Each In (map as_value (filter f os))
  of_store f = kept_in f os (each_found os)

  module _ (s : Schema) (fits : Fits s os) where
    -- ---- steps

    abbrev Ins : List (Item Val) → Type 0
    Ins xs = EachValue (λ v. IsTrue (is_in os v)) xs

    narrowed_in : (t : TypeId) (xs : List (Item Val)) → Ins xs → Ins (narrowed s os t xs)
    narrowed_in t xs h = each_bind In In xs (λ v. cond (is_of_type s os t v) (one v) []) h (λ v r. at v (is_of_type s os t v) r)
      where
        at : (v : Val) (b : Bool) → In v → EachValue In (cond b (one v) [])
        at v true r = (r, tt)
        at v false r = tt

    module _ (args : Args) (params : Each (λ (a : Argument). IsTrue (is_in os a.value)) args.params) (globals : Each (λ (a : Argument). IsTrue (is_in os a.value)) args.globals) where
      step_in : (f : Computes) → ((p : PtrId) (v : Val) → IsTrue (is_in os v) → Ins (f p v)) → (t : Step) (xs : List (Item Val)) → Ins xs → Ins (stepped s os args f t xs)
      step_in f h (step.Prop p) xs r = each_bind In In xs (λ v. all_of (of_object (object_of os v) (property s p))) r (λ v q. each_all_of In (of_object (object_of os v) (property s p)) (stored.of_object_in (is_in os) closed s os fits (object_of os v) (property s p) (stored.property_in (is_in os) closed s os fits p) (object_fits s os fits v)))
      step_in f h (step.Link p) xs r = each_collect In (λ vs. all_of (targets_among os p vs)) xs (each_all_of In (targets_among os p (values xs)) (of_store (λ (o : Object). list_any (is_target os p o) (values xs))))
      step_in f h (step.Comp p) xs r = each_bind In In xs (f p) r (h p)
      step_in f h (step.Back p t) xs r = each_collect In (λ vs. all_of (sources_among s os p t vs)) xs (each_all_of In (sources_among s os p t (values xs)) (of_store (λ (o : Object). is_subtype s.types o.ty t && list_any (is_source os p o) (values xs))))
      step_in f h (step.Is t) xs r = narrowed_in t xs r
      step_in f h (step.LinkProp n) xs r = tt
      step_in f h (step.Dot n) xs r = tt
      step_in f h (step.BackDot n t) xs r = tt

      agree : (f : Computes) → ((p : PtrId) (v : Val) → IsTrue (is_in os v) → Ins (f p v)) → AgreeOn (is_in os) anything (world_where s os args f) (world_where s os args f)
      agree f h = record {
        extents = λ x a. (refl, of_store (λ (o : Object). is_subtype s.types o.ty x));
        steps = λ t xs a r. (refl, step_in f h t xs r);
        properties = λ l n x y a b p q. (refl, stored.link_property_in (is_in os) closed s os fits l n x y);
        params = λ n. (refl, stored.argument_in (is_in os) closed s os fits args.params n params);
        globals = λ n. (refl, stored.argument_in (is_in os) closed s os fits args.globals n globals);
      }

      values_for_in : (f : Computes) → ((p : PtrId) (v : Val) → IsTrue (is_in os v) → Ins (f p v)) → (x : Carded) → Literals (is_in os) x.typed.core.root.body → (v : Val) → IsTrue (is_in os v) → Ins (values_for (world_where s os args f) x v)
      values_for_in f h x l v r =
          (agreeing_worlds_give_the_same.same_values (is_in os) anything (world_where s os args f) (world_where s os args f) closed (agree f h) x.typed.core.root.body (asks_anything x.typed.core.root.body) l (name.Prefix (subject 0) ∷ []) (bound.One v ∷ []) (r, tt)).1

      knowing_in : (f : Computes) (c : Computed) → ((p : PtrId) (v : Val) → IsTrue (is_in os v) → Ins (f p v)) → Literals (is_in os) c.expr.typed.core.root.body → (p : PtrId) (v : Val) → IsTrue (is_in os v) → Ins (knowing s os args f c p v)
      knowing_in f c h l p v r = at (c.pointer.0 == p.0)
        where
          there : (x : Option Object) → Ins (of_object x (λ o. values_for (world_where s os args f) c.expr v))
          there None = tt
          there (Some o) = values_for_in f h c.expr l v r

          at : (b : Bool) → Ins (cond b (of_object (object_of os v) (λ o. values_for (world_where s os args f) c.expr v)) (f p v))
          at true = there (object_of os v)
          at false = h p v r

      computing_in : (cs : List Computed) (f : Computes) → Each (λ (c : Computed). Literals (is_in os) c.expr.typed.core.root.body) cs → ((p : PtrId) (v : Val) → IsTrue (is_in os v) → Ins (f p v)) → (p : PtrId) (v : Val) → IsTrue (is_in os v) → Ins (fold (knowing s os args) f cs p v)
      computing_in [] f l h p v r = h p v r
      computing_in (c ∷ cs) f l h p v r = computing_in cs (knowing s os args f c) l.1 (knowing_in f c h l.0) p v r

      whole : Each (λ (c : Computed). Literals (is_in os) c.expr.typed.core.root.body) s.computed → AgreeOn (is_in os) anything (world_of s os args) (world_of s os args)
      whole l = agree (computing s os args s.computed) (computing_in s.computed (λ p v. []) l (λ p v r. tt))

pub objects_are_in_the_store : ObjectsAreInTheStore
objects_are_in_the_store = record {
  of_values = λ s os args fits ps gs l x lx ns b a.
      (agreeing_worlds_give_the_same.same_values (is_in os) anything (world_of s os args) (world_of s os args) (closed os) (whole os s fits args ps gs l) x (asks_anything x) lx ns b a).1;
  of_items = λ s os args fits ps gs l x lx ns b a.
      (agreeing_worlds_give_the_same.same_items (is_in os) anything (world_of s os args) (world_of s os args) (closed os) (whole os s fits args ps gs l) x (asks_anything x) lx ns b a).1;
}
