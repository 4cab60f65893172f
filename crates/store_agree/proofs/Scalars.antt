-- What is stored as scalars is in each set of values that no operator leads out of.
use Rattle.std.proofs.Common.{◌≡◌, IsTrue, ℕ, ◌==◌, Bool, true, false, cond, Option, Some, None, List, [], ◌∷◌}
use Rattle.std.specs.Str.{bytes_eq}
use Rattle.ev_value.specs.declared.args.Argument.{Argument}
use Rattle.ev_value.specs.declared.value.ScalarTy.{ScalarTy}
use Rattle.ev_value.specs.declared.value.ScalarTy.TheVariants as scalar
use Rattle.ev_value.specs.declared.value.Val.{Val, Row_of-Val, end_of-Val, more_of-Val}
use Rattle.ev_value.specs.declared.value.Val as val
use Rattle.ev_value.specs.declared.value.Val.TheVariants as made
use Rattle.core_ir.specs.declared.path.PtrId.{PtrId}
use Rattle.core_ir.specs.declared.path.TypeId.{TypeId}
use Rattle.core_ir.specs.declared.ty.Ty.{Ty}
use Rattle.core_ir.specs.declared.ty.Ty as ty
use Rattle.ev_schema.specs.declared.pointer.LinkProperty.{LinkProperty}
use Rattle.ev_schema.specs.declared.pointer.PtrInfo.{PtrInfo}
use Rattle.ev_schema.specs.declared.schema.Schema.{Schema}
use Rattle.ev_schema.specs.Pointers.{is_id}
use Rattle.db_store.specs.declared.object.LinkValue.{LinkValue}
use Rattle.db_store.specs.declared.object.Object.{Object}
use Rattle.db_store.specs.declared.object.PtrValue.{PtrValue}
use Rattle.db_store.specs.declared.object.PtrValue.TheVariants as value
use Rattle.db_store.specs.declared.object.Target.{Target}
use Rattle.db_store.specs.Fits as fit
use Rattle.db_store.specs.Fits.{Fits, FitsObject, FitsValue, FitsTarget, FitsProperty}
use Rattle.db_store.specs.Limits.{has_type, have_type, is_array_of}
use Rattle.db_store.specs.Objects.{object_of, entry, values_if_stored, targets_if_stored, values_at, targets_at}
use Rattle.eql_steps.specs.Steps.{of_object, property_named, property_at, argument_named, link_property, property}
use Rattle.eql_agree.specs.Kinds.{Each}
use Rattle.eql_agree.specs.Agreeing.{IfThere}
use Rattle.eql_agree.specs.Uniform.{IsClosed}
use Rattle.eql_sem.specs.Operations.{values_in_row, elements_of}
use Rattle.store_agree.proofs.Stored.{object_fits, Stored, entry_fits}
use Rattle.store_agree.proofs.Truths.{first_true, second_true}

module _ (p : Val → Bool) (c : IsClosed p) where
  abbrev In : Val → Type 0
  In v = IsTrue (p v)

  typed_in : (t : ScalarTy) (v : Val) → has_type t v ≡ true → In v
  typed_in t (val.Int z) h = c.ints z
  typed_in t (val.Str s) h = c.texts s
  typed_in t (val.Bool b) h = c.truths b
  typed_in t (val.Id n) h = c.ids n
  typed_in scalar.Int64 (val.Obj n) h = let clash : false ≡ true = h in absurd cc
  typed_in scalar.Int64 (val.Tuple' _ vs) h = let clash : false ≡ true = h in absurd cc
  typed_in scalar.Int64 (val.Array' _ vs) h = let clash : false ≡ true = h in absurd cc
  typed_in scalar.Str (val.Obj n) h = let clash : false ≡ true = h in absurd cc
  typed_in scalar.Str (val.Tuple' _ vs) h = let clash : false ≡ true = h in absurd cc
  typed_in scalar.Str (val.Array' _ vs) h = let clash : false ≡ true = h in absurd cc
  typed_in scalar.Bool (val.Obj n) h = let clash : false ≡ true = h in absurd cc
  typed_in scalar.Bool (val.Tuple' _ vs) h = let clash : false ≡ true = h in absurd cc
  typed_in scalar.Bool (val.Array' _ vs) h = let clash : false ≡ true = h in absurd cc
  typed_in scalar.Uuid (val.Obj n) h = let clash : false ≡ true = h in absurd cc
  typed_in scalar.Uuid (val.Tuple' _ vs) h = let clash : false ≡ true = h in absurd cc
  typed_in scalar.Uuid (val.Array' _ vs) h = let clash : false ≡ true = h in absurd cc

  row_in : {n : _} (t : ScalarTy) (vs : Row_of-Val n) → have_type t vs ≡ true → Each In (values_in_row vs)
  row_in t end_of-Val h = tt
  row_in t (more_of-Val v vs) h = (typed_in t v (first_true (has_type t v) (have_type t vs) h), row_in t vs (second_true (has_type t v) (have_type t vs) h))

  array_in : (t : ScalarTy) (v : Val) → is_array_of t v ≡ true → In v
  unfolding elements_of
  array_in t (val.Array' n vs) h = c.arrays (val.Array' n vs) tt (row_in t vs h)
  array_in t (val.Int z) h = let clash : false ≡ true = h in absurd cc
  array_in t (val.Str z) h = let clash : false ≡ true = h in absurd cc
  array_in t (val.Bool b) h = let clash : false ≡ true = h in absurd cc
  array_in t (val.Id n) h = let clash : false ≡ true = h in absurd cc
  array_in t (val.Obj n) h = let clash : false ≡ true = h in absurd cc
  array_in t (val.Tuple' _ vs) h = let clash : false ≡ true = h in absurd cc

  id_in : (o : Object) → In (made.Id o.id)
  id_in o = c.ids o.id

  module _ (s : Schema) (os : List Object) (fits : Fits s os) where
    values_typed : (info : PtrInfo) (t : ScalarTy) (vs : List Val) → FitsValue s os info (ty.Scalar t) (value.Vals vs) → Each In vs
    values_typed info t [] h = tt
    values_typed info t (v ∷ vs) h = (typed_in t v h.0.0, values_typed info t vs h.1)

    arrays_typed : (info : PtrInfo) (t : ScalarTy) (vs : List Val) → FitsValue s os info (ty.Array t) (value.Vals vs) → Each In vs
    arrays_typed info t [] h = tt
    arrays_typed info t (v ∷ vs) h = (array_in t v h.0.0, arrays_typed info t vs h.1)

    stored_in : (p : PtrId) (x : Option PtrValue) → IfThere (Stored s os p) x → Each In (values_if_stored x)
    stored_in p None h = tt
    stored_in p (Some (value.Links ts)) h = tt
    stored_in p (Some (value.Vals vs)) h = by_type h.1 h.4
      where
        by_type : (u : Ty) → FitsValue s os h.0 u (value.Vals vs) → Each In vs
        by_type (ty.Scalar t) r = values_typed h.0 t vs r
        by_type (ty.Array t) r = arrays_typed h.0 t vs r
        by_type (ty.Object t) r = absurd r
        by_type (ty.Tuple' _ us) r = absurd r

    pub property_in : (p : PtrId) (o : Object) → FitsObject s (λ info. info.card) os o → Each In (property s p o)
    property_in p o h = by_id (is_id s.pointers p)
      where
        by_id : (b : Bool) → Each In (cond b (made.Id o.id ∷ []) (values_at o p))
        by_id true = (id_in o, tt)
        by_id false = stored_in p (entry o.values p) (entry_fits s os o.ty o.values p h.entries)

    pub of_object_in : (x : Option Object) (f : Object → List Val) → ((o : Object) → FitsObject s (λ info. info.card) os o → Each In (f o)) → IfThere (FitsObject s (λ info. info.card) os) x → Each In (of_object x f)
    of_object_in None f h r = tt
    of_object_in (Some o) f h r = h o r

    -- a property of a link

    named_in : (declared : List LinkProperty) (ps : List LinkValue) (n : List ℕ) → fit.Each (FitsProperty s declared) ps → Each In (property_named ps n)
    named_in declared [] n h = tt
    named_in declared (v ∷ ps) n h = at (bytes_eq v.name n) (named_in declared ps n h.1)
      where
        at : (b : Bool) → Each In (property_named ps n) → Each In (cond b (v.value ∷ []) (property_named ps n))
        at true r = (typed_in h.0.0.ty v.value h.0.3, tt)
        at false r = r

    at_target_in : (info : PtrInfo) (t : TypeId) (ts : List Target) (o : Object) (n : List ℕ) → fit.Each (FitsTarget s os info t) ts → Each In (property_at ts o n)
    at_target_in info t [] o n h = tt
    at_target_in info t (x ∷ ts) o n h = at (x.id == o.id) (at_target_in info t ts o n h.1)
      where
        at : (b : Bool) → Each In (property_at ts o n) → Each In (cond b (property_named x.properties n) (property_at ts o n))
        at true r = named_in info.link_props x.properties n h.0.2
        at false r = r

    targets_stored : (l : PtrId) (x : Option PtrValue) (o : Object) (n : List ℕ) → IfThere (Stored s os l) x → Each In (property_at (targets_if_stored x) o n)
    targets_stored l None o n h = tt
    targets_stored l (Some (value.Vals vs)) o n h = tt
    targets_stored l (Some (value.Links ts)) o n h = by_type h.1 h.4
      where
        by_type : (u : Ty) → FitsValue s os h.0 u (value.Links ts) → Each In (property_at ts o n)
        by_type (ty.Scalar t) r = absurd r
        by_type (ty.Object t) r = at_target_in h.0 t ts o n r.1
        by_type (ty.Array t) r = absurd r
        by_type (ty.Tuple' _ us) r = absurd r

    pub link_property_in : (l : PtrId) (n : List ℕ) (x y : Val) → Each In (link_property os l n x y)
    link_property_in l n x y =
        of_object_in (object_of os x) (λ a. of_object (object_of os y) (λ b. property_at (targets_at a l) b n))
        (λ a fa. of_object_in (object_of os y) (λ b. property_at (targets_at a l) b n) (λ b fb. targets_stored l (entry a.values l) b n (entry_fits s os a.ty a.values l fa.entries)) (object_fits s os fits y)) (object_fits s os fits x)

    pub argument_in : (as' : List Argument) (n : List ℕ) → Each (λ (a : Argument). IsTrue (p a.value)) as' → IfThere In (argument_named as' n)
    argument_in [] n h = tt
    argument_in (a ∷ as') n h = at (bytes_eq a.name n) (argument_in as' n h.1)
      where
        at : (b : Bool) → IfThere In (argument_named as' n) → IfThere In (cond b (Some a.value) (argument_named as' n))
        at true r = h.0
        at false r = r
