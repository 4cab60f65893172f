-- No operator leads out of the values whose objects pass a test.
use Rattle.std.proofs.Common.{IsTrue, ℕ, Bool, List, [], ◌∷◌, refl}
use Rattle.ev_value.specs.declared.value.Val.{Val, Row_of-Val, end_of-Val, more_of-Val}
use Rattle.ev_value.specs.declared.value.Val as val
use Rattle.ev_value.specs.declared.value.Val.TheBlock as vals
use denote.Hole.Carrier as carrier
use Rattle.eql_sem.specs.Operations.{values_in_row, elements_of}
use Rattle.eql_agree.specs.Kinds.{Each, components_of}
use Rattle.eql_agree.specs.Uniform.{IsArray, IsClosed}
use Rattle.store_agree.specs.EachObject.{each_object, each_object_of}
use Rattle.store_agree.proofs.Truths.{first_true, second_true, two_true}

module _ (p : ℕ → Bool) where
  abbrev In : Val → Type 0
  In v = IsTrue (each_object p v)

  made_row : (vs : List Val) → Each In vs → IsTrue (each_object_of p (vals.hidden-the_row-Val-0 vs))
  unfolding each_object carrier.hidden vals.hidden-the_row-Val-0
  made_row [] h = refl
  made_row (v ∷ vs) h = two_true (each_object p v) (each_object_of p (vals.hidden-the_row-Val-0 vs)) h.0 (made_row vs h.1)

  into_row : {m : _} (vs : Row_of-Val m) → Each In (values_in_row vs) → IsTrue (each_object_of p vs)
  unfolding each_object
  into_row end_of-Val h = refl
  into_row (more_of-Val v vs) h = two_true (each_object p v) (each_object_of p vs) h.0 (into_row vs h.1)

  out_of_row : {m : _} (vs : Row_of-Val m) → IsTrue (each_object_of p vs) → Each In (values_in_row vs)
  unfolding each_object
  out_of_row end_of-Val h = tt
  out_of_row (more_of-Val v vs) h = (first_true (each_object p v) (each_object_of p vs) h, out_of_row vs (second_true (each_object p v) (each_object_of p vs) h))

  components_in : (v : Val) → In v → Each In (components_of v)
  unfolding each_object components_of
  components_in (val.Tuple' _ vs) h = out_of_row vs h
  components_in (val.Int z) h = tt
  components_in (val.Str s) h = tt
  components_in (val.Bool b) h = tt
  components_in (val.Id n) h = tt
  components_in (val.Obj n) h = tt
  components_in (val.Array' _ vs) h = tt

  elements_in : (v : Val) → In v → Each In (elements_of v)
  unfolding each_object elements_of
  elements_in (val.Array' _ vs) h = out_of_row vs h
  elements_in (val.Int z) h = tt
  elements_in (val.Str s) h = tt
  elements_in (val.Bool b) h = tt
  elements_in (val.Id n) h = tt
  elements_in (val.Obj n) h = tt
  elements_in (val.Tuple' _ vs) h = tt

  array_in : (v : Val) → IsArray v → Each In (elements_of v) → In v
  unfolding each_object elements_of
  array_in (val.Array' _ vs) a h = into_row vs h
  array_in (val.Int z) a h = absurd a
  array_in (val.Str s) a h = absurd a
  array_in (val.Bool b) a h = absurd a
  array_in (val.Id n) a h = absurd a
  array_in (val.Obj n) a h = absurd a
  array_in (val.Tuple' _ vs) a h = absurd a

  pub objects_closed : IsClosed (each_object p)
  unfolding each_object
  objects_closed = record {
    ints = λ z. refl;
    texts = λ s. refl;
    truths = λ b. refl;
    ids = λ n. refl;
    tuples = λ vs h. made_row vs h;
    components = λ v h. components_in v h;
    arrays = λ v a h. array_in v a h;
    elements = λ v h. elements_in v h;
  }
