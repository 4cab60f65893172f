-- The places that a link leads to, and those that lead to some objects.
use Rattle.std.proofs.Common.{◌≡◌, ℕ, ◌==◌, Bool, true, List, Option, Some, None, nat_eq, sym, ap, ◌∙◌, arith}
use Rattle.std.specs.List.{list_any}
use Rattle.ev_value.specs.declared.value.Val.{Val}
use Rattle.core_ir.specs.declared.path.PtrId.{PtrId}
use Rattle.core_ir.specs.declared.path.TypeId.{TypeId}
use Rattle.db_store.specs.declared.object.Object.{Object}
use Rattle.db_store.specs.declared.object.Target.{Target}
use Rattle.db_store.specs.Objects.{object_of, targets_at}
use Rattle.ev_schema.specs.declared.schema.Schema.{Schema}
use Rattle.ev_schema.specs.Types.{is_subtype}
use Rattle.eql_steps.specs.Index.{placed, places_where, sourced, by_link, target_places, led_places, led_places_of, source_places, source_places_of, kept_at}
use Rattle.eql_steps.specs.Steps.{of_object, leads_to, is_among_targets, is_target, is_source, targets_among, sources_among}
use Rattle.eql_steps.proofs.Members.{any_at, any_none, any_exchanged, any_flat, in_places, Rising, places_rise, same_numbers}
use Rattle.eql_steps.proofs.Placed.{kept_where}
use Rattle.eql_steps.proofs.Sources.{in_sourced}

eqb_flips : (a b : ℕ) → (a == b) ≡ (b == a)
eqb_flips a b = grind arith

-- ---- targets

in_targets : (os : List Object) (ts : List Target) (i : ℕ) → list_any (nat_eq i) (target_places os ts) ≡ any_at 0 os i (λ (o : Object). leads_to o ts)
in_targets os ts i =
    any_flat (nat_eq i) (λ (t : Target). placed os t.id) ts
    ∙ (λ j. list_any (λ (t : Target). in_places (λ (o : Object). o.id == t.id) 0 os i j) ts)
    ∙ any_exchanged 0 os i (λ (t : Target) (o : Object). o.id == t.id) ts
    ∙ (λ j. any_at 0 os i (λ (o : Object). list_any (λ (t : Target). eqb_flips o.id t.id j) ts))

in_led : (os : List Object) (link : PtrId) (vs : List Val) (i : ℕ) → list_any (nat_eq i) (led_places_of os link vs) ≡ any_at 0 os i (λ (o : Object). list_any (is_target os link o) vs)
in_led os link vs i =
    any_flat (nat_eq i) (led_places os link) vs
    ∙ (λ j. list_any (λ v. in_targets os (of_object (object_of os v) (λ source. targets_at source link)) i j) vs)
    ∙ any_exchanged 0 os i (λ (v : Val) (o : Object). is_target os link o v) vs

-- ---- sources

in_source : (os : List Object) (link : PtrId) (found : Option Object) (i : ℕ)
    → list_any (nat_eq i) (of_object found (λ o. by_link link (sourced os o.id))) ≡ any_at 0 os i (λ (o : Object). is_among_targets (targets_at o link) found)
in_source os link None i = sym (any_none 0 os i)
in_source os link (Some o) i = in_sourced os link o.id i

in_sources : (os : List Object) (link : PtrId) (vs : List Val) (i : ℕ) → list_any (nat_eq i) (source_places_of os link vs) ≡ any_at 0 os i (λ (o : Object). list_any (is_source os link o) vs)
in_sources os link vs i =
    any_flat (nat_eq i) (source_places os link) vs
    ∙ (λ j. list_any (λ v. in_source os link (object_of os v) i j) vs)
    ∙ any_exchanged 0 os i (λ (v : Val) (o : Object). is_source os link o v) vs

-- ---- objects at places that rise, each once

-- Places that rise, with exactly those of the objects that pass a test, are the places of the objects that pass it.
places_told : (os : List Object) (test : Object → Bool) (ks : List ℕ) → Rising 0 ks → ((i : ℕ) → list_any (nat_eq i) ks ≡ any_at 0 os i test) → ks ≡ places_where test 0 os
places_told os test ks up same = same_numbers 0 ks (places_where test 0 os) up (places_rise test 0 os) (λ i. same i ∙ sym (in_places test 0 os i))

pub targets_told : (os : List Object) (link : PtrId) (vs : List Val) (ks : List ℕ) → Rising 0 ks → ((i : ℕ) → list_any (nat_eq i) ks ≡ list_any (nat_eq i) (led_places_of os link vs))
    → kept_at (λ (o : Object). true) os ks ≡ targets_among os link vs
targets_told os link vs ks up same =
    let test : Object → Bool = λ (o : Object). list_any (is_target os link o) vs in
    ap (kept_at (λ (o : Object). true) os) (places_told os test ks up (λ i. same i ∙ in_led os link vs i))
    ∙ kept_where (λ (o : Object). true) test os

pub sources_told : (s : Schema) (os : List Object) (link : PtrId) (t : TypeId) (vs : List Val) (ks : List ℕ) → Rising 0 ks → ((i : ℕ) → list_any (nat_eq i) ks ≡ list_any (nat_eq i) (source_places_of os link vs))
    → kept_at (λ (o : Object). is_subtype s.types o.ty t) os ks ≡ sources_among s os link t vs
sources_told s os link t vs ks up same =
    let test : Object → Bool = λ (o : Object). list_any (is_source os link o) vs in
    ap (kept_at (λ (o : Object). is_subtype s.types o.ty t) os) (places_told os test ks up (λ i. same i ∙ in_sources os link vs i))
    ∙ kept_where (λ (o : Object). is_subtype s.types o.ty t) test os
