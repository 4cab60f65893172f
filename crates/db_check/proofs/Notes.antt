-- Who holds a value once a map has a key more.
use Rattle.std.proofs.Common.{◌≡◌, ℕ, Bool, true, false, ◌&&◌, ◌==◌, cond, Option, Some, None, refl, sym, ap, ◌∙◌}
use Rattle.std.proofs.lemmas.Bool.{eqb-true}
use Rattle.std.specs.Cmp.{unsigned_ties}
use Rattle.std.specs.Ordering.{nat_cmp, is_eq, ordering_then}
use Rattle.std.specs.declared.cmp.Ordering.{Ordering}
use Rattle.std.specs.declared.cmp.Ordering.TheVariants.{Less, Equal, Greater}
use Rattle.core_ir.specs.declared.path.PtrId.{PtrId}
use Rattle.ev_list.specs.Sames.{val_exact}
use Rattle.ev_value.specs.Order.{val_cmp}
use Rattle.ev_value.specs.declared.value.Val.{Val}
use Rattle.db_draft.specs.First.{or_else, when}
use Rattle.db_store.specs.Limits.{same}
use Rattle.db_check.specs.Exclusive.{Holding, held_too}
use Rattle.db_check.specs.Holders.{key_cmp}

is_eq_then : (o r : Ordering) → is_eq (ordering_then o r) ≡ (is_eq o && is_eq r)
is_eq_then Less r = refl
is_eq_then Equal r = refl
is_eq_then Greater r = refl

-- keys compare equal where their pointers and their values do
pub key_test : (p q : ℕ) (v w : Val) → is_eq (key_cmp (record { pointer = p; value = v }) (record { pointer = q; value = w })) ≡ (p == q && same v w)
key_test p q v w = is_eq_then (nat_cmp p q) (val_cmp v w) ∙ ap (λ b. b && same v w) (sym (unsigned_ties p q))

and_both : (a b : Bool) → (a && b) ≡ true → (a ≡ true) × (b ≡ true)
and_both true b h = (refl, h)
and_both false b h = cc

or_none : (o : Option ℕ) → or_else o None ≡ o
or_none None = refl
or_none (Some n) = refl

or_some : (o : Option ℕ) (m : ℕ) (later : Option ℕ) → o ≡ Some m → or_else o later ≡ o
or_some None m later e = cc
or_some (Some n) m later e = refl

-- what is the same is held by the same
held_alike : (held : Holding) (p q : PtrId) (v w : Val) → (p.0 == q.0 && same v w) ≡ true → held q w ≡ held p v
held_alike held p q v w h =
    let both : (p.0 == q.0) ≡ true × (same v w ≡ true) = and_both (p.0 == q.0) (same v w) h in
    let pointers : p.0 ≡ q.0 = eqb-true p.0 q.0 both.0 in
    let values : v ≡ w = (val_exact v w).0 both.1 in
    sym (λ i. held (record { 0 = pointers i }) (values i))

-- where a value is held, nobody else comes to hold it
pub held_there : (held : Holding) (p : PtrId) (v : Val) (n m : ℕ) → held p v ≡ Some m → held ≡ held_too held p v n
held_there held p v n m h = λ i q w. at_key q w (p.0 == q.0 && same v w) refl i
  where
    at_key : (q : PtrId) (w : Val) (b : Bool) → (p.0 == q.0 && same v w) ≡ b → held q w ≡ or_else (held q w) (when b n)
    at_key q w true e = sym (or_some (held q w) m (Some n) (held_alike held p q v w e ∙ h))
    at_key q w false e = sym (or_none (held q w))

-- where nobody holds it, the new one does
pub held_new : (old new : Holding) (p : PtrId) (v : Val) (n : ℕ) → old p v ≡ None → ((q : PtrId) (w : Val) → new q w ≡ cond (p.0 == q.0 && same v w) (Some n) (old q w)) → new ≡ held_too old p v n
held_new old new p v n h put = λ i q w. at_key q w (p.0 == q.0 && same v w) refl (put q w) i
  where
    at_key : (q : PtrId) (w : Val) (b : Bool) → (p.0 == q.0 && same v w) ≡ b → new q w ≡ cond b (Some n) (old q w) → new q w ≡ or_else (old q w) (when b n)
    at_key q w true e got = got ∙ sym (ap (λ o. or_else o (Some n)) (held_alike old p q v w e ∙ h))
    at_key q w false e got = got ∙ sym (or_none (old q w))
