-- What the rules tell is what has a derivation, or the first failure.
use Rattle.std.proofs.Common.{◌≡◌, ◌⊎◌, inl, inr, refl, sym, ap, ◌∙◌, subst}
use Rattle.plan.specs.Plan.{Told, Given, Refused, Plan, Says, Part, Derives, Fails, and_then, tells}
use Rattle.plan.specs.Laws.{Decides, HasOneResult, HasOneFailure, FailsAlone}

pub told_given : {R A : Type 0} (p : Plan R A) (a : A) → Derives p a → tells p ≡ Given a
told_given (Says t) a h = h
told_given (Part p k) a (b, first, then) = ap (λ t. and_then t (λ b. tells (k b))) (told_given p b first) ∙ told_given (k b) a then

pub told_refused : {R A : Type 0} (p : Plan R A) (r : R) → Fails p r → tells p ≡ Refused r
told_refused (Says t) r h = h
told_refused (Part p k) r (inl h) = ap (λ t. and_then t (λ b. tells (k b))) (told_refused p r h)
told_refused (Part p k) r (inr (b, first, then)) =
    ap (λ t. and_then t (λ b. tells (k b))) (told_given p b first) ∙ told_refused (k b) r then

pub data Outcome {R A : Type 0} (p : Plan R A) : Type 0 where
  holds : (a : A) → Derives p a → tells p ≡ Given a → Outcome p
  fails : (r : R) → Fails p r → tells p ≡ Refused r → Outcome p

of_told : {R A : Type 0} (t : Told R A) → Outcome (Says t)
of_told (Given a) = holds a refl refl
of_told (Refused r) = fails r refl refl

rest_outcome : {R A B : Type 0} (p : Plan R B) (k : B → Plan R A) (b : B) → Derives p b → Outcome (k b) → Outcome (Part p k)
rest_outcome p k b d (holds a d' e) = holds a (b, d, d') (told_given (Part p k) a (b, d, d'))
rest_outcome p k b d (fails r f e) = fails r (inr (b, d, f)) (told_refused (Part p k) r (inr (b, d, f)))

part_outcome : {R A B : Type 0} (p : Plan R B) (k : B → Plan R A) → Outcome p → ((b : B) → Outcome (k b)) → Outcome (Part p k)
part_outcome p k (holds b d e) each = rest_outcome p k b d (each b)
part_outcome p k (fails r f e) each = fails r (inl f) (told_refused (Part p k) r (inl f))

-- each plan has a derivation or a first failure
pub outcome : {R A : Type 0} (p : Plan R A) → Outcome p
outcome (Says t) = of_told t
outcome (Part p k) = part_outcome p k (outcome p) (λ b. outcome (k b))

abbrev value_or : {R A : Type 0} → A → Told R A → A
value_or a (Given b) = b
value_or a (Refused r) = a

same_given : {R A : Type 0} (a b : A) (t : Told R A) → t ≡ Given a → t ≡ Given b → a ≡ b
same_given a b t x y = ap (value_or a) (sym x ∙ y)

abbrev is_given : {R A : Type 0} → Told R A → Type 0
is_given (Given a) = Unit {0}
is_given (Refused r) = ⊥

apart : {R A : Type 0} (a : A) (r : R) (t : Told R A) → t ≡ Given a → t ≡ Refused r → ⊥
apart a r t x y = subst is_given (sym x ∙ y) tt

-- at most one derivation's result
pub one_result : HasOneResult
one_result R A p a b x y = same_given a b (tells p) (told_given p a x) (told_given p b y)

given_from : {R A : Type 0} (p : Plan R A) (a : A) → tells p ≡ Given a → Outcome p → Derives p a
given_from p a e (holds b d e') = subst (Derives p) (same_given b a (tells p) e' e) d
given_from p a e (fails r f e') = absurd (apart a r (tells p) e e')

-- what the rules give has a derivation
pub given_derives : {R A : Type 0} (p : Plan R A) (a : A) → tells p ≡ Given a → Derives p a
given_derives p a e = given_from p a e (outcome p)

abbrev failure_or : {R A : Type 0} → R → Told R A → R
failure_or d (Given a) = d
failure_or d (Refused r) = r

same_refused : {R A : Type 0} (r q : R) (t : Told R A) → t ≡ Refused r → t ≡ Refused q → r ≡ q
same_refused r q t x y = ap (failure_or r) (sym x ∙ y)

-- there is at most one first failure
pub one_failure : HasOneFailure
one_failure R A p r q x y = same_refused r q (tells p) (told_refused p r x) (told_refused p q y)

refused_from : {R A : Type 0} (p : Plan R A) (r : R) → tells p ≡ Refused r → Outcome p → Fails p r
refused_from p r e (holds b d e') = absurd (apart b r (tells p) e' e)
refused_from p r e (fails q f e') = subst (Fails p) (same_refused q r (tells p) e' e) f

-- what the rules refuse is the first failure
pub refused_fails : {R A : Type 0} (p : Plan R A) (r : R) → tells p ≡ Refused r → Fails p r
refused_fails p r e = refused_from p r e (outcome p)

-- what fails has no derivation
pub fails_alone : FailsAlone
fails_alone R A p r a f d = apart a r (tells p) (told_given p a d) (told_refused p r f)

decided : {R A : Type 0} (p : Plan R A) → Outcome p → ((a : A) × Derives p a) ⊎ ((r : R) × Fails p r)
decided p (holds a d e) = inl (a, d)
decided p (fails r f e) = inr (r, f)

-- each plan has a derivation or a first failure
pub decides : Decides
decides R A p = decided p (outcome p)
