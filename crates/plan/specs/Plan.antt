-- What a rule asks of a form: its parts, from left to right, and then what it says itself.
use Rattle.std.specs.Prelude.{◌≡◌, ◌⊎◌}

-- a result, or a failure: which rule fails, and where
pub data Told (R A : Type 0) : Type 0 where
  Given : A → Told R A
  Refused : R → Told R A

pub data Plan : Type 0 → Type 0 → Type 1 where
  Says : {R A : Type 0} → Told R A → Plan R A
  Part : {R A B : Type 0} → Plan R B → (B → Plan R A) → Plan R A

-- its parts have derivations, and it has this one
abbrev pub Derives : {R A : Type 0} → Plan R A → A → Type 0
Derives (Says t) a = t ≡ Given a
Derives (Part {B = B} p k) a = (b : B) × Derives p b × Derives (k b) a

-- the first failure: in a part where those before it have derivations, or at the whole where all parts have
abbrev pub Fails : {R A : Type 0} → Plan R A → R → Type 0
Fails (Says t) r = t ≡ Refused r
Fails (Part {B = B} p k) r = Fails p r ⊎ ((b : B) × Derives p b × Fails (k b) r)

abbrev pub and_then : {R A B : Type 0} → Told R B → (B → Told R A) → Told R A
and_then (Given b) f = f b
and_then (Refused r) f = Refused r

-- what the rules tell
abbrev pub tells : {R A : Type 0} → Plan R A → Told R A
tells (Says t) = t
tells (Part p k) = and_then (tells p) (λ b. tells (k b))
