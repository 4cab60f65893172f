-- Readers are eager: where a text would be read to its end, and more tokens stand behind it, the same is read or the reader goes on
-- with the next token. So no reader stops unexpected right behind a text that it reads. This speaks of readers alone, and of no language.
use Rattle.std.proofs.Common.{◌≡◌, ℕ, zero, suc, ◌≤◌, ◌<◌, Bool, true, false, cond, ◌||◌, List, [], ◌∷◌, ◌++◌, length, Option, Some, None, refl, sym, ap, subst, ◌∙◌, append_assoc, arith, inl, inr, ◌⊎◌}
use Rattle.std.proofs.lemmas.List.{length-append}
use Rattle.exact.specs.declared.rule.Rule.{Rule}
use Rattle.exact.specs.declared.rule.Rule.TheVariants.{Unexpected, TooDeep}
use Rattle.exact.specs.Language.{Lang, Step, More, Done}
use Rattle.exact.specs.Reading.{Outcome, Got, Stop, Reader, and_then, ◌>>=◌, pure, refuse, heads, has, taken, one_within, choose, chain_from, chain, onward, loop_from, loop, inside, item, items}
use Rattle.exact.proofs.Exact.{IsExact}

-- the tokens that are left, or the refused one and those behind it
abbrev pub left : {T A : Type 0} → Outcome T A → List T
left (Got a rest) = rest
left (Stop rule rest) = rest

-- Some of the tokens were taken, or the next one passes a limit.
abbrev pub Further : {T A : Type 0} → List T → Outcome T A → Type 0
Further ts (Got a rest) = length rest < length ts
Further ts (Stop Unexpected rest) = length rest < length ts
Further ts (Stop TooDeep rest) = length rest ≤ length ts

-- The value was read up to these tokens, or the reader went on with them.
abbrev pub Behind : {T A : Type 0} → List T → A → Outcome T A → Type 0
Behind rest a o = (o ≡ Got a rest) ⊎ Further rest o

-- A reader gives back no more tokens than it got. What it read before a token it reads whatever stands behind that token.
pub record IsLocal {T A : Type 0} (P : Reader T A) : Type 0 where
  pub less : (ts : List T) → length (left (P ts)) ≤ length ts
  pub again : (front rest : List T) (a : A) (t : T) (mid : List T) → P front ≡ Got a (t ∷ mid) → P (front ++ rest) ≡ Got a (t ∷ (mid ++ rest))

-- And what it reads to the end it reads before more tokens too, or it goes on with them.
pub record IsEager {T A : Type 0} (P : Reader T A) : Type 0 where
  pub local : IsLocal P
  pub behind : (front rest : List T) (a : A) → P front ≡ Got a [] → Behind rest a (P (front ++ rest))

-- And it takes a token of the set where one comes first, unless that passes a limit.
pub record IsLed {T A : Type 0} (first : T → Bool) (P : Reader T A) : Type 0 where
  pub eager : IsEager P
  pub leads : (ts : List T) → heads first ts ≡ true → Further ts (P ts)

-- It reads nothing where no token is left.
abbrev pub Hungry : {T A : Type 0} → Reader T A → Type 0
Hungry P = (a : _) (rest : List _) → P [] ≡ Got a rest → ⊥

-- ---- what is exact

pub local_exact : {T A : Type 0} {L : Lang T A} {P : Reader T A} {go : A → T → Bool} → IsExact L P go → IsLocal P
local_exact {T} {A} {L} {P} {go} p = record { less = λ ts. less ts (P ts) refl; again = again }
  where
    less : (ts : List T) (o : Outcome T A) → P ts ≡ o → length (left o) ≤ length ts
    less ts (Got a rest) e = let f = p.takes ts a rest e in omega (arith, length-append f.front rest, ap length f.parts)
    less ts (Stop rule rest) e = let f = p.stops ts rule rest e in omega (arith, length-append f.front rest, ap length f.parts)

    again : (front rest : List T) (a : A) (t : T) (mid : List T) → P front ≡ Got a (t ∷ mid) → P (front ++ rest) ≡ Got a (t ∷ (mid ++ rest))
    again front rest a t mid e =
        let f = p.takes front a (t ∷ mid) e in
        ap P (ap (λ (z : List T). z ++ rest) f.parts ∙ append_assoc f.front (t ∷ mid) rest) ∙ f.again (t ∷ (mid ++ rest)) refl

-- ---- no token, and one token

-- a reader that looks at no token behind what it takes
eager_fixed : {T A : Type 0} {P : Reader T A} → ((ts : List T) → length (left (P ts)) ≤ length ts) → ((front rest : List T) (a : A) (mid : List T) → P front ≡ Got a mid → P (front ++ rest) ≡ Got a (mid ++ rest)) → IsEager P
eager_fixed less again = record { local = record { less = less; again = λ front rest a t mid e. again front rest a (t ∷ mid) e }; behind = λ front rest a e. inl (again front rest a [] e) }

pub eager_pure : {T A : Type 0} (a : A) → IsEager (pure {T = T} a)
eager_pure {T} {A} a = eager_fixed (λ ts. omega arith) again
  where
    again : (front rest : List T) (b : A) (mid : List T) → pure a front ≡ Got b mid → pure a (front ++ rest) ≡ Got b (mid ++ rest)
    again front rest b mid e = let same : a ≡ b = cc in let tail : front ≡ mid = cc in rw (same, tail) refl

pub eager_refuse : {T A : Type 0} (rule : Rule) → IsEager (refuse {T = T} {A = A} rule)
eager_refuse rule = eager_fixed (λ ts. omega arith) (λ front rest a mid e. absurd cc)

taken_less : {T A : Type 0} (over : Bool) (o : Option A) (t : T) (ts : List T) → length (left (taken over o t ts)) ≤ length (t ∷ ts)
taken_less over None t ts = omega arith
taken_less true (Some a) t ts = omega arith
taken_less false (Some a) t ts = omega arith

taken_again : {T A : Type 0} (over : Bool) (o : Option A) (t : T) (ts rest : List T) (a : A) (mid : List T) → taken over o t ts ≡ Got a mid → taken over o t (ts ++ rest) ≡ Got a (mid ++ rest)
taken_again over None t ts rest a mid e = absurd cc
taken_again true (Some b) t ts rest a mid e = absurd cc
taken_again false (Some b) t ts rest a mid e = let same : b ≡ a = cc in let tail : ts ≡ mid = cc in rw (same, tail) refl

pub eager_one : {T A : Type 0} (over : Bool) (f : T → Option A) → IsEager (one_within over f)
eager_one {T} {A} over f = eager_fixed less again
  where
    less : (ts : List T) → length (left (one_within over f ts)) ≤ length ts
    less [] = omega arith
    less (t ∷ ts) = taken_less over (f t) t ts

    again : (front rest : List T) (a : A) (mid : List T) → one_within over f front ≡ Got a mid → one_within over f (front ++ rest) ≡ Got a (mid ++ rest)
    again [] rest a mid e = absurd cc
    again (t ∷ ts) rest a mid e = taken_again over (f t) t ts rest a mid e

-- whether there is a value
abbrev pub some : {A : Type 0} → Option A → Bool
some o = elim o as (λ _. Bool) [ None ↦ false | Some a ↦ true ]

taken_further : {T A : Type 0} (over : Bool) (o : Option A) (t : T) (ts : List T) → some o ≡ true → Further (t ∷ ts) (taken over o t ts)
taken_further over None t ts h = absurd (let bad : false ≡ true = h in cc)
taken_further true (Some a) t ts h = omega arith
taken_further false (Some a) t ts h = omega arith

pub led_one : {T A : Type 0} {first : T → Bool} (over : Bool) (f : T → Option A) → ((t : T) → first t ≡ true → has f t ≡ true) → IsLed first (one_within over f)
led_one {T} {A} {first} over f sub = record { eager = eager_one over f; leads = leads }
  where
    leads : (ts : List T) → heads first ts ≡ true → Further ts (one_within over f ts)
    leads [] h = absurd (let bad : false ≡ true = h in cc)
    leads (t ∷ ts) h = taken_further over (f t) t ts (sub t h)

-- ---- one behind the other

further_less : {T A : Type 0} (rest : List T) (o : Outcome T A) → length (left o) < length rest → Further rest o
further_less rest (Got a mid) lt = lt
further_less rest (Stop Unexpected mid) lt = lt
further_less rest (Stop TooDeep mid) lt = omega arith

module _ {T A B : Type 0} (P : Reader T A) (Q : A → Reader T B) (p : IsLocal P) (q : (a : A) → IsLocal (Q a)) where
  then_less : (n : ℕ) (o : Outcome T A) → length (left o) ≤ n → length (left (and_then o Q)) ≤ n
  then_less n (Got a mid) le = let less = (q a).less mid in omega arith
  then_less n (Stop rule mid) le = le

  then_again : (front rest : List T) (b : B) (t : T) (mid : List T) (o : Outcome T A) → P front ≡ o → and_then o Q ≡ Got b (t ∷ mid) → and_then (P (front ++ rest)) Q ≡ Got b (t ∷ (mid ++ rest))
  then_again front rest b t mid (Got a []) e h = absurd (let less = (q a).less [] in omega (arith, ap (λ (o : Outcome T B). length (left o)) h))
  then_again front rest b t mid (Got a (u ∷ more)) e h = ap (λ (o : Outcome T A). and_then o Q) (p.again front rest a u more e) ∙ (q a).again (u ∷ more) rest b t mid h
  then_again front rest b t mid (Stop rule more) e h = absurd cc

  then_local : IsLocal (P >>= Q)
  then_local = record { less = λ ts. then_less (length ts) (P ts) (p.less ts); again = λ front rest b t mid e. then_again front rest b t mid (P front) refl e }

  then_further : (rest : List T) (o : Outcome T A) → Further rest o → Further rest (and_then o Q)
  then_further rest (Got a mid) lt = further_less rest (Q a mid) (let less = (q a).less mid in omega arith)
  then_further rest (Stop Unexpected mid) lt = lt
  then_further rest (Stop TooDeep mid) le = le

  -- The first ends before a token, or it is known what it does before more tokens.
  then_behind : ((front rest : List T) (a : A) (b : B) → P front ≡ Got a [] → Q a [] ≡ Got b [] → Behind rest a (P (front ++ rest))) → ((a : A) → IsEager (Q a)) → (front rest : List T) (b : B) (o : Outcome T A) → P front ≡ o → and_then o Q ≡ Got b []
      → Behind rest b (and_then (P (front ++ rest)) Q)
  then_behind first second front rest b (Got a []) e h = cases (first front rest a b e h)
    where
      cases : Behind rest a (P (front ++ rest)) → Behind rest b (and_then (P (front ++ rest)) Q)
      cases (inl now) = subst (λ (o : Outcome T A). Behind rest b (and_then o Q)) (sym now) ((second a).behind [] rest b h)
      cases (inr on) = inr (then_further rest (P (front ++ rest)) on)
  then_behind first second front rest b (Got a (u ∷ more)) e h = subst (λ (o : Outcome T A). Behind rest b (and_then o Q)) (sym (p.again front rest a u more e)) ((second a).behind (u ∷ more) rest b h)
  then_behind first second front rest b (Stop rule more) e h = absurd cc

pub local_then : {T A B : Type 0} {P : Reader T A} {Q : A → Reader T B} → IsLocal P → ((a : A) → IsLocal (Q a)) → IsLocal (P >>= Q)
local_then {T} {A} {B} {P} {Q} p q = then_local P Q p q

pub eager_then : {T A B : Type 0} {P : Reader T A} {Q : A → Reader T B} → IsEager P → ((a : A) → IsEager (Q a)) → IsEager (P >>= Q)
eager_then {T} {A} {B} {P} {Q} p q = record {
  local = local_then p.local (λ a. (q a).local);
  behind = λ front rest b e. then_behind P Q p.local (λ a. (q a).local) (λ front rest a b e h. p.behind front rest a e) q front rest b (P front) refl e;
}

-- What follows takes a token, so the first never ends where no token is left.
pub eager_until : {T A B : Type 0} {P : Reader T A} {Q : A → Reader T B} → IsLocal P → ((a : A) → IsEager (Q a)) → ((a : A) → Hungry (Q a)) → IsEager (P >>= Q)
eager_until {T} {A} {B} {P} {Q} p q hungry = record {
  local = local_then p (λ a. (q a).local);
  behind = λ front rest b e. then_behind P Q p (λ a. (q a).local) (λ front rest a b e h. absurd (hungry a b [] h)) q front rest b (P front) refl e;
}

pub led_then : {T A B : Type 0} {first : T → Bool} {P : Reader T A} {Q : A → Reader T B} → IsLed first P → ((a : A) → IsEager (Q a)) → IsLed first (P >>= Q)
led_then {T} {A} {B} {first} {P} {Q} p q = record { eager = eager_then p.eager q; leads = λ ts h. then_further P Q p.eager.local (λ a. (q a).local) ts (P ts) (p.leads ts h) }

pub hungry_then : {T A B : Type 0} (P : Reader T A) (Q : A → Reader T B) → IsLocal P → ((a : A) → Hungry (Q a)) → Hungry (P >>= Q)
hungry_then {T} {A} {B} P Q p hungry b rest e = by_first (P []) (p.less []) e
  where
    by_first : (o : Outcome T A) → length (left o) ≤ length {A = T} [] → and_then o Q ≡ Got b rest → ⊥
    by_first (Got a []) le e = hungry a b rest e
    by_first (Got a (t ∷ mid)) le e = absurd (omega arith)
    by_first (Stop rule mid) le e = absurd cc

-- ---- one of two, by the next token

module _ {T A : Type 0} (first : T → Bool) (P Q : Reader T A) where
  choose_less : (b : Bool) (ts : List T) → IsLocal P → IsLocal Q → length (left (cond b (P ts) (Q ts))) ≤ length ts
  choose_less true ts p q = p.less ts
  choose_less false ts p q = q.less ts

  choose_again : (b : Bool) (front rest : List T) (a : A) (t : T) (mid : List T) → IsLocal P → IsLocal Q → cond b (P front) (Q front) ≡ Got a (t ∷ mid) → cond b (P (front ++ rest)) (Q (front ++ rest)) ≡ Got a (t ∷ (mid ++ rest))
  choose_again true front rest a t mid p q e = p.again front rest a t mid e
  choose_again false front rest a t mid p q e = q.again front rest a t mid e

  choose_behind : (b : Bool) (front rest : List T) (a : A) → IsEager P → IsEager Q → cond b (P front) (Q front) ≡ Got a [] → Behind rest a (cond b (P (front ++ rest)) (Q (front ++ rest)))
  choose_behind true front rest a p q e = p.behind front rest a e
  choose_behind false front rest a p q e = q.behind front rest a e

  choose_local : IsLocal P → IsLocal Q → IsLocal (choose first P Q)
  choose_local p q = record { less = λ ts. choose_less (heads first ts) ts p q; again = again }
    where
      again : (front rest : List T) (a : A) (t : T) (mid : List T) → choose first P Q front ≡ Got a (t ∷ mid) → choose first P Q (front ++ rest) ≡ Got a (t ∷ (mid ++ rest))
      again [] rest a t mid e = absurd (let less = q.less [] in let now : Q [] ≡ Got a (t ∷ mid) = e in omega (arith, ap (λ (o : Outcome T A). length (left o)) now))
      again (u ∷ front) rest a t mid e = choose_again (first u) (u ∷ front) rest a t mid p q e

  choose_eager : IsEager P → IsEager Q → ((a : A) → Q [] ≡ Got a [] → (ts : List T) → heads first ts ≡ true → Further ts (P ts)) → IsEager (choose first P Q)
  choose_eager p q leads = record { local = choose_local p.local q.local; behind = behind }
    where
      at_once : (rest : List T) (a : A) → Q [] ≡ Got a [] → (b : Bool) → heads first rest ≡ b → Behind rest a (cond b (P rest) (Q rest))
      at_once rest a e true h = inr (leads a e rest h)
      at_once rest a e false h = q.behind [] rest a e

      behind : (front rest : List T) (a : A) → choose first P Q front ≡ Got a [] → Behind rest a (choose first P Q (front ++ rest))
      behind [] rest a e = at_once rest a e (heads first rest) refl
      behind (u ∷ front) rest a e = choose_behind (first u) (u ∷ front) rest a p q e

pub local_choose : {T A : Type 0} {first : T → Bool} {P Q : Reader T A} → IsLocal P → IsLocal Q → IsLocal (choose first P Q)
local_choose {T} {A} {first} {P} {Q} p q = choose_local first P Q p q

pub eager_choose : {T A : Type 0} {first : T → Bool} {P Q : Reader T A} → IsLed first P → IsEager Q → IsEager (choose first P Q)
eager_choose {T} {A} {first} {P} {Q} p q = choose_eager first P Q p.eager q (λ a e. p.leads)

-- The other takes a token.
pub eager_choose_hungry : {T A : Type 0} {first : T → Bool} {P Q : Reader T A} → IsEager P → IsEager Q → Hungry Q → IsEager (choose first P Q)
eager_choose_hungry {T} {A} {first} {P} {Q} p q hungry = choose_eager first P Q p q (λ a e. absurd (hungry a [] e))

or_second : (a b : Bool) → (a || b) ≡ true → a ≡ false → b ≡ true
or_second true b h none = absurd (let bad : true ≡ false = none in cc)
or_second false b h none = h

-- The one takes tokens of one set, the other those of another.
pub led_or : {T A : Type 0} {one two : T → Bool} {P Q : Reader T A} → IsLed one P → IsLed two Q → IsLed (λ t. one t || two t) (choose one P Q)
led_or {T} {A} {one} {two} {P} {Q} p q = record { eager = eager_choose p q.eager; leads = leads }
  where
    by_head : (t : T) (ts : List T) → (one t || two t) ≡ true → (b : Bool) → one t ≡ b → Further (t ∷ ts) (cond b (P (t ∷ ts)) (Q (t ∷ ts)))
    by_head t ts h true so = p.leads (t ∷ ts) so
    by_head t ts h false none = q.leads (t ∷ ts) (or_second (one t) (two t) h none)

    leads : (ts : List T) → heads (λ t. one t || two t) ts ≡ true → Further ts (choose one P Q ts)
    leads [] h = absurd (let bad : false ≡ true = h in cc)
    leads (t ∷ ts) h = by_head t ts h (one t) refl

-- ---- readers that count their turns

-- With so many turns as there are tokens it reads what it reads with more.
module _ {T R : Type 0} (run : ℕ → Reader T R) (stays : (ts : List T) (r : R) (mid : List T) (k : ℕ) → length ts ≤ k → run (length ts) ts ≡ Got r mid → run k ts ≡ Got r mid) where
  longer : (front rest : List T) (r : R) (mid : List T) → run (length front) front ≡ Got r mid → run (length (front ++ rest)) front ≡ Got r mid
  longer front rest r mid e = stays front r mid (length (front ++ rest)) (omega (arith, length-append front rest)) e

  counted_local : ((k : ℕ) → IsLocal (run k)) → IsLocal (λ ts. run (length ts) ts)
  counted_local p = record { less = λ ts. (p (length ts)).less ts; again = λ front rest r t mid e. (p (length (front ++ rest))).again front rest r t mid (longer front rest r (t ∷ mid) e) }

  counted_eager : ((k : ℕ) → IsEager (run k)) → IsEager (λ ts. run (length ts) ts)
  counted_eager p = record { local = counted_local (λ k. (p k).local); behind = λ front rest r e. (p (length (front ++ rest))).behind front rest r (longer front rest r [] e) }

module _ {T A : Type 0} (first : T → Bool) (step : A → Reader T A) (p : (a : A) → IsLed first (step a)) where
  chain_turns : (k : ℕ) (a : A) → IsEager (chain_from first step k a)
  unfolding chain_from
  chain_turns zero a = eager_pure a
  chain_turns (suc k) a = eager_choose (led_then (p a) (chain_turns k)) (eager_pure a)

  chain_stays : (k j : ℕ) (a : A) (ts : List T) (r : A) (mid : List T) → length ts ≤ k → k ≤ j → chain_from first step k a ts ≡ Got r mid → chain_from first step j a ts ≡ Got r mid
  unfolding chain_from
  chain_stays zero zero a ts r mid le more e = e
  chain_stays zero (suc j) a [] r mid le more e = e
  chain_stays zero (suc j) a (t ∷ ts) r mid le more e = absurd (omega arith)
  chain_stays (suc k) zero a ts r mid le more e = absurd (omega arith)
  chain_stays (suc k) (suc j) a ts r mid le more e = by_head (heads first ts) refl e (λ b rest short. chain_stays k j b rest r mid short (omega arith))
    where
      by_step : (o : Outcome T A) → Further ts o → and_then o (chain_from first step k) ≡ Got r mid → ((b : A) (rest : List T) → length rest ≤ k → chain_from first step k b rest ≡ Got r mid → chain_from first step j b rest ≡ Got r mid)
          → and_then o (chain_from first step j) ≡ Got r mid
      by_step (Got b rest) lt e rec = rec b rest (omega arith) e
      by_step (Stop rule rest) lt e rec = absurd cc

      by_head : (b : Bool) → heads first ts ≡ b → cond b (and_then (step a ts) (chain_from first step k)) (Got a ts) ≡ Got r mid → ((b : A) (rest : List T) → length rest ≤ k → chain_from first step k b rest ≡ Got r mid → chain_from first step j b rest ≡ Got r mid)
          → cond b (and_then (step a ts) (chain_from first step j)) (Got a ts) ≡ Got r mid
      by_head true h e rec = by_step (step a ts) ((p a).leads ts h) e rec
      by_head false h e rec = e

  pub eager_chain : (a : A) → IsEager (chain first step a)
  eager_chain a = counted_eager (λ k. chain_from first step k a) (λ ts r mid k le e. chain_stays (length ts) k a ts r mid (omega arith) le e) (λ k. chain_turns k a)

-- ---- loops

-- `Fits` says of which tokens so many turns are enough.
module _ {T A R : Type 0} (last : A → Reader T R) (step : A → Reader T (Step A R)) (Fits : ℕ → List T → Type 0) (fits : (ts : List T) → Fits (length ts) ts)
    (at_end : (a : A) (ts : List T) (r : R) (mid : List T) → Fits zero ts → last a ts ≡ Got r mid → (k : ℕ) → loop_from last step k a ts ≡ Got r mid)
    (next : (k : ℕ) (a : A) (ts : List T) (b : A) (mid : List T) → Fits (suc k) ts → step a ts ≡ Got (More b) mid → Fits k mid) where
  loop_stays : (k j : ℕ) (a : A) (ts : List T) (r : R) (mid : List T) → Fits k ts → k ≤ j → loop_from last step k a ts ≡ Got r mid → loop_from last step j a ts ≡ Got r mid
  unfolding loop_from
  loop_stays zero j a ts r mid fit more e = at_end a ts r mid fit e j
  loop_stays (suc k) zero a ts r mid fit more e = absurd (omega arith)
  loop_stays (suc k) (suc j) a ts r mid fit more e = by_step (step a ts) refl e (λ b rest short. loop_stays k j b rest r mid short (omega arith))
    where
      by_step : (o : Outcome T (Step A R)) → step a ts ≡ o → and_then o (onward (loop_from last step k)) ≡ Got r mid → ((b : A) (rest : List T) → Fits k rest → loop_from last step k b rest ≡ Got r mid → loop_from last step j b rest ≡ Got r mid)
          → and_then o (onward (loop_from last step j)) ≡ Got r mid
      by_step (Got (More b) rest) now e rec = rec b rest (next k a ts b rest fit now) e
      by_step (Got (Done v) rest) now e rec = e
      by_step (Stop rule rest) now e rec = absurd cc

  stays : (a : A) (ts : List T) (r : R) (mid : List T) (k : ℕ) → length ts ≤ k → loop_from last step (length ts) a ts ≡ Got r mid → loop_from last step k a ts ≡ Got r mid
  stays a ts r mid k le e = loop_stays (length ts) k a ts r mid (fits ts) le e

  onward_local : (k : ℕ) → ((a : A) → IsLocal (loop_from last step k a)) → (o : Step A R) → IsLocal (onward (loop_from last step k) o)
  onward_local k rest (More b) = rest b
  onward_local k rest (Done r) = (eager_pure r).local

  local_turns : ((a : A) → IsLocal (last a)) → ((a : A) → IsLocal (step a)) → (k : ℕ) (a : A) → IsLocal (loop_from last step k a)
  unfolding loop_from
  local_turns l s zero a = l a
  local_turns l s (suc k) a = local_then (s a) (onward_local k (local_turns l s k))

  onward_eager : (k : ℕ) → ((a : A) → IsEager (loop_from last step k a)) → (o : Step A R) → IsEager (onward (loop_from last step k) o)
  onward_eager k rest (More b) = rest b
  onward_eager k rest (Done r) = eager_pure r

  eager_turns : ((a : A) → IsEager (last a)) → ((a : A) → IsEager (step a)) → (k : ℕ) (a : A) → IsEager (loop_from last step k a)
  unfolding loop_from
  eager_turns l s zero a = l a
  eager_turns l s (suc k) a = eager_then (s a) (onward_eager k (eager_turns l s k))

  pub local_loop : ((a : A) → IsLocal (last a)) → ((a : A) → IsLocal (step a)) → (a : A) → IsLocal (loop last step a)
  local_loop l s a = counted_local (λ k. loop_from last step k a) (stays a) (λ k. local_turns l s k a)

  pub eager_loop : ((a : A) → IsEager (last a)) → ((a : A) → IsEager (step a)) → (a : A) → IsEager (loop last step a)
  eager_loop l s a = counted_eager (λ k. loop_from last step k a) (stays a) (λ k. eager_turns l s k a)

-- A loop that reads nothing where its turns are over.
pub eager_loop_refused : {T A R : Type 0} (step : A → Reader T (Step A R)) → ((a : A) → IsEager (step a)) → (a : A) → IsEager (loop (λ _. refuse Unexpected) step a)
eager_loop_refused step s a = eager_loop (λ _. refuse Unexpected) step (λ k ts. Unit {0}) (λ ts. tt) (λ a ts r mid fit e k. absurd cc) (λ k a ts b mid fit e. tt) (λ a. eager_refuse Unexpected) s a

-- ---- items with commas between them

module _ {T A B : Type 0} (over : B → Bool) (is_comma : T → Bool) (comma : T → Option (Unit {0})) (closes : T → Bool) (P : Reader T A) (add : B → A → B)
    (p : IsLocal P) (commas : (t : T) → is_comma t ≡ true → has comma t ≡ true) where
  more_local : (all : B) → IsLocal (choose (inside closes) (P >>= λ a. pure (More (add all a))) (pure (Done all)))
  more_local all = local_choose (local_then p (λ a. (eager_pure _).local)) (eager_pure _).local

  item_local : (all : B) → IsLocal (item over is_comma comma closes P add all)
  item_local all = local_choose (local_then (eager_one (over all) comma).local (λ _. more_local all)) (eager_pure _).local

  -- an item and its comma take a token
  item_long : (all : B) (ts : List T) (more : B) (mid : List T) → item over is_comma comma closes P add all ts ≡ Got (More more) mid → length mid < length ts
  item_long all ts more mid e = by_head (heads is_comma ts) refl e
    where
      by_head : (b : Bool) → heads is_comma ts ≡ b → cond b (and_then (one_within (over all) comma ts) (λ _. choose (inside closes) (P >>= λ a. pure (More (add all a))) (pure (Done all)))) (Got (Done all) ts) ≡ Got (More more) mid → length mid < length ts
      by_head true h e = subst (λ (o : Outcome T (Step B B)). Further ts o) e (then_further (one_within (over all) comma) (λ _. choose (inside closes) (P >>= λ a. pure (More (add all a))) (pure (Done all))) (eager_one (over all) comma).local (λ _. more_local all) ts (one_within (over all) comma ts) ((led_one (over all) comma commas).leads ts h))
      by_head false h e = absurd cc

  at_end : (all : B) (ts : List T) (r : B) (mid : List T) → length ts ≤ zero → pure all ts ≡ Got r mid → (k : ℕ) → loop_from pure (item over is_comma comma closes P add) k all ts ≡ Got r mid
  unfolding loop_from
  at_end all ts r mid le e zero = e
  at_end all [] r mid le e (suc k) = e
  at_end all (t ∷ ts) r mid le e (suc k) = absurd (omega arith)

  pub local_items : (start : A → B) → IsLocal (items over is_comma comma closes P start add)
  local_items start =
      local_then p (λ a. local_loop pure (item over is_comma comma closes P add) (λ k ts. length ts ≤ k) (λ ts. omega arith) at_end
      (λ k all ts more mid fit e. let lt = item_long all ts more mid e in omega arith) (λ all. (eager_pure all).local) item_local (start a))
