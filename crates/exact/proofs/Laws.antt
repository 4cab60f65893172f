-- The laws with which a production is shown exact: one for each way to put languages and readers together.
-- Languages, readers and sets are left out of a call, since antt finds them.
use Rattle.std.proofs.Common.{◌≡◌, ℕ, zero, suc, ◌-◌, ◌≤◌, ◌<◌, Bool, true, false, List, [], ◌∷◌, ◌++◌, length, Option, Some, refl, sym, ap, subst, ◌∙◌, append_assoc, arith, inl, inr}
use Rattle.std.proofs.lemmas.List.{length-append}
use Rattle.exact.specs.declared.rule.Rule.{Rule}
use Rattle.exact.specs.Language.{Lang, Empty, Never, One, OneWithin, Then, Either, Links, Chain, Step, More, Done, Onward, Turns, Loop, Item, Items}
use Rattle.exact.specs.Reading.{Outcome, Got, Stop, Reader, and_then, ◌>>=◌, pure, one, one_within, choose, chain, onward, loop, inside, item, items}
use Rattle.exact.proofs.Heads.{Begins, Avoids, Covers, Apart, never, heads_never, begins_one_within, begins_then, avoids_none, avoids_empty, avoids_begins, avoids_either, avoids_loop}
use Rattle.exact.proofs.Exact.{IsExact, Took, Stopped, keeps_longer, Inhabited, Reaches, none_of, pure_is, one_within_is, then_is, choose_is, alike_is, weaken_is}
use Rattle.exact.proofs.Loop.{loop_is, chain_is}

-- What is known of a place in the grammar.
pub data Mode : Type 0 where
  -- The reader is exact.
  Open : Mode
  -- No more part may be open, so the reader does not come here. But some text is spelled.
  Shut : Mode
  -- Not even that.
  Void : Mode

abbrev pub IsOpen : Mode → Type 0
IsOpen Open = Unit {0}
IsOpen Shut = ⊥
IsOpen Void = ⊥

abbrev pub HasText : Mode → Type 0
HasText Open = Unit {0}
HasText Shut = Unit {0}
HasText Void = ⊥

-- The mode of a part that may be opened only where no limit is passed.
abbrev pub lowered : Bool → Mode → Mode
lowered true Open = Shut
lowered true Shut = Shut
lowered true Void = Void
lowered false mode = mode

-- A text of the one is a text of the other, whatever limits are kept: the other passes none.
abbrev pub Grows : {T A : Type 0} → Lang T A → Lang T A → Type 0
Grows L U = (m n : ℕ) (x : List _) (a : _) → L m x a → U n x a

-- A text keeps its limits at fewer tokens too.
abbrev pub Loosens : {T A : Type 0} → Lang T A → Type 0
Loosens L = (m n : ℕ) (x : List _) (a : _) → m ≤ n → L n x a → L m x a

-- Exact in this mode. U is the same language where no token passes a limit.
pub record IsExactAt {T A : Type 0} (mode : Mode) (L U : Lang T A) (P : Reader T A) (go : A → T → Bool) : Type 0 where
  pub exact : IsOpen mode → IsExact L P go
  pub some : HasText mode → Inhabited L
  pub grows : Grows L U
  pub loosens : Loosens L

-- ---- modes

open_text : (mode : Mode) → IsOpen mode → HasText mode
open_text Open o = tt
open_text Shut o = absurd o
open_text Void o = absurd o

lowered_open : (over : Bool) (mode : Mode) → over ≡ false → IsOpen mode → IsOpen (lowered over mode)
lowered_open true mode h o = absurd (let bad : true ≡ false = h in cc)
lowered_open false mode h o = o

pub lowered_text : (over : Bool) (mode : Mode) → HasText mode → HasText (lowered over mode)
lowered_text true Open t = tt
lowered_text true Shut t = tt
lowered_text true Void t = absurd t
lowered_text false mode t = t

from_open : (over : Bool) (mode : Mode) → IsOpen (lowered over mode) → IsOpen mode
from_open true Open o = absurd o
from_open true Shut o = absurd o
from_open true Void o = absurd o
from_open false mode o = o

from_text : (over : Bool) (mode : Mode) → HasText (lowered over mode) → HasText mode
from_text true Open t = tt
from_text true Shut t = tt
from_text true Void t = absurd t
from_text false mode t = t

-- What is known here is known in a part that is opened here.
pub exact_lowered : {T A : Type 0} {mode : Mode} {L U : Lang T A} {P : Reader T A} {go : A → T → Bool} (over : Bool) → IsExactAt mode L U P go → IsExactAt (lowered over mode) L U P go
exact_lowered {T} {A} {mode} over p = record { exact = λ o. p.exact (from_open over mode o); some = λ t. p.some (from_text over mode t); grows = p.grows; loosens = p.loosens }

-- What is exact is exact in any mode.
pub exact_any : {T A : Type 0} {mode : Mode} {L U : Lang T A} {P : Reader T A} {go : A → T → Bool} → IsExactAt Open L U P go → IsExactAt mode L U P go
exact_any p = record { exact = λ o. p.exact tt; some = λ t. p.some tt; grows = p.grows; loosens = p.loosens }

-- Where nothing is known of the reader, any other will do.
pub exact_unread : {T A : Type 0} {L U : Lang T A} {P Q : Reader T A} {go other : A → T → Bool} → IsExactAt Void L U P go → IsExactAt Void L U Q other
exact_unread p = record { exact = λ o. absurd o; some = λ t. absurd t; grows = p.grows; loosens = p.loosens }

-- Where the reader does not come, whatever it would do.
pub exact_shut : {T A : Type 0} {L U : Lang T A} {P Q : Reader T A} {go : A → T → Bool} → Inhabited L → IsExactAt Void L U Q go → IsExactAt Shut L U P go
exact_shut f p = record { exact = λ o. absurd o; some = λ t. f; grows = p.grows; loosens = p.loosens }

-- Where nothing is spelled.
pub exact_void : {T A : Type 0} {U : Lang T A} {P : Reader T A} {go : A → T → Bool} → IsExactAt Void Never U P go
exact_void = record { exact = λ o. absurd o; some = λ t. absurd t; grows = λ m n x a l. absurd l; loosens = λ m n x a le l. absurd l }

-- ---- some text

pub some_empty : {T A : Type 0} (a : A) → Inhabited (Empty {T = T} a)
some_empty a = record { text = []; value = a; spelled = (refl, refl) }

pub some_one : {T A : Type 0} (f : T → Option A) (t : T) (a : A) → f t ≡ Some a → Inhabited (One f)
some_one f t a known = record { text = t ∷ []; value = a; spelled = (t, refl, known) }

pub some_within : {T A : Type 0} {over : Bool} (f : T → Option A) (t : T) (a : A) → f t ≡ Some a → Inhabited (OneWithin over f)
some_within f t a known = record { text = t ∷ []; value = a; spelled = (λ lt. absurd (omega arith), (t, refl, known)) }

pub some_then : {T A B : Type 0} {L : Lang T A} {M : A → Lang T B} → Inhabited L → ((a : A) → Inhabited (M a)) → Inhabited (Then L M)
some_then {T} {A} {B} {L} {M} l m =
    let s = m l.value in
    record { text = l.text ++ s.text; value = s.value; spelled = record { front = l.text; back = s.text; value = l.value; parts = refl; first = l.spelled; second = subst (λ (k : ℕ). M l.value k s.text s.value) (sym (none (length l.text))) s.spelled } }
  where
    none : (k : ℕ) → 0 - k ≡ 0
    none k = omega arith

pub some_left : {T A : Type 0} {L M : Lang T A} → Inhabited L → Inhabited (Either L M)
some_left l = record { text = l.text; value = l.value; spelled = inl l.spelled }

pub some_right : {T A : Type 0} {L M : Lang T A} → Inhabited M → Inhabited (Either L M)
some_right m = record { text = m.text; value = m.value; spelled = inr m.spelled }

pub some_chain : {T A : Type 0} {S : A → Lang T A} (a : A) → Inhabited (Chain S a)
some_chain a = record { text = []; value = a; spelled = (zero, (refl, refl)) }

-- ---- no token, and one token

pub exact_pure : {T A : Type 0} {mode : Mode} {go : A → T → Bool} (a : A) → IsExactAt mode (Empty {T = T} a) (Empty a) (pure a) go
exact_pure {T} {A} {mode} {go} a = record { exact = λ o. pure_is go a; some = λ t. some_empty a; grows = λ m n x b l. l; loosens = λ m n x b le l. l }

-- One token. To be given: one that stands for a value.
pub exact_one : {T A : Type 0} {mode : Mode} {go : A → T → Bool} (f : T → Option A) (t : T) (a : A) → f t ≡ Some a → IsExactAt mode (One f) (One f) (one f) go
exact_one {T} {A} {mode} {go} f t a known = record {
  exact = λ o. alike_is (OneWithin false f) (One f) (one f) go (λ n x b l. l.1) (λ n x b l. (λ _. refl, l)) (one_within_is false f t a known go);
  some = λ h. some_one f t a known;
  grows = λ m n x b l. l;
  loosens = λ m n x b le l. l;
}

-- One token behind a value, or that opens a part: `over` says that it passes the limit. In U, as `wide` says, it does not.
pub exact_one_within : {T A : Type 0} {mode : Mode} {over wide : Bool} {go : A → T → Bool} (f : T → Option A) (t : T) (a : A) → f t ≡ Some a → wide ≡ false → IsExactAt mode (OneWithin over f) (OneWithin wide f) (one_within over f) go
exact_one_within {T} {A} {mode} {over} {wide} {go} f t a known free = record {
  exact = λ o. one_within_is over f t a known go;
  some = λ h. some_within f t a known;
  grows = λ m n x b l. (λ _. free, l.1);
  loosens = λ m n x b le l. (λ lt. l.0 (omega arith), l.1);
}

-- ---- one behind the other

then_grows : {T A B : Type 0} (L U : Lang T A) (M N : A → Lang T B) → Grows L U → ((a : A) → Grows (M a) (N a)) → Grows (Then L M) (Then U N)
then_grows L U M N l r m n x b t = record { front = t.front; back = t.back; value = t.value; parts = t.parts; first = l m n t.front t.value t.first; second = r t.value (m - length t.front) (n - length t.front) t.back b t.second }

then_loosens : {T A B : Type 0} (L : Lang T A) (M : A → Lang T B) → Loosens L → ((a : A) → Loosens (M a)) → Loosens (Then L M)
then_loosens L M l r m n x b le t = record { front = t.front; back = t.back; value = t.value; parts = t.parts; first = l m n t.front t.value le t.first; second = r t.value (m - length t.front) (n - length t.front) t.back b (omega arith) t.second }

-- What M says, with what may stand behind it, does not go on with the value of L before it.
pub exact_then : {T A B : Type 0} {mode : Mode} {L U : Lang T A} {M N : A → Lang T B} {P : Reader T A} {Q : A → Reader T B} {go : A → T → Bool} {goM : B → T → Bool}
    → IsExactAt mode L U P go → ((a : A) → IsExactAt mode (M a) (N a) (Q a) goM) → ((a : A) → Avoids (go a) (M a) goM) → IsExactAt mode (Then L M) (Then U N) (P >>= Q) goM
exact_then {T} {A} {B} {mode} {L} {U} {M} {N} {P} {Q} {go} {goM} p q apart = record {
  exact = λ o. then_is L M P Q go goM (p.exact o) (λ a. (q a).exact o) apart (λ a. (q a).some (open_text mode o));
  some = λ t. some_then (p.some t) (λ a. (q a).some t);
  grows = then_grows L U M N p.grows (λ a. (q a).grows);
  loosens = then_loosens L M p.loosens (λ a. (q a).loosens);
}

-- Another value for each value.
pub exact_map : {T A B : Type 0} {mode : Mode} {L U : Lang T A} {P : Reader T A} {go : B → T → Bool} (f : A → B) → IsExactAt mode L U P (λ a. go (f a))
    → IsExactAt mode (Then L (λ a. Empty (f a))) (Then U (λ a. Empty (f a))) (P >>= λ a. pure (f a)) go
exact_map {T} {A} {B} {mode} {L} {U} {P} {go} f p =
    exact_then {L = L} {U = U} {M = λ a. Empty (f a)} {N = λ a. Empty (f a)} {P = P} {Q = λ a. pure (f a)} {go = λ a. go (f a)} {goM = go} p (λ a. exact_pure (f a)) (λ a. avoids_empty (f a) (λ t h. h))

-- A token, and what follows it.
pub exact_lead : {T A B : Type 0} {mode : Mode} {M N : A → Lang T B} {Q : A → Reader T B} {go : B → T → Bool} (f : T → Option A) (t : T) (a : A) → f t ≡ Some a
    → ((a : A) → IsExactAt mode (M a) (N a) (Q a) go) → IsExactAt mode (Then (One f) M) (Then (One f) N) (one f >>= Q) go
exact_lead {T} {A} {B} {mode} {M} {N} {Q} {go} f t a known q =
    exact_then {L = One f} {U = One f} {M = M} {N = N} {P = one f} {Q = Q} {go = λ _. never} {goM = go} (exact_one f t a known) q (λ a. avoids_none)

-- ---- a token that may pass a limit, and what follows it

-- Where the limit is passed the reader stops at that token at the latest, and what follows need only have some text.
module _ {T A B : Type 0} (over : Bool) (f : T → Option A) (t : T) (a : A) (known : f t ≡ Some a) (passed : over ≡ true) (M : A → Lang T B) (Q : A → Reader T B) (some : (a : A) → Inhabited (M a)) (go : B → T → Bool) where
  lead : IsExact (OneWithin over f) (one_within over f) (λ _. never)
  lead = one_within_is over f t a known (λ _. never)

  not_got : (ts : List T) (b : A) (mid : List T) → one_within over f ts ≡ Got b mid → ⊥
  not_got ts b mid e = let s = lead.takes ts b mid e in absurd (let bad : true ≡ false = sym passed ∙ (s.spelled 1).0 (omega arith) in cc)

  passed_takes : (ts : List T) (b : B) (rest : List T) (o : Outcome T A) → one_within over f ts ≡ o → and_then o Q ≡ Got b rest → Took (Then (OneWithin over f) M) (one_within over f >>= Q) ts b rest
  passed_takes ts b rest (Got c mid) e h = absurd (not_got ts c mid e)
  passed_takes ts b rest (Stop rule mid) e h = absurd cc

  passed_stops : (ts : List T) (rule : Rule) (rest : List T) (o : Outcome T A) → one_within over f ts ≡ o → and_then o Q ≡ Stop rule rest → Stopped (Then (OneWithin over f) M) (one_within over f >>= Q) ts rule rest
  passed_stops ts rule rest (Got c mid) e h = absurd (not_got ts c mid e)
  passed_stops ts rule rest (Stop why mid) e h =
      let same_rule : why ≡ rule = cc in let same_rest : mid ≡ rest = cc in
      let all : one_within over f ts ≡ Stop rule rest = rw (← same_rule, ← same_rest) e in
      let s = lead.stops ts rule rest all in let n = some s.value in
      record {
        front = s.front;
        parts = s.parts;
        again = λ r same. ap (λ (z : Outcome T A). and_then z Q) (s.again r same);
        more = s.more ++ n.text;
        value = n.value;
        viable = record {
          front = s.front ++ s.more;
          back = n.text;
          value = s.value;
          parts = sym (append_assoc s.front s.more n.text);
          first = s.viable;
          second = subst (λ (k : ℕ). M s.value k n.text n.value) (sym (none_of s.front s.more)) n.spelled;
        };
        keeps = keeps_longer rule rest s.more n.text s.keeps;
      }

  passed_reaches : (n : ℕ) (x y : List T) (c : A) (b : B) (rest : List T) → OneWithin over f n x c → Reaches n x c (y ++ rest) (one_within over f (x ++ (y ++ rest))) → Reaches n (x ++ y) b rest ((one_within over f >>= Q) (x ++ (y ++ rest)))
  passed_reaches n x y c b rest l (inl e) = absurd (not_got (x ++ (y ++ rest)) c (y ++ rest) e)
  passed_reaches n x y c b rest l (inr s) =
      let lt = s.within in let le = s.behind in
      inr (record { at = s.at; stopped = ap (λ (z : Outcome T A). and_then z Q) s.stopped; within = omega (arith, length-append y rest); behind = omega (arith, length-append x y, length-append y rest) })

  passed_complete : (n : ℕ) (front : List T) (b : B) (rest : List T) → Then (OneWithin over f) M n front b → Reaches n front b rest ((one_within over f >>= Q) (front ++ rest))
  passed_complete n front b rest s =
      let all = passed_reaches n s.front s.back s.value b rest s.first (lead.complete n s.front s.value (s.back ++ rest) s.first (heads_never (s.back ++ rest))) in
      subst (λ (z : List T). Reaches n z b rest ((one_within over f >>= Q) (z ++ rest))) (sym s.parts) (subst (λ (z : List T). Reaches n (s.front ++ s.back) b rest ((one_within over f >>= Q) z)) (sym (append_assoc s.front s.back rest)) all)

  passed_is : IsExact (Then (OneWithin over f) M) (one_within over f >>= Q) go
  passed_is = record {
    takes = λ ts b rest e. passed_takes ts b rest (one_within over f ts) refl e;
    stops = λ ts rule rest e. passed_stops ts rule rest (one_within over f ts) refl e;
    complete = λ n front b rest l stop. passed_complete n front b rest l;
  }

-- A token that may pass a limit, and what follows it. What follows may be shut where the token passes the limit.
pub exact_within : {T A B : Type 0} {mode : Mode} {lower over wide : Bool} {M N : A → Lang T B} {Q : A → Reader T B} {go : B → T → Bool} (f : T → Option A) (t : T) (a : A) → f t ≡ Some a → wide ≡ false
    → (over ≡ false → lower ≡ false) → ((a : A) → IsExactAt (lowered lower mode) (M a) (N a) (Q a) go)
    → IsExactAt mode (Then (OneWithin over f) M) (Then (OneWithin wide f) N) (one_within over f >>= Q) go
exact_within {T} {A} {B} {mode} {lower} {over} {wide} {M} {N} {Q} {go} f t a known free opens q =
    let one = exact_one_within {mode = mode} {over = over} {wide = wide} {go = λ _. never} f t a known free in
    record {
      exact = λ o. by_limit over refl o;
      some = λ h. some_then (some_within f t a known) (λ a. (q a).some (lowered_text lower mode h));
      grows = then_grows (OneWithin over f) (OneWithin wide f) M N one.grows (λ a. (q a).grows);
      loosens = then_loosens (OneWithin over f) M one.loosens (λ a. (q a).loosens);
    }
  where
    text : IsOpen mode → (a : A) → Inhabited (M a)
    text o a = (q a).some (lowered_text lower mode (open_text mode o))

    by_limit : (b : Bool) → over ≡ b → IsOpen mode → IsExact (Then (OneWithin over f) M) (one_within over f >>= Q) go
    by_limit true is o = passed_is over f t a known is M Q (text o) go
    by_limit false is o = then_is (OneWithin over f) M (one_within over f) Q (λ _. never) go (one_within_is over f t a known (λ _. never)) (λ a. (q a).exact (lowered_open lower mode (opens is) o)) (λ a. avoids_none) (text o)

-- A token that opens a part, and what follows it: that is shut just where the token passes the limit.
pub exact_open : {T A B : Type 0} {mode : Mode} {over wide : Bool} {M N : A → Lang T B} {Q : A → Reader T B} {go : B → T → Bool} (f : T → Option A) (t : T) (a : A) → f t ≡ Some a → wide ≡ false
    → ((a : A) → IsExactAt (lowered over mode) (M a) (N a) (Q a) go) → IsExactAt mode (Then (OneWithin over f) M) (Then (OneWithin wide f) N) (one_within over f >>= Q) go
exact_open {T} {A} {B} {mode} {over} {wide} {M} {N} {Q} {go} f t a known free q = exact_within {lower = over} {M = M} {N = N} {Q = Q} {go = go} f t a known free (λ h. h) q

-- A token right behind a value, and what follows it: it passes the limit where that value is too high.
pub exact_behind : {T A B : Type 0} {mode : Mode} {over wide : Bool} {M N : A → Lang T B} {Q : A → Reader T B} {go : B → T → Bool} (f : T → Option A) (t : T) (a : A) → f t ≡ Some a → wide ≡ false
    → ((a : A) → IsExactAt mode (M a) (N a) (Q a) go) → IsExactAt mode (Then (OneWithin over f) M) (Then (OneWithin wide f) N) (one_within over f >>= Q) go
exact_behind {T} {A} {B} {mode} {over} {wide} {M} {N} {Q} {go} f t a known free q = exact_within {lower = false} {M = M} {N = N} {Q = Q} {go = go} f t a known free (λ h. refl) q

-- ---- one of two

-- Texts of the first begin in `first`, and those of the second, with what may stand behind them, do not.
pub exact_choose : {T A : Type 0} {mode : Mode} {L M U N : Lang T A} {P Q : Reader T A} {first : T → Bool} {go : A → T → Bool}
    → IsExactAt mode L U P go → IsExactAt mode M N Q go → Begins first L → Avoids first M go → IsExactAt mode (Either L M) (Either U N) (choose first P Q) go
exact_choose {T} {A} {mode} {L} {M} {U} {N} {P} {Q} {first} {go} p q begins others = record {
  exact = λ o. choose_is L M P Q first go (p.exact o) (q.exact o) begins others;
  some = λ t. some_right (q.some t);
  grows = grows;
  loosens = loosens;
}
  where
    grows : Grows (Either L M) (Either U N)
    grows m n x a (inl l) = inl (p.grows m n x a l)
    grows m n x a (inr l) = inr (q.grows m n x a l)

    loosens : Loosens (Either L M)
    loosens m n x a le (inl l) = inl (p.loosens m n x a le l)
    loosens m n x a le (inr l) = inr (q.loosens m n x a le l)

-- ---- more tokens that may not follow

pub exact_weaken : {T A : Type 0} {mode : Mode} {L U : Lang T A} {P : Reader T A} {less go : A → T → Bool} → ((a : A) → Covers (go a) (less a)) → IsExactAt mode L U P less → IsExactAt mode L U P go
exact_weaken {T} {A} {mode} {L} {U} {P} {less} {go} sub p = record { exact = λ o. weaken_is L P less go sub (p.exact o); some = p.some; grows = p.grows; loosens = p.loosens }

-- What ends by itself, as with a bracket, may stand before anything.
pub exact_closed : {T A : Type 0} {mode : Mode} {L U : Lang T A} {P : Reader T A} {go : A → T → Bool} → IsExactAt mode L U P (λ _. never) → IsExactAt mode L U P go
exact_closed {T} {A} {mode} {L} {U} {P} {go} p = exact_weaken {less = λ _. never} {go = go} (λ a t h. refl) p

-- ---- loops

-- Any number of steps, grouped from the left. A step begins in `first`, and what begins a step does not go on with the step before it.
pub exact_chain : {T A : Type 0} {mode : Mode} {S Z : A → Lang T A} {step : A → Reader T A} {first go inner : T → Bool} → ((a : A) → IsExactAt mode (S a) (Z a) (step a) (λ _. inner))
    → ((a : A) → Begins first (S a)) → Apart first inner → Covers go first → Covers go inner → (a : A) → IsExactAt mode (Chain S a) (Chain Z a) (chain first step a) (λ _. go)
exact_chain {T} {A} {mode} {S} {Z} {step} {first} {go} {inner} p begins items no_first no_step a = record {
  exact = λ o. chain_is S step first (λ _. go) (λ _. inner) (λ a. (p a).exact o) begins (λ b. items) (λ b. no_first) (λ b c. no_step) a;
  some = λ t. some_chain a;
  grows = λ m n x e l. (l.0, links_grow l.0 a m n x e l.1);
  loosens = λ m n x e le l. (l.0, links_loosen l.0 a m n x e le l.1);
}
  where
    links_grow : (k : ℕ) (a : A) → Grows (Links S k a) (Links Z k a)
    links_grow zero a = λ m n x e l. l
    links_grow (suc k) a = then_grows (S a) (Z a) (Links S k) (Links Z k) (p a).grows (links_grow k)

    links_loosen : (k : ℕ) (a : A) → Loosens (Links S k a)
    links_loosen zero a = λ m n x e le l. l
    links_loosen (suc k) a = then_loosens (S a) (Links S k) (p a).loosens (links_loosen k)

-- Steps until one says that the loop is over. To be given: what is read where no token is left; that a step which goes on takes a token;
-- that the rest of the loop does not go on with such a step, nor what follows the loop with its last step; and some text of the loop.
pub exact_loop_with : {T A R : Type 0} {mode : Mode} {S Z : A → Lang T (Step A R)} {step : A → Reader T (Step A R)} {go : R → T → Bool} {inner : Step A R → T → Bool}
    (last : A → Reader T R) → ((a : A) → IsExactAt mode (S a) (Z a) (step a) inner) → ((a : A) (next : A → Reader T R) → last a [] ≡ and_then (step a []) (onward next))
    → ((n : ℕ) (a : A) (x : List T) (b : A) → S a n x (More b) → 0 < length x) → ((b : A) → Avoids (inner (More b)) (Loop S b) go) → ((r : R) → Covers (go r) (inner (Done r)))
    → (HasText mode → (a : A) → Inhabited (Loop S a)) → (a : A) → IsExactAt mode (Loop S a) (Loop Z a) (loop last step a) go
exact_loop_with {T} {A} {R} {mode} {S} {Z} {step} {go} {inner} last p at_end long apart sub some a = record {
  exact = λ o. loop_is S last step go inner (λ a. (p a).exact o) at_end long apart sub (some (open_text mode o)) a;
  some = λ t. some t a;
  grows = λ m n x e l. (l.0, turns_grow l.0 a m n x e l.1);
  loosens = λ m n x e le l. (l.0, turns_loosen l.0 a m n x e le l.1);
}
  where
    onward_grow : (k : ℕ) → ((a : A) → Grows (Turns S k a) (Turns Z k a)) → (o : Step A R) → Grows (Onward (Turns S k) o) (Onward (Turns Z k) o)
    onward_grow k rec (More b) = rec b
    onward_grow k rec (Done r) = λ m n x e l. l

    turns_grow : (k : ℕ) (a : A) → Grows (Turns S k a) (Turns Z k a)
    turns_grow zero a = λ m n x e l. l
    turns_grow (suc k) a = then_grows (S a) (Z a) (Onward (Turns S k)) (Onward (Turns Z k)) (p a).grows (onward_grow k (turns_grow k))

    onward_loosen : (k : ℕ) → ((a : A) → Loosens (Turns S k a)) → (o : Step A R) → Loosens (Onward (Turns S k) o)
    onward_loosen k rec (More b) = rec b
    onward_loosen k rec (Done r) = λ m n x e le l. l

    turns_loosen : (k : ℕ) (a : A) → Loosens (Turns S k a)
    turns_loosen zero a = λ m n x e le l. l
    turns_loosen (suc k) a = then_loosens (S a) (Onward (Turns S k)) (p a).loosens (onward_loosen k (turns_loosen k))

-- The same of a loop that has some text whatever stands inside.
pub exact_loop : {T A R : Type 0} {mode : Mode} {S Z : A → Lang T (Step A R)} {step : A → Reader T (Step A R)} {go : R → T → Bool} {inner : Step A R → T → Bool}
    (last : A → Reader T R) → ((a : A) → IsExactAt mode (S a) (Z a) (step a) inner) → ((a : A) (next : A → Reader T R) → last a [] ≡ and_then (step a []) (onward next))
    → ((n : ℕ) (a : A) (x : List T) (b : A) → S a n x (More b) → 0 < length x) → ((b : A) → Avoids (inner (More b)) (Loop S b) go) → ((r : R) → Covers (go r) (inner (Done r)))
    → ((a : A) → Inhabited (Loop S a)) → (a : A) → IsExactAt mode (Loop S a) (Loop Z a) (loop last step a) go
exact_loop {S = S} {Z = Z} {step = step} {go = go} {inner = inner} last p at_end long apart sub some a =
    exact_loop_with {S = S} {Z = Z} {step = step} {go = go} {inner = inner} last p at_end long apart sub (λ _. some) a

-- The same language in other words.
pub exact_alike : {T A : Type 0} {mode : Mode} {L U M V : Lang T A} {P : Reader T A} {go : A → T → Bool} → ((n : ℕ) (x : List T) (a : A) → L n x a → M n x a) → ((n : ℕ) (x : List T) (a : A) → M n x a → L n x a)
    → ((n : ℕ) (x : List T) (a : A) → U n x a → V n x a) → IsExactAt mode L U P go → IsExactAt mode M V P go
exact_alike {T} {A} {mode} {L} {U} {M} {V} {P} {go} to back wide p = record {
  exact = λ o. alike_is L M P go to back (p.exact o);
  some = λ t. let s = p.some t in record { text = s.text; value = s.value; spelled = to 0 s.text s.value s.spelled };
  grows = λ m n x a l. wide n x a (p.grows m n x a (back m x a l));
  loosens = λ m n x a le l. to m x a (p.loosens m n x a le (back n x a l));
}

-- ---- items with commas between them, and maybe a last comma

module _ {T A B : Type 0} (mode : Mode) (over wide : B → Bool) (is_comma : T → Bool) (comma : T → Option (Unit {0})) (closes ends : T → Bool) (L U : Lang T A) (P : Reader T A) (start : A → B) (add : B → A → B)
    (free : (all : B) → wide all ≡ false)
    (t : T) (known : comma t ≡ Some tt)
    (p : IsExactAt mode L U P (λ _. ends))
    (begins : Begins (inside closes) L)
    (commas : (t : T) (a : Unit {0}) → comma t ≡ Some a → is_comma t ≡ true)
    (bare : Covers (inside closes) is_comma)
    (apart : Apart is_comma ends)
    (closed : Covers (inside closes) ends) where
  -- with which a step may go on
  on : Step B B → T → Bool
  on (More all) = ends
  on (Done all) = inside closes

  item_is : (all : B) → IsExactAt mode (Item over comma L add all) (Item wide comma U add all) (item over is_comma comma closes P add all) on
  unfolding on
  item_is all =
      exact_choose {first = is_comma} {go = on}
      (exact_behind comma t tt known (free all) (λ _. exact_choose {first = inside closes} {go = on} (exact_map {go = on} (λ a. More (add all a)) p) (exact_pure (Done all)) (begins_then begins) (avoids_empty (Done all) (λ t h. h))))
      (exact_pure (Done all))
      (begins_then (begins_one_within (over all) comma commas))
      (avoids_empty (Done all) bare)

  step_avoids : (all : B) → Avoids ends (Item over comma L add all) (λ _. ends)
  step_avoids all = avoids_either (avoids_begins (begins_then (begins_one_within (over all) comma commas)) apart) (avoids_empty (Done all) (λ t h. h))

  item_long : (n : ℕ) (all : B) (x : List T) (more : B) → Item over comma L add all n x (More more) → 0 < length x
  item_long n all x more (inl l) = omega (arith, ap length l.parts, length-append l.front l.back, ap length l.first.1.1)
  item_long n all x more (inr l) = absurd (let bad : More more ≡ Done all = l.1 in cc)

  pub items_is : IsExactAt mode (Items over comma L start add) (Items wide comma U start add) (items over is_comma comma closes P start add) (λ _. inside closes)
  unfolding on
  items_is =
      exact_then {go = λ _. ends} p
      (λ a. exact_loop {go = λ _. inside closes} {inner = on} pure item_is (λ all next. refl) item_long
      (λ all. avoids_loop step_avoids (λ r. closed) all)
      (λ r t h. h)
      (λ all. record { text = []; value = all; spelled = (suc zero, record { front = []; back = []; value = Done all; parts = refl; first = inr (refl, refl); second = (refl, refl) }) })
      (start a))
      (λ a. avoids_loop step_avoids (λ r. closed) (start a))

-- Items with commas between them, and maybe a last comma, up to a token that closes. A comma is too deep where the items before it are
-- too high. To be given: a token that is a comma; an item begins with no token that closes; a comma does not close; and neither a comma
-- nor a token that closes goes on with an item.
pub exact_items : {T A B : Type 0} {mode : Mode} {over wide : B → Bool} {is_comma : T → Bool} {comma : T → Option (Unit {0})} {ends : T → Bool} {L U : Lang T A} {P : Reader T A} {start : A → B} {add : B → A → B}
    (closes : T → Bool) → ((all : B) → wide all ≡ false) → (t : T) → comma t ≡ Some tt → IsExactAt mode L U P (λ _. ends) → Begins (inside closes) L → ((t : T) (a : Unit {0}) → comma t ≡ Some a → is_comma t ≡ true)
    → Covers (inside closes) is_comma → Apart is_comma ends → Covers (inside closes) ends
    → IsExactAt mode (Items over comma L start add) (Items wide comma U start add) (items over is_comma comma closes P start add) (λ _. inside closes)
exact_items {T} {A} {B} {mode} {over} {wide} {is_comma} {comma} {ends} {L} {U} {P} {start} {add} closes free t known p begins commas bare apart closed =
    items_is mode over wide is_comma comma closes ends L U P start add free t known p begins commas bare apart closed
