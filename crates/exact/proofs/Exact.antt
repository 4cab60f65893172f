-- A reader is exact for a language. The record, and its laws for what takes no loop.
use Rattle.std.proofs.Common.{◌≡◌, ℕ, zero, suc, ◌+◌, ◌-◌, ◌≤◌, ◌<◌, Bool, true, false, cond, List, [], ◌∷◌, ◌++◌, length, Option, Some, None, refl, sym, ap, subst, ◌∙◌, append_assoc, arith, inl, inr, ◌⊎◌}
use Rattle.std.proofs.lemmas.List.{length-append}
use Rattle.exact.specs.declared.rule.Rule.{Rule}
use Rattle.exact.specs.declared.rule.Rule.TheVariants.{Unexpected, TooDeep}
use Rattle.exact.specs.Language.{Lang, Empty, OneWithin, Then, Either}
use Rattle.exact.specs.Reading.{Outcome, Got, Stop, Reader, and_then, ◌>>=◌, pure, heads, taken, one_within, choose}
use Rattle.exact.proofs.Heads.{SameHead, SameToken, same_head_behind, same_head_of, same_token_longer, heads_again, heads_begins, heads_less, Begins, Avoids, Covers}

-- What a reader took from the front, whatever comes behind the next token: a text in which all limits are kept.
pub record Took {T A : Type 0} (L : Lang T A) (P : Reader T A) (ts : List T) (a : A) (rest : List T) : Type 0 where
  pub front : List T
  pub parts : ts ≡ front ++ rest
  pub spelled : (n : ℕ) → L n front a
  pub again : (r : List T) → SameHead rest r → P (front ++ r) ≡ Got a r

-- A token that is too deep stands in the text that completes what stands before it.
abbrev pub Keeps : {T : Type 0} → Rule → List T → List T → Type 0
Keeps Unexpected rest more = Unit {0}
Keeps TooDeep rest more = SameToken rest more

-- Where a reader stopped, whatever comes behind that token. What stands before it keeps the limits and can be completed, together with
-- that token where it is too deep.
pub record Stopped {T A : Type 0} (L : Lang T A) (P : Reader T A) (ts : List T) (rule : Rule) (rest : List T) : Type 0 where
  pub front : List T
  pub parts : ts ≡ front ++ rest
  pub again : (r : List T) → SameHead rest r → P (front ++ r) ≡ Stop rule r
  pub more : List T
  pub value : A
  pub viable : L (length front) (front ++ more) value
  pub keeps : Keeps rule rest more

-- Some text of the language, where no limit is kept.
pub record Inhabited {T A : Type 0} (L : Lang T A) : Type 0 where
  pub text : List T
  pub value : A
  pub spelled : L 0 text value

-- A reader stopped at a token of the front that passes a limit, where none is kept.
pub record Passes {T A : Type 0} (n : ℕ) (front rest : List T) (o : Outcome T A) : Type 0 where
  pub at : List T
  pub stopped : o ≡ Stop TooDeep at
  pub within : length rest < length at
  pub behind : n + length at ≤ length front + length rest

-- A text that keeps the limits at the first n tokens is read, or the reader stops at a later token of it, that passes a limit.
abbrev pub Reaches : {T A : Type 0} → ℕ → List T → A → List T → Outcome T A → Type 0
Reaches n front a rest o = (o ≡ Got a rest) ⊎ Passes n front rest o

-- The reader is exact for the language. go has, for each value, the tokens with which a text for that value may go on.
pub record IsExact {T A : Type 0} (L : Lang T A) (P : Reader T A) (go : A → T → Bool) : Type 0 where
  -- what is read is spelled so, within the limits
  pub takes : (ts : List T) (a : A) (rest : List T) → P ts ≡ Got a rest → Took L P ts a rest
  -- where it stops, what stands before keeps the limits and can be completed
  pub stops : (ts : List T) (rule : Rule) (rest : List T) → P ts ≡ Stop rule rest → Stopped L P ts rule rest
  -- what is spelled so is read, up to where the limits are not kept, if the next token does not go on with it
  pub complete : (n : ℕ) (front : List T) (a : A) (rest : List T) → L n front a → heads (go a) rest ≡ false → Reaches n front a rest (P (front ++ rest))

-- ---- lengths

pub left_of : {T : Type 0} (x y : List T) → length (x ++ y) - length x ≡ length y
left_of x y = omega (arith, length-append x y)

pub none_of : {T : Type 0} (x y : List T) → length x - length (x ++ y) ≡ 0
none_of x y = omega (arith, length-append x y)

pub keeps_longer : {T : Type 0} (rule : Rule) (rest more s : List T) → Keeps rule rest more → Keeps rule rest (more ++ s)
keeps_longer Unexpected rest more s h = tt
keeps_longer TooDeep rest more s h = same_token_longer rest more s h

-- Where all limits are kept the text is read.
pub reaches_got : {T A : Type 0} (n : ℕ) (front : List T) (a : A) (rest : List T) (o : Outcome T A) → length front ≤ n → Reaches n front a rest o → o ≡ Got a rest
reaches_got n front a rest o le (inl e) = e
reaches_got n front a rest o le (inr s) = absurd (let lt = s.within in let more = s.behind in omega arith)

-- ---- no token

pub pure_is : {T A : Type 0} (go : A → T → Bool) (a : A) → IsExact (Empty {T = T} a) (pure a) go
pure_is {T} {A} go a = record {
  takes = λ ts b rest e.
      let same : a ≡ b = cc in let tail : ts ≡ rest = cc in
      record { front = []; parts = tail; spelled = λ n. (refl, sym same); again = λ r h. ap (λ (x : A). Got x r) same };
  stops = λ ts rule rest e. absurd cc;
  complete = λ n front b rest h stop. inl (rw (h.0, h.1) refl);
}

-- ---- one token

taken_got : {T A : Type 0} (over : Bool) (o : Option A) (t : T) (ts : List T) (a : A) (rest : List T) → taken over o t ts ≡ Got a rest → (over ≡ false) × (o ≡ Some a) × (ts ≡ rest)
taken_got over None t ts a rest e = absurd cc
taken_got true (Some b) t ts a rest e = absurd cc
taken_got false (Some b) t ts a rest e = (refl, cc, cc)

module _ {T A : Type 0} (over : Bool) (f : T → Option A) (t : T) (a : A) (h : f t ≡ Some a) where
  one_takes : (ts : List T) (b : A) (rest : List T) → one_within over f ts ≡ Got b rest → Took (OneWithin over f) (one_within over f) ts b rest
  one_takes [] b rest e = absurd cc
  one_takes (u ∷ ts) b rest e =
      let g = taken_got over (f u) u ts b rest e in
      record { front = u ∷ []; parts = ap (λ (x : List _). u ∷ x) g.2; spelled = λ n. (λ _. g.0, (u, refl, g.1)); again = λ r same. rw (g.0, g.1) refl }

  none_again : (rule : Rule) (rest : List T) → [] ≡ rest → Unexpected ≡ rule → (r : List T) → SameHead rest r → one_within over f r ≡ Stop rule r
  none_again rule rest eq why [] same = rw (← why) refl
  none_again rule rest eq why (x ∷ r) same = let bad : SameHead [] (x ∷ r) = same_head_of [] rest (x ∷ r) eq same in absurd bad

  -- the same token again, and whatever comes behind it
  token_again : (u : T) (ts rest : List T) (rule : Rule) (o : Option A) → u ∷ ts ≡ rest → f u ≡ o → ((x : T) (r : List T) → taken over o x r ≡ Stop rule (x ∷ r)) → (r : List T) → SameHead rest r → one_within over f r ≡ Stop rule r
  token_again u ts rest rule o eq known stop [] same = let bad : SameHead (u ∷ ts) [] = same_head_of (u ∷ ts) rest [] eq same in absurd bad
  token_again u ts rest rule o eq known stop (x ∷ r) same =
      let head : u ≡ x = same_head_of (u ∷ ts) rest (x ∷ r) eq same in
      let now : f x ≡ o = rw (← head) known in
      rw now (stop x r)

  -- no limit is kept at a token behind the front
  unbound : 0 < 0 → over ≡ false
  unbound lt = absurd (omega arith)

  stops_at : (limit : Bool) → over ≡ limit → (u : T) (ts : List T) (o : Option A) → f u ≡ o → (rule : Rule) (rest : List T) → taken limit o u ts ≡ Stop rule rest → Stopped (OneWithin over f) (one_within over f) (u ∷ ts) rule rest
  stops_at limit is u ts None known rule rest e =
      let why : Unexpected ≡ rule = cc in let parts : u ∷ ts ≡ rest = cc in
      record {
        front = [];
        parts = parts;
        again = token_again u ts rest rule None parts known (λ x r. ap (λ (w : Rule). Stop w (x ∷ r)) why);
        more = t ∷ [];
        value = a;
        viable = (unbound, (t, refl, h));
        keeps = subst (λ (w : Rule). Keeps w rest (t ∷ [])) why tt;
      }
  stops_at true is u ts (Some b) known rule rest e =
      let why : TooDeep ≡ rule = cc in let parts : u ∷ ts ≡ rest = cc in
      record {
        front = [];
        parts = parts;
        again = token_again u ts rest rule (Some b) parts known (λ x r. rw is (ap (λ (w : Rule). Stop w (x ∷ r)) why));
        more = u ∷ [];
        value = b;
        viable = (unbound, (u, refl, known));
        keeps = subst (λ (w : Rule). Keeps w rest (u ∷ [])) why (subst (λ (z : List T). SameToken z (u ∷ [])) parts refl);
      }
  stops_at false is u ts (Some b) known rule rest e = absurd cc

  one_stops : (ts : List T) (rule : Rule) (rest : List T) → one_within over f ts ≡ Stop rule rest → Stopped (OneWithin over f) (one_within over f) ts rule rest
  one_stops [] rule rest e =
      let parts : [] ≡ rest = cc in let why : Unexpected ≡ rule = cc in
      record {
        front = [];
        parts = parts;
        again = none_again rule rest parts why;
        more = t ∷ [];
        value = a;
        viable = (unbound, (t, refl, h));
        keeps = subst (λ (w : Rule). Keeps w rest (t ∷ [])) why tt;
      }
  one_stops (u ∷ ts) rule rest e = stops_at over refl u ts (f u) refl rule rest e

  one_reaches : (n : ℕ) (limit : Bool) → over ≡ limit → (0 < n → over ≡ false) → (u : T) (b : A) (rest : List T) → Reaches n (u ∷ []) b rest (taken limit (Some b) u rest)
  one_reaches n false is free u b rest = inl refl
  one_reaches zero true is free u b rest = inr (record { at = u ∷ rest; stopped = refl; within = omega arith; behind = omega arith })
  one_reaches (suc n) true is free u b rest = absurd (let bad : true ≡ false = sym is ∙ free (omega arith) in cc)

  pub one_within_is : (go : A → T → Bool) → IsExact (OneWithin over f) (one_within over f) go
  one_within_is go = record {
    takes = one_takes;
    stops = one_stops;
    complete = λ n front b rest l stop. rw l.1.1 (rw l.1.2 (one_reaches n over refl l.0 l.1.0 b rest));
  }

-- ---- one behind the other

module _ {T A B : Type 0} (L : Lang T A) (M : A → Lang T B) (P : Reader T A) (Q : A → Reader T B) (go : A → T → Bool) (goM : B → T → Bool)
    (p : IsExact L P go) (q : (a : A) → IsExact (M a) (Q a) goM) (apart : (a : A) → Avoids (go a) (M a) goM) (some : (a : A) → Inhabited (M a)) where
  then_again : (f1 f2 : List T) (a : A) (mid rest r : List T) (o : Outcome T B) → mid ≡ f2 ++ rest → ((s : List T) → SameHead mid s → P (f1 ++ s) ≡ Got a s) → SameHead rest r → Q a (f2 ++ r) ≡ o
      → (P >>= Q) ((f1 ++ f2) ++ r) ≡ o
  then_again f1 f2 a mid rest r o parts again same next =
      let here : P (f1 ++ (f2 ++ r)) ≡ Got a (f2 ++ r) = again (f2 ++ r) (same_head_of mid (f2 ++ rest) (f2 ++ r) parts (same_head_behind f2 rest r same)) in
      ap (λ (z : List T). (P >>= Q) z) (append_assoc f1 f2 r) ∙ ap (λ (z : Outcome T A). and_then z Q) here ∙ next

  then_takes : (ts : List T) (b : B) (rest : List T) (o : Outcome T A) → P ts ≡ o → and_then o Q ≡ Got b rest → Took (Then L M) (P >>= Q) ts b rest
  then_takes ts b rest (Got a mid) e h =
      let f = p.takes ts a mid e in let s = (q a).takes mid b rest h in
      record {
        front = f.front ++ s.front;
        parts = f.parts ∙ ap (λ (z : List T). f.front ++ z) s.parts ∙ sym (append_assoc f.front s.front rest);
        spelled = λ n. record { front = f.front; back = s.front; value = a; parts = refl; first = f.spelled n; second = s.spelled (n - length f.front) };
        again = λ r same. then_again f.front s.front a mid rest r (Got b r) s.parts f.again same (s.again r same);
      }
  then_takes ts b rest (Stop rule mid) e h = absurd cc

  then_stops : (ts : List T) (rule : Rule) (rest : List T) (o : Outcome T A) → P ts ≡ o → and_then o Q ≡ Stop rule rest → Stopped (Then L M) (P >>= Q) ts rule rest
  then_stops ts rule rest (Got a mid) e h =
      let f = p.takes ts a mid e in let s = (q a).stops mid rule rest h in
      record {
        front = f.front ++ s.front;
        parts = f.parts ∙ ap (λ (z : List T). f.front ++ z) s.parts ∙ sym (append_assoc f.front s.front rest);
        again = λ r same. then_again f.front s.front a mid rest r (Stop rule r) s.parts f.again same (s.again r same);
        more = s.more;
        value = s.value;
        viable = record {
          front = f.front;
          back = s.front ++ s.more;
          value = a;
          parts = append_assoc f.front s.front s.more;
          first = f.spelled (length (f.front ++ s.front));
          second = subst (λ (k : ℕ). M a k (s.front ++ s.more) s.value) (sym (left_of f.front s.front)) s.viable;
        };
        keeps = s.keeps;
      }
  then_stops ts rule rest (Stop why mid) e h =
      let same_rule : why ≡ rule = cc in let same_rest : mid ≡ rest = cc in
      let all : P ts ≡ Stop rule rest = rw (← same_rule, ← same_rest) e in
      let f = p.stops ts rule rest all in let s = some f.value in
      record {
        front = f.front;
        parts = f.parts;
        again = λ r same. ap (λ (z : Outcome T A). and_then z Q) (f.again r same);
        more = f.more ++ s.text;
        value = s.value;
        viable = record {
          front = f.front ++ f.more;
          back = s.text;
          value = f.value;
          parts = sym (append_assoc f.front f.more s.text);
          first = f.viable;
          second = subst (λ (k : ℕ). M f.value k s.text s.value) (sym (none_of f.front f.more)) s.spelled;
        };
        keeps = keeps_longer rule rest f.more s.text f.keeps;
      }

  then_reaches : (n : ℕ) (f1 f2 : List T) (a : A) (b : B) (rest : List T) → Reaches n f1 a (f2 ++ rest) (P (f1 ++ (f2 ++ rest))) → Reaches (n - length f1) f2 b rest (Q a (f2 ++ rest)) → Reaches n (f1 ++ f2) b rest ((P >>= Q) (f1 ++ (f2 ++ rest)))
  then_reaches n f1 f2 a b rest (inl e) (inl h) = inl (ap (λ (z : Outcome T A). and_then z Q) e ∙ h)
  then_reaches n f1 f2 a b rest (inl e) (inr s) =
      let le = s.behind in
      inr (record { at = s.at; stopped = ap (λ (z : Outcome T A). and_then z Q) e ∙ s.stopped; within = s.within; behind = omega (arith, length-append f1 f2) })
  then_reaches n f1 f2 a b rest (inr s) next =
      let lt = s.within in let le = s.behind in
      inr (record { at = s.at; stopped = ap (λ (z : Outcome T A). and_then z Q) s.stopped; within = omega (arith, length-append f2 rest); behind = omega (arith, length-append f1 f2, length-append f2 rest) })

  then_complete : (n : ℕ) (front : List T) (b : B) (rest : List T) → Then L M n front b → heads (goM b) rest ≡ false → Reaches n front b rest ((P >>= Q) (front ++ rest))
  then_complete n front b rest t stop =
      let all = then_reaches n t.front t.back t.value b rest (p.complete n t.front t.value (t.back ++ rest) t.first ((apart t.value).at (n - length t.front) t.back b rest t.second stop)) ((q t.value).complete (n - length t.front) t.back b rest t.second stop) in
      subst (λ (z : List T). Reaches n z b rest ((P >>= Q) (z ++ rest))) (sym t.parts) (subst (λ (z : List T). Reaches n (t.front ++ t.back) b rest ((P >>= Q) z)) (sym (append_assoc t.front t.back rest)) all)

  pub then_is : IsExact (Then L M) (P >>= Q) goM
  then_is = record { takes = λ ts b rest e. then_takes ts b rest (P ts) refl e; stops = λ ts rule rest e. then_stops ts rule rest (P ts) refl e; complete = then_complete }

-- ---- one of two, by the next token

pub choose_true : {T A : Type 0} (first : T → Bool) (P Q : Reader T A) (ts : List T) → heads first ts ≡ true → choose first P Q ts ≡ P ts
choose_true first P Q ts h = ap (λ (b : Bool). cond b (P ts) (Q ts)) h

pub choose_false : {T A : Type 0} (first : T → Bool) (P Q : Reader T A) (ts : List T) → heads first ts ≡ false → choose first P Q ts ≡ Q ts
choose_false first P Q ts h = ap (λ (b : Bool). cond b (P ts) (Q ts)) h

module _ {T A : Type 0} (L M : Lang T A) (P Q : Reader T A) (first : T → Bool) (go : A → T → Bool)
    (p : IsExact L P go) (q : IsExact M Q go) (begins : Begins first L) (others : Avoids first M go) where
  choose_takes : (b : Bool) (ts : List T) (a : A) (rest : List T) → heads first ts ≡ b → choose first P Q ts ≡ Got a rest → Took (Either L M) (choose first P Q) ts a rest
  choose_takes true ts a rest h e =
      let f = p.takes ts a rest (sym (choose_true first P Q ts h) ∙ e) in
      record { front = f.front; parts = f.parts; spelled = λ n. inl (f.spelled n); again = λ r same. choose_true first P Q (f.front ++ r) (heads_again first true ts f.front rest r h f.parts same) ∙ f.again r same }
  choose_takes false ts a rest h e =
      let f = q.takes ts a rest (sym (choose_false first P Q ts h) ∙ e) in
      record { front = f.front; parts = f.parts; spelled = λ n. inr (f.spelled n); again = λ r same. choose_false first P Q (f.front ++ r) (heads_again first false ts f.front rest r h f.parts same) ∙ f.again r same }

  choose_stops : (b : Bool) (ts : List T) (rule : Rule) (rest : List T) → heads first ts ≡ b → choose first P Q ts ≡ Stop rule rest → Stopped (Either L M) (choose first P Q) ts rule rest
  choose_stops true ts rule rest h e =
      let f = p.stops ts rule rest (sym (choose_true first P Q ts h) ∙ e) in
      record { front = f.front; parts = f.parts; more = f.more; value = f.value; viable = inl f.viable; keeps = f.keeps; again = λ r same. choose_true first P Q (f.front ++ r) (heads_again first true ts f.front rest r h f.parts same) ∙ f.again r same }
  choose_stops false ts rule rest h e =
      let f = q.stops ts rule rest (sym (choose_false first P Q ts h) ∙ e) in
      record { front = f.front; parts = f.parts; more = f.more; value = f.value; viable = inr f.viable; keeps = f.keeps; again = λ r same. choose_false first P Q (f.front ++ r) (heads_again first false ts f.front rest r h f.parts same) ∙ f.again r same }

  choose_complete : (n : ℕ) (front : List T) (a : A) (rest : List T) → Either L M n front a → heads (go a) rest ≡ false → Reaches n front a rest (choose first P Q (front ++ rest))
  choose_complete n front a rest (inl l) stop = subst (λ (o : Outcome T A). Reaches n front a rest o) (sym (choose_true first P Q (front ++ rest) (heads_begins first front rest (begins.at n front a l)))) (p.complete n front a rest l stop)
  choose_complete n front a rest (inr m) stop = subst (λ (o : Outcome T A). Reaches n front a rest o) (sym (choose_false first P Q (front ++ rest) (others.at n front a rest m stop))) (q.complete n front a rest m stop)

  pub choose_is : IsExact (Either L M) (choose first P Q) go
  choose_is = record { takes = λ ts a rest e. choose_takes (heads first ts) ts a rest refl e; stops = λ ts rule rest e. choose_stops (heads first ts) ts rule rest refl e; complete = choose_complete }

-- ---- the same language, said otherwise

module _ {T A : Type 0} (L M : Lang T A) (P : Reader T A) (go : A → T → Bool) (to : (n : ℕ) (x : List T) (a : A) → L n x a → M n x a) (from : (n : ℕ) (x : List T) (a : A) → M n x a → L n x a) (p : IsExact L P go) where
  pub alike_is : IsExact M P go
  alike_is = record {
    takes = λ ts a rest e. let f = p.takes ts a rest e in record { front = f.front; parts = f.parts; spelled = λ n. to n f.front a (f.spelled n); again = f.again };
    stops = λ ts rule rest e. let f = p.stops ts rule rest e in record { front = f.front; parts = f.parts; again = f.again; more = f.more; value = f.value; viable = to (length f.front) (f.front ++ f.more) f.value f.viable; keeps = f.keeps };
    complete = λ n front a rest l stop. p.complete n front a rest (from n front a l) stop;
  }

-- ---- with more tokens that may not follow

pub weaken_is : {T A : Type 0} (L : Lang T A) (P : Reader T A) (less go : A → T → Bool) → ((a : A) → Covers (go a) (less a)) → IsExact L P less → IsExact L P go
weaken_is L P less go sub p = record { takes = p.takes; stops = p.stops; complete = λ n front a rest l stop. p.complete n front a rest l (heads_less (go a) (less a) (sub a) rest stop) }
