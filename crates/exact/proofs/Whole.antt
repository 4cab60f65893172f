-- From exactness to what is promised: at most one value for a text, what is found, that only that is found, and where a text is refused.
use Rattle.std.proofs.Common.{◌≡◌, ℕ, zero, suc, ◌+◌, ◌≤◌, ◌<◌, Bool, true, false, cond, List, [], ◌∷◌, ◌++◌, length, take, refl, sym, ap, subst, ◌∙◌, arith, inl, inr, ◌⊎◌}
use Rattle.std.proofs.lemmas.Bool.{cases_lt}
use Rattle.std.proofs.lemmas.List.{length-append, append-nil}
use Rattle.exact.specs.declared.rule.Rule.{Rule}
use Rattle.exact.specs.declared.rule.Rule.TheVariants.{Unexpected, TooDeep}
use Rattle.exact.specs.Language.{Lang}
use Rattle.exact.specs.Reading.{Outcome, Got, Stop, Reader, and_then, heads, end_behind, whole}
use Rattle.exact.specs.Promise.{IsDead, IsAlive, IsAliveThrough, IsRefused, IsPrefix, Any, Ended, Spells}
use Rattle.exact.proofs.Heads.{SameHead, SameToken}
use Rattle.exact.proofs.Exact.{IsExact, Stopped, Keeps, Reaches, reaches_got}
use Rattle.exact.proofs.Laws.{Loosens, Grows}

-- ---- lists that agree up to and including the token behind a front

agree : {T : Type 0} (front rest s : List T) → take (suc (length front)) s ≡ take (suc (length front)) (front ++ rest) → (r : List T) × (s ≡ front ++ r) × SameHead rest r
agree [] [] [] e = ([], refl, tt)
agree [] [] (u ∷ s) e = absurd cc
agree [] (t ∷ rest) [] e = absurd cc
agree [] (t ∷ rest) (u ∷ s) e = let same : t ≡ u = cc in (u ∷ s, refl, same)
agree (t ∷ front) rest [] e = absurd cc
agree {T} (t ∷ front) rest (u ∷ s) e =
    let head : u ≡ t = cc in
    let tail : take (suc (length front)) s ≡ take (suc (length front)) (front ++ rest) = cc in
    let a = agree front rest s tail in
    (a.0, ap (λ (x : T). x ∷ s) head ∙ ap (λ (z : List T). t ∷ z) a.1, a.2)

take_front : {T : Type 0} (front r : List T) → take (length front) (front ++ r) ≡ front
take_front [] r = refl
take_front {T} (t ∷ front) r = ap (λ (z : List T). t ∷ z) (take_front front r)

-- the token behind the front too
take_through : {T : Type 0} (front rest more : List T) → SameHead rest more → take (suc (length front)) (front ++ more) ≡ take (suc (length front)) (front ++ rest)
take_through [] [] [] h = refl
take_through [] [] (u ∷ more) h = absurd h
take_through [] (t ∷ rest) [] h = absurd h
take_through {T} [] (t ∷ rest) (u ∷ more) h = ap (λ (x : T). x ∷ []) (sym h)
take_through {T} (t ∷ front) rest more h = ap (λ (z : List T). t ∷ z) (take_through front rest more h)

take_short : {T : Type 0} (j k : ℕ) (ts : List T) → j ≤ k → take j (take k ts) ≡ take j ts
take_short zero k ts le = refl
take_short (suc j) zero ts le = absurd (omega arith)
take_short (suc j) (suc k) [] le = refl
take_short {T} (suc j) (suc k) (t ∷ ts) le = ap (λ (z : List T). t ∷ z) (take_short j k ts (omega arith))

-- lists that agree before one place agree before an earlier one
agree_before : {T : Type 0} (j k : ℕ) (s ts : List T) → j ≤ k → take k s ≡ take k ts → take j s ≡ take j ts
agree_before j k s ts le e = sym (take_short j k s le) ∙ ap (λ (z : List _). take j z) e ∙ take_short j k ts le

same_end : {T : Type 0} (r : List T) → SameHead [] r → r ≡ []
same_end [] h = refl
same_end (t ∷ r) h = absurd h

same_head_of_token : {T : Type 0} (a b : List T) → SameToken a b → SameHead a b
same_head_of_token [] b h = absurd h
same_head_of_token (x ∷ a) [] h = absurd h
same_head_of_token (x ∷ a) (y ∷ b) h = h

module _ {T : Type 0} (ts front rest : List T) (parts : ts ≡ front ++ rest) (k : ℕ) (place : k + length rest ≡ length ts) where
  front_number : k ≡ length front
  front_number = omega (arith, length-append front rest, ap length parts)

  take_number : take k ts ≡ front
  take_number = rw (front_number, parts) (take_front front rest)

  take_completed : (more : List T) → take k (front ++ more) ≡ take k ts
  take_completed more = rw (front_number, parts) (take_front front more ∙ sym (take_front front rest))

  take_completed_through : (more : List T) → SameHead rest more → take (suc k) (front ++ more) ≡ take (suc k) ts
  take_completed_through more h = rw (front_number, parts) (take_through front rest more h)

  agree_number : (s : List T) → take (suc k) s ≡ take (suc k) ts → (r : List T) × (s ≡ front ++ r) × SameHead rest r
  agree_number s e = agree front rest s (subst (λ (z : List T). take (suc (length front)) s ≡ take (suc (length front)) z) parts (subst (λ (i : ℕ). take (suc i) s ≡ take (suc i) ts) front_number e))

-- ---- a reader of texts, and where it halts

-- A text that keeps the limits at its first n tokens is read to its end, or the reader stops at a later token of it, that passes a limit.
abbrev pub Meets : {T A : Type 0} → ℕ → List T → A → Outcome T A → Type 0
Meets n s x o = (o ≡ Got x []) ⊎ ((at : List _) × (o ≡ Stop TooDeep at) × (n + length at ≤ length s))

abbrev MayKeep : {T : Type 0} → Rule → List T → List T → Type 0
MayKeep Unexpected rest more = Unit {0}
MayKeep TooDeep rest more = SameHead rest more

-- where a reader halts, as `Stopped` has it, but the end may be too deep too
record Halted {T A : Type 0} (X : Lang T A) (W : Reader T A) (ts : List T) (rule : Rule) (rest : List T) : Type 0 where
  front : List T
  parts : ts ≡ front ++ rest
  again : (r : List T) → SameHead rest r → W (front ++ r) ≡ Stop rule r
  more : List T
  value : A
  viable : X (length front) (front ++ more) value
  keeps : MayKeep rule rest more

halted : {T A : Type 0} (X : Lang T A) (W : Reader T A) (ts : List T) (rule : Rule) (rest : List T) → Stopped X W ts rule rest → Halted X W ts rule rest
halted {T} {A} X W ts rule rest f = record { front = f.front; parts = f.parts; again = f.again; more = f.more; value = f.value; viable = f.viable; keeps = keeps rule f.more f.keeps }
  where
    keeps : (rule : Rule) (more : List T) → Keeps rule rest more → MayKeep rule rest more
    keeps Unexpected more h = tt
    keeps TooDeep more h = same_head_of_token rest more h

-- X has a language for each number of parts that may be open beyond the limit, and the reader meets them all.
module _ {T A : Type 0} (X : ℕ → Lang T A) (W : Reader T A) (meets : (spare n : ℕ) (s : List T) (x : A) → X spare n s x → Meets n s x (W s)) where
  not_unexpected : (n : ℕ) (s : List T) (x : A) (r : List T) → W s ≡ Stop Unexpected r → Meets n s x (W s) → ⊥
  not_unexpected n s x r e (inl f) = let bad : ◌≡◌ {A = Outcome T A} (Stop Unexpected r) (Got x []) = sym e ∙ f in absurd cc
  not_unexpected n s x r e (inr m) = let bad : ◌≡◌ {A = Outcome T A} (Stop Unexpected r) (Stop TooDeep m.0) = sym e ∙ m.1 in absurd cc

  not_so_early : (k n : ℕ) (s : List T) (x : A) (r : List T) → W s ≡ Stop TooDeep r → k + length r ≡ length s → k < n → Meets n s x (W s) → ⊥
  not_so_early k n s x r e place lt (inl f) = let bad : ◌≡◌ {A = Outcome T A} (Stop TooDeep r) (Got x []) = sym e ∙ f in absurd cc
  not_so_early k n s x r e place lt (inr m) =
      let same : ◌≡◌ {A = Outcome T A} (Stop TooDeep r) (Stop TooDeep m.0) = sym e ∙ m.1 in
      let tail : r ≡ m.0 = cc in
      let le = m.2 in
      absurd (omega (arith, ap length tail))

  dead_at_unexpected : (ts rest : List T) (f : Halted (X 0) W ts Unexpected rest) (k : ℕ) → k + length rest ≡ length ts → IsDead (Any X 0) ts k
  dead_at_unexpected ts rest f k place s x l e =
      let b = agree_number ts f.front rest f.parts k place s e in
      not_unexpected 0 s x b.0 (ap W b.1 ∙ f.again b.0 b.2) (meets l.0 0 s x l.1)

  dead_at_limit : (ts rest : List T) (f : Halted (X 0) W ts TooDeep rest) (k : ℕ) → k + length rest ≡ length ts → IsDead (Any X (suc k)) ts k
  dead_at_limit ts rest f k place s x l e =
      let b = agree_number ts f.front rest f.parts k place s e in
      let n = front_number ts f.front rest f.parts k place in
      not_so_early k (suc k) s x b.0 (ap W b.1 ∙ f.again b.0 b.2) (omega (arith, length-append f.front b.0, ap length b.1)) (omega arith) (meets l.0 (suc k) s x l.1)

  halted_refused : (ts : List T) (rule : Rule) (rest : List T) → Halted (X 0) W ts rule rest → (k : ℕ) → k + length rest ≡ length ts → IsRefused (Any X) ts rule k
  halted_refused ts Unexpected rest f k place =
      let n = front_number ts f.front rest f.parts k place in
      let alive : IsAlive (Any X k) ts k = (f.front ++ f.more, f.value, (zero, subst (λ (i : ℕ). X zero i (f.front ++ f.more) f.value) (sym n) f.viable), take_completed ts f.front rest f.parts k place f.more) in
      (omega arith, dead_at_unexpected ts rest f k place, alive)
  halted_refused ts TooDeep rest f k place =
      let n = front_number ts f.front rest f.parts k place in
      let alive : IsAliveThrough (Any X k) ts k = (f.front ++ f.more, f.value, (zero, subst (λ (i : ℕ). X zero i (f.front ++ f.more) f.value) (sym n) f.viable), take_completed_through ts f.front rest f.parts k place f.more f.keeps) in
      (omega arith, dead_at_limit ts rest f k place, alive)

-- ---- a text is refused at one token, for one reason

module _ {T A : Type 0} (L : Lang T A) (loosens : Loosens L) (ts : List T) where
  -- what is dead with fewer limits, and alive with more, further on
  clash : (m n j k : ℕ) → m ≤ n → j < k → IsDead (L m) ts j → IsAlive (L n) ts k → ⊥
  clash m n j k le lt dead alive = dead alive.0 alive.1 (loosens m n alive.0 alive.1 le alive.2) (agree_before (suc j) k alive.0 ts lt alive.3)

  same_number : (j k : ℕ) → (j < k → ⊥) → (k < j → ⊥) → j ≡ k
  same_number j k one two = cases (cases_lt j k) (cases_lt k j)
    where
      cases : (j < k) ⊎ (k ≤ j) → (k < j) ⊎ (j ≤ k) → j ≡ k
      cases (inl lt) _ = absurd (one lt)
      cases (inr le) (inl lt) = absurd (two lt)
      cases (inr le) (inr more) = omega arith

  never_both : (j k : ℕ) → IsRefused L ts Unexpected j → IsRefused L ts TooDeep k → ⊥
  never_both j k a b = cases (cases_lt k j)
    where
      cases : (k < j) ⊎ (j ≤ k) → ⊥
      cases (inl lt) = clash (suc k) j k j lt lt b.1 a.2
      cases (inr le) = clash 0 k j (suc k) (omega arith) (omega arith) a.1 b.2

  pub refused_once : (one other : Rule) (j k : ℕ) → IsRefused L ts one j → IsRefused L ts other k → (one ≡ other) × (j ≡ k)
  refused_once Unexpected Unexpected j k a b = (refl, same_number j k (λ lt. clash 0 k j k (omega arith) lt a.1 b.2) (λ lt. clash 0 j k j (omega arith) lt b.1 a.2))
  refused_once TooDeep TooDeep j k a b = (refl, same_number j k (λ lt. clash (suc j) k j (suc k) lt (omega arith) a.1 b.2) (λ lt. clash (suc k) j k (suc j) lt (omega arith) b.1 a.2))
  refused_once Unexpected TooDeep j k a b = absurd (never_both j k a b)
  refused_once TooDeep Unexpected j k a b = absurd (never_both k j b a)

  pub spelled_not_refused : (rule : Rule) (k : ℕ) (x : A) → Spells L ts x → IsRefused L ts rule k → ⊥
  spelled_not_refused Unexpected k x l r = r.1 ts x (loosens 0 (suc (length ts)) ts x (omega arith) l) refl
  spelled_not_refused TooDeep k x l r = let le = r.0 in r.1 ts x (loosens (suc k) (suc (length ts)) ts x (omega arith) l) refl

-- ---- of a reader that is exact, however many parts may be open beyond the limit

module _ {T A : Type 0} (L : ℕ → Lang T A) (P : Reader T A) (go : A → T → Bool) (exact : (spare : ℕ) → IsExact (L spare) P go) where
  front_reaches : (spare n : ℕ) (s : List T) (x : A) → L spare n s x → Reaches n s x [] (P s)
  front_reaches spare n s x l = subst (λ (z : List T). Reaches n s x [] (P z)) (append-nil s) ((exact spare).complete n s x [] l refl)

  front_meets : (spare n : ℕ) (s : List T) (x : A) → L spare n s x → Meets n s x (P s)
  front_meets spare n s x l = cases (front_reaches spare n s x l)
    where
      cases : Reaches n s x [] (P s) → Meets n s x (P s)
      cases (inl e) = inl e
      cases (inr p) = let le = p.behind in inr (p.at, p.stopped, omega arith)

  -- ---- what stands in front

  -- Where the reader stops, the tokens are refused.
  pub stop_refused : (ts : List T) (rule : Rule) (rest : List T) → P ts ≡ Stop rule rest → (k : ℕ) → k + length rest ≡ length ts → IsRefused (Any L) ts rule k
  stop_refused ts rule rest e k place = halted_refused L P front_meets ts rule rest (halted (L 0) P ts rule rest ((exact 0).stops ts rule rest e)) k place

  -- What is read is a front of the tokens that no text of the grammar goes on with.
  pub got_prefix : (ts : List T) (a : A) (rest : List T) → P ts ≡ Got a rest → (k : ℕ) → k + length rest ≡ length ts → IsPrefix (Any L) ts a k
  got_prefix ts a rest e k place =
      let f = (exact 0).takes ts a rest e in
      (omega arith, (zero, rw (take_number ts f.front rest f.parts k place) (f.spelled k)), λ lt. next rest e place lt)
    where
      other : (t : T) (mid r : List T) (s : List T) (x : A) → P s ≡ Got a r → SameHead (t ∷ mid) r → Meets 0 s x (P s) → ⊥
      other t mid [] s x e same m = absurd same
      other t mid (u ∷ r) s x e same (inl f) = let bad : ◌≡◌ {A = Outcome T A} (Got a (u ∷ r)) (Got x []) = sym e ∙ f in absurd cc
      other t mid (u ∷ r) s x e same (inr f) = let bad : ◌≡◌ {A = Outcome T A} (Got a (u ∷ r)) (Stop TooDeep f.0) = sym e ∙ f.1 in absurd cc

      next : (rest : List T) → P ts ≡ Got a rest → k + length rest ≡ length ts → k < length ts → IsDead (Any L 0) ts k
      next [] e place lt = absurd (omega arith)
      next (t ∷ mid) e place lt = λ s x l same.
          let f = (exact 0).takes ts a (t ∷ mid) e in
          let b = agree_number ts f.front (t ∷ mid) f.parts k place s same in
          other t mid b.0 s x (ap P b.1 ∙ f.again b.0 b.2) b.2 (front_meets l.0 0 s x l.1)

  -- A front that is spelled within the limits is read, where the token behind it does not go on with it.
  pub prefix_read : (front : List T) (a : A) (rest : List T) → Any L (length front) front a → heads (go a) rest ≡ false → P (front ++ rest) ≡ Got a rest
  prefix_read front a rest l stop = reaches_got (length front) front a rest (P (front ++ rest)) (omega arith) ((exact l.0).complete (length front) front a rest l.1 stop)

  -- A text that keeps the limits has one value.
  pub one_value : (s : List T) (x y : A) → Any L (length s) s x → Any L (length s) s y → x ≡ y
  one_value s x y l m = let e : ◌≡◌ {A = Outcome T A} (Got x []) (Got y []) = sym (prefix_read s x [] l refl) ∙ prefix_read s y [] m refl in cc

  -- ---- the whole text, and its end

  ended_meets : (tall : A → Bool) (spare n : ℕ) (s : List T) (x : A) → Ended tall (L spare) n s x → Meets n s x (whole tall P s)
  ended_meets tall spare n s x l = cases (front_reaches spare n s x l.0)
    where
      at_end : (b : Bool) → tall x ≡ b → (length s < n ⊎ n ≤ length s) → Meets n s x (cond b (Stop TooDeep []) (Got x []))
      at_end false low h = inl refl
      at_end true high (inl lt) = absurd (let bad : true ≡ false = sym high ∙ l.1 lt in cc)
      at_end true high (inr le) = inr ([], refl, omega arith)

      cases : Reaches n s x [] (P s) → Meets n s x (whole tall P s)
      cases (inl e) = subst (λ (o : Outcome T A). Meets n s x (and_then o (end_behind tall))) (sym e) (at_end (tall x) refl (cases_lt (length s) n))
      cases (inr p) = let le = p.behind in inr (p.at, ap (λ (o : Outcome T A). and_then o (end_behind tall)) p.stopped, omega arith)

  whole_halted : (tall : A → Bool) (ts : List T) (rule : Rule) (rest : List T) → whole tall P ts ≡ Stop rule rest → Halted (Ended tall (L 0)) (whole tall P) ts rule rest
  whole_halted tall ts rule rest e = by_answer (P ts) refl e
    where
      behind : (front r : List T) (a : A) → P (front ++ r) ≡ Got a r → whole tall P (front ++ r) ≡ end_behind tall a r
      behind front r a e = ap (λ (o : Outcome T A). and_then o (end_behind tall)) e

      past : (front : List T) (a : A) → length front < length front → tall a ≡ false
      past front a lt = absurd (omega arith)

      too_high : (b : Bool) (a : A) → tall a ≡ b → P ts ≡ Got a [] → ◌≡◌ {A = Outcome T A} (cond b (Stop TooDeep []) (Got a [])) (Stop rule rest) → Halted (Ended tall (L 0)) (whole tall P) ts rule rest
      too_high false a high got e = absurd cc
      too_high true a high got e =
          let why : TooDeep ≡ rule = cc in let none : [] ≡ rest = cc in
          let f = (exact 0).takes ts a [] got in
          record {
            front = f.front;
            parts = subst (λ (z : List T). ts ≡ f.front ++ z) none f.parts;
            again = λ r same.
                let no_more : r ≡ [] = same_end r (subst (λ (z : List T). SameHead z r) (sym none) same) in
                subst (λ (z : List T). whole tall P (f.front ++ z) ≡ Stop rule z) (sym no_more)
                (behind f.front [] a (f.again [] tt) ∙ ap (λ (b : Bool). cond b (Stop TooDeep []) (Got a [])) high ∙ ap (λ (w : Rule). Stop w []) why);
            more = [];
            value = a;
            viable = subst (λ (z : List T). L 0 (length f.front) z a × (length z < length f.front → tall a ≡ false)) (sym (append-nil f.front)) (f.spelled (length f.front), past f.front a);
            keeps = subst (λ (w : Rule). MayKeep w rest []) why (subst (λ (z : List T). SameHead z []) none tt);
          }

      unexpected_again : (a : A) (t : T) (mid r : List T) (front : List T) → SameHead (t ∷ mid) r → P (front ++ r) ≡ Got a r → whole tall P (front ++ r) ≡ Stop Unexpected r
      unexpected_again a t mid [] front same e = absurd same
      unexpected_again a t mid (u ∷ r) front same e = behind front (u ∷ r) a e

      by_answer : (o : Outcome T A) → P ts ≡ o → and_then o (end_behind tall) ≡ Stop rule rest → Halted (Ended tall (L 0)) (whole tall P) ts rule rest
      by_answer (Got a []) got e = too_high (tall a) a refl got e
      by_answer (Got a (t ∷ mid)) got e =
          let why : Unexpected ≡ rule = cc in let same_rest : t ∷ mid ≡ rest = cc in
          let f = (exact 0).takes ts a (t ∷ mid) got in
          record {
            front = f.front;
            parts = subst (λ (z : List T). ts ≡ f.front ++ z) same_rest f.parts;
            again = λ r same.
                let here : SameHead (t ∷ mid) r = subst (λ (z : List T). SameHead z r) (sym same_rest) same in
                unexpected_again a t mid r f.front here (f.again r here) ∙ ap (λ (w : Rule). Stop w r) why;
            more = [];
            value = a;
            viable = subst (λ (z : List T). L 0 (length f.front) z a × (length z < length f.front → tall a ≡ false)) (sym (append-nil f.front)) (f.spelled (length f.front), past f.front a);
            keeps = subst (λ (w : Rule). MayKeep w rest []) why tt;
          }
      by_answer (Stop why mid) got e =
          let same_rule : why ≡ rule = cc in let same_rest : mid ≡ rest = cc in
          let f = (exact 0).stops ts rule rest (rw (← same_rule, ← same_rest) got) in
          let h = halted (L 0) P ts rule rest f in
          record {
            front = h.front;
            parts = h.parts;
            again = λ r same. ap (λ (o : Outcome T A). and_then o (end_behind tall)) (h.again r same);
            more = h.more;
            value = h.value;
            viable = (h.viable, λ lt. absurd (omega (arith, length-append h.front h.more)));
            keeps = h.keeps;
          }

  -- Where the whole text is refused.
  pub whole_refused : (tall : A → Bool) (ts : List T) (rule : Rule) (rest : List T) → whole tall P ts ≡ Stop rule rest → (k : ℕ) → k + length rest ≡ length ts → IsRefused (Any (λ spare. Ended tall (L spare))) ts rule k
  whole_refused tall ts rule rest e k place = halted_refused (λ spare. Ended tall (L spare)) (whole tall P) (ended_meets tall) ts rule rest (whole_halted tall ts rule rest e) k place

  -- What is left there.
  pub whole_left : (tall : A → Bool) (ts : List T) (rule : Rule) (rest : List T) → whole tall P ts ≡ Stop rule rest → length rest ≤ length ts
  whole_left tall ts rule rest e = let f = whole_halted tall ts rule rest e in omega (arith, length-append f.front rest, ap length f.parts)

  -- What is found is spelled within the limits.
  pub whole_found : (tall : A → Bool) (ts : List T) (x : A) (rest : List T) → whole tall P ts ≡ Got x rest → Spells (Any (λ spare. Ended tall (L spare))) ts x
  whole_found tall ts x rest e = by_answer (P ts) refl e
    where
      low : (b : Bool) (a : A) → tall a ≡ b → P ts ≡ Got a [] → ◌≡◌ {A = Outcome T A} (cond b (Stop TooDeep []) (Got a [])) (Got x rest) → Spells (Any (λ spare. Ended tall (L spare))) ts x
      low true a h got e = absurd cc
      low false a h got e =
          let same : a ≡ x = cc in
          let f = (exact 0).takes ts a [] got in
          let all : ts ≡ f.front = f.parts ∙ append-nil f.front in
          (zero, (subst (λ (z : List T). L 0 (suc (length ts)) z x) (sym all) (subst (λ (v : A). L 0 (suc (length ts)) f.front v) same (f.spelled (suc (length ts)))), λ lt. subst (λ (v : A). tall v ≡ false) same h))

      by_answer : (o : Outcome T A) → P ts ≡ o → and_then o (end_behind tall) ≡ Got x rest → Spells (Any (λ spare. Ended tall (L spare))) ts x
      by_answer (Got a []) got e = low (tall a) a refl got e
      by_answer (Got a (t ∷ mid)) got e = absurd cc
      by_answer (Stop rule mid) got e = absurd cc

  -- What is spelled within the limits is found.
  pub whole_only : (tall : A → Bool) (ts : List T) (x : A) → Spells (Any (λ spare. Ended tall (L spare))) ts x → whole tall P ts ≡ Got x []
  whole_only tall ts x l = cases (ended_meets tall l.0 (suc (length ts)) ts x l.1)
    where
      cases : Meets (suc (length ts)) ts x (whole tall P ts) → whole tall P ts ≡ Got x []
      cases (inl e) = e
      cases (inr m) = let le = m.2 in absurd (omega arith)

-- ---- the grammar alone

-- C has, for each number of parts, a language that passes no limit where so many are open, and R its reader: a text of L is one of
-- C for large numbers. So a text has at most one value, whatever limits it passes.
module _ {T A : Type 0} (C : ℕ → Lang T A) (R : ℕ → Reader T A) (goC : A → T → Bool) (exact : (parts : ℕ) → IsExact (C parts) (R parts) goC)
    (L : ℕ → Lang T A) (grows : (spare more : ℕ) → Grows (L spare) (C (spare + more))) where
  pub one_value_alone : (n m : ℕ) (s : List T) (x y : A) → Any L n s x → Any L m s y → x ≡ y
  one_value_alone n m s x y l k =
      let same : k.0 + l.0 ≡ l.0 + k.0 = omega arith in
      let a : C (l.0 + k.0) (length s) s x = grows l.0 k.0 n (length s) s x l.1 in
      let b : C (l.0 + k.0) (length s) s y = subst (λ (p : ℕ). C p (length s) s y) same (grows k.0 l.0 m (length s) s y k.1) in
      one_value (λ _. C (l.0 + k.0)) (R (l.0 + k.0)) goC (λ _. exact (l.0 + k.0)) s x y (zero, a) (zero, b)

-- ---- limits

pub any_loosens : {T A : Type 0} (L : ℕ → Lang T A) → ((spare : ℕ) → Loosens (L spare)) → Loosens (Any L)
any_loosens L h m n x a le l = (l.0, h l.0 m n x a le l.1)

pub ended_loosens : {T A : Type 0} (tall : A → Bool) (L : Lang T A) → Loosens L → Loosens (Ended tall L)
ended_loosens tall L h m n x a le l = (h m n x a le l.0, λ lt. l.1 (omega arith))

-- At most one front of the tokens is one, and it has one value.
module _ {T A : Type 0} (L : Lang T A) (loosens : Loosens L) (one : (s : List T) (x y : A) → L (length s) s x → L (length s) s y → x ≡ y) (ts : List T) where
  prefix_clash : (x y : A) (j k : ℕ) → j < k → IsPrefix L ts x j → IsPrefix L ts y k → ⊥
  prefix_clash x y j k lt a b = let le = b.0 in a.2 (omega arith) (take k ts) y (loosens 0 k (take k ts) y (omega arith) b.1) (take_short (suc j) k ts lt)

  take_all : (k : ℕ) (s : List T) → k ≤ length s → length (take k s) ≡ k
  take_all zero s le = refl
  take_all (suc k) [] le = absurd (omega arith)
  take_all (suc k) (t ∷ s) le = ap suc (take_all k s (omega arith))

  pub one_prefix : (x y : A) (j k : ℕ) → IsPrefix L ts x j → IsPrefix L ts y k → (x ≡ y) × (j ≡ k)
  one_prefix x y j k a b =
      let same : j ≡ k = same_number L loosens ts j k (λ lt. prefix_clash x y j k lt a b) (λ lt. prefix_clash y x k j lt b a) in
      let number = take_all k ts b.0 in
      let la : L k (take k ts) x = subst (λ (i : ℕ). L i (take i ts) x) same a.1 in
      (one (take k ts) x y (subst (λ (i : ℕ). L i (take k ts) x) (sym number) la) (subst (λ (i : ℕ). L i (take k ts) y) (sym number) b.1), same)
