-- A loop of steps, of which the last says that the loop is over: any loop that unrolls so is exact.
use Rattle.std.proofs.Common.{◌≡◌, ℕ, zero, suc, ◌-◌, ◌≤◌, ◌<◌, Bool, true, false, cond, List, [], ◌∷◌, ◌++◌, length, refl, sym, ap, subst, ◌∙◌, append_assoc, arith, inl, inr}
use Rattle.std.proofs.lemmas.List.{length-append, append-nil}
use Rattle.exact.specs.declared.rule.Rule.{Rule}
use Rattle.exact.specs.declared.rule.Rule.TheVariants.{TooDeep}
use Rattle.exact.specs.Language.{Lang, Empty, Then, Either, Step, More, Done, Onward, Turns, Loop, Links, Chain}
use Rattle.exact.specs.Reading.{Outcome, Got, Stop, Reader, and_then, ◌>>=◌, pure, heads, choose, onward, loop_from, loop, chain_from, chain}
use Rattle.exact.proofs.Heads.{SameHead, same_head_behind, same_head_of, heads_less, begins_long, begins_longer, Begins, Avoids, avoids_empty, Covers, Apart, heads_apart}
use Rattle.exact.proofs.Exact.{IsExact, Keeps, keeps_longer, Inhabited, Passes, Reaches, left_of, none_of, pure_is, then_is, choose_is, alike_is}

module _ {T A R : Type 0} (S : A → Lang T (Step A R)) (step : A → Reader T (Step A R)) (run : ℕ → A → Reader T R) (go : R → T → Bool) (goS : Step A R → T → Bool)
    (p : (a : A) → IsExact (S a) (step a) goS)
    -- how the reader unrolls
    (at_end : (a : A) (next : A → Reader T R) → run zero a [] ≡ and_then (step a []) (onward next))
    (unroll : (k : ℕ) (a : A) (ts : List T) → run (suc k) a ts ≡ and_then (step a ts) (onward (run k)))
    -- a step that goes on takes a token, and what follows it does not go on with it
    (long : (n : ℕ) (a : A) (x : List T) (b : A) → S a n x (More b) → 0 < length x)
    (apart : (b : A) → Avoids (goS (More b)) (Loop S b) go)
    (sub : (r : R) → Covers (go r) (goS (Done r)))
    (some : (a : A) → Inhabited (Loop S a)) where
  -- ---- what the reader answers where a step is known

  at_once : (k : ℕ) (a : A) (ts : List T) (o : Outcome T (Step A R)) (answer : Outcome T R) → step a ts ≡ o → ((next : A → Reader T R) → and_then o (onward next) ≡ answer) → length ts ≤ k → run k a ts ≡ answer
  at_once zero a [] o answer e over le = at_end a (run zero) ∙ ap (λ (z : Outcome T (Step A R)). and_then z (onward (run zero))) e ∙ over (run zero)
  at_once zero a (t ∷ ts) o answer e over le = absurd (omega arith)
  at_once (suc k) a ts o answer e over le = unroll k a ts ∙ ap (λ (z : Outcome T (Step A R)). and_then z (onward (run k))) e ∙ over (run k)

  after_more : (k : ℕ) (a b : A) (x ts : List T) (answer : Outcome T R) → 0 < length x → step a (x ++ ts) ≡ Got (More b) ts → ((j : ℕ) → length ts ≤ j → run j b ts ≡ answer) → length (x ++ ts) ≤ k → run k a (x ++ ts) ≡ answer
  after_more zero a b x ts answer pos e rest le = absurd (omega (arith, length-append x ts))
  after_more (suc k) a b x ts answer pos e rest le =
      let short : length ts ≤ k = omega (arith, length-append x ts) in
      unroll k a (x ++ ts) ∙ ap (λ (z : Outcome T (Step A R)). and_then z (onward (run k))) e ∙ rest k short

  -- ---- what is spelled

  more_turns : (n : ℕ) (a b : A) (x y : List T) (r : R) → S a n x (More b) → Loop S b (n - length x) y r → Loop S a n (x ++ y) r
  more_turns n a b x y r s l = (suc l.0, record { front = x; back = y; value = More b; parts = refl; first = s; second = l.1 })

  last_turn : (n : ℕ) (a : A) (x : List T) (r : R) → S a n x (Done r) → Loop S a n x r
  last_turn n a x r s = (suc zero, record { front = x; back = []; value = Done r; parts = sym (append-nil x); first = s; second = (refl, refl) })

  -- ---- what is read is spelled so

  record TookLoop (a : A) (ts : List T) (r : R) (rest : List T) : Type 0 where
    front : List T
    parts : ts ≡ front ++ rest
    spelled : (n : ℕ) → Loop S a n front r
    again : (k : ℕ) (q : List T) → SameHead rest q → length (front ++ q) ≤ k → run k a (front ++ q) ≡ Got r q

  takes_turn : (next : A → Reader T R) (a : A) (ts : List T) (r : R) (rest : List T) → ((b : A) (mid : List T) → length mid < length ts → next b mid ≡ Got r rest → TookLoop b mid r rest)
      → (o : Outcome T (Step A R)) → step a ts ≡ o → and_then o (onward next) ≡ Got r rest → TookLoop a ts r rest
  takes_turn next a ts r rest rec (Got (More b) mid) got e =
      let f = (p a).takes ts (More b) mid got in
      let pos = long zero a f.front b (f.spelled zero) in
      let s = rec b mid (omega (arith, length-append f.front mid, ap length f.parts)) e in
      record {
        front = f.front ++ s.front;
        parts = f.parts ∙ ap (λ (z : List T). f.front ++ z) s.parts ∙ sym (append_assoc f.front s.front rest);
        spelled = λ n. more_turns n a b f.front s.front r (f.spelled n) (s.spelled (n - length f.front));
        again = λ k q same le.
            let same_mid = same_head_of mid (s.front ++ rest) (s.front ++ q) s.parts (same_head_behind s.front rest q same) in
            ap (λ (z : List T). run k a z) (append_assoc f.front s.front q)
            ∙ after_more k a b f.front (s.front ++ q) (Got r q) pos (f.again (s.front ++ q) same_mid) (λ j le. s.again j q same le) (rw (← append_assoc f.front s.front q) le);
      }
  takes_turn next a ts r rest rec (Got (Done v) mid) got e =
      let same_value : v ≡ r = cc in let same_rest : mid ≡ rest = cc in
      let now : step a ts ≡ Got (Done r) rest = rw (← same_value, ← same_rest) got in
      let f = (p a).takes ts (Done r) rest now in
      record {
        front = f.front;
        parts = f.parts;
        spelled = λ n. last_turn n a f.front r (f.spelled n);
        again = λ k q same le. at_once k a (f.front ++ q) (Got (Done r) q) (Got r q) (f.again q same) (λ next. refl) le;
      }
  takes_turn next a ts r rest rec (Stop rule mid) got e = absurd cc

  loop_takes : (k : ℕ) (a : A) (ts : List T) (r : R) (rest : List T) → length ts ≤ k → run k a ts ≡ Got r rest → TookLoop a ts r rest
  loop_takes zero a [] r rest le e = takes_turn (run zero) a [] r rest (λ b mid lt more. absurd (omega arith)) (step a []) refl (sym (at_end a (run zero)) ∙ e)
  loop_takes zero a (t ∷ ts) r rest le e = absurd (omega arith)
  loop_takes (suc k) a ts r rest le e = takes_turn (run k) a ts r rest (λ b mid lt more. loop_takes k b mid r rest (omega arith) more) (step a ts) refl (sym (unroll k a ts) ∙ e)

  -- ---- where it stops, what stands before can be completed

  record StoppedLoop (a : A) (ts : List T) (rule : Rule) (rest : List T) : Type 0 where
    front : List T
    parts : ts ≡ front ++ rest
    again : (k : ℕ) (q : List T) → SameHead rest q → length (front ++ q) ≤ k → run k a (front ++ q) ≡ Stop rule q
    more : List T
    value : R
    viable : Loop S a (length front) (front ++ more) value
    keeps : Keeps rule rest more

  -- a step that was stopped can be completed, and then the loop
  completed : (a : A) (front more : List T) (o : Step A R) → S a (length front) (front ++ more) o → (y : List T) × (r : R) × Loop S a (length front) (front ++ (more ++ y)) r
  completed a front more (More b) s =
      let l = some b in (
        l.text,
        l.value,
        subst (λ (z : List T). Loop S a (length front) z l.value) (append_assoc front more l.text)
            (more_turns (length front) a b (front ++ more) l.text l.value s (subst (λ (k : ℕ). Loop S b k l.text l.value) (sym (none_of front more)) l.spelled)),
      )
  completed a front more (Done r) s = ([], r, subst (λ (z : List T). Loop S a (length front) (front ++ z) r) (sym (append-nil more)) (last_turn (length front) a (front ++ more) r s))

  stops_turn : (next : A → Reader T R) (a : A) (ts : List T) (rule : Rule) (rest : List T) → ((b : A) (mid : List T) → length mid < length ts → next b mid ≡ Stop rule rest → StoppedLoop b mid rule rest)
      → (o : Outcome T (Step A R)) → step a ts ≡ o → and_then o (onward next) ≡ Stop rule rest → StoppedLoop a ts rule rest
  stops_turn next a ts rule rest rec (Got (More b) mid) got e =
      let f = (p a).takes ts (More b) mid got in
      let pos = long zero a f.front b (f.spelled zero) in
      let s = rec b mid (omega (arith, length-append f.front mid, ap length f.parts)) e in
      record {
        front = f.front ++ s.front;
        parts = f.parts ∙ ap (λ (z : List T). f.front ++ z) s.parts ∙ sym (append_assoc f.front s.front rest);
        more = s.more;
        value = s.value;
        viable = subst (λ (z : List T). Loop S a (length (f.front ++ s.front)) z s.value) (sym (append_assoc f.front s.front s.more))
            (more_turns (length (f.front ++ s.front)) a b f.front (s.front ++ s.more) s.value (f.spelled (length (f.front ++ s.front))) (subst (λ (k : ℕ). Loop S b k (s.front ++ s.more) s.value) (sym (left_of f.front s.front)) s.viable));
        keeps = s.keeps;
        again = λ k q same le.
            let same_mid = same_head_of mid (s.front ++ rest) (s.front ++ q) s.parts (same_head_behind s.front rest q same) in
            ap (λ (z : List T). run k a z) (append_assoc f.front s.front q)
            ∙ after_more k a b f.front (s.front ++ q) (Stop rule q) pos (f.again (s.front ++ q) same_mid) (λ j le. s.again j q same le) (rw (← append_assoc f.front s.front q) le);
      }
  stops_turn next a ts rule rest rec (Got (Done v) mid) got e = absurd cc
  stops_turn next a ts rule rest rec (Stop why mid) got e =
      let same_rule : why ≡ rule = cc in let same_rest : mid ≡ rest = cc in
      let now : step a ts ≡ Stop rule rest = rw (← same_rule, ← same_rest) got in
      let f = (p a).stops ts rule rest now in
      let c = completed a f.front f.more f.value f.viable in
      record {
        front = f.front;
        parts = f.parts;
        more = f.more ++ c.0;
        value = c.1;
        viable = c.2;
        keeps = keeps_longer rule rest f.more c.0 f.keeps;
        again = λ k q same le. at_once k a (f.front ++ q) (Stop rule q) (Stop rule q) (f.again q same) (λ next. refl) le;
      }

  loop_stops : (k : ℕ) (a : A) (ts : List T) (rule : Rule) (rest : List T) → length ts ≤ k → run k a ts ≡ Stop rule rest → StoppedLoop a ts rule rest
  loop_stops zero a [] rule rest le e = stops_turn (run zero) a [] rule rest (λ b mid lt more. absurd (omega arith)) (step a []) refl (sym (at_end a (run zero)) ∙ e)
  loop_stops zero a (t ∷ ts) rule rest le e = absurd (omega arith)
  loop_stops (suc k) a ts rule rest le e = stops_turn (run k) a ts rule rest (λ b mid lt more. loop_stops k b mid rule rest (omega arith) more) (step a ts) refl (sym (unroll k a ts) ∙ e)

  -- ---- what is spelled so is read

  loop_complete : (k : ℕ) (j n : ℕ) (a : A) (x : List T) (r : R) (rest : List T) → Turns S k a n x r → heads (go r) rest ≡ false → length (x ++ rest) ≤ j → Reaches n x r rest (run j a (x ++ rest))
  loop_complete zero j n a x r rest t stop le = absurd t
  loop_complete (suc k) j n a x r rest t stop le =
      subst (λ (z : List T). Reaches n x r rest (run j a z)) (sym shape) (subst (λ (z : List T). Reaches n z r rest (run j a (t.front ++ (t.back ++ rest)))) (sym t.parts)
      (by_step t.value t.first t.second (λ b turns i short. loop_complete k i (n - length t.front) b t.back r rest turns stop short)))
    where
      shape : x ++ rest ≡ t.front ++ (t.back ++ rest)
      shape = ap (λ (z : List T). z ++ rest) t.parts ∙ append_assoc t.front t.back rest

      fits : length (t.front ++ (t.back ++ rest)) ≤ j
      fits = rw (← shape) le

      -- the step stopped at a token of it
      stopped : (o : Step A R) → Passes n t.front (t.back ++ rest) (step a (t.front ++ (t.back ++ rest))) → Reaches n (t.front ++ t.back) r rest (run j a (t.front ++ (t.back ++ rest)))
      stopped o s =
          let lt = s.within in let more = s.behind in
          inr (record {
            at = s.at;
            stopped = at_once j a (t.front ++ (t.back ++ rest)) (Stop TooDeep s.at) (Stop TooDeep s.at) s.stopped (λ next. refl) fits;
            within = omega (arith, length-append t.back rest);
            behind = omega (arith, length-append t.front t.back, length-append t.back rest);
          })

      -- the rest of the loop behind a step that goes on
      behind : (b : A) → 0 < length t.front → step a (t.front ++ (t.back ++ rest)) ≡ Got (More b) (t.back ++ rest) → ((i : ℕ) → length (t.back ++ rest) ≤ i → Reaches (n - length t.front) t.back r rest (run i b (t.back ++ rest)))
          → Reaches n (t.front ++ t.back) r rest (run j a (t.front ++ (t.back ++ rest)))
      behind b pos e rec = one_more_turn j fits
        where
          reached : (i : ℕ) (o : Outcome T R) → Reaches (n - length t.front) t.back r rest o → Reaches n (t.front ++ t.back) r rest o
          reached i o (inl h) = inl h
          reached i o (inr s) = let more = s.behind in inr (record { at = s.at; stopped = s.stopped; within = s.within; behind = omega (arith, length-append t.front t.back) })

          one_more_turn : (j : ℕ) → length (t.front ++ (t.back ++ rest)) ≤ j → Reaches n (t.front ++ t.back) r rest (run j a (t.front ++ (t.back ++ rest)))
          one_more_turn zero le = absurd (omega (arith, length-append t.front (t.back ++ rest)))
          one_more_turn (suc i) le =
              let short : length (t.back ++ rest) ≤ i = omega (arith, length-append t.front (t.back ++ rest)) in
              let same : run (suc i) a (t.front ++ (t.back ++ rest)) ≡ run i b (t.back ++ rest) = unroll i a (t.front ++ (t.back ++ rest)) ∙ ap (λ (z : Outcome T (Step A R)). and_then z (onward (run i))) e in
              subst (λ (o : Outcome T R). Reaches n (t.front ++ t.back) r rest o) (sym same) (reached i (run i b (t.back ++ rest)) (rec i short))

      by_reach : (o : Step A R) → S a n t.front o → Reaches n t.front o (t.back ++ rest) (step a (t.front ++ (t.back ++ rest))) → Onward (Turns S k) o (n - length t.front) t.back r
          → ((b : A) → Turns S k b (n - length t.front) t.back r → (i : ℕ) → length (t.back ++ rest) ≤ i → Reaches (n - length t.front) t.back r rest (run i b (t.back ++ rest)))
          → Reaches n (t.front ++ t.back) r rest (run j a (t.front ++ (t.back ++ rest)))
      by_reach o s (inr passes) turns rec = stopped o passes
      by_reach (More b) s (inl e) turns rec = behind b (long n a t.front b s) e (rec b turns)
      by_reach (Done v) s (inl e) over rec = inl (at_once j a (t.front ++ (t.back ++ rest)) (Got (Done v) (t.back ++ rest)) (Got r rest) e (λ next. rw (over.0, over.1) refl) fits)

      stop_of : (o : Step A R) → Onward (Turns S k) o (n - length t.front) t.back r → heads (goS o) (t.back ++ rest) ≡ false
      stop_of (More b) turns = (apart b).at (n - length t.front) t.back r rest (k, turns) stop
      stop_of (Done v) over = rw over.0 (heads_less (go v) (goS (Done v)) (sub v) rest (rw (← over.1) stop))

      by_step : (o : Step A R) → S a n t.front o → Onward (Turns S k) o (n - length t.front) t.back r → ((b : A) → Turns S k b (n - length t.front) t.back r → (i : ℕ) → length (t.back ++ rest) ≤ i → Reaches (n - length t.front) t.back r rest (run i b (t.back ++ rest)))
          → Reaches n (t.front ++ t.back) r rest (run j a (t.front ++ (t.back ++ rest)))
      by_step o s turns rec = by_reach o s ((p a).complete n t.front o (t.back ++ rest) s (stop_of o turns)) turns rec

  pub run_is : (a : A) → IsExact (Loop S a) (λ ts. run (length ts) a ts) go
  run_is a = record {
    takes = λ ts r rest e. let f = loop_takes (length ts) a ts r rest (omega arith) e in record { front = f.front; parts = f.parts; spelled = f.spelled; again = λ q same. f.again (length (f.front ++ q)) q same (omega arith) };
    stops = λ ts rule rest e.
        let f = loop_stops (length ts) a ts rule rest (omega arith) e in
        record { front = f.front; parts = f.parts; more = f.more; value = f.value; viable = f.viable; keeps = f.keeps; again = λ q same. f.again (length (f.front ++ q)) q same (omega arith) };
    complete = λ n front r rest l stop. loop_complete l.0 (length (front ++ rest)) n a front r rest l.1 stop (omega arith);
  }

-- ---- the loop of steps

module _ {T A R : Type 0} (S : A → Lang T (Step A R)) (last : A → Reader T R) (step : A → Reader T (Step A R)) (go : R → T → Bool) (goS : Step A R → T → Bool)
    (p : (a : A) → IsExact (S a) (step a) goS)
    (at_end : (a : A) (next : A → Reader T R) → last a [] ≡ and_then (step a []) (onward next))
    (long : (n : ℕ) (a : A) (x : List T) (b : A) → S a n x (More b) → 0 < length x)
    (apart : (b : A) → Avoids (goS (More b)) (Loop S b) go)
    (sub : (r : R) → Covers (go r) (goS (Done r)))
    (some : (a : A) → Inhabited (Loop S a)) where
  unrolled : (k : ℕ) (a : A) (ts : List T) → loop_from last step (suc k) a ts ≡ and_then (step a ts) (onward (loop_from last step k))
  unfolding loop_from
  unrolled k a ts = refl

  ended : (a : A) (next : A → Reader T R) → loop_from last step zero a [] ≡ and_then (step a []) (onward next)
  unfolding loop_from
  ended a next = at_end a next

  pub loop_is : (a : A) → IsExact (Loop S a) (loop last step a) go
  loop_is a = run_is S step (loop_from last step) go goS p ended unrolled long apart sub some a

-- ---- the chain of steps, as a loop

module _ {T A : Type 0} (S : A → Lang T A) (step : A → Reader T A) (first : T → Bool) (go goS : A → T → Bool)
    (p : (a : A) → IsExact (S a) (step a) goS)
    (begins : (a : A) → Begins first (S a))
    (items : (b : A) → Apart first (goS b))
    (no_first : (a : A) → Covers (go a) first)
    (no_step : (a b : A) → Covers (go a) (goS b)) where
  Next : A → Lang T (Step A A)
  Next a = Either (Then (S a) (λ b. Empty (More b))) (Empty (Done a))

  next : A → Reader T (Step A A)
  next a = choose first (step a >>= λ b. pure (More b)) (pure (Done a))

  goN : Step A A → T → Bool
  goN (More b) = goS b
  goN (Done a) = go a

  next_is : (a : A) → IsExact (Next a) (next a) goN
  unfolding Next next goN
  next_is a =
      choose_is (Then (S a) (λ b. Empty (More b))) (Empty (Done a)) (step a >>= λ b. pure (More b)) (pure (Done a)) first goN
      (then_is (S a) (λ b. Empty (More b)) (step a) (λ b. pure (More b)) goS goN (p a) (λ b. pure_is goN (More b)) (λ b. avoids_empty (More b) (λ t h. h)) (λ b. record { text = []; value = More b; spelled = (refl, refl) }))
      (pure_is goN (Done a))
      (record { at = λ n x o t. rw t.parts (begins_longer first t.front t.back ((begins a).at n t.front t.value t.first)) })
      (avoids_empty (Done a) (no_first a))

  to_loop : (k n : ℕ) (a : A) (x : List T) (e : A) → Links S k a n x e → Turns Next (suc k) a n x e
  unfolding Next
  to_loop zero n a x e l = record { front = []; back = []; value = Done a; parts = l.0; first = inr (refl, refl); second = (refl, l.1) }
  to_loop (suc k) n a x e l = record {
    front = l.front;
    back = l.back;
    value = More l.value;
    parts = l.parts;
    first = inl (record { front = l.front; back = []; value = l.value; parts = sym (append-nil l.front); first = l.first; second = (refl, refl) });
    second = to_loop k (n - length l.front) l.value l.back e l.second;
  }

  from_loop : (k n : ℕ) (a : A) (x : List T) (e : A) → Turns Next k a n x e → Chain S a n x e
  unfolding Next
  from_loop zero n a x e t = absurd t
  from_loop (suc k) n a x e t = by_step t.value t.first t.second (λ b l. from_loop k (n - length t.front) b t.back e l)
    where
      by_step : (o : Step A A) → Next a n t.front o → Onward (Turns Next k) o (n - length t.front) t.back e → ((b : A) → Turns Next k b (n - length t.front) t.back e → Chain S b (n - length t.front) t.back e) → Chain S a n x e
      by_step (More b) (inl s) l rec =
          let c = rec b l in
          let same : s.value ≡ b = cc in
          let whole : t.front ≡ s.front = s.parts ∙ rw s.second.0 (append-nil s.front) in
          let at_same : Links S c.0 s.value (n - length s.front) t.back e = subst (λ (z : A). Links S c.0 z (n - length s.front) t.back e) (sym same) (subst (λ (z : List T). Links S c.0 b (n - length z) t.back e) whole c.1) in
          (suc c.0, record { front = s.front; back = t.back; value = s.value; parts = t.parts ∙ ap (λ (z : List T). z ++ t.back) whole; first = s.first; second = at_same })
      by_step (Done r) (inl s) l rec = absurd (let bad : Done r ≡ More s.value = s.second.1 in cc)
      by_step (More b) (inr s) l rec = absurd (let bad : More b ≡ Done a = s.1 in cc)
      by_step (Done r) (inr s) l rec = let same : r ≡ a = cc in (zero, (t.parts ∙ rw (s.0, l.0) refl, l.1 ∙ same))

  unrolled_by : (k : ℕ) (a : A) (ts : List T) (b : Bool) (o : Outcome T A) → and_then (cond b (and_then o (chain_from first step k)) (Got a ts)) pure ≡ and_then (cond b (and_then o (λ b. pure (More b))) (Got (Done a) ts)) (onward (chain_from first step k))
  unrolled_by k a ts true (Got b mid) = same (chain_from first step k b mid)
    where
      same : (o : Outcome T A) → and_then o pure ≡ o
      same (Got a rest) = refl
      same (Stop rule rest) = refl
  unrolled_by k a ts true (Stop rule mid) = refl
  unrolled_by k a ts false o = refl

  and_pure : (o : Outcome T A) → o ≡ and_then o pure
  and_pure (Got a rest) = refl
  and_pure (Stop rule rest) = refl

  chain_unrolled : (k : ℕ) (a : A) (ts : List T) → chain_from first step (suc k) a ts ≡ and_then (next a ts) (onward (chain_from first step k))
  unfolding chain_from next
  chain_unrolled k a ts = and_pure (chain_from first step (suc k) a ts) ∙ unrolled_by k a ts (heads first ts) (step a ts)

  chain_ended : (a : A) (on : A → Reader T A) → chain_from first step zero a [] ≡ and_then (next a []) (onward on)
  unfolding chain_from next
  chain_ended a on = refl

  links_apart : (k n : ℕ) (b c : A) (y : List T) (e : A) (rest : List T) → Links S k c n y e → heads (go e) rest ≡ false → heads (goS b) (y ++ rest) ≡ false
  links_apart zero n b c y e rest l stop = rw l.0 (heads_less (go e) (goS b) (no_step e b) rest stop)
  links_apart (suc k) n b c y e rest l stop =
      ap (λ (z : List T). heads (goS b) (z ++ rest)) l.parts ∙ ap (λ (z : List T). heads (goS b) z) (append_assoc l.front l.back rest)
      ∙ heads_apart first (goS b) (items b) l.front (l.back ++ rest) ((begins c).at n l.front l.value l.first)

  more_long : (n : ℕ) (a : A) (x : List T) (b : A) → Next a n x (More b) → 0 < length x
  unfolding Next
  more_long n a x b (inl s) = let pos = begins_long first s.front ((begins a).at n s.front s.value s.first) in omega (arith, ap length s.parts, length-append s.front s.back)
  more_long n a x b (inr s) = absurd (let bad : More b ≡ Done a = s.1 in cc)

  chain_loop_is : (a : A) → IsExact (Loop Next a) (chain first step a) go
  unfolding goN
  chain_loop_is a =
      run_is Next next (chain_from first step) go goN next_is chain_ended chain_unrolled more_long
      (λ b. record { at = λ n y e rest l stop. let c = from_loop l.0 n b y e l.1 in links_apart c.0 n b b y e rest c.1 stop })
      (λ r t h. h) (λ a. record { text = []; value = a; spelled = (suc zero, to_loop zero zero a [] a (refl, refl)) }) a

  pub chain_is : (a : A) → IsExact (Chain S a) (chain first step a) go
  chain_is a = alike_is (Loop Next a) (Chain S a) (chain first step a) go (λ n x e l. from_loop l.0 n a x e l.1) (λ n x e l. (suc l.0, to_loop l.0 n a x e l.1)) (chain_loop_is a)
