-- Nested `if`s: read with a stack, they are what the grammar says.
use Rattle.std.proofs.Common.{◌≡◌, ℕ, zero, suc, ◌+◌, ◌-◌, ◌≤◌, ◌<◌, Bool, false, ◌||◌, ◌==◌, List, [], ◌∷◌, ◌++◌, length, Some, append-nil, refl, sym, ap, subst, ◌∙◌, arith, inl, inr}
use Rattle.std.proofs.Math.Dec.{eqb-suc-zero}
use Rattle.ev_lex.specs.declared.token.Token.{Token}
use Rattle.ev_lex.specs.declared.keyword.Keyword.TheVariants as keyword
use Rattle.eql_grammar.specs.declared.grown.GrownExpr.{GrownExpr}
use Rattle.eql_grammar.specs.declared.grown.Frame.{Frame}
use Rattle.eql_grammar.specs.declared.grown.Frame.TheVariants as frame
use Rattle.exact.specs.declared.rule.Rule.TheVariants.{Unexpected}
use Rattle.eql_grammar.specs.Words.{same_sign, same_keyword, word_of}
use Rattle.eql_grammar.specs.declared.class.Class.TheVariants.{Reserved, Named}
use Rattle.eql_grammar.specs.Trees as t
use Rattle.eql_grammar.specs.Trees.{unlimited}
use Rattle.eql_grammar.specs.Grammar as g
use Rattle.eql_grammar.specs.Readers as r
use Rattle.eql_grammar.specs.Readers.{Waiting, Want, Have, settled}
use Rattle.exact.specs.Language.{Lang, Empty, One, OneWithin, Then, Either, Step, More, Done, Onward, Turns, Loop}
use Rattle.exact.specs.Reading.{Reader, Outcome, Stop, and_then, onward, refuse}
use Rattle.exact.proofs.Heads.{Begins, Avoids, Covers, never, begins_long, begins_then, begins_either, begins_in, avoids_begins, avoids_none}
use Rattle.exact.proofs.Exact.{Inhabited}
use Rattle.exact.proofs.Laws.{Mode, lowered, lowered_text, IsExactAt, exact_pure, exact_map, exact_choose, exact_weaken, exact_loop_with, exact_alike}
use Rattle.eql_grammar.proofs.Sets.{at_mark, begins_mark, begins_one_mark, behind, go, lacks_mark, lead, negation_at, negation_in, negation_starts, opening_behind, or_right, some_set, start_at, starts, word_Else, word_If, word_Then}
use Rattle.eql_grammar.proofs.Turning.{Within, then_within, first_within, regroup_right, regroup_left, empty_before, empty_gone, loop_fold, loop_begins, some_turn, mapped, led}
use Rattle.eql_grammar.proofs.Exprs.{Known, exact_conditional, conditional_begins, exact_operators}

-- ---- the stack as a language

module _ (depth : ℕ) (high : ℕ → Bool) (L : g.Inner) where
  -- one step: an `if`, a part without one, a `then`, or an `else` with what stands behind it
  abbrev pub Turn : Waiting → Lang Token (Step Waiting GrownExpr)
  Turn (Want frames) =
      Either (Then (One (word_of keyword.If)) (λ at. Empty (More (Want (frame.Condition at.start ∷ frames))))) (Then (g.Conditional depth high L) (λ x. Empty (settled frames x)))
  Turn (Have (frame.Condition start) frames x) = Then (OneWithin (high x.height) (word_of keyword.Then)) (λ _. Empty (More (Want (frame.Value start x ∷ frames))))
  Turn (Have (frame.Value start c) frames x) =
      Then (OneWithin (high x.height || (depth == 0)) (word_of keyword.Else)) (λ _. Then L.choice (λ other. Empty (settled frames (t.chosen_then start c x other))))

-- with what a step may go on
abbrev on : Step Waiting GrownExpr → Token → Bool
on (More (Want frames)) = never
on (More (Have f frames x)) = go 12
on (Done x) = go 12

settled_on : (frames : List Frame) (x : GrownExpr) → Covers (on (settled frames x)) (go 12)
settled_on [] x t e = e
settled_on (f ∷ more) x t e = e

module _ (mode : Mode) (depth deep : ℕ) (high : ℕ → Bool) (L U : g.Inner) (P : r.Inner) (h : Known (lowered (depth == 0) mode) L U P) where
  free : (suc deep == 0) ≡ false
  free = eqb-suc-zero deep

  conditional : IsExactAt mode (g.Conditional depth high L) (g.Conditional (suc deep) unlimited U) (r.conditional depth high P) (λ _. go 12)
  conditional = exact_conditional mode depth deep high L U P h

  cond_begins : Begins negation_starts (g.Conditional depth high L)
  cond_begins = conditional_begins mode depth deep high L U P h

  exact_turn : (a : Waiting) → IsExactAt mode (Turn depth high L a) (Turn (suc deep) unlimited U a) (r.if_turn depth high P a) on
  unfolding r.if_turn same_sign same_keyword
  exact_turn (Want frames) =
      exact_choose (lead word_If (λ at. exact_pure (More (Want (frame.Condition at.start ∷ frames)))))
      (exact_map (settled frames) (exact_weaken {less = λ _. go 12} (settled_on frames) conditional))
      (begins_then (begins_one_mark (Reserved keyword.If) (λ t e. rw e refl)))
      (avoids_begins (begins_then cond_begins) (lacks_mark (Reserved keyword.If) {set = negation_starts} (λ t e. ap (λ d. negation_at d t) e)))
  exact_turn (Have (frame.Condition start) frames x) = behind word_Then refl (λ _. exact_pure (More (Want (frame.Value start x ∷ frames))))
  exact_turn (Have (frame.Value start c) frames x) =
      opening_behind word_Else free (or_right (high x.height) (depth == 0))
      (λ _. exact_map (λ other. settled frames (t.chosen_then start c x other)) (exact_weaken {less = λ _. go 12} (λ other. settled_on frames (t.chosen_then start c x other)) h.choice))

  none_read : r.conditional depth high P [] ≡ Stop Unexpected []
  unfolding r.conditional r.disjunction r.conjunction r.negation r.comparison r.sum r.product r.coalesce r.unary r.post r.atom r.name_or_call r.qname
  none_read = refl

  at_end : (a : Waiting) (next : Waiting → Reader Token GrownExpr) → refuse Unexpected [] ≡ and_then (r.if_turn depth high P a []) (onward next)
  unfolding r.if_turn
  at_end (Want frames) next = ap (λ (o : Outcome Token GrownExpr). and_then (and_then o (λ x ts. Rattle.exact.specs.Reading.Got (settled frames x) ts)) (onward next)) (sym none_read)
  at_end (Have (frame.Condition start) frames x) next = refl
  at_end (Have (frame.Value start c) frames x) next = refl

  -- with what a step begins
  abbrev first : Waiting → Token → Bool
  first (Want frames) = starts
  first (Have (frame.Condition start) frames x) = Rattle.eql_grammar.specs.Words.is_word keyword.Then
  first (Have (frame.Value start c) frames x) = Rattle.eql_grammar.specs.Words.is_word keyword.Else

  turn_begins : (a : Waiting) → Begins (first a) (Turn depth high L a)
  unfolding same_sign same_keyword
  turn_begins (Want frames) = begins_either (begins_then (begins_one_mark (Reserved keyword.If) (λ t e. ap (λ d. start_at d t) e))) (begins_then (begins_in negation_in cond_begins))
  turn_begins (Have (frame.Condition start) frames x) = begins_then (begins_mark (Named (Some keyword.Then)) (λ t e. rw e refl))
  turn_begins (Have (frame.Value start c) frames x) = begins_then (begins_mark (Reserved keyword.Else) (λ t e. rw e refl))

  turn_long : (n : ℕ) (a : Waiting) (x : List Token) (b : Waiting) → Turn depth high L a n x (More b) → 0 < length x
  turn_long n a x b l = begins_long (first a) x ((turn_begins a).at n x (More b) l)

  -- nothing that follows a step goes on with it
  turn_apart : (b : Waiting) → Avoids (on (More b)) (Loop (Turn depth high L) b) (λ _. go 12)
  unfolding same_sign same_keyword
  turn_apart (Want frames) = avoids_none
  turn_apart (Have (frame.Condition start) frames x) = avoids_begins (loop_begins (Turn depth high L) (Have (frame.Condition start) frames x) (turn_begins (Have (frame.Condition start) frames x))) (at_mark (Named (Some keyword.Then)) {set = go 12} (λ t e. rw e refl))
  turn_apart (Have (frame.Value start c) frames x) = avoids_begins (loop_begins (Turn depth high L) (Have (frame.Value start c) frames x) (turn_begins (Have (frame.Value start c) frames x))) (at_mark (Reserved keyword.Else) {set = go 12} (λ t e. rw e refl))

  -- some text within so many `if`s
  module _ (c : Inhabited (g.Conditional depth high L)) (o : Inhabited L.choice) where
    value_rest : (start : ℕ) (condition y : GrownExpr) (frames : List Frame) → Inhabited (Onward (Loop (Turn depth high L)) (settled frames (t.chosen_then start condition y o.value))) → Inhabited (Loop (Turn depth high L) (Have (frame.Value start condition) frames y))
    value_rest start condition y frames rest =
        some_turn (Turn depth high L) (Have (frame.Value start condition) frames y) (word_Else.token ∷ (o.text ++ [])) (settled frames (t.chosen_then start condition y o.value))
        (led (word_of keyword.Else) word_Else.token word_Else.place (o.text ++ []) _ word_Else.known (mapped (λ other. settled frames (t.chosen_then start condition y other)) o)) rest

    want_rest : (frames : List Frame) → Inhabited (Onward (Loop (Turn depth high L)) (settled frames c.value)) → Inhabited (Loop (Turn depth high L) (Want frames))
    want_rest frames rest = some_turn (Turn depth high L) (Want frames) (c.text ++ []) (settled frames c.value) (inr (mapped (settled frames) c)) rest

    condition_rest : (start : ℕ) (y : GrownExpr) (frames : List Frame) → Inhabited (Loop (Turn depth high L) (Want (frame.Value start y ∷ frames))) → Inhabited (Loop (Turn depth high L) (Have (frame.Condition start) frames y))
    condition_rest start y frames rest =
        some_turn (Turn depth high L) (Have (frame.Condition start) frames y) (word_Then.token ∷ []) (More (Want (frame.Value start y ∷ frames)))
        (led (word_of keyword.Then) word_Then.token word_Then.place [] _ word_Then.known (refl, refl)) rest

    rest_of : (frames : List Frame) (y : GrownExpr) → Inhabited (Onward (Loop (Turn depth high L)) (settled frames y))
    rest_of [] y = record { text = []; value = y; spelled = (refl, refl) }
    rest_of (frame.Value start condition ∷ frames) y = value_rest start condition y frames (rest_of frames (t.chosen_then start condition y o.value))
    rest_of (frame.Condition start ∷ frames) y =
        condition_rest start y frames (want_rest (frame.Value start y ∷ frames) (value_rest start y c.value frames (rest_of frames (t.chosen_then start y c.value o.value))))

    some_loop : (a : Waiting) → Inhabited (Loop (Turn depth high L) a)
    some_loop (Want frames) = want_rest frames (rest_of frames c.value)
    some_loop (Have f frames x) = rest_of (f ∷ frames) x

  exact_stack : IsExactAt mode (Loop (Turn depth high L) (Want [])) (Loop (Turn (suc deep) unlimited U) (Want [])) (r.choice depth high P) (λ _. go 12)
  unfolding r.choice
  exact_stack =
      exact_loop_with {inner = on} (λ waiting. refuse Unexpected) exact_turn at_end turn_long turn_apart (λ x t e. e) (λ text. some_loop (conditional.some text) (h.choice.some (lowered_text (depth == 0) mode text))) (Want [])

-- ---- the grammar and the stack spell the same

module _ (depth : ℕ) (high : ℕ → Bool) (L : g.Inner) where
  abbrev Stack : Waiting → Lang Token GrownExpr
  Stack = Loop (Turn depth high L)

  -- what follows a part inside so many `if`s
  abbrev After : List Frame → GrownExpr → Lang Token GrownExpr
  After frames x = Onward Stack (settled frames x)

  plain_to : (frames : List Frame) → Within (Then (g.Conditional depth high L) (After frames)) (Stack (Want frames))
  plain_to frames n x v l =
      loop_fold (Turn depth high L) (Want frames) n x v
      (first_within (λ m y s e. inr e) n x v
      (regroup_left (g.Conditional depth high L) (λ y. Empty (settled frames y)) (Onward Stack) n x v (then_within (λ y. empty_before (settled frames y) (Onward Stack)) n x v l)))

  else_to : (start : ℕ) (condition y : GrownExpr) (frames : List Frame) → Within
      (Then (OneWithin (high y.height || (depth == 0)) (word_of keyword.Else)) (λ _. Then L.choice (λ other. After frames (t.chosen_then start condition y other)))) (Stack (Have (frame.Value start condition) frames y))
  else_to start condition y frames n x v l =
      loop_fold (Turn depth high L) (Have (frame.Value start condition) frames y) n x v
      (regroup_left (OneWithin (high y.height || (depth == 0)) (word_of keyword.Else)) (λ _. Then L.choice (λ other. Empty (settled frames (t.chosen_then start condition y other)))) (Onward Stack) n x v
      (then_within (λ _ m z w k. regroup_left L.choice (λ other. Empty (settled frames (t.chosen_then start condition y other))) (Onward Stack) m z w (then_within (λ other. empty_before (settled frames (t.chosen_then start condition y other)) (Onward Stack)) m z w k)) n x v l))

  then_to : (start : ℕ) (y : GrownExpr) (frames : List Frame) → Within (Then (OneWithin (high y.height) (word_of keyword.Then)) (λ _. Stack (Want (frame.Value start y ∷ frames)))) (Stack (Have (frame.Condition start) frames y))
  then_to start y frames n x v l =
      loop_fold (Turn depth high L) (Have (frame.Condition start) frames y) n x v
      (regroup_left (OneWithin (high y.height) (word_of keyword.Then)) (λ _. Empty (More (Want (frame.Value start y ∷ frames)))) (Onward Stack) n x v (then_within (λ _. empty_before (More (Want (frame.Value start y ∷ frames))) (Onward Stack)) n x v l))

  if_to : (frames : List Frame) → Within (Then (One (word_of keyword.If)) (λ at. Stack (Want (frame.Condition at.start ∷ frames)))) (Stack (Want frames))
  if_to frames n x v l =
      loop_fold (Turn depth high L) (Want frames) n x v
      (first_within (λ m y s e. inl e) n x v
      (regroup_left (One (word_of keyword.If)) (λ at. Empty (More (Want (frame.Condition at.start ∷ frames)))) (Onward Stack) n x v (then_within (λ at. empty_before (More (Want (frame.Condition at.start ∷ frames))) (Onward Stack)) n x v l)))

  -- what stands between `if` and `then`, and so on
  abbrev IfThen : Lang Token GrownExpr → Lang Token GrownExpr
  IfThen C = Then (One (word_of keyword.If)) (λ at. Then C (λ c. Then (OneWithin (high c.height) (word_of keyword.Then)) (λ _. Then C (λ y. Then (OneWithin (high y.height || (depth == 0)) (word_of keyword.Else)) (λ _. Then L.choice (λ other. Empty (t.chosen_then at.start c y other)))))))

  -- the same with what follows it put inside
  abbrev Around : Lang Token GrownExpr → (GrownExpr → Lang Token GrownExpr) → Lang Token GrownExpr
  Around C K = Then (One (word_of keyword.If)) (λ at. Then C (λ c. Then (OneWithin (high c.height) (word_of keyword.Then)) (λ _. Then C (λ y. Then (OneWithin (high y.height || (depth == 0)) (word_of keyword.Else)) (λ _. Then L.choice (λ other. K (t.chosen_then at.start c y other)))))))

  spread : (C : Lang Token GrownExpr) (K : GrownExpr → Lang Token GrownExpr) → Within (Then (IfThen C) K) (Around C K)
  spread C K n x v l =
      then_within (λ at n x v l. then_within (λ c n x v l. then_within (λ _ n x v l. then_within (λ y n x v l. then_within (λ _ n x v l. then_within (λ other. empty_gone (t.chosen_then at.start c y other) K) n x v (regroup_right _ _ K n x v l)) n x v (regroup_right _ _ K n x v l)) n x v (regroup_right _ _ K n x v l)) n x v (regroup_right _ _ K n x v l)) n x v (regroup_right _ _ K n x v l)) n x v (regroup_right _ _ K n x v l)

  around_to : (k : ℕ) → ((frames : List Frame) → Within (Then (g.Choices depth high L k) (After frames)) (Stack (Want frames))) → (frames : List Frame) → Within (Around (g.Choices depth high L k) (After frames)) (Stack (Want frames))
  around_to k ih frames n x v l =
      if_to frames n x v
      (then_within (λ at n x v l. ih (frame.Condition at.start ∷ frames) n x v
      (then_within (λ c n x v l. then_to at.start c frames n x v
      (then_within (λ _ n x v l. ih (frame.Value at.start c ∷ frames) n x v (then_within (λ y. else_to at.start c y frames) n x v l)) n x v l)) n x v l)) n x v l)

  either_to : (k : ℕ) → ((frames : List Frame) → Within (Then (g.Choices depth high L k) (After frames)) (Stack (Want frames))) → (frames : List Frame) (n : ℕ) (x front back : List Token) (y v : GrownExpr)
      → x ≡ front ++ back → g.Choices depth high L (suc k) n front y → After frames y (n - length front) back v → Stack (Want frames) n x v
  either_to k ih frames n x front back y v parts (inl f) s = around_to k ih frames n x v (spread (g.Choices depth high L k) (After frames) n x v (record { front = front; back = back; value = y; parts = parts; first = f; second = s }))
  either_to k ih frames n x front back y v parts (inr f) s = plain_to frames n x v (record { front = front; back = back; value = y; parts = parts; first = f; second = s })

  to_stack : (k : ℕ) (frames : List Frame) → Within (Then (g.Choices depth high L k) (After frames)) (Stack (Want frames))
  to_stack zero frames = plain_to frames
  to_stack (suc k) frames = λ n x v l. either_to k (to_stack k) frames n x l.front l.back l.value v l.parts l.first l.second

  alone_before : (k : ℕ) → Within (g.Choices depth high L k) (Then (g.Choices depth high L k) (λ y. Empty y))
  alone_before k n x v c = record { front = x; back = []; value = v; parts = sym (append-nil x); first = c; second = (refl, refl) }

  pub choice_stack : Within (g.Choice depth high L) (Stack (Want []))
  choice_stack n x v c = to_stack c.0 [] n x v (alone_before c.0 n x v c.1)

  -- ---- and back

  -- a loop of fewer turns
  abbrev Fewer : ℕ → Step Waiting GrownExpr → Lang Token GrownExpr
  Fewer j (More a) n x v = (i : ℕ) × (i < j) × Turns (Turn depth high L) i a n x v
  Fewer j (Done d) n x v = Empty d n x v

  fewer : (i j : ℕ) → i < j → (w : Step Waiting GrownExpr) → Within (Onward (Turns (Turn depth high L) i) w) (Fewer j w)
  fewer i j lt (More a) n x v l = (i, lt, l)
  fewer i j lt (Done d) n x v l = l

  less_still : (i j : ℕ) → i ≤ j → (w : Step Waiting GrownExpr) → Within (Fewer i w) (Fewer j w)
  less_still i j le (More a) n x v l = (l.0, (let lt = l.1 in omega arith), l.2)
  less_still i j le (Done d) n x v l = l

  -- What is to be shown of so many turns.
  abbrev Parts : ℕ → Type 0
  Parts j = (frames : List Frame) (n : ℕ) (x : List Token) (v : GrownExpr) → Turns (Turn depth high L) j (Want frames) n x v → (k : ℕ) × Then (g.Choices depth high L k) (λ y. Fewer j (settled frames y)) n x v

  raise : (k : ℕ) → Within (g.Choices depth high L k) (g.Choices depth high L (suc k))
  raise zero n x v c = inr c
  raise (suc k) n x v (inl c) = inl (then_within (λ at n x v l. first_within (raise k) n x v (then_within (λ c n x v l. then_within (λ _. first_within (raise k)) n x v l) n x v l)) n x v c)
  raise (suc k) n x v (inr c) = inr c

  recount : (a b : ℕ) → a ≡ b → Within (g.Choices depth high L a) (g.Choices depth high L b)
  recount a b same n x v c = subst (λ (m : ℕ). g.Choices depth high L m n x v) same c

  lift_other : (d k : ℕ) → Within (g.Choices depth high L k) (g.Choices depth high L (k + d))
  lift_other zero k n x v c = recount k (k + 0) (omega arith) n x v c
  lift_other (suc d) k n x v c = recount (suc (k + d)) (k + suc d) (omega arith) n x v (raise (k + d) n x v (lift_other d k n x v c))

  lift : (d k : ℕ) → Within (g.Choices depth high L k) (g.Choices depth high L (d + k))
  lift d k n x v c = recount (k + d) (d + k) (omega arith) n x v (lift_other d k n x v c)

  abbrev ElsePart : ℕ → ℕ → GrownExpr → List Frame → GrownExpr → Lang Token GrownExpr
  ElsePart j start c frames y = Then (OneWithin (high y.height || (depth == 0)) (word_of keyword.Else)) (λ _. Then L.choice (λ other. Fewer j (settled frames (t.chosen_then start c y other))))

  else_from : (i j : ℕ) → i < j → (start : ℕ) (c : GrownExpr) (frames : List Frame) (y : GrownExpr) → Within (Turns (Turn depth high L) i (Have (frame.Value start c) frames y)) (ElsePart j start c frames y)
  else_from zero j lt start c frames y n x v l = absurd l
  else_from (suc i) j lt start c frames y n x v l =
      then_within (λ _ n x v l. then_within (λ other n x v l. fewer i j (omega arith) (settled frames (t.chosen_then start c y other)) n x v (empty_gone (settled frames (t.chosen_then start c y other)) (Onward (Turns (Turn depth high L) i)) n x v l)) n x v
      (regroup_right L.choice (λ other. Empty (settled frames (t.chosen_then start c y other))) (Onward (Turns (Turn depth high L) i)) n x v l)) n x v
      (regroup_right (OneWithin (high y.height || (depth == 0)) (word_of keyword.Else)) (λ _. Then L.choice (λ other. Empty (settled frames (t.chosen_then start c y other)))) (Onward (Turns (Turn depth high L) i)) n x v l)

  -- what stands behind a condition
  abbrev ThenPart : ℕ → ℕ → ℕ → List Frame → GrownExpr → Lang Token GrownExpr
  ThenPart k j start frames c = Then (OneWithin (high c.height) (word_of keyword.Then)) (λ _. Then (g.Choices depth high L k) (ElsePart j start c frames))

  then_from : (j : ℕ) → ((i : ℕ) → i < j → Parts i) → (i : ℕ) → i < j → (start : ℕ) (frames : List Frame) (c : GrownExpr) (n : ℕ) (x : List Token) (v : GrownExpr) → Turns (Turn depth high L) i (Have (frame.Condition start) frames c) n x v → (k : ℕ) × ThenPart k j start frames c n x v
  then_from j ih zero lt start frames c n x v t = absurd t
  then_from j ih (suc i) lt start frames c n x v t =
      let q = then_within (λ _. empty_gone (More (Want (frame.Value start c ∷ frames))) (Onward (Turns (Turn depth high L) i))) n x v (regroup_right (OneWithin (high c.height) (word_of keyword.Then)) (λ _. Empty (More (Want (frame.Value start c ∷ frames)))) (Onward (Turns (Turn depth high L) i)) n x v t) in
      let m = ih i (omega arith) (frame.Value start c ∷ frames) (n - length q.front) q.back v q.second in
      (m.0, record { front = q.front; back = q.back; value = q.value; parts = q.parts; first = q.first; second = then_within (λ y n x v l. else_from l.0 j (let less = l.1 in omega arith) start c frames y n x v l.2) (n - length q.front) q.back v m.1 })

  condition_from : (j : ℕ) → ((i : ℕ) → i < j → Parts i) → (i : ℕ) → i < j → (start : ℕ) (frames : List Frame) (n : ℕ) (x : List Token) (v : GrownExpr) → Turns (Turn depth high L) i (Want (frame.Condition start ∷ frames)) n x v
      → (k : ℕ) × Then (g.Choices depth high L k) (ThenPart k j start frames) n x v
  condition_from j ih i lt start frames n x v t =
      let q = ih i lt (frame.Condition start ∷ frames) n x v t in
      let m = then_from j ih q.1.second.0 (let less = q.1.second.1 in omega arith) start frames q.1.value (n - length q.1.front) q.1.back v q.1.second.2 in (
        m.0 + q.0,
        record {
          front = q.1.front;
          back = q.1.back;
          value = q.1.value;
          parts = q.1.parts;
          first = lift m.0 q.0 n q.1.front q.1.value q.1.first;
          second = then_within (λ _. first_within (lift_other q.0 m.0)) (n - length q.1.front) q.1.back v m.1;
        },
      )

  gather : (C : Lang Token GrownExpr) (K : GrownExpr → Lang Token GrownExpr) → Within (Around C K) (Then (IfThen C) K)
  gather C K n x v l =
      regroup_left _ _ K n x v (then_within (λ at n x v l. regroup_left _ _ K n x v (then_within (λ c n x v l. regroup_left _ _ K n x v (then_within (λ _ n x v l. regroup_left _ _ K n x v (then_within (λ y n x v l. regroup_left _ _ K n x v (then_within (λ _ n x v l. regroup_left _ _ K n x v (then_within (λ other. empty_before (t.chosen_then at.start c y other) K) n x v l)) n x v l)) n x v l)) n x v l)) n x v l)) n x v l)

  step_from : (i : ℕ) → ((j : ℕ) → j < suc i → Parts j) → (frames : List Frame) (n : ℕ) (x front back : List Token) (w : Step Waiting GrownExpr) (v : GrownExpr) → x ≡ front ++ back → Turn depth high L (Want frames) n front w
      → Onward (Turns (Turn depth high L) i) w (n - length front) back v → (k : ℕ) × Then (g.Choices depth high L k) (λ y. Fewer (suc i) (settled frames y)) n x v
  step_from i ih frames n x front back w v parts (inl f) s =
      let q = then_within (λ at. empty_gone (More (Want (frame.Condition at.start ∷ frames))) (Onward (Turns (Turn depth high L) i))) n x v (regroup_right (One (word_of keyword.If)) (λ at. Empty (More (Want (frame.Condition at.start ∷ frames)))) (Onward (Turns (Turn depth high L) i)) n x v (record { front = front; back = back; value = w; parts = parts; first = f; second = s })) in
      let m = condition_from (suc i) ih i (omega arith) q.value.start frames (n - length q.front) q.back v q.second in
      (suc m.0, first_within (λ n x v l. inl l) n x v (gather (g.Choices depth high L m.0) (λ y. Fewer (suc i) (settled frames y)) n x v (record { front = q.front; back = q.back; value = q.value; parts = q.parts; first = q.first; second = m.1 })))
  step_from i ih frames n x front back w v parts (inr f) s = (
    zero,
    then_within (λ y n x v l. fewer i (suc i) (omega arith) (settled frames y) n x v (empty_gone (settled frames y) (Onward (Turns (Turn depth high L) i)) n x v l)) n x v
        (regroup_right (g.Conditional depth high L) (λ y. Empty (settled frames y)) (Onward (Turns (Turn depth high L) i)) n x v (record { front = front; back = back; value = w; parts = parts; first = f; second = s })),
  )

  turns_from : (j : ℕ) → ((i : ℕ) → i < j → Parts i) → Parts j
  turns_from zero ih frames n x v t = absurd t
  turns_from (suc i) ih frames n x v t = step_from i ih frames n x t.front t.back t.value v t.parts t.first t.second

  all_from : (bound j : ℕ) → j < bound → Parts j
  all_from zero j lt = absurd (omega arith)
  all_from (suc bound) j lt = turns_from j (λ i less. all_from bound i (omega arith))

  alone_gone : (j k : ℕ) → Within (Then (g.Choices depth high L k) (λ y. Fewer j (settled [] y))) (g.Choices depth high L k)
  alone_gone j k n x v t = subst (λ (z : List Token). g.Choices depth high L k n z v) (sym (t.parts ∙ ap (λ (z : List Token). t.front ++ z) t.second.0 ∙ append-nil t.front)) (subst (λ (y : GrownExpr). g.Choices depth high L k n t.front y) (sym t.second.1) t.first)

  pub stack_choice : Within (Stack (Want [])) (g.Choice depth high L)
  stack_choice n x v l = let m = all_from (suc l.0) l.0 (omega arith) [] n x v l.1 in (m.0, alone_gone l.0 m.0 n x v m.1)

-- ---- the level

module _ (mode : Mode) (depth deep : ℕ) (high : ℕ → Bool) (L U : g.Inner) (P : r.Inner) (h : Known (lowered (depth == 0) mode) L U P) where
  pub exact_choice : IsExactAt mode (g.Choice depth high L) (g.Choice (suc deep) unlimited U) (r.choice depth high P) (λ _. go 12)
  exact_choice =
      exact_alike {L = Stack depth high L (Want [])} {U = Stack (suc deep) unlimited U (Want [])} {M = g.Choice depth high L} {V = g.Choice (suc deep) unlimited U}
      (stack_choice depth high L) (choice_stack depth high L) (stack_choice (suc deep) unlimited U) (exact_stack mode depth deep high L U P h)

  choices_begin : (k : ℕ) → Begins starts (g.Choices depth high L k)
  unfolding same_sign same_keyword
  choices_begin zero = begins_in negation_in (conditional_begins mode depth deep high L U P h)
  choices_begin (suc k) = begins_either (begins_then (begins_one_mark (Reserved keyword.If) (λ t e. ap (λ d. start_at d t) e))) (begins_in negation_in (conditional_begins mode depth deep high L U P h))

  choice_begins : Begins starts (g.Choice depth high L)
  choice_begins = record { at = λ n x a c. (choices_begin c.0).at n x a c.1 }

  pub exact_expr : IsExactAt mode (g.Expr depth high L) (g.Expr (suc deep) unlimited U) (r.expr depth high P) (λ _. go 11)
  unfolding r.expr
  exact_expr = exact_operators mode depth deep high L U P h 1 11 12 refl (omega arith) some_set exact_choice

  pub expr_begins : Begins starts (g.Expr depth high L)
  expr_begins = begins_then choice_begins
