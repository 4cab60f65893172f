-- The reader of expressions is eager, level by level.
use Rattle.std.proofs.Common.{◌≡◌, ℕ, zero, suc, Bool, true, false, cond, ◌||◌, ◌==◌, Option, Some, None, [], ap, arith}
use Rattle.ev_lex.specs.declared.token.Token.{Token}
use Rattle.ev_lex.specs.declared.token.Sign.TheVariants as sign
use Rattle.ev_lex.specs.declared.keyword.Keyword.TheVariants as keyword
use Rattle.ast.specs.declared.name.Span.{Span}
use Rattle.ast.specs.declared.name.Name.{Name}
use Rattle.ast.specs.declared.name.QualifiedName.{QualifiedName}
use Rattle.eql_grammar.specs.declared.class.Class.{Class}
use Rattle.eql_grammar.specs.declared.class.Class.TheVariants.{Sign as ASign}
use Rattle.eql_grammar.specs.declared.grown.Bunch.{Bunch}
use Rattle.eql_grammar.specs.declared.grown.Frame.TheVariants as frame
use Rattle.eql_grammar.specs.declared.grown.GrownExpr.{GrownExpr}
use Rattle.eql_grammar.specs.Words.{is, is_sign, word_class, span, mark_of, comma_of, name_of, parameter_of, literal_of, infix_of, prefix_of}
use Rattle.eql_grammar.specs.Trees as t
use Rattle.eql_grammar.specs.Readers as r
use Rattle.eql_grammar.specs.Readers.{Waiting, Want, Have, settled}
use Rattle.eql_grammar.proofs.Levels.{within_known}
use Rattle.exact.specs.declared.rule.Rule.TheVariants.{TooDeep}
use Rattle.exact.specs.Reading.{Reader, ◌>>=◌, pure, has, one, one_within}
use Rattle.eql_parse.proofs.Eager.{IsLocal, IsEager, IsLed, Hungry, some, local_exact, local_items, eager_pure, eager_refuse, eager_one, eager_then, eager_until, eager_choose, eager_choose_hungry, eager_chain, eager_loop_refused, led_one, led_then, led_or, hungry_then}

-- What is known of the readers of an open part.
pub record Inside (P : r.Inner) : Type 0 where
  pub expr : IsEager P.expr
  pub choice : IsEager P.choice
  pub negation : IsEager P.negation
  pub coalesce : IsEager P.coalesce
  pub unary : IsEager P.unary
  pub statement : IsLocal P.statement
  pub element : IsLocal P.element

-- ---- a token, and what follows it

marked : (c : Class) (t : Token) → is c t ≡ true → has (mark_of c) t ≡ true
marked c t h = ap (λ (b : Bool). some (cond b (Some (span t)) None)) h

commas : (t : Token) → is_sign sign.Comma t ≡ true → has comma_of t ≡ true
commas t h = ap (λ (b : Bool). some (cond b (Some tt) None)) h

led : {X A : Type 0} {Q : X → Reader Token A} (over : Bool) (f : Token → Option X) → ((x : X) → IsEager (Q x)) → IsLed (has f) (one_within over f >>= Q)
led over f q = led_then (led_one over f (λ t h. h)) q

marks : {A : Type 0} {Q : Span → Reader Token A} (over : Bool) (c : Class) → ((at : Span) → IsEager (Q at)) → IsLed (is c) (one_within over (mark_of c) >>= Q)
marks over c q = led_then (led_one over (mark_of c) (marked c)) q

-- a name, and the value that is made of it
name_then : {A : Type 0} (f : Name → A) → IsEager (one name_of >>= λ name. pure (f name))
name_then f = eager_then (eager_one false name_of) (λ name. eager_pure (f name))

eager_qname : IsEager r.qname
unfolding r.qname
eager_qname = eager_then (eager_one false name_of) (λ first. eager_choose (marks false (ASign sign.Namespace) (λ _. name_then (t.in_module first))) (eager_pure (t.bare_name first)))

module _ (depth : ℕ) (high : ℕ → Bool) (P : r.Inner) (h : Inside P) where
  -- ---- brackets

  further : (all : Bunch) → IsEager (r.further depth high P all)
  unfolding r.further
  further all = eager_chain (is_sign sign.Comma) (r.next_listed depth high P) (λ all. marks (high all.height) (ASign sign.Comma) (λ _. eager_then h.expr (λ x. eager_pure (t.added all x)))) all

  listed : (before : Bunch) → IsEager (r.listed depth high P before)
  unfolding r.listed
  listed before = eager_then h.expr (λ x. further (t.added before x))

  -- expressions, and the bracket behind them
  listed_then : {A : Type 0} (before : Bunch) (f : Bunch → Span → A) → IsEager (r.listed depth high P before >>= λ all. one_within (high all.height) (mark_of (ASign sign.RightParen)) >>= λ close. pure (f all close))
  listed_then before f = eager_then (listed before) (λ all. eager_then (eager_one (high all.height) (mark_of (ASign sign.RightParen))) (λ close. eager_pure (f all close)))

  arguments : (name : QualifiedName) → IsLed (is_sign sign.LeftParen) (r.arguments depth high P name)
  unfolding r.arguments
  arguments name = marks (depth == 0) (ASign sign.LeftParen) (λ _. eager_choose (marks false (ASign sign.RightParen) (λ close. eager_pure (t.call name t.nothing_yet close))) (listed_then t.nothing_yet (t.call name)))

  name_or_call : IsEager (r.name_or_call depth high P)
  unfolding r.name_or_call
  name_or_call = eager_then eager_qname (λ name. eager_choose (arguments name) (eager_pure (t.named name)))

  closed : (bracket : Span) (x : GrownExpr) → IsEager (r.closed depth high P bracket x)
  unfolding r.closed
  closed bracket x =
      eager_choose (marks (high x.height) (ASign sign.RightParen) (λ close. eager_pure (t.grouped bracket x close)))
      (eager_then (eager_one (high x.height) (mark_of (ASign sign.Comma)))
      (λ _. eager_choose (marks false (ASign sign.RightParen) (λ close. eager_pure (t.tuple bracket (t.alone x) close))) (listed_then (t.alone x) (t.tuple bracket))))

  closed_hungry : (bracket : Span) (x : GrownExpr) → Hungry (r.closed depth high P bracket x)
  unfolding r.closed
  closed_hungry bracket x y rest e = absurd cc

  group : IsLed (is_sign sign.LeftParen) (r.group depth high P)
  unfolding r.group
  group =
      marks (depth == 0) (ASign sign.LeftParen)
      (λ bracket. eager_choose_hungry
      (eager_until h.statement (λ s. eager_then (eager_one (high (t.statement_of s).height) (mark_of (ASign sign.RightParen))) (λ close. eager_pure (t.stated bracket (t.statement_of s) close))) (λ s y rest e. absurd cc))
      (eager_then h.expr (closed bracket))
      (hungry_then P.expr (r.closed depth high P bracket) h.expr.local (closed_hungry bracket)))

  braces : IsLed (is_sign sign.LeftBrace) (r.braces depth high P)
  unfolding r.braces
  braces =
      marks (depth == 0) (ASign sign.LeftBrace)
      (λ bracket. eager_choose (marks false (ASign sign.RightBrace) (λ close. eager_pure (t.set bracket t.nothing_yet close)))
      (eager_until (local_items (λ all. high all.height) (is_sign sign.Comma) comma_of (is_sign sign.RightBrace) P.expr t.added h.expr.local commas t.alone)
      (λ all. eager_then (eager_one (high all.height) (mark_of (ASign sign.RightBrace))) (λ close. eager_pure (t.set bracket all close))) (λ all y rest e. absurd cc)))

  shape : (over : Bool) → IsLed (is_sign sign.LeftBrace) (r.shape depth high P over)
  unfolding r.shape
  shape over =
      marks over (ASign sign.LeftBrace)
      (λ bracket. eager_until (local_items (λ all. high all.height) (is_sign sign.Comma) comma_of (is_sign sign.RightBrace) P.element t.added_element h.element commas t.first_element)
      (λ all. eager_then (eager_one (high all.height) (mark_of (ASign sign.RightBrace))) (λ close. eager_pure (t.shape bracket all close))) (λ all y rest e. absurd cc))

  -- ---- atoms and postfixes

  atom : IsEager (r.atom depth high P)
  unfolding r.atom
  atom =
      eager_choose group
      (eager_choose braces
      (eager_choose (led false literal_of (λ x. eager_pure (t.leaf x)))
      (eager_choose (marks false (ASign sign.Dot) (λ at. name_then (t.partial_step at)))
      (eager_choose (marks false (ASign sign.BackLink) (λ at. name_then (t.partial_back_link at)))
      (eager_choose (marks false (ASign sign.At) (λ at. name_then (t.partial_property at)))
      (eager_choose (marks false (word_class keyword.Global) (λ at. name_then (t.global_named at)))
      name_or_call))))))

  postfix : (base : GrownExpr) → IsLed (r.is_postfix depth high P) (r.postfix depth high P base)
  unfolding r.postfix
  postfix base =
      led_or (marks (high base.height) (ASign sign.Dot) (λ at. name_then (λ name. t.stepped base (t.dot at name))))
      (led_or (marks (high base.height) (ASign sign.BackLink) (λ at. name_then (λ name. t.stepped base (t.back_link at name))))
      (led_or (marks (high base.height) (ASign sign.At) (λ at. name_then (λ name. t.stepped base (t.property at name))))
      (led_or
      (marks (high base.height || (depth == 0)) (ASign sign.LeftBracket)
      (λ bracket. eager_then (eager_one false (mark_of (word_class keyword.Is)))
      (λ _. eager_then eager_qname (λ ty. eager_then (eager_one false (mark_of (ASign sign.RightBracket))) (λ close. eager_pure (t.stepped base (t.is_type bracket ty close)))))))
      (led_then (shape (high base.height || (depth == 0))) (λ found. eager_pure (t.with_shape base found))))))

  post : IsEager (r.post depth high P)
  unfolding r.post r.postfixes
  post = eager_then atom (eager_chain (r.is_postfix depth high P) (r.postfix depth high P) postfix)

  -- ---- the levels, from the tightest to the loosest

  parameter : (bracket : Span) (optional : Bool) (ty : QualifiedName) → IsLed (is_sign sign.Dollar) (r.parameter depth high P bracket optional ty)
  unfolding r.parameter
  parameter bracket optional ty = marks false (ASign sign.Dollar) (λ dollar. eager_then (eager_one false parameter_of) (λ name. eager_pure (t.parameter bracket optional ty dollar name)))

  cast : IsLed (is_sign sign.Less) (r.cast depth high P)
  unfolding r.cast
  cast =
      marks (depth == 0) (ASign sign.Less)
      (λ bracket. eager_choose
      (marks false (word_class keyword.Optional) (λ _. eager_then eager_qname (λ ty. eager_then (eager_one false (mark_of (ASign sign.Greater))) (λ _. (parameter bracket true ty).eager))))
      (eager_then eager_qname
      (λ ty. eager_then (eager_one false (mark_of (ASign sign.Greater))) (λ _. eager_choose (parameter bracket false ty) (eager_then h.unary (λ x. eager_pure (t.cast bracket ty x)))))))

  unary : IsEager (r.unary depth high P)
  unfolding r.unary
  unary = eager_choose (led (depth == 0) prefix_of (λ found. eager_then h.unary (λ x. eager_pure (t.prefixed found x)))) (eager_choose cast post)

  coalesce : IsEager (r.coalesce depth high P)
  unfolding r.coalesce
  coalesce = eager_then unary (λ left. eager_choose (led (high left.height || (depth == 0)) (infix_of 9) (λ found. eager_then h.coalesce (λ right. eager_pure (t.operated found left right)))) (eager_pure left))

  operators : {q : Reader Token GrownExpr} (level : ℕ) → IsEager q → IsEager (r.operators depth high P level q)
  operators {q} level p =
      eager_then p (eager_chain (has (infix_of level)) (r.operation depth high P level q) (λ left. led (high left.height) (infix_of level) (λ found. eager_then p (λ right. eager_pure (t.operated found left right)))))

  sum : IsEager (r.sum depth high P)
  unfolding r.sum r.product
  sum = operators 7 (operators 8 coalesce)

  comparing : (over : Bool) → IsLed (r.compares depth high P) (r.comparing depth high P over)
  unfolding r.comparing
  comparing over = led_or (led_one over (infix_of 6) (λ t h. h)) (marks over (word_class keyword.Not) (λ first. eager_then (eager_one false (mark_of (word_class keyword.In))) (λ second. eager_pure _)))

  comparison : IsEager (r.comparison depth high P)
  unfolding r.comparison
  comparison = eager_then sum (λ left. eager_choose (led_then (comparing (high left.height)) (λ found. eager_then sum (λ right. eager_pure (t.operated found left right)))) (eager_pure left))

  negation : IsEager (r.negation depth high P)
  unfolding r.negation
  negation = eager_choose (marks (depth == 0) (word_class keyword.Not) (λ at. eager_then h.negation (λ x. eager_pure _))) comparison

  disjunction : IsEager (r.disjunction depth high P)
  unfolding r.disjunction r.conjunction
  disjunction = operators 3 (operators 4 negation)

  -- ---- `if` and `else`

  conditional : IsEager (r.conditional depth high P)
  unfolding r.conditional
  conditional =
      eager_then disjunction
      (λ value. eager_choose
      (marks (high value.height) (word_class keyword.If)
      (λ _. eager_then disjunction
      (λ condition. eager_then (eager_one (high condition.height || (depth == 0)) (mark_of (word_class keyword.Else))) (λ _. eager_then h.choice (λ other. eager_pure (t.chosen value condition other))))))
      (eager_pure value))

  turn : (waiting : Waiting) → IsEager (r.if_turn depth high P waiting)
  unfolding r.if_turn
  turn (Want frames) = eager_choose (marks false (word_class keyword.If) (λ at. eager_pure _)) (eager_then conditional (λ x. eager_pure (settled frames x)))
  turn (Have (frame.Condition start) frames x) = eager_then (eager_one (high x.height) (mark_of (word_class keyword.Then))) (λ _. eager_pure _)
  turn (Have (frame.Value start condition) frames x) =
      eager_then (eager_one (high x.height || (depth == 0)) (mark_of (word_class keyword.Else))) (λ _. eager_then h.choice (λ other. eager_pure (settled frames (t.chosen_then start condition x other))))

  choice : IsEager (r.choice depth high P)
  unfolding r.choice
  choice = eager_loop_refused (r.if_turn depth high P) turn (Want [])

  expr : IsEager (r.expr depth high P)
  unfolding r.expr
  expr = operators 1 choice

  level_inside : IsLocal (r.statement depth high P) → IsLocal (r.element depth high P) → Inside (r.levels depth high P)
  level_inside s e = record { expr = expr; choice = choice; negation = negation; coalesce = coalesce; unary = unary; statement = s; element = e }

-- ---- the induction

nothing_inside : Inside r.nothing
nothing_inside = record {
  expr = eager_refuse TooDeep;
  choice = eager_refuse TooDeep;
  negation = eager_refuse TooDeep;
  coalesce = eager_refuse TooDeep;
  unary = eager_refuse TooDeep;
  statement = (eager_refuse TooDeep).local;
  element = (eager_refuse TooDeep).local;
}

statement_local : (high : ℕ → Bool) (depth : ℕ) → IsLocal (r.within high depth).statement
statement_local high depth = local_exact ((within_known high 0 depth (suc (suc depth)) (omega arith)).statement.exact tt)

element_local : (high : ℕ → Bool) (depth : ℕ) → IsLocal (r.within high depth).element
element_local high depth = local_exact ((within_known high 0 depth (suc (suc depth)) (omega arith)).element.exact tt)

pub within_inside : (high : ℕ → Bool) (depth : ℕ) → Inside (r.within high depth)
unfolding r.within
within_inside high zero = level_inside zero high r.nothing nothing_inside (statement_local high zero) (element_local high zero)
within_inside high (suc depth) = level_inside (suc depth) high (r.within high depth) (within_inside high depth) (statement_local high (suc depth)) (element_local high (suc depth))
