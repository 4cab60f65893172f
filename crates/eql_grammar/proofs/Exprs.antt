-- The readers of expressions are exact for the grammar, up to the nested `if`s.
use Rattle.std.proofs.Common.{◌≡◌, ℕ, suc, ◌+◌, ◌<◌, Bool, true, false, not, ◌==◌, refl, ap, arith}
use Rattle.std.proofs.Math.Dec.{eqb-suc-zero}
use Rattle.ev_lex.specs.declared.token.Token.{Token}
use Rattle.ev_lex.specs.declared.token.Sign.TheVariants as sign
use Rattle.ev_lex.specs.declared.keyword.Keyword.TheVariants as keyword
use Rattle.ast.specs.declared.name.Span.{Span}
use Rattle.ast.specs.declared.name.QualifiedName.{QualifiedName}
use Rattle.eql_grammar.specs.declared.grown.Bunch.{Bunch}
use Rattle.eql_grammar.specs.declared.grown.GrownExpr.{GrownExpr}
use Rattle.eql_grammar.specs.declared.grown.GrownShape.{GrownShape}
use Rattle.eql_grammar.specs.Words.{is_sign, is_word, same_sign, same_keyword, span, sign_of, word_of, is_statement, name_of, parameter_of, literal_of, infix_of, prefix_of, prefix_in, infix_if, infix_in}
use Rattle.eql_grammar.specs.declared.class.Class.TheVariants.{Sign as ASign, Reserved}
use Rattle.eql_grammar.specs.Trees as t
use Rattle.eql_grammar.specs.Trees.{unlimited}
use Rattle.eql_grammar.specs.Grammar as g
use Rattle.eql_grammar.specs.Readers as r
use Rattle.exact.specs.Language.{Lang, Empty, One, Then, Either}
use Rattle.exact.specs.Reading.{Reader, has, inside}
use Rattle.exact.proofs.Heads.{Begins, Avoids, never, begins_one, begins_then, begins_either, begins_in, avoids_begins, avoids_begun, avoids_empty, avoids_either, avoids_none, avoids_chain}
use Rattle.exact.proofs.Single.{has_some}
use Rattle.exact.proofs.Laws.{Mode, lowered, IsExactAt, exact_pure, exact_one, exact_one_within, exact_then, exact_map, exact_lead, exact_open, exact_behind, exact_within, exact_choose, exact_chain, exact_items, exact_weaken}
use Rattle.eql_grammar.proofs.Sets.{At, AtLiterals, AtNames, SomeInfix, a_sign, at_mark, at_name, atom_at, atom_in, atom_starts, avoids_mark, avoids_one_mark, begins_infix, begins_literal, begins_mark, begins_name, begins_one_mark, begins_prefix, behind, closes_mark, comma_some, covers_mark, element_go, go, got, lacks_mark, lead, level_apart, level_covers, list_go, literal_at, negation_at, negation_starts, opening, opening_behind, operand_at, operand_in, operand_out, operand_starts, or_cases, or_false, or_left, or_one, or_other, or_right, outside_mark, prefix_in_unary, some_and, some_coalesce, some_comma, some_equal, some_literal, some_name, some_or, some_plus, some_prefix, some_sign, some_star, start_at, starts, tighter, unary_at, unary_in, unary_starts, word_Else, word_Global, word_If, word_In, word_Is, word_Not, word_Optional}

-- What is known of the languages and readers of a level, U being the same with no limit passed.
pub record Known (mode : Mode) (L U : g.Inner) (P : r.Inner) : Type 0 where
  pub expr : IsExactAt mode L.expr U.expr P.expr (λ _. go 11)
  pub choice : IsExactAt mode L.choice U.choice P.choice (λ _. go 12)
  pub negation : IsExactAt mode L.negation U.negation P.negation (λ _. go 16)
  pub coalesce : IsExactAt mode L.coalesce U.coalesce P.coalesce (λ _. go 19)
  pub unary : IsExactAt mode L.unary U.unary P.unary (λ _. go 21)
  pub statement : IsExactAt mode L.statement U.statement P.statement (λ _. go 1)
  pub element : IsExactAt mode L.element U.element P.element (λ _. element_go)
  pub begins : Begins starts L.expr
  pub unary_begins : Begins unary_starts L.unary
  pub statement_begins : Begins is_statement L.statement
  pub element_begins : Begins (inside (is_sign sign.RightBrace)) L.element

-- ---- names

pub names_begin : Begins (has name_of) (One name_of)
names_begin = begins_one name_of (λ t a e. has_some name_of t a e)

pub exact_qname : {mode : Mode} → IsExactAt mode g.QName g.QName r.qname (λ _. go 23)
unfolding r.qname same_sign same_keyword
exact_qname =
    exact_then (exact_one name_of some_name.token some_name.name some_name.known)
    (λ first. exact_choose (lead (some_sign sign.Namespace) (λ _. exact_lead name_of some_name.token some_name.name some_name.known (λ second. exact_pure (t.in_module first second))))
    (exact_pure (t.bare_name first))
    (begins_then (begins_one_mark (ASign sign.Namespace) (λ t e. rw e refl)))
    (avoids_empty (t.bare_name first) (covers_mark (ASign sign.Namespace) (λ t e. rw e refl))))
    (λ first. avoids_none)

pub qname_begins : Begins (has name_of) g.QName
qname_begins = begins_then names_begin

pub starts_no_statement : (t : Token) → starts t ≡ true → is_statement t ≡ false
unfolding same_sign same_keyword
starts_no_statement t h = or_false ((lacks_mark (Reserved keyword.With) {set = starts} (λ t e. ap (λ d. start_at d t) e)) t h) (or_false ((lacks_mark (Reserved keyword.For) {set = starts} (λ t e. ap (λ d. start_at d t) e)) t h) ((lacks_mark (Reserved keyword.Select) {set = starts} (λ t e. ap (λ d. start_at d t) e)) t h))

module _ (mode : Mode) (depth deep : ℕ) (high : ℕ → Bool) (L U : g.Inner) (P : r.Inner) (h : Known (lowered (depth == 0) mode) L U P) where
  free : (suc deep == 0) ≡ false
  free = eqb-suc-zero deep

  -- ---- expressions with commas between them

  exact_further : (all : Bunch) → IsExactAt (lowered (depth == 0) mode) (g.Further depth high L all) (g.Further (suc deep) unlimited U all) (r.further depth high P all) (λ _. list_go)
  unfolding r.further same_sign same_keyword
  exact_further all =
      exact_chain {go = list_go} (λ all. behind (some_sign sign.Comma) refl (λ _. exact_map (t.added all) h.expr))
      (λ all. begins_then (begins_mark (ASign sign.Comma) (λ t e. rw e refl))) (at_mark (ASign sign.Comma) (λ t e. rw e refl)) (λ t. or_left (is_sign sign.Comma t) (go 11 t)) (λ t. or_right (is_sign sign.Comma t) (go 11 t)) all

  exact_listed : (all : Bunch) → IsExactAt (lowered (depth == 0) mode) (g.Listed depth high L all) (g.Listed (suc deep) unlimited U all) (r.listed depth high P all) (λ _. list_go)
  unfolding r.listed same_sign same_keyword
  exact_listed all =
      exact_then h.expr (λ x. exact_further (t.added all x)) (λ x. avoids_chain (λ all. (avoids_mark (ASign sign.Comma) (λ t e. rw e refl))) (λ _ t. or_right (is_sign sign.Comma t) (go 11 t)) (t.added all x))

  -- ---- calls

  exact_arguments : {on : GrownExpr → Token → Bool} (name : QualifiedName) → IsExactAt mode (g.Arguments depth high L name) (g.Arguments (suc deep) unlimited U name) (r.arguments depth high P name) on
  unfolding r.arguments same_sign same_keyword
  exact_arguments name =
      opening (some_sign sign.LeftParen) free
      (λ _. exact_choose (lead (some_sign sign.RightParen) (λ close. exact_pure (t.call name t.nothing_yet close)))
      (exact_then (exact_listed t.nothing_yet) (λ all. behind (some_sign sign.RightParen) refl (λ close. exact_pure (t.call name all close))) (λ all. (avoids_mark (ASign sign.RightParen) (λ t e. rw e refl))))
      (begins_then (begins_one_mark (ASign sign.RightParen) (λ t e. rw e refl)))
      (avoids_begins (begins_then (begins_then h.begins)) (lacks_mark (ASign sign.RightParen) {set = starts} (λ t e. ap (λ d. start_at d t) e))))

  exact_name_or_call : IsExactAt mode (g.NameOrCall depth high L) (g.NameOrCall (suc deep) unlimited U) (r.name_or_call depth high P) (λ _. go 22)
  unfolding r.name_or_call same_sign same_keyword
  exact_name_or_call =
      exact_then exact_qname
      (λ name. exact_choose (exact_arguments name) (exact_pure (t.named name)) (begins_then (begins_mark (ASign sign.LeftParen) (λ t e. rw e refl))) (avoids_empty (t.named name) (covers_mark (ASign sign.LeftParen) (λ t e. rw e refl))))
      (λ name. avoids_either (avoids_mark (ASign sign.LeftParen) (λ t e. rw e refl)) (avoids_empty (t.named name) (tighter 22 23 (omega arith))))

  -- ---- brackets

  exact_closed : {on : GrownExpr → Token → Bool} (bracket : Span) (x : GrownExpr) → IsExactAt (lowered (depth == 0) mode) (g.Closed depth high L bracket x) (g.Closed (suc deep) unlimited U bracket x) (r.closed depth high P bracket x) on
  unfolding r.closed same_sign same_keyword
  exact_closed bracket x =
      exact_choose (behind (some_sign sign.RightParen) refl (λ close. exact_pure (t.grouped bracket x close)))
      (behind (some_sign sign.Comma) refl
      (λ _. exact_choose (lead (some_sign sign.RightParen) (λ close. exact_pure (t.tuple bracket (t.alone x) close)))
      (exact_then (exact_listed (t.alone x)) (λ all. behind (some_sign sign.RightParen) refl (λ close. exact_pure (t.tuple bracket all close))) (λ all. (avoids_mark (ASign sign.RightParen) (λ t e. rw e refl))))
      (begins_then (begins_one_mark (ASign sign.RightParen) (λ t e. rw e refl)))
      (avoids_begins (begins_then (begins_then h.begins)) (lacks_mark (ASign sign.RightParen) {set = starts} (λ t e. ap (λ d. start_at d t) e)))))
      (begins_then (begins_mark (ASign sign.RightParen) (λ t e. rw e refl)))
      (avoids_mark (ASign sign.Comma) (λ t e. rw e refl))

  closed_avoids : {on : GrownExpr → Token → Bool} (bracket : Span) (x : GrownExpr) → Avoids (go 11) (g.Closed depth high L bracket x) on
  unfolding same_sign same_keyword
  closed_avoids bracket x = avoids_either (avoids_mark (ASign sign.RightParen) (λ t e. rw e refl)) (avoids_mark (ASign sign.Comma) (λ t e. rw e refl))

  exact_group : {on : GrownExpr → Token → Bool} → IsExactAt mode (g.Group depth high L) (g.Group (suc deep) unlimited U) (r.group depth high P) on
  unfolding r.group same_sign same_keyword
  exact_group =
      opening (some_sign sign.LeftParen) free
      (λ bracket. exact_choose
      (exact_then h.statement (λ s. behind (some_sign sign.RightParen) refl (λ close. exact_pure (t.stated bracket (t.statement_of s) close))) (λ s. (avoids_mark (ASign sign.RightParen) (λ t e. rw e refl))))
      (exact_then h.expr (λ x. exact_closed bracket x) (λ x. closed_avoids bracket x))
      (begins_then h.statement_begins)
      (avoids_begins (begins_then h.begins) starts_no_statement))

  exact_braces : {on : GrownExpr → Token → Bool} → IsExactAt mode (g.Braces depth high L) (g.Braces (suc deep) unlimited U) (r.braces depth high P) on
  unfolding r.braces same_sign same_keyword
  exact_braces =
      opening (some_sign sign.LeftBrace) free
      (λ bracket. exact_choose (lead (some_sign sign.RightBrace) (λ close. exact_pure (t.set bracket t.nothing_yet close)))
      (exact_then
      (exact_items (is_sign sign.RightBrace) (λ all. refl) (a_sign sign.Comma) some_comma h.expr (begins_in (outside_mark (ASign sign.RightBrace) {set = starts} (λ t e. ap (λ d. start_at d t) e)) h.begins) comma_some (closes_mark (ASign sign.RightBrace) (λ t e. rw e refl)) (at_mark (ASign sign.Comma) (λ t e. rw e refl)) (closes_mark (ASign sign.RightBrace) (λ t e. rw e refl)))
      (λ all. behind (some_sign sign.RightBrace) refl (λ close. exact_pure (t.set bracket all close)))
      (λ all. (avoids_mark (ASign sign.RightBrace) (λ t e. rw e refl))))
      (begins_then (begins_one_mark (ASign sign.RightBrace) (λ t e. rw e refl)))
      (avoids_begins (begins_then (begins_then h.begins)) (lacks_mark (ASign sign.RightBrace) {set = starts} (λ t e. ap (λ d. start_at d t) e))))

  pub exact_shape : {on : GrownShape → Token → Bool} {over wide : Bool} → (over ≡ false → (depth == 0) ≡ false) → wide ≡ false → IsExactAt mode (g.Shape depth high L over) (g.Shape (suc deep) unlimited U wide) (r.shape depth high P over) on
  unfolding r.shape same_sign same_keyword
  exact_shape shut wider =
      opening_behind (some_sign sign.LeftBrace) wider shut
      (λ bracket. exact_then
      (exact_items (is_sign sign.RightBrace) (λ all. refl) (a_sign sign.Comma) some_comma h.element h.element_begins comma_some (closes_mark (ASign sign.RightBrace) (λ t e. rw e refl)) (at_mark (ASign sign.Comma) (λ t e. rw e refl)) (closes_mark (ASign sign.RightBrace) (λ t e. rw e refl)))
      (λ all. behind (some_sign sign.RightBrace) refl (λ close. exact_pure (t.shape bracket all close)))
      (λ all. (avoids_mark (ASign sign.RightBrace) (λ t e. rw e refl))))

  -- ---- atoms

  Tail3 : Lang Token GrownExpr
  Tail3 = Either (Then (One (word_of keyword.Global)) (λ at. Then (One name_of) (λ name. Empty (t.global_named at name)))) (g.NameOrCall depth high L)

  Tail4 : Lang Token GrownExpr
  Tail4 = Either (Then (One (sign_of sign.At)) (λ at. Then (One name_of) (λ name. Empty (t.partial_property at name)))) Tail3

  Tail5 : Lang Token GrownExpr
  Tail5 = Either (Then (One (sign_of sign.BackLink)) (λ at. Then (One name_of) (λ name. Empty (t.partial_back_link at name)))) Tail4

  Tail6 : Lang Token GrownExpr
  Tail6 = Either (Then (One (sign_of sign.Dot)) (λ at. Then (One name_of) (λ name. Empty (t.partial_step at name)))) Tail5

  Tail7 : Lang Token GrownExpr
  Tail7 = Either (Then (One literal_of) (λ x. Empty (t.leaf x))) Tail6

  named_begins : {first : Token → Bool} → AtNames first true → Begins first (g.NameOrCall depth high L)
  named_begins n = begins_then (begins_then (begins_name n))

  tail6_begins : {first : Token → Bool} → At (ASign sign.Dot) first true → At (ASign sign.BackLink) first true → At (ASign sign.At) first true → At (Reserved keyword.Global) first true → AtNames first true → Begins first Tail6
  unfolding Tail3 Tail4 Tail5 Tail6
  tail6_begins d b a gl n =
      begins_either (begins_then (begins_one_mark (ASign sign.Dot) d)) (begins_either (begins_then (begins_one_mark (ASign sign.BackLink) b)) (begins_either (begins_then (begins_one_mark (ASign sign.At) a)) (begins_either (begins_then (begins_one_mark (Reserved keyword.Global) gl)) (named_begins n))))

  tail7_begins : {first : Token → Bool} → AtLiterals first true → At (ASign sign.Dot) first true → At (ASign sign.BackLink) first true → At (ASign sign.At) first true → At (Reserved keyword.Global) first true → AtNames first true → Begins first Tail7
  unfolding Tail7
  tail7_begins l d b a gl n = begins_either (begins_then (begins_literal l)) (tail6_begins d b a gl n)

  group_begins : {first : Token → Bool} → At (ASign sign.LeftParen) first true → Begins first (g.Group depth high L)
  group_begins p = begins_then (begins_mark (ASign sign.LeftParen) p)

  braces_begin : {first : Token → Bool} → At (ASign sign.LeftBrace) first true → Begins first (g.Braces depth high L)
  braces_begin p = begins_then (begins_mark (ASign sign.LeftBrace) p)

  atom_begins : Begins atom_starts (g.Atom depth high L)
  unfolding Tail3 Tail4 Tail5 Tail6 Tail7 same_sign same_keyword
  atom_begins =
      begins_either (group_begins (λ t e. ap (λ d. atom_at d t) e)) (begins_either (braces_begin (λ t e. ap (λ d. atom_at d t) e))
      (tail7_begins (record { number = (λ t e. ap (λ d. atom_at d t) e); text = (λ t e. ap (λ d. atom_at d t) e); is_true = (λ t e. ap (λ d. atom_at d t) e); is_false = (λ t e. ap (λ d. atom_at d t) e) }) (λ t e. ap (λ d. atom_at d t) e) (λ t e. ap (λ d. atom_at d t) e) (λ t e. ap (λ d. atom_at d t) e) (λ t e. ap (λ d. atom_at d t) e) (λ o. (λ t e. ap (λ d. atom_at d t) e))))

  exact_atom : IsExactAt mode (g.Atom depth high L) (g.Atom (suc deep) unlimited U) (r.atom depth high P) (λ _. go 22)
  unfolding r.atom same_sign same_keyword Tail3 Tail4 Tail5 Tail6 Tail7
  exact_atom =
      exact_choose exact_group
      (exact_choose exact_braces
      (exact_choose (exact_lead literal_of some_literal.token some_literal.literal some_literal.known (λ x. exact_pure (t.leaf x)))
      (exact_choose (lead (some_sign sign.Dot) (λ at. exact_lead name_of some_name.token some_name.name some_name.known (λ name. exact_pure (t.partial_step at name))))
      (exact_choose (lead (some_sign sign.BackLink) (λ at. exact_lead name_of some_name.token some_name.name some_name.known (λ name. exact_pure (t.partial_back_link at name))))
      (exact_choose (lead (some_sign sign.At) (λ at. exact_lead name_of some_name.token some_name.name some_name.known (λ name. exact_pure (t.partial_property at name))))
      (exact_choose (lead word_Global (λ at. exact_lead name_of some_name.token some_name.name some_name.known (λ name. exact_pure (t.global_named at name))))
      exact_name_or_call
      (begins_then (begins_one_mark (Reserved keyword.Global) (λ t e. rw e refl)))
      (avoids_begun (named_begins (λ o. (λ t e. rw e refl)))))
      (begins_then (begins_one_mark (ASign sign.At) (λ t e. rw e refl)))
      (avoids_either (avoids_one_mark (Reserved keyword.Global) (λ t e. rw e refl)) (avoids_begun (named_begins (λ o. (λ t e. rw e refl))))))
      (begins_then (begins_one_mark (ASign sign.BackLink) (λ t e. rw e refl)))
      (avoids_either (avoids_one_mark (ASign sign.At) (λ t e. rw e refl)) (avoids_either (avoids_one_mark (Reserved keyword.Global) (λ t e. rw e refl)) (avoids_begun (named_begins (λ o. (λ t e. rw e refl)))))))
      (begins_then (begins_one_mark (ASign sign.Dot) (λ t e. rw e refl)))
      (avoids_either (avoids_one_mark (ASign sign.BackLink) (λ t e. rw e refl)) (avoids_either (avoids_one_mark (ASign sign.At) (λ t e. rw e refl)) (avoids_either (avoids_one_mark (Reserved keyword.Global) (λ t e. rw e refl)) (avoids_begun (named_begins (λ o. (λ t e. rw e refl))))))))
      (begins_then (begins_one literal_of (λ t a e. has_some literal_of t a e)))
      (avoids_begun (tail6_begins (λ t e. ap (λ d. not (got (literal_at d t))) e) (λ t e. ap (λ d. not (got (literal_at d t))) e) (λ t e. ap (λ d. not (got (literal_at d t))) e) (λ t e. ap (λ d. not (got (literal_at d t))) e) (λ o. (λ t e. ap (λ d. not (got (literal_at d t))) e)))))
      (braces_begin (λ t e. rw e refl))
      (avoids_begun (tail7_begins (record { number = (λ t e. rw e refl); text = (λ t e. rw e refl); is_true = (λ t e. rw e refl); is_false = (λ t e. rw e refl) }) (λ t e. rw e refl) (λ t e. rw e refl) (λ t e. rw e refl) (λ t e. rw e refl) (λ o. (λ t e. rw e refl)))))
      (group_begins (λ t e. rw e refl))
      (avoids_begun (begins_either (braces_begin (λ t e. rw e refl)) (tail7_begins (record { number = (λ t e. rw e refl); text = (λ t e. rw e refl); is_true = (λ t e. rw e refl); is_false = (λ t e. rw e refl) }) (λ t e. rw e refl) (λ t e. rw e refl) (λ t e. rw e refl) (λ t e. rw e refl) (λ o. (λ t e. rw e refl)))))

  -- ---- postfixes

  exact_postfix : (base : GrownExpr) → IsExactAt mode (g.Postfix depth high L base) (g.Postfix (suc deep) unlimited U base) (r.postfix depth high P base) (λ _. never)
  unfolding r.postfix same_sign same_keyword
  exact_postfix base =
      exact_choose (behind (some_sign sign.Dot) refl (λ at. exact_lead name_of some_name.token some_name.name some_name.known (λ name. exact_pure (t.stepped base (t.dot at name)))))
      (exact_choose (behind (some_sign sign.BackLink) refl (λ at. exact_lead name_of some_name.token some_name.name some_name.known (λ name. exact_pure (t.stepped base (t.back_link at name)))))
      (exact_choose (behind (some_sign sign.At) refl (λ at. exact_lead name_of some_name.token some_name.name some_name.known (λ name. exact_pure (t.stepped base (t.property at name)))))
      (exact_choose
      (opening_behind (some_sign sign.LeftBracket) free (or_right (high base.height) (depth == 0))
      (λ bracket. lead word_Is (λ _. exact_then exact_qname (λ ty. lead (some_sign sign.RightBracket) (λ close. exact_pure (t.stepped base (t.is_type bracket ty close)))) (λ ty. (avoids_one_mark (ASign sign.RightBracket) (λ t e. rw e refl))))))
      (exact_map (t.with_shape base) (exact_shape (or_right (high base.height) (depth == 0)) free))
      (begins_then (begins_mark (ASign sign.LeftBracket) (λ t e. rw e refl)))
      (avoids_begun (begins_then (begins_then (begins_mark (ASign sign.LeftBrace) (λ t e. rw e refl))))))
      (begins_then (begins_mark (ASign sign.At) (λ t e. rw e refl)))
      (avoids_either (avoids_mark (ASign sign.LeftBracket) (λ t e. rw e refl)) (avoids_begun (begins_then (begins_then (begins_mark (ASign sign.LeftBrace) (λ t e. rw e refl)))))))
      (begins_then (begins_mark (ASign sign.BackLink) (λ t e. rw e refl)))
      (avoids_either (avoids_mark (ASign sign.At) (λ t e. rw e refl)) (avoids_either (avoids_mark (ASign sign.LeftBracket) (λ t e. rw e refl)) (avoids_begun (begins_then (begins_then (begins_mark (ASign sign.LeftBrace) (λ t e. rw e refl))))))))
      (begins_then (begins_mark (ASign sign.Dot) (λ t e. rw e refl)))
      (avoids_either (avoids_mark (ASign sign.BackLink) (λ t e. rw e refl)) (avoids_either (avoids_mark (ASign sign.At) (λ t e. rw e refl)) (avoids_either (avoids_mark (ASign sign.LeftBracket) (λ t e. rw e refl)) (avoids_begun (begins_then (begins_then (begins_mark (ASign sign.LeftBrace) (λ t e. rw e refl))))))))

  postfix_begins : (base : GrownExpr) → Begins (r.is_postfix depth high P) (g.Postfix depth high L base)
  unfolding same_sign same_keyword
  postfix_begins base =
      begins_either (begins_then (begins_mark (ASign sign.Dot) (λ t e. rw e refl))) (begins_either (begins_then (begins_mark (ASign sign.BackLink) (λ t e. rw e refl))) (begins_either (begins_then (begins_mark (ASign sign.At) (λ t e. rw e refl))) (begins_either (begins_then (begins_mark (ASign sign.LeftBracket) (λ t e. rw e refl))) (begins_then (begins_then (begins_mark (ASign sign.LeftBrace) (λ t e. rw e refl)))))))

  postfix_covered : (t : Token) → go 21 t ≡ false → (r.is_postfix depth high P) t ≡ false
  unfolding same_sign same_keyword
  postfix_covered t e = or_false ((covers_mark (ASign sign.Dot) {set = go 21} (λ t e. rw e refl)) t e) (or_false ((covers_mark (ASign sign.BackLink) {set = go 21} (λ t e. rw e refl)) t e) (or_false ((covers_mark (ASign sign.At) {set = go 21} (λ t e. rw e refl)) t e) (or_false ((covers_mark (ASign sign.LeftBracket) {set = go 21} (λ t e. rw e refl)) t e) ((covers_mark (ASign sign.LeftBrace) {set = go 21} (λ t e. rw e refl)) t e))))

  postfix_avoids : (base : GrownExpr) → Avoids (go 22) (g.Postfix depth high L base) (λ _. go 22)
  unfolding same_sign same_keyword
  postfix_avoids base =
      avoids_either (avoids_mark (ASign sign.Dot) (λ t e. rw e refl)) (avoids_either (avoids_mark (ASign sign.BackLink) (λ t e. rw e refl)) (avoids_either (avoids_mark (ASign sign.At) (λ t e. rw e refl)) (avoids_either (avoids_mark (ASign sign.LeftBracket) (λ t e. rw e refl)) (avoids_begun (begins_then (begins_then (begins_mark (ASign sign.LeftBrace) (λ t e. rw e refl))))))))

  pub exact_post : IsExactAt mode (g.Post depth high L) (g.Post (suc deep) unlimited U) (r.post depth high P) (λ _. go 21)
  unfolding r.post r.postfixes
  exact_post =
      exact_then exact_atom
      (λ base. exact_chain {go = go 21} {inner = never} exact_postfix postfix_begins (λ t e. refl) postfix_covered (λ t e. refl) base)
      (λ base. avoids_chain postfix_avoids (λ _. tighter 21 22 (omega arith)) base)

  pub post_begins : Begins atom_starts (g.Post depth high L)
  post_begins = begins_then atom_begins

  -- ---- prefixes and casts

  exact_parameter : {on : GrownExpr → Token → Bool} {at : Mode} (bracket : Span) (optional : Bool) (ty : QualifiedName) → IsExactAt at (g.Parameter depth high L bracket optional ty) (g.Parameter (suc deep) unlimited U bracket optional ty) (r.parameter depth high P bracket optional ty) on
  unfolding r.parameter same_sign same_keyword
  exact_parameter bracket optional ty = lead (some_sign sign.Dollar) (λ dollar. exact_lead parameter_of some_name.token some_name.name some_name.parameter (λ name. exact_pure (t.parameter bracket optional ty dollar name)))

  exact_cast : IsExactAt mode (g.Cast depth high L) (g.Cast (suc deep) unlimited U) (r.cast depth high P) (λ _. go 21)
  unfolding r.cast same_sign same_keyword
  exact_cast =
      opening (some_sign sign.Less) free
      (λ bracket. exact_choose
      (lead word_Optional (λ _. exact_then exact_qname (λ ty. lead (some_sign sign.Greater) (λ _. exact_parameter bracket true ty)) (λ ty. (avoids_one_mark (ASign sign.Greater) (λ t e. rw e refl)))))
      (exact_then exact_qname
      (λ ty. lead (some_sign sign.Greater)
      (λ _. exact_choose (exact_parameter bracket false ty) (exact_map (t.cast bracket ty) h.unary) (begins_then (begins_one_mark (ASign sign.Dollar) (λ t e. rw e refl))) (avoids_begins (begins_then h.unary_begins) (lacks_mark (ASign sign.Dollar) {set = unary_starts} (λ t e. ap (λ d. unary_at d t) e)))))
      (λ ty. (avoids_one_mark (ASign sign.Greater) (λ t e. rw e refl))))
      (begins_then (begins_one_mark (Reserved keyword.Optional) (λ t e. rw e refl)))
      (avoids_begins (begins_then qname_begins) (at_name (λ o. (λ t e. rw e refl)))))

  operand_begins : Begins operand_starts (Either (g.Cast depth high L) (g.Post depth high L))
  unfolding same_sign same_keyword
  operand_begins = begins_either (begins_then (begins_mark (ASign sign.Less) (λ t e. ap (λ d. operand_at d t) e))) (begins_in atom_in post_begins)

  operand_no_prefix : (t : Token) → operand_starts t ≡ true → has prefix_of t ≡ false
  unfolding same_sign same_keyword
  operand_no_prefix = operand_out (has prefix_of) (λ t e. ap (λ d. got (prefix_in d (span t))) e) (λ t e. ap (λ d. got (prefix_in d (span t))) e) (λ t e. ap (λ d. got (prefix_in d (span t))) e) (record { number = (λ t e. ap (λ d. not (got (prefix_in d (span t)))) e); text = (λ t e. ap (λ d. not (got (prefix_in d (span t)))) e); is_true = (λ t e. ap (λ d. not (got (prefix_in d (span t)))) e); is_false = (λ t e. ap (λ d. not (got (prefix_in d (span t)))) e) }) (λ t e. ap (λ d. got (prefix_in d (span t))) e) (λ t e. ap (λ d. got (prefix_in d (span t))) e) (λ t e. ap (λ d. got (prefix_in d (span t))) e) (λ t e. ap (λ d. got (prefix_in d (span t))) e) (λ o. (λ t e. ap (λ d. got (prefix_in d (span t))) e))

  pub exact_unary : IsExactAt mode (g.Unary depth high L) (g.Unary (suc deep) unlimited U) (r.unary depth high P) (λ _. go 21)
  unfolding r.unary same_sign same_keyword
  exact_unary =
      exact_choose (exact_open prefix_of some_prefix.token some_prefix.found some_prefix.known free (λ found. exact_map (t.prefixed found) h.unary))
      (exact_choose exact_cast exact_post (begins_then (begins_mark (ASign sign.Less) (λ t e. rw e refl))) (avoids_begins post_begins (lacks_mark (ASign sign.Less) {set = atom_starts} (λ t e. ap (λ d. atom_at d t) e))))
      (begins_then (begins_prefix (λ t e. e)))
      (avoids_begins operand_begins operand_no_prefix)

  pub unary_begins : Begins unary_starts (g.Unary depth high L)
  unary_begins = begins_either (begins_then (begins_prefix prefix_in_unary)) (begins_in operand_in operand_begins)

  -- ---- operators

  pub exact_coalesce : IsExactAt mode (g.Coalesce depth high L) (g.Coalesce (suc deep) unlimited U) (r.coalesce depth high P) (λ _. go 19)
  unfolding r.coalesce
  exact_coalesce =
      exact_then exact_unary
      (λ left. exact_choose
      (exact_within (infix_of 9) some_coalesce.token some_coalesce.found some_coalesce.known free (or_right (high left.height) (depth == 0)) (λ found. exact_map (t.operated found left) h.coalesce))
      (exact_pure left)
      (begins_then (begins_infix 9 (λ t e. e)))
      (avoids_empty left (level_covers 9 19 (omega arith))))
      (λ left. avoids_either (avoids_begins (begins_then (begins_infix 9 (λ t e. e))) (level_apart 9 21 (omega arith))) (avoids_empty left (tighter 19 21 (omega arith))))

  pub exact_operators : {M N : Lang Token GrownExpr} {q : Reader Token GrownExpr} {at : Mode} (level least tight : ℕ) → least ≡ level + 10 → least < tight → SomeInfix level → IsExactAt at M N q (λ _. go tight)
      → IsExactAt at (g.Operators depth high L level M) (g.Operators (suc deep) unlimited U level N) (r.operators depth high P level q) (λ _. go least)
  exact_operators level least tight same lt some p =
      exact_then p
      (λ first. exact_chain {go = go least} (λ left. exact_behind (infix_of level) some.token some.found some.known refl (λ found. exact_map (t.operated found left) p))
      (λ left. begins_then (begins_infix level (λ t e. e))) (level_apart level tight (omega arith)) (level_covers level least (omega arith)) (tighter least tight (omega arith)) first)
      (λ first. avoids_chain (λ left. avoids_begins (begins_then (begins_infix level (λ t e. e))) (level_apart level tight (omega arith))) (λ _. tighter least tight (omega arith)) first)

  exact_product : IsExactAt mode (g.Product depth high L) (g.Product (suc deep) unlimited U) (r.product depth high P) (λ _. go 18)
  unfolding r.product
  exact_product = exact_operators 8 18 19 refl (omega arith) some_star exact_coalesce

  exact_sum : IsExactAt mode (g.Sum depth high L) (g.Sum (suc deep) unlimited U) (r.sum depth high P) (λ _. go 17)
  unfolding r.sum
  exact_sum = exact_operators 7 17 18 refl (omega arith) some_plus exact_product

  exact_comparing : {over wide : Bool} → wide ≡ false → IsExactAt mode (g.Comparing depth high L over) (g.Comparing (suc deep) unlimited U wide) (r.comparing depth high P over) (λ _. never)
  unfolding r.comparing same_sign same_keyword
  exact_comparing wider =
      exact_choose (exact_one_within (infix_of 6) some_equal.token some_equal.found some_equal.known wider)
      (behind word_Not wider (λ first. lead word_In (λ second. exact_pure _)))
      (begins_infix 6 (λ t e. e))
      (avoids_mark (Reserved keyword.Not) (λ t e. ap (λ d. got (infix_if 6 (infix_in d) (span t))) e))

  comparing_begins : {over : Bool} → Begins (r.compares depth high P) (g.Comparing depth high L over)
  unfolding same_sign same_keyword
  comparing_begins = begins_either (begins_infix 6 (λ t e. or_one (has (infix_of 6) t) (is_word keyword.Not t) e)) (begins_then (begins_mark (Reserved keyword.Not) (λ t e. or_other (has (infix_of 6) t) (is_word keyword.Not t) (rw e refl))))

  compares_apart : (t : Token) → r.compares depth high P t ≡ true → go 17 t ≡ false
  unfolding same_sign same_keyword
  compares_apart t e = or_cases (has (infix_of 6) t) (is_word keyword.Not t) e (level_apart 6 17 (omega arith) t) ((at_mark (Reserved keyword.Not) {set = go 17} (λ t e. rw e refl)) t)

  compares_covered : (t : Token) → go 16 t ≡ false → r.compares depth high P t ≡ false
  unfolding same_sign same_keyword
  compares_covered t e = or_false (level_covers 6 16 (omega arith) t e) ((covers_mark (Reserved keyword.Not) {set = go 16} (λ t e. rw e refl)) t e)

  exact_comparison : IsExactAt mode (g.Comparison depth high L) (g.Comparison (suc deep) unlimited U) (r.comparison depth high P) (λ _. go 16)
  unfolding r.comparison
  exact_comparison =
      exact_then exact_sum
      (λ left. exact_choose
      (exact_then (exact_comparing refl) (λ found. exact_map (t.operated found left) (exact_weaken (λ _. tighter 16 17 (omega arith)) exact_sum)) (λ found. avoids_none))
      (exact_pure left)
      (begins_then comparing_begins)
      (avoids_empty left compares_covered))
      (λ left. avoids_either (avoids_begins (begins_then comparing_begins) compares_apart) (avoids_empty left (tighter 16 17 (omega arith))))

  comparison_begins : Begins unary_starts (g.Comparison depth high L)
  comparison_begins = begins_then (begins_then (begins_then (begins_then unary_begins)))

  pub exact_negation : IsExactAt mode (g.Negation depth high L) (g.Negation (suc deep) unlimited U) (r.negation depth high P) (λ _. go 16)
  unfolding r.negation same_sign same_keyword
  exact_negation =
      exact_choose (opening word_Not free (λ at. exact_map _ h.negation)) exact_comparison
      (begins_then (begins_mark (Reserved keyword.Not) (λ t e. rw e refl)))
      (avoids_begins comparison_begins (lacks_mark (Reserved keyword.Not) {set = unary_starts} (λ t e. ap (λ d. unary_at d t) e)))

  negation_begins : Begins negation_starts (g.Negation depth high L)
  unfolding same_sign same_keyword
  negation_begins = begins_either (begins_then (begins_mark (Reserved keyword.Not) (λ t e. ap (λ d. negation_at d t) e))) (begins_in unary_in comparison_begins)

  exact_and : IsExactAt mode (g.And depth high L) (g.And (suc deep) unlimited U) (r.conjunction depth high P) (λ _. go 14)
  unfolding r.conjunction
  exact_and = exact_operators 4 14 16 refl (omega arith) some_and exact_negation

  exact_or : IsExactAt mode (g.Or depth high L) (g.Or (suc deep) unlimited U) (r.disjunction depth high P) (λ _. go 13)
  unfolding r.disjunction
  exact_or = exact_operators 3 13 14 refl (omega arith) some_or exact_and

  -- ---- `if` and `else`

  pub exact_conditional : IsExactAt mode (g.Conditional depth high L) (g.Conditional (suc deep) unlimited U) (r.conditional depth high P) (λ _. go 12)
  unfolding r.conditional same_sign same_keyword
  exact_conditional =
      exact_then exact_or
      (λ value. exact_choose
      (behind word_If refl
      (λ _. exact_then exact_or
      (λ condition. opening_behind word_Else free (or_right (high condition.height) (depth == 0)) (λ _. exact_map (t.chosen value condition) h.choice))
      (λ condition. (avoids_mark (Reserved keyword.Else) (λ t e. rw e refl)))))
      (exact_pure value)
      (begins_then (begins_mark (Reserved keyword.If) (λ t e. rw e refl)))
      (avoids_empty value (covers_mark (Reserved keyword.If) (λ t e. rw e refl))))
      (λ value. avoids_either (avoids_mark (Reserved keyword.If) (λ t e. rw e refl)) (avoids_empty value (tighter 12 13 (omega arith))))

  pub conditional_begins : Begins negation_starts (g.Conditional depth high L)
  conditional_begins = begins_then (begins_then (begins_then negation_begins))
