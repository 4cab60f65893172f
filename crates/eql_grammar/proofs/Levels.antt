-- Level by level: what is read within so many open parts is what the grammar spells there.
use Rattle.std.proofs.Common.{ℕ, zero, suc, ◌+◌, ◌<◌, Bool, ◌||◌, ◌==◌, [], ◌++◌, refl, sym, subst, arith, inr}
use Rattle.std.proofs.Math.Dec.{eqb-suc-zero}
use Rattle.ev_lex.specs.declared.token.Token.{Token}
use Rattle.ev_lex.specs.declared.token.Sign.TheVariants as sign
use Rattle.ev_lex.specs.declared.keyword.Keyword.TheVariants as keyword
use Rattle.eql_grammar.specs.declared.grown.GrownExpr.{GrownExpr}
use Rattle.eql_grammar.specs.declared.grown.Opening.{Opening}
use Rattle.eql_grammar.specs.declared.grown.Opening.TheVariants as opens
use Rattle.eql_grammar.specs.declared.grown.Body.TheVariants as body
use Rattle.eql_grammar.specs.declared.grown.Nest.TheVariants as nest
use Rattle.eql_grammar.specs.Words.{is_sign, same_sign, same_keyword, word_of, literal_of, name_of}
use Rattle.eql_grammar.specs.declared.class.Class.TheVariants.{Sign as ASign}
use Rattle.eql_grammar.specs.Trees as t
use Rattle.eql_grammar.specs.Trees.{unlimited}
use Rattle.eql_grammar.specs.Grammar as g
use Rattle.eql_grammar.specs.Readers as r
use Rattle.exact.specs.Language.{Lang, Done}
use Rattle.exact.proofs.Heads.{begins_never, begins_then, avoids_empty, avoids_either}
use Rattle.exact.proofs.Exact.{Inhabited}
use Rattle.exact.proofs.Laws.{Mode, Open, Shut, Void, lowered, IsExactAt, exact_void, exact_unread, exact_shut, exact_pure, exact_then, exact_choose, some_empty, some_one, some_within, some_then, some_left, some_right, some_chain}
use Rattle.eql_grammar.proofs.Sets.{avoids_mark, begins_mark, behind, go, or_left, or_right, some_literal, some_name, some_sign, word_Select}
use Rattle.eql_grammar.proofs.Turning.{some_turn, mapped}
use Rattle.eql_grammar.proofs.Exprs.{Known, exact_negation, exact_coalesce, exact_unary, unary_begins}
use Rattle.eql_grammar.proofs.Ifs.{exact_choice, exact_expr, expr_begins}
use Rattle.eql_grammar.proofs.Statements.{exact_statement, statement_begins, exact_element, element_begins}

pub levels_known : (mode : Mode) (depth deep : ℕ) (high : ℕ → Bool) (L U : g.Inner) (P : r.Inner) → Known (lowered (depth == 0) mode) L U P → Known mode (g.levels depth high L) (g.levels (suc deep) unlimited U) (r.levels depth high P)
levels_known mode depth deep high L U P h = record {
  expr = exact_expr mode depth deep high L U P h;
  choice = exact_choice mode depth deep high L U P h;
  negation = exact_negation mode depth deep high L U P h;
  coalesce = exact_coalesce mode depth deep high L U P h;
  unary = exact_unary mode depth deep high L U P h;
  statement = exact_statement mode depth deep high L U P h;
  element = exact_element mode depth deep high L U P h;
  begins = expr_begins mode depth deep high L U P h;
  unary_begins = unary_begins mode depth deep high L U P h;
  statement_begins = statement_begins mode depth deep high L U P h;
  element_begins = element_begins mode depth deep high L U P h;
}

-- ---- some text of each level

module _ (depth : ℕ) (high : ℕ → Bool) (L : g.Inner) where
  some_post : Inhabited (g.Post depth high L)
  some_post = some_then (some_right (some_right (some_left (some_then (some_one literal_of some_literal.token some_literal.literal some_literal.known) (λ x. some_empty (t.leaf x)))))) (λ base. some_chain base)

  some_unary : Inhabited (g.Unary depth high L)
  some_unary = some_right (some_right some_post)

  some_coalesced : Inhabited (g.Coalesce depth high L)
  some_coalesced = some_then some_unary (λ left. some_right (some_empty left))

  some_operators : {M : Lang Token GrownExpr} (level : ℕ) → Inhabited M → Inhabited (g.Operators depth high L level M)
  some_operators level m = some_then m (λ first. some_chain first)

  some_negation : Inhabited (g.Negation depth high L)
  some_negation = some_right (some_then (some_operators 7 (some_operators 8 some_coalesced)) (λ left. some_right (some_empty left)))

  some_conditional : Inhabited (g.Conditional depth high L)
  some_conditional = some_then (some_operators 3 (some_operators 4 some_negation)) (λ value. some_right (some_empty value))

  some_choice : Inhabited (g.Choice depth high L)
  some_choice = record { text = some_conditional.text; value = some_conditional.value; spelled = (zero, some_conditional.spelled) }

  some_expr : Inhabited (g.Expr depth high L)
  some_expr = some_operators 1 some_choice

  some_clauses : (c : _) → Inhabited (g.Clauses depth high L c)
  some_clauses c = some_then (some_right (some_empty c)) (λ a. some_then (some_right (some_empty a)) (λ b. some_then (some_right (some_empty b)) (λ d. some_right (some_empty d))))

  some_opening : Inhabited (g.Opens depth high L)
  some_opening = some_right (some_right (some_then (some_within (word_of keyword.Select) word_Select.token word_Select.place word_Select.known) (λ at. some_then some_expr (λ subject. some_then (some_clauses _) (λ c. some_empty _)))))

  some_rest : (o : Opening) → Inhabited (g.Rest depth high L o)
  some_rest (opens.Select s) = some_empty (nest.Select s)
  some_rest (opens.For head) =
      some_turn (g.Turn depth high L) (t.outermost head) (some_expr.text ++ []) (Done (nest.For (t.outermost head) (body.Expr some_expr.value))) (inr (mapped (λ x. Done (nest.For (t.outermost head) (body.Expr x))) some_expr))
      (record { text = []; value = nest.For (t.outermost head) (body.Expr some_expr.value); spelled = (refl, refl) })

  some_statement : Inhabited (g.Statement depth high L)
  some_statement = some_then some_opening some_rest

  some_element : Inhabited (g.Element depth high L)
  some_element = some_right (some_right (some_right (some_then (some_one name_of some_name.token some_name.name some_name.known) (λ name. some_right (some_right (some_empty (t.pointer name)))))))

-- ---- the inductions

nothing_known : (U : g.Inner) → Known Void g.nothing U r.nothing
nothing_known U = record {
  expr = exact_void;
  choice = exact_void;
  negation = exact_void;
  coalesce = exact_void;
  unary = exact_void;
  statement = exact_void;
  element = exact_void;
  begins = begins_never;
  unary_begins = begins_never;
  statement_begins = begins_never;
  element_begins = begins_never;
}

unread : (L U : g.Inner) (P : r.Inner) → Known Void L U P → Known Void L U r.nothing
unread L U P k = record {
  expr = exact_unread k.expr;
  choice = exact_unread k.choice;
  negation = exact_unread k.negation;
  coalesce = exact_unread k.coalesce;
  unary = exact_unread k.unary;
  statement = exact_unread k.statement;
  element = exact_unread k.element;
  begins = k.begins;
  unary_begins = k.unary_begins;
  statement_begins = k.statement_begins;
  element_begins = k.element_begins;
}

beyond_known : (high : ℕ → Bool) (spare deep : ℕ) → spare < deep → Known Void (g.beyond high spare) (g.within unlimited 0 deep) r.nothing
unfolding g.beyond g.within
beyond_known high spare zero lt = absurd (omega arith)
beyond_known high zero (suc deep) lt = unread _ _ _ (levels_known Void 0 deep high g.nothing (g.within unlimited 0 deep) r.nothing (nothing_known (g.within unlimited 0 deep)))
beyond_known high (suc spare) (suc deep) lt = unread _ _ _ (levels_known Void 0 deep high (g.beyond high spare) (g.within unlimited 0 deep) r.nothing (beyond_known high spare deep (omega arith)))

-- a part that passes the limit is not read, but has some text
shut : (high : ℕ → Bool) (L U : g.Inner) → Known Void (g.levels 0 high L) U r.nothing → Known Shut (g.levels 0 high L) U r.nothing
shut high L U k = record {
  expr = exact_shut (some_expr 0 high L) k.expr;
  choice = exact_shut (some_choice 0 high L) k.choice;
  negation = exact_shut (some_negation 0 high L) k.negation;
  coalesce = exact_shut (some_coalesced 0 high L) k.coalesce;
  unary = exact_shut (some_unary 0 high L) k.unary;
  statement = exact_shut (some_statement 0 high L) k.statement;
  element = exact_shut (some_element 0 high L) k.element;
  begins = k.begins;
  unary_begins = k.unary_begins;
  statement_begins = k.statement_begins;
  element_begins = k.element_begins;
}

shut_known : (high : ℕ → Bool) (spare deep : ℕ) → spare < deep → Known Shut (g.beyond high spare) (g.within unlimited 0 deep) r.nothing
unfolding g.beyond
shut_known high zero deep lt = shut high g.nothing (g.within unlimited 0 deep) (beyond_known high zero deep lt)
shut_known high (suc spare) deep lt = shut high (g.beyond high spare) (g.within unlimited 0 deep) (beyond_known high (suc spare) deep lt)

pub within_known : (high : ℕ → Bool) (spare depth deep : ℕ) → depth + spare + 1 < deep → Known Open (g.within high spare depth) (g.within unlimited 0 deep) (r.within high depth)
unfolding g.within r.within
within_known high spare depth zero lt = absurd (omega arith)
within_known high spare zero (suc deep) lt = levels_known Open 0 deep high (g.beyond high spare) (g.within unlimited 0 deep) r.nothing (shut_known high spare deep (omega arith))
within_known high spare (suc depth) (suc deep) lt =
    let inner = within_known high spare depth deep (omega arith) in
    levels_known Open (suc depth) deep high (g.within high spare depth) (g.within unlimited 0 deep) (r.within high depth)
    (subst (λ (b : Bool). Known (lowered b Open) (g.within high spare depth) (g.within unlimited 0 deep) (r.within high depth)) (sym (eqb-suc-zero depth)) inner)

-- ---- queries

-- the tokens with which a query goes on
abbrev pub query_go : Token → Bool
query_go t = is_sign sign.Semicolon t || go 1 t

pub exact_query : (mode : Mode) (high : ℕ → Bool) (L U : g.Inner) (P : r.Inner) → Known mode L U P → IsExactAt mode (g.Query high L) (g.Query unlimited U) (r.query high P) (λ _. query_go)
unfolding r.query same_sign same_keyword
exact_query mode high L U P k =
    exact_then k.statement
    (λ found. exact_choose (behind (some_sign sign.Semicolon) refl (λ at. exact_pure _)) (exact_pure _) (begins_then (begins_mark (ASign sign.Semicolon) (λ t e. rw e refl))) (avoids_empty _ (λ t. or_left (is_sign sign.Semicolon t) (go 1 t))))
    (λ found. avoids_either (avoids_mark (ASign sign.Semicolon) (λ t e. rw e refl)) (avoids_empty _ (λ t. or_right (is_sign sign.Semicolon t) (go 1 t))))
