-- What is promised of the readers of queries and of expressions.
use Rattle.std.proofs.Common.{◌≡◌, ℕ, suc, ◌+◌, ◌-◌, ◌≤◌, List, [], length, inl, inr, refl, ap, ◌∙◌, sym, arith}
use Rattle.exact.specs.declared.rule.Rule.{Rule}
use Rattle.exact.specs.Language.{Lang}
use Rattle.exact.specs.Reading.{Outcome, Reader, Got, Stop, whole}
use Rattle.exact.specs.Promise.{Spells, IsRefused, IsPrefix, Ended}
use Rattle.exact.proofs.Exact.{IsExact}
use Rattle.exact.proofs.Laws.{Grows, Loosens, Open}
use Rattle.exact.proofs.Whole.{one_value_alone, one_value, whole_found, whole_only, whole_refused, whole_left, refused_once, spelled_not_refused, stop_refused, got_prefix, one_prefix, any_loosens, ended_loosens}
use Rattle.ev_lex.specs.declared.token.Token.{Token}
use Rattle.ast.specs.declared.statement.Query.{Query}
use Rattle.eql_grammar.specs.declared.limits.TheConstants.{MAX_OPEN}
use Rattle.eql_grammar.specs.declared.grown.GrownExpr.{GrownExpr}
use Rattle.eql_grammar.specs.declared.grown.Asked.{Asked}
use Rattle.eql_grammar.specs.Trees.{too_high, unlimited, query_of}
use Rattle.eql_grammar.specs.Grammar as g
use Rattle.eql_grammar.specs.Readers as r
use Rattle.eql_grammar.specs.Promise.{is_tall, QueryText, ExprText, IsQuery, IsRead}
use Rattle.eql_grammar.proofs.Sets.{go}
use Rattle.eql_grammar.proofs.Levels.{within_known, query_go, exact_query}

-- ---- whole queries

-- the reader of a query, and of all of the tokens
unfoldable pub query : Reader Token Asked
query = r.query too_high (r.within too_high MAX_OPEN)

unfoldable pub all : Reader Token Asked
all = whole is_tall query

-- what is spelled with so many more parts open than may be
Asking : ℕ → Lang Token Asked
Asking spare = g.Query too_high (g.within too_high spare MAX_OPEN)

exact : (spare : ℕ) → IsExact (Asking spare) query (λ _. query_go)
unfolding Asking query
exact spare = (exact_query Open too_high _ _ _ (within_known too_high spare MAX_OPEN (suc (suc (MAX_OPEN + spare))) (omega arith))).exact tt

loosens : Loosens QueryText
unfolding Asking
loosens = any_loosens (λ spare. Ended is_tall (Asking spare)) (λ spare. ended_loosens is_tall (Asking spare) (exact_query Open too_high _ _ _ (within_known too_high spare MAX_OPEN (suc (suc (MAX_OPEN + spare))) (omega arith))).loosens)

-- what passes no limit, with so many parts more than may be open
FreeAsking : ℕ → Lang Token Asked
FreeAsking parts = g.Query unlimited (g.within unlimited 0 (suc (suc (MAX_OPEN + parts))))

free_query : ℕ → Reader Token Asked
free_query parts = r.query unlimited (r.within unlimited (suc (suc (MAX_OPEN + parts))))

exact_free : (parts : ℕ) → IsExact (FreeAsking parts) (free_query parts) (λ _. query_go)
unfolding FreeAsking free_query
exact_free parts = (exact_query Open unlimited _ _ _ (within_known unlimited 0 (suc (suc (MAX_OPEN + parts))) (suc (suc (suc (suc (MAX_OPEN + parts))))) (omega arith))).exact tt

grows : (spare more : ℕ) → Grows (Asking spare) (FreeAsking (spare + more))
unfolding Asking FreeAsking
grows spare more = (exact_query Open too_high _ _ _ (within_known too_high spare MAX_OPEN (suc (suc (MAX_OPEN + (spare + more)))) (omega arith))).grows

-- Each text spells at most one query, whatever limits it passes.
pub one_query : (ts : List Token) (x y : Asked) → QueryText 0 ts x → QueryText 0 ts y → x ≡ y
unfolding Asking
one_query ts x y l m = one_value_alone FreeAsking free_query (λ _. query_go) exact_free Asking grows 0 0 ts x y (l.0, l.1.0) (m.0, m.1.0)

-- Each text is refused at most at one token, for one reason, and not at all where it is a query.
pub one_refusal : (ts : List Token) (one other : Rule) (j k : ℕ) → IsRefused QueryText ts one j → IsRefused QueryText ts other k → (one ≡ other) × (j ≡ k)
one_refusal ts = refused_once QueryText loosens ts

pub query_not_refused : (ts : List Token) (rule : Rule) (k : ℕ) (x : Asked) → Spells QueryText ts x → IsRefused QueryText ts rule k → ⊥
query_not_refused ts = spelled_not_refused QueryText loosens ts

pub found : (ts : List Token) (x : Asked) (rest : List Token) → all ts ≡ Got x rest → Spells QueryText ts x
unfolding Asking all
found = whole_found Asking query (λ _. query_go) exact is_tall

pub only : (ts : List Token) (x : Asked) → Spells QueryText ts x → all ts ≡ Got x []
unfolding Asking all
only = whole_only Asking query (λ _. query_go) exact is_tall

pub refused : (ts : List Token) (rule : Rule) (rest : List Token) → all ts ≡ Stop rule rest → (k : ℕ) → k + length rest ≡ length ts → IsRefused QueryText ts rule k
unfolding Asking all
refused = whole_refused Asking query (λ _. query_go) exact is_tall

pub left_over : (ts : List Token) (rule : Rule) (rest : List Token) → all ts ≡ Stop rule rest → length rest ≤ length ts
unfolding Asking all
left_over = whole_left Asking query (λ _. query_go) exact is_tall

-- The query of the tokens is read.
pub read_query : (ts : List Token) (query : Query) → IsQuery ts query → (asked : Asked) × (all ts ≡ Got asked []) × (query ≡ query_of asked)
read_query ts query is = (is.0, only ts is.0 is.1, is.2)

-- Each text spells at most one tree.
pub one_tree : (ts : List Token) (x y : Query) → IsQuery ts x → IsQuery ts y → x ≡ y
one_tree ts x y a b =
    let same : a.0 ≡ b.0 = one_query ts a.0 b.0 (loosens 0 (suc (length ts)) ts a.0 (omega arith) a.1) (loosens 0 (suc (length ts)) ts b.0 (omega arith) b.1) in
    a.2 ∙ ap query_of same ∙ sym b.2

-- Each text spells a query, or is refused.
pub each_text : (ts : List Token) → IsRead ts
each_text ts = by_outcome (all ts) refl where
  by_outcome : (o : Outcome Token Asked) → all ts ≡ o → IsRead ts
  by_outcome (Got asked rest) e = inl (query_of asked, (asked, found ts asked rest e, refl))
  by_outcome (Stop rule rest) e =
      let token = length ts - length rest in
      inr (rule, token, refused ts rule rest e token (omega (arith, left_over ts rule rest e)))

-- ---- an expression from a place on

unfoldable pub expr : Reader Token GrownExpr
expr = (r.within too_high MAX_OPEN).expr

Spelling : ℕ → Lang Token GrownExpr
Spelling spare = (g.within too_high spare MAX_OPEN).expr

exact_expr : (spare : ℕ) → IsExact (Spelling spare) expr (λ _. go 11)
unfolding Spelling expr
exact_expr spare = (within_known too_high spare MAX_OPEN (suc (suc (MAX_OPEN + spare))) (omega arith)).expr.exact tt

expr_loosens : Loosens ExprText
unfolding Spelling
expr_loosens = any_loosens Spelling (λ spare. (within_known too_high spare MAX_OPEN (suc (suc (MAX_OPEN + spare))) (omega arith)).expr.loosens)

-- What is read is spelled so, up to a token with which no expression goes on.
pub expr_found : (ts : List Token) (x : GrownExpr) (rest : List Token) → expr ts ≡ Got x rest → (k : ℕ) → k + length rest ≡ length ts → IsPrefix ExprText ts x k
unfolding Spelling
expr_found = got_prefix Spelling expr (λ _. go 11) exact_expr

pub expr_refused : (ts : List Token) (rule : Rule) (rest : List Token) → expr ts ≡ Stop rule rest → (k : ℕ) → k + length rest ≡ length ts → IsRefused ExprText ts rule k
unfolding Spelling
expr_refused = stop_refused Spelling expr (λ _. go 11) exact_expr

expr_once : (s : List Token) (x y : GrownExpr) → ExprText (length s) s x → ExprText (length s) s y → x ≡ y
unfolding Spelling
expr_once = one_value Spelling expr (λ _. go 11) exact_expr

-- At most one expression is spelled up to a token with which none goes on.
pub one_expr : (ts : List Token) (x y : GrownExpr) (j k : ℕ) → IsPrefix ExprText ts x j → IsPrefix ExprText ts y k → (x ≡ y) × (j ≡ k)
one_expr = one_prefix ExprText expr_loosens expr_once

pub one_expr_refusal : (ts : List Token) (one other : Rule) (j k : ℕ) → IsRefused ExprText ts one j → IsRefused ExprText ts other k → (one ≡ other) × (j ≡ k)
one_expr_refusal ts = refused_once ExprText expr_loosens ts
