-- Level by level: what is read within so many open parts is what the grammar spells there.
use Rattle.std.proofs.Common.{ℕ, zero, suc, pos, ◌+◌, ◌<◌, Bool, false, ◌||◌, ◌==◌, codes, refl, sym, subst, arith}
use Rattle.std.proofs.Math.Dec.{eqb-suc-zero}
use Rattle.sql_lex.specs.declared.token.Token.{Token}
use Rattle.sql_lex.specs.declared.token.Sign.TheVariants as sign
use Rattle.sql_lex.specs.declared.keyword.Keyword.TheVariants as keyword
use Rattle.ev_value.specs.declared.value.ScalarTy.TheVariants as scalar
use Rattle.sql_ast.specs.declared.expression.SqlExpr as e
use Rattle.sql_grammar.specs.declared.class.Class.TheVariants.{Sign as ASign}
use Rattle.sql_grammar.specs.declared.grown.Grown.{Grown}
use Rattle.sql_grammar.specs.Words.{is_sign, same_sign, same_keyword, class_of, word_of, name_of, literal_of, scalar_of}
use Rattle.sql_grammar.specs.Trees as t
use Rattle.sql_grammar.specs.Trees.{unlimited}
use Rattle.sql_grammar.specs.Grammar as g
use Rattle.sql_grammar.specs.Readers as r
use Rattle.exact.specs.Language.{Lang}
use Rattle.exact.proofs.Heads.{begins_never, begins_then, avoids_empty, avoids_either}
use Rattle.exact.proofs.Exact.{Inhabited}
use Rattle.exact.proofs.Laws.{Mode, Open, Shut, Void, lowered, IsExactAt, exact_void, exact_unread, exact_shut, exact_pure, exact_then, exact_choose, some_empty, some_one, some_then, some_left, some_right, some_chain}
use Rattle.sql_grammar.proofs.Sets.{a_name, a_number, a_word, avoids_one_mark, begins_one_mark, go, lead, or_left, or_right, some_sign, some_word}
use Rattle.sql_grammar.proofs.Exprs.{Known, exact_ty, ty_begins, exact_unary, exact_negation, exact_expr, expr_begins}
use Rattle.sql_grammar.proofs.Selects.{exact_select}

pub levels_known : (mode : Mode) (depth deep : ℕ) (high : ℕ → Bool) (L U : g.Inner) (P : r.Inner) → Known (lowered (depth == 0) mode) L U P → Known mode (g.levels depth high L) (g.levels (suc deep) unlimited U) (r.levels depth high P)
levels_known mode depth deep high L U P h = record {
  expr = exact_expr mode depth deep high L U P h;
  negation = exact_negation mode depth deep high L U P h;
  unary = exact_unary mode depth deep high L U P h;
  select = exact_select mode depth deep high L U P h;
  ty = exact_ty mode depth deep high L U P h;
  begins = expr_begins mode depth deep high L U P h;
  ty_begins = ty_begins mode depth deep high L U P h;
}

-- ---- some text of each level

module _ (depth : ℕ) (high : ℕ → Bool) (L : g.Inner) where
  some_ty : Inhabited (g.Ty depth high L)
  unfolding class_of
  some_ty = some_left (some_then (some_one scalar_of (a_word keyword.Int) scalar.Int64 refl) (λ s. some_empty (t.scalar_ty s)))

  some_unary : Inhabited (g.Unary depth high L)
  unfolding class_of
  some_unary = some_right (some_right (some_left (some_one literal_of a_number (t.leaf 0 (e.Int (pos 0))) refl)))

  some_operators : {M : Lang Token Grown} (level : ℕ) → Inhabited M → Inhabited (g.Operators depth high L level M)
  some_operators level m = some_then m (λ first. some_chain first)

  some_negation : Inhabited (g.Negation depth high L)
  some_negation = some_right (some_then (some_operators 5 (some_operators 6 some_unary)) (λ left. some_right (some_right (some_empty left))))

  some_expr : Inhabited (g.Expr depth high L)
  some_expr = some_operators 1 (some_operators 2 some_negation)

  some_column : Inhabited (g.ColumnOf depth high L)
  unfolding class_of
  some_column =
      some_then some_expr (λ x. some_then (some_then (some_one (word_of keyword.As) (some_word keyword.As).token (some_word keyword.As).place (some_word keyword.As).known) (λ _. some_one name_of a_name (record { text = codes "n"; start = 0 }) refl))
      (λ name. some_empty (t.named_column x name)))

  some_columns : Inhabited (g.Columns depth high L)
  some_columns =
      some_then (some_one (word_of keyword.Select) (some_word keyword.Select).token (some_word keyword.Select).place (some_word keyword.Select).known)
      (λ start. some_then (some_right (some_empty false)) (λ distinct. some_then some_column (λ first. some_chain (t.first_column start distinct first))))

  some_core : Inhabited (g.CoreOf depth high L)
  some_core = some_then some_columns (λ a. some_then (some_right (some_empty a)) (λ b. some_then (some_right (some_empty b)) (λ c. some_then (some_right (some_empty c)) (λ d. some_then (some_right (some_empty d)) (λ x. some_right (some_empty x))))))

  some_select : Inhabited (g.Sel depth high L)
  some_select = some_then (some_then some_core (λ first. some_chain (t.first_core first))) (λ all. some_empty (t.select_of all))

-- ---- the inductions

nothing_known : (U : g.Inner) → Known Void g.nothing U r.nothing
nothing_known U = record { expr = exact_void; negation = exact_void; unary = exact_void; select = exact_void; ty = exact_void; begins = begins_never; ty_begins = begins_never }

unread : (L U : g.Inner) (P : r.Inner) → Known Void L U P → Known Void L U r.nothing
unread L U P k = record {
  expr = exact_unread k.expr;
  negation = exact_unread k.negation;
  unary = exact_unread k.unary;
  select = exact_unread k.select;
  ty = exact_unread k.ty;
  begins = k.begins;
  ty_begins = k.ty_begins;
}

beyond_known : (high : ℕ → Bool) (spare deep : ℕ) → spare < deep → Known Void (g.beyond high spare) (g.within unlimited 0 deep) r.nothing
unfolding g.beyond g.within
beyond_known high spare zero lt = absurd (omega arith)
beyond_known high zero (suc deep) lt = unread _ _ _ (levels_known Void 0 deep high g.nothing (g.within unlimited 0 deep) r.nothing (nothing_known (g.within unlimited 0 deep)))
beyond_known high (suc spare) (suc deep) lt = unread _ _ _ (levels_known Void 0 deep high (g.beyond high spare) (g.within unlimited 0 deep) r.nothing (beyond_known high spare deep (omega arith)))

-- a part that passes the limit is not read, but has some text
shut : (high : ℕ → Bool) (L U : g.Inner) → Known Void (g.levels 0 high L) U r.nothing → Known Shut (g.levels 0 high L) U r.nothing
shut high L U k = record {
  expr = exact_shut (some_expr 0 high L) k.expr;
  negation = exact_shut (some_negation 0 high L) k.negation;
  unary = exact_shut (some_unary 0 high L) k.unary;
  select = exact_shut (some_select 0 high L) k.select;
  ty = exact_shut (some_ty 0 high L) k.ty;
  begins = k.begins;
  ty_begins = k.ty_begins;
}

shut_known : (high : ℕ → Bool) (spare deep : ℕ) → spare < deep → Known Shut (g.beyond high spare) (g.within unlimited 0 deep) r.nothing
unfolding g.beyond
shut_known high zero deep lt = shut high g.nothing (g.within unlimited 0 deep) (beyond_known high zero deep lt)
shut_known high (suc spare) deep lt = shut high (g.beyond high spare) (g.within unlimited 0 deep) (beyond_known high (suc spare) deep lt)

pub within_known : (high : ℕ → Bool) (spare depth deep : ℕ) → depth + spare + 1 < deep → Known Open (g.within high spare depth) (g.within unlimited 0 deep) (r.within high depth)
unfolding g.within r.within
within_known high spare depth zero lt = absurd (omega arith)
within_known high spare zero (suc deep) lt = levels_known Open 0 deep high (g.beyond high spare) (g.within unlimited 0 deep) r.nothing (shut_known high spare deep (omega arith))
within_known high spare (suc depth) (suc deep) lt =
    let inner = within_known high spare depth deep (omega arith) in
    levels_known Open (suc depth) deep high (g.within high spare depth) (g.within unlimited 0 deep) (r.within high depth)
    (subst (λ (b : Bool). Known (lowered b Open) (g.within high spare depth) (g.within unlimited 0 deep) (r.within high depth)) (sym (eqb-suc-zero depth)) inner)

-- ---- statements

-- the tokens with which a statement goes on
abbrev pub statement_go : Token → Bool
statement_go t = is_sign sign.Semicolon t || go 1 t

pub exact_statement : (mode : Mode) (L U : g.Inner) (P : r.Inner) → Known mode L U P → IsExactAt mode (g.Statement L) (g.Statement U) (r.statement P) (λ _. statement_go)
unfolding r.statement same_sign same_keyword
exact_statement mode L U P k =
    exact_then k.select
    (λ s. exact_choose (lead (some_sign sign.Semicolon) (λ _. exact_pure s)) (exact_pure s) (begins_then (begins_one_mark (ASign sign.Semicolon) (λ t e. rw e refl))) (avoids_empty s (λ t. or_left (is_sign sign.Semicolon t) (go 1 t))))
    (λ s. avoids_either (avoids_one_mark (ASign sign.Semicolon) (λ t e. rw e refl)) (avoids_empty s (λ t. or_right (is_sign sign.Semicolon t) (go 1 t))))
