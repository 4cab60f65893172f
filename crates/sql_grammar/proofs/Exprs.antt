-- The readers of types and expressions are exact for the grammar.
use Rattle.std.proofs.Common.{◌≡◌, ℕ, suc, pos, ◌+◌, ◌<◌, Bool, true, false, not, ◌||◌, ◌==◌, codes, refl, ap, arith}
use Rattle.std.proofs.Math.Dec.{eqb-suc-zero}
use Rattle.sql_lex.specs.declared.token.Token.{Token}
use Rattle.sql_lex.specs.declared.token.Sign.TheVariants as sign
use Rattle.sql_lex.specs.declared.keyword.Keyword.TheVariants as keyword
use Rattle.ev_value.specs.JsonText.{id_text}
use Rattle.ev_value.specs.JsonText.{id_text}
use Rattle.ev_value.specs.JsonText.{id_text}
use Rattle.ev_value.specs.JsonText.{id_text}
use Rattle.ev_value.specs.JsonText.{id_text}
use Rattle.ev_value.specs.declared.value.ScalarTy.TheVariants as scalar
use Rattle.sql_ast.specs.declared.expression.SqlExpr as e
use Rattle.sql_ast.specs.declared.expression.Function.TheVariants as function
use Rattle.sql_ast.specs.declared.expression.UnaryOp.TheVariants as unary
use Rattle.sql_grammar.specs.declared.class.Class.TheVariants.{Word, Sign as ASign, Name as AName}
use Rattle.sql_grammar.specs.declared.class.Start.{Start}
use Rattle.sql_grammar.specs.declared.class.Start.TheVariants as start
use Rattle.sql_grammar.specs.declared.grown.Grown.{Grown}
use Rattle.sql_grammar.specs.Words.{is_sign, is_word, same_sign, same_keyword, same_start, class_of, starts, name_of, literal_of, number_of, text_of, id_of, operator_in, operator_if, operator_of, function_of, scalar_in, scalar_of}
use Rattle.sql_grammar.specs.Trees as t
use Rattle.sql_grammar.specs.Trees.{unlimited}
use Rattle.sql_grammar.specs.Grammar as g
use Rattle.sql_grammar.specs.Readers as r
use Rattle.exact.specs.Language.{Lang, Either}
use Rattle.exact.specs.Reading.{Reader, has, inside, choose}
use Rattle.exact.proofs.Heads.{Begins, never, begins_then, begins_either, begins_in, avoids_begins, avoids_begun, avoids_none, avoids_empty, avoids_either, avoids_chain}
use Rattle.exact.proofs.Laws.{Mode, lowered, IsExactAt, exact_pure, exact_one, exact_then, exact_map, exact_lead, exact_behind, exact_choose, exact_chain, exact_weaken, exact_closed}
use Rattle.sql_grammar.proofs.Ids.{id_known}
use Rattle.sql_grammar.proofs.Ids.{id_known}
use Rattle.sql_grammar.proofs.Ids.{id_known}
use Rattle.sql_grammar.proofs.Ids.{id_known}
use Rattle.sql_grammar.proofs.Ids.{id_known}
use Rattle.sql_grammar.proofs.Sets.{At, SomeOperator, a_name, a_number, a_text, a_word, at_mark, avoids_one_mark, begins_function, begins_has, begins_literal, begins_mark, begins_name, begins_one_mark, begins_operator, covers_mark, from, from_apart, from_in, go, got, lacks_mark, lead, level_apart, level_covers, mark_starts, opens, or_left, or_right, rank, some_and, some_equal, some_or, some_plus, some_sign, some_star, some_word, starts_from, tighter}

-- What is known of the languages and readers of a level, U being the same with no limit passed.
pub record Known (mode : Mode) (L U : g.Inner) (P : r.Inner) : Type 0 where
  pub expr : IsExactAt mode L.expr U.expr P.expr (λ _. go 11)
  pub negation : IsExactAt mode L.negation U.negation P.negation (λ _. go 14)
  pub unary : IsExactAt mode L.unary U.unary P.unary (λ _. never)
  pub select : IsExactAt mode L.select U.select P.select (λ _. go 1)
  pub ty : IsExactAt mode L.ty U.ty P.ty (λ _. never)
  pub begins : Begins (from 1) L.expr
  pub ty_begins : Begins (inside (is_sign sign.RightParen)) L.ty

-- ---- lists with commas

-- the tokens with which such a list goes on
abbrev pub list_go : (Token → Bool) → Token → Bool
list_go inner t = is_sign sign.Comma t || inner t

pub exact_commas : {A B : Type 0} {mode : Mode} {L U : Lang Token A} {P : Reader Token A} {start : A → B} {add : B → A → B} {inner : Token → Bool} → IsExactAt mode L U P (λ _. inner) → At (ASign sign.Comma) inner false
    → IsExactAt mode (g.Commas L start add) (g.Commas U start add) (r.commas P start add) (λ _. list_go inner)
unfolding same_sign same_keyword
exact_commas {A} {B} {mode} {L} {U} {P} {start} {add} {inner} p none =
    exact_then p
    (λ first. exact_chain {go = list_go inner} (λ all. lead (some_sign sign.Comma) (λ _. exact_map (add all) p))
    (λ all. begins_then (begins_one_mark (ASign sign.Comma) (λ t e. rw e refl))) (at_mark (ASign sign.Comma) none) (λ t. or_left (is_sign sign.Comma t) (inner t)) (λ t. or_right (is_sign sign.Comma t) (inner t)) (start first))
    (λ first. avoids_chain (λ all. avoids_one_mark (ASign sign.Comma) none) (λ _ t. or_right (is_sign sign.Comma t) (inner t)) (start first))

-- ---- alternatives that are told apart by what begins them

pub record Branch (mode : Mode) (i : ℕ) (L U : Lang Token Grown) (P : Reader Token Grown) : Type 0 where
  pub exact : IsExactAt mode L U P (λ _. never)
  pub begins : Begins (from i) L

branch : {mode : Mode} {L M U N : Lang Token Grown} {P Q : Reader Token Grown} (s : Start) → IsExactAt mode L U P (λ _. never) → Begins (starts s) L → Branch mode (suc (rank s)) M N Q
    → Branch mode (rank s) (Either L M) (Either U N) (choose (starts s) P Q)
branch s p b m = record {
  exact = exact_choose p m.exact b (avoids_begins m.begins (from_apart s (suc (rank s)) (omega arith)));
  begins = begins_either (begins_in (starts_from s (rank s) (omega arith)) b) (begins_in (from_in (rank s) (suc (rank s)) (omega arith)) m.begins);
}

last_branch : {mode : Mode} {L U : Lang Token Grown} {P : Reader Token Grown} (s : Start) → IsExactAt mode L U P (λ _. never) → Begins (starts s) L → Branch mode (rank s) L U P
last_branch s p b = record { exact = p; begins = begins_in (starts_from s (rank s) (omega arith)) b }

module _ (mode : Mode) (depth deep : ℕ) (high : ℕ → Bool) (L U : g.Inner) (P : r.Inner) (h : Known (lowered (depth == 0) mode) L U P) where
  free : (suc deep == 0) ≡ false
  free = eqb-suc-zero deep

  pub exact_sub : IsExactAt mode (g.Sub depth high L) (g.Sub (suc deep) unlimited U) (r.sub depth high P) (λ _. never)
  unfolding r.sub r.opening same_sign same_keyword same_start
  exact_sub = opens (some_sign sign.LeftParen) free (λ _. exact_then h.select (λ s. lead (some_sign sign.RightParen) (λ _. exact_pure s)) (λ s. avoids_one_mark (ASign sign.RightParen) (λ t e. rw e refl)))

  pub exact_within : IsExactAt mode (g.Within depth high L) (g.Within (suc deep) unlimited U) (r.within_parens depth high P) (λ _. never)
  unfolding r.within_parens r.opening same_sign same_keyword same_start
  exact_within = opens (some_sign sign.LeftParen) free (λ start. exact_then h.expr (λ x. lead (some_sign sign.RightParen) (λ _. exact_pure (t.grouped start x))) (λ x. avoids_one_mark (ASign sign.RightParen) (λ t e. rw e refl)))

  -- ---- types

  exact_types_within : IsExactAt mode (g.TypesWithin depth high L) (g.TypesWithin (suc deep) unlimited U) (r.types_within depth high P) (λ _. never)
  unfolding r.types_within r.opening same_sign same_keyword same_start
  exact_types_within = opens (some_sign sign.LeftParen) free (λ _. exact_choose (lead (some_sign sign.RightParen) (λ _. exact_pure t.no_types))
      (exact_then (exact_commas h.ty (λ t e. refl)) (λ all. lead (some_sign sign.RightParen) (λ _. exact_pure all)) (λ all. avoids_one_mark (ASign sign.RightParen) (λ t e. rw e refl)))
      (begins_then (begins_one_mark (ASign sign.RightParen) (λ t e. rw e refl))) (avoids_begun (begins_then (begins_then h.ty_begins))))

  exact_array_ty : IsExactAt mode (g.ArrayTy depth high L) (g.ArrayTy (suc deep) unlimited U) (r.array_of_ty depth high P) (λ _. never)
  unfolding r.array_of_ty r.opening same_sign same_keyword same_start
  exact_array_ty = lead (some_word keyword.Array) (λ _. opens (some_sign sign.LeftParen) free (λ _. exact_then h.ty (λ y. lead (some_sign sign.RightParen) (λ _. exact_pure (t.array_ty y))) (λ t. avoids_none)))

  pub exact_ty : IsExactAt mode (g.Ty depth high L) (g.Ty (suc deep) unlimited U) (r.ty_of depth high P) (λ _. never)
  unfolding r.ty_of r.opening same_sign same_keyword same_start class_of
  exact_ty =
      exact_choose (exact_lead scalar_of (a_word keyword.Int) scalar.Int64 refl (λ s. exact_pure (t.scalar_ty s)))
      (exact_choose (lead (some_word keyword.Row) (λ _. exact_map t.row_ty exact_types_within)) exact_array_ty (begins_then (begins_one_mark (Word keyword.Row) (λ t e. rw e refl))) (avoids_one_mark (Word keyword.Array) (λ t e. rw e refl)))
      (begins_then (begins_has scalar_of (λ t e. e)))
      (avoids_either (avoids_one_mark (Word keyword.Row) (λ t e. ap (λ d. got (scalar_in d)) e)) (avoids_one_mark (Word keyword.Array) (λ t e. ap (λ d. got (scalar_in d)) e)))

  pub ty_begins : Begins (inside (is_sign sign.RightParen)) (g.Ty depth high L)
  unfolding same_sign same_keyword
  ty_begins = begins_either (begins_then (begins_has scalar_of scalar_inside)) (begins_either (begins_then (begins_one_mark (Word keyword.Row) (λ t e. rw e refl))) (begins_then (begins_one_mark (Word keyword.Array) (λ t e. rw e refl))))
    where
      scalar_inside : (t : Token) → has scalar_of t ≡ true → inside (is_sign sign.RightParen) t ≡ true
      scalar_inside t e = ap not (lacks_mark (ASign sign.RightParen) {set = has scalar_of} (λ t e. ap (λ d. got (scalar_in d)) e) t e)

  -- ---- what holds no operator of its own

  exact_uuid : IsExactAt mode (g.UuidText depth high L) (g.UuidText (suc deep) unlimited U) (r.uuid_text depth high P) (λ _. never)
  unfolding r.uuid_text r.opening same_sign same_keyword same_start class_of
  exact_uuid = lead (some_word keyword.Uuid) (λ start. exact_lead id_of a_text 0 (id_known 0 (omega arith)) (λ id. exact_pure (t.uuid start id)))

  exact_null : IsExactAt mode (g.NullTy depth high L) (g.NullTy (suc deep) unlimited U) (r.null_ty depth high P) (λ _. never)
  unfolding r.null_ty r.opening same_sign same_keyword same_start
  exact_null = lead (some_word keyword.Null) (λ start. lead (some_sign sign.Cast) (λ _. exact_map (t.null_of start) exact_ty))

  exact_reference : IsExactAt mode (g.Reference depth high L) (g.Reference (suc deep) unlimited U) (r.reference depth high P) (λ _. never)
  unfolding r.reference r.opening same_sign same_keyword same_start class_of
  exact_reference = exact_lead name_of a_name (record { text = codes "n"; start = 0 }) refl (λ alias. lead (some_sign sign.Dot) (λ _. exact_lead name_of a_name (record { text = codes "n"; start = 0 }) refl (λ name. exact_pure (t.column alias name))))

  exact_argument : IsExactAt mode (g.Argument depth high L) (g.Argument (suc deep) unlimited U) (r.argument_of depth high P) (λ _. never)
  unfolding r.argument_of r.opening same_sign same_keyword same_start class_of
  exact_argument = lead (some_word keyword.Arg) (λ start. opens (some_sign sign.LeftParen) free (λ _. exact_lead text_of a_text (id_text 0) refl (λ name. lead (some_sign sign.Comma) (λ _. exact_then h.ty (λ y. lead (some_sign sign.RightParen) (λ _. exact_pure (t.argument start name y))) (λ y. avoids_none)))))

  exact_global : IsExactAt mode (g.GlobalText depth high L) (g.GlobalText (suc deep) unlimited U) (r.global_text depth high P) (λ _. never)
  unfolding r.global_text r.opening same_sign same_keyword same_start class_of
  exact_global = lead (some_word keyword.Global) (λ start. opens (some_sign sign.LeftParen) free (λ _. exact_lead text_of a_text (id_text 0) refl (λ name. lead (some_sign sign.RightParen) (λ _. exact_pure (t.global start name)))))

  exact_array : IsExactAt mode (g.ArrayOf depth high L) (g.ArrayOf (suc deep) unlimited U) (r.array_of depth high P) (λ _. never)
  unfolding r.array_of r.opening same_sign same_keyword same_start
  exact_array = lead (some_word keyword.Array) (λ start. exact_map (t.array start) exact_sub)

  exact_exprs_within : IsExactAt mode (g.ExprsWithin depth high L) (g.ExprsWithin (suc deep) unlimited U) (r.exprs_within depth high P) (λ _. never)
  unfolding r.exprs_within r.opening same_sign same_keyword same_start
  exact_exprs_within = opens (some_sign sign.LeftParen) free (λ _. exact_choose (lead (some_sign sign.RightParen) (λ _. exact_pure t.nothing_yet))
      (exact_then (exact_commas h.expr (λ t e. rw e refl)) (λ all. lead (some_sign sign.RightParen) (λ _. exact_pure all)) (λ all. avoids_one_mark (ASign sign.RightParen) (λ t e. rw e refl)))
      (begins_then (begins_one_mark (ASign sign.RightParen) (λ t e. rw e refl))) (avoids_begins (begins_then (begins_then h.begins)) (lacks_mark (ASign sign.RightParen) {set = from 1} (λ t e. rw e refl))))

  exact_row : IsExactAt mode (g.RowOf depth high L) (g.RowOf (suc deep) unlimited U) (r.row_of depth high P) (λ _. never)
  unfolding r.row_of r.opening same_sign same_keyword same_start
  exact_row = lead (some_word keyword.Row) (λ start. exact_map (t.row start) exact_exprs_within)

  exact_part : IsExactAt mode (g.PartOf depth high L) (g.PartOf (suc deep) unlimited U) (r.part_of depth high P) (λ _. never)
  unfolding r.part_of r.opening same_sign same_keyword same_start class_of
  exact_part = lead (some_word keyword.Part) (λ start. opens (some_sign sign.LeftParen) free (λ _. exact_then h.expr (λ x. lead (some_sign sign.Comma) (λ _. exact_lead number_of a_number (pos 0) refl (λ number. lead (some_sign sign.RightParen) (λ _. exact_pure (t.part start x number))))) (λ x. avoids_one_mark (ASign sign.Comma) (λ t e. rw e refl))))

  exact_case : IsExactAt mode (g.CaseOf depth high L) (g.CaseOf (suc deep) unlimited U) (r.case_when depth high P) (λ _. never)
  unfolding r.case_when r.opening same_sign same_keyword same_start
  exact_case =
      opens (some_word keyword.Case) free (λ start. lead (some_word keyword.When)
      (λ _. exact_then h.expr (λ condition. lead (some_word keyword.Then)
      (λ _. exact_then h.expr (λ value. lead (some_word keyword.Else)
      (λ _. exact_then h.expr (λ other. lead (some_word keyword.End) (λ _. exact_pure (t.case_of start condition value other))) (λ other. avoids_one_mark (Word keyword.End) (λ t e. rw e refl))))
      (λ value. avoids_one_mark (Word keyword.Else) (λ t e. rw e refl)))) (λ condition. avoids_one_mark (Word keyword.Then) (λ t e. rw e refl))))

  exact_cast : IsExactAt mode (g.CastOf depth high L) (g.CastOf (suc deep) unlimited U) (r.cast_of depth high P) (λ _. never)
  unfolding r.cast_of r.opening same_sign same_keyword same_start
  exact_cast = lead (some_word keyword.Cast) (λ start. opens (some_sign sign.LeftParen) free (λ _. exact_then h.expr (λ x. lead (some_word keyword.As) (λ _. exact_then h.ty (λ y. lead (some_sign sign.RightParen) (λ _. exact_pure (t.cast start x y))) (λ y. avoids_none))) (λ x. avoids_one_mark (Word keyword.As) (λ t e. rw e refl))))

  exact_call : IsExactAt mode (g.CallOf depth high L) (g.CallOf (suc deep) unlimited U) (r.call_of depth high P) (λ _. never)
  unfolding r.call_of r.opening same_sign same_keyword same_start class_of
  exact_call = exact_lead function_of (a_word keyword.Len) (record { function = function.Len; start = 0 }) refl (λ found. exact_map (t.call found) exact_within)

  prim : Branch mode 3 (g.Prim depth high L) (g.Prim (suc deep) unlimited U) (r.prim depth high P)
  unfolding r.prim r.form class_of
  prim =
      branch start.Group exact_within (begins_then (begins_mark (ASign sign.LeftParen) (mark_starts (ASign sign.LeftParen) start.Group refl)))
      (branch start.Literal (exact_one literal_of a_number (t.leaf 0 (e.Int (pos 0))) refl) begins_literal
      (branch start.Uuid exact_uuid (begins_then (begins_one_mark (Word keyword.Uuid) (mark_starts (Word keyword.Uuid) start.Uuid refl)))
      (branch start.Null exact_null (begins_then (begins_one_mark (Word keyword.Null) (mark_starts (Word keyword.Null) start.Null refl)))
      (branch start.Column exact_reference (begins_then (begins_name (mark_starts AName start.Column refl)))
      (branch start.Arg exact_argument (begins_then (begins_one_mark (Word keyword.Arg) (mark_starts (Word keyword.Arg) start.Arg refl)))
      (branch start.Global exact_global (begins_then (begins_one_mark (Word keyword.Global) (mark_starts (Word keyword.Global) start.Global refl)))
      (branch start.Array exact_array (begins_then (begins_one_mark (Word keyword.Array) (mark_starts (Word keyword.Array) start.Array refl)))
      (branch start.Row exact_row (begins_then (begins_one_mark (Word keyword.Row) (mark_starts (Word keyword.Row) start.Row refl)))
      (branch start.Part exact_part (begins_then (begins_one_mark (Word keyword.Part) (mark_starts (Word keyword.Part) start.Part refl)))
      (branch start.Case exact_case (begins_then (begins_mark (Word keyword.Case) (mark_starts (Word keyword.Case) start.Case refl)))
      (branch start.Cast exact_cast (begins_then (begins_one_mark (Word keyword.Cast) (mark_starts (Word keyword.Cast) start.Cast refl)))
      (last_branch start.Call exact_call (begins_then begins_function)))))))))))))

  -- ---- operators

  pub exact_unary : IsExactAt mode (g.Unary depth high L) (g.Unary (suc deep) unlimited U) (r.unary_of depth high P) (λ _. never)
  unfolding r.unary_of r.opening same_sign same_keyword same_start
  exact_unary = exact_choose (opens (some_sign sign.Minus) free (λ start. exact_map (t.prefixed unary.Neg start) h.unary)) prim.exact (begins_then (begins_mark (ASign sign.Minus) (mark_starts (ASign sign.Minus) start.Minus refl))) (avoids_begins prim.begins (from_apart start.Minus 3 (omega arith)))

  unary_begins : Begins (from 2) (g.Unary depth high L)
  unary_begins = begins_either (begins_in (starts_from start.Minus 2 (omega arith)) (begins_then (begins_mark (ASign sign.Minus) (mark_starts (ASign sign.Minus) start.Minus refl)))) (begins_in (from_in 2 3 (omega arith)) prim.begins)

  exact_operators : {M N : Lang Token Grown} {q : Reader Token Grown} (level least tight : ℕ) → least ≡ level + 10 → least < tight → SomeOperator level → IsExactAt mode M N q (λ _. go tight)
      → IsExactAt mode (g.Operators depth high L level M) (g.Operators (suc deep) unlimited U level N) (r.operators depth high P level q) (λ _. go least)
  unfolding r.operators
  exact_operators level least tight same lt some p =
      exact_then p
      (λ first. exact_chain {go = go least} (λ left. exact_behind (operator_of level) some.token some.found some.known refl (λ found. exact_map (t.operated found left) p))
      (λ left. begins_then (begins_operator level (λ t e. e))) (level_apart level tight (omega arith)) (level_covers level least (omega arith)) (tighter least tight (omega arith)) first)
      (λ first. avoids_chain (λ left. avoids_begins (begins_then (begins_operator level (λ t e. e))) (level_apart level tight (omega arith))) (λ _. tighter least tight (omega arith)) first)

  exact_product : IsExactAt mode (g.Product depth high L) (g.Product (suc deep) unlimited U) (r.product depth high P) (λ _. go 16)
  unfolding r.product r.opening same_sign same_keyword same_start
  exact_product = exact_operators 6 16 17 refl (omega arith) some_star (exact_closed exact_unary)

  exact_sum : IsExactAt mode (g.Sum depth high L) (g.Sum (suc deep) unlimited U) (r.sum depth high P) (λ _. go 15)
  unfolding r.sum r.opening same_sign same_keyword same_start
  exact_sum = exact_operators 5 15 16 refl (omega arith) some_plus exact_product

  exact_negated : IsExactAt mode (g.Negated depth high L) (g.Negated (suc deep) unlimited U) (r.negated depth high P) (λ _. is_word keyword.Not)
  unfolding r.negated r.opening same_sign same_keyword same_start
  exact_negated = exact_choose (lead (some_word keyword.Not) (λ _. exact_pure true)) (exact_pure false) (begins_then (begins_one_mark (Word keyword.Not) (λ t e. rw e refl))) (avoids_empty false (λ t e. e))

  exact_null_test : (x : Grown) → IsExactAt mode (g.NullTest depth high L x) (g.NullTest (suc deep) unlimited U x) (r.null_test_of depth high P x) (λ _. go 14)
  unfolding r.null_test_of same_sign same_keyword
  exact_null_test x = lead (some_word keyword.Is) (λ _. exact_then exact_negated (λ negated. lead (some_word keyword.Null) (λ _. exact_pure (t.null_test x negated))) (λ negated. avoids_one_mark (Word keyword.Null) (λ t e. rw e refl)))

  exact_comparison : IsExactAt mode (g.Comparison depth high L) (g.Comparison (suc deep) unlimited U) (r.comparison depth high P) (λ _. go 14)
  unfolding r.comparison r.opening same_sign same_keyword same_start
  exact_comparison =
      exact_then exact_sum
      (λ left. exact_choose (exact_lead (operator_of 4) some_equal.token some_equal.found some_equal.known (λ found. exact_map (t.operated found left) (exact_weaken (λ _. tighter 14 15 (omega arith)) exact_sum)))
      (exact_choose (exact_null_test left) (exact_pure left) (begins_then (begins_one_mark (Word keyword.Is) (λ t e. rw e refl))) (avoids_empty left (covers_mark (Word keyword.Is) {set = go 14} (λ t e. rw e refl))))
      (begins_then (begins_has (operator_of 4) (λ t e. e)))
      (avoids_either (avoids_one_mark (Word keyword.Is) (λ t e. ap (λ d. got (operator_if 4 (operator_in d))) e)) (avoids_empty left (level_covers 4 14 (omega arith)))))
      (λ left. avoids_either (avoids_begins (begins_then (begins_has (operator_of 4) (λ t e. e))) (level_apart 4 15 (omega arith))) (avoids_either (avoids_one_mark (Word keyword.Is) (λ t e. rw e refl)) (avoids_empty left (tighter 14 15 (omega arith)))))

  pub exact_negation : IsExactAt mode (g.Negation depth high L) (g.Negation (suc deep) unlimited U) (r.negation depth high P) (λ _. go 14)
  unfolding r.negation r.opening same_sign same_keyword same_start
  exact_negation =
      exact_choose (opens (some_word keyword.Not) free (λ start. exact_map (t.prefixed unary.Not start) h.negation)) exact_comparison
      (begins_then (begins_mark (Word keyword.Not) (mark_starts (Word keyword.Not) start.Not refl)))
      (avoids_begins (begins_then (begins_then (begins_then unary_begins))) (from_apart start.Not 2 (omega arith)))

  negation_begins : Begins (from 1) (g.Negation depth high L)
  negation_begins = begins_either (begins_in (starts_from start.Not 1 (omega arith)) (begins_then (begins_mark (Word keyword.Not) (mark_starts (Word keyword.Not) start.Not refl)))) (begins_in (from_in 1 2 (omega arith)) (begins_then (begins_then (begins_then unary_begins))))

  exact_conjunction : IsExactAt mode (g.Conjunction depth high L) (g.Conjunction (suc deep) unlimited U) (r.conjunction depth high P) (λ _. go 12)
  unfolding r.conjunction r.opening same_sign same_keyword same_start
  exact_conjunction = exact_operators 2 12 14 refl (omega arith) some_and exact_negation

  pub exact_expr : IsExactAt mode (g.Expr depth high L) (g.Expr (suc deep) unlimited U) (r.expr depth high P) (λ _. go 11)
  unfolding r.expr r.opening same_sign same_keyword same_start
  exact_expr = exact_operators 1 11 12 refl (omega arith) some_or exact_conjunction

  pub expr_begins : Begins (from 1) (g.Expr depth high L)
  expr_begins = begins_then (begins_then negation_begins)
