-- The readers of clauses, elements and statements are exact for the grammar.
use Rattle.std.proofs.Common.{◌≡◌, ℕ, suc, ◌≤◌, ◌<◌, Bool, true, false, ◌||◌, ◌==◌, List, [], ◌++◌, length, Some, None, refl, sym, ap, arith, inr}
use Rattle.std.proofs.Math.Dec.{eqb-suc-zero}
use Rattle.ev_lex.specs.declared.token.Token.{Token}
use Rattle.ev_lex.specs.declared.token.Sign.TheVariants as sign
use Rattle.ev_lex.specs.declared.keyword.Keyword.TheVariants as keyword
use Rattle.ast.specs.declared.name.Name.{Name}
use Rattle.ast.specs.declared.shape.Need.TheVariants as need
use Rattle.ast.specs.declared.shape.Width.TheVariants as width
use Rattle.eql_grammar.specs.declared.grown.GrownExpr.{GrownExpr}
use Rattle.eql_grammar.specs.declared.grown.GrownElement.{GrownElement}
use Rattle.eql_grammar.specs.declared.grown.GrownClauses.{GrownClauses}
use Rattle.eql_grammar.specs.declared.grown.Direction.{Direction}
use Rattle.eql_grammar.specs.declared.grown.With.{With}
use Rattle.eql_grammar.specs.declared.grown.Heads.{Heads}
use Rattle.eql_grammar.specs.declared.grown.Opening.{Opening}
use Rattle.eql_grammar.specs.declared.grown.Opening.TheVariants as opens
use Rattle.eql_grammar.specs.declared.grown.Body.TheVariants as body
use Rattle.eql_grammar.specs.declared.grown.Nest.{Nest}
use Rattle.eql_grammar.specs.declared.grown.Nest.TheVariants as nest
use Rattle.exact.specs.declared.rule.Rule.TheVariants.{Unexpected}
use Rattle.eql_grammar.specs.Words.{is_sign, same_sign, same_keyword, sign_of, is_statement, ends_aliases, name_of, needed, need_of, wide, width_of, directed, direction_of, place_of}
use Rattle.eql_grammar.specs.declared.class.Class.TheVariants.{Sign as ASign, Reserved, Named}
use Rattle.eql_grammar.specs.Trees as t
use Rattle.eql_grammar.specs.Trees.{unlimited}
use Rattle.eql_grammar.specs.Grammar as g
use Rattle.eql_grammar.specs.Grammar.{turned}
use Rattle.eql_grammar.specs.Readers as r
use Rattle.ast.specs.Expression.{span_of}
use Rattle.exact.specs.Language.{Lang, Empty, One, Then, Step, More, Done, Loop}
use Rattle.exact.specs.Reading.{Reader, Outcome, Got, Stop, and_then, onward, refuse, has, inside, loop_from}
use Rattle.exact.proofs.Heads.{Begins, Avoids, Covers, never, begins_long, begins_then, begins_either, begins_or, begins_in, begins_one_within, avoids_begins, avoids_none, avoids_empty, avoids_either, avoids_then, avoids_chain}
use Rattle.exact.proofs.Exact.{Inhabited}
use Rattle.exact.proofs.Single.{has_some}
use Rattle.exact.proofs.Laws.{Mode, lowered, HasText, IsExactAt, exact_pure, exact_one, exact_one_within, exact_then, exact_map, exact_lead, exact_choose, exact_chain, exact_items, exact_weaken, exact_loop_with}
use Rattle.eql_grammar.proofs.Sets.{At, a_sign, aliases_cover, at_mark, at_name, avoids_mark, avoids_one_mark, begins_either_word, begins_mark, begins_name, begins_one_mark, behind, comma_some, covers_mark, either_at, either_covers, either_has, element_covers, element_go, go, got, lead, or_cases, or_one, or_other, some_comma, some_direction, some_name, some_need, some_place, some_sign, some_width, starts, tighter, word_By, word_Empty, word_Filter, word_For, word_In, word_Limit, word_Offset, word_Order, word_Select, word_Then, word_Union, word_With}
use Rattle.eql_grammar.proofs.Turning.{some_turn, mapped}
use Rattle.eql_grammar.proofs.Exprs.{Known, names_begin, exact_shape, exact_post, starts_no_statement}
use Rattle.eql_grammar.proofs.Ifs.{exact_expr, expr_begins}

-- with what a statement goes on behind its beginning
abbrev on_opening : Opening → Token → Bool
on_opening (opens.For head) = never
on_opening (opens.Select s) = go 1

abbrev on_turn : Step Heads Nest → Token → Bool
on_turn (More heads) = never
on_turn (Done s) = go 1

on_turned : (heads : Heads) (o : Opening) → Covers (on_turn (turned heads o)) (on_opening o)
on_turned heads (opens.For head) t e = refl
on_turned heads (opens.Select s) t e = e

module _ (mode : Mode) (depth deep : ℕ) (high : ℕ → Bool) (L U : g.Inner) (P : r.Inner) (h : Known (lowered (depth == 0) mode) L U P) where
  free : (suc deep == 0) ≡ false
  free = eqb-suc-zero deep

  expr : IsExactAt mode (g.Expr depth high L) (g.Expr (suc deep) unlimited U) (r.expr depth high P) (λ _. go 11)
  expr = exact_expr mode depth deep high L U P h

  begins : Begins starts (g.Expr depth high L)
  begins = expr_begins mode depth deep high L U P h

  -- an expression, before what is looser
  expr_to : (least : ℕ) → least ≤ 11 → IsExactAt mode (g.Expr depth high L) (g.Expr (suc deep) unlimited U) (r.expr depth high P) (λ _. go least)
  expr_to least le = exact_weaken (λ _. tighter least 11 le) expr

  -- ---- clauses

  exact_filter : (c : GrownClauses) → IsExactAt mode (g.Filter depth high L c) (g.Filter (suc deep) unlimited U c) (r.filter depth high P c) (λ _. go 7)
  unfolding r.filter same_sign same_keyword
  exact_filter c = exact_choose (behind word_Filter refl (λ _. exact_map (t.filtered c) (expr_to 7 (omega arith)))) (exact_pure c) (begins_then (begins_mark (Reserved keyword.Filter) (λ t e. rw e refl))) (avoids_empty c (covers_mark (Reserved keyword.Filter) {set = go 7} (λ t e. rw e refl)))

  directions : (t : Token) → has direction_of t ≡ true → go 11 t ≡ false
  unfolding same_sign same_keyword
  directions = either_has keyword.Asc keyword.Desc (directed false) (directed true) (λ t e. rw e refl) (λ t e. rw e refl)

  exact_way : (x : GrownExpr) → IsExactAt mode (g.Way depth high L x) (g.Way (suc deep) unlimited U x) (r.way depth high P x) (λ _. go 6)
  unfolding r.way same_sign same_keyword
  exact_way x =
      exact_choose (exact_one_within direction_of some_direction.token some_direction.found some_direction.known refl) (exact_pure (t.upward x))
      (begins_one_within _ direction_of (λ t a e. has_some direction_of t a e))
      (avoids_empty (t.upward x) (either_covers keyword.Asc keyword.Desc (directed false) (directed true) (λ t e. rw e refl) (λ t e. rw e refl)))

  way_avoids : (x : GrownExpr) → Avoids (go 11) (g.Way depth high L x) (λ _. go 11)
  way_avoids x = avoids_either (avoids_begins (begins_one_within _ direction_of (λ t a e. has_some direction_of t a e)) directions) (avoids_empty (t.upward x) (λ t e. e))

  exact_placed : (x : GrownExpr) (way : Direction) → IsExactAt mode (g.Placed depth high L x way) (g.Placed (suc deep) unlimited U x way) (r.placed depth high P x way) (λ _. go 5)
  unfolding r.placed same_sign same_keyword
  exact_placed x way =
      exact_choose (behind word_Empty refl (λ _. exact_lead place_of some_place.token some_place.found some_place.known (λ found. exact_pure (t.keyed x way (Some found.place) found.end))))
      (exact_pure (t.keyed x way None way.end)) (begins_then (begins_mark (Named (Some keyword.Empty)) (λ t e. rw e refl))) (avoids_empty _ (covers_mark (Named (Some keyword.Empty)) {set = go 5} (λ t e. rw e refl)))

  placed_avoids : (k : ℕ) → 5 < k → (x : GrownExpr) (way : Direction) → At (Named (Some keyword.Empty)) (go k) false → Avoids (go k) (g.Placed depth high L x way) (λ _. go 5)
  placed_avoids k lt x way out = avoids_either (avoids_mark (Named (Some keyword.Empty)) out) (avoids_empty _ (tighter 5 k (omega arith)))

  exact_key : IsExactAt mode (g.Key depth high L) (g.Key (suc deep) unlimited U) (r.key depth high P) (λ _. go 5)
  unfolding r.key same_sign same_keyword
  exact_key =
      exact_then expr
      (λ x. exact_then (exact_way x) (λ way. exact_placed x way) (λ way. placed_avoids 6 (omega arith) x way (λ t e. rw e refl)))
      (λ x. avoids_then (way_avoids x) (λ way. placed_avoids 11 (omega arith) x way (λ t e. rw e refl)))

  exact_order : (c : GrownClauses) → IsExactAt mode (g.Order depth high L c) (g.Order (suc deep) unlimited U c) (r.order depth high P c) (λ _. go 3)
  unfolding r.order r.further_keys same_sign same_keyword
  exact_order c =
      exact_choose
      (behind word_Order refl
      (λ _. lead word_By
      (λ _. exact_then exact_key
      (λ first. exact_chain {go = go 3} (λ all. behind word_Then refl (λ _. exact_map (t.ordered all) exact_key)) (λ all. begins_then (begins_mark (Named (Some keyword.Then)) (λ t e. rw e refl))) (at_mark (Named (Some keyword.Then)) {set = go 5} (λ t e. rw e refl)) (covers_mark (Named (Some keyword.Then)) {set = go 3} (λ t e. rw e refl)) (tighter 3 5 (omega arith)) (t.ordered c first))
      (λ first. avoids_chain (λ all. (avoids_mark (Named (Some keyword.Then)) (λ t e. rw e refl))) (λ _. tighter 3 5 (omega arith)) (t.ordered c first)))))
      (exact_pure c) (begins_then (begins_mark (Reserved keyword.Order) (λ t e. rw e refl))) (avoids_empty c (covers_mark (Reserved keyword.Order) {set = go 3} (λ t e. rw e refl)))

  exact_offset : (c : GrownClauses) → IsExactAt mode (g.Offset depth high L c) (g.Offset (suc deep) unlimited U c) (r.offset depth high P c) (λ _. go 2)
  unfolding r.offset same_sign same_keyword
  exact_offset c = exact_choose (behind word_Offset refl (λ _. exact_map (t.offset_by c) (expr_to 2 (omega arith)))) (exact_pure c) (begins_then (begins_mark (Reserved keyword.Offset) (λ t e. rw e refl))) (avoids_empty c (covers_mark (Reserved keyword.Offset) {set = go 2} (λ t e. rw e refl)))

  exact_limit : (c : GrownClauses) → IsExactAt mode (g.Limit depth high L c) (g.Limit (suc deep) unlimited U c) (r.limit depth high P c) (λ _. go 1)
  unfolding r.limit same_sign same_keyword
  exact_limit c = exact_choose (behind word_Limit refl (λ _. exact_map (t.limited c) (expr_to 1 (omega arith)))) (exact_pure c) (begins_then (begins_mark (Reserved keyword.Limit) (λ t e. rw e refl))) (avoids_empty c (covers_mark (Reserved keyword.Limit) {set = go 1} (λ t e. rw e refl)))

  limit_avoids : (k least : ℕ) → least ≤ k → At (Reserved keyword.Limit) (go k) false → (c : GrownClauses) → Avoids (go k) (g.Limit depth high L c) (λ _. go least)
  limit_avoids k least le out c = avoids_either (avoids_mark (Reserved keyword.Limit) out) (avoids_empty c (tighter least k le))

  offset_avoids : (k least : ℕ) → least ≤ k → At (Reserved keyword.Offset) (go k) false → At (Reserved keyword.Limit) (go k) false → (c : GrownClauses) → Avoids (go k) (Then (g.Offset depth high L c) (λ d. g.Limit depth high L d)) (λ _. go least)
  offset_avoids k least le out limit c = avoids_then (avoids_either (avoids_mark (Reserved keyword.Offset) out) (avoids_empty c (λ t e. e))) (λ d. limit_avoids k least le limit d)

  order_avoids : (k least : ℕ) → least ≤ k → At (Reserved keyword.Order) (go k) false → At (Reserved keyword.Offset) (go k) false → At (Reserved keyword.Limit) (go k) false → (c : GrownClauses)
      → Avoids (go k) (Then (g.Order depth high L c) (λ d. Then (g.Offset depth high L d) (λ e. g.Limit depth high L e))) (λ _. go least)
  order_avoids k least le out offset limit c = avoids_then (avoids_either (avoids_mark (Reserved keyword.Order) out) (avoids_empty c (λ t e. e))) (λ d. offset_avoids k least le offset limit d)

  exact_clauses : (c : GrownClauses) → IsExactAt mode (g.Clauses depth high L c) (g.Clauses (suc deep) unlimited U c) (r.clauses depth high P c) (λ _. go 1)
  unfolding r.clauses same_sign same_keyword
  exact_clauses none =
      exact_then (exact_filter none)
      (λ a. exact_then (exact_order a) (λ b. exact_then (exact_offset b) (λ c. exact_limit c) (λ c. limit_avoids 2 1 (omega arith) (λ t e. rw e refl) c)) (λ b. offset_avoids 3 1 (omega arith) (λ t e. rw e refl) (λ t e. rw e refl) b))
      (λ a. order_avoids 7 1 (omega arith) (λ t e. rw e refl) (λ t e. rw e refl) (λ t e. rw e refl) a)

  filter_avoids : (c : GrownClauses) → Avoids (go 11) (g.Filter depth high L c) (λ _. go 11)
  unfolding same_sign same_keyword
  filter_avoids c = avoids_either (avoids_mark (Reserved keyword.Filter) (λ t e. rw e refl)) (avoids_empty c (λ t e. e))

  clauses_avoid : (c : GrownClauses) → Avoids (go 11) (g.Clauses depth high L c) (λ _. go 11)
  unfolding same_sign same_keyword
  clauses_avoid c = avoids_then (filter_avoids c) (λ a. order_avoids 11 11 (omega arith) (λ t e. rw e refl) (λ t e. rw e refl) (λ t e. rw e refl) a)

  -- ---- elements

  needs_first : (t : Token) → has need_of t ≡ true → r.is_qualifier depth high P t ≡ true
  needs_first t e = or_one (has need_of t) (has width_of t) e

  widths_first : (t : Token) → has width_of t ≡ true → r.is_qualifier depth high P t ≡ true
  widths_first t e = or_other (has need_of t) (has width_of t) e

  widths_no_need : (t : Token) → has width_of t ≡ true → has need_of t ≡ false
  unfolding same_sign same_keyword
  widths_no_need = either_has keyword.Single keyword.Multi (wide width.Single) (wide width.Multi) (λ t e. ap (λ d. got (either_at keyword.Required (needed need.Required t) keyword.Optional (needed need.Optional t) d)) e) (λ t e. ap (λ d. got (either_at keyword.Required (needed need.Required t) keyword.Optional (needed need.Optional t) d)) e)

  exact_words : IsExactAt mode (g.Words depth high L) (g.Words (suc deep) unlimited U) (r.words depth high P) (λ _. has width_of)
  unfolding r.words
  exact_words =
      exact_choose
      (exact_lead need_of some_need.token some_need.found some_need.known
      (λ first. exact_choose (exact_lead width_of some_width.token some_width.found some_width.known (λ second. exact_pure (t.both_words first second))) (exact_pure first) (begins_then (begins_either_word width_of (λ t e. e))) (avoids_empty first (λ t e. e))))
      (exact_one width_of some_width.token some_width.found some_width.known)
      (begins_then (begins_either_word need_of (λ t e. e)))
      (avoids_begins (begins_either_word width_of (λ t e. e)) widths_no_need)

  words_begin : Begins (r.is_qualifier depth high P) (g.Words depth high L)
  words_begin = begins_either (begins_then (begins_either_word need_of needs_first)) (begins_either_word width_of widths_first)

  qualifier_out : {set : Token → Bool} {v : Bool} → At (Reserved keyword.Required) set v → At (Reserved keyword.Optional) set v → At (Reserved keyword.Single) set v → At (Reserved keyword.Multi) set v → (t : Token) → r.is_qualifier depth high P t ≡ true → set t ≡ v
  qualifier_out a b c d t e =
      or_cases (has need_of t) (has width_of t) e (either_has keyword.Required keyword.Optional (needed need.Required) (needed need.Optional) a b t) (either_has keyword.Single keyword.Multi (wide width.Single) (wide width.Multi) c d t)

  element_expr : IsExactAt mode (g.Expr depth high L) (g.Expr (suc deep) unlimited U) (r.expr depth high P) (λ _. element_go)
  unfolding same_sign same_keyword
  element_expr = exact_weaken (λ _. element_covers (go 11) (λ t e. rw e refl) (λ t e. rw e refl)) expr

  element_clauses : (c : GrownClauses) → IsExactAt mode (g.Clauses depth high L c) (g.Clauses (suc deep) unlimited U c) (r.clauses depth high P c) (λ _. element_go)
  unfolding same_sign same_keyword
  element_clauses c = exact_weaken (λ _. element_covers (go 1) (λ t e. rw e refl) (λ t e. rw e refl)) (exact_clauses c)

  exact_pointer : (name : Name) → IsExactAt mode (g.Pointer depth high L name) (g.Pointer (suc deep) unlimited U name) (r.pointer depth high P name) (λ _. element_go)
  unfolding r.pointer same_sign same_keyword
  exact_pointer name =
      exact_choose
      (lead (some_sign sign.Colon)
      (λ _. exact_then (exact_shape mode depth deep high L U P h {on = λ _. never} (λ e. e) free) (λ found. exact_map (t.nested name found) (element_clauses (t.no_clauses found.shape.span.end found.height))) (λ found. avoids_none)))
      (exact_choose (lead (some_sign sign.Assign) (λ _. exact_map (t.computed name.span.start t.no_qualifiers name) element_expr)) (exact_pure (t.pointer name)) (begins_then (begins_one_mark (ASign sign.Assign) (λ t e. rw e refl))) (avoids_empty _ (covers_mark (ASign sign.Assign) {set = element_go} (λ t e. rw e refl))))
      (begins_then (begins_one_mark (ASign sign.Colon) (λ t e. rw e refl)))
      (avoids_either (avoids_one_mark (ASign sign.Assign) (λ t e. rw e refl)) (avoids_empty _ (covers_mark (ASign sign.Colon) {set = element_go} (λ t e. rw e refl))))

  Qualified_element : Lang Token GrownElement
  Qualified_element = Then (g.Words depth high L) (λ words. Then (One name_of) (λ name. Then (One (sign_of sign.Assign)) (λ _. Then (g.Expr depth high L) (λ x. Empty (t.computed words.start words.qualifiers name x)))))

  qualified_begins : Begins (r.is_qualifier depth high P) Qualified_element
  unfolding Qualified_element
  qualified_begins = begins_then words_begin

  pub exact_element : IsExactAt mode (g.Element depth high L) (g.Element (suc deep) unlimited U) (r.element depth high P) (λ _. element_go)
  unfolding r.element same_sign same_keyword
  exact_element =
      exact_choose
      (lead (some_sign sign.Star)
      (λ at. exact_choose (lead (some_sign sign.Star) (λ next. exact_pure (t.double_splat at next))) (exact_pure (t.splat at)) (begins_then (begins_one_mark (ASign sign.Star) (λ t e. rw e refl))) (avoids_empty _ (covers_mark (ASign sign.Star) {set = element_go} (λ t e. rw e refl)))))
      (exact_choose (lead (some_sign sign.At) (λ at. exact_lead name_of some_name.token some_name.name some_name.known (λ name. exact_pure (t.link_property at name))))
      (exact_choose
      (exact_then exact_words
      (λ words. exact_lead name_of some_name.token some_name.name some_name.known (λ name. lead (some_sign sign.Assign) (λ _. exact_map (t.computed words.start words.qualifiers name) element_expr)))
      (λ words. avoids_begins (begins_then names_begin) (at_name (λ o. (λ t e. ap (λ d. got (either_at keyword.Single (wide width.Single t) keyword.Multi (wide width.Multi t) d)) e)))))
      (exact_lead name_of some_name.token some_name.name some_name.known (λ name. exact_pointer name))
      (begins_then words_begin)
      (avoids_begins (begins_then names_begin) (at_name (λ o. (λ t e. ap (λ d. got (either_at keyword.Required (needed need.Required t) keyword.Optional (needed need.Optional t) d) || got (either_at keyword.Single (wide width.Single t) keyword.Multi (wide width.Multi t) d)) e)))))
      (begins_then (begins_one_mark (ASign sign.At) (λ t e. rw e refl)))
      (avoids_either (avoids_begins (begins_then words_begin) (qualifier_out (λ t e. rw e refl) (λ t e. rw e refl) (λ t e. rw e refl) (λ t e. rw e refl))) (avoids_begins (begins_then names_begin) (at_name (λ o. (λ t e. rw e refl))))))
      (begins_then (begins_one_mark (ASign sign.Star) (λ t e. rw e refl)))
      (avoids_either (avoids_one_mark (ASign sign.At) (λ t e. rw e refl)) (avoids_either (avoids_begins (begins_then words_begin) (qualifier_out (λ t e. rw e refl) (λ t e. rw e refl) (λ t e. rw e refl) (λ t e. rw e refl))) (avoids_begins (begins_then names_begin) (at_name (λ o. (λ t e. rw e refl))))))

  pub element_begins : Begins (inside (is_sign sign.RightBrace)) (g.Element depth high L)
  unfolding same_sign same_keyword
  element_begins =
      begins_either (begins_then (begins_one_mark (ASign sign.Star) (λ t e. rw e refl))) (begins_either (begins_then (begins_one_mark (ASign sign.At) (λ t e. rw e refl))) (begins_either (begins_then (begins_in (qualifier_out (λ t e. rw e refl) (λ t e. rw e refl) (λ t e. rw e refl) (λ t e. rw e refl)) words_begin)) (begins_then (begins_name (λ o. (λ t e. rw e refl))))))

  -- ---- statements

  exact_alias : IsExactAt mode (g.Alias depth high L) (g.Alias (suc deep) unlimited U) (r.alias depth high P) (λ _. go 11)
  unfolding r.alias
  exact_alias = exact_lead name_of some_name.token some_name.name some_name.known (λ name. lead (some_sign sign.Assign) (λ _. exact_map (t.alias_of name) expr))

  exact_aliases : IsExactAt mode (g.Aliases depth high L) (g.Aliases (suc deep) unlimited U) (r.aliases depth high P) (λ _. inside ends_aliases)
  unfolding r.aliases same_sign same_keyword
  exact_aliases =
      lead word_With
      (λ at. exact_items ends_aliases (λ all. refl) (a_sign sign.Comma) some_comma exact_alias (begins_then (begins_name (λ o. (λ t e. rw e refl)))) comma_some (aliases_cover (is_sign sign.Comma) (λ t e. rw e refl) (λ t e. rw e refl)) (at_mark (ASign sign.Comma) {set = go 11} (λ t e. rw e refl)) (aliases_cover (go 11) (λ t e. rw e refl) (λ t e. rw e refl)))

  exact_for : (before : With) → IsExactAt mode (g.For depth high L before) (g.For (suc deep) unlimited U before) (r.for_union depth high P before) on_opening
  unfolding r.for_union same_sign same_keyword
  exact_for before =
      behind word_For refl
      (λ at. exact_lead name_of some_name.token some_name.name some_name.known
      (λ variable. lead word_In
      (λ _. exact_then (exact_post mode depth deep high L U P h) (λ iterator. behind word_Union refl (λ _. exact_pure (opens.For (t.headed before at variable iterator)))) (λ iterator. (avoids_mark (Reserved keyword.Union) (λ t e. rw e refl))))))

  exact_select : (before : With) → IsExactAt mode (g.Select depth high L before) (g.Select (suc deep) unlimited U before) (r.select depth high P before) on_opening
  unfolding r.select
  exact_select before =
      behind word_Select refl
      (λ at. exact_then expr
      (λ subject. exact_map {go = on_opening} (λ c. opens.Select (t.selected before at subject c)) (exact_clauses (t.no_clauses (span_of subject.expr).end subject.height)))
      (λ subject. avoids_then (clauses_avoid (t.no_clauses (span_of subject.expr).end subject.height)) (λ c. avoids_empty (opens.Select (t.selected before at subject c)) (tighter 1 11 (omega arith)))))

  exact_opens : IsExactAt mode (g.Opens depth high L) (g.Opens (suc deep) unlimited U) (r.opens depth high P) on_opening
  unfolding r.opens same_sign same_keyword
  exact_opens =
      exact_choose
      (exact_then exact_aliases
      (λ before. exact_choose (exact_for before) (exact_select before) (begins_then (begins_mark (Reserved keyword.For) (λ t e. rw e refl))) (avoids_mark (Reserved keyword.Select) (λ t e. rw e refl)))
      (λ before. avoids_either (avoids_mark (Reserved keyword.For) (λ t e. rw e refl)) (avoids_mark (Reserved keyword.Select) (λ t e. rw e refl))))
      (exact_choose (exact_for t.no_aliases) (exact_select t.no_aliases) (begins_then (begins_mark (Reserved keyword.For) (λ t e. rw e refl))) (avoids_mark (Reserved keyword.Select) (λ t e. rw e refl)))
      (begins_then (begins_then (begins_one_mark (Reserved keyword.With) (λ t e. rw e refl))))
      (avoids_either (avoids_mark (Reserved keyword.For) (λ t e. rw e refl)) (avoids_mark (Reserved keyword.Select) (λ t e. rw e refl)))

  opens_begin : Begins is_statement (g.Opens depth high L)
  unfolding same_sign same_keyword
  opens_begin = begins_either (begins_then (begins_then (begins_one_mark (Reserved keyword.With) (λ t e. rw e refl)))) (begins_either (begins_then (begins_mark (Reserved keyword.For) (λ t e. rw e refl))) (begins_then (begins_mark (Reserved keyword.Select) (λ t e. rw e refl))))

  exact_turn : (heads : Heads) → IsExactAt mode (g.Turn depth high L heads) (g.Turn (suc deep) unlimited U heads) (r.turn depth high P heads) on_turn
  unfolding r.turn
  exact_turn heads =
      exact_choose {go = on_turn}
      (exact_map {go = on_turn} (turned heads) (exact_weaken {less = on_opening} (on_turned heads) exact_opens))
      (exact_map {go = on_turn} (λ x. Done (nest.For heads (body.Expr x))) (expr_to 1 (omega arith)))
      (begins_then opens_begin)
      (avoids_begins (begins_then begins) starts_no_statement)

  none_read : r.expr depth high P [] ≡ Stop Unexpected []
  unfolding r.expr r.choice loop_from
  none_read = refl

  at_end : (heads : Heads) (next : Heads → Reader Token Nest) → refuse Unexpected [] ≡ and_then (r.turn depth high P heads []) (onward next)
  unfolding r.turn
  at_end heads next = ap (λ (o : Outcome Token GrownExpr). and_then (and_then o (λ x ts. Got (Done (nest.For heads (body.Expr x))) ts)) (onward next)) (sym none_read)

  turn_long : (n : ℕ) (heads : Heads) (x : List Token) (more : Heads) → g.Turn depth high L heads n x (More more) → 0 < length x
  turn_long n heads x more l = begins_long _ x ((begins_or (begins_then opens_begin) (begins_then begins)).at n x (More more) l)

  some_inside : HasText mode → (heads : Heads) → Inhabited (Loop (g.Turn depth high L) heads)
  some_inside text heads =
      let x = expr.some text in
      some_turn (g.Turn depth high L) heads (x.text ++ []) (Done (nest.For heads (body.Expr x.value))) (inr (mapped (λ x. Done (nest.For heads (body.Expr x))) x))
      (record { text = []; value = nest.For heads (body.Expr x.value); spelled = (refl, refl) })

  exact_inside : (heads : Heads) → IsExactAt mode (Loop (g.Turn depth high L) heads) (Loop (g.Turn (suc deep) unlimited U) heads) (r.inside_for depth high P heads) (λ _. go 1)
  unfolding r.inside_for
  exact_inside heads = exact_loop_with {inner = on_turn} (λ heads. refuse Unexpected) exact_turn at_end turn_long (λ b. avoids_none) (λ x t e. e) some_inside heads

  exact_rest : (o : Opening) → IsExactAt mode (g.Rest depth high L o) (g.Rest (suc deep) unlimited U o) (r.rest depth high P o) (λ _. go 1)
  unfolding r.rest
  exact_rest (opens.Select s) = exact_pure (nest.Select s)
  exact_rest (opens.For head) = exact_inside (t.outermost head)

  rest_avoids : (o : Opening) → Avoids (on_opening o) (g.Rest depth high L o) (λ _. go 1)
  rest_avoids (opens.Select s) = avoids_empty (nest.Select s) (λ t e. e)
  rest_avoids (opens.For head) = avoids_none

  pub exact_statement : IsExactAt mode (g.Statement depth high L) (g.Statement (suc deep) unlimited U) (r.statement depth high P) (λ _. go 1)
  unfolding r.statement
  exact_statement = exact_then {go = on_opening} exact_opens exact_rest rest_avoids

  pub statement_begins : Begins is_statement (g.Statement depth high L)
  statement_begins = begins_then opens_begin
