-- The readers of cores and selects are exact for the grammar.
use Rattle.std.proofs.Common.{◌≡◌, ℕ, suc, ◌≤◌, Bool, true, false, ◌==◌, codes, refl, ap, arith}
use Rattle.std.proofs.Math.Dec.{eqb-suc-zero}
use Rattle.sql_lex.specs.declared.token.Token.{Token}
use Rattle.sql_lex.specs.declared.token.Sign.TheVariants as sign
use Rattle.sql_lex.specs.declared.keyword.Keyword.TheVariants as keyword
use Rattle.ev_list.specs.declared.order.Direction.TheVariants as direction
use Rattle.ev_list.specs.declared.order.Absent.TheVariants as absent
use Rattle.sql_grammar.specs.declared.class.Class.TheVariants.{Word, Sign as ASign}
use Rattle.sql_grammar.specs.declared.grown.GrownCore.{GrownCore}
use Rattle.sql_grammar.specs.Words.{is_sign, is_word, same_sign, same_keyword, same_start, class_of, name_of, name_at, text_in, direction_of, absent_of}
use Rattle.sql_grammar.specs.Trees as t
use Rattle.sql_grammar.specs.Trees.{unlimited}
use Rattle.sql_grammar.specs.Grammar as g
use Rattle.sql_grammar.specs.Readers as r
use Rattle.exact.specs.Language.{Then}
use Rattle.exact.specs.Reading.{has}
use Rattle.exact.proofs.Heads.{Begins, Avoids, never, begins_then, begins_either, avoids_begins, avoids_begun, avoids_none, avoids_empty, avoids_either, avoids_then, avoids_chain}
use Rattle.exact.proofs.Laws.{Mode, lowered, IsExactAt, exact_pure, exact_one, exact_then, exact_map, exact_lead, exact_choose, exact_chain, exact_weaken}
use Rattle.sql_grammar.proofs.Sets.{At, a_name, a_word, at_mark, avoids_one_mark, begins_has, begins_one_mark, covers_mark, from, direction_apart, go, got, lacks_mark, lead, or_false, or_one, or_other, some_sign, some_word, tighter}
use Rattle.sql_grammar.proofs.Exprs.{Known, list_go, exact_commas, exact_sub, exact_within, exact_expr, expr_begins}

module _ (mode : Mode) (depth deep : ℕ) (high : ℕ → Bool) (L U : g.Inner) (P : r.Inner) (h : Known (lowered (depth == 0) mode) L U P) where
  free : (suc deep == 0) ≡ false
  free = eqb-suc-zero deep

  expr : IsExactAt mode (g.Expr depth high L) (g.Expr (suc deep) unlimited U) (r.expr depth high P) (λ _. go 11)
  expr = exact_expr mode depth deep high L U P h

  -- an expression, before what is looser
  expr_to : (least : ℕ) → least ≤ 11 → IsExactAt mode (g.Expr depth high L) (g.Expr (suc deep) unlimited U) (r.expr depth high P) (λ _. go least)
  expr_to least le = exact_weaken (λ _. tighter least 11 le) expr

  sub : IsExactAt mode (g.Sub depth high L) (g.Sub (suc deep) unlimited U) (r.sub depth high P) (λ _. never)
  sub = exact_sub mode depth deep high L U P h

  within : IsExactAt mode (g.Within depth high L) (g.Within (suc deep) unlimited U) (r.within_parens depth high P) (λ _. never)
  within = exact_within mode depth deep high L U P h

  exact_alias : IsExactAt mode (g.Alias depth high L) (g.Alias (suc deep) unlimited U) (r.alias_name depth high P) (λ _. never)
  unfolding r.alias_name r.opening same_sign same_keyword same_start class_of
  exact_alias = lead (some_word keyword.As) (λ _. exact_one name_of a_name (record { text = codes "n"; start = 0 }) refl)

  exact_column : IsExactAt mode (g.ColumnOf depth high L) (g.ColumnOf (suc deep) unlimited U) (r.column_of depth high P) (λ _. never)
  unfolding r.column_of r.opening same_sign same_keyword same_start
  exact_column = exact_then expr (λ x. exact_map (t.named_column x) exact_alias) (λ x. avoids_begun (begins_then (begins_then (begins_one_mark (Word keyword.As) (λ t e. rw e refl)))))

  exact_distinct : IsExactAt mode (g.Distinct depth high L) (g.Distinct (suc deep) unlimited U) (r.distinct_word depth high P) (λ _. is_word keyword.Distinct)
  unfolding r.distinct_word r.opening same_sign same_keyword same_start
  exact_distinct = exact_choose (lead (some_word keyword.Distinct) (λ _. exact_pure true)) (exact_pure false) (begins_then (begins_one_mark (Word keyword.Distinct) (λ t e. rw e refl))) (avoids_empty false (λ t e. e))

  exact_columns : IsExactAt mode (g.Columns depth high L) (g.Columns (suc deep) unlimited U) (r.columns depth high P) (λ _. go 9)
  unfolding r.columns r.opening same_sign same_keyword same_start
  exact_columns =
      lead (some_word keyword.Select) (λ start. exact_then exact_distinct
      (λ distinct. exact_weaken (λ _. or_covers) (exact_commas exact_column (λ t e. refl)))
      (λ distinct. avoids_begins (begins_then (begins_then (expr_begins mode depth deep high L U P h))) (lacks_mark (Word keyword.Distinct) {set = from 1} (λ t e. rw e refl))))
    where
      or_covers : (t : Token) → go 9 t ≡ false → list_go never t ≡ false
      or_covers t e = or_false (covers_mark (ASign sign.Comma) {set = go 9} (λ t e. rw e refl) t e) refl

  -- ---- items

  exact_table_item : IsExactAt mode (g.TableItem depth high L) (g.TableItem (suc deep) unlimited U) (r.item_of_table depth high P) (λ _. never)
  unfolding r.item_of_table r.opening same_sign same_keyword same_start class_of
  exact_table_item = exact_lead name_of a_name (record { text = codes "n"; start = 0 }) refl (λ table. exact_map (t.table_item table) exact_alias)

  exact_lateral_item : IsExactAt mode (g.LateralItem depth high L) (g.LateralItem (suc deep) unlimited U) (r.item_of_lateral depth high P) (λ _. never)
  unfolding r.item_of_lateral r.opening same_sign same_keyword same_start
  exact_lateral_item = lead (some_word keyword.Lateral) (λ _. exact_then sub (λ s. exact_map (t.lateral_item s) exact_alias) (λ s. avoids_none))

  exact_unnest_item : IsExactAt mode (g.UnnestItem depth high L) (g.UnnestItem (suc deep) unlimited U) (r.item_of_unnest depth high P) (λ _. never)
  unfolding r.item_of_unnest r.opening same_sign same_keyword same_start
  exact_unnest_item = lead (some_word keyword.Unnest) (λ _. exact_then within (λ x. exact_map (t.unnest_item x) exact_alias) (λ x. avoids_none))

  exact_item : IsExactAt mode (g.Item depth high L) (g.Item (suc deep) unlimited U) (r.item depth high P) (λ _. never)
  unfolding r.item r.opening same_sign same_keyword same_start
  exact_item = exact_choose exact_table_item (exact_choose exact_lateral_item exact_unnest_item (begins_then (begins_one_mark (Word keyword.Lateral) (λ t e. rw e refl))) (avoids_one_mark (Word keyword.Unnest) (λ t e. rw e refl))) (begins_then (begins_has name_of (λ t e. e))) (avoids_either (avoids_one_mark (Word keyword.Lateral) (λ t e. ap (λ d. got (name_at d (text_in t.kind) t.start)) e)) (avoids_one_mark (Word keyword.Unnest) (λ t e. ap (λ d. got (name_at d (text_in t.kind) t.start)) e)))

  exact_left_item : IsExactAt mode (g.LeftItem depth high L) (g.LeftItem (suc deep) unlimited U) (r.item_of_left depth high P) (λ _. never)
  unfolding r.item_of_left r.opening same_sign same_keyword same_start
  exact_left_item = lead (some_word keyword.Left) (λ _. lead (some_word keyword.Join) (λ _. lead (some_word keyword.Lateral) (λ _. exact_then sub (λ s. exact_then exact_alias (λ alias. lead (some_word keyword.On) (λ _. lead (some_word keyword.True) (λ _. exact_pure (t.left_item s alias)))) (λ alias. avoids_none)) (λ s. avoids_none))))

  exact_further_item : IsExactAt mode (g.FurtherItem depth high L) (g.FurtherItem (suc deep) unlimited U) (r.further_item depth high P) (λ _. never)
  unfolding r.further_item r.opening same_sign same_keyword same_start
  exact_further_item = exact_choose (lead (some_sign sign.Comma) (λ _. exact_item)) exact_left_item (begins_then (begins_one_mark (ASign sign.Comma) (λ t e. rw e refl))) (avoids_one_mark (Word keyword.Left) (λ t e. rw e refl))

  items_begin : Begins r.goes_on_items (g.FurtherItem depth high L)
  unfolding same_sign same_keyword
  items_begin = begins_either (begins_then (begins_one_mark (ASign sign.Comma) (λ t e. or_one (is_sign sign.Comma t) (is_word keyword.Left t) (rw e refl)))) (begins_then (begins_one_mark (Word keyword.Left) (λ t e. or_other (is_sign sign.Comma t) (is_word keyword.Left t) (rw e refl))))

  items_covered : (t : Token) → go 7 t ≡ false → r.goes_on_items t ≡ false
  unfolding same_sign same_keyword
  items_covered t e = or_false (covers_mark (ASign sign.Comma) {set = go 7} (λ t e. rw e refl) t e) (covers_mark (Word keyword.Left) {set = go 7} (λ t e. rw e refl) t e)

  exact_from : (c : GrownCore) → IsExactAt mode (g.From depth high L c) (g.From (suc deep) unlimited U c) (r.from_items depth high P c) (λ _. go 7)
  unfolding r.from_items same_sign same_keyword
  exact_from c =
      exact_choose
      (lead (some_word keyword.From)
      (λ _. exact_then exact_item
      (λ first. exact_chain {go = go 7} {inner = never} (λ all. exact_map (t.with_item all) exact_further_item) (λ all. begins_then items_begin) (λ t e. refl) items_covered (λ t e. refl) (t.with_item c first))
      (λ first. avoids_none)))
      (exact_pure c) (begins_then (begins_one_mark (Word keyword.From) (λ t e. rw e refl))) (avoids_empty c (covers_mark (Word keyword.From) {set = go 7} (λ t e. rw e refl)))

  -- ---- clauses

  exact_where : (c : GrownCore) → IsExactAt mode (g.Where depth high L c) (g.Where (suc deep) unlimited U c) (r.where_clause depth high P c) (λ _. go 6)
  unfolding r.where_clause same_sign same_keyword
  exact_where c = exact_choose (lead (some_word keyword.Where) (λ _. exact_map (t.with_condition c) (expr_to 6 (omega arith)))) (exact_pure c) (begins_then (begins_one_mark (Word keyword.Where) (λ t e. rw e refl))) (avoids_empty c (covers_mark (Word keyword.Where) {set = go 6} (λ t e. rw e refl)))

  exact_key : IsExactAt mode (g.KeyOf depth high L) (g.KeyOf (suc deep) unlimited U) (r.key depth high P) (λ _. never)
  unfolding r.key r.opening same_sign same_keyword same_start class_of
  exact_key =
      exact_then expr
      (λ x. exact_lead direction_of (a_word keyword.Asc) direction.Ascending refl
      (λ way. lead (some_word keyword.Nulls) (λ _. exact_lead absent_of (a_word keyword.First) absent.First refl (λ nulls. exact_pure (t.key_of x way nulls)))))
      (λ x. avoids_begins (begins_then (begins_has direction_of (λ t e. e))) directions)
    where
      directions : (t : Token) → has direction_of t ≡ true → go 11 t ≡ false
      directions t e = direction_apart t e

  keys_covered : (t : Token) → go 4 t ≡ false → list_go never t ≡ false
  unfolding same_sign same_keyword
  keys_covered t e = or_false (covers_mark (ASign sign.Comma) {set = go 4} (λ t e. rw e refl) t e) refl

  exact_order : (c : GrownCore) → IsExactAt mode (g.Order depth high L c) (g.Order (suc deep) unlimited U c) (r.order depth high P c) (λ _. go 4)
  unfolding r.order same_sign same_keyword
  exact_order c = exact_choose (lead (some_word keyword.Order) (λ _. lead (some_word keyword.By) (λ _. exact_weaken (λ _. keys_covered) (exact_commas exact_key (λ t e. refl))))) (exact_pure c) (begins_then (begins_one_mark (Word keyword.Order) (λ t e. rw e refl))) (avoids_empty c (covers_mark (Word keyword.Order) {set = go 4} (λ t e. rw e refl)))

  exact_offset : (c : GrownCore) → IsExactAt mode (g.Offset depth high L c) (g.Offset (suc deep) unlimited U c) (r.offset depth high P c) (λ _. go 3)
  unfolding r.offset same_sign same_keyword
  exact_offset c = exact_choose (lead (some_word keyword.Offset) (λ _. exact_map (t.with_offset c) (expr_to 3 (omega arith)))) (exact_pure c) (begins_then (begins_one_mark (Word keyword.Offset) (λ t e. rw e refl))) (avoids_empty c (covers_mark (Word keyword.Offset) {set = go 3} (λ t e. rw e refl)))

  exact_limit : (c : GrownCore) → IsExactAt mode (g.Limit depth high L c) (g.Limit (suc deep) unlimited U c) (r.limit depth high P c) (λ _. go 2)
  unfolding r.limit same_sign same_keyword
  exact_limit c = exact_choose (lead (some_word keyword.Limit) (λ _. exact_map (t.with_limit c) (expr_to 2 (omega arith)))) (exact_pure c) (begins_then (begins_one_mark (Word keyword.Limit) (λ t e. rw e refl))) (avoids_empty c (covers_mark (Word keyword.Limit) {set = go 2} (λ t e. rw e refl)))

  limit_avoids : (k : ℕ) → 2 ≤ k → At (Word keyword.Limit) (go k) false → (c : GrownCore) → Avoids (go k) (g.Limit depth high L c) (λ _. go 2)
  limit_avoids k le out c = avoids_either (avoids_one_mark (Word keyword.Limit) out) (avoids_empty c (tighter 2 k le))

  offset_avoids : (k : ℕ) → 2 ≤ k → At (Word keyword.Offset) (go k) false → At (Word keyword.Limit) (go k) false → (c : GrownCore) → Avoids (go k) (Then (g.Offset depth high L c) (λ d. g.Limit depth high L d)) (λ _. go 2)
  offset_avoids k le out limit c = avoids_then (avoids_either (avoids_one_mark (Word keyword.Offset) out) (avoids_empty c (λ t e. e))) (λ d. limit_avoids k le limit d)

  order_avoids : (k : ℕ) → 2 ≤ k → At (Word keyword.Order) (go k) false → At (Word keyword.Offset) (go k) false → At (Word keyword.Limit) (go k) false → (c : GrownCore)
      → Avoids (go k) (Then (g.Order depth high L c) (λ d. Then (g.Offset depth high L d) (λ e. g.Limit depth high L e))) (λ _. go 2)
  order_avoids k le out offset limit c = avoids_then (avoids_either (avoids_one_mark (Word keyword.Order) out) (avoids_empty c (λ t e. e))) (λ d. offset_avoids k le offset limit d)

  where_avoids : (k : ℕ) → 2 ≤ k → At (Word keyword.Where) (go k) false → At (Word keyword.Order) (go k) false → At (Word keyword.Offset) (go k) false → At (Word keyword.Limit) (go k) false → (c : GrownCore)
      → Avoids (go k) (Then (g.Where depth high L c) (λ b. Then (g.Order depth high L b) (λ d. Then (g.Offset depth high L d) (λ e. g.Limit depth high L e)))) (λ _. go 2)
  where_avoids k le out order offset limit c = avoids_then (avoids_either (avoids_one_mark (Word keyword.Where) out) (avoids_empty c (λ t e. e))) (λ d. order_avoids k le order offset limit d)

  from_avoids : (c : GrownCore) → Avoids (go 9) (Then (g.From depth high L c) (λ a. Then (g.Where depth high L a) (λ b. Then (g.Order depth high L b) (λ d. Then (g.Offset depth high L d) (λ e. g.Limit depth high L e))))) (λ _. go 2)
  unfolding same_sign same_keyword
  from_avoids c = avoids_then (avoids_either {go = λ _. go 9} (avoids_one_mark (Word keyword.From) (λ t e. rw e refl)) (avoids_empty c (λ t e. e))) (λ d. where_avoids 9 (omega arith) (λ t e. rw e refl) (λ t e. rw e refl) (λ t e. rw e refl) (λ t e. rw e refl) d)

  exact_core : IsExactAt mode (g.CoreOf depth high L) (g.CoreOf (suc deep) unlimited U) (r.core_of depth high P) (λ _. go 2)
  unfolding r.core_of r.opening same_sign same_keyword same_start
  exact_core =
      exact_then exact_columns
      (λ a. exact_then (exact_from a) (λ b. exact_then (exact_where b) (λ c. exact_then (exact_order c) (λ d. exact_then (exact_offset d) (λ e. exact_limit e)
      (λ e. limit_avoids 3 (omega arith) (λ t e. rw e refl) e)) (λ d. offset_avoids 4 (omega arith) (λ t e. rw e refl) (λ t e. rw e refl) d)) (λ c. order_avoids 6 (omega arith) (λ t e. rw e refl) (λ t e. rw e refl) (λ t e. rw e refl) c)) (λ b. where_avoids 7 (omega arith) (λ t e. rw e refl) (λ t e. rw e refl) (λ t e. rw e refl) (λ t e. rw e refl) b))
      from_avoids

  exact_further_core : IsExactAt mode (g.FurtherCore depth high L) (g.FurtherCore (suc deep) unlimited U) (r.further_core depth high P) (λ _. go 2)
  unfolding r.further_core r.opening same_sign same_keyword same_start
  exact_further_core = lead (some_word keyword.Union) (λ _. lead (some_word keyword.All) (λ _. exact_core))

  exact_cores : IsExactAt mode (g.CoresOf depth high L) (g.CoresOf (suc deep) unlimited U) (r.cores_of depth high P) (λ _. go 1)
  unfolding r.cores_of r.opening same_sign same_keyword same_start
  exact_cores =
      exact_then exact_core
      (λ first. exact_chain {go = go 1} {inner = go 2} (λ all. exact_map (t.added_core all) exact_further_core) (λ all. begins_then (begins_then (begins_one_mark (Word keyword.Union) (λ t e. rw e refl))))
      (at_mark (Word keyword.Union) {set = go 2} (λ t e. rw e refl)) (covers_mark (Word keyword.Union) {set = go 1} (λ t e. rw e refl)) (tighter 1 2 (omega arith)) (t.first_core first))
      (λ first. avoids_chain (λ all. avoids_begun (begins_then (begins_then (begins_one_mark (Word keyword.Union) (λ t e. rw e refl))))) (λ _. tighter 1 2 (omega arith)) (t.first_core first))

  pub exact_select : IsExactAt mode (g.Sel depth high L) (g.Sel (suc deep) unlimited U) (r.sel depth high P) (λ _. go 1)
  unfolding r.sel r.opening same_sign same_keyword same_start
  exact_select = exact_map t.select_of exact_cores
