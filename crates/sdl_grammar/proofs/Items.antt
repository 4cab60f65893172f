-- The readers of values, annotations and items are exact for the grammar.
use Rattle.std.proofs.Common.{ℕ, Bool, true, false, List, [], Some, refl}
use Rattle.ev_lex.specs.declared.token.Token.{Token}
use Rattle.ev_lex.specs.declared.token.Sign.TheVariants as sign
use Rattle.ev_lex.specs.declared.keyword.Keyword.TheVariants as keyword
use Rattle.ast.specs.declared.name.Name.{Name}
use Rattle.eql_grammar.specs.declared.class.Class.TheVariants.{Sign as ASign, Reserved, Named}
use Rattle.eql_grammar.specs.declared.grown.Bunch.{Bunch}
use Rattle.eql_grammar.specs.declared.grown.GrownExpr.{GrownExpr}
use Rattle.eql_grammar.specs.Words.{is_sign, is_word, same_sign, same_keyword, name_of}
use Rattle.eql_grammar.specs.Trees.{unlimited, nothing_yet, alone, added}
use Rattle.eql_grammar.proofs.Sets.{At, at_mark, avoids_mark, avoids_one_mark, begins_mark, begins_name, begins_one_mark, behind, closes_mark, go, lacks_mark, lead, list_go, or_left, or_right, some_name, some_sign}
use Rattle.exact.specs.Language.{Lang}
use Rattle.exact.specs.Reading.{Reader, inside}
use Rattle.exact.proofs.Heads.{Begins, never, begins_then, begins_either, avoids_begun, avoids_empty, avoids_none, avoids_chain, avoids_then}
use Rattle.exact.proofs.Laws.{Open, IsExactAt, exact_pure, exact_then, exact_map, exact_lead, exact_choose, exact_chain, exact_alike}
use Rattle.sdl_ast.specs.declared.member.Annotation.{Annotation}
use Rattle.sdl_ast.specs.declared.item.Item.{Item}
use Rattle.sdl_ast.specs.declared.member.PointerKind.TheVariants as pointer_kind
use Rattle.sdl_ast.specs.declared.item.Item.TheVariants as item
use Rattle.sdl_ast.specs.declared.item.DeletionWord.TheVariants as deletion_word
use Rattle.sdl_grammar.specs.declared.form.ItemForm.{ItemForm}
use Rattle.sdl_grammar.specs.declared.form.ItemForm.TheVariants as item_form
use Rattle.sdl_grammar.specs.declared.part.Quals.{Quals}
use Rattle.sdl_grammar.specs.declared.part.PointerHead.{PointerHead}
use Rattle.sdl_grammar.specs.Words.{item_word_of, goes_on}
use Rattle.sdl_grammar.specs.Trees as t
use Rattle.sdl_grammar.specs.Grammar as g
use Rattle.sdl_grammar.proofs.ByWord as b
use Rattle.sdl_grammar.proofs.Alike.{begins_alike}
use Rattle.sdl_grammar.proofs.SameItems.{item_alike}
use Rattle.sdl_grammar.specs.Readers as r
use Rattle.sdl_grammar.proofs.Sets.{begins_item_word, close_avoids, exact_close, exact_typed, exact_words, names_no_words, some_item_word, typed_begins, word_Annotation, word_Constraint, word_Delete, word_Target, words_begin, words_first}

module _ (high : ℕ → Bool) (L U : Lang Token GrownExpr) (P : Reader Token GrownExpr) (h : IsExactAt Open L U P (λ _. go 11)) where
  -- ---- expressions, and what stands behind them

  pub exact_value : {on : _ → Token → Bool} → IsExactAt Open (g.Value high L) (g.Value unlimited U) (r.value high P) on
  unfolding r.value same_sign same_keyword
  exact_value = exact_then h (λ x. behind (some_sign sign.Semicolon) refl (λ at. exact_pure (t.ended x at))) (λ x. avoids_mark (ASign sign.Semicolon) (λ t e. rw e refl))

  pub exact_enclosed : {on : _ → Token → Bool} → IsExactAt Open (g.Enclosed high L) (g.Enclosed unlimited U) (r.enclosed high P) on
  unfolding r.enclosed same_sign same_keyword
  exact_enclosed =
      lead (some_sign sign.LeftParen)
      (λ _. exact_then h (λ x. behind (some_sign sign.RightParen) refl (λ _. exact_pure x.expr)) (λ x. avoids_mark (ASign sign.RightParen) (λ t e. rw e refl)))

  -- ---- annotations

  pub exact_annotated : {on : _ → Token → Bool} (start : ℕ) → IsExactAt Open (g.Annotated high L start) (g.Annotated unlimited U start) (r.annotated high P start) on
  unfolding r.annotated
  exact_annotated start = exact_lead name_of some_name.token some_name.name some_name.known (λ name. lead (some_sign sign.Assign) (λ _. exact_map (t.annotation start name) exact_value))

  exact_annotations : (all : List Annotation) → IsExactAt Open (g.Annots high L all) (g.Annots unlimited U all) (r.annotations high P all) (λ _. is_word keyword.Annotation)
  unfolding r.annotations same_keyword
  exact_annotations all =
      exact_chain {go = is_word keyword.Annotation} {inner = never} (λ all. lead word_Annotation (λ at. exact_map (t.behind all) (exact_annotated at.start)))
      (λ all. begins_then (begins_one_mark (Named (Some keyword.Annotation)) (λ t e. rw e refl))) (λ t e. refl) (λ t e. e) (λ t e. refl) all

  pub exact_notes : IsExactAt Open (g.Notes high L) (g.Notes unlimited U) (r.notes high P) (λ _. is_sign sign.Semicolon)
  unfolding r.notes same_sign same_keyword
  exact_notes =
      exact_choose
      (lead (some_sign sign.LeftBrace) (λ _. exact_then (exact_annotations []) (λ all. exact_map (t.notes all) exact_close) (λ all. close_avoids (λ t e. rw e refl))))
      (lead (some_sign sign.Semicolon) (λ at. exact_pure (t.notes [] at.end)))
      (begins_then (begins_one_mark (ASign sign.LeftBrace) (λ t e. rw e refl)))
      (avoids_one_mark (ASign sign.Semicolon) (λ t e. rw e refl))

  pub notes_begin : {first : Token → Bool} → At (ASign sign.LeftBrace) first true → At (ASign sign.Semicolon) first true → Begins first (g.Notes high L)
  notes_begin a b = begins_either (begins_then (begins_one_mark (ASign sign.LeftBrace) a)) (begins_then (begins_one_mark (ASign sign.Semicolon) b))

  -- ---- properties of links

  exact_propertied : (head : PointerHead) → IsExactAt Open (g.Propertied high L head) (g.Propertied unlimited U head) (r.propertied high P head) (λ _. is_sign sign.Semicolon)
  unfolding r.propertied same_sign same_keyword
  exact_propertied head = exact_then exact_typed (λ ty. exact_map (t.link_property head ty) exact_notes) (λ ty. avoids_begun (begins_then (notes_begin (λ t e. rw e refl) (λ t e. rw e refl))))

  propertied_begins : {first : Token → Bool} → At (ASign sign.Colon) first true → At (ASign sign.Arrow) first true → (head : PointerHead) → Begins first (g.Propertied high L head)
  propertied_begins a b head = begins_then (typed_begins a b)

  exact_property_of : (form : ItemForm) (q : Quals) (name : Name) → IsExactAt Open (b.PropertyOf high L form q name) (b.PropertyOf unlimited U form q name) (r.property_of high P form q name) (λ _. is_sign sign.Semicolon)
  unfolding r.property_of r.property_word same_sign same_keyword
  exact_property_of item_form.Property q name =
      exact_choose (exact_propertied (t.bare_head q name)) (exact_lead name_of some_name.token some_name.name some_name.known (λ own. exact_propertied (t.pointer_head q name.span.start (Some pointer_kind.Property) own)))
      (propertied_begins (λ t e. rw e refl) (λ t e. rw e refl) (t.bare_head q name))
      (avoids_begun (begins_then (begins_name (λ o t e. rw e refl))))
  exact_property_of item_form.Overloaded q name = exact_propertied (t.bare_head q name)
  exact_property_of item_form.Constraint q name = exact_propertied (t.bare_head q name)
  exact_property_of item_form.Delegated q name = exact_propertied (t.bare_head q name)
  exact_property_of item_form.Default q name = exact_propertied (t.bare_head q name)
  exact_property_of item_form.On q name = exact_propertied (t.bare_head q name)
  exact_property_of item_form.Annotation q name = exact_propertied (t.bare_head q name)
  exact_property_of item_form.Other q name = exact_propertied (t.bare_head q name)

  exact_property : (q : Quals) → IsExactAt Open (b.Property high L q) (b.Property unlimited U q) (r.property high P q) (λ _. is_sign sign.Semicolon)
  unfolding r.property
  exact_property q = exact_lead item_word_of some_item_word.token some_item_word.word some_item_word.known (λ word. exact_property_of word.form q word.name)

  -- ---- constraints and deletion

  exact_further : (all : Bunch) → IsExactAt Open (g.Further high L all) (g.Further unlimited U all) (r.further high P all) (λ _. list_go)
  unfolding r.further same_sign same_keyword
  exact_further all =
      exact_chain {go = list_go} (λ all. behind (some_sign sign.Comma) refl (λ _. exact_map (added all) h))
      (λ all. begins_then (begins_mark (ASign sign.Comma) (λ t e. rw e refl))) (at_mark (ASign sign.Comma) (λ t e. rw e refl)) (λ t. or_left (is_sign sign.Comma t) (go 11 t)) (λ t. or_right (is_sign sign.Comma t) (go 11 t)) all

  exact_arguments : {on : _ → Token → Bool} → IsExactAt Open (g.Arguments high L) (g.Arguments unlimited U) (r.arguments high P) on
  unfolding r.arguments same_sign same_keyword
  exact_arguments =
      lead (some_sign sign.LeftParen)
      (λ _. exact_then h
      (λ x. exact_then (exact_further (alone x)) (λ all. behind (some_sign sign.RightParen) refl (λ _. exact_pure all)) (λ all. avoids_mark (ASign sign.RightParen) (λ t e. rw e refl)))
      (λ x. avoids_then (avoids_chain (λ all. avoids_mark (ASign sign.Comma) (λ t e. rw e refl)) (λ _ t e. e) (alone x)) (λ all. avoids_mark (ASign sign.RightParen) (λ t e. rw e refl))))

  exact_constrained : {on : _ → Token → Bool} (start : ℕ) (delegated : Bool) → IsExactAt Open (g.Constrained high L start delegated) (g.Constrained unlimited U start delegated) (r.constrained high P start delegated) on
  unfolding r.constrained same_sign same_keyword
  exact_constrained start delegated =
      exact_lead name_of some_name.token some_name.name some_name.known
      (λ name. exact_then {go = λ _. is_sign sign.LeftParen}
      (exact_choose exact_arguments (exact_pure nothing_yet) (begins_then (begins_one_mark (ASign sign.LeftParen) (λ t e. rw e refl))) (avoids_empty nothing_yet (λ t e. e)))
      (λ all. lead (some_sign sign.Semicolon) (λ at. exact_pure (t.constraint start delegated name all at)))
      (λ all. avoids_one_mark (ASign sign.Semicolon) (λ t e. rw e refl)))

  exact_defaulted : {on : _ → Token → Bool} (start : ℕ) → IsExactAt Open (g.Defaulted high L start) (g.Defaulted unlimited U start) (r.defaulted high P start) on
  unfolding r.defaulted
  exact_defaulted start = lead (some_sign sign.Assign) (λ _. exact_map (t.default_item start) exact_value)

  exact_first_word : {on : _ → Token → Bool} → IsExactAt Open (g.FirstWord high L) (g.FirstWord unlimited U) (r.first_word high P) on
  unfolding r.first_word same_sign same_keyword
  exact_first_word =
      exact_choose (lead word_Delete (λ at. exact_pure (deletion_word.Delete at))) (exact_lead name_of some_name.token some_name.name some_name.known (λ name. exact_pure (deletion_word.Name name)))
      (begins_then (begins_one_mark (Reserved keyword.Delete) (λ t e. rw e refl)))
      (avoids_begun (begins_then (begins_name (λ o t e. rw e refl))))

  exact_names : (all : List Name) → IsExactAt Open (g.Names high L all) (g.Names unlimited U all) (r.names high P all) (λ _. inside (is_sign sign.Semicolon))
  unfolding r.names same_sign same_keyword
  exact_names all =
      exact_chain {go = inside (is_sign sign.Semicolon)} {inner = never} (λ all. exact_lead name_of some_name.token some_name.name some_name.known (λ name. exact_pure (t.behind all name)))
      (λ all. begins_then (begins_name (λ o t e. rw e refl))) (λ t e. refl) (λ t e. e) (λ t e. refl) all

  exact_deleting : {on : _ → Token → Bool} (start : ℕ) → IsExactAt Open (g.Deleting high L start) (g.Deleting unlimited U start) (r.deleting high P start) on
  unfolding r.deleting same_sign same_keyword
  exact_deleting start =
      lead word_Target
      (λ _. lead word_Delete
      (λ _. exact_then {go = λ _. never} exact_first_word
      (λ first. exact_then (exact_names []) (λ more. lead (some_sign sign.Semicolon) (λ at. exact_pure (t.deletion start first more at))) (λ more. avoids_one_mark (ASign sign.Semicolon) (λ t e. rw e refl)))
      (λ first. avoids_none)))

  -- ---- items

  exact_item_of : (form : ItemForm) (name : Name) → IsExactAt Open (b.ItemOf high L form name) (b.ItemOf unlimited U form name) (r.item_of high P form name) (λ _. is_sign sign.Semicolon)
  unfolding r.item_of r.overloaded_item r.property_word r.property_of same_sign same_keyword
  exact_item_of item_form.Overloaded name =
      exact_choose (exact_propertied (t.bare_head t.no_quals name))
      (exact_choose (exact_then exact_words (λ q. exact_property (t.qualified (t.overloaded name.span.start) q)) (λ q. avoids_begun (begins_then (begins_item_word names_no_words)))) (exact_property (t.overloaded name.span.start))
      (begins_then words_first)
      (avoids_begun (begins_then (begins_item_word names_no_words))))
      (propertied_begins (λ t e. rw e refl) (λ t e. rw e refl) (t.bare_head t.no_quals name))
      (avoids_begun (begins_either (begins_then (words_begin (λ t e. rw e refl) (λ t e. rw e refl) (λ t e. rw e refl) (λ t e. rw e refl))) (begins_then (begins_item_word (λ o t e. rw e refl)))))
  exact_item_of item_form.Property name = exact_property_of item_form.Property t.no_quals name
  exact_item_of item_form.Constraint name =
      exact_choose (exact_propertied (t.bare_head t.no_quals name)) (exact_constrained name.span.start false) (propertied_begins (λ t e. rw e refl) (λ t e. rw e refl) (t.bare_head t.no_quals name))
      (avoids_begun (begins_then (begins_name (λ o t e. rw e refl))))
  exact_item_of item_form.Delegated name =
      exact_choose (exact_propertied (t.bare_head t.no_quals name)) (lead word_Constraint (λ _. exact_constrained name.span.start true)) (propertied_begins (λ t e. rw e refl) (λ t e. rw e refl) (t.bare_head t.no_quals name))
      (avoids_one_mark (Named (Some keyword.Constraint)) (λ t e. rw e refl))
  exact_item_of item_form.Default name =
      exact_choose (exact_propertied (t.bare_head t.no_quals name)) (exact_defaulted name.span.start) (propertied_begins (λ t e. rw e refl) (λ t e. rw e refl) (t.bare_head t.no_quals name))
      (avoids_one_mark (ASign sign.Assign) (λ t e. rw e refl))
  exact_item_of item_form.On name =
      exact_choose (exact_propertied (t.bare_head t.no_quals name)) (exact_deleting name.span.start) (propertied_begins (λ t e. rw e refl) (λ t e. rw e refl) (t.bare_head t.no_quals name))
      (avoids_one_mark (Named (Some keyword.Target)) (λ t e. rw e refl))
  exact_item_of item_form.Annotation name =
      exact_choose (exact_propertied (t.bare_head t.no_quals name)) (exact_map item.Annotation (exact_annotated name.span.start)) (propertied_begins (λ t e. rw e refl) (λ t e. rw e refl) (t.bare_head t.no_quals name))
      (avoids_begun (begins_then (begins_then (begins_name (λ o t e. rw e refl)))))
  exact_item_of item_form.Other name = exact_propertied (t.bare_head t.no_quals name)

  exact_by_word : IsExactAt Open (b.ItemByWord high L) (b.ItemByWord unlimited U) (r.an_item high P) (λ _. is_sign sign.Semicolon)
  unfolding r.an_item same_sign same_keyword
  exact_by_word =
      exact_choose (exact_then exact_words (λ q. exact_property (t.qualified t.no_quals q)) (λ q. avoids_begun (begins_then (begins_item_word names_no_words))))
      (exact_lead item_word_of some_item_word.token some_item_word.word some_item_word.known (λ word. exact_item_of word.form word.name))
      (begins_then words_first)
      (avoids_begun (begins_then (begins_item_word names_no_words)))

  exact_item : IsExactAt Open (g.AnItem high L) (g.AnItem unlimited U) (r.an_item high P) (λ _. is_sign sign.Semicolon)
  exact_item = exact_alike (item_alike high L).to (item_alike high L).back (item_alike unlimited U).to exact_by_word

  by_word_begins : Begins goes_on (b.ItemByWord high L)
  unfolding same_sign same_keyword
  by_word_begins = begins_either (begins_then (words_begin (λ t e. rw e refl) (λ t e. rw e refl) (λ t e. rw e refl) (λ t e. rw e refl))) (begins_then (begins_item_word (λ o t e. rw e refl)))

  item_begins : Begins goes_on (g.AnItem high L)
  item_begins = begins_alike (item_alike high L) by_word_begins

  exact_some_items : (all : List Item) → IsExactAt Open (g.SomeItems high L all) (g.SomeItems unlimited U all) (r.some_items high P all) (λ _. inside (is_sign sign.RightBrace))
  unfolding r.some_items same_sign same_keyword
  exact_some_items all =
      exact_chain {go = inside (is_sign sign.RightBrace)} {inner = is_sign sign.Semicolon} (λ all. exact_map (t.behind all) exact_item) (λ all. begins_then item_begins)
      (lacks_mark (ASign sign.Semicolon) {set = goes_on} (λ t e. rw e refl)) (closes_mark (ASign sign.RightBrace) {set = goes_on} (λ t e. rw e refl)) (closes_mark (ASign sign.RightBrace) {set = is_sign sign.Semicolon} (λ t e. rw e refl)) all

  pub exact_items : IsExactAt Open (g.Items high L) (g.Items unlimited U) (r.items high P) (λ _. is_sign sign.Semicolon)
  unfolding r.items same_sign same_keyword
  exact_items =
      exact_choose
      (lead (some_sign sign.LeftBrace) (λ _. exact_then (exact_some_items []) (λ all. exact_map (t.items all) exact_close) (λ all. close_avoids (λ t e. rw e refl))))
      (lead (some_sign sign.Semicolon) (λ at. exact_pure (t.items [] at.end)))
      (begins_then (begins_one_mark (ASign sign.LeftBrace) (λ t e. rw e refl)))
      (avoids_one_mark (ASign sign.Semicolon) (λ t e. rw e refl))

  pub items_begin : {first : Token → Bool} → At (ASign sign.LeftBrace) first true → At (ASign sign.Semicolon) first true → Begins first (g.Items high L)
  items_begin a b = begins_either (begins_then (begins_one_mark (ASign sign.LeftBrace) a)) (begins_then (begins_one_mark (ASign sign.Semicolon) b))
