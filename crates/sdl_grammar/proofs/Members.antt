-- The readers of members are exact for the grammar.
use Rattle.std.proofs.Common.{ℕ, Bool, true, ◌||◌, List, [], ◌∷◌, Some, None, refl}
use Rattle.ev_lex.specs.declared.token.Token.{Token}
use Rattle.ev_lex.specs.declared.token.Sign.TheVariants as sign
use Rattle.ev_lex.specs.declared.keyword.Keyword.TheVariants as keyword
use Rattle.ast.specs.declared.name.Name.{Name}
use Rattle.eql_grammar.specs.declared.class.Class.TheVariants.{Sign as ASign, Reserved, Named}
use Rattle.eql_grammar.specs.declared.grown.GrownExpr.{GrownExpr}
use Rattle.eql_grammar.specs.Words.{is_sign, is_word, same_sign, same_keyword, name_of}
use Rattle.eql_grammar.specs.Trees.{unlimited}
use Rattle.eql_grammar.proofs.Sets.{At, at_mark, avoids_one_mark, begins_name, begins_one_mark, closes_mark, go, lacks_mark, lead, or_left, or_right, some_name, some_sign, word_Select}
use Rattle.exact.specs.Language.{Lang}
use Rattle.exact.specs.Reading.{Reader, inside}
use Rattle.exact.proofs.Heads.{Begins, never, begins_then, begins_either, avoids_begun, avoids_empty, avoids_none, avoids_either, avoids_chain, avoids_then}
use Rattle.exact.proofs.Laws.{Open, IsExactAt, exact_pure, exact_then, exact_map, exact_lead, exact_choose, exact_chain, exact_alike}
use Rattle.sdl_ast.specs.declared.member.Member.{Member}
use Rattle.sdl_ast.specs.declared.member.Member.TheVariants as member
use Rattle.sdl_ast.specs.declared.member.PointerKind.{PointerKind}
use Rattle.sdl_ast.specs.declared.member.PointerKind.TheVariants as pointer_kind
use Rattle.sdl_ast.specs.declared.member.Action.TheVariants as action
use Rattle.sdl_ast.specs.declared.member.PolicyKind.{PolicyKind}
use Rattle.sdl_ast.specs.declared.member.PolicyKind.TheVariants as kind
use Rattle.sdl_ast.specs.declared.member.PolicyKinds.TheVariants as kinds
use Rattle.sdl_grammar.specs.declared.form.MemberForm.{MemberForm}
use Rattle.sdl_grammar.specs.declared.form.MemberForm.TheVariants as member_form
use Rattle.sdl_grammar.specs.declared.part.Quals.{Quals}
use Rattle.sdl_grammar.specs.declared.part.PointerHead.{PointerHead}
use Rattle.sdl_grammar.specs.Words.{member_word_of, goes_on}
use Rattle.sdl_grammar.specs.Trees as t
use Rattle.sdl_grammar.specs.Grammar as g
use Rattle.sdl_grammar.proofs.ByWord as b
use Rattle.sdl_grammar.proofs.Alike.{begins_alike}
use Rattle.sdl_grammar.proofs.SameMembers.{member_alike}
use Rattle.sdl_grammar.specs.Readers as r
use Rattle.sdl_grammar.proofs.Sets.{begins_member_word, close_avoids, exact_close, exact_typed, exact_words, names_no_words, some_member_word, typed_begins, word_All, word_Allow, word_Delete, word_Deny, word_Insert, word_On, word_Policy, word_Read, word_Update, word_Using, word_Write, words_begin, words_first}
use Rattle.sdl_grammar.proofs.Items.{exact_value, exact_enclosed, exact_annotated, exact_notes, notes_begin, exact_items, items_begin}

-- with what the kinds of a policy go on
abbrev kind_go : Token → Bool
kind_go t = is_word keyword.Read t || is_word keyword.Write t

abbrev kinds_go : Token → Bool
kinds_go t = is_sign sign.Comma t || kind_go t

module _ (high : ℕ → Bool) (L U : Lang Token GrownExpr) (P : Reader Token GrownExpr) (h : IsExactAt Open L U P (λ _. go 11)) where
  -- ---- pointers

  exact_pointed : (head : PointerHead) → IsExactAt Open (g.Pointed high L head) (g.Pointed unlimited U head) (r.pointed high P head) (λ _. is_sign sign.Semicolon)
  unfolding r.pointed same_sign same_keyword
  exact_pointed head =
      exact_choose
      (exact_then exact_typed (λ ty. exact_map (t.stored head ty) (exact_items high L U P h)) (λ ty. avoids_begun (begins_then (items_begin high L U P h (λ t e. rw e refl) (λ t e. rw e refl)))))
      (lead (some_sign sign.Assign) (λ _. exact_map (t.computed head) (exact_value high L U P h)))
      (begins_then (typed_begins (λ t e. rw e refl) (λ t e. rw e refl)))
      (avoids_one_mark (ASign sign.Assign) (λ t e. rw e refl))

  pointed_begins : {first : Token → Bool} → At (ASign sign.Colon) first true → At (ASign sign.Arrow) first true → At (ASign sign.Assign) first true → (head : PointerHead) → Begins first (g.Pointed high L head)
  pointed_begins a b c head = begins_either (begins_then (typed_begins a b)) (begins_then (begins_one_mark (ASign sign.Assign) c))

  exact_kind_word : (kind : PointerKind) (q : Quals) (name : Name)
      → IsExactAt Open (b.WithKind high L kind q name) (b.WithKind unlimited U kind q name) (r.kind_word high P kind q name) (λ _. is_sign sign.Semicolon)
  unfolding r.kind_word same_sign same_keyword
  exact_kind_word kind q name =
      exact_choose (exact_pointed (t.bare_head q name)) (exact_lead name_of some_name.token some_name.name some_name.known (λ own. exact_pointed (t.pointer_head q name.span.start (Some kind) own)))
      (pointed_begins (λ t e. rw e refl) (λ t e. rw e refl) (λ t e. rw e refl) (t.bare_head q name))
      (avoids_begun (begins_then (begins_name (λ o t e. rw e refl))))

  exact_pointer_of : (form : MemberForm) (q : Quals) (name : Name) → IsExactAt Open (b.PointerOf high L form q name) (b.PointerOf unlimited U form q name) (r.pointer_of high P form q name) (λ _. is_sign sign.Semicolon)
  unfolding r.pointer_of
  exact_pointer_of member_form.Property q name = exact_kind_word pointer_kind.Property q name
  exact_pointer_of member_form.Link q name = exact_kind_word pointer_kind.Link q name
  exact_pointer_of member_form.Overloaded q name = exact_pointed (t.bare_head q name)
  exact_pointer_of member_form.Index q name = exact_pointed (t.bare_head q name)
  exact_pointer_of member_form.Annotation q name = exact_pointed (t.bare_head q name)
  exact_pointer_of member_form.Access q name = exact_pointed (t.bare_head q name)
  exact_pointer_of member_form.Other q name = exact_pointed (t.bare_head q name)

  exact_pointer : (q : Quals) → IsExactAt Open (b.Pointer high L q) (b.Pointer unlimited U q) (r.pointer high P q) (λ _. is_sign sign.Semicolon)
  unfolding r.pointer
  exact_pointer q = exact_lead member_word_of some_member_word.token some_member_word.word some_member_word.known (λ word. exact_pointer_of word.form q word.name)

  -- ---- indexes and policies

  exact_indexed : {on : _ → Token → Bool} (start : ℕ) → IsExactAt Open (g.Indexed high L start) (g.Indexed unlimited U start) (r.indexed high P start) on
  unfolding r.indexed same_sign same_keyword
  exact_indexed start =
      lead word_On
      (λ _. exact_then {go = λ _. never} (exact_enclosed high L U P h) (λ x. lead (some_sign sign.Semicolon) (λ at. exact_pure (t.index start x at))) (λ x. avoids_none))

  exact_allow_or_deny : {on : _ → Token → Bool} → IsExactAt Open (g.AllowOrDeny high L) (g.AllowOrDeny unlimited U) (r.allow_or_deny high P) on
  unfolding r.allow_or_deny same_sign same_keyword
  exact_allow_or_deny =
      exact_choose (lead word_Allow (λ _. exact_pure action.Allow)) (lead word_Deny (λ _. exact_pure action.Deny))
      (begins_then (begins_one_mark (Named (Some keyword.Allow)) (λ t e. rw e refl)))
      (avoids_one_mark (Named (Some keyword.Deny)) (λ t e. rw e refl))

  exact_updating : IsExactAt Open (g.Updating high L) (g.Updating unlimited U) (r.updating high P) (λ _. kind_go)
  unfolding r.updating same_sign same_keyword
  exact_updating =
      lead word_Update
      (λ _. exact_choose (lead word_Read (λ _. exact_pure kind.UpdateRead))
      (exact_choose (lead word_Write (λ _. exact_pure kind.UpdateWrite)) (exact_pure kind.Update)
      (begins_then (begins_one_mark (Named (Some keyword.Write)) (λ t e. rw e refl)))
      (avoids_empty kind.Update (λ t. or_right (is_word keyword.Read t) (is_word keyword.Write t))))
      (begins_then (begins_one_mark (Named (Some keyword.Read)) (λ t e. rw e refl)))
      (avoids_either (avoids_one_mark (Named (Some keyword.Write)) (λ t e. rw e refl)) (avoids_empty kind.Update (λ t. or_left (is_word keyword.Read t) (is_word keyword.Write t)))))

  exact_kind : IsExactAt Open (g.Kind high L) (g.Kind unlimited U) (r.policy_kind high P) (λ _. kind_go)
  unfolding r.policy_kind same_sign same_keyword
  exact_kind =
      exact_choose (lead word_Select (λ _. exact_pure kind.Select))
      (exact_choose (lead word_Insert (λ _. exact_pure kind.Insert))
      (exact_choose (lead word_Delete (λ _. exact_pure kind.Delete)) exact_updating
      (begins_then (begins_one_mark (Reserved keyword.Delete) (λ t e. rw e refl)))
      (avoids_one_mark (Reserved keyword.Update) (λ t e. rw e refl)))
      (begins_then (begins_one_mark (Reserved keyword.Insert) (λ t e. rw e refl)))
      (avoids_either (avoids_one_mark (Reserved keyword.Delete) (λ t e. rw e refl)) (avoids_one_mark (Reserved keyword.Update) (λ t e. rw e refl))))
      (begins_then (begins_one_mark (Reserved keyword.Select) (λ t e. rw e refl)))
      (avoids_either (avoids_one_mark (Reserved keyword.Insert) (λ t e. rw e refl)) (avoids_either (avoids_one_mark (Reserved keyword.Delete) (λ t e. rw e refl)) (avoids_one_mark (Reserved keyword.Update) (λ t e. rw e refl))))

  kind_begins : {first : Token → Bool} → At (Reserved keyword.Select) first true → At (Reserved keyword.Insert) first true → At (Reserved keyword.Delete) first true → At (Reserved keyword.Update) first true → Begins first (g.Kind high L)
  kind_begins a b c d =
      begins_either (begins_then (begins_one_mark (Reserved keyword.Select) a))
      (begins_either (begins_then (begins_one_mark (Reserved keyword.Insert) b))
      (begins_either (begins_then (begins_one_mark (Reserved keyword.Delete) c)) (begins_then (begins_one_mark (Reserved keyword.Update) d))))

  exact_further_kinds : (all : List PolicyKind) → IsExactAt Open (g.FurtherKinds high L all) (g.FurtherKinds unlimited U all) (r.further_kinds high P all) (λ _. kinds_go)
  unfolding r.further_kinds same_sign same_keyword
  exact_further_kinds all =
      exact_chain {go = kinds_go} {inner = kind_go} (λ all. lead (some_sign sign.Comma) (λ _. exact_map (t.behind all) exact_kind)) (λ all. begins_then (begins_one_mark (ASign sign.Comma) (λ t e. rw e refl)))
      (at_mark (ASign sign.Comma) {set = kind_go} (λ t e. rw e refl)) (λ t. or_left (is_sign sign.Comma t) (kind_go t)) (λ t. or_right (is_sign sign.Comma t) (kind_go t)) all

  exact_kinds : IsExactAt Open (g.Kinds high L) (g.Kinds unlimited U) (r.policy_kinds high P) (λ _. kinds_go)
  unfolding r.policy_kinds same_sign same_keyword
  exact_kinds =
      exact_choose (lead word_All (λ _. exact_pure kinds.All))
      (exact_then exact_kind (λ first. exact_map kinds.These (exact_further_kinds (first ∷ [])))
      (λ first. avoids_then (avoids_chain (λ all. avoids_one_mark (ASign sign.Comma) (λ t e. rw e refl)) (λ _ t e. e) (first ∷ [])) (λ all. avoids_empty (kinds.These all) (λ t. or_right (is_sign sign.Comma t) (kind_go t)))))
      (begins_then (begins_one_mark (Named (Some keyword.All)) (λ t e. rw e refl)))
      (avoids_begun (begins_then (kind_begins (λ t e. rw e refl) (λ t e. rw e refl) (λ t e. rw e refl) (λ t e. rw e refl))))

  exact_using : IsExactAt Open (g.Using high L) (g.Using unlimited U) (r.using high P) (λ _. is_word keyword.Using)
  unfolding r.using same_sign same_keyword
  exact_using =
      exact_choose (lead word_Using (λ _. exact_map Some (exact_enclosed high L U P h))) (exact_pure None)
      (begins_then (begins_one_mark (Named (Some keyword.Using)) (λ t e. rw e refl)))
      (avoids_empty None (λ t e. e))

  exact_policed : (start : ℕ) → IsExactAt Open (g.Policed high L start) (g.Policed unlimited U start) (r.policed high P start) (λ _. is_sign sign.Semicolon)
  unfolding r.policed same_sign same_keyword
  exact_policed start =
      lead word_Policy
      (λ _. exact_lead name_of some_name.token some_name.name some_name.known
      (λ name. exact_then {go = λ _. never} exact_allow_or_deny
      (λ action. exact_then exact_kinds
      (λ kinds. exact_then exact_using (λ condition. exact_map (t.policy start name action kinds condition) (exact_notes high L U P h))
      (λ condition. avoids_begun (begins_then (notes_begin high L U P h (λ t e. rw e refl) (λ t e. rw e refl)))))
      (λ kinds. avoids_then (avoids_either (avoids_one_mark (Named (Some keyword.Using)) (λ t e. rw e refl)) (avoids_empty None (λ t e. e))) (λ condition. avoids_begun (begins_then (notes_begin high L U P h (λ t e. rw e refl) (λ t e. rw e refl))))))
      (λ action. avoids_none)))

  -- ---- members

  exact_member_of : (form : MemberForm) (name : Name) → IsExactAt Open (b.MemberOf high L form name) (b.MemberOf unlimited U form name) (r.member_of high P form name) (λ _. is_sign sign.Semicolon)
  unfolding r.member_of r.overloaded_member same_sign same_keyword
  exact_member_of member_form.Overloaded name =
      exact_choose (exact_pointed (t.bare_head t.no_quals name))
      (exact_choose (exact_then exact_words (λ q. exact_pointer (t.qualified (t.overloaded name.span.start) q)) (λ q. avoids_begun (begins_then (begins_member_word names_no_words)))) (exact_pointer (t.overloaded name.span.start))
      (begins_then words_first)
      (avoids_begun (begins_then (begins_member_word names_no_words))))
      (pointed_begins (λ t e. rw e refl) (λ t e. rw e refl) (λ t e. rw e refl) (t.bare_head t.no_quals name))
      (avoids_begun (begins_either (begins_then (words_begin (λ t e. rw e refl) (λ t e. rw e refl) (λ t e. rw e refl) (λ t e. rw e refl))) (begins_then (begins_member_word (λ o t e. rw e refl)))))
  exact_member_of member_form.Property name = exact_kind_word pointer_kind.Property t.no_quals name
  exact_member_of member_form.Link name = exact_kind_word pointer_kind.Link t.no_quals name
  exact_member_of member_form.Index name =
      exact_choose (exact_pointed (t.bare_head t.no_quals name)) (exact_indexed name.span.start) (pointed_begins (λ t e. rw e refl) (λ t e. rw e refl) (λ t e. rw e refl) (t.bare_head t.no_quals name))
      (avoids_one_mark (Named (Some keyword.On)) (λ t e. rw e refl))
  exact_member_of member_form.Annotation name =
      exact_choose (exact_pointed (t.bare_head t.no_quals name)) (exact_map member.Annotation (exact_annotated high L U P h name.span.start)) (pointed_begins (λ t e. rw e refl) (λ t e. rw e refl) (λ t e. rw e refl) (t.bare_head t.no_quals name))
      (avoids_begun (begins_then (begins_then (begins_name (λ o t e. rw e refl)))))
  exact_member_of member_form.Access name =
      exact_choose (exact_pointed (t.bare_head t.no_quals name)) (exact_policed name.span.start) (pointed_begins (λ t e. rw e refl) (λ t e. rw e refl) (λ t e. rw e refl) (t.bare_head t.no_quals name))
      (avoids_one_mark (Named (Some keyword.Policy)) (λ t e. rw e refl))
  exact_member_of member_form.Other name = exact_pointed (t.bare_head t.no_quals name)

  exact_by_word : IsExactAt Open (b.MemberByWord high L) (b.MemberByWord unlimited U) (r.a_member high P) (λ _. is_sign sign.Semicolon)
  unfolding r.a_member same_sign same_keyword
  exact_by_word =
      exact_choose (exact_then exact_words (λ q. exact_pointer (t.qualified t.no_quals q)) (λ q. avoids_begun (begins_then (begins_member_word names_no_words))))
      (exact_lead member_word_of some_member_word.token some_member_word.word some_member_word.known (λ word. exact_member_of word.form word.name))
      (begins_then words_first)
      (avoids_begun (begins_then (begins_member_word names_no_words)))

  exact_member : IsExactAt Open (g.AMember high L) (g.AMember unlimited U) (r.a_member high P) (λ _. is_sign sign.Semicolon)
  exact_member = exact_alike (member_alike high L).to (member_alike high L).back (member_alike unlimited U).to exact_by_word

  by_word_begins : Begins goes_on (b.MemberByWord high L)
  unfolding same_sign same_keyword
  by_word_begins = begins_either (begins_then (words_begin (λ t e. rw e refl) (λ t e. rw e refl) (λ t e. rw e refl) (λ t e. rw e refl))) (begins_then (begins_member_word (λ o t e. rw e refl)))

  member_begins : Begins goes_on (g.AMember high L)
  member_begins = begins_alike (member_alike high L) by_word_begins

  exact_some_members : (all : List Member) → IsExactAt Open (g.SomeMembers high L all) (g.SomeMembers unlimited U all) (r.some_members high P all) (λ _. inside (is_sign sign.RightBrace))
  unfolding r.some_members same_sign same_keyword
  exact_some_members all =
      exact_chain {go = inside (is_sign sign.RightBrace)} {inner = is_sign sign.Semicolon} (λ all. exact_map (t.behind all) exact_member) (λ all. begins_then member_begins)
      (lacks_mark (ASign sign.Semicolon) {set = goes_on} (λ t e. rw e refl)) (closes_mark (ASign sign.RightBrace) {set = goes_on} (λ t e. rw e refl)) (closes_mark (ASign sign.RightBrace) {set = is_sign sign.Semicolon} (λ t e. rw e refl)) all

  pub exact_members : IsExactAt Open (g.Members high L) (g.Members unlimited U) (r.members high P) (λ _. is_sign sign.Semicolon)
  unfolding r.members same_sign same_keyword
  exact_members =
      exact_choose
      (lead (some_sign sign.LeftBrace) (λ _. exact_then (exact_some_members []) (λ all. exact_map (t.members all) exact_close) (λ all. close_avoids (λ t e. rw e refl))))
      (lead (some_sign sign.Semicolon) (λ at. exact_pure (t.members [] at.end)))
      (begins_then (begins_one_mark (ASign sign.LeftBrace) (λ t e. rw e refl)))
      (avoids_one_mark (ASign sign.Semicolon) (λ t e. rw e refl))

  pub members_begin : {first : Token → Bool} → At (ASign sign.LeftBrace) first true → At (ASign sign.Semicolon) first true → Begins first (g.Members high L)
  members_begin a b = begins_either (begins_then (begins_one_mark (ASign sign.LeftBrace) a)) (begins_then (begins_one_mark (ASign sign.Semicolon) b))
