-- Reading a schema from the left, with one token to look at.
use Rattle.std.specs.Prelude.{ℕ, Bool, true, false, List, [], ◌∷◌, Option, Some, None}
use Rattle.ev_lex.specs.declared.token.Token.{Token}
use Rattle.ev_lex.specs.declared.token.Sign.TheVariants as sign
use Rattle.ev_lex.specs.declared.keyword.Keyword.TheVariants as keyword
use Rattle.ast.specs.declared.name.Name.{Name}
use Rattle.ast.specs.declared.name.QualifiedName.{QualifiedName}
use Rattle.ast.specs.declared.expression.Expr as ast
use Rattle.eql_grammar.specs.declared.limits.TheConstants.{MAX_OPEN}
use Rattle.eql_grammar.specs.declared.grown.GrownExpr.{GrownExpr}
use Rattle.eql_grammar.specs.declared.grown.Bunch.{Bunch}
use Rattle.eql_grammar.specs.declared.grown.Qualified.{Qualified}
use Rattle.eql_grammar.specs.Words.{is_sign, is_word, sign_of, word_of, name_of, need_of, width_of}
use Rattle.eql_grammar.specs.Trees.{too_high, nothing_yet, alone, added, both_words}
use Rattle.eql_grammar.specs.Readers as queries
use Rattle.eql_grammar.specs.Readers.{qname}
use Rattle.sdl_ast.specs.declared.declaration.SdlFile.{SdlFile}
use Rattle.sdl_ast.specs.declared.declaration.FilePart.{FilePart}
use Rattle.sdl_ast.specs.declared.declaration.FilePart.TheVariants as part
use Rattle.sdl_ast.specs.declared.declaration.Decl.{Decl}
use Rattle.sdl_ast.specs.declared.member.Member.{Member}
use Rattle.sdl_ast.specs.declared.member.Member.TheVariants as member
use Rattle.sdl_ast.specs.declared.member.PointerKind.{PointerKind}
use Rattle.sdl_ast.specs.declared.member.PointerKind.TheVariants as pointer_kind
use Rattle.sdl_ast.specs.declared.member.Annotation.{Annotation}
use Rattle.sdl_ast.specs.declared.member.Action.{Action}
use Rattle.sdl_ast.specs.declared.member.Action.TheVariants as action
use Rattle.sdl_ast.specs.declared.member.PolicyKind.{PolicyKind}
use Rattle.sdl_ast.specs.declared.member.PolicyKind.TheVariants as kind
use Rattle.sdl_ast.specs.declared.member.PolicyKinds.{PolicyKinds}
use Rattle.sdl_ast.specs.declared.member.PolicyKinds.TheVariants as kinds
use Rattle.sdl_ast.specs.declared.item.Item.{Item}
use Rattle.sdl_ast.specs.declared.item.Item.TheVariants as item
use Rattle.sdl_ast.specs.declared.item.DeletionWord.{DeletionWord}
use Rattle.sdl_ast.specs.declared.item.DeletionWord.TheVariants as deletion_word
use Rattle.sdl_grammar.specs.declared.form.MemberForm.{MemberForm}
use Rattle.sdl_grammar.specs.declared.form.MemberForm.TheVariants as member_form
use Rattle.sdl_grammar.specs.declared.form.ItemForm.{ItemForm}
use Rattle.sdl_grammar.specs.declared.form.ItemForm.TheVariants as item_form
use Rattle.sdl_grammar.specs.declared.part.Quals.{Quals}
use Rattle.sdl_grammar.specs.declared.part.PointerHead.{PointerHead}
use Rattle.sdl_grammar.specs.declared.part.EndedExpr.{EndedExpr}
use Rattle.sdl_grammar.specs.declared.part.NoteBlock.{NoteBlock}
use Rattle.sdl_grammar.specs.declared.part.ItemBlock.{ItemBlock}
use Rattle.sdl_grammar.specs.declared.part.MemberBlock.{MemberBlock}
use Rattle.sdl_grammar.specs.Words.{member_word_of, item_word_of, is_qualifier, is_typing, is_pointing, is_decl, is_part, goes_on}
use Rattle.sdl_grammar.specs.Trees as t
use Rattle.sdl_grammar.specs.Trees.{no_quals, overloaded, qualified, pointer_head, bare_head}
use Rattle.exact.specs.Reading.{Reader, ◌>>=◌, ◌>>◌, pure, has, inside, one, one_within, choose, chain}

-- what is read of an expression inside
unfoldable pub text_expr : Reader Token GrownExpr
text_expr = (queries.within too_high MAX_OPEN).expr

-- reads the brace that closes a block and the semicolon behind it, if one stands there
unfoldable pub close : Reader Token ℕ
close = do
  brace ← one (sign_of sign.RightBrace)
  choose (is_sign sign.Semicolon) (do at ← one (sign_of sign.Semicolon); pure at.end) (pure brace.end)

-- reads a colon or an arrow and the name of a type
unfoldable pub typed : Reader Token QualifiedName
typed = do
  choose (is_sign sign.Colon) (one (sign_of sign.Colon)) (one (sign_of sign.Arrow))
  qname

-- reads the words of need and width
unfoldable pub words : Reader Token Qualified
words =
    choose (has need_of) (do first ← one need_of; choose (has width_of) (do second ← one width_of; pure (both_words first second)) (pure first))
    (do first ← one width_of; choose (has need_of) (do second ← one need_of; pure (t.turned_words first second)) (pure first))

module _ (high : ℕ → Bool) (expr : Reader Token GrownExpr) where
  -- reads an expression and the semicolon behind it
  unfoldable pub value : Reader Token EndedExpr
  value = do
    x ← expr
    at ← one_within (high x.height) (sign_of sign.Semicolon)
    pure (t.ended x at)

  -- reads an expression in parentheses
  unfoldable pub enclosed : Reader Token ast.Expr
  enclosed = do
    one (sign_of sign.LeftParen)
    x ← expr
    one_within (high x.height) (sign_of sign.RightParen)
    pure x.expr

  -- reads an annotation behind its first word
  unfoldable pub annotated : ℕ → Reader Token Annotation
  annotated start = do
    name ← one name_of
    one (sign_of sign.Assign)
    x ← value
    pure (t.annotation start name x)

  -- reads one more annotation
  abbrev pub next_annotation : List Annotation → Reader Token (List Annotation)
  next_annotation all = do
    at ← one (word_of keyword.Annotation)
    x ← annotated at.start
    pure (t.behind all x)

  -- reads all annotations up to the brace that closes
  unfoldable pub annotations : List Annotation → Reader Token (List Annotation)
  annotations all = chain (is_word keyword.Annotation) next_annotation all

  -- reads annotations in braces, or a semicolon
  unfoldable pub notes : Reader Token NoteBlock
  notes =
      choose (is_sign sign.LeftBrace) (do one (sign_of sign.LeftBrace); all ← annotations []; end ← close; pure (t.notes all end))
      (do at ← one (sign_of sign.Semicolon); pure (t.notes [] at.end))

  -- ---- items

  -- reads a property of a link behind its name
  unfoldable pub propertied : PointerHead → Reader Token Item
  propertied head = do
    ty ← typed
    block ← notes
    pure (t.link_property head ty block)

  -- reads one more argument of a constraint
  abbrev pub next_argument : Bunch → Reader Token Bunch
  next_argument all = do
    one_within (high all.height) (sign_of sign.Comma)
    x ← expr
    pure (added all x)

  -- reads further arguments, each behind a comma
  unfoldable pub further : Bunch → Reader Token Bunch
  further all = chain (is_sign sign.Comma) next_argument all

  -- reads the arguments of a constraint, in parentheses
  unfoldable pub arguments : Reader Token Bunch
  arguments = do
    one (sign_of sign.LeftParen)
    x ← expr
    all ← further (alone x)
    one_within (high all.height) (sign_of sign.RightParen)
    pure all

  -- reads a constraint behind the word `constraint`
  unfoldable pub constrained : ℕ → Bool → Reader Token Item
  constrained start delegated = do
    name ← one name_of
    all ← choose (is_sign sign.LeftParen) arguments (pure nothing_yet)
    at ← one (sign_of sign.Semicolon)
    pure (t.constraint start delegated name all at)

  -- reads a default behind its first word
  unfoldable pub defaulted : ℕ → Reader Token Item
  defaulted start = do
    one (sign_of sign.Assign)
    x ← value
    pure (t.default_item start x)

  -- reads the first word behind `on target delete`
  unfoldable pub first_word : Reader Token DeletionWord
  first_word = choose (is_word keyword.Delete) (do at ← one (word_of keyword.Delete); pure (deletion_word.Delete at)) (do name ← one name_of; pure (deletion_word.Name name))

  -- reads one more word behind `on target delete`
  abbrev pub next_name : List Name → Reader Token (List Name)
  next_name all = do
    name ← one name_of
    pure (t.behind all name)

  -- reads the words up to the semicolon
  unfoldable pub names : List Name → Reader Token (List Name)
  names all = chain (inside (is_sign sign.Semicolon)) next_name all

  -- reads what becomes of an object whose target is deleted, behind the word `on`
  unfoldable pub deleting : ℕ → Reader Token Item
  deleting start = do
    one (word_of keyword.Target)
    one (word_of keyword.Delete)
    first ← first_word
    more ← names []
    at ← one (sign_of sign.Semicolon)
    pure (t.deletion start first more at)

  -- behind `property`, which may be the name
  unfoldable pub property_word : Quals → Name → Reader Token Item
  property_word q name = choose is_typing (propertied (bare_head q name)) (do own ← one name_of; propertied (pointer_head q name.span.start (Some pointer_kind.Property) own))

  -- reads a property of a link behind its first word that is none of need or width
  unfoldable pub property_of : ItemForm → Quals → Name → Reader Token Item
  property_of item_form.Property q name = property_word q name
  property_of _ q name = propertied (bare_head q name)

  -- reads a property of a link behind the words of need and width
  unfoldable pub property : Quals → Reader Token Item
  property q = do
    word ← one item_word_of
    property_of word.form q word.name

  -- behind `overloaded`, which may be the name
  unfoldable pub overloaded_item : Name → Reader Token Item
  overloaded_item name =
      choose is_typing (propertied (bare_head no_quals name))
      (choose is_qualifier (do q ← words; property (qualified (overloaded name.span.start) q)) (property (overloaded name.span.start)))

  -- reads an item behind its first word
  unfoldable pub item_of : ItemForm → Name → Reader Token Item
  item_of item_form.Overloaded name = overloaded_item name
  item_of item_form.Property name = property_word no_quals name
  item_of item_form.Constraint name = choose is_typing (propertied (bare_head no_quals name)) (constrained name.span.start false)
  item_of item_form.Delegated name = choose is_typing (propertied (bare_head no_quals name)) (do one (word_of keyword.Constraint); constrained name.span.start true)
  item_of item_form.Default name = choose is_typing (propertied (bare_head no_quals name)) (defaulted name.span.start)
  item_of item_form.On name = choose is_typing (propertied (bare_head no_quals name)) (deleting name.span.start)
  item_of item_form.Annotation name = choose is_typing (propertied (bare_head no_quals name)) (do x ← annotated name.span.start; pure (item.Annotation x))
  item_of item_form.Other name = propertied (bare_head no_quals name)

  -- reads an item of a pointer
  unfoldable pub an_item : Reader Token Item
  an_item =
      choose is_qualifier (do q ← words; property (qualified no_quals q))
      (do word ← one item_word_of; item_of word.form word.name)

  -- reads one more item
  abbrev pub next_item : List Item → Reader Token (List Item)
  next_item all = do
    x ← an_item
    pure (t.behind all x)

  -- reads all items up to the brace that closes
  unfoldable pub some_items : List Item → Reader Token (List Item)
  some_items all = chain goes_on next_item all

  -- reads items in braces, or a semicolon
  unfoldable pub items : Reader Token ItemBlock
  items =
      choose (is_sign sign.LeftBrace) (do one (sign_of sign.LeftBrace); all ← some_items []; end ← close; pure (t.items all end))
      (do at ← one (sign_of sign.Semicolon); pure (t.items [] at.end))

  -- ---- members

  -- reads a pointer behind its name
  unfoldable pub pointed : PointerHead → Reader Token Member
  pointed head =
      choose is_typing (do ty ← typed; block ← items; pure (t.stored head ty block))
      (do one (sign_of sign.Assign); x ← value; pure (t.computed head x))

  -- reads an index behind its first word
  unfoldable pub indexed : ℕ → Reader Token Member
  indexed start = do
    one (word_of keyword.On)
    x ← enclosed
    at ← one (sign_of sign.Semicolon)
    pure (t.index start x at)

  -- reads `allow` or `deny`
  unfoldable pub allow_or_deny : Reader Token Action
  allow_or_deny = choose (is_word keyword.Allow) (do one (word_of keyword.Allow); pure action.Allow) (do one (word_of keyword.Deny); pure action.Deny)

  -- reads `update`, and `read` or `write` behind it if one stands there
  unfoldable pub updating : Reader Token PolicyKind
  updating = do
    one (word_of keyword.Update)
    choose (is_word keyword.Read) (do one (word_of keyword.Read); pure kind.UpdateRead)
        (choose (is_word keyword.Write) (do one (word_of keyword.Write); pure kind.UpdateWrite)
        (pure kind.Update))

  -- reads one thing that a policy is for
  unfoldable pub policy_kind : Reader Token PolicyKind
  policy_kind =
      choose (is_word keyword.Select) (do one (word_of keyword.Select); pure kind.Select)
      (choose (is_word keyword.Insert) (do one (word_of keyword.Insert); pure kind.Insert)
      (choose (is_word keyword.Delete) (do one (word_of keyword.Delete); pure kind.Delete)
      updating))

  -- reads one more of these
  abbrev pub next_kind : List PolicyKind → Reader Token (List PolicyKind)
  next_kind all = do
    one (sign_of sign.Comma)
    x ← policy_kind
    pure (t.behind all x)

  -- reads further ones, each behind a comma
  unfoldable pub further_kinds : List PolicyKind → Reader Token (List PolicyKind)
  further_kinds all = chain (is_sign sign.Comma) next_kind all

  -- reads what a policy is for
  unfoldable pub policy_kinds : Reader Token PolicyKinds
  policy_kinds =
      choose (is_word keyword.All) (do one (word_of keyword.All); pure kinds.All)
      (do first ← policy_kind; all ← further_kinds (first ∷ []); pure (kinds.These all))

  -- reads the condition of a policy, if it has one
  unfoldable pub using : Reader Token (Option ast.Expr)
  using = choose (is_word keyword.Using) (do one (word_of keyword.Using); x ← enclosed; pure (Some x)) (pure None)

  -- reads a policy behind its first word
  unfoldable pub policed : ℕ → Reader Token Member
  policed start = do
    one (word_of keyword.Policy)
    name ← one name_of
    action ← allow_or_deny
    kinds ← policy_kinds
    condition ← using
    block ← notes
    pure (t.policy start name action kinds condition block)

  -- behind `property` or `link`, which may be the name
  unfoldable pub kind_word : PointerKind → Quals → Name → Reader Token Member
  kind_word kind q name = choose is_pointing (pointed (bare_head q name)) (do own ← one name_of; pointed (pointer_head q name.span.start (Some kind) own))

  -- reads a pointer behind its first word that is none of need or width
  unfoldable pub pointer_of : MemberForm → Quals → Name → Reader Token Member
  pointer_of member_form.Property q name = kind_word pointer_kind.Property q name
  pointer_of member_form.Link q name = kind_word pointer_kind.Link q name
  pointer_of _ q name = pointed (bare_head q name)

  -- reads a pointer behind the words of need and width
  unfoldable pub pointer : Quals → Reader Token Member
  pointer q = do
    word ← one member_word_of
    pointer_of word.form q word.name

  -- behind `overloaded`, which may be the name
  unfoldable pub overloaded_member : Name → Reader Token Member
  overloaded_member name =
      choose is_pointing (pointed (bare_head no_quals name))
      (choose is_qualifier (do q ← words; pointer (qualified (overloaded name.span.start) q)) (pointer (overloaded name.span.start)))

  -- reads a member behind its first word
  unfoldable pub member_of : MemberForm → Name → Reader Token Member
  member_of member_form.Overloaded name = overloaded_member name
  member_of member_form.Property name = kind_word pointer_kind.Property no_quals name
  member_of member_form.Link name = kind_word pointer_kind.Link no_quals name
  member_of member_form.Index name = choose is_pointing (pointed (bare_head no_quals name)) (indexed name.span.start)
  member_of member_form.Annotation name = choose is_pointing (pointed (bare_head no_quals name)) (do x ← annotated name.span.start; pure (member.Annotation x))
  member_of member_form.Access name = choose is_pointing (pointed (bare_head no_quals name)) (policed name.span.start)
  member_of member_form.Other name = pointed (bare_head no_quals name)

  -- reads a member of a type
  unfoldable pub a_member : Reader Token Member
  a_member =
      choose is_qualifier (do q ← words; pointer (qualified no_quals q))
      (do word ← one member_word_of; member_of word.form word.name)

  -- reads one more member
  abbrev pub next_member : List Member → Reader Token (List Member)
  next_member all = do
    x ← a_member
    pure (t.behind all x)

  -- reads all members up to the brace that closes
  unfoldable pub some_members : List Member → Reader Token (List Member)
  some_members all = chain goes_on next_member all

  -- reads members in braces, or a semicolon
  unfoldable pub members : Reader Token MemberBlock
  members =
      choose (is_sign sign.LeftBrace) (do one (sign_of sign.LeftBrace); all ← some_members []; end ← close; pure (t.members all end))
      (do at ← one (sign_of sign.Semicolon); pure (t.members [] at.end))

  -- ---- declarations

  -- reads one more type that is extended
  abbrev pub next_base : List QualifiedName → Reader Token (List QualifiedName)
  next_base all = do
    one (sign_of sign.Comma)
    x ← qname
    pure (t.behind all x)

  -- reads further ones, each behind a comma
  unfoldable pub further_bases : List QualifiedName → Reader Token (List QualifiedName)
  further_bases all = chain (is_sign sign.Comma) next_base all

  -- reads the types that a type extends, if `extending` stands there
  unfoldable pub bases : Reader Token (List QualifiedName)
  bases = choose (is_word keyword.Extending) (do one (word_of keyword.Extending); first ← qname; further_bases (first ∷ [])) (pure [])

  -- reads a type behind the word `type`
  unfoldable pub type_of : ℕ → Bool → Reader Token Decl
  type_of start is_abstract = do
    name ← one name_of
    all ← bases
    block ← members
    pure (t.type_decl start is_abstract name all block)

  -- reads a global
  unfoldable pub global_of : Reader Token Decl
  global_of = do
    at ← one (word_of keyword.Global)
    name ← one name_of
    ty ← typed
    end ← one (sign_of sign.Semicolon)
    pure (t.global_decl at.start name ty end)

  -- reads a declaration
  unfoldable pub a_decl : Reader Token Decl
  a_decl =
      choose (is_word keyword.Abstract) (do at ← one (word_of keyword.Abstract); one (word_of keyword.Type); type_of at.start true)
      (choose (is_word keyword.Type) (do at ← one (word_of keyword.Type); type_of at.start false)
      global_of)

  -- reads one more declaration
  abbrev pub next_decl : List Decl → Reader Token (List Decl)
  next_decl all = do
    x ← a_decl
    pure (t.behind all x)

  -- reads all declarations up to the brace that closes
  unfoldable pub decls : List Decl → Reader Token (List Decl)
  decls all = chain is_decl next_decl all

  -- reads a module
  unfoldable pub a_module : Reader Token FilePart
  a_module = do
    at ← one (word_of keyword.Module)
    name ← one name_of
    one (sign_of sign.LeftBrace)
    all ← decls []
    end ← close
    pure (t.module_of at.start name all end)

  -- reads a module or a declaration
  unfoldable pub a_part : Reader Token FilePart
  a_part = choose (is_word keyword.Module) a_module (do x ← a_decl; pure (part.Decl x))

  -- reads one more of these
  abbrev pub next_part : SdlFile → Reader Token SdlFile
  next_part all = do
    x ← a_part
    pure (t.with_part all x)

  -- reads all up to the end
  unfoldable pub parts : SdlFile → Reader Token SdlFile
  parts all = chain is_part next_part all

  -- reads a schema text
  unfoldable pub file : Reader Token SdlFile
  file = parts t.no_parts
