-- The grammar of schemas: which tokens spell which tree, with nothing behind an expression that is too high.
-- Words that are not reserved are matched in their places without regard to case, and are names elsewhere.
-- The comment before each language is its production.
use Rattle.std.specs.Prelude.{ℕ, Bool, true, false, List, [], ◌∷◌, Option, Some, None}
use Rattle.ev_lex.specs.declared.token.Token.{Token}
use Rattle.ev_lex.specs.declared.token.Sign.TheVariants as sign
use Rattle.ev_lex.specs.declared.keyword.Keyword.TheVariants as keyword
use Rattle.ast.specs.declared.name.Name.{Name}
use Rattle.ast.specs.declared.name.QualifiedName.{QualifiedName}
use Rattle.ast.specs.declared.expression.Expr as ast
use Rattle.eql_grammar.specs.declared.grown.GrownExpr.{GrownExpr}
use Rattle.eql_grammar.specs.declared.grown.Bunch.{Bunch}
use Rattle.eql_grammar.specs.declared.grown.Qualified.{Qualified}
use Rattle.eql_grammar.specs.Words.{sign_of, word_of, name_of, need_of, width_of}
use Rattle.eql_grammar.specs.Trees.{nothing_yet, alone, added, both_words}
use Rattle.eql_grammar.specs.Grammar.{QName}
use Rattle.sdl_ast.specs.declared.declaration.SdlFile.{SdlFile}
use Rattle.sdl_ast.specs.declared.declaration.FilePart.{FilePart}
use Rattle.sdl_ast.specs.declared.declaration.FilePart.TheVariants as part
use Rattle.sdl_ast.specs.declared.declaration.Decl.{Decl}
use Rattle.sdl_ast.specs.declared.member.Member.{Member}
use Rattle.sdl_ast.specs.declared.member.Member.TheVariants as member
use Rattle.sdl_ast.specs.declared.member.PointerKind.TheVariants as pointer_kind
use Rattle.sdl_ast.specs.declared.member.Annotation.{Annotation}
use Rattle.sdl_ast.specs.declared.member.Action.{Action}
use Rattle.sdl_ast.specs.declared.member.Action.TheVariants as action
use Rattle.sdl_ast.specs.declared.member.PolicyKind.{PolicyKind}
use Rattle.sdl_ast.specs.declared.member.PolicyKind.TheVariants as kind
use Rattle.sdl_ast.specs.declared.member.PolicyKinds.{PolicyKinds}
use Rattle.sdl_ast.specs.declared.member.PolicyKinds.TheVariants as kinds
use Rattle.sdl_ast.specs.declared.item.Item.{Item}
use Rattle.sdl_ast.specs.declared.item.Item.TheVariants as item
use Rattle.sdl_ast.specs.declared.item.DeletionWord.{DeletionWord}
use Rattle.sdl_ast.specs.declared.item.DeletionWord.TheVariants as deletion_word
use Rattle.sdl_grammar.specs.declared.part.Quals.{Quals}
use Rattle.sdl_grammar.specs.declared.part.PointerHead.{PointerHead}
use Rattle.sdl_grammar.specs.declared.part.EndedExpr.{EndedExpr}
use Rattle.sdl_grammar.specs.declared.part.NoteBlock.{NoteBlock}
use Rattle.sdl_grammar.specs.declared.part.ItemBlock.{ItemBlock}
use Rattle.sdl_grammar.specs.declared.part.MemberBlock.{MemberBlock}
use Rattle.sdl_grammar.specs.Trees.{behind, ended, annotation, notes, items, members, no_quals, overloaded, qualified, turned_words, pointer_head, bare_head, link_property, constraint, default_item, deletion, stored, computed, index, policy, type_decl, global_decl, module_of, no_parts, with_part}
use Rattle.exact.specs.Language.{Lang, ◌>>=◌, ◌>>◌, Empty, One, OneWithin, Either, Chain}

-- '}' [';'], and the byte behind it
abbrev pub Close : Lang Token ℕ
Close = do
  close ← One (sign_of sign.RightBrace)
  Either (do at ← One (sign_of sign.Semicolon); Empty at.end) (Empty close.end)

-- (':' | '->') QName
abbrev pub Typed : Lang Token QualifiedName
Typed = do
  Either (One (sign_of sign.Colon)) (One (sign_of sign.Arrow))
  QName

-- Need [Width] | Width [Need], where Need is required or optional, and Width is single or multi
abbrev pub Words : Lang Token Qualified
Words =
    Either (do first ← One need_of; Either (do second ← One width_of; Empty (both_words first second)) (Empty first))
    (do first ← One width_of; Either (do second ← One need_of; Empty (turned_words first second)) (Empty first))

-- [overloaded]
abbrev pub Overloaded : Lang Token Quals
Overloaded = Either (do at ← One (word_of keyword.Overloaded); Empty (overloaded at.start)) (Empty no_quals)

-- Quals: [overloaded] ([Need] [Width] | [Width] [Need]). With at most one of the latter words both orders are one derivation.
abbrev pub QualWords : Lang Token Quals
QualWords = do
  before ← Overloaded
  Either (do q ← Words; Empty (qualified before q)) (Empty before)

-- [property] Name, behind the words of Quals
abbrev pub PropertyName : Quals → Lang Token PointerHead
PropertyName q =
    Either (do at ← One (word_of keyword.Property); name ← One name_of; Empty (pointer_head q at.start (Some pointer_kind.Property) name))
    (do name ← One name_of; Empty (bare_head q name))

-- [property | link] Name, behind the words of Quals
abbrev pub PointerName : Quals → Lang Token PointerHead
PointerName q =
    Either (do at ← One (word_of keyword.Property); name ← One name_of; Empty (pointer_head q at.start (Some pointer_kind.Property) name))
    (Either (do at ← One (word_of keyword.Link); name ← One name_of; Empty (pointer_head q at.start (Some pointer_kind.Link) name))
    (do name ← One name_of; Empty (bare_head q name)))

-- `high` says which heights are too high, and `Expr` is what an expression is.
module _ (high : ℕ → Bool) (Expr : Lang Token GrownExpr) where
  -- Expr ';'
  abbrev pub Value : Lang Token EndedExpr
  Value = do
    x ← Expr
    at ← OneWithin (high x.height) (sign_of sign.Semicolon)
    Empty (ended x at)

  -- '(' Expr ')'
  abbrev pub Enclosed : Lang Token ast.Expr
  Enclosed = do
    One (sign_of sign.LeftParen)
    x ← Expr
    OneWithin (high x.height) (sign_of sign.RightParen)
    Empty x.expr

  -- annotation Name ':=' Expr ';', behind its first word, which stands at the byte `start`
  abbrev pub Annotated : ℕ → Lang Token Annotation
  Annotated start = do
    name ← One name_of
    One (sign_of sign.Assign)
    x ← Value
    Empty (annotation start name x)

  -- {annotation Name ':=' Expr ';'}
  abbrev pub Annots : List Annotation → Lang Token (List Annotation)
  Annots = Chain (λ all. do at ← One (word_of keyword.Annotation); x ← Annotated at.start; Empty (behind all x))

  -- '{' {Annot} '}' [';'] | ';'
  abbrev pub Notes : Lang Token NoteBlock
  Notes =
      Either (do One (sign_of sign.LeftBrace); all ← Annots []; end ← Close; Empty (notes all end))
      (do at ← One (sign_of sign.Semicolon); Empty (notes [] at.end))

  -- ---- items

  -- Quals [property] Name (':' | '->') QName ('{' {Annot} '}' [';'] | ';'), behind the name
  abbrev pub Propertied : PointerHead → Lang Token Item
  Propertied head = do
    ty ← Typed
    block ← Notes
    Empty (link_property head ty block)

  -- {',' Expr}
  abbrev pub Further : Bunch → Lang Token Bunch
  Further = Chain (λ all. do OneWithin (high all.height) (sign_of sign.Comma); x ← Expr; Empty (added all x))

  -- '(' Expr {',' Expr} ')'
  abbrev pub Arguments : Lang Token Bunch
  Arguments = do
    One (sign_of sign.LeftParen)
    x ← Expr
    all ← Further (alone x)
    OneWithin (high all.height) (sign_of sign.RightParen)
    Empty all

  -- [delegated] constraint Name ['(' Expr {',' Expr} ')'] ';', behind `constraint`
  abbrev pub Constrained : ℕ → Bool → Lang Token Item
  Constrained start delegated = do
    name ← One name_of
    all ← Either Arguments (Empty nothing_yet)
    at ← One (sign_of sign.Semicolon)
    Empty (constraint start delegated name all at)

  -- default ':=' Expr ';', behind `default`
  abbrev pub Defaulted : ℕ → Lang Token Item
  Defaulted start = do
    One (sign_of sign.Assign)
    x ← Value
    Empty (default_item start x)

  -- Name | delete
  abbrev pub FirstWord : Lang Token DeletionWord
  FirstWord = Either (do at ← One (word_of keyword.Delete); Empty (deletion_word.Delete at)) (do name ← One name_of; Empty (deletion_word.Name name))

  -- {Name}
  abbrev pub Names : List Name → Lang Token (List Name)
  Names = Chain (λ all. do name ← One name_of; Empty (behind all name))

  -- on target delete (Name | delete) {Name} ';', behind `on`
  abbrev pub Deleting : ℕ → Lang Token Item
  Deleting start = do
    One (word_of keyword.Target)
    One (word_of keyword.Delete)
    first ← FirstWord
    more ← Names []
    at ← One (sign_of sign.Semicolon)
    Empty (deletion start first more at)

  -- [delegated] constraint Name ['(' Expr {',' Expr} ')'] ';'
  abbrev pub Constraint : Lang Token Item
  Constraint =
      Either (do at ← One (word_of keyword.Delegated); One (word_of keyword.Constraint); Constrained at.start true)
      (do at ← One (word_of keyword.Constraint); Constrained at.start false)

  -- default ':=' Expr ';'
  abbrev pub Default : Lang Token Item
  Default = do
    at ← One (word_of keyword.Default)
    Defaulted at.start

  -- on target delete (Name | delete) {Name} ';'
  abbrev pub Deletion : Lang Token Item
  Deletion = do
    at ← One (word_of keyword.On)
    Deleting at.start

  -- Quals [property] Name (':' | '->') QName ('{' {Annot} '}' [';'] | ';')
  abbrev pub LinkProperty : Lang Token Item
  LinkProperty = do
    q ← QualWords
    head ← PropertyName q
    Propertied head

  -- [delegated] constraint .. | default .. | on target delete .. | Annot | Quals [property] Name ..
  abbrev pub AnItem : Lang Token Item
  AnItem = Either Constraint (Either Default (Either Deletion (Either (do at ← One (word_of keyword.Annotation); x ← Annotated at.start; Empty (item.Annotation x)) LinkProperty)))

  -- {Item}
  abbrev pub SomeItems : List Item → Lang Token (List Item)
  SomeItems = Chain (λ all. do x ← AnItem; Empty (behind all x))

  -- '{' {Item} '}' [';'] | ';'
  abbrev pub Items : Lang Token ItemBlock
  Items =
      Either (do One (sign_of sign.LeftBrace); all ← SomeItems []; end ← Close; Empty (items all end))
      (do at ← One (sign_of sign.Semicolon); Empty (items [] at.end))

  -- ---- members

  -- (':' | '->') QName ('{' {Item} '}' [';'] | ';') | ':=' Expr ';', behind the name of a pointer
  abbrev pub Pointed : PointerHead → Lang Token Member
  Pointed head =
      Either (do ty ← Typed; block ← Items; Empty (stored head ty block))
      (do One (sign_of sign.Assign); x ← Value; Empty (computed head x))

  -- index on '(' Expr ')' ';', behind `index`
  abbrev pub Indexed : ℕ → Lang Token Member
  Indexed start = do
    One (word_of keyword.On)
    x ← Enclosed
    at ← One (sign_of sign.Semicolon)
    Empty (index start x at)

  -- allow | deny
  abbrev pub AllowOrDeny : Lang Token Action
  AllowOrDeny = Either (do One (word_of keyword.Allow); Empty action.Allow) (do One (word_of keyword.Deny); Empty action.Deny)

  -- update [read | write]
  abbrev pub Updating : Lang Token PolicyKind
  Updating = do
    One (word_of keyword.Update)
    Either (do One (word_of keyword.Read); Empty kind.UpdateRead)
        (Either (do One (word_of keyword.Write); Empty kind.UpdateWrite)
        (Empty kind.Update))

  -- select | insert | delete | update [read | write]
  abbrev pub Kind : Lang Token PolicyKind
  Kind =
      Either (do One (word_of keyword.Select); Empty kind.Select)
      (Either (do One (word_of keyword.Insert); Empty kind.Insert)
      (Either (do One (word_of keyword.Delete); Empty kind.Delete)
      Updating))

  -- {',' Kind}
  abbrev pub FurtherKinds : List PolicyKind → Lang Token (List PolicyKind)
  FurtherKinds = Chain (λ all. do One (sign_of sign.Comma); x ← Kind; Empty (behind all x))

  -- all | Kind {',' Kind}
  abbrev pub Kinds : Lang Token PolicyKinds
  Kinds =
      Either (do One (word_of keyword.All); Empty kinds.All)
      (do first ← Kind; all ← FurtherKinds (first ∷ []); Empty (kinds.These all))

  -- [using '(' Expr ')']
  abbrev pub Using : Lang Token (Option ast.Expr)
  Using = Either (do One (word_of keyword.Using); x ← Enclosed; Empty (Some x)) (Empty None)

  -- access policy Name (allow | deny) (all | Kind {',' Kind}) [using '(' Expr ')'] ('{' {Annot} '}' [';'] | ';'), behind `access`
  abbrev pub Policed : ℕ → Lang Token Member
  Policed start = do
    One (word_of keyword.Policy)
    name ← One name_of
    action ← AllowOrDeny
    kinds ← Kinds
    condition ← Using
    block ← Notes
    Empty (policy start name action kinds condition block)

  -- Quals [property | link] Name (':' | '->') QName ('{' {Item} '}' [';'] | ';') | Quals [property | link] Name ':=' Expr ';'
  abbrev pub Pointer : Lang Token Member
  Pointer = do
    q ← QualWords
    head ← PointerName q
    Pointed head

  -- access policy Name ..
  abbrev pub Policy : Lang Token Member
  Policy = do
    at ← One (word_of keyword.Access)
    Policed at.start

  -- index on '(' Expr ')' ';'
  abbrev pub Index : Lang Token Member
  Index = do
    at ← One (word_of keyword.Index)
    Indexed at.start

  -- Ptr | Policy | index on '(' Expr ')' ';' | Annot
  abbrev pub AMember : Lang Token Member
  AMember = Either Pointer (Either Policy (Either Index (do at ← One (word_of keyword.Annotation); x ← Annotated at.start; Empty (member.Annotation x))))

  -- {Member}
  abbrev pub SomeMembers : List Member → Lang Token (List Member)
  SomeMembers = Chain (λ all. do x ← AMember; Empty (behind all x))

  -- '{' {Member} '}' [';'] | ';'
  abbrev pub Members : Lang Token MemberBlock
  Members =
      Either (do One (sign_of sign.LeftBrace); all ← SomeMembers []; end ← Close; Empty (members all end))
      (do at ← One (sign_of sign.Semicolon); Empty (members [] at.end))

  -- ---- declarations

  -- {',' QName}
  abbrev pub FurtherBases : List QualifiedName → Lang Token (List QualifiedName)
  FurtherBases = Chain (λ all. do One (sign_of sign.Comma); x ← QName; Empty (behind all x))

  -- [extending QName {',' QName}]
  abbrev pub Bases : Lang Token (List QualifiedName)
  Bases = Either (do One (word_of keyword.Extending); first ← QName; FurtherBases (first ∷ [])) (Empty [])

  -- [abstract] type Name [extending QName {',' QName}] ('{' {Member} '}' [';'] | ';'), behind `type`
  abbrev pub TypeOf : ℕ → Bool → Lang Token Decl
  TypeOf start is_abstract = do
    name ← One name_of
    bases ← Bases
    block ← Members
    Empty (type_decl start is_abstract name bases block)

  -- global Name (':' | '->') QName ';'
  abbrev pub Global : Lang Token Decl
  Global = do
    at ← One (word_of keyword.Global)
    name ← One name_of
    ty ← Typed
    end ← One (sign_of sign.Semicolon)
    Empty (global_decl at.start name ty end)

  -- [abstract] type Name .. | global Name ..
  abbrev pub ADecl : Lang Token Decl
  ADecl =
      Either (do at ← One (word_of keyword.Abstract); One (word_of keyword.Type); TypeOf at.start true)
      (Either (do at ← One (word_of keyword.Type); TypeOf at.start false)
      Global)

  -- {Decl}
  abbrev pub Decls : List Decl → Lang Token (List Decl)
  Decls = Chain (λ all. do x ← ADecl; Empty (behind all x))

  -- module Name '{' {Decl} '}' [';']
  abbrev pub AModule : Lang Token FilePart
  AModule = do
    at ← One (word_of keyword.Module)
    name ← One name_of
    One (sign_of sign.LeftBrace)
    all ← Decls []
    end ← Close
    Empty (module_of at.start name all end)

  -- module Name '{' {Decl} '}' [';'] | Decl
  abbrev pub APart : Lang Token FilePart
  APart = Either AModule (do x ← ADecl; Empty (part.Decl x))

  -- {module Name '{' {Decl} '}' [';'] | Decl}
  abbrev pub File : Lang Token SdlFile
  File = Chain (λ file. do x ← APart; Empty (with_part file x)) no_parts
