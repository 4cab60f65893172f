-- The same members and items, by the word that they begin with: in this form one token to look at decides what comes next.
use Rattle.std.specs.Prelude.{ℕ, true, false, Some}
use Rattle.ev_lex.specs.declared.token.Token.{Token}
use Rattle.ev_lex.specs.declared.keyword.Keyword.TheVariants as keyword
use Rattle.ast.specs.declared.name.Name.{Name}
use Rattle.eql_grammar.specs.declared.grown.GrownExpr.{GrownExpr}
use Rattle.eql_grammar.specs.Words.{word_of, name_of}
use Rattle.std.specs.Prelude.{Bool}
use Rattle.sdl_ast.specs.declared.member.Member.{Member}
use Rattle.sdl_ast.specs.declared.member.Member.TheVariants as member
use Rattle.sdl_ast.specs.declared.member.PointerKind.{PointerKind}
use Rattle.sdl_ast.specs.declared.member.PointerKind.TheVariants as pointer_kind
use Rattle.sdl_ast.specs.declared.item.Item.{Item}
use Rattle.sdl_ast.specs.declared.item.Item.TheVariants as item
use Rattle.sdl_grammar.specs.declared.form.MemberForm.{MemberForm}
use Rattle.sdl_grammar.specs.declared.form.MemberForm.TheVariants as member_form
use Rattle.sdl_grammar.specs.declared.form.ItemForm.{ItemForm}
use Rattle.sdl_grammar.specs.declared.form.ItemForm.TheVariants as item_form
use Rattle.sdl_grammar.specs.declared.part.Quals.{Quals}
use Rattle.sdl_grammar.specs.Words.{member_word_of, item_word_of}
use Rattle.sdl_grammar.specs.Trees.{no_quals, overloaded, qualified, pointer_head, bare_head}
use Rattle.sdl_grammar.specs.Grammar as g
use Rattle.sdl_grammar.specs.Grammar.{Words}
use Rattle.exact.specs.Language.{Lang, ◌>>=◌, ◌>>◌, Empty, One, Either}

module _ (high : ℕ → Bool) (Expr : Lang Token GrownExpr) where
  -- what stands behind the words of Quals and the word `name`, which is `property` or the property's name
  abbrev pub PropertyOf : ItemForm → Quals → Name → Lang Token Item
  PropertyOf item_form.Property q name = Either (g.Propertied high Expr (bare_head q name)) (do own ← One name_of; g.Propertied high Expr (pointer_head q name.span.start (Some pointer_kind.Property) own))
  PropertyOf _ q name = g.Propertied high Expr (bare_head q name)

  -- [property] Name (':' | '->') QName ('{' {Annot} '}' [';'] | ';'), behind the words of Quals
  abbrev pub Property : Quals → Lang Token Item
  Property q = do
    word ← One item_word_of
    PropertyOf word.form q word.name

  -- what stands behind the word `name` where an item begins with it
  abbrev pub ItemOf : ItemForm → Name → Lang Token Item
  ItemOf item_form.Overloaded name =
      Either (g.Propertied high Expr (bare_head no_quals name))
      (Either (do q ← Words; Property (qualified (overloaded name.span.start) q)) (Property (overloaded name.span.start)))
  ItemOf item_form.Property name = PropertyOf item_form.Property no_quals name
  ItemOf item_form.Constraint name = Either (g.Propertied high Expr (bare_head no_quals name)) (g.Constrained high Expr name.span.start false)
  ItemOf item_form.Delegated name = Either (g.Propertied high Expr (bare_head no_quals name)) (do One (word_of keyword.Constraint); g.Constrained high Expr name.span.start true)
  ItemOf item_form.Default name = Either (g.Propertied high Expr (bare_head no_quals name)) (g.Defaulted high Expr name.span.start)
  ItemOf item_form.On name = Either (g.Propertied high Expr (bare_head no_quals name)) (g.Deleting high Expr name.span.start)
  ItemOf item_form.Annotation name = Either (g.Propertied high Expr (bare_head no_quals name)) (do x ← g.Annotated high Expr name.span.start; Empty (item.Annotation x))
  ItemOf item_form.Other name = g.Propertied high Expr (bare_head no_quals name)

  -- an item, by its first word
  abbrev pub ItemByWord : Lang Token Item
  ItemByWord =
      Either (do q ← Words; Property (qualified no_quals q))
      (do word ← One item_word_of; ItemOf word.form word.name)

  -- what stands behind the words of Quals and the word `property` or `link`, which may be the pointer's name
  abbrev pub WithKind : PointerKind → Quals → Name → Lang Token Member
  WithKind kind q name = Either (g.Pointed high Expr (bare_head q name)) (do own ← One name_of; g.Pointed high Expr (pointer_head q name.span.start (Some kind) own))

  -- what stands behind the words of Quals and the word `name`, which is `property` or `link` or the pointer's name
  abbrev pub PointerOf : MemberForm → Quals → Name → Lang Token Member
  PointerOf member_form.Property q name = WithKind pointer_kind.Property q name
  PointerOf member_form.Link q name = WithKind pointer_kind.Link q name
  PointerOf _ q name = g.Pointed high Expr (bare_head q name)

  -- [property | link] Name and what stands behind it, behind the words of Quals
  abbrev pub Pointer : Quals → Lang Token Member
  Pointer q = do
    word ← One member_word_of
    PointerOf word.form q word.name

  -- what stands behind the word `name` where a member begins with it
  abbrev pub MemberOf : MemberForm → Name → Lang Token Member
  MemberOf member_form.Overloaded name =
      Either (g.Pointed high Expr (bare_head no_quals name))
      (Either (do q ← Words; Pointer (qualified (overloaded name.span.start) q)) (Pointer (overloaded name.span.start)))
  MemberOf member_form.Property name = PointerOf member_form.Property no_quals name
  MemberOf member_form.Link name = PointerOf member_form.Link no_quals name
  MemberOf member_form.Index name = Either (g.Pointed high Expr (bare_head no_quals name)) (g.Indexed high Expr name.span.start)
  MemberOf member_form.Annotation name = Either (g.Pointed high Expr (bare_head no_quals name)) (do x ← g.Annotated high Expr name.span.start; Empty (member.Annotation x))
  MemberOf member_form.Access name = Either (g.Pointed high Expr (bare_head no_quals name)) (g.Policed high Expr name.span.start)
  MemberOf member_form.Other name = g.Pointed high Expr (bare_head no_quals name)

  -- a member, by its first word
  abbrev pub MemberByWord : Lang Token Member
  MemberByWord =
      Either (do q ← Words; Pointer (qualified no_quals q))
      (do word ← One member_word_of; MemberOf word.form word.name)
