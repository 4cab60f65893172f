-- What is read behind the first word of an item or a member, where that word is no name.
use Rattle.std.specs.Prelude.{ℕ, true}
use Rattle.exact.specs.Reading.{Reader, ◌>>=◌, ◌>>◌, pure, one}
use Rattle.ev_lex.specs.declared.token.Token.{Token}
use Rattle.ev_lex.specs.declared.keyword.Keyword.TheVariants as keyword
use Rattle.eql_grammar.specs.Words.{word_of}
use Rattle.eql_grammar.specs.Trees.{too_high}
use Rattle.sdl_ast.specs.declared.item.Item.{Item}
use Rattle.sdl_ast.specs.declared.item.Item.TheVariants as item
use Rattle.sdl_ast.specs.declared.member.Member.{Member}
use Rattle.sdl_ast.specs.declared.member.Member.TheVariants as member
use Rattle.sdl_grammar.specs.Readers.{constrained, annotated, text_expr}

-- a constraint behind `delegated`
abbrev pub delegated_constraint : ℕ → Reader Token Item
delegated_constraint start = do
  one (word_of keyword.Constraint)
  constrained too_high text_expr start true

-- an annotation as an item, behind its first word
abbrev pub item_annotation : ℕ → Reader Token Item
item_annotation start = do
  x ← annotated too_high text_expr start
  pure (item.Annotation x)

-- an annotation as a member, behind its first word
abbrev pub member_annotation : ℕ → Reader Token Member
member_annotation start = do
  x ← annotated too_high text_expr start
  pure (member.Annotation x)
