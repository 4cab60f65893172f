-- What single tokens mean in a schema.
use Rattle.std.specs.Prelude.{Bool, not, ◌||◌, Option, Some, None, if◌then◌else◌}
use Rattle.ev_lex.specs.declared.token.Token.{Token}
use Rattle.ev_lex.specs.declared.token.Sign.TheVariants as sign
use Rattle.ev_lex.specs.declared.keyword.Keyword.TheVariants as keyword
use Rattle.ast.specs.declared.name.Name.{Name}
use Rattle.exact.specs.Reading.{has}
use Rattle.eql_grammar.specs.Words.{is_sign, is_word, name_of, need_of, width_of}
use Rattle.sdl_grammar.specs.declared.form.MemberForm.{MemberForm}
use Rattle.sdl_grammar.specs.declared.form.MemberForm.TheVariants as member
use Rattle.sdl_grammar.specs.declared.form.MemberWord.{MemberWord}
use Rattle.sdl_grammar.specs.declared.form.ItemForm.{ItemForm}
use Rattle.sdl_grammar.specs.declared.form.ItemForm.TheVariants as item
use Rattle.sdl_grammar.specs.declared.form.ItemWord.{ItemWord}

-- ---- words that begin members and items

-- What a word means where a member begins: keywords are matched without regard to case.
abbrev pub member_form : Token → MemberForm
member_form t =
    if is_word keyword.Overloaded t then member.Overloaded else
    (if is_word keyword.Property t then member.Property else
    (if is_word keyword.Link t then member.Link else
    (if is_word keyword.Index t then member.Index else
    (if is_word keyword.Annotation t then member.Annotation else
    (if is_word keyword.Access t then member.Access else member.Other)))))

-- What a word means where an item begins.
abbrev pub item_form : Token → ItemForm
item_form t =
    if is_word keyword.Overloaded t then item.Overloaded else
    (if is_word keyword.Property t then item.Property else
    (if is_word keyword.Constraint t then item.Constraint else
    (if is_word keyword.Delegated t then item.Delegated else
    (if is_word keyword.Default t then item.Default else
    (if is_word keyword.On t then item.On else
    (if is_word keyword.Annotation t then item.Annotation else item.Other))))))

-- A name with what it means where a member begins.
abbrev pub member_named : MemberForm → Option Name → Option MemberWord
member_named form None = None
member_named form (Some name) = Some (record { form = form; name = name })

-- A word where a member begins: a name, and what it means there if it is none.
abbrev pub member_word_of : Token → Option MemberWord
member_word_of t = member_named (member_form t) (name_of t)

-- A name with what it means where an item begins.
abbrev pub item_named : ItemForm → Option Name → Option ItemWord
item_named form None = None
item_named form (Some name) = Some (record { form = form; name = name })

-- A word where an item begins: a name, and what it means there if it is none.
abbrev pub item_word_of : Token → Option ItemWord
item_word_of t = item_named (item_form t) (name_of t)

-- ---- sets of tokens

-- whether the token is `required`, `optional`, `single` or `multi`
abbrev pub is_qualifier : Token → Bool
is_qualifier t = has need_of t || has width_of t

-- whether the token stands behind a name and before a type
abbrev pub is_typing : Token → Bool
is_typing t = is_sign sign.Colon t || is_sign sign.Arrow t

-- whether the token stands behind the name of a pointer
abbrev pub is_pointing : Token → Bool
is_pointing t = is_sign sign.Colon t || (is_sign sign.Arrow t || is_sign sign.Assign t)

-- whether the token begins a declaration
abbrev pub is_decl : Token → Bool
is_decl t = is_word keyword.Abstract t || (is_word keyword.Type t || is_word keyword.Global t)

-- whether the token begins a part of a file
abbrev pub is_part : Token → Bool
is_part t = is_word keyword.Module t || is_decl t

-- whether members or items may go on with the token: neither a closing brace nor a semicolon begins one
abbrev pub goes_on : Token → Bool
goes_on t = not (is_sign sign.RightBrace t || is_sign sign.Semicolon t)
