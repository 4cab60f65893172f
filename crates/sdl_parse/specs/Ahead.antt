-- What the next word means where a member or an item begins.
use Rattle.std.specs.Prelude.{List, if◌then◌else◌}
use Rattle.exact.specs.Reading.{heads}
use Rattle.ev_lex.specs.declared.token.Token.{Token}
use Rattle.ev_lex.specs.declared.keyword.Keyword.TheVariants as keyword
use Rattle.eql_grammar.specs.Words.{is_word}
use Rattle.sdl_grammar.specs.declared.form.MemberForm.{MemberForm}
use Rattle.sdl_grammar.specs.declared.form.MemberForm.TheVariants as member
use Rattle.sdl_grammar.specs.declared.form.ItemForm.{ItemForm}
use Rattle.sdl_grammar.specs.declared.form.ItemForm.TheVariants as item

-- what the next word means where a member begins
abbrev pub member_form_ahead : List Token → MemberForm
member_form_ahead ts =
    if heads (is_word keyword.Overloaded) ts then member.Overloaded else
    (if heads (is_word keyword.Property) ts then member.Property else
    (if heads (is_word keyword.Link) ts then member.Link else
    (if heads (is_word keyword.Index) ts then member.Index else
    (if heads (is_word keyword.Annotation) ts then member.Annotation else
    (if heads (is_word keyword.Access) ts then member.Access else member.Other)))))

-- what the next word means where an item begins
abbrev pub item_form_ahead : List Token → ItemForm
item_form_ahead ts =
    if heads (is_word keyword.Overloaded) ts then item.Overloaded else
    (if heads (is_word keyword.Property) ts then item.Property else
    (if heads (is_word keyword.Constraint) ts then item.Constraint else
    (if heads (is_word keyword.Delegated) ts then item.Delegated else
    (if heads (is_word keyword.Default) ts then item.Default else
    (if heads (is_word keyword.On) ts then item.On else
    (if heads (is_word keyword.Annotation) ts then item.Annotation else item.Other))))))
