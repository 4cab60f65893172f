-- What the next token begins, by what the cursor tells of it.
use Rattle.std.proofs.Common.{◌≡◌, Bool, true, false, not, ◌||◌, List, [], ◌∷◌, Option, Some, None, refl}
use Rattle.exact.specs.Reading.{Got, and_then, heads, inside, one, taken}
use Rattle.ev_lex.specs.declared.token.Token.{Token}
use Rattle.ev_lex.specs.declared.token.Sign.TheVariants as sign
use Rattle.ev_lex.specs.declared.keyword.Keyword.TheVariants as keyword
use Rattle.ast.specs.declared.name.Name.{Name}
use Rattle.eql_grammar.specs.Words.{is_sign, is_word, name_of}
use Rattle.sdl_grammar.specs.declared.form.MemberForm.{MemberForm}
use Rattle.sdl_grammar.specs.declared.form.ItemForm.{ItemForm}
use Rattle.sdl_grammar.specs.Words.{member_form, member_named, member_word_of, item_form, item_named, item_word_of, is_typing, is_pointing, is_decl, is_part, goes_on}
use Rattle.sdl_parse.specs.Ahead.{member_form_ahead, item_form_ahead}

pub typing_ahead : (ts : List Token) → heads is_typing ts ≡ (heads (is_sign sign.Colon) ts || heads (is_sign sign.Arrow) ts)
typing_ahead [] = refl
typing_ahead (t ∷ ts) = refl

pub pointing_ahead : (ts : List Token) → heads is_pointing ts ≡ (heads (is_sign sign.Colon) ts || (heads (is_sign sign.Arrow) ts || heads (is_sign sign.Assign) ts))
pointing_ahead [] = refl
pointing_ahead (t ∷ ts) = refl

pub decl_ahead : (ts : List Token) → heads is_decl ts ≡ (heads (is_word keyword.Abstract) ts || (heads (is_word keyword.Type) ts || heads (is_word keyword.Global) ts))
decl_ahead [] = refl
decl_ahead (t ∷ ts) = refl

pub part_ahead : (ts : List Token) → heads is_part ts ≡ (heads (is_word keyword.Module) ts || heads is_decl ts)
part_ahead [] = refl
part_ahead (t ∷ ts) = refl

neither : (a b : Bool) → not (a || b) ≡ not (not (not a) || b)
neither true b = refl
neither false b = refl

pub more_ahead : (ts : List Token) → heads goes_on ts ≡ not (not (heads (inside (is_sign sign.RightBrace)) ts) || heads (is_sign sign.Semicolon) ts)
more_ahead [] = refl
more_ahead (t ∷ ts) = neither (is_sign sign.RightBrace t) (is_sign sign.Semicolon t)

member_taken : (form : MemberForm) (o : Option Name) (t : Token) (ts : List Token) → taken false (member_named form o) t ts ≡ and_then (taken false o t ts) (λ name rest. Got (record { form = form; name = name }) rest)
member_taken form None t ts = refl
member_taken form (Some name) t ts = refl

pub member_word_read : (ts : List Token) → one member_word_of ts ≡ and_then (one name_of ts) (λ name rest. Got (record { form = member_form_ahead ts; name = name }) rest)
member_word_read [] = refl
member_word_read (t ∷ ts) = member_taken (member_form t) (name_of t) t ts

item_taken : (form : ItemForm) (o : Option Name) (t : Token) (ts : List Token) → taken false (item_named form o) t ts ≡ and_then (taken false o t ts) (λ name rest. Got (record { form = form; name = name }) rest)
item_taken form None t ts = refl
item_taken form (Some name) t ts = refl

pub item_word_read : (ts : List Token) → one item_word_of ts ≡ and_then (one name_of ts) (λ name rest. Got (record { form = item_form_ahead ts; name = name }) rest)
item_word_read [] = refl
item_word_read (t ∷ ts) = item_taken (item_form t) (name_of t) t ts
