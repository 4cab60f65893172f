-- Sets of tokens of schemas, and some token of each kind.
use Rattle.std.proofs.Common.{◌≡◌, ℕ, Bool, true, false, not, ◌||◌, Option, Some, None, [], ◌∷◌, refl, ap}
use Rattle.ev_lex.specs.declared.token.Token.{Token}
use Rattle.ev_lex.specs.declared.token.Sign.TheVariants as sign
use Rattle.ev_lex.specs.declared.keyword.Keyword.TheVariants as keyword
use Rattle.ast.specs.declared.name.Name.{Name}
use Rattle.ast.specs.declared.shape.Need.TheVariants as need
use Rattle.ast.specs.declared.shape.Width.TheVariants as width
use Rattle.eql_grammar.specs.declared.class.Class.{Class}
use Rattle.eql_grammar.specs.declared.class.Class.TheVariants.{Sign as ASign, Reserved}
use Rattle.eql_grammar.specs.Words.{is_sign, word_class, same_sign, same_keyword, sign_of, name_of, need_of, width_of, needed, wide}
use Rattle.eql_grammar.specs.Trees.{both_words}
use Rattle.eql_grammar.proofs.Sets.{At, AtNames, Sample, begins_name, begins_one_mark, begins_either_word, either_at, either_has, got, go, lead, or_left, or_one, or_other, or_right, some_name, some_need, some_sign, some_width, word_sample}
use Rattle.eql_grammar.proofs.Exprs.{exact_qname}
use Rattle.exact.specs.Language.{Lang, Then, One}
use Rattle.exact.specs.Reading.{has, inside}
use Rattle.exact.proofs.Heads.{Begins, Avoids, never, begins_one, begins_then, begins_either, avoids_begins, avoids_begun, avoids_empty, avoids_none}
use Rattle.exact.proofs.Laws.{Open, IsExactAt, exact_pure, exact_one, exact_then, exact_lead, exact_choose}
use Rattle.sdl_grammar.specs.declared.form.MemberForm.{MemberForm}
use Rattle.sdl_grammar.specs.declared.form.MemberWord.{MemberWord}
use Rattle.sdl_grammar.specs.declared.form.ItemForm.{ItemForm}
use Rattle.sdl_grammar.specs.declared.form.ItemWord.{ItemWord}
use Rattle.sdl_grammar.specs.Words.{member_form, member_named, member_word_of, item_form, item_named, item_word_of, is_qualifier}
use Rattle.sdl_grammar.specs.Trees as t
use Rattle.sdl_grammar.specs.Grammar as g
use Rattle.sdl_grammar.specs.Readers as r

-- ---- some token of each keyword

pub word_Module : Sample (word_class keyword.Module)
unfolding same_keyword
word_Module = word_sample keyword.Module refl refl

pub word_Abstract : Sample (word_class keyword.Abstract)
unfolding same_keyword
word_Abstract = word_sample keyword.Abstract refl refl

pub word_Type : Sample (word_class keyword.Type)
unfolding same_keyword
word_Type = word_sample keyword.Type refl refl

pub word_Extending : Sample (word_class keyword.Extending)
unfolding same_keyword
word_Extending = word_sample keyword.Extending refl refl

pub word_On : Sample (word_class keyword.On)
unfolding same_keyword
word_On = word_sample keyword.On refl refl

pub word_Annotation : Sample (word_class keyword.Annotation)
unfolding same_keyword
word_Annotation = word_sample keyword.Annotation refl refl

pub word_Constraint : Sample (word_class keyword.Constraint)
unfolding same_keyword
word_Constraint = word_sample keyword.Constraint refl refl

pub word_Target : Sample (word_class keyword.Target)
unfolding same_keyword
word_Target = word_sample keyword.Target refl refl

pub word_Policy : Sample (word_class keyword.Policy)
unfolding same_keyword
word_Policy = word_sample keyword.Policy refl refl

pub word_Allow : Sample (word_class keyword.Allow)
unfolding same_keyword
word_Allow = word_sample keyword.Allow refl refl

pub word_Deny : Sample (word_class keyword.Deny)
unfolding same_keyword
word_Deny = word_sample keyword.Deny refl refl

pub word_All : Sample (word_class keyword.All)
unfolding same_keyword
word_All = word_sample keyword.All refl refl

pub word_Using : Sample (word_class keyword.Using)
unfolding same_keyword
word_Using = word_sample keyword.Using refl refl

pub word_Read : Sample (word_class keyword.Read)
unfolding same_keyword
word_Read = word_sample keyword.Read refl refl

pub word_Write : Sample (word_class keyword.Write)
unfolding same_keyword
word_Write = word_sample keyword.Write refl refl

pub word_Insert : Sample (word_class keyword.Insert)
unfolding same_keyword
word_Insert = word_sample keyword.Insert refl refl

pub word_Delete : Sample (word_class keyword.Delete)
unfolding same_keyword
word_Delete = word_sample keyword.Delete refl refl

pub word_Update : Sample (word_class keyword.Update)
unfolding same_keyword
word_Update = word_sample keyword.Update refl refl

-- ---- words that begin members and items

pub member_some : (form : MemberForm) (o : Option Name) (w : MemberWord) → member_named form o ≡ Some w → o ≡ Some w.name
member_some form None w h = absurd cc
member_some form (Some name) w h = ap (λ (o : Option MemberWord). elim o as (λ _. Option Name) [ None ↦ None | Some w ↦ Some w.name ]) h

pub item_some : (form : ItemForm) (o : Option Name) (w : ItemWord) → item_named form o ≡ Some w → o ≡ Some w.name
item_some form None w h = absurd cc
item_some form (Some name) w h = ap (λ (o : Option ItemWord). elim o as (λ _. Option Name) [ None ↦ None | Some w ↦ Some w.name ]) h

pub begins_member_word : {first : Token → Bool} → AtNames first true → Begins first (One member_word_of)
begins_member_word {first} h = begins_one member_word_of (λ t w e. (begins_name {first = first} h).at 0 (t ∷ []) w.name (t, refl, member_some (member_form t) (name_of t) w e))

pub begins_item_word : {first : Token → Bool} → AtNames first true → Begins first (One item_word_of)
begins_item_word {first} h = begins_one item_word_of (λ t w e. (begins_name {first = first} h).at 0 (t ∷ []) w.name (t, refl, item_some (item_form t) (name_of t) w e))

pub record SomeMemberWord : Type 0 where
  pub token : Token
  pub word : MemberWord
  pub known : member_word_of token ≡ Some word

pub some_member_word : SomeMemberWord
some_member_word = record { token = some_name.token; word = record { form = member_form some_name.token; name = some_name.name }; known = ap (member_named (member_form some_name.token)) some_name.known }

pub record SomeItemWord : Type 0 where
  pub token : Token
  pub word : ItemWord
  pub known : item_word_of token ≡ Some word

pub some_item_word : SomeItemWord
some_item_word = record { token = some_name.token; word = record { form = item_form some_name.token; name = some_name.name }; known = ap (item_named (item_form some_name.token)) some_name.known }

-- ---- the words of need and width

widths_no_need : (t : Token) → has width_of t ≡ true → has need_of t ≡ false
unfolding same_sign same_keyword
widths_no_need = either_has keyword.Single keyword.Multi (wide width.Single) (wide width.Multi) (λ t e. ap (λ d. got (either_at keyword.Required (needed need.Required t) keyword.Optional (needed need.Optional t) d)) e) (λ t e. ap (λ d. got (either_at keyword.Required (needed need.Required t) keyword.Optional (needed need.Optional t) d)) e)

-- the same of a token that is taken to be of a class
qualifier_at : Class → Token → Bool
qualifier_at c t = got (either_at keyword.Required (needed need.Required t) keyword.Optional (needed need.Optional t) c) || got (either_at keyword.Single (wide width.Single t) keyword.Multi (wide width.Multi t) c)

-- a name is none of the words
pub names_no_words : AtNames (inside is_qualifier) true
unfolding qualifier_at same_sign same_keyword
names_no_words o t e = ap (λ c. not (qualifier_at c t)) e

pub exact_words : IsExactAt Open g.Words g.Words r.words (λ _. is_qualifier)
unfolding r.words
exact_words =
    exact_choose
    (exact_lead need_of some_need.token some_need.found some_need.known
    (λ first. exact_choose (exact_lead width_of some_width.token some_width.found some_width.known (λ second. exact_pure (both_words first second))) (exact_pure first) (begins_then (begins_either_word width_of (λ t e. e))) (avoids_empty first (λ t. or_right (has need_of t) (has width_of t)))))
    (exact_lead width_of some_width.token some_width.found some_width.known
    (λ first. exact_choose (exact_lead need_of some_need.token some_need.found some_need.known (λ second. exact_pure (t.turned_words first second))) (exact_pure first) (begins_then (begins_either_word need_of (λ t e. e))) (avoids_empty first (λ t. or_left (has need_of t) (has width_of t)))))
    (begins_then (begins_either_word need_of (λ t e. e)))
    (avoids_begins (begins_then (begins_either_word width_of (λ t e. e))) widths_no_need)

pub words_begin : {first : Token → Bool} → At (Reserved keyword.Required) first true → At (Reserved keyword.Optional) first true → At (Reserved keyword.Single) first true → At (Reserved keyword.Multi) first true → Begins first g.Words
words_begin a b c d =
    begins_either (begins_then (begins_either_word need_of (either_has keyword.Required keyword.Optional (needed need.Required) (needed need.Optional) a b)))
    (begins_then (begins_either_word width_of (either_has keyword.Single keyword.Multi (wide width.Single) (wide width.Multi) c d)))

pub words_first : Begins is_qualifier g.Words
words_first =
    begins_either (begins_then (begins_either_word need_of (λ t. or_one (has need_of t) (has width_of t))))
    (begins_then (begins_either_word width_of (λ t. or_other (has need_of t) (has width_of t))))

-- ---- signs

pub exact_close : IsExactAt Open g.Close g.Close r.close (λ _. is_sign sign.Semicolon)
unfolding r.close same_sign same_keyword
exact_close =
    lead (some_sign sign.RightBrace)
    (λ brace. exact_choose (lead (some_sign sign.Semicolon) (λ at. exact_pure at.end)) (exact_pure brace.end) (begins_then (begins_one_mark (ASign sign.Semicolon) (λ t e. rw e refl))) (avoids_empty brace.end (λ t e. e)))

-- what ends with a closing brace does not go on with another token
pub close_avoids : {A : Type 0} {set : Token → Bool} {M : ℕ → Lang Token A} {on : A → Token → Bool} → At (ASign sign.RightBrace) set false → Avoids set (Then g.Close M) on
close_avoids {A} {set} h = avoids_begun (begins_then (begins_then (begins_one_mark {first = inside set} (ASign sign.RightBrace) (λ t e. ap not (h t e)))))

pub exact_typed : IsExactAt Open g.Typed g.Typed r.typed (λ _. go 23)
unfolding r.typed same_sign same_keyword
exact_typed =
    let colon = some_sign sign.Colon in let arrow = some_sign sign.Arrow in
    exact_then {go = λ _. never}
    (exact_choose {go = λ _. never} (exact_one (sign_of sign.Colon) colon.token colon.place colon.known) (exact_one (sign_of sign.Arrow) arrow.token arrow.place arrow.known)
    (begins_one_mark (ASign sign.Colon) (λ t e. rw e refl))
    (avoids_begun (begins_one_mark (ASign sign.Arrow) (λ t e. rw e refl))))
    (λ _. exact_qname)
    (λ _. avoids_none)

pub typed_begins : {first : Token → Bool} → At (ASign sign.Colon) first true → At (ASign sign.Arrow) first true → Begins first g.Typed
typed_begins a b = begins_then (begins_either (begins_one_mark (ASign sign.Colon) a) (begins_one_mark (ASign sign.Arrow) b))
