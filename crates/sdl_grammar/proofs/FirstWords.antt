-- What the word that a member or an item begins with is read as.
use Rattle.std.proofs.Common.{◌≡◌, Bool, true, false, cond, Option, Some, None, refl, sym, ap, subst, ◌∙◌}
use Rattle.ev_lex.specs.declared.token.Token.{Token}
use Rattle.ev_lex.specs.declared.keyword.Keyword.TheVariants as keyword
use Rattle.ast.specs.declared.name.Span.{Span}
use Rattle.ast.specs.declared.name.Name.{Name}
use Rattle.eql_grammar.specs.declared.class.Class.{Class}
use Rattle.eql_grammar.specs.declared.class.Class.TheVariants.{Sign as ASign, Reserved, Named, Number, Literal}
use Rattle.eql_grammar.specs.Words.{class_of, span, text_of, is, is_word, word_class, same_class, same_sign, same_keyword, mark_of, word_of, name_in, name_of}
use Rattle.eql_grammar.proofs.Sets.{class_is}
use Rattle.sdl_grammar.specs.declared.form.MemberForm.{MemberForm}
use Rattle.sdl_grammar.specs.declared.form.MemberForm.TheVariants as member
use Rattle.sdl_grammar.specs.declared.form.MemberWord.{MemberWord}
use Rattle.sdl_grammar.specs.declared.form.ItemForm.{ItemForm}
use Rattle.sdl_grammar.specs.declared.form.ItemForm.TheVariants as item
use Rattle.sdl_grammar.specs.declared.form.ItemWord.{ItemWord}
use Rattle.sdl_grammar.specs.Words.{member_form, member_named, member_word_of, item_form, item_named, item_word_of}
use Rattle.sdl_grammar.proofs.Sets.{member_some, item_some}

mark_at : (c : Class) (t : Token) (s : Span) → mark_of c t ≡ Some s → (class_of t ≡ c) × (span t ≡ s)
mark_at c t s h = from (is c t) refl
  where
    from : (b : Bool) → is c t ≡ b → (class_of t ≡ c) × (span t ≡ s)
    from true so = (class_is c t so, let e : ◌≡◌ {A = Option Span} (Some (span t)) (Some s) = sym (ap (λ (b : Bool). cond b (Some (span t)) None) so) ∙ h in cc)
    from false not_so = absurd (let bad : ◌≡◌ {A = Option Span} None (Some s) = sym (ap (λ (b : Bool). cond b (Some (span t)) None) not_so) ∙ h in cc)

name_span : (c : Class) (k : _) (s : Span) (x : Name) → name_in c k s ≡ Some x → s ≡ x.span
name_span (ASign a) k s x h = absurd cc
name_span (Reserved a) k s x h = absurd cc
name_span (Named o) k s x h = ap (λ (o : Option Name). elim o as (λ _. Span) [ None ↦ s | Some n ↦ n.span ]) h
name_span Number k s x h = absurd cc
name_span Literal k s x h = absurd cc

-- A word that is a keyword and a name stands where the name does.
pub word_known : (c : Class) (t : Token) (name : Name) → is c t ≡ true → name_of t ≡ Some name → mark_of c t ≡ Some name.span
word_known c t name so e = ap (λ (b : Bool). cond b (Some (span t)) None) so ∙ ap (λ (s : Span). Some s) (name_span (class_of t) t.kind (span t) name e)

-- ---- items

-- the same of a token that is taken to be of a class
item_word_at : Class → Token → Option ItemWord
item_word_at c t = item_named (cond (same_class (word_class keyword.Overloaded) c) item.Overloaded (cond (same_class (word_class keyword.Property) c) item.Property (cond (same_class (word_class keyword.Constraint) c) item.Constraint (cond (same_class (word_class keyword.Delegated) c) item.Delegated (cond (same_class (word_class keyword.Default) c) item.Default (cond (same_class (word_class keyword.On) c) item.On (cond (same_class (word_class keyword.Annotation) c) item.Annotation item.Other))))))) (name_in c t.kind (span t))

-- A word that means something where a item begins is read so.
pub item_Overloaded : (t : Token) (s : Span) → word_of keyword.Overloaded t ≡ Some s → item_word_of t ≡ Some (record { form = item.Overloaded; name = record { text = text_of t.kind; span = s } })
unfolding item_word_at same_sign same_keyword
item_Overloaded t s h = let e = mark_at (word_class keyword.Overloaded) t s h in ap (λ (c : Class). item_word_at c t) e.0 ∙ ap (λ (p : Span). Some (record { form = item.Overloaded; name = record { text = text_of t.kind; span = p } })) e.1

pub item_Property : (t : Token) (s : Span) → word_of keyword.Property t ≡ Some s → item_word_of t ≡ Some (record { form = item.Property; name = record { text = text_of t.kind; span = s } })
unfolding item_word_at same_sign same_keyword
item_Property t s h = let e = mark_at (word_class keyword.Property) t s h in ap (λ (c : Class). item_word_at c t) e.0 ∙ ap (λ (p : Span). Some (record { form = item.Property; name = record { text = text_of t.kind; span = p } })) e.1

pub item_Constraint : (t : Token) (s : Span) → word_of keyword.Constraint t ≡ Some s → item_word_of t ≡ Some (record { form = item.Constraint; name = record { text = text_of t.kind; span = s } })
unfolding item_word_at same_sign same_keyword
item_Constraint t s h = let e = mark_at (word_class keyword.Constraint) t s h in ap (λ (c : Class). item_word_at c t) e.0 ∙ ap (λ (p : Span). Some (record { form = item.Constraint; name = record { text = text_of t.kind; span = p } })) e.1

pub item_Delegated : (t : Token) (s : Span) → word_of keyword.Delegated t ≡ Some s → item_word_of t ≡ Some (record { form = item.Delegated; name = record { text = text_of t.kind; span = s } })
unfolding item_word_at same_sign same_keyword
item_Delegated t s h = let e = mark_at (word_class keyword.Delegated) t s h in ap (λ (c : Class). item_word_at c t) e.0 ∙ ap (λ (p : Span). Some (record { form = item.Delegated; name = record { text = text_of t.kind; span = p } })) e.1

pub item_Default : (t : Token) (s : Span) → word_of keyword.Default t ≡ Some s → item_word_of t ≡ Some (record { form = item.Default; name = record { text = text_of t.kind; span = s } })
unfolding item_word_at same_sign same_keyword
item_Default t s h = let e = mark_at (word_class keyword.Default) t s h in ap (λ (c : Class). item_word_at c t) e.0 ∙ ap (λ (p : Span). Some (record { form = item.Default; name = record { text = text_of t.kind; span = p } })) e.1

pub item_On : (t : Token) (s : Span) → word_of keyword.On t ≡ Some s → item_word_of t ≡ Some (record { form = item.On; name = record { text = text_of t.kind; span = s } })
unfolding item_word_at same_sign same_keyword
item_On t s h = let e = mark_at (word_class keyword.On) t s h in ap (λ (c : Class). item_word_at c t) e.0 ∙ ap (λ (p : Span). Some (record { form = item.On; name = record { text = text_of t.kind; span = p } })) e.1

pub item_Annotation : (t : Token) (s : Span) → word_of keyword.Annotation t ≡ Some s → item_word_of t ≡ Some (record { form = item.Annotation; name = record { text = text_of t.kind; span = s } })
unfolding item_word_at same_sign same_keyword
item_Annotation t s h = let e = mark_at (word_class keyword.Annotation) t s h in ap (λ (c : Class). item_word_at c t) e.0 ∙ ap (λ (p : Span). Some (record { form = item.Annotation; name = record { text = text_of t.kind; span = p } })) e.1

-- Which of the words it is, where it is read as the one of a form.
abbrev pub ItemIs : ItemForm → Bool → Bool → Bool → Bool → Bool → Bool → Bool → Type 0
ItemIs item.Overloaded a b c d e g h = a ≡ true
ItemIs item.Property a b c d e g h = b ≡ true
ItemIs item.Constraint a b c d e g h = c ≡ true
ItemIs item.Delegated a b c d e g h = d ≡ true
ItemIs item.Default a b c d e g h = e ≡ true
ItemIs item.On a b c d e g h = g ≡ true
ItemIs item.Annotation a b c d e g h = h ≡ true
ItemIs item.Other a b c d e g h = Unit {0}

item_by : (a b c d e g h : Bool) → ItemIs (cond (a) item.Overloaded (cond (b) item.Property (cond (c) item.Constraint (cond (d) item.Delegated (cond (e) item.Default (cond (g) item.On (cond (h) item.Annotation item.Other))))))) a b c d e g h
item_by true b c d e g h = refl
item_by false true c d e g h = refl
item_by false false true d e g h = refl
item_by false false false true e g h = refl
item_by false false false false true g h = refl
item_by false false false false false true h = refl
item_by false false false false false false true = refl
item_by false false false false false false false = tt

item_form_some : (form : ItemForm) (o : Option Name) (w : ItemWord) → item_named form o ≡ Some w → form ≡ w.form
item_form_some form None w h = absurd cc
item_form_some form (Some name) w h = ap (λ (o : Option ItemWord). elim o as (λ _. ItemForm) [ None ↦ form | Some w ↦ w.form ]) h

-- what is known of the token that such a word is
pub record ItemWordAt (t : Token) (form : ItemForm) (name : Name) : Type 0 where
  pub read : item_word_of t ≡ Some (record { form = form; name = name })
  pub named : name_of t ≡ Some name
  pub is : ItemIs form (is_word keyword.Overloaded t) (is_word keyword.Property t) (is_word keyword.Constraint t) (is_word keyword.Delegated t) (is_word keyword.Default t) (is_word keyword.On t) (is_word keyword.Annotation t)

pub item_word_known : (t : Token) (w : ItemWord) → item_word_of t ≡ Some w → ItemWordAt t w.form w.name
item_word_known t w h = record {
  read = h;
  named = item_some (item_form t) (name_of t) w h;
  is = subst (λ (f : ItemForm). ItemIs f (is_word keyword.Overloaded t) (is_word keyword.Property t) (is_word keyword.Constraint t) (is_word keyword.Delegated t) (is_word keyword.Default t) (is_word keyword.On t) (is_word keyword.Annotation t)) (item_form_some (item_form t) (name_of t) w h) (item_by (is_word keyword.Overloaded t) (is_word keyword.Property t) (is_word keyword.Constraint t) (is_word keyword.Delegated t) (is_word keyword.Default t) (is_word keyword.On t) (is_word keyword.Annotation t));
}

-- ---- members

-- the same of a token that is taken to be of a class
member_word_at : Class → Token → Option MemberWord
member_word_at c t = member_named (cond (same_class (word_class keyword.Overloaded) c) member.Overloaded (cond (same_class (word_class keyword.Property) c) member.Property (cond (same_class (word_class keyword.Link) c) member.Link (cond (same_class (word_class keyword.Index) c) member.Index (cond (same_class (word_class keyword.Annotation) c) member.Annotation (cond (same_class (word_class keyword.Access) c) member.Access member.Other)))))) (name_in c t.kind (span t))

-- A word that means something where a member begins is read so.
pub member_Overloaded : (t : Token) (s : Span) → word_of keyword.Overloaded t ≡ Some s → member_word_of t ≡ Some (record { form = member.Overloaded; name = record { text = text_of t.kind; span = s } })
unfolding member_word_at same_sign same_keyword
member_Overloaded t s h = let e = mark_at (word_class keyword.Overloaded) t s h in ap (λ (c : Class). member_word_at c t) e.0 ∙ ap (λ (p : Span). Some (record { form = member.Overloaded; name = record { text = text_of t.kind; span = p } })) e.1

pub member_Property : (t : Token) (s : Span) → word_of keyword.Property t ≡ Some s → member_word_of t ≡ Some (record { form = member.Property; name = record { text = text_of t.kind; span = s } })
unfolding member_word_at same_sign same_keyword
member_Property t s h = let e = mark_at (word_class keyword.Property) t s h in ap (λ (c : Class). member_word_at c t) e.0 ∙ ap (λ (p : Span). Some (record { form = member.Property; name = record { text = text_of t.kind; span = p } })) e.1

pub member_Link : (t : Token) (s : Span) → word_of keyword.Link t ≡ Some s → member_word_of t ≡ Some (record { form = member.Link; name = record { text = text_of t.kind; span = s } })
unfolding member_word_at same_sign same_keyword
member_Link t s h = let e = mark_at (word_class keyword.Link) t s h in ap (λ (c : Class). member_word_at c t) e.0 ∙ ap (λ (p : Span). Some (record { form = member.Link; name = record { text = text_of t.kind; span = p } })) e.1

pub member_Index : (t : Token) (s : Span) → word_of keyword.Index t ≡ Some s → member_word_of t ≡ Some (record { form = member.Index; name = record { text = text_of t.kind; span = s } })
unfolding member_word_at same_sign same_keyword
member_Index t s h = let e = mark_at (word_class keyword.Index) t s h in ap (λ (c : Class). member_word_at c t) e.0 ∙ ap (λ (p : Span). Some (record { form = member.Index; name = record { text = text_of t.kind; span = p } })) e.1

pub member_Annotation : (t : Token) (s : Span) → word_of keyword.Annotation t ≡ Some s → member_word_of t ≡ Some (record { form = member.Annotation; name = record { text = text_of t.kind; span = s } })
unfolding member_word_at same_sign same_keyword
member_Annotation t s h = let e = mark_at (word_class keyword.Annotation) t s h in ap (λ (c : Class). member_word_at c t) e.0 ∙ ap (λ (p : Span). Some (record { form = member.Annotation; name = record { text = text_of t.kind; span = p } })) e.1

pub member_Access : (t : Token) (s : Span) → word_of keyword.Access t ≡ Some s → member_word_of t ≡ Some (record { form = member.Access; name = record { text = text_of t.kind; span = s } })
unfolding member_word_at same_sign same_keyword
member_Access t s h = let e = mark_at (word_class keyword.Access) t s h in ap (λ (c : Class). member_word_at c t) e.0 ∙ ap (λ (p : Span). Some (record { form = member.Access; name = record { text = text_of t.kind; span = p } })) e.1

-- Which of the words it is, where it is read as the one of a form.
abbrev pub MemberIs : MemberForm → Bool → Bool → Bool → Bool → Bool → Bool → Type 0
MemberIs member.Overloaded a b c d e g = a ≡ true
MemberIs member.Property a b c d e g = b ≡ true
MemberIs member.Link a b c d e g = c ≡ true
MemberIs member.Index a b c d e g = d ≡ true
MemberIs member.Annotation a b c d e g = e ≡ true
MemberIs member.Access a b c d e g = g ≡ true
MemberIs member.Other a b c d e g = Unit {0}

member_by : (a b c d e g : Bool) → MemberIs (cond (a) member.Overloaded (cond (b) member.Property (cond (c) member.Link (cond (d) member.Index (cond (e) member.Annotation (cond (g) member.Access member.Other)))))) a b c d e g
member_by true b c d e g = refl
member_by false true c d e g = refl
member_by false false true d e g = refl
member_by false false false true e g = refl
member_by false false false false true g = refl
member_by false false false false false true = refl
member_by false false false false false false = tt

member_form_some : (form : MemberForm) (o : Option Name) (w : MemberWord) → member_named form o ≡ Some w → form ≡ w.form
member_form_some form None w h = absurd cc
member_form_some form (Some name) w h = ap (λ (o : Option MemberWord). elim o as (λ _. MemberForm) [ None ↦ form | Some w ↦ w.form ]) h

-- what is known of the token that such a word is
pub record MemberWordAt (t : Token) (form : MemberForm) (name : Name) : Type 0 where
  pub read : member_word_of t ≡ Some (record { form = form; name = name })
  pub named : name_of t ≡ Some name
  pub is : MemberIs form (is_word keyword.Overloaded t) (is_word keyword.Property t) (is_word keyword.Link t) (is_word keyword.Index t) (is_word keyword.Annotation t) (is_word keyword.Access t)

pub member_word_known : (t : Token) (w : MemberWord) → member_word_of t ≡ Some w → MemberWordAt t w.form w.name
member_word_known t w h = record {
  read = h;
  named = member_some (member_form t) (name_of t) w h;
  is = subst (λ (f : MemberForm). MemberIs f (is_word keyword.Overloaded t) (is_word keyword.Property t) (is_word keyword.Link t) (is_word keyword.Index t) (is_word keyword.Annotation t) (is_word keyword.Access t)) (member_form_some (member_form t) (name_of t) w h) (member_by (is_word keyword.Overloaded t) (is_word keyword.Property t) (is_word keyword.Link t) (is_word keyword.Index t) (is_word keyword.Annotation t) (is_word keyword.Access t));
}
