-- Sets of tokens: signs and keywords, those with which a text goes on, and those that begin one.
use Rattle.std.proofs.Common.{◌≡◌, ℕ, ◌+◌, ◌≤◌, ◌<◌, Bool, true, false, not, cond, ◌||◌, ◌==◌, Option, Some, None, codes, refl, sym, ap, ◌∙◌, arith, inl, inr, ◌⊎◌}
use Rattle.std.proofs.Math.Dec.{leb}
use Rattle.std.proofs.lemmas.Bool.{lt-leb, leb-false, eqb-true}
use denote.Enum.Bare.{same_true, true_same}
use Rattle.ev_lex.specs.contracts.token.Sign.{the_type as sign_type}
use Rattle.ev_lex.specs.contracts.keyword.Keyword.{the_type as keyword_type}
use Rattle.ev_lex.specs.declared.token.Token.{Token}
use Rattle.ev_lex.specs.declared.token.TokenKind.TheVariants as kind
use Rattle.ev_lex.specs.declared.token.Sign.{Sign}
use Rattle.ev_lex.specs.declared.token.Sign.TheVariants as sign
use Rattle.ev_lex.specs.declared.keyword.Keyword.{Keyword}
use Rattle.ev_lex.specs.declared.keyword.Keyword.TheVariants as keyword
use Rattle.ev_lex.specs.Keyword.{keyword_text, keyword_of, IsWordOf}
use Rattle.ev_lex.proofs.Keywords.{keyword_found}
use Rattle.ast.specs.declared.name.Span.{Span}
use Rattle.ast.specs.declared.name.Name.{Name}
use Rattle.ast.specs.declared.expression.Expr.{Expr}
use Rattle.eql_grammar.specs.declared.grown.Leveled.{Leveled}
use Rattle.eql_grammar.specs.declared.grown.Infix.{Infix}
use Rattle.eql_grammar.specs.declared.grown.Prefix.{Prefix}
use Rattle.eql_grammar.specs.Words.{word_class, class_of_word, class_of, span, same_sign, same_keyword, same_class, is, is_sign, is_word, mark_of, comma_of, ends_aliases, either_word, name_in, name_of, parameter_of, number_or_text, literal_of, infix_in, infix_if, infix_of, prefix_in, prefix_of, needed, need_of, wide, width_of, directed, direction_of, put, place_of}
use Rattle.eql_grammar.specs.declared.class.Class.{Class}
use Rattle.eql_grammar.specs.declared.class.Class.TheVariants.{Sign as ASign, Reserved, Named, Number, Literal}
use Rattle.ast.specs.declared.operator.UnaryOperator.TheVariants as unary
use Rattle.ast.specs.declared.shape.Need.TheVariants as need
use Rattle.ast.specs.declared.shape.Width.TheVariants as width
use Rattle.ast.specs.declared.statement.EmptyPlace.TheVariants as empty
use Rattle.eql_grammar.specs.declared.grown.Qualified.{Qualified}
use Rattle.eql_grammar.specs.declared.grown.Direction.{Direction}
use Rattle.eql_grammar.specs.declared.grown.Placement.{Placement}
use Rattle.exact.specs.Language.{Lang, One, OneWithin, Then}
use Rattle.exact.specs.Reading.{Reader, has, inside, one, one_within, ◌>>=◌}
use Rattle.exact.proofs.Heads.{Begins, Avoids, begins_one, begins_one_within, begins_then, avoids_begun}
use Rattle.exact.proofs.Single.{has_some}
use Rattle.exact.proofs.Laws.{Mode, lowered, IsExactAt, exact_lead, exact_behind, exact_open, exact_within}

-- ---- a sign or keyword

-- What a set says of each token of the class.
abbrev pub At : Class → (Token → Bool) → Bool → Type 0
At c set b = (t : Token) → class_of t ≡ c → set t ≡ b

same_class_is : (c d : Class) → same_class c d ≡ true → d ≡ c
unfolding same_sign same_keyword
same_class_is (ASign a) (ASign b) h = ap (λ (x : Sign). ASign x) (sym (same_true sign_type _ a b h))
same_class_is (ASign a) (Reserved b) h = absurd cc
same_class_is (ASign a) (Named b) h = absurd cc
same_class_is (ASign a) Number h = absurd cc
same_class_is (ASign a) Literal h = absurd cc
same_class_is (Reserved a) (ASign b) h = absurd cc
same_class_is (Reserved a) (Reserved b) h = ap (λ (x : Keyword). Reserved x) (sym (same_true keyword_type _ a b h))
same_class_is (Reserved a) (Named b) h = absurd cc
same_class_is (Reserved a) Number h = absurd cc
same_class_is (Reserved a) Literal h = absurd cc
same_class_is (Named (Some a)) (ASign b) h = absurd cc
same_class_is (Named (Some a)) (Reserved b) h = absurd cc
same_class_is (Named (Some a)) (Named (Some b)) h = ap (λ (x : Keyword). Named (Some x)) (sym (same_true keyword_type _ a b h))
same_class_is (Named (Some a)) (Named None) h = absurd cc
same_class_is (Named (Some a)) Number h = absurd cc
same_class_is (Named (Some a)) Literal h = absurd cc
same_class_is (Named None) d h = absurd cc
same_class_is Number d h = absurd cc
same_class_is Literal d h = absurd cc

pub class_is : (c : Class) (t : Token) → is c t ≡ true → class_of t ≡ c
class_is c t h = same_class_is c (class_of t) h

flip : {A : Type 0} (b : Bool) → (b ≡ true → A) → (b ≡ false → A) → A
flip true yes_case no_case = yes_case refl
flip false yes_case no_case = no_case refl

clash : {A : Type 0} (b : Bool) → b ≡ true → b ≡ false → A
clash b h none = absurd (let bad : true ≡ false = sym h ∙ none in cc)

pub at_mark : (c : Class) {set : Token → Bool} {b : Bool} → At c set b → (t : Token) → is c t ≡ true → set t ≡ b
at_mark c {set} {b} h t so = h t (class_is c t so)

pub covers_mark : (c : Class) {set : Token → Bool} → At c set true → (t : Token) → set t ≡ false → is c t ≡ false
covers_mark c {set} h t none = flip (is c t) (λ so. clash (set t) (at_mark c h t so) none) (λ not_so. not_so)

pub lacks_mark : (c : Class) {set : Token → Bool} → At c set false → (t : Token) → set t ≡ true → is c t ≡ false
lacks_mark c {set} h t some = flip (is c t) (λ so. clash (set t) some (at_mark c h t so)) (λ not_so. not_so)

pub outside_mark : (c : Class) {set : Token → Bool} → At c set false → (t : Token) → set t ≡ true → inside (is c) t ≡ true
outside_mark c {set} h t some = ap not (lacks_mark c {set = set} h t some)

pub closes_mark : (c : Class) {set : Token → Bool} {b : Bool} → At c set b → (t : Token) → inside (is c) t ≡ false → set t ≡ b
closes_mark c {set} {b} h t e = flip (is c t) (λ so. at_mark c h t so) (λ not_so. clash (inside (is c) t) (ap not not_so) e)

mark_some : (c : Class) (t : Token) (s : Span) → mark_of c t ≡ Some s → is c t ≡ true
mark_some c t s h = flip (is c t) (λ so. so) (λ not_so. let bad : ◌≡◌ {A = Option Span} None (Some s) = sym (ap (λ (b : Bool). cond b (Some (span t)) None) not_so) ∙ h in absurd cc)

pub comma_some : (t : Token) (a : Unit {0}) → comma_of t ≡ Some a → is_sign sign.Comma t ≡ true
comma_some t a h = flip (is_sign sign.Comma t) (λ so. so) (λ not_so. let bad : ◌≡◌ {A = Option (Unit {0})} None (Some a) = sym (ap (λ (b : Bool). cond b (Some tt) None) not_so) ∙ h in absurd cc)

pub begins_mark : {over : Bool} {first : Token → Bool} (c : Class) → At c first true → Begins first (OneWithin over (mark_of c))
begins_mark {over} {first} c h = begins_one_within over (mark_of c) (λ t a e. at_mark c h t (mark_some c t a e))

pub begins_one_mark : {first : Token → Bool} (c : Class) → At c first true → Begins first (One (mark_of c))
begins_one_mark {first} c h = begins_one (mark_of c) (λ t a e. at_mark c h t (mark_some c t a e))

-- what begins with a sign or keyword that the set lacks
pub avoids_mark : {over : Bool} {A : Type 0} {M : Span → Lang Token A} {set : Token → Bool} {go : A → Token → Bool} (c : Class) → At c set false → Avoids set (Then (OneWithin over (mark_of c)) M) go
avoids_mark {over} {A} {M} {set} {go} c h = avoids_begun (begins_then (begins_mark {over = over} {first = inside set} c (λ t e. ap not (h t e))))

pub avoids_one_mark : {A : Type 0} {M : Span → Lang Token A} {set : Token → Bool} {go : A → Token → Bool} (c : Class) → At c set false → Avoids set (Then (One (mark_of c)) M) go
avoids_one_mark {A} {M} {set} {go} c h = avoids_begun (begins_then (begins_one_mark {first = inside set} c (λ t e. ap not (h t e))))

-- ---- some token of a class

pub record Sample (c : Class) : Type 0 where
  pub token : Token
  pub place : Span
  pub known : mark_of c token ≡ Some place

abbrev pub a_sign : Sign → Token
a_sign s = record { kind = kind.Sign s; start = 0; end = 0 }

abbrev pub a_word : Keyword → Token
a_word k = record { kind = kind.Word (keyword_text k); start = 0; end = 0 }

pub some_sign : (s : Sign) → Sample (ASign s)
unfolding class_of same_sign
some_sign s = record { token = a_sign s; place = span (a_sign s); known = ap (λ (b : Bool). cond b (Some (span (a_sign s))) None) (true_same sign_type s s refl) }

pub word_sample : (k : Keyword) → IsWordOf k (keyword_text k) → same_class (word_class k) (word_class k) ≡ true → Sample (word_class k)
unfolding class_of
word_sample k small same = record {
  token = a_word k;
  place = span (a_word k);
  known =
      let found : class_of (a_word k) ≡ word_class k = ap class_of_word (keyword_found (keyword_text k) k small) in
      ap (λ (b : Bool). cond b (Some (span (a_word k))) None) (ap (λ (d : Class). same_class (word_class k) d) found ∙ same);
}

pub word_With : Sample (word_class keyword.With)
unfolding same_keyword
word_With = word_sample keyword.With refl refl

pub word_For : Sample (word_class keyword.For)
unfolding same_keyword
word_For = word_sample keyword.For refl refl

pub word_Select : Sample (word_class keyword.Select)
unfolding same_keyword
word_Select = word_sample keyword.Select refl refl

pub word_Filter : Sample (word_class keyword.Filter)
unfolding same_keyword
word_Filter = word_sample keyword.Filter refl refl

pub word_Order : Sample (word_class keyword.Order)
unfolding same_keyword
word_Order = word_sample keyword.Order refl refl

pub word_By : Sample (word_class keyword.By)
unfolding same_keyword
word_By = word_sample keyword.By refl refl

pub word_Offset : Sample (word_class keyword.Offset)
unfolding same_keyword
word_Offset = word_sample keyword.Offset refl refl

pub word_Limit : Sample (word_class keyword.Limit)
unfolding same_keyword
word_Limit = word_sample keyword.Limit refl refl

pub word_Then : Sample (word_class keyword.Then)
unfolding same_keyword
word_Then = word_sample keyword.Then refl refl

pub word_Empty : Sample (word_class keyword.Empty)
unfolding same_keyword
word_Empty = word_sample keyword.Empty refl refl

pub word_Is : Sample (word_class keyword.Is)
unfolding same_keyword
word_Is = word_sample keyword.Is refl refl

pub word_In : Sample (word_class keyword.In)
unfolding same_keyword
word_In = word_sample keyword.In refl refl

pub word_Union : Sample (word_class keyword.Union)
unfolding same_keyword
word_Union = word_sample keyword.Union refl refl

pub word_If : Sample (word_class keyword.If)
unfolding same_keyword
word_If = word_sample keyword.If refl refl

pub word_Else : Sample (word_class keyword.Else)
unfolding same_keyword
word_Else = word_sample keyword.Else refl refl

pub word_Not : Sample (word_class keyword.Not)
unfolding same_keyword
word_Not = word_sample keyword.Not refl refl

pub word_Optional : Sample (word_class keyword.Optional)
unfolding same_keyword
word_Optional = word_sample keyword.Optional refl refl

pub word_Global : Sample (word_class keyword.Global)
unfolding same_keyword
word_Global = word_sample keyword.Global refl refl

pub word_Asc : Sample (word_class keyword.Asc)
unfolding same_keyword
word_Asc = word_sample keyword.Asc refl refl

pub word_Required : Sample (word_class keyword.Required)
unfolding same_keyword
word_Required = word_sample keyword.Required refl refl

pub word_Single : Sample (word_class keyword.Single)
unfolding same_keyword
word_Single = word_sample keyword.Single refl refl

pub word_First : Sample (word_class keyword.First)
unfolding same_keyword
word_First = word_sample keyword.First refl refl

pub some_comma : comma_of (a_sign sign.Comma) ≡ Some tt
unfolding class_of same_sign
some_comma = refl

-- ---- what follows a sign or keyword

pub lead : {A : Type 0} {mode : Mode} {c : Class} {M N : Span → Lang Token A} {Q : Span → Reader Token A} {go : A → Token → Bool} → Sample c
    → ((at : Span) → IsExactAt mode (M at) (N at) (Q at) go) → IsExactAt mode (Then (One (mark_of c)) M) (Then (One (mark_of c)) N) (one (mark_of c) >>= Q) go
lead {c = c} s q = exact_lead (mark_of c) s.token s.place s.known q

pub behind : {A : Type 0} {mode : Mode} {c : Class} {over wide : Bool} {M N : Span → Lang Token A} {Q : Span → Reader Token A} {go : A → Token → Bool} → Sample c → wide ≡ false
    → ((at : Span) → IsExactAt mode (M at) (N at) (Q at) go) → IsExactAt mode (Then (OneWithin over (mark_of c)) M) (Then (OneWithin wide (mark_of c)) N) (one_within over (mark_of c) >>= Q) go
behind {c = c} s free q = exact_behind (mark_of c) s.token s.place s.known free q

pub opening : {A : Type 0} {mode : Mode} {c : Class} {over wide : Bool} {M N : Span → Lang Token A} {Q : Span → Reader Token A} {go : A → Token → Bool} → Sample c → wide ≡ false
    → ((at : Span) → IsExactAt (lowered over mode) (M at) (N at) (Q at) go) → IsExactAt mode (Then (OneWithin over (mark_of c)) M) (Then (OneWithin wide (mark_of c)) N) (one_within over (mark_of c) >>= Q) go
opening {c = c} s free q = exact_open (mark_of c) s.token s.place s.known free q

pub opening_behind : {A : Type 0} {mode : Mode} {c : Class} {lower over wide : Bool} {M N : Span → Lang Token A} {Q : Span → Reader Token A} {go : A → Token → Bool} → Sample c → wide ≡ false → (over ≡ false → lower ≡ false)
    → ((at : Span) → IsExactAt (lowered lower mode) (M at) (N at) (Q at) go) → IsExactAt mode (Then (OneWithin over (mark_of c)) M) (Then (OneWithin wide (mark_of c)) N) (one_within over (mark_of c) >>= Q) go
opening_behind {c = c} s free opens q = exact_within (mark_of c) s.token s.place s.known free opens q

-- ---- one of two keywords

pub either_begins : {A : Type 0} {first : Token → Bool} (k l : Keyword) (a b : Token → A) → At (word_class k) first true → At (word_class l) first true
    → (t : Token) (x : A) → either_word k (a t) l (b t) t ≡ Some x → first t ≡ true
either_begins {A} {first} k l a b one_is other_is t x h = flip (is_word k t) (λ so. at_mark (word_class k) one_is t so) (λ none. flip (is_word l t) (λ so. at_mark (word_class l) other_is t so) (λ neither. absurd (let bad : ◌≡◌ {A = Option A} None (Some x) = sym (ap (λ (c : Bool). cond c (Some (a t)) (cond (is_word l t) (Some (b t)) None)) none ∙ ap (λ (c : Bool). cond c (Some (b t)) None) neither) ∙ h in cc)))

-- ---- names and literals

name_class : (c : Class) (k : _) (s : Span) (x : Name) → name_in c k s ≡ Some x → (o : Option Keyword) × (c ≡ Named o)
name_class (ASign a) k s x h = absurd cc
name_class (Reserved a) k s x h = absurd cc
name_class (Named o) k s x h = (o, refl)
name_class Number k s x h = absurd cc
name_class Literal k s x h = absurd cc

-- What a set says of names.
abbrev pub AtNames : (Token → Bool) → Bool → Type 0
AtNames set b = (o : Option Keyword) → At (Named o) set b

pub begins_name : {first : Token → Bool} → AtNames first true → Begins first (One name_of)
begins_name {first} h = begins_one name_of (λ t x e. let c = name_class (class_of t) t.kind (span t) x e in h c.0 t c.1)

-- What a set says of literals.
pub record AtLiterals (set : Token → Bool) (b : Bool) : Type 0 where
  pub number : At Number set b
  pub text : At Literal set b
  pub is_true : At (Reserved keyword.True) set b
  pub is_false : At (Reserved keyword.False) set b

literal_class : (c : Class) (k : _) (s : Span) (o : Option Expr) (x : Expr) → number_or_text c k s o ≡ Some x → ((c ≡ Number) ⊎ (c ≡ Literal)) ⊎ (o ≡ Some x)
literal_class (ASign a) k s o x h = inr h
literal_class (Reserved a) k s o x h = inr h
literal_class (Named a) k s o x h = inr h
literal_class Number k s o x h = inl (inl refl)
literal_class Literal k s o x h = inl (inr refl)

literal_first : {first : Token → Bool} → AtLiterals first true → (t : Token) (x : Expr) → literal_of t ≡ Some x → first t ≡ true
literal_first {first} h t x e = from (literal_class (class_of t) t.kind (span t) (either_word keyword.True (truth true t) keyword.False (truth false t) t) x e)
  where
    truth : Bool → Token → Expr
    truth b t = Rattle.ast.specs.declared.expression.Expr.Bool (span t) b

    from : ((class_of t ≡ Number) ⊎ (class_of t ≡ Literal)) ⊎ (either_word keyword.True (truth true t) keyword.False (truth false t) t ≡ Some x) → first t ≡ true
    from (inl (inl n)) = h.number t n
    from (inl (inr l)) = h.text t l
    from (inr o) = either_begins keyword.True keyword.False (truth true) (truth false) h.is_true h.is_false t x o

pub begins_literal : {first : Token → Bool} → AtLiterals first true → Begins first (One literal_of)
begins_literal {first} h = begins_one literal_of (literal_first h)

-- ---- operators

infix_level : (level : ℕ) (o : Option Leveled) (s : Span) (x : Infix) → infix_if level o s ≡ Some x → (i : Leveled) × (o ≡ Some i) × (i.level ≡ level)
infix_level level None s x h = absurd cc
infix_level level (Some i) s x h = flip (i.level == level) (λ so. (i, refl, eqb-true i.level level so)) (λ no_level. absurd (let bad : ◌≡◌ {A = Option Infix} None (Some x) = sym (ap (λ (b : Bool). cond b (Some (record { operator = i.operator; place = s })) None) no_level) ∙ h in cc))

-- How tightly a token binds behind what is read: clauses, looser than any operator, then operators by their level, then postfixes; 0 where it ends it.
abbrev pub others : Class → ℕ
others (Reserved keyword.Limit) = 1
others (Reserved keyword.Offset) = 2
others (Reserved keyword.Order) = 3
others (Named (Some keyword.Then)) = 4
others (Named (Some keyword.Empty)) = 5
others (Named (Some keyword.Asc)) = 6
others (Named (Some keyword.Desc)) = 6
others (Reserved keyword.Filter) = 7
others (Reserved keyword.If) = 12
others (Reserved keyword.Not) = 16
others (ASign sign.Dot) = 21
others (ASign sign.BackLink) = 21
others (ASign sign.At) = 21
others (ASign sign.LeftBracket) = 21
others (ASign sign.LeftBrace) = 21
others (ASign sign.LeftParen) = 22
others (ASign sign.Namespace) = 23
others _ = 0

abbrev pub binds_by : Option Leveled → ℕ → ℕ
binds_by None other = other
binds_by (Some i) other = i.level + 10

abbrev pub binds : Token → ℕ
binds t = binds_by (infix_in (class_of t)) (others (class_of t))

-- The tokens that bind so tightly or tighter.
abbrev pub go : ℕ → Token → Bool
go level t = leb level (binds t)

pub tighter : (least level : ℕ) → least ≤ level → (t : Token) → go least t ≡ false → go level t ≡ false
tighter least level le t h = lt-leb level (binds t) (let lt = leb-false least (binds t) h in omega arith)

infix_binds : (level : ℕ) (t : Token) (x : Infix) → infix_of level t ≡ Some x → binds t ≡ level + 10
infix_binds level t x h =
    let i = infix_level level (infix_in (class_of t)) (span t) x h in
    ap (λ (o : Option Leveled). binds_by o (others (class_of t))) i.1 ∙ ap (λ (l : ℕ). l + 10) i.2

has_infix : (level : ℕ) (t : Token) → has (infix_of level) t ≡ true → (x : Infix) × (infix_of level t ≡ Some x)
has_infix level t h = from (infix_of level t) refl
  where
    from : (o : Option Infix) → infix_of level t ≡ o → (x : Infix) × (infix_of level t ≡ Some x)
    from None e = clash (has (infix_of level) t) h (ap (λ (o : Option Infix). elim o as (λ _. Bool) [ None ↦ false | Some a ↦ true ]) e)
    from (Some x) e = (x, e)

pub has_infix_binds : (level : ℕ) (t : Token) → has (infix_of level) t ≡ true → binds t ≡ level + 10
has_infix_binds level t h = let x = has_infix level t h in infix_binds level t x.0 x.1

-- operators of a level, beside the tokens that bind so tightly
pub level_apart : (level other : ℕ) → level + 10 < other → (t : Token) → has (infix_of level) t ≡ true → go other t ≡ false
level_apart level other lt t h = lt-leb other (binds t) (let e = has_infix_binds level t h in omega arith)

pub level_covers : (level least : ℕ) → least ≤ level + 10 → (t : Token) → go least t ≡ false → has (infix_of level) t ≡ false
level_covers level least le t h = flip (has (infix_of level) t) (λ so. absurd (let e = has_infix_binds level t so in let lt = leb-false least (binds t) h in omega arith)) (λ none. none)

pub begins_infix : {over : Bool} {first : Token → Bool} (level : ℕ) → ((t : Token) → has (infix_of level) t ≡ true → first t ≡ true) → Begins first (OneWithin over (infix_of level))
begins_infix {over} {first} level h = begins_one_within over (infix_of level) (λ t x e. h t (has_some (infix_of level) t x e))

pub begins_prefix : {over : Bool} {first : Token → Bool} → ((t : Token) → has prefix_of t ≡ true → first t ≡ true) → Begins first (OneWithin over prefix_of)
begins_prefix {over} {first} h = begins_one_within over prefix_of (λ t x e. h t (has_some prefix_of t x e))

-- ---- what begins an atom, a prefix or atom, an expression

-- whether there is a value
abbrev pub got : {A : Type 0} → Option A → Bool
got o = elim o as (λ _. Bool) [ None ↦ false | Some a ↦ true ]

abbrev pub literal_at : Class → Token → Option Expr
literal_at c t = number_or_text c t.kind (span t) (cond (same_class (Reserved keyword.True) c) (Some (Rattle.ast.specs.declared.expression.Expr.Bool (span t) true)) (cond (same_class (Reserved keyword.False) c) (Some (Rattle.ast.specs.declared.expression.Expr.Bool (span t) false)) None))

-- the same of a token that is taken to be of a class
abbrev pub atom_at : Class → Token → Bool
atom_at c t =
    same_class (ASign sign.LeftParen) c || (same_class (ASign sign.LeftBrace) c || (got (literal_at c t) || (same_class (ASign sign.Dot) c || (same_class (ASign sign.BackLink) c || (same_class (ASign sign.At) c || (same_class (Reserved keyword.Global) c || got (name_in c t.kind (span t))))))))

abbrev pub operand_at : Class → Token → Bool
operand_at c t = same_class (ASign sign.Less) c || atom_at c t

abbrev pub unary_at : Class → Token → Bool
unary_at c t = got (prefix_in c (span t)) || operand_at c t

abbrev pub negation_at : Class → Token → Bool
negation_at c t = same_class (Reserved keyword.Not) c || unary_at c t

abbrev pub start_at : Class → Token → Bool
start_at c t = same_class (Reserved keyword.If) c || negation_at c t

abbrev pub atom_starts : Token → Bool
atom_starts t = atom_at (class_of t) t

abbrev pub operand_starts : Token → Bool
operand_starts t = operand_at (class_of t) t

abbrev pub unary_starts : Token → Bool
unary_starts t = unary_at (class_of t) t

abbrev pub negation_starts : Token → Bool
negation_starts t = negation_at (class_of t) t

abbrev pub starts : Token → Bool
starts t = start_at (class_of t) t

pub or_one : (a b : Bool) → a ≡ true → (a || b) ≡ true
or_one true b h = refl
or_one false b h = absurd cc

pub or_other : (a b : Bool) → b ≡ true → (a || b) ≡ true
or_other true b h = refl
or_other false b h = h

pub or_cases : {A : Type 0} (a b : Bool) → (a || b) ≡ true → (a ≡ true → A) → (b ≡ true → A) → A
or_cases true b h one other = one refl
or_cases false b h one other = other h

pub unary_in : (t : Token) → unary_starts t ≡ true → negation_starts t ≡ true
unary_in t h = or_other (is_word keyword.Not t) (unary_starts t) h

pub negation_in : (t : Token) → negation_starts t ≡ true → starts t ≡ true
negation_in t h = or_other (is_word keyword.If t) (negation_starts t) h

pub operand_in : (t : Token) → operand_starts t ≡ true → unary_starts t ≡ true
operand_in t h = or_other (has prefix_of t) (operand_starts t) h

pub prefix_in_unary : (t : Token) → has prefix_of t ≡ true → unary_starts t ≡ true
prefix_in_unary t h = or_one (has prefix_of t) (operand_starts t) h

pub atom_in : (t : Token) → atom_starts t ≡ true → operand_starts t ≡ true
atom_in t h = or_other (is_sign sign.Less t) (atom_starts t) h

pub name_in_atom : (t : Token) → has name_of t ≡ true → atom_starts t ≡ true
name_in_atom t h =
    or_other (is_sign sign.LeftParen t) _ (or_other (is_sign sign.LeftBrace t) _ (or_other (has literal_of t) _ (or_other (is_sign sign.Dot t) _ (or_other (is_sign sign.BackLink t) _ (or_other (is_sign sign.At t) _ (or_other (is_word keyword.Global t) (has name_of t) h))))))

has_name : (t : Token) → has name_of t ≡ true → (x : Name) × (name_of t ≡ Some x)
has_name t h = from (name_of t) refl
  where
    from : (o : Option Name) → name_of t ≡ o → (x : Name) × (name_of t ≡ Some x)
    from None e = clash (has name_of t) h (ap (λ (o : Option Name). elim o as (λ _. Bool) [ None ↦ false | Some a ↦ true ]) e)
    from (Some x) e = (x, e)

has_literal : (t : Token) → has literal_of t ≡ true → (x : Expr) × (literal_of t ≡ Some x)
has_literal t h = from (literal_of t) refl
  where
    from : (o : Option Expr) → literal_of t ≡ o → (x : Expr) × (literal_of t ≡ Some x)
    from None e = clash (has literal_of t) h (ap (λ (o : Option Expr). elim o as (λ _. Bool) [ None ↦ false | Some a ↦ true ]) e)
    from (Some x) e = (x, e)

pub at_name : {set : Token → Bool} → AtNames set false → (t : Token) → has name_of t ≡ true → set t ≡ false
at_name {set} h t e = let x = has_name t e in let c = name_class (class_of t) t.kind (span t) x.0 x.1 in h c.0 t c.1

pub at_literal : (set : Token → Bool) → AtLiterals (inside set) true → (t : Token) → has literal_of t ≡ true → set t ≡ false
at_literal set h t e = let x = has_literal t e in flip (set t) (λ so. clash (inside set t) (literal_first h t x.0 x.1) (ap not so)) (λ none. none)

pub or_left : (a b : Bool) → (a || b) ≡ false → a ≡ false
or_left true b h = absurd cc
or_left false b h = refl

pub or_right : (a b : Bool) → (a || b) ≡ false → b ≡ false
or_right true b h = absurd cc
or_right false b h = h

pub or_false : {a b : Bool} → a ≡ false → b ≡ false → (a || b) ≡ false
or_false {a} {b} h k = rw (h, k) refl

-- what a set says of all that begins an operand
pub operand_out : (set : Token → Bool) → At (ASign sign.Less) set false → At (ASign sign.LeftParen) set false → At (ASign sign.LeftBrace) set false → AtLiterals (inside set) true → At (ASign sign.Dot) set false
    → At (ASign sign.BackLink) set false → At (ASign sign.At) set false → At (Reserved keyword.Global) set false → AtNames set false → (t : Token) → operand_starts t ≡ true → set t ≡ false
operand_out set less paren brace literals dot back at global names t h =
    or_cases (is_sign sign.Less t) _ h (at_mark (ASign sign.Less) less t) (λ h. or_cases (is_sign sign.LeftParen t) _ h (at_mark (ASign sign.LeftParen) paren t) (λ h. or_cases (is_sign sign.LeftBrace t) _ h (at_mark (ASign sign.LeftBrace) brace t) (λ h. or_cases (has literal_of t) _ h (at_literal set literals t)
    (λ h. or_cases (is_sign sign.Dot t) _ h (at_mark (ASign sign.Dot) dot t) (λ h. or_cases (is_sign sign.BackLink t) _ h (at_mark (ASign sign.BackLink) back t) (λ h. or_cases (is_sign sign.At t) _ h (at_mark (ASign sign.At) at t) (λ h. or_cases (is_word keyword.Global t) _ h (at_mark (Reserved keyword.Global) global t) (at_name names t))))))))

-- the tokens with which a list of expressions goes on
abbrev pub list_go : Token → Bool
list_go t = is_sign sign.Comma t || go 11 t

-- the tokens with which an element of a shape goes on: all but those behind it
abbrev pub element_go : Token → Bool
element_go t = not (is_sign sign.Comma t || is_sign sign.RightBrace t)

a_name : Token
a_name = record { kind = kind.Word (codes "x"); start = 0; end = 0 }

pub record SomeName : Type 0 where
  pub token : Token
  pub name : Name
  pub known : name_of token ≡ Some name
  pub parameter : parameter_of token ≡ Some name

pub some_name : SomeName
unfolding class_of a_name keyword_of
some_name = record { token = a_name; name = record { text = codes "x"; span = span a_name }; known = refl; parameter = refl }

a_number : Token
a_number = record { kind = kind.Int (codes "1"); start = 0; end = 0 }

pub record SomeLiteral : Type 0 where
  pub token : Token
  pub literal : Expr
  pub known : literal_of token ≡ Some literal

pub some_literal : SomeLiteral
unfolding class_of a_number
some_literal = record { token = a_number; literal = Rattle.ast.specs.declared.expression.Expr.Int (span a_number) (codes "1"); known = refl }

-- an operator of the level
pub record SomeInfix (level : ℕ) : Type 0 where
  pub token : Token
  pub found : Infix
  pub known : infix_of level token ≡ Some found

infix_sign : (level : ℕ) (s : Sign) (i : Leveled) → infix_in (ASign s) ≡ Some i → (i.level == level) ≡ true → SomeInfix level
unfolding class_of
infix_sign level s i h same = record {
  token = a_sign s;
  found = record { operator = i.operator; place = span (a_sign s) };
  known = ap (λ (o : Option Leveled). infix_if level o (span (a_sign s))) h ∙ ap (λ (b : Bool). cond b (Some (record { operator = i.operator; place = span (a_sign s) })) None) same;
}

infix_word : (level : ℕ) (k : Keyword) (i : Leveled) → IsWordOf k (keyword_text k) → infix_in (word_class k) ≡ Some i → (i.level == level) ≡ true → SomeInfix level
unfolding class_of
infix_word level k i small h same = record {
  token = a_word k;
  found = record { operator = i.operator; place = span (a_word k) };
  known =
      let found : class_of (a_word k) ≡ word_class k = ap class_of_word (keyword_found (keyword_text k) k small) in
      ap (λ (c : Class). infix_if level (infix_in c) (span (a_word k))) found ∙ ap (λ (o : Option Leveled). infix_if level o (span (a_word k))) h
      ∙ ap (λ (b : Bool). cond b (Some (record { operator = i.operator; place = span (a_word k) })) None) same;
}

pub some_set : SomeInfix 1
some_set = infix_word 1 keyword.Union _ refl refl refl

pub some_or : SomeInfix 3
some_or = infix_word 3 keyword.Or _ refl refl refl

pub some_and : SomeInfix 4
some_and = infix_word 4 keyword.And _ refl refl refl

pub some_equal : SomeInfix 6
some_equal = infix_sign 6 sign.Equal _ refl refl

pub some_plus : SomeInfix 7
some_plus = infix_sign 7 sign.Plus _ refl refl

pub some_star : SomeInfix 8
some_star = infix_sign 8 sign.Star _ refl refl

pub some_coalesce : SomeInfix 9
some_coalesce = infix_sign 9 sign.Coalesce _ refl refl

pub record SomePrefix : Type 0 where
  pub token : Token
  pub found : Prefix
  pub known : prefix_of token ≡ Some found

pub some_prefix : SomePrefix
unfolding class_of
some_prefix = record { token = a_sign sign.Minus; found = record { operator = unary.Negate; place = span (a_sign sign.Minus) }; known = refl }

-- ---- one of two keywords, beside sets

abbrev pub either_at : {A : Type 0} → Keyword → A → Keyword → A → Class → Option A
either_at k a l b c = cond (same_class (word_class k) c) (Some a) (cond (same_class (word_class l) c) (Some b) None)

pub either_has : {A : Type 0} {set : Token → Bool} {v : Bool} (k l : Keyword) (a b : Token → A) → At (word_class k) set v → At (word_class l) set v → (t : Token) → got (either_word k (a t) l (b t) t) ≡ true → set t ≡ v
either_has {A} {set} {v} k l a b one_is other_is t h =
    flip (is_word k t) (λ so. at_mark (word_class k) one_is t so)
    (λ none. flip (is_word l t) (λ so. at_mark (word_class l) other_is t so)
    (λ neither. clash (got (either_word k (a t) l (b t) t)) h (ap (λ (c : Bool). got (cond c (Some (a t)) (cond (is_word l t) (Some (b t)) None))) none ∙ ap (λ (c : Bool). got (cond c (Some (b t)) None)) neither)))

pub either_covers : {A : Type 0} {set : Token → Bool} (k l : Keyword) (a b : Token → A) → At (word_class k) set true → At (word_class l) set true → (t : Token) → set t ≡ false → got (either_word k (a t) l (b t) t) ≡ false
either_covers {A} {set} k l a b one_is other_is t h = flip (got (either_word k (a t) l (b t) t)) (λ so. clash (set t) (either_has k l a b one_is other_is t so) h) (λ none. none)

pub begins_either_word : {A : Type 0} {first : Token → Bool} (f : Token → Option A) → ((t : Token) → has f t ≡ true → first t ≡ true) → Begins first (One f)
begins_either_word f sub = begins_one f (λ t x e. sub t (has_some f t x e))

-- some token of such a pair
pub record SomeWord (A : Type 0) (f : Token → Option A) : Type 0 where
  pub token : Token
  pub found : A
  pub known : f token ≡ Some found

pub some_need : SomeWord Qualified need_of
unfolding class_of same_keyword keyword_of
some_need = record { token = a_word keyword.Required; found = needed need.Required (a_word keyword.Required); known = refl }

pub some_width : SomeWord Qualified width_of
unfolding class_of same_keyword keyword_of
some_width = record { token = a_word keyword.Single; found = wide width.Single (a_word keyword.Single); known = refl }

pub some_direction : SomeWord Direction direction_of
unfolding class_of same_keyword keyword_of
some_direction = record { token = a_word keyword.Asc; found = directed false (a_word keyword.Asc); known = refl }

pub some_place : SomeWord Placement place_of
unfolding class_of same_keyword keyword_of
some_place = record { token = a_word keyword.First; found = put empty.First (a_word keyword.First); known = refl }

not_true : (b : Bool) → not b ≡ false → b ≡ true
not_true true h = refl
not_true false h = absurd cc

-- what a set says of the tokens behind an element, and of those that end aliases
pub element_covers : (set : Token → Bool) → At (ASign sign.Comma) set false → At (ASign sign.RightBrace) set false → (t : Token) → element_go t ≡ false → set t ≡ false
element_covers set comma brace t h =
    or_cases (is_sign sign.Comma t) (is_sign sign.RightBrace t) (not_true (is_sign sign.Comma t || is_sign sign.RightBrace t) h) (at_mark (ASign sign.Comma) comma t) (at_mark (ASign sign.RightBrace) brace t)

pub aliases_cover : (set : Token → Bool) → At (Reserved keyword.For) set false → At (Reserved keyword.Select) set false → (t : Token) → inside ends_aliases t ≡ false → set t ≡ false
aliases_cover set for_out select_out t h =
    or_cases (is_word keyword.For t) (is_word keyword.Select t) (not_true (ends_aliases t) h) (at_mark (Reserved keyword.For) for_out t) (at_mark (Reserved keyword.Select) select_out t)
