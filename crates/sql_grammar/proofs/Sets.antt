-- Sets of tokens: signs and keywords, those with which a text goes on, and those that begin an expression.
use Rattle.std.proofs.Common.{◌≡◌, ℕ, pos, ◌+◌, ◌≤◌, ◌<◌, Bool, true, false, not, cond, ◌||◌, ◌==◌, List, codes, Option, Some, None, refl, sym, ap, ◌∙◌, arith}
use Rattle.std.proofs.Math.Dec.{leb}
use Rattle.std.proofs.lemmas.Bool.{lt-leb, le-leb, leb-true, leb-false, eqb-true}
use denote.Enum.Bare.{same_true, true_same}
use Rattle.sql_lex.specs.contracts.token.Sign.{the_type as sign_type}
use Rattle.sql_lex.specs.contracts.keyword.Keyword.{the_type as keyword_type}
use Rattle.sql_grammar.specs.contracts.class.Start.{the_type as start_type}
use Rattle.ev_value.specs.JsonText.{id_text}
use Rattle.ev_value.specs.JsonText.{id_text}
use Rattle.ev_value.specs.JsonText.{id_text}
use Rattle.ev_value.specs.JsonText.{id_text}
use Rattle.sql_lex.specs.declared.token.Token.{Token}
use Rattle.sql_lex.specs.declared.token.TokenKind.{TokenKind}
use Rattle.sql_lex.specs.declared.token.TokenKind.TheVariants as kind
use Rattle.sql_lex.specs.declared.token.Sign.{Sign}
use Rattle.sql_lex.specs.declared.token.Sign.TheVariants as sign
use Rattle.sql_lex.specs.declared.keyword.Keyword.{Keyword}
use Rattle.sql_lex.specs.declared.keyword.Keyword.TheVariants as keyword
use Rattle.sql_ast.specs.declared.expression.BinaryOp.{BinaryOp}
use Rattle.sql_ast.specs.declared.expression.BinaryOp.TheVariants as op
use Rattle.sql_grammar.specs.declared.class.Class.{Class}
use Rattle.sql_grammar.specs.declared.class.Class.TheVariants.{Word, Sign as ASign, Name as AName, Number, Literal}
use Rattle.sql_grammar.specs.declared.class.Start.{Start}
use Rattle.sql_grammar.specs.declared.class.Start.TheVariants as start
use Rattle.sql_grammar.specs.declared.grown.Name.{Name}
use Rattle.sql_grammar.specs.declared.grown.Called.{Called}
use Rattle.sql_grammar.specs.declared.grown.Grown.{Grown}
use Rattle.sql_grammar.specs.Words.{class_of, same_sign, same_keyword, same_start, same_class, is, mark_of, name_at, name_of, literal_at, literal_of, text_in, operator_in, operator_if, operator_of, direction_in, direction_of, function_in, called, function_of, start_in, starts}
use Rattle.exact.specs.Language.{Lang, One, OneWithin, Then}
use Rattle.exact.specs.Reading.{Reader, has, inside, one, one_within, ◌>>=◌}
use Rattle.exact.proofs.Heads.{Begins, Avoids, begins_one, begins_one_within, begins_then, avoids_begun}
use Rattle.exact.proofs.Single.{has_some}
use Rattle.exact.proofs.Laws.{Mode, lowered, IsExactAt, exact_lead, exact_open}

-- ---- a sign or keyword

-- What a set says of each token of the class.
abbrev pub At : Class → (Token → Bool) → Bool → Type 0
At c set b = (t : Token) → class_of t ≡ c → set t ≡ b

same_class_is : (c d : Class) → same_class c d ≡ true → d ≡ c
unfolding same_sign same_keyword
same_class_is (ASign a) (ASign b) h = ap (λ (x : Sign). ASign x) (sym (same_true sign_type _ a b h))
same_class_is (ASign a) (Word b) h = absurd cc
same_class_is (ASign a) AName h = absurd cc
same_class_is (ASign a) Number h = absurd cc
same_class_is (ASign a) Literal h = absurd cc
same_class_is (Word a) (ASign b) h = absurd cc
same_class_is (Word a) (Word b) h = ap (λ (x : Keyword). Word x) (sym (same_true keyword_type _ a b h))
same_class_is (Word a) AName h = absurd cc
same_class_is (Word a) Number h = absurd cc
same_class_is (Word a) Literal h = absurd cc
same_class_is AName d h = absurd cc
same_class_is Number d h = absurd cc
same_class_is Literal d h = absurd cc

pub class_is : (c : Class) (t : Token) → is c t ≡ true → class_of t ≡ c
class_is c t h = same_class_is c (class_of t) h

flip : {A : Type 0} (b : Bool) → (b ≡ true → A) → (b ≡ false → A) → A
flip true yes_case no_case = yes_case refl
flip false yes_case no_case = no_case refl

clash : {A : Type 0} (b : Bool) → b ≡ true → b ≡ false → A
clash b h none = absurd (let bad : true ≡ false = sym h ∙ none in cc)

pub at_mark : (c : Class) {set : Token → Bool} {b : Bool} → At c set b → (t : Token) → is c t ≡ true → set t ≡ b
at_mark c {set} {b} h t so = h t (class_is c t so)

pub covers_mark : (c : Class) {set : Token → Bool} → At c set true → (t : Token) → set t ≡ false → is c t ≡ false
covers_mark c {set} h t none = flip (is c t) (λ so. clash (set t) (at_mark c h t so) none) (λ not_so. not_so)

pub lacks_mark : (c : Class) {set : Token → Bool} → At c set false → (t : Token) → set t ≡ true → is c t ≡ false
lacks_mark c {set} h t some = flip (is c t) (λ so. clash (set t) some (at_mark c h t so)) (λ not_so. not_so)

mark_some : (c : Class) (t : Token) (s : ℕ) → mark_of c t ≡ Some s → is c t ≡ true
mark_some c t s h = flip (is c t) (λ so. so) (λ not_so. let bad : ◌≡◌ {A = Option ℕ} None (Some s) = sym (ap (λ (b : Bool). cond b (Some t.start) None) not_so) ∙ h in absurd cc)

pub begins_mark : {over : Bool} {first : Token → Bool} (c : Class) → At c first true → Begins first (OneWithin over (mark_of c))
begins_mark {over} {first} c h = begins_one_within over (mark_of c) (λ t a e. at_mark c h t (mark_some c t a e))

pub begins_one_mark : {first : Token → Bool} (c : Class) → At c first true → Begins first (One (mark_of c))
begins_one_mark {first} c h = begins_one (mark_of c) (λ t a e. at_mark c h t (mark_some c t a e))

-- what begins with a sign or keyword that the set lacks
pub avoids_one_mark : {A : Type 0} {M : ℕ → Lang Token A} {set : Token → Bool} {go : A → Token → Bool} (c : Class) → At c set false → Avoids set (Then (One (mark_of c)) M) go
avoids_one_mark {A} {M} {set} {go} c h = avoids_begun (begins_then (begins_one_mark {first = inside set} c (λ t e. ap not (h t e))))

-- ---- some token of a class

pub record Sample (c : Class) : Type 0 where
  pub token : Token
  pub place : ℕ
  pub known : mark_of c token ≡ Some place

abbrev pub a_sign : Sign → Token
a_sign s = record { kind = kind.Sign s; start = 0 }

abbrev pub a_word : Keyword → Token
a_word k = record { kind = kind.Word k; start = 0 }

abbrev pub a_name : Token
a_name = record { kind = kind.Name (codes "n"); start = 0 }

abbrev pub a_number : Token
a_number = record { kind = kind.Int (pos 0); start = 0 }

abbrev pub a_text : Token
a_text = record { kind = kind.Str (id_text 0); start = 0 }

pub some_sign : (s : Sign) → Sample (ASign s)
unfolding class_of same_sign
some_sign s = record { token = a_sign s; place = 0; known = ap (λ (b : Bool). cond b (Some 0) None) (true_same sign_type s s refl) }

pub some_word : (k : Keyword) → Sample (Word k)
unfolding class_of same_keyword
some_word k = record { token = a_word k; place = 0; known = ap (λ (b : Bool). cond b (Some 0) None) (true_same keyword_type k k refl) }

-- ---- what follows a sign or keyword

pub lead : {A : Type 0} {mode : Mode} {c : Class} {M N : ℕ → Lang Token A} {Q : ℕ → Reader Token A} {go : A → Token → Bool} → Sample c
    → ((at : ℕ) → IsExactAt mode (M at) (N at) (Q at) go) → IsExactAt mode (Then (One (mark_of c)) M) (Then (One (mark_of c)) N) (one (mark_of c) >>= Q) go
lead {c = c} s q = exact_lead (mark_of c) s.token s.place s.known q

pub opens : {A : Type 0} {mode : Mode} {c : Class} {over wide : Bool} {M N : ℕ → Lang Token A} {Q : ℕ → Reader Token A} {go : A → Token → Bool} → Sample c → wide ≡ false
    → ((at : ℕ) → IsExactAt (lowered over mode) (M at) (N at) (Q at) go) → IsExactAt mode (Then (OneWithin over (mark_of c)) M) (Then (OneWithin wide (mark_of c)) N) (one_within over (mark_of c) >>= Q) go
opens {c = c} s free q = exact_open (mark_of c) s.token s.place s.known free q

-- ---- operators

operator_level : (level : ℕ) (o : Option (ℕ × BinaryOp)) (x : BinaryOp) → operator_if level o ≡ Some x → (i : ℕ × BinaryOp) × (o ≡ Some i) × (i.0 ≡ level)
operator_level level None x h = absurd cc
operator_level level (Some i) x h = flip (i.0 == level) (λ so. (i, refl, eqb-true i.0 level so)) (λ no_level. absurd (let bad : ◌≡◌ {A = Option BinaryOp} None (Some x) = sym (ap (λ (b : Bool). cond b (Some i.1) None) no_level) ∙ h in cc))

-- How tightly a token binds behind what is read: clauses, looser than any operator, then a comma, then operators by their level; 0 where it ends it.
abbrev pub others : Class → ℕ
others (Word keyword.Union) = 1
others (Word keyword.Limit) = 2
others (Word keyword.Offset) = 3
others (Word keyword.Order) = 4
others (Word keyword.Where) = 6
others (Word keyword.Left) = 7
others (Word keyword.From) = 8
others (ASign sign.Comma) = 10
others (Word keyword.Is) = 14
others _ = 0

abbrev pub binds_by : Option (ℕ × BinaryOp) → ℕ → ℕ
binds_by None other = other
binds_by (Some i) other = i.0 + 10

abbrev pub binds : Token → ℕ
binds t = binds_by (operator_in (class_of t)) (others (class_of t))

-- The tokens that bind so tightly or tighter.
abbrev pub go : ℕ → Token → Bool
go level t = leb level (binds t)

pub tighter : (least level : ℕ) → least ≤ level → (t : Token) → go least t ≡ false → go level t ≡ false
tighter least level le t h = lt-leb level (binds t) (let lt = leb-false least (binds t) h in omega arith)

operator_binds : (level : ℕ) (t : Token) (x : BinaryOp) → operator_of level t ≡ Some x → binds t ≡ level + 10
operator_binds level t x h =
    let i = operator_level level (operator_in (class_of t)) x h in
    ap (λ (o : Option (ℕ × BinaryOp)). binds_by o (others (class_of t))) i.1 ∙ ap (λ (l : ℕ). l + 10) i.2

-- whether there is a value
abbrev pub got : {A : Type 0} → Option A → Bool
got o = elim o as (λ _. Bool) [ None ↦ false | Some a ↦ true ]

some_of : {A : Type 0} (o : Option A) → got o ≡ true → (x : A) × (o ≡ Some x)
some_of None h = absurd cc
some_of (Some x) h = (x, refl)

pub has_operator_binds : (level : ℕ) (t : Token) → has (operator_of level) t ≡ true → binds t ≡ level + 10
has_operator_binds level t h = let x = some_of (operator_of level t) h in operator_binds level t x.0 x.1

-- operators of a level, beside the tokens that bind so tightly
pub level_apart : (level other : ℕ) → level + 10 < other → (t : Token) → has (operator_of level) t ≡ true → go other t ≡ false
level_apart level other lt t h = lt-leb other (binds t) (let e = has_operator_binds level t h in omega arith)

pub level_covers : (level least : ℕ) → least ≤ level + 10 → (t : Token) → go least t ≡ false → has (operator_of level) t ≡ false
level_covers level least le t h = flip (has (operator_of level) t) (λ so. absurd (let e = has_operator_binds level t so in let lt = leb-false least (binds t) h in omega arith)) (λ none. none)

pub begins_operator : {over : Bool} {first : Token → Bool} (level : ℕ) → ((t : Token) → has (operator_of level) t ≡ true → first t ≡ true) → Begins first (OneWithin over (operator_of level))
begins_operator {over} {first} level h = begins_one_within over (operator_of level) (λ t x e. h t (has_some (operator_of level) t x e))

pub begins_has : {A : Type 0} {first : Token → Bool} (f : Token → Option A) → ((t : Token) → has f t ≡ true → first t ≡ true) → Begins first (One f)
begins_has f h = begins_one f (λ t x e. h t (has_some f t x e))

-- an operator of the level
pub record SomeOperator (level : ℕ) : Type 0 where
  pub token : Token
  pub found : BinaryOp
  pub known : operator_of level token ≡ Some found

pub some_or : SomeOperator 1
unfolding class_of
some_or = record { token = a_word keyword.Or; found = op.Or; known = refl }

pub some_and : SomeOperator 2
unfolding class_of
some_and = record { token = a_word keyword.And; found = op.And; known = refl }

pub some_equal : SomeOperator 4
unfolding class_of
some_equal = record { token = a_sign sign.Equal; found = op.Eq; known = refl }

pub some_plus : SomeOperator 5
unfolding class_of
some_plus = record { token = a_sign sign.Plus; found = op.Add; known = refl }

pub some_star : SomeOperator 6
unfolding class_of
some_star = record { token = a_sign sign.Star; found = op.Mul; known = refl }

-- ---- what begins an expression

-- the order in which the beginnings are tried
abbrev pub rank : Start → ℕ
rank start.Nothing = 0
rank start.Not = 1
rank start.Minus = 2
rank start.Group = 3
rank start.Literal = 4
rank start.Uuid = 5
rank start.Null = 6
rank start.Column = 7
rank start.Arg = 8
rank start.Global = 9
rank start.Array = 10
rank start.Row = 11
rank start.Part = 12
rank start.Case = 13
rank start.Cast = 14
rank start.Call = 15

-- whether the token begins an expression of this rank or of a later one
abbrev pub from : ℕ → Token → Bool
from i t = leb i (rank (start_in (class_of t)))

starts_is : (s : Start) (t : Token) → starts s t ≡ true → start_in (class_of t) ≡ s
unfolding same_start
starts_is s t h = sym (same_true start_type _ s (start_in (class_of t)) h)

is_start : (s : Start) (t : Token) → start_in (class_of t) ≡ s → starts s t ≡ true
unfolding same_start
is_start s t h = ap (same_start s) h ∙ true_same start_type s s refl

pub starts_from : (s : Start) (i : ℕ) → i ≤ rank s → (t : Token) → starts s t ≡ true → from i t ≡ true
starts_from s i le t h = ap (λ (x : Start). leb i (rank x)) (starts_is s t h) ∙ le-leb i (rank s) le

pub from_apart : (s : Start) (i : ℕ) → rank s < i → (t : Token) → from i t ≡ true → starts s t ≡ false
from_apart s i lt t h = flip (starts s t) (λ so. let le = leb-true i (rank (start_in (class_of t))) h in let same = ap rank (starts_is s t so) in absurd (omega arith)) (λ none. none)

pub from_in : (i j : ℕ) → i ≤ j → (t : Token) → from j t ≡ true → from i t ≡ true
from_in i j le t h = le-leb i (rank (start_in (class_of t))) (let more = leb-true j (rank (start_in (class_of t))) h in omega arith)

pub mark_starts : (c : Class) (s : Start) → start_in c ≡ s → At c (starts s) true
mark_starts c s h t e = is_start s t (ap start_in e ∙ h)

literal_start : (c : Class) (k : TokenKind) (s : ℕ) (x : Grown) → literal_at c k s ≡ Some x → start_in c ≡ start.Literal
literal_start Number k s x h = refl
literal_start Literal k s x h = refl
literal_start (Word keyword.True) k s x h = refl
literal_start (Word keyword.False) k s x h = refl
literal_start _ k s x h = absurd cc

pub begins_literal : Begins (starts start.Literal) (One literal_of)
begins_literal = begins_one literal_of (λ t x e. is_start start.Literal t (literal_start (class_of t) t.kind t.start x e))

name_class : (c : Class) (text : List ℕ) (s : ℕ) (x : Name) → name_at c text s ≡ Some x → c ≡ AName
name_class AName text s x h = refl
name_class (Word k) text s x h = absurd cc
name_class (ASign k) text s x h = absurd cc
name_class Number text s x h = absurd cc
name_class Literal text s x h = absurd cc

pub begins_name : {first : Token → Bool} → At AName first true → Begins first (One name_of)
begins_name {first} h = begins_one name_of (λ t x e. h t (name_class (class_of t) (text_in t.kind) t.start x e))

function_start : (c : Class) (s : ℕ) (x : Called) → called (function_in c) s ≡ Some x → start_in c ≡ start.Call
function_start (Word keyword.Len) s x h = refl
function_start (Word keyword.CountOf) s x h = refl
function_start (Word keyword.SumOf) s x h = refl
function_start (Word keyword.MinOf) s x h = refl
function_start (Word keyword.MaxOf) s x h = refl
function_start (Word keyword.AnyOf) s x h = refl
function_start (Word keyword.AllOf) s x h = refl
function_start (Word keyword.AssertSingle) s x h = refl
function_start (Word keyword.AssertExists) s x h = refl
function_start (Word keyword.AssertDistinct) s x h = refl
function_start _ s x h = absurd cc

pub begins_function : Begins (starts start.Call) (One function_of)
begins_function = begins_one function_of (λ t x e. is_start start.Call t (function_start (class_of t) t.start x e))

direction_binds : (c : Class) → got (direction_in c) ≡ true → binds_by (operator_in c) (others c) ≡ 0
direction_binds (Word keyword.Asc) h = refl
direction_binds (Word keyword.Desc) h = refl
direction_binds _ h = absurd cc

pub direction_apart : (t : Token) → has direction_of t ≡ true → go 11 t ≡ false
direction_apart t h = lt-leb 11 (binds t) (let e = direction_binds (class_of t) h in omega arith)

pub or_left : (a b : Bool) → (a || b) ≡ false → a ≡ false
or_left true b h = absurd cc
or_left false b h = refl

pub or_right : (a b : Bool) → (a || b) ≡ false → b ≡ false
or_right true b h = absurd cc
or_right false b h = h

pub or_one : (a b : Bool) → a ≡ true → (a || b) ≡ true
or_one true b h = refl
or_one false b h = absurd cc

pub or_other : (a b : Bool) → b ≡ true → (a || b) ≡ true
or_other true b h = refl
or_other false b h = h

pub or_false : {a b : Bool} → a ≡ false → b ≡ false → (a || b) ≡ false
or_false {a} {b} h k = rw (h, k) refl
