-- Tokens of given kinds spell a value that is as it should be, whatever limits are kept.
use Rattle.std.proofs.Common.{◌≡◌, ℕ, zero, suc, ◌-◌, Bool, false, cond, List, [], ◌∷◌, ◌++◌, length, Option, Some, None, refl, ap, ◌∙◌, inl, inr, append-nil, subst}
use denote.Enum.Bare.{true_same}
use Rattle.sql_lex.specs.contracts.token.Sign.{the_type as sign_type}
use Rattle.sql_lex.specs.contracts.keyword.Keyword.{the_type as keyword_type}
use Rattle.sql_lex.specs.declared.token.Token.{Token}
use Rattle.sql_lex.specs.declared.token.TokenKind.{TokenKind}
use Rattle.sql_lex.specs.declared.token.TokenKind.TheVariants as kind
use Rattle.sql_lex.specs.declared.token.Sign.{Sign}
use Rattle.sql_lex.specs.declared.keyword.Keyword.{Keyword}
use Rattle.sql_grammar.specs.declared.class.Class.TheVariants.{Word, Sign as ASign}
use Rattle.sql_grammar.specs.Words.{class_of, same_sign, same_keyword, mark_of, sign_of, word_of}
use Rattle.sql_spell.specs.Promise.{kinds}
use Rattle.exact.specs.Language.{Lang, Empty, One, OneWithin, Then, Either, Chain}

-- Any tokens of these kinds spell some value that the fact holds of, and no limit counts.
abbrev pub Spelt : {A : Type 0} → Lang Token A → (A → Type 0) → List TokenKind → Type 0
Spelt L P ks = (ts : List Token) → kinds ts ≡ ks → (a : _) × P a × ((n : ℕ) → L n ts a)

-- ---- lists of tokens

pub record Parted (ks js : List TokenKind) (ts : List Token) : Type 0 where
  pub front : List Token
  pub back : List Token
  pub whole : ts ≡ front ++ back
  pub before : kinds front ≡ ks
  pub behind : kinds back ≡ js

pub parted : (ks js : List TokenKind) (ts : List Token) → kinds ts ≡ ks ++ js → Parted ks js ts
parted [] js ts e = record { front = []; back = ts; whole = refl; before = refl; behind = e }
parted (k ∷ ks) js [] e = absurd cc
parted (k ∷ ks) js (t ∷ ts) e =
    let head : t.kind ≡ k = cc e in
    let tail : kinds ts ≡ ks ++ js = cc e in
    let more : Parted ks js ts = parted ks js ts tail in
    record { front = t ∷ more.front; back = more.back; whole = ap (λ (l : List Token). t ∷ l) more.whole; before = λ i. head i ∷ more.before i; behind = more.behind }

-- ---- how languages are put together

pub spelt_empty : {A : Type 0} {P : A → Type 0} (a : A) → P a → Spelt (Empty a) P []
spelt_empty a p [] e = (a, p, λ n. (refl, refl))
spelt_empty a p (t ∷ ts) e = absurd cc

pub spelt_then : {A B : Type 0} {L : Lang Token A} {M : A → Lang Token B} {P : A → Type 0} {Q : B → Type 0} {ks js : List TokenKind}
    → Spelt L P ks → ((a : A) → P a → Spelt (M a) Q js) → Spelt (Then L M) Q (ks ++ js)
spelt_then {A} {B} {L} {M} {P} {Q} {ks} {js} l m ts e =
    let cut : Parted ks js ts = parted ks js ts e in
    let first : (a : A) × P a × ((n : ℕ) → L n cut.front a) = l cut.front cut.before in
    let second : (b : B) × Q b × ((n : ℕ) → M first.0 n cut.back b) = m first.0 first.1 cut.back cut.behind in
    (second.0, second.1, λ n. record { front = cut.front; back = cut.back; value = first.0; parts = cut.whole; first = first.2 n; second = second.2 (n - length cut.front) })

pub spelt_left : {A : Type 0} {L : Lang Token A} {P : A → Type 0} {ks : List TokenKind} (M : Lang Token A) → Spelt L P ks → Spelt (Either L M) P ks
spelt_left M l ts e = (let x = l ts e in (x.0, x.1, λ n. inl (x.2 n)))

pub spelt_right : {A : Type 0} {M : Lang Token A} {P : A → Type 0} {ks : List TokenKind} (L : Lang Token A) → Spelt M P ks → Spelt (Either L M) P ks
spelt_right L m ts e = (let x = m ts e in (x.0, x.1, λ n. inr (x.2 n)))

pub spelt_as : {A : Type 0} {L : Lang Token A} {P Q : A → Type 0} {ks : List TokenKind} → ((a : A) → P a → Q a) → Spelt L P ks → Spelt L Q ks
spelt_as f l ts e = (let x = l ts e in (x.0, f x.0 x.1, x.2))

-- ---- chains

pub spelt_stop : {A : Type 0} {S : A → Lang Token A} {P : A → Type 0} (a : A) → P a → Spelt (Chain S a) P []
spelt_stop a p [] e = (a, p, λ n. (zero, (refl, refl)))
spelt_stop a p (t ∷ ts) e = absurd cc

pub spelt_turn : {A : Type 0} {S : A → Lang Token A} {P Q : A → Type 0} {ks js : List TokenKind} {a : A}
    → Spelt (S a) P ks → ((b : A) → P b → Spelt (Chain S b) Q js) → Spelt (Chain S a) Q (ks ++ js)
spelt_turn {A} {S} {P} {Q} {ks} {js} {a} s more ts e =
    let all : (c : A) × Q c × ((n : ℕ) → Then (S a) (λ b. Chain S b) n ts c) = spelt_then s more ts e in (
      all.0,
      all.1,
      λ n. let x : Then (S a) (λ b. Chain S b) n ts all.0 = all.2 n in
          (suc x.second.0, record { front = x.front; back = x.back; value = x.value; parts = x.parts; first = x.first; second = x.second.1 }),
    )

-- ---- single tokens

pub spelt_one : {A : Type 0} {f : Token → Option A} {P : A → Type 0} {k : TokenKind} → ((t : Token) → t.kind ≡ k → (a : A) × P a × (f t ≡ Some a)) → Spelt (One f) P (k ∷ [])
spelt_one h [] e = absurd cc
spelt_one {A} {f} {P} {k} h (t ∷ []) e =
    let x : (a : A) × P a × (f t ≡ Some a) = h t (cc e) in
    (x.0, x.1, λ n. (t, refl, x.2))
spelt_one h (t ∷ u ∷ ts) e = absurd cc

pub spelt_within : {A : Type 0} {over : Bool} {f : Token → Option A} {P : A → Type 0} {ks : List TokenKind} → over ≡ false → Spelt (One f) P ks → Spelt (OneWithin over f) P ks
spelt_within free l ts e = (let x = l ts e in (x.0, x.1, λ n. ((λ some. free), x.2 n)))

abbrev pub Anything : {A : Type 0} → A → Type 0
Anything a = Unit {0}

sign_stands : (s : Sign) (t : Token) → t.kind ≡ kind.Sign s → sign_of s t ≡ Some t.start
unfolding class_of same_sign
sign_stands s t e = ap (λ (k : TokenKind). mark_of (ASign s) (record { kind = k; start = t.start })) e ∙ ap (λ (b : Bool). cond b (Some t.start) None) (true_same sign_type s s refl)

word_stands : (w : Keyword) (t : Token) → t.kind ≡ kind.Word w → word_of w t ≡ Some t.start
unfolding class_of same_keyword
word_stands w t e = ap (λ (k : TokenKind). mark_of (Word w) (record { kind = k; start = t.start })) e ∙ ap (λ (b : Bool). cond b (Some t.start) None) (true_same keyword_type w w refl)

pub spelt_sign : (s : Sign) → Spelt (One (sign_of s)) Anything (kind.Sign s ∷ [])
spelt_sign s = spelt_one (λ t e. (t.start, tt, sign_stands s t e))

pub spelt_word : (w : Keyword) → Spelt (One (word_of w)) Anything (kind.Word w ∷ [])
spelt_word w = spelt_one (λ t e. (t.start, tt, word_stands w t e))

-- what is empty behind
pub spelt_end : {A B : Type 0} {L : Lang Token A} {M : A → Lang Token B} {P : A → Type 0} {Q : B → Type 0} {ks : List TokenKind}
    → Spelt L P ks → ((a : A) → P a → Spelt (M a) Q []) → Spelt (Then L M) Q ks
spelt_end {A} {B} {L} {M} {P} {Q} {ks} l m = subst (Spelt (Then L M) Q) (append-nil ks) (spelt_then l m)

-- a token of the kind, whatever place it has
pub spelt_kind : {A : Type 0} {f : Token → Option A} {P : A → Type 0} (k : TokenKind) (a : ℕ → A) → ((s : ℕ) → P (a s)) → ((s : ℕ) → f (record { kind = k; start = s }) ≡ Some (a s)) → Spelt (One f) P (k ∷ [])
spelt_kind {A} {f} {P} k a p known = spelt_one (λ t e. (a t.start, p t.start, ap (λ (x : TokenKind). f (record { kind = x; start = t.start })) e ∙ known t.start))
