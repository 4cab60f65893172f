-- What the tokens of a text keep to, what is spelled by them keeps to.
use Rattle.std.proofs.Common.{◌≡◌, ◌⊎◌, inl, inr, ◌==◌, ◌&&◌, ◌≤ℤ◌, ◌-◌, ℕ, zero, suc, pos, Bool, true, false, not, List, [], ◌∷◌, ◌++◌, length, Option, Some, refl, sym, subst, arith}
use Rattle.std.specs.List.{Contains, list_all}
use Rattle.std.proofs.lemmas.Int.{ints}
use Rattle.exact.specs.Language.{Lang, ◌>>=◌, Never, Empty, One, Either, Links, Chain}
use Rattle.sql_ast.specs.WellFormed.{IsName}
use Rattle.sql_check.proofs.Scopes.{in_cons}
use Rattle.sql_lex.specs.Byte.{is_in_name}
use Rattle.sql_lex.specs.Reading.{Reads, Here, Over, Take, IsCut}
use Rattle.sql_lex.specs.Token.{Spells}
use Rattle.sql_lex.specs.declared.token.Token.{Token}
use Rattle.sql_lex.specs.declared.token.TokenKind.{TokenKind}
use Rattle.sql_lex.specs.declared.token.TokenKind.TheVariants as kind
use Rattle.sql_parse.proofs.Built.{Each, each_first, each_more}

-- ---- tokens

-- a name can stand between quotes, and a number is not negative
abbrev pub IsSoundKind : TokenKind → Type 0
IsSoundKind (kind.Word k) = Unit {0}
IsSoundKind (kind.Name name) = IsName name
IsSoundKind (kind.Int z) = pos 0 ≤ℤ z
IsSoundKind (kind.Str text) = Unit {0}
IsSoundKind (kind.Sign s) = Unit {0}

abbrev pub IsSound : Token → Type 0
IsSound t = IsSoundKind t.kind

without_quote : (name : List ℕ) → list_all is_in_name name ≡ true → Contains name 34 → ⊥
without_quote [] h there = let lt = there.1 in omega (arith, lt)
without_quote (b ∷ more) h there = by_case (without_quote more) (in_cons b more 34 there) (b == 34) refl h
  where
    by_case : (list_all is_in_name more ≡ true → Contains more 34 → ⊥) → (b ≡ 34) ⊎ Contains more 34 → (is : Bool) → (b == 34) ≡ is → (not is && list_all is_in_name more) ≡ true → ⊥
    by_case rest (inl e) true is h = cc h
    by_case rest (inl e) false is h = let other : (34 == 34) ≡ false = subst (λ (n : ℕ). (n == 34) ≡ false) e is in cc other
    by_case rest (inr there) true is h = cc h
    by_case rest (inr there) false is h = rest h there

sound_kind : (front rest : List ℕ) (k : TokenKind) → Spells front rest k → IsSoundKind k
sound_kind front rest (kind.Word k) h = tt
sound_kind front rest (kind.Name name) h = (h.1.0, without_quote name h.1.1)
sound_kind front rest (kind.Int z) h = let is = h.1 in omega (arith, ints, is)
sound_kind front rest (kind.Str text) h = tt
sound_kind front rest (kind.Sign s) h = tt

sound_tokens : {place to : ℕ} {bytes left : List ℕ} {ts : List Token} → Reads place bytes ts to left → Each IsSound ts
sound_tokens Here = tt
sound_tokens (Over b rest e i d) = sound_tokens d
sound_tokens (Take front rest k e i d) = (sound_kind front rest k i, sound_tokens d)

pub cut_sound : (text : List ℕ) (ts : List Token) → IsCut text ts → Each IsSound ts
cut_sound text ts h = sound_tokens h

-- ---- languages

-- What sound tokens spell in the language keeps to P.
pub record Keeps {A : Type 0} (L : Lang Token A) (P : A → Type 0) : Type 0 where
  pub keeps : (n : ℕ) (ts : List Token) (x : A) → Each IsSound ts → L n ts x → P x

pub never_keeps : {A : Type 0} {P : A → Type 0} → Keeps Never P
never_keeps = record { keeps = λ n ts x s h. absurd h }

pub empty_keeps : {A : Type 0} {P : A → Type 0} {a : A} → P a → Keeps (Empty a) P
empty_keeps {A} {P} {a} p = record { keeps = λ n ts x s h. subst P (sym h.1) p }

pub one_keeps : {A : Type 0} {P : A → Type 0} {f : Token → Option A} → ((t : Token) (a : A) → IsSound t → f t ≡ Some a → P a) → Keeps (One f) P
one_keeps {A} {P} {f} p = record { keeps = λ n ts x s h. let sound : Each IsSound (h.0 ∷ []) = subst (λ (l : List Token). Each IsSound l) h.1 s in p h.0 x sound.0 h.2 }

pub then_keeps : {A B : Type 0} {L : Lang Token A} {M : A → Lang Token B} {P : A → Type 0} {Q : B → Type 0} → Keeps L P → ((a : A) → P a → Keeps (M a) Q) → Keeps (L >>= M) Q
then_keeps {A} {B} {L} {M} {P} {Q} l m = record {
  keeps = λ n ts x s t.
      let both : Each IsSound (t.front ++ t.back) = subst (λ (l : List Token). Each IsSound l) t.parts s in
      let p : P t.value = l.keeps n t.front t.value (each_first IsSound t.front t.back both) t.first in
      (m t.value p).keeps (n - length t.front) t.back x (each_more IsSound t.front t.back both) t.second;
}

-- whatever stands first
pub behind_keeps : {A B : Type 0} {L : Lang Token A} {M : A → Lang Token B} {Q : B → Type 0} → ((a : A) → Keeps (M a) Q) → Keeps (L >>= M) Q
behind_keeps {A} {B} {L} {M} {Q} m = record {
  keeps = λ n ts x s t.
      let both : Each IsSound (t.front ++ t.back) = subst (λ (l : List Token). Each IsSound l) t.parts s in
      (m t.value).keeps (n - length t.front) t.back x (each_more IsSound t.front t.back both) t.second;
}

pub either_keeps : {A : Type 0} {L M : Lang Token A} {P : A → Type 0} → Keeps L P → Keeps M P → Keeps (Either L M) P
either_keeps {A} {L} {M} {P} l m = record { keeps = λ n ts x s h. by_case n ts x s h }
  where
    by_case : (n : ℕ) (ts : List Token) (x : A) → Each IsSound ts → L n ts x ⊎ M n ts x → P x
    by_case n ts x s (inl h) = l.keeps n ts x s h
    by_case n ts x s (inr h) = m.keeps n ts x s h

links_keep : {A : Type 0} {S : A → Lang Token A} {P : A → Type 0} → ((a : A) → P a → Keeps (S a) P) → (k : ℕ) (a : A) → P a → Keeps (Links S k a) P
links_keep step zero a p = empty_keeps p
links_keep step (suc k) a p = then_keeps (step a p) (λ b q. links_keep step k b q)

pub chain_keeps : {A : Type 0} {S : A → Lang Token A} {P : A → Type 0} → ((a : A) → P a → Keeps (S a) P) → (a : A) → P a → Keeps (Chain S a) P
chain_keeps step a p = record { keeps = λ n ts x s h. (links_keep step h.0 a p).keeps n ts x s h.1 }

pub weaken_keeps : {A : Type 0} {L : Lang Token A} {P Q : A → Type 0} → Keeps L P → ((a : A) → P a → Q a) → Keeps L Q
weaken_keeps l weaker = record { keeps = λ n ts x s h. weaker x (l.keeps n ts x s h) }
