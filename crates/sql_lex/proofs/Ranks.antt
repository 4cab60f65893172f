-- The first byte of a token tells its kind, and that it is no blank. At each place there is one token.
use Rattle.std.proofs.Common.{◌≡◌, ℕ, Bool, true, false, cond, List, [], ◌∷◌, ◌++◌, ◌⊎◌, Option, Some, None, pos, refl, sym, ap, ◌∙◌, subst, arith, inl, inr, ◌||◌, ◌==◌, append_assoc}
use Rattle.std.specs.Char.{is_ascii_digit}
use Rattle.std.specs.List.{list_all}
use Rattle.std.specs.Str.Parse.{digits_value}
use Rattle.std.proofs.lemmas.Bool.Decides.{nat_tests}
use Rattle.sql_lex.specs.declared.token.Sign.{Sign}
use Rattle.sql_lex.specs.declared.token.Sign.TheVariants as sign
use Rattle.sql_lex.specs.declared.token.TokenKind.{TokenKind}
use Rattle.sql_lex.specs.declared.token.TokenKind.TheVariants as kind
use Rattle.sql_lex.specs.Byte.{is_blank, begins_word, continues_word, is_in_name, goes_on}
use Rattle.sql_lex.specs.Keyword.{keyword_of}
use Rattle.sql_lex.specs.Sign.{sign_text, lengthens}
use Rattle.sql_lex.specs.SignTable.{single_at, double_at}
use Rattle.sql_lex.specs.Token.{Spells, IsWord, IsDigits, doubled}
use Rattle.sql_lex.proofs.Keywords.{keyword_found}
use Rattle.sql_lex.proofs.Runs.{clash, and_true, run_once, doubled_once}

-- what a byte begins: 1 a word, 2 a number, 3 a text, 4 a name, 5 a blank, 0 a sign or nothing
abbrev pub byte_rank : ℕ → ℕ
byte_rank b = cond (begins_word b) 1 (cond (is_ascii_digit b) 2 (cond (b == 39) 3 (cond (b == 34) 4 (cond (is_blank b) 5 0))))

abbrev pub kind_rank : TokenKind → ℕ
kind_rank (kind.Word w) = 1
kind_rank (kind.Int w) = 2
kind_rank (kind.Str w) = 3
kind_rank (kind.Name w) = 4
kind_rank (kind.Sign w) = 0

abbrev pub first_rank : List ℕ → ℕ
first_rank [] = 9
first_rank (b ∷ more) = byte_rank b

pub word_rank : (b : ℕ) → begins_word b ≡ true → byte_rank b ≡ 1
word_rank b h = rw h refl

pub digit_rank : (b : ℕ) → is_ascii_digit b ≡ true → byte_rank b ≡ 2
digit_rank b h = grind (arith, nat_tests)

pub blank_rank : (b : ℕ) → is_blank b ≡ true → byte_rank b ≡ 5
blank_rank b h = grind (arith, nat_tests)

sign_rank : (s : Sign) → first_rank (sign_text s) ≡ 0
sign_rank sign.LeftParen = refl
sign_rank sign.RightParen = refl
sign_rank sign.Comma = refl
sign_rank sign.Semicolon = refl
sign_rank sign.Dot = refl
sign_rank sign.Cast = refl
sign_rank sign.Equal = refl
sign_rank sign.NotEqual = refl
sign_rank sign.LessOrEqual = refl
sign_rank sign.Less = refl
sign_rank sign.GreaterOrEqual = refl
sign_rank sign.Greater = refl
sign_rank sign.Plus = refl
sign_rank sign.Minus = refl
sign_rank sign.Concat = refl
sign_rank sign.Star = refl
sign_rank sign.FloorDivide = refl
sign_rank sign.Percent = refl

token_rank : (b : ℕ) (more follow : List ℕ) (k : TokenKind) → Spells (b ∷ more) follow k → byte_rank b ≡ kind_rank k
token_rank b more follow (kind.Word w) s = word_rank b s.0.0
token_rank b more follow (kind.Int w) s = digit_rank b (and_true _ _ s.0).0
token_rank b more follow (kind.Str w) s = let same : b ≡ 39 = cc s.0 in rw same refl
token_rank b more follow (kind.Name w) s = let same : b ≡ 34 = cc s.0 in rw same refl
token_rank b more follow (kind.Sign w) s = ap first_rank s.0 ∙ sign_rank w

pub token_some : (follow : List ℕ) (k : TokenKind) → Spells [] follow k → ⊥
token_some follow (kind.Word w) s = s.0
token_some follow (kind.Int w) s = s.0
token_some follow (kind.Str w) s = cc s.0
token_some follow (kind.Name w) s = cc s.0
token_some follow (kind.Sign w) s = absurd (omega (arith, ap first_rank s.0 ∙ sign_rank w))

pub front_rank : (front rest follow : List ℕ) (k : TokenKind) → Spells front follow k → first_rank (front ++ rest) ≡ kind_rank k
front_rank [] rest follow k s = absurd (token_some follow k s)
front_rank (b ∷ front) rest follow k s = token_rank b front follow k s

pub kind_not_blank : (k : TokenKind) → kind_rank k ≡ 5 → ⊥
kind_not_blank (kind.Word w) h = absurd (omega arith)
kind_not_blank (kind.Int w) h = absurd (omega arith)
kind_not_blank (kind.Str w) h = absurd (omega arith)
kind_not_blank (kind.Name w) h = absurd (omega arith)
kind_not_blank (kind.Sign w) h = absurd (omega arith)

-- ---- one token at a place

pub record IsSameCut (f r g s : List ℕ) (k l : TokenKind) : Type 0 where
  pub fronts : f ≡ g
  pub rests : r ≡ s
  pub kinds : k ≡ l

pub begins_continues : (b : ℕ) → begins_word b ≡ true → continues_word b ≡ true
begins_continues b h = grind (arith, nat_tests)

pub word_all : (f : List ℕ) → IsWord f → list_all continues_word f ≡ true
word_all [] h = absurd h
word_all (b ∷ f) h = rw (begins_continues b h.0) h.1

pub digits_all : (f : List ℕ) → IsDigits f → list_all is_ascii_digit f ≡ true
digits_all [] h = absurd h
digits_all (b ∷ f) h = h

digit_continues : (b : ℕ) → is_ascii_digit b ≡ true → continues_word b ≡ true
digit_continues b h = grind (arith, nat_tests)

pub stops_digits : (r : List ℕ) → goes_on continues_word r ≡ false → goes_on is_ascii_digit r ≡ false
stops_digits [] h = refl
stops_digits (b ∷ r) h = by_test (is_ascii_digit b) refl where
  by_test : (x : Bool) → is_ascii_digit b ≡ x → is_ascii_digit b ≡ false
  by_test true e = absurd (clash (continues_word b) (digit_continues b e) h)
  by_test false e = e

cancel : (f r s : List ℕ) → f ++ r ≡ f ++ s → r ≡ s
cancel [] r s e = e
cancel (b ∷ f) r s e = cancel f r s (cc e)

pub less_alone : (x y : Bool) → (x || y) ≡ false → cond x (Some sign.NotEqual) (cond y (Some sign.LessOrEqual) None) ≡ None
less_alone true y h = cc h
less_alone false true h = cc h
less_alone false false h = refl

-- a sign is the one that its first two characters tell
pub sign_told : (r : List ℕ) (s : Sign) → goes_on (lengthens s) r ≡ false
    → (double_at (sign_text s ++ r) ≡ Some s) ⊎ ((double_at (sign_text s ++ r) ≡ None) × (single_at (sign_text s ++ r) ≡ Some s))
sign_told [] sign.LeftParen h = inr (refl, refl)
sign_told (b ∷ r) sign.LeftParen h = inr (refl, refl)
sign_told [] sign.RightParen h = inr (refl, refl)
sign_told (b ∷ r) sign.RightParen h = inr (refl, refl)
sign_told [] sign.Comma h = inr (refl, refl)
sign_told (b ∷ r) sign.Comma h = inr (refl, refl)
sign_told [] sign.Semicolon h = inr (refl, refl)
sign_told (b ∷ r) sign.Semicolon h = inr (refl, refl)
sign_told [] sign.Dot h = inr (refl, refl)
sign_told (b ∷ r) sign.Dot h = inr (refl, refl)
sign_told r sign.Cast h = inl refl
sign_told [] sign.Equal h = inr (refl, refl)
sign_told (b ∷ r) sign.Equal h = inr (refl, refl)
sign_told r sign.NotEqual h = inl refl
sign_told r sign.LessOrEqual h = inl refl
sign_told r sign.GreaterOrEqual h = inl refl
sign_told [] sign.Plus h = inr (refl, refl)
sign_told (b ∷ r) sign.Plus h = inr (refl, refl)
sign_told [] sign.Minus h = inr (refl, refl)
sign_told (b ∷ r) sign.Minus h = inr (refl, refl)
sign_told r sign.Concat h = inl refl
sign_told [] sign.Star h = inr (refl, refl)
sign_told (b ∷ r) sign.Star h = inr (refl, refl)
sign_told r sign.FloorDivide h = inl refl
sign_told [] sign.Percent h = inr (refl, refl)
sign_told (b ∷ r) sign.Percent h = inr (refl, refl)
sign_told [] sign.Less h = inr (refl, refl)
sign_told (b ∷ r) sign.Less h = inr (less_alone (b == 62) (b == 61) h, refl)
sign_told [] sign.Greater h = inr (refl, refl)
sign_told (b ∷ r) sign.Greater h = inr (rw h refl, refl)

abbrev pub told : Option Sign → Option Sign → Option Sign
told (Some s) o = Some s
told None o = o

pub sign_found : (f r : List ℕ) (s : Sign) → Spells f r (kind.Sign s) → told (double_at (f ++ r)) (single_at (f ++ r)) ≡ Some s
sign_found f r s h = rw h.0 (by_cases (sign_told r s h.1)) where
  by_cases : (double_at (sign_text s ++ r) ≡ Some s) ⊎ ((double_at (sign_text s ++ r) ≡ None) × (single_at (sign_text s ++ r) ≡ Some s)) → told (double_at (sign_text s ++ r)) (single_at (sign_text s ++ r)) ≡ Some s
  by_cases (inl e) = ap (λ o. told o (single_at (sign_text s ++ r))) e
  by_cases (inr e) = ap (λ o. told o (single_at (sign_text s ++ r))) e.0 ∙ e.1

pub name_parts : (f r n : List ℕ) → f ≡ 34 ∷ n ++ 34 ∷ [] → f ++ r ≡ 34 ∷ (n ++ 34 ∷ r)
name_parts f r n e = rw e (ap (λ x. 34 ∷ x) (append_assoc n (34 ∷ []) r))

pub text_parts : (f r t : List ℕ) → f ≡ 39 ∷ doubled t ++ 39 ∷ [] → f ++ r ≡ 39 ∷ (doubled t ++ 39 ∷ r)
text_parts f r t e = rw e (ap (λ x. 39 ∷ x) (append_assoc (doubled t) (39 ∷ []) r))

same_kinds : (f r g s : List ℕ) (k l : TokenKind) → kind_rank k ≡ kind_rank l → Spells f r k → Spells g s l → f ++ r ≡ g ++ s → IsSameCut f r g s k l
same_kinds f r g s (kind.Word v) (kind.Word w) q a b e =
    let h = run_once continues_word f r g s (word_all f a.0) a.2 (word_all g b.0) b.2 e in
    let o : Some v ≡ Some w = sym (keyword_found f v a.1) ∙ ap keyword_of h.0 ∙ keyword_found g w b.1 in
    let same : v ≡ w = cc o in
    record { fronts = h.0; rests = h.1; kinds = ap kind.Word same }
same_kinds f r g s (kind.Int v) (kind.Int w) q a b e =
    let h = run_once is_ascii_digit f r g s (digits_all f a.0) (stops_digits r a.3) (digits_all g b.0) (stops_digits s b.3) e in
    record { fronts = h.0; rests = h.1; kinds = ap kind.Int (a.1 ∙ ap (λ x. pos (digits_value 10 x)) h.0 ∙ sym b.1) }
same_kinds f r g s (kind.Str v) (kind.Str w) q a b e =
    let inner : 39 ∷ (doubled v ++ 39 ∷ r) ≡ 39 ∷ (doubled w ++ 39 ∷ s) = sym (text_parts f r v a.0) ∙ e ∙ text_parts g s w b.0 in
    let h = doubled_once v w r s a.2 b.2 (cc inner) in
    record { fronts = a.0 ∙ ap (λ x. 39 ∷ doubled x ++ 39 ∷ []) h.0 ∙ sym b.0; rests = h.1; kinds = ap kind.Str h.0 }
same_kinds f r g s (kind.Name v) (kind.Name w) q a b e =
    let inner : 34 ∷ (v ++ 34 ∷ r) ≡ 34 ∷ (w ++ 34 ∷ s) = sym (name_parts f r v a.0) ∙ e ∙ name_parts g s w b.0 in
    let h = run_once is_in_name v (34 ∷ r) w (34 ∷ s) a.1.1 refl b.1.1 refl (cc inner) in
    let rests : 34 ∷ r ≡ 34 ∷ s = h.1 in
    record { fronts = a.0 ∙ ap (λ x. 34 ∷ x ++ 34 ∷ []) h.0 ∙ sym b.0; rests = cc rests; kinds = ap kind.Name h.0 }
same_kinds f r g s (kind.Sign v) (kind.Sign w) q a b e =
    let o : Some v ≡ Some w = sym (sign_found f r v a) ∙ ap (λ x. told (double_at x) (single_at x)) e ∙ sign_found g s w b in
    let same : v ≡ w = cc o in
    let fronts : f ≡ g = a.0 ∙ ap sign_text same ∙ sym b.0 in
    record { fronts = fronts; rests = cancel g r s (subst (λ x. x ++ r ≡ g ++ s) fronts e); kinds = ap kind.Sign same }
same_kinds f r g s _ _ q a b e = absurd (omega arith)

pub spelled_once : (f r g s : List ℕ) (k l : TokenKind) → Spells f r k → Spells g s l → f ++ r ≡ g ++ s → IsSameCut f r g s k l
spelled_once f r g s k l a b e = same_kinds f r g s k l (sym (front_rank f r r k a) ∙ ap first_rank e ∙ front_rank g s s l b) a b e
