-- What each of the functions that cut a token off has found.
use Rattle.std.proofs.Common.{◌≡◌, ◌≢◌, ℕ, zero, suc, ◌+◌, ◌<◌, ◌≤◌, Bool, true, false, cond, ◌&&◌, ◌==◌, ◌⊎◌, List, [], ◌∷◌, ◌++◌, length, take, drop, get_or, refl, sym, ap, ◌∙◌, subst, arith, inl, inr, Option, Some, None, append_assoc, length-append, ⊎_elim, nat_le}
use Rattle.std.specs.Char.{is_ascii_digit}
use Rattle.std.specs.List.{list_all, prefix_len}
use Rattle.std.specs.Str.{IsAscii}
use Rattle.std.specs.Str.Parse.{digits_value}
use Rattle.std.proofs.lemmas.Bool.Decides.{nat_tests}
use Rattle.std.proofs.lemmas.Grind.{common_steps}
use Rattle.std.proofs.lemmas.List.{take-append-drop, length-take-le}
use Rattle.std.proofs.lemmas.List.Sums.{prefix_len-le-length}
use Rattle.std.proofs.Math.Seq.{take-append_seam}
use Rattle.ev_lex.specs.declared.token.Sign.{Sign}
use Rattle.ev_lex.specs.declared.token.Sign.TheVariants as sign
use Rattle.ev_lex.specs.declared.token.TokenKind.{TokenKind}
use Rattle.ev_lex.specs.declared.token.TokenKind.TheVariants as kind
use Rattle.ev_lex.specs.Byte.{begins_word, continues_word, is_within_line, is_quote, goes_on}
use Rattle.ev_lex.specs.Cut.{IsSeparatorLength, IsClosing}
use Rattle.ev_lex.specs.Literal.{Closes, IsLiteral}
use Rattle.ev_lex.specs.Sign.{sign_text}
use Rattle.ev_lex.specs.SignTable.{begins_other, entry, entry_of_two, singles, doubles, sign_of, sign_at}
use Rattle.ev_lex.specs.Token.{IsWord, IsInt, Spells, IsLongest, BeginsNoToken}
use Rattle.ev_lex.proofs.Literals.{literal_same}
use Rattle.ev_lex.proofs.Ranks.{byte_rank, kind_rank, first_rank, word_rank, digit_rank, quote_rank, token_rank, token_some, sign_short, sign_found}
use Rattle.ev_lex.proofs.Separators.{and_true, all_behind, run_once}
use Rattle.ev_lex.proofs.Tokens.{spelled_rank, front_rank}

-- ---- runs

front_step : (p : ℕ → Bool) (x : ℕ) (xs : List ℕ) (n : ℕ) (b : Bool) → p x ≡ b → list_all p (take n xs) ≡ true → list_all p (take (cond b (1 + n) 0) (x ∷ xs)) ≡ true
front_step p x xs n true e h = let one : 1 + n ≡ suc n = omega arith in rw one (rw e h)
front_step p x xs n false e h = refl

pub run_front : (p : ℕ → Bool) (xs : List ℕ) → list_all p (take (prefix_len p xs) xs) ≡ true
run_front p [] = refl
run_front p (x ∷ xs) = front_step p x xs (prefix_len p xs) (p x) refl (run_front p xs)

stops_step : (p : ℕ → Bool) (x : ℕ) (xs : List ℕ) (n : ℕ) (b : Bool) → p x ≡ b → goes_on p (drop n xs) ≡ false → goes_on p (drop (cond b (1 + n) 0) (x ∷ xs)) ≡ false
stops_step p x xs n true e h = let one : 1 + n ≡ suc n = omega arith in rw one h
stops_step p x xs n false e h = e

pub run_stops : (p : ℕ → Bool) (xs : List ℕ) → goes_on p (drop (prefix_len p xs) xs) ≡ false
run_stops p [] = refl
run_stops p (x ∷ xs) = stops_step p x xs (prefix_len p xs) (p x) refl (run_stops p xs)

clash : (b : Bool) → b ≡ true → b ≡ false → ⊥
clash b h k = cc (sym h ∙ k)

-- ---- words

word_only : (front rest : List ℕ) (k : TokenKind) → first_rank front ≡ 1 → Spells front rest k → IsWord front
word_only front rest (kind.Word w) r s = s.1
word_only front rest (kind.Int w) r s = absurd (omega (arith, spelled_rank front rest (kind.Int w) s))
word_only front rest (kind.Str w) r s = absurd (omega (arith, spelled_rank front rest (kind.Str w) s))
word_only front rest (kind.Sign w) r s = absurd (omega (arith, spelled_rank front rest (kind.Sign w) s))

pub word_longest : (front rest : List ℕ) → goes_on begins_word front ≡ true → list_all continues_word front ≡ true → goes_on continues_word rest ≡ false → IsLongest front rest (kind.Word front)
word_longest [] rest a b d = cc a
word_longest (c ∷ front) rest a b d = ((refl, (a, (and_true _ _ b).1)), longer) where
  longer : (x : ℕ) (more r : List ℕ) (other : TokenKind) → rest ≡ (x ∷ more) ++ r → Spells ((c ∷ front) ++ x ∷ more) r other → ⊥
  longer x more r other e s =
      let w = word_only ((c ∷ front) ++ x ∷ more) r other (word_rank c a) s in
      clash (continues_word x) (all_behind continues_word front x more w.1) (subst (λ l. goes_on continues_word l ≡ false) e d)

-- ---- numbers

digit_continues : (b : ℕ) → is_ascii_digit b ≡ true → continues_word b ≡ true
digit_continues b h = grind (arith, nat_tests)

stops_digits : (r : List ℕ) → goes_on continues_word r ≡ false → goes_on is_ascii_digit r ≡ false
stops_digits [] h = refl
stops_digits (b ∷ r) h = by_test (is_ascii_digit b) refl where
  by_test : (x : Bool) → is_ascii_digit b ≡ x → is_ascii_digit b ≡ false
  by_test true e = absurd (clash (continues_word b) (digit_continues b e) h)
  by_test false e = e

int_only : (front rest : List ℕ) (k : TokenKind) → first_rank front ≡ 2 → Spells front rest k → IsInt front rest
int_only front rest (kind.Word w) r s = absurd (omega (arith, spelled_rank front rest (kind.Word w) s))
int_only front rest (kind.Int w) r s = s.1
int_only front rest (kind.Str w) r s = absurd (omega (arith, spelled_rank front rest (kind.Str w) s))
int_only front rest (kind.Sign w) r s = absurd (omega (arith, spelled_rank front rest (kind.Sign w) s))

int_digits : (front rest : List ℕ) → IsInt front rest → (list_all is_ascii_digit front ≡ true) × (digits_value 10 front ≤ 9223372036854775807) × (goes_on continues_word rest ≡ false)
int_digits [] rest h = absurd h
int_digits (b ∷ front) rest h = h

pub int_longest : (front rest : List ℕ) → goes_on is_ascii_digit front ≡ true → list_all is_ascii_digit front ≡ true → digits_value 10 front ≤ 9223372036854775807 → goes_on continues_word rest ≡ false
    → IsLongest front rest (kind.Int front)
int_longest [] rest a b v d = cc a
int_longest (c ∷ front) rest a b v d = ((refl, (b, v, d)), longer) where
  longer : (x : ℕ) (more r : List ℕ) (other : TokenKind) → rest ≡ (x ∷ more) ++ r → Spells ((c ∷ front) ++ x ∷ more) r other → ⊥
  longer x more r other e s =
      let w = int_digits ((c ∷ front) ++ x ∷ more) r (int_only ((c ∷ front) ++ x ∷ more) r other (digit_rank c a) s) in
      clash (continues_word x) (digit_continues x (all_behind is_ascii_digit (c ∷ front) x more w.0)) (subst (λ l. goes_on continues_word l ≡ false) e d)

first_of_front : (p : ℕ → Bool) (f r g s : List ℕ) → goes_on p f ≡ true → f ++ r ≡ g ++ s → g ≢ [] → goes_on p g ≡ true
first_of_front p [] r g s a e n = cc a
first_of_front p (b ∷ f) r [] s a e n = absurd (n refl)
first_of_front p (b ∷ f) r (c ∷ g) s a e n = let h : b ≡ c = cc in subst (λ x. p x ≡ true) h a

-- a number at the front takes the whole run of digits, fits, and ends there
pub int_whole : (front rest : List ℕ) → goes_on is_ascii_digit front ≡ true → list_all is_ascii_digit front ≡ true → goes_on is_ascii_digit rest ≡ false
    → (digits_value 10 front ≤ 9223372036854775807 → goes_on continues_word rest ≡ false → ⊥) → BeginsNoToken (front ++ rest)
int_whole front rest a b d never f r k e s =
    let rank = rank_here f r k e s in
    let w = int_digits f r (int_only f r k rank s) in
    let same = run_once is_ascii_digit front rest f r b d w.0 (stops_digits r w.2) e in
    never (subst (λ l. digits_value 10 l ≤ 9223372036854775807) (sym same.0) w.1) (subst (λ l. goes_on continues_word l ≡ false) (sym same.1) w.2)
  where
    digit_first : (xs : List ℕ) → goes_on is_ascii_digit xs ≡ true → first_rank xs ≡ 2
    digit_first [] h = cc h
    digit_first (x ∷ xs) h = digit_rank x h

    rank_here : (f r : List ℕ) (k : TokenKind) → front ++ rest ≡ f ++ r → Spells f r k → first_rank f ≡ 2
    rank_here [] r k e s = absurd (token_some r k s)
    rank_here (x ∷ f) r k e s = digit_first (x ∷ f) (first_of_front is_ascii_digit front rest (x ∷ f) r a e (λ n. cc n))

-- ---- signs

sign_only : (front rest : List ℕ) (k : TokenKind) → first_rank front ≡ 0 → Spells front rest k → (s : Sign) × (k ≡ kind.Sign s) × (front ≡ sign_text s)
sign_only front rest (kind.Word w) r s = absurd (omega (arith, spelled_rank front rest (kind.Word w) s))
sign_only front rest (kind.Int w) r s = absurd (omega (arith, spelled_rank front rest (kind.Int w) s))
sign_only front rest (kind.Str w) r s = absurd (omega (arith, spelled_rank front rest (kind.Str w) s))
sign_only front rest (kind.Sign w) r s = (w, refl, s)

abbrev IsRight : List (ℕ × Sign) → Type 0
IsRight [] = Unit {0}
IsRight (e ∷ more) = (e.0 ∷ [] ≡ sign_text e.1) × IsRight more

abbrev IsRightOfTwo : List (ℕ × ℕ × Sign) → Type 0
IsRightOfTwo [] = Unit {0}
IsRightOfTwo (e ∷ more) = (e.0 ∷ e.1 ∷ [] ≡ sign_text e.2) × IsRightOfTwo more

either_way : (t : Bool) (x s : Sign) (o : Option Sign) (P : Sign → Type 0) → (t ≡ true → P x) → (o ≡ Some s → P s) → cond t (Some x) o ≡ Some s → P s
either_way true x s o P f g h = let e : x ≡ s = cc in subst P e (f refl)
either_way false x s o P f g h = g h

eqb_same : (x y : ℕ) → (x == y) ≡ true → x ≡ y
eqb_same x y h = grind (arith, nat_tests)

entry_right : (table : List (ℕ × Sign)) (b : ℕ) (s : Sign) → IsRight table → entry table b ≡ Some s → b ∷ [] ≡ sign_text s
entry_right [] b s r h = cc h
entry_right (e ∷ more) b s r h =
    either_way (b == e.0) e.1 s (entry more b) (λ x. b ∷ [] ≡ sign_text x) (λ t. ap (λ x. x ∷ []) (eqb_same b e.0 t) ∙ r.0) (entry_right more b s r.1) h

entry_right_of_two : (table : List (ℕ × ℕ × Sign)) (b c : ℕ) (s : Sign) → IsRightOfTwo table → entry_of_two table b c ≡ Some s → b ∷ c ∷ [] ≡ sign_text s
entry_right_of_two [] b c s r h = cc h
entry_right_of_two (e ∷ more) b c s r h =
    either_way (b == e.0 && c == e.1) e.2 s (entry_of_two more b c) (λ x. b ∷ c ∷ [] ≡ sign_text x)
    (λ t. let a = and_true _ _ t in ap (λ x. x ∷ c ∷ []) (eqb_same b e.0 a.0) ∙ ap (λ x. e.0 ∷ x ∷ []) (eqb_same c e.1 a.1) ∙ r.0)
    (entry_right_of_two more b c s r.1) h

singles_right : IsRight singles
singles_right = (refl, (refl, (refl, (refl, (refl, (refl, (refl, (refl, (refl, (refl, (refl, (refl, (refl, (refl, (refl, (refl, (refl, (refl, (refl, tt)))))))))))))))))))

doubles_right : IsRightOfTwo doubles
doubles_right = (refl, (refl, (refl, (refl, (refl, (refl, (refl, (refl, (refl, (refl, (refl, tt)))))))))))

-- a sign that is found by some characters is written so
sign_written : (bytes : List ℕ) (s : Sign) → sign_of bytes ≡ Some s → bytes ≡ sign_text s
sign_written [] s h = cc h
sign_written (b ∷ []) s h = entry_right singles b s singles_right h
sign_written (b ∷ c ∷ []) s h = entry_right_of_two doubles b c s doubles_right h
sign_written (b ∷ c ∷ d ∷ []) s h =
    either_way (b == 63 && c == 33 && d == 61) sign.OptionalNotEqual s None (λ x. b ∷ c ∷ d ∷ [] ≡ sign_text x)
    (λ t. let a = and_true _ _ t in let m = and_true _ _ a.0 in
    ap (λ x. x ∷ c ∷ d ∷ []) (eqb_same b 63 m.0) ∙ ap (λ x. 63 ∷ x ∷ d ∷ []) (eqb_same c 33 m.1) ∙ ap (λ x. 63 ∷ 33 ∷ x ∷ []) (eqb_same d 61 a.1))
    (λ e. absurd (cc e)) h
sign_written (b ∷ c ∷ d ∷ e ∷ more) s h = cc h

sign_at_parts : (bytes : List ℕ) (n : ℕ) (s : Sign) → sign_at bytes n ≡ Some s → (n ≤ length bytes) × (sign_of (take n bytes) ≡ Some s)
unfolding sign_at
sign_at_parts bytes n s h = by_test (nat_le n (length bytes)) refl h where
  by_test : (t : Bool) → nat_le n (length bytes) ≡ t → cond t (sign_of (take n bytes)) None ≡ Some s → (n ≤ length bytes) × (sign_of (take n bytes) ≡ Some s)
  by_test true e h = (grind (arith, nat_tests), h)
  by_test false e h = cc h

sign_at_front : (front rest : List ℕ) (s : Sign) → front ≡ sign_text s → sign_at (front ++ rest) (length front) ≡ Some s
unfolding sign_at
sign_at_front front rest s e =
    let fits : nat_le (length front) (length (front ++ rest)) ≡ true = grind (arith, nat_tests, common_steps) in
    rw (fits, take-append_seam front rest) (ap sign_of e ∙ sign_found s)

pub sign_token : (bytes : List ℕ) (n : ℕ) (s : Sign) → sign_at bytes n ≡ Some s → 0 < n → ((m : ℕ) → n < m → m ≤ 3 → sign_at bytes m ≡ None)
    → (0 < n) × (n ≤ length bytes) × IsLongest (take n bytes) (drop n bytes) (kind.Sign s)
sign_token bytes n s h some none = (some, parts.0, (spelled, longer)) where
  parts : (n ≤ length bytes) × (sign_of (take n bytes) ≡ Some s)
  parts = sign_at_parts bytes n s h

  spelled : take n bytes ≡ sign_text s
  spelled = sign_written (take n bytes) s parts.1

  longer : (b : ℕ) (more rest : List ℕ) (other : TokenKind) → drop n bytes ≡ (b ∷ more) ++ rest → Spells (take n bytes ++ b ∷ more) rest other → ⊥
  longer b more rest other e t =
      let whole : bytes ≡ (take n bytes ++ b ∷ more) ++ rest = sym (take-append-drop n bytes) ∙ ap (λ x. take n bytes ++ x) e ∙ sym (append_assoc (take n bytes) (b ∷ more) rest) in
      let o = sign_only (take n bytes ++ b ∷ more) rest other (front_rank (take n bytes) (b ∷ more) (drop n bytes) (kind.Sign s) spelled) t in
      let found = sign_at_front (take n bytes ++ b ∷ more) rest o.0 o.2 in
      let long : length (take n bytes ++ b ∷ more) ≤ 3 = rw o.2 (sign_short o.0) in
      let more_long : n < length (take n bytes ++ b ∷ more) = omega (arith, length-append (take n bytes) (b ∷ more), length-take-le n bytes parts.0) in
      let missing = none (length (take n bytes ++ b ∷ more)) more_long long in
      let clashing : None ≡ Some o.0 = sym missing ∙ ap (λ x. sign_at x (length (take n bytes ++ b ∷ more))) whole ∙ found in
      cc clashing

other_rank : (b : ℕ) → begins_other b ≡ false → (byte_rank b ≡ 0) ⊎ (byte_rank b ≡ 4)
other_rank b h = grind (arith, nat_tests)

pub none_of_three : (bytes : List ℕ) → sign_at bytes 1 ≡ None → sign_at bytes 2 ≡ None → sign_at bytes 3 ≡ None → (m : ℕ) → 0 < m → m ≤ 3 → sign_at bytes m ≡ None
none_of_three bytes a b c zero p q = absurd (omega arith)
none_of_three bytes a b c (suc zero) p q = a
none_of_three bytes a b c (suc (suc zero)) p q = b
none_of_three bytes a b c (suc (suc (suc zero))) p q = c
none_of_three bytes a b c (suc (suc (suc (suc m)))) p q = absurd (omega arith)

pub above_two : (bytes : List ℕ) → sign_at bytes 3 ≡ None → (m : ℕ) → 2 < m → m ≤ 3 → sign_at bytes m ≡ None
above_two bytes c m p q = none_at m (omega arith) where
  none_at : (m : ℕ) → m ≡ 3 → sign_at bytes m ≡ None
  none_at m e = rw e c

pub above_one : (bytes : List ℕ) → sign_at bytes 2 ≡ None → sign_at bytes 3 ≡ None → (m : ℕ) → 1 < m → m ≤ 3 → sign_at bytes m ≡ None
above_one bytes b c zero p q = absurd (omega arith)
above_one bytes b c (suc zero) p q = absurd (omega arith)
above_one bytes b c (suc (suc zero)) p q = b
above_one bytes b c (suc (suc (suc zero))) p q = c
above_one bytes b c (suc (suc (suc (suc m)))) p q = absurd (omega arith)

none_signed : (front rest : List ℕ) (k : TokenKind) → ((m : ℕ) → 0 < m → m ≤ 3 → sign_at (front ++ rest) m ≡ None) → (kind_rank k ≡ 0) ⊎ (kind_rank k ≡ 4) → Spells front rest k → ⊥
none_signed front rest (kind.Word w) none r s = ⊎_elim (λ h. absurd (omega arith)) (λ h. absurd (omega arith)) r
none_signed front rest (kind.Int w) none r s = ⊎_elim (λ h. absurd (omega arith)) (λ h. absurd (omega arith)) r
none_signed front rest (kind.Str w) none r s = ⊎_elim (λ h. absurd (omega arith)) (λ h. absurd (omega arith)) r
none_signed [] rest (kind.Sign w) none r s = token_some rest (kind.Sign w) s
none_signed (b ∷ front) rest (kind.Sign w) none r s =
    let short : length (b ∷ front) ≤ 3 = subst (λ x. length x ≤ 3) (sym s) (sign_short w) in
    let clashing : None ≡ Some w = sym (none (length (b ∷ front)) (omega arith) short) ∙ sign_at_front (b ∷ front) rest w s in
    cc clashing

pub sign_none : (bytes : List ℕ) → goes_on begins_other bytes ≡ false → ((m : ℕ) → 0 < m → m ≤ 3 → sign_at bytes m ≡ None) → BeginsNoToken bytes
sign_none bytes other none [] rest k e s = token_some rest k s
sign_none bytes other none (b ∷ front) rest k e s =
    let rank = token_rank b front rest k s in
    none_signed (b ∷ front) rest k (λ m p q. ap (λ x. sign_at x m) (sym e) ∙ none m p q)
    (⊎_elim (λ h. inl (sym rank ∙ h)) (λ h. inr (sym rank ∙ h)) (other_rank b (subst (λ x. goes_on begins_other x ≡ false) e other))) s

-- ---- cuts by their length

front_first : (p : ℕ → Bool) (n : ℕ) (xs : List ℕ) → 0 < n → goes_on p xs ≡ true → goes_on p (take n xs) ≡ true
front_first p zero xs some h = absurd (omega arith)
front_first p (suc n) [] some h = h
front_first p (suc n) (x ∷ xs) some h = h

run_some : (p q : ℕ → Bool) (xs : List ℕ) → ((b : ℕ) → p b ≡ true → q b ≡ true) → goes_on p xs ≡ true → 0 < prefix_len q xs
run_some p q [] f h = cc h
run_some p q (x ∷ xs) f h = rw (f x h) (omega arith)

begins_continues : (b : ℕ) → begins_word b ≡ true → continues_word b ≡ true
begins_continues b h = grind (arith, nat_tests)

pub word_token : (bytes : List ℕ) (n : ℕ) → n ≡ prefix_len continues_word bytes → goes_on begins_word bytes ≡ true
    → (0 < n) × (n ≤ length bytes) × IsLongest (take n bytes) (drop n bytes) (kind.Word (take n bytes))
word_token bytes n e h =
    let some : 0 < n = rw e (run_some begins_word continues_word bytes begins_continues h) in (
      some,
      rw e (prefix_len-le-length continues_word bytes),
      word_longest (take n bytes) (drop n bytes) (front_first begins_word n bytes some h) (rw e (run_front continues_word bytes)) (rw e (run_stops continues_word bytes)),
    )

pub int_some : (bytes : List ℕ) (n : ℕ) → n ≡ prefix_len is_ascii_digit bytes → goes_on is_ascii_digit bytes ≡ true → 0 < n
int_some bytes n e h = rw e (run_some is_ascii_digit is_ascii_digit bytes (λ b x. x) h)

pub int_run : (bytes : List ℕ) (n : ℕ) → n ≡ prefix_len is_ascii_digit bytes → list_all is_ascii_digit (take n bytes) ≡ true
int_run bytes n e = rw e (run_front is_ascii_digit bytes)

pub int_token : (bytes : List ℕ) (n : ℕ) → n ≡ prefix_len is_ascii_digit bytes → goes_on is_ascii_digit bytes ≡ true
    → digits_value 10 (take n bytes) ≤ 9223372036854775807 → goes_on continues_word (drop n bytes) ≡ false
    → (0 < n) × (n ≤ length bytes) × IsLongest (take n bytes) (drop n bytes) (kind.Int (take n bytes))
int_token bytes n e h v d =
    let some = int_some bytes n e h in
    (some, rw e (prefix_len-le-length is_ascii_digit bytes), int_longest (take n bytes) (drop n bytes) (front_first is_ascii_digit n bytes some h) (int_run bytes n e) v d)

pub int_none : (bytes : List ℕ) (n : ℕ) → n ≡ prefix_len is_ascii_digit bytes → goes_on is_ascii_digit bytes ≡ true
    → (digits_value 10 (take n bytes) ≤ 9223372036854775807 → goes_on continues_word (drop n bytes) ≡ false → ⊥) → BeginsNoToken bytes
int_none bytes n e h never =
    let some = int_some bytes n e h in
    subst BeginsNoToken (take-append-drop n bytes)
    (int_whole (take n bytes) (drop n bytes) (front_first is_ascii_digit n bytes some h) (int_run bytes n e) (rw e (run_stops is_ascii_digit bytes)) never)

all_low : (p : ℕ → Bool) → ((b : ℕ) → p b ≡ true → b < 128) → (xs : List ℕ) → list_all p xs ≡ true → IsAscii xs
all_low p low [] h i = omega arith
all_low p low (x ∷ xs) h zero = low x (and_true _ _ h).0
all_low p low (x ∷ xs) h (suc i) = all_low p low xs (and_true _ _ h).1 i

word_low : (b : ℕ) → continues_word b ≡ true → b < 128
word_low b h = grind (arith, nat_tests)

digit_low : (b : ℕ) → is_ascii_digit b ≡ true → b < 128
digit_low b h = grind (arith, nat_tests)

pub word_ascii : (bytes : List ℕ) (n : ℕ) → n ≡ prefix_len continues_word bytes → IsAscii (take n bytes)
word_ascii bytes n e = all_low continues_word word_low (take n bytes) (rw e (run_front continues_word bytes))

pub int_ascii : (bytes : List ℕ) (n : ℕ) → n ≡ prefix_len is_ascii_digit bytes → IsAscii (take n bytes)
int_ascii bytes n e = all_low is_ascii_digit digit_low (take n bytes) (int_run bytes n e)

-- ---- separators

pub comment_length : (more : List ℕ) (n : ℕ) → n ≡ prefix_len is_within_line more → IsSeparatorLength (35 ∷ more) (suc n)
comment_length more n e = (
  let h : n ≤ length more = rw e (prefix_len-le-length is_within_line more) in omega arith,
  λ z. absurd (omega arith),
  λ some. inr (take n more, refl, rw e (run_front is_within_line more), rw e (run_stops is_within_line more)),
)

-- ---- literals

str_only : (front rest : List ℕ) (k : TokenKind) → first_rank front ≡ 3 → Spells front rest k → (t : List ℕ) × (k ≡ kind.Str t) × IsLiteral front t
str_only front rest (kind.Word w) r s = absurd (omega (arith, spelled_rank front rest (kind.Word w) s))
str_only front rest (kind.Int w) r s = absurd (omega (arith, spelled_rank front rest (kind.Int w) s))
str_only front rest (kind.Str w) r s = (w, refl, s)
str_only front rest (kind.Sign w) r s = absurd (omega (arith, spelled_rank front rest (kind.Sign w) s))

pub literal_longest : (quote : ℕ) (front rest t : List ℕ) → is_quote quote ≡ true → Closes quote front t → IsLongest (quote ∷ front) rest (kind.Str t)
literal_longest quote front rest t q d = ((quote, front, refl, q, d), longer) where
  longer : (b : ℕ) (more r : List ℕ) (other : TokenKind) → rest ≡ (b ∷ more) ++ r → Spells ((quote ∷ front) ++ b ∷ more) r other → ⊥
  longer b more r other e s =
      let o = str_only ((quote ∷ front) ++ b ∷ more) r other (quote_rank quote q) s in
      let h = literal_same (quote ∷ front) ((b ∷ more) ++ r) ((quote ∷ front) ++ b ∷ more) r t o.0 (quote, front, refl, q, d) o.2 (sym (append_assoc (quote ∷ front) (b ∷ more) r)) in
      absurd (omega (arith, ap length h.0, length-append (quote ∷ front) (b ∷ more)))

pub literal_none : (quote : ℕ) (more : List ℕ) → is_quote quote ≡ true → ((front rest t : List ℕ) → more ≡ front ++ rest → Closes quote front t → ⊥) → BeginsNoToken (quote ∷ more)
literal_none quote more q never [] rest k e s = token_some rest k s
literal_none quote more q never (b ∷ front) rest k e s =
    let same : quote ≡ b = cc in
    let o = str_only (b ∷ front) rest k (ap byte_rank (sym same) ∙ quote_rank quote q) s in
    let l = o.2 in
    let its : quote ≡ l.0 = let h : b ≡ l.0 = cc l.2 in same ∙ h in
    let behind : l.1 ≡ front = cc l.2 in
    never front rest o.0 (cc) (subst (λ x. Closes x front o.0) (sym its) (subst (λ x. Closes l.0 x o.0) behind l.4))

cut_first : (xs : List ℕ) → 0 < length xs → xs ≡ get_or xs 0 0 ∷ drop 1 xs
cut_first [] some = absurd (omega arith)
cut_first (x ∷ xs) some = refl

pub comment_at : (bytes : List ℕ) (n : ℕ) → n ≡ prefix_len is_within_line bytes → get_or bytes 0 0 ≡ 35 → 0 < length bytes → IsSeparatorLength bytes n
comment_at [] n e h some = absurd (omega arith)
comment_at (b ∷ more) n e h some =
    let whole : n ≡ suc (prefix_len is_within_line more) = e ∙ ap (λ x. prefix_len is_within_line (x ∷ more)) h ∙ (omega arith) in
    rw (whole, h) (comment_length more (prefix_len is_within_line more) refl)

-- the literal at the front, by what closes it
pub literal_first : (bytes : List ℕ) (n : ℕ) (t : List ℕ) → goes_on is_quote bytes ≡ true → IsClosing (get_or bytes 0 0) (drop 1 bytes) (Some (t, n))
    → (0 < n + 1) × (n + 1 ≤ length bytes) × IsLongest (take (n + 1) bytes) (drop (n + 1) bytes) (kind.Str t)
literal_first [] n t q h = cc q
literal_first (b ∷ more) n t q h =
    let one : n + 1 ≡ suc n = omega arith in
    (omega arith, omega (arith, h.1), rw one (literal_longest b (take n more) (drop n more) t q h.2))

pub literal_first_none : (bytes : List ℕ) → goes_on is_quote bytes ≡ true → IsClosing (get_or bytes 0 0) (drop 1 bytes) None → BeginsNoToken bytes
literal_first_none [] q h = cc q
literal_first_none (b ∷ more) q h = literal_none b more q h
