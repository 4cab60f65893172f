-- Each text is cut into tokens, or refused at a byte.
use Rattle.std.proofs.Common.{◌≡◌, ℕ, zero, suc, ◌+◌, ◌<◌, ◌≤◌, Bool, true, false, ◌||◌, List, [], ◌∷◌, ◌++◌, length, take, drop, get_or, Option, Some, None, refl, sym, ap, ◌∙◌, subst, arith, inl, inr}
use Rattle.std.specs.Char.{is_ascii_digit}
use Rattle.std.specs.List.{prefix_len}
use Rattle.std.specs.Str.Parse.{digits_value}
use Rattle.std.proofs.lemmas.Bool.{cases_lt, cases_eq, cases_Bool}
use Rattle.std.proofs.lemmas.List.{length-drop}
use Rattle.ev_lex.specs.declared.token.Cut.{Cut}
use Rattle.ev_lex.specs.declared.token.Sign.{Sign}
use Rattle.ev_lex.specs.declared.token.Token.{Token}
use Rattle.ev_lex.specs.declared.token.TokenKind.TheVariants as kind
use Rattle.ev_lex.specs.Byte.{is_blank, begins_word, continues_word, is_within_line, is_quote, goes_on}
use Rattle.ev_lex.specs.Cut.{IsFirstToken, IsSeparatorLength}
use Rattle.ev_lex.specs.Reading.{Reads, Here, token_at, BeginsNoSeparator, IsRead}
use Rattle.ev_lex.specs.SignTable.{begins_other, sign_at}
use Rattle.ev_lex.proofs.Cuts.{comment_at, word_token, int_token, int_none, literal_first, literal_first_none, sign_token, sign_none, none_of_three, above_two, above_one}
use Rattle.ev_lex.proofs.EachLiteral.{Closed, first_closing}
use Rattle.ev_lex.proofs.Readings.{over_bytes, take_bytes, refused_at, cut_at}

clash : (b : Bool) → b ≡ true → b ≡ false → ⊥
clash b h k = cc (sym h ∙ k)

-- ---- separators

no_separator : (b : ℕ) (more : List ℕ) → is_blank b ≡ false → (b ≡ 35 → ⊥) → BeginsNoSeparator (b ∷ more)
no_separator b more blank other front rest e (inl t) =
    let f : b ∷ more ≡ t.0 ∷ rest = e ∙ ap (λ x. x ++ rest) t.1 in
    let same : t.0 ≡ b = cc in
    clash (is_blank b) (subst (λ x. is_blank x ≡ true) same t.2) blank
no_separator b more blank other front rest e (inr t) =
    let f : b ∷ more ≡ 35 ∷ (t.0 ++ rest) = e ∙ ap (λ x. x ++ rest) t.1 in
    let same : b ≡ 35 = cc in
    other same

first_separator : (bytes : List ℕ) → 0 < length bytes → (n : ℕ) × IsSeparatorLength bytes n
first_separator [] some = absurd (omega arith)
first_separator (b ∷ more) some = elim (cases_Bool (is_blank b)) [
  | inl blank ↦ (1, (omega arith, λ z. absurd (omega arith), λ s. inl (b, refl, blank)))
  | inr not_blank ↦ elim (cases_eq b 35) [
    | inl hash ↦ (prefix_len is_within_line (b ∷ more), comment_at (b ∷ more) (prefix_len is_within_line (b ∷ more)) refl hash some)
    | inr other ↦ (0, (omega arith, λ z. no_separator b more not_blank other, λ s. absurd (omega arith)))
  ]
]

-- ---- tokens

-- bytes have a token at the front, or none
abbrev Headed : List ℕ → Type 0
Headed bytes = (r : Option Cut) × IsFirstToken bytes r

number : (bytes : List ℕ) → goes_on is_ascii_digit bytes ≡ true → Headed bytes
number bytes digit =
    let n = prefix_len is_ascii_digit bytes in
    elim (cases_Bool (goes_on continues_word (drop n bytes))) [
      | inl on ↦ (None, int_none bytes n refl digit (λ v stops. clash (goes_on continues_word (drop n bytes)) on stops))
      | inr stops ↦ elim (cases_lt 9223372036854775807 (digits_value 10 (take n bytes))) [
        | inl high ↦ (None, int_none bytes n refl digit (λ v _. absurd (omega (arith, high, v))))
        | inr fits ↦ (Some (record { kind = kind.Int (take n bytes); len = n }), int_token bytes n refl digit fits stops)
      ]
    ]

literal : (bytes : List ℕ) → goes_on is_quote bytes ≡ true → Closed (get_or bytes 0 0) (drop 1 bytes) → Headed bytes
literal bytes quote (None, unclosed) = (None, literal_first_none bytes quote unclosed)
literal bytes quote (Some (text, n), closed) = (Some (record { kind = kind.Str text; len = n + 1 }), literal_first bytes n text quote closed)

quote_first : (bytes : List ℕ) → goes_on is_quote bytes ≡ true → is_quote (get_or bytes 0 0) ≡ true
quote_first [] h = cc h
quote_first (b ∷ more) h = h

none_of : (x y z : Bool) → x ≡ false → y ≡ false → z ≡ false → (x || y || z) ≡ false
none_of false false false a b c = refl
none_of true y z a b c = absurd (clash true refl a)
none_of false true z a b c = absurd (clash true refl b)
none_of false false true a b c = absurd (clash true refl c)

begins_none : (bytes : List ℕ) → goes_on begins_word bytes ≡ false → goes_on is_ascii_digit bytes ≡ false → goes_on is_quote bytes ≡ false → goes_on begins_other bytes ≡ false
begins_none [] a b c = refl
begins_none (x ∷ more) a b c = none_of (begins_word x) (is_ascii_digit x) (is_quote x) a b c

module _ (bytes : List ℕ) (other : goes_on begins_other bytes ≡ false) where
  by_one : sign_at bytes 3 ≡ None → sign_at bytes 2 ≡ None → (o : Option Sign) → sign_at bytes 1 ≡ o → Headed bytes
  by_one three two (Some s) e = (Some (record { kind = kind.Sign s; len = 1 }), sign_token bytes 1 s e (omega arith) (above_one bytes two three))
  by_one three two None e = (None, sign_none bytes other (none_of_three bytes e two three))

  by_two : sign_at bytes 3 ≡ None → (o : Option Sign) → sign_at bytes 2 ≡ o → Headed bytes
  by_two three (Some s) e = (Some (record { kind = kind.Sign s; len = 2 }), sign_token bytes 2 s e (omega arith) (above_two bytes three))
  by_two three None e = by_one three e (sign_at bytes 1) refl

  by_three : (o : Option Sign) → sign_at bytes 3 ≡ o → Headed bytes
  by_three (Some s) e = (Some (record { kind = kind.Sign s; len = 3 }), sign_token bytes 3 s e (omega arith) (λ m p q. absurd (omega arith)))
  by_three None e = by_two e (sign_at bytes 2) refl

first_token : (bytes : List ℕ) → Headed bytes
first_token bytes = elim (cases_Bool (goes_on begins_word bytes)) [
  | inl word ↦
      let n = prefix_len continues_word bytes in
      (Some (record { kind = kind.Word (take n bytes); len = n }), word_token bytes n refl word)
  | inr no_word ↦ elim (cases_Bool (goes_on is_ascii_digit bytes)) [
    | inl digit ↦ number bytes digit
    | inr no_digit ↦ elim (cases_Bool (goes_on is_quote bytes)) [
      | inl quote ↦ literal bytes quote (first_closing (get_or bytes 0 0) (drop 1 bytes) (quote_first bytes quote))
      | inr no_quote ↦ by_three bytes (begins_none bytes no_word no_digit no_quote) (sign_at bytes 3) refl
    ]
  ]
]

-- ---- whole texts

module _ (text : List ℕ) where
  -- the text is read from each place on from which fewer than so many bytes are left
  abbrev ReadsBehind : ℕ → Type 0
  ReadsBehind n = (at : ℕ) (ts : List Token) → Reads 0 text ts at (drop at text) → at ≤ length text → length text ≤ at + n → IsRead text

  past_token : (n at m : ℕ) (ts : List Token) → Reads 0 text ts at (drop at text) → at < length text → length text ≤ at + suc n → ReadsBehind n
      → IsSeparatorLength (drop at text) m → m ≡ 0 → (r : Option Cut) → IsFirstToken (drop at text) r → IsRead text
  past_token n at m ts read more near again s none None t = inr (at, refused_at text at m ts read more s none t)
  past_token n at m ts read more near again s none (Some cut) t =
      let some : 0 < cut.len = t.0 in
      let fits : cut.len ≤ length (drop at text) = t.1 in
      again (at + cut.len) (ts ++ token_at cut.kind at (at + cut.len) ∷ []) (take_bytes text at cut.len cut.kind ts read fits t.2)
      (omega (arith, length-drop at text)) (omega arith)

  past : (n at : ℕ) (ts : List Token) → Reads 0 text ts at (drop at text) → at < length text → length text ≤ at + suc n → ReadsBehind n
      → (m : ℕ) → IsSeparatorLength (drop at text) m → IsRead text
  past n at ts read more near again m s = elim (cases_lt 0 m) [
    | inl some ↦
        let fits : m ≤ length (drop at text) = s.0 in
        again (at + m) ts (over_bytes text at m ts read s some) (omega (arith, length-drop at text)) (omega arith)
    | inr none ↦ let token = first_token (drop at text) in past_token n at m ts read more near again s (omega arith) token.0 token.1
  ]

  read_from : (n : ℕ) → ReadsBehind n
  read_from zero at ts read within near = inl (ts, cut_at text at ts read within (omega arith))
  read_from (suc n) at ts read within near = elim (cases_lt at (length text)) [
    | inl more ↦
        let separator = first_separator (drop at text) (omega (arith, length-drop at text)) in
        past n at ts read more near (read_from n) separator.0 separator.1
    | inr end ↦ inl (ts, cut_at text at ts read within end)
  ]

pub each_reading : (text : List ℕ) → IsRead text
each_reading text = read_from text (length text) 0 [] Here (omega arith) (omega arith)
