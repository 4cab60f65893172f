-- Each text goes on behind an opening quote as a literal, or as none.
use Rattle.std.proofs.Common.{◌≡◌, ℕ, zero, suc, ◌+◌, ◌<◌, ◌≤◌, Bool, true, false, ◌⊎◌, List, [], ◌∷◌, ◌++◌, length, drop, get_or, Option, Some, None, refl, sym, ap, ◌∙◌, subst, arith, inl, inr}
use Rattle.std.specs.Char.{digit_value, encode_utf8, IsScalar}
use Rattle.std.specs.Str.Parse.{AllDigits, digits_value}
use Rattle.std.proofs.lemmas.Bool.{cases_lt, cases_eq}
use Rattle.std.proofs.lemmas.List.{length-drop, get_or-drop}
use Rattle.bstr.specs.Utf8.{decoded}
use Rattle.ev_lex.specs.Byte.{is_quote}
use Rattle.ev_lex.specs.Cut.{IsFirstEscape, IsFirstCharacter, IsFirstPiece, IsClosing}
use Rattle.ev_lex.specs.Literal.{escaped}
use Rattle.ev_lex.proofs.Characters.{character_found, character_absent}
use Rattle.ev_lex.proofs.Closing.{IsReadTo, read_none, read_piece, read_broken, read_open, read_closed, escape_piece, character_piece}

-- ---- escapes

-- bytes have an escape at the front, or none
abbrev Escaped : List ℕ → Type 0
Escaped bytes = (r : Option (ℕ × ℕ)) × IsFirstEscape bytes r

alone : IsFirstEscape (92 ∷ []) None
alone piece rest c e (inl t) = let f : 92 ∷ [] ≡ 92 ∷ t.0 ∷ rest = e ∙ ap (λ x. x ++ rest) t.1 in cc
alone piece rest c e (inr t) = let f : 92 ∷ [] ≡ 92 ∷ 117 ∷ t.0 ∷ t.1 ∷ t.2 ∷ t.3 ∷ rest = e ∙ ap (λ x. x ++ rest) t.4 in cc

short_found : (b c : ℕ) (more : List ℕ) → escaped b ≡ Some c → IsFirstEscape (92 ∷ b ∷ more) (Some (c, 2))
short_found b c more e = (omega arith, omega arith, inl (b, refl, e))

neither : (b : ℕ) (more : List ℕ) → escaped b ≡ None → (b ≡ 117 → ⊥) → IsFirstEscape (92 ∷ b ∷ more) None
neither b more none other piece rest c e (inl t) =
    let f : 92 ∷ b ∷ more ≡ 92 ∷ t.0 ∷ rest = e ∙ ap (λ x. x ++ rest) t.1 in
    let same : b ≡ t.0 = cc in
    let g : None ≡ Some c = sym none ∙ ap escaped same ∙ t.2 in
    cc
neither b more none other piece rest c e (inr t) =
    let f : 92 ∷ b ∷ more ≡ 92 ∷ 117 ∷ t.0 ∷ t.1 ∷ t.2 ∷ t.3 ∷ rest = e ∙ ap (λ x. x ++ rest) t.4 in
    let same : b ≡ 117 = cc in
    absurd (other same)

-- `\u` is no short escape
not_short : (more piece rest : List ℕ) (c b : ℕ) → 92 ∷ 117 ∷ more ≡ piece ++ rest → piece ≡ 92 ∷ b ∷ [] → escaped b ≡ Some c → ⊥
not_short more piece rest c b e is stands =
    let f : 92 ∷ 117 ∷ more ≡ 92 ∷ b ∷ rest = e ∙ ap (λ x. x ++ rest) is in
    let same : b ≡ 117 = cc in
    let g : None ≡ Some c = subst (λ x. escaped x ≡ Some c) same stands in
    cc

too_few : (more : List ℕ) → length more < 4 → IsFirstEscape (92 ∷ 117 ∷ more) None
too_few more few piece rest c e (inl t) = absurd (not_short more piece rest c t.0 e t.1 t.2)
too_few more few piece rest c e (inr t) =
    let f : 92 ∷ 117 ∷ more ≡ 92 ∷ 117 ∷ t.0 ∷ t.1 ∷ t.2 ∷ t.3 ∷ rest = e ∙ ap (λ x. x ++ rest) t.4 in
    absurd (omega (arith, few, ap length f))

hex_found : (h i j k : ℕ) (more : List ℕ) → AllDigits 16 (h ∷ i ∷ j ∷ k ∷ []) → IsScalar (digits_value 16 (h ∷ i ∷ j ∷ k ∷ []))
    → IsFirstEscape (92 ∷ 117 ∷ h ∷ i ∷ j ∷ k ∷ more) (Some (digits_value 16 (h ∷ i ∷ j ∷ k ∷ []), 6))
hex_found h i j k more digits is = (omega arith, omega arith, inr (h, i, j, k, refl, digits, refl, is))

hex_absent : (h i j k : ℕ) (more : List ℕ) → (AllDigits 16 (h ∷ i ∷ j ∷ k ∷ []) → IsScalar (digits_value 16 (h ∷ i ∷ j ∷ k ∷ [])) → ⊥)
    → IsFirstEscape (92 ∷ 117 ∷ h ∷ i ∷ j ∷ k ∷ more) None
hex_absent h i j k more never piece rest c e (inl t) = absurd (not_short (h ∷ i ∷ j ∷ k ∷ more) piece rest c t.0 e t.1 t.2)
hex_absent h i j k more never piece rest c e (inr t) =
    let f : 92 ∷ 117 ∷ h ∷ i ∷ j ∷ k ∷ more ≡ 92 ∷ 117 ∷ t.0 ∷ t.1 ∷ t.2 ∷ t.3 ∷ rest = e ∙ ap (λ x. x ++ rest) t.4 in
    let same : t.0 ∷ t.1 ∷ t.2 ∷ t.3 ∷ [] ≡ h ∷ i ∷ j ∷ k ∷ [] = cc in
    never (subst (AllDigits 16) same t.5) (subst IsScalar (t.6 ∙ ap (digits_value 16) same) t.7)

digits_or_not : (ds : List ℕ) → AllDigits 16 ds ⊎ (AllDigits 16 ds → ⊥)
digits_or_not [] = inl tt
digits_or_not (d ∷ more) = elim (cases_lt (digit_value d) 16) [
  | inl low ↦ elim (digits_or_not more) [ inl all ↦ inl (low, all) | inr broken ↦ inr (λ all. broken all.1) ]
  | inr high ↦ inr (λ all. let low : digit_value d < 16 = all.0 in omega arith)
]

true_or_not : (b : Bool) → (b ≡ true) ⊎ (b ≡ true → ⊥)
true_or_not true = inl refl
true_or_not false = inr (λ e. cc e)

scalar_or_not : (c : ℕ) → IsScalar c ⊎ (IsScalar c → ⊥)
scalar_or_not c = true_or_not _

hex : (h i j k : ℕ) (more : List ℕ) → Escaped (92 ∷ 117 ∷ h ∷ i ∷ j ∷ k ∷ more)
hex h i j k more = elim (digits_or_not (h ∷ i ∷ j ∷ k ∷ [])) [
  | inl digits ↦ elim (scalar_or_not (digits_value 16 (h ∷ i ∷ j ∷ k ∷ []))) [
    | inl is ↦ (Some (digits_value 16 (h ∷ i ∷ j ∷ k ∷ []), 6), hex_found h i j k more digits is)
    | inr none ↦ (None, hex_absent h i j k more (λ _ is. none is))
  ]
  | inr broken ↦ (None, hex_absent h i j k more (λ digits _. broken digits))
]

behind_u : (more : List ℕ) → Escaped (92 ∷ 117 ∷ more)
behind_u [] = (None, too_few [] (omega arith))
behind_u (h ∷ []) = (None, too_few (h ∷ []) (omega arith))
behind_u (h ∷ i ∷ []) = (None, too_few (h ∷ i ∷ []) (omega arith))
behind_u (h ∷ i ∷ j ∷ []) = (None, too_few (h ∷ i ∷ j ∷ []) (omega arith))
behind_u (h ∷ i ∷ j ∷ k ∷ more) = hex h i j k more

behind_backslash : (more : List ℕ) → Escaped (92 ∷ more)
behind_backslash [] = (None, alone)
behind_backslash (b ∷ more) = by_byte (escaped b) refl where
  by_byte : (o : Option ℕ) → escaped b ≡ o → Escaped (92 ∷ b ∷ more)
  by_byte (Some c) e = (Some (c, 2), short_found b c more e)
  by_byte None e = elim (cases_eq b 117) [
    | inl same ↦ subst (λ x. Escaped (92 ∷ x ∷ more)) (sym same) (behind_u more)
    | inr other ↦ (None, neither b more e other)
  ]

first_escape : (bytes : List ℕ) → 0 < length bytes → get_or bytes 0 0 ≡ 92 → Escaped bytes
first_escape [] some e = absurd (omega arith)
first_escape (b ∷ more) some e = subst (λ x. Escaped (x ∷ more)) (sym e) (behind_backslash more)

-- ---- pieces

first_character : (bytes : List ℕ) → (r : Option (ℕ × ℕ)) × IsFirstCharacter bytes r
first_character bytes = by_char (decoded bytes).char refl where
  by_char : (o : Option ℕ) → (decoded bytes).char ≡ o → (r : Option (ℕ × ℕ)) × IsFirstCharacter bytes r
  by_char (Some c) e = (Some (c, (decoded bytes).size), character_found bytes c e)
  by_char None e = (None, character_absent bytes e)

first_piece : (quote : ℕ) (bytes : List ℕ) → is_quote quote ≡ true → 0 < length bytes → (get_or bytes 0 0 ≡ quote → ⊥) → (r : Option (ℕ × ℕ)) × IsFirstPiece quote bytes r
first_piece quote bytes q some other = elim (cases_eq (get_or bytes 0 0) 92) [
  | inl e ↦ let found = first_escape bytes some e in (found.0, escape_piece quote bytes found.0 some e found.1)
  | inr e ↦ let found = first_character bytes in (found.0, character_piece quote bytes found.0 q other e found.1)
]

-- ---- up to the closing quote

-- bytes go on up to a closing quote, or they do not
abbrev pub Closed : ℕ → List ℕ → Type 0
Closed quote bytes = (r : Option (List ℕ × ℕ)) × IsClosing quote bytes r

module _ (quote : ℕ) (bytes : List ℕ) (q : is_quote quote ≡ true) where
  past_piece : (at n : ℕ) (text : List ℕ) → IsReadTo quote bytes at text → at < length bytes → (get_or bytes at 0 ≡ quote → ⊥) → length bytes ≤ at + suc n
      → ((at : ℕ) (text : List ℕ) → IsReadTo quote bytes at text → length bytes ≤ at + n → Closed quote bytes) → (r : Option (ℕ × ℕ)) → IsFirstPiece quote (drop at bytes) r → Closed quote bytes
  past_piece at n text read more other near again None p = (None, read_broken quote bytes at text read more other p)
  past_piece at n text read more other near again (Some (c, len)) p =
      let some : 0 < len = p.0 in
      again (at + len) (text ++ encode_utf8 c) (read_piece quote bytes at len text c read more other p) (omega arith)

  past : (at n : ℕ) (text : List ℕ) → IsReadTo quote bytes at text → length bytes ≤ at + suc n
      → ((at : ℕ) (text : List ℕ) → IsReadTo quote bytes at text → length bytes ≤ at + n → Closed quote bytes) → Closed quote bytes
  past at n text read near again = elim (cases_lt at (length bytes)) [
    | inl more ↦ elim (cases_eq (get_or bytes at 0) quote) [
      | inl is ↦ (Some (text, at + 1), read_closed quote bytes at text read more is)
      | inr other ↦
          let here : get_or (drop at bytes) 0 0 ≡ get_or bytes at 0 = get_or-drop at bytes 0 0 ∙ ap (λ (i : ℕ). get_or bytes i 0) (omega arith) in
          let found = first_piece quote (drop at bytes) q (omega (arith, length-drop at bytes)) (λ e. other (sym here ∙ e)) in
          past_piece at n text read more other near again found.0 found.1
    ]
    | inr end ↦ (None, read_open quote bytes at text q read (let within : at ≤ length bytes = read.within in omega arith))
  ]

  closing_from : (n at : ℕ) (text : List ℕ) → IsReadTo quote bytes at text → length bytes ≤ at + n → Closed quote bytes
  closing_from zero at text read near = (None, read_open quote bytes at text q read (let within : at ≤ length bytes = read.within in omega arith))
  closing_from (suc n) at text read near = past at n text read near (closing_from n)

  pub first_closing : Closed quote bytes
  first_closing = closing_from (length bytes) 0 [] (read_none quote bytes) (omega arith)
