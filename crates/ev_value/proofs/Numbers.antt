-- What `parse` of the library reads as a number of 64 bits is what a cast reads.
use Rattle.std.proofs.Common.{◌≡◌, ◌⊎◌, inl, inr, ℕ, ◌+◌, ◌-◌, ◌*◌, ◌==◌, ◌<◌, ◌&&◌, Bool, true, false, cond, List, [], ◌∷◌, drop, ℤ, pos, negsuc, neg_ℤ, Some, None, option_and_then, refl, sym, ap, ◌∙◌, arith, true≢false}
use Rattle.std.proofs.lemmas.Bool.Decides.{nat_tests}
use Rattle.std.specs.Prelude.{FitsSigned, slice_index}
use Rattle.std.specs.Int.{w64}
use Rattle.std.specs.List.{list_all}
use Rattle.std.specs.Char.{digit_value}
use Rattle.std.specs.Str.Parse.{AllDigits, IsNumeral, digits_value_after, digits_value, without_leading_sign, starts_with_minus, signed_digits_value}
use Rattle.ev_value.specs.Casts.{is_digit, number_after, digits_written, number_written, int64_in, read_item}
use Rattle.ev_value.specs.Operator.{is_int64}
use Rattle.ev_value.specs.declared.item.Fault.TheVariants as fault
use Rattle.ev_value.specs.declared.item.Item.{Item}
use Rattle.ev_value.specs.declared.item.Item.TheVariants as item
use Rattle.ev_value.specs.declared.value.Val.{Val}
use Rattle.ev_value.specs.declared.value.Val as val

-- ---- one digit

digit_yes : (c : ℕ) → digit_value c < 10 → is_digit c ≡ true
digit_yes c h = grind (arith, nat_tests)

digit_back : (c : ℕ) → is_digit c ≡ true → digit_value c < 10
digit_back c h = grind (arith, nat_tests)

digit_is : (c : ℕ) → digit_value c < 10 → digit_value c ≡ c - 48
digit_is c h = grind (arith, nat_tests)

-- ---- digits

digits_yes : (ds : List ℕ) → AllDigits 10 ds → list_all is_digit ds ≡ true
digits_yes [] h = refl
digits_yes (c ∷ cs) h = λ i. digit_yes c h.0 i && digits_yes cs h.1 i

both_true : (a b : Bool) → (a && b) ≡ true → (a ≡ true) × (b ≡ true)
both_true true b h = (refl, h)
both_true false b h = cc

digits_back : (ds : List ℕ) → list_all is_digit ds ≡ true → AllDigits 10 ds
digits_back [] h = tt
digits_back (c ∷ cs) h = let both : (is_digit c ≡ true) × (list_all is_digit cs ≡ true) = both_true (is_digit c) (list_all is_digit cs) h in (digit_back c both.0, digits_back cs both.1)

digits_are : (n : ℕ) (ds : List ℕ) → AllDigits 10 ds → digits_value_after 10 n ds ≡ number_after n ds
digits_are n [] h = refl
digits_are n (c ∷ cs) h = digits_are (n * 10 + digit_value c) cs h.1 ∙ ap (λ d. number_after (n * 10 + d) cs) (digit_is c h.0)

written_yes : (sign : ℕ → ℤ) (ds : List ℕ) → IsNumeral 10 ds → digits_written sign ds ≡ Some (sign (digits_value 10 ds))
written_yes sign [] h = absurd (omega (arith, h.0))
written_yes sign (c ∷ cs) h = ap (λ b. cond b (Some (sign (number_after 0 (c ∷ cs)))) None) (digits_yes (c ∷ cs) h.1) ∙ ap (λ n. Some (sign n)) (sym (digits_are 0 (c ∷ cs) h.1))

written_no : (sign : ℕ → ℤ) (ds : List ℕ) → ¬ (IsNumeral 10 ds) → digits_written sign ds ≡ None
written_no sign [] h = refl
written_no sign (c ∷ cs) h = by_case (list_all is_digit (c ∷ cs)) refl
  where
    by_case : (b : Bool) → list_all is_digit (c ∷ cs) ≡ b → digits_written sign (c ∷ cs) ≡ None
    by_case true e = absurd (h (omega arith, digits_back (c ∷ cs) e))
    by_case false e = ap (λ b. cond b (Some (sign (number_after 0 (c ∷ cs)))) None) e

-- ---- the sign

abbrev sign_of : Bool → ℕ → ℤ
sign_of true n = neg_ℤ (pos n)
sign_of false n = pos n

written_is : (bs : List ℕ) → (slice_index bs 0 == 43) ≡ false → number_written bs ≡ digits_written (sign_of (starts_with_minus bs)) (without_leading_sign bs)
written_is [] h = refl
written_is (c ∷ cs) h = by_case (c == 45) (c == 43) h
  where
    by_case : (minus plus : Bool) → plus ≡ false → cond minus (digits_written (λ n. neg_ℤ (pos n)) cs) (digits_written pos (c ∷ cs)) ≡ digits_written (sign_of minus) (cond minus (drop 1 (c ∷ cs)) (drop (cond plus 1 0) (c ∷ cs)))
    by_case true plus e = refl
    by_case false true e = absurd (true≢false e)
    by_case false false e = refl

value_is : (bs : List ℕ) → signed_digits_value 10 bs ≡ sign_of (starts_with_minus bs) (digits_value 10 (without_leading_sign bs))
value_is bs = by_case (starts_with_minus bs)
  where
    by_case : (minus : Bool) → cond minus (neg_ℤ (pos (digits_value 10 (without_leading_sign bs)))) (pos (digits_value 10 (without_leading_sign bs))) ≡ sign_of minus (digits_value 10 (without_leading_sign bs))
    by_case true = refl
    by_case false = refl

-- ---- the range

in_range : (z : ℤ) → FitsSigned w64 z → is_int64 z ≡ true
in_range (pos n) h = grind (arith, nat_tests, h.sfits)
in_range (negsuc n) h = grind (arith, nat_tests, h.sfits)

in_range_back : (z : ℤ) → is_int64 z ≡ true → FitsSigned w64 z
in_range_back (pos n) h = record { sfits = grind (arith, nat_tests) }
in_range_back (negsuc n) h = record { sfits = grind (arith, nat_tests) }

numeral_or_not : (ds : List ℕ) → IsNumeral 10 ds ⊎ ¬ (IsNumeral 10 ds)
numeral_or_not [] = inr (λ h. omega (arith, h.0))
numeral_or_not (c ∷ cs) = by_case (list_all is_digit (c ∷ cs)) refl
  where
    by_case : (b : Bool) → list_all is_digit (c ∷ cs) ≡ b → IsNumeral 10 (c ∷ cs) ⊎ ¬ (IsNumeral 10 (c ∷ cs))
    by_case true e = inl (omega arith, digits_back (c ∷ cs) e)
    by_case false e = inr (λ h. true≢false (sym (digits_yes (c ∷ cs) h.1) ∙ e))

-- ---- what is read

abbrev pub number_item : List ℕ → Item Val
number_item bs = read_item (option_and_then int64_in (number_written bs))

-- a number that `parse` read
pub read_is : (bs : List ℕ) → (slice_index bs 0 == 43) ≡ false → IsNumeral 10 (without_leading_sign bs) → FitsSigned w64 (signed_digits_value 10 bs)
    → number_item bs ≡ item.Value (val.Int (signed_digits_value 10 bs))
read_is bs plus numeral fits =
    let found : number_written bs ≡ Some (signed_digits_value 10 bs) = written_is bs plus ∙ written_yes (sign_of (starts_with_minus bs)) (without_leading_sign bs) numeral ∙ ap Some (sym (value_is bs)) in
    ap (λ o. read_item (option_and_then int64_in o)) found ∙ ap (λ b. read_item (cond b (Some (val.Int (signed_digits_value 10 bs))) None)) (in_range (signed_digits_value 10 bs) fits)

-- a text that `parse` refused
pub unread_is : (bs : List ℕ) → (slice_index bs 0 == 43) ≡ false → ¬ (IsNumeral 10 (without_leading_sign bs) × FitsSigned w64 (signed_digits_value 10 bs)) → number_item bs ≡ item.Fault fault.CastText
unread_is bs plus refused = by_case (numeral_or_not (without_leading_sign bs))
  where
    out_of_range : (b : Bool) → is_int64 (signed_digits_value 10 bs) ≡ b → ¬ (FitsSigned w64 (signed_digits_value 10 bs)) → read_item (cond b (Some (val.Int (signed_digits_value 10 bs))) None) ≡ item.Fault fault.CastText
    out_of_range true e h = absurd (h (in_range_back (signed_digits_value 10 bs) e))
    out_of_range false e h = refl

    by_case : IsNumeral 10 (without_leading_sign bs) ⊎ ¬ (IsNumeral 10 (without_leading_sign bs)) → number_item bs ≡ item.Fault fault.CastText
    by_case (inl numeral) =
        let found : number_written bs ≡ Some (signed_digits_value 10 bs) = written_is bs plus ∙ written_yes (sign_of (starts_with_minus bs)) (without_leading_sign bs) numeral ∙ ap Some (sym (value_is bs)) in
        ap (λ o. read_item (option_and_then int64_in o)) found ∙ out_of_range (is_int64 (signed_digits_value 10 bs)) refl (λ fits. refused (numeral, fits))
    by_case (inr not_numeral) = ap (λ o. read_item (option_and_then int64_in o)) (written_is bs plus ∙ written_no (sign_of (starts_with_minus bs)) (without_leading_sign bs) not_numeral)
