use Rattle.std.proofs.Common.{◌≡◌, ℕ, ◌<◌, ◌≤◌, ◌↔◌, true, IsTrue, length, Result, Ok, Err, ℤ, pos, refl, arith, rules, w64}
use Rattle.std.specs.Char.{is_ascii_digit}
use Rattle.std.specs.List.{list_all}
use Rattle.std.specs.Result.{OkIff, is_ok}
use Rattle.std.specs.Str.Parse.{digits_value}
use Rattle.std.proofs.lemmas.Str.Parse.{IsNumeralModel, numerals_by_value, parse_signed_digits}
use Rattle.ev_lex.proofs.number.fits.Goals as goal

digits : IsNumeralModel (λ ds. list_all is_ascii_digit ds ≡ true) (digits_value 10)
digits = numerals_by_value _ (search rules)

tells : {E : Type 0} (n m : ℕ) (z : ℤ) (r : Result ℤ E) → OkIff r ((0 < m) × (n < 9223372036854775808)) z → 0 < m → IsTrue (is_ok r) ↔ (n ≤ 9223372036854775807)
tells n m z (Ok x) h p = (λ _. omega (arith, h.0.1), λ _. refl)
tells n m z (Err x) h p = (λ t. cc t, λ t. absurd (h (p, omega arith)))

pub returns : goal.returns
returns c =
    let ds = c.args.digits.now in
    let h = parse_signed_digits digits w64 ds c.parse.result c.parse.ensures.value.0 c.requires.digits in
    rw c.is_ok.ensures.value (tells (digits_value 10 ds) (length ds) (pos (digits_value 10 ds)) c.parse.result h c.requires.some)
