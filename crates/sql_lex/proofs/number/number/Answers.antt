use Rattle.std.proofs.Common.{◌≡◌, ℕ, ◌<◌, ◌≤◌, true, length, Result, Ok, Err, Option, Some, None, ℤ, pos, subst, arith, rules, w64, to_z, of_z, ◌∙◌}
use Rattle.std.specs.Char.{is_ascii_digit}
use Rattle.std.specs.List.{list_all}
use Rattle.std.specs.Option.{SomeIff}
use Rattle.std.specs.Result.{OkIff}
use Rattle.std.specs.Str.Parse.{digits_value}
use Rattle.std.proofs.lemmas.Str.Parse.{IsNumeralModel, numerals_by_value, parse_signed_digits}
use Rattle.sql_lex.proofs.number.number.Goals as goal

digits : IsNumeralModel (λ ds. list_all is_ascii_digit ds ≡ true) (digits_value 10)
digits = numerals_by_value _ (search rules)

abbrev optional : {E : Type 0} → Result ℤ E → Option ℤ
optional (Ok x) = Some x
optional (Err e) = None

tells : {E : Type 0} (n m : ℕ) (z : ℤ) (r : Result ℤ E) → OkIff r ((0 < m) × (n < 9223372036854775808)) z → 0 < m → SomeIff (optional r) (n ≤ 9223372036854775807) z
tells n m z (Ok x) h p = (omega (arith, h.0.1), h.1)
tells n m z (Err x) h p = λ t. absurd (h (p, omega arith))

pub returns-in-Ok : goal.returns-in-Ok
returns-in-Ok c =
    let ds = c.args.digits.now in
    let read : to_z w64 (of_z w64 c.in-Ok.number) ≡ c.in-Ok.number = search rules in
    let h : (digits_value 10 ds ≤ 9223372036854775807) × (c.in-Ok.number ≡ pos (digits_value 10 ds)) =
    subst (λ r. SomeIff (optional r) (digits_value 10 ds ≤ 9223372036854775807) (pos (digits_value 10 ds))) c.in-Ok.is
    (tells (digits_value 10 ds) (length ds) (pos (digits_value 10 ds)) c.parse.result (parse_signed_digits digits w64 ds c.parse.result c.parse.ensures.value.0 c.requires.digits) c.requires.some) in
    (h.0, read ∙ h.1)

pub returns-in-Err : goal.returns-in-Err
returns-in-Err c =
    let ds = c.args.digits.now in
    subst (λ r. SomeIff (optional r) (digits_value 10 ds ≤ 9223372036854775807) (pos (digits_value 10 ds))) c.in-Err.is
    (tells (digits_value 10 ds) (length ds) (pos (digits_value 10 ds)) c.parse.result (parse_signed_digits digits w64 ds c.parse.result c.parse.ensures.value.0 c.requires.digits) c.requires.some)
