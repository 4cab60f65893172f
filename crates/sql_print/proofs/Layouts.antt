-- The text of tokens is cut into these tokens again.
use Rattle.std.proofs.Common.{◌≡◌, ℕ, ℤ, pos, suc, ◌+◌, ◌<◌, ◌≤◌, ◌^◌, Bool, true, false, cond, ◌||◌, List, [], ◌∷◌, ◌++◌, length, map, refl, sym, ap, subst, arith, rules}
use Rattle.std.proofs.lemmas.List.{length-append}
use Rattle.std.proofs.lemmas.Fmt.{digits_decimal, digits_value-decimal, decimal_nonempty}
use Rattle.std.proofs.lemmas.Str.Parse.{IsNumeralModel, numerals_by_value}
use Rattle.std.specs.Char.{is_ascii_digit}
use Rattle.std.specs.Fmt.{decimal}
use Rattle.std.specs.List.{list_all}
use Rattle.std.specs.Str.Parse.{digits_value}
use Rattle.sql_lex.specs.declared.keyword.Keyword.{Keyword}
use Rattle.sql_lex.specs.declared.keyword.Keyword.TheVariants as keyword
use Rattle.sql_lex.specs.declared.token.Sign.{Sign as ASign}
use Rattle.sql_lex.specs.declared.token.Sign.TheVariants as sign
use Rattle.sql_lex.specs.declared.token.Token.{Token}
use Rattle.sql_lex.specs.declared.token.TokenKind.{TokenKind}
use Rattle.sql_lex.specs.declared.token.TokenKind.TheVariants.{Word, Name, Int, Str, Sign}
use Rattle.sql_lex.specs.Byte.{continues_word, is_quote, goes_on}
use Rattle.sql_lex.specs.Keyword.{keyword_text}
use Rattle.sql_lex.specs.Reading.{Reads, Here, Over, Take, token_at}
use Rattle.sql_lex.specs.Sign.{lengthens}
use Rattle.sql_lex.specs.Token.{Spells, IsWord, IsDigits}
use Rattle.sql_print.specs.Layout.{token_text, clings_before, clings_behind, text_behind, text_of}
use Rattle.sql_print.specs.Promise.{IsWritable, AreWritable, IsReadBack}

-- ---- what stands behind a token does not go on with it

-- A space, or a sign that clings to what is before it.
stops : (test : ℕ → Bool) → test 32 ≡ false → test 41 ≡ false → test 44 ≡ false → test 46 ≡ false → test 58 ≡ false → (more : List TokenKind) → goes_on test (text_behind false more) ≡ false
stops test space close comma dot colon [] = refl
stops test space close comma dot colon (Sign sign.RightParen ∷ more) = close
stops test space close comma dot colon (Sign sign.Comma ∷ more) = comma
stops test space close comma dot colon (Sign sign.Dot ∷ more) = dot
stops test space close comma dot colon (Sign sign.Cast ∷ more) = colon
stops test space close comma dot colon (_ ∷ more) = space

quiet : (s : ASign) → ((b : ℕ) → lengthens s b ≡ false) → (bytes : List ℕ) → goes_on (lengthens s) bytes ≡ false
quiet s h [] = refl
quiet s h (b ∷ bytes) = h b

sign_stops : (s : ASign) (more : List TokenKind) → goes_on (lengthens s) (text_behind (clings_before (Sign s)) more) ≡ false
sign_stops sign.Less more = stops (lengthens sign.Less) refl refl refl refl refl more
sign_stops sign.Greater more = stops (lengthens sign.Greater) refl refl refl refl refl more
sign_stops sign.LeftParen more = quiet sign.LeftParen (λ b. refl) (text_behind true more)
sign_stops sign.RightParen more = quiet sign.RightParen (λ b. refl) (text_behind false more)
sign_stops sign.Comma more = quiet sign.Comma (λ b. refl) (text_behind false more)
sign_stops sign.Semicolon more = quiet sign.Semicolon (λ b. refl) (text_behind false more)
sign_stops sign.Dot more = quiet sign.Dot (λ b. refl) (text_behind true more)
sign_stops sign.Cast more = quiet sign.Cast (λ b. refl) (text_behind true more)
sign_stops sign.Equal more = quiet sign.Equal (λ b. refl) (text_behind false more)
sign_stops sign.NotEqual more = quiet sign.NotEqual (λ b. refl) (text_behind false more)
sign_stops sign.LessOrEqual more = quiet sign.LessOrEqual (λ b. refl) (text_behind false more)
sign_stops sign.GreaterOrEqual more = quiet sign.GreaterOrEqual (λ b. refl) (text_behind false more)
sign_stops sign.Plus more = quiet sign.Plus (λ b. refl) (text_behind false more)
sign_stops sign.Minus more = quiet sign.Minus (λ b. refl) (text_behind false more)
sign_stops sign.Concat more = quiet sign.Concat (λ b. refl) (text_behind false more)
sign_stops sign.Star more = quiet sign.Star (λ b. refl) (text_behind false more)
sign_stops sign.FloorDivide more = quiet sign.FloorDivide (λ b. refl) (text_behind false more)
sign_stops sign.Percent more = quiet sign.Percent (λ b. refl) (text_behind false more)

-- ---- each token is spelled by its text

is_word : (k : Keyword) → IsWord (keyword_text k)
is_word keyword.Select = (refl, refl)
is_word keyword.Distinct = (refl, refl)
is_word keyword.As = (refl, refl)
is_word keyword.From = (refl, refl)
is_word keyword.Left = (refl, refl)
is_word keyword.Join = (refl, refl)
is_word keyword.Lateral = (refl, refl)
is_word keyword.On = (refl, refl)
is_word keyword.True = (refl, refl)
is_word keyword.False = (refl, refl)
is_word keyword.Where = (refl, refl)
is_word keyword.Order = (refl, refl)
is_word keyword.By = (refl, refl)
is_word keyword.Offset = (refl, refl)
is_word keyword.Limit = (refl, refl)
is_word keyword.Union = (refl, refl)
is_word keyword.All = (refl, refl)
is_word keyword.Unnest = (refl, refl)
is_word keyword.Asc = (refl, refl)
is_word keyword.Desc = (refl, refl)
is_word keyword.Nulls = (refl, refl)
is_word keyword.First = (refl, refl)
is_word keyword.Last = (refl, refl)
is_word keyword.Uuid = (refl, refl)
is_word keyword.Null = (refl, refl)
is_word keyword.Arg = (refl, refl)
is_word keyword.Global = (refl, refl)
is_word keyword.Array = (refl, refl)
is_word keyword.Row = (refl, refl)
is_word keyword.Part = (refl, refl)
is_word keyword.Case = (refl, refl)
is_word keyword.When = (refl, refl)
is_word keyword.Then = (refl, refl)
is_word keyword.Else = (refl, refl)
is_word keyword.End = (refl, refl)
is_word keyword.Cast = (refl, refl)
is_word keyword.Len = (refl, refl)
is_word keyword.CountOf = (refl, refl)
is_word keyword.SumOf = (refl, refl)
is_word keyword.MinOf = (refl, refl)
is_word keyword.MaxOf = (refl, refl)
is_word keyword.AnyOf = (refl, refl)
is_word keyword.AllOf = (refl, refl)
is_word keyword.AssertSingle = (refl, refl)
is_word keyword.AssertExists = (refl, refl)
is_word keyword.AssertDistinct = (refl, refl)
is_word keyword.Int = (refl, refl)
is_word keyword.Text = (refl, refl)
is_word keyword.Bool = (refl, refl)
is_word keyword.Or = (refl, refl)
is_word keyword.And = (refl, refl)
is_word keyword.Not = (refl, refl)
is_word keyword.Is = (refl, refl)

digits : IsNumeralModel (λ ds. list_all is_ascii_digit ds ≡ true) (digits_value 10)
digits = numerals_by_value _ (search rules)

some_digits : (ds : List ℕ) → 0 < length ds → list_all is_ascii_digit ds ≡ true → IsDigits ds
some_digits [] some h = absurd (omega arith)
some_digits (d ∷ ds) some h = h

spelled : (k : TokenKind) → IsWritable k → (more : List TokenKind) → Spells (token_text k) (text_behind (clings_before k) more) k
spelled (Word k) w more = (is_word k, refl, stops continues_word refl refl refl refl refl more)
spelled (Name name) w more = (refl, w)
spelled (Int z) w more =
    let n = w.0 in let le = w.2 in let low : n < 2 ^ 64 = omega arith in
    let value : digits_value 10 (decimal n) ≡ n = digits_value-decimal digits n low in
    subst (λ (y : ℤ). Spells (token_text (Int y)) (text_behind false more) (Int y)) (sym w.1)
    (some_digits (decimal n) (decimal_nonempty n low) (digits_decimal digits n low), ap pos (sym value), subst (λ v. v ≤ 9223372036854775807) (sym value) le, stops continues_word refl refl refl refl refl more)
spelled (Str text) w more = (refl, w, stops is_quote refl refl refl refl refl more)
spelled (Sign s) w more = (refl, sign_stops s more)

-- ---- one after the other

pub record ReadsTo (place : ℕ) (bytes : List ℕ) (kinds : List TokenKind) : Type 0 where
  pub tokens : List Token
  pub reads : Reads place bytes tokens (place + length bytes) []
  pub same : map (λ t. t.kind) tokens ≡ kinds

taken : (place : ℕ) (k : TokenKind) (more : List TokenKind) → IsWritable k → ReadsTo (place + length (token_text k)) (text_behind (clings_before k) more) more
    → ReadsTo place (token_text k ++ text_behind (clings_before k) more) (k ∷ more)
taken place k more w r = record {
  tokens = token_at k place ∷ r.tokens;
  reads =
      let follow = text_behind (clings_before k) more in
      let there : (place + length (token_text k)) + length follow ≡ place + length (token_text k ++ follow) = omega (arith, length-append (token_text k) follow) in
      Take (token_text k) follow k refl (spelled k w more) (subst (λ n. Reads (place + length (token_text k)) follow r.tokens n []) there r.reads);
  same = ap (λ l. k ∷ l) r.same;
}

spaced : (b : Bool) (place : ℕ) (bytes : List ℕ) (kinds : List TokenKind) → ((at : ℕ) → ReadsTo at bytes kinds) → ReadsTo place (cond b [] (32 ∷ []) ++ bytes) kinds
spaced true place bytes kinds r = r place
spaced false place bytes kinds r = let s = r (place + 1) in record {
  tokens = s.tokens;
  reads =
      let there : (place + 1) + length bytes ≡ place + suc (length bytes) = omega arith in
      Over 32 bytes refl refl (subst (λ n. Reads (place + 1) bytes s.tokens n []) there s.reads);
  same = s.same;
}

behind : (clings : Bool) (kinds : List TokenKind) → AreWritable kinds → (place : ℕ) → ReadsTo place (text_behind clings kinds) kinds
behind clings [] w place = record { tokens = []; reads = let here : place ≡ place + 0 = omega arith in subst (λ n. Reads place [] [] n []) here Here; same = refl }
behind clings (k ∷ more) w place =
    spaced (clings || clings_behind k) place (token_text k ++ text_behind (clings_before k) more) (k ∷ more) (λ at. taken at k more w.0 (behind (clings_before k) more w.1 (at + length (token_text k))))

pub read_back : (kinds : List TokenKind) → AreWritable kinds → IsReadBack kinds
read_back kinds w =
    let r = behind true kinds w 0 in
    let all : 0 + length (text_of kinds) ≡ length (text_of kinds) = omega arith in
    (r.tokens, subst (λ n. Reads 0 (text_of kinds) r.tokens n []) all r.reads, r.same)
