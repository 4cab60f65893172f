-- Doubling quotes, character by character.
use Rattle.std.proofs.Common.{◌≡◌, ◌≢◌, ℕ, ◌+◌, ◌/◌, ◌%◌, Bool, true, false, cond, ◌==◌, List, [], ◌∷◌, ◌++◌, refl, ap, ◌∙◌, arith, ltb, length}
use Rattle.std.proofs.lemmas.Bool.Decides.{nat_tests}
use Rattle.std.specs.Char.{encode_utf8}
use Rattle.sql_lex.specs.Token.{doubled}

abbrev piece : Bool → ℕ → List ℕ → List ℕ
piece t b more = cond t (39 ∷ 39 ∷ more) (b ∷ more)

pub doubled_apart : (xs ys : List ℕ) → doubled (xs ++ ys) ≡ doubled xs ++ doubled ys
doubled_apart [] ys = refl
doubled_apart (b ∷ xs) ys = step (b == 39) (doubled_apart xs ys) where
  step : (t : Bool) → doubled (xs ++ ys) ≡ doubled xs ++ doubled ys → piece t b (doubled (xs ++ ys)) ≡ piece t b (doubled xs) ++ doubled ys
  step true h = ap (λ l. 39 ∷ 39 ∷ l) h
  step false h = ap (λ l. b ∷ l) h

kept : (b : ℕ) (more : List ℕ) → b ≢ 39 → doubled more ≡ more → doubled (b ∷ more) ≡ b ∷ more
kept b more other h = let plain : (b == 39) ≡ false = grind (arith, nat_tests) in rw plain (ap (λ l. b ∷ l) h)

pub kept_char : (c : ℕ) → c ≢ 39 → doubled (encode_utf8 c) ≡ encode_utf8 c
unfolding encode_utf8
kept_char c other = by_size (ltb c 128) (ltb c 2048) (ltb c 65536)
  where
    by_size : (a b d : Bool) → doubled (cond a (c ∷ []) (cond b ((192 + c / 64) ∷ (128 + c % 64) ∷ []) (cond d ((224 + c / 4096) ∷ (128 + c / 64 % 64) ∷ (128 + c % 64) ∷ []) ((240 + c / 262144) ∷ (128 + c / 4096 % 64) ∷ (128 + c / 64 % 64) ∷ (128 + c % 64) ∷ []))))
        ≡ cond a (c ∷ []) (cond b ((192 + c / 64) ∷ (128 + c % 64) ∷ []) (cond d ((224 + c / 4096) ∷ (128 + c / 64 % 64) ∷ (128 + c % 64) ∷ []) ((240 + c / 262144) ∷ (128 + c / 4096 % 64) ∷ (128 + c / 64 % 64) ∷ (128 + c % 64) ∷ [])))
    by_size true b d = kept c [] other refl
    by_size false true d = kept (192 + c / 64) _ (λ e. absurd (omega arith)) (kept (128 + c % 64) [] (λ e. absurd (omega arith)) refl)
    by_size false false true = kept (224 + c / 4096) _ (λ e. absurd (omega arith)) (kept (128 + c / 64 % 64) _ (λ e. absurd (omega arith)) (kept (128 + c % 64) [] (λ e. absurd (omega arith)) refl))
    by_size false false false = kept (240 + c / 262144) _ (λ e. absurd (omega arith)) (kept (128 + c / 4096 % 64) _ (λ e. absurd (omega arith)) (kept (128 + c / 64 % 64) _ (λ e. absurd (omega arith)) (kept (128 + c % 64) [] (λ e. absurd (omega arith)) refl)))

pub quote_char : (c : ℕ) → c ≡ 39 → doubled (encode_utf8 c) ≡ 39 ∷ 39 ∷ []
unfolding encode_utf8
quote_char c is = rw is refl

pub doubled_empty : (text : List ℕ) → length text ≡ 0 → doubled text ≡ []
doubled_empty [] none = refl
doubled_empty (b ∷ more) none = absurd (omega arith)

pub doubled_step : (text rest : List ℕ) (c : ℕ) → text ≡ encode_utf8 c ++ rest → doubled text ≡ doubled (encode_utf8 c) ++ doubled rest
doubled_step text rest c parts = ap doubled parts ∙ doubled_apart (encode_utf8 c) rest
