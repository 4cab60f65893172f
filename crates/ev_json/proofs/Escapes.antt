-- The printer's escapes are those of the JSON text.
use Rattle.std.proofs.Common.{◌≡◌, ℕ, ◌/◌, ◌%◌, ◌==◌, ◌||◌, nat_lt, Bool, true, false, cond, List, [], ◌∷◌, ◌++◌, codes, flat_map, refl, sym, ap, subst}
use Rattle.std.proofs.lemmas.Bool.{eqb-true}
use Rattle.std.specs.Char.{digit_char}
use Rattle.json.specs.Print.{escape_byte, quoted}
use Rattle.ev_value.specs.JsonText.{escaped, json_string}

abbrev letter : ℕ → Bool → Bool → Bool → Bool → Bool → Bool → Bool → ℕ
letter x quote back b f n r t = cond (quote || back) x (cond b 98 (cond f 102 (cond n 110 (cond r 114 (cond t 116 0)))))

abbrev hexed : ℕ → List ℕ
hexed x = 92 ∷ 117 ∷ 48 ∷ 48 ∷ digit_char (x / 16) ∷ digit_char (x % 16) ∷ []

abbrev printed : ℕ → Bool → Bool → Bool → Bool → Bool → Bool → Bool → Bool → List ℕ
printed x quote back b f n r t low =
    cond (nat_lt 0 (letter x quote back b f n r t)) (92 ∷ letter x quote back b f n r t ∷ []) (cond low (hexed x) (x ∷ []))

abbrev due : ℕ → Bool → Bool → Bool → Bool → Bool → Bool → Bool → Bool → List ℕ
due x quote back b f n r t low =
    cond quote (codes "\\\"") (cond back (codes "\\\\") (cond b (codes "\\b") (cond f (codes "\\f") (cond n (codes "\\n") (cond r (codes "\\r") (cond t (codes "\\t") (cond low (hexed x) (x ∷ []))))))))

same : (x : ℕ) (quote back b f n r t low : Bool) → (quote ≡ true → 34 ≡ x) → (back ≡ true → 92 ≡ x) → printed x quote back b f n r t low ≡ due x quote back b f n r t low
same x true back b f n r t low q s = subst (λ y. printed y true back b f n r t low ≡ due y true back b f n r t low) (q refl) refl
same x false true b f n r t low q s = subst (λ y. printed y false true b f n r t low ≡ due y false true b f n r t low) (s refl) refl
same x false false true f n r t low q s = refl
same x false false false true n r t low q s = refl
same x false false false false true r t low q s = refl
same x false false false false false true t low q s = refl
same x false false false false false false true low q s = refl
same x false false false false false false false low q s = refl

pub escaped_is : (x : ℕ) → escape_byte x ≡ escaped x
unfolding escape_byte
escaped_is x = same x (x == 34) (x == 92) (x == 8) (x == 12) (x == 10) (x == 13) (x == 9) (nat_lt x 32) (λ e. sym (eqb-true x 34 e)) (λ e. sym (eqb-true x 92 e))

pub quoted_is : (s : List ℕ) → quoted s ≡ json_string s
quoted_is s = ap (λ f. 34 ∷ (flat_map f s ++ 34 ∷ [])) (λ i b. escaped_is b i)
