-- Literals are read in one way.
use Rattle.std.proofs.Common.{◌≡◌, ◌≢◌, ℕ, ◌<◌, true, List, [], ◌∷◌, ◌++◌, refl, sym, ap, ◌∙◌, subst, arith, inl, inr, Some, None, append_assoc}
use Rattle.std.specs.Char.{encode_utf8}
use Rattle.std.specs.Str.Parse.{digits_value}
use Rattle.std.proofs.lemmas.Str.{encode_same, char_from_byte}
use Rattle.std.proofs.lemmas.Bool.Decides.{nat_tests}
use Rattle.ev_lex.specs.Byte.{is_quote}
use Rattle.ev_lex.specs.Literal.{escaped, IsEscape, IsPlain, IsPiece, Closes, Close, Piece, IsLiteral}

pub record IsSamePiece (p r q s : List ℕ) (c d : ℕ) : Type 0 where
  pub pieces : p ≡ q
  pub rests : r ≡ s
  pub characters : c ≡ d

-- a character of UTF-8 that begins with a byte below 128 is that byte
pub low_first : (r more : List ℕ) (c b : ℕ) → encode_utf8 c ++ r ≡ b ∷ more → b < 128 → c ≡ b
low_first r more c b e low = char_from_byte (b ∷ more) r c (sym e) low (omega arith)

pub quote_low : (quote : ℕ) → is_quote quote ≡ true → (quote < 128) × (quote ≢ 92)
quote_low quote h = (grind (arith, nat_tests), λ e. let g : is_quote 92 ≡ true = subst (λ q. is_quote q ≡ true) e h in cc)

plain_not_escape : (quote : ℕ) (p r q s : List ℕ) (c d : ℕ) → IsPlain quote p c → IsEscape q d → p ++ r ≡ q ++ s → ⊥
plain_not_escape quote p r q s c d (f, g, h, i) (inl t) e =
    h (low_first r (t.0 ∷ s) c 92 (ap (λ x. x ++ r) (sym i) ∙ e ∙ ap (λ x. x ++ s) t.1) (omega arith))
plain_not_escape quote p r q s c d (f, g, h, i) (inr t) e =
    h (low_first r (117 ∷ t.0 ∷ t.1 ∷ t.2 ∷ t.3 ∷ s) c 92 (ap (λ x. x ++ r) (sym i) ∙ e ∙ ap (λ x. x ++ s) t.4) (omega arith))

escape_same : (p r q s : List ℕ) (c d : ℕ) → IsEscape p c → IsEscape q d → p ++ r ≡ q ++ s → IsSamePiece p r q s c d
escape_same p r q s c d (inl t) (inl u) e =
    let f : 92 ∷ t.0 ∷ r ≡ 92 ∷ u.0 ∷ s = ap (λ x. x ++ r) (sym t.1) ∙ e ∙ ap (λ x. x ++ s) u.1 in
    let b : t.0 ≡ u.0 = cc in
    let g : Some c ≡ Some d = sym t.2 ∙ ap escaped b ∙ u.2 in
    record { pieces = t.1 ∙ ap (λ x. 92 ∷ x ∷ []) b ∙ sym u.1; rests = cc; characters = cc }
escape_same p r q s c d (inl t) (inr u) e =
    let f : 92 ∷ t.0 ∷ r ≡ 92 ∷ 117 ∷ u.0 ∷ u.1 ∷ u.2 ∷ u.3 ∷ s = ap (λ x. x ++ r) (sym t.1) ∙ e ∙ ap (λ x. x ++ s) u.4 in
    let b : t.0 ≡ 117 = cc in
    let g : None ≡ Some c = subst (λ x. escaped x ≡ Some c) b t.2 in
    absurd (cc)
escape_same p r q s c d (inr t) (inl u) e =
    let f : 92 ∷ 117 ∷ t.0 ∷ t.1 ∷ t.2 ∷ t.3 ∷ r ≡ 92 ∷ u.0 ∷ s = ap (λ x. x ++ r) (sym t.4) ∙ e ∙ ap (λ x. x ++ s) u.1 in
    let b : u.0 ≡ 117 = cc in
    let g : None ≡ Some d = subst (λ x. escaped x ≡ Some d) b u.2 in
    absurd (cc)
escape_same p r q s c d (inr t) (inr u) e =
    let f : 92 ∷ 117 ∷ t.0 ∷ t.1 ∷ t.2 ∷ t.3 ∷ r ≡ 92 ∷ 117 ∷ u.0 ∷ u.1 ∷ u.2 ∷ u.3 ∷ s = ap (λ x. x ++ r) (sym t.4) ∙ e ∙ ap (λ x. x ++ s) u.4 in
    let same : t.0 ∷ t.1 ∷ t.2 ∷ t.3 ∷ [] ≡ u.0 ∷ u.1 ∷ u.2 ∷ u.3 ∷ [] = cc in
    record { pieces = t.4 ∙ ap (λ x. 92 ∷ 117 ∷ x) same ∙ sym u.4; rests = cc; characters = t.6 ∙ ap (digits_value 16) same ∙ sym u.6 }

turned : {p r q s : List ℕ} {c d : ℕ} → IsSamePiece p r q s c d → IsSamePiece q s p r d c
turned h = record { pieces = sym h.pieces; rests = sym h.rests; characters = sym h.characters }

-- the pieces at one place are the same
pub piece_same : (quote : ℕ) (p r q s : List ℕ) (c d : ℕ) → IsPiece quote p c → IsPiece quote q d → p ++ r ≡ q ++ s → IsSamePiece p r q s c d
piece_same quote p r q s c d (inl t) (inl u) e =
    let h = encode_same c d r s (ap (λ x. x ++ r) (sym t.3) ∙ e ∙ ap (λ x. x ++ s) u.3) in
    record { pieces = t.3 ∙ ap encode_utf8 h.0 ∙ sym u.3; rests = h.1; characters = h.0 }
piece_same quote p r q s c d (inl t) (inr u) e = absurd (plain_not_escape quote p r q s c d t u e)
piece_same quote p r q s c d (inr t) (inl u) e = absurd (plain_not_escape quote q s p r d c u t (sym e))
piece_same quote p r q s c d (inr t) (inr u) e = escape_same p r q s c d t u e

-- no piece begins with the quote
pub piece_not_quote : (quote : ℕ) (p r s : List ℕ) (c : ℕ) → is_quote quote ≡ true → IsPiece quote p c → p ++ r ≡ quote ∷ s → ⊥
piece_not_quote quote p r s c q (inl t) e = t.1 (low_first r s c quote (ap (λ x. x ++ r) (sym t.3) ∙ e) (quote_low quote q).0)
piece_not_quote quote p r s c q (inr (inl t)) e =
    let f : 92 ∷ t.0 ∷ r ≡ quote ∷ s = ap (λ x. x ++ r) (sym t.1) ∙ e in (quote_low quote q).1 (cc)
piece_not_quote quote p r s c q (inr (inr t)) e =
    let f : 92 ∷ 117 ∷ t.0 ∷ t.1 ∷ t.2 ∷ t.3 ∷ r ≡ quote ∷ s = ap (λ x. x ++ r) (sym t.4) ∙ e in (quote_low quote q).1 (cc)

-- what closes a literal is read in one way
pub closes_same : (quote : ℕ) (f r g s t u : List ℕ) → is_quote quote ≡ true → Closes quote f t → Closes quote g u → f ++ r ≡ g ++ s → (f ≡ g) × (t ≡ u)
closes_same quote f r g s t u q Close Close e = (refl, refl)
closes_same quote f r g s t u q Close (Piece p rest more c i d is gives) e =
    absurd (piece_not_quote quote p (rest ++ s) r c q i (sym (append_assoc p rest s) ∙ ap (λ x. x ++ s) (sym is) ∙ sym e))
closes_same quote f r g s t u q (Piece p rest more c i d is gives) Close e =
    absurd (piece_not_quote quote p (rest ++ r) s c q i (sym (append_assoc p rest r) ∙ ap (λ x. x ++ r) (sym is) ∙ e))
closes_same quote f r g s t u q (Piece p rest more c i d is gives) (Piece p' rest' more' c' i' d' is' gives') e =
    let h = piece_same quote p (rest ++ r) p' (rest' ++ s) c c' i i'
    (sym (append_assoc p rest r) ∙ ap (λ x. x ++ r) (sym is) ∙ e ∙ ap (λ x. x ++ s) is' ∙ append_assoc p' rest' s) in
    let k = closes_same quote rest r rest' s more more' q d d' h.rests in
    let front : p ≡ p' = h.pieces in let one : c ≡ c' = h.characters in let behind : rest ≡ rest' = k.0 in let text : more ≡ more' = k.1 in
    (is ∙ ap (λ x. x ++ rest) front ∙ ap (λ x. p' ++ x) behind ∙ sym is', gives ∙ ap (λ x. encode_utf8 x ++ more) one ∙ ap (λ x. encode_utf8 c' ++ x) text ∙ sym gives')

-- and so is a literal
pub literal_same : (f r g s t u : List ℕ) → IsLiteral f t → IsLiteral g u → f ++ r ≡ g ++ s → (f ≡ g) × (t ≡ u)
literal_same f r g s t u a b e =
    let h : a.0 ∷ (a.1 ++ r) ≡ b.0 ∷ (b.1 ++ s) = ap (λ x. x ++ r) (sym a.2) ∙ e ∙ ap (λ x. x ++ s) b.2 in
    let quote : b.0 ≡ a.0 = cc in
    let k = closes_same a.0 a.1 r b.1 s t u a.3 a.4 (subst (λ q. Closes q b.1 u) quote b.4) (cc) in
    (a.2 ∙ ap (λ x. a.0 ∷ x) k.0 ∙ ap (λ x. x ∷ b.1) (sym quote) ∙ sym b.2, k.1)
