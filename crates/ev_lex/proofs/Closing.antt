-- Reading a literal piece by piece, up to its closing quote.
use Rattle.std.proofs.Common.{◌≡◌, ◌≢◌, ℕ, zero, suc, ◌+◌, ◌<◌, ◌≤◌, true, List, [], ◌∷◌, ◌++◌, length, take, drop, get_or, refl, sym, ap, ◌∙◌, subst, arith, inl, inr, Option, Some, None, append_assoc, append-nil}
use Rattle.std.specs.Char.{encode_utf8}
use Rattle.std.proofs.lemmas.List.{take-append-drop, take_more, drop_more, length-drop}
use Rattle.std.proofs.lemmas.Str.{byte_from_char}
use Rattle.std.proofs.Math.Seq.{take-add, drop-length, drop-nil}
use Rattle.ev_lex.specs.Byte.{is_quote}
use Rattle.ev_lex.specs.Cut.{IsFirstEscape, IsFirstCharacter, IsFirstPiece, IsClosing}
use Rattle.ev_lex.specs.Literal.{IsPiece, Closes, Close, Piece}
use Rattle.ev_lex.proofs.Literals.{quote_low, low_first, piece_same, piece_not_quote, closes_same}

-- The bytes up to a place are pieces of the text, and no others can be read from them.
pub record IsReadTo (quote : ℕ) (bytes : List ℕ) (at : ℕ) (text : List ℕ) : Type 0 where
  pub within : at ≤ length bytes
  pub sound : (front more : List ℕ) → Closes quote front more → Closes quote (take at bytes ++ front) (text ++ more)
  pub complete : (front rest whole : List ℕ) → bytes ≡ front ++ rest → Closes quote front whole
      → (behind : List ℕ) × (more : List ℕ) × (drop at bytes ≡ behind ++ rest) × Closes quote behind more

pub read_none : (quote : ℕ) (bytes : List ℕ) → IsReadTo quote bytes 0 []
read_none quote bytes = record {
  within = omega arith;
  sound = λ front more d. d;
  complete = λ front rest whole e d. (front, whole, e, d);
}

pub rest_same : (bytes : List ℕ) (at n : ℕ) → drop (at + n) bytes ≡ drop n (drop at bytes)
rest_same bytes zero n = let e : 0 + n ≡ n = omega arith in rw e refl
rest_same [] (suc at) n = let e : suc at + n ≡ suc (at + n) = omega arith in rw e (sym (drop-nil n))
rest_same (x ∷ xs) (suc at) n = let e : suc at + n ≡ suc (at + n) = omega arith in rw e (rest_same xs at n)

module _ (quote : ℕ) (bytes : List ℕ) (at n : ℕ) (c : ℕ) (p : IsPiece quote (take n (drop at bytes)) c) (more : at < length bytes) (other : get_or bytes at 0 ≢ quote) where
  piece_fronts : (front : List ℕ) → take (at + n) bytes ++ front ≡ take at bytes ++ (take n (drop at bytes) ++ front)
  piece_fronts front = ap (λ x. x ++ front) (take-add at n bytes) ∙ append_assoc (take at bytes) (take n (drop at bytes)) front

  piece_cut : drop at bytes ≡ take n (drop at bytes) ++ drop (at + n) bytes
  piece_cut = sym (take-append-drop n (drop at bytes)) ∙ ap (λ x. take n (drop at bytes) ++ x) (sym (rest_same bytes at n))

  piece_step : (rest behind text : List ℕ) → drop at bytes ≡ behind ++ rest → Closes quote behind text → (b : List ℕ) × (m : List ℕ) × (drop (at + n) bytes ≡ b ++ rest) × Closes quote b m
  piece_step rest behind text e Close = absurd (other (let h : get_or bytes at 0 ∷ drop (at + 1) bytes ≡ quote ∷ rest = sym (drop_more bytes at 0 more) ∙ e in cc))
  piece_step rest behind text e (Piece p' rest' more' c' i d is gives) =
      let h = piece_same quote (take n (drop at bytes)) (drop (at + n) bytes) p' (rest' ++ rest) c c' p i (sym piece_cut ∙ e ∙ ap (λ x. x ++ rest) is ∙ append_assoc p' rest' rest) in
      (rest', more', h.rests, d)

pub read_piece : (quote : ℕ) (bytes : List ℕ) (at n : ℕ) (text : List ℕ) (c : ℕ) → IsReadTo quote bytes at text → at < length bytes → get_or bytes at 0 ≢ quote
    → IsFirstPiece quote (drop at bytes) (Some (c, n)) → IsReadTo quote bytes (at + n) (text ++ encode_utf8 c)
read_piece quote bytes at n text c r more other p = record {
  within = omega (arith, p.1, length-drop at bytes);
  sound = λ front behind d. subst (λ x. Closes quote x ((text ++ encode_utf8 c) ++ behind)) (sym (piece_fronts quote bytes at n c p.2 more other front))
      (subst (λ x. Closes quote (take at bytes ++ (take n (drop at bytes) ++ front)) x) (sym (append_assoc text (encode_utf8 c) behind))
      (r.sound (take n (drop at bytes) ++ front) (encode_utf8 c ++ behind) (Piece (take n (drop at bytes)) front behind c p.2 d refl refl)));
  complete = λ front rest whole e d. let h = r.complete front rest whole e d in piece_step quote bytes at n c p.2 more other rest h.0 h.1 h.2 h.3;
}

closes_some : (quote : ℕ) (text : List ℕ) → Closes quote [] text → (rest : List ℕ) → is_quote quote ≡ true → ⊥
closes_some quote text d rest q = let h = closes_same quote [] (quote ∷ rest) (quote ∷ []) rest text [] q d Close refl in cc h.0

-- no piece is at the place, and no quote
pub read_broken : (quote : ℕ) (bytes : List ℕ) (at : ℕ) (text : List ℕ) → IsReadTo quote bytes at text → at < length bytes → get_or bytes at 0 ≢ quote
    → IsFirstPiece quote (drop at bytes) None → IsClosing quote bytes None
read_broken quote bytes at text r more other p front rest whole e d = let h = r.complete front rest whole e d in broken rest h.0 h.1 h.2 h.3 where
  broken : (rest behind text : List ℕ) → drop at bytes ≡ behind ++ rest → Closes quote behind text → ⊥
  broken rest behind text e Close = other (let h : get_or bytes at 0 ∷ drop (at + 1) bytes ≡ quote ∷ rest = sym (drop_more bytes at 0 more) ∙ e in cc)
  broken rest behind text e (Piece p' rest' more' c' i d is gives) = p p' (rest' ++ rest) c' (e ∙ ap (λ x. x ++ rest) is ∙ append_assoc p' rest' rest) i

-- the bytes end
pub read_open : (quote : ℕ) (bytes : List ℕ) (at : ℕ) (text : List ℕ) → is_quote quote ≡ true → IsReadTo quote bytes at text → at ≡ length bytes → IsClosing quote bytes None
read_open quote bytes at text q r end front rest whole e d =
    let h = r.complete front rest whole e d in
    let over : [] ≡ h.0 ++ rest = sym (drop-length bytes) ∙ ap (λ x. drop x bytes) (sym end) ∙ h.2 in
    nothing h.0 h.1 over h.3
  where
    nothing : (behind more : List ℕ) → [] ≡ behind ++ rest → Closes quote behind more → ⊥
    nothing [] more e d = closes_some quote more d [] q
    nothing (b ∷ behind) more e d = cc e

-- the quote is at the place
pub read_closed : (quote : ℕ) (bytes : List ℕ) (at : ℕ) (text : List ℕ) → IsReadTo quote bytes at text → at < length bytes → get_or bytes at 0 ≡ quote
    → IsClosing quote bytes (Some (text, at + 1))
read_closed quote bytes at text r more is = (
  omega arith,
  omega arith,
  subst (λ x. Closes quote x text) (sym (take_more bytes at 0 more ∙ ap (λ x. take at bytes ++ x ∷ []) is))
      (subst (λ x. Closes quote (take at bytes ++ quote ∷ []) x) (append-nil text) (r.sound (quote ∷ []) [] Close)),
)

front_byte : (bytes : List ℕ) (b : ℕ) → 0 < length bytes → get_or bytes 0 0 ≡ b → bytes ≡ b ∷ drop 1 bytes
front_byte [] b some e = absurd (omega arith)
front_byte (x ∷ more) b some e = ap (λ y. y ∷ more) e

-- the piece at a place that is no quote: an escape or a character
escape_none : (quote : ℕ) (bytes : List ℕ) → 0 < length bytes → get_or bytes 0 0 ≡ 92 → IsFirstEscape bytes None → (piece rest : List ℕ) (c : ℕ) → bytes ≡ piece ++ rest → IsPiece quote piece c → ⊥
escape_none quote bytes some e h piece rest c is (inl i) =
    i.2 (low_first rest (drop 1 bytes) c 92 (ap (λ x. x ++ rest) (sym i.3) ∙ sym is ∙ front_byte bytes 92 some e) (omega arith))
escape_none quote bytes some e h piece rest c is (inr i) = h piece rest c is i

pub escape_piece : (quote : ℕ) (bytes : List ℕ) (r : Option (ℕ × ℕ)) → 0 < length bytes → get_or bytes 0 0 ≡ 92 → IsFirstEscape bytes r → IsFirstPiece quote bytes r
escape_piece quote bytes None some e h = escape_none quote bytes some e h
escape_piece quote bytes (Some p) some e h = (h.0, h.1, inr h.2)

character_none : (quote : ℕ) (bytes : List ℕ) → get_or bytes 0 0 ≢ 92 → IsFirstCharacter bytes None → (piece rest : List ℕ) (c : ℕ) → bytes ≡ piece ++ rest → IsPiece quote piece c → ⊥
character_none quote bytes b h piece rest c is (inl i) = h c rest i.0 (is ∙ ap (λ x. x ++ rest) i.3)
character_none quote bytes b h piece rest c is (inr (inl i)) = b (ap (λ x. get_or x 0 0) (is ∙ ap (λ x. x ++ rest) i.1))
character_none quote bytes b h piece rest c is (inr (inr i)) = b (ap (λ x. get_or x 0 0) (is ∙ ap (λ x. x ++ rest) i.4))

pub character_piece : (quote : ℕ) (bytes : List ℕ) (r : Option (ℕ × ℕ)) → is_quote quote ≡ true → get_or bytes 0 0 ≢ quote → get_or bytes 0 0 ≢ 92 → IsFirstCharacter bytes r → IsFirstPiece quote bytes r
character_piece quote bytes None q a b h = character_none quote bytes b h
character_piece quote bytes (Some p) q a b h =
    let whole : bytes ≡ encode_utf8 p.0 ++ drop p.1 bytes = sym (take-append-drop p.1 bytes) ∙ ap (λ x. x ++ drop p.1 bytes) h.3 in (
      h.0,
      h.1,
      inl (
        h.2,
        λ e. a (byte_from_char bytes (drop p.1 bytes) p.0 whole (subst (λ x. x < 128) (sym e) (quote_low quote q).0) ∙ e),
        λ e. b (byte_from_char bytes (drop p.1 bytes) p.0 whole (rw e (omega arith)) ∙ e),
        h.3,
      ),
    )

pub quote_piece : (quote : ℕ) (bytes : List ℕ) → is_quote quote ≡ true → 0 < length bytes → get_or bytes 0 0 ≡ quote → IsFirstPiece quote bytes None
quote_piece quote [] q some e piece rest c is i = absurd (omega arith)
quote_piece quote (b ∷ more) q some e piece rest c is i = piece_not_quote quote piece rest more c q i (sym is ∙ ap (λ x. x ∷ more) e)
