-- The character at the front of some bytes.
use Rattle.std.proofs.Common.{◌≡◌, ℕ, ◌<◌, List, length, take, drop, Some, None, sym, ap, ◌∙◌, subst, arith}
use Rattle.std.specs.Char.{encode_utf8}
use Rattle.bstr.specs.Utf8.{decoded, Decoded}
use Rattle.bstr.proofs.lemmas.SoundLemmas.{SpellsChar, SpellsChar-decoded}
use Rattle.bstr.proofs.lemmas.EncodeLemmas.{decoded-encode}
use Rattle.bstr.proofs.lemmas.PieceLemmas.{size-within}
use Rattle.std.proofs.lemmas.Str.{length-encode, len_utf8_bounds}
use Rattle.std.proofs.Math.Seq.{take-append_seam}
use Rattle.ev_lex.specs.Cut.{IsFirstCharacter}

front : (bytes : List ℕ) (c size : ℕ) → SpellsChar bytes c size → (0 < size) × (take size bytes ≡ encode_utf8 c)
front bytes c size h = (
  subst (λ n. 0 < n) h.width (rw (length-encode c) (omega (arith, (len_utf8_bounds c).0))),
  subst (λ n. take n bytes ≡ encode_utf8 c) h.width (ap (take (length (encode_utf8 c))) h.bytes ∙ take-append_seam (encode_utf8 c) (drop size bytes)),
)

pub character_found : (bytes : List ℕ) (c : ℕ) → (decoded bytes).char ≡ Some c → IsFirstCharacter bytes (Some (c, (decoded bytes).size))
character_found bytes c e =
    let h = SpellsChar-decoded bytes c e in
    let f = front bytes c (decoded bytes).size h in
    (f.0, size-within bytes, h.scalar, f.1)

pub character_absent : (bytes : List ℕ) → (decoded bytes).char ≡ None → IsFirstCharacter bytes None
character_absent bytes e = λ d rest s is.
    let found : None ≡ Some d = sym e ∙ ap (λ x. (decoded x).char) is ∙ ap (λ (x : Decoded). x.char) (decoded-encode d rest s) in cc
