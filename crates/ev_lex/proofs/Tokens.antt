-- At each place there is one longest token, and no separator begins where a token does.
use Rattle.std.proofs.Common.{◌≡◌, ℕ, List, [], ◌∷◌, ◌++◌, refl, sym, ap, ◌∙◌, subst, arith, Some}
use Rattle.ev_lex.specs.declared.token.Sign.{Sign}
use Rattle.ev_lex.specs.declared.token.TokenKind.{TokenKind}
use Rattle.ev_lex.specs.declared.token.TokenKind.TheVariants as kind
use Rattle.ev_lex.specs.Separator.{IsSeparator}
use Rattle.ev_lex.specs.Sign.{sign_text}
use Rattle.ev_lex.specs.SignTable.{sign_of}
use Rattle.ev_lex.specs.Token.{Spells, IsLongest}
use Rattle.ev_lex.proofs.Front.{Same, Shorter, Longer, compare}
use Rattle.ev_lex.proofs.Literals.{literal_same}
use Rattle.ev_lex.proofs.Ranks.{kind_rank, first_rank, token_rank, token_some, separator_rank, separator_some, kind_not_separator, sign_found}

-- the rank of a token's bytes, and of whatever begins with them
pub spelled_rank : (front follow : List ℕ) (k : TokenKind) → Spells front follow k → first_rank front ≡ kind_rank k
spelled_rank [] follow k s = absurd (token_some follow k s)
spelled_rank (b ∷ front) follow k s = token_rank b front follow k s

pub front_rank : (front rest follow : List ℕ) (k : TokenKind) → Spells front follow k → first_rank (front ++ rest) ≡ kind_rank k
front_rank [] rest follow k s = absurd (token_some follow k s)
front_rank (b ∷ front) rest follow k s = token_rank b front follow k s

-- one text of bytes and what follows spells one kind
same_rank : (front follow : List ℕ) (k l : TokenKind) → Spells front follow k → Spells front follow l → kind_rank k ≡ kind_rank l
same_rank front follow k l s t = sym (spelled_rank front follow k s) ∙ spelled_rank front follow l t

same_sign : (s t : Sign) → sign_text s ≡ sign_text t → s ≡ t
same_sign s t e = let h : Some s ≡ Some t = sym (sign_found s) ∙ ap sign_of e ∙ sign_found t in cc

spelled_with : (front follow : List ℕ) (k l : TokenKind) → Spells front follow k → Spells front follow l → kind_rank k ≡ kind_rank l → k ≡ l
spelled_with front follow (kind.Word v) (kind.Word w) s t e = ap kind.Word (s.0 ∙ sym t.0)
spelled_with front follow (kind.Int v) (kind.Int w) s t e = ap kind.Int (s.0 ∙ sym t.0)
spelled_with front follow (kind.Str v) (kind.Str w) s t e = ap kind.Str (literal_same front follow front follow v w s t refl).1
spelled_with front follow (kind.Sign v) (kind.Sign w) s t e = ap kind.Sign (same_sign v w (sym s ∙ t))
spelled_with front follow _ _ s t e = absurd (omega arith)

pub spelled_once : (front follow : List ℕ) (k l : TokenKind) → Spells front follow k → Spells front follow l → k ≡ l
spelled_once front follow k l s t = spelled_with front follow k l s t (same_rank front follow k l s t)

pub record IsSameCut (front rest front' rest' : List ℕ) (k l : TokenKind) : Type 0 where
  pub fronts : front ≡ front'
  pub rests : rest ≡ rest'
  pub kinds : k ≡ l

pub longest_once : (front rest front' rest' : List ℕ) (k l : TokenKind) → IsLongest front rest k → IsLongest front' rest' l → front ++ rest ≡ front' ++ rest' → IsSameCut front rest front' rest' k l
longest_once front rest front' rest' k l s t e = elim (compare front rest front' rest' e) [
  | Same p q ↦ record { fronts = p; rests = q; kinds = spelled_once front rest k l s.0 (subst (λ r. Spells front r l) (sym q) (subst (λ f. Spells f rest' l) (sym p) t.0)) }
  | Shorter b more p q ↦ absurd (s.1 b more rest' l q (subst (λ f. Spells f rest' l) p t.0))
  | Longer b more p q ↦ absurd (t.1 b more rest k q (subst (λ f. Spells f rest k) p s.0))
]

-- a token does not begin with a separator
pub separator_no_token : (front rest front' rest' : List ℕ) (k : TokenKind) → IsSeparator front rest → Spells front' rest' k → front ++ rest ≡ front' ++ rest' → ⊥
separator_no_token [] rest front' rest' k s t e = separator_some rest s
separator_no_token (b ∷ front) rest front' rest' k s t e =
    kind_not_separator k (sym (front_rank front' rest' rest' k t) ∙ sym (ap first_rank e) ∙ separator_rank b front rest s)
