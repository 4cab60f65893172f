-- A text is read in one way.
use Rattle.std.proofs.Common.{◌≡◌, ℕ, ◌+◌, ◌<◌, ◌≤◌, List, [], ◌∷◌, ◌++◌, length, take, drop, arith, refl, sym, ap, ◌∙◌, subst}
use Rattle.ev_lex.specs.declared.token.Token.{Token}
use Rattle.ev_lex.specs.declared.token.TokenKind.{TokenKind}
use Rattle.ev_lex.specs.Separator.{IsSeparator}
use Rattle.ev_lex.specs.Token.{IsLongest, BeginsNoToken}
use Rattle.ev_lex.specs.Reading.{token_at, Reads, Here, Over, Take, BeginsNoSeparator, IsCut, IsRefused}
use Rattle.std.proofs.lemmas.List.{take-append-drop, length-take-le, length-drop}
use Rattle.std.proofs.Math.Seq.{drop-length}
use Rattle.ev_lex.specs.Cut.{IsSeparatorLength}
use Rattle.ev_lex.proofs.Closing.{rest_same}
use Rattle.ev_lex.proofs.Ranks.{token_some, separator_some}
use Rattle.ev_lex.proofs.Separators.{separator_once}
use Rattle.ev_lex.proofs.Tokens.{longest_once, separator_no_token}

-- neither a separator nor a token begins the bytes
pub record Stops (bytes : List ℕ) : Type 0 where
  pub separator : BeginsNoSeparator bytes
  pub token : BeginsNoToken bytes

pub stops_nil : Stops []
stops_nil = record { separator = none_apart; token = none_here } where
  none_apart : BeginsNoSeparator []
  none_apart [] rest e s = separator_some rest s
  none_apart (b ∷ front) rest e s = cc e

  none_here : BeginsNoToken []
  none_here [] rest k e s = token_some rest k s
  none_here (b ∷ front) rest k e s = cc e

pub record IsSameEnd (ts us : List Token) (k m : ℕ) (left right : List ℕ) : Type 0 where
  pub tokens : ts ≡ us
  pub places : k ≡ m
  pub lefts : left ≡ right

pub reads_once : {place k m : ℕ} {bytes left right : List ℕ} {ts us : List Token} → Reads place bytes ts k left → Stops left → Reads place bytes us m right → Stops right
    → IsSameEnd ts us k m left right
reads_once Here s Here t = record { tokens = refl; places = refl; lefts = refl }
reads_once Here s (Over front rest e i d) t = absurd (s.separator front rest e i)
reads_once Here s (Take front rest k e i d) t = absurd (s.token front rest k e i.0)
reads_once (Over front rest e i d) s Here t = absurd (t.separator front rest e i)
reads_once (Take front rest k e i d) s Here t = absurd (t.token front rest k e i.0)
reads_once (Over front rest e i d) s (Take front' rest' k e' i' d') t = absurd (separator_no_token front rest front' rest' k i i'.0 (sym e ∙ e'))
reads_once (Take front rest k e i d) s (Over front' rest' e' i' d') t = absurd (separator_no_token front' rest' front rest k i' i.0 (sym e' ∙ e))
reads_once {place} {k} {m} {bytes} {left} {right} {ts} {us} (Over front rest e i d) s (Over front' rest' e' i' d') t =
    let h = separator_once front rest front' rest' i i' (sym e ∙ e') in
    reads_once d s (subst (λ r. Reads (place + length front) r us m right) (sym h.1) (subst (λ f. Reads (place + length f) rest' us m right) (sym h.0) d')) t
reads_once {place} {k} {m} {bytes} {left} {right} {ts} {us} (Take {tokens = more} front rest kind e i d) s (Take {tokens = others} front' rest' kind' e' i' d') t =
    let h = longest_once front rest front' rest' kind kind' i i' (sym e ∙ e') in
    let o = reads_once d s (subst (λ r. Reads (place + length front) r others m right) (sym h.rests) (subst (λ f. Reads (place + length f) rest' others m right) (sym h.fronts) d')) t in
    let kinds : kind ≡ kind' = h.kinds in let fronts : front ≡ front' = h.fronts in let tokens : more ≡ others = o.tokens in
    record {
      tokens = ap (λ x. token_at x place (place + length front) ∷ more) kinds ∙ ap (λ f. token_at kind' place (place + length f) ∷ more) fronts
          ∙ ap (λ x. token_at kind' place (place + length front') ∷ x) tokens;
      places = o.places;
      lefts = o.lefts;
    }

-- one more separator, or one more token
pub over_more : {place k : ℕ} {bytes left : List ℕ} {ts : List Token} (front rest : List ℕ) → Reads place bytes ts k left → left ≡ front ++ rest → IsSeparator front rest
    → Reads place bytes ts (k + length front) rest
over_more front rest Here e i = Over front rest e i Here
over_more front rest (Over f r e i d) e' i' = Over f r e i (over_more front rest d e' i')
over_more front rest (Take f r k e i d) e' i' = Take f r k e i (over_more front rest d e' i')

pub take_more : {place k : ℕ} {bytes left : List ℕ} {ts : List Token} (front rest : List ℕ) (kind : TokenKind) → Reads place bytes ts k left → left ≡ front ++ rest → IsLongest front rest kind
    → Reads place bytes (ts ++ token_at kind k (k + length front) ∷ []) (k + length front) rest
take_more front rest kind Here e i = Take front rest kind e i Here
take_more front rest kind (Over f r e i d) e' i' = Over f r e i (take_more front rest kind d e' i')
take_more front rest kind (Take f r k e i d) e' i' = Take f r k e i (take_more front rest kind d e' i')

-- the same by the number of bytes
pub over_bytes : (text : List ℕ) (at n : ℕ) (ts : List Token) → Reads 0 text ts at (drop at text) → IsSeparatorLength (drop at text) n → 0 < n → Reads 0 text ts (at + n) (drop (at + n) text)
over_bytes text at n ts d s some =
    subst (λ l. Reads 0 text ts (at + n) l) (sym (rest_same text at n))
    (subst (λ m. Reads 0 text ts (at + m) (drop n (drop at text))) (length-take-le n (drop at text) s.0)
    (over_more (take n (drop at text)) (drop n (drop at text)) d (sym (take-append-drop n (drop at text))) (s.2 some)))

pub take_bytes : (text : List ℕ) (at n : ℕ) (k : TokenKind) (ts : List Token) → Reads 0 text ts at (drop at text) → n ≤ length (drop at text)
    → IsLongest (take n (drop at text)) (drop n (drop at text)) k → Reads 0 text (ts ++ token_at k at (at + n) ∷ []) (at + n) (drop (at + n) text)
take_bytes text at n k ts d fits s =
    subst (λ l. Reads 0 text (ts ++ token_at k at (at + n) ∷ []) (at + n) l) (sym (rest_same text at n))
    (subst (λ m. Reads 0 text (ts ++ token_at k at (at + m) ∷ []) (at + m) (drop n (drop at text))) (length-take-le n (drop at text) fits)
    (take_more (take n (drop at text)) (drop n (drop at text)) k d (sym (take-append-drop n (drop at text))) s))

pub refused_at : (text : List ℕ) (at n : ℕ) (ts : List Token) → Reads 0 text ts at (drop at text) → at < length text → IsSeparatorLength (drop at text) n → n ≡ 0 → BeginsNoToken (drop at text) → IsRefused text at
refused_at text at n ts d more s none t = (ts, drop at text, d, some, s.1 none, t) where
  some : drop at text ≡ [] → ⊥
  some e = absurd (omega (arith, length-drop at text, ap length e))

pub cut_at : (text : List ℕ) (at : ℕ) (ts : List Token) → Reads 0 text ts at (drop at text) → at ≤ length text → length text ≤ at → IsCut text ts
cut_at text at ts d low high =
    let same : at ≡ length text = omega arith in
    subst (λ l. Reads 0 text ts (length text) l) (drop-length text) (subst (λ n. Reads 0 text ts n (drop n text)) same d)

pub one_cut : (text : List ℕ) (ts us : List Token) → IsCut text ts → IsCut text us → ts ≡ us
one_cut text ts us a b = (reads_once a stops_nil b stops_nil).tokens

pub one_refusal : (text : List ℕ) (k m : ℕ) → IsRefused text k → IsRefused text m → k ≡ m
one_refusal text k m a b =
    (reads_once a.2 (record { separator = a.4; token = a.5 }) b.2 (record { separator = b.4; token = b.5 })).places

pub cut_not_refused : (text : List ℕ) (ts : List Token) (k : ℕ) → IsCut text ts → IsRefused text k → ⊥
cut_not_refused text ts k a b = b.3 (sym (reads_once a stops_nil b.2 (record { separator = b.4; token = b.5 })).lefts)
