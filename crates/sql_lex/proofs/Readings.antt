-- A text is read in one way.
use Rattle.std.proofs.Common.{◌≡◌, ℕ, zero, suc, ◌+◌, ◌<◌, ◌≤◌, true, List, [], ◌∷◌, ◌++◌, length, take, drop, get_or, arith, refl, sym, ap, ◌∙◌, subst}
use Rattle.std.proofs.lemmas.List.{take-append-drop, length-take-le, drop_more}
use Rattle.std.proofs.Math.Seq.{drop-length, drop-nil}
use Rattle.sql_lex.specs.declared.token.Token.{Token}
use Rattle.sql_lex.specs.declared.token.TokenKind.{TokenKind}
use Rattle.sql_lex.specs.Byte.{is_blank}
use Rattle.sql_lex.specs.Reading.{token_at, Reads, Here, Over, Take, IsCut}
use Rattle.sql_lex.specs.Token.{Spells, BeginsNoToken}
use Rattle.sql_lex.proofs.Ranks.{token_some, spelled_once, kind_not_blank, front_rank, first_rank, blank_rank}

-- a token does not begin with a blank
blank_no_token : (b : ℕ) (rest front behind : List ℕ) (k : TokenKind) → is_blank b ≡ true → Spells front behind k → b ∷ rest ≡ front ++ behind → ⊥
blank_no_token b rest front behind k h s e = kind_not_blank k (sym (front_rank front behind behind k s) ∙ sym (ap first_rank e) ∙ blank_rank b h)

-- neither a blank nor a token begins the bytes
pub record Stops (bytes : List ℕ) : Type 0 where
  pub blank : (b : ℕ) (rest : List ℕ) → bytes ≡ b ∷ rest → is_blank b ≡ true → ⊥
  pub token : BeginsNoToken bytes

pub stops_nil : Stops []
stops_nil = record { blank = λ b rest e s. cc e; token = none_here } where
  none_here : BeginsNoToken []
  none_here [] rest k e s = token_some rest k s
  none_here (b ∷ front) rest k e s = cc e

pub record IsSameEnd (ts us : List Token) (left right : List ℕ) : Type 0 where
  pub tokens : ts ≡ us
  pub lefts : left ≡ right

pub reads_once : {place k m : ℕ} {bytes left right : List ℕ} {ts us : List Token} → Reads place bytes ts k left → Stops left → Reads place bytes us m right → Stops right
    → IsSameEnd ts us left right
reads_once Here s Here t = record { tokens = refl; lefts = refl }
reads_once Here s (Over b rest e i d) t = absurd (s.blank b rest e i)
reads_once Here s (Take front rest k e i d) t = absurd (s.token front rest k e i)
reads_once (Over b rest e i d) s Here t = absurd (t.blank b rest e i)
reads_once (Take front rest k e i d) s Here t = absurd (t.token front rest k e i)
reads_once (Over b rest e i d) s (Take front' rest' k e' i' d') t = absurd (blank_no_token b rest front' rest' k i i' (sym e ∙ e'))
reads_once (Take front rest k e i d) s (Over b rest' e' i' d') t = absurd (blank_no_token b rest' front rest k i' i (sym e' ∙ e))
reads_once {place} {k} {m} {bytes} {left} {right} {ts} {us} (Over b rest e i d) s (Over c rest' e' i' d') t =
    let whole : b ∷ rest ≡ c ∷ rest' = sym e ∙ e' in let h : rest ≡ rest' = cc whole in
    reads_once d s (subst (λ r. Reads (place + 1) r us m right) (sym h) d') t
reads_once {place} {k} {m} {bytes} {left} {right} {ts} {us} (Take {tokens = more} front rest kind e i d) s (Take {tokens = others} front' rest' kind' e' i' d') t =
    let h = spelled_once front rest front' rest' kind kind' i i' (sym e ∙ e') in
    let o = reads_once d s (subst (λ r. Reads (place + length front) r others m right) (sym h.rests) (subst (λ f. Reads (place + length f) rest' others m right) (sym h.fronts) d')) t in
    record {
      tokens = ap (λ x. token_at x place ∷ more) h.kinds ∙ ap (λ x. token_at kind' place ∷ x) o.tokens;
      lefts = o.lefts;
    }

-- one more blank, or one more token
over_more : {place k : ℕ} {bytes left : List ℕ} {ts : List Token} (b : ℕ) (rest : List ℕ) → Reads place bytes ts k left → left ≡ b ∷ rest → is_blank b ≡ true
    → Reads place bytes ts (k + 1) rest
over_more b rest Here e i = Over b rest e i Here
over_more b rest (Over c r e i d) e' i' = Over c r e i (over_more b rest d e' i')
over_more b rest (Take f r k e i d) e' i' = Take f r k e i (over_more b rest d e' i')

take_more : {place k : ℕ} {bytes left : List ℕ} {ts : List Token} (front rest : List ℕ) (kind : TokenKind) → Reads place bytes ts k left → left ≡ front ++ rest → Spells front rest kind
    → Reads place bytes (ts ++ token_at kind k ∷ []) (k + length front) rest
take_more front rest kind Here e i = Take front rest kind e i Here
take_more front rest kind (Over c r e i d) e' i' = Over c r e i (take_more front rest kind d e' i')
take_more front rest kind (Take f r k e i d) e' i' = Take f r k e i (take_more front rest kind d e' i')

rest_same : (bytes : List ℕ) (at n : ℕ) → drop (at + n) bytes ≡ drop n (drop at bytes)
rest_same bytes zero n = let e : 0 + n ≡ n = omega arith in rw e refl
rest_same [] (suc at) n = let e : suc at + n ≡ suc (at + n) = omega arith in rw e (sym (drop-nil n))
rest_same (x ∷ xs) (suc at) n = let e : suc at + n ≡ suc (at + n) = omega arith in rw e (rest_same xs at n)

-- the same by the number of bytes
pub over_byte : (text : List ℕ) (at : ℕ) (ts : List Token) → Reads 0 text ts at (drop at text) → at < length text → is_blank (get_or text at 0) ≡ true → Reads 0 text ts (at + 1) (drop (at + 1) text)
over_byte text at ts d more b = over_more (get_or text at 0) (drop (at + 1) text) d (drop_more text at 0 more) b

pub take_bytes : (text : List ℕ) (at n : ℕ) (k : TokenKind) (ts : List Token) → Reads 0 text ts at (drop at text) → n ≤ length (drop at text)
    → Spells (take n (drop at text)) (drop n (drop at text)) k → Reads 0 text (ts ++ token_at k at ∷ []) (at + n) (drop (at + n) text)
take_bytes text at n k ts d fits s =
    subst (λ l. Reads 0 text (ts ++ token_at k at ∷ []) (at + n) l) (sym (rest_same text at n))
    (subst (λ m. Reads 0 text (ts ++ token_at k at ∷ []) (at + m) (drop n (drop at text))) (length-take-le n (drop at text) fits)
    (take_more (take n (drop at text)) (drop n (drop at text)) k d (sym (take-append-drop n (drop at text))) s))

pub cut_at : (text : List ℕ) (at : ℕ) (ts : List Token) → Reads 0 text ts at (drop at text) → at ≤ length text → length text ≤ at → IsCut text ts
cut_at text at ts d low high =
    let same : at ≡ length text = omega arith in
    subst (λ l. Reads 0 text ts (length text) l) (drop-length text) (subst (λ n. Reads 0 text ts n (drop n text)) same d)

pub one_cut : (text : List ℕ) (ts us : List Token) → IsCut text ts → IsCut text us → ts ≡ us
one_cut text ts us a b = (reads_once a stops_nil b stops_nil).tokens

-- Where neither a blank nor a token stands next, the text has no tokens.
pub stopped_at : (text : List ℕ) (at : ℕ) (ts us : List Token) → Reads 0 text ts at (drop at text) → at < length text → (is_blank (get_or text at 0) ≡ true → ⊥) → BeginsNoToken (drop at text) → IsCut text us → ⊥
stopped_at text at ts us d more b t h =
    let next = drop_more text at 0 more in
    let stops : Stops (drop at text) = record {
      blank = λ c rest e is. let whole : get_or text at 0 ∷ drop (at + 1) text ≡ c ∷ rest = sym next ∙ e in let same : get_or text at 0 ≡ c = cc whole in b (rw same is);
      token = t;
    } in
    let left : drop at text ≡ [] = (reads_once d stops h stops_nil).lefts in
    let bad : get_or text at 0 ∷ drop (at + 1) text ≡ [] = sym next ∙ left in cc bad
