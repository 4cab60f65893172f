-- The first bytes of a document, one more than its limit.
use Rattle.std.proofs.Common.{◌≡◌, ℕ, ◌+◌, ◌≤◌, ◌<◌, min, nat_lt, List, length, take, Bool, true, false, refl, sym, ap, ◌∙◌, arith}
use Rattle.std.proofs.lemmas.List.{take_min, length-take}
use Rattle.std.proofs.Math.Seq.{take-length}
use Rattle.std.proofs.lemmas.Bool.{ltb-false, ltb-true, lt-ltb}
use Rattle.edge_run.specs.Limits.{limit_of, is_long, IsShort}
use Rattle.edge_run.specs.declared.outcome.Doc.{Doc}

-- the first bytes of a document: of one that is not too long all of them
abbrev pub front : Doc → List ℕ → List ℕ
front d text = take (limit_of d + 1) text

not_less : (n m : ℕ) → m ≤ n → nat_lt n m ≡ false
not_less n m le = by (nat_lt n m) refl
  where
    by : (v : Bool) → nat_lt n m ≡ v → v ≡ false
    by true e = let less : n < m = ltb-true n m e in absurd (omega arith)
    by false e = refl

pub short_is : (d : Doc) (text : List ℕ) → IsShort d text → is_long d text ≡ false
short_is d text short = not_less (limit_of d) (length text) short

pub long_is : (d : Doc) (text : List ℕ) → limit_of d < length text → is_long d text ≡ true
long_is d text more = lt-ltb (limit_of d) (length text) more

take_all : (n : ℕ) (xs : List ℕ) → length xs ≤ n → take (n + 1) xs ≡ xs
take_all n xs h =
    let least : min (n + 1) (length xs) ≡ length xs = omega arith in
    sym (take_min (n + 1) xs) ∙ ap (λ k. take k xs) least ∙ take-length xs

pub front_all : (d : Doc) (text : List ℕ) → is_long d text ≡ false → front d text ≡ text
front_all d text short = take_all (limit_of d) text (ltb-false (limit_of d) (length text) short)

same_above : (n m : ℕ) → nat_lt n (min (n + 1) m) ≡ nat_lt n m
same_above n m = by (nat_lt n m) refl
  where
    by : (v : Bool) → nat_lt n m ≡ v → nat_lt n (min (n + 1) m) ≡ v
    by true e = let less : n < m = ltb-true n m e in lt-ltb n (min (n + 1) m) (omega arith)
    by false e = let le : m ≤ n = ltb-false n m e in not_less n (min (n + 1) m) (omega arith)

-- whether a document is too long shows in its first bytes
pub front_long : (d : Doc) (text : List ℕ) → is_long d (front d text) ≡ is_long d text
front_long d text = ap (nat_lt (limit_of d)) (length-take (limit_of d + 1) text) ∙ same_above (limit_of d) (length text)
