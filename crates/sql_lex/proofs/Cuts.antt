-- What each of the functions that cut a token off has found.
use Rattle.std.proofs.Common.{◌≡◌, ◌≢◌, ℕ, zero, suc, ◌+◌, ◌<◌, ◌≤◌, Bool, true, false, cond, ◌||◌, ◌&&◌, ◌==◌, ◌-◌, ◌⊎◌, ⊎_elim, length-append, List, [], ◌∷◌, ◌++◌, length, take, drop, get_or, ℤ, pos, refl, sym, ap, ◌∙◌, subst, arith, inl, inr, Option, Some, None, append_assoc}
use Rattle.std.specs.Char.{is_ascii_digit}
use Rattle.std.specs.List.{list_all, prefix_len}
use Rattle.std.specs.Str.{IsAscii, IsUtf8}
use Rattle.std.specs.Str.Parse.{digits_value}
use Rattle.std.proofs.lemmas.Bool.Decides.{nat_tests}
use Rattle.std.proofs.lemmas.List.{take-append-drop, length-take-le, length-drop, take_more, drop_more}
use Rattle.std.proofs.lemmas.List.Sums.{prefix_len-le-length}
use Rattle.std.proofs.Math.Seq.{drop-nil}
use Rattle.sql_lex.specs.declared.keyword.Keyword.{Keyword}
use Rattle.sql_lex.specs.declared.token.Sign.{Sign}
use Rattle.sql_lex.specs.declared.token.Sign.TheVariants as sign
use Rattle.sql_lex.specs.declared.token.TokenKind.{TokenKind}
use Rattle.sql_lex.specs.declared.token.TokenKind.TheVariants as kind
use Rattle.sql_lex.specs.Byte.{begins_word, continues_word, is_quote, is_in_name, begins_other, goes_on}
use Rattle.sql_lex.specs.Cut.{IsPiece, IsClosing}
use Rattle.sql_lex.specs.Keyword.{keyword_of, IsWordOf}
use Rattle.sql_lex.specs.Sign.{sign_text, lengthens}
use Rattle.sql_lex.specs.SignTable.{entry, entry_of_two, singles, doubles, double, single_at, double_at}
use Rattle.sql_lex.specs.Token.{Spells, IsWord, IsDigits, doubled, BeginsNoToken}
use Rattle.sql_lex.proofs.Keywords.{keyword_found}
use Rattle.sql_lex.proofs.Ranks.{byte_rank, first_rank, kind_rank, word_rank, digit_rank, front_rank, token_some, word_all, digits_all, stops_digits, begins_continues, name_parts, text_parts, told, sign_found}
use Rattle.sql_lex.proofs.Runs.{doubled_more, doubled_once, doubled_open, and_true, run_once, run_front, run_stops, run_some, front_first}

-- ---- the kind by the first byte

abbrev pub Ranked : List ℕ → ℕ → Type 0
Ranked bytes n = first_rank bytes ≡ n

rank_of : (bytes front rest : List ℕ) (k : TokenKind) (n : ℕ) → first_rank bytes ≡ n → bytes ≡ front ++ rest → Spells front rest k → kind_rank k ≡ n
rank_of bytes front rest k n r e s = sym (front_rank front rest rest k s) ∙ sym (ap first_rank e) ∙ r

-- ---- words

word_first : (bytes : List ℕ) → goes_on begins_word bytes ≡ true → first_rank bytes ≡ 1
word_first [] h = cc h
word_first (b ∷ bytes) h = word_rank b h

is_word : (f : List ℕ) → goes_on begins_word f ≡ true → list_all continues_word f ≡ true → IsWord f
is_word [] a b = cc a
is_word (c ∷ f) a b = (a, (and_true _ _ b).1)

pub word_token : (bytes : List ℕ) (n : ℕ) (k : Keyword) → n ≡ prefix_len continues_word bytes → goes_on begins_word bytes ≡ true → IsWordOf k (take n bytes)
    → (0 < n) × (n ≤ length bytes) × Spells (take n bytes) (drop n bytes) (kind.Word k)
word_token bytes n k e h w =
    let some : 0 < n = rw e (run_some begins_word continues_word bytes begins_continues h) in (
      some,
      rw e (prefix_len-le-length continues_word bytes),
      (is_word (take n bytes) (front_first begins_word n bytes some h) (rw e (run_front continues_word bytes)), w, rw e (run_stops continues_word bytes)),
    )

pub word_none : (bytes : List ℕ) (n : ℕ) → n ≡ prefix_len continues_word bytes → goes_on begins_word bytes ≡ true → keyword_of (take n bytes) ≡ None → BeginsNoToken bytes
word_none bytes n e h none front rest k is s = by_kind k (rank_of bytes front rest k 1 (word_first bytes h) is s) s where
  by_kind : (k : TokenKind) → kind_rank k ≡ 1 → Spells front rest k → ⊥
  by_kind (kind.Word w) r s =
      let same = run_once continues_word (take n bytes) (drop n bytes) front rest (rw e (run_front continues_word bytes)) (rw e (run_stops continues_word bytes)) (word_all front s.0) s.2
      (take-append-drop n bytes ∙ is) in
      let bad : None ≡ Some w = sym none ∙ ap keyword_of same.0 ∙ keyword_found front w s.1 in cc bad
  by_kind (kind.Int w) r s = absurd (omega arith)
  by_kind (kind.Str w) r s = absurd (omega arith)
  by_kind (kind.Name w) r s = absurd (omega arith)
  by_kind (kind.Sign w) r s = absurd (omega arith)

-- ---- numbers

digit_first : (bytes : List ℕ) → goes_on is_ascii_digit bytes ≡ true → first_rank bytes ≡ 2
digit_first [] h = cc h
digit_first (b ∷ bytes) h = digit_rank b h

is_digits : (f : List ℕ) → goes_on is_ascii_digit f ≡ true → list_all is_ascii_digit f ≡ true → IsDigits f
is_digits [] a b = cc a
is_digits (c ∷ f) a b = b

pub int_some : (bytes : List ℕ) (n : ℕ) → n ≡ prefix_len is_ascii_digit bytes → goes_on is_ascii_digit bytes ≡ true → 0 < n
int_some bytes n e h = rw e (run_some is_ascii_digit is_ascii_digit bytes (λ b x. x) h)

pub int_run : (bytes : List ℕ) (n : ℕ) → n ≡ prefix_len is_ascii_digit bytes → list_all is_ascii_digit (take n bytes) ≡ true
int_run bytes n e = rw e (run_front is_ascii_digit bytes)

pub int_token : (bytes : List ℕ) (n : ℕ) (v : ℤ) → n ≡ prefix_len is_ascii_digit bytes → goes_on is_ascii_digit bytes ≡ true
    → v ≡ pos (digits_value 10 (take n bytes)) → digits_value 10 (take n bytes) ≤ 9223372036854775807 → goes_on continues_word (drop n bytes) ≡ false
    → (0 < n) × (n ≤ length bytes) × Spells (take n bytes) (drop n bytes) (kind.Int v)
int_token bytes n v e h is low d =
    let some = int_some bytes n e h in
    (some, rw e (prefix_len-le-length is_ascii_digit bytes), (is_digits (take n bytes) (front_first is_ascii_digit n bytes some h) (int_run bytes n e), is, low, d))

pub int_none : (bytes : List ℕ) (n : ℕ) → n ≡ prefix_len is_ascii_digit bytes → goes_on is_ascii_digit bytes ≡ true
    → (digits_value 10 (take n bytes) ≤ 9223372036854775807 → goes_on continues_word (drop n bytes) ≡ false → ⊥) → BeginsNoToken bytes
int_none bytes n e h never front rest k is s = by_kind k (rank_of bytes front rest k 2 (digit_first bytes h) is s) s where
  by_kind : (k : TokenKind) → kind_rank k ≡ 2 → Spells front rest k → ⊥
  by_kind (kind.Int w) r s =
      let same = run_once is_ascii_digit (take n bytes) (drop n bytes) front rest (int_run bytes n e) (rw e (run_stops is_ascii_digit bytes)) (digits_all front s.0) (stops_digits rest s.3)
      (take-append-drop n bytes ∙ is) in
      never (subst (λ l. digits_value 10 l ≤ 9223372036854775807) (sym same.0) s.2) (subst (λ l. goes_on continues_word l ≡ false) (sym same.1) s.3)
  by_kind (kind.Word w) r s = absurd (omega arith)
  by_kind (kind.Str w) r s = absurd (omega arith)
  by_kind (kind.Name w) r s = absurd (omega arith)
  by_kind (kind.Sign w) r s = absurd (omega arith)

digit_low : (b : ℕ) → is_ascii_digit b ≡ true → b < 128
digit_low b h = grind (arith, nat_tests)

all_low : (xs : List ℕ) → list_all is_ascii_digit xs ≡ true → IsAscii xs
all_low [] h i = omega arith
all_low (x ∷ xs) h zero = digit_low x (and_true _ _ h).0
all_low (x ∷ xs) h (suc i) = all_low xs (and_true _ _ h).1 i

pub int_ascii : (bytes : List ℕ) (n : ℕ) → n ≡ prefix_len is_ascii_digit bytes → IsAscii (take n bytes)
int_ascii bytes n e = all_low (take n bytes) (int_run bytes n e)

-- ---- names

pub name_none : (more : List ℕ) (n : ℕ) → n ≡ prefix_len is_in_name more → (n ≢ zero → n ≢ length more → IsUtf8 (take n more) → ⊥) → BeginsNoToken (34 ∷ more)
name_none more n e never front rest k is s = by_kind k (rank_of (34 ∷ more) front rest k 4 refl is s) s where
  by_kind : (k : TokenKind) → kind_rank k ≡ 4 → Spells front rest k → ⊥
  by_kind (kind.Name w) r s =
      let inner : 34 ∷ more ≡ 34 ∷ (w ++ 34 ∷ rest) = is ∙ name_parts front rest w s.0 in
      let whole : more ≡ w ++ 34 ∷ rest = cc inner in
      let same = run_once is_in_name (take n more) (drop n more) w (34 ∷ rest) (rw e (run_front is_in_name more)) (rw e (run_stops is_in_name more)) s.1.1 refl
      (take-append-drop n more ∙ whole) in
      never
      (λ z. s.1.0 (sym same.0 ∙ ap (λ m. take m more) z))
      (λ z. let bad : [] ≡ 34 ∷ rest = sym (drop_all more) ∙ ap (λ m. drop m more) (sym z) ∙ same.1 in cc bad)
      (subst IsUtf8 (sym same.0) s.1.2)
    where
      drop_all : (xs : List ℕ) → drop (length xs) xs ≡ []
      drop_all [] = refl
      drop_all (x ∷ xs) = drop_all xs
  by_kind (kind.Int w) r s = absurd (omega arith)
  by_kind (kind.Str w) r s = absurd (omega arith)
  by_kind (kind.Word w) r s = absurd (omega arith)
  by_kind (kind.Sign w) r s = absurd (omega arith)

-- the byte at which a run of a name stops is a quote
quote_next : (more : List ℕ) (n : ℕ) → n ≡ prefix_len is_in_name more → n < length more → drop n more ≡ 34 ∷ drop (n + 1) more
quote_next more n e lt =
    let next = drop_more more n 0 lt in
    let stops : goes_on is_in_name (drop n more) ≡ false = rw e (run_stops is_in_name more) in
    let stop : is_in_name (get_or more n 0) ≡ false = subst (λ l. goes_on is_in_name l ≡ false) next stops in
    let is : get_or more n 0 ≡ 34 = grind (arith, nat_tests) in
    next ∙ ap (λ b. b ∷ drop (n + 1) more) is

front_and : (front : List ℕ) (b : ℕ) (rest : List ℕ) → take (length front + 1) (front ++ b ∷ rest) ≡ front ++ b ∷ []
front_and [] b rest = refl
front_and (x ∷ front) b rest = let one : suc (length front) + 1 ≡ suc (length front + 1) = omega arith in rw one (ap (λ l. x ∷ l) (front_and front b rest))

pub name_token : (more : List ℕ) (n : ℕ) → n ≡ prefix_len is_in_name more → n ≢ zero → n ≢ length more → IsUtf8 (take n more)
    → (0 < n + 2) × (n + 2 ≤ length (34 ∷ more)) × Spells (take (n + 2) (34 ∷ more)) (drop (n + 2) (34 ∷ more)) (kind.Name (take n more))
name_token more n e some short utf8 =
    let within : n ≤ length more = rw e (prefix_len-le-length is_in_name more) in
    let lt : n < length more = omega arith in
    let whole : more ≡ take n more ++ 34 ∷ drop (n + 1) more = sym (take-append-drop n more) ∙ ap (λ l. take n more ++ l) (quote_next more n e lt) in
    let len : length (take n more) ≡ n = length-take-le n more within in
    let two : n + 2 ≡ suc (n + 1) = omega arith in
    let part : take (n + 1) more ≡ take n more ++ 34 ∷ [] =
    ap (λ l. take (n + 1) l) whole ∙ ap (λ m. take (m + 1) (take n more ++ 34 ∷ drop (n + 1) more)) (sym len) ∙ front_and (take n more) 34 (drop (n + 1) more) in
    (omega arith, omega arith, (rw two (ap (λ l. 34 ∷ l) part), (empty n more some lt, rw e (run_front is_in_name more), utf8)))
  where
    empty : (n : ℕ) (xs : List ℕ) → n ≢ zero → n < length xs → take n xs ≢ []
    empty zero xs some lt z = some refl
    empty (suc n) [] some lt z = omega arith
    empty (suc n) (x ∷ xs) some lt z = cc z

-- ---- texts

pub text_none : (more : List ℕ) → IsClosing more None → BeginsNoToken (39 ∷ more)
text_none more never front rest k is s = by_kind k (rank_of (39 ∷ more) front rest k 3 refl is s) s where
  by_kind : (k : TokenKind) → kind_rank k ≡ 3 → Spells front rest k → ⊥
  by_kind (kind.Str w) r s =
      let inner : 39 ∷ more ≡ 39 ∷ (doubled w ++ 39 ∷ rest) = is ∙ text_parts front rest w s.0 in
      never w rest s.2 (cc inner)
  by_kind (kind.Int w) r s = absurd (omega arith)
  by_kind (kind.Name w) r s = absurd (omega arith)
  by_kind (kind.Word w) r s = absurd (omega arith)
  by_kind (kind.Sign w) r s = absurd (omega arith)

seam_take : (front rest : List ℕ) → take (length front) (front ++ rest) ≡ front
seam_take [] rest = refl
seam_take (x ∷ front) rest = ap (λ l. x ∷ l) (seam_take front rest)

seam_drop : (front rest : List ℕ) → drop (length front) (front ++ rest) ≡ rest
seam_drop [] rest = refl
seam_drop (x ∷ front) rest = seam_drop front rest

pub text_token : (more t : List ℕ) (at : ℕ) → IsClosing more (Some (t, at)) → IsUtf8 t
    → (0 < at + 2) × (at + 2 ≤ length (39 ∷ more)) × Spells (take (at + 2) (39 ∷ more)) (drop (at + 2) (39 ∷ more)) (kind.Str t)
text_token more t at h utf8 =
    let rest : List ℕ = drop (at + 1) more in
    let front : List ℕ = 39 ∷ doubled t ++ 39 ∷ [] in
    let whole : 39 ∷ more ≡ front ++ rest = ap (λ l. 39 ∷ l) h.1 ∙ sym (text_parts front rest t refl) in
    let both : length (39 ∷ more) ≡ length front + length rest = ap length whole ∙ length-append front rest in
    let left : length rest ≡ length more - (at + 1) = length-drop (at + 1) more in
    let within = h.0 in
    let len : at + 2 ≡ length front = omega arith in (
      omega arith,
      omega arith,
      (
        ap (λ m. take m (39 ∷ more)) len ∙ ap (λ l. take (length front) l) whole ∙ seam_take front rest,
        utf8,
        subst (λ l. goes_on is_quote l ≡ false) (sym (ap (λ m. drop m (39 ∷ more)) len ∙ ap (λ l. drop (length front) l) whole ∙ seam_drop front rest)) h.2,
      ),
    )

pub text_broken : (more t : List ℕ) (at : ℕ) → IsClosing more (Some (t, at)) → (IsUtf8 t → ⊥) → BeginsNoToken (39 ∷ more)
text_broken more t at h never front behind k is s = by_kind k (rank_of (39 ∷ more) front behind k 3 refl is s) s where
  by_kind : (k : TokenKind) → kind_rank k ≡ 3 → Spells front behind k → ⊥
  by_kind (kind.Str w) r s =
      let inner : 39 ∷ more ≡ 39 ∷ (doubled w ++ 39 ∷ behind) = is ∙ text_parts front behind w s.0 in
      let whole : more ≡ doubled w ++ 39 ∷ behind = cc inner in
      never (subst IsUtf8 (sym (doubled_once t w (drop (at + 1) more) behind h.2 s.2 (sym h.1 ∙ whole)).0) s.1)
  by_kind (kind.Int w) r s = absurd (omega arith)
  by_kind (kind.Name w) r s = absurd (omega arith)
  by_kind (kind.Word w) r s = absurd (omega arith)
  by_kind (kind.Sign w) r s = absurd (omega arith)

-- the bytes at one place

one_piece : (b : ℕ) (t : Bool) → (b == 39) ≡ t → t ≡ false → doubled (b ∷ []) ≡ b ∷ []
one_piece b true e h = cc h
one_piece b false e h = rw e refl

pub piece_plain : (bytes : List ℕ) (at : ℕ) → at < length bytes → get_or bytes at 0 ≢ 39 → IsPiece bytes at 1
piece_plain bytes at lt other =
    let plain : (get_or bytes at 0 == 39) ≡ false = grind (arith, nat_tests) in
    (λ z. absurd (omega arith), λ p. (omega arith, take_more bytes at 0 lt ∙ ap (λ l. take at bytes ++ l) (sym (one_piece (get_or bytes at 0) (get_or bytes at 0 == 39) refl plain))))

pub piece_doubled : (bytes : List ℕ) (at : ℕ) → at < length bytes → get_or bytes at 0 ≡ 39 → goes_on is_quote (drop (at + 1) bytes) ≡ true → IsPiece bytes at 2
piece_doubled bytes at lt quote next =
    let behind : (at + 1 < length bytes) × (get_or bytes (at + 1) 0 ≡ 39) = second bytes at next in
    let lt2 = behind.0 in
    let two : at + 2 ≡ (at + 1) + 1 = omega arith in (
      λ z. absurd (omega arith),
      λ p. (
        omega arith,
        ap (λ m. take m bytes) two ∙ take_more bytes (at + 1) 0 lt2 ∙ ap (λ l. l ++ get_or bytes (at + 1) 0 ∷ []) (take_more bytes at 0 lt)
            ∙ append_assoc (take at bytes) (get_or bytes at 0 ∷ []) (get_or bytes (at + 1) 0 ∷ [])
            ∙ ap (λ l. take at bytes ++ l) (ap (λ b. get_or bytes at 0 ∷ b ∷ []) behind.1 ∙ ap (λ b. b ∷ 39 ∷ []) quote ∙ sym (ap (λ b. doubled (b ∷ [])) quote)),
      ),
    )
  where
    second : (bytes : List ℕ) (at : ℕ) → goes_on is_quote (drop (at + 1) bytes) ≡ true → (at + 1 < length bytes) × (get_or bytes (at + 1) 0 ≡ 39)
    second [] at h = absurd (let e : false ≡ true = subst (λ l. goes_on is_quote l ≡ true) (drop-nil (at + 1)) h in cc e)
    second (b ∷ []) zero h = absurd (let e : false ≡ true = h in cc e)
    second (b ∷ c ∷ more) zero h = (omega arith, let is : (c == 39) ≡ true = h in grind (arith, nat_tests))
    second (b ∷ more) (suc at) h = let one : suc at + 1 ≡ suc (at + 1) = omega arith in let r = second more at (subst (λ m. goes_on is_quote (drop m (b ∷ more)) ≡ true) one h) in let lt = r.0 in (omega arith, rw one r.1)

pub closing_more : (bytes text : List ℕ) (at n : ℕ) → take at bytes ≡ doubled text → IsPiece bytes at n → n ≢ 0 → (at + n ≤ length bytes) × (take (at + n) bytes ≡ doubled (text ++ get_or bytes at 0 ∷ []))
closing_more bytes text at n h p some =
    let q = p.1 (omega arith) in
    (q.0, q.1 ∙ ap (λ l. l ++ doubled (get_or bytes at 0 ∷ [])) h ∙ sym (doubled_more text (get_or bytes at 0)))

pub closing_found : (bytes text : List ℕ) (at : ℕ) → at < length bytes → take at bytes ≡ doubled text → IsPiece bytes at 0 → IsClosing bytes (Some (text, at))
closing_found bytes text at lt h p =
    let q = p.0 refl in
    (lt, sym (take-append-drop at bytes) ∙ ap (λ l. l ++ drop at bytes) h ∙ ap (λ l. doubled text ++ l) (drop_more bytes at 0 lt ∙ ap (λ b. b ∷ drop (at + 1) bytes) q.0), q.1)

pub closing_none : (bytes text : List ℕ) (at : ℕ) → length bytes ≤ at → take at bytes ≡ doubled text → IsClosing bytes None
closing_none bytes text at end h u rest a e = doubled_open text u rest a (sym h ∙ take_long bytes at end ∙ e) where
  take_long : (xs : List ℕ) (n : ℕ) → length xs ≤ n → take n xs ≡ xs
  take_long [] zero le = refl
  take_long [] (suc n) le = refl
  take_long (x ∷ xs) zero le = absurd (omega arith)
  take_long (x ∷ xs) (suc n) le = ap (λ l. x ∷ l) (take_long xs n (omega arith))

-- ---- signs

either_way : (t : Bool) (x s : Sign) (o : Option Sign) (P : Sign → Type 0) → (t ≡ true → P x) → (o ≡ Some s → P s) → cond t (Some x) o ≡ Some s → P s
either_way true x s o P f g h = let e : x ≡ s = cc in subst P e (f refl)
either_way false x s o P f g h = g h

eqb_same : (x y : ℕ) → (x == y) ≡ true → x ≡ y
eqb_same x y h = grind (arith, nat_tests)

abbrev IsRight : List (ℕ × Sign) → Type 0
IsRight [] = Unit {0}
IsRight (e ∷ more) = (e.0 ∷ [] ≡ sign_text e.1) × IsRight more

-- the characters are the sign's, and nothing makes it longer
abbrev IsWhole : ℕ → ℕ → Sign → Type 0
IsWhole b c s = (b ∷ c ∷ [] ≡ sign_text s) × ((d : ℕ) → lengthens s d ≡ false)

abbrev IsRightOfTwo : List (ℕ × ℕ × Sign) → Type 0
IsRightOfTwo [] = Unit {0}
IsRightOfTwo (e ∷ more) = IsWhole e.0 e.1 e.2 × IsRightOfTwo more

entry_right : (table : List (ℕ × Sign)) (b : ℕ) (s : Sign) → IsRight table → entry table b ≡ Some s → b ∷ [] ≡ sign_text s
entry_right [] b s r h = cc h
entry_right (e ∷ more) b s r h =
    either_way (b == e.0) e.1 s (entry more b) (λ x. b ∷ [] ≡ sign_text x) (λ t. ap (λ x. x ∷ []) (eqb_same b e.0 t) ∙ r.0) (entry_right more b s r.1) h

entry_right_of_two : (table : List (ℕ × ℕ × Sign)) (b c : ℕ) (s : Sign) → IsRightOfTwo table → entry_of_two table b c ≡ Some s → IsWhole b c s
entry_right_of_two [] b c s r h = cc h
entry_right_of_two (e ∷ more) b c s r h =
    either_way (b == e.0 && c == e.1) e.2 s (entry_of_two more b c) (λ x. IsWhole b c x)
    (λ t. let a = and_true _ _ t in (ap (λ x. x ∷ c ∷ []) (eqb_same b e.0 a.0) ∙ ap (λ x. e.0 ∷ x ∷ []) (eqb_same c e.1 a.1) ∙ r.0.0, r.0.1))
    (entry_right_of_two more b c s r.1) h

singles_right : IsRight singles
singles_right = (refl, (refl, (refl, (refl, (refl, (refl, (refl, (refl, (refl, (refl, (refl, (refl, tt))))))))))))

doubles_right : IsRightOfTwo doubles
doubles_right = ((refl, λ b. refl), ((refl, λ b. refl), ((refl, λ b. refl), ((refl, λ b. refl), ((refl, λ b. refl), ((refl, λ b. refl), tt))))))

less_none : (x y : Bool) → cond x (Some sign.NotEqual) (cond y (Some sign.LessOrEqual) None) ≡ None → (x || y) ≡ false
less_none true y h = cc h
less_none false true h = cc h
less_none false false h = refl

greater_none : (x : Bool) → cond x (Some sign.GreaterOrEqual) None ≡ None → x ≡ false
greater_none true h = cc h
greater_none false h = refl

alone : (b c : ℕ) (s : Sign) → b ∷ [] ≡ sign_text s → double b c ≡ None → lengthens s c ≡ false
alone b c sign.LeftParen h n = refl
alone b c sign.RightParen h n = refl
alone b c sign.Comma h n = refl
alone b c sign.Semicolon h n = refl
alone b c sign.Dot h n = refl
alone b c sign.Cast h n = refl
alone b c sign.Equal h n = refl
alone b c sign.NotEqual h n = refl
alone b c sign.LessOrEqual h n = refl
alone b c sign.Less h n = let one : b ≡ 60 = cc h in less_none (c == 62) (c == 61) (subst (λ x. double x c ≡ None) one n)
alone b c sign.GreaterOrEqual h n = refl
alone b c sign.Greater h n = let one : b ≡ 62 = cc h in greater_none (c == 61) (subst (λ x. double x c ≡ None) one n)
alone b c sign.Plus h n = refl
alone b c sign.Minus h n = refl
alone b c sign.Concat h n = refl
alone b c sign.Star h n = refl
alone b c sign.FloorDivide h n = refl
alone b c sign.Percent h n = refl

none_longer : (s : Sign) (r : List ℕ) → ((d : ℕ) → lengthens s d ≡ false) → goes_on (lengthens s) r ≡ false
none_longer s [] h = refl
none_longer s (d ∷ r) h = h d

pub sign_double : (bytes : List ℕ) (s : Sign) → double_at bytes ≡ Some s → (0 < 2) × (2 ≤ length bytes) × Spells (take 2 bytes) (drop 2 bytes) (kind.Sign s)
sign_double [] s h = cc h
sign_double (b ∷ []) s h = cc h
sign_double (b ∷ c ∷ r) s h = let w = entry_right_of_two doubles b c s doubles_right h in (omega arith, omega arith, (w.0, none_longer s r w.1))

pub sign_single : (bytes : List ℕ) (s : Sign) → double_at bytes ≡ None → single_at bytes ≡ Some s → (0 < 1) × (1 ≤ length bytes) × Spells (take 1 bytes) (drop 1 bytes) (kind.Sign s)
sign_single [] s n h = cc h
sign_single (b ∷ []) s n h = (omega arith, omega arith, (entry_right singles b s singles_right h, refl))
sign_single (b ∷ c ∷ r) s n h = let w = entry_right singles b s singles_right h in (omega arith, omega arith, (w, alone b c s w n))

other_rank : (b : ℕ) → begins_other b ≡ false → (byte_rank b ≡ 0) ⊎ (byte_rank b ≡ 5)
other_rank b h = grind (arith, nat_tests)

pub sign_none : (bytes : List ℕ) → goes_on begins_other bytes ≡ false → double_at bytes ≡ None → single_at bytes ≡ None → BeginsNoToken bytes
sign_none [] other d n [] rest k e s = token_some rest k s
sign_none [] other d n (b ∷ front) rest k e s = cc e
sign_none (b ∷ bytes) other d n front rest k is s = by_kind k (⊎_elim (λ h. inl (rank_of (b ∷ bytes) front rest k 0 h is s)) (λ h. inr (rank_of (b ∷ bytes) front rest k 5 h is s)) (other_rank b other)) s where
  by_kind : (k : TokenKind) → (kind_rank k ≡ 0) ⊎ (kind_rank k ≡ 5) → Spells front rest k → ⊥
  by_kind (kind.Sign w) r s =
      let bad : None ≡ Some w = sym (ap (λ o. told o (single_at (b ∷ bytes))) d ∙ n) ∙ ap (λ l. told (double_at l) (single_at l)) is ∙ sign_found front rest w s in cc bad
  by_kind (kind.Int w) r s = ⊎_elim (λ h. absurd (omega arith)) (λ h. absurd (omega arith)) r
  by_kind (kind.Name w) r s = ⊎_elim (λ h. absurd (omega arith)) (λ h. absurd (omega arith)) r
  by_kind (kind.Word w) r s = ⊎_elim (λ h. absurd (omega arith)) (λ h. absurd (omega arith)) r
  by_kind (kind.Str w) r s = ⊎_elim (λ h. absurd (omega arith)) (λ h. absurd (omega arith)) r

-- ---- the same by the first byte

pub name_none_at : (bytes : List ℕ) (n : ℕ) → goes_on (λ b. b == 34) bytes ≡ true → n ≡ prefix_len is_in_name (drop 1 bytes)
    → (n ≢ zero → n ≢ length (drop 1 bytes) → IsUtf8 (take n (drop 1 bytes)) → ⊥) → BeginsNoToken bytes
name_none_at [] n h e never = cc h
name_none_at (b ∷ more) n h e never = let same : b ≡ 34 = grind (arith, nat_tests) in subst (λ x. BeginsNoToken (x ∷ more)) (sym same) (name_none more n e never)

pub name_token_at : (bytes t : List ℕ) (n : ℕ) → goes_on (λ b. b == 34) bytes ≡ true → n ≡ prefix_len is_in_name (drop 1 bytes)
    → n ≢ zero → n ≢ length (drop 1 bytes) → IsUtf8 (take n (drop 1 bytes)) → t ≡ take n (drop 1 bytes)
    → (0 < n + 2) × (n + 2 ≤ length bytes) × Spells (take (n + 2) bytes) (drop (n + 2) bytes) (kind.Name t)
name_token_at [] t n h e a b u is = absurd (cc h)
name_token_at (b ∷ more) t n h e p q u is =
    let same : b ≡ 34 = grind (arith, nat_tests) in
    rw is (subst (λ x. (0 < n + 2) × (n + 2 ≤ length (x ∷ more)) × Spells (take (n + 2) (x ∷ more)) (drop (n + 2) (x ∷ more)) (kind.Name (take n more))) (sym same) (name_token more n e p q u))

quote_is : (b : ℕ) → (b == 39) ≡ true → b ≡ 39
quote_is b h = grind (arith, nat_tests)

pub text_none_at : (bytes : List ℕ) → goes_on is_quote bytes ≡ true → IsClosing (drop 1 bytes) None → BeginsNoToken bytes
text_none_at [] h never = cc h
text_none_at (b ∷ more) h never = subst (λ x. BeginsNoToken (x ∷ more)) (sym (quote_is b h)) (text_none more never)

pub text_broken_at : (bytes t : List ℕ) (at : ℕ) → goes_on is_quote bytes ≡ true → IsClosing (drop 1 bytes) (Some (t, at)) → (IsUtf8 t → ⊥) → BeginsNoToken bytes
text_broken_at [] t at h found never = cc h
text_broken_at (b ∷ more) t at h found never = subst (λ x. BeginsNoToken (x ∷ more)) (sym (quote_is b h)) (text_broken more t at found never)

pub text_token_at : (bytes t u : List ℕ) (at : ℕ) → goes_on is_quote bytes ≡ true → IsClosing (drop 1 bytes) (Some (t, at)) → IsUtf8 t → u ≡ t
    → (0 < at + 2) × (at + 2 ≤ length bytes) × Spells (take (at + 2) bytes) (drop (at + 2) bytes) (kind.Str u)
text_token_at [] t u at h found utf8 is = absurd (cc h)
text_token_at (b ∷ more) t u at h found utf8 is =
    rw is (subst (λ x. (0 < at + 2) × (at + 2 ≤ length (x ∷ more)) × Spells (take (at + 2) (x ∷ more)) (drop (at + 2) (x ∷ more)) (kind.Str t)) (sym (quote_is b h)) (text_token more t at found utf8))
