-- Keywords are found by their letters, whatever their case.
use Rattle.std.proofs.Common.{◌≡◌, ℕ, Bool, true, false, cond, List, [], ◌∷◌, map, Option, Some, refl, sym, ap, ◌∙◌, subst}
use Rattle.std.specs.Str.{str_eq_ignore_ascii_case, str_to_ascii_lowercase, bytes_eq}
use Rattle.std.proofs.lemmas.Slice.Eq.{bytes_eq-Decides}
use Rattle.sql_lex.specs.declared.keyword.Keyword.{Keyword}
use Rattle.sql_lex.specs.declared.keyword.Keyword.TheVariants as keyword
use Rattle.sql_lex.specs.declared.keyword.TheConstants.{KEYWORDS}
use Rattle.sql_lex.specs.Keyword.{keyword_text, keywords, IsWordOf, keyword_at, keyword_of}

abbrev table : List (List ℕ × Keyword)
table = map (λ k. (keyword_text k, k)) keywords

-- the code's table
pub table_same : map (λ k. (k.0.now, k.1)) KEYWORDS ≡ table
table_same = refl

-- each entry has the letters of its keyword
abbrev IsRight : List (List ℕ × Keyword) → Type 0
IsRight [] = Unit {0}
IsRight (e ∷ more) = (e.0 ≡ keyword_text e.1) × IsRight more

table_right : IsRight table
table_right = (refl, (refl, (refl, (refl, (refl, (refl, (refl, (refl, (refl, (refl, (refl, (refl, (refl, (refl, (refl, (refl, (refl, (refl, (refl, (refl, (refl, (refl, (refl, (refl, (refl, (refl, (refl, (refl, (refl, (refl, (refl, (refl, (refl, (refl, (refl, (refl, (refl, (refl, (refl, (refl, (refl, (refl, (refl, (refl, (refl, (refl, (refl, (refl, (refl, (refl, (refl, (refl, (refl, tt)))))))))))))))))))))))))))))))))))))))))))))))))))))

either_way : (t : Bool) (x s : Keyword) (o : Option Keyword) (P : Keyword → Type 0) → (t ≡ true → P x) → (o ≡ Some s → P s) → cond t (Some x) o ≡ Some s → P s
either_way true x s o P f g h = let e : x ≡ s = cc in subst P e (f refl)
either_way false x s o P f g h = g h

sound_in : (t : List (List ℕ × Keyword)) (word : List ℕ) (k : Keyword) → IsRight t → keyword_at t word ≡ Some k → IsWordOf k word
sound_in [] word k r h = cc h
sound_in (e ∷ more) word k r h =
    either_way (str_eq_ignore_ascii_case e.0 word) e.1 k (keyword_at more word) (λ x. IsWordOf x word)
    (λ t. sym ((bytes_eq-Decides (str_to_ascii_lowercase e.0) (str_to_ascii_lowercase word)).0 t) ∙ ap str_to_ascii_lowercase r.0) (sound_in more word k r.1) h

pub keyword_sound : (word : List ℕ) (k : Keyword) → keyword_of word ≡ Some k → IsWordOf k word
unfolding keyword_of
keyword_sound word k h = sound_in table word k table_right h

-- words of the same letters are found alike
alike : (t : List (List ℕ × Keyword)) (v w : List ℕ) → str_to_ascii_lowercase v ≡ str_to_ascii_lowercase w → keyword_at t v ≡ keyword_at t w
alike [] v w e = refl
alike (x ∷ more) v w e =
    ap (λ l. cond (bytes_eq (str_to_ascii_lowercase x.0) l) (Some x.1) (keyword_at more v)) e
    ∙ ap (λ o. cond (str_eq_ignore_ascii_case x.0 w) (Some x.1) o) (alike more v w e)

found : (k : Keyword) → keyword_at table (keyword_text k) ≡ Some k
found keyword.Select = refl
found keyword.Distinct = refl
found keyword.As = refl
found keyword.From = refl
found keyword.Left = refl
found keyword.Join = refl
found keyword.Lateral = refl
found keyword.On = refl
found keyword.True = refl
found keyword.False = refl
found keyword.Where = refl
found keyword.Order = refl
found keyword.By = refl
found keyword.Offset = refl
found keyword.Limit = refl
found keyword.Union = refl
found keyword.All = refl
found keyword.Unnest = refl
found keyword.Asc = refl
found keyword.Desc = refl
found keyword.Nulls = refl
found keyword.First = refl
found keyword.Last = refl
found keyword.Uuid = refl
found keyword.Null = refl
found keyword.Arg = refl
found keyword.Global = refl
found keyword.Array = refl
found keyword.Row = refl
found keyword.Part = refl
found keyword.Case = refl
found keyword.When = refl
found keyword.Then = refl
found keyword.Else = refl
found keyword.End = refl
found keyword.Cast = refl
found keyword.Len = refl
found keyword.CountOf = refl
found keyword.SumOf = refl
found keyword.MinOf = refl
found keyword.MaxOf = refl
found keyword.AnyOf = refl
found keyword.AllOf = refl
found keyword.AssertSingle = refl
found keyword.AssertExists = refl
found keyword.AssertDistinct = refl
found keyword.Int = refl
found keyword.Text = refl
found keyword.Bool = refl
found keyword.Or = refl
found keyword.And = refl
found keyword.Not = refl
found keyword.Is = refl

pub keyword_found : (word : List ℕ) (k : Keyword) → IsWordOf k word → keyword_of word ≡ Some k
unfolding keyword_of
keyword_found word k h = alike table word (keyword_text k) h ∙ found k

-- what the code finds in its table
pub keyword_of_table : (word : List ℕ) → keyword_at (map (λ k. (k.0.now, k.1)) KEYWORDS) word ≡ keyword_of word
unfolding keyword_of
keyword_of_table word = ap (λ t. keyword_at t word) table_same
