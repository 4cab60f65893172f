-- Keywords are found by their letters, whatever their case.
use Rattle.std.proofs.Common.{◌≡◌, ℕ, Bool, true, false, cond, List, [], ◌∷◌, map, Option, Some, refl, sym, ap, ◌∙◌, subst}
use Rattle.std.specs.Str.{str_eq_ignore_ascii_case, str_to_ascii_lowercase, bytes_eq}
use Rattle.std.proofs.lemmas.Slice.Eq.{bytes_eq-Decides}
use Rattle.ev_lex.specs.declared.keyword.Keyword.{Keyword}
use Rattle.ev_lex.specs.declared.keyword.Keyword.TheVariants as keyword
use Rattle.ev_lex.specs.declared.keyword.TheConstants.{KEYWORDS}
use Rattle.ev_lex.specs.Keyword.{keyword_text, keywords, IsWordOf, keyword_at, keyword_of}

abbrev table : List (List ℕ × Keyword)
table = map (λ k. (keyword_text k, k)) keywords

-- the code's table
pub table_same : map (λ k. (k.0.now, k.1)) KEYWORDS ≡ table
table_same = refl

-- each entry has the letters of its keyword
abbrev IsRight : List (List ℕ × Keyword) → Type 0
IsRight [] = Unit {0}
IsRight (e ∷ more) = (str_to_ascii_lowercase e.0 ≡ keyword_text e.1) × IsRight more

table_right : IsRight table
table_right = (refl, (refl, (refl, (refl, (refl, (refl, (refl, (refl, (refl, (refl, (refl, (refl, (refl, (refl, (refl, (refl, (refl, (refl, (refl, (refl, (refl, (refl, (refl, (refl, (refl, (refl, (refl, (refl, (refl, (refl, (refl, (refl, (refl, (refl, (refl, (refl, (refl, (refl, (refl, (refl, (refl, (refl, (refl, (refl, (refl, (refl, (refl, (refl, (refl, (refl, (refl, (refl, (refl, (refl, (refl, (refl, (refl, (refl, (refl, (refl, (refl, (refl, tt))))))))))))))))))))))))))))))))))))))))))))))))))))))))))))))

either_way : (t : Bool) (x s : Keyword) (o : Option Keyword) (P : Keyword → Type 0) → (t ≡ true → P x) → (o ≡ Some s → P s) → cond t (Some x) o ≡ Some s → P s
either_way true x s o P f g h = let e : x ≡ s = cc in subst P e (f refl)
either_way false x s o P f g h = g h

sound_in : (t : List (List ℕ × Keyword)) (word : List ℕ) (k : Keyword) → IsRight t → keyword_at t word ≡ Some k → IsWordOf k word
sound_in [] word k r h = cc h
sound_in (e ∷ more) word k r h =
    either_way (str_eq_ignore_ascii_case e.0 word) e.1 k (keyword_at more word) (λ x. IsWordOf x word)
    (λ t. sym ((bytes_eq-Decides (str_to_ascii_lowercase e.0) (str_to_ascii_lowercase word)).0 t) ∙ r.0) (sound_in more word k r.1) h

pub keyword_sound : (word : List ℕ) (k : Keyword) → keyword_of word ≡ Some k → IsWordOf k word
unfolding keyword_of
keyword_sound word k h = sound_in table word k table_right h

-- words of the same letters are found alike
alike : (t : List (List ℕ × Keyword)) (v w : List ℕ) → str_to_ascii_lowercase v ≡ str_to_ascii_lowercase w → keyword_at t v ≡ keyword_at t w
alike [] v w e = refl
alike (x ∷ more) v w e =
    ap (λ l. cond (bytes_eq (str_to_ascii_lowercase x.0) l) (Some x.1) (keyword_at more v)) e
    ∙ ap (λ o. cond (str_eq_ignore_ascii_case x.0 w) (Some x.1) o) (alike more v w e)

small : (k : Keyword) → str_to_ascii_lowercase (keyword_text k) ≡ keyword_text k
small keyword.Select = refl
small keyword.With = refl
small keyword.Filter = refl
small keyword.Order = refl
small keyword.By = refl
small keyword.Offset = refl
small keyword.Limit = refl
small keyword.For = refl
small keyword.In = refl
small keyword.Union = refl
small keyword.If = refl
small keyword.Else = refl
small keyword.And = refl
small keyword.Or = refl
small keyword.Not = refl
small keyword.Exists = refl
small keyword.Distinct = refl
small keyword.Is = refl
small keyword.Global = refl
small keyword.Optional = refl
small keyword.Required = refl
small keyword.Single = refl
small keyword.Multi = refl
small keyword.True = refl
small keyword.False = refl
small keyword.Like = refl
small keyword.Ilike = refl
small keyword.Intersect = refl
small keyword.Except = refl
small keyword.Insert = refl
small keyword.Update = refl
small keyword.Delete = refl
small keyword.Group = refl
small keyword.Asc = refl
small keyword.Desc = refl
small keyword.Empty = refl
small keyword.First = refl
small keyword.Last = refl
small keyword.Then = refl
small keyword.Module = refl
small keyword.Abstract = refl
small keyword.Type = refl
small keyword.Extending = refl
small keyword.Property = refl
small keyword.Link = refl
small keyword.Index = refl
small keyword.On = refl
small keyword.Annotation = refl
small keyword.Overloaded = refl
small keyword.Delegated = refl
small keyword.Constraint = refl
small keyword.Default = refl
small keyword.Target = refl
small keyword.Restrict = refl
small keyword.Access = refl
small keyword.Policy = refl
small keyword.Allow = refl
small keyword.Deny = refl
small keyword.All = refl
small keyword.Using = refl
small keyword.Read = refl
small keyword.Write = refl

found : (k : Keyword) → keyword_at table (keyword_text k) ≡ Some k
found keyword.Select = refl
found keyword.With = refl
found keyword.Filter = refl
found keyword.Order = refl
found keyword.By = refl
found keyword.Offset = refl
found keyword.Limit = refl
found keyword.For = refl
found keyword.In = refl
found keyword.Union = refl
found keyword.If = refl
found keyword.Else = refl
found keyword.And = refl
found keyword.Or = refl
found keyword.Not = refl
found keyword.Exists = refl
found keyword.Distinct = refl
found keyword.Is = refl
found keyword.Global = refl
found keyword.Optional = refl
found keyword.Required = refl
found keyword.Single = refl
found keyword.Multi = refl
found keyword.True = refl
found keyword.False = refl
found keyword.Like = refl
found keyword.Ilike = refl
found keyword.Intersect = refl
found keyword.Except = refl
found keyword.Insert = refl
found keyword.Update = refl
found keyword.Delete = refl
found keyword.Group = refl
found keyword.Asc = refl
found keyword.Desc = refl
found keyword.Empty = refl
found keyword.First = refl
found keyword.Last = refl
found keyword.Then = refl
found keyword.Module = refl
found keyword.Abstract = refl
found keyword.Type = refl
found keyword.Extending = refl
found keyword.Property = refl
found keyword.Link = refl
found keyword.Index = refl
found keyword.On = refl
found keyword.Annotation = refl
found keyword.Overloaded = refl
found keyword.Delegated = refl
found keyword.Constraint = refl
found keyword.Default = refl
found keyword.Target = refl
found keyword.Restrict = refl
found keyword.Access = refl
found keyword.Policy = refl
found keyword.Allow = refl
found keyword.Deny = refl
found keyword.All = refl
found keyword.Using = refl
found keyword.Read = refl
found keyword.Write = refl

pub keyword_found : (word : List ℕ) (k : Keyword) → IsWordOf k word → keyword_of word ≡ Some k
unfolding keyword_of
keyword_found word k h = alike table word (keyword_text k) (h ∙ sym (small k)) ∙ found k

-- what the code finds in its table
pub keyword_of_table : (word : List ℕ) → keyword_at (map (λ k. (k.0.now, k.1)) KEYWORDS) word ≡ keyword_of word
unfolding keyword_of
keyword_of_table word = ap (λ t. keyword_at t word) table_same
