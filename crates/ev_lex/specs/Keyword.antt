-- Keywords: the words that the grammars name.
use Rattle.std.specs.Prelude.{◌≡◌, ℕ, Bool, true, false, List, [], ◌∷◌, map, Option, Some, None, if◌then◌else◌, codes}
use Rattle.std.specs.Str.{str_eq_ignore_ascii_case, str_to_ascii_lowercase}
use Rattle.ev_lex.specs.declared.keyword.Keyword.{Keyword}
use Rattle.ev_lex.specs.declared.keyword.Keyword.TheVariants as keyword

-- the keyword in small letters
abbrev pub keyword_text : Keyword → List ℕ
keyword_text keyword.Select = codes "select"
keyword_text keyword.With = codes "with"
keyword_text keyword.Filter = codes "filter"
keyword_text keyword.Order = codes "order"
keyword_text keyword.By = codes "by"
keyword_text keyword.Offset = codes "offset"
keyword_text keyword.Limit = codes "limit"
keyword_text keyword.For = codes "for"
keyword_text keyword.In = codes "in"
keyword_text keyword.Union = codes "union"
keyword_text keyword.If = codes "if"
keyword_text keyword.Else = codes "else"
keyword_text keyword.And = codes "and"
keyword_text keyword.Or = codes "or"
keyword_text keyword.Not = codes "not"
keyword_text keyword.Exists = codes "exists"
keyword_text keyword.Distinct = codes "distinct"
keyword_text keyword.Is = codes "is"
keyword_text keyword.Global = codes "global"
keyword_text keyword.Optional = codes "optional"
keyword_text keyword.Required = codes "required"
keyword_text keyword.Single = codes "single"
keyword_text keyword.Multi = codes "multi"
keyword_text keyword.True = codes "true"
keyword_text keyword.False = codes "false"
keyword_text keyword.Like = codes "like"
keyword_text keyword.Ilike = codes "ilike"
keyword_text keyword.Intersect = codes "intersect"
keyword_text keyword.Except = codes "except"
keyword_text keyword.Insert = codes "insert"
keyword_text keyword.Update = codes "update"
keyword_text keyword.Delete = codes "delete"
keyword_text keyword.Group = codes "group"
keyword_text keyword.Asc = codes "asc"
keyword_text keyword.Desc = codes "desc"
keyword_text keyword.Empty = codes "empty"
keyword_text keyword.First = codes "first"
keyword_text keyword.Last = codes "last"
keyword_text keyword.Then = codes "then"
keyword_text keyword.Module = codes "module"
keyword_text keyword.Abstract = codes "abstract"
keyword_text keyword.Type = codes "type"
keyword_text keyword.Extending = codes "extending"
keyword_text keyword.Property = codes "property"
keyword_text keyword.Link = codes "link"
keyword_text keyword.Index = codes "index"
keyword_text keyword.On = codes "on"
keyword_text keyword.Annotation = codes "annotation"
keyword_text keyword.Overloaded = codes "overloaded"
keyword_text keyword.Delegated = codes "delegated"
keyword_text keyword.Constraint = codes "constraint"
keyword_text keyword.Default = codes "default"
keyword_text keyword.Target = codes "target"
keyword_text keyword.Restrict = codes "restrict"
keyword_text keyword.Access = codes "access"
keyword_text keyword.Policy = codes "policy"
keyword_text keyword.Allow = codes "allow"
keyword_text keyword.Deny = codes "deny"
keyword_text keyword.All = codes "all"
keyword_text keyword.Using = codes "using"
keyword_text keyword.Read = codes "read"
keyword_text keyword.Write = codes "write"

-- The word is the keyword, without regard to case.
abbrev pub IsWordOf : Keyword → List ℕ → Type 0
IsWordOf k word = str_to_ascii_lowercase word ≡ keyword_text k

-- whether the keyword is reserved: never a name
abbrev pub is_reserved : Keyword → Bool
is_reserved keyword.Asc = false
is_reserved keyword.Desc = false
is_reserved keyword.Empty = false
is_reserved keyword.First = false
is_reserved keyword.Last = false
is_reserved keyword.Then = false
is_reserved keyword.Module = false
is_reserved keyword.Abstract = false
is_reserved keyword.Type = false
is_reserved keyword.Extending = false
is_reserved keyword.Property = false
is_reserved keyword.Link = false
is_reserved keyword.Index = false
is_reserved keyword.On = false
is_reserved keyword.Annotation = false
is_reserved keyword.Overloaded = false
is_reserved keyword.Delegated = false
is_reserved keyword.Constraint = false
is_reserved keyword.Default = false
is_reserved keyword.Target = false
is_reserved keyword.Restrict = false
is_reserved keyword.Access = false
is_reserved keyword.Policy = false
is_reserved keyword.Allow = false
is_reserved keyword.Deny = false
is_reserved keyword.All = false
is_reserved keyword.Using = false
is_reserved keyword.Read = false
is_reserved keyword.Write = false
is_reserved _ = true

-- all of them
abbrev pub keywords : List Keyword
keywords =
    keyword.Select ∷ keyword.With ∷ keyword.Filter ∷ keyword.Order ∷ keyword.By ∷ keyword.Offset ∷
    keyword.Limit ∷ keyword.For ∷ keyword.In ∷ keyword.Union ∷ keyword.If ∷ keyword.Else ∷ keyword.And ∷
    keyword.Or ∷ keyword.Not ∷ keyword.Exists ∷ keyword.Distinct ∷ keyword.Is ∷ keyword.Global ∷
    keyword.Optional ∷ keyword.Required ∷ keyword.Single ∷ keyword.Multi ∷ keyword.True ∷ keyword.False ∷
    keyword.Like ∷ keyword.Ilike ∷ keyword.Intersect ∷ keyword.Except ∷ keyword.Insert ∷ keyword.Update ∷
    keyword.Delete ∷ keyword.Group ∷ keyword.Asc ∷ keyword.Desc ∷ keyword.Empty ∷ keyword.First ∷
    keyword.Last ∷ keyword.Then ∷ keyword.Module ∷ keyword.Abstract ∷ keyword.Type ∷ keyword.Extending ∷
    keyword.Property ∷ keyword.Link ∷ keyword.Index ∷ keyword.On ∷ keyword.Annotation ∷ keyword.Overloaded ∷
    keyword.Delegated ∷ keyword.Constraint ∷ keyword.Default ∷ keyword.Target ∷ keyword.Restrict ∷
    keyword.Access ∷ keyword.Policy ∷ keyword.Allow ∷ keyword.Deny ∷ keyword.All ∷ keyword.Using ∷
    keyword.Read ∷ keyword.Write ∷ []

-- the first entry of a table of words that is the word, without regard to case
abbrev pub keyword_at : List (List ℕ × Keyword) → List ℕ → Option Keyword
keyword_at [] word = None
keyword_at (e ∷ more) word = if str_eq_ignore_ascii_case e.0 word then Some e.1 else keyword_at more word

-- the keyword that a word is, without regard to case
unfoldable pub keyword_of : List ℕ → Option Keyword
keyword_of word = keyword_at (map (λ k. (keyword_text k, k)) keywords) word
