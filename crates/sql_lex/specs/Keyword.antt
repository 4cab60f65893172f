-- Keywords: the words of the grammar.
use Rattle.std.specs.Prelude.{◌≡◌, ℕ, List, [], ◌∷◌, map, Option, Some, None, if◌then◌else◌, codes}
use Rattle.std.specs.Str.{str_eq_ignore_ascii_case, str_to_ascii_lowercase}
use Rattle.sql_lex.specs.declared.keyword.Keyword.{Keyword}
use Rattle.sql_lex.specs.declared.keyword.Keyword.TheVariants as keyword

-- the keyword in capitals
abbrev pub keyword_text : Keyword → List ℕ
keyword_text keyword.Select = codes "SELECT"
keyword_text keyword.Distinct = codes "DISTINCT"
keyword_text keyword.As = codes "AS"
keyword_text keyword.From = codes "FROM"
keyword_text keyword.Left = codes "LEFT"
keyword_text keyword.Join = codes "JOIN"
keyword_text keyword.Lateral = codes "LATERAL"
keyword_text keyword.On = codes "ON"
keyword_text keyword.True = codes "TRUE"
keyword_text keyword.False = codes "FALSE"
keyword_text keyword.Where = codes "WHERE"
keyword_text keyword.Order = codes "ORDER"
keyword_text keyword.By = codes "BY"
keyword_text keyword.Offset = codes "OFFSET"
keyword_text keyword.Limit = codes "LIMIT"
keyword_text keyword.Union = codes "UNION"
keyword_text keyword.All = codes "ALL"
keyword_text keyword.Unnest = codes "UNNEST"
keyword_text keyword.Asc = codes "ASC"
keyword_text keyword.Desc = codes "DESC"
keyword_text keyword.Nulls = codes "NULLS"
keyword_text keyword.First = codes "FIRST"
keyword_text keyword.Last = codes "LAST"
keyword_text keyword.Uuid = codes "UUID"
keyword_text keyword.Null = codes "NULL"
keyword_text keyword.Arg = codes "ARG"
keyword_text keyword.Global = codes "GLOBAL"
keyword_text keyword.Array = codes "ARRAY"
keyword_text keyword.Row = codes "ROW"
keyword_text keyword.Part = codes "PART"
keyword_text keyword.Case = codes "CASE"
keyword_text keyword.When = codes "WHEN"
keyword_text keyword.Then = codes "THEN"
keyword_text keyword.Else = codes "ELSE"
keyword_text keyword.End = codes "END"
keyword_text keyword.Cast = codes "CAST"
keyword_text keyword.Len = codes "LEN"
keyword_text keyword.CountOf = codes "COUNT_OF"
keyword_text keyword.SumOf = codes "SUM_OF"
keyword_text keyword.MinOf = codes "MIN_OF"
keyword_text keyword.MaxOf = codes "MAX_OF"
keyword_text keyword.AnyOf = codes "ANY_OF"
keyword_text keyword.AllOf = codes "ALL_OF"
keyword_text keyword.AssertSingle = codes "ASSERT_SINGLE"
keyword_text keyword.AssertExists = codes "ASSERT_EXISTS"
keyword_text keyword.AssertDistinct = codes "ASSERT_DISTINCT"
keyword_text keyword.Int = codes "INT"
keyword_text keyword.Text = codes "TEXT"
keyword_text keyword.Bool = codes "BOOL"
keyword_text keyword.Or = codes "OR"
keyword_text keyword.And = codes "AND"
keyword_text keyword.Not = codes "NOT"
keyword_text keyword.Is = codes "IS"

-- The word is the keyword, without regard to case.
abbrev pub IsWordOf : Keyword → List ℕ → Type 0
IsWordOf k word = str_to_ascii_lowercase word ≡ str_to_ascii_lowercase (keyword_text k)

-- all of them
abbrev pub keywords : List Keyword
keywords =
    keyword.Select ∷ keyword.Distinct ∷ keyword.As ∷ keyword.From ∷ keyword.Left ∷ keyword.Join ∷ keyword.Lateral ∷ keyword.On ∷
    keyword.True ∷ keyword.False ∷ keyword.Where ∷ keyword.Order ∷ keyword.By ∷ keyword.Offset ∷ keyword.Limit ∷ keyword.Union ∷
    keyword.All ∷ keyword.Unnest ∷ keyword.Asc ∷ keyword.Desc ∷ keyword.Nulls ∷ keyword.First ∷ keyword.Last ∷ keyword.Uuid ∷
    keyword.Null ∷ keyword.Arg ∷ keyword.Global ∷ keyword.Array ∷ keyword.Row ∷ keyword.Part ∷ keyword.Case ∷ keyword.When ∷
    keyword.Then ∷ keyword.Else ∷ keyword.End ∷ keyword.Cast ∷ keyword.Len ∷ keyword.CountOf ∷ keyword.SumOf ∷ keyword.MinOf ∷
    keyword.MaxOf ∷ keyword.AnyOf ∷ keyword.AllOf ∷ keyword.AssertSingle ∷ keyword.AssertExists ∷ keyword.AssertDistinct ∷ keyword.Int ∷ keyword.Text ∷
    keyword.Bool ∷ keyword.Or ∷ keyword.And ∷ keyword.Not ∷ keyword.Is ∷ []

-- the first entry of a table of words that is the word, without regard to case
abbrev pub keyword_at : List (List ℕ × Keyword) → List ℕ → Option Keyword
keyword_at [] word = None
keyword_at (e ∷ more) word = if str_eq_ignore_ascii_case e.0 word then Some e.1 else keyword_at more word

-- the keyword that a word is, without regard to case
unfoldable pub keyword_of : List ℕ → Option Keyword
keyword_of word = keyword_at (map (λ k. (keyword_text k, k)) keywords) word
