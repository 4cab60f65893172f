-- The tokens of lists of forms, and of optional ones.
use Rattle.std.specs.Prelude.{Bool, true, false, if◌then◌else◌, List, [], ◌∷◌, ◌++◌, Option, Some, None}
use Rattle.sql_lex.specs.declared.keyword.Keyword.{Keyword}
use Rattle.sql_lex.specs.declared.keyword.Keyword.TheVariants as keyword
use Rattle.sql_lex.specs.declared.token.Sign.TheVariants as sign
use Rattle.sql_lex.specs.declared.token.TokenKind.TheVariants.{Word, Name, Sign}
use Rattle.sql_ast.specs.declared.expression.SqlExpr.{SqlExpr}
use Rattle.sql_ast.specs.declared.select.Body.{Body}
use Rattle.sql_ast.specs.declared.select.Column.{Column}
use Rattle.sql_ast.specs.declared.select.Core.{Core}
use Rattle.sql_ast.specs.declared.select.FromItem.{FromItem}
use Rattle.sql_ast.specs.declared.select.Key.{Key}
use Rattle.sql_ast.specs.declared.select.Stmt.{Stmt}
use Rattle.sql_print.specs.Marks.{Tokens}
use Rattle.sql_print.specs.Printed.{tokens_of_expr, tokens_of_core, tokens_of_item, tokens_of_key, comma_before}

-- a comma, but before the first
abbrev pub separator : Bool → Tokens
separator first = if first then [] else Sign sign.Comma ∷ []

-- with commas between them, and one before the first too where it is not the first of all
abbrev pub listed : {A : Type 0} → (A → Tokens) → Bool → List A → Tokens
listed f first [] = []
listed f first (x ∷ more) = separator first ++ (f x ++ listed f false more)

abbrev pub tokens_of_column : Column → Tokens
tokens_of_column x = tokens_of_expr x.value ++ Word keyword.As ∷ Name x.name ∷ []

-- UNION ALL, but before the first
abbrev pub union : Bool → Tokens
union first = if first then [] else Word keyword.Union ∷ Word keyword.All ∷ []

abbrev pub listed_cores : Bool → List Core → Tokens
listed_cores first [] = []
listed_cores first (x ∷ more) = union first ++ (tokens_of_core x ++ listed_cores false more)

-- a comma, but before the first and before an outer join
abbrev pub item_separator : Bool → FromItem → Tokens
item_separator first x = if first then [] else comma_before x

abbrev pub listed_items : Bool → List FromItem → Tokens
listed_items first [] = []
listed_items first (x ∷ more) = item_separator first x ++ (tokens_of_item x ++ listed_items false more)

-- these tokens, if the list has something
abbrev pub heading : {A : Type 0} → Tokens → List A → Tokens
heading ts [] = []
heading ts (x ∷ more) = ts

abbrev pub from_tokens : List FromItem → Tokens
from_tokens items = heading (Word keyword.From ∷ []) items ++ listed_items true items

abbrev pub keys_tokens : List Key → Tokens
keys_tokens keys = heading (Word keyword.Order ∷ Word keyword.By ∷ []) keys ++ listed tokens_of_key true keys

-- a word and an expression, if there is one
abbrev pub clause_tokens : Keyword → Option SqlExpr → Tokens
clause_tokens word None = []
clause_tokens word (Some x) = Word word ∷ tokens_of_expr x

-- what stands behind the columns
abbrev pub body_tokens : Body → Tokens
body_tokens body = from_tokens body.from ++ (clause_tokens keyword.Where body.condition ++ (keys_tokens body.keys ++ (clause_tokens keyword.Offset body.offset ++ clause_tokens keyword.Limit body.limit)))

-- the tokens of a statement
abbrev pub tokens_of : Stmt → Tokens
tokens_of s = listed_cores true s.select.cores
