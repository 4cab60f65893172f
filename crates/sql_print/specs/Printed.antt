-- The tokens of a statement as it is printed: keywords, and one pair of parentheses round an expression where its level asks for it.
use Rattle.std.specs.Prelude.{[], ◌∷◌, ◌++◌}
use Rattle.ev_value.specs.JsonText.{id_text}
use Rattle.sql_lex.specs.declared.keyword.Keyword.TheVariants as keyword
use Rattle.sql_lex.specs.declared.token.Sign.TheVariants as sign
use Rattle.sql_lex.specs.declared.token.TokenKind.TheVariants.{Word, Name, Int, Str, Sign}
use Rattle.sql_ast.specs.declared.expression.SqlExpr as e
use Rattle.sql_ast.specs.declared.expression.SqlExpr.{SqlExpr, Row_of-SqlExpr, end_of-SqlExpr, more_of-SqlExpr, Row_of-Core, end_of-Core, more_of-Core}
use Rattle.sql_ast.specs.declared.select.Core as c
use Rattle.sql_ast.specs.declared.select.Core.{Core, Row_of-Column, end_of-Column, more_of-Column, Row_of-FromItem, end_of-FromItem, more_of-FromItem, Row_of-Key, end_of-Key, more_of-Key, Held-Body-condition, None', Some'}
use Rattle.sql_ast.specs.declared.select.FromItem as f
use Rattle.sql_ast.specs.declared.select.FromItem.{FromItem}
use Rattle.sql_ast.specs.declared.select.Key as k
use Rattle.sql_ast.specs.declared.select.Key.{Key}
use Rattle.sql_ast.specs.declared.ty.SqlTy as t
use Rattle.sql_ast.specs.declared.ty.SqlTy.{SqlTy, Row_of-SqlTy, end_of-SqlTy, more_of-SqlTy}
use Rattle.sql_print.specs.Marks.{Tokens, mark_of, left_level, right_level, operand_level, before, behind, is_loose, held, in_parens, name_of_function, name_of_scalar, truth, name_of_absent}

unfoldable mutual
  pub tokens_of_ty : SqlTy → Tokens
  tokens_of_ty (t.Scalar s) = Word (name_of_scalar s) ∷ []
  tokens_of_ty (t.Row' _ parts) = Word keyword.Row ∷ in_parens (tokens_of_types parts)
  tokens_of_ty (t.Array' _ (more_of-SqlTy element end_of-SqlTy)) = Word keyword.Array ∷ in_parens (tokens_of_ty element)

  -- with commas between them
  pub tokens_of_types : {m : _} → Row_of-SqlTy m → Tokens
  tokens_of_types end_of-SqlTy = []
  tokens_of_types (more_of-SqlTy first more) = tokens_of_ty first ++ further_types more

  -- with a comma before each
  pub further_types : {m : _} → Row_of-SqlTy m → Tokens
  further_types end_of-SqlTy = []
  further_types (more_of-SqlTy first more) = Sign sign.Comma ∷ (tokens_of_ty first ++ further_types more)

unfoldable mutual
  pub tokens_of_expr : SqlExpr → Tokens
  tokens_of_expr (e.Int z) = Int z ∷ []
  tokens_of_expr (e.Text s) = Str s ∷ []
  tokens_of_expr (e.Bool b) = Word (truth b) ∷ []
  tokens_of_expr (e.Uuid n) = Word keyword.Uuid ∷ Str (id_text n) ∷ []
  tokens_of_expr (e.Null ty) = Word keyword.Null ∷ Sign sign.Cast ∷ tokens_of_ty ty
  tokens_of_expr (e.Column alias name) = Name alias ∷ Sign sign.Dot ∷ Name name ∷ []
  tokens_of_expr (e.Arg name ty) = Word keyword.Arg ∷ in_parens (Str name ∷ Sign sign.Comma ∷ tokens_of_ty ty)
  tokens_of_expr (e.Global name) = Word keyword.Global ∷ in_parens (Str name ∷ [])
  tokens_of_expr (e.Array' _ cores) = Word keyword.Array ∷ in_parens (tokens_of_cores cores)
  tokens_of_expr (e.Row' _ parts) = Word keyword.Row ∷ in_parens (tokens_of_exprs parts)
  tokens_of_expr (e.Part' _ (more_of-SqlExpr row end_of-SqlExpr) number) = Word keyword.Part ∷ in_parens (tokens_of_expr row ++ Sign sign.Comma ∷ Int number ∷ [])
  tokens_of_expr (e.Case' _ (more_of-SqlExpr condition end_of-SqlExpr) _ (more_of-SqlExpr value end_of-SqlExpr) _ (more_of-SqlExpr other end_of-SqlExpr)) =
      Word keyword.Case ∷ Word keyword.When ∷ (tokens_of_expr condition ++ Word keyword.Then ∷ (tokens_of_expr value ++ Word keyword.Else ∷ (tokens_of_expr other ++ Word keyword.End ∷ [])))
  tokens_of_expr (e.Cast' _ (more_of-SqlExpr operand end_of-SqlExpr) ty) = Word keyword.Cast ∷ in_parens (tokens_of_expr operand ++ Word keyword.As ∷ tokens_of_ty ty)
  tokens_of_expr (e.Unary' operator _ (more_of-SqlExpr operand end_of-SqlExpr)) =
      before operator ++ (held (is_loose (operand_level operator) operand) (tokens_of_expr operand) ++ behind operator)
  tokens_of_expr (e.Binary' operator _ (more_of-SqlExpr left end_of-SqlExpr) _ (more_of-SqlExpr right end_of-SqlExpr)) =
      held (is_loose (left_level operator) left) (tokens_of_expr left) ++ mark_of operator ∷ held (is_loose (right_level operator) right) (tokens_of_expr right)
  tokens_of_expr (e.Call' called _ (more_of-SqlExpr operand end_of-SqlExpr)) = Word (name_of_function called) ∷ in_parens (tokens_of_expr operand)

  -- with commas between them
  pub tokens_of_exprs : {m : _} → Row_of-SqlExpr m → Tokens
  tokens_of_exprs end_of-SqlExpr = []
  tokens_of_exprs (more_of-SqlExpr first more) = tokens_of_expr first ++ further_exprs more

  -- with a comma before each
  pub further_exprs : {m : _} → Row_of-SqlExpr m → Tokens
  further_exprs end_of-SqlExpr = []
  further_exprs (more_of-SqlExpr first more) = Sign sign.Comma ∷ (tokens_of_expr first ++ further_exprs more)

  -- with UNION ALL between them
  pub tokens_of_cores : {m : _} → Row_of-Core m → Tokens
  tokens_of_cores end_of-Core = []
  tokens_of_cores (more_of-Core first more) = tokens_of_core first ++ further_cores more

  pub further_cores : {m : _} → Row_of-Core m → Tokens
  further_cores end_of-Core = []
  further_cores (more_of-Core first more) = Word keyword.Union ∷ Word keyword.All ∷ (tokens_of_core first ++ further_cores more)

  pub tokens_of_core : Core → Tokens
  tokens_of_core (c.All' _ columns _ items condition _ keys offset limit) =
      Word keyword.Select ∷ (tokens_of_columns columns ++ (tokens_of_from items ++ (tokens_of_condition condition ++ (tokens_of_keys keys ++ (tokens_of_offset offset ++ tokens_of_limit limit)))))
  tokens_of_core (c.Distinct' _ columns _ items condition _ keys offset limit) =
      Word keyword.Select ∷ Word keyword.Distinct ∷ (tokens_of_columns columns ++ (tokens_of_from items ++ (tokens_of_condition condition ++ (tokens_of_keys keys ++ (tokens_of_offset offset ++ tokens_of_limit limit)))))

  pub tokens_of_columns : {m : _} → Row_of-Column m → Tokens
  tokens_of_columns end_of-Column = []
  tokens_of_columns (more_of-Column value name more) = tokens_of_expr value ++ Word keyword.As ∷ Name name ∷ further_columns more

  pub further_columns : {m : _} → Row_of-Column m → Tokens
  further_columns end_of-Column = []
  further_columns (more_of-Column value name more) = Sign sign.Comma ∷ (tokens_of_expr value ++ Word keyword.As ∷ Name name ∷ further_columns more)

  pub tokens_of_from : {m : _} → Row_of-FromItem m → Tokens
  tokens_of_from end_of-FromItem = []
  tokens_of_from (more_of-FromItem first more) = Word keyword.From ∷ (tokens_of_item first ++ further_items more)

  pub tokens_of_item : FromItem → Tokens
  tokens_of_item (f.Table name alias) = Name name ∷ Word keyword.As ∷ Name alias ∷ []
  tokens_of_item (f.Lateral' _ cores alias) = Word keyword.Lateral ∷ (in_parens (tokens_of_cores cores) ++ Word keyword.As ∷ Name alias ∷ [])
  tokens_of_item (f.LeftLateral' _ cores alias) =
      Word keyword.Left ∷ Word keyword.Join ∷ Word keyword.Lateral ∷ (in_parens (tokens_of_cores cores) ++ Word keyword.As ∷ Name alias ∷ Word keyword.On ∷ Word keyword.True ∷ [])
  tokens_of_item (f.Unnest array alias) = Word keyword.Unnest ∷ (in_parens (tokens_of_expr array) ++ Word keyword.As ∷ Name alias ∷ [])

  -- an outer join stands without a comma
  pub further_items : {m : _} → Row_of-FromItem m → Tokens
  further_items end_of-FromItem = []
  further_items (more_of-FromItem first more) = comma_before first ++ (tokens_of_item first ++ further_items more)

  pub comma_before : FromItem → Tokens
  comma_before (f.Table _ _) = Sign sign.Comma ∷ []
  comma_before (f.Lateral' _ _ _) = Sign sign.Comma ∷ []
  comma_before (f.LeftLateral' _ _ _) = []
  comma_before (f.Unnest _ _) = Sign sign.Comma ∷ []

  pub tokens_of_condition : Held-Body-condition → Tokens
  tokens_of_condition None' = []
  tokens_of_condition (Some' _ (more_of-SqlExpr x end_of-SqlExpr)) = Word keyword.Where ∷ tokens_of_expr x

  pub tokens_of_keys : {m : _} → Row_of-Key m → Tokens
  tokens_of_keys end_of-Key = []
  tokens_of_keys (more_of-Key first more) = Word keyword.Order ∷ Word keyword.By ∷ (tokens_of_key first ++ further_keys more)

  pub further_keys : {m : _} → Row_of-Key m → Tokens
  further_keys end_of-Key = []
  further_keys (more_of-Key first more) = Sign sign.Comma ∷ (tokens_of_key first ++ further_keys more)

  pub tokens_of_key : Key → Tokens
  tokens_of_key (k.Ascending value nulls) = tokens_of_expr value ++ Word keyword.Asc ∷ Word keyword.Nulls ∷ Word (name_of_absent nulls) ∷ []
  tokens_of_key (k.Descending value nulls) = tokens_of_expr value ++ Word keyword.Desc ∷ Word keyword.Nulls ∷ Word (name_of_absent nulls) ∷ []

  pub tokens_of_offset : Held-Body-condition → Tokens
  tokens_of_offset None' = []
  tokens_of_offset (Some' _ (more_of-SqlExpr x end_of-SqlExpr)) = Word keyword.Offset ∷ tokens_of_expr x

  pub tokens_of_limit : Held-Body-condition → Tokens
  tokens_of_limit None' = []
  tokens_of_limit (Some' _ (more_of-SqlExpr x end_of-SqlExpr)) = Word keyword.Limit ∷ tokens_of_expr x
