-- What the machine's types hold of a statement: its numbers are of 64 bits, its uuids of 128, and its names and texts are in UTF-8.
use Rattle.std.specs.Prelude.{◌≡◌, ℕ, ℤ, pos, ◌<◌, ◌≤◌, ◌^◌, List, [], ◌∷◌}
use Rattle.std.specs.Str.{IsUtf8}
use Rattle.sql_ast.specs.declared.expression.SqlExpr as e
use Rattle.sql_ast.specs.declared.expression.SqlExpr.{SqlExpr, Row_of-SqlExpr, end_of-SqlExpr, more_of-SqlExpr, Row_of-Core, end_of-Core, more_of-Core}
use Rattle.sql_ast.specs.declared.select.Core as c
use Rattle.sql_ast.specs.declared.select.Core.{Core, Row_of-Column, end_of-Column, more_of-Column, Row_of-FromItem, end_of-FromItem, more_of-FromItem, Row_of-Key, end_of-Key, more_of-Key, Held-Body-condition, None', Some'}
use Rattle.sql_ast.specs.declared.select.FromItem as f
use Rattle.sql_ast.specs.declared.select.FromItem.{FromItem}
use Rattle.sql_ast.specs.declared.select.Key as k
use Rattle.sql_ast.specs.declared.select.Key.{Key}
use Rattle.sql_ast.specs.declared.select.Stmt.{Stmt}

-- a number of 64 bits that is not negative is at most this
abbrev pub FitsInt : ℤ → Type 0
FitsInt z = (n : ℕ) → z ≡ pos n → n ≤ 9223372036854775807

unfoldable mutual
  pub Fits : SqlExpr → Type 0
  Fits (e.Int z) = FitsInt z
  Fits (e.Text text) = IsUtf8 text
  Fits (e.Bool _) = Unit {0}
  Fits (e.Uuid n) = n < 2 ^ 128
  Fits (e.Null _) = Unit {0}
  Fits (e.Column alias name) = IsUtf8 alias × IsUtf8 name
  Fits (e.Arg name _) = IsUtf8 name
  Fits (e.Global name) = IsUtf8 name
  Fits (e.Array' _ cores) = CoresFit cores
  Fits (e.Row' _ parts) = ExprsFit parts
  Fits (e.Part' _ (more_of-SqlExpr row end_of-SqlExpr) z) = Fits row × FitsInt z
  Fits (e.Case' _ (more_of-SqlExpr condition end_of-SqlExpr) _ (more_of-SqlExpr value end_of-SqlExpr) _ (more_of-SqlExpr other end_of-SqlExpr)) = Fits condition × Fits value × Fits other
  Fits (e.Cast' _ (more_of-SqlExpr operand end_of-SqlExpr) _) = Fits operand
  Fits (e.Unary' _ _ (more_of-SqlExpr operand end_of-SqlExpr)) = Fits operand
  Fits (e.Binary' _ _ (more_of-SqlExpr left end_of-SqlExpr) _ (more_of-SqlExpr right end_of-SqlExpr)) = Fits left × Fits right
  Fits (e.Call' _ _ (more_of-SqlExpr operand end_of-SqlExpr)) = Fits operand

  pub ExprsFit : {m : _} → Row_of-SqlExpr m → Type 0
  ExprsFit end_of-SqlExpr = Unit {0}
  ExprsFit (more_of-SqlExpr first more) = Fits first × ExprsFit more

  pub CoresFit : {m : _} → Row_of-Core m → Type 0
  CoresFit end_of-Core = Unit {0}
  CoresFit (more_of-Core first more) = CoreFits first × CoresFit more

  pub CoreFits : Core → Type 0
  CoreFits (c.All' _ columns _ items condition _ keys offset limit) = ColumnsFit columns × ItemsFit items × HeldFits condition × KeysFit keys × HeldFits offset × HeldFits limit
  CoreFits (c.Distinct' _ columns _ items condition _ keys offset limit) = ColumnsFit columns × ItemsFit items × HeldFits condition × KeysFit keys × HeldFits offset × HeldFits limit

  pub ColumnsFit : {m : _} → Row_of-Column m → Type 0
  ColumnsFit end_of-Column = Unit {0}
  ColumnsFit (more_of-Column value name more) = Fits value × IsUtf8 name × ColumnsFit more

  pub ItemsFit : {m : _} → Row_of-FromItem m → Type 0
  ItemsFit end_of-FromItem = Unit {0}
  ItemsFit (more_of-FromItem first more) = ItemFits first × ItemsFit more

  pub ItemFits : FromItem → Type 0
  ItemFits (f.Table name alias) = IsUtf8 name × IsUtf8 alias
  ItemFits (f.Lateral' _ cores alias) = CoresFit cores × IsUtf8 alias
  ItemFits (f.LeftLateral' _ cores alias) = CoresFit cores × IsUtf8 alias
  ItemFits (f.Unnest array alias) = Fits array × IsUtf8 alias

  pub KeysFit : {m : _} → Row_of-Key m → Type 0
  KeysFit end_of-Key = Unit {0}
  KeysFit (more_of-Key first more) = KeyFits first × KeysFit more

  pub KeyFits : Key → Type 0
  KeyFits (k.Ascending value _) = Fits value
  KeyFits (k.Descending value _) = Fits value

  pub HeldFits : Held-Body-condition → Type 0
  HeldFits None' = Unit {0}
  HeldFits (Some' _ (more_of-SqlExpr x end_of-SqlExpr)) = Fits x

abbrev pub AllFit : List Core → Type 0
AllFit [] = Unit {0}
AllFit (core ∷ more) = CoreFits core × AllFit more

abbrev pub StatementFits : Stmt → Type 0
StatementFits s = AllFit s.select.cores
