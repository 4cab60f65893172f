-- When the tree of a statement has a form of the grammar: no list that the grammar wants is empty, and no FROM begins with an
-- outer join. Its uuids are numbers of 128 bits.
use Rattle.std.specs.Prelude.{◌<◌, ◌^◌, List, [], ◌∷◌}
use Rattle.sql_ast.specs.declared.expression.SqlExpr as e
use Rattle.sql_ast.specs.declared.expression.SqlExpr.{SqlExpr, Row_of-SqlExpr, end_of-SqlExpr, more_of-SqlExpr, Row_of-Core, end_of-Core, more_of-Core}
use Rattle.sql_ast.specs.declared.select.Core as c
use Rattle.sql_ast.specs.declared.select.Core.{Core, Row_of-Column, end_of-Column, more_of-Column, Row_of-FromItem, end_of-FromItem, more_of-FromItem, Row_of-Key, end_of-Key, more_of-Key, Held-Body-condition, None', Some'}
use Rattle.sql_ast.specs.declared.select.FromItem as f
use Rattle.sql_ast.specs.declared.select.FromItem.{FromItem}
use Rattle.sql_ast.specs.declared.select.Key as k
use Rattle.sql_ast.specs.declared.select.Key.{Key}
use Rattle.sql_ast.specs.declared.select.Stmt.{Stmt}

-- it may stand first in a FROM
abbrev pub BeginsFrom : FromItem → Type 0
BeginsFrom (f.Table _ _) = Unit {0}
BeginsFrom (f.Lateral' _ _ _) = Unit {0}
BeginsFrom (f.LeftLateral' _ _ _) = ⊥
BeginsFrom (f.Unnest _ _) = Unit {0}

unfoldable mutual
  pub HasForm : SqlExpr → Type 0
  HasForm (e.Int _) = Unit {0}
  HasForm (e.Text _) = Unit {0}
  HasForm (e.Bool _) = Unit {0}
  HasForm (e.Uuid n) = n < 2 ^ 128
  HasForm (e.Null _) = Unit {0}
  HasForm (e.Column _ _) = Unit {0}
  HasForm (e.Arg _ _) = Unit {0}
  HasForm (e.Global _) = Unit {0}
  HasForm (e.Array' _ cores) = CoresHaveForm cores
  HasForm (e.Row' _ parts) = HaveForm parts
  HasForm (e.Part' _ (more_of-SqlExpr row end_of-SqlExpr) _) = HasForm row
  HasForm (e.Case' _ (more_of-SqlExpr condition end_of-SqlExpr) _ (more_of-SqlExpr value end_of-SqlExpr) _ (more_of-SqlExpr other end_of-SqlExpr)) = HasForm condition × HasForm value × HasForm other
  HasForm (e.Cast' _ (more_of-SqlExpr operand end_of-SqlExpr) _) = HasForm operand
  HasForm (e.Unary' _ _ (more_of-SqlExpr operand end_of-SqlExpr)) = HasForm operand
  HasForm (e.Binary' _ _ (more_of-SqlExpr left end_of-SqlExpr) _ (more_of-SqlExpr right end_of-SqlExpr)) = HasForm left × HasForm right
  HasForm (e.Call' _ _ (more_of-SqlExpr operand end_of-SqlExpr)) = HasForm operand

  pub HaveForm : {m : _} → Row_of-SqlExpr m → Type 0
  HaveForm end_of-SqlExpr = Unit {0}
  HaveForm (more_of-SqlExpr first more) = HasForm first × HaveForm more

  -- a select has a core
  pub CoresHaveForm : {m : _} → Row_of-Core m → Type 0
  CoresHaveForm end_of-Core = ⊥
  CoresHaveForm (more_of-Core first more) = CoreHasForm first × FurtherHaveForm more

  pub FurtherHaveForm : {m : _} → Row_of-Core m → Type 0
  FurtherHaveForm end_of-Core = Unit {0}
  FurtherHaveForm (more_of-Core first more) = CoreHasForm first × FurtherHaveForm more

  pub CoreHasForm : Core → Type 0
  CoreHasForm (c.All' _ columns _ items condition _ keys offset limit) = ColumnsHaveForm columns × FromHasForm items × HeldHasForm condition × KeysHaveForm keys × HeldHasForm offset × HeldHasForm limit
  CoreHasForm (c.Distinct' _ columns _ items condition _ keys offset limit) = ColumnsHaveForm columns × FromHasForm items × HeldHasForm condition × KeysHaveForm keys × HeldHasForm offset × HeldHasForm limit

  -- a core has a column
  pub ColumnsHaveForm : {m : _} → Row_of-Column m → Type 0
  ColumnsHaveForm end_of-Column = ⊥
  ColumnsHaveForm (more_of-Column value _ more) = HasForm value × FurtherColumnsHaveForm more

  pub FurtherColumnsHaveForm : {m : _} → Row_of-Column m → Type 0
  FurtherColumnsHaveForm end_of-Column = Unit {0}
  FurtherColumnsHaveForm (more_of-Column value _ more) = HasForm value × FurtherColumnsHaveForm more

  -- an outer join does not stand first
  pub FromHasForm : {m : _} → Row_of-FromItem m → Type 0
  FromHasForm end_of-FromItem = Unit {0}
  FromHasForm (more_of-FromItem first more) = BeginsFrom first × ItemHasForm first × ItemsHaveForm more

  pub ItemsHaveForm : {m : _} → Row_of-FromItem m → Type 0
  ItemsHaveForm end_of-FromItem = Unit {0}
  ItemsHaveForm (more_of-FromItem first more) = ItemHasForm first × ItemsHaveForm more

  pub ItemHasForm : FromItem → Type 0
  ItemHasForm (f.Table _ _) = Unit {0}
  ItemHasForm (f.Lateral' _ cores _) = CoresHaveForm cores
  ItemHasForm (f.LeftLateral' _ cores _) = CoresHaveForm cores
  ItemHasForm (f.Unnest array _) = HasForm array

  pub KeysHaveForm : {m : _} → Row_of-Key m → Type 0
  KeysHaveForm end_of-Key = Unit {0}
  KeysHaveForm (more_of-Key first more) = KeyHasForm first × KeysHaveForm more

  pub KeyHasForm : Key → Type 0
  KeyHasForm (k.Ascending value _) = HasForm value
  KeyHasForm (k.Descending value _) = HasForm value

  pub HeldHasForm : Held-Body-condition → Type 0
  HeldHasForm None' = Unit {0}
  HeldHasForm (Some' _ (more_of-SqlExpr x end_of-SqlExpr)) = HasForm x

-- the same of cores behind the first, and of a statement
abbrev pub AllHaveForm : List Core → Type 0
AllHaveForm [] = Unit {0}
AllHaveForm (core ∷ more) = CoreHasForm core × AllHaveForm more

abbrev pub IsFormed : List Core → Type 0
IsFormed [] = ⊥
IsFormed (core ∷ more) = CoreHasForm core × AllHaveForm more

abbrev pub StatementHasForm : Stmt → Type 0
StatementHasForm s = IsFormed s.select.cores
