-- What reading gives of a tree: its numbers are not negative, its names can stand between quotes, no list is empty that may not
-- be, and no FROM begins with an outer join. Of these a check of names and types says nothing.
use Rattle.std.specs.Prelude.{pos, ◌≤ℤ◌, ◌≤◌, List, [], ◌∷◌}
use Rattle.sql_ast.specs.declared.expression.SqlExpr as e
use Rattle.sql_ast.specs.declared.expression.SqlExpr.{SqlExpr, Row_of-SqlExpr, end_of-SqlExpr, more_of-SqlExpr, Row_of-Core, end_of-Core, more_of-Core}
use Rattle.sql_ast.specs.declared.select.Core as c
use Rattle.sql_ast.specs.declared.select.Core.{Core, Row_of-Column, end_of-Column, more_of-Column, Row_of-FromItem, end_of-FromItem, more_of-FromItem, Row_of-Key, end_of-Key, more_of-Key, Held-Body-condition, None', Some'}
use Rattle.sql_ast.specs.declared.select.FromItem as f
use Rattle.sql_ast.specs.declared.select.FromItem.{FromItem}
use Rattle.sql_ast.specs.declared.select.Key as k
use Rattle.sql_ast.specs.declared.select.Key.{Key}
use Rattle.sql_ast.specs.declared.select.Stmt.{Stmt}
use Rattle.sql_ast.specs.declared.select.TheConstants.{MAX_NESTING}
use Rattle.sql_ast.specs.Nesting.{nesting}
use Rattle.sql_ast.specs.WellFormed.{IsName, alias_of}

-- it may stand first in a FROM
abbrev pub MayBegin : FromItem → Type 0
MayBegin (f.Table _ _) = Unit {0}
MayBegin (f.Lateral' _ _ _) = Unit {0}
MayBegin (f.LeftLateral' _ _ _) = ⊥
MayBegin (f.Unnest _ _) = Unit {0}

unfoldable mutual
  -- a number is not negative, a reference has names, and the parts are as reading gives them
  pub IsSpelled : SqlExpr → Type 0
  IsSpelled (e.Int z) = pos 0 ≤ℤ z
  IsSpelled (e.Text _) = Unit {0}
  IsSpelled (e.Bool _) = Unit {0}
  IsSpelled (e.Uuid _) = Unit {0}
  IsSpelled (e.Null _) = Unit {0}
  IsSpelled (e.Column alias name) = IsName alias × IsName name
  IsSpelled (e.Arg _ _) = Unit {0}
  IsSpelled (e.Global _) = Unit {0}
  IsSpelled (e.Array' _ cores) = CoresAreSpelled cores
  IsSpelled (e.Row' _ parts) = AreSpelled parts
  IsSpelled (e.Part' _ (more_of-SqlExpr row end_of-SqlExpr) _) = IsSpelled row
  IsSpelled (e.Case' _ (more_of-SqlExpr condition end_of-SqlExpr) _ (more_of-SqlExpr value end_of-SqlExpr) _ (more_of-SqlExpr other end_of-SqlExpr)) = IsSpelled condition × IsSpelled value × IsSpelled other
  IsSpelled (e.Cast' _ (more_of-SqlExpr operand end_of-SqlExpr) _) = IsSpelled operand
  IsSpelled (e.Unary' _ _ (more_of-SqlExpr operand end_of-SqlExpr)) = IsSpelled operand
  IsSpelled (e.Binary' _ _ (more_of-SqlExpr left end_of-SqlExpr) _ (more_of-SqlExpr right end_of-SqlExpr)) = IsSpelled left × IsSpelled right
  IsSpelled (e.Call' _ _ (more_of-SqlExpr operand end_of-SqlExpr)) = IsSpelled operand

  -- each of the expressions is
  pub AreSpelled : {m : _} → Row_of-SqlExpr m → Type 0
  AreSpelled end_of-SqlExpr = Unit {0}
  AreSpelled (more_of-SqlExpr first more) = IsSpelled first × AreSpelled more

  -- a select has a core
  pub CoresAreSpelled : {m : _} → Row_of-Core m → Type 0
  CoresAreSpelled end_of-Core = ⊥
  CoresAreSpelled (more_of-Core first more) = CoreIsSpelled first × FurtherAreSpelled more

  -- the cores behind the first, of which there may be none
  pub FurtherAreSpelled : {m : _} → Row_of-Core m → Type 0
  FurtherAreSpelled end_of-Core = Unit {0}
  FurtherAreSpelled (more_of-Core first more) = CoreIsSpelled first × FurtherAreSpelled more

  -- a core, by its columns, its items and its clauses
  pub CoreIsSpelled : Core → Type 0
  CoreIsSpelled (c.All' _ columns _ items condition _ keys offset limit) = ColumnsAreSpelled columns × FromIsSpelled items × HeldIsSpelled condition × KeysAreSpelled keys × HeldIsSpelled offset × HeldIsSpelled limit
  CoreIsSpelled (c.Distinct' _ columns _ items condition _ keys offset limit) = ColumnsAreSpelled columns × FromIsSpelled items × HeldIsSpelled condition × KeysAreSpelled keys × HeldIsSpelled offset × HeldIsSpelled limit

  -- a core has a column
  pub ColumnsAreSpelled : {m : _} → Row_of-Column m → Type 0
  ColumnsAreSpelled end_of-Column = ⊥
  ColumnsAreSpelled (more_of-Column value name more) = IsSpelled value × IsName name × FurtherColumnsAreSpelled more

  -- the columns behind the first, each with a name
  pub FurtherColumnsAreSpelled : {m : _} → Row_of-Column m → Type 0
  FurtherColumnsAreSpelled end_of-Column = Unit {0}
  FurtherColumnsAreSpelled (more_of-Column value name more) = IsSpelled value × IsName name × FurtherColumnsAreSpelled more

  -- an outer join does not stand first
  pub FromIsSpelled : {m : _} → Row_of-FromItem m → Type 0
  FromIsSpelled end_of-FromItem = Unit {0}
  FromIsSpelled (more_of-FromItem first more) = MayBegin first × ItemIsSpelled first × IsName (alias_of first) × ItemsAreSpelled more

  -- items, each under a name
  pub ItemsAreSpelled : {m : _} → Row_of-FromItem m → Type 0
  ItemsAreSpelled end_of-FromItem = Unit {0}
  ItemsAreSpelled (more_of-FromItem first more) = ItemIsSpelled first × IsName (alias_of first) × ItemsAreSpelled more

  -- a table has a name, and a select or an array is as reading gives it
  pub ItemIsSpelled : FromItem → Type 0
  ItemIsSpelled (f.Table name _) = IsName name
  ItemIsSpelled (f.Lateral' _ cores _) = CoresAreSpelled cores
  ItemIsSpelled (f.LeftLateral' _ cores _) = CoresAreSpelled cores
  ItemIsSpelled (f.Unnest array _) = IsSpelled array

  -- each of the keys is
  pub KeysAreSpelled : {m : _} → Row_of-Key m → Type 0
  KeysAreSpelled end_of-Key = Unit {0}
  KeysAreSpelled (more_of-Key first more) = KeyIsSpelled first × KeysAreSpelled more

  -- a key, by its expression
  pub KeyIsSpelled : Key → Type 0
  KeyIsSpelled (k.Ascending value _) = IsSpelled value
  KeyIsSpelled (k.Descending value _) = IsSpelled value

  -- an expression that need not be there
  pub HeldIsSpelled : Held-Body-condition → Type 0
  HeldIsSpelled None' = Unit {0}
  HeldIsSpelled (Some' _ (more_of-SqlExpr x end_of-SqlExpr)) = IsSpelled x

-- the same of the cores of a statement behind the first
abbrev pub FurtherCoresAreSpelled : List Core → Type 0
FurtherCoresAreSpelled [] = Unit {0}
FurtherCoresAreSpelled (core ∷ more) = CoreIsSpelled core × FurtherCoresAreSpelled more

-- a statement has a core
abbrev pub SelectIsSpelled : List Core → Type 0
SelectIsSpelled [] = ⊥
SelectIsSpelled (core ∷ more) = CoreIsSpelled core × FurtherCoresAreSpelled more

-- Such a statement is nested at most as deep as the limit says.
pub record StatementIsSpelled (s : Stmt) : Type 0 where
  pub spelled : SelectIsSpelled s.select.cores
  pub low : nesting s ≤ MAX_NESTING
