-- The law of the check: a statement that was read is well formed over a catalog exactly where no name and no type of it fails.
use Rattle.std.specs.Prelude.{◌≡◌, []}
use Rattle.sql_ast.specs.declared.catalog.Catalog.{Catalog}
use Rattle.sql_ast.specs.declared.select.Stmt.{Stmt}
use Rattle.sql_ast.specs.WellFormed.{IsWellFormed}
use Rattle.sql_grammar.specs.declared.grown.Places.{Places}
use Rattle.sql_check.specs.Names.{name_faults}
use Rattle.sql_check.specs.Spelled.{StatementIsSpelled}
use Rattle.sql_check.specs.Types.{type_faults}

-- No name is unknown or stands twice where it may not, and no expression fails by its types, wherever the parts stand.
pub record HasNoFault (catalog : Catalog) (s : Stmt) (place : Places) : Type 0 where
  pub names : name_faults catalog s place ≡ []
  pub types : type_faults catalog s place ≡ []

-- The checks of names and types decide whether a statement is well formed, if it is one as reading gives it; and each
-- well-formed statement is one.
pub record ChecksDecide : Type 0 where
  -- where nothing fails the statement is well formed
  pub sound : (catalog : Catalog) (s : Stmt) (place : Places) → StatementIsSpelled s → HasNoFault catalog s place → IsWellFormed catalog s
  -- of a well-formed statement nothing fails
  pub complete : (catalog : Catalog) (s : Stmt) (place : Places) → IsWellFormed catalog s → HasNoFault catalog s place
  -- and it is one as reading gives it
  pub spelled : (catalog : Catalog) (s : Stmt) → IsWellFormed catalog s → StatementIsSpelled s
