-- The scope that frames stand for.
use Rattle.std.specs.Prelude.{[]}
use Rattle.sql_check.specs.declared.scope.Frames.{Frames, Top, Items'}
use Rattle.sql_check.specs.Names.{Scope, with_items}

-- the items of each core inside those of the cores round it
unfoldable pub entries : Frames → Scope
entries Top = []
entries (Items' _ outer items) = with_items items.now (entries outer)
