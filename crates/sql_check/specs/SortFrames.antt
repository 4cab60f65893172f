-- The scope of columns that frames stand for.
use Rattle.std.specs.Prelude.{List, [], ◌∷◌}
use Rattle.sql_check.specs.declared.sort.Known.{Known}
use Rattle.sql_check.specs.declared.sort.SortFrames.{SortFrames, Top, Items'}
use Rattle.sql_check.specs.Types.{Sorts}

-- a scope with the entries of one core, of which each later one is newer
abbrev pub with_known : List Known → Sorts → Sorts
with_known [] d = d
with_known (k ∷ more) d = with_known more (k ∷ d)

-- the entries of each core inside those of the cores round it
unfoldable pub sorts : SortFrames → Sorts
sorts Top = []
sorts (Items' _ outer known) = with_known known.now (sorts outer)
