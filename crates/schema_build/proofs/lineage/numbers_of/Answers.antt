use Rattle.std.proofs.Common.{subst, sym}
use Rattle.schema_build.specs.Lineage.{IsSmall}
use Rattle.schema_build.proofs.BaseLaws.{meaning_small}
use Rattle.schema_build.proofs.lineage.numbers_of.Goals as goal

pub add_object-requires : goal.add_object-requires
add_object-requires c = subst IsSmall (sym c.meaning_of.ensures) (meaning_small c.args.types.now c.base-item.result c.requires)
