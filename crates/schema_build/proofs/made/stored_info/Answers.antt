use Rattle.std.proofs.Common.{subst, sym}
use Rattle.schema_build.specs.Lineage.{IsSmall}
use Rattle.schema_build.proofs.BaseLaws.{meaning_small}
use Rattle.schema_build.proofs.made.stored_info.Goals as goal

pub type_of-requires : goal.type_of-requires
type_of-requires c = subst IsSmall (sym c.meaning_of.ensures) (meaning_small c.args.types.now c.args.ty.now c.requires)
