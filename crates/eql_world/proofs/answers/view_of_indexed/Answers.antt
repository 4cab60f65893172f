use Rattle.std.proofs.Common.{subst, sym}
use Rattle.eql_world.specs.Worked.{IsWhole}
use Rattle.eql_world.proofs.answers.view_of_indexed.Goals as goal

pub view_in-requires : goal.view_in-requires
view_in-requires c = subst (IsWhole c.args.schema.now c.args.objects.now c.args.args.now) (sym c.as_slice.ensures) c.in_ok-columns.ensures
