use Rattle.std.proofs.Common.{subst, sym}
use Rattle.eql_world.specs.Worked.{IsWhole}
use Rattle.eql_world.proofs.answers.answer_over.Goals as goal

pub answer_in-requires : goal.answer_in-requires
answer_in-requires c = subst (IsWhole c.args.schema.now c.args.objects.now c.args.args.now) (sym c.as_slice.ensures) c.in_ok-columns.ensures
