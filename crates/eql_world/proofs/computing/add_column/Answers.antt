use Rattle.std.proofs.Common.{◌∙◌, ap, List}
use Rattle.eql_world.specs.declared.column.Column.{Column}
use Rattle.eql_world.specs.StoreWorld.{by_columns, world_where}
use Rattle.eql_world.specs.Worked.{lists_for}
use Rattle.eql_world.proofs.ColumnLaws.{column_worked}
use Rattle.eql_world.proofs.computing.add_column.Goals as goal

pub returns : goal.returns
returns c =
    ap (by_columns c.args.objects.now) c.in_ok-push.ensures.ok
    ∙ column_worked c.args.schema.now c.args.objects.now c.args.args.now c.args.columns.now c.args.computed.now c.in_ok-lists.lists
    (c.in_ok-lists.ensures ∙ ap (λ (cs : List Column). lists_for (world_where c.args.schema.now c.args.objects.now c.args.args.now (by_columns c.args.objects.now cs)) c.args.computed.now.expr c.args.objects.now) c.as_slice.ensures)
