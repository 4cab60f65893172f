use Rattle.std.proofs.Common.{◌++◌, sym, ap, ◌∙◌}
use Rattle.sql_ast.specs.Params.{args_of_core, args_of_expr, args_of_item}
use Rattle.sql_ast.specs.ParamLists.{args_in_body, args_in_columns}
use Rattle.sql_ast.proofs.ArgForms.{no_args, core_args, of_int, of_text, of_bool, of_uuid, of_null, of_column, of_global, of_table, of_all, of_distinct}
use Rattle.sql_ast.proofs.args.+args.Goals as goal

pub add_expr-returns-in-Int : goal.add_expr-returns-in-Int
add_expr-returns-in-Int t c = no_args c.args.all.now _ (ap args_of_expr c.in-Int.is ∙ of_int c.in-Int.field-0)

pub add_expr-returns-in-Text : goal.add_expr-returns-in-Text
add_expr-returns-in-Text t c = no_args c.args.all.now _ (ap args_of_expr c.in-Text.is ∙ of_text c.in-Text.field-0)

pub add_expr-returns-in-Bool : goal.add_expr-returns-in-Bool
add_expr-returns-in-Bool t c = no_args c.args.all.now _ (ap args_of_expr c.in-Bool.is ∙ of_bool c.in-Bool.field-0)

pub add_expr-returns-in-Uuid : goal.add_expr-returns-in-Uuid
add_expr-returns-in-Uuid t c = no_args c.args.all.now _ (ap args_of_expr c.in-Uuid.is ∙ of_uuid c.in-Uuid.field-0)

pub add_expr-returns-in-Null : goal.add_expr-returns-in-Null
add_expr-returns-in-Null t c = no_args c.args.all.now _ (ap args_of_expr c.in-Null.is ∙ of_null c.in-Null.field-0)

pub add_expr-returns-in-Column : goal.add_expr-returns-in-Column
add_expr-returns-in-Column t c = no_args c.args.all.now _ (ap args_of_expr c.in-Column.is ∙ of_column c.in-Column.field-0 c.in-Column.field-1)

pub add_expr-returns-in-Global : goal.add_expr-returns-in-Global
add_expr-returns-in-Global t c = no_args c.args.all.now _ (ap args_of_expr c.in-Global.is ∙ of_global c.in-Global.field-0)

pub add_item-returns-in-Table : goal.add_item-returns-in-Table
add_item-returns-in-Table t c = no_args c.args.all.now _ (ap args_of_item c.in-Table.is ∙ of_table c.in-Table.field-0 c.in-Table.field-1)

pub add_core-returns-in_ok-add_columns-in-All : goal.add_core-returns-in_ok-add_columns-in-All
add_core-returns-in_ok-add_columns-in-All t c =
    core_args c.add_body.result c.args.all.now c.add_columns.new.all c.add_body.new.all (args_in_columns c.as_slice.result.now) (args_in_body c.in-All.body) _ c.in_ok-add_columns-in-All.ensures c.add_body.ensures
    (ap args_of_core c.in-All.is ∙ of_all c.in-All.columns c.in-All.body ∙ ap (λ l. args_in_columns l ++ args_in_body c.in-All.body) (sym c.as_slice.ensures))

pub add_core-returns-in_ok-add_columns-in-Distinct : goal.add_core-returns-in_ok-add_columns-in-Distinct
add_core-returns-in_ok-add_columns-in-Distinct t c =
    core_args c.add_body-in-Distinct.result c.args.all.now c.add_columns-in-Distinct.new.all c.add_body-in-Distinct.new.all (args_in_columns c.as_slice-in-Distinct.result.now) (args_in_body c.in-Distinct.body) _ c.in_ok-add_columns-in-Distinct.ensures c.add_body-in-Distinct.ensures
    (ap args_of_core c.in-Distinct.is ∙ of_distinct c.in-Distinct.columns c.in-Distinct.body ∙ ap (λ l. args_in_columns l ++ args_in_body c.in-Distinct.body) (sym c.as_slice-in-Distinct.ensures))
