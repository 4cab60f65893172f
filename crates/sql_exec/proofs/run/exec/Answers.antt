use Rattle.std.proofs.Common.{ap, sym, ◌∙◌, subst, Contains}
use Rattle.ev_value.specs.Item.{faults, all_of}
use Rattle.ev_list.specs.Items.{first_fault}
use Rattle.sql_table.specs.Forms.{rows_of}
use Rattle.sql_table.specs.Names.{World}
use Rattle.sql_exec.proofs.Turns.{told, clean}
use Rattle.sql_exec.proofs.run.exec.Goals as goal

pub returns-in-Some : goal.returns-in-Some
returns-in-Some c =
    let w : World = record { tables = c.args.tables.now; args = c.args.args.now } in
    let is = c.in_ok-rows.ensures ∙ (λ i. rows_of w (c.as_slice.ensures i) ((c.as_slice-2.ensures ∙ c.new-scope.ensures) i)) in
    let first = ap first_fault (sym c.as_slice-3.ensures) ∙ sym c.first_fault.ensures ∙ c.in-Some.is in
    subst (λ l. Contains (faults l) c.in-Some.fault) is (told c.in_ok-rows.rows c.in-Some.fault first)

pub returns : goal.returns
returns c =
    let w : World = record { tables = c.args.tables.now; args = c.args.args.now } in
    let is = c.in_ok-rows.ensures ∙ (λ i. rows_of w (c.as_slice.ensures i) ((c.as_slice-2.ensures ∙ c.new-scope.ensures) i)) in
    let none = ap first_fault (sym c.as_slice-3.ensures) ∙ sym c.first_fault.ensures ∙ c.in-None.is in
    sym is ∙ clean c.in_ok-rows.rows none ∙ ap all_of (sym c.in_ok-values-in-None.ensures)
