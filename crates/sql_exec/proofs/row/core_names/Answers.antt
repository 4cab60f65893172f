use Rattle.std.proofs.Common.{◌≡◌, sym, ap, ◌∙◌, subst, IfOk}
use Rattle.sql_table.specs.Forms.{names_of}
use Rattle.sql_table.specs.Meaning.{names_of_core}
use Rattle.sql_table.proofs.Equations.{names_all, names_distinct}
use Rattle.sql_exec.proofs.row.core_names.Goals as goal

pub returns-in-All : goal.returns-in-All
returns-in-All c =
    subst (λ n. IfOk c.names.result (λ l. l ≡ n)) (ap names_of c.as_slice.ensures ∙ sym (names_all c.in-All.columns c.in-All.field-1) ∙ sym (ap names_of_core c.in-All.is)) c.names.ensures

pub returns-in-Distinct : goal.returns-in-Distinct
returns-in-Distinct c =
    subst (λ n. IfOk c.names-in-Distinct.result (λ l. l ≡ n)) (ap names_of c.as_slice-in-Distinct.ensures ∙ sym (names_distinct c.in-Distinct.columns c.in-Distinct.field-1) ∙ sym (ap names_of_core c.in-Distinct.is)) c.names-in-Distinct.ensures
