use Rattle.std.proofs.Common.{◌≡◌, ◌∙◌, ap, sym, subst}
use Rattle.std.specs.Prelude.{IfOk}
use Rattle.eql_naming.specs.Paths.{subject_at}
use Rattle.eql_naming.proofs.Subjects.{at_shape}
use Rattle.eql_naming.proofs.paths.+subject_at.Goals as goal

pub returns-in-Shaped : goal.returns-in-Shaped
returns-in-Shaped t c =
    let e = ap (λ y. subject_at y c.args.number) c.get.ensures ∙ sym (at_shape c.in-Shaped.field-0 c.in-Shaped.base c.in-Shaped.field-2 c.in-Shaped.field-3 c.in-Shaped.field-4 c.args.number) ∙ ap (λ y. subject_at y c.args.number) (sym c.in-Shaped.is) in
    subst (λ u. IfOk c.subject_at.result (λ s. s ≡ u)) e c.subject_at.ensures
