use Rattle.sql_grammar.specs.declared.grown.GrownSelect.{GrownSelect}
use Rattle.sql_read.specs.Promise.{IsTextOf}
use Rattle.sql_parse.proofs.Answered.{holds, answered, accepted, formed, printed}
use Rattle.sql_parse.proofs.parse.parse_sql.Goals as goal

pub returns-in-Ok-clause-holds : goal.returns-in-Ok-clause-holds
returns-in-Ok-clause-holds c = holds _ _ _ _ c.in-Ok.ensures.found c.of_tree.ensures

pub returns-in-Ok-clause-answered : goal.returns-in-Ok-clause-answered
returns-in-Ok-clause-answered c = answered _ _ _ _ c.in-Ok.ensures.only c.of_tree.ensures

pub returns-in-Ok-clause-formed : goal.returns-in-Ok-clause-formed
returns-in-Ok-clause-formed c = formed _ _ _ _ c.in-Ok.ensures.found c.of_tree.ensures

pub returns-in-Ok-clause-accepted : goal.returns-in-Ok-clause-accepted
returns-in-Ok-clause-accepted c = accepted _ _ _ (answered _ _ _ _ c.in-Ok.ensures.only c.of_tree.ensures)

pub returns-in-Ok-clause-printed : goal.returns-in-Ok-clause-printed
returns-in-Ok-clause-printed c = printed _ _ _ (answered _ _ _ _ c.in-Ok.ensures.only c.of_tree.ensures)

pub returns-in-Err-Q1-clause-holds : goal.returns-in-Err-Q1-clause-holds
returns-in-Err-Q1-clause-holds c = c.in-Err-Q1.ensures.refused (cc)

pub returns-in-Err-Q1-clause-answered : goal.returns-in-Err-Q1-clause-answered
returns-in-Err-Q1-clause-answered c =
    let none : (x : GrownSelect) → IsTextOf c.args.text.now x → ⊥ = c.in-Err-Q1.ensures.refused (cc) in
    λ x h n t. absurd (none x h)

pub returns-in-Err-Q1-clause-printed : goal.returns-in-Err-Q1-clause-printed
returns-in-Err-Q1-clause-printed c =
    let none : (x : GrownSelect) → IsTextOf c.args.text.now x → ⊥ = c.in-Err-Q1.ensures.refused (cc) in
    printed _ _ _ (λ x h n t. absurd (none x h))

pub returns-in-Err-Q1-clause-accepted : goal.returns-in-Err-Q1-clause-accepted
returns-in-Err-Q1-clause-accepted c =
    let none : (x : GrownSelect) → IsTextOf c.args.text.now x → ⊥ = c.in-Err-Q1.ensures.refused (cc) in
    λ x h formed. absurd (none x h)
