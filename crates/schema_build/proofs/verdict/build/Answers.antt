use Rattle.schema_build.proofs.VerdictLaws.{answered}
use Rattle.schema_build.proofs.verdict.build.Goals as goal

pub returns-clause-answer : goal.returns-clause-answer
returns-clause-answer c =
    answered c.args.file c.as_slice.result.now c.in_ok-decls.decls c.as_slice-2.result.now c.foreign_modules-foreign.result c.built.result
    c.as_slice.ensures c.foreign_modules-foreign.ensures c.in_ok-decls.ensures c.as_slice-2.ensures c.built.ensures.answer
