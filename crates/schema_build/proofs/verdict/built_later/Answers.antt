use Rattle.std.proofs.Common.{sym, ap, subst, ◌∙◌, ◌≡◌, length, arith}
use Rattle.schema_build.specs.Lineage.{bases_of}
use Rattle.schema_build.specs.Search.{AreWithin}
use Rattle.schema_build.proofs.BaseLaws.{bases_within, bases_counted, types_counted}
use Rattle.schema_build.proofs.VerdictLaws.{told_later}
use Rattle.schema_build.proofs.verdict.built_later.Goals as goal

pub bases_of-requires : goal.bases_of-requires
bases_of-requires c = omega (arith, ap length c.requires.types, types_counted c.args.decls.now, c.requires.decls)

pub lineages-requires-clause-few : goal.lineages-requires-clause-few
lineages-requires-clause-few c =
    let same : c.as_slice.result.now ≡ bases_of c.args.types.now c.args.decls.now = c.as_slice.ensures ∙ c.in_ok-bases.ensures in
    omega (arith, ap length same, bases_counted c.args.types.now c.args.decls.now, types_counted c.args.decls.now, c.requires.decls)

pub lineages-requires-clause-within : goal.lineages-requires-clause-within
lineages-requires-clause-within c =
    subst AreWithin (sym (c.as_slice.ensures ∙ c.in_ok-bases.ensures ∙ ap (λ ts. bases_of ts c.args.decls.now) c.requires.types)) (bases_within c.args.decls.now)

pub built_along-requires-clause-types : goal.built_along-requires-clause-types
built_along-requires-clause-types c = omega (arith, ap length c.requires.types, types_counted c.args.decls.now, c.requires.decls)

pub returns-clause-later : goal.returns-clause-later
returns-clause-later c =
    told_later c.args.decls.now c.args.types.now c.as_slice.result.now c.in_ok-lines.lines c.as_slice-2.result.now c.built_along.result
    (c.as_slice.ensures ∙ c.in_ok-bases.ensures) c.in_ok-lines.ensures c.as_slice-2.ensures c.built_along.ensures.told
