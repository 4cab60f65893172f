use Rattle.std.proofs.Common.{◌≡◌, ◌<◌, ◌==◌, ℕ, true, [], rules, ap, sym, subst, ◌∙◌, refl, arith, length}
use Rattle.std.proofs.lemmas.Bool.Decides.{nat_tests}
use Rattle.std.proofs.lemmas.Grind.{common_steps}
use Rattle.std.proofs.lemmas.List.{nil_from_length}
use Rattle.std.proofs.lemmas.Result.{IfOk-weaker}
use Rattle.schema_build.specs.Lineage.{at, IsLineage}
use Rattle.schema_build.specs.Search.{none_found, all_noted, found_from, left_of, IsSearch}
use Rattle.schema_build.specs.declared.lineage.Search.{Search}
use Rattle.schema_build.proofs.SearchLaws.{begins, goes_on, nearer, finds_lineage, no_lineage}
use Rattle.schema_build.proofs.lineage.lineage.Goals as goal

is_zero : (n : ℕ) → true ≡ (n == 0) → n ≡ 0
is_zero n h = grind (arith, nat_tests)

pub loop-next-init : goal.loop-next-init
loop-next-init c =
    let begun : c.note_all.new.self ≡ all_noted (none_found (length c.args.bases.now)) (at c.args.bases.now c.args.ty.0) =
    cc (c.in_ok-note_all.ensures {u = tt}, c.in_ok-search.ensures, c.at-own.ensures) in
    subst (λ (s : Search). IsSearch c.args.bases.now c.args.ty s) (sym begun) (begins c.args.bases.now c.args.ty c.requires.within)

pub loop-next-preserved : goal.loop-next-preserved
loop-next-preserved c =
    let left : Search = record { found = c.loop-next.search.found; pending = c.pop.new.self } in
    subst (λ (s : Search). IsSearch c.args.bases.now c.args.ty s) (sym (c.in_ok-note_all-2.ensures {u = tt} ∙ ap (all_noted left) c.at.ensures))
    (goes_on c.args.bases.now c.args.ty c.in-Some.next c.loop-next.search left c.requires.within refl c.in-Some.ensures c.loop-next.invariant)

pub loop-next-smaller : goal.loop-next-smaller
loop-next-smaller c =
    let left : Search = record { found = c.loop-next.search.found; pending = c.pop.new.self } in
    subst (λ (s : Search). left_of s < left_of c.loop-next.search) (sym (c.in_ok-note_all-2.ensures {u = tt} ∙ ap (all_noted left) c.at.ensures))
    (nearer c.args.bases.now c.in-Some.next c.loop-next.search left refl c.in-Some.ensures)

pub numbers_found-requires : goal.numbers_found-requires
numbers_found-requires c = omega (arith, ap length c.as_slice.ensures, c.loop-next.invariant.sized, c.requires.few)

pub returns : goal.returns
returns c =
    IfOk-weaker c.numbers_found.result (λ l. l ≡ found_from 0 c.as_slice.result.now) (λ l. IsLineage c.args.bases.now c.args.ty l)
    (λ line is. subst (λ l. IsLineage c.args.bases.now c.args.ty l) (sym (is ∙ ap (found_from 0) c.as_slice.ensures))
    (finds_lineage c.args.bases.now c.args.ty c.loop-next.search c.loop-next.invariant (let none : c.loop-next.search.pending ≡ [] = first_of (search rules, grind (arith, common_steps)) in none)))
    c.numbers_found.ensures

pub returns-then-is_empty : goal.returns-then-is_empty
returns-then-is_empty c =
    subst (λ l. IsLineage c.args.bases.now c.args.ty l) (sym c.new.ensures) (no_lineage c.args.bases.now c.args.ty
    (sym c.at-own.ensures ∙ nil_from_length c.at-own.result.now (is_zero (length c.at-own.result.now) (sym c.if-is_empty.true ∙ c.is_empty.ensures))))
