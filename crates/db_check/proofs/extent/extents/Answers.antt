use Rattle.std.proofs.Common.{◌≡◌, [], ◌∷◌, ◌++◌, length, take, sym, ap, ◌∙◌, length-take, arith}
use Rattle.std.proofs.lemmas.List.{take_more}
use Rattle.db_check.specs.Extent.{extents}
use Rattle.db_check.specs.Placing.{with_object}
use Rattle.db_check.proofs.Placed.{placed_is}
use Rattle.db_check.proofs.extent.extents.Goals as goal

pub loop-place-preserved : goal.loop-place-preserved
loop-place-preserved c =
    let types = c.args.types.now in
    let os = c.args.objects.now in
    let place = c.loop-place.place in
    let o = c.index-objects-place.result in
    let front = take place os in
    let number : length front ≡ place = omega (arith, length-take place os, c.loop-place-test.true) in
    c.in_ok-add_object.ensures
    ∙ ap (λ l. with_object types place l o) c.loop-place.invariant
    ∙ ap (λ n. with_object types n (extents types front) o) (sym number)
    ∙ placed_is types front o
    ∙ ap (λ p. extents types (front ++ p ∷ [])) c.index-objects-place.is
    ∙ ap (extents types) (sym (take_more os place o c.loop-place-test.true))
