use Rattle.std.proofs.Common.{◌∙◌, ap, sym, List}
use Rattle.std.proofs.lemmas.List.{at_drop_all}
use Rattle.db_store.specs.declared.object.Object.{Object}
use Rattle.eql_steps.specs.ById.{by_id}
use Rattle.eql_steps.proofs.Placed.{with_places, all_placed}
use Rattle.eql_steps.proofs.index.places_by_id.Goals as goal

pub returns : goal.returns
returns c =
    sym (ap (λ (l : List Object). with_places c.loop-place.place (by_id c.loop-place.places) l) (at_drop_all (λ l. l) c.args.objects.now c.loop-place.place c.loop-place-test.false))
    ∙ c.loop-place.invariant
    ∙ all_placed c.args.objects.now
