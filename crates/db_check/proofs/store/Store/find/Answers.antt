use Rattle.std.proofs.Common.{length, Ok, Err, rules, refl, sym, ap, subst, ◌∙◌}
use Rattle.std.proofs.lemmas.List.Sorted.{answers_always}
use Rattle.std.proofs.lemmas.Option.{slice_get_read}
use Rattle.db_store.specs.Fits.{Ascend}
use Rattle.db_store.specs.Objects.{find}
use Rattle.db_store.specs.declared.object.Object.{Object}
use Rattle.db_check.proofs.IdOrder.{before}
use Rattle.db_check.proofs.Search.{searched}
use Rattle.db_check.proofs.store.Store.find.Goals as goal

pub returns-in-Ok : goal.returns-in-Ok
returns-in-Ok c =
    let id = c.args.id in
    let os = c.objects-objects.result.now in
    let up = subst (Ascend before) (sym c.objects-objects.ensures.all) c.objects-objects.ensures.in_order in
    let place = c.in-Ok.place in
    let is = c.in-Ok.ensures.position (λ (o : Object). o.id) (answers_always _ _ _ (λ f a r g called. search rules)) in
    sym (slice_get_read os (length os) place c.index-objects-place.result refl c.in-Ok.ensures.bound c.index-objects-place.is)
    ∙ sym (searched os id up (Ok place) c.in-Ok.ensures.bound is)
    ∙ ap (λ l. find l id) c.objects-objects.ensures.all

pub returns-in-Err : goal.returns-in-Err
returns-in-Err c =
    let id = c.args.id in
    let os = c.objects-objects.result.now in
    let up = subst (Ascend before) (sym c.objects-objects.ensures.all) c.objects-objects.ensures.in_order in
    let place = c.in-Err.field-0 in
    let is = c.in-Err.ensures.position (λ (o : Object). o.id) (answers_always _ _ _ (λ f a r g called. search rules)) in
    sym (searched os id up (Err place) c.in-Err.ensures.bound is)
    ∙ ap (λ l. find l id) c.objects-objects.ensures.all
