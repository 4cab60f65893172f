use Rattle.std.proofs.Common.{◌≡◌, ◌∙◌, ap, subst, List, true, IfOk}
use Rattle.ev_value.specs.Item.{all_of}
use Rattle.ev_value.specs.declared.item.Item.{Item}
use Rattle.ev_value.specs.declared.value.Val.{Val}
use Rattle.db_store.specs.declared.object.Object.{Object}
use Rattle.eql_steps.specs.Index.{kept_at}
use Rattle.eql_steps.proofs.Rises.{rising}
use Rattle.eql_steps.proofs.Reached.{targets_told}
use Rattle.eql_steps.proofs.link_steps.targets_of.Goals as goal

pub returns : goal.returns
returns c =
    let os = c.args.objects.now in
    let ks = c.in_ok-places.places.items in
    subst (λ (vs : List Val). IfOk c.objects_at.result (λ (xs : List (Item Val)). xs ≡ all_of vs))
    (ap (kept_at (λ (o : Object). true) os) c.as_slice.ensures.value
    ∙ targets_told os c.args.link c.args.sources.now ks (rising ks c.in_ok-places.ensures.rises) c.in_ok-places.ensures.same)
    c.objects_at.ensures
