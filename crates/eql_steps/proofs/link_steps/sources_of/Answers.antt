use Rattle.std.proofs.Common.{◌≡◌, ◌∙◌, ap, subst, List, IfOk}
use Rattle.ev_value.specs.Item.{all_of}
use Rattle.ev_value.specs.declared.item.Item.{Item}
use Rattle.ev_value.specs.declared.value.Val.{Val}
use Rattle.ev_schema.specs.Types.{is_subtype}
use Rattle.db_store.specs.declared.object.Object.{Object}
use Rattle.eql_steps.specs.Index.{kept_at}
use Rattle.eql_steps.proofs.Rises.{rising}
use Rattle.eql_steps.proofs.Reached.{sources_told}
use Rattle.eql_steps.proofs.link_steps.sources_of.Goals as goal

pub returns : goal.returns
returns c =
    let s = c.args.schema.now in
    let os = c.args.objects.now in
    let ks = c.in_ok-places.places.items in
    subst (λ (vs : List Val). IfOk c.objects_of_type_at.result (λ (xs : List (Item Val)). xs ≡ all_of vs))
    (ap (kept_at (λ (o : Object). is_subtype s.types o.ty c.args.ty) os) c.as_slice.ensures.value
    ∙ sources_told s os c.args.link c.args.ty c.args.targets.now ks (rising ks c.in_ok-places.ensures.rises) c.in_ok-places.ensures.same)
    c.objects_of_type_at.ensures
