use Rattle.std.proofs.Common.{slice_get, ap, ◌∙◌}
use Rattle.db_check.specs.Store.{StoreView, kept_if_known, kept_places}
use Rattle.db_check.proofs.Places.{are_places, kept_is, none_kept}
use Rattle.db_check.proofs.store.Store.extent.Goals as goal

pub returns-clause-kept : goal.returns-clause-kept
returns-clause-kept c =
    c.places_at.ensures
    ∙ ap (λ l. kept_if_known (slice_get l c.args.ty.0)) c.as_slice.ensures
    ∙ ap (λ (st : StoreView). kept_places st c.args.ty) c.self.view_is

pub returns-clause-places : goal.returns-clause-places
returns-clause-places c types over known = returns-clause-kept c ∙ kept_is types c.args.self.now c.args.ty over known

pub returns-clause-others : goal.returns-clause-others
returns-clause-others c types over unknown = returns-clause-kept c ∙ none_kept types c.args.self.now c.args.ty over unknown

pub returns-clause-objects : goal.returns-clause-objects
returns-clause-objects c types over known = are_places types c.args.ty c.args.self.now.objects _ (returns-clause-places c types over known)
