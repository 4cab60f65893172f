use Rattle.std.proofs.Common.{subst, sym, ap, ◌∙◌, cond, is_eq, nat_cmp, Some}
use Rattle.std.specs.BTreeMap as tree
use Rattle.db_ids.specs.Heads.{Finds, place_of}
use Rattle.db_ids.proofs.PlaceLaws.{finds_more}
use Rattle.db_ids.proofs.heads.Heads.add.Goals as goal

pub invariant_of-self-in-Ok : goal.invariant_of-self-in-Ok
invariant_of-self-in-Ok c =
    subst (λ l. Finds c.insert.new.self l) (sym c.in_ok-push.ensures.ok)
    (finds_more c.self.inside.places c.insert.new.self c.self.inside.list c.args.head c.self.invariant
    (ap (λ l. place_of l c.args.head.id) c.self.view_is ∙ c.requires.is_new)
    (λ x. c.in-Ok.ensures.updates.0 x ∙ (λ k. cond (is_eq (nat_cmp c.args.head.id x)) (Some (c.len-place.ensures k)) (tree.get nat_cmp c.self.inside.places x))))
