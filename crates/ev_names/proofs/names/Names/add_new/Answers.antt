use Rattle.std.proofs.Common.{◌≡◌, None}
use Rattle.ev_names.specs.Names.{place_of}
use Rattle.ev_names.proofs.NameLaws.{finds_more}
use Rattle.ev_names.proofs.names.Names.add_new.Goals as goal

pub invariant_of-self-in-Ok : goal.invariant_of-self-in-Ok
invariant_of-self-in-Ok c =
    let new : place_of c.args.name.now c.self.inside.order ≡ None = cc (c.requires, c.self.view_is) in
    let pushed = c.in_ok-push.ensures {u = tt} in
    let told = c.in-Ok.ensures {u = tt} in
    finds_more c.self.inside.places c.insert.new.self c.self.inside.order c.push.new.self c.in_ok-key.key c.args.name.now c.in_ok-kept.kept c.len-place.result
    c.self.invariant new c.in_ok-key.ensures c.in_ok-kept.ensures c.len-place.ensures pushed.ok told.updates.0
