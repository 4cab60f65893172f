use Rattle.std.proofs.Common.{◌≡◌, true}
use Rattle.ev_names.specs.Names.{is_among}
use Rattle.ev_names.proofs.NameLaws.{finds_after}
use Rattle.ev_names.proofs.names.Names.add_again.Goals as goal

pub invariant_of-self-2 : goal.invariant_of-self-2
invariant_of-self-2 c =
    let there : is_among c.args.name.now c.self.inside.order ≡ true = cc (c.requires, c.self.view_is) in
    finds_after c.push.result c.self.inside.places c.self.inside.order c.push.new.self c.args.name.now c.in_ok-copied.field-0 c.self.invariant there c.in_ok-copied.ensures
    c.push.ensures.ok c.push.ensures.err
