use Rattle.ev_index.proofs.Firsts.{added}
use Rattle.ev_index.proofs.by_name.ByName.put.Goals as goal

pub returns : goal.returns
returns g c =
    λ i x. added c.args.self.now.found c.insert.new.self c.in_ok-copied.field-0 c.args.name.now c.args.value c.in_ok-copied.ensures c.requires c.in_ok-insert.ensures.updates.0 x i
