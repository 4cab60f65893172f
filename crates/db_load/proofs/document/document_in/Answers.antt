use Rattle.std.proofs.Common.{◌∙◌}
use Rattle.db_load.proofs.MemberLaws.{ill_counted}
use Rattle.db_load.proofs.document.document_in.Goals as goal

pub returns : goal.returns
returns c = ill_counted c.args.map.entries (λ e. c.if-len-eq2.false (c.len.ensures.len ∙ e))
