use Rattle.std.proofs.Common.{codes, sym, ap, ◌∙◌}
use Rattle.std.specs.Option.{option_copied}
use Rattle.db_load.specs.Document.{is_format as is_format_data}
use Rattle.db_load.proofs.MemberLaws.{found}
use Rattle.db_load.proofs.document.has_format.Goals as goal

pub returns-in-Some : goal.returns-in-Some
returns-in-Some c = c.is_format.ensures ∙ ap is_format_data (found (codes "format") c.args.map.now.entries _ (sym (ap option_copied c.in-Some.is) ∙ c.get.ensures.value))

pub returns-in-None : goal.returns-in-None
returns-in-None c = ap is_format_data (found (codes "format") c.args.map.now.entries _ (sym (ap option_copied c.in-None.is) ∙ c.get.ensures.value))
