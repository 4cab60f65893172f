use Rattle.std.proofs.Common.{sym, ◌∙◌}
use Rattle.ev_lex.proofs.Characters.{character_found, character_absent}
use Rattle.ev_lex.proofs.literal.character.Goals as goal

pub returns-in-Some-default : goal.returns-in-Some-default
returns-in-Some-default c =
    rw c.decode.ensures.size (character_found c.args.bytes.now c.in-Some-default.character (sym c.decode.ensures.char ∙ c.in-Some-default.is-0))

pub returns-in-None-default : goal.returns-in-None-default
returns-in-None-default c = character_absent c.args.bytes.now (sym (sym c.in-None-default.is-0 ∙ c.decode.ensures.char))
