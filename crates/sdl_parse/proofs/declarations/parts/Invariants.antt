use Rattle.std.proofs.Common.{◌≡◌, ◌-◌}
use Rattle.sdl_grammar.specs.Words.{is_part}
use Rattle.eql_grammar.specs.Trees.{too_high}
use Rattle.exact.specs.Reading.{chain_from}
use Rattle.sdl_grammar.specs.Readers.{parts, next_part, text_expr}
use Rattle.sdl_parse.proofs.declarations.parts.Given as goal

abbrev pub invariant-loop-turn : goal.invariant-loop-turn
invariant-loop-turn l =
    parts too_high text_expr l.fn.first l.fn.tokens ≡ chain_from is_part (next_part too_high text_expr) (l._turn-end - l._turn) l.all l.tokens
