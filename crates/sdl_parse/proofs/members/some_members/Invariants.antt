use Rattle.std.proofs.Common.{◌≡◌, ◌-◌}
use Rattle.sdl_grammar.specs.Words.{goes_on}
use Rattle.eql_grammar.specs.Trees.{too_high}
use Rattle.exact.specs.Reading.{chain_from}
use Rattle.sdl_grammar.specs.Readers.{some_members, next_member, text_expr}
use Rattle.sdl_parse.proofs.members.some_members.Given as goal

abbrev pub invariant-loop-turn : goal.invariant-loop-turn
invariant-loop-turn l =
    some_members too_high text_expr l.fn.first l.fn.tokens ≡ chain_from goes_on (next_member too_high text_expr) (l._turn-end - l._turn) l.all l.tokens
