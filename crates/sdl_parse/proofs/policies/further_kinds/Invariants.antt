use Rattle.std.proofs.Common.{◌≡◌, ◌-◌}
use Rattle.ev_lex.specs.declared.token.Sign.TheVariants as sign
use Rattle.eql_grammar.specs.Words.{is_sign}
use Rattle.eql_grammar.specs.Trees.{too_high}
use Rattle.exact.specs.Reading.{chain_from}
use Rattle.sdl_grammar.specs.Readers.{further_kinds, next_kind, text_expr}
use Rattle.sdl_parse.proofs.policies.further_kinds.Given as goal

abbrev pub invariant-loop-turn : goal.invariant-loop-turn
invariant-loop-turn l =
    further_kinds too_high text_expr l.fn.first l.fn.tokens ≡ chain_from (is_sign sign.Comma) (next_kind too_high text_expr) (l._turn-end - l._turn) l.all l.tokens
