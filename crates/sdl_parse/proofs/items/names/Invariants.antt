use Rattle.std.proofs.Common.{◌≡◌, ◌-◌}
use Rattle.ev_lex.specs.declared.token.Sign.TheVariants as sign
use Rattle.eql_grammar.specs.Words.{is_sign}
use Rattle.eql_grammar.specs.Trees.{too_high}
use Rattle.exact.specs.Reading.{chain_from, inside}
use Rattle.sdl_grammar.specs.Readers.{names, next_name, text_expr}
use Rattle.sdl_parse.proofs.items.names.Given as goal

abbrev pub invariant-loop-turn : goal.invariant-loop-turn
invariant-loop-turn l =
    names too_high text_expr l.fn.first l.fn.tokens ≡ chain_from (inside (is_sign sign.Semicolon)) (next_name too_high text_expr) (l._turn-end - l._turn) l.all l.tokens
