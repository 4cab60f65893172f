use Rattle.std.proofs.Common.{◌≡◌, ◌-◌}
use Rattle.ev_lex.specs.declared.keyword.Keyword.TheVariants as keyword
use Rattle.eql_grammar.specs.Words.{is_word}
use Rattle.eql_grammar.specs.Trees.{too_high}
use Rattle.exact.specs.Reading.{chain_from}
use Rattle.sdl_grammar.specs.Readers.{annotations, next_annotation, text_expr}
use Rattle.sdl_parse.proofs.values.annotations.Given as goal

abbrev pub invariant-loop-turn : goal.invariant-loop-turn
invariant-loop-turn l =
    annotations too_high text_expr l.fn.first l.fn.tokens ≡ chain_from (is_word keyword.Annotation) (next_annotation too_high text_expr) (l._turn-end - l._turn) l.all l.tokens
