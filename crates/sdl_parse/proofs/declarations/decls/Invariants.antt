use Rattle.std.proofs.Common.{◌≡◌, ◌-◌}
use Rattle.sdl_grammar.specs.Words.{is_decl}
use Rattle.eql_grammar.specs.Trees.{too_high}
use Rattle.exact.specs.Reading.{chain_from}
use Rattle.sdl_grammar.specs.Readers.{decls, next_decl, text_expr}
use Rattle.sdl_parse.proofs.declarations.decls.Given as goal

abbrev pub invariant-loop-turn : goal.invariant-loop-turn
invariant-loop-turn l =
    decls too_high text_expr l.fn.first l.fn.tokens ≡ chain_from is_decl (next_decl too_high text_expr) (l._turn-end - l._turn) l.all l.tokens
