use Rattle.std.proofs.Common.{◌≡◌, ◌++◌, drop, string_bytes}
use Rattle.sql_print.specs.Layout.{text_behind, text_of}
use Rattle.sql_print.proofs.layout.text_of.Given as goal

abbrev pub invariant-loop-token : goal.invariant-loop-token
invariant-loop-token l = string_bytes l.out ++ text_behind l.clings (drop l.token-index l.tokens) ≡ text_of l.tokens
