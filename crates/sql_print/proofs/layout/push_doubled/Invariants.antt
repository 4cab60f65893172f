use Rattle.std.proofs.Common.{◌≡◌, ◌++◌, IsUtf8, string_bytes}
use Rattle.std.specs.Str.Iter.{chars_rest}
use Rattle.sql_lex.specs.Token.{doubled}
use Rattle.sql_print.proofs.layout.push_doubled.Given as goal

abbrev pub invariant-loop-c : goal.invariant-loop-c
invariant-loop-c l = IsUtf8 (chars_rest l.c-iterator) × (string_bytes l.out ++ doubled (chars_rest l.c-iterator) ≡ string_bytes l.fn.out ++ doubled l.fn.text)
