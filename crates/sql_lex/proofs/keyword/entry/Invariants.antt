use Rattle.std.proofs.Common.{◌≡◌, map, length}
use Rattle.sql_lex.specs.Keyword.{keyword_at}
use Rattle.sql_lex.proofs.keyword.entry.Given as goal

abbrev pub invariant-loop-table : goal.invariant-loop-table
invariant-loop-table l = keyword_at (map (λ k. (k.0.now, k.1)) l.table) l.word ≡ keyword_at (map (λ k. (k.0.now, k.1)) l.initial.table) l.word

abbrev pub decreases-loop-table : goal.decreases-loop-table
decreases-loop-table l = length l.table
