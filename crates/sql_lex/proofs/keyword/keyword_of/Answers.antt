use Rattle.std.proofs.Common.{◌≡◌, sym, ◌∙◌}
use Rattle.sql_lex.specs.Keyword.{keyword_of}
use Rattle.sql_lex.proofs.Keywords.{keyword_of_table, keyword_found, keyword_sound}
use Rattle.sql_lex.proofs.keyword.keyword_of.Goals as goal

same : (c : goal.After-entry) → c.entry.result ≡ keyword_of c.args.word.now
same c = c.entry.ensures ∙ keyword_of_table c.args.word.now

pub returns-clause-value : goal.returns-clause-value
returns-clause-value c = same c

pub returns-clause-word : goal.returns-clause-word
returns-clause-word c = λ k. (λ h. keyword_sound c.args.word.now k (sym (same c) ∙ h), λ h. same c ∙ keyword_found c.args.word.now k h)
