-- What is promised of the reader of statements.
use Rattle.std.proofs.Common.{◌≡◌, ℕ, suc, ◌+◌, List, [], length, arith}
use Rattle.exact.specs.Language.{Lang}
use Rattle.exact.specs.Reading.{Reader, Got, whole}
use Rattle.exact.specs.Promise.{Ended}
use Rattle.exact.proofs.Exact.{IsExact}
use Rattle.exact.proofs.Laws.{Grows, Loosens, Open}
use Rattle.exact.proofs.Whole.{one_value_alone, whole_found, whole_only, any_loosens, ended_loosens}
use Rattle.sql_lex.specs.declared.token.Token.{Token}
use Rattle.sql_grammar.specs.declared.limits.TheConstants.{MAX_OPEN}
use Rattle.sql_grammar.specs.declared.grown.GrownSelect.{GrownSelect}
use Rattle.sql_grammar.specs.Trees.{too_high, unlimited}
use Rattle.sql_grammar.specs.Grammar as g
use Rattle.sql_grammar.specs.Readers as r
use Rattle.sql_grammar.specs.Promise.{is_tall, StatementText, IsStatement}
use Rattle.sql_grammar.proofs.Levels.{within_known, statement_go, exact_statement}

-- the reader of a statement, and of all of the tokens
unfoldable pub statement : Reader Token GrownSelect
statement = r.statement (r.within too_high MAX_OPEN)

unfoldable pub all : Reader Token GrownSelect
all = whole is_tall statement

-- what is spelled with so many more parts open than may be
Stating : ℕ → Lang Token GrownSelect
Stating spare = g.Statement (g.within too_high spare MAX_OPEN)

exact : (spare : ℕ) → IsExact (Stating spare) statement (λ _. statement_go)
unfolding Stating statement
exact spare = (exact_statement Open _ _ _ (within_known too_high spare MAX_OPEN (suc (suc (MAX_OPEN + spare))) (omega arith))).exact tt

loosens : Loosens StatementText
unfolding Stating
loosens = any_loosens (λ spare. Ended is_tall (Stating spare)) (λ spare. ended_loosens is_tall (Stating spare) (exact_statement Open _ _ _ (within_known too_high spare MAX_OPEN (suc (suc (MAX_OPEN + spare))) (omega arith))).loosens)

-- what passes no limit, with so many parts more than may be open
FreeStating : ℕ → Lang Token GrownSelect
FreeStating parts = g.Statement (g.within unlimited 0 (suc (suc (MAX_OPEN + parts))))

free_statement : ℕ → Reader Token GrownSelect
free_statement parts = r.statement (r.within unlimited (suc (suc (MAX_OPEN + parts))))

exact_free : (parts : ℕ) → IsExact (FreeStating parts) (free_statement parts) (λ _. statement_go)
unfolding FreeStating free_statement
exact_free parts = (exact_statement Open _ _ _ (within_known unlimited 0 (suc (suc (MAX_OPEN + parts))) (suc (suc (suc (suc (MAX_OPEN + parts))))) (omega arith))).exact tt

grows : (spare more : ℕ) → Grows (Stating spare) (FreeStating (spare + more))
unfolding Stating FreeStating
grows spare more = (exact_statement Open _ _ _ (within_known too_high spare MAX_OPEN (suc (suc (MAX_OPEN + (spare + more)))) (omega arith))).grows

-- Each text spells at most one select, whatever limits it passes.
pub one_select : (ts : List Token) (x y : GrownSelect) → StatementText 0 ts x → StatementText 0 ts y → x ≡ y
unfolding Stating
one_select ts x y l m = one_value_alone FreeStating free_statement (λ _. statement_go) exact_free Stating grows 0 0 ts x y (l.0, l.1.0) (m.0, m.1.0)

pub one_tree : (ts : List Token) (x y : GrownSelect) → IsStatement ts x → IsStatement ts y → x ≡ y
one_tree ts x y a b = one_select ts x y (loosens 0 (suc (length ts)) ts x (omega arith) a) (loosens 0 (suc (length ts)) ts y (omega arith) b)

-- What is read of the whole text is what it spells within the limits.
pub found : (ts : List Token) (x : GrownSelect) (rest : List Token) → all ts ≡ Got x rest → IsStatement ts x
unfolding Stating all
found = whole_found Stating statement (λ _. statement_go) exact is_tall

pub only : (ts : List Token) (x : GrownSelect) → IsStatement ts x → all ts ≡ Got x []
unfolding Stating all
only = whole_only Stating statement (λ _. statement_go) exact is_tall
