-- What is promised of a text that is read and printed.
use Rattle.std.specs.Prelude.{◌≡◌, ℕ, List}
use Rattle.sql_ast.specs.declared.select.Stmt.{Stmt}
use Rattle.sql_grammar.specs.declared.grown.GrownSelect.{GrownSelect}
use Rattle.sql_read.specs.Promise.{IsTextOf}
use Rattle.sql_print.specs.Layout.{text_of}
use Rattle.sql_print.specs.Lists.{tokens_of}

-- The one text spells a statement, and the other is how that statement is printed.
abbrev pub IsReprint : List ℕ → List ℕ → Type 0
IsReprint text printed = (s : GrownSelect) × IsTextOf text s × (printed ≡ text_of (tokens_of (record { select = s.select })))

-- The text of the statement is read back as this statement: it spells a tree with its places, and each tree that it spells is the statement's.
abbrev pub IsReadBackAs : List ℕ → Stmt → Type 0
IsReadBackAs text s = ((x : GrownSelect) × IsTextOf text x) × ((x : GrownSelect) → IsTextOf text x → x.select ≡ s.select)
