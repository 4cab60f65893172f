-- What is promised of the reading of a statement over a catalog.
use Rattle.std.specs.Prelude.{◌≡◌, ◌⊎◌, ℕ, List, [], Some, Result, Ok, Err}
use Rattle.sql_ast.specs.declared.catalog.Catalog.{Catalog}
use Rattle.sql_ast.specs.declared.select.Stmt.{Stmt}
use Rattle.sql_ast.specs.WellFormed.{IsWellFormed}
use Rattle.sql_grammar.specs.declared.grown.GrownSelect.{GrownSelect}
use Rattle.sql_grammar.specs.declared.grown.Places.{Places}
use Rattle.sql_print.specs.Layout.{text_of}
use Rattle.sql_print.specs.Lists.{tokens_of}
use Rattle.sql_read.specs.Promise.{IsTextOf}
use Rattle.sql_spell.specs.Machine.{StatementFits}
use Rattle.sql_check.specs.Walk.{IsLeast}
use Rattle.sql_check.specs.Names.{name_faults}
use Rattle.sql_check.specs.Types.{type_faults}
use Rattle.sql_parse.specs.declared.parse.SqlRefusal.{SqlRefusal}
use Rattle.sql_parse.specs.declared.parse.SqlRefusal.TheVariants as refusal

-- the statement of a tree that was read
abbrev pub statement_of : GrownSelect → Stmt
statement_of x = record { select = x.select }

-- the bytes of its names that are unknown or stand twice, and of its expressions that fail by their types
abbrev pub names_failing : Catalog → GrownSelect → List ℕ
names_failing catalog x = name_faults catalog (statement_of x) x.place

abbrev pub types_failing : Catalog → GrownSelect → List ℕ
types_failing catalog x = type_faults catalog (statement_of x) x.place

-- what is answered of a statement that was read, of which no name fails
abbrev pub IsTyped : Catalog → Stmt → Places → Result Stmt SqlRefusal → Type 0
IsTyped catalog s place (Ok t) = (t ≡ s) × (type_faults catalog s place ≡ [])
IsTyped catalog s place (Err refusal.Q1) = ⊥
IsTyped catalog s place (Err (refusal.Q2 byte)) = ⊥
IsTyped catalog s place (Err (refusal.Q3 byte)) = IsLeast (Some byte) (type_faults catalog s place)
IsTyped catalog s place (Err refusal.Memory) = Unit {0}

-- what is answered of a statement that was read
abbrev pub IsChecked : Catalog → Stmt → Places → Result Stmt SqlRefusal → Type 0
IsChecked catalog s place (Ok t) = (t ≡ s) × (name_faults catalog s place ≡ []) × (type_faults catalog s place ≡ [])
IsChecked catalog s place (Err refusal.Q1) = ⊥
IsChecked catalog s place (Err (refusal.Q2 byte)) = IsLeast (Some byte) (name_faults catalog s place)
IsChecked catalog s place (Err (refusal.Q3 byte)) = (name_faults catalog s place ≡ []) × IsLeast (Some byte) (type_faults catalog s place)
IsChecked catalog s place (Err refusal.Memory) = Unit {0}

-- What the answer says. A text spells at most one tree, so of these at most one holds of a text: each answer but want of memory
-- comes exactly where it says so.
abbrev pub Holds : List ℕ → Catalog → Result Stmt SqlRefusal → Type 0
-- the text spells the statement, of which no name and no type fails
Holds text catalog (Ok s) = (x : GrownSelect) × IsTextOf text x × (s ≡ statement_of x) × (names_failing catalog x ≡ []) × (types_failing catalog x ≡ [])
-- it spells none
Holds text catalog (Err refusal.Q1) = (x : GrownSelect) → IsTextOf text x → ⊥
-- a name fails, first in the text at this byte
Holds text catalog (Err (refusal.Q2 byte)) = (x : GrownSelect) × IsTextOf text x × IsLeast (Some byte) (names_failing catalog x)
-- no name does, and an expression fails by its types, first in the text at this byte
Holds text catalog (Err (refusal.Q3 byte)) = (x : GrownSelect) × IsTextOf text x × (names_failing catalog x ≡ []) × IsLeast (Some byte) (types_failing catalog x)
Holds text catalog (Err refusal.Memory) = Unit {0}

-- Of the tree that a text spells, the answer is the statement where no name and no type fails; memory may run out.
abbrev pub IsAnswered : List ℕ → Catalog → Result Stmt SqlRefusal → Type 0
IsAnswered text catalog result =
    (x : GrownSelect) → IsTextOf text x → names_failing catalog x ≡ [] → types_failing catalog x ≡ [] → (result ≡ Ok (statement_of x)) ⊎ (result ≡ Err refusal.Memory)

-- Of the tree that a text spells, the answer is the statement where that is well formed over the catalog; memory may run out.
abbrev pub IsAccepted : List ℕ → Catalog → Result Stmt SqlRefusal → Type 0
IsAccepted text catalog result = (x : GrownSelect) → IsTextOf text x → IsWellFormed catalog (statement_of x) → (result ≡ Ok (statement_of x)) ⊎ (result ≡ Err refusal.Memory)

-- Of the text that is printed of a well-formed statement, as the machine's types hold it, the answer is that statement; memory may run out.
abbrev pub IsReadBack : List ℕ → Catalog → Result Stmt SqlRefusal → Type 0
IsReadBack text catalog result = (s : Stmt) → IsWellFormed catalog s → StatementFits s → text ≡ text_of (tokens_of s) → (result ≡ Ok s) ⊎ (result ≡ Err refusal.Memory)
