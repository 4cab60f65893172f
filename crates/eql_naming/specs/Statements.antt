-- The rules of statements, their aliases and clauses.
use Rattle.std.specs.Prelude.{ℕ, Bool, true, false, not, List, [], ◌∷◌, ◌++◌, Option, Some, None}
use Rattle.plan.specs.Ruled.{gives, refuses, must, known, fresh, ◌>>=◌, ◌>>◌}
use Rattle.ast.specs.declared.statement.Statement as read
use Rattle.ast.specs.declared.statement.EmptyPlace.{EmptyPlace}
use Rattle.ast.specs.declared.statement.EmptyPlace.TheVariants as place
use Rattle.core_ir.specs.declared.tree.Alias.{Alias}
use Rattle.core_ir.specs.declared.tree.Expr.{Expr}
use Rattle.core_ir.specs.declared.tree.Expr.TheVariants as expr
use Rattle.core_ir.specs.declared.tree.Key.{Key}
use Rattle.core_ir.specs.declared.tree.Key.TheVariants as key
use Rattle.core_ir.specs.declared.tree.Scope.{Scope}
use Rattle.ev_list.specs.declared.order.Absent.{Absent}
use Rattle.ev_list.specs.declared.order.Absent.TheVariants as absent
use Rattle.ev_names.specs.Names.{is_among}
use Rattle.eql_naming.specs.declared.around.Subject.{Subject}
use Rattle.eql_naming.specs.declared.clauses.Clauses.{Clauses}
use Rattle.eql_naming.specs.declared.clauses.Defined.{Defined}
use Rattle.eql_naming.specs.declared.clauses.Rows.{Rows}
use Rattle.eql_naming.specs.declared.refusal.NameRule.TheVariants.{N5}
use Rattle.eql_naming.specs.declared.refusal.NameRefusal.TheVariants.{Rule}
use Rattle.eql_naming.specs.Around.{Entry, Aliases, Variable}
use Rattle.eql_naming.specs.Naming.{Naming}
use Rattle.eql_naming.specs.Paths.{scope_at, subject_at}
use Rattle.eql_naming.specs.Shapes.{selected}

-- where a statement begins
abbrev pub start_of_statement : read.Statement → ℕ
start_of_statement (read.Select' at _ _ _ _ _ _ _ _ _) = at.start
start_of_statement (read.For' at _ _ _ _ _ _) = at.start

-- no aliases
abbrev pub undefined : Defined
undefined = record { names = []; aliases = [] }

-- what is around a place where aliases are defined
abbrev pub defining : Defined → List Entry → List Entry
defining d s = Aliases d.names d.aliases ∷ s

-- one more alias
abbrev pub defined_too : Defined → List ℕ → ℕ → Scope → Defined
defined_too d name k v = record { names = d.names ++ name ∷ []; aliases = d.aliases ++ record { number = k; value = v } ∷ [] }

-- one more alias of a value, whose first byte is given
unfoldable pub named : Defined → ℕ → List ℕ → Scope → Naming Defined
named d start name v = do
  _ ← must (not (is_among name d.names)) (Rule N5 start)
  k ← fresh
  gives (defined_too d name k v)

-- one more alias, over its definition
unfoldable pub alias : Defined → ℕ → List ℕ → Naming Scope → Naming Defined
alias d start name value = do
  v ← value
  named d start name v

-- where an order puts what is empty: least, if nothing is said
abbrev pub absent_ascending : Option EmptyPlace → Absent
absent_ascending None = absent.First
absent_ascending (Some place.First) = absent.First
absent_ascending (Some place.Last) = absent.Last

abbrev pub absent_descending : Option EmptyPlace → Absent
absent_descending None = absent.Last
absent_descending (Some place.First) = absent.First
absent_descending (Some place.Last) = absent.Last

unfoldable pub ascending : Option EmptyPlace → Naming Scope → Naming Key
ascending p value = do
  v ← value
  gives (key.Ascending (absent_ascending p) v)

unfoldable pub descending : Option EmptyPlace → Naming Scope → Naming Key
descending p value = do
  v ← value
  gives (key.Descending (absent_descending p) v)

-- the clauses of a statement behind its filter and its keys
unfoldable pub cut : Option Scope → List Key → Naming (Option Scope) → Naming (Option Scope) → Naming Clauses
cut f ks offset limit = do
  o ← offset
  l ← limit
  gives (record { filter = f; keys = ks; offset = o; limit = l })

-- the clauses of a statement, in the order of the text
unfoldable pub clauses : Naming (Option Scope) → Naming (List Key) → Naming (Option Scope) → Naming (Option Scope) → Naming Clauses
clauses filter keys offset limit = do
  f ← filter
  ks ← keys
  cut f ks offset limit

-- The subject and the clauses of a select. Filter and keys stand behind the subject, offset and limit do not.
unfoldable pub rows : List Entry → (List Entry → Naming Expr) → (Subject → List Entry → Naming Clauses) → Naming Rows
rows s subject behind = do
  x ← subject s
  k ← fresh
  c ← behind (subject_at x k) s
  gives (record { subject = x; number = k; clauses = c })

-- a select behind its aliases
unfoldable pub select_behind : List Entry → ℕ → Defined → (List Entry → Naming Expr) → (Subject → List Entry → Naming Clauses) → Naming Expr
select_behind s start d subject behind = do
  p ← rows (defining d s) subject behind
  gives (selected start d.aliases p.subject p.number p.clauses)

-- a select with the aliases before it
unfoldable pub select : List Entry → ℕ → Naming Defined → (List Entry → Naming Expr) → (Subject → List Entry → Naming Clauses) → Naming Expr
select s start aliases subject behind = do
  d ← aliases
  select_behind s start d subject behind

-- a loop behind its aliases
unfoldable pub for_each_behind : List Entry → ℕ → List ℕ → Defined → (List Entry → Naming Scope) → (List Entry → Naming Scope) → Naming Expr
for_each_behind s start name d iterator body = do
  x ← iterator (defining d s)
  k ← fresh
  y ← body (Variable name k ∷ defining d s)
  gives (expr.For start d.aliases k x y)

-- a loop: its aliases, its iterator, and its body, where the variable is known
unfoldable pub for_each : List Entry → ℕ → List ℕ → Naming Defined → (List Entry → Naming Scope) → (List Entry → Naming Scope) → Naming Expr
for_each s start name aliases iterator body = do
  d ← aliases
  for_each_behind s start name d iterator body
