-- The occurrences of parts with the scopes that contain them, where the parts' first scope has a number.
use Rattle.std.specs.Prelude.{ℕ, suc, ◌+◌, Bool, false, List, [], ◌∷◌, ◌++◌, Option, Some, None}
use Rattle.core_ir.specs.declared.scoped_paths.ScopedPath.{ScopedPath}
use Rattle.core_ir.specs.declared.tree.Scope.{Scope}
use Rattle.core_ir.specs.declared.tree.Alias.{Alias}
use Rattle.core_ir.specs.declared.tree.Conditional.{Conditional}
use Rattle.core_ir.specs.declared.tree.Element.{Element}
use Rattle.core_ir.specs.declared.tree.Expr.{Expr}
use Rattle.core_ir.specs.declared.tree.Key.{Key}
use Rattle.core_ir.specs.declared.tree.Order.{Order}
use Rattle.core_ir.specs.declared.tree.Order.TheVariants as order
use Rattle.core_ir.specs.declared.tree.Select.{Select, out-Select}
use Rattle.core_ir.specs.ScopedPaths.{scopes_in, scopes_in_key, paths_in, paths_in_key}

-- what is found in parts one after the other, where the scopes of each are numbered behind those of the parts before it
abbrev pub in_turn : {A : Type 0} → (A → ℕ) → (A → ℕ → List ScopedPath) → List A → ℕ → List ScopedPath
in_turn scopes paths [] n = []
in_turn scopes paths (x ∷ xs) n = paths x n ++ in_turn scopes paths xs (n + scopes x)

-- how many scopes parts have one after the other
abbrev pub total : {A : Type 0} → (A → ℕ) → List A → ℕ
total scopes [] = 0
total scopes (x ∷ xs) = scopes x + total scopes xs

-- of an expression, in these scopes and in an optional argument or not
abbrev pub paths_of : List ℕ → Bool → Expr → ℕ → List ScopedPath
paths_of around optional x n = paths_in x n around optional

abbrev pub scopes_of_scope : Scope → ℕ
scopes_of_scope s = suc (scopes_in s.body)

abbrev pub paths_of_scope : List ℕ → Scope → ℕ → List ScopedPath
paths_of_scope around s n = paths_in s.body (suc n) (around ++ n ∷ []) false

abbrev pub scopes_of_alias : Alias → ℕ
scopes_of_alias a = scopes_of_scope a.value

abbrev pub paths_of_alias : List ℕ → Alias → ℕ → List ScopedPath
paths_of_alias around a n = paths_of_scope around a.value n

abbrev pub scopes_of_element : Element → ℕ
scopes_of_element x = scopes_of_scope x.value

abbrev pub paths_of_element : List ℕ → Element → ℕ → List ScopedPath
paths_of_element around x n = paths_of_scope around x.value n

abbrev pub paths_of_key : List ℕ → Key → ℕ → List ScopedPath
paths_of_key around k n = paths_in_key k n around

abbrev pub scopes_of_clause : Option Scope → ℕ
scopes_of_clause None = 0
scopes_of_clause (Some s) = scopes_of_scope s

abbrev pub paths_of_clause : List ℕ → Option Scope → ℕ → List ScopedPath
paths_of_clause around None n = []
paths_of_clause around (Some s) n = paths_of_scope around s n

abbrev pub scopes_of_choice : Conditional → ℕ
scopes_of_choice c = scopes_in c.condition + scopes_of_scope c.value + scopes_of_scope c.other

-- of a choice's condition, value and other value in the order of the text
abbrev pub paths_by_order : Order → List ℕ → Bool → Expr → Scope → Scope → ℕ → List ScopedPath
paths_by_order order.ValueFirst around optional condition value other n =
    paths_of_scope around value n ++ paths_in condition (n + scopes_of_scope value) around optional
    ++ paths_of_scope around other (n + scopes_of_scope value + scopes_in condition)
paths_by_order order.ConditionFirst around optional condition value other n =
    paths_in condition n around optional ++ paths_of_scope around value (n + scopes_in condition)
    ++ paths_of_scope around other (n + scopes_in condition + scopes_of_scope value)

abbrev pub paths_of_choice : List ℕ → Bool → Conditional → ℕ → List ScopedPath
paths_of_choice around optional c n = paths_by_order c.order around optional c.condition c.value c.other n

-- the scope of a statement's rows and those inside it
abbrev pub scopes_of_rows : Select → ℕ
scopes_of_rows s = suc (scopes_in (out-Select s).subject + scopes_of_clause (out-Select s).filter + total scopes_in_key (out-Select s).keys)

abbrev pub paths_of_rows : List ℕ → Select → ℕ → List ScopedPath
paths_of_rows around s n =
    let inner = around ++ n ∷ [] in
    let r = out-Select s in
    paths_in r.subject (suc n) inner false ++ paths_of_clause inner r.filter (suc n + scopes_in r.subject)
    ++ in_turn scopes_in_key (paths_of_key inner) r.keys (suc n + scopes_in r.subject + scopes_of_clause r.filter)

-- the scope of a loop and those inside it
abbrev pub scopes_of_loop : Scope → Scope → ℕ
scopes_of_loop iterator body = suc (scopes_of_scope iterator + scopes_of_scope body)

abbrev pub paths_of_loop : List ℕ → Scope → Scope → ℕ → List ScopedPath
paths_of_loop around iterator body n =
    let inner = around ++ n ∷ [] in
    paths_of_scope inner iterator (suc n) ++ paths_of_scope inner body (suc n + scopes_of_scope iterator)
