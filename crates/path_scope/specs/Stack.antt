-- A stack of open scopes, the innermost last, each with the paths that are attached to it.
use Rattle.std.specs.Prelude.{◌≡◌, ℕ, ◌-◌, ◌≤◌, ◌==◌, nat_lt, IsTrue, Bool, true, false, ◌&&◌, List, [], length, take, flat_map, Option, Some, None, MatchOption, if◌then◌else◌}
use Rattle.std.specs.List.{list_any, Any, All, slice_index_or}
use Rattle.core_ir.specs.declared.path.Path.{Path}
use Rattle.core_ir.specs.Path.{path_eq, begins}
use Rattle.path_scope.specs.declared.stack.Attached.{Attached}

-- all that is attached to open scopes
abbrev pub attached_in : List (List Attached) → List Attached
attached_in open_scopes = flat_map (λ (s : List Attached). s) open_scopes

-- whether an open scope binds a path
abbrev pub is_open : List (List Attached) → Path → Bool
is_open open_scopes p = list_any (λ a. path_eq p a.path) (attached_in open_scopes)

-- whether an alias number is in use
abbrev pub in_use : List (List Attached) → ℕ → Bool
in_use open_scopes k = list_any (λ (a : Attached). a.alias == k) (attached_in open_scopes)

-- all open scopes but the innermost one
abbrev pub outer : List (List Attached) → List (List Attached)
outer open_scopes = take (length open_scopes - 1) open_scopes

-- the innermost one
abbrev pub innermost : List (List Attached) → List Attached
innermost open_scopes = slice_index_or open_scopes (length open_scopes - 1) []

-- how many steps the longest path has that is attached and begins a path, with its alias number; none begins it exactly
-- where there is no answer
abbrev pub IsLongestBound : List (List Attached) → Path → Option (ℕ × ℕ) → Type 0
IsLongestBound open_scopes p r = MatchOption r
    (All (λ (a : Attached). begins a.path p ≡ false) (attached_in open_scopes))
    (λ found. Any (λ (a : Attached). IsTrue (begins a.path p) × (length a.path.steps ≡ found.0) × (a.alias ≡ found.1)) (attached_in open_scopes)
    × All (λ (a : Attached). IsTrue (begins a.path p) → length a.path.steps ≤ found.0) (attached_in open_scopes))

-- the better of an answer so far and one more attached path
abbrev pub longer_than : Option (ℕ × ℕ) → ℕ → Bool
longer_than None n = true
longer_than (Some found) n = nat_lt found.0 n

abbrev pub better : Path → Option (ℕ × ℕ) → Attached → Option (ℕ × ℕ)
better p best a = if begins a.path p && longer_than best (length a.path.steps) then Some (length a.path.steps, a.alias) else best
