-- Bindings: what each name stands for. The names in scope and what they stand for are two lists of one length, the
-- newest first.
use Rattle.std.specs.Prelude.{ℕ, zero, suc, ◌==◌, Bool, false, List, [], ◌∷◌, drop, Option, Some, None, if◌then◌else◌}
use Rattle.core_ir.specs.declared.path.Path.{Path}
use Rattle.core_ir.specs.declared.path.Step.{Step}
use Rattle.core_ir.specs.Path.{path_eq, prefix}
use Rattle.ev_value.specs.Item.{one, all_of}
use Rattle.ev_value.specs.declared.item.Item.{Item}
use Rattle.ev_value.specs.declared.item.Item.TheVariants as item
use Rattle.ev_value.specs.declared.value.Val.{Val}
use Rattle.path_scope.specs.declared.prefix.Prefix.{Prefix}
use Rattle.eql_sem.specs.declared.binding.Name.{Name}
use Rattle.eql_sem.specs.declared.binding.Name.TheVariants as name
use Rattle.eql_sem.specs.declared.binding.Bound.{Bound}
use Rattle.eql_sem.specs.declared.binding.Bound.TheVariants as bound

abbrev pub name_eq : Name → Name → Bool
name_eq (name.Prefix p) (name.Prefix q) = path_eq p q
name_eq (name.Alias a) (name.Alias b) = a == b
name_eq _ _ = false

-- the prefixes among names
abbrev pub paths_of : List Name → List Path
paths_of [] = []
paths_of (name.Prefix p ∷ more) = p ∷ paths_of more
paths_of (name.Alias k ∷ more) = paths_of more

-- what stands beside a name
abbrev pub pick : {X : Type 0} → List Name → List X → Name → Option X
pick [] xs n = None
pick (m ∷ ms) [] n = None
pick (m ∷ ms) (x ∷ xs) n = if name_eq m n then Some x else pick ms xs n

-- what stands beside a prefix, with the steps that go on from it; else what was found before
abbrev pub or_shorter : {X : Type 0} → Option X → List Step → Option (X × List Step) → Option (X × List Step)
or_shorter (Some x) steps shorter = Some (x, steps)
or_shorter None steps shorter = shorter

-- what stands beside the longest bound prefix with fewer than so many steps, with the steps that go on from it
abbrev pub nearest : {X : Type 0} → ℕ → List Name → List X → Path → Option (X × List Step)
nearest zero ns xs p = None
nearest (suc k) ns xs p = or_shorter (pick ns xs (name.Prefix (prefix k p))) (drop k p.steps) (nearest k ns xs p)

-- the names in scope once a scope's prefixes are bound, the last one newest
abbrev pub within : List Prefix → List Name → List Name
within [] ns = ns
within (f ∷ fs) ns = within fs (name.Prefix f.path ∷ ns)

-- the value of a bound prefix as a list: none where it stands for nothing
abbrev pub given : Option Bound → List (Item Val)
given (Some (bound.One v)) = one v
given _ = []

-- the list of an alias
abbrev pub listed : Option Bound → List (Item Val)
listed (Some (bound.Listed vs)) = all_of vs
listed _ = []

-- each item as what a prefix is bound to
abbrev pub bound_to : List (Item Val) → List (Item Bound)
bound_to [] = []
bound_to (item.Value v ∷ xs) = item.Value (bound.One v) ∷ bound_to xs
bound_to (item.Fault e ∷ xs) = item.Fault e ∷ bound_to xs

-- what a prefix is bound to, one after the other: its items, or nothing once where it is optional and has none
abbrev pub turns : Bool → List (Item Val) → List (Item Bound)
turns optional [] = if optional then one bound.Nothing else []
turns optional (x ∷ xs) = bound_to (x ∷ xs)
