-- What is around a place in the text: aliases, variables and subjects, the innermost first.
use Rattle.std.specs.Prelude.{ℕ, Bool, true, false, List, [], ◌∷◌, ◌++◌, codes, slice_get, Option, Some, None, option_map, if◌then◌else◌}
use Rattle.std.specs.Str.{bytes_eq}
use Rattle.core_ir.specs.declared.path.Path.{Path}
use Rattle.core_ir.specs.declared.path.Root.{Root}
use Rattle.core_ir.specs.declared.path.Root.TheVariants as root
use Rattle.core_ir.specs.declared.path.TypeId.{TypeId}
use Rattle.core_ir.specs.declared.tree.Alias.{Alias}
use Rattle.ev_names.specs.Names.{place_of}
use Rattle.eql_naming.specs.declared.around.Around.{Around, Nothing, Variable', Aliases', Subject'}
use Rattle.eql_naming.specs.declared.around.Subject.{Subject}

pub data Entry : Type 0 where
  -- the variable of a `for` and its number
  Variable : List ℕ → ℕ → Entry
  -- the names of one `with`, and what they stand for
  Aliases : List (List ℕ) → List Alias → Entry
  -- what partial paths go on from
  On : Subject → Entry

-- what is around a place, as the code keeps it
abbrev pub entries : Around → List Entry
entries Nothing = []
entries (Variable' _ outer name number) = Variable name.now number ∷ entries outer
entries (Aliases' _ outer names aliases) = Aliases names.now aliases.now ∷ entries outer
entries (Subject' _ outer subject) = On subject.now ∷ entries outer

-- the alias at a place
abbrev pub alias_at : List Alias → Option ℕ → Option Root
alias_at aliases None = None
alias_at aliases (Some i) = option_map (λ a. root.Alias a.number) (slice_get aliases i)

abbrev pub or_root : Option Root → Option Root → Option Root
or_root (Some r) other = Some r
or_root None other = other

-- the alias or variable with a name, the innermost one
abbrev pub find : List Entry → List ℕ → Option Root
find [] name = None
find (Variable other number ∷ outer) name = if bytes_eq other name then Some (root.Var number) else find outer name
find (Aliases names aliases ∷ outer) name = or_root (alias_at aliases (place_of name names)) (find outer name)
find (On _ ∷ outer) name = find outer name

-- the innermost subject
abbrev pub subject_of : List Entry → Option Subject
subject_of [] = None
subject_of (Variable _ _ ∷ outer) = subject_of outer
subject_of (Aliases _ _ ∷ outer) = subject_of outer
subject_of (On s ∷ outer) = Some s

-- the innermost subject, where it is that of an element `p: {..}`
abbrev pub of_element : Option Subject → Option Subject
of_element None = None
of_element (Some s) = if s.of_element then Some s else None
