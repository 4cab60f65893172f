-- How paths go on from a prefix: what decides, prefix by prefix, which ones a scope binds.
use Rattle.std.specs.Prelude.{◌≡◌, ℕ, Bool, true, false, not, ◌&&◌, List, length, fold, slice_get, Option, Some, None, if◌then◌else◌}
use Rattle.std.specs.Option.{unwrap_or}
use Rattle.std.specs.HashMap as hash
use Rattle.core_ir.specs.declared.path.Path.{Path}
use Rattle.core_ir.specs.declared.path.Step.{Step}
use Rattle.core_ir.specs.declared.tree.Direct.{Direct}
use Rattle.core_ir.specs.declared.tree.Occurrence.{Occurrence}
use Rattle.core_ir.specs.Path.{step_eq, path_eq, prefix, begins}
use Rattle.path_scope.specs.declared.branches.Onward.{Onward}
use Rattle.path_scope.specs.declared.branches.Onward.TheVariants as way
use Rattle.path_scope.specs.declared.branches.Node.{Node}
use Rattle.path_scope.specs.declared.branches.Seen.{Seen}
use Rattle.path_scope.specs.declared.branches.Seen.TheVariants as seen
use Rattle.path_scope.specs.declared.branches.Branches.{Branches}

-- how a path goes on that takes this step next, or ends
abbrev pub turn : Option Step → Onward
turn None = way.Apart
turn (Some s) = way.By s

-- how paths go on together, where some take one step and some another
abbrev pub together : Bool → Step → Onward
together true s = way.By s
together false s = way.Apart

-- how paths go on of which some go on like this and some like that
abbrev pub met : Onward → Onward → Onward
met way.Nowhere w = w
met (way.By s) way.Nowhere = way.By s
met (way.By s) (way.By t) = together (step_eq s t) s
met (way.By s) way.Apart = way.Apart
met way.Apart w = way.Apart

-- whether of paths that go on like this and paths that go on like that two part at once
abbrev pub part : Onward → Onward → Bool
part way.Nowhere w = false
part (way.By s) way.Nowhere = false
part (way.By s) (way.By t) = not (step_eq s t)
part (way.By s) way.Apart = true
part way.Apart way.Nowhere = false
part way.Apart (way.By t) = true
part way.Apart way.Apart = true

-- how a path goes on behind its first steps
abbrev pub behind : ℕ → Path → Onward
behind n a = turn (slice_get a.steps n)

-- a prefix that no path begins with
abbrev pub nothing : Node
nothing = record { direct = way.Nowhere; any = way.Nowhere; optional = true }

-- what is known of a prefix from which one more path goes on like this
abbrev pub with_path : Seen → Onward → Node → Node
with_path (seen.Directly optional) w n = record { direct = met n.direct w; any = n.any; optional = n.optional && optional }
with_path seen.Anywhere w n = record { direct = n.direct; any = met n.any w; optional = n.optional }

-- what is known of a prefix once a path's beginning of n steps is seen
abbrev pub seeing_at : ℕ → Seen → Path → Path → Node → Node
seeing_at n kind a p known = if path_eq (prefix n a) p then with_path kind (behind n a) known else known

-- what is known of a prefix once one more path is seen
abbrev pub seeing : Seen → Path → Path → Node → Node
seeing kind a p known = if begins p a then with_path kind (behind (length p.steps) a) known else known

-- what is known of a prefix once these direct occurrences are seen
abbrev pub seeing_direct : List Direct → Path → Node → Node
seeing_direct ds p known = fold (λ n (d : Direct). seeing (seen.Directly d.optional) d.occurrence.path p n) known ds

-- what is known of a prefix once these occurrences are seen
abbrev pub seeing_all : List Occurrence → Path → Node → Node
seeing_all os p known = fold (λ n (o : Occurrence). seeing seen.Anywhere o.path p n) known os

-- what is known of a prefix from the direct occurrences and the occurrences of a scope
abbrev pub node : List Direct → List Occurrence → Path → Node
node ds os p = seeing_all os p (seeing_direct ds p nothing)

-- what a map knows of a prefix
abbrev pub node_at : Branches → Path → Node
node_at b p = unwrap_or (hash.get path_eq b.nodes p) nothing

-- a map knows how these direct occurrences and these occurrences go on from each prefix
abbrev pub Knows : Branches → List Direct → List Occurrence → Type 0
Knows b ds os = (p : Path) → node_at b p ≡ node ds os p
