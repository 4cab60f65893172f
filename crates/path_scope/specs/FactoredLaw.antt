-- What the factored prefixes of a scope are, in the words of their definition.
use Rattle.std.specs.Prelude.{◌≡◌, ◌≢◌, ◌↔◌, IsTrue, List, All, AllPairs}
use Rattle.std.specs.List.{Any}
use Rattle.core_ir.specs.declared.path.Path.{Path}
use Rattle.core_ir.specs.declared.tree.Direct.{Direct}
use Rattle.core_ir.specs.declared.tree.Occurrence.{Occurrence}
use Rattle.core_ir.specs.Path.{begins}
use Rattle.path_scope.specs.declared.prefix.Prefix.{Prefix}
use Rattle.path_scope.specs.Factored.{factored, is_optional}

-- A path is the longest common prefix of two: it begins both, and whatever begins both begins it.
abbrev pub IsLongestCommon : Path → Path → Path → Type 0
IsLongestCommon p a b = IsTrue (begins p a) × IsTrue (begins p b) × ((q : Path) → IsTrue (begins q a) → IsTrue (begins q b) → IsTrue (begins q p))

-- A path is the longest common prefix of a direct occurrence and an occurrence.
abbrev pub Joins : List Direct → List Occurrence → Path → Type 0
Joins ds os p = Any (λ (d : Direct). Any (λ (o : Occurrence). IsLongestCommon p d.occurrence.path o.path) os) ds

-- A path is among the paths of prefixes.
abbrev pub IsAmong : List Prefix → Path → Type 0
IsAmong fs p = Any (λ (f : Prefix). p ≡ f.path) fs

-- A scope's factored prefixes are the longest common prefixes of a direct occurrence and an occurrence that are not
-- bound around it, each once. Each is optional exactly where every direct occurrence that it begins is.
pub record FactoredIsExact : Type 0 where
  pub listed : (ds : List Direct) (os : List Occurrence) (bound : List Path) (p : Path)
      → IsAmong (factored ds os bound) p ↔ (Joins ds os p × (Any (λ (q : Path). p ≡ q) bound → ⊥))
  pub once : (ds : List Direct) (os : List Occurrence) (bound : List Path) → AllPairs (λ (f g : Prefix). f.path ≢ g.path) (factored ds os bound)
  pub optional : (ds : List Direct) (os : List Occurrence) (bound : List Path) → All (λ (f : Prefix). f.optional ≡ is_optional ds f.path) (factored ds os bound)
