-- Paths: when two are the same, and what one begins with.
use Rattle.std.specs.Prelude.{◌≡◌, ◌↔◌, IsTrue, ℕ, ◌+◌, ◌==◌, Bool, true, false, ◌&&◌, List, [], ◌∷◌, take, length, if◌then◌else◌}
use Rattle.std.specs.Str.{bytes_eq}
use Rattle.core_ir.specs.declared.path.Path.{Path}
use Rattle.core_ir.specs.declared.path.Root.{Root}
use Rattle.core_ir.specs.declared.path.Root.TheVariants as root
use Rattle.core_ir.specs.declared.path.Step.{Step}
use Rattle.core_ir.specs.declared.path.Step.TheVariants as step

abbrev pub root_eq : Root → Root → Bool
root_eq (root.Extent a) (root.Extent b) = a.0 == b.0
root_eq (root.Alias a) (root.Alias b) = a == b
root_eq (root.Var a) (root.Var b) = a == b
root_eq (root.Subject a) (root.Subject b) = a == b
root_eq (root.Base a) (root.Base b) = a == b
root_eq _ _ = false

abbrev pub step_eq : Step → Step → Bool
step_eq (step.Dot s) (step.Dot t) = bytes_eq s t
step_eq (step.BackDot s a) (step.BackDot t b) = bytes_eq s t && (a.0 == b.0)
step_eq (step.Prop a) (step.Prop b) = a.0 == b.0
step_eq (step.Link a) (step.Link b) = a.0 == b.0
step_eq (step.Comp a) (step.Comp b) = a.0 == b.0
step_eq (step.Back p a) (step.Back q b) = (p.0 == q.0) && (a.0 == b.0)
step_eq (step.Is a) (step.Is b) = a.0 == b.0
step_eq (step.LinkProp s) (step.LinkProp t) = bytes_eq s t
step_eq _ _ = false

-- how many steps two lists of steps begin with alike
abbrev pub alike : List Step → List Step → ℕ
alike (s ∷ ss) (t ∷ ts) = if step_eq s t then alike ss ts + 1 else 0
alike _ _ = 0

abbrev pub steps_eq : List Step → List Step → Bool
steps_eq [] [] = true
steps_eq (s ∷ ss) (t ∷ ts) = step_eq s t && steps_eq ss ts
steps_eq _ _ = false

-- whether two paths are one: the same root and the same steps
abbrev pub path_eq : Path → Path → Bool
path_eq p q = root_eq p.root q.root && steps_eq p.steps q.steps

-- a root and the first n of its steps
abbrev pub prefix : ℕ → Path → Path
prefix n p = record { root = p.root; steps = take n p.steps }

-- whether a path goes on from another, or is that one
abbrev pub begins : Path → Path → Bool
begins p q = path_eq p (prefix (length p.steps) q)

-- a root alone
abbrev pub root_path : Root → Path
root_path r = record { root = r; steps = [] }

-- the subject with a number
abbrev pub subject : ℕ → Path
subject k = root_path (root.Subject k)

-- the variable of the `for` with a number
abbrev pub variable : ℕ → Path
variable k = root_path (root.Var k)

-- Two paths are the same exactly where they are equal, and so are roots and steps.
pub record PathsAreEqual : Type 0 where
  pub of_roots : (r s : Root) → IsTrue (root_eq r s) ↔ (r ≡ s)
  pub of_steps : (s t : Step) → IsTrue (step_eq s t) ↔ (s ≡ t)
  pub of_paths : (p q : Path) → IsTrue (path_eq p q) ↔ (p ≡ q)
