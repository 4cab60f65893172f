-- Two roots, steps or paths are the same exactly where they are equal.
use Rattle.std.proofs.Common.{◌≡◌, List, [], ◌∷◌, ◌&&◌, ◌==◌, refl, ap}
use Rattle.std.specs.Bool.{Decides}
use Rattle.std.specs.Str.{bytes_eq}
use Rattle.std.proofs.lemmas.Bool.Decides.{Decides-eqb, Decides-and, Decides-like}
use Rattle.std.proofs.lemmas.Slice.Eq.{bytes_eq-Decides}
use Rattle.core_ir.specs.declared.path.Path.{Path}
use Rattle.core_ir.specs.declared.path.PtrId.{PtrId}
use Rattle.core_ir.specs.declared.path.TypeId.{TypeId}
use Rattle.core_ir.specs.declared.path.Root.{Root}
use Rattle.core_ir.specs.declared.path.Root.TheVariants as root
use Rattle.core_ir.specs.declared.path.Step.{Step}
use Rattle.core_ir.specs.declared.path.Step.TheVariants as step
use Rattle.core_ir.specs.Path.{root_eq, step_eq, steps_eq, path_eq}

types : (a b : TypeId) → Decides (a.0 == b.0) (a ≡ b)
types a b = Decides-like (a.0 == b.0) (λ e. λ i. record { 0 = e i }) (λ e. λ i. (e i).0) (Decides-eqb a.0 b.0)

pointers : (a b : PtrId) → Decides (a.0 == b.0) (a ≡ b)
pointers a b = Decides-like (a.0 == b.0) (λ e. λ i. record { 0 = e i }) (λ e. λ i. (e i).0) (Decides-eqb a.0 b.0)

pub roots : (r s : Root) → Decides (root_eq r s) (r ≡ s)
roots (root.Extent a) (root.Extent b) = Decides-like (a.0 == b.0) (λ e. cc) (λ e. cc) (types a b)
roots (root.Alias a) (root.Alias b) = Decides-like (a == b) (λ e. cc) (λ e. cc) (Decides-eqb a b)
roots (root.Var a) (root.Var b) = Decides-like (a == b) (λ e. cc) (λ e. cc) (Decides-eqb a b)
roots (root.Subject a) (root.Subject b) = Decides-like (a == b) (λ e. cc) (λ e. cc) (Decides-eqb a b)
roots (root.Base a) (root.Base b) = Decides-like (a == b) (λ e. cc) (λ e. cc) (Decides-eqb a b)
roots _ _ = (λ e. cc, λ e. cc)

pub steps : (s t : Step) → Decides (step_eq s t) (s ≡ t)
steps (step.Dot a) (step.Dot b) = Decides-like (bytes_eq a b) (λ e. cc) (λ e. cc) (bytes_eq-Decides a b)
steps (step.BackDot a s) (step.BackDot b t) = Decides-like (bytes_eq a b && (s.0 == t.0)) (λ e. cc) (λ e. ((cc), (cc))) (Decides-and (bytes_eq a b) (s.0 == t.0) (bytes_eq-Decides a b) (types s t))
steps (step.Prop a) (step.Prop b) = Decides-like (a.0 == b.0) (λ e. cc) (λ e. cc) (pointers a b)
steps (step.Link a) (step.Link b) = Decides-like (a.0 == b.0) (λ e. cc) (λ e. cc) (pointers a b)
steps (step.Comp a) (step.Comp b) = Decides-like (a.0 == b.0) (λ e. cc) (λ e. cc) (pointers a b)
steps (step.Back a s) (step.Back b t) = Decides-like ((a.0 == b.0) && (s.0 == t.0)) (λ e. cc) (λ e. ((cc), (cc))) (Decides-and (a.0 == b.0) (s.0 == t.0) (pointers a b) (types s t))
steps (step.Is a) (step.Is b) = Decides-like (a.0 == b.0) (λ e. cc) (λ e. cc) (types a b)
steps (step.LinkProp a) (step.LinkProp b) = Decides-like (bytes_eq a b) (λ e. cc) (λ e. cc) (bytes_eq-Decides a b)
steps _ _ = (λ e. cc, λ e. cc)

pub lists : (ss ts : List Step) → Decides (steps_eq ss ts) (ss ≡ ts)
lists [] [] = (λ e. refl, λ e. refl)
lists [] (t ∷ ts) = (λ e. cc, λ e. cc)
lists (s ∷ ss) [] = (λ e. cc, λ e. cc)
lists (s ∷ ss) (t ∷ ts) = Decides-like (step_eq s t && steps_eq ss ts) (λ e. cc) (λ e. ((cc), (cc))) (Decides-and (step_eq s t) (steps_eq ss ts) (steps s t) (lists ss ts))

pub paths : (p q : Path) → Decides (path_eq p q) (p ≡ q)
paths p q = Decides-like (path_eq p q) (λ e. λ i. record { root = e.0 i; steps = e.1 i }) (λ e. (ap (λ (r : Path). r.root) e, ap (λ (r : Path). r.steps) e)) (Decides-and (root_eq p.root q.root) (steps_eq p.steps q.steps) (roots p.root q.root) (lists p.steps q.steps))
