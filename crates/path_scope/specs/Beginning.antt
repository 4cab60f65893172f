-- Beginnings of paths as keys: that two paths are the same is an equivalence, and the same paths have one hash.
use Rattle.std.specs.Prelude.{◌≡◌, ℕ, Bool, true, false, List, ◌++◌, flat_map, IsTrue}
use Rattle.std.proofs.Common.{refl, sym, ap, ◌∙◌}
use Rattle.std.specs.Cmp.{IsEquivalence}
use Rattle.std.specs.Hash as fed
use Rattle.core_ir.specs.declared.path.Path.{Path}
use Rattle.core_ir.specs.declared.path.Root.{Root}
use Rattle.core_ir.specs.declared.path.Root.TheVariants as root
use Rattle.core_ir.specs.declared.path.Step.{Step}
use Rattle.core_ir.specs.declared.path.Step.TheVariants as step
use Rattle.core_ir.specs.Path.{path_eq}
use Rattle.core_ir.proofs.Paths.{paths}

-- what is hashed of a root: its number
abbrev pub root_input : Root → List (List ℕ)
root_input (root.Extent t) = fed.u32 t.0
root_input (root.Alias k) = fed.u32 k
root_input (root.Var k) = fed.u32 k
root_input (root.Subject k) = fed.u32 k
root_input (root.Base k) = fed.u32 k

-- what is hashed of a step: its name or number
abbrev pub step_input : Step → List (List ℕ)
step_input (step.Dot name) = fed.str name
step_input (step.BackDot name t) = fed.str name
step_input (step.Prop p) = fed.u32 p.0
step_input (step.Link p) = fed.u32 p.0
step_input (step.Comp p) = fed.u32 p.0
step_input (step.Back p t) = fed.u32 p.0
step_input (step.Is t) = fed.u32 t.0
step_input (step.LinkProp name) = fed.str name

-- what is hashed of a path: its root, and then its steps in their order
abbrev pub path_input : Path → List (List ℕ)
path_input p = root_input p.root ++ flat_map step_input p.steps

-- a path is the same as itself
pub path_itself : (p : Path) → path_eq p p ≡ true
path_itself p = (paths p p).1 refl

-- a path is the same as another where that is the same as it
turned : (b c : Bool) (p q : Path) → path_eq p q ≡ b → path_eq q p ≡ c → b ≡ c
turned true true p q e f = refl
turned false false p q e f = refl
turned true false p q e f = sym (path_itself q) ∙ ap (path_eq q) (sym ((paths p q).0 e)) ∙ f
turned false true p q e f = sym e ∙ ap (path_eq p) ((paths q p).0 f) ∙ path_itself p

-- being the same is an equivalence
pub path_equivalence : IsEquivalence path_eq
path_equivalence = record {
  refl = path_itself;
  symm = λ p q. turned (path_eq p q) (path_eq q p) p q refl refl;
  congr = λ p q r e. ap (λ s. path_eq s r) ((paths p q).0 e);
}

-- the same paths are hashed alike
pub path_alike : (p q : Path) → IsTrue (path_eq p q) → path_input p ≡ path_input q
path_alike p q e = ap path_input ((paths p q).0 e)
