-- One turn of the search for the longest bound prefix.
use Rattle.std.proofs.Common.{◌≡◌, ℕ, suc, ◌+◌, ◌-◌, ◌<◌, List, drop, Option, Some, None, refl, sym, ap, ◌∙◌, arith}
use Rattle.core_ir.specs.declared.path.Path.{Path}
use Rattle.core_ir.specs.declared.path.Step.{Step}
use Rattle.core_ir.specs.Path.{prefix}
use Rattle.eql_sem.specs.Bindings.{pick, nearest, or_shorter}
use Rattle.eql_sem.specs.declared.binding.Bound.{Bound}
use Rattle.eql_sem.specs.declared.binding.Name.{Name}
use Rattle.eql_sem.specs.declared.binding.Name.TheVariants as name

nearest_suc : (k : ℕ) (ns : List Name) (b : List Bound) (p : Path) → nearest (k + 1) ns b p ≡ or_shorter (pick ns b (name.Prefix (prefix k p))) (drop k p.steps) (nearest k ns b p)
nearest_suc k ns b p = let e : k + 1 ≡ suc k = omega arith in rw e refl

pub nearest_here : (count : ℕ) (ns : List Name) (b : List Bound) (p : Path) (x : Bound) → 0 < count → pick ns b (name.Prefix (prefix (count - 1) p)) ≡ Some x
    → ◌≡◌ {A = Option (Bound × List Step)} (Some (x, drop (count - 1) p.steps)) (nearest count ns b p)
nearest_here count ns b p x pos found =
    let e : count - 1 + 1 ≡ count = omega arith in
    sym (ap (λ (n : ℕ). nearest n ns b p) (sym e) ∙ nearest_suc (count - 1) ns b p ∙ ap (λ (o : Option Bound). or_shorter o (drop (count - 1) p.steps) (nearest (count - 1) ns b p)) found)

pub nearest_shorter : (count : ℕ) (ns : List Name) (b : List Bound) (p : Path) → 0 < count → pick ns b (name.Prefix (prefix (count - 1) p)) ≡ None
    → nearest (count - 1) ns b p ≡ nearest count ns b p
nearest_shorter count ns b p pos missed =
    let e : count - 1 + 1 ≡ count = omega arith in
    sym (ap (λ (n : ℕ). nearest n ns b p) (sym e) ∙ nearest_suc (count - 1) ns b p ∙ ap (λ (o : Option Bound). or_shorter o (drop (count - 1) p.steps) (nearest (count - 1) ns b p)) missed)
