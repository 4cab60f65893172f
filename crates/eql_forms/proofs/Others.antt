-- The forms that are not built.
use Rattle.std.proofs.Common.{◌≡◌, List, None, refl, sym, ap, ◌∙◌, ℕ}
use denote.Hole.Carrier as carrier
use Rattle.ast.specs.declared.name.Span.{Span}
use Rattle.ast.specs.declared.expression.Binary.{Binary}
use Rattle.ast.specs.declared.expression.Expr as e
use Rattle.ast.specs.declared.expression.Expr.TheVariants.{rolls-Int, rolls-Group, rolls-Set, rolls-Binary}
use Rattle.ast.specs.declared.expression.Expr.TheViews.{out-Expr, roll-Expr, roll-out-Expr}
use Rattle.ast.specs.declared.expression.Expr.TheOpen as layer
use Rattle.eql_forms.specs.Built.{built}

-- an expression that is none of the built forms
pub built_none : (x : e.Expr) → ((at : Span) (digits : List ℕ) → x ≡ e.Int at digits → ⊥) → ((at : Span) (inner : e.Expr) → x ≡ e.Group at inner → ⊥)
    → ((at : Span) (all : List e.Expr) → x ≡ e.Set at all → ⊥) → ((at : Span) (b : Binary) → x ≡ e.Binary at b → ⊥) → built x ≡ None
unfolding built roll-Expr carrier.roll
built_none x is-Int is-Group is-Set is-Binary = ap built (sym (roll-out-Expr x)) ∙ elim (out-Expr x) as (λ f. roll-Expr f ≡ x → built (roll-Expr f) ≡ None) [
  | layer.Int at digits ↦ λ same. absurd (is-Int at digits (sym same ∙ sym (rolls-Int at digits)))
  | layer.Group at inner ↦ λ same. absurd (is-Group at inner (sym same ∙ sym (rolls-Group at inner)))
  | layer.Set at all ↦ λ same. absurd (is-Set at all (sym same ∙ sym (rolls-Set at all)))
  | layer.Binary at b ↦ λ same. absurd (is-Binary at b (sym same ∙ sym (rolls-Binary at b)))
  | layer.Str _ _ ↦ λ same. refl
  | layer.Bool _ _ ↦ λ same. refl
  | layer.PartialStep _ _ ↦ λ same. refl
  | layer.PartialBackLink _ _ ↦ λ same. refl
  | layer.PartialProperty _ _ ↦ λ same. refl
  | layer.Global _ _ ↦ λ same. refl
  | layer.Name _ _ ↦ λ same. refl
  | layer.Call _ _ _ ↦ λ same. refl
  | layer.Expr::Statement _ _ ↦ λ same. refl
  | layer.Tuple _ _ ↦ λ same. refl
  | layer.Postfix _ _ _ ↦ λ same. refl
  | layer.Shaped _ _ ↦ λ same. refl
  | layer.Cast _ _ _ ↦ λ same. refl
  | layer.Parameter _ _ ↦ λ same. refl
  | layer.Unary _ _ _ ↦ λ same. refl
  | layer.IfElse _ _ ↦ λ same. refl
  | layer.IfThen _ _ ↦ λ same. refl
] (roll-out-Expr x)
