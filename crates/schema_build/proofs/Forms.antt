-- The digits, the type and the value of each form of expression that a literal has, as the code makes the form, and of the others.
use Rattle.std.proofs.Common.{◌≡◌, ℕ, List, Bool, Some, None, refl, sym, ap, ◌∙◌}
use denote.Hole.Carrier as carrier
use Rattle.ast.specs.declared.name.Span.{Span}
use Rattle.ast.specs.declared.operator.UnaryOperator.{UnaryOperator}
use Rattle.ast.specs.declared.expression.Expr as e
use Rattle.ast.specs.declared.expression.Expr.TheBlock as block
use Rattle.ast.specs.declared.expression.Expr.TheVariants.{rolls-Int, rolls-Str, rolls-Bool, rolls-Unary}
use Rattle.ast.specs.declared.expression.Expr.TheViews.{out-Expr, roll-Expr, roll-out-Expr}
use Rattle.ast.specs.declared.expression.Expr.TheOpen as layer
use Rattle.ev_value.specs.declared.value.ScalarTy.TheVariants as scalar
use Rattle.ev_value.specs.declared.value.Val.TheVariants as made
use Rattle.schema_build.specs.Literal.{bare_digits, digits_of, signed_type, bare_type, number, signed, bare_literal}

pub digits_of_int : (at : Span) (digits : List ℕ) → bare_digits (e.Int at digits) ≡ Some digits
unfolding bare_digits
digits_of_int at digits = refl

pub type_of_int : (at : Span) (digits : List ℕ) → bare_type (e.Int at digits) ≡ Some scalar.Int64
unfolding bare_type
type_of_int at digits = refl

pub type_of_str : (at : Span) (text : List ℕ) → bare_type (e.Str at text) ≡ Some scalar.Str
unfolding bare_type
type_of_str at text = refl

pub type_of_bool : (at : Span) (truth : Bool) → bare_type (e.Bool at truth) ≡ Some scalar.Bool
unfolding bare_type
type_of_bool at truth = refl

pub type_of_unary : (at : Span) (found : UnaryOperator) (operand : e.Expr) → bare_type (e.Unary at found operand) ≡ signed_type found (digits_of operand)
unfolding bare_type block.hidden-the_row-Expr-2 carrier.hidden
type_of_unary at found operand = refl

pub value_of_int : (at : Span) (digits : List ℕ) → bare_literal (e.Int at digits) ≡ number digits
unfolding bare_literal
value_of_int at digits = refl

pub value_of_str : (at : Span) (text : List ℕ) → bare_literal (e.Str at text) ≡ Some (made.Str text)
unfolding bare_literal
value_of_str at text = refl

pub value_of_bool : (at : Span) (truth : Bool) → bare_literal (e.Bool at truth) ≡ Some (made.Bool truth)
unfolding bare_literal
value_of_bool at truth = refl

pub value_of_unary : (at : Span) (found : UnaryOperator) (operand : e.Expr) → bare_literal (e.Unary at found operand) ≡ signed found (digits_of operand)
unfolding bare_literal block.hidden-the_row-Expr-2 carrier.hidden
value_of_unary at found operand = refl

pub no_digits : (x : e.Expr) → ((at : Span) (digits : List ℕ) → x ≡ e.Int at digits → ⊥) → bare_digits x ≡ None
unfolding bare_digits roll-Expr carrier.roll
no_digits x int = ap bare_digits (sym (roll-out-Expr x)) ∙ elim (out-Expr x) as (λ f. roll-Expr f ≡ x → bare_digits (roll-Expr f) ≡ None) [
  | layer.Int at digits ↦ λ same. absurd (int at digits (sym same ∙ sym (rolls-Int at digits)))
  | layer.Group _ _ ↦ λ same. refl
  | layer.Set _ _ ↦ λ same. refl
  | layer.Binary _ _ ↦ λ same. refl
  | layer.PartialStep _ _ ↦ λ same. refl
  | layer.PartialBackLink _ _ ↦ λ same. refl
  | layer.PartialProperty _ _ ↦ λ same. refl
  | layer.Global _ _ ↦ λ same. refl
  | layer.Name _ _ ↦ λ same. refl
  | layer.Call _ _ _ ↦ λ same. refl
  | layer.Expr::Statement _ _ ↦ λ same. refl
  | layer.Tuple _ _ ↦ λ same. refl
  | layer.Postfix _ _ _ ↦ λ same. refl
  | layer.Shaped _ _ ↦ λ same. refl
  | layer.Cast _ _ _ ↦ λ same. refl
  | layer.Parameter _ _ ↦ λ same. refl
  | layer.IfElse _ _ ↦ λ same. refl
  | layer.IfThen _ _ ↦ λ same. refl
  | layer.Str _ _ ↦ λ same. refl
  | layer.Bool _ _ ↦ λ same. refl
  | layer.Unary _ _ _ ↦ λ same. refl
] (roll-out-Expr x)

pub no_type : (x : e.Expr) → ((at : Span) (digits : List ℕ) → x ≡ e.Int at digits → ⊥) → ((at : Span) (text : List ℕ) → x ≡ e.Str at text → ⊥)
    → ((at : Span) (truth : Bool) → x ≡ e.Bool at truth → ⊥) → ((at : Span) (found : UnaryOperator) (operand : e.Expr) → x ≡ e.Unary at found operand → ⊥) → bare_type x ≡ None
unfolding bare_type roll-Expr carrier.roll
no_type x int str bool unary = ap bare_type (sym (roll-out-Expr x)) ∙ elim (out-Expr x) as (λ f. roll-Expr f ≡ x → bare_type (roll-Expr f) ≡ None) [
  | layer.Int at digits ↦ λ same. absurd (int at digits (sym same ∙ sym (rolls-Int at digits)))
  | layer.Str at text ↦ λ same. absurd (str at text (sym same ∙ sym (rolls-Str at text)))
  | layer.Bool at truth ↦ λ same. absurd (bool at truth (sym same ∙ sym (rolls-Bool at truth)))
  | layer.Unary at found operand ↦ λ same. absurd (unary at found operand (sym same ∙ sym (rolls-Unary at found operand)))
  | layer.Group _ _ ↦ λ same. refl
  | layer.Set _ _ ↦ λ same. refl
  | layer.Binary _ _ ↦ λ same. refl
  | layer.PartialStep _ _ ↦ λ same. refl
  | layer.PartialBackLink _ _ ↦ λ same. refl
  | layer.PartialProperty _ _ ↦ λ same. refl
  | layer.Global _ _ ↦ λ same. refl
  | layer.Name _ _ ↦ λ same. refl
  | layer.Call _ _ _ ↦ λ same. refl
  | layer.Expr::Statement _ _ ↦ λ same. refl
  | layer.Tuple _ _ ↦ λ same. refl
  | layer.Postfix _ _ _ ↦ λ same. refl
  | layer.Shaped _ _ ↦ λ same. refl
  | layer.Cast _ _ _ ↦ λ same. refl
  | layer.Parameter _ _ ↦ λ same. refl
  | layer.IfElse _ _ ↦ λ same. refl
  | layer.IfThen _ _ ↦ λ same. refl
] (roll-out-Expr x)

pub no_value : (x : e.Expr) → ((at : Span) (digits : List ℕ) → x ≡ e.Int at digits → ⊥) → ((at : Span) (text : List ℕ) → x ≡ e.Str at text → ⊥)
    → ((at : Span) (truth : Bool) → x ≡ e.Bool at truth → ⊥) → ((at : Span) (found : UnaryOperator) (operand : e.Expr) → x ≡ e.Unary at found operand → ⊥) → bare_literal x ≡ None
unfolding bare_literal roll-Expr carrier.roll
no_value x int str bool unary = ap bare_literal (sym (roll-out-Expr x)) ∙ elim (out-Expr x) as (λ f. roll-Expr f ≡ x → bare_literal (roll-Expr f) ≡ None) [
  | layer.Int at digits ↦ λ same. absurd (int at digits (sym same ∙ sym (rolls-Int at digits)))
  | layer.Str at text ↦ λ same. absurd (str at text (sym same ∙ sym (rolls-Str at text)))
  | layer.Bool at truth ↦ λ same. absurd (bool at truth (sym same ∙ sym (rolls-Bool at truth)))
  | layer.Unary at found operand ↦ λ same. absurd (unary at found operand (sym same ∙ sym (rolls-Unary at found operand)))
  | layer.Group _ _ ↦ λ same. refl
  | layer.Set _ _ ↦ λ same. refl
  | layer.Binary _ _ ↦ λ same. refl
  | layer.PartialStep _ _ ↦ λ same. refl
  | layer.PartialBackLink _ _ ↦ λ same. refl
  | layer.PartialProperty _ _ ↦ λ same. refl
  | layer.Global _ _ ↦ λ same. refl
  | layer.Name _ _ ↦ λ same. refl
  | layer.Call _ _ _ ↦ λ same. refl
  | layer.Expr::Statement _ _ ↦ λ same. refl
  | layer.Tuple _ _ ↦ λ same. refl
  | layer.Postfix _ _ _ ↦ λ same. refl
  | layer.Shaped _ _ ↦ λ same. refl
  | layer.Cast _ _ _ ↦ λ same. refl
  | layer.Parameter _ _ ↦ λ same. refl
  | layer.IfElse _ _ ↦ λ same. refl
  | layer.IfThen _ _ ↦ λ same. refl
] (roll-out-Expr x)
