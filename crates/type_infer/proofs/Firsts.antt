-- The rule of a form by what is told of its first part, and of the form whose first part has its types.
use Rattle.std.proofs.Common.{◌≡◌, ℕ, Bool, List, Option, Result, refl}
use Rattle.ev_value.specs.declared.operator.Op.{Op}
use Rattle.ev_value.specs.declared.value.ScalarTy.{ScalarTy}
use Rattle.core_ir.specs.declared.tree.Element.{Element}
use Rattle.core_ir.specs.declared.tree.Expr.{Expr}
use Rattle.core_ir.specs.declared.tree.Scope.{Scope}
use Rattle.core_ir.specs.declared.tree.SetFunction.{SetFunction}
use Rattle.core_ir.specs.declared.ty.Ty.{Ty}
use Rattle.ev_schema.specs.declared.schema.Schema.{Schema}
use Rattle.plan.specs.Plan.{Given, and_then, tells}
use Rattle.plan.specs.Ruled.{gives}
use Rattle.type_rules.specs.declared.refusal.TypeRefusal.{TypeRefusal}
use Rattle.type_rules.specs.Known.{Known}
use Rattle.type_rules.specs.Refusal.{Answers}
use Rattle.type_infer.specs.Known.{Typing}
use Rattle.type_infer.specs.declared.clause.Clause.{Clause}
use Rattle.type_infer.specs.Forms as rule
use Rattle.type_infer.specs.Rest as rest
use Rattle.type_infer.proofs.Refusals.{given_first}

pub plus_first : (byte : ℕ) (part : Typing (Expr × Ty)) (k : Known) → tells (rule.plus byte part k) ≡ and_then (tells (part k)) (λ z. tells (rule.plus byte (gives z.0) z.1))
unfolding rule.plus
plus_first byte part k = refl

pub cast_first : (byte : ℕ) (to : ScalarTy) (part : Typing (Expr × Ty)) (k : Known) → tells (rule.cast byte to part k) ≡ and_then (tells (part k)) (λ z. tells (rule.cast byte to (gives z.0) z.1))
unfolding rule.cast
cast_first byte to part k = refl

pub array_cast_first : (byte : ℕ) (to : ScalarTy) (part : Typing (Expr × Ty)) (k : Known) → tells (rule.array_cast byte to part k) ≡ and_then (tells (part k)) (λ z. tells (rule.array_cast byte to (gives z.0) z.1))
unfolding rule.array_cast
array_cast_first byte to part k = refl

pub unpack_first : (byte : ℕ) (part : Typing (Expr × Ty)) (k : Known) → tells (rule.unpack byte part k) ≡ and_then (tells (part k)) (λ z. tells (rule.unpack byte (gives z.0) z.1))
unfolding rule.unpack
unpack_first byte part k = refl

pub of_set_first : (byte : ℕ) (f : SetFunction) (part : Typing (Scope × Ty)) (k : Known) → tells (rule.of_set byte f part k) ≡ and_then (tells (part k)) (λ z. tells (rule.of_set byte f (gives z.0) z.1))
unfolding rule.of_set
of_set_first byte f part k = refl

pub array_first : (byte : ℕ) (w : Option ScalarTy) (part : Typing (List Expr × List Ty)) (k : Known) → tells (rule.array byte w part k) ≡ and_then (tells (part k)) (λ z. tells (rule.array byte w (gives z.0) z.1))
unfolding rule.array
array_first byte w part k = refl

pub union_first : (schema : Schema) (byte : ℕ) (x : Scope × Ty) (part : Typing (Scope × Ty)) (k : Known) → tells (rule.union schema byte (gives x) part k) ≡ and_then (tells (part k)) (λ z. tells (rule.union schema byte (gives x) (gives z.0) z.1))
unfolding rule.union
union_first schema byte x part k = refl

pub optional_equal_first : (schema : Schema) (byte : ℕ) (b : Bool) (x : Expr × Ty) (part : Typing (Expr × Ty)) (k : Known) → tells (rule.optional_equal schema byte b (gives x) part k) ≡ and_then (tells (part k)) (λ z. tells (rule.optional_equal schema byte b (gives x) (gives z.0) z.1))
unfolding rule.optional_equal
optional_equal_first schema byte b x part k = refl

pub membership_first : (schema : Schema) (byte : ℕ) (b : Bool) (x : Expr × Ty) (part : Typing (Scope × Ty)) (k : Known) → tells (rule.membership schema byte b (gives x) part k) ≡ and_then (tells (part k)) (λ z. tells (rule.membership schema byte b (gives x) (gives z.0) z.1))
unfolding rule.membership
membership_first schema byte b x part k = refl

pub coalesce_first : (schema : Schema) (byte : ℕ) (x : Expr × Ty) (part : Typing (Scope × Ty)) (k : Known) → tells (rule.coalesce schema byte (gives x) part k) ≡ and_then (tells (part k)) (λ z. tells (rule.coalesce schema byte (gives x) (gives z.0) z.1))
unfolding rule.coalesce
coalesce_first schema byte x part k = refl

pub operation_first : (schema : Schema) (byte : ℕ) (op : Op) (part : Typing (List Expr × List Ty)) (k : Known) → tells (rule.operation schema byte op part k) ≡ and_then (tells (part k)) (λ z. tells (rule.operation schema byte op (gives z.0) z.1))
unfolding rule.operation
operation_first schema byte op part k = refl

pub set_first : (schema : Schema) (byte : ℕ) (part : Typing (List Scope × List Ty)) (k : Known) → tells (rule.set schema byte part k) ≡ and_then (tells (part k)) (λ z. tells (rule.set schema byte (gives z.0) z.1))
unfolding rule.set
set_first schema byte part k = refl

pub clause_first : (c : Clause) (start : ℕ) (body : Typing (Expr × Ty)) (k : Known) → tells (rule.clause c start body k) ≡ and_then (tells (rule.scope start body k)) (λ z. tells (rest.suited c start z.0 z.1))
unfolding rule.clause
clause_first c start body k = refl

pub elements_first : (byte n : ℕ) (x : Expr × Ty) (part : Typing (List Element)) (k : Known) → tells (rest.elements_behind byte n x part k) ≡ and_then (tells (part k)) (λ z. tells (rest.shape byte n x z.0 z.1))
elements_first byte n x part k = refl

pub shaped_given : (byte n : ℕ) (x y : Expr × Ty) (part : Typing (List Element)) (result : Result (Expr × Ty) TypeRefusal) (k l m : Known) → tells (rest.noted n x.1 x k) ≡ Given (y, l)
    → Answers (tells (rest.elements_behind byte n y part l)) result m → Answers (tells (rule.shaped byte n (gives x) part k)) result m
unfolding rule.shaped
shaped_given byte n x y part result k l m = given_first _ (tells (rest.noted n x.1 x k)) (λ z. tells (rest.elements_behind byte n z.0 part z.1)) y result l m refl
