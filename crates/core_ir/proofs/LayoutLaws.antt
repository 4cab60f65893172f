-- The layouts of each form, as the code makes the form.
use Rattle.std.proofs.Common.{◌≡◌, ℕ, Bool, List, [], ◌∷◌, Option, Some, None, map, refl, ap, sym, ◌∙◌}
use Rattle.ev_value.specs.declared.operator.Op.{Op}
use Rattle.ev_value.specs.declared.value.Val.{Val}
use Rattle.ev_value.specs.declared.value.ScalarTy.{ScalarTy}
use Rattle.ev_list.specs.declared.param.Param.{Param}
use Rattle.core_ir.specs.Layout.{plain, plain_of, plain_slot, layout_by, layouts, fields}
use Rattle.core_ir.specs.LayoutParts.{field_of, layouts_of}
use Rattle.core_ir.specs.declared.layout.Layout.TheVariants as layout
use Rattle.core_ir.specs.declared.path.TypeId.{TypeId}
use Rattle.core_ir.specs.declared.tree.Occurrence.{Occurrence}
use Rattle.core_ir.specs.declared.tree.Misfit.{Misfit}
use Rattle.core_ir.specs.declared.tree.Scope.{Scope}
use Rattle.core_ir.specs.declared.tree.SetFunction.{SetFunction}
use Rattle.core_ir.specs.declared.tree.Alias.{Alias}
use Rattle.core_ir.specs.declared.tree.Element.{Element}
use Rattle.core_ir.specs.declared.tree.Conditional.{Conditional}
use Rattle.core_ir.specs.declared.tree.Select.{Select, out-Select, roll-Select, roll-out-Select}
use Rattle.core_ir.specs.declared.tree.Key.{Key}
use Rattle.core_ir.specs.declared.tree.Expr.{Expr}
use Rattle.core_ir.specs.declared.tree.Expr.TheVariants as form
use Rattle.core_ir.specs.declared.tree.Expr.TheBlock as block
use Rattle.core_ir.specs.declared.ty.Ty.{Ty}
use Rattle.core_ir.specs.declared.ty.Ty.TheVariants as ty
use Rattle.core_ir.specs.declared.ty.Ty.TheBlock as types
use denote.Hole.Carrier as carrier

plain_row : (ts : List Ty) → plain_of (types.hidden-the_row-Ty-0 ts) ≡ map plain ts
unfolding plain carrier.hidden types.hidden-the_row-Ty-0
plain_row [] = refl
plain_row (t ∷ ts) = λ i. plain t ∷ plain_row ts i

pub plain_scalar : (s : ScalarTy) → plain (ty.Scalar s) ≡ layout.Scalar
unfolding plain
plain_scalar s = refl

pub plain_object : (n : TypeId) → plain (ty.Object n) ≡ layout.Object
unfolding plain
plain_object n = refl

pub plain_tuple : (ts : List Ty) → plain (ty.Tuple ts) ≡ layout.Tuple (map plain ts)
unfolding plain
plain_tuple ts = ap layout.Tuple (plain_row ts)

pub plain_array : (s : ScalarTy) → plain (ty.Array s) ≡ layout.Scalar
unfolding plain
plain_array s = refl

pub ruleset plain_forms = (plain_scalar, plain_object, plain_tuple, plain_array)

field_row : (es : List Element) → fields (block.hidden-the_row-Element-3 es) ≡ map field_of es
unfolding layout_by carrier.hidden block.hidden-the_row-Element-3
field_row [] = refl
field_row (x ∷ xs) = λ i. field_of x ∷ field_row xs i

row : (xs : List Expr) (ts : List Ty) → layouts (block.hidden-the_row-Expr-1 xs) (types.hidden-the_row-Ty-0 ts) ≡ layouts_of xs ts
unfolding layout_by carrier.hidden block.hidden-the_row-Expr-1 types.hidden-the_row-Ty-0
row [] ts = refl
row (x ∷ xs) [] = refl
row (x ∷ xs) (t ∷ ts) = λ i. layout_by x (Some t) ∷ row xs ts i

module _ (m : ℕ) where
  pub layout_shaped : (x : Expr) (y : Option Ty) (k : ℕ) (es : List Element) (t : Option Ty) → layout_by (form.Shaped m x y k es) t ≡ layout.Shape (map field_of es)
  unfolding layout_by
  layout_shaped x y k es t = ap layout.Shape (field_row es)

  pub layout_tuple : (xs : List Expr) (ts : List Ty) → layout_by (form.Tuple m xs) (Some (ty.Tuple ts)) ≡ layout.Tuple (layouts_of xs ts)
  unfolding layout_by
  layout_tuple xs ts = ap layout.Tuple (row xs ts)

  pub layout_tuple_scalar : (xs : List Expr) (s : ScalarTy) → layout_by (form.Tuple m xs) (Some (ty.Scalar s)) ≡ plain (ty.Scalar s)
  unfolding layout_by
  layout_tuple_scalar xs s = refl

  pub layout_tuple_object : (xs : List Expr) (n : TypeId) → layout_by (form.Tuple m xs) (Some (ty.Object n)) ≡ plain (ty.Object n)
  unfolding layout_by
  layout_tuple_object xs n = refl

  pub layout_tuple_array : (xs : List Expr) (s : ScalarTy) → layout_by (form.Tuple m xs) (Some (ty.Array s)) ≡ plain (ty.Array s)
  unfolding layout_by
  layout_tuple_array xs s = refl

  pub layout_tuple_none : (xs : List Expr) → layout_by (form.Tuple m xs) None ≡ layout.Scalar
  unfolding layout_by
  layout_tuple_none xs = refl

  pub layout_for : (xs : List Alias) (k : ℕ) (s b : Scope) (t : Option Ty) → layout_by (form.For m xs k s b) t ≡ layout_by b.body t
  unfolding layout_by carrier.hidden block.hidden-the_row-Expr-0
  layout_for xs k s b t = refl

  layout_rolled : (xs : List Alias) (x : Expr) (y : Option Ty) (k : ℕ) (f : Option Scope) (ks : List Key) (o l : Option Scope) (t : Option Ty)
      → layout_by (form.Select m xs (roll-Select (record { subject = x; ty = y; number = k; filter = f; keys = ks; offset = o; limit = l }))) t ≡ layout_by x t
  unfolding layout_by roll-Select carrier.roll carrier.hidden block.hidden-the_row-Expr-0
  layout_rolled xs x y k f ks o l t = refl

  pub layout_select : (xs : List Alias) (s : Select) (t : Option Ty) → layout_by (form.Select m xs s) t ≡ layout_by (out-Select s).subject t
  layout_select xs s t =
      let r = out-Select s in
      ap (λ s. layout_by (form.Select m xs s) t) (sym (roll-out-Select s)) ∙ layout_rolled xs r.subject r.ty r.number r.filter r.keys r.offset r.limit t

  pub layout_literal : (v : Val) (t : Option Ty) → layout_by (form.Literal m v) t ≡ plain_slot t
  unfolding layout_by
  layout_literal v t = refl

  pub layout_param : (p : Param) (t : Option Ty) → layout_by (form.Param m p) t ≡ plain_slot t
  unfolding layout_by
  layout_param p t = refl

  pub layout_global : (name : List ℕ) (t : Option Ty) → layout_by (form.Global m name) t ≡ plain_slot t
  unfolding layout_by
  layout_global name t = refl

  pub layout_path : (o : Occurrence) (t : Option Ty) → layout_by (form.Path m o) t ≡ plain_slot t
  unfolding layout_by
  layout_path o t = refl

  pub layout_on_base : (s : Scope) (o : Occurrence) (t : Option Ty) → layout_by (form.OnBase m s o) t ≡ plain_slot t
  unfolding layout_by
  layout_on_base s o t = refl

  pub layout_operation : (op : Op) (xs : List Expr) (t : Option Ty) → layout_by (form.Operation m op xs) t ≡ plain_slot t
  unfolding layout_by
  layout_operation op xs t = refl

  pub layout_plus : (x : Expr) (t : Option Ty) → layout_by (form.Plus m x) t ≡ plain_slot t
  unfolding layout_by
  layout_plus x t = refl

  pub layout_cast : (s : ScalarTy) (x : Expr) (t : Option Ty) → layout_by (form.Cast m s x) t ≡ plain_slot t
  unfolding layout_by
  layout_cast s x t = refl

  pub layout_optional_equal : (b : Bool) (x y : Expr) (t : Option Ty) → layout_by (form.OptionalEqual m b x y) t ≡ plain_slot t
  unfolding layout_by
  layout_optional_equal b x y t = refl

  pub layout_in_set : (b : Bool) (x : Expr) (s : Scope) (t : Option Ty) → layout_by (form.In m b x s) t ≡ plain_slot t
  unfolding layout_by
  layout_in_set b x s t = refl

  pub layout_of_set : (f : SetFunction) (s : Scope) (t : Option Ty) → layout_by (form.OfSet m f s) t ≡ plain_slot t
  unfolding layout_by
  layout_of_set f s t = refl

  pub layout_union : (s u : Scope) (t : Option Ty) → layout_by (form.Union m s u) t ≡ plain_slot t
  unfolding layout_by
  layout_union s u t = refl

  pub layout_set : (xs : List Scope) (t : Option Ty) → layout_by (form.Set m xs) t ≡ plain_slot t
  unfolding layout_by
  layout_set xs t = refl

  pub layout_coalesce : (x : Expr) (s : Scope) (t : Option Ty) → layout_by (form.Coalesce m x s) t ≡ plain_slot t
  unfolding layout_by
  layout_coalesce x s t = refl

  pub layout_if : (c : Conditional) (t : Option Ty) → layout_by (form.If m c) t ≡ plain_slot t
  unfolding layout_by
  layout_if c t = refl

  pub layout_array : (s : Option ScalarTy) (xs : List Expr) (t : Option Ty) → layout_by (form.Array m s xs) t ≡ plain_slot t
  unfolding layout_by
  layout_array s xs t = refl

  pub layout_array_cast : (s : ScalarTy) (x : Expr) (t : Option Ty) → layout_by (form.ArrayCast m s x) t ≡ plain_slot t
  unfolding layout_by
  layout_array_cast s x t = refl

  pub layout_unpack : (x : Expr) (t : Option Ty) → layout_by (form.Unpack m x) t ≡ plain_slot t
  unfolding layout_by
  layout_unpack x t = refl

  pub layout_empty_set : (y : Ty) (t : Option Ty) → layout_by (form.EmptySet m y) t ≡ plain_slot t
  unfolding layout_by
  layout_empty_set y t = refl

  pub layout_unfit : (f : Misfit) (k : ℕ) (xs : List Expr) (t : Option Ty) → layout_by (form.Unfit m f k xs) t ≡ plain_slot t
  unfolding layout_by
  layout_unfit f k xs t = refl

pub ruleset layout_forms = (layout_shaped, layout_tuple, layout_tuple_scalar, layout_tuple_object, layout_tuple_array, layout_tuple_none, layout_for, layout_select, layout_literal, layout_param, layout_global, layout_path, layout_on_base, layout_operation, layout_plus, layout_cast, layout_optional_equal, layout_in_set, layout_of_set, layout_union, layout_set, layout_coalesce, layout_if, layout_array, layout_array_cast, layout_unpack, layout_empty_set, layout_unfit)
