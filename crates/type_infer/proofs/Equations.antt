-- The rule of each form as the code makes the form.
use Rattle.std.proofs.Common.{◌≡◌, ℕ, Bool, List, [], ◌∷◌, ◌++◌, Option, Some, None, Result, Err, refl, ap, sym, ◌∙◌}
use Rattle.ev_value.specs.declared.operator.Op.{Op}
use Rattle.ev_value.specs.declared.value.ScalarTy.{ScalarTy}
use Rattle.ev_value.specs.declared.value.Val.{Val}
use Rattle.ev_list.specs.declared.param.Param.{Param}
use Rattle.core_ir.specs.declared.tree.Alias.{Alias}
use Rattle.core_ir.specs.declared.tree.Conditional.{Conditional}
use Rattle.core_ir.specs.declared.tree.Element.{Element}
use Rattle.core_ir.specs.declared.tree.Expr.{Expr}
use Rattle.core_ir.specs.declared.tree.Expr.TheBlock as block
use Rattle.core_ir.specs.declared.tree.Expr.TheVariants as form
use Rattle.core_ir.specs.declared.tree.Key.{Key}
use Rattle.core_ir.specs.declared.tree.Key.TheVariants as key
use Rattle.ev_list.specs.declared.order.Absent.{Absent}
use Rattle.core_ir.specs.declared.tree.Misfit.{Misfit}
use Rattle.core_ir.specs.declared.tree.Occurrence.{Occurrence}
use Rattle.core_ir.specs.declared.tree.Scope.{Scope}
use Rattle.core_ir.specs.declared.tree.Select.{Select, out-Select, roll-Select, roll-out-Select}
use Rattle.core_ir.specs.declared.tree.SetFunction.{SetFunction}
use Rattle.core_ir.specs.declared.ty.Ty.{Ty}
use Rattle.ev_schema.specs.declared.schema.Schema.{Schema}
use Rattle.plan.specs.Plan.{Given, and_then, tells}
use Rattle.plan.specs.Ruled.{◌>>=◌, gives, in_turn, each_with}
use Rattle.type_rules.specs.declared.refusal.TypeRefusal.{TypeRefusal}
use Rattle.type_infer.specs.Forms as rule
use Rattle.type_infer.specs.Rest as rest
use Rattle.type_rules.specs.Known.{Known, with_type}
use Rattle.type_infer.specs.Known.{plain}
use Rattle.type_infer.specs.declared.clause.Clause.{Clause}
use Rattle.type_infer.specs.declared.clause.Clause.TheVariants.{Filter, Key as OrderKey, Cut}
use Rattle.type_infer.specs.Typing.{infer, infer_all, infer_scopes, infer_aliases, infer_elements, infer_keys, infer_key, infer_clause, behind, scope_of, all_of, scopes_of, alias_of, aliases_of, element_of, elements_of, keys_of, clause_of, clause_if_there, select_of, parts_of}
use Rattle.type_rules.specs.Refusal.{Answers}
use Rattle.type_infer.proofs.Refusals.{plainly, refused_first, given_first, and_then_assoc}
use denote.Hole.Carrier as carrier

module _ (schema : Schema) where
  row : (xs : List Expr) (done : List Expr × List Ty) → infer_all schema (block.hidden-the_row-Expr-1 xs) done ≡ in_turn (λ done x. behind done (infer schema x)) done xs
  unfolding infer carrier.hidden block.hidden-the_row-Expr-1
  row [] done = refl
  row (x ∷ xs) done = λ i. behind done (infer schema x) >>= (λ next. row xs next i)

  scope_row : (xs : List Scope) (done : List Scope × List Ty) → infer_scopes schema (block.hidden-the_row-Scope-2 xs) done ≡ in_turn (λ done s. behind done (scope_of schema s)) done xs
  unfolding infer carrier.hidden block.hidden-the_row-Scope-2
  scope_row [] done = refl
  scope_row (x ∷ xs) done = λ i. behind done (scope_of schema x) >>= (λ next. scope_row xs next i)

  element_row : (xs : List Element) (done : List Element) → infer_elements schema (block.hidden-the_row-Element-3 xs) done ≡ each_with (λ done x. element_of schema x) done xs
  unfolding infer carrier.hidden block.hidden-the_row-Element-3
  element_row [] done = refl
  element_row (x ∷ xs) done = λ i. element_of schema x >>= (λ y. element_row xs (done ++ y ∷ []) i)

  alias_row : (xs : List Alias) (done : List Alias) → infer_aliases schema (block.hidden-the_row-Alias-4 xs) done ≡ each_with (λ done x. alias_of schema x) done xs
  unfolding infer carrier.hidden block.hidden-the_row-Alias-4
  alias_row [] done = refl
  alias_row (x ∷ xs) done = λ i. alias_of schema x >>= (λ y. alias_row xs (done ++ y ∷ []) i)

  key_row : (xs : List Key) (done : List Key) → infer_keys schema (block.hidden-the_row-Key-6 xs) done ≡ each_with (λ done x. infer_key schema x) done xs
  unfolding infer carrier.hidden block.hidden-the_row-Key-6
  key_row [] done = refl
  key_row (x ∷ xs) done = λ i. infer_key schema x >>= (λ y. key_row xs (done ++ y ∷ []) i)

  clause_row : (c : Clause) (f : Option Scope) → infer_clause schema c (block.back-Select-filter f) ≡ clause_if_there schema c f
  unfolding infer carrier.hidden block.hidden-the_row-Scope-5
  clause_row c None = refl
  clause_row c (Some s) = refl

  ascending_is : (a : Absent) (s : Scope) (k : Known) → tells (infer_key schema (key.Ascending a s) k) ≡ and_then (tells (clause_of schema OrderKey s k)) (λ x. Given (key.Ascending a x.0, x.1))
  unfolding infer carrier.hidden block.hidden-the_row-Expr-0
  ascending_is a s k = refl

  pub ascending_refused : (a : Absent) (s : Scope) (r : TypeRefusal) (k l m : Known) → Answers {A = Scope} (tells (clause_of schema OrderKey s k)) (Err r) l → Answers {A = Key} (tells (infer_key schema (key.Ascending a s) k)) (Err r) m
  ascending_refused a s r k l m = refused_first _ _ _ r l m (ascending_is a s k)

  pub ascending_given : (a : Absent) (s x : Scope) (k l : Known) → tells (clause_of schema OrderKey s k) ≡ Given (x, l) → tells (infer_key schema (key.Ascending a s) k) ≡ Given (key.Ascending a x, l)
  ascending_given a s x k l e = ascending_is a s k ∙ ap (λ t. and_then t (λ x. Given (key.Ascending a x.0, x.1))) e

  descending_is : (a : Absent) (s : Scope) (k : Known) → tells (infer_key schema (key.Descending a s) k) ≡ and_then (tells (clause_of schema OrderKey s k)) (λ x. Given (key.Descending a x.0, x.1))
  unfolding infer carrier.hidden block.hidden-the_row-Expr-0
  descending_is a s k = refl

  pub descending_refused : (a : Absent) (s : Scope) (r : TypeRefusal) (k l m : Known) → Answers {A = Scope} (tells (clause_of schema OrderKey s k)) (Err r) l → Answers {A = Key} (tells (infer_key schema (key.Descending a s) k)) (Err r) m
  descending_refused a s r k l m = refused_first _ _ _ r l m (descending_is a s k)

  pub descending_given : (a : Absent) (s x : Scope) (k l : Known) → tells (clause_of schema OrderKey s k) ≡ Given (x, l) → tells (infer_key schema (key.Descending a s) k) ≡ Given (key.Descending a x, l)
  descending_given a s x k l e = descending_is a s k ∙ ap (λ t. and_then t (λ x. Given (key.Descending a x.0, x.1))) e

  pub of_literal : (byte : ℕ) (v : Val) (k : Known) → infer schema (form.Literal byte v) k ≡ plain (rule.constant byte v) k
  unfolding infer carrier.hidden block.hidden-the_row-Expr-0
  of_literal byte v k = refl

  pub of_parameter : (byte : ℕ) (p : Param) (k : Known) → infer schema (form.Param byte p) k ≡ rule.parameter byte p k
  unfolding infer carrier.hidden block.hidden-the_row-Expr-0
  of_parameter byte p k = refl

  pub of_global_value : (byte : ℕ) (name : List ℕ) (k : Known) → infer schema (form.Global byte name) k ≡ plain (rule.global_value schema byte name) k
  unfolding infer carrier.hidden block.hidden-the_row-Expr-0
  of_global_value byte name k = refl

  pub of_path : (byte : ℕ) (o : Occurrence) (k : Known) → infer schema (form.Path byte o) k ≡ rule.path_of schema byte o k
  unfolding infer carrier.hidden block.hidden-the_row-Expr-0
  of_path byte o k = refl

  pub of_empty_set : (byte : ℕ) (t : Ty) (k : Known) → infer schema (form.EmptySet byte t) k ≡ plain (rule.empty_set byte t) k
  unfolding infer carrier.hidden block.hidden-the_row-Expr-0
  of_empty_set byte t k = refl

  pub of_on_base : (byte : ℕ) (s : Scope) (o : Occurrence) (k : Known) → infer schema (form.OnBase byte s o) k ≡ rule.on_base schema byte (scope_of schema s) o k
  unfolding infer carrier.hidden block.hidden-the_row-Expr-0
  of_on_base byte s o k = refl

  pub of_plus : (byte : ℕ) (x : Expr) (k : Known) → infer schema (form.Plus byte x) k ≡ rule.plus byte (infer schema x) k
  unfolding infer carrier.hidden block.hidden-the_row-Expr-0
  of_plus byte x k = refl

  pub of_cast : (byte : ℕ) (to : ScalarTy) (x : Expr) (k : Known) → infer schema (form.Cast byte to x) k ≡ rule.cast byte to (infer schema x) k
  unfolding infer carrier.hidden block.hidden-the_row-Expr-0
  of_cast byte to x k = refl

  pub of_array_cast : (byte : ℕ) (to : ScalarTy) (x : Expr) (k : Known) → infer schema (form.ArrayCast byte to x) k ≡ rule.array_cast byte to (infer schema x) k
  unfolding infer carrier.hidden block.hidden-the_row-Expr-0
  of_array_cast byte to x k = refl

  pub of_unpack : (byte : ℕ) (x : Expr) (k : Known) → infer schema (form.Unpack byte x) k ≡ rule.unpack byte (infer schema x) k
  unfolding infer carrier.hidden block.hidden-the_row-Expr-0
  of_unpack byte x k = refl

  pub of_if : (byte : ℕ) (c : Conditional) (k : Known) → infer schema (form.If byte c) k ≡ rule.choice schema byte c.order (parts_of schema c) k
  unfolding infer carrier.hidden block.hidden-the_row-Expr-0
  of_if byte c k = refl

  pub of_of_set : (byte : ℕ) (f : SetFunction) (s : Scope) (k : Known) → infer schema (form.OfSet byte f s) k ≡ rule.of_set byte f (scope_of schema s) k
  unfolding infer carrier.hidden block.hidden-the_row-Expr-0
  of_of_set byte f s k = refl

  pub of_operation : (byte : ℕ) (op : Op) (xs : List Expr) (k : Known) → infer schema (form.Operation byte op xs) k ≡ rule.operation schema byte op (all_of schema xs) k
  unfolding infer
  of_operation byte op xs k = λ i. rule.operation schema byte op (row xs ([], []) i) k

  pub of_tuple : (byte : ℕ) (xs : List Expr) (k : Known) → infer schema (form.Tuple byte xs) k ≡ rule.tuple byte (all_of schema xs) k
  unfolding infer
  of_tuple byte xs k = λ i. rule.tuple byte (row xs ([], []) i) k

  pub of_array : (byte : ℕ) (w : Option ScalarTy) (xs : List Expr) (k : Known) → infer schema (form.Array byte w xs) k ≡ rule.array byte w (all_of schema xs) k
  unfolding infer
  of_array byte w xs k = λ i. rule.array byte w (row xs ([], []) i) k

  pub of_unfit : (byte : ℕ) (m : Misfit) (place : ℕ) (xs : List Expr) (k : Known) → infer schema (form.Unfit byte m place xs) k ≡ rule.unfit m place (all_of schema xs) k
  unfolding infer
  of_unfit byte m place xs k = λ i. rule.unfit m place (row xs ([], []) i) k

  pub of_set : (byte : ℕ) (xs : List Scope) (k : Known) → infer schema (form.Set byte xs) k ≡ rule.set schema byte (scopes_of schema xs) k
  unfolding infer
  of_set byte xs k = λ i. rule.set schema byte (scope_row xs ([], []) i) k

  select_rolled : (byte : ℕ) (ds : List Alias) (x : Expr) (y : Option Ty) (n : ℕ) (f : Option Scope) (ks : List Key) (o l : Option Scope) (k : Known)
      → tells (infer schema (form.Select byte ds (roll-Select (record { subject = x; ty = y; number = n; filter = f; keys = ks; offset = o; limit = l }))) k)
      ≡ and_then (tells (aliases_of schema ds k)) (λ z. tells (rule.select byte (gives z.0) (rule.selected n (infer schema x) (rule.rows (clause_if_there schema Filter f) (keys_of schema ks)) (rule.cut (clause_if_there schema Cut o) (clause_if_there schema Cut l))) z.1))
  unfolding infer rule.select roll-Select carrier.roll carrier.hidden block.hidden-the_row-Expr-0
  select_rolled byte ds x y n f ks o l k = λ i.
      and_then (tells (alias_row ds [] i k)) (λ z. tells (rule.select byte (gives z.0) (rule.selected n (infer schema x) (rule.rows (clause_row Filter f i) (key_row ks [] i)) (rule.cut (clause_row Cut o i) (clause_row Cut l i))) z.1))

  optional_equal_is : (byte : ℕ) (b : Bool) (x : Expr) (y : Expr) (k : Known) → tells (infer schema (form.OptionalEqual byte b x y) k) ≡ and_then (tells (infer schema x k)) (λ z. tells (rule.optional_equal schema byte b (gives z.0) (infer schema y) z.1))
  unfolding infer rule.optional_equal carrier.hidden block.hidden-the_row-Expr-0
  optional_equal_is byte b x y k = refl

  pub optional_equal_refused : (byte : ℕ) (b : Bool) (x : Expr) (y : Expr) (r : TypeRefusal) (k l m : Known) → Answers {A = Expr × Ty} (tells (infer schema x k)) (Err r) l → Answers {A = Expr × Ty} (tells (infer schema (form.OptionalEqual byte b x y) k)) (Err r) m
  optional_equal_refused byte b x y r k l m = refused_first _ _ _ r l m (optional_equal_is byte b x y k)

  pub optional_equal_given : (byte : ℕ) (b : Bool) (x : Expr) (y : Expr) (first : Expr × Ty) (result : Result (Expr × Ty) TypeRefusal) (k l m : Known) → tells (infer schema x k) ≡ Given (first, l) → Answers (tells (rule.optional_equal schema byte b (gives first) (infer schema y) l)) result m
      → Answers (tells (infer schema (form.OptionalEqual byte b x y) k)) result m
  optional_equal_given byte b x y first result k l m = given_first _ _ _ first result l m (optional_equal_is byte b x y k)

  membership_is : (byte : ℕ) (b : Bool) (x : Expr) (s : Scope) (k : Known) → tells (infer schema (form.In byte b x s) k) ≡ and_then (tells (infer schema x k)) (λ z. tells (rule.membership schema byte b (gives z.0) (scope_of schema s) z.1))
  unfolding infer rule.membership carrier.hidden block.hidden-the_row-Expr-0
  membership_is byte b x s k = refl

  pub membership_refused : (byte : ℕ) (b : Bool) (x : Expr) (s : Scope) (r : TypeRefusal) (k l m : Known) → Answers {A = Expr × Ty} (tells (infer schema x k)) (Err r) l → Answers {A = Expr × Ty} (tells (infer schema (form.In byte b x s) k)) (Err r) m
  membership_refused byte b x s r k l m = refused_first _ _ _ r l m (membership_is byte b x s k)

  pub membership_given : (byte : ℕ) (b : Bool) (x : Expr) (s : Scope) (first : Expr × Ty) (result : Result (Expr × Ty) TypeRefusal) (k l m : Known) → tells (infer schema x k) ≡ Given (first, l) → Answers (tells (rule.membership schema byte b (gives first) (scope_of schema s) l)) result m
      → Answers (tells (infer schema (form.In byte b x s) k)) result m
  membership_given byte b x s first result k l m = given_first _ _ _ first result l m (membership_is byte b x s k)

  coalesce_is : (byte : ℕ) (x : Expr) (s : Scope) (k : Known) → tells (infer schema (form.Coalesce byte x s) k) ≡ and_then (tells (infer schema x k)) (λ z. tells (rule.coalesce schema byte (gives z.0) (scope_of schema s) z.1))
  unfolding infer rule.coalesce carrier.hidden block.hidden-the_row-Expr-0
  coalesce_is byte x s k = refl

  pub coalesce_refused : (byte : ℕ) (x : Expr) (s : Scope) (r : TypeRefusal) (k l m : Known) → Answers {A = Expr × Ty} (tells (infer schema x k)) (Err r) l → Answers {A = Expr × Ty} (tells (infer schema (form.Coalesce byte x s) k)) (Err r) m
  coalesce_refused byte x s r k l m = refused_first _ _ _ r l m (coalesce_is byte x s k)

  pub coalesce_given : (byte : ℕ) (x : Expr) (s : Scope) (first : Expr × Ty) (result : Result (Expr × Ty) TypeRefusal) (k l m : Known) → tells (infer schema x k) ≡ Given (first, l) → Answers (tells (rule.coalesce schema byte (gives first) (scope_of schema s) l)) result m
      → Answers (tells (infer schema (form.Coalesce byte x s) k)) result m
  coalesce_given byte x s first result k l m = given_first _ _ _ first result l m (coalesce_is byte x s k)

  union_is : (byte : ℕ) (s : Scope) (t : Scope) (k : Known) → tells (infer schema (form.Union byte s t) k) ≡ and_then (tells (scope_of schema s k)) (λ z. tells (rule.union schema byte (gives z.0) (scope_of schema t) z.1))
  unfolding infer rule.union carrier.hidden block.hidden-the_row-Expr-0
  union_is byte s t k = refl

  pub union_refused : (byte : ℕ) (s : Scope) (t : Scope) (r : TypeRefusal) (k l m : Known) → Answers {A = Scope × Ty} (tells (scope_of schema s k)) (Err r) l → Answers {A = Expr × Ty} (tells (infer schema (form.Union byte s t) k)) (Err r) m
  union_refused byte s t r k l m = refused_first _ _ _ r l m (union_is byte s t k)

  pub union_given : (byte : ℕ) (s : Scope) (t : Scope) (first : Scope × Ty) (result : Result (Expr × Ty) TypeRefusal) (k l m : Known) → tells (scope_of schema s k) ≡ Given (first, l) → Answers (tells (rule.union schema byte (gives first) (scope_of schema t) l)) result m
      → Answers (tells (infer schema (form.Union byte s t) k)) result m
  union_given byte s t first result k l m = given_first _ _ _ first result l m (union_is byte s t k)

  shaped_is : (byte : ℕ) (x : Expr) (t : Option Ty) (n : ℕ) (es : List Element) (k : Known) → tells (infer schema (form.Shaped byte x t n es) k) ≡ and_then (tells (infer schema x k)) (λ z. tells (rule.shaped byte n (gives z.0) (elements_of schema es) z.1))
  unfolding infer rule.shaped carrier.hidden block.hidden-the_row-Expr-0
  shaped_is byte x t n es k = λ i. and_then (tells (infer schema x k)) (λ z. tells (rule.shaped byte n (gives z.0) (element_row es [] i) z.1))

  pub shaped_refused : (byte : ℕ) (x : Expr) (t : Option Ty) (n : ℕ) (es : List Element) (r : TypeRefusal) (k l m : Known) → Answers {A = Expr × Ty} (tells (infer schema x k)) (Err r) l → Answers {A = Expr × Ty} (tells (infer schema (form.Shaped byte x t n es) k)) (Err r) m
  shaped_refused byte x t n es r k l m = refused_first _ _ _ r l m (shaped_is byte x t n es k)

  pub shaped_given : (byte : ℕ) (x : Expr) (t : Option Ty) (n : ℕ) (es : List Element) (first : Expr × Ty) (result : Result (Expr × Ty) TypeRefusal) (k l m : Known) → tells (infer schema x k) ≡ Given (first, l) → Answers (tells (rule.shaped byte n (gives first) (elements_of schema es) l)) result m
      → Answers (tells (infer schema (form.Shaped byte x t n es) k)) result m
  shaped_given byte x t n es first result k l m = given_first _ _ _ first result l m (shaped_is byte x t n es k)

  select_is : (byte : ℕ) (ds : List Alias) (s : Select) (k : Known) → tells (infer schema (form.Select byte ds s) k) ≡ and_then (tells (aliases_of schema ds k)) (λ z. tells (rule.select byte (gives z.0) (select_of schema s) z.1))
  select_is byte ds s k =
      let r = out-Select s in
      ap (λ s. tells (infer schema (form.Select byte ds s) k)) (sym (roll-out-Select s)) ∙ select_rolled byte ds r.subject r.ty r.number r.filter r.keys r.offset r.limit k

  pub select_refused : (byte : ℕ) (ds : List Alias) (s : Select) (r : TypeRefusal) (k l m : Known) → Answers {A = List Alias} (tells (aliases_of schema ds k)) (Err r) l → Answers {A = Expr × Ty} (tells (infer schema (form.Select byte ds s) k)) (Err r) m
  select_refused byte ds s r k l m = refused_first _ _ _ r l m (select_is byte ds s k)

  pub select_given : (byte : ℕ) (ds : List Alias) (s : Select) (first : List Alias) (result : Result (Expr × Ty) TypeRefusal) (k l m : Known) → tells (aliases_of schema ds k) ≡ Given (first, l) → Answers (tells (rule.select byte (gives first) (select_of schema s) l)) result m
      → Answers (tells (infer schema (form.Select byte ds s) k)) result m
  select_given byte ds s first result k l m = given_first _ _ _ first result l m (select_is byte ds s k)

  for_is : (byte : ℕ) (ds : List Alias) (n : ℕ) (s t : Scope) (k : Known) → tells (infer schema (form.For byte ds n s t) k)
      ≡ and_then (tells (aliases_of schema ds k)) (λ z. and_then (tells (rest.iterated n z.0 (scope_of schema s) z.1)) (λ h. tells (rest.body byte n h.0 (scope_of schema t) h.1)))
  unfolding infer rule.each carrier.hidden block.hidden-the_row-Expr-0
  for_is byte ds n s t k = λ i. and_then (tells (alias_row ds [] i k)) (λ z. sym
      (and_then_assoc {B = (List Alias × (Scope × Ty)) × Known} (tells (scope_of schema s z.1)) (λ y. Given ((z.0, y.0), with_type n y.0.1 y.1)) (λ h. tells (rest.body byte n h.0 (scope_of schema t) h.1))) i)

  pub for_refused : (byte : ℕ) (ds : List Alias) (n : ℕ) (s t : Scope) (r : TypeRefusal) (k l m : Known) → Answers {A = List Alias} (tells (aliases_of schema ds k)) (Err r) l
      → Answers {A = Expr × Ty} (tells (infer schema (form.For byte ds n s t) k)) (Err r) m
  for_refused byte ds n s t r k l m = refused_first _ _ _ r l m (for_is byte ds n s t k)

  pub iterator_refused : (byte : ℕ) (ds : List Alias) (n : ℕ) (s t : Scope) (done : List Alias) (r : TypeRefusal) (k l m p : Known) → tells (aliases_of schema ds k) ≡ Given (done, l)
      → Answers {A = List Alias × (Scope × Ty)} (tells (rest.iterated n done (scope_of schema s) l)) (Err r) m → Answers {A = Expr × Ty} (tells (infer schema (form.For byte ds n s t) k)) (Err r) p
  iterator_refused byte ds n s t done r k l m p e = refused_first _ _ _ r m p
      (for_is byte ds n s t k ∙ ap (λ a. and_then a (λ z. and_then (tells (rest.iterated n z.0 (scope_of schema s) z.1)) (λ h. tells (rest.body byte n h.0 (scope_of schema t) h.1)))) e)

  pub for_given : (byte : ℕ) (ds : List Alias) (n : ℕ) (s t : Scope) (done : List Alias) (head : List Alias × (Scope × Ty)) (result : Result (Expr × Ty) TypeRefusal) (k l m p : Known) → tells (aliases_of schema ds k) ≡ Given (done, l)
      → tells (rest.iterated n done (scope_of schema s) l) ≡ Given (head, m) → Answers (tells (rest.body byte n head (scope_of schema t) m)) result p → Answers (tells (infer schema (form.For byte ds n s t) k)) result p
  for_given byte ds n s t done head result k l m p e = given_first _ _ _ head result m p
      (for_is byte ds n s t k ∙ ap (λ a. and_then a (λ z. and_then (tells (rest.iterated n z.0 (scope_of schema s) z.1)) (λ h. tells (rest.body byte n h.0 (scope_of schema t) h.1)))) e)

pub ruleset keys = (ascending_refused, ascending_given, descending_refused, descending_given)

pub ruleset forms = (plainly, of_literal, of_parameter, of_global_value, of_path, of_empty_set, of_on_base, of_plus, of_cast, of_array_cast, of_unpack, of_if, of_of_set, of_operation, of_tuple, of_array, of_unfit, of_set, optional_equal_refused, optional_equal_given, membership_refused, membership_given, coalesce_refused, coalesce_given, union_refused, union_given, shaped_refused, shaped_given, select_refused, select_given, for_refused)
