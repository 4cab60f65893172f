-- The rule of each form as the code's constructors name it.
use Rattle.std.proofs.Common.{◌≡◌, ℕ, Bool, true, false, List, [], ◌∷◌, ◌++◌, Option, Some, None, map, refl}
use denote.Hole.Carrier as carrier
use Rattle.plan.specs.Plan.{Part}
use Rattle.plan.specs.Ruled.{refuses, each_with, in_turn}
use Rattle.ast.specs.Expression.{span_of}
use Rattle.ast.specs.declared.expression.Binary.{Binary}
use Rattle.ast.specs.declared.expression.Conditional.{Conditional}
use Rattle.ast.specs.declared.expression.Expr as e
use Rattle.ast.specs.declared.expression.Expr.{Expr}
use Rattle.ast.specs.declared.expression.Expr.TheBlock as block
use Rattle.ast.specs.declared.expression.Parameter.{Parameter}
use Rattle.ast.specs.declared.expression.Postfix.{Postfix}
use Rattle.ast.specs.declared.expression.Shaped.{Shaped}
use Rattle.ast.specs.declared.name.Name.{Name}
use Rattle.ast.specs.declared.name.QualifiedName.{QualifiedName}
use Rattle.ast.specs.declared.name.Span.{Span}
use Rattle.ast.specs.declared.operator.UnaryOperator.{UnaryOperator}
use Rattle.ast.specs.declared.shape.Element as el
use Rattle.ast.specs.declared.shape.Nested.{Nested}
use Rattle.ast.specs.declared.shape.Qualifiers.{Qualifiers}
use Rattle.ast.specs.declared.statement.Alias.{Alias}
use Rattle.ast.specs.declared.statement.EmptyPlace.{EmptyPlace}
use Rattle.ast.specs.declared.statement.For.{For}
use Rattle.ast.specs.declared.statement.ForBody as body
use Rattle.ast.specs.declared.statement.Key as key
use Rattle.ast.specs.declared.statement.Select.{Select}
use Rattle.ast.specs.declared.statement.Statement as st
use Rattle.core_ir.specs.declared.tree.Element as core_element
use Rattle.core_ir.specs.declared.tree.Expr as core
use Rattle.core_ir.specs.declared.tree.Key as core_key
use Rattle.core_ir.specs.declared.tree.Scope.{Scope}
use Rattle.ev_schema.specs.declared.schema.Schema.{Schema}
use Rattle.ev_value.specs.declared.value.Val.TheVariants as val
use Rattle.eql_naming.specs.declared.clauses.Defined.{Defined}
use Rattle.eql_naming.specs.declared.refusal.NameRefusal.TheVariants.{Rule}
use Rattle.eql_naming.specs.declared.refusal.NameRule.TheVariants.{N7}
use Rattle.eql_naming.specs.Around as around
use Rattle.eql_naming.specs.Around.{Entry}
use Rattle.eql_naming.specs.Forms.{is_empty_set, number, global, tuple, set, parameter, unary, binary, if_else, if_then, call_of_many}
use Rattle.eql_naming.specs.Paths.{name, partial_step, partial_back_link, partial_property}
use Rattle.eql_naming.specs.Shapes.{shape, element, pointer, property, property_key, nested, need_of, width_of}
use Rattle.eql_naming.specs.Statements.{start_of_statement, undefined, ascending, descending, clauses, select, for_each}
use Rattle.eql_resolve.specs.Resolving.{resolve, narrowed_behind, call_on, all, scopes, statement, for_body, with_, order, key_of, shape_elements, element_of, all_of, scopes_of, alias_of, clause_of, elements_of, call_of, narrow_of, postfix_of, nested_element_of, select_of, for_of, literal, scoped, cast_of}

module _ (c : Schema) (p : Bool) (r : Bool) (s : List Entry) (n : ℕ) where
  pub of_int : (at : Span) (digits : List ℕ) → resolve c p (e.Int at digits) r s n ≡ literal at.start (number digits) n
  unfolding resolve
  of_int at digits = refl

  pub of_str : (at : Span) (text : List ℕ) → resolve c p (e.Str at text) r s n ≡ literal at.start (val.Str text) n
  unfolding resolve
  of_str at text = refl

  pub of_bool : (at : Span) (b : Bool) → resolve c p (e.Bool at b) r s n ≡ literal at.start (val.Bool b) n
  unfolding resolve
  of_bool at b = refl

  pub of_partial_step : (at : Span) (x : Name) → resolve c p (e.PartialStep at x) r s n ≡ partial_step s at.start x.text n
  unfolding resolve
  of_partial_step at x = refl

  pub of_partial_back_link : (at : Span) (x : Name) → resolve c p (e.PartialBackLink at x) r s n ≡ partial_back_link s at.start n
  unfolding resolve
  of_partial_back_link at x = refl

  pub of_partial_property : (at : Span) (x : Name) → resolve c p (e.PartialProperty at x) r s n ≡ partial_property s at.start x.text n
  unfolding resolve
  of_partial_property at x = refl

  pub of_global : (at : Span) (x : Name) → resolve c p (e.Global at x) r s n ≡ global c at.start x n
  unfolding resolve
  of_global at x = refl

  pub of_name : (at : Span) (q : QualifiedName) → resolve c p (e.Name at q) r s n ≡ name c s at.start q n
  unfolding resolve
  of_name at q = refl

  pub of_parameter : (at : Span) (x : Parameter) → resolve c p (e.Parameter at x) r s n ≡ parameter c p at.start x n
  unfolding resolve
  of_parameter at x = refl

  pub of_group : (at : Span) (x : Expr) → resolve c p (e.Group at x) r s n ≡ resolve c p x r s n
  unfolding resolve block.hidden-the_row-Expr-2 carrier.hidden
  of_group at x = refl

  pub of_statement : (at : Span) (x : st.Statement) → resolve c p (e.Statement at x) r s n ≡ statement c p x r s n
  unfolding resolve block.hidden-the_row-Statement-1 carrier.hidden
  of_statement at x = refl

  pub of_unary : (at : Span) (o : UnaryOperator) (x : Expr) → resolve c p (e.Unary at o x) r s n ≡ unary at.start o (span_of x).start (resolve c p x false s) n
  unfolding resolve block.hidden-the_row-Expr-2 carrier.hidden
  of_unary at o x = refl

  pub of_cast : (at : Span) (q : QualifiedName) (x : Expr) → resolve c p (e.Cast at q x) r s n ≡ cast_of c (is_empty_set x) at.start q (resolve c p x false s) n
  unfolding resolve block.hidden-the_row-Expr-2 carrier.hidden
  of_cast at q x = refl

  pub of_binary : (at : Span) (f : Binary) → resolve c p (e.Binary at f) r s n ≡ binary at.start f.operator f.span.start (span_of f.left).start (resolve c p f.left false s) (span_of f.right).start (resolve c p f.right false s) n
  unfolding resolve block.hidden-the_row-Expr-2 carrier.hidden
  of_binary at f = refl

  pub of_if_else : (at : Span) (f : Conditional) → resolve c p (e.IfElse at f) r s n ≡ if_else at.start (span_of f.value).start (resolve c p f.value false s) (resolve c p f.condition false s) (span_of f.other).start (resolve c p f.other false s) n
  unfolding resolve block.hidden-the_row-Expr-2 carrier.hidden
  of_if_else at f = refl

  pub of_if_then : (at : Span) (f : Conditional) → resolve c p (e.IfThen at f) r s n ≡ if_then at.start (resolve c p f.condition false s) (span_of f.value).start (resolve c p f.value false s) (span_of f.other).start (resolve c p f.other false s) n
  unfolding resolve block.hidden-the_row-Expr-2 carrier.hidden
  of_if_then at f = refl

  pub of_postfix : (at : Span) (x : Expr) (f : Postfix) → resolve c p (e.Postfix at x f) r s n ≡ postfix_of c p s at.start x f n
  unfolding resolve block.hidden-the_row-Expr-2 carrier.hidden
  of_postfix at x f = refl

  -- ---- lists of expressions

  row_all : (xs : List Expr) (done : List core.Expr) (m : ℕ) → all c p (block.hidden-the_row-Expr-0 xs) done r s m ≡ each_with (λ done x. resolve c p x r s) done xs m
  unfolding resolve block.hidden-the_row-Expr-0 carrier.hidden
  row_all [] done m = refl
  row_all (x ∷ rest) done m = λ i. Part (resolve c p x r s m) (λ y. row_all rest (done ++ y.0 ∷ []) y.1 i)

  pub of_tuple : (at : Span) (xs : List Expr) → resolve c p (e.Tuple at xs) r s n ≡ tuple at.start (all_of c p r s xs) n
  unfolding resolve carrier.hidden
  of_tuple at xs = λ i. tuple at.start (λ m. row_all xs [] m i) n

  row_scopes : (xs : List Expr) (done : List Scope) (m : ℕ) → scopes c p (block.hidden-the_row-Expr-0 xs) done s m ≡ each_with (λ done x. scoped (span_of x).start (resolve c p x false s)) done xs m
  unfolding resolve block.hidden-the_row-Expr-0 carrier.hidden
  row_scopes [] done m = refl
  row_scopes (x ∷ rest) done m = λ i. Part (scoped (span_of x).start (resolve c p x false s) m) (λ y. row_scopes rest (done ++ y.0 ∷ []) y.1 i)

  pub of_set : (at : Span) (xs : List Expr) → resolve c p (e.Set at xs) r s n ≡ set at.start (scopes_of c p s xs) n
  unfolding resolve carrier.hidden
  of_set at xs = λ i. set at.start (λ m. row_scopes xs [] m i) n

module _ (c : Schema) (p : Bool) (s : List Entry) where
  call_row : (xs : List Expr) (start : ℕ) (q : QualifiedName) (n : ℕ) → call_on c p (block.hidden-the_row-Expr-0 xs) start q (all c p (block.hidden-the_row-Expr-0 xs) [] false s) s n ≡ call_of c p s start q xs n
  unfolding resolve block.hidden-the_row-Expr-0 carrier.hidden
  call_row [] start q n = refl
  call_row (x ∷ []) start q n = refl
  call_row (x ∷ y ∷ rest) start q n = λ i. call_of_many start q (λ m. row_all c p false s m (x ∷ y ∷ rest) [] m i) n

  pub of_call : (r : Bool) (at : Span) (q : QualifiedName) (xs : List Expr) (n : ℕ) → resolve c p (e.Call at q xs) r s n ≡ call_of c p s at.start q xs n
  unfolding resolve carrier.hidden
  of_call r at q xs n = call_row xs at.start q n

  -- ---- what stands before `[is T]`

  -- `[is T]` behind a postfix
  pub of_narrow : (at : Span) (x : Expr) (f : Postfix) (start place : ℕ) (q : QualifiedName) (n : ℕ) → narrow_of c p (e.Postfix at x f) s start place q n ≡ narrowed_behind c f.step start at.start (span_of x).start f.span.start q place (resolve c p (e.Postfix at x f) false s) (resolve c p x false s) n
  unfolding resolve block.hidden-the_row-Expr-2 carrier.hidden
  of_narrow at x f start place q n = refl

  -- ---- shapes

  row_elements : (xs : List el.Element) (done : List core_element.Element) (n : ℕ) → shape_elements c p (block.hidden-the_row-Element-3 xs) done s n ≡ each_with (λ done x. element_of c p x (map (λ y. y.name) done) s) done xs n
  unfolding resolve block.hidden-the_row-Element-3 carrier.hidden
  row_elements [] done n = refl
  row_elements (x ∷ rest) done n = λ i. Part (element_of c p x (map (λ y. y.name) done) s n) (λ y. row_elements rest (done ++ y.0 ∷ []) y.1 i)

  row_keys : (xs : List key.Key) (done : List core_key.Key) (n : ℕ) → order c p (block.hidden-the_row-Key-4 xs) done s n ≡ each_with (λ done x. key_of c p x s) done xs n
  unfolding resolve block.hidden-the_row-Key-4 carrier.hidden
  row_keys [] done n = refl
  row_keys (x ∷ rest) done n = λ i. Part (key_of c p x s n) (λ y. row_keys rest (done ++ y.0 ∷ []) y.1 i)

  row_aliases : (xs : List Alias) (d : Defined) (n : ℕ) → with_ c p (block.hidden-the_row-Alias-5 xs) d s n ≡ in_turn (alias_of c p s) d xs n
  unfolding resolve block.hidden-the_row-Alias-5 block.hidden-the_row-Expr-2 carrier.hidden
  row_aliases [] d n = refl
  row_aliases (x ∷ rest) d n = λ i. Part (alias_of c p s d x n) (λ y. row_aliases rest y.0 y.1 i)

  pub of_ascending : (x : Expr) (place : Option EmptyPlace) (n : ℕ) → key_of c p (key.Ascending x place) s n ≡ ascending place (scoped (span_of x).start (resolve c p x false s)) n
  unfolding resolve block.hidden-the_row-Expr-2 carrier.hidden
  of_ascending x place n = refl

  pub of_descending : (x : Expr) (place : Option EmptyPlace) (n : ℕ) → key_of c p (key.Descending x place) s n ≡ descending place (scoped (span_of x).start (resolve c p x false s)) n
  unfolding resolve block.hidden-the_row-Expr-2 carrier.hidden
  of_descending x place n = refl

  pub of_pointer : (at : Span) (x : Name) (keys : List (List ℕ)) (n : ℕ) → element_of c p (el.Pointer at x) keys s n ≡ element keys at.start x.text None None (pointer s at.start x.text) n
  unfolding resolve
  of_pointer at x keys n = refl

  pub of_property : (at : Span) (x : Name) (keys : List (List ℕ)) (n : ℕ) → element_of c p (el.Property at x) keys s n ≡ element keys at.start (property_key x.text) None None (property s at.start x.text) n
  unfolding resolve
  of_property at x keys n = refl

  pub of_splat : (at : Span) (keys : List (List ℕ)) (n : ℕ) → element_of c p (el.Splat at) keys s n ≡ refuses (Rule N7 at.start) n
  unfolding resolve
  of_splat at keys n = refl

  pub of_double_splat : (at : Span) (keys : List (List ℕ)) (n : ℕ) → element_of c p (el.DoubleSplat at) keys s n ≡ refuses (Rule N7 at.start) n
  unfolding resolve
  of_double_splat at keys n = refl

  pub of_computed : (at : Span) (words : Qualifiers) (x : Name) (value : Expr) (keys : List (List ℕ)) (n : ℕ) → element_of c p (el.Computed at words x value) keys s n ≡ element keys at.start x.text (need_of words.need) (width_of words.width) (scoped (span_of value).start (resolve c p value true s)) n
  unfolding resolve block.hidden-the_row-Expr-2 carrier.hidden
  of_computed at words x value keys n = refl

  pub of_body_statement : (x : st.Statement) (r : Bool) (n : ℕ) → for_body c p (body.Statement x) r s n ≡ scoped (start_of_statement x) (statement c p x r s) n
  unfolding resolve block.hidden-the_row-Statement-1 carrier.hidden
  of_body_statement x r n = refl

  pub of_body_expr : (x : Expr) (r : Bool) (n : ℕ) → for_body c p (body.Expr x) r s n ≡ scoped (span_of x).start (resolve c p x r s) n
  unfolding resolve block.hidden-the_row-Expr-2 carrier.hidden
  of_body_expr x r n = refl

module _ (c : Schema) (p : Bool) where
  pub of_shaped : (r : Bool) (s : List Entry) (at : Span) (f : Shaped) (n : ℕ) → resolve c p (e.Shaped at f) r s n ≡ shape at.start r f.shape.span.start (resolve c p f.base false s) (λ u. elements_of c p (around.On u ∷ s) f.shape.elements) n
  unfolding resolve carrier.hidden block.hidden-the_row-Expr-2
  of_shaped r s at f n = λ i. shape at.start r f.shape.span.start (resolve c p f.base false s) (λ u m. row_elements c p (around.On u ∷ s) f.shape.elements [] m i) n

  -- ---- statements

  module _ (r : Bool) (s : List Entry) (at : Span) (aliases : List Alias) (x : Expr) (ks : List key.Key) (n : ℕ) where
    select_parts : (f o l : Option Expr) → statement c p (st.Select at aliases (record { subject = x; clauses = record { filter = f; order = ks; offset = o; limit = l } })) r s n ≡ select_of c p r s at.start aliases (record { subject = x; clauses = record { filter = f; order = ks; offset = o; limit = l } }) n
    unfolding resolve carrier.hidden block.hidden-the_row-Expr-2
    select_parts None None None = λ i. select s at.start (λ m. row_aliases c p s aliases undefined m i) (λ s'. resolve c p x r s') (λ u s'. clauses (clause_of c p (around.On u ∷ s') None) (λ m. row_keys c p (around.On u ∷ s') ks [] m i) (clause_of c p s' None) (clause_of c p s' None)) n
    select_parts None None (Some l) = λ i. select s at.start (λ m. row_aliases c p s aliases undefined m i) (λ s'. resolve c p x r s') (λ u s'. clauses (clause_of c p (around.On u ∷ s') None) (λ m. row_keys c p (around.On u ∷ s') ks [] m i) (clause_of c p s' None) (clause_of c p s' (Some l))) n
    select_parts None (Some o) None = λ i. select s at.start (λ m. row_aliases c p s aliases undefined m i) (λ s'. resolve c p x r s') (λ u s'. clauses (clause_of c p (around.On u ∷ s') None) (λ m. row_keys c p (around.On u ∷ s') ks [] m i) (clause_of c p s' (Some o)) (clause_of c p s' None)) n
    select_parts None (Some o) (Some l) = λ i. select s at.start (λ m. row_aliases c p s aliases undefined m i) (λ s'. resolve c p x r s') (λ u s'. clauses (clause_of c p (around.On u ∷ s') None) (λ m. row_keys c p (around.On u ∷ s') ks [] m i) (clause_of c p s' (Some o)) (clause_of c p s' (Some l))) n
    select_parts (Some f) None None = λ i. select s at.start (λ m. row_aliases c p s aliases undefined m i) (λ s'. resolve c p x r s') (λ u s'. clauses (clause_of c p (around.On u ∷ s') (Some f)) (λ m. row_keys c p (around.On u ∷ s') ks [] m i) (clause_of c p s' None) (clause_of c p s' None)) n
    select_parts (Some f) None (Some l) = λ i. select s at.start (λ m. row_aliases c p s aliases undefined m i) (λ s'. resolve c p x r s') (λ u s'. clauses (clause_of c p (around.On u ∷ s') (Some f)) (λ m. row_keys c p (around.On u ∷ s') ks [] m i) (clause_of c p s' None) (clause_of c p s' (Some l))) n
    select_parts (Some f) (Some o) None = λ i. select s at.start (λ m. row_aliases c p s aliases undefined m i) (λ s'. resolve c p x r s') (λ u s'. clauses (clause_of c p (around.On u ∷ s') (Some f)) (λ m. row_keys c p (around.On u ∷ s') ks [] m i) (clause_of c p s' (Some o)) (clause_of c p s' None)) n
    select_parts (Some f) (Some o) (Some l) = λ i. select s at.start (λ m. row_aliases c p s aliases undefined m i) (λ s'. resolve c p x r s') (λ u s'. clauses (clause_of c p (around.On u ∷ s') (Some f)) (λ m. row_keys c p (around.On u ∷ s') ks [] m i) (clause_of c p s' (Some o)) (clause_of c p s' (Some l))) n

  pub of_select : (r : Bool) (s : List Entry) (at : Span) (aliases : List Alias) (f : Select) (n : ℕ) → statement c p (st.Select at aliases f) r s n ≡ select_of c p r s at.start aliases f n
  of_select r s at aliases f n = select_parts r s at aliases f.subject f.clauses.order n f.clauses.filter f.clauses.offset f.clauses.limit

  pub of_for : (r : Bool) (s : List Entry) (at : Span) (aliases : List Alias) (f : For) (n : ℕ) → statement c p (st.For at aliases f) r s n ≡ for_of c p r s at.start aliases f n
  unfolding resolve carrier.hidden block.hidden-the_row-Expr-2
  of_for r s at aliases f n = λ i. for_each s at.start f.variable.text (λ m. row_aliases c p s aliases undefined m i) (λ s'. scoped (span_of f.iterator).start (resolve c p f.iterator false s')) (λ s'. for_body c p f.body r s') n

  module _ (s : List Entry) (at : Span) (x : Name) (keys : List (List ℕ)) (brace : Span) (es : List el.Element) (ks : List key.Key) (n : ℕ) where
    nested_parts : (f o l : Option Expr) → element_of c p (el.Nested at x (record { shape = record { span = brace; elements = es }; clauses = record { filter = f; order = ks; offset = o; limit = l } })) keys s n ≡ nested_element_of c p keys s at.start x.text (record { shape = record { span = brace; elements = es }; clauses = record { filter = f; order = ks; offset = o; limit = l } }) n
    unfolding resolve carrier.hidden block.hidden-the_row-Expr-2
    nested_parts None None None = λ i. element keys at.start x.text None None (nested s at.start x.text (λ u m. row_elements c p (around.On u ∷ s) es [] m i) (λ u. clauses (clause_of c p (around.On u ∷ s) None) (λ m. row_keys c p (around.On u ∷ s) ks [] m i) (clause_of c p s None) (clause_of c p s None))) n
    nested_parts None None (Some l) = λ i. element keys at.start x.text None None (nested s at.start x.text (λ u m. row_elements c p (around.On u ∷ s) es [] m i) (λ u. clauses (clause_of c p (around.On u ∷ s) None) (λ m. row_keys c p (around.On u ∷ s) ks [] m i) (clause_of c p s None) (clause_of c p s (Some l)))) n
    nested_parts None (Some o) None = λ i. element keys at.start x.text None None (nested s at.start x.text (λ u m. row_elements c p (around.On u ∷ s) es [] m i) (λ u. clauses (clause_of c p (around.On u ∷ s) None) (λ m. row_keys c p (around.On u ∷ s) ks [] m i) (clause_of c p s (Some o)) (clause_of c p s None))) n
    nested_parts None (Some o) (Some l) = λ i. element keys at.start x.text None None (nested s at.start x.text (λ u m. row_elements c p (around.On u ∷ s) es [] m i) (λ u. clauses (clause_of c p (around.On u ∷ s) None) (λ m. row_keys c p (around.On u ∷ s) ks [] m i) (clause_of c p s (Some o)) (clause_of c p s (Some l)))) n
    nested_parts (Some f) None None = λ i. element keys at.start x.text None None (nested s at.start x.text (λ u m. row_elements c p (around.On u ∷ s) es [] m i) (λ u. clauses (clause_of c p (around.On u ∷ s) (Some f)) (λ m. row_keys c p (around.On u ∷ s) ks [] m i) (clause_of c p s None) (clause_of c p s None))) n
    nested_parts (Some f) None (Some l) = λ i. element keys at.start x.text None None (nested s at.start x.text (λ u m. row_elements c p (around.On u ∷ s) es [] m i) (λ u. clauses (clause_of c p (around.On u ∷ s) (Some f)) (λ m. row_keys c p (around.On u ∷ s) ks [] m i) (clause_of c p s None) (clause_of c p s (Some l)))) n
    nested_parts (Some f) (Some o) None = λ i. element keys at.start x.text None None (nested s at.start x.text (λ u m. row_elements c p (around.On u ∷ s) es [] m i) (λ u. clauses (clause_of c p (around.On u ∷ s) (Some f)) (λ m. row_keys c p (around.On u ∷ s) ks [] m i) (clause_of c p s (Some o)) (clause_of c p s None))) n
    nested_parts (Some f) (Some o) (Some l) = λ i. element keys at.start x.text None None (nested s at.start x.text (λ u m. row_elements c p (around.On u ∷ s) es [] m i) (λ u. clauses (clause_of c p (around.On u ∷ s) (Some f)) (λ m. row_keys c p (around.On u ∷ s) ks [] m i) (clause_of c p s (Some o)) (clause_of c p s (Some l)))) n

  pub of_nested : (s : List Entry) (at : Span) (x : Name) (f : Nested) (keys : List (List ℕ)) (n : ℕ) → element_of c p (el.Nested at x f) keys s n ≡ nested_element_of c p keys s at.start x.text f n
  of_nested s at x f keys n = nested_parts s at x keys f.shape.span f.shape.elements f.clauses.order n f.clauses.filter f.clauses.offset f.clauses.limit
