-- From what was read to the core tree: each form by its rule.
use Rattle.std.specs.Prelude.{ℕ, Bool, true, false, List, [], ◌∷◌, ◌++◌, map, Option, Some, None}
use Rattle.plan.specs.Ruled.{gives, refuses, each_with, in_turn, ◌>>=◌}
use Rattle.ast.specs.Expression.{span_of}
use Rattle.ast.specs.declared.expression.Expr as e
use Rattle.ast.specs.declared.expression.Expr.{Expr, Row_of-Expr, end_of-Expr, more_of-Expr, Row_of-Statement, end_of-Statement, more_of-Statement}
use Rattle.ast.specs.declared.expression.Postfix.{Postfix}
use Rattle.ast.specs.declared.expression.Step.{Step}
use Rattle.ast.specs.declared.expression.Step.TheVariants as postfix
use Rattle.ast.specs.declared.name.QualifiedName.{QualifiedName}
use Rattle.ast.specs.declared.shape.Element as el
use Rattle.ast.specs.declared.shape.Element.{Element, Row_of-Element, end_of-Element, more_of-Element}
use Rattle.ast.specs.declared.shape.Nested.{Nested}
use Rattle.ast.specs.declared.statement.Alias.{Alias}
use Rattle.ast.specs.declared.statement.Clauses as ast_clauses
use Rattle.ast.specs.declared.statement.For.{For}
use Rattle.ast.specs.declared.statement.Select.{Select}
use Rattle.ast.specs.declared.statement.ForBody as body
use Rattle.ast.specs.declared.statement.ForBody.{ForBody}
use Rattle.ast.specs.declared.statement.Key as key
use Rattle.ast.specs.declared.statement.Key.{Key}
use Rattle.ast.specs.declared.statement.Statement as st
use Rattle.ast.specs.declared.statement.Statement.{Statement, Row_of-Alias, end_of-Alias, more_of-Alias, Row_of-Key, end_of-Key, more_of-Key}
use Rattle.core_ir.specs.declared.tree.Element as core_element
use Rattle.core_ir.specs.declared.tree.Expr as core
use Rattle.core_ir.specs.declared.tree.Expr.TheVariants as expr
use Rattle.core_ir.specs.declared.tree.Key as core_key
use Rattle.core_ir.specs.declared.tree.Scope.{Scope}
use Rattle.ev_schema.specs.declared.schema.Schema.{Schema}
use Rattle.ev_value.specs.declared.value.Val.{Val}
use Rattle.ev_value.specs.declared.value.Val.TheVariants as val
use Rattle.eql_naming.specs.declared.around.Subject.{Subject}
use Rattle.eql_naming.specs.declared.clauses.Clauses.{Clauses}
use Rattle.eql_naming.specs.declared.clauses.Defined.{Defined}
use Rattle.eql_naming.specs.declared.clauses.Rows.{Rows}
use Rattle.eql_naming.specs.declared.refusal.NameRefusal.TheVariants.{Rule}
use Rattle.eql_naming.specs.declared.refusal.NameRule.TheVariants.{N7, P1, P3}
use Rattle.eql_naming.specs.Around as around
use Rattle.eql_naming.specs.Around.{Entry}
use Rattle.eql_naming.specs.Forms.{is_empty_set, number, global, call, call_of_many, tuple, set, cast, empty_cast, parameter, unary, binary, if_else, if_then}
use Rattle.eql_naming.specs.Naming.{Naming}
use Rattle.eql_naming.specs.Paths.{scope_at, name, partial_step, partial_back_link, partial_property, dotted, misplaced, narrowed, back_linked, partial_linked}
use Rattle.eql_naming.specs.Shapes.{shape, element, pointer, property, property_key, nested, nested_behind, need_of, width_of}
use Rattle.eql_naming.specs.Statements.{start_of_statement, undefined, defining, alias, ascending, descending, cut, clauses, rows, select, select_behind, for_each, for_each_behind}

abbrev pub literal : ℕ → Val → Naming core.Expr
literal start v = gives (expr.Literal start v)

-- an expression as a scope, from the first byte of its text on
abbrev pub scoped : ℕ → Naming core.Expr → Naming Scope
scoped start rule = rule >>= (λ x. gives (scope_at start x))

-- a cast of `{}`, or of another expression
abbrev pub cast_of : Schema → Bool → ℕ → QualifiedName → Naming core.Expr → Naming core.Expr
cast_of schema true start q operand = empty_cast schema start q
cast_of schema false start q operand = cast schema start q operand

-- What stands behind an expression, over the rule of that expression and its rule before `[is T]`. Given are the first
-- bytes of the whole, of the expression and of the postfix.
abbrev pub behind : Step → ℕ → ℕ → ℕ → Naming core.Expr → (QualifiedName → Naming core.Expr) → Naming core.Expr
behind (postfix.Dot name) start from place base narrow = dotted start from name.text place base
behind (postfix.BackLink name) start from place base narrow = misplaced (Rule P3 place) base
behind (postfix.Property name) start from place base narrow = misplaced (Rule P1 place) base
behind (postfix.Is q) start from place base narrow = narrow q

-- `[is T]` behind a postfix: a back link goes on with it, and of any other the whole has it behind
abbrev pub narrowed_behind : Schema → Step → ℕ → ℕ → ℕ → ℕ → QualifiedName → ℕ → Naming core.Expr → Naming core.Expr → Naming core.Expr
narrowed_behind schema (postfix.BackLink name) start from inner place q at whole base = back_linked schema start inner name.text place q base
narrowed_behind schema (postfix.Dot name) start from inner place q at whole base = narrowed schema start from q at whole
narrowed_behind schema (postfix.Property name) start from inner place q at whole base = narrowed schema start from q at whole
narrowed_behind schema (postfix.Is r) start from inner place q at whole base = narrowed schema start from q at whole

-- `[is T]` behind an expression, over the rules of that expression and of the one inside it
abbrev pub narrow : Schema → List Entry → ℕ → Expr → ℕ → QualifiedName → Naming core.Expr → Naming core.Expr → Naming core.Expr
narrow schema s start (e.PartialBackLink at n) place q whole inner = partial_linked schema s start n.text at.start q
narrow schema s start (e.Postfix' at _ (more_of-Expr x end_of-Expr) p) place q whole inner =
    narrowed_behind schema p.step start at.start (span_of x).start p.span.start q place whole inner
narrow schema s start x place q whole inner = narrowed schema start (span_of x).start q place whole

-- The rule of each form. Parameters are known or not, and the result position is true where a shape may stand.
module _ (schema : Schema) (parameters : Bool) where
  unfoldable mutual
    pub resolve : Expr → Bool → List Entry → Naming core.Expr
    resolve (e.Int at digits) r s = literal at.start (number digits)
    resolve (e.Str at text) r s = literal at.start (val.Str text)
    resolve (e.Bool at b) r s = literal at.start (val.Bool b)
    resolve (e.PartialStep at n) r s = partial_step s at.start n.text
    resolve (e.PartialBackLink at n) r s = partial_back_link s at.start
    resolve (e.PartialProperty at n) r s = partial_property s at.start n.text
    resolve (e.Global at n) r s = global schema at.start n
    resolve (e.Name at q) r s = name schema s at.start q
    resolve (e.Call' at q _ arguments) r s = call_on arguments at.start q (all arguments [] false s) s
    resolve (e.Statement' at _ (more_of-Statement x end_of-Statement)) r s = statement x r s
    resolve (e.Group' at _ (more_of-Expr x end_of-Expr)) r s = resolve x r s
    resolve (e.Tuple' at _ parts) r s = tuple at.start (all parts [] r s)
    resolve (e.Set' at _ elements) r s = set at.start (scopes elements [] s)
    resolve (e.Postfix' at _ (more_of-Expr x end_of-Expr) p) r s =
        behind p.step at.start (span_of x).start p.span.start (resolve x false s) (λ q. narrow schema s at.start x p.span.start q (resolve x false s) (inside x s))
    resolve (e.Shaped' at _ (more_of-Expr x end_of-Expr) brace _ elements) r s =
        shape at.start r brace.start (resolve x false s) (λ u. shape_elements elements [] (around.On u ∷ s))
    resolve (e.Cast' at q _ (more_of-Expr x end_of-Expr)) r s = cast_of schema (is_empty_set x) at.start q (resolve x false s)
    resolve (e.Parameter at p) r s = parameter schema parameters at.start p
    resolve (e.Unary' at operator _ (more_of-Expr x end_of-Expr)) r s = unary at.start operator (span_of x).start (resolve x false s)
    resolve (e.Binary' at operator place _ (more_of-Expr x end_of-Expr) _ (more_of-Expr y end_of-Expr)) r s =
        binary at.start operator place.start (span_of x).start (resolve x false s) (span_of y).start (resolve y false s)
    resolve (e.IfElse' at _ (more_of-Expr c end_of-Expr) _ (more_of-Expr x end_of-Expr) _ (more_of-Expr y end_of-Expr)) r s =
        if_else at.start (span_of x).start (resolve x false s) (resolve c false s) (span_of y).start (resolve y false s)
    resolve (e.IfThen' at _ (more_of-Expr c end_of-Expr) _ (more_of-Expr x end_of-Expr) _ (more_of-Expr y end_of-Expr)) r s =
        if_then at.start (resolve c false s) (span_of x).start (resolve x false s) (span_of y).start (resolve y false s)

    -- a call, over the rule of all its arguments
    pub call_on : {m : _} → Row_of-Expr m → ℕ → QualifiedName → Naming (List core.Expr) → List Entry → Naming core.Expr
    call_on (more_of-Expr a end_of-Expr) start q arguments s = call start q (span_of a).start (resolve a false s)
    call_on _ start q arguments s = call_of_many start q arguments

    -- the expression before a postfix; of any other expression there is none, and this is not asked
    pub inside : Expr → List Entry → Naming core.Expr
    inside (e.Postfix' _ _ (more_of-Expr x end_of-Expr) _) s = resolve x false s
    inside _ s = refuses (Rule P3 0)

    -- several expressions, after some
    pub all : {m : _} → Row_of-Expr m → List core.Expr → Bool → List Entry → Naming (List core.Expr)
    all end_of-Expr done r s = gives done
    all (more_of-Expr x rest) done r s = resolve x r s >>= (λ y. all rest (done ++ y ∷ []) r s)

    -- several expressions as scopes, after some
    pub scopes : {m : _} → Row_of-Expr m → List Scope → List Entry → Naming (List Scope)
    scopes end_of-Expr done s = gives done
    scopes (more_of-Expr x rest) done s = scoped (span_of x).start (resolve x false s) >>= (λ y. scopes rest (done ++ y ∷ []) s)

    pub statement : Statement → Bool → List Entry → Naming core.Expr
    statement (st.Select' at _ aliases _ (more_of-Expr x end_of-Expr) filter _ keys offset limit) r s =
        select s at.start (with_ aliases undefined s) (λ s'. resolve x r s')
        (λ u s'. clauses (clause filter (around.On u ∷ s')) (order keys [] (around.On u ∷ s')) (clause offset s') (clause limit s'))
    statement (st.For' at _ aliases n _ (more_of-Expr x end_of-Expr) y) r s =
        for_each s at.start n.text (with_ aliases undefined s) (λ s'. scoped (span_of x).start (resolve x false s')) (λ s'. for_body y r s')

    -- the body of a loop
    pub for_body : body.ForBody → Bool → List Entry → Naming Scope
    for_body (body.Statement' _ (more_of-Statement x end_of-Statement)) r s = scoped (start_of_statement x) (statement x r s)
    for_body (body.Expr' _ (more_of-Expr x end_of-Expr)) r s = scoped (span_of x).start (resolve x r s)

    -- aliases, after some
    pub with_ : {m : _} → Row_of-Alias m → Defined → List Entry → Naming Defined
    with_ end_of-Alias d s = gives d
    with_ (more_of-Alias at n _ (more_of-Expr x end_of-Expr) rest) d s =
        alias d at.start n.text (scoped (span_of x).start (resolve x false (defining d s))) >>= (λ d'. with_ rest d' s)

    -- a clause, if there is one
    pub clause : st.Held-Clauses-filter → List Entry → Naming (Option Scope)
    clause st.None' s = gives None
    clause (st.Some' _ (more_of-Expr x end_of-Expr)) s = scoped (span_of x).start (resolve x false s) >>= (λ v. gives (Some v))

    -- the keys of an order, after some
    pub order : {m : _} → Row_of-Key m → List core_key.Key → List Entry → Naming (List core_key.Key)
    order end_of-Key done s = gives done
    order (more_of-Key k rest) done s = key_of k s >>= (λ y. order rest (done ++ y ∷ []) s)

    pub key_of : key.Key → List Entry → Naming core_key.Key
    key_of (key.Ascending' _ (more_of-Expr x end_of-Expr) p) s = ascending p (scoped (span_of x).start (resolve x false s))
    key_of (key.Descending' _ (more_of-Expr x end_of-Expr) p) s = descending p (scoped (span_of x).start (resolve x false s))

    -- the elements of a shape, after some
    pub shape_elements : {m : _} → Row_of-Element m → List core_element.Element → List Entry → Naming (List core_element.Element)
    shape_elements end_of-Element done s = gives done
    shape_elements (more_of-Element x rest) done s = element_of x (map (λ y. y.name) done) s >>= (λ y. shape_elements rest (done ++ y ∷ []) s)

    -- an element, after elements of these keys
    pub element_of : el.Element → List (List ℕ) → List Entry → Naming core_element.Element
    element_of (el.Pointer at n) keys s = element keys at.start n.text None None (pointer s at.start n.text)
    element_of (el.Nested' at n brace _ elements filter _ keys' offset limit) keys s =
        element keys at.start n.text None None
        (nested s at.start n.text (λ u. shape_elements elements [] (around.On u ∷ s))
        (λ u. clauses (clause filter (around.On u ∷ s)) (order keys' [] (around.On u ∷ s)) (clause offset s) (clause limit s)))
    element_of (el.Property at n) keys s = element keys at.start (property_key n.text) None None (property s at.start n.text)
    element_of (el.Splat at) keys s = refuses (Rule N7 at.start)
    element_of (el.DoubleSplat at) keys s = refuses (Rule N7 at.start)
    element_of (el.Computed' at q n _ (more_of-Expr x end_of-Expr)) keys s =
        element keys at.start n.text (need_of q.need) (width_of q.width) (scoped (span_of x).start (resolve x true s))

  -- The same over lists, as the code has them.

  abbrev pub all_of : Bool → List Entry → List Expr → Naming (List core.Expr)
  all_of r s = each_with (λ done x. resolve x r s) []

  abbrev pub scopes_of : List Entry → List Expr → Naming (List Scope)
  scopes_of s = each_with (λ done x. scoped (span_of x).start (resolve x false s)) []

  abbrev pub alias_of : List Entry → Defined → Alias → Naming Defined
  alias_of s d a = alias d a.span.start a.name.text (scoped (span_of a.value).start (resolve a.value false (defining d s)))

  abbrev pub aliases_of : List Entry → List Alias → Naming Defined
  aliases_of s = in_turn (alias_of s) undefined

  abbrev pub clause_of : List Entry → Option Expr → Naming (Option Scope)
  clause_of s None = gives None
  clause_of s (Some x) = scoped (span_of x).start (resolve x false s) >>= (λ v. gives (Some v))

  abbrev pub keys_of : List Entry → List Key → Naming (List core_key.Key)
  keys_of s = each_with (λ done k. key_of k s) []

  abbrev pub elements_of : List Entry → List Element → Naming (List core_element.Element)
  elements_of s = each_with (λ done x. element_of x (map (λ y. y.name) done) s) []

  abbrev pub call_of : List Entry → ℕ → QualifiedName → List Expr → Naming core.Expr
  call_of s start q (a ∷ []) = call start q (span_of a).start (resolve a false s)
  call_of s start q arguments = call_of_many start q (all_of false s arguments)

  abbrev pub narrow_of : Expr → List Entry → ℕ → ℕ → QualifiedName → Naming core.Expr
  narrow_of x s start place q = narrow schema s start x place q (resolve x false s) (inside x s)

  abbrev pub postfix_of : List Entry → ℕ → Expr → Postfix → Naming core.Expr
  postfix_of s start x p = behind p.step start (span_of x).start p.span.start (resolve x false s) (λ q. narrow_of x s start p.span.start q)

  abbrev pub clauses_of : List Entry → ast_clauses.Clauses → Subject → Naming Clauses
  clauses_of s c u = clauses (clause_of (around.On u ∷ s) c.filter) (keys_of (around.On u ∷ s) c.order) (clause_of s c.offset) (clause_of s c.limit)

  abbrev pub cut_of : List Entry → ast_clauses.Clauses → Option Scope → List core_key.Key → Naming Clauses
  cut_of s c f ks = cut f ks (clause_of s c.offset) (clause_of s c.limit)

  abbrev pub nested_of : List Entry → ℕ → List ℕ → Nested → Naming Scope
  nested_of s start name n = nested s start name (λ u. elements_of (around.On u ∷ s) n.shape.elements) (clauses_of s n.clauses)

  abbrev pub nested_behind_of : List Entry → Subject → ℕ → List ℕ → Nested → Naming Scope
  nested_behind_of s u start name n = nested_behind u start name (λ u. elements_of (around.On u ∷ s) n.shape.elements) (clauses_of s n.clauses)

  abbrev pub nested_element_of : List (List ℕ) → List Entry → ℕ → List ℕ → Nested → Naming core_element.Element
  nested_element_of keys s start name n = element keys start name None None (nested_of s start name n)

  abbrev pub select_of : Bool → List Entry → ℕ → List Alias → Select → Naming core.Expr
  select_of r s start aliases c = select s start (aliases_of s aliases) (λ s'. resolve c.subject r s') (λ u s'. clauses_of s' c.clauses u)

  abbrev pub rows_of : Bool → List Entry → Select → Naming Rows
  rows_of r s c = rows s (λ s'. resolve c.subject r s') (λ u s'. clauses_of s' c.clauses u)

  abbrev pub select_behind_of : Bool → List Entry → ℕ → Defined → Select → Naming core.Expr
  select_behind_of r s start d c = select_behind s start d (λ s'. resolve c.subject r s') (λ u s'. clauses_of s' c.clauses u)

  abbrev pub for_of : Bool → List Entry → ℕ → List Alias → For → Naming core.Expr
  for_of r s start aliases f = for_each s start f.variable.text (aliases_of s aliases) (λ s'. scoped (span_of f.iterator).start (resolve f.iterator false s')) (λ s'. for_body f.body r s')

  abbrev pub for_behind_of : Bool → List Entry → ℕ → Defined → For → Naming core.Expr
  for_behind_of r s start d f = for_each_behind s start f.variable.text d (λ s'. scoped (span_of f.iterator).start (resolve f.iterator false s')) (λ s'. for_body f.body r s')
