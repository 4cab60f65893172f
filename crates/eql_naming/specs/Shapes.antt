-- The rules of shapes and their elements.
use Rattle.std.specs.Prelude.{ℕ, Bool, true, false, not, List, [], ◌∷◌, ◌++◌, codes, Option, Some, None}
use Rattle.plan.specs.Ruled.{gives, refuses, must, known, fresh, ◌>>=◌, ◌>>◌}
use Rattle.ast.specs.declared.shape.Need.{Need}
use Rattle.ast.specs.declared.shape.Need.TheVariants as written_need
use Rattle.ast.specs.declared.shape.Width.{Width}
use Rattle.ast.specs.declared.shape.Width.TheVariants as written_width
use Rattle.core_ir.specs.declared.path.Step.TheVariants as step
use Rattle.core_ir.specs.declared.tree.Alias.{Alias}
use Rattle.core_ir.specs.declared.tree.Element.{Element}
use Rattle.core_ir.specs.declared.tree.Expr.{Expr}
use Rattle.core_ir.specs.declared.tree.Expr.TheVariants as expr
use Rattle.core_ir.specs.declared.tree.Need as need
use Rattle.core_ir.specs.declared.tree.Need.TheVariants as kept_need
use Rattle.core_ir.specs.declared.tree.Scope.{Scope}
use Rattle.core_ir.specs.declared.tree.Select.{roll-Select}
use Rattle.core_ir.specs.declared.tree.Width as width
use Rattle.core_ir.specs.declared.tree.Width.TheVariants as kept_width
use Rattle.ev_names.specs.Names.{is_among}
use Rattle.eql_naming.specs.declared.around.Subject.{Subject}
use Rattle.eql_naming.specs.declared.clauses.Clauses.{Clauses}
use Rattle.eql_naming.specs.declared.refusal.NameRule.TheVariants.{N4, N6, P1, P2}
use Rattle.eql_naming.specs.declared.refusal.NameRefusal.TheVariants.{Rule}
use Rattle.eql_naming.specs.Around.{Entry, subject_of, of_element}
use Rattle.eql_naming.specs.Naming.{Naming}
use Rattle.eql_naming.specs.Paths.{scope_at, step_from, subject_at, element_subject}

-- a shape of these elements, which stands only where a result does
unfoldable pub shape_made : ℕ → Bool → ℕ → Expr → ℕ → List Element → Naming Expr
shape_made start result brace x k es = do
  _ ← must result (Rule P2 brace)
  gives (expr.Shaped start x None k es)

-- an expression with a shape, whose elements stand behind its subject
unfoldable pub shape : ℕ → Bool → ℕ → Naming Expr → (Subject → Naming (List Element)) → Naming Expr
shape start result brace base elements = do
  x ← base
  k ← fresh
  es ← elements (subject_at x k)
  shape_made start result brace x k es

-- the words before an element, as the tree has them
abbrev pub need_of : Option Need → Option need.Need
need_of None = None
need_of (Some written_need.Required) = Some kept_need.Required
need_of (Some written_need.Optional) = Some kept_need.Optional

abbrev pub width_of : Option Width → Option width.Width
width_of None = None
width_of (Some written_width.Single) = Some kept_width.Single
width_of (Some written_width.Multi) = Some kept_width.Multi

-- an element with a value, after elements of these keys
unfoldable pub kept : List (List ℕ) → ℕ → List ℕ → Option need.Need → Option width.Width → Scope → Naming Element
kept keys start key n w v = do
  _ ← must (not (is_among key keys)) (Rule N6 start)
  gives (record { start = start; name = key; need = n; width = w; ty = None; card = None; value = v })

-- an element over the rule of its value, after elements of these keys
unfoldable pub element : List (List ℕ) → ℕ → List ℕ → Option need.Need → Option width.Width → Naming Scope → Naming Element
element keys start key n w value = do
  v ← value
  kept keys start key n w v

-- `p`: the path to a pointer
unfoldable pub pointer : List Entry → ℕ → List ℕ → Naming Scope
pointer s start name = do
  u ← known (subject_of s) (Rule N4 start)
  gives (scope_at start (step_from u start (step.Dot name)))

-- `@p`: a link property
unfoldable pub property : List Entry → ℕ → List ℕ → Naming Scope
property s start name = do
  u ← known (of_element (subject_of s)) (Rule P1 start)
  gives (scope_at start (step_from u start (step.LinkProp name)))

-- the key of a link property in the answer
abbrev pub property_key : List ℕ → List ℕ
property_key name = codes "@" ++ name

-- a select of these parts
abbrev pub selected : ℕ → List Alias → Expr → ℕ → Clauses → Expr
selected start aliases x k c =
    expr.Select start aliases (roll-Select (record { subject = x; ty = None; number = k; filter = c.filter; keys = c.keys; offset = c.offset; limit = c.limit }))

-- the select of an element `p: {..}`, over the path to the pointer
abbrev pub nested_scope : ℕ → Expr → ℕ → List Element → ℕ → Clauses → Scope
nested_scope start path j es k c = scope_at start (selected start [] (expr.Shaped start path None j es) k c)

-- what stands behind the next number
unfoldable pub numbered : {A : Type 0} → Naming A → Naming A
numbered rule = do
  k ← fresh
  rule

-- `p: {..}` with clauses, over the subject round it
unfoldable pub nested_behind : Subject → ℕ → List ℕ → (Subject → Naming (List Element)) → (Subject → Naming Clauses) → Naming Scope
nested_behind u start name elements clauses = do
  j ← fresh
  es ← elements (element_subject u name)
  k ← fresh
  c ← clauses (element_subject u name)
  gives (nested_scope start (step_from u start (step.Dot name)) j es k c)

-- `p: {..}` with clauses: a select of the path to a pointer with a shape
unfoldable pub nested : List Entry → ℕ → List ℕ → (Subject → Naming (List Element)) → (Subject → Naming Clauses) → Naming Scope
nested s start name elements clauses = do
  u ← known (subject_of s) (Rule N4 start)
  nested_behind u start name elements clauses
