-- Paths as naming makes them.
use Rattle.std.specs.Prelude.{ℕ, Bool, true, false, List, [], ◌∷◌, ◌++◌, codes, Option, Some, None, option_map}
use Rattle.plan.specs.Ruled.{gives, refuses, must, known, fresh, ◌>>=◌, ◌>>◌}
use Rattle.ast.specs.declared.name.Name.{Name}
use Rattle.ast.specs.declared.name.QualifiedName.{QualifiedName}
use Rattle.ast.specs.Name.{start_of}
use Rattle.core_ir.specs.declared.path.Path.{Path}
use Rattle.core_ir.specs.declared.path.Root.{Root}
use Rattle.core_ir.specs.declared.path.Root.TheVariants as root
use Rattle.core_ir.specs.declared.path.Step.{Step}
use Rattle.core_ir.specs.declared.path.TypeId.{TypeId}
use Rattle.core_ir.specs.declared.path.Step.TheVariants as step
use Rattle.core_ir.specs.declared.tree.Expr.{Expr, end_of-Expr, more_of-Expr}
use Rattle.core_ir.specs.declared.tree.Expr as e
use Rattle.core_ir.specs.declared.tree.Expr.TheVariants as expr
use Rattle.core_ir.specs.declared.tree.Misfit.{Misfit}
use Rattle.core_ir.specs.declared.tree.Misfit.TheVariants as misfit
use Rattle.core_ir.specs.declared.tree.Occurrence.{Occurrence}
use Rattle.core_ir.specs.declared.tree.Scope.{Scope}
use Rattle.ev_schema.specs.declared.schema.Schema.{Schema}
use Rattle.eql_naming.specs.declared.around.Subject.{Subject}
use Rattle.eql_naming.specs.declared.meaning.Meant.{Meant}
use Rattle.eql_naming.specs.declared.meaning.Meant.TheVariants as meant
use Rattle.eql_naming.specs.declared.refusal.NameRule.TheVariants.{N1, N3, N4, N7, P1, P3}
use Rattle.eql_naming.specs.declared.refusal.NameRefusal.{NameRefusal}
use Rattle.eql_naming.specs.declared.refusal.NameRefusal.TheVariants.{Rule}
use Rattle.eql_naming.specs.Around.{Entry, find, or_root, subject_of, of_element}
use Rattle.eql_naming.specs.Names.{is_module, type_meant, object_of}
use Rattle.eql_naming.specs.Naming.{Naming}

-- an expression whose paths are bound for themselves, from the first byte of its text on
abbrev pub scope_at : ℕ → Expr → Scope
scope_at start x = record { start = start; ty = None; body = x }

-- a path with one more step, which stands at a byte
abbrev pub stepped : Occurrence → Step → ℕ → Occurrence
stepped o x place = record { name = o.name; path = record { root = o.path.root; steps = o.path.steps ++ x ∷ [] }; places = o.places ++ place ∷ [] }

-- the path of a subject, with no steps of its own text
abbrev pub occurrence_of : Subject → Occurrence
occurrence_of s = record { name = s.name; path = s.path; places = [] }

-- a root of its own as a subject
abbrev pub own_subject : ℕ → Subject
own_subject k = record { name = codes "_"; path = record { root = root.Subject k; steps = [] }; of_element = false }

-- the subject that an expression gives to what stands behind it: its path, through a shape too, or else a root of its own
abbrev pub subject_at : Expr → ℕ → Subject
subject_at (e.Path _ o) k = record { name = o.name; path = o.path; of_element = false }
subject_at (e.OnBase' _ _ _ _ _ o) k = record { name = o.name; path = o.path; of_element = false }
subject_at (e.Shaped' _ _ (more_of-Expr x end_of-Expr) _ _ _ _) k = subject_at x k
subject_at x k = own_subject k

-- the subject of an element `p: {..}`
abbrev pub element_subject : Subject → List ℕ → Subject
element_subject s name = record { name = s.name; path = record { root = s.path.root; steps = s.path.steps ++ step.Dot name ∷ [] }; of_element = true }

-- a step from a base that is a root of its own
abbrev pub on_new_base : ℕ → ℕ → Step → ℕ → Expr → ℕ → Expr
on_new_base start from x place base k =
    expr.OnBase start (scope_at from base) (record { name = codes "_"; path = record { root = root.Base k; steps = x ∷ [] }; places = place ∷ [] })

-- A step behind an expression: a path goes on, and of any other expression a new base begins. Given are the first bytes of
-- the whole and of the expression before the step, the step, and its place.
unfoldable pub step_behind : ℕ → ℕ → Step → ℕ → Expr → Naming Expr
step_behind start from x place (e.Path _ o) = gives (expr.Path start (stepped o x place))
step_behind start from x place (e.OnBase' _ s t _ (more_of-Expr base end_of-Expr) o) =
    gives (expr.OnBase start (record { start = s; ty = t; body = base }) (stepped o x place))
step_behind start from x place base = do
  k ← fresh
  gives (on_new_base start from x place base k)

-- a path without steps
abbrev pub root_path : ℕ → List ℕ → Root → Expr
root_path start name r = expr.Path start (record { name = name; path = record { root = r; steps = [] }; places = [] })

-- the objects of a type
abbrev pub extent_of : Option TypeId → Option Root
extent_of t = option_map root.Extent t

-- What a name alone stands for: without a module an alias or a variable, the innermost one, or else the objects of a type.
abbrev pub root_in : Schema → List Entry → Option Name → QualifiedName → Option Root
root_in schema s None q = or_root (find s q.name.text) (extent_of (object_of (type_meant schema q)))
root_in schema s (Some m) q = extent_of (object_of (type_meant schema q))

-- a name alone
unfoldable pub name : Schema → List Entry → ℕ → QualifiedName → Naming Expr
name schema s start q = do
  _ ← must (is_module q.module) (Rule N7 (start_of q))
  r ← known (root_in schema s q.module q) (Rule N1 (start_of q))
  gives (root_path start q.name.text r)

-- a step from a subject
abbrev pub step_from : Subject → ℕ → Step → Expr
step_from u start x = expr.Path start (stepped (occurrence_of u) x start)

-- `.name`: a step from the subject
unfoldable pub partial_step : List Entry → ℕ → List ℕ → Naming Expr
partial_step s start name = do
  u ← known (subject_of s) (Rule N4 start)
  gives (step_from u start (step.Dot name))

-- `.<name` without `[is T]` behind it
unfoldable pub partial_back_link : List Entry → ℕ → Naming Expr
partial_back_link s start = do
  u ← known (subject_of s) (Rule N4 start)
  refuses (Rule P3 start)

-- `@name`: a link property of the element round it
unfoldable pub partial_property : List Entry → ℕ → List ℕ → Naming Expr
partial_property s start name = do
  u ← known (of_element (subject_of s)) (Rule P1 start)
  gives (step_from u start (step.LinkProp name))

-- the type that a name means, in a cast or in `[is T]`
unfoldable pub type_of : Schema → QualifiedName → Naming Meant
type_of schema q = do
  _ ← must (is_module q.module) (Rule N7 (start_of q))
  known (type_meant schema q) (Rule N3 (start_of q))

-- `.name` behind an expression
unfoldable pub dotted : ℕ → ℕ → List ℕ → ℕ → Naming Expr → Naming Expr
dotted start from name place base = do
  x ← base
  step_behind start from (step.Dot name) place x

-- a back link that no `[is T]` follows, or `@` as a step
unfoldable pub misplaced : NameRefusal → Naming Expr → Naming Expr
misplaced r base = do
  x ← base
  refuses r

-- what typing refuses behind one part
abbrev pub unfit : ℕ → Misfit → ℕ → Expr → Expr
unfit start m place x = expr.Unfit start m place (x ∷ [])

-- `[is T]` behind an expression that is no back link
abbrev pub narrowed_to : ℕ → ℕ → ℕ → Expr → Meant → Naming Expr
narrowed_to start from place x (meant.Object t) = step_behind start from (step.Is t) place x
narrowed_to start from place x (meant.Scalar s) = gives (unfit start misfit.ScalarNarrowing place x)

unfoldable pub narrowed : Schema → ℕ → ℕ → QualifiedName → ℕ → Naming Expr → Naming Expr
narrowed schema start from q place base = do
  x ← base
  m ← type_of schema q
  narrowed_to start from place x m

-- a back link behind an expression and the `[is T]` that follows it
abbrev pub linked_to : ℕ → ℕ → List ℕ → ℕ → Expr → Meant → Naming Expr
linked_to start from link place x (meant.Object t) = step_behind start from (step.BackDot link t) place x
linked_to start from link place x (meant.Scalar s) = gives (unfit start misfit.ScalarBackLink place x)

unfoldable pub back_linked : Schema → ℕ → ℕ → List ℕ → ℕ → QualifiedName → Naming Expr → Naming Expr
back_linked schema start from name place q base = do
  x ← base
  m ← type_of schema q
  linked_to start from name place x m

-- a back link from the subject and the `[is T]` that follows it
unfoldable pub partial_linked : Schema → List Entry → ℕ → List ℕ → ℕ → QualifiedName → Naming Expr
partial_linked schema s start name place q = do
  u ← known (subject_of s) (Rule N4 place)
  m ← type_of schema q
  linked_to start place name place (expr.Path place (occurrence_of u)) m
