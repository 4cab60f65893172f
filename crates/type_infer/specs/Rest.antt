-- What is left of a rule where the first parts of its form have their types.
use Rattle.std.specs.Prelude.{ℕ, List, Option, Some}
use Rattle.core_ir.specs.declared.tree.Alias.{Alias}
use Rattle.core_ir.specs.declared.tree.Element.{Element}
use Rattle.core_ir.specs.declared.tree.Expr.{Expr}
use Rattle.core_ir.specs.declared.tree.Expr.TheVariants as form
use Rattle.core_ir.specs.declared.tree.Key.{Key}
use Rattle.core_ir.specs.declared.tree.Order.{Order}
use Rattle.core_ir.specs.declared.tree.Scope.{Scope}
use Rattle.core_ir.specs.declared.tree.Select.{Select, roll-Select}
use Rattle.core_ir.specs.declared.ty.Ty.{Ty}
use Rattle.ev_schema.specs.declared.schema.Schema.{Schema}
use Rattle.plan.specs.Ruled.{◌>>=◌, ◌>>◌, gives, must, known}
use Rattle.type_infer.specs.declared.clause.Clause.{Clause}
use Rattle.type_rules.specs.declared.refusal.TypeRule.TheVariants.{T4, T5}
use Rattle.type_rules.specs.declared.refusal.TypeRefusal.TheVariants.{Rule}
use Rattle.type_rules.specs.Agreement.{agreed}
use Rattle.type_rules.specs.Steps.{Plain}
use Rattle.type_infer.specs.Forms.{suits_clause, rule_of_clause}
use Rattle.type_infer.specs.Kinds.{is_object}
use Rattle.type_infer.specs.Known.{Typing, note}
use Rattle.type_rules.specs.Known.{with_type}

-- from here on a number has a type
abbrev pub noted : {A : Type 0} → ℕ → Ty → A → Typing A
noted number t a = do
  note (with_type number t)
  gives a

-- the scope of a clause, whose type suits it
abbrev pub suited : Clause → ℕ → Scope × Ty → Typing Scope
suited c start x = do
  must (suits_clause c x.1) (Rule (rule_of_clause c) start)
  gives x.0

-- a shape, behind its subject and its elements
abbrev pub shape : ℕ → ℕ → Expr × Ty → List Element → Typing (Expr × Ty)
shape byte number x es = do
  must (is_object x.1) (Rule T5 byte)
  gives (form.Shaped byte x.0 (Some x.1) number es, x.1)

-- the elements of a shape, behind its subject
abbrev pub elements_behind : ℕ → ℕ → Expr × Ty → Typing (List Element) → Typing (Expr × Ty)
elements_behind byte number x elements = do
  es ← elements
  shape byte number x es

-- a statement of its parts
abbrev pub statement : ℕ → Expr × Ty → Option Scope × List Key → Option Scope × Option Scope → Select × Ty
statement number x r c = (roll-Select (record { subject = x.0; ty = Some x.1; number = number; filter = r.0; keys = r.1; offset = c.0; limit = c.1 }), x.1)

-- the clauses of a statement, behind its subject
abbrev pub rows_behind : ℕ → Expr × Ty → Typing (Option Scope × List Key) → Typing (Option Scope × Option Scope) → Typing (Select × Ty)
rows_behind number x kept bounds = do
  r ← kept
  c ← bounds
  gives (statement number x r c)

-- the offset and the limit of a statement, behind its other parts
abbrev pub cut_behind : ℕ → Expr × Ty → Option Scope × List Key → Typing (Option Scope × Option Scope) → Typing (Select × Ty)
cut_behind number x r bounds = do
  c ← bounds
  gives (statement number x r c)

-- the iterator of a `for`, behind the aliases
abbrev pub iterated : ℕ → List Alias → Typing (Scope × Ty) → Typing (List Alias × (Scope × Ty))
iterated number aliases iterator = do
  x ← iterator
  noted number x.1 (aliases, x)

-- the body of a `for`, behind what stands before it
abbrev pub body : ℕ → ℕ → List Alias × (Scope × Ty) → Typing (Scope × Ty) → Typing (Expr × Ty)
body byte number head inner = do
  y ← inner
  gives (form.For byte head.0 number head.1.0 y.0, y.1)

-- a choice of its parts, behind what is asked of its condition
abbrev pub branches : Schema → ℕ → Order → (Expr × Ty) × (Scope × Ty) × (Scope × Ty) → Plain (Expr × Ty)
branches schema byte order x = do
  t ← known (agreed schema.types x.1.1 x.2.1) (Rule T4 byte)
  gives (form.If byte (record { order = order; condition = x.0.0; value = x.1.0; other = x.2.0 }), t)
