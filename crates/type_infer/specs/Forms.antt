-- The rule of each form, over the rules of its parts: the form with its types, and the type of its items.
use Rattle.std.specs.Prelude.{ℕ, Bool, List, [], Option, Some, None}
use Rattle.ev_value.specs.declared.operator.Op.{Op}
use Rattle.ev_value.specs.declared.operator.Op.TheVariants as op
use Rattle.ev_value.specs.declared.value.ScalarTy.{ScalarTy}
use Rattle.ev_value.specs.declared.value.ScalarTy.TheVariants.{Int64, Bool as Truth}
use Rattle.ev_value.specs.declared.value.Val.{Val}
use Rattle.ev_list.specs.declared.param.Param.{Param}
use Rattle.core_ir.specs.declared.card.Card.{Card}
use Rattle.core_ir.specs.declared.tree.Alias.{Alias}
use Rattle.core_ir.specs.declared.tree.Element.{Element}
use Rattle.core_ir.specs.declared.tree.Expr.{Expr}
use Rattle.core_ir.specs.declared.tree.Expr.TheVariants as form
use Rattle.core_ir.specs.declared.tree.Key.{Key}
use Rattle.core_ir.specs.declared.tree.Misfit.{Misfit}
use Rattle.core_ir.specs.declared.tree.Misfit.TheVariants as misfit
use Rattle.core_ir.specs.declared.tree.Need.{Need}
use Rattle.core_ir.specs.declared.tree.Occurrence.{Occurrence}
use Rattle.core_ir.specs.declared.tree.Order.{Order}
use Rattle.core_ir.specs.declared.tree.Order.TheVariants as order
use Rattle.core_ir.specs.declared.tree.Scope.{Scope}
use Rattle.core_ir.specs.declared.tree.Select.{Select, roll-Select}
use Rattle.core_ir.specs.declared.tree.SetFunction.{SetFunction}
use Rattle.core_ir.specs.declared.tree.Width.{Width}
use Rattle.core_ir.specs.declared.ty.Ty.{Ty}
use Rattle.core_ir.specs.declared.ty.Ty.TheVariants.{Scalar, Tuple, Array}
use Rattle.ev_schema.specs.declared.schema.Schema.{Schema}
use Rattle.plan.specs.Ruled.{◌>>=◌, ◌>>◌, gives, refuses, must, known}
use Rattle.type_infer.specs.declared.clause.Clause.{Clause}
use Rattle.type_infer.specs.declared.clause.Clause.TheVariants as clauses
use Rattle.type_rules.specs.declared.refusal.TypeRule.{TypeRule}
use Rattle.type_rules.specs.declared.refusal.TypeRule.TheVariants.{N2, T1, T2, T3, T4, T5, T6, T7, T8}
use Rattle.type_rules.specs.declared.refusal.TypeRefusal.TheVariants.{Rule}
use Rattle.type_rules.specs.Agreement.{agreed, agreed_among, same_scalar}
use Rattle.type_rules.specs.Tables.{literal, is_of, comparable, operator_type, function_type, can_cast, elements_type}
use Rattle.ev_index.specs.Globals.{global_type}
use Rattle.type_infer.specs.Kinds.{is_scalar, is_object, array_element}
use Rattle.type_infer.specs.Known.{Typing, plain, suits, look, note}
use Rattle.type_rules.specs.Known.{root_type, with_type, with_base, with_parameter}
use Rattle.type_rules.specs.Steps.{Plain, walk}

-- a scope: its slot takes the type of its body
unfoldable pub scope : ℕ → Typing (Expr × Ty) → Typing (Scope × Ty)
scope start body = do
  x ← body
  gives (record { start = start; ty = Some x.1; body = x.0 }, x.1)

-- a value of a scalar type
unfoldable pub constant : ℕ → Val → Plain (Expr × Ty)
constant byte v = do
  scalar ← known (literal v) (Rule T1 byte)
  gives (form.Literal byte v, Scalar scalar)

-- `$name`: each time of the type, and as optional, as the first time
unfoldable pub parameter : ℕ → Param → Typing (Expr × Ty)
parameter byte p = do
  other ← look (λ k. k.parameter p.name)
  must (suits p other) (Rule T7 byte)
  note (with_parameter p)
  gives (form.Param byte p, Scalar p.ty)

-- `+` before its operand
unfoldable pub plus : ℕ → Typing (Expr × Ty) → Typing (Expr × Ty)
plus byte operand = do
  x ← operand
  must (is_of Int64 x.1) (Rule T1 byte)
  gives (form.Plus byte x.0, x.1)

-- `<T>operand`
unfoldable pub cast : ℕ → ScalarTy → Typing (Expr × Ty) → Typing (Expr × Ty)
cast byte to operand = do
  x ← operand
  must (can_cast x.1 to) (Rule T3 byte)
  gives (form.Cast byte to x.0, Scalar to)

-- `<array<T>>operand`
unfoldable pub array_cast : ℕ → ScalarTy → Typing (Expr × Ty) → Typing (Expr × Ty)
array_cast byte to operand = do
  x ← operand
  from ← known (array_element x.1) (Rule T3 byte)
  must (same_scalar to from) (Rule T3 byte)
  gives (form.ArrayCast byte to x.0, Array to)

-- `(first, second, ..)`
unfoldable pub tuple : ℕ → Typing (List Expr × List Ty) → Typing (Expr × Ty)
tuple byte components = do
  xs ← components
  gives (form.Tuple byte xs.0, Tuple xs.1)

-- `[first, second, ..]`
unfoldable pub array : ℕ → Option ScalarTy → Typing (List Expr × List Ty) → Typing (Expr × Ty)
array byte written elements = do
  xs ← elements
  scalar ← known (elements_type written xs.1) (Rule T6 byte)
  gives (form.Array byte written xs.0, Array scalar)

-- `array_unpack(operand)`
unfoldable pub unpack : ℕ → Typing (Expr × Ty) → Typing (Expr × Ty)
unpack byte operand = do
  x ← operand
  scalar ← known (array_element x.1) (Rule T2 byte)
  gives (form.Unpack byte x.0, Scalar scalar)

-- `<T>{}`
abbrev pub empty_set : ℕ → Ty → Plain (Expr × Ty)
empty_set byte t = gives (form.EmptySet byte t, t)

-- a function of a whole set
unfoldable pub of_set : ℕ → SetFunction → Typing (Scope × Ty) → Typing (Expr × Ty)
of_set byte function set = do
  x ← set
  t ← known (function_type function x.1) (Rule T2 byte)
  gives (form.OfSet byte function x.0, t)

-- the rule of an operator whose operands do not suit it: of a plain function it is that of functions
abbrev pub operands_rule : Op → TypeRule
operands_rule op.Len = T2
operands_rule _ = T1

-- the rule of what no type can be given to
abbrev pub rule_of : Misfit → TypeRule
rule_of misfit.ArgumentCount = T2
rule_of misfit.ObjectCast = T3
rule_of misfit.ScalarNarrowing = T5
rule_of misfit.ScalarBackLink = N2

-- what no type can be given to: its parts may fail before it
unfoldable pub unfit : Misfit → ℕ → Typing (List Expr × List Ty) → Typing (Expr × Ty)
unfit m place parts = do
  xs ← parts
  refuses (Rule (rule_of m) place)

-- the parts of a choice, in the order of the text
abbrev pub chosen : {A B C : Type 0} → Order → Typing A → Typing B → Typing C → Typing (A × B × C)
chosen order.ValueFirst condition value other = do
  v ← value
  c ← condition
  o ← other
  gives (c, v, o)
chosen order.ConditionFirst condition value other = do
  c ← condition
  v ← value
  o ← other
  gives (c, v, o)

-- whether the type of a clause suits it: a filter is a bool, a key a scalar, an offset or limit a number
abbrev pub suits_clause : Clause → Ty → Bool
suits_clause clauses.Filter t = is_of Truth t
suits_clause clauses.Key t = is_scalar t
suits_clause clauses.Cut t = is_of Int64 t

-- the rule of a clause that its type does not suit
abbrev pub rule_of_clause : Clause → TypeRule
rule_of_clause clauses.Key = T8
rule_of_clause _ = T1

-- a clause, which fails at its own place as soon as it has a type
unfoldable pub clause : Clause → ℕ → Typing (Expr × Ty) → Typing Scope
clause c start body = do
  x ← scope start body
  must (suits_clause c x.1) (Rule (rule_of_clause c) start)
  gives x.0

-- `name := value`, whose number has the value's type from here on
unfoldable pub alias : ℕ → Typing (Scope × Ty) → Typing Alias
alias number value = do
  x ← value
  note (with_type number x.1)
  gives (record { number = number; value = x.0 })

-- an element of a shape; its slot takes the type of its value
unfoldable pub element : ℕ → List ℕ → Option Need → Option Width → Option Card → Typing (Scope × Ty) → Typing Element
element start name need width card value = do
  x ← value
  gives (record { start = start; name = name; need = need; width = width; ty = Some x.1; card = card; value = x.0 })

-- an expression with a shape: only objects have one, which is told behind the elements
unfoldable pub shaped : ℕ → ℕ → Typing (Expr × Ty) → Typing (List Element) → Typing (Expr × Ty)
shaped byte number base elements = do
  x ← base
  note (with_type number x.1)
  es ← elements
  must (is_object x.1) (Rule T5 byte)
  gives (form.Shaped byte x.0 (Some x.1) number es, x.1)

-- `for variable in iterator union body`
unfoldable pub each : ℕ → ℕ → Typing (List Alias) → Typing (Scope × Ty) → Typing (Scope × Ty) → Typing (Expr × Ty)
each byte number aliases iterator body = do
  before ← aliases
  x ← iterator
  note (with_type number x.1)
  y ← body
  gives (form.For byte before number x.0 y.0, y.1)

-- the subject of a statement, whose number has its type from here on
unfoldable pub subject : ℕ → Typing (Expr × Ty) → Typing (Expr × Ty)
subject number expr = do
  x ← expr
  note (with_type number x.1)
  gives x

-- the filter and the keys of a statement
unfoldable pub rows : Typing (Option Scope) → Typing (List Key) → Typing (Option Scope × List Key)
rows filter keys = do
  f ← filter
  ks ← keys
  gives (f, ks)

-- the offset and the limit of a statement
unfoldable pub cut : Typing (Option Scope) → Typing (Option Scope) → Typing (Option Scope × Option Scope)
cut offset limit = do
  o ← offset
  l ← limit
  gives (o, l)

-- a statement: its subject, and then its clauses
unfoldable pub selected : ℕ → Typing (Expr × Ty) → Typing (Option Scope × List Key) → Typing (Option Scope × Option Scope) → Typing (Select × Ty)
selected number expr kept bounds = do
  x ← subject number expr
  r ← kept
  c ← bounds
  gives (roll-Select (record { subject = x.0; ty = Some x.1; number = number; filter = r.0; keys = r.1; offset = c.0; limit = c.1 }), x.1)

-- a statement with the aliases before it
unfoldable pub select : ℕ → Typing (List Alias) → Typing (Select × Ty) → Typing (Expr × Ty)
select byte aliases statement = do
  before ← aliases
  x ← statement
  gives (form.Select byte before x.0, x.1)

module _ (schema : Schema) where
  -- `global name`
  unfoldable pub global_value : ℕ → List ℕ → Plain (Expr × Ty)
  global_value byte name = do
    scalar ← known (global_type schema.globals name) (Rule T1 byte)
    gives (form.Global byte name, Scalar scalar)

  -- a path from its root: each step has a type in turn
  unfoldable pub occurrence : ℕ → Occurrence → Typing (Occurrence × Ty)
  occurrence byte o = do
    start ← look (λ k. root_type k o.path.root)
    t ← known start (Rule T1 byte)
    w ← plain (walk schema byte o.places (record { steps = []; link = None; reached = t }) o.path.steps)
    gives (record { name = o.name; path = record { root = o.path.root; steps = w.steps }; places = o.places }, w.reached)

  -- a path
  unfoldable pub path_of : ℕ → Occurrence → Typing (Expr × Ty)
  path_of byte o = do
    x ← occurrence byte o
    gives (form.Path byte x.0, x.1)

  -- a path from an expression, which has its type before the steps have theirs
  unfoldable pub on_base : ℕ → Typing (Scope × Ty) → Occurrence → Typing (Expr × Ty)
  on_base byte base o = do
    x ← base
    note (with_base o.path.root x.1)
    y ← occurrence byte o
    gives (form.OnBase byte x.0 y.0, y.1)

  -- an operator or a plain function of its operands
  unfoldable pub operation : ℕ → Op → Typing (List Expr × List Ty) → Typing (Expr × Ty)
  operation byte op operands = do
    xs ← operands
    t ← known (operator_type schema.types op xs.1) (Rule (operands_rule op) byte)
    gives (form.Operation byte op xs.0, t)

  -- `left ?= right` and `left ?!= right`
  unfoldable pub optional_equal : ℕ → Bool → Typing (Expr × Ty) → Typing (Expr × Ty) → Typing (Expr × Ty)
  optional_equal byte negated left right = do
    x ← left
    y ← right
    must (comparable schema.types x.1 y.1) (Rule T1 byte)
    gives (form.OptionalEqual byte negated x.0 y.0, Scalar Truth)

  -- `left in set` and `left not in set`
  unfoldable pub membership : ℕ → Bool → Typing (Expr × Ty) → Typing (Scope × Ty) → Typing (Expr × Ty)
  membership byte negated left set = do
    x ← left
    y ← set
    must (comparable schema.types x.1 y.1) (Rule T1 byte)
    gives (form.In byte negated x.0 y.0, Scalar Truth)

  -- `first union second`
  unfoldable pub union : ℕ → Typing (Scope × Ty) → Typing (Scope × Ty) → Typing (Expr × Ty)
  union byte first second = do
    x ← first
    y ← second
    t ← known (agreed schema.types x.1 y.1) (Rule T4 byte)
    gives (form.Union byte x.0 y.0, t)

  -- `first ?? second`
  unfoldable pub coalesce : ℕ → Typing (Expr × Ty) → Typing (Scope × Ty) → Typing (Expr × Ty)
  coalesce byte first second = do
    x ← first
    y ← second
    t ← known (agreed schema.types x.1 y.1) (Rule T4 byte)
    gives (form.Coalesce byte x.0 y.0, t)

  -- `{first, second, ..}`: the elements agree from the left
  unfoldable pub set : ℕ → Typing (List Scope × List Ty) → Typing (Expr × Ty)
  set byte elements = do
    xs ← elements
    t ← known (agreed_among schema.types xs.1) (Rule T6 byte)
    gives (form.Set byte xs.0, t)

  -- a choice whose parts have their types: its condition is a bool, and its branches agree
  unfoldable pub judged : ℕ → Order → (Expr × Ty) × (Scope × Ty) × (Scope × Ty) → Plain (Expr × Ty)
  judged byte order x = do
    must (is_of Truth x.0.1) (Rule T1 byte)
    t ← known (agreed schema.types x.1.1 x.2.1) (Rule T4 byte)
    gives (form.If byte (record { order = order; condition = x.0.0; value = x.1.0; other = x.2.0 }), t)

  -- a choice: its parts in the order of the text, and then what is asked of the whole
  unfoldable pub choice : ℕ → Order → Typing ((Expr × Ty) × (Scope × Ty) × (Scope × Ty)) → Typing (Expr × Ty)
  choice byte order parts = do
    x ← parts
    plain (judged byte order x)
