-- The types of a tree: each form by its rule, over its parts by theirs.
use Rattle.std.specs.Prelude.{List, [], ◌∷◌, ◌++◌, Option, Some, None}
use Rattle.core_ir.specs.declared.path.TypeId.{TypeId}
use Rattle.core_ir.specs.declared.phase.Core.{Core}
use Rattle.core_ir.specs.declared.phase.Typed.{Typed}
use Rattle.core_ir.specs.declared.tree.Alias.{Alias}
use Rattle.core_ir.specs.declared.tree.Conditional.{Conditional}
use Rattle.core_ir.specs.declared.tree.Element.{Element}
use Rattle.core_ir.specs.declared.tree.Expr.{Expr, Row_of-Expr, end_of-Expr, more_of-Expr, Row_of-Scope, end_of-Scope, more_of-Scope, Row_of-Alias, end_of-Alias, more_of-Alias, Row_of-Element, end_of-Element, more_of-Element}
use Rattle.core_ir.specs.declared.tree.Expr as e
use Rattle.core_ir.specs.declared.tree.Key.{Key}
use Rattle.core_ir.specs.declared.tree.Key as key
use Rattle.core_ir.specs.declared.tree.Key.TheVariants as made
use Rattle.core_ir.specs.declared.tree.Scope.{Scope}
use Rattle.core_ir.specs.declared.tree.Select.{Select, out-Select, Select', Held-Select-filter, None', Some', Row_of-Key, end_of-Key, more_of-Key}
use Rattle.core_ir.specs.declared.ty.Ty.{Ty}
use Rattle.core_ir.specs.declared.ty.Ty.TheVariants.{Object}
use Rattle.ev_schema.specs.declared.schema.Schema.{Schema}
use Rattle.plan.specs.Plan.{Given, Plan, Says, Part}
use Rattle.plan.specs.Ruled.{◌>>=◌, gives, each_with, in_turn}
use Rattle.type_infer.specs.declared.clause.Clause.{Clause}
use Rattle.type_infer.specs.declared.clause.Clause.TheVariants.{Filter, Key as OrderKey, Cut}
use Rattle.type_rules.specs.declared.refusal.TypeRefusal.{TypeRefusal}
use Rattle.type_infer.specs.Known.{Typing, plain}
use Rattle.type_rules.specs.Known.{Known, nothing_known, with_type}
use Rattle.type_infer.specs.Forms as rule

-- one more part behind those that have types
abbrev pub behind : {A : Type 0} → List A × List Ty → Typing (A × Ty) → Typing (List A × List Ty)
behind done part = do
  x ← part
  gives (done.0 ++ x.0 ∷ [], done.1 ++ x.1 ∷ [])

-- what is known before a tree: of an expression of a schema the type of its subject
abbrev pub known_before : Option TypeId → Known
known_before None = nothing_known
known_before (Some t) = with_type 0 (Object t) nothing_known

module _ (schema : Schema) where
  unfoldable mutual
    -- an expression with its types, and the type of its items
    pub infer : Expr → Typing (Expr × Ty)
    infer (e.Literal byte v) = plain (rule.constant byte v)
    infer (e.Param byte p) = rule.parameter byte p
    infer (e.Global byte name) = plain (rule.global_value schema byte name)
    infer (e.Path byte o) = rule.path_of schema byte o
    infer (e.OnBase' byte start _ _ (more_of-Expr base end_of-Expr) o) = rule.on_base schema byte (rule.scope start (infer base)) o
    infer (e.Operation' byte op _ operands) = rule.operation schema byte op (infer_all operands ([], []))
    infer (e.Plus' byte _ (more_of-Expr operand end_of-Expr)) = rule.plus byte (infer operand)
    infer (e.Cast' byte to _ (more_of-Expr operand end_of-Expr)) = rule.cast byte to (infer operand)
    infer (e.Tuple' byte _ components) = rule.tuple byte (infer_all components ([], []))
    infer (e.OptionalEqual' byte negated _ (more_of-Expr left end_of-Expr) _ (more_of-Expr right end_of-Expr)) = rule.optional_equal schema byte negated (infer left) (infer right)
    infer (e.In' byte negated _ (more_of-Expr left end_of-Expr) start _ _ (more_of-Expr set end_of-Expr)) = rule.membership schema byte negated (infer left) (rule.scope start (infer set))
    infer (e.OfSet' byte function start _ _ (more_of-Expr set end_of-Expr)) = rule.of_set byte function (rule.scope start (infer set))
    infer (e.Union' byte start _ _ (more_of-Expr first end_of-Expr) start' _ _ (more_of-Expr second end_of-Expr)) = rule.union schema byte (rule.scope start (infer first)) (rule.scope start' (infer second))
    infer (e.Set' byte _ elements) = rule.set schema byte (infer_scopes elements ([], []))
    infer (e.Coalesce' byte _ (more_of-Expr first end_of-Expr) start _ _ (more_of-Expr second end_of-Expr)) = rule.coalesce schema byte (infer first) (rule.scope start (infer second))
    infer (e.If' byte order _ (more_of-Expr condition end_of-Expr) start _ _ (more_of-Expr value end_of-Expr) start' _ _ (more_of-Expr other end_of-Expr)) =
        rule.choice schema byte order (rule.chosen order (infer condition) (rule.scope start (infer value)) (rule.scope start' (infer other)))
    infer (e.Shaped' byte _ (more_of-Expr base end_of-Expr) _ number _ elements) = rule.shaped byte number (infer base) (infer_elements elements [])
    infer (e.Select' byte _ aliases (Select' _ (more_of-Expr subject end_of-Expr) _ number filter _ keys offset limit)) =
        rule.select byte (infer_aliases aliases []) (rule.selected number (infer subject) (rule.rows (infer_clause Filter filter) (infer_keys keys [])) (rule.cut (infer_clause Cut offset) (infer_clause Cut limit)))
    infer (e.For' byte _ aliases number start _ _ (more_of-Expr iterator end_of-Expr) start' _ _ (more_of-Expr body end_of-Expr)) =
        rule.each byte number (infer_aliases aliases []) (rule.scope start (infer iterator)) (rule.scope start' (infer body))
    infer (e.Array' byte written _ elements) = rule.array byte written (infer_all elements ([], []))
    infer (e.ArrayCast' byte to _ (more_of-Expr operand end_of-Expr)) = rule.array_cast byte to (infer operand)
    infer (e.Unpack' byte _ (more_of-Expr operand end_of-Expr)) = rule.unpack byte (infer operand)
    infer (e.EmptySet byte t) = plain (rule.empty_set byte t)
    infer (e.Unfit' byte m place _ parts) = rule.unfit m place (infer_all parts ([], []))

    -- the expressions of a row, behind those that have types
    pub infer_all : {m : _} → Row_of-Expr m → List Expr × List Ty → Typing (List Expr × List Ty)
    infer_all end_of-Expr done = gives done
    infer_all (more_of-Expr x more) done = behind done (infer x) >>= (λ next. infer_all more next)

    pub infer_scopes : {m : _} → Row_of-Scope m → List Scope × List Ty → Typing (List Scope × List Ty)
    infer_scopes end_of-Scope done = gives done
    infer_scopes (more_of-Scope start _ _ (more_of-Expr body end_of-Expr) more) done = behind done (rule.scope start (infer body)) >>= (λ next. infer_scopes more next)

    pub infer_aliases : {m : _} → Row_of-Alias m → List Alias → Typing (List Alias)
    infer_aliases end_of-Alias done = gives done
    infer_aliases (more_of-Alias number start _ _ (more_of-Expr value end_of-Expr) more) done =
        rule.alias number (rule.scope start (infer value)) >>= (λ a. infer_aliases more (done ++ a ∷ []))

    pub infer_elements : {m : _} → Row_of-Element m → List Element → Typing (List Element)
    infer_elements end_of-Element done = gives done
    infer_elements (more_of-Element byte name need width _ card start _ _ (more_of-Expr value end_of-Expr) more) done =
        rule.element byte name need width card (rule.scope start (infer value)) >>= (λ x. infer_elements more (done ++ x ∷ []))

    pub infer_keys : {m : _} → Row_of-Key m → List Key → Typing (List Key)
    infer_keys end_of-Key done = gives done
    infer_keys (more_of-Key k more) done = infer_key k >>= (λ x. infer_keys more (done ++ x ∷ []))

    pub infer_key : Key → Typing Key
    infer_key (key.Ascending' absent start _ _ (more_of-Expr value end_of-Expr)) = rule.clause OrderKey start (infer value) >>= (λ s. gives (made.Ascending absent s))
    infer_key (key.Descending' absent start _ _ (more_of-Expr value end_of-Expr)) = rule.clause OrderKey start (infer value) >>= (λ s. gives (made.Descending absent s))

    -- a clause that may be absent
    pub infer_clause : Clause → Held-Select-filter → Typing (Option Scope)
    infer_clause c None' = gives None
    infer_clause c (Some' _ (more_of-Scope start _ _ (more_of-Expr body end_of-Expr) _)) = rule.clause c start (infer body) >>= (λ s. gives (Some s))

  -- The same as the code has them: of a scope, and of lists.
  abbrev pub scope_of : Scope → Typing (Scope × Ty)
  scope_of s = rule.scope s.start (infer s.body)

  abbrev pub all_of : List Expr → Typing (List Expr × List Ty)
  all_of = in_turn (λ done x. behind done (infer x)) ([], [])

  abbrev pub scopes_of : List Scope → Typing (List Scope × List Ty)
  scopes_of = in_turn (λ done s. behind done (scope_of s)) ([], [])

  abbrev pub alias_of : Alias → Typing Alias
  alias_of a = rule.alias a.number (scope_of a.value)

  abbrev pub aliases_of : List Alias → Typing (List Alias)
  aliases_of = each_with (λ done a. alias_of a) []

  abbrev pub element_of : Element → Typing Element
  element_of x = rule.element x.start x.name x.need x.width x.card (scope_of x.value)

  abbrev pub elements_of : List Element → Typing (List Element)
  elements_of = each_with (λ done x. element_of x) []

  abbrev pub keys_of : List Key → Typing (List Key)
  keys_of = each_with (λ done k. infer_key k) []

  abbrev pub clause_of : Clause → Scope → Typing Scope
  clause_of c s = rule.clause c s.start (infer s.body)

  abbrev pub clause_if_there : Clause → Option Scope → Typing (Option Scope)
  clause_if_there c None = gives None
  clause_if_there c (Some s) = clause_of c s >>= (λ x. gives (Some x))

  abbrev pub subject_of : Select → Typing (Expr × Ty)
  subject_of s = rule.subject (out-Select s).number (infer (out-Select s).subject)

  abbrev pub rows_of : Select → Typing (Option Scope × List Key)
  rows_of s = rule.rows (clause_if_there Filter (out-Select s).filter) (keys_of (out-Select s).keys)

  abbrev pub cut_of : Select → Typing (Option Scope × Option Scope)
  cut_of s = rule.cut (clause_if_there Cut (out-Select s).offset) (clause_if_there Cut (out-Select s).limit)

  abbrev pub select_of : Select → Typing (Select × Ty)
  select_of s = rule.selected (out-Select s).number (infer (out-Select s).subject) (rows_of s) (cut_of s)

  abbrev pub parts_of : Conditional → Typing ((Expr × Ty) × (Scope × Ty) × (Scope × Ty))
  parts_of c = rule.chosen c.order (infer c.condition) (scope_of c.value) (scope_of c.other)

  -- The tree with its types, and the type of its items.
  abbrev pub typing : Core → Plan TypeRefusal Typed
  typing core = Part (rule.scope core.root.start (infer core.root.body) (known_before core.subject)) (λ x.
      Says (Given (record { core = record { subject = core.subject; root = x.0.0 }; ty = x.0.1 })))
