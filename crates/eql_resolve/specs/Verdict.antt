-- What naming gives, and what it promises of its answer.
use Rattle.std.specs.Prelude.{◌≡◌, true, false, [], ◌∷◌, Some, None, Result, Ok, Err}
use Rattle.plan.specs.Plan.{Plan, Derives, Fails, Given, Says, Part}
use Rattle.ast.specs.Expression.{span_of}
use Rattle.ast.specs.declared.expression.Expr.{Expr}
use Rattle.ast.specs.declared.statement.Query.{Query}
use Rattle.core_ir.specs.declared.path.TypeId.{TypeId}
use Rattle.core_ir.specs.declared.phase.Core.{Core}
use Rattle.ev_schema.specs.declared.schema.Schema.{Schema}
use Rattle.eql_naming.specs.declared.around.Subject.{Subject}
use Rattle.eql_naming.specs.declared.refusal.NameRefusal.{NameRefusal}
use Rattle.eql_naming.specs.declared.refusal.NameRefusal.TheVariants as refusal
use Rattle.eql_naming.specs.Around as around
use Rattle.eql_naming.specs.Paths.{scope_at, own_subject}
use Rattle.eql_naming.specs.Statements.{start_of_statement}
use Rattle.eql_resolve.specs.Resolving.{resolve, statement}

-- the tree of a query: the whole of it is a result, and nothing is around it
abbrev pub query : Schema → Query → Plan NameRefusal Core
query schema q =
    Part (statement schema true q.statement true [] 0) (λ x.
    Says (Given (record { subject = None; root = scope_at (start_of_statement q.statement) x.0 })))

-- the subject of an expression of a schema: an object
abbrev pub object : Subject
object = own_subject 0

-- The tree of an expression of a schema over an object of a type. It is no result, and knows no parameter.
abbrev pub within : Schema → TypeId → Expr → Plan NameRefusal Core
within schema t x =
    Part (resolve schema false x false (around.On object ∷ []) 1) (λ y.
    Says (Given (record { subject = Some t; root = scope_at (span_of x).start y.0 })))

-- An answer has a derivation, and a refusal is the first failure.
abbrev pub Holds : {A : Type 0} → Plan NameRefusal A → Result A NameRefusal → Type 0
Holds p (Ok a) = Derives p a
Holds p (Err refusal.Memory) = Unit {0}
Holds p (Err (refusal.Rule rule byte)) = Fails p (refusal.Rule rule byte)

-- What has a derivation is answered, unless memory runs out.
abbrev pub IsAnswered : {A : Type 0} → A → Result A NameRefusal → Type 0
IsAnswered a (Ok b) = b ≡ a
IsAnswered a (Err refusal.Memory) = Unit {0}
IsAnswered a (Err (refusal.Rule rule byte)) = ⊥

pub record Promises {A : Type 0} (p : Plan NameRefusal A) (result : Result A NameRefusal) : Type 0 where
  pub holds : Holds p result
  pub only : (a : A) → Derives p a → IsAnswered a result
