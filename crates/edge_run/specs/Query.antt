-- Which texts are queries, which of them are built over a schema, and why the others are refused.
use Rattle.std.specs.Prelude.{◌≡◌, ℕ, List, Result, Ok, Err, Option, Some, None, ◌⊎◌}
use Rattle.ast.specs.declared.statement.Query.{Query}
use Rattle.core_ir.specs.declared.tree.Scope.{Scope}
use Rattle.eql_forms.specs.Built.{built_query}
use Rattle.eql_grammar.specs.Promise.{QueryText}
use Rattle.eql_grammar.specs.Promise as grammar
use Rattle.ev_lex.specs.Reading.{IsCut}
use Rattle.ev_lex.specs.Reading as lexical
use Rattle.ev_lex.specs.declared.token.Token.{Token}
use Rattle.ev_schema.specs.declared.schema.Schema.{Schema}
use Rattle.exact.specs.Promise as exact
use Rattle.exact.specs.declared.rule.Rule.{Rule}
use Rattle.edge_run.specs.Refusal.{Refusal}
use Rattle.edge_run.specs.Refusal as refused
use Rattle.edge_run.specs.declared.outcome.Outcome.{Outcome}
use Rattle.edge_run.specs.declared.outcome.Outcome.TheVariants as outcome
use Rattle.edge_run.specs.declared.outcome.QueryRefusal.{QueryRefusal}
use Rattle.edge_run.specs.declared.outcome.QueryRefusal.TheVariants as refusal

-- the text is cut into tokens that spell the surface tree within the limits of the grammar
abbrev pub IsQuery : List ℕ → Query → Type 0
IsQuery text query = (tokens : List Token) × IsCut text tokens × grammar.IsQuery tokens query

-- why a text spells no surface tree: with this byte no token begins; by this rule the grammar refuses this token
abbrev pub IsUnread : List ℕ → QueryRefusal → Type 0
IsUnread text (refusal.Lex byte) = lexical.IsRefused text byte
IsUnread text (refusal.Syntax rule token) = (tokens : List Token) × IsCut text tokens × exact.IsRefused QueryText tokens rule token
IsUnread text refusal.Unbuilt = ⊥

module _ (schema : Schema) where
  -- the text spells a surface tree, which is built over the schema as this tree
  pub record IsBuilt (text : List ℕ) (tree : Scope) : Type 0 where
    pub surface : Query
    pub spelled : IsQuery text surface
    pub built : built_query schema surface ≡ Some tree

  -- why a text is refused: it spells no surface tree, or one that is not built
  abbrev pub IsReason : List ℕ → QueryRefusal → Type 0
  IsReason text (refusal.Lex byte) = IsUnread text (refusal.Lex byte)
  IsReason text (refusal.Syntax rule token) = IsUnread text (refusal.Syntax rule token)
  IsReason text refusal.Unbuilt = (surface : Query) × IsQuery text surface × (built_query schema surface ≡ None)

  -- what the rules of query texts decide: the tree, or a refusal
  abbrev pub Decides : List ℕ → Result Scope Refusal → Type 0
  Decides text (Ok tree) = IsBuilt text tree
  Decides text (Err (refused.Usage u)) = ⊥
  Decides text (Err (refused.TooLong d)) = ⊥
  Decides text (Err (refused.Schema r)) = ⊥
  Decides text (Err (refused.Data b)) = ⊥
  Decides text (Err (refused.Args b)) = ⊥
  Decides text (Err (refused.Query r)) = IsReason text r

-- ---- what the code answers

-- memory ran out, or a reason why the text spells no surface tree is told
abbrev pub IsTold : List ℕ → Outcome → Type 0
IsTold text o = (o ≡ outcome.Memory) ⊎ ((r : QueryRefusal) × IsUnread text r × (o ≡ outcome.QueryRefused r))

-- the tokens of the text, or what is told in their place
abbrev pub IsTokens : List ℕ → Result (List Token) Outcome → Type 0
IsTokens text (Ok tokens) = IsCut text tokens
IsTokens text (Err o) = IsTold text o

-- the surface tree of the tokens, or the token that is refused
abbrev pub IsParsed : List Token → Result Query Outcome → Type 0
IsParsed tokens (Ok query) = grammar.IsQuery tokens query
IsParsed tokens (Err o) = (o ≡ outcome.Memory)
    ⊎ ((rule : Rule) × (token : ℕ) × exact.IsRefused QueryText tokens rule token × (o ≡ outcome.QueryRefused (refusal.Syntax rule token)))

-- the surface tree of the text, or what is told in its place
abbrev pub IsSurface : List ℕ → Result Query Outcome → Type 0
IsSurface text (Ok query) = IsQuery text query
IsSurface text (Err o) = IsTold text o

-- the tree of a surface tree, or that it is not built
abbrev pub IsTree : Option Scope → Result Scope Outcome → Type 0
IsTree due (Ok tree) = due ≡ Some tree
IsTree due (Err o) = (o ≡ outcome.Memory) ⊎ ((due ≡ None) × (o ≡ outcome.QueryRefused refusal.Unbuilt))
