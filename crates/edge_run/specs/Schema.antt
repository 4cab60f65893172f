-- Which texts are schemas, what they are built as, and why the others are refused.
use Rattle.std.specs.Prelude.{◌≡◌, ℕ, List, Result, Ok, Err, ◌⊎◌}
use Rattle.ev_lex.specs.Reading.{IsCut}
use Rattle.ev_lex.specs.Reading as lexical
use Rattle.ev_lex.specs.declared.token.Token.{Token}
use Rattle.ev_schema.specs.declared.schema.Schema.{Schema}
use Rattle.exact.specs.Promise as exact
use Rattle.exact.specs.declared.rule.Rule.{Rule}
use Rattle.schema_build.specs.Verdict.{IsAnswer}
use Rattle.schema_build.specs.declared.refusal.SchemaRefusal.TheVariants as build
use Rattle.sdl_ast.specs.declared.declaration.SdlFile.{SdlFile}
use Rattle.sdl_grammar.specs.Promise.{SchemaText, IsSchema}
use Rattle.edge_run.specs.Refusal.{Refusal}
use Rattle.edge_run.specs.Refusal as refused
use Rattle.edge_run.specs.declared.outcome.Outcome.{Outcome}
use Rattle.edge_run.specs.declared.outcome.Outcome.TheVariants as outcome
use Rattle.edge_run.specs.declared.outcome.SchemaRefusal.{SchemaRefusal}
use Rattle.edge_run.specs.declared.outcome.SchemaRefusal.TheVariants as refusal

-- the text is cut into tokens that spell the surface tree within the limits of the grammar
abbrev pub IsSpelled : List ℕ → SdlFile → Type 0
IsSpelled text file = (tokens : List Token) × IsCut text tokens × IsSchema tokens file

-- the text spells a surface tree, which breaks no rule of schemas and is built as this schema
pub record IsBuilt (text : List ℕ) (schema : Schema) : Type 0 where
  pub surface : SdlFile
  pub spelled : IsSpelled text surface
  pub built : IsAnswer surface (Ok schema)

-- Why a text is refused: with this byte no token begins; by this rule the grammar refuses this token; it spells a surface tree
-- of which this rule of schemas fails first; it spells one that is not built.
abbrev pub IsReason : List ℕ → SchemaRefusal → Type 0
IsReason text (refusal.Lex byte) = lexical.IsRefused text byte
IsReason text (refusal.Syntax rule token) = (tokens : List Token) × IsCut text tokens × exact.IsRefused SchemaText tokens rule token
IsReason text (refusal.Build broken) = (surface : SdlFile) × IsSpelled text surface × IsAnswer surface (Err (build.Build broken))
IsReason text refusal.Unbuilt = (surface : SdlFile) × IsSpelled text surface × IsAnswer surface (Err build.Unbuilt)

-- what the rules of schemas decide: the schema, or a refusal
abbrev pub Decides : List ℕ → Result Schema Refusal → Type 0
Decides text (Ok schema) = IsBuilt text schema
Decides text (Err (refused.Usage u)) = ⊥
Decides text (Err (refused.TooLong d)) = ⊥
Decides text (Err (refused.Schema r)) = IsReason text r
Decides text (Err (refused.Data b)) = ⊥
Decides text (Err (refused.Query r)) = ⊥
Decides text (Err (refused.Args b)) = ⊥

-- ---- what the code answers

-- memory ran out, or a reason why the text is refused is told
abbrev pub IsTold : List ℕ → Outcome → Type 0
IsTold text o = (o ≡ outcome.Memory) ⊎ ((r : SchemaRefusal) × IsReason text r × (o ≡ outcome.SchemaRefused r))

-- the tokens of the text, or what is told in their place
abbrev pub IsTokens : List ℕ → Result (List Token) Outcome → Type 0
IsTokens text (Ok tokens) = IsCut text tokens
IsTokens text (Err o) = IsTold text o

-- the surface tree of the tokens, or the token that is refused
abbrev pub IsParsed : List Token → Result SdlFile Outcome → Type 0
IsParsed tokens (Ok file) = IsSchema tokens file
IsParsed tokens (Err o) = (o ≡ outcome.Memory)
    ⊎ ((rule : Rule) × (token : ℕ) × exact.IsRefused SchemaText tokens rule token × (o ≡ outcome.SchemaRefused (refusal.Syntax rule token)))

-- the surface tree of the text, or what is told in its place
abbrev pub IsSurface : List ℕ → Result SdlFile Outcome → Type 0
IsSurface text (Ok file) = IsSpelled text file
IsSurface text (Err o) = IsTold text o

-- the schema of a surface tree, or why it has none
abbrev pub IsMade : SdlFile → Result Schema Outcome → Type 0
IsMade file (Ok schema) = IsAnswer file (Ok schema)
IsMade file (Err outcome.Memory) = Unit {0}
IsMade file (Err (outcome.SchemaRefused (refusal.Build broken))) = IsAnswer file (Err (build.Build broken))
IsMade file (Err (outcome.SchemaRefused refusal.Unbuilt)) = IsAnswer file (Err build.Unbuilt)
IsMade file (Err _) = ⊥
