-- A function value that reads what stands in an open part.
use Rattle.std.specs.Prelude.{ℕ, ◌-◌, ◌<◌, List, Result}
use Rattle.std.specs.declared.alloc.Global.{Global}
use denote.Ref.{MutBor}
use Rattle.exact.specs.declared.rule.ReadError.{ReadError}
use Rattle.sql_lex.specs.declared.token.Token.{Token}
use Rattle.sql_grammar.specs.Trees.{too_high}
use Rattle.sql_grammar.specs.Readers.{inside}
use Rattle.sql_read.specs.declared.part.Open.{Open}
use Rattle.sql_read.specs.declared.part.Part.{Part}
use Rattle.sql_read.specs.Parts.{ReadsPart}

-- It may be called where a part may be open, and reads what stands there.
pub record Nests (depth : ℕ) (pre : Global → MutBor (List Token) → ℕ → Open → Type 0)
    (post : Global → MutBor (List Token) → ℕ → Open → Result Part ReadError → MutBor (List Token) → Type 0) : Type 0 where
  pub callable : (alloc : Global) (old : MutBor (List Token)) (part : Open) → 0 < depth → pre alloc old (depth - 1) part
  pub reads : (alloc : Global) (old new : MutBor (List Token)) (part : Open) (r : Result Part ReadError) → 0 < depth → post alloc old (depth - 1) part r new
      → ReadsPart part (inside too_high depth) old.now r new.now
