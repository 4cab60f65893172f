-- A function value that reads what stands in an open part.
use Rattle.std.specs.Prelude.{ℕ, ◌-◌, ◌<◌, List, Result}
use Rattle.std.specs.declared.alloc.Global.{Global}
use denote.Ref.{MutBor}
use Rattle.exact.specs.declared.rule.ReadError.{ReadError}
use Rattle.exact.specs.Reading.{Reads}
use Rattle.trial_exact.specs.declared.token.Token.{Token}
use Rattle.trial_exact.specs.declared.tree.Grown.{Grown}
use Rattle.trial_exact.specs.declared.read.Open.{Open}
use Rattle.trial_exact.specs.Trees.{too_high}
use Rattle.trial_exact.specs.Readers.{inside, part_of}

-- It may be called where a part may be open, and reads what stands there.
pub record Nests (depth : ℕ) (pre : Global → MutBor (List Token) → ℕ → Open → Type 0)
    (post : Global → MutBor (List Token) → ℕ → Open → Result Grown ReadError → MutBor (List Token) → Type 0) : Type 0 where
  pub callable : (alloc : Global) (old : MutBor (List Token)) (part : Open) → 0 < depth → pre alloc old (depth - 1) part
  pub reads : (alloc : Global) (old new : MutBor (List Token)) (part : Open) (r : Result Grown ReadError) → 0 < depth → post alloc old (depth - 1) part r new
      → Reads (part_of part (inside too_high depth) old.now) r new.now
