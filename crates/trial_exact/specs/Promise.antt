-- What is promised of `parse`.
use Rattle.std.specs.Prelude.{◌≡◌, Result, Ok, Err}
use Rattle.trial_exact.specs.declared.token.Token.{Token}
use Rattle.trial_exact.specs.declared.tree.Grown.{Grown}
use Rattle.trial_exact.specs.declared.refusal.Refusal.{Refusal}
use Rattle.trial_exact.specs.declared.refusal.Refusal.TheVariants.{Memory, Syntax}
use Rattle.trial_exact.specs.declared.read.TheConstants.{MAX_OPEN}
use Rattle.trial_exact.specs.Trees.{too_high}
use Rattle.trial_exact.specs.Grammar.{within}
use Rattle.exact.specs.Language.{Lang}
use Rattle.exact.specs.Promise.{Any, Ended}

-- The tokens spell the expression, and the limits are kept at the first n tokens: at most `MAX_OPEN` parts are open, and what stands
-- before one of them is not too high. The end counts as a token.
abbrev pub Text : Lang Token Grown
Text = Any (λ spare. Ended (λ x. too_high x.height) (within too_high spare MAX_OPEN).expr)

-- The expression is the answer, unless memory ran out.
abbrev pub IsRead : Result Grown Refusal → Grown → Type 0
IsRead (Ok found) x = found ≡ x
IsRead (Err Memory) x = Unit {0}
IsRead (Err (Syntax rule token)) x = ⊥
