-- What is built of what was read, and how high it is.
use Rattle.std.specs.Prelude.{ℕ, suc, Bool, false, max, ltb, [], ◌∷◌, ◌++◌, if◌then◌else◌}
use Rattle.trial_exact.specs.declared.tree.Expr.{Expr}
use Rattle.trial_exact.specs.declared.tree.Expr.TheVariants as e
use Rattle.trial_exact.specs.declared.tree.Operator.{Operator}
use Rattle.trial_exact.specs.declared.tree.Grown.{Grown}
use Rattle.trial_exact.specs.declared.tree.Bunch.{Bunch}
use Rattle.trial_exact.specs.declared.tree.TheConstants.{MAX_HEIGHT}

-- Whether a tree of this height is too high.
abbrev pub too_high : ℕ → Bool
too_high height = ltb MAX_HEIGHT height

-- No height is too high.
abbrev pub unlimited : ℕ → Bool
unlimited height = false

-- One more, as long as it counts.
abbrev pub above : ℕ → ℕ
above height = if ltb MAX_HEIGHT height then height else suc height

abbrev pub leaf : Expr → Grown
leaf x = record { expr = x; height = 1 }

abbrev pub negated : Grown → Grown
negated x = record { expr = e.Negate x.expr; height = above x.height }

abbrev pub joined : Operator → Grown → Grown → Grown
joined op left right = record { expr = e.Binary op left.expr right.expr; height = above (max left.height right.height) }

abbrev pub chosen : Grown → Grown → Grown → Grown
chosen value condition other = record { expr = e.Choice value.expr condition.expr other.expr; height = above (max value.height (max condition.height other.height)) }

abbrev pub alone : Grown → Bunch
alone x = record { items = x.expr ∷ []; height = x.height }

abbrev pub added : Bunch → Grown → Bunch
added all x = record { items = all.items ++ x.expr ∷ []; height = max all.height x.height }

abbrev pub collected : Bunch → Grown
collected all = record { expr = e.Set all.items; height = above all.height }
