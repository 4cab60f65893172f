-- A choice whose first parts are known: the parts that are left, and the whole.
use Rattle.std.specs.Prelude.{ℕ}
use Rattle.plan.specs.Ruled.{gives, ◌>>=◌}
use Rattle.core_ir.specs.declared.tree.Expr as core
use Rattle.core_ir.specs.declared.tree.Order.{Order}
use Rattle.core_ir.specs.declared.tree.Order.TheVariants as choice
use Rattle.eql_naming.specs.Forms.{chosen}
use Rattle.eql_naming.specs.Naming.{Naming}

-- behind its condition and its first branch
abbrev pub last_branch : ℕ → Order → core.Expr → ℕ → core.Expr → ℕ → Naming core.Expr → Naming core.Expr
last_branch start o c v x w other = other >>= (λ y. gives (chosen start o c v x w y))

-- behind the first branch of `value if condition else other`
abbrev pub condition_behind : ℕ → ℕ → core.Expr → Naming core.Expr → ℕ → Naming core.Expr → Naming core.Expr
condition_behind start v x condition w other = condition >>= (λ c. last_branch start choice.ValueFirst c v x w other)

-- behind the condition of `if condition then value else other`
abbrev pub branches_behind : ℕ → core.Expr → ℕ → Naming core.Expr → ℕ → Naming core.Expr → Naming core.Expr
branches_behind start c v value w other = value >>= (λ x. last_branch start choice.ConditionFirst c v x w other)
