-- The weight of a query: the number of nodes of its tree, with all that is brought into it.
use Rattle.std.specs.Prelude.{ℕ, suc, ◌+◌}
use Rattle.core_ir.specs.declared.phase.Core.{Core}
use Rattle.ev_schema.specs.declared.schema.Schema.{Schema}
use Rattle.tree_weight.specs.Brought.{of_query, of_schema_expression}
use Rattle.tree_weight.specs.Measure.{Measure}

-- A node is one more than what stands below it, and what stands beside each other is added.
abbrev pub counting : Measure ℕ
counting = record { none = 0; beside = λ a b. a + b; above = λ a. suc a }

-- the weight of a query
abbrev pub weight : Schema → Core → ℕ
weight = of_query counting

-- the weight of an expression of a schema
abbrev pub weight_in_schema : Schema → Core → ℕ
weight_in_schema = of_schema_expression counting
