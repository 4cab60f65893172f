-- The depth of a query: the most nodes of its tree that stand one below the other, with all that is brought into it.
use Rattle.std.specs.Prelude.{ℕ, suc, max}
use Rattle.core_ir.specs.declared.phase.Core.{Core}
use Rattle.ev_schema.specs.declared.schema.Schema.{Schema}
use Rattle.tree_weight.specs.Brought.{of_query, of_schema_expression}
use Rattle.tree_weight.specs.Measure.{Measure}

-- A node is one deeper than what stands below it, and of what stands beside each other the deeper one counts.
abbrev pub deepest : Measure ℕ
deepest = record { none = 0; beside = λ a b. max a b; above = λ a. suc a }

-- the depth of a query
abbrev pub depth : Schema → Core → ℕ
depth = of_query deepest

-- the depth of an expression of a schema
abbrev pub depth_in_schema : Schema → Core → ℕ
depth_in_schema = of_schema_expression deepest
