-- The limits on weight and depth.
use Rattle.std.specs.Prelude.{ℕ, Bool, nat_lt, ◌||◌}
use Rattle.core_ir.specs.declared.phase.Core.{Core}
use Rattle.ev_schema.specs.declared.schema.Schema.{Schema}
use Rattle.tree_weight.specs.Depth.{depth, depth_in_schema}
use Rattle.tree_weight.specs.Weight.{weight, weight_in_schema}

-- whether a weight or a depth is over its limit
abbrev pub is_over : ℕ → ℕ → Bool
is_over w d = nat_lt 262144 w || nat_lt 64 d

-- whether a query is too heavy or too deep
abbrev pub is_too_heavy : Schema → Core → Bool
is_too_heavy schema c = is_over (weight schema c) (depth schema c)

-- whether an expression of a schema is
abbrev pub is_too_heavy_in_schema : Schema → Core → Bool
is_too_heavy_in_schema schema c = is_over (weight_in_schema schema c) (depth_in_schema schema c)
