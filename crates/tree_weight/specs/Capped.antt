-- Weights and depths as the code keeps them: no greater than just above the limits.
use Rattle.std.specs.Prelude.{◌≡◌, ℕ, suc, ◌+◌, min, max, List, slice_get, unwrap_or}
use Rattle.std.specs.BTreeMap as tree
use Rattle.std.specs.Ordering.{nat_cmp}
use Rattle.core_ir.specs.declared.path.TypeId.{TypeId}
use Rattle.tree_weight.specs.Measure.{Measure, Brought}
use Rattle.ev_schema.specs.declared.schema.Schema.{Schema}
use Rattle.tree_weight.specs.Brought.{in_query, in_schema}
use Rattle.tree_weight.specs.declared.size.Size.{Size}
use Rattle.tree_weight.specs.declared.weights.Weights.{Weights}

-- a number, or one over the limit of weights where it is greater
abbrev pub capped : ℕ → ℕ
capped n = min n 262145

-- nothing
abbrev pub no_size : Size
no_size = record { weight = 0; depth = 0 }

-- A measure of both at once. It never comes to more than the cap.
abbrev pub capped_sizes : Measure Size
capped_sizes = record {
  none = no_size;
  beside = λ a b. record { weight = capped (a.weight + b.weight); depth = max a.depth b.depth };
  above = λ a. record { weight = capped (suc a.weight); depth = capped (suc a.depth) };
}

-- what is kept of types
abbrev pub kept : List Size → TypeId → Size
kept sizes t = unwrap_or (slice_get sizes t.0) no_size

-- what is kept as brought
abbrev pub brought_of : Weights → Brought Size
brought_of w = record {
  by_type = kept w.types;
  by_link = λ p. unwrap_or (slice_get w.links p.0) no_size;
  by_computed = λ p. unwrap_or (tree.get nat_cmp w.computed p.0) no_size;
}

-- whether what is kept is what a schema brings into a query
abbrev pub ForQueries : Schema → Weights → Type 0
ForQueries schema w = brought_of w ≡ in_query capped_sizes schema

-- whether it is what a schema brings into its own expressions
abbrev pub ForExpressions : Schema → Weights → Type 0
ForExpressions schema w = brought_of w ≡ in_schema capped_sizes schema
