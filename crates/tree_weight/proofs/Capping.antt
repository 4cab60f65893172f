-- What is capped tells what is over the limits.
use Rattle.std.proofs.Common.{◌≡◌, ℕ, suc, ◌+◌, ◌≤◌, ◌<◌, max, Bool, true, false, nat_lt, ◌||◌, refl, ap, ◌∙◌, arith}
use Rattle.std.proofs.lemmas.Bool.{ltb-false, ltb-true, lt-ltb}
use Rattle.core_ir.specs.declared.phase.Core.{Core}
use Rattle.ev_schema.specs.declared.schema.Schema.{Schema}
use Rattle.tree_weight.specs.Brought.{of_query, of_schema_expression}
use Rattle.tree_weight.specs.Capped.{capped, capped_sizes}
use Rattle.tree_weight.specs.Depth.{deepest, depth, depth_in_schema}
use Rattle.tree_weight.specs.Heavy.{is_over, is_too_heavy, is_too_heavy_in_schema}
use Rattle.tree_weight.specs.Weight.{counting, weight, weight_in_schema}
use Rattle.tree_weight.specs.declared.size.Size.{Size}
use Rattle.tree_weight.proofs.Alike.{Keeps, queries, expressions}

-- A sum of capped numbers is as the numbers' own, once it is capped.
pub capped_sum : (a b : ℕ) → capped (capped a + capped b) ≡ capped (a + b)
capped_sum a b = omega arith

pub capped_next : (a : ℕ) → capped (suc (capped a)) ≡ capped (suc a)
capped_next a = omega arith

pub capped_most : (a b : ℕ) → max (capped a) (capped b) ≡ capped (max a b)
capped_most a b = omega arith

abbrev Weighs : Size → ℕ → Type 0
Weighs s n = s.weight ≡ capped n

abbrev Deep : Size → ℕ → Type 0
Deep s n = s.depth ≡ capped n

weights : Keeps capped_sizes counting Weighs
weights = record {
  none = refl;
  beside = λ {a} {c} {b} {d} r s. ap (λ x. capped (x + c.weight)) r ∙ ap (λ x. capped (capped b + x)) s ∙ capped_sum b d;
  above = λ {a} {b} r. ap (λ x. capped (suc x)) r ∙ capped_next b;
}

depths : Keeps capped_sizes deepest Deep
depths = record {
  none = refl;
  beside = λ {a} {c} {b} {d} r s. ap (λ x. max x c.depth) r ∙ ap (λ x. max (capped b) x) s ∙ capped_most b d;
  above = λ {a} {b} r. ap (λ x. capped (suc x)) r ∙ capped_next b;
}

not_less : (k n : ℕ) → n ≤ k → nat_lt k n ≡ false
not_less k n le = by (nat_lt k n) refl
  where
    by : (v : Bool) → nat_lt k n ≡ v → v ≡ false
    by true e = let less : k < n = ltb-true k n e in absurd (omega arith)
    by false e = refl

-- A limit below the cap is passed by what is capped exactly where it is passed.
same_above : (k n : ℕ) → k < 262145 → nat_lt k (capped n) ≡ nat_lt k n
same_above k n below = by (nat_lt k n) refl
  where
    by : (v : Bool) → nat_lt k n ≡ v → nat_lt k (capped n) ≡ v
    by true e = let less : k < n = ltb-true k n e in lt-ltb k (capped n) (omega arith)
    by false e = let le : n ≤ k = ltb-false k n e in not_less k (capped n) (omega arith)

over : (s : Size) (w d : ℕ) → s.weight ≡ capped w → s.depth ≡ capped d → is_over s.weight s.depth ≡ is_over w d
over s w d p q = (λ i. nat_lt 262144 (p i) || nat_lt 64 (q i)) ∙ (λ i. same_above 262144 w (omega arith) i || same_above 64 d (omega arith) i)

-- What is kept of a query is over the limits exactly where the query is too heavy.
pub query_is_over : (schema : Schema) (c : Core) → is_over (of_query capped_sizes schema c).weight (of_query capped_sizes schema c).depth ≡ is_too_heavy schema c
query_is_over schema c =
    over (of_query capped_sizes schema c) (weight schema c) (depth schema c) (queries capped_sizes counting Weighs weights schema c) (queries capped_sizes deepest Deep depths schema c)

pub expression_is_over : (schema : Schema) (c : Core)
    → is_over (of_schema_expression capped_sizes schema c).weight (of_schema_expression capped_sizes schema c).depth ≡ is_too_heavy_in_schema schema c
expression_is_over schema c =
    over (of_schema_expression capped_sizes schema c) (weight_in_schema schema c) (depth_in_schema schema c)
    (expressions capped_sizes counting Weighs weights schema c) (expressions capped_sizes deepest Deep depths schema c)
