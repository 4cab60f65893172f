use Rattle.std.proofs.Common.{◌≡◌, ◌==◌, ℕ, nat_cmp, take, drop, []}
use Rattle.std.specs.BTreeSet as set
use Rattle.std.specs.List.{list_any}
use Rattle.db_values.specs.Links.{repeated}
use Rattle.db_values.proofs.links.first_repeated.Given as goal

-- the ids so far are seen and none of them stands twice
abbrev pub invariant-loop-id : goal.invariant-loop-id
invariant-loop-id l =
    ((x : ℕ) → set.contains nat_cmp l.seen x ≡ list_any (λ y. y == x) (take l.id-index l.ids))
    × (repeated (take l.id-index l.ids) (drop l.id-index l.ids) ≡ repeated [] l.ids)
