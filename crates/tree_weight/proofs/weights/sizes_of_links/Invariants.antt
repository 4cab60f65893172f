-- The sizes so far and those of the pointers that are left are those of all.
use Rattle.std.proofs.Common.{◌≡◌, ◌++◌, drop, map}
use Rattle.ev_schema.specs.Pointers.{target_of}
use Rattle.ev_schema.specs.declared.pointer.PtrInfo.{PtrInfo}
use Rattle.tree_weight.specs.Brought.{with_target}
use Rattle.tree_weight.specs.Capped.{capped_sizes, kept}
use Rattle.tree_weight.proofs.weights.sizes_of_links.Given as goal

abbrev pub invariant-loop-info : goal.invariant-loop-info
invariant-loop-info l =
    l.sizes ++ map (λ (info : PtrInfo). with_target capped_sizes (kept l.types) (target_of info.body)) (drop l.info-index l.pointers)
    ≡ map (λ (info : PtrInfo). with_target capped_sizes (kept l.types) (target_of info.body)) l.pointers
