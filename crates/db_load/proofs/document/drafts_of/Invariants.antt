use Rattle.std.proofs.Common.{◌≡◌, [], length}
use Rattle.std.specs.Vec.Iter.{into_iter_items, into_iter_len}
use Rattle.serde_json.specs.View.{items_view}
use Rattle.db_load.specs.Document.{drafts_of as drafts_of_items}
use Rattle.db_load.proofs.document.drafts_of.Given as goal

-- what is left, behind the drafts so far, gives what the whole does
abbrev pub invariant-loop-item : goal.invariant-loop-item
invariant-loop-item l =
    (drafts_of_items l.drafts (items_view (into_iter_items l.item-iterator)) ≡ drafts_of_items [] (items_view l.fn.items.items))
    × (into_iter_len l.item-iterator ≡ length (into_iter_items l.item-iterator))
