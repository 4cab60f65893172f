use Rattle.std.proofs.Common.{◌≡◌, ◌++◌, None}
use Rattle.serde_json.specs.View.{members_view}
use Rattle.db_load.specs.Drafts.{members_of, type_of}
use Rattle.db_load.proofs.drafts.object_of.Given as goal

-- the members so far and those of what is left; the type that was found, or that is left
abbrev pub invariant-loop-key : goal.invariant-loop-key
invariant-loop-key l =
    (l.members ++ members_of (members_view l.key-iterator) ≡ members_of (members_view l.fn.map.entries))
    × (type_of l.ty (members_view l.key-iterator) ≡ type_of None (members_view l.fn.map.entries))
