use Rattle.std.proofs.Common.{◌≡◌, drop, length, []}
use Rattle.db_ids.specs.Heads.{heads_from}
use Rattle.db_ids.proofs.identity.check_heads.Given as goal

-- the heads so far, and those of what is left, are the whole
abbrev pub invariant-loop-draft : goal.invariant-loop-draft
invariant-loop-draft l =
    (length l.heads ≡ l.draft-index) × (heads_from l.types l.heads (drop l.draft-index l.drafts) ≡ heads_from l.types [] l.drafts)
