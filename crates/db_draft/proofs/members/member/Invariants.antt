use Rattle.std.proofs.Common.{◌≡◌, drop}
use Rattle.db_draft.specs.Members.{member as member_in}
use Rattle.db_draft.proofs.members.member.Given as goal

-- what is left has what the whole has
abbrev pub invariant-loop-member : goal.invariant-loop-member
invariant-loop-member l = member_in (drop l.member-index l.members) l.name ≡ member_in l.fn.members l.fn.name
