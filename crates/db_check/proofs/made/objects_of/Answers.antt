use Rattle.std.proofs.Common.{◌+◌, ◌++◌, drop, sym, ap, ◌∙◌}
use Rattle.std.proofs.lemmas.List.{at_drop_all}
use Rattle.db_values.specs.Made.{object_of}
use Rattle.db_check.specs.Check.{objects_of}
use Rattle.db_check.proofs.HeadTurns.{left_at, left_item, none_left, objects_end, objects_done, objects_turn}
use Rattle.db_check.proofs.made.objects_of.Goals as goal

pub returns-in_default : goal.returns-in_default
returns-in_default c =
    let s = c.args.schema.now in
    let orders = c.args.orders.now in
    let all = c.args.heads.now in
    let ds = c.args.drafts.now in
    let i = c.loop-i.i in
    objects_end s orders c.loop-i.objects (objects_of s orders all ds) (drop i all) (drop i ds) (none_left all i (sym c.at.ensures ∙ c.in_default.is)) c.loop-i.invariant

pub loop-i-preserved : goal.loop-i-preserved
loop-i-preserved c =
    let s = c.args.schema.now in
    let orders = c.args.orders.now in
    let all = c.args.heads.now in
    let ds = c.args.drafts.now in
    let i = c.loop-i.i in
    let head = c.in-Some.head in
    let draft = c.index-drafts-i.result in
    let listed = c.pointers_at-listed.result.now in
    let o = c.in_ok-object_of.field-0 in
    ap (λ l. l ++ objects_of s orders (drop (i + 1) all) (drop (i + 1) ds)) c.in_ok-push.ensures.ok
    ∙ objects_turn s orders head draft listed o c.loop-i.objects (objects_of s orders all ds) (drop i all) (drop (i + 1) all) (drop i ds) (drop (i + 1) ds)
    (left_at all i head (sym c.in-Some.ensures))
    (left_item ds i draft c.loop-i-test.true c.index-drafts-i.is)
    c.pointers_at-listed.ensures
    (c.in_ok-object_of.ensures ∙ ap (object_of s.pointers head.id head.ty listed) c.as_slice-members.ensures)
    c.loop-i.invariant

pub returns : goal.returns
returns c =
    let s = c.args.schema.now in
    let orders = c.args.orders.now in
    let all = c.args.heads.now in
    let ds = c.args.drafts.now in
    let i = c.loop-i.i in
    objects_done s orders c.loop-i.objects (objects_of s orders all ds) (drop i all) (drop i ds) (at_drop_all (λ l. l) ds i c.loop-i-test.false) c.loop-i.invariant
