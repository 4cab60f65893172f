use Rattle.std.proofs.Common.{◌+◌, drop, sym, ap, ◌∙◌, zero}
use Rattle.std.proofs.lemmas.List.{at_drop_all}
use Rattle.db_values.specs.Names.{object_flaw}
use Rattle.db_check.specs.Check.{values_from}
use Rattle.db_check.proofs.Ruled.{ruled_some, ruled_none}
use Rattle.db_check.proofs.HeadTurns.{left_at, left_item, none_left, values_end, values_done, values_turn, values_found}
use Rattle.db_check.proofs.made.check_values.Goals as goal

pub returns-in_default : goal.returns-in_default
returns-in_default c =
    let s = c.args.schema.now in
    let orders = c.args.orders.now in
    let all = c.args.heads.now in
    let ds = c.args.drafts.now in
    let i = c.loop-i.i in
    ruled_none (values_from s orders all zero all ds) tt
    (values_end s orders all i (drop i all) (drop i ds) (values_from s orders all zero all ds) (none_left all i (sym c.at.ensures ∙ c.in_default.is)) c.loop-i.invariant)

pub returns-in-Ok-Some : goal.returns-in-Ok-Some
returns-in-Ok-Some c =
    let s = c.args.schema.now in
    let orders = c.args.orders.now in
    let all = c.args.heads.now in
    let ds = c.args.drafts.now in
    let i = c.loop-i.i in
    let head = c.in-Some.head in
    let draft = c.index-drafts-i.result in
    let listed = c.pointers_at-listed.result.now in
    let flaw = c.in-Ok-Some.flaw in
    let found = sym c.in-Ok-Some.field-0-is ∙ c.in-Ok-Some.ensures in
    ruled_some (values_from s orders all zero all ds) c.broken.result tt
    (c.broken.ensures
    ∙ values_found s orders all i head draft listed (drop i all) (drop (i + 1) all) (drop i ds) (drop (i + 1) ds) (values_from s orders all zero all ds) flaw
    (left_at all i head (sym c.in-Some.ensures))
    (left_item ds i draft c.loop-i-test.true c.index-drafts-i.is)
    c.pointers_at-listed.ensures
    (found ∙ ap (object_flaw s all head.ty listed) c.as_slice-members.ensures)
    c.loop-i.invariant)

pub loop-i-preserved : goal.loop-i-preserved
loop-i-preserved c =
    let s = c.args.schema.now in
    let orders = c.args.orders.now in
    let all = c.args.heads.now in
    let ds = c.args.drafts.now in
    let i = c.loop-i.i in
    let head = c.in-Some.head in
    let draft = c.index-drafts-i.result in
    let listed = c.pointers_at-listed.result.now in
    values_turn s orders all i head draft listed (drop i all) (drop (i + 1) all) (drop i ds) (drop (i + 1) ds) (values_from s orders all zero all ds)
    (left_at all i head (sym c.in-Some.ensures))
    (left_item ds i draft c.loop-i-test.true c.index-drafts-i.is)
    c.pointers_at-listed.ensures
    (sym c.in-Ok-None.field-0-is ∙ c.in-Ok-None.ensures ∙ ap (object_flaw s all head.ty listed) c.as_slice-members.ensures)
    c.loop-i.invariant

pub returns : goal.returns
returns c =
    let s = c.args.schema.now in
    let orders = c.args.orders.now in
    let all = c.args.heads.now in
    let ds = c.args.drafts.now in
    let i = c.loop-i.i in
    ruled_none (values_from s orders all zero all ds) tt
    (values_done s orders all i (drop i all) (drop i ds) (values_from s orders all zero all ds) (at_drop_all (λ l. l) ds i c.loop-i-test.false) c.loop-i.invariant)
