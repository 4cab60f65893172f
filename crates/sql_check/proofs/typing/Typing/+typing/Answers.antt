use Rattle.std.proofs.Common.{◌≡◌, ◌+◌, ◌∷◌, drop, sym, ap, ◌∙◌}
use Rattle.std.proofs.lemmas.List.{drop_more}
use Rattle.sql_check.specs.SortFrames.{sorts}
use Rattle.sql_check.proofs.ScopeForms.{known_more}
use Rattle.sql_check.proofs.typing.Typing.+typing.Goals as goal

pub known-loop-item-preserved : goal.known-loop-item-preserved
known-loop-item-preserved t c =
    let items = c.args.items.now in
    let at = c.loop-item.item-index in
    let item = c.item-item.result in
    let here : drop at items ≡ item ∷ drop (at + 1) items = drop_more items at item c.loop-item-test.true ∙ ap (λ x. x ∷ drop (at + 1) items) (sym c.item-item.is) in
    known_more c.args.self.now.catalog.now c.args.self.now.params.now item c.loop-item.known c.as_slice.result.now c.push.new.self c.in_ok-entry.entry (sorts c.args.scope.now)
    (drop at items) (drop (at + 1) items) _ here c.loop-item.invariant c.as_slice.ensures c.in_ok-entry.ensures c.in_ok-push.ensures.ok
