use Rattle.std.proofs.Common.{◌≡◌, ap, ◌∙◌, rules, reverse}
use Rattle.std.proofs.lemmas.List.{reverse-reverse}
use Rattle.ev_list.specs.Order.{in_order}
use Rattle.ev_list.proofs.OrderLaws.{compares, less, weak, sorted_is}
use Rattle.ev_list.proofs.order.in_order.Goals as goal

pub returns : goal.returns
returns g c =
    let items : c.reverse.new.self.items ≡ c.args.items = c.reverse.ensures.items ∙ ap reverse c.in_ok-sorted.ensures ∙ reverse-reverse c.args.items in
    c.from_vec.ensures
    ∙ sorted_is c.args.orders.now c.reverse.new.self.items c.sort_by.new.self.items
    (c.in_ok-sort_by.ensures.sorted (less c.args.orders.now) (weak c.args.orders.now) (compares c.args.orders.now (λ a r q k. search rules)))
    (c.in_ok-sort_by.ensures.stable (less c.args.orders.now) (weak c.args.orders.now) (compares c.args.orders.now (λ a r q k. search rules)))
    ∙ ap (in_order c.args.orders.now) items
