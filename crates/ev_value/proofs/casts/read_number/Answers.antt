use Rattle.std.proofs.Common.{◌≡◌, ap, sym, ◌∙◌, to_z, of_z, rules}
use Rattle.std.specs.Int.{w64}
use Rattle.ev_value.specs.declared.item.Item.TheVariants as item
use Rattle.ev_value.specs.declared.value.Val as val
use Rattle.ev_value.proofs.Numbers.{read_is, unread_is}
use Rattle.ev_value.proofs.casts.read_number.Goals as goal

pub returns-in-Ok : goal.returns-in-Ok
returns-in-Ok c =
    let read : to_z w64 (of_z w64 c.in-Ok.number) ≡ c.in-Ok.number = search rules in
    read_is c.args.text.now (sym c.begins_with_plus.ensures ∙ c.if-begins_with_plus.false) c.in-Ok.ensures.value.0.0.0 c.in-Ok.ensures.value.0.0.1
    ∙ ap (λ z. item.Value (val.Int z)) (sym c.in-Ok.ensures.value.0.1 ∙ sym read)

pub returns-in-Err : goal.returns-in-Err
returns-in-Err c = unread_is c.args.text.now (sym c.begins_with_plus.ensures ∙ c.if-begins_with_plus.false) c.in-Err.ensures.value.0
