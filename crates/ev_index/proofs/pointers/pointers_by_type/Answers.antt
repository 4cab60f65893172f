use Rattle.std.proofs.Common.{◌∙◌, ◌++◌, ◌+◌, ap, sym, drop, map, List}
use Rattle.ev_index.specs.Index.{by_name, pointers_of}
use Rattle.ev_index.proofs.Firsts.{left_item, one_type}
use Rattle.ev_index.proofs.pointers.pointers_by_type.Goals as goal
use Rattle.ev_schema.specs.Pointers.{first_named}
use Rattle.ev_schema.specs.declared.types.TypeInfo.{TypeInfo}

pub loop-info-preserved : goal.loop-info-preserved
loop-info-preserved c =
    ap (λ l. map by_name l ++ map (pointers_of c.args.pointers.now) (drop (c.loop-info.info-index + 1) c.args.types.now)) c.in_ok-push.ensures.ok
    ∙ one_type (pointers_of c.args.pointers.now) c.loop-info.found c.in_ok-pointers_by_name.field-0 c.info-item.result (drop (c.loop-info.info-index + 1) c.args.types.now)
    (c.in_ok-pointers_by_name.ensures ∙ ap (first_named c.args.pointers.now) c.as_slice.ensures)
    ∙ sym (ap (λ (l : List TypeInfo). map by_name c.loop-info.found ++ map (pointers_of c.args.pointers.now) l) (left_item c.args.types.now c.loop-info.info-index c.info-item.result c.loop-info-test.true c.info-item.is))
    ∙ c.loop-info.invariant
