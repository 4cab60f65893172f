use Rattle.std.proofs.Common.{◌∙◌, ap, sym, suc, ◌+◌, drop, List}
use Rattle.std.proofs.lemmas.List.{at_drop_all}
use Rattle.ev_schema.specs.declared.types.TypeInfo.{TypeInfo}
use Rattle.ev_index.specs.Index.{by_name}
use Rattle.ev_index.proofs.Firsts.{with_types, all_types, left_item, next}
use Rattle.ev_index.proofs.types.types_by_name.Goals as goal

pub returns : goal.returns
returns c =
    sym (ap (λ (l : List TypeInfo). with_types c.loop-place.place (by_name c.loop-place.found) l) (at_drop_all (λ l. l) c.args.types.now c.loop-place.place c.loop-place-test.false))
    ∙ c.loop-place.invariant
    ∙ all_types c.args.types.now

pub loop-place-init : goal.loop-place-init
loop-place-init c = ap (λ f. with_types 0 f c.args.types.now) c.new-found.ensures

pub loop-place-preserved : goal.loop-place-preserved
loop-place-preserved c =
    ap (λ k. with_types k (by_name c.add.new.self) (drop (c.loop-place.place + 1) c.args.types.now)) (next c.loop-place.place)
    ∙ ap (λ f. with_types (suc c.loop-place.place) f (drop (c.loop-place.place + 1) c.args.types.now)) c.in_ok-add.ensures
    ∙ sym (ap (λ (l : List TypeInfo). with_types c.loop-place.place (by_name c.loop-place.found) l) (left_item c.args.types.now c.loop-place.place c.index-types-place.result c.loop-place-test.true c.index-types-place.is))
    ∙ c.loop-place.invariant
