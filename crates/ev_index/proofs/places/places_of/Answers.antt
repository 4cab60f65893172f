use Rattle.std.proofs.Common.{◌∙◌, ap, sym, suc, ◌+◌, drop, List}
use Rattle.std.proofs.lemmas.List.{at_drop_all}
use Rattle.ev_schema.specs.declared.pointer.Computed.{Computed}
use Rattle.ev_index.specs.Index.{at_place, place_of}
use Rattle.ev_index.proofs.Firsts.{with_places, all_places, left_item, next}
use Rattle.ev_index.proofs.places.places_of.Goals as goal

pub returns : goal.returns
returns c pointer =
    ap (λ f. at_place c.args.computed.now (f pointer.0))
    (sym (ap (λ (l : List Computed). with_places c.loop-place.place (place_of c.loop-place.places) l) (at_drop_all (λ l. l) c.args.computed.now c.loop-place.place c.loop-place-test.false))
    ∙ c.loop-place.invariant)
    ∙ all_places c.args.computed.now pointer

pub loop-place-init : goal.loop-place-init
loop-place-init c = ap (λ f. with_places 0 f c.args.computed.now) c.new-places.ensures

pub loop-place-preserved : goal.loop-place-preserved
loop-place-preserved c =
    ap (λ k. with_places k (place_of c.add.new.self) (drop (c.loop-place.place + 1) c.args.computed.now)) (next c.loop-place.place)
    ∙ ap (λ f. with_places (suc c.loop-place.place) f (drop (c.loop-place.place + 1) c.args.computed.now)) c.in_ok-add.ensures
    ∙ sym (ap (λ (l : List Computed). with_places c.loop-place.place (place_of c.loop-place.places) l) (left_item c.args.computed.now c.loop-place.place c.index-computed-place.result c.loop-place-test.true c.index-computed-place.is))
    ∙ c.loop-place.invariant
