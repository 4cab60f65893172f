use Rattle.std.proofs.Common.{◌∙◌, ap, sym, ◌+◌, drop, List}
use Rattle.std.proofs.lemmas.List.{at_drop_all}
use Rattle.ev_schema.specs.declared.types.GlobalInfo.{GlobalInfo}
use Rattle.ev_index.specs.Index.{by_name}
use Rattle.ev_index.proofs.Firsts.{with_globals, all_globals, left_item}
use Rattle.ev_index.proofs.globals.globals_by_name.Goals as goal

pub loop-info-init : goal.loop-info-init
loop-info-init c = ap (λ f. with_globals f c.args.globals.now) c.new-found.ensures ∙ all_globals c.args.globals.now

pub returns : goal.returns
returns c =
    sym (ap (λ (l : List GlobalInfo). with_globals (by_name c.loop-info.found) l) (at_drop_all (λ l. l) c.args.globals.now c.loop-info.info-index c.loop-info-test.false))
    ∙ c.loop-info.invariant

pub loop-info-preserved : goal.loop-info-preserved
loop-info-preserved c =
    ap (λ f. with_globals f (drop (c.loop-info.info-index + 1) c.args.globals.now)) c.in_ok-add.ensures
    ∙ sym (ap (λ (l : List GlobalInfo). with_globals (by_name c.loop-info.found) l) (left_item c.args.globals.now c.loop-info.info-index c.info-item.result c.loop-info-test.true c.info-item.is))
    ∙ c.loop-info.invariant
