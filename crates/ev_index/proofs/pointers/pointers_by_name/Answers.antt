use Rattle.std.proofs.Common.{◌∙◌, ap, sym, ◌+◌, drop, get_or, List}
use Rattle.std.proofs.lemmas.List.{at_drop_all, at_drop_more}
use Rattle.core_ir.specs.declared.path.PtrId.{PtrId}
use Rattle.ev_index.specs.Index.{by_name, with_pointer}
use Rattle.ev_index.proofs.Firsts.{with_pointers, all_pointers}
use Rattle.ev_index.proofs.pointers.pointers_by_name.Goals as goal

pub loop-pointer-init : goal.loop-pointer-init
loop-pointer-init c = ap (λ f. with_pointers c.args.pointers.now f c.args.listed.now) c.new-found.ensures ∙ all_pointers c.args.pointers.now c.args.listed.now

pub returns : goal.returns
returns c =
    sym (ap (λ (l : List PtrId). with_pointers c.args.pointers.now (by_name c.loop-pointer.found) l) (at_drop_all (λ l. l) c.args.listed.now c.loop-pointer.pointer-index c.loop-pointer-test.false))
    ∙ c.loop-pointer.invariant

pub loop-pointer-preserved : goal.loop-pointer-preserved
loop-pointer-preserved c =
    let first : PtrId = get_or c.args.listed.now c.loop-pointer.pointer-index (record { 0 = 0 }) in
    ap (λ f. with_pointers c.args.pointers.now f (drop (c.loop-pointer.pointer-index + 1) c.args.listed.now))
    (c.in_ok-add_pointer.ensures ∙ ap (λ o. with_pointer o (by_name c.loop-pointer.found) first) c.at-info.ensures)
    ∙ sym (at_drop_more (λ (l : List PtrId). with_pointers c.args.pointers.now (by_name c.loop-pointer.found) l) c.args.listed.now c.loop-pointer.pointer-index (record { 0 = 0 }) c.loop-pointer-test.true)
    ∙ c.loop-pointer.invariant
