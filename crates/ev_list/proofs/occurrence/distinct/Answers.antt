use Rattle.std.proofs.Common.{◌≡◌, [], ◌∷◌, ◌++◌, sym, ap, ◌∙◌, reverse, true, false}
use Rattle.std.proofs.lemmas.List.{reverse-append, reverse-reverse}
use Rattle.std.specs.List.{list_any}
use Rattle.ev_list.specs.Occurrence.{distinct}
use Rattle.ev_list.proofs.Occurrences.{seen_turn, unseen_turn, unseen_none, unseen}
use Rattle.ev_list.proofs.occurrence.distinct.Goals as goal

pub loop-item-init : goal.loop-item-init
loop-item-init g c =
    let e : reverse c.in_ok-left.left.items ≡ c.args.items = ap reverse c.in_ok-left.ensures ∙ reverse-reverse c.args.items in
    (λ i. c.new-seen.ensures i ++ unseen g.T.Same.same (c.new-seen.ensures i) (distinct g.T.Same.same (e i))) ∙ unseen_none g.T.Same.same (distinct g.T.Same.same c.args.items)

pub loop-item-preserved-in-Continue-branch-2 : goal.loop-item-preserved-in-Continue-branch-2
loop-item-preserved-in-Continue-branch-2 g c =
    let old = ap reverse c.in-Some.ensures.items ∙ reverse-append c.pop.new.self.items (c.in-Some.item ∷ []) in
    let is = sym (ap (λ l. c.loop-item.seen ++ unseen g.T.Same.same c.loop-item.seen (distinct g.T.Same.same l)) old) ∙ c.loop-item.invariant in
    let new : list_any (g.T.Same.same c.in-Some.item) c.loop-item.seen ≡ false = ap (list_any (g.T.Same.same c.in-Some.item)) (sym c.as_slice.ensures) ∙ sym c.is_among.ensures ∙ c.if-not-is_among.true in
    (λ i. c.in_ok-push.ensures.ok i ++ unseen g.T.Same.same (c.in_ok-push.ensures.ok i) (distinct g.T.Same.same (reverse c.pop.new.self.items))) ∙
    unseen_turn g.T.Same.same g.met.T.Same.exact _ c.loop-item.seen (reverse c.pop.new.self.items) c.in-Some.item is new

pub loop-item-preserved : goal.loop-item-preserved
loop-item-preserved g c =
    let old = ap reverse c.in-Some.ensures.items ∙ reverse-append c.pop.new.self.items (c.in-Some.item ∷ []) in
    let is = sym (ap (λ l. c.loop-item.seen ++ unseen g.T.Same.same c.loop-item.seen (distinct g.T.Same.same l)) old) ∙ c.loop-item.invariant in
    let known : list_any (g.T.Same.same c.in-Some.item) c.loop-item.seen ≡ true = ap (list_any (g.T.Same.same c.in-Some.item)) (sym c.as_slice.ensures) ∙ sym c.is_among.ensures ∙ c.if-not-is_among.false in
    seen_turn g.T.Same.same g.met.T.Same.exact _ c.loop-item.seen (reverse c.pop.new.self.items) c.in-Some.item is known
