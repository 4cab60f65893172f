use Rattle.std.proofs.Common.{arith, ◌≡◌, ◌+◌, ◌-◌, [], length, ◌∙◌, sym, ap, subst}
use Rattle.exact.specs.declared.rule.Rule.{Rule}
use Rattle.exact.specs.Reading.{Outcome, Got, Stop}
use Rattle.trial_exact.specs.declared.token.Token.{Token}
use Rattle.trial_exact.specs.declared.tree.Grown.{Grown}
use Rattle.trial_exact.proofs.Promise.{found, only, refused, left_over, all}
use Rattle.trial_exact.proofs.read.parse.Goals as goal

got : (c : goal.In-Ok) → all c.args.tokens.now ≡ Got c.in-Ok.found c.whole.new.tokens
unfolding all
got c = ap all (sym c.new-cursor.ensures) ∙ c.in-Ok.ensures

stopped : (c : goal.After-left) → all c.args.tokens.now ≡ Stop c.in-Err-Refused.rule c.whole.new.tokens
unfolding all
stopped c = ap all (sym c.new-cursor.ensures) ∙ (rw c.in-Err-Refused.field-0-is at c.in-Err-Refused.ensures)

pub overflow_sub-result : goal.overflow_sub-result
overflow_sub-result c = let le = left_over _ _ _ (stopped c) in omega arith

pub returns-in-Ok-clause-found : goal.returns-in-Ok-clause-found
returns-in-Ok-clause-found c = found _ _ _ (got c)

pub returns-in-Ok-clause-only : goal.returns-in-Ok-clause-only
returns-in-Ok-clause-only c = λ x l. let e : ◌≡◌ {A = Outcome Token Grown} (Got c.in-Ok.found c.whole.new.tokens) (Got x []) = sym (got c) ∙ only _ x l in cc

pub returns-in-Err-Refused-clause-only : goal.returns-in-Err-Refused-clause-only
returns-in-Err-Refused-clause-only c = λ x l. let e : ◌≡◌ {A = Outcome Token Grown} (Stop c.in-Err-Refused.rule c.whole.new.tokens) (Got x []) = sym (stopped c) ∙ only _ x l in absurd cc

pub returns-in-Err-Refused-clause-refused : goal.returns-in-Err-Refused-clause-refused
returns-in-Err-Refused-clause-refused c = λ rule k e.
    let same_rule : c.in-Err-Refused.rule ≡ rule = cc in
    let same_place : length c.args.tokens.now - c.left.result ≡ k = cc in
    let le = left_over _ _ _ (stopped c) in
    let place : k + length c.whole.new.tokens ≡ length c.args.tokens.now = omega arith in
    refused c.args.tokens.now rule c.whole.new.tokens (subst (λ (r : Rule). all c.args.tokens.now ≡ Stop r c.whole.new.tokens) same_rule (stopped c)) k place
