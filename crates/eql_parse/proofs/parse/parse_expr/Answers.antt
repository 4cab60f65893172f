use Rattle.std.proofs.Common.{◌≡◌, ℕ, ap, sym, ◌∙◌, inl, Result, Err}
use Rattle.exact.specs.declared.rule.Rule.{Rule}
use Rattle.exact.specs.declared.rule.Rule.TheVariants.{TooDeep}
use Rattle.ast.specs.declared.expression.Expr.{Expr}
use Rattle.eql_grammar.proofs.Promise.{expr}
use Rattle.eql_parse.specs.Promise.{refusal}
use Rattle.eql_parse.specs.declared.refusal.SyntaxRefusal.{SyntaxRefusal}
use Rattle.eql_parse.proofs.Queries.{at_left, at_found, at_tall, at_only, at_not_tall, at_not_low, at_same_tall, at_no_prefix, at_stop_left, at_no_expr, at_no_tall, at_refused, at_same_refusal}
use Rattle.eql_parse.proofs.parse.parse_expr.Goals as goal

pub place-end-requires-clause-within : goal.place-end-requires-clause-within
unfolding expr
place-end-requires-clause-within c = at_left _ c.args.from c.requires.within _ c.at_number-cursor.ensures c.in-Ok.x _ c.in-Ok.ensures

pub place-requires-clause-within : goal.place-requires-clause-within
unfolding expr
place-requires-clause-within c = at_stop_left _ c.args.from c.requires.within _ c.at_number-cursor.ensures c.in-Err-Refused.rule _ (rw c.in-Err-Refused.field-0-is at c.in-Err-Refused.ensures)

-- where the tree is too high

pub returns-then-too_high-clause-only : goal.returns-then-too_high-clause-only
unfolding expr
returns-then-too_high-clause-only c = λ y j is.
    absurd (at_not_tall _ c.args.from c.requires.within _ c.at_number-cursor.ensures c.in-Ok.x _ c.in-Ok.ensures c.place-end.result c.place-end.ensures y j is (sym c.too_high.ensures ∙ c.if-too_high.true))

pub returns-then-too_high-clause-refused : goal.returns-then-too_high-clause-refused
unfolding expr
returns-then-too_high-clause-refused c = λ rule token e.
    at_tall _ c.args.from c.requires.within _ c.at_number-cursor.ensures c.in-Ok.x _ c.in-Ok.ensures c.place-end.result c.place-end.ensures (sym c.too_high.ensures ∙ c.if-too_high.true) rule token
    (let inner : refusal TooDeep c.place-end.result ≡ refusal rule token = cc in inner)

pub returns-then-too_high-clause-only_refused : goal.returns-then-too_high-clause-only_refused
unfolding expr
returns-then-too_high-clause-only_refused c = λ rule k r none.
    absurd (at_no_prefix _ c.args.from c.requires.within _ c.at_number-cursor.ensures c.in-Ok.x _ c.in-Ok.ensures c.place-end.result c.place-end.ensures none)

pub returns-then-too_high-clause-only_tall : goal.returns-then-too_high-clause-only_tall
unfolding expr
returns-then-too_high-clause-only_tall c = λ rule k is.
    let same = at_same_tall _ c.args.from c.requires.within _ c.at_number-cursor.ensures c.in-Ok.x _ c.in-Ok.ensures c.place-end.result c.place-end.ensures rule k is in
    inl (ap (λ (r : SyntaxRefusal). let made : Result (Expr × ℕ) SyntaxRefusal = Err r in made) same)

-- where it is not

pub returns-else-too_high-clause-found : goal.returns-else-too_high-clause-found
unfolding expr
returns-else-too_high-clause-found c =
    at_found _ c.args.from c.requires.within _ c.at_number-cursor.ensures c.in-Ok.x _ c.in-Ok.ensures c.place-end.result c.place-end.ensures (sym c.too_high.ensures ∙ c.if-too_high.false)

pub returns-else-too_high-clause-only : goal.returns-else-too_high-clause-only
unfolding expr
returns-else-too_high-clause-only c = λ y j is.
    let same = at_only _ c.args.from c.requires.within _ c.at_number-cursor.ensures c.in-Ok.x _ c.in-Ok.ensures c.place-end.result c.place-end.ensures y j is in
    let e0 = same.0 in
    let e1 = same.1 in
    inl (cc (e0, e1))

pub returns-else-too_high-clause-only_refused : goal.returns-else-too_high-clause-only_refused
unfolding expr
returns-else-too_high-clause-only_refused c = λ rule k r none.
    absurd (at_no_prefix _ c.args.from c.requires.within _ c.at_number-cursor.ensures c.in-Ok.x _ c.in-Ok.ensures c.place-end.result c.place-end.ensures none)

pub returns-else-too_high-clause-only_tall : goal.returns-else-too_high-clause-only_tall
unfolding expr
returns-else-too_high-clause-only_tall c = λ rule k is.
    absurd (at_not_low _ c.args.from c.requires.within _ c.at_number-cursor.ensures c.in-Ok.x _ c.in-Ok.ensures c.place-end.result c.place-end.ensures rule k is (sym c.too_high.ensures ∙ c.if-too_high.false))

-- where a token is refused

pub returns-in-Err-Refused-clause-only : goal.returns-in-Err-Refused-clause-only
unfolding expr
returns-in-Err-Refused-clause-only c = λ y j is.
    absurd (at_no_expr _ c.args.from c.requires.within _ c.at_number-cursor.ensures c.in-Err-Refused.rule _ (rw c.in-Err-Refused.field-0-is at c.in-Err-Refused.ensures) y j is)

pub returns-in-Err-Refused-clause-refused : goal.returns-in-Err-Refused-clause-refused
unfolding expr
returns-in-Err-Refused-clause-refused c = λ rule token e.
    let inner : c.refused_by.result ≡ refusal rule token = cc in
    let named : c.refused_by.result ≡ refusal c.in-Err-Refused.rule c.place.result = c.refused_by.ensures ∙ ap (λ (r : Rule). refusal r c.place.result) c.in-Err-Refused.rule-is in
    at_refused _ c.args.from c.requires.within _ c.at_number-cursor.ensures c.in-Err-Refused.rule _ (rw c.in-Err-Refused.field-0-is at c.in-Err-Refused.ensures) c.place.result c.place.ensures rule token (sym named ∙ inner)

pub returns-in-Err-Refused-clause-only_refused : goal.returns-in-Err-Refused-clause-only_refused
unfolding expr
returns-in-Err-Refused-clause-only_refused c = λ rule k r none.
    let same = at_same_refusal _ c.args.from c.requires.within _ c.at_number-cursor.ensures c.in-Err-Refused.rule _ (rw c.in-Err-Refused.field-0-is at c.in-Err-Refused.ensures) c.place.result c.place.ensures rule k r in
    let named : c.refused_by.result ≡ refusal c.in-Err-Refused.rule c.place.result = c.refused_by.ensures ∙ ap (λ (r : Rule). refusal r c.place.result) c.in-Err-Refused.rule-is in
    inl (ap (λ (r : SyntaxRefusal). let made : Result (Expr × ℕ) SyntaxRefusal = Err r in made) (named ∙ same))

pub returns-in-Err-Refused-clause-only_tall : goal.returns-in-Err-Refused-clause-only_tall
unfolding expr
returns-in-Err-Refused-clause-only_tall c = λ rule k is.
    absurd (at_no_tall _ c.args.from c.requires.within _ c.at_number-cursor.ensures c.in-Err-Refused.rule _ (rw c.in-Err-Refused.field-0-is at c.in-Err-Refused.ensures) rule k is)
