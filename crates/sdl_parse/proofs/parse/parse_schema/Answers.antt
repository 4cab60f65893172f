use Rattle.std.proofs.Common.{◌≡◌, ℕ, ap, subst, sym, ◌∙◌, inl}
use Rattle.exact.specs.declared.rule.Rule.{Rule}
use Rattle.exact.specs.Reading.{Got, Stop}
use Rattle.exact.specs.Promise.{IsRefused}
use Rattle.sdl_grammar.specs.Promise.{SchemaText}
use Rattle.sdl_grammar.proofs.Promise.{all, file, found, left_over, refused, one_refusal}
use Rattle.eql_parse.specs.Promise.{refusal}
use Rattle.sdl_parse.proofs.Schemas.{same_refusal, schema_only, schema_kept, no_schema}
use Rattle.sdl_parse.proofs.parse.parse_schema.Goals as goal

got : (c : goal.In-Ok) → all c.args.tokens.now ≡ Got c.in-Ok.file c.whole_file.new.tokens
unfolding all file
got c = ap all (sym (c.new-cursor.ensures ∙ c.as_slice.ensures)) ∙ c.in-Ok.ensures

stopping : (c : goal.After-cursor-in-Err-Refused-1) → all c.args.tokens.now ≡ Stop c.in-Err-Refused.rule c.whole_file.new.tokens
unfolding all file
stopping c = ap all (sym (c.new-cursor.ensures ∙ c.as_slice.ensures)) ∙ (rw c.in-Err-Refused.field-0-is at c.in-Err-Refused.ensures)

stopped : (c : goal.After-refused_by) → all c.args.tokens.now ≡ Stop c.in-Err-Refused.rule c.whole_file.new.tokens
unfolding all file
stopped c = ap all (sym (c.new-cursor.ensures ∙ c.as_slice.ensures)) ∙ (rw c.in-Err-Refused.field-0-is at c.in-Err-Refused.ensures)

pub place-requires-clause-within : goal.place-requires-clause-within
place-requires-clause-within c = left_over _ _ _ (stopping c)

pub returns-in-Ok-clause-found : goal.returns-in-Ok-clause-found
returns-in-Ok-clause-found c = found _ _ _ (got c)

pub returns-in-Ok-clause-only : goal.returns-in-Ok-clause-only
returns-in-Ok-clause-only c = λ other is. let same = schema_only _ _ _ (got c) other is in inl (cc same)

pub returns-in-Ok-clause-only_refused : goal.returns-in-Ok-clause-only_refused
returns-in-Ok-clause-only_refused c = λ rule k r. absurd (schema_kept _ _ _ (got c) rule k r)

pub returns-in-Err-Refused-clause-only : goal.returns-in-Err-Refused-clause-only
returns-in-Err-Refused-clause-only c = λ other is. absurd (no_schema _ _ _ (stopped c) other is)

mine : (c : goal.After-refused_by) → IsRefused SchemaText c.args.tokens.now c.in-Err-Refused.rule c.place.result
mine c = refused c.args.tokens.now c.in-Err-Refused.rule c.whole_file.new.tokens (stopped c) c.place.result c.place.ensures

named : (c : goal.After-refused_by) → c.refused_by.result ≡ refusal c.in-Err-Refused.rule c.place.result
named c = c.refused_by.ensures ∙ ap (λ (r : Rule). refusal r c.place.result) c.in-Err-Refused.rule-is

pub returns-in-Err-Refused-clause-refused : goal.returns-in-Err-Refused-clause-refused
returns-in-Err-Refused-clause-refused c = λ rule k e.
    let inner : c.refused_by.result ≡ refusal rule k = cc in
    let same = same_refusal c.in-Err-Refused.rule rule c.place.result k (sym (named c) ∙ inner) in
    subst (λ (r : Rule). IsRefused SchemaText c.args.tokens.now r k) same.0 (subst (λ (n : ℕ). IsRefused SchemaText c.args.tokens.now c.in-Err-Refused.rule n) same.1 (mine c))

pub returns-in-Err-Refused-clause-only_refused : goal.returns-in-Err-Refused-clause-only_refused
returns-in-Err-Refused-clause-only_refused c = λ rule k r.
    let same = one_refusal c.args.tokens.now c.in-Err-Refused.rule rule c.place.result k (mine c) r in
    inl (let e : c.refused_by.result ≡ refusal rule k = named c ∙ ap (λ (w : Rule). refusal w c.place.result) same.0 ∙ ap (refusal rule) same.1 in cc)
