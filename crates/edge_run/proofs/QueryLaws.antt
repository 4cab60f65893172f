-- What is decided of a query text.
use Rattle.std.proofs.Common.{◌≡◌, ℕ, ◌<◌, ◌^◌, List, length, Option, Some, None, Result, Ok, Err, ◌⊎◌, inl, inr, refl, sym, ap, ◌∙◌, subst, arith, rules}
use Rattle.ast.specs.declared.statement.Query.{Query}
use Rattle.core_ir.specs.declared.tree.Scope.{Scope}
use Rattle.eql_forms.specs.Built.{built_query}
use Rattle.eql_grammar.specs.Promise.{QueryText}
use Rattle.eql_grammar.specs.Promise as grammar
use Rattle.eql_grammar.proofs.Promise.{one_tree}
use Rattle.eql_grammar.proofs.Promise as texts
use Rattle.eql_parse.proofs.Few.{few_tokens}
use Rattle.eql_parse.proofs.Queries.{one_refusal_apart}
use Rattle.ev_lex.specs.Reading.{IsCut}
use Rattle.ev_lex.specs.declared.token.Token.{Token}
use Rattle.ev_lex.proofs.Readings.{one_cut, one_refusal, cut_not_refused}
use Rattle.ev_schema.specs.declared.schema.Schema.{Schema}
use Rattle.exact.specs.Promise as exact
use Rattle.exact.specs.declared.rule.Rule.{Rule}
use Rattle.edge_run.specs.Judgement.{as_told}
use Rattle.edge_run.specs.Limits.{IsShort}
use Rattle.edge_run.specs.Query.{IsQuery, IsBuilt, IsUnread, IsReason, Decides, IsTold, IsParsed, IsSurface, IsTree}
use Rattle.edge_run.specs.Refusal.{Refusal, Usage, TooLong, Data, Args}
use Rattle.edge_run.specs.Refusal as refused
use Rattle.edge_run.specs.declared.outcome.Doc.TheVariants as doc
use Rattle.edge_run.specs.declared.outcome.QueryRefusal.{QueryRefusal}
use Rattle.edge_run.specs.declared.outcome.QueryRefusal.TheVariants as refusal
use Rattle.edge_run.specs.declared.outcome.Outcome.{Outcome}
use Rattle.edge_run.specs.declared.outcome.Outcome.TheVariants as outcome

-- ---- what the code answers

pub few : (text : List ℕ) (tokens : List Token) → IsCut text tokens → IsShort doc.Query text → length tokens < 2 ^ 32
few text tokens cut short = let fewer = few_tokens text tokens cut in omega arith

pub surface : (text : List ℕ) (tokens : List Token) (r : Result Query Outcome) → IsCut text tokens → IsParsed tokens r → IsSurface text r
surface text tokens (Ok query) cut is = (tokens, cut, is)
surface text tokens (Err o) cut (inl e) = inl e
surface text tokens (Err o) cut (inr (rule, token, why, e)) = inr (refusal.Syntax rule token, (tokens, cut, why), e)

-- what the rules decide, or that memory ran out
abbrev pub Answers : Schema → List ℕ → Result Scope Outcome → Type 0
Answers schema text r = (r ≡ Err outcome.Memory) ⊎ ((decided : Result Scope Refusal) × Decides schema text decided × (r ≡ as_told decided))

unread_reason : (schema : Schema) (text : List ℕ) (r : QueryRefusal) → IsUnread text r → IsReason schema text r
unread_reason schema text (refusal.Lex byte) why = why
unread_reason schema text (refusal.Syntax rule token) why = why
unread_reason schema text refusal.Unbuilt why = absurd why

pub told_is_decided : (schema : Schema) (text : List ℕ) (o : Outcome) → IsTold text o → Answers schema text (Err o)
told_is_decided schema text o (inl e) = inl (ap Err e)
told_is_decided schema text o (inr (r, why, e)) =
    inr (Err (refused.Query r), unread_reason schema text r why, ap Err e)

pub tree_is_decided : (schema : Schema) (text : List ℕ) (query : Query) (r : Result Scope Outcome) → IsQuery text query
    → IsTree (built_query schema query) r → Answers schema text r
tree_is_decided schema text query (Ok tree) spelled is = inr (Ok tree, record { surface = query; spelled = spelled; built = is }, refl)
tree_is_decided schema text query (Err o) spelled (inl e) = inl (ap Err e)
tree_is_decided schema text query (Err o) spelled (inr (none, e)) =
    inr (Err (refused.Query refusal.Unbuilt), (query, spelled, none), ap Err e)

-- ---- of each text at most one thing is decided

pub one_query : (text : List ℕ) (a b : Query) → IsQuery text a → IsQuery text b → a ≡ b
one_query text a b (ts, cut, is) (us, cut', is') =
    one_tree ts a b is (subst (λ (w : List Token). grammar.IsQuery w b) (sym (one_cut text ts us cut cut')) is')

some_is : (a b : Scope) → ◌≡◌ {A = Option Scope} (Some a) (Some b) → a ≡ b
some_is a b e = cc

some_not_none : (a : Scope) → ◌≡◌ {A = Option Scope} (Some a) None → ⊥
some_not_none a e = search rules

one_built : (schema : Schema) (text : List ℕ) (a b : Scope) → IsBuilt schema text a → IsBuilt schema text b → a ≡ b
one_built schema text a b is is' =
    some_is a b (sym is.built ∙ ap (built_query schema) (one_query text is.surface is'.surface is.spelled is'.spelled) ∙ is'.built)

built_or_refused : (schema : Schema) (text : List ℕ) (tree : Scope) (r : QueryRefusal) → IsBuilt schema text tree → IsReason schema text r → ⊥
built_or_refused schema text tree (refusal.Lex byte) is why = cut_not_refused text is.spelled.0 byte is.spelled.1 why
built_or_refused schema text tree (refusal.Syntax rule token) is (us, cut, why) =
    one_refusal_apart us is.surface rule token (subst (λ (w : List Token). grammar.IsQuery w is.surface) (one_cut text is.spelled.0 us is.spelled.1 cut) is.spelled.2) why
built_or_refused schema text tree refusal.Unbuilt is (query, spelled, none) =
    some_not_none tree (sym is.built ∙ ap (built_query schema) (one_query text is.surface query is.spelled spelled) ∙ none)

one_reason : (schema : Schema) (text : List ℕ) (r q : QueryRefusal) → IsReason schema text r → IsReason schema text q → r ≡ q
one_reason schema text (refusal.Lex j) (refusal.Lex k) a b = ap refusal.Lex (one_refusal text j k a b)
one_reason schema text (refusal.Lex j) (refusal.Syntax rule token) a (us, cut, why) = absurd (cut_not_refused text us j cut a)
one_reason schema text (refusal.Lex j) refusal.Unbuilt a (query, spelled, none) = absurd (cut_not_refused text spelled.0 j spelled.1 a)
one_reason schema text (refusal.Syntax rule token) (refusal.Lex k) (ts, cut, why) b = absurd (cut_not_refused text ts k cut b)
one_reason schema text (refusal.Syntax rule token) (refusal.Syntax rule' token') (ts, cut, why) (us, cut', why') =
    let same = texts.one_refusal ts rule rule' token token' why (subst (λ (w : List Token). exact.IsRefused QueryText w rule' token') (sym (one_cut text ts us cut cut')) why') in
    ap (λ (r : Rule). refusal.Syntax r token) same.0 ∙ ap (refusal.Syntax rule') same.1
one_reason schema text (refusal.Syntax rule token) refusal.Unbuilt (ts, cut, why) (query, spelled, none) =
    absurd (one_refusal_apart ts query rule token (subst (λ (w : List Token). grammar.IsQuery w query) (one_cut text spelled.0 ts spelled.1 cut) spelled.2) why)
one_reason schema text refusal.Unbuilt (refusal.Lex k) (query, spelled, none) b = absurd (cut_not_refused text spelled.0 k spelled.1 b)
one_reason schema text refusal.Unbuilt (refusal.Syntax rule token) (query, spelled, none) (ts, cut, why) =
    absurd (one_refusal_apart ts query rule token (subst (λ (w : List Token). grammar.IsQuery w query) (one_cut text spelled.0 ts spelled.1 cut) spelled.2) why)
one_reason schema text refusal.Unbuilt refusal.Unbuilt a b = refl

pub one_decision : (schema : Schema) (text : List ℕ) (a b : Result Scope Refusal) → Decides schema text a → Decides schema text b → a ≡ b
one_decision schema text (Ok a) (Ok b) is is' = ap Ok (one_built schema text a b is is')
one_decision schema text (Ok a) (Err (Usage u)) is is' = absurd is'
one_decision schema text (Ok a) (Err (TooLong d)) is is' = absurd is'
one_decision schema text (Ok a) (Err (refused.Schema r)) is is' = absurd is'
one_decision schema text (Ok a) (Err (Data r)) is is' = absurd is'
one_decision schema text (Ok a) (Err (Args r)) is is' = absurd is'
one_decision schema text (Ok a) (Err (refused.Query r)) is is' = absurd (built_or_refused schema text a r is is')
one_decision schema text (Err (Usage u)) b is is' = absurd is
one_decision schema text (Err (refused.Schema r)) b is is' = absurd is
one_decision schema text (Err (Data r)) b is is' = absurd is
one_decision schema text (Err (Args r)) b is is' = absurd is
one_decision schema text (Err (TooLong d)) b is is' = absurd is
one_decision schema text (Err (refused.Query r)) (Ok b) is is' = absurd (built_or_refused schema text b r is' is)
one_decision schema text (Err (refused.Query r)) (Err (Usage u)) is is' = absurd is'
one_decision schema text (Err (refused.Query r)) (Err (TooLong d)) is is' = absurd is'
one_decision schema text (Err (refused.Query r)) (Err (refused.Schema s)) is is' = absurd is'
one_decision schema text (Err (refused.Query r)) (Err (Data s)) is is' = absurd is'
one_decision schema text (Err (refused.Query r)) (Err (Args s)) is is' = absurd is'
one_decision schema text (Err (refused.Query r)) (Err (refused.Query q)) is is' = ap (λ (x : QueryRefusal). Err (refused.Query x)) (one_reason schema text r q is is')
