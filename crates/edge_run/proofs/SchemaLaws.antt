-- What is decided of the text of a schema.
use Rattle.std.proofs.Common.{◌≡◌, ℕ, ◌<◌, ◌^◌, Bool, true, false, List, length, Option, Some, None, Result, Ok, Err, ◌⊎◌, inl, inr, refl, sym, ap, ◌∙◌, subst, arith, rules}
use Rattle.std.specs.List.{list_any}
use Rattle.core_ir.specs.declared.path.TypeId.{TypeId}
use Rattle.eql_parse.proofs.Few.{few_tokens}
use Rattle.ev_lex.specs.Reading.{IsCut}
use Rattle.ev_lex.specs.declared.token.Token.{Token}
use Rattle.ev_lex.proofs.Readings.{one_cut, one_refusal, cut_not_refused}
use Rattle.ev_schema.specs.declared.schema.Schema.{Schema}
use Rattle.exact.specs.Promise as exact
use Rattle.exact.specs.declared.rule.Rule.{Rule}
use Rattle.schema_build.specs.Lineage.{bases_of}
use Rattle.schema_build.specs.Parts.{decls_of, foreign_module, has_unbuilt}
use Rattle.schema_build.specs.Least.{least_of}
use Rattle.schema_build.specs.Twice.{type_names}
use Rattle.schema_build.specs.Verdict.{IsAnswer, IsDue, first_verdict, later_verdict, schema_of}
use Rattle.schema_build.specs.Verdict as verdict
use Rattle.schema_build.specs.declared.refusal.Broken.{Broken}
use Rattle.schema_build.specs.declared.refusal.SchemaRefusal as b
use Rattle.schema_build.specs.declared.refusal.SchemaRefusal.TheVariants as build
use Rattle.sdl_ast.specs.declared.declaration.Decl.{Decl}
use Rattle.sdl_ast.specs.declared.declaration.SdlFile.{SdlFile}
use Rattle.sdl_grammar.specs.Promise.{SchemaText, IsSchema}
use Rattle.sdl_grammar.proofs.Promise as texts
use Rattle.edge_run.specs.Judgement.{AsSchema, IsDecided}
use Rattle.edge_run.specs.Limits.{IsShort}
use Rattle.edge_run.specs.Refusal.{Refusal, Usage, TooLong, Data, Query, Args}
use Rattle.edge_run.specs.Refusal as refused
use Rattle.edge_run.specs.Schema.{IsSpelled, IsBuilt, IsReason, Decides, IsTold, IsParsed, IsSurface, IsMade}
use Rattle.edge_run.specs.declared.outcome.Doc.TheVariants as doc
use Rattle.edge_run.specs.declared.outcome.Outcome.{Outcome}
use Rattle.edge_run.specs.declared.outcome.Outcome.TheVariants as outcome
use Rattle.edge_run.specs.declared.outcome.SchemaRefusal.{SchemaRefusal}
use Rattle.edge_run.specs.declared.outcome.SchemaRefusal.TheVariants as refusal
use Rattle.edge_run.proofs.Lineages.{one_lineages}

-- ---- what the code answers

pub few : (text : List ℕ) (tokens : List Token) → IsCut text tokens → IsShort doc.Schema text → length tokens < 2 ^ 32
few text tokens cut short = let fewer = few_tokens text tokens cut in omega arith

pub surface : (text : List ℕ) (tokens : List Token) (r : Result SdlFile Outcome) → IsCut text tokens → IsParsed tokens r → IsSurface text r
surface text tokens (Ok file) cut is = (tokens, cut, is)
surface text tokens (Err o) cut (inl e) = inl e
surface text tokens (Err o) cut (inr (rule, token, why, e)) = inr (refusal.Syntax rule token, (tokens, cut, why), e)

pub told_is_decided : (text : List ℕ) (o : Outcome) → IsTold text o → IsDecided AsSchema text (Err o)
told_is_decided text o (inl e) = inl (ap Err e)
told_is_decided text o (inr (r, reason, e)) = inr (Err (refused.Schema r), reason, ap Err e)

pub made_is_decided : (text : List ℕ) (file : SdlFile) (r : Result Schema Outcome) → IsSpelled text file → IsMade file r → IsDecided AsSchema text r
made_is_decided text file (Ok schema) spelled is = inr (Ok schema, record { surface = file; spelled = spelled; built = is }, refl)
made_is_decided text file (Err outcome.Memory) spelled is = inl refl
made_is_decided text file (Err (outcome.SchemaRefused (refusal.Build broken))) spelled is =
    inr (Err (refused.Schema (refusal.Build broken)), (file, spelled, is), refl)
made_is_decided text file (Err (outcome.SchemaRefused refusal.Unbuilt)) spelled is =
    inr (Err (refused.Schema refusal.Unbuilt), (file, spelled, is), refl)
made_is_decided text file (Err (outcome.SchemaRefused (refusal.Lex byte))) spelled is = absurd is
made_is_decided text file (Err (outcome.SchemaRefused (refusal.Syntax rule token))) spelled is = absurd is
made_is_decided text file (Err outcome.Done) spelled is = absurd is
made_is_decided text file (Err (outcome.Usage u)) spelled is = absurd is
made_is_decided text file (Err (outcome.ReadFault d)) spelled is = absurd is
made_is_decided text file (Err (outcome.TooLong d)) spelled is = absurd is
made_is_decided text file (Err (outcome.WriteFault c)) spelled is = absurd is
made_is_decided text file (Err (outcome.DataRefused d)) spelled is = absurd is
made_is_decided text file (Err (outcome.QueryRefused q)) spelled is = absurd is
made_is_decided text file (Err (outcome.ArgsRefused d)) spelled is = absurd is
made_is_decided text file (Err (outcome.RunFault f)) spelled is = absurd is

-- ---- of each text at most one thing is decided

abbrev Built : Type 0
Built = Result Schema b.SchemaRefusal

due_once : (unbuilt : Bool) (first : Option Broken) (ds : List Decl) (types : List (List ℕ)) (r q : Built) → IsDue unbuilt first ds types r → IsDue unbuilt first ds types q
    → r ≡ q
due_once true first ds types r q x y = x ∙ sym y
due_once false (Some broken) ds types r q x y = x ∙ sym y
due_once false None ds types r q (lines, are, e) (others, are', e') =
    e ∙ ap (λ (ls : List (List TypeId)). verdict.told (later_verdict ds types ls) (schema_of ds types ls)) (one_lineages (bases_of types ds) lines others are are') ∙ sym e'

abbrev NotMemory : Built → Type 0
NotMemory r = r ≡ Err build.Memory → ⊥

one_answer : (file : SdlFile) (r q : Built) → NotMemory r → NotMemory q → IsAnswer file r → IsAnswer file q → r ≡ q
one_answer file r q is is' (inl m) y = absurd (is m)
one_answer file r q is is' (inr x) (inl m) = absurd (is' m)
one_answer file r q is is' (inr x) (inr y) =
    let ds = decls_of file.parts in
    due_once (list_any has_unbuilt ds) (first_verdict (least_of foreign_module file.parts) ds (type_names ds)) ds (type_names ds) r q x y

pub one_surface : (text : List ℕ) (a c : SdlFile) → IsSpelled text a → IsSpelled text c → a ≡ c
one_surface text a c (ts, cut, is) (us, cut', is') =
    texts.one_tree ts a c is (subst (λ (w : List Token). IsSchema w c) (sym (one_cut text ts us cut cut')) is')

-- two answers for the surface trees of one text
same_answer : (text : List ℕ) (a c : SdlFile) (r q : Built) → IsSpelled text a → IsSpelled text c → NotMemory r → NotMemory q → IsAnswer a r → IsAnswer c q → r ≡ q
same_answer text a c r q spelled spelled' is is' x y = one_answer a r q is is' x (subst (λ (f : SdlFile). IsAnswer f q) (sym (one_surface text a c spelled spelled')) y)

schema_is : (a c : Schema) → ◌≡◌ {A = Built} (Ok a) (Ok c) → a ≡ c
schema_is a c e = cc

broken_is : (a c : Broken) → ◌≡◌ {A = Built} (Err (build.Build a)) (Err (build.Build c)) → a ≡ c
broken_is a c e = search rules

ok_stands : (a : Schema) → NotMemory (Ok a)
ok_stands a e = search rules

broken_stands : (a : Broken) → NotMemory (Err (build.Build a))
broken_stands a e = search rules

unbuilt_stands : NotMemory (Err build.Unbuilt)
unbuilt_stands e = search rules

ok_not_broken : (a : Schema) (c : Broken) → ◌≡◌ {A = Built} (Ok a) (Err (build.Build c)) → ⊥
ok_not_broken a c e = search rules

ok_not_unbuilt : (a : Schema) → ◌≡◌ {A = Built} (Ok a) (Err build.Unbuilt) → ⊥
ok_not_unbuilt a e = search rules

broken_not_unbuilt : (a : Broken) → ◌≡◌ {A = Built} (Err (build.Build a)) (Err build.Unbuilt) → ⊥
broken_not_unbuilt a e = search rules

-- a text that spells a surface tree is refused by no rule of tokens and of the grammar
spelled_not_cut : (text : List ℕ) (file : SdlFile) (byte : ℕ) → IsSpelled text file → IsReason text (refusal.Lex byte) → ⊥
spelled_not_cut text file byte (ts, cut, is) why = cut_not_refused text ts byte cut why

spelled_not_dead : (text : List ℕ) (file : SdlFile) (rule : Rule) (token : ℕ) → IsSpelled text file → IsReason text (refusal.Syntax rule token) → ⊥
spelled_not_dead text file rule token (ts, cut, is) (us, cut', why) =
    texts.schema_not_refused us rule token file (subst (λ (w : List Token). IsSchema w file) (one_cut text ts us cut cut') is) why

built_or_refused : (text : List ℕ) (schema : Schema) (r : SchemaRefusal) → IsBuilt text schema → IsReason text r → ⊥
built_or_refused text schema (refusal.Lex byte) is why = spelled_not_cut text is.surface byte is.spelled why
built_or_refused text schema (refusal.Syntax rule token) is why = spelled_not_dead text is.surface rule token is.spelled why
built_or_refused text schema (refusal.Build c) is (file, spelled, why) =
    ok_not_broken schema c (same_answer text is.surface file (Ok schema) (Err (build.Build c)) is.spelled spelled (ok_stands schema) (broken_stands c) is.built why)
built_or_refused text schema refusal.Unbuilt is (file, spelled, why) =
    ok_not_unbuilt schema (same_answer text is.surface file (Ok schema) (Err build.Unbuilt) is.spelled spelled (ok_stands schema) unbuilt_stands is.built why)

one_reason : (text : List ℕ) (r q : SchemaRefusal) → IsReason text r → IsReason text q → r ≡ q
one_reason text (refusal.Lex j) (refusal.Lex k) x y = ap refusal.Lex (one_refusal text j k x y)
one_reason text (refusal.Lex j) (refusal.Syntax rule token) x (us, cut, why) = absurd (cut_not_refused text us j cut x)
one_reason text (refusal.Lex j) (refusal.Build c) x (file, spelled, why) = absurd (spelled_not_cut text file j spelled x)
one_reason text (refusal.Lex j) refusal.Unbuilt x (file, spelled, why) = absurd (spelled_not_cut text file j spelled x)
one_reason text (refusal.Syntax rule token) (refusal.Lex k) (ts, cut, why) y = absurd (cut_not_refused text ts k cut y)
one_reason text (refusal.Syntax rule token) (refusal.Syntax rule' token') (ts, cut, why) (us, cut', why') =
    let same = texts.one_refusal ts rule rule' token token' why (subst (λ (w : List Token). exact.IsRefused SchemaText w rule' token') (sym (one_cut text ts us cut cut')) why') in
    ap (λ (r : Rule). refusal.Syntax r token) same.0 ∙ ap (refusal.Syntax rule') same.1
one_reason text (refusal.Syntax rule token) (refusal.Build c) x (file, spelled, why) = absurd (spelled_not_dead text file rule token spelled x)
one_reason text (refusal.Syntax rule token) refusal.Unbuilt x (file, spelled, why) = absurd (spelled_not_dead text file rule token spelled x)
one_reason text (refusal.Build c) (refusal.Lex k) (file, spelled, why) y = absurd (spelled_not_cut text file k spelled y)
one_reason text (refusal.Build c) (refusal.Syntax rule token) (file, spelled, why) y = absurd (spelled_not_dead text file rule token spelled y)
one_reason text (refusal.Build c) (refusal.Build d) (file, spelled, why) (other, spelled', why') =
    ap (λ (x : Broken). refusal.Build x)
    (broken_is c d (same_answer text file other (Err (build.Build c)) (Err (build.Build d)) spelled spelled' (broken_stands c) (broken_stands d) why why'))
one_reason text (refusal.Build c) refusal.Unbuilt (file, spelled, why) (other, spelled', why') =
    absurd (broken_not_unbuilt c (same_answer text file other (Err (build.Build c)) (Err build.Unbuilt) spelled spelled' (broken_stands c) unbuilt_stands why why'))
one_reason text refusal.Unbuilt (refusal.Lex k) (file, spelled, why) y = absurd (spelled_not_cut text file k spelled y)
one_reason text refusal.Unbuilt (refusal.Syntax rule token) (file, spelled, why) y = absurd (spelled_not_dead text file rule token spelled y)
one_reason text refusal.Unbuilt (refusal.Build c) (file, spelled, why) (other, spelled', why') =
    absurd (broken_not_unbuilt c (same_answer text other file (Err (build.Build c)) (Err build.Unbuilt) spelled' spelled (broken_stands c) unbuilt_stands why' why))
one_reason text refusal.Unbuilt refusal.Unbuilt x y = refl

one_built : (text : List ℕ) (a c : Schema) → IsBuilt text a → IsBuilt text c → a ≡ c
one_built text a c is is' =
    schema_is a c (same_answer text is.surface is'.surface (Ok a) (Ok c) is.spelled is'.spelled (ok_stands a) (ok_stands c) is.built is'.built)

pub one_decision : (text : List ℕ) (a c : Result Schema Refusal) → Decides text a → Decides text c → a ≡ c
one_decision text (Ok a) (Ok c) is is' = ap Ok (one_built text a c is is')
one_decision text (Ok a) (Err (Usage u)) is is' = absurd is'
one_decision text (Ok a) (Err (TooLong d)) is is' = absurd is'
one_decision text (Ok a) (Err (refused.Schema r)) is is' = absurd (built_or_refused text a r is is')
one_decision text (Ok a) (Err (Data d)) is is' = absurd is'
one_decision text (Ok a) (Err (Query q)) is is' = absurd is'
one_decision text (Ok a) (Err (Args q)) is is' = absurd is'
one_decision text (Err (Usage u)) c is is' = absurd is
one_decision text (Err (Data d)) c is is' = absurd is
one_decision text (Err (Query q)) c is is' = absurd is
one_decision text (Err (Args q)) c is is' = absurd is
one_decision text (Err (TooLong d)) c is is' = absurd is
one_decision text (Err (refused.Schema r)) (Ok c) is is' = absurd (built_or_refused text c r is' is)
one_decision text (Err (refused.Schema r)) (Err (Usage u)) is is' = absurd is'
one_decision text (Err (refused.Schema r)) (Err (TooLong d)) is is' = absurd is'
one_decision text (Err (refused.Schema r)) (Err (refused.Schema q)) is is' = ap (λ (x : SchemaRefusal). Err (refused.Schema x)) (one_reason text r q is is')
one_decision text (Err (refused.Schema r)) (Err (Data d)) is is' = absurd is'
one_decision text (Err (refused.Schema r)) (Err (Query q)) is is' = absurd is'
one_decision text (Err (refused.Schema r)) (Err (Args q)) is is' = absurd is'
