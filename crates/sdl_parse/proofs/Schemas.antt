-- What the reader of schemas found, in the words of what is promised.
use Rattle.std.proofs.Common.{◌≡◌, ℕ, List, [], refl, sym, ◌∙◌}
use Rattle.exact.specs.declared.rule.Rule.{Rule}
use Rattle.exact.specs.declared.rule.Rule.TheVariants.{Unexpected, TooDeep}
use Rattle.exact.specs.Reading.{Outcome, Got, Stop}
use Rattle.exact.specs.Promise.{IsRefused}
use Rattle.ev_lex.specs.declared.token.Token.{Token}
use Rattle.sdl_ast.specs.declared.declaration.SdlFile.{SdlFile}
use Rattle.sdl_grammar.specs.Promise.{SchemaText, IsSchema}
use Rattle.sdl_grammar.proofs.Promise as p
use Rattle.eql_parse.specs.Promise.{refusal}

pub same_refusal : (r q : Rule) (j k : ℕ) → refusal r j ≡ refusal q k → (r ≡ q) × (j ≡ k)
same_refusal Unexpected Unexpected j k e = (refl, cc)
same_refusal Unexpected TooDeep j k e = absurd cc
same_refusal TooDeep Unexpected j k e = absurd cc
same_refusal TooDeep TooDeep j k e = (refl, cc)

pub schema_only : (ts : List Token) (file : SdlFile) (rest : List Token) → p.all ts ≡ Got file rest → (other : SdlFile) → IsSchema ts other → file ≡ other
schema_only ts file rest e other is = p.one_tree ts file other (p.found ts file rest e) is

pub schema_kept : (ts : List Token) (file : SdlFile) (rest : List Token) → p.all ts ≡ Got file rest → (rule : Rule) (k : ℕ) → IsRefused SchemaText ts rule k → ⊥
schema_kept ts file rest e rule k r = p.schema_not_refused ts rule k file (p.found ts file rest e) r

pub no_schema : (ts : List Token) (rule : Rule) (rest : List Token) → p.all ts ≡ Stop rule rest → (file : SdlFile) → IsSchema ts file → ⊥
no_schema ts rule rest e file is = let bad : ◌≡◌ {A = Outcome Token SdlFile} (Stop rule rest) (Got file []) = sym e ∙ p.only ts file is in absurd cc
