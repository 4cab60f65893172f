-- What is promised of the reader of schemas.
use Rattle.std.proofs.Common.{◌≡◌, ℕ, suc, ◌+◌, ◌-◌, ◌≤◌, true, false, List, [], length, inl, inr, refl, arith}
use Rattle.exact.specs.declared.rule.Rule.{Rule}
use Rattle.exact.specs.declared.rule.Rule.TheVariants.{Unexpected, TooDeep}
use Rattle.exact.specs.Language.{Lang}
use Rattle.exact.specs.Reading.{Outcome, Reader, Got, Stop, whole}
use Rattle.exact.specs.Promise.{Any, IsRefused, Ended}
use Rattle.exact.proofs.Exact.{IsExact}
use Rattle.exact.proofs.Laws.{Grows, Loosens, Open, IsExactAt}
use Rattle.exact.proofs.Whole.{one_value_alone, whole_found, whole_only, whole_refused, whole_left, refused_once, spelled_not_refused, any_loosens}
use Rattle.ev_lex.specs.declared.token.Token.{Token}
use Rattle.sdl_ast.specs.declared.declaration.SdlFile.{SdlFile}
use Rattle.eql_grammar.specs.declared.limits.TheConstants.{MAX_OPEN}
use Rattle.eql_grammar.specs.Trees.{too_high, unlimited}
use Rattle.eql_grammar.specs.Grammar as queries
use Rattle.eql_grammar.specs.Readers as query_readers
use Rattle.eql_grammar.proofs.Levels.{within_known}
use Rattle.sdl_grammar.specs.Grammar as g
use Rattle.sdl_grammar.specs.Readers as r
use Rattle.sdl_grammar.specs.Promise.{SchemaText, IsSchema, IsRead}
use Rattle.sdl_grammar.proofs.Files.{exact_file}

-- the reader of a file, and of all of the tokens
unfoldable pub file : Reader Token SdlFile
file = r.file too_high r.text_expr

unfoldable pub all : Reader Token SdlFile
all = whole (λ _. false) file

-- what is spelled with so many more parts open in an expression than may be
Filing : ℕ → Lang Token SdlFile
Filing spare = g.File too_high (queries.within too_high spare MAX_OPEN).expr

filing_is : (spare more : ℕ) → IsExactAt Open (Filing spare) (g.File unlimited (queries.within unlimited 0 (suc (suc (MAX_OPEN + (spare + more))))).expr) file (λ _ _. true)
unfolding Filing file r.text_expr
filing_is spare more = exact_file too_high _ _ _ (within_known too_high spare MAX_OPEN (suc (suc (MAX_OPEN + (spare + more)))) (omega arith)).expr

exact : (spare : ℕ) → IsExact (Filing spare) file (λ _ _. true)
exact spare = (filing_is spare 0).exact tt

pub loosens : Loosens SchemaText
unfolding Filing
loosens = any_loosens Filing (λ spare. (filing_is spare 0).loosens)

-- what passes no limit, with so many parts more than may be open
FreeFile : ℕ → Lang Token SdlFile
FreeFile parts = g.File unlimited (queries.within unlimited 0 (suc (suc (MAX_OPEN + parts)))).expr

free_file : ℕ → Reader Token SdlFile
free_file parts = r.file unlimited (query_readers.within unlimited (suc (suc (MAX_OPEN + parts)))).expr

exact_free : (parts : ℕ) → IsExact (FreeFile parts) (free_file parts) (λ _ _. true)
unfolding FreeFile free_file
exact_free parts = (exact_file unlimited _ _ _ (within_known unlimited 0 (suc (suc (MAX_OPEN + parts))) (suc (suc (suc (suc (MAX_OPEN + parts))))) (omega arith)).expr).exact tt

grows : (spare more : ℕ) → Grows (Filing spare) (FreeFile (spare + more))
unfolding FreeFile
grows spare more = (filing_is spare more).grows

-- Each text spells at most one file, whatever limits it passes.
pub one_file : (ts : List Token) (x y : SdlFile) → SchemaText 0 ts x → SchemaText 0 ts y → x ≡ y
unfolding Filing
one_file ts x y l m = one_value_alone FreeFile free_file (λ _ _. true) exact_free Filing grows 0 0 ts x y l m

-- Each text is refused at most at one token, for one reason, and not at all where it is a schema.
pub one_refusal : (ts : List Token) (one other : Rule) (j k : ℕ) → IsRefused SchemaText ts one j → IsRefused SchemaText ts other k → (one ≡ other) × (j ≡ k)
one_refusal ts = refused_once SchemaText loosens ts

pub schema_not_refused : (ts : List Token) (rule : Rule) (k : ℕ) (x : SdlFile) → IsSchema ts x → IsRefused SchemaText ts rule k → ⊥
schema_not_refused ts = spelled_not_refused SchemaText loosens ts

-- Each text spells at most one tree.
pub one_tree : (ts : List Token) (x y : SdlFile) → IsSchema ts x → IsSchema ts y → x ≡ y
one_tree ts x y a b = one_file ts x y (loosens 0 (suc (length ts)) ts x (omega arith) a) (loosens 0 (suc (length ts)) ts y (omega arith) b)

-- ---- the text and its end, behind which nothing is too high

EndedText : Lang Token SdlFile
EndedText = Any (λ spare. Ended (λ _. false) (Filing spare))

to_ended : (n : ℕ) (ts : List Token) (x : SdlFile) → SchemaText n ts x → EndedText n ts x
unfolding EndedText Filing
to_ended n ts x l = (l.0, (l.1, λ _. refl))

from_ended : (n : ℕ) (ts : List Token) (x : SdlFile) → EndedText n ts x → SchemaText n ts x
unfolding EndedText Filing
from_ended n ts x l = (l.0, l.1.0)

refused_too : (ts : List Token) (rule : Rule) (k : ℕ) → IsRefused EndedText ts rule k → IsRefused SchemaText ts rule k
refused_too ts Unexpected k a = (a.0, (λ s x l same. a.1 s x (to_ended 0 s x l) same), (a.2.0, a.2.1, from_ended k a.2.0 a.2.1 a.2.2, a.2.3))
refused_too ts TooDeep k a = (a.0, (λ s x l same. a.1 s x (to_ended (suc k) s x l) same), (a.2.0, a.2.1, from_ended k a.2.0 a.2.1 a.2.2, a.2.3))

pub found : (ts : List Token) (x : SdlFile) (rest : List Token) → all ts ≡ Got x rest → IsSchema ts x
unfolding all EndedText
found ts x rest e = from_ended (suc (length ts)) ts x (whole_found Filing file (λ _ _. true) exact (λ _. false) ts x rest e)

pub only : (ts : List Token) (x : SdlFile) → IsSchema ts x → all ts ≡ Got x []
unfolding all EndedText
only ts x l = whole_only Filing file (λ _ _. true) exact (λ _. false) ts x (to_ended (suc (length ts)) ts x l)

pub refused : (ts : List Token) (rule : Rule) (rest : List Token) → all ts ≡ Stop rule rest → (k : ℕ) → k + length rest ≡ length ts → IsRefused SchemaText ts rule k
unfolding all EndedText
refused ts rule rest e k place = refused_too ts rule k (whole_refused Filing file (λ _ _. true) exact (λ _. false) ts rule rest e k place)

pub left_over : (ts : List Token) (rule : Rule) (rest : List Token) → all ts ≡ Stop rule rest → length rest ≤ length ts
unfolding all
left_over = whole_left Filing file (λ _ _. true) exact (λ _. false)

-- Each text spells a schema, or is refused.
pub each_text : (ts : List Token) → IsRead ts
each_text ts = by_outcome (all ts) refl where
  by_outcome : (o : Outcome Token SdlFile) → all ts ≡ o → IsRead ts
  by_outcome (Got tree rest) e = inl (tree, found ts tree rest e)
  by_outcome (Stop rule rest) e =
      let token = length ts - length rest in
      inr (rule, token, refused ts rule rest e token (omega (arith, left_over ts rule rest e)))
