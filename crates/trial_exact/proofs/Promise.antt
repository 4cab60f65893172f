-- What is promised of the reader of expressions.
use Rattle.std.proofs.Common.{◌≡◌, ℕ, suc, ◌+◌, ◌≤◌, List, [], length, arith}
use Rattle.exact.specs.declared.rule.Rule.{Rule}
use Rattle.exact.specs.Language.{Lang}
use Rattle.exact.specs.Reading.{Reader, Got, Stop, whole}
use Rattle.exact.specs.Promise.{Spells, IsRefused, Ended}
use Rattle.exact.proofs.Exact.{IsExact}
use Rattle.exact.proofs.Laws.{Grows, Loosens}
use Rattle.exact.proofs.Whole.{one_value_alone, whole_found, whole_only, whole_refused, whole_left, refused_once, any_loosens, ended_loosens}
use Rattle.trial_exact.specs.declared.read.TheConstants.{MAX_OPEN}
use Rattle.trial_exact.specs.declared.token.Token.{Token}
use Rattle.trial_exact.specs.declared.tree.Grown.{Grown}
use Rattle.trial_exact.specs.Trees.{too_high, unlimited}
use Rattle.trial_exact.specs.Grammar as g
use Rattle.trial_exact.specs.Readers as r
use Rattle.trial_exact.specs.Promise.{Text}
use Rattle.trial_exact.proofs.Sets.{go}
use Rattle.trial_exact.proofs.Exact.{within_known}

-- the reader of all of the tokens
unfoldable pub all : Reader Token Grown
all = whole (λ x. too_high x.height) (r.within too_high MAX_OPEN).expr

-- what is spelled with so many more parts open than may be
Expr : ℕ → Lang Token Grown
Expr spare = (g.within too_high spare MAX_OPEN).expr

exact : (spare : ℕ) → IsExact (Expr spare) (r.within too_high MAX_OPEN).expr (λ _. go 5)
unfolding Expr
exact spare = (within_known too_high spare MAX_OPEN (suc (suc (MAX_OPEN + spare))) (omega arith)).expr.exact tt

loosens : Loosens Text
unfolding Expr
loosens = any_loosens (λ spare. Ended (λ x. too_high x.height) (Expr spare)) (λ spare. ended_loosens (λ x. too_high x.height) (Expr spare) (within_known too_high spare MAX_OPEN (suc (suc (MAX_OPEN + spare))) (omega arith)).expr.loosens)

-- what passes no limit, with so many parts more than may be open
Free : ℕ → Lang Token Grown
Free parts = (g.within unlimited 0 (suc (suc (MAX_OPEN + parts)))).expr

free : ℕ → Reader Token Grown
free parts = (r.within unlimited (suc (suc (MAX_OPEN + parts)))).expr

exact_free : (parts : ℕ) → IsExact (Free parts) (free parts) (λ _. go 5)
unfolding Free free
exact_free parts = (within_known unlimited 0 (suc (suc (MAX_OPEN + parts))) (suc (suc (suc (suc (MAX_OPEN + parts))))) (omega arith)).expr.exact tt

grows : (spare more : ℕ) → Grows (Expr spare) (Free (spare + more))
unfolding Expr Free
grows spare more = (within_known too_high spare MAX_OPEN (suc (suc (MAX_OPEN + (spare + more)))) (omega arith)).expr.grows

pub one_tree : (ts : List Token) (x y : Grown) → Text 0 ts x → Text 0 ts y → x ≡ y
unfolding Expr
one_tree ts x y l m = one_value_alone Free free (λ _. go 5) exact_free Expr grows 0 0 ts x y (l.0, l.1.0) (m.0, m.1.0)

pub one_refusal : (ts : List Token) (one other : Rule) (j k : ℕ) → IsRefused Text ts one j → IsRefused Text ts other k → (one ≡ other) × (j ≡ k)
one_refusal ts = refused_once Text loosens ts

pub found : (ts : List Token) (x : Grown) (rest : List Token) → all ts ≡ Got x rest → Spells Text ts x
unfolding Expr all
found = whole_found Expr (r.within too_high MAX_OPEN).expr (λ _. go 5) exact (λ x. too_high x.height)

pub only : (ts : List Token) (x : Grown) → Spells Text ts x → all ts ≡ Got x []
unfolding Expr all
only = whole_only Expr (r.within too_high MAX_OPEN).expr (λ _. go 5) exact (λ x. too_high x.height)

pub refused : (ts : List Token) (rule : Rule) (rest : List Token) → all ts ≡ Stop rule rest → (k : ℕ) → k + length rest ≡ length ts → IsRefused Text ts rule k
unfolding Expr all
refused = whole_refused Expr (r.within too_high MAX_OPEN).expr (λ _. go 5) exact (λ x. too_high x.height)

pub left_over : (ts : List Token) (rule : Rule) (rest : List Token) → all ts ≡ Stop rule rest → length rest ≤ length ts
unfolding Expr all
left_over = whole_left Expr (r.within too_high MAX_OPEN).expr (λ _. go 5) exact (λ x. too_high x.height)
