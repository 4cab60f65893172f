-- What the readers of queries and expressions found, in the words of what is promised.
use Rattle.std.proofs.Common.{◌≡◌, ℕ, suc, ◌+◌, ◌-◌, ◌≤◌, ◌<◌, Bool, true, false, List, [], inl, inr, ◌⊎◌, length, take, drop, refl, sym, ap, subst, ◌∙◌, arith}
use Rattle.std.proofs.lemmas.Bool.{cases_lt}
use Rattle.std.proofs.lemmas.List.{length-append, length-take, length-drop, take-append-drop, take-take, take_all, append-nil}
use Rattle.exact.specs.declared.rule.Rule.{Rule}
use Rattle.exact.specs.declared.rule.Rule.TheVariants.{Unexpected, TooDeep}
use Rattle.exact.specs.Language.{Lang}
use Rattle.exact.specs.Reading.{Outcome, Got, Stop}
use Rattle.exact.specs.Promise.{Any, IsRefused, IsPrefix}
use Rattle.exact.proofs.Exact.{IsExact}
use Rattle.exact.proofs.Laws.{Loosens}
use Rattle.exact.proofs.Whole.{prefix_read, any_loosens}
use Rattle.ev_lex.specs.declared.token.Token.{Token}
use Rattle.ast.specs.declared.expression.Expr.{Expr}
use Rattle.ast.specs.declared.statement.Query.{Query}
use Rattle.eql_grammar.specs.declared.grown.GrownExpr.{GrownExpr}
use Rattle.eql_grammar.specs.declared.grown.Asked.{Asked}
use Rattle.eql_grammar.specs.declared.limits.TheConstants.{MAX_OPEN}
use Rattle.eql_grammar.specs.Trees.{too_high, query_of}
use Rattle.eql_grammar.specs.Grammar as g
use Rattle.eql_grammar.specs.Promise.{QueryText, ExprText, IsQuery, IsExprUpTo}
use Rattle.eql_grammar.proofs.Sets.{go}
use Rattle.eql_grammar.proofs.Levels.{within_known}
use Rattle.eql_grammar.proofs.Promise as p
use Rattle.eql_parse.specs.Promise.{refusal, IsTallUpTo, IsExprRefused}
use Rattle.eql_parse.proofs.Eager.{IsEager, Further, Behind}
use Rattle.eql_parse.proofs.EagerExprs.{within_inside}

pub same_refusal : (r q : Rule) (j k : ℕ) → refusal r j ≡ refusal q k → (r ≡ q) × (j ≡ k)
same_refusal Unexpected Unexpected j k e = (refl, cc)
same_refusal Unexpected TooDeep j k e = absurd cc
same_refusal TooDeep Unexpected j k e = absurd cc
same_refusal TooDeep TooDeep j k e = (refl, cc)

-- ---- queries

pub query_found : (ts : List Token) (asked : Asked) (rest : List Token) → p.all ts ≡ Got asked rest → IsQuery ts (query_of asked)
query_found ts asked rest e = (asked, p.found ts asked rest e, refl)

pub query_only : (ts : List Token) (asked : Asked) (rest : List Token) → p.all ts ≡ Got asked rest → (query : Query) → IsQuery ts query → query_of asked ≡ query
query_only ts asked rest e query is = p.one_tree ts (query_of asked) query (query_found ts asked rest e) is

pub query_kept : (ts : List Token) (asked : Asked) (rest : List Token) → p.all ts ≡ Got asked rest → (rule : Rule) (k : ℕ) → IsRefused QueryText ts rule k → ⊥
query_kept ts asked rest e rule k r = p.query_not_refused ts rule k asked (p.found ts asked rest e) r

pub no_query : (ts : List Token) (rule : Rule) (rest : List Token) → p.all ts ≡ Stop rule rest → (query : Query) → IsQuery ts query → ⊥
no_query ts rule rest e query is =
    let read = p.read_query ts query is in
    let bad : ◌≡◌ {A = Outcome Token Asked} (Stop rule rest) (Got read.0 []) = sym e ∙ read.1 in absurd cc

-- ---- expressions

Spelling : ℕ → Lang Token GrownExpr
Spelling spare = (g.within too_high spare MAX_OPEN).expr

exact_expr : (spare : ℕ) → IsExact (Spelling spare) p.expr (λ _. go 11)
unfolding Spelling p.expr
exact_expr spare = (within_known too_high spare MAX_OPEN (suc (suc (MAX_OPEN + spare))) (omega arith)).expr.exact tt

pub expr_left : (ts : List Token) (x : GrownExpr) (rest : List Token) → p.expr ts ≡ Got x rest → length rest ≤ length ts
expr_left ts x rest e = let f = (exact_expr 0).takes ts x rest e in omega (arith, length-append f.front rest, ap length f.parts)

pub expr_stop_left : (ts : List Token) (rule : Rule) (rest : List Token) → p.expr ts ≡ Stop rule rest → length rest ≤ length ts
expr_stop_left ts rule rest e = let f = (exact_expr 0).stops ts rule rest e in omega (arith, length-append f.front rest, ap length f.parts)

expr_loosens : Loosens ExprText
unfolding Spelling
expr_loosens = any_loosens Spelling (λ spare. (within_known too_high spare MAX_OPEN (suc (suc (MAX_OPEN + spare))) (omega arith)).expr.loosens)

eager_expr : IsEager p.expr
unfolding p.expr
eager_expr = (within_inside too_high MAX_OPEN).expr

-- lists that agree before one place agree before an earlier one
agree_before : (j k : ℕ) (s ts : List Token) → j ≤ k → take k s ≡ take k ts → take j s ≡ take j ts
agree_before j k s ts le e = sym (take-take j k s le) ∙ ap (λ (z : List Token). take j z) e ∙ take-take j k ts le

-- A front of the tokens that spells an expression, with which no expression goes on, is read.
module _ (ts : List Token) (x : GrownExpr) (k : ℕ) (is : IsPrefix ExprText ts x k) where
  front_number : length (take k ts) ≡ k
  front_number = let le = is.0 in omega (arith, length-take k ts)

  back_number : k + length (drop k ts) ≡ length ts
  back_number = let le = is.0 in omega (arith, length-drop k ts)

  -- where nothing stands behind it
  alone : p.expr (take k ts) ≡ Got x []
  unfolding Spelling
  alone =
      let l : Any Spelling (length (take k ts)) (take k ts) x = subst (λ (n : ℕ). Any Spelling n (take k ts) x) (sym front_number) is.1 in
      ap p.expr (sym (append-nil (take k ts))) ∙ prefix_read Spelling p.expr (λ _. go 11) exact_expr (take k ts) x [] l refl

  -- no text of the grammar agrees with more tokens
  no_further : (n : ℕ) (s : List Token) (y : GrownExpr) → k < n → k < length ts → ExprText 0 s y → take n s ≡ take n ts → ⊥
  no_further n s y lt more l same = is.2 more s y l (agree_before (suc k) n s ts lt same)

  -- at the end no token is too deep
  not_at_end : (rest : List Token) → p.expr ts ≡ Stop TooDeep rest → length ts ≤ k → ⊥
  not_at_end rest e le =
      let whole : ts ≡ take k ts = sym (take_all k ts le) in
      let bad : ◌≡◌ {A = Outcome Token GrownExpr} (Stop TooDeep rest) (Got x []) = sym e ∙ ap p.expr whole ∙ alone in absurd cc

  not_further : (o : Outcome Token GrownExpr) → p.expr ts ≡ o → Further (drop k ts) o → ⊥
  not_further (Got y rest) e further =
      let lt : length rest < length (drop k ts) = further in
      let same = p.one_expr ts y x (length ts - length rest) k (p.expr_found ts y rest e (length ts - length rest) (omega (arith, back_number))) is in
      let at : length ts - length rest ≡ k = same.1 in
      omega (arith, back_number)
  not_further (Stop Unexpected rest) e further =
      let lt : length rest < length (drop k ts) = further in
      let r = p.expr_refused ts Unexpected rest e (length ts - length rest) (omega (arith, back_number)) in
      no_further (length ts - length rest) r.2.0 r.2.1 (omega (arith, back_number)) (omega (arith, back_number)) (expr_loosens 0 (length ts - length rest) r.2.0 r.2.1 (omega arith) r.2.2) r.2.3
  not_further (Stop TooDeep rest) e further = cases (cases_lt k (length ts))
    where
      le : length rest ≤ length (drop k ts)
      le = further

      cases : (k < length ts) ⊎ (length ts ≤ k) → ⊥
      cases (inl lt) =
          let r = p.expr_refused ts TooDeep rest e (length ts - length rest) (omega (arith, back_number, le)) in
          no_further (suc (length ts - length rest)) r.2.0 r.2.1 (omega (arith, back_number, le)) lt (expr_loosens 0 (length ts - length rest) r.2.0 r.2.1 (omega arith) r.2.2) r.2.3
      cases (inr over) = not_at_end rest e over

  pub prefix_got : p.expr ts ≡ Got x (drop k ts)
  prefix_got = cases (subst (λ (z : List Token). Behind (drop k ts) x (p.expr z)) (take-append-drop k ts) (eager_expr.behind (take k ts) (drop k ts) x alone))
    where
      cases : Behind (drop k ts) x (p.expr ts) → p.expr ts ≡ Got x (drop k ts)
      cases (inl e) = e
      cases (inr further) = absurd (not_further (p.expr ts) refl further)

module _ (ts : List Token) (x : GrownExpr) (rest : List Token) (e : p.expr ts ≡ Got x rest) (k : ℕ) (place : k + length rest ≡ length ts) where
  prefix : IsPrefix ExprText ts x k
  prefix = p.expr_found ts x rest e k place

  pub expr_found : too_high x.height ≡ false → IsExprUpTo ts x.expr k
  expr_found low = (x, prefix, low, refl)

  pub tall_found : too_high x.height ≡ true → IsExprRefused ts TooDeep k
  tall_found tall = inr (refl, (x, prefix, tall))

  same_prefix : (y : GrownExpr) (j : ℕ) → IsPrefix ExprText ts y j → (x ≡ y) × (k ≡ j)
  same_prefix y j is = p.one_expr ts x y k j prefix is

  pub expr_only : (y : Expr) (j : ℕ) → IsExprUpTo ts y j → (x.expr ≡ y) × (k ≡ j)
  expr_only y j is = let same = same_prefix is.0 j is.1 in (ap (λ (z : GrownExpr). z.expr) same.0 ∙ sym is.3, same.1)

  clash : (b : Bool) → b ≡ true → b ≡ false → ⊥
  clash true t f = absurd cc
  clash false t f = absurd cc

  pub not_tall : (y : Expr) (j : ℕ) → IsExprUpTo ts y j → too_high x.height ≡ true → ⊥
  not_tall y j is tall =
      let same = same_prefix is.0 j is.1 in
      clash (too_high x.height) tall (ap (λ (z : GrownExpr). too_high z.height) same.0 ∙ is.2)

  pub not_low : (rule : Rule) (j : ℕ) → IsTallUpTo ts rule j → too_high x.height ≡ false → ⊥
  not_low rule j is low =
      let same = same_prefix is.1.0 j is.1.1 in
      clash (too_high x.height) (ap (λ (z : GrownExpr). too_high z.height) same.0 ∙ is.1.2) low

  pub same_tall : (rule : Rule) (j : ℕ) → IsTallUpTo ts rule j → (TooDeep ≡ rule) × (k ≡ j)
  same_tall rule j is = let same = same_prefix is.1.0 j is.1.1 in (sym is.0, same.1)

  pub no_prefix : ((y : GrownExpr) (j : ℕ) → IsPrefix ExprText ts y j → ⊥) → ⊥
  no_prefix none = none x k prefix

module _ (ts : List Token) (rule : Rule) (rest : List Token) (e : p.expr ts ≡ Stop rule rest) where
  no_got : (y : GrownExpr) (behind : List Token) → p.expr ts ≡ Got y behind → ⊥
  no_got y behind f = let bad : ◌≡◌ {A = Outcome Token GrownExpr} (Stop rule rest) (Got y behind) = sym e ∙ f in absurd cc

  pub no_expr : (y : Expr) (j : ℕ) → IsExprUpTo ts y j → ⊥
  no_expr y j is = no_got is.0 (drop j ts) (prefix_got ts is.0 j is.1)

  pub no_tall : (other : Rule) (j : ℕ) → IsTallUpTo ts other j → ⊥
  no_tall other j is = no_got is.1.0 (drop j ts) (prefix_got ts is.1.0 j is.1.1)

  pub expr_refused : (k : ℕ) → k + length rest ≡ length ts → IsExprRefused ts rule k
  expr_refused k place = inl (p.expr_refused ts rule rest e k place)

  pub same_expr_refusal : (k : ℕ) → k + length rest ≡ length ts → (other : Rule) (j : ℕ) → IsRefused ExprText ts other j → (rule ≡ other) × (k ≡ j)
  same_expr_refusal k place other j r = p.one_expr_refusal ts rule other k j (p.expr_refused ts rule rest e k place) r

pub one_expression : (ts : List Token) (x y : Expr) (j k : ℕ) → IsExprUpTo ts x j → IsExprUpTo ts y k → (x ≡ y) × (j ≡ k)
one_expression ts x y j k a b =
    let same = p.one_expr ts a.0 b.0 j k a.1 b.1 in
    (a.3 ∙ ap (λ (z : GrownExpr). z.expr) same.0 ∙ sym b.3, same.1)

pub one_refusal_apart : (ts : List Token) (x : Query) (r : Rule) (k : ℕ) → IsQuery ts x → IsRefused QueryText ts r k → ⊥
one_refusal_apart ts x r k is refused = p.query_not_refused ts r k is.0 is.1 refused

-- ---- an expression from a number on

module _ (all : List Token) (from : ℕ) (within : from ≤ length all) (start : List Token) (here : start ≡ drop from all) where
  module _ (x : GrownExpr) (rest : List Token) (e : p.expr start ≡ Got x rest) where
    got : p.expr (drop from all) ≡ Got x rest
    got = ap p.expr (sym here) ∙ e

    pub at_left : length rest ≤ length all
    at_left = let le = expr_left (drop from all) x rest got in omega (arith, length-drop from all)

    module _ (n : ℕ) (place : n + length rest ≡ length all) where
      front : (n - from) + length rest ≡ length (drop from all)
      front = let le = expr_left (drop from all) x rest got in omega (arith, length-drop from all)

      number : n ≡ from + (n - from)
      number = let le = expr_left (drop from all) x rest got in omega (arith, length-drop from all)

      pub at_found : too_high x.height ≡ false → (k : ℕ) × (n ≡ from + k) × IsExprUpTo (drop from all) x.expr k
      at_found low = (n - from, number, expr_found (drop from all) x rest got (n - from) front low)

      pub at_tall : too_high x.height ≡ true → (rule : Rule) (token : ℕ) → refusal TooDeep n ≡ refusal rule token → (k : ℕ) × (token ≡ from + k) × IsExprRefused (drop from all) rule k
      at_tall tall rule token same =
          let parts = same_refusal TooDeep rule n token same in
          (n - from, sym parts.1 ∙ number, subst (λ (r : Rule). IsExprRefused (drop from all) r (n - from)) parts.0 (tall_found (drop from all) x rest got (n - from) front tall))

      pub at_only : (y : Expr) (j : ℕ) → IsExprUpTo (drop from all) y j → (x.expr ≡ y) × (n ≡ from + j)
      at_only y j is =
          let same = expr_only (drop from all) x rest got (n - from) front y j is in
          (same.0, number ∙ ap (λ i. from + i) same.1)

      pub at_not_tall : (y : Expr) (j : ℕ) → IsExprUpTo (drop from all) y j → too_high x.height ≡ true → ⊥
      at_not_tall = not_tall (drop from all) x rest got (n - from) front

      pub at_not_low : (rule : Rule) (j : ℕ) → IsTallUpTo (drop from all) rule j → too_high x.height ≡ false → ⊥
      at_not_low = not_low (drop from all) x rest got (n - from) front

      pub at_same_tall : (rule : Rule) (j : ℕ) → IsTallUpTo (drop from all) rule j → refusal TooDeep n ≡ refusal rule (from + j)
      at_same_tall rule j is =
          let same = same_tall (drop from all) x rest got (n - from) front rule j is in
          ap (λ (r : Rule). refusal r n) same.0 ∙ ap (refusal rule) (number ∙ ap (λ i. from + i) same.1)

      pub at_no_prefix : ((y : GrownExpr) (j : ℕ) → IsPrefix ExprText (drop from all) y j → ⊥) → ⊥
      at_no_prefix = no_prefix (drop from all) x rest got (n - from) front

  module _ (rule : Rule) (rest : List Token) (e : p.expr start ≡ Stop rule rest) where
    stop : p.expr (drop from all) ≡ Stop rule rest
    stop = ap p.expr (sym here) ∙ e

    pub at_stop_left : length rest ≤ length all
    at_stop_left = let le = expr_stop_left (drop from all) rule rest stop in omega (arith, length-drop from all)

    pub at_no_expr : (y : Expr) (j : ℕ) → IsExprUpTo (drop from all) y j → ⊥
    at_no_expr = no_expr (drop from all) rule rest stop

    pub at_no_tall : (other : Rule) (j : ℕ) → IsTallUpTo (drop from all) other j → ⊥
    at_no_tall = no_tall (drop from all) rule rest stop

    module _ (n : ℕ) (place : n + length rest ≡ length all) where
      stop_front : (n - from) + length rest ≡ length (drop from all)
      stop_front = let le = expr_stop_left (drop from all) rule rest stop in omega (arith, length-drop from all)

      stop_number : n ≡ from + (n - from)
      stop_number = let le = expr_stop_left (drop from all) rule rest stop in omega (arith, length-drop from all)

      pub at_refused : (other : Rule) (token : ℕ) → refusal rule n ≡ refusal other token → (k : ℕ) × (token ≡ from + k) × IsExprRefused (drop from all) other k
      at_refused other token same =
          let parts = same_refusal rule other n token same in
          (n - from, sym parts.1 ∙ stop_number, subst (λ (r : Rule). IsExprRefused (drop from all) r (n - from)) parts.0 (expr_refused (drop from all) rule rest stop (n - from) stop_front))

      pub at_same_refusal : (other : Rule) (j : ℕ) → IsRefused ExprText (drop from all) other j → refusal rule n ≡ refusal other (from + j)
      at_same_refusal other j r =
          let same = same_expr_refusal (drop from all) rule rest stop (n - from) stop_front other j r in
          ap (λ (w : Rule). refusal w n) same.0 ∙ ap (refusal other) (stop_number ∙ ap (λ i. from + i) same.1)
