-- The readers are exact for the grammar.
use Rattle.std.proofs.Common.{◌≡◌, ℕ, zero, suc, ◌+◌, ◌<◌, Bool, true, false, ◌||◌, ◌==◌, [], refl, sym, subst, arith}
use Rattle.std.proofs.Math.Dec.{eqb-suc-zero}
use Rattle.trial_exact.specs.declared.token.Token.{Token}
use Rattle.trial_exact.specs.declared.token.Token.TheVariants as token
use Rattle.trial_exact.specs.declared.token.Sign.TheVariants as sign
use Rattle.trial_exact.specs.declared.tree.Expr.TheVariants as e
use Rattle.trial_exact.specs.declared.tree.Operator.TheVariants as op
use Rattle.trial_exact.specs.declared.tree.Grown.{Grown}
use Rattle.trial_exact.specs.Words.{same_sign, is, sign_of, name_of, int_of}
use Rattle.trial_exact.specs.Trees.{leaf, negated, joined, chosen, collected, unlimited}
use Rattle.trial_exact.specs.Grammar as g
use Rattle.trial_exact.specs.Readers as r
use Rattle.exact.specs.Language.{Lang, Empty, One, OneWithin, Then, Either}
use Rattle.exact.proofs.Heads.{begins_never, begins_one, avoids_begun, Begins, never, begins_then, begins_either, begins_in, avoids_begins, avoids_empty, avoids_either, avoids_none, avoids_chain}
use Rattle.exact.proofs.Exact.{Inhabited}
use Rattle.exact.proofs.Laws.{Mode, Open, Shut, Void, lowered, IsExactAt, exact_void, some_empty, some_one, some_then, some_left, some_right, some_chain, exact_pure, exact_then, exact_map, exact_lead, exact_open, exact_behind, exact_within, exact_choose, exact_chain, exact_items, exact_closed, exact_unread, exact_shut}
use Rattle.trial_exact.proofs.Sets.{avoids_sign, in_starts, go, starts, at_sign, covers_sign, lacks_sign, closes_sign, sign_some, begins_sign, begins_name, begins_int, tighter}

-- What is known of the languages and readers of a level, U being the same with no limit passed.
pub record Known (mode : Mode) (L U : g.Inner) (P : r.Inner) : Type 0 where
  pub expr : IsExactAt mode L.expr U.expr P.expr (λ _. go 5)
  pub coalesce : IsExactAt mode L.coalesce U.coalesce P.coalesce (λ _. go 9)
  pub unary : IsExactAt mode L.unary U.unary P.unary (λ _. never)
  pub begins : Begins starts L.expr

or_right : (a b : Bool) → (a || b) ≡ false → b ≡ false
or_right true b h = absurd cc
or_right false b h = h

module _ (mode : Mode) (depth deep : ℕ) (high : ℕ → Bool) (L U : g.Inner) (P : r.Inner) (h : Known (lowered (depth == 0) mode) L U P) where
  free : (suc deep == 0) ≡ false
  free = eqb-suc-zero deep

  -- ---- brackets

  exact_group : {on : Grown → Token → Bool} → IsExactAt mode (g.Group depth high L) (g.Group (suc deep) unlimited U) (r.group depth high P) on
  unfolding r.group same_sign
  exact_group =
      exact_open (sign_of sign.LeftParen) (token.Sign sign.LeftParen) tt refl free
      (λ _. exact_then h.expr (λ x. exact_behind (sign_of sign.RightParen) (token.Sign sign.RightParen) tt refl refl (λ _. exact_pure x)) (λ x. avoids_sign sign.RightParen refl))

  group_begins : {first : Token → Bool} → first (token.Sign sign.LeftParen) ≡ true → Begins first (g.Group depth high L)
  group_begins l = begins_then (begins_sign sign.LeftParen l)

  exact_filled : {on : Grown → Token → Bool} → IsExactAt (lowered (depth == 0) mode) (g.Filled depth high L) (g.Filled (suc deep) unlimited U) (r.filled depth high P) on
  unfolding r.filled same_sign
  exact_filled =
      exact_then
      (exact_items (is sign.RightBrace) (λ all. refl) (token.Sign sign.Comma) refl h.expr (begins_in (in_starts sign.RightBrace refl) h.begins) (sign_some sign.Comma)
      (closes_sign sign.RightBrace (is sign.Comma) false refl) (at_sign sign.Comma (go 5) false refl) (closes_sign sign.RightBrace (go 5) false refl))
      (λ all. exact_behind (sign_of sign.RightBrace) (token.Sign sign.RightBrace) tt refl refl (λ _. exact_pure (collected all)))
      (λ all. avoids_sign sign.RightBrace refl)

  filled_begins : Begins starts (g.Filled depth high L)
  filled_begins = begins_then (begins_then h.begins)

  exact_braces : {on : Grown → Token → Bool} → IsExactAt mode (g.Braces depth high L) (g.Braces (suc deep) unlimited U) (r.braces depth high P) on
  unfolding r.braces same_sign
  exact_braces =
      exact_open (sign_of sign.LeftBrace) (token.Sign sign.LeftBrace) tt refl free
      (λ _. exact_choose (exact_lead (sign_of sign.RightBrace) (token.Sign sign.RightBrace) tt refl (λ _. exact_pure (leaf (e.Set [])))) exact_filled
      (begins_then (begins_one (sign_of sign.RightBrace) (sign_some sign.RightBrace)))
      (avoids_begins filled_begins (lacks_sign sign.RightBrace starts refl)))

  braces_begin : {first : Token → Bool} → first (token.Sign sign.LeftBrace) ≡ true → Begins first (g.Braces depth high L)
  braces_begin b = begins_then (begins_sign sign.LeftBrace b)

  -- ---- atoms

  Leaf : Lang Token Grown
  Leaf = Either (Then (One int_of) (λ n. Empty (leaf (e.Int n)))) (Then (One name_of) (λ name. Empty (leaf (e.Name name))))

  leaf_begins : {first : Token → Bool} → ((n : ℕ) → first (token.Int n) ≡ true) → ((n : ℕ) → first (token.Name n) ≡ true) → Begins first Leaf
  unfolding Leaf
  leaf_begins i n = begins_either (begins_then (begins_int i)) (begins_then (begins_name n))

  atom_begins : {first : Token → Bool} → first (token.Sign sign.LeftParen) ≡ true → first (token.Sign sign.LeftBrace) ≡ true → ((n : ℕ) → first (token.Int n) ≡ true) → ((n : ℕ) → first (token.Name n) ≡ true) → Begins first (g.Atom depth high L)
  unfolding Leaf
  atom_begins p b i n = begins_either (group_begins p) (begins_either (braces_begin b) (leaf_begins i n))

  exact_atom : {on : Grown → Token → Bool} → IsExactAt mode (g.Atom depth high L) (g.Atom (suc deep) unlimited U) (r.atom depth high P) on
  unfolding r.atom same_sign Leaf
  exact_atom =
      exact_choose exact_group
      (exact_choose exact_braces
      (exact_choose (exact_lead int_of (token.Int 0) 0 refl (λ n. exact_pure (leaf (e.Int n)))) (exact_lead name_of (token.Name 0) 0 refl (λ n. exact_pure (leaf (e.Name n))))
      (begins_then (begins_int (λ n. refl)))
      (avoids_begun (begins_then (begins_name (λ n. refl)))))
      (braces_begin refl)
      (avoids_begun (leaf_begins (λ n. refl) (λ n. refl))))
      (group_begins refl)
      (avoids_begun (begins_either (braces_begin refl) (leaf_begins (λ n. refl) (λ n. refl))))

  -- ---- '-'

  Minus : Lang Token Grown
  Minus = Then (OneWithin (depth == 0) (sign_of sign.Minus)) (λ _. Then L.unary (λ x. Empty (negated x)))

  exact_unary : {on : Grown → Token → Bool} → IsExactAt mode (g.Unary depth high L) (g.Unary (suc deep) unlimited U) (r.unary depth high P) on
  unfolding r.unary same_sign
  exact_unary =
      exact_choose (exact_open (sign_of sign.Minus) (token.Sign sign.Minus) tt refl free (λ _. exact_closed (exact_map negated h.unary))) exact_atom
      (begins_then (begins_sign sign.Minus refl))
      (avoids_begun (atom_begins refl refl (λ n. refl) (λ n. refl)))

  unary_begins : Begins starts (g.Unary depth high L)
  unary_begins = begins_either (begins_then (begins_sign sign.Minus refl)) (atom_begins refl refl (λ n. refl) (λ n. refl))

  -- ---- '??'

  exact_coalesce : IsExactAt mode (g.Coalesce depth high L) (g.Coalesce (suc deep) unlimited U) (r.coalesce depth high P) (λ _. go 9)
  unfolding r.coalesce same_sign
  exact_coalesce =
      exact_then (exact_unary {on = λ _. never})
      (λ left. exact_choose
      (exact_within (sign_of sign.Coalesce) (token.Sign sign.Coalesce) tt refl free (or_right (high left.height) (depth == 0)) (λ _. exact_map (joined op.Coalesce left) h.coalesce))
      (exact_pure left)
      (begins_then (begins_sign sign.Coalesce refl))
      (avoids_empty left (covers_sign sign.Coalesce (go 9) refl)))
      (λ left. avoids_none)

  coalesce_begins : Begins starts (g.Coalesce depth high L)
  coalesce_begins = begins_then unary_begins

  -- ---- '+'

  exact_sum : IsExactAt mode (g.Sum depth high L) (g.Sum (suc deep) unlimited U) (r.sum depth high P) (λ _. go 7)
  unfolding r.sum r.terms same_sign
  exact_sum =
      exact_then exact_coalesce
      (λ first. exact_chain {go = go 7} (λ left. exact_behind (sign_of sign.Plus) (token.Sign sign.Plus) tt refl refl (λ _. exact_map (joined op.Add left) exact_coalesce))
      (λ left. begins_then (begins_sign sign.Plus refl)) (at_sign sign.Plus (go 9) false refl) (covers_sign sign.Plus (go 7) refl) (tighter 7 9 (omega arith)) first)
      (λ first. avoids_chain (λ left. avoids_sign sign.Plus refl) (λ _. tighter 7 9 (omega arith)) first)

  sum_begins : Begins starts (g.Sum depth high L)
  sum_begins = begins_then coalesce_begins

  -- ---- 'if' and 'else'

  exact_choice : IsExactAt mode (g.Choice depth high L) (g.Choice (suc deep) unlimited U) (r.choice depth high P) (λ _. go 5)
  unfolding r.choice r.otherwise same_sign
  exact_choice =
      exact_then exact_sum
      (λ value. exact_choose
      (exact_behind (sign_of sign.If) (token.Sign sign.If) tt refl refl
      (λ _. exact_then exact_sum
      (λ condition. exact_within (sign_of sign.Else) (token.Sign sign.Else) tt refl free (or_right (high condition.height) (depth == 0)) (λ _. exact_map (chosen value condition) h.expr))
      (λ condition. avoids_sign sign.Else refl)))
      (exact_pure value)
      (begins_then (begins_sign sign.If refl))
      (avoids_empty value (covers_sign sign.If (go 5) refl)))
      (λ value. avoids_either (avoids_sign sign.If refl) (avoids_empty value (tighter 5 7 (omega arith))))

  choice_begins : Begins starts (g.Choice depth high L)
  choice_begins = begins_then sum_begins

  pub levels_known : Known mode (g.levels depth high L) (g.levels (suc deep) unlimited U) (r.levels depth high P)
  levels_known = record { expr = exact_choice; coalesce = exact_coalesce; unary = exact_unary; begins = choice_begins }

-- ---- some text of each level

module _ (depth : ℕ) (high : ℕ → Bool) (L : g.Inner) where
  some_unary : Inhabited (g.Unary depth high L)
  some_unary = some_right (some_right (some_right (some_left (some_then (some_one int_of (token.Int 0) 0 refl) (λ n. some_empty (leaf (e.Int n)))))))

  some_coalesce : Inhabited (g.Coalesce depth high L)
  some_coalesce = some_then some_unary (λ left. some_right (some_empty left))

  some_expr : Inhabited (g.Choice depth high L)
  some_expr = some_then (some_then some_coalesce (λ first. some_chain first)) (λ value. some_right (some_empty value))

-- ---- level by level

nothing_known : (U : g.Inner) → Known Void g.nothing U r.nothing
nothing_known U = record { expr = exact_void; coalesce = exact_void; unary = exact_void; begins = begins_never }

unread : (L U : g.Inner) (P : r.Inner) → Known Void L U P → Known Void L U r.nothing
unread L U P k = record { expr = exact_unread k.expr; coalesce = exact_unread k.coalesce; unary = exact_unread k.unary; begins = k.begins }

beyond_known : (high : ℕ → Bool) (spare deep : ℕ) → spare < deep → Known Void (g.beyond high spare) (g.within unlimited 0 deep) r.nothing
unfolding g.beyond g.within
beyond_known high spare zero lt = absurd (omega arith)
beyond_known high zero (suc deep) lt = unread _ _ _ (levels_known Void 0 deep high g.nothing (g.within unlimited 0 deep) r.nothing (nothing_known (g.within unlimited 0 deep)))
beyond_known high (suc spare) (suc deep) lt = unread _ _ _ (levels_known Void 0 deep high (g.beyond high spare) (g.within unlimited 0 deep) r.nothing (beyond_known high spare deep (omega arith)))

-- a part that passes the limit is not read, but has some text
shut_known : (high : ℕ → Bool) (spare deep : ℕ) → spare < deep → Known Shut (g.beyond high spare) (g.within unlimited 0 deep) r.nothing
unfolding g.beyond
shut_known high zero deep lt =
    let k = beyond_known high zero deep lt in
    record { expr = exact_shut (some_expr 0 high g.nothing) k.expr; coalesce = exact_shut (some_coalesce 0 high g.nothing) k.coalesce; unary = exact_shut (some_unary 0 high g.nothing) k.unary; begins = k.begins }
shut_known high (suc spare) deep lt =
    let k = beyond_known high (suc spare) deep lt in
    record {
      expr = exact_shut (some_expr 0 high (g.beyond high spare)) k.expr;
      coalesce = exact_shut (some_coalesce 0 high (g.beyond high spare)) k.coalesce;
      unary = exact_shut (some_unary 0 high (g.beyond high spare)) k.unary;
      begins = k.begins;
    }

pub within_known : (high : ℕ → Bool) (spare depth deep : ℕ) → depth + spare + 1 < deep → Known Open (g.within high spare depth) (g.within unlimited 0 deep) (r.within high depth)
unfolding g.within r.within
within_known high spare depth zero lt = absurd (omega arith)
within_known high spare zero (suc deep) lt = levels_known Open 0 deep high (g.beyond high spare) (g.within unlimited 0 deep) r.nothing (shut_known high spare deep (omega arith))
within_known high spare (suc depth) (suc deep) lt =
    let inner = within_known high spare depth deep (omega arith) in
    levels_known Open (suc depth) deep high (g.within high spare depth) (g.within unlimited 0 deep) (r.within high depth)
    (subst (λ (b : Bool). Known (lowered b Open) (g.within high spare depth) (g.within unlimited 0 deep) (r.within high depth)) (sym (eqb-suc-zero depth)) inner)
