-- The grammar: which tokens spell which expression, with at most so many parts open at once, and nothing behind what is too high.
use Rattle.std.specs.Prelude.{ℕ, zero, suc, Bool, ◌==◌, ◌||◌, []}
use Rattle.trial_exact.specs.declared.token.Token.{Token}
use Rattle.trial_exact.specs.declared.token.Sign.TheVariants as sign
use Rattle.trial_exact.specs.declared.tree.Expr.TheVariants as e
use Rattle.trial_exact.specs.declared.tree.Operator.TheVariants as op
use Rattle.trial_exact.specs.declared.tree.Grown.{Grown}
use Rattle.trial_exact.specs.Words.{sign_of, name_of, int_of}
use Rattle.trial_exact.specs.Trees.{leaf, negated, joined, chosen, alone, added, collected}
use Rattle.exact.specs.Language.{Lang, ◌>>=◌, ◌>>◌, Never, Empty, One, OneWithin, Either, Chain, Items}

-- What may stand in an open part.
pub record Inner : Type 1 where
  pub expr : Lang Token Grown
  pub coalesce : Lang Token Grown
  pub unary : Lang Token Grown

-- `depth` more parts may be open, `high` says which heights are too high, and `inner` is what may stand in an open part.
module _ (depth : ℕ) (high : ℕ → Bool) (inner : Inner) where
  -- '(' Expr ')'
  abbrev pub Group : Lang Token Grown
  Group = do
    OneWithin (depth == 0) (sign_of sign.LeftParen)
    x ← inner.expr
    OneWithin (high x.height) (sign_of sign.RightParen)
    Empty x

  -- Expr {',' Expr} [','] '}'
  abbrev pub Filled : Lang Token Grown
  Filled = do
    all ← Items (λ all. high all.height) (sign_of sign.Comma) inner.expr alone added
    OneWithin (high all.height) (sign_of sign.RightBrace)
    Empty (collected all)

  -- '{' '}' | '{' Filled
  abbrev pub Braces : Lang Token Grown
  Braces = do
    OneWithin (depth == 0) (sign_of sign.LeftBrace)
    Either (One (sign_of sign.RightBrace) >> Empty (leaf (e.Set []))) Filled

  -- Int | Name | Group | Braces
  abbrev pub Atom : Lang Token Grown
  Atom = Either Group (Either Braces (Either (do n ← One int_of; Empty (leaf (e.Int n))) (do name ← One name_of; Empty (leaf (e.Name name)))))

  -- '-' Unary | Atom
  abbrev pub Unary : Lang Token Grown
  Unary = Either (do OneWithin (depth == 0) (sign_of sign.Minus); x ← inner.unary; Empty (negated x)) Atom

  -- Unary ['??' Coalesce]
  abbrev pub Coalesce : Lang Token Grown
  Coalesce = do
    left ← Unary
    Either (do OneWithin (high left.height || (depth == 0)) (sign_of sign.Coalesce); right ← inner.coalesce; Empty (joined op.Coalesce left right)) (Empty left)

  -- Coalesce {'+' Coalesce}, grouped to the left
  abbrev pub Sum : Lang Token Grown
  Sum = do
    first ← Coalesce
    Chain (λ left. do OneWithin (high left.height) (sign_of sign.Plus); right ← Coalesce; Empty (joined op.Add left right)) first

  -- Sum ['if' Sum 'else' Expr]
  abbrev pub Choice : Lang Token Grown
  Choice = do
    value ← Sum
    Either
        (do
          OneWithin (high value.height) (sign_of sign.If)
          condition ← Sum
          OneWithin (high condition.height || (depth == 0)) (sign_of sign.Else)
          other ← inner.expr
          Empty (chosen value condition other))
        (Empty value)

abbrev pub nothing : Inner
nothing = record { expr = Never; coalesce = Never; unary = Never }

abbrev pub levels : ℕ → (ℕ → Bool) → Inner → Inner
levels depth high inner = record { expr = Choice depth high inner; coalesce = Coalesce depth high inner; unary = Unary depth high inner }

-- What may stand in a part that passes the limit, where at most so many more are open in it.
unfoldable pub beyond : (ℕ → Bool) → ℕ → Inner
beyond high zero = levels zero high nothing
beyond high (suc spare) = levels zero high (beyond high spare)

-- What is spelled where `depth` more parts may be open, and at most `spare` more in one that passes this limit.
unfoldable pub within : (ℕ → Bool) → ℕ → ℕ → Inner
within high spare zero = levels zero high (beyond high spare)
within high spare (suc depth) = levels (suc depth) high (within high spare depth)
