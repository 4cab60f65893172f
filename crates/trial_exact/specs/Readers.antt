-- Reading an expression from the left, with one token to look at.
use Rattle.std.specs.Prelude.{ℕ, zero, suc, Bool, ◌==◌, ◌||◌, []}
use Rattle.exact.specs.declared.rule.Rule.TheVariants.{TooDeep}
use Rattle.trial_exact.specs.declared.token.Token.{Token}
use Rattle.trial_exact.specs.declared.token.Sign.TheVariants as sign
use Rattle.trial_exact.specs.declared.tree.Expr.TheVariants as e
use Rattle.trial_exact.specs.declared.tree.Operator.TheVariants as op
use Rattle.trial_exact.specs.declared.tree.Grown.{Grown}
use Rattle.trial_exact.specs.declared.tree.Bunch.{Bunch}
use Rattle.trial_exact.specs.declared.read.Open.{Open}
use Rattle.trial_exact.specs.declared.read.Open.TheVariants as open_
use Rattle.trial_exact.specs.Words.{is, sign_of, name_of, int_of}
use Rattle.trial_exact.specs.Trees.{leaf, negated, joined, chosen, alone, added, collected}
use Rattle.exact.specs.Reading.{Reader, ◌>>=◌, ◌>>◌, pure, refuse, has, one, one_within, choose, chain, item, more_items, items}
use Rattle.exact.specs.Language.{Step}

pub record Inner : Type 0 where
  pub expr : Reader Token Grown
  pub coalesce : Reader Token Grown
  pub unary : Reader Token Grown

module _ (depth : ℕ) (high : ℕ → Bool) (inner : Inner) where
  unfoldable pub group : Reader Token Grown
  group = do
    one_within (depth == 0) (sign_of sign.LeftParen)
    x ← inner.expr
    one_within (high x.height) (sign_of sign.RightParen)
    pure x

  abbrev pub next_item : Bunch → Reader Token (Step Bunch Bunch)
  next_item = item (λ all. high all.height) (is sign.Comma) (sign_of sign.Comma) (is sign.RightBrace) inner.expr added

  unfoldable pub further : Bunch → Reader Token Bunch
  further = more_items (λ all. high all.height) (is sign.Comma) (sign_of sign.Comma) (is sign.RightBrace) inner.expr added

  unfoldable pub filled : Reader Token Grown
  filled = do
    all ← items (λ all. high all.height) (is sign.Comma) (sign_of sign.Comma) (is sign.RightBrace) inner.expr alone added
    one_within (high all.height) (sign_of sign.RightBrace)
    pure (collected all)

  unfoldable pub braces : Reader Token Grown
  braces = do
    one_within (depth == 0) (sign_of sign.LeftBrace)
    choose (is sign.RightBrace) (one (sign_of sign.RightBrace) >> pure (leaf (e.Set []))) filled

  unfoldable pub atom : Reader Token Grown
  atom =
      choose (is sign.LeftParen) group
      (choose (is sign.LeftBrace) braces
      (choose (has int_of) (do n ← one int_of; pure (leaf (e.Int n))) (do name ← one name_of; pure (leaf (e.Name name)))))

  unfoldable pub unary : Reader Token Grown
  unary = choose (is sign.Minus) (do one_within (depth == 0) (sign_of sign.Minus); x ← inner.unary; pure (negated x)) atom

  unfoldable pub coalesce : Reader Token Grown
  coalesce = do
    left ← unary
    choose (is sign.Coalesce) (do one_within (high left.height || (depth == 0)) (sign_of sign.Coalesce); right ← inner.coalesce; pure (joined op.Coalesce left right)) (pure left)

  abbrev pub term : Grown → Reader Token Grown
  term left = do
    one_within (high left.height) (sign_of sign.Plus)
    right ← coalesce
    pure (joined op.Add left right)

  unfoldable pub terms : Grown → Reader Token Grown
  terms first = chain (is sign.Plus) term first

  unfoldable pub sum : Reader Token Grown
  sum = coalesce >>= terms

  unfoldable pub otherwise : Grown → Reader Token Grown
  otherwise value = do
    one_within (high value.height) (sign_of sign.If)
    condition ← sum
    one_within (high condition.height || (depth == 0)) (sign_of sign.Else)
    other ← inner.expr
    pure (chosen value condition other)

  unfoldable pub choice : Reader Token Grown
  choice = do
    value ← sum
    choose (is sign.If) (otherwise value) (pure value)

abbrev pub nothing : Inner
nothing = record { expr = refuse TooDeep; coalesce = refuse TooDeep; unary = refuse TooDeep }

abbrev pub levels : ℕ → (ℕ → Bool) → Inner → Inner
levels depth high inner = record { expr = choice depth high inner; coalesce = coalesce depth high inner; unary = unary depth high inner }

-- What is read where so many more parts may be open.
unfoldable pub within : (ℕ → Bool) → ℕ → Inner
within high zero = levels zero high nothing
within high (suc depth) = levels (suc depth) high (within high depth)

-- What is read in the next open part.
unfoldable pub inside : (ℕ → Bool) → ℕ → Inner
inside high zero = nothing
inside high (suc depth) = within high depth

-- What is read in an open part of this kind.
abbrev pub part_of : Open → Inner → Reader Token Grown
part_of open_.Whole inner = inner.expr
part_of open_.Right inner = inner.coalesce
part_of open_.Operand inner = inner.unary
