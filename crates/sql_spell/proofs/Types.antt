-- The tokens of a type spell it.
use Rattle.std.proofs.Common.{◌≡◌, ℕ, zero, suc, ◌≤◌, max, List, [], ◌∷◌, ◌++◌, refl, sym, ap, ◌∙◌, append_assoc, append-nil, arith}
use Rattle.std.proofs.Math.Dec.{eqb-suc-zero}
use Rattle.sql_lex.specs.declared.keyword.Keyword.TheVariants as keyword
use Rattle.sql_lex.specs.declared.token.Sign.TheVariants as sign
use Rattle.sql_lex.specs.declared.token.TokenKind.{TokenKind}
use Rattle.sql_lex.specs.declared.token.TokenKind.TheVariants as kind
use Rattle.ev_value.specs.declared.value.ScalarTy.{ScalarTy}
use Rattle.ev_value.specs.declared.value.ScalarTy.TheVariants as scalar
use Rattle.sql_ast.specs.declared.ty.SqlTy as t
use Rattle.sql_ast.specs.declared.ty.SqlTy.{SqlTy, Row_of-SqlTy, end_of-SqlTy, more_of-SqlTy}
use Rattle.sql_ast.specs.declared.ty.SqlTy.TheVariants as ty
use Rattle.sql_ast.specs.Nesting.{type_height, types_height}
use Rattle.sql_grammar.specs.declared.grown.GrownTy.{GrownTy}
use Rattle.sql_grammar.specs.declared.grown.Types.{Types}
use Rattle.sql_grammar.specs.declared.limits.TheConstants.{MAX_HEIGHT}
use Rattle.sql_grammar.specs.Trees.{too_high, scalar_ty, no_types, first_type, added_type, row_ty, array_ty}
use Rattle.sql_grammar.specs.Words.{class_of, sign_of, scalar_of}
use Rattle.sql_grammar.specs.Grammar as g
use Rattle.sql_print.specs.Marks.{in_parens, name_of_scalar}
use Rattle.sql_print.specs.Printed.{tokens_of_ty, tokens_of_types, further_types}
use Rattle.exact.specs.Language.{One, Empty, Chain, ◌>>=◌, ◌>>◌}
use Rattle.sql_spell.proofs.Spelling.{Spelt, Anything, spelt_empty, spelt_then, spelt_end, spelt_left, spelt_right, spelt_as, spelt_stop, spelt_turn, spelt_within, spelt_sign, spelt_word, spelt_kind}
use Rattle.sql_spell.proofs.Shapes.{types_in, row_ty_is, array_ty_is}
use Rattle.sql_spell.proofs.Heights.{above_low, max_apart, max_left, max_right}

-- what may stand in a part where so many more may be open
abbrev pub inner_of : ℕ → g.Inner
inner_of zero = g.beyond too_high 0
inner_of (suc d) = g.within too_high 0 d

pub part_ty : (d : ℕ) {P : GrownTy → Type 0} {ks : List TokenKind} → Spelt (g.Ty d too_high (inner_of d)) P ks → Spelt (g.within too_high 0 d).ty P ks
unfolding g.within
part_ty zero l = l
part_ty (suc d) l = l

-- a parenthesis where one more part may be open
pub open_paren : (d : ℕ) → Spelt (g.Opening (suc d) too_high (inner_of (suc d))) Anything (kind.Sign sign.LeftParen ∷ [])
open_paren d = spelt_within (eqb-suc-zero d) (spelt_sign sign.LeftParen)

pub close_paren : Spelt (One (sign_of sign.RightParen)) Anything (kind.Sign sign.RightParen ∷ [])
close_paren = spelt_sign sign.RightParen

spelt_scalar : (s : ScalarTy) → Spelt (One scalar_of) (λ a. a ≡ s) (kind.Word (name_of_scalar s) ∷ [])
unfolding class_of
spelt_scalar scalar.Int64 = spelt_kind (kind.Word keyword.Int) (λ _. scalar.Int64) (λ _. refl) (λ _. refl)
spelt_scalar scalar.Str = spelt_kind (kind.Word keyword.Text) (λ _. scalar.Str) (λ _. refl) (λ _. refl)
spelt_scalar scalar.Bool = spelt_kind (kind.Word keyword.Bool) (λ _. scalar.Bool) (λ _. refl) (λ _. refl)
spelt_scalar scalar.Uuid = spelt_kind (kind.Word keyword.Uuid) (λ _. scalar.Uuid) (λ _. refl) (λ _. refl)

-- what was read is the type, with its height
abbrev pub IsTy : SqlTy → GrownTy → Type 0
IsTy t y = (y.ty ≡ t) × (y.height ≡ type_height t)

abbrev AreTypes : List SqlTy → ℕ → Types → Type 0
AreTypes ts h all = (all.items ≡ ts) × (all.height ≡ h)

mutual
  unfolding tokens_of_ty type_height

  pub type_spelt : (t : SqlTy) (d : ℕ) → type_height t ≤ d → type_height t ≤ MAX_HEIGHT → Spelt (g.Ty d too_high (inner_of d)) (IsTy t) (tokens_of_ty t)
  type_spelt (t.Scalar s) d fits low = spelt_left _ (spelt_end (spelt_scalar s) (λ a is. spelt_empty (scalar_ty a) (ap ty.Scalar is, refl)))
  type_spelt (t.Row' s parts) zero fits low = absurd (omega arith)
  type_spelt (t.Row' s parts) (suc d) fits low =
      spelt_right _ (spelt_left _ (spelt_then (spelt_word keyword.Row) (λ _ _. spelt_end (types_within parts d (omega arith) (omega arith))
      (λ all is. spelt_empty (row_ty all) (ap ty.Row is.0 ∙ sym (row_ty_is s parts), above_low all.height (rw is.1 (omega arith)) ∙ ap suc is.1)))))
  type_spelt (t.Array' s (more_of-SqlTy element end_of-SqlTy)) zero fits low = absurd (omega arith)
  type_spelt (t.Array' s (more_of-SqlTy element end_of-SqlTy)) (suc d) fits low =
      spelt_right _ (spelt_right _ (spelt_then (spelt_word keyword.Array) (λ _ _. spelt_then (open_paren d) (λ _ _. spelt_then (part_ty d (type_spelt element d (omega arith) (omega arith)))
      (λ y is. spelt_end close_paren (λ _ _. spelt_empty (array_ty y) (ap ty.Array is.0 ∙ sym (array_ty_is s element), above_low y.height (rw is.1 (omega arith)) ∙ ap suc is.1)))))))

  types_within : {m : _} → (parts : Row_of-SqlTy m) (d : ℕ) → types_height parts ≤ d → types_height parts ≤ MAX_HEIGHT
      → Spelt (g.TypesWithin (suc d) too_high (inner_of (suc d))) (AreTypes (types_in parts) (types_height parts)) (in_parens (tokens_of_types parts))
  types_within end_of-SqlTy d fits low = spelt_then (open_paren d) (λ _ _. spelt_left _ (spelt_end close_paren (λ _ _. spelt_empty no_types (refl, refl))))
  types_within (more_of-SqlTy first more) d fits low =
      spelt_then (open_paren d) (λ _ _. spelt_right _ (spelt_then (spelt_then (part_ty d (type_spelt first d (max_left _ _ _ fits) (max_left _ _ _ low)))
      (λ x is. spelt_as (λ r got. (got.0 ∙ (λ i. is.0 i ∷ types_in more), got.1 ∙ ap (λ h. max h (types_height more)) is.1)) (types_further more d (max_right _ _ _ fits) (max_right _ _ _ low) (first_type x))))
      (λ all is. spelt_end close_paren (λ _ _. spelt_empty all is))))

  types_further : {m : _} → (more : Row_of-SqlTy m) (d : ℕ) → types_height more ≤ d → types_height more ≤ MAX_HEIGHT → (all : Types)
      → Spelt (Chain (λ all. One (sign_of sign.Comma) >> ((g.within too_high 0 d).ty >>= λ x. Empty (added_type all x))) all) (AreTypes (all.items ++ types_in more) (max all.height (types_height more))) (further_types more)
  types_further end_of-SqlTy d fits low all = spelt_stop all (sym (append-nil all.items), omega arith)
  types_further (more_of-SqlTy first more) d fits low all =
      spelt_turn (spelt_then (spelt_sign sign.Comma) (λ _ _. spelt_end (part_ty d (type_spelt first d (max_left _ _ _ fits) (max_left _ _ _ low)))
      (λ x is. spelt_empty {P = AreTypes (all.items ++ first ∷ []) (max all.height (type_height first))} (added_type all x) ((λ i. all.items ++ is.0 i ∷ []), (λ i. max all.height (is.1 i))))))
      (λ b so. spelt_as (λ r got. (got.0 ∙ ap (λ l. l ++ types_in more) so.0 ∙ append_assoc all.items (first ∷ []) (types_in more), got.1 ∙ ap (λ h. max h (types_height more)) so.1 ∙ max_apart all.height (type_height first) (types_height more)))
      (types_further more d (max_right _ _ _ fits) (max_right _ _ _ low) b))
