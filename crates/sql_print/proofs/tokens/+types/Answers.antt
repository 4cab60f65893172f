use Rattle.std.proofs.Common.{[], ◌∷◌, ◌++◌, true, ap, sym, ◌∙◌}
use Rattle.sql_lex.specs.declared.keyword.Keyword.TheVariants as keyword
use Rattle.sql_lex.specs.declared.token.Sign.TheVariants as sign
use Rattle.sql_lex.specs.declared.token.TokenKind.TheVariants.{Word, Sign}
use Rattle.sql_print.specs.Printed.{tokens_of_ty}
use Rattle.sql_print.specs.Lists.{listed}
use Rattle.sql_print.proofs.Adding.{three}
use Rattle.sql_print.proofs.Forms.{of_row_ty, of_array_ty}
use Rattle.sql_print.proofs.tokens.+types.Goals as goal

pub add_ty-returns-in_ok-add_types-in-Row : goal.add_ty-returns-in_ok-add_types-in-Row
add_ty-returns-in_ok-add_types-in-Row t c =
    three c.add_sign.result c.args.all.now c.open_form.new.all c.add_types.new.all c.add_sign.new.all (Word keyword.Row ∷ Sign sign.LeftParen ∷ []) (listed tokens_of_ty true c.as_slice.result.now) (Sign sign.RightParen ∷ []) _ c.in_ok-open_form-in-Row.ensures c.in_ok-add_types-in-Row.ensures c.add_sign.ensures
    (ap tokens_of_ty c.in-Row.is ∙ of_row_ty c.in-Row.parts ∙ ap (λ l. (Word keyword.Row ∷ Sign sign.LeftParen ∷ []) ++ (listed tokens_of_ty true l ++ Sign sign.RightParen ∷ [])) (sym c.as_slice.ensures))

pub add_ty-returns-in_ok-add_ty-in-Array : goal.add_ty-returns-in_ok-add_ty-in-Array
add_ty-returns-in_ok-add_ty-in-Array t c =
    three c.add_sign-in-Array.result c.args.all.now c.open_form-in-Array.new.all c.add_ty.new.all c.add_sign-in-Array.new.all (Word keyword.Array ∷ Sign sign.LeftParen ∷ []) (tokens_of_ty c.get.result.now) (Sign sign.RightParen ∷ []) _ c.in_ok-open_form-in-Array.ensures c.in_ok-add_ty-in-Array.ensures c.add_sign-in-Array.ensures
    (ap tokens_of_ty c.in-Array.is ∙ of_array_ty c.in-Array.element ∙ ap (λ l. (Word keyword.Array ∷ Sign sign.LeftParen ∷ []) ++ (tokens_of_ty l ++ Sign sign.RightParen ∷ [])) (sym c.get.ensures))
