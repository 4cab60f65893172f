use Rattle.std.proofs.Common.{◌≡◌, [], ◌∷◌, ◌++◌, true, ap, sym, ◌∙◌, to_z, of_z, w64, rules}
use Rattle.sql_lex.specs.declared.keyword.Keyword.TheVariants as keyword
use Rattle.sql_lex.specs.declared.token.Sign.TheVariants as sign
use Rattle.sql_lex.specs.declared.token.TokenKind.TheVariants.{Word, Name, Int, Sign}
use Rattle.sql_print.specs.Marks.{mark_of, left_level, right_level, operand_level, before, behind, is_loose, opening, closing, held}
use Rattle.sql_print.specs.Printed.{tokens_of_ty, tokens_of_expr, tokens_of_core, tokens_of_item, tokens_of_key}
use Rattle.sql_print.specs.Lists.{listed, listed_cores, tokens_of_column, body_tokens}
use Rattle.sql_print.proofs.Adding.{two, three, four}
use Rattle.sql_print.proofs.Forms.{of_array, of_row, of_part, of_case, of_cast, of_unary, of_binary, of_call, of_all, of_distinct, of_lateral, of_left, of_unnest, of_ascending, of_descending}
use Rattle.sql_print.proofs.tokens.+tokens.Goals as goal

pub add_expr-returns-in_ok-add_cores-in-Array : goal.add_expr-returns-in_ok-add_cores-in-Array
add_expr-returns-in_ok-add_cores-in-Array t c =
    three c.add_sign.result c.args.all.now c.open_form.new.all c.add_cores.new.all c.add_sign.new.all (Word keyword.Array ∷ Sign sign.LeftParen ∷ []) (listed_cores true c.as_slice.result.now) (Sign sign.RightParen ∷ []) _ c.in_ok-open_form-in-Array.ensures c.in_ok-add_cores-in-Array.ensures c.add_sign.ensures
    (ap tokens_of_expr c.in-Array.is ∙ of_array c.in-Array.select ∙ ap (λ l. (Word keyword.Array ∷ Sign sign.LeftParen ∷ []) ++ (listed_cores true l ++ Sign sign.RightParen ∷ [])) (sym c.as_slice.ensures))

pub add_expr-returns-in_ok-add_exprs-in-Row : goal.add_expr-returns-in_ok-add_exprs-in-Row
add_expr-returns-in_ok-add_exprs-in-Row t c =
    three c.add_sign-in-Row.result c.args.all.now c.open_form-in-Row.new.all c.add_exprs.new.all c.add_sign-in-Row.new.all (Word keyword.Row ∷ Sign sign.LeftParen ∷ []) (listed tokens_of_expr true c.as_slice-in-Row.result.now) (Sign sign.RightParen ∷ []) _ c.in_ok-open_form-in-Row.ensures c.in_ok-add_exprs-in-Row.ensures c.add_sign-in-Row.ensures
    (ap tokens_of_expr c.in-Row.is ∙ of_row c.in-Row.parts ∙ ap (λ l. (Word keyword.Row ∷ Sign sign.LeftParen ∷ []) ++ (listed tokens_of_expr true l ++ Sign sign.RightParen ∷ [])) (sym c.as_slice-in-Row.ensures))

pub add_expr-returns-in_ok-add_expr-in-Part : goal.add_expr-returns-in_ok-add_expr-in-Part
add_expr-returns-in_ok-add_expr-in-Part t c =
    let read : to_z w64 (of_z w64 c.in-Part.number) ≡ c.in-Part.number = search rules in
    three c.close_part.result c.args.all.now c.open_form-in-Part.new.all c.add_expr.new.all c.close_part.new.all (Word keyword.Part ∷ Sign sign.LeftParen ∷ []) (tokens_of_expr c.get.result.now) (Sign sign.Comma ∷ Int (to_z w64 (of_z w64 c.in-Part.number)) ∷ Sign sign.RightParen ∷ []) _
    c.in_ok-open_form-in-Part.ensures c.in_ok-add_expr-in-Part.ensures c.close_part.ensures
    (ap tokens_of_expr c.in-Part.is ∙ of_part c.in-Part.row c.in-Part.number ∙ (λ i. (Word keyword.Part ∷ Sign sign.LeftParen ∷ []) ++ (tokens_of_expr (sym c.get.ensures i) ++ Sign sign.Comma ∷ Int (sym read i) ∷ Sign sign.RightParen ∷ [])))

pub add_expr-returns-in_ok-add_condition-in-Case : goal.add_expr-returns-in_ok-add_condition-in-Case
add_expr-returns-in_ok-add_condition-in-Case t c =
    let form = c.in-Case.form in
    two c.add_choices.result c.args.all.now c.add_condition.new.all c.add_choices.new.all
    (Word keyword.Case ∷ Word keyword.When ∷ (tokens_of_expr form.condition ++ Word keyword.Then ∷ [])) (tokens_of_expr form.value ++ Word keyword.Else ∷ (tokens_of_expr form.other ++ Word keyword.End ∷ [])) _
    c.in_ok-add_condition-in-Case.ensures c.add_choices.ensures (ap tokens_of_expr c.in-Case.is ∙ of_case form)

pub add_expr-returns-in_ok-add_expr-in-Cast : goal.add_expr-returns-in_ok-add_expr-in-Cast
add_expr-returns-in_ok-add_expr-in-Cast t c =
    three c.close_cast.result c.args.all.now c.open_form-in-Cast.new.all c.add_expr-in-Cast.new.all c.close_cast.new.all (Word keyword.Cast ∷ Sign sign.LeftParen ∷ []) (tokens_of_expr c.get-in-Cast.result.now) (Word keyword.As ∷ (tokens_of_ty c.in-Cast.ty ++ Sign sign.RightParen ∷ [])) _ c.in_ok-open_form-in-Cast.ensures c.in_ok-add_expr-in-Cast.ensures c.close_cast.ensures
    (ap tokens_of_expr c.in-Cast.is ∙ of_cast c.in-Cast.operand c.in-Cast.ty ∙ ap (λ l. (Word keyword.Cast ∷ Sign sign.LeftParen ∷ []) ++ (tokens_of_expr l ++ Word keyword.As ∷ (tokens_of_ty c.in-Cast.ty ++ Sign sign.RightParen ∷ []))) (sym c.get-in-Cast.ensures))

pub add_expr-returns-in_ok-add_expr-in-Unary : goal.add_expr-returns-in_ok-add_expr-in-Unary
add_expr-returns-in_ok-add_expr-in-Unary t c =
    let operator = c.in-Unary.operator in
    let loose : c.is_loose-loose.result ≡ is_loose (operand_level operator) c.in-Unary.operand = c.is_loose-loose.ensures ∙ (λ i. is_loose (c.operand_level.ensures i) (c.get-in-Unary.ensures i)) in
    three c.close_unary.result c.args.all.now c.open_unary.new.all c.add_expr-in-Unary.new.all c.close_unary.new.all
    (before operator ++ opening c.is_loose-loose.result) (tokens_of_expr c.get-in-Unary-2.result.now) (closing c.is_loose-loose.result ++ behind operator) _
    c.in_ok-open_unary-in-Unary.ensures c.in_ok-add_expr-in-Unary.ensures c.close_unary.ensures
    (ap tokens_of_expr c.in-Unary.is ∙ of_unary operator c.in-Unary.operand
    ∙ (λ i. (before operator ++ opening (sym loose i)) ++ (tokens_of_expr (sym c.get-in-Unary-2.ensures i) ++ (closing (sym loose i) ++ behind operator))))

pub add_expr-returns-in_ok-add_left-in-Binary : goal.add_expr-returns-in_ok-add_left-in-Binary
add_expr-returns-in_ok-add_left-in-Binary t c =
    let form = c.in-Binary.form in let loose = is_loose (left_level form.operator) form.left in
    two c.add_right.result c.args.all.now c.add_left.new.all c.add_right.new.all
    (opening loose ++ (tokens_of_expr form.left ++ (closing loose ++ mark_of form.operator ∷ []))) (held (is_loose (right_level form.operator) form.right) (tokens_of_expr form.right)) _
    c.in_ok-add_left-in-Binary.ensures c.add_right.ensures (ap tokens_of_expr c.in-Binary.is ∙ of_binary form)

pub add_expr-returns-in_ok-add_expr-in-Call : goal.add_expr-returns-in_ok-add_expr-in-Call
add_expr-returns-in_ok-add_expr-in-Call t c =
    three c.add_sign-in-Call.result c.args.all.now c.open_form-in-Call.new.all c.add_expr-in-Call.new.all c.add_sign-in-Call.new.all (Word c.name_of_function.result ∷ Sign sign.LeftParen ∷ []) (tokens_of_expr c.get-in-Call.result.now) (Sign sign.RightParen ∷ []) _ c.in_ok-open_form-in-Call.ensures c.in_ok-add_expr-in-Call.ensures c.add_sign-in-Call.ensures
    (ap tokens_of_expr c.in-Call.is ∙ of_call c.in-Call.called c.in-Call.operand ∙ (λ i. (Word (sym c.name_of_function.ensures i) ∷ Sign sign.LeftParen ∷ []) ++ (tokens_of_expr (sym c.get-in-Call.ensures i) ++ Sign sign.RightParen ∷ [])))

pub add_core-returns-in_ok-add_columns-in-All : goal.add_core-returns-in_ok-add_columns-in-All
add_core-returns-in_ok-add_columns-in-All t c =
    three c.add_body.result c.args.all.now c.add_word.new.all c.add_columns.new.all c.add_body.new.all (Word keyword.Select ∷ []) (listed tokens_of_column true c.as_slice.result.now) (body_tokens c.in-All.body) _
    c.in_ok-add_word-in-All.ensures c.in_ok-add_columns-in-All.ensures c.add_body.ensures
    (ap tokens_of_core c.in-All.is ∙ of_all c.in-All.columns c.in-All.body ∙ ap (λ l. (Word keyword.Select ∷ []) ++ (listed tokens_of_column true l ++ body_tokens c.in-All.body)) (sym c.as_slice.ensures))

pub add_core-returns-in_ok-add_columns-in-Distinct : goal.add_core-returns-in_ok-add_columns-in-Distinct
add_core-returns-in_ok-add_columns-in-Distinct t c =
    four c.add_body-in-Distinct.result c.args.all.now c.add_word-in-Distinct.new.all c.add_word-in-Distinct-2.new.all c.add_columns-in-Distinct.new.all c.add_body-in-Distinct.new.all
    (Word keyword.Select ∷ []) (Word keyword.Distinct ∷ []) (listed tokens_of_column true c.as_slice-in-Distinct.result.now) (body_tokens c.in-Distinct.body) _
    c.in_ok-add_word-in-Distinct.ensures c.in_ok-add_word-in-Distinct-2.ensures c.in_ok-add_columns-in-Distinct.ensures c.add_body-in-Distinct.ensures
    (ap tokens_of_core c.in-Distinct.is ∙ of_distinct c.in-Distinct.columns c.in-Distinct.body
    ∙ ap (λ l. (Word keyword.Select ∷ []) ++ ((Word keyword.Distinct ∷ []) ++ (listed tokens_of_column true l ++ body_tokens c.in-Distinct.body))) (sym c.as_slice-in-Distinct.ensures))

pub add_item-returns-in_ok-add_cores-in-Lateral : goal.add_item-returns-in_ok-add_cores-in-Lateral
add_item-returns-in_ok-add_cores-in-Lateral t c =
    three c.close_item.result c.args.all.now c.open_form.new.all c.add_cores.new.all c.close_item.new.all (Word keyword.Lateral ∷ Sign sign.LeftParen ∷ []) (listed_cores true c.as_slice.result.now) (Sign sign.RightParen ∷ Word keyword.As ∷ Name c.in-Lateral.alias ∷ []) _ c.in_ok-open_form-in-Lateral.ensures c.in_ok-add_cores-in-Lateral.ensures c.close_item.ensures
    (ap tokens_of_item c.in-Lateral.is ∙ of_lateral c.in-Lateral.select c.in-Lateral.alias ∙ ap (λ l. (Word keyword.Lateral ∷ Sign sign.LeftParen ∷ []) ++ (listed_cores true l ++ Sign sign.RightParen ∷ Word keyword.As ∷ Name c.in-Lateral.alias ∷ [])) (sym c.as_slice.ensures))

pub add_item-returns-in_ok-close_item-in-LeftLateral : goal.add_item-returns-in_ok-close_item-in-LeftLateral
add_item-returns-in_ok-close_item-in-LeftLateral t c =
    let alias = c.in-LeftLateral.alias in
    four c.add_on_true.result c.args.all.now c.open_left_join.new.all c.add_cores-in-LeftLateral.new.all c.close_item-in-LeftLateral.new.all c.add_on_true.new.all
    (Word keyword.Left ∷ Word keyword.Join ∷ Word keyword.Lateral ∷ Sign sign.LeftParen ∷ []) (listed_cores true c.as_slice-in-LeftLateral.result.now) (Sign sign.RightParen ∷ Word keyword.As ∷ Name alias ∷ []) (Word keyword.On ∷ Word keyword.True ∷ []) _
    c.in_ok-open_left_join-in-LeftLateral.ensures c.in_ok-add_cores-in-LeftLateral.ensures c.in_ok-close_item-in-LeftLateral.ensures c.add_on_true.ensures
    (ap tokens_of_item c.in-LeftLateral.is ∙ of_left c.in-LeftLateral.select alias
    ∙ ap (λ l. (Word keyword.Left ∷ Word keyword.Join ∷ Word keyword.Lateral ∷ Sign sign.LeftParen ∷ []) ++ (listed_cores true l ++ Sign sign.RightParen ∷ Word keyword.As ∷ Name alias ∷ Word keyword.On ∷ Word keyword.True ∷ [])) (sym c.as_slice-in-LeftLateral.ensures))

pub add_item-returns-in_ok-add_expr-in-Unnest : goal.add_item-returns-in_ok-add_expr-in-Unnest
add_item-returns-in_ok-add_expr-in-Unnest t c =
    three c.close_item-in-Unnest.result c.args.all.now c.open_form-in-Unnest.new.all c.add_expr.new.all c.close_item-in-Unnest.new.all
    (Word keyword.Unnest ∷ Sign sign.LeftParen ∷ []) (tokens_of_expr c.in-Unnest.array) (Sign sign.RightParen ∷ Word keyword.As ∷ Name c.in-Unnest.alias ∷ []) _
    c.in_ok-open_form-in-Unnest.ensures c.in_ok-add_expr-in-Unnest.ensures c.close_item-in-Unnest.ensures
    (ap tokens_of_item c.in-Unnest.is ∙ of_unnest c.in-Unnest.array c.in-Unnest.alias)

pub add_key-returns-in_ok-add_expr-in-Ascending : goal.add_key-returns-in_ok-add_expr-in-Ascending
add_key-returns-in_ok-add_expr-in-Ascending t c =
    two c.close_key.result c.args.all.now c.add_expr.new.all c.close_key.new.all (tokens_of_expr c.in-Ascending.value) (Word keyword.Asc ∷ Word keyword.Nulls ∷ Word c.name_of_absent.result ∷ []) _
    c.in_ok-add_expr-in-Ascending.ensures c.close_key.ensures
    (ap tokens_of_key c.in-Ascending.is ∙ of_ascending c.in-Ascending.value c.in-Ascending.nulls ∙ (λ i. tokens_of_expr c.in-Ascending.value ++ Word keyword.Asc ∷ Word keyword.Nulls ∷ Word (sym c.name_of_absent.ensures i) ∷ []))

pub add_key-returns-in_ok-add_expr-in-Descending : goal.add_key-returns-in_ok-add_expr-in-Descending
add_key-returns-in_ok-add_expr-in-Descending t c =
    two c.close_key-in-Descending.result c.args.all.now c.add_expr-in-Descending.new.all c.close_key-in-Descending.new.all (tokens_of_expr c.in-Descending.value) (Word keyword.Desc ∷ Word keyword.Nulls ∷ Word c.name_of_absent-in-Descending.result ∷ []) _
    c.in_ok-add_expr-in-Descending.ensures c.close_key-in-Descending.ensures
    (ap tokens_of_key c.in-Descending.is ∙ of_descending c.in-Descending.value c.in-Descending.nulls ∙ (λ i. tokens_of_expr c.in-Descending.value ++ Word keyword.Desc ∷ Word keyword.Nulls ∷ Word (sym c.name_of_absent-in-Descending.ensures i) ∷ []))
