use Rattle.std.proofs.Common.{drop, subst, sym}
use Rattle.std.proofs.lemmas.List.{take_rest}
use Rattle.std.specs.Str.{IsUtf8}
use Rattle.sql_lex.specs.Cut.{IsClosing}
use Rattle.sql_lex.proofs.Cuts.{text_broken_at}
use Rattle.sql_lex.proofs.literal.literal.Goals as goal

pub returns : goal.returns
returns c =
    let bytes = c.args.bytes.now in
    text_broken_at bytes c.in-Some.inner c.in-Some.at c.requires
    (subst (λ o. IsClosing (drop 1 bytes) o) c.in-Some.is (subst (λ x. IsClosing x c.in_ok-inner.field-0) (take_rest bytes 1) c.in_ok-inner.ensures))
    (λ u. c.in-Err.ensures.cases.0 (subst IsUtf8 (sym c.as_slice.ensures) u))
