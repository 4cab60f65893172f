use Rattle.std.proofs.Common.{drop, get_or, subst}
use Rattle.std.proofs.lemmas.List.{take_rest}
use Rattle.ev_lex.specs.Cut.{IsClosing}
use Rattle.ev_lex.proofs.Cuts.{literal_first, literal_first_none}
use Rattle.ev_lex.proofs.literal.literal.Goals as goal

pub returns-in-None : goal.returns-in-None
returns-in-None c =
    let bytes = c.args.bytes.now in
    literal_first_none bytes c.requires
    (subst (λ o. IsClosing (get_or bytes 0 0) (drop 1 bytes) o) c.in-None.is
    (subst (λ x. IsClosing (get_or bytes 0 0) x c.in_ok-closing.field-0) (take_rest bytes 1) c.in_ok-closing.ensures))

pub returns-in-Some : goal.returns-in-Some
returns-in-Some c =
    let bytes = c.args.bytes.now in
    literal_first bytes c.in-Some.len c.in-Some.text c.requires
    (subst (λ o. IsClosing (get_or bytes 0 0) (drop 1 bytes) o) c.in-Some.is
    (subst (λ x. IsClosing (get_or bytes 0 0) x c.in_ok-closing.field-0) (take_rest bytes 1) c.in_ok-closing.ensures))
