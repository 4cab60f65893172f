use Rattle.std.proofs.Common.{◌≡◌, ◌<◌, ◌≤◌, length, get_or, Some, None, subst, arith}
use Rattle.std.specs.Prelude.{string_bytes}
use Rattle.std.proofs.lemmas.List.{take_rest}
use Rattle.ev_lex.specs.Cut.{IsFirstPiece}
use Rattle.ev_lex.proofs.Closing.{read_piece, read_broken, read_open, read_closed}
use Rattle.ev_lex.proofs.literal.closing.Goals as goal
use Rattle.ev_lex.proofs.literal.closing.Goals.{then-loop-at-test+else-bytes-at, else-loop-at-test}

pub returns-in-None : goal.returns-in-None
returns-in-None c =
    let bytes = c.args.bytes.now in let at = c.loop-at.at in
    read_broken c.args.quote bytes at (string_bytes c.loop-at.text) c.loop-at.invariant c.loop-at-test.true c.if-bytes-at.true
    (subst (λ x. IsFirstPiece c.args.quote x None) (take_rest bytes at) c.in-None.ensures)

pub loop-at-preserved : goal.loop-at-preserved
loop-at-preserved c =
    let bytes = c.args.bytes.now in let at = c.loop-at.at in
    rw c.in_ok-push-in-Some.ensures.bytes
    (read_piece c.args.quote bytes at c.in-Some.len (string_bytes c.loop-at.text) c.in-Some.character c.loop-at.invariant c.loop-at-test.true c.if-bytes-at.true
    (subst (λ x. IsFirstPiece c.args.quote x (Some (c.in-Some.character, c.in-Some.len))) (take_rest bytes at) c.in-Some.ensures))

pub returns-then-at-bytes : goal.returns-then-at-bytes
returns-then-at-bytes c =
    read_open c.args.quote c.args.bytes.now c.loop-at.at (string_bytes c.loop-at.text) c.requires c.loop-at.invariant c.if-at-bytes.true

pub returns : goal.returns
returns c =
    let within : c.loop-at.at ≤ length c.args.bytes.now = c.loop-at.invariant.within in
    let is : (c.loop-at.at < length c.args.bytes.now) × (get_or c.args.bytes.now c.loop-at.at 0 ≡ c.args.quote)
    = elim c.loop-at-test.branch [ then-loop-at-test+else-bytes-at w ↦ (w.loop-at-test.true, w.if-bytes-at.false) | else-loop-at-test w ↦ absurd (c.if-at-bytes.false (omega (arith, w.loop-at-test.false))) ] in
    rw c.new.ensures (read_closed c.args.quote c.args.bytes.now c.loop-at.at (string_bytes c.loop-at.text) c.loop-at.invariant is.0 is.1)
