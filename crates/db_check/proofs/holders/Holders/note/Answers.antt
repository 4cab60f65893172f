use Rattle.std.proofs.Common.{Some, cond, sym, ap, ◌∙◌}
use Rattle.db_check.specs.Holders.{held_by}
use Rattle.db_check.proofs.Notes.{key_test, held_there, held_new}
use Rattle.db_check.proofs.holders.Holders.note.Goals as goal

pub returns-in-Some-clause-held : goal.returns-in-Some-clause-held
returns-in-Some-clause-held c =
    held_there (held_by c.args.self.now) c.args.pointer c.args.value c.args.object c.in-Some.other.now (sym c.in-Some.ensures.value)

pub returns-in_ok-insert-in-None-clause-held : goal.returns-in_ok-insert-in-None-clause-held
returns-in_ok-insert-in-None-clause-held c =
    held_new (held_by c.args.self.now) (held_by (record { map = c.insert.new.self })) c.args.pointer c.args.value c.args.object (sym c.in-None.ensures.value)
    (λ q w. c.in_ok-insert-in-None.ensures.updates.0 (record { pointer = q.0; value = w })
    ∙ ap (λ b. cond b (Some c.args.object) (held_by c.args.self.now q w)) (key_test c.args.pointer.0 q.0 c.args.value w))
