-- The forms so far are those of the components so far.
use Rattle.std.proofs.Common.{◌≡◌, ◌++◌, drop, map}
use Rattle.eql_sem.specs.Forms.{form_of}
use Rattle.eql_sem.proofs.item.+form.Given as goal

abbrev pub invariant-forms_of_parts-loop-part : goal.invariant-forms_of_parts-loop-part
invariant-forms_of_parts-loop-part l = l.all ++ map form_of (drop l.part-index l.parts) ≡ map form_of l.parts
