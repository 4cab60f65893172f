use Rattle.std.proofs.Common.{◌≡◌, ◌<◌, ◌≤◌, length, ap, sym, ◌∙◌, subst}
use Rattle.eql_naming.specs.Forms.{is_empty_set}
use Rattle.eql_naming.proofs.EmptySets.{empty_group, below_one, from_one}
use Rattle.eql_naming.proofs.forms.+is_empty_set.Goals as goal

pub returns-in-Group : goal.returns-in-Group
returns-in-Group t c =
    c.is_empty_set.ensures ∙ ap is_empty_set c.get.ensures ∙ sym (empty_group c.in-Group.field-0 c.in-Group.inner) ∙ ap is_empty_set (sym c.in-Group.is)

pub returns-in-empty : goal.returns-in-empty
returns-in-empty t c =
    below_one c.in-Set.field-0 c.in-Set.elements (subst (λ xs. length xs < 1) c.as_slice.ensures c.in-empty.len_below) ∙ ap is_empty_set (sym c.in-Set.is)

pub returns-in-len1-up : goal.returns-in-len1-up
returns-in-len1-up t c =
    from_one c.in-Set.field-0 c.in-Set.elements (subst (λ xs. 1 ≤ length xs) c.as_slice.ensures c.in-len1-up.len_at_least) ∙ ap is_empty_set (sym c.in-Set.is)
