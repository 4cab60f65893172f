-- What is said of forms and of arrays, in words of their own.
use Rattle.std.specs.Prelude.{◌≡◌, false, List, map}
use Rattle.ev_value.specs.Item.{has_fault}
use Rattle.ev_value.specs.declared.item.Item.{Item}
use Rattle.ev_value.specs.declared.value.Val.{Val}
use Rattle.ev_value.specs.declared.value.Val.TheVariants as value
use Rattle.core_ir.specs.declared.tree.SetFunction.TheVariants as function
use Rattle.eql_sem.specs.Forms.{form_of}
use Rattle.eql_sem.specs.Operations.{of_set, unpacked}
use Rattle.eql_sem.specs.declared.form.Form.TheVariants as form

-- the form of a tuple is the tuple of its components' forms
abbrev pub TuplesHaveTheirComponentsForms : Type 0
TuplesHaveTheirComponentsForms = (vs : List Val) → form_of (value.Tuple vs) ≡ form.Tuple (map form_of vs)

-- what is packed into one array, without faults, is unpacked as it was, in the same order
abbrev pub PackedIsUnpacked : Type 0
PackedIsUnpacked = (xs : List (Item Val)) → has_fault xs ≡ false → unpacked (of_set function.ArrayAgg xs) ≡ xs
