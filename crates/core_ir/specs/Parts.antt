-- The occurrences of lists of parts and of the parts of a choice.
use Rattle.std.specs.Prelude.{List, [], ◌++◌, Option, Some, None, flat_map}
use Rattle.core_ir.specs.declared.tree.Occurrence.{Occurrence}
use Rattle.core_ir.specs.declared.tree.Scope.{Scope}
use Rattle.core_ir.specs.declared.tree.Alias.{Alias}
use Rattle.core_ir.specs.declared.tree.Element.{Element}
use Rattle.core_ir.specs.declared.tree.Order.{Order}
use Rattle.core_ir.specs.declared.tree.Order.TheVariants as order
use Rattle.core_ir.specs.declared.tree.Select.{Select, out-Select}
use Rattle.core_ir.specs.Occurrences.{all, all_of_key}

-- the parts of a choice in the order of the text
abbrev pub in_order : {A : Type 0} → Order → List A → List A → List A → List A
in_order order.ValueFirst condition value other = value ++ condition ++ other
in_order order.ConditionFirst condition value other = condition ++ value ++ other

abbrev pub all_in : Scope → List Occurrence
all_in s = all s.body

abbrev pub all_of_alias : Alias → List Occurrence
all_of_alias a = all a.value.body

abbrev pub all_of_element : Element → List Occurrence
all_of_element x = all x.value.body

-- the occurrences of a clause that may be absent
abbrev pub all_if_there : Option Scope → List Occurrence
all_if_there None = []
all_if_there (Some s) = all s.body

-- the occurrences inside a statement's own scope
abbrev pub all_of_rows : Select → List Occurrence
all_of_rows s = all (out-Select s).subject ++ all_if_there (out-Select s).filter ++ flat_map all_of_key (out-Select s).keys
