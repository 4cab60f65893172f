-- Items with their forms.
use Rattle.std.specs.Prelude.{List, [], ◌∷◌}
use Rattle.ev_value.specs.Item.{bind, one}
use Rattle.ev_value.specs.declared.item.Item.{Item}
use Rattle.ev_value.specs.declared.value.Val.{Val}
use Rattle.ev_value.specs.declared.value.Val as val
use Rattle.eql_sem.specs.declared.binding.Bound.{Bound}
use Rattle.eql_sem.specs.declared.binding.Bound.TheVariants as bound
use Rattle.eql_sem.specs.declared.form.Form as form
use Rattle.eql_sem.specs.declared.form.Form.{Form}
use Rattle.eql_sem.specs.declared.form.Form.TheVariants as made
use Rattle.eql_sem.specs.declared.form.FormField.{FormField}
use Rattle.eql_sem.specs.declared.form.Formed.{Formed}
use Rattle.eql_sem.specs.declared.binding.Name.{Name}
use Rattle.eql_sem.specs.declared.binding.Name.TheVariants as name
use Rattle.core_ir.specs.declared.path.Root.{Root}
use Rattle.core_ir.specs.Path.{root_path}

unfoldable mutual
  -- the form of a value: of a tuple the forms of its components, of any other the value itself
  pub form_of : Val → Form
  form_of (val.Tuple' _ parts) = made.Tuple (forms_in parts)
  form_of v = made.Value v

  -- the forms of components
  pub forms_in : {m : _} → val.Row_of-Val m → List Form
  forms_in val.end_of-Val = []
  forms_in (val.more_of-Val v rest) = form_of v ∷ forms_in rest

-- a value with its own form
abbrev pub bare : Val → Formed
bare v = record { value = v; form = form_of v }

-- items without their forms
abbrev pub strip : List (Item Formed) → List (Item Val)
strip xs = bind xs (λ x. one x.value)

-- items with their values' own forms
abbrev pub dress : List (Item Val) → List (Item Formed)
dress xs = bind xs (λ v. one (bare v))

-- the forms of items, without their values
abbrev pub forms_only : List (Item Formed) → List (Item Form)
forms_only xs = bind xs (λ x. one x.form)

-- a value with each of several forms
abbrev pub with_forms : Val → List (Item Form) → List (Item Formed)
with_forms v fs = bind fs (λ f. one (record { value = v; form = f }))

-- the tuples of components' forms
abbrev pub tuple_forms : List (Item (List Form)) → List (Item Form)
tuple_forms parts = bind parts (λ fs. one (made.Tuple fs))

-- the shapes of fields
abbrev pub shape_forms : List (Item (List FormField)) → List (Item Form)
shape_forms parts = bind parts (λ fs. one (made.Shape fs))

-- the root with a number, as the name that it is bound by
abbrev pub name_of_root : Root → Name
name_of_root r = name.Prefix (root_path r)

-- what the subject of a shape is bound to, by the form of its object: a form that is no value is never one's
abbrev pub subject_of : Form → Bound
subject_of (form.Value v) = bound.One v
subject_of _ = bound.Nothing
