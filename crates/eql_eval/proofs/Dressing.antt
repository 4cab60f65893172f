-- Forms put on and taken off.
use Rattle.std.proofs.Common.{◌≡◌, List, [], ◌∷◌, refl, ap, ◌∙◌}
use Rattle.ev_value.specs.declared.item.Item.{Item}
use Rattle.ev_value.specs.declared.item.Item.TheVariants as item
use Rattle.ev_value.specs.declared.item.Item.TheVariants.{Value}
use Rattle.ev_value.specs.declared.value.Val.{Val}
use Rattle.core_ir.specs.declared.tree.Expr.{Expr}
use Rattle.ev_value.specs.Item.{bind, one}
use Rattle.eql_sem.specs.declared.binding.Bound.{Bound}
use Rattle.eql_sem.specs.declared.binding.Name.{Name}
use Rattle.eql_sem.specs.declared.form.Form.{Form}
use Rattle.eql_sem.specs.declared.form.Formed.{Formed}
use Rattle.eql_sem.specs.Forms.{strip, dress, forms_only}
use Rattle.eql_sem.specs.Meaning.{finish, made}
use Rattle.eql_sem.specs.World.{World}

pub strip_dress : (xs : List (Item Val)) → strip (dress xs) ≡ xs
strip_dress [] = refl
strip_dress (Value v ∷ xs) = ap (λ l. Value v ∷ l) (strip_dress xs)
strip_dress (item.Fault e ∷ xs) = ap (λ l. item.Fault e ∷ l) (strip_dress xs)

with_value_off : (v : Val) (fs : List (Item Form)) → forms_only (bind fs (λ f. one (record { value = v; form = f }))) ≡ fs
with_value_off v [] = refl
with_value_off v (Value f ∷ fs) = ap (λ l. Value f ∷ l) (with_value_off v fs)
with_value_off v (item.Fault e ∷ fs) = ap (λ l. item.Fault e ∷ l) (with_value_off v fs)

pub forms_made : (w : World) (x : Expr) (ns : List Name) (b : List Bound) (i : Formed) → forms_only (made w (finish w x) ns b i) ≡ finish w x ns b i.form
forms_made w x ns b i = with_value_off i.value (finish w x ns b i.form)

pub finished_form_is : (w : World) (x : Expr) (ns : List Name) (b : List Bound) (i : Formed) (f : Form) (found slice : List (Item Formed)) (xs : List (Item Form))
    → found ≡ made w (finish w x) ns b i → slice ≡ found → i.form ≡ f → xs ≡ forms_only slice → xs ≡ finish w x ns b f
finished_form_is w x ns b i f found slice xs is_made is_slice is_form told =
    told ∙ ap forms_only (is_slice ∙ is_made) ∙ forms_made w x ns b i ∙ ap (λ g. finish w x ns b g) is_form
