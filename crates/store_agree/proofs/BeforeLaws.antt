-- Expressions that see some computed pointers alone.
use Rattle.std.proofs.Common.{◌≡◌, IsTrue, Bool, true, Option, Some, None, List, [], ◌∷◌, refl}
use Rattle.ev_value.specs.Item.{EachValue}
use Rattle.ev_value.specs.declared.args.Args.{Args}
use Rattle.ev_value.specs.declared.item.Item.{Item}
use Rattle.ev_value.specs.declared.item.Item.TheVariants as it
use Rattle.ev_value.specs.declared.value.Val.{Val}
use Rattle.ev_value.proofs.Items.{bind_same}
use Rattle.core_ir.specs.declared.path.PtrId.{PtrId}
use Rattle.core_ir.specs.declared.path.Step.{Step}
use Rattle.core_ir.specs.declared.path.Step.TheVariants as step
use Rattle.ev_schema.specs.declared.schema.Schema.{Schema}
use Rattle.db_store.specs.declared.object.Object.{Object}
use Rattle.eql_sem.specs.declared.binding.Bound.{Bound}
use Rattle.eql_sem.specs.declared.binding.Bound.TheVariants as bound
use Rattle.eql_world.specs.StoreWorld.{Computes, stepped, world_where}
use Rattle.eql_sem.specs.Operations.{elements_of}
use Rattle.eql_agree.specs.Kinds.{Each, components_of}
use Rattle.eql_agree.specs.Agreeing.{IfThere}
use Rattle.eql_agree.specs.Uniform.{IsClosed, BoundIn, AgreeOn}
use Rattle.eql_agree.proofs.Anything.{any_literals}
use Rattle.eql_agree.proofs.OneKind.{agreeing_worlds_give_the_same}
use Rattle.store_agree.specs.Before.{is_known, known_alone, ComputedAreAskedFor}

each_any : (vs : List Val) → Each (λ (v : Val). IsTrue true) vs
each_any [] = tt
each_any (v ∷ vs) = (refl, each_any vs)

each_item : (xs : List (Item Val)) → EachValue (λ (v : Val). IsTrue true) xs
each_item [] = tt
each_item (it.Value v ∷ xs) = (refl, each_item xs)
each_item (it.Fault e ∷ xs) = each_item xs

if_any : (o : Option Val) → IfThere (λ (v : Val). IsTrue true) o
if_any None = tt
if_any (Some v) = refl

bound_any : (b : List Bound) → Each (BoundIn (λ (v : Val). true)) b
bound_any [] = tt
bound_any (bound.Nothing ∷ b) = (tt, bound_any b)
bound_any (bound.One v ∷ b) = (refl, bound_any b)
bound_any (bound.Listed vs ∷ b) = (each_any vs, bound_any b)

closed : IsClosed (λ (v : Val). true)
closed = record { ints = λ z. refl; texts = λ s. refl; truths = λ b. refl; ids = λ n. refl; tuples = λ vs h. refl; components = λ v h. each_any (components_of v); arrays = λ v a h. refl; elements = λ v h. each_any (elements_of v) }

module _ (s : Schema) (os : List Object) (args : Args) (known : PtrId → Bool) (f g : Computes) (same : (p : PtrId) (v : Val) → IsTrue (known p) → f p v ≡ g p v) where
  step_same : (t : Step) (xs : List (Item Val)) → IsTrue (is_known known t) → stepped s os args f t xs ≡ stepped s os args g t xs
  step_same (step.Comp p) xs h = bind_same xs (f p) (g p) (λ v. same p v h)
  step_same (step.Prop p) xs h = refl
  step_same (step.Link p) xs h = refl
  step_same (step.Back p t) xs h = refl
  step_same (step.Is t) xs h = refl
  step_same (step.LinkProp n) xs h = refl
  step_same (step.Dot n) xs h = refl
  step_same (step.BackDot n t) xs h = refl

  agree : AgreeOn (λ (v : Val). true) (known_alone known) (world_where s os args f) (world_where s os args g)
  agree = record {
    extents = λ t a. (refl, each_any ((world_where s os args f).extent t));
    steps = λ t xs a r. (step_same t xs a, each_item (stepped s os args f t xs));
    properties = λ l n x y a b p q. (refl, each_any ((world_where s os args f).link_property l n x y));
    params = λ n. (refl, if_any ((world_where s os args f).param n));
    globals = λ n. (refl, if_any ((world_where s os args f).global n));
  }

pub computed_are_asked_for : ComputedAreAskedFor
computed_are_asked_for = record {
  same_values = λ s os args known f g same x os' ns b.
      (agreeing_worlds_give_the_same.same_values (λ (v : Val). true) (known_alone known) (world_where s os args f) (world_where s os args g) closed (agree s os args known f g same) x os' (any_literals (λ (v : Val). true) (λ v. refl) x) ns b (bound_any b)).0;
  same_items = λ s os args known f g same x os' ns b.
      (agreeing_worlds_give_the_same.same_items (λ (v : Val). true) (known_alone known) (world_where s os args f) (world_where s os args g) closed (agree s os args known f g same) x os' (any_literals (λ (v : Val). true) (λ v. refl) x) ns b (bound_any b)).0;
}
