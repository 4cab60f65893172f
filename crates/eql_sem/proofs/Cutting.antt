-- What follows for an offset and a limit is made of the range that they ask for.
use Rattle.std.proofs.Common.{◌≡◌, Bool, true, false, cond, ℕ, List, [], ◌++◌, Option, refl, sym, ap, ◌∙◌}
use Rattle.ev_value.proofs.Items.{bind_append, bind_assoc, bind_one, bind_same, bind_only_faults}
use Rattle.ev_value.specs.Item.{bind, both, has_fault, faults, only_faults}
use Rattle.ev_value.specs.declared.item.Fault.{Fault}
use Rattle.ev_value.specs.declared.item.Item.{Item}
use Rattle.ev_value.specs.declared.value.Val.{Val}
use Rattle.eql_sem.specs.Selects.{counted, ranged, range_of, ranges}
use Rattle.eql_sem.specs.declared.form.Formed.{Formed}
use Rattle.eql_sem.specs.declared.row.Range.{Range}

bind_later : {B C : Type 0} (t : Bool) (es : List Fault) (h : B → List (Item C)) → bind (cond t (only_faults es) []) h ≡ cond t (only_faults es) []
bind_later true es h = bind_only_faults es h
bind_later false es h = refl

both_bind : {A B C D : Type 0} (xs : List (Item A)) (ys : List (Item B)) (g : A → B → List (Item C)) (h : C → List (Item D))
    → bind (both xs ys g) h ≡ both xs ys (λ a b. bind (g a b) h)
both_bind xs ys g h =
    bind_append (bind xs (λ a. bind ys (g a))) (cond (has_fault xs) (only_faults (faults ys)) []) h
    ∙ (λ i. (bind_assoc xs (λ a. bind ys (g a)) h ∙ bind_same xs (λ a. bind (bind ys (g a)) h) (λ a. bind ys (λ b. bind (g a b) h)) (λ a. bind_assoc ys (g a) h)) i
    ++ bind_later (has_fault xs) (faults ys) h i)

both_same : {A B C : Type 0} (xs : List (Item A)) (ys : List (Item B)) (g h : A → B → List (Item C)) → ((a : A) (b : B) → g a b ≡ h a b) → both xs ys g ≡ both xs ys h
both_same xs ys g h e = ap (both xs ys) (λ i a b. e a b i)

pub ranged_is : (offset limit : List (Item Val)) (f : Option ℕ → Option ℕ → List (Item Formed)) → ranged offset limit f ≡ bind (ranges offset limit) (λ r. f r.offset r.limit)
ranged_is offset limit f =
    sym
    (both_bind (counted offset) (counted limit) range_of (λ r. f r.offset r.limit)
    ∙ both_same (counted offset) (counted limit) (λ o l. bind (range_of o l) (λ r. f r.offset r.limit)) f (λ o l. bind_one {A = Range} (record { offset = o; limit = l }) (λ r. f r.offset r.limit)))
