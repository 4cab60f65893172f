-- The order of values is total, and equal there is equal.
use Rattle.std.proofs.Common.{◌≡◌, ℕ, ℤ, ◌≤◌, ◌<◌, ◌<ℤ◌, Bool, true, false, List, [], ◌∷◌, length, drop, zero, suc, Ordering, Less, Equal, Greater, nat_cmp, refl, sym, ap, ◌∙◌, subst, arith}
use Rattle.std.proofs.lemmas.Bool.Decides.{nat_tests}
use Rattle.std.specs.Cmp.{IsTotalOrder, nat_cmp_total, int_cmp_total, bool_cmp_total}
use Rattle.std.specs.Cmp.Lexicographic.{slice_cmp, nat_list_cmp_total}
use Rattle.std.specs.Ordering.{int_cmp, bool_cmp, ordering_then, ordering_reverse, MatchOrdering, is_eq}
use Rattle.std.proofs.lemmas.Cmp.{ranked, int_ranked, tied_itself}
use Rattle.std.proofs.lemmas.Map.Text.{is_eq-slice_cmp}
use Rattle.std.proofs.lemmas.Slice.Eq.{bytes_eq-Decides}
use Rattle.ev_value.specs.Order.{kind, val_cmp, parts_cmp, ValuesAreOrdered}
use Rattle.ev_value.specs.declared.value.Val.{Val, Int, Str, Id, Obj, Tuple', Array', Row_of-Val, end_of-Val, more_of-Val, out-Val, out-roll-Val}
use Rattle.ev_value.specs.declared.value.Val as val
use Rattle.ev_value.specs.declared.value.Val.TheVariants.{Tuple, rolls-Tuple, Array, rolls-Array}
use Rattle.ev_value.specs.declared.value.Val.TheOpen as open_val
use denote.Hole.Carrier as carrier
use mathlib.Core.Former.{list_count, this}
use Rattle.ev_value.proofs.Trees.{parts, tuple_is, tuple_opens, array_is, array_opens}

nat_same : (m n : ℕ) → nat_cmp m n ≡ Equal → m ≡ n
nat_same m n h = subst (λ o. MatchOrdering o (m < n) (m ≡ n) (n < m)) h (ranked m n (nat_cmp m n) refl)

int_same : (a b : ℤ) → int_cmp a b ≡ Equal → a ≡ b
int_same a b h = subst (λ o. MatchOrdering o (a <ℤ b) (a ≡ b) (b <ℤ a)) h (int_ranked a b (int_cmp a b) refl)

pub text_same : (s t : List ℕ) → slice_cmp nat_cmp s t ≡ Equal → s ≡ t
text_same s t h = (bytes_eq-Decides s t).0 (sym (is_eq-slice_cmp s t) ∙ ap is_eq h)

bool_same : (a b : Bool) → bool_cmp a b ≡ Equal → a ≡ b
bool_same true true h = refl
bool_same false false h = refl
bool_same true false h = cc
bool_same false true h = cc

then_equal : (o p : Ordering) → ordering_then o p ≡ Equal → (o ≡ Equal) × (p ≡ Equal)
then_equal Less p h = cc
then_equal Equal p h = (refl, h)
then_equal Greater p h = cc

-- values that are equal in the order are the same
mutual
  unfolding val_cmp parts_cmp

  pub same : (v w : Val) → val_cmp v w ≡ Equal → v ≡ w
  same (Int a) (Int b) h = ap Int (int_same a b h)
  same (Str s) (Str t) h = ap Str (text_same s t h)
  same (val.Bool a) (val.Bool b) h = ap val.Bool (bool_same a b h)
  same (Id m) (Id n) h = ap Id (nat_same m n h)
  same (Obj m) (Obj n) h = ap Obj (nat_same m n h)
  same (Tuple' s vs) (Tuple' t ws) h = tuple_is s vs ∙ ap Tuple (parts_same vs ws h) ∙ sym (tuple_is t ws)
  same (Array' s vs) (Array' t ws) h = array_is s vs ∙ ap Array (parts_same vs ws h) ∙ sym (array_is t ws)
  same _ _ h = cc

  parts_same : {m n : _} → (vs : Row_of-Val m) (ws : Row_of-Val n) → parts_cmp vs ws ≡ Equal → parts vs ≡ parts ws
  parts_same end_of-Val end_of-Val h = refl
  parts_same end_of-Val (more_of-Val w ws) h = cc
  parts_same (more_of-Val v vs) end_of-Val h = cc
  parts_same (more_of-Val v vs) (more_of-Val w ws) h =
      let both : (val_cmp v w ≡ Equal) × (parts_cmp vs ws ≡ Equal) = then_equal (val_cmp v w) (parts_cmp vs ws) h in
      λ i. same v w both.0 i ∷ parts_same vs ws both.1 i

-- a value is equal to itself
mutual
  unfolding val_cmp parts_cmp

  pub itself : (v : Val) → val_cmp v v ≡ Equal
  itself (Int a) = tied_itself int_cmp_total a
  itself (Str s) = tied_itself nat_list_cmp_total s
  itself (val.Bool true) = refl
  itself (val.Bool false) = refl
  itself (Id n) = tied_itself nat_cmp_total n
  itself (Obj n) = tied_itself nat_cmp_total n
  itself (Tuple' s vs) = parts_itself vs
  itself (Array' s vs) = parts_itself vs

  parts_itself : {m : _} → (vs : Row_of-Val m) → parts_cmp vs vs ≡ Equal
  parts_itself end_of-Val = refl
  parts_itself (more_of-Val v vs) = ap (λ o. ordering_then o (parts_cmp vs vs)) (itself v) ∙ parts_itself vs

then_turned : (o p o' p' : Ordering) → o ≡ ordering_reverse o' → p ≡ ordering_reverse p' → ordering_then o p ≡ ordering_reverse (ordering_then o' p')
then_turned o p Less p' e f = ap (λ o. ordering_then o p) e
then_turned o p Equal p' e f = ap (λ o. ordering_then o p) e ∙ f
then_turned o p Greater p' e f = ap (λ o. ordering_then o p) e

-- the order turns round with its sides
mutual
  unfolding val_cmp parts_cmp

  turned : (v w : Val) → val_cmp v w ≡ ordering_reverse (val_cmp w v)
  turned (Int a) (Int b) = int_cmp_total.antisymm a b
  turned (Str s) (Str t) = nat_list_cmp_total.antisymm s t
  turned (val.Bool a) (val.Bool b) = bool_cmp_total.antisymm a b
  turned (Id m) (Id n) = nat_cmp_total.antisymm m n
  turned (Obj m) (Obj n) = nat_cmp_total.antisymm m n
  turned (Tuple' s vs) (Tuple' t ws) = parts_turned vs ws
  turned (Array' s vs) (Array' t ws) = parts_turned vs ws
  turned _ _ = refl

  parts_turned : {m n : _} → (vs : Row_of-Val m) (ws : Row_of-Val n) → parts_cmp vs ws ≡ ordering_reverse (parts_cmp ws vs)
  parts_turned end_of-Val end_of-Val = refl
  parts_turned end_of-Val (more_of-Val w ws) = refl
  parts_turned (more_of-Val v vs) end_of-Val = refl
  parts_turned (more_of-Val v vs) (more_of-Val w ws) = then_turned (val_cmp v w) (parts_cmp vs ws) (val_cmp w v) (parts_cmp ws vs) (turned v w) (parts_turned vs ws)

-- what is less has no later kind
kinds_rise : (v w : Val) → val_cmp v w ≡ Less → kind v ≤ kind w
unfolding val_cmp
kinds_rise (Int a) (Int b) h = omega arith
kinds_rise (Str s) (Str t) h = omega arith
kinds_rise (val.Bool a) (val.Bool b) h = omega arith
kinds_rise (Id m) (Id n) h = omega arith
kinds_rise (Obj m) (Obj n) h = omega arith
kinds_rise (Tuple' s vs) (Tuple' t ws) h = omega arith
kinds_rise (Array' s vs) (Array' t ws) h = omega arith
kinds_rise v w h = subst (λ o. MatchOrdering o (kind v < kind w) (kind v ≡ kind w) (kind w < kind v) → kind v ≤ kind w) (sym h) (λ (less : kind v < kind w). omega arith) (ranked (kind v) (kind w) _ refl)

nat_less : (m n : ℕ) → m < n → nat_cmp m n ≡ Less
nat_less m n h = grind (arith, nat_tests)

-- a value of an earlier kind is less
apart : (v w : Val) → kind v < kind w → val_cmp v w ≡ Less
unfolding val_cmp
apart (Int a) (Int b) h = absurd (omega arith)
apart (Str s) (Str t) h = absurd (omega arith)
apart (val.Bool a) (val.Bool b) h = absurd (omega arith)
apart (Id m) (Id n) h = absurd (omega arith)
apart (Obj m) (Obj n) h = absurd (omega arith)
apart (Tuple' s vs) (Tuple' t ws) h = absurd (omega arith)
apart (Array' s vs) (Array' t ws) h = absurd (omega arith)
apart v w h = nat_less (kind v) (kind w) h

then_chain : (uv vw uw : Ordering) (uvs vws uws : Ordering) → (uv ≡ Less → vw ≡ Less → uw ≡ Less) → (uv ≡ Equal → uw ≡ vw) → (vw ≡ Equal → uw ≡ uv) → (uvs ≡ Less → vws ≡ Less → uws ≡ Less)
    → ordering_then uv uvs ≡ Less → ordering_then vw vws ≡ Less → ordering_then uw uws ≡ Less
then_chain Less Less uw uvs vws uws both left right more h k = ap (λ o. ordering_then o uws) (both refl refl)
then_chain Less Equal uw uvs vws uws both left right more h k = ap (λ o. ordering_then o uws) (right refl)
then_chain Equal Less uw uvs vws uws both left right more h k = ap (λ o. ordering_then o uws) (left refl)
then_chain Equal Equal uw uvs vws uws both left right more h k = ap (λ o. ordering_then o uws) (left refl) ∙ more h k
then_chain Greater vw uw uvs vws uws both left right more h k = cc
then_chain uv Greater uw uvs vws uws both left right more h k = cc

-- less chains
mutual
  unfolding val_cmp parts_cmp

  chain : (u v w : Val) → val_cmp u v ≡ Less → val_cmp v w ≡ Less → val_cmp u w ≡ Less
  chain (Int a) (Int b) (Int c) h k = int_cmp_total.trans a b c h k
  chain (Str r) (Str s) (Str t) h k = nat_list_cmp_total.trans r s t h k
  chain (val.Bool a) (val.Bool b) (val.Bool c) h k = bool_cmp_total.trans a b c h k
  chain (Id l) (Id m) (Id n) h k = nat_cmp_total.trans l m n h k
  chain (Obj l) (Obj m) (Obj n) h k = nat_cmp_total.trans l m n h k
  chain (Tuple' r us) (Tuple' s vs) (Tuple' t ws) h k = parts_chain us vs ws h k
  chain (Array' r us) (Array' s vs) (Array' t ws) h k = parts_chain us vs ws h k
  chain u v w h k = apart u w (omega (arith, kinds_rise u v h, kinds_rise v w k))

  parts_chain : {l m n : _} → (us : Row_of-Val l) (vs : Row_of-Val m) (ws : Row_of-Val n) → parts_cmp us vs ≡ Less → parts_cmp vs ws ≡ Less → parts_cmp us ws ≡ Less
  parts_chain end_of-Val end_of-Val ws h k = cc
  parts_chain end_of-Val (more_of-Val v vs) end_of-Val h k = cc
  parts_chain end_of-Val (more_of-Val v vs) (more_of-Val w ws) h k = refl
  parts_chain (more_of-Val u us) end_of-Val ws h k = cc
  parts_chain (more_of-Val u us) (more_of-Val v vs) end_of-Val h k = cc
  parts_chain (more_of-Val u us) (more_of-Val v vs) (more_of-Val w ws) h k =
      then_chain (val_cmp u v) (val_cmp v w) (val_cmp u w) (parts_cmp us vs) (parts_cmp vs ws) (parts_cmp us ws)
      (chain u v w) (λ e. ap (λ x. val_cmp x w) (same u v e)) (λ e. ap (λ x. val_cmp u x) (sym (same v w e))) (parts_chain us vs ws) h k

pub val_cmp_total : IsTotalOrder val_cmp
val_cmp_total = record { antisymm = turned; trans = chain; congr = λ u v w e. ap (λ x. val_cmp x w) (same u v e) }

pub values_ordered : ValuesAreOrdered
values_ordered = (val_cmp_total, λ v w. (same v w, λ e. subst (λ x. val_cmp v x ≡ Equal) e (itself v)))

-- the components decide between tuples, and the elements between arrays
parts_are : {m n : _} → (vs : Row_of-Val m) (ws : Row_of-Val n) → parts_cmp vs ws ≡ slice_cmp val_cmp (parts vs) (parts ws)
unfolding parts_cmp
parts_are end_of-Val end_of-Val = refl
parts_are end_of-Val (more_of-Val w ws) = refl
parts_are (more_of-Val v vs) end_of-Val = refl
parts_are (more_of-Val v vs) (more_of-Val w ws) = ap (ordering_then (val_cmp v w)) (parts_are vs ws)

tuples_open : (v w : Val) (vs ws : List Val) → out-Val v ≡ open_val.Tuple vs → out-Val w ≡ open_val.Tuple ws → val_cmp v w ≡ slice_cmp val_cmp vs ws
unfolding val_cmp out-Val carrier.out
tuples_open (Tuple' s v) (Tuple' t w) vs ws e f =
    let vs_are : parts v ≡ vs = opened (sym (tuple_opens s v) ∙ e) in
    let ws_are : parts w ≡ ws = opened (sym (tuple_opens t w) ∙ f) in
    parts_are v w ∙ ap (λ xs. slice_cmp val_cmp xs (parts w)) vs_are ∙ ap (slice_cmp val_cmp vs) ws_are
  where
    opened : {xs ys : List Val} → open_val.Tuple xs ≡ open_val.Tuple ys → xs ≡ ys
    opened e = cc
tuples_open v w vs ws e f = cc

-- tuples are ordered as the lists of their components
pub tuple_cmp : (vs ws : List Val) → val_cmp (Tuple vs) (Tuple ws) ≡ slice_cmp val_cmp vs ws
tuple_cmp vs ws = tuples_open (Tuple vs) (Tuple ws) vs ws (ap out-Val (sym (rolls-Tuple vs)) ∙ out-roll-Val (open_val.Tuple vs)) (ap out-Val (sym (rolls-Tuple ws)) ∙ out-roll-Val (open_val.Tuple ws))

arrays_open : (v w : Val) (vs ws : List Val) → out-Val v ≡ open_val.Array vs → out-Val w ≡ open_val.Array ws → val_cmp v w ≡ slice_cmp val_cmp vs ws
unfolding val_cmp out-Val carrier.out
arrays_open (Array' s v) (Array' t w) vs ws e f =
    let vs_are : parts v ≡ vs = opened (sym (array_opens s v) ∙ e) in
    let ws_are : parts w ≡ ws = opened (sym (array_opens t w) ∙ f) in
    parts_are v w ∙ ap (λ xs. slice_cmp val_cmp xs (parts w)) vs_are ∙ ap (slice_cmp val_cmp vs) ws_are
  where
    opened : {xs ys : List Val} → open_val.Array xs ≡ open_val.Array ys → xs ≡ ys
    opened e = cc
arrays_open v w vs ws e f = cc

-- arrays are ordered as the lists of their elements
pub array_cmp : (vs ws : List Val) → val_cmp (Array vs) (Array ws) ≡ slice_cmp val_cmp vs ws
array_cmp vs ws = arrays_open (Array vs) (Array ws) vs ws (ap out-Val (sym (rolls-Array vs)) ∙ out-roll-Val (open_val.Array vs)) (ap out-Val (sym (rolls-Array ws)) ∙ out-roll-Val (open_val.Array ws))

drop_none : (i : ℕ) → drop {A = Val} i [] ≡ []
drop_none zero = refl
drop_none (suc i) = refl

-- the list that ends first is less
prefix_less : (vs ws : List Val) (i : ℕ) → length vs ≤ i → i < length ws → slice_cmp val_cmp (drop i vs) (drop i ws) ≡ Less
prefix_less vs [] i h k = absurd (omega arith)
prefix_less [] (w ∷ ws) zero h k = refl
prefix_less (v ∷ vs) (w ∷ ws) zero h k = absurd (omega arith)
prefix_less [] (w ∷ ws) (suc i) h k = subst (λ r. slice_cmp val_cmp r (drop i ws) ≡ Less) (drop_none i) (prefix_less [] ws i (omega arith) (omega arith))
prefix_less (v ∷ vs) (w ∷ ws) (suc i) h k = prefix_less vs ws i (omega arith) (omega arith)

pub ends_less : (vs ws : List Val) (i : ℕ) → slice_cmp val_cmp (drop i vs) (drop i ws) ≡ slice_cmp val_cmp vs ws → length vs ≤ i → i < length ws → Less ≡ slice_cmp val_cmp vs ws
ends_less vs ws i e h k = sym (prefix_less vs ws i h k) ∙ e

-- values of two kinds are ordered by their kinds

pub int_apart : (a : ℤ) (w : Val) → ((b : ℤ) → w ≡ Int b → ⊥) → val_cmp (Int a) w ≡ nat_cmp 0 (kind w)
unfolding val_cmp
int_apart a (Int b) h = absurd (h b refl)
int_apart a w h = refl

pub str_apart : (s : List ℕ) (w : Val) → ((t : List ℕ) → w ≡ Str t → ⊥) → val_cmp (Str s) w ≡ nat_cmp 1 (kind w)
unfolding val_cmp
str_apart s (Str t) h = absurd (h t refl)
str_apart s w h = refl

pub bool_apart : (a : Bool) (w : Val) → ((b : Bool) → w ≡ val.Bool b → ⊥) → val_cmp (val.Bool a) w ≡ nat_cmp 2 (kind w)
unfolding val_cmp
bool_apart a (val.Bool b) h = absurd (h b refl)
bool_apart a w h = refl

pub id_apart : (m : ℕ) (w : Val) → ((n : ℕ) → w ≡ Id n → ⊥) → val_cmp (Id m) w ≡ nat_cmp 3 (kind w)
unfolding val_cmp
id_apart m (Id n) h = absurd (h n refl)
id_apart m w h = refl

pub obj_apart : (m : ℕ) (w : Val) → ((n : ℕ) → w ≡ Obj n → ⊥) → val_cmp (Obj m) w ≡ nat_cmp 4 (kind w)
unfolding val_cmp
obj_apart m (Obj n) h = absurd (h n refl)
obj_apart m w h = refl

tuple'_apart : (s : List (Unit {0})) (vs : Row_of-Val (list_count (this {0}) s 0)) (w : Val) → ((ws : List Val) → w ≡ Tuple ws → ⊥) → val_cmp (Tuple' s vs) w ≡ nat_cmp 5 (kind w)
unfolding val_cmp
tuple'_apart s vs (Tuple' t ws) h = absurd (h (parts ws) (tuple_is t ws))
tuple'_apart s vs w h = refl

pub tuple_apart : (vs : List Val) (w : Val) → ((ws : List Val) → w ≡ Tuple ws → ⊥) → val_cmp (Tuple vs) w ≡ nat_cmp 5 (kind w)
tuple_apart vs w h = tuple'_apart _ _ w h

array'_apart : (s : List (Unit {0})) (vs : Row_of-Val (list_count (this {0}) s 0)) (w : Val) → ((ws : List Val) → w ≡ Array ws → ⊥) → val_cmp (Array' s vs) w ≡ nat_cmp 6 (kind w)
unfolding val_cmp
array'_apart s vs (Array' t ws) h = absurd (h (parts ws) (array_is t ws))
array'_apart s vs w h = refl

pub array_apart : (vs : List Val) (w : Val) → ((ws : List Val) → w ≡ Array ws → ⊥) → val_cmp (Array vs) w ≡ nat_cmp 6 (kind w)
array_apart vs w h = array'_apart _ _ w h

-- what the code compares where the kinds differ
pub by_kinds : (v w x : Val) (m n : ℕ) (o : Ordering) → o ≡ nat_cmp m n → m ≡ kind v → n ≡ kind w → v ≡ x → val_cmp x w ≡ nat_cmp (kind x) (kind w) → o ≡ val_cmp v w
by_kinds v w x m n o e f g is apart = e ∙ ap (λ k. nat_cmp k n) (f ∙ ap kind is) ∙ ap (nat_cmp (kind x)) g ∙ sym apart ∙ ap (λ y. val_cmp y w) (sym is)
