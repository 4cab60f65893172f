-- A map to first places, as one more object is put last.
use Rattle.std.proofs.Common.{◌≡◌, ℕ, suc, List, [], ◌∷◌, ◌++◌, length, Option, Some, None, option_map, nat_cmp, is_eq, cond, Bool, true, false, nat_eq, if◌then◌else◌, refl, sym, ap, ◌∙◌}
use Rattle.std.proofs.lemmas.Bool.{eqb-true}
use Rattle.std.specs.Cmp.{unsigned_tied}
use Rattle.std.specs.BTreeMap.{BTreeMap}
use Rattle.std.specs.BTreeMap as tree
use Rattle.db_draft.specs.First.{or_else}
use Rattle.db_ids.specs.Heads.{place_of, Finds}
use Rattle.db_ids.specs.declared.heads.Head.{Head}

last_of_none : (b : Bool) → (if b then Some 0 else option_map suc None) ≡ or_else None (if b then Some 0 else None)
last_of_none true = refl
last_of_none false = refl

later : (o : Option ℕ) (b : Bool) (n : ℕ) → option_map suc (or_else o (if b then Some n else None)) ≡ or_else (option_map suc o) (if b then Some (suc n) else None)
later None true n = refl
later None false n = refl
later (Some x) b n = refl

here_or_later : (here : Bool) (o : Option ℕ) (b : Bool) (n : ℕ)
    → (if here then Some 0 else option_map suc (or_else o (if b then Some n else None))) ≡ or_else (if here then Some 0 else option_map suc o) (if b then Some (suc n) else None)
here_or_later true o b n = refl
here_or_later false o b n = later o b n

place_of-last : (id : ℕ) (h : Head) (hs : List Head) → place_of (hs ++ h ∷ []) id ≡ or_else (place_of hs id) (if nat_eq h.id id then Some (length hs) else None)
place_of-last id h [] = last_of_none (nat_eq h.id id)
place_of-last id h (g ∷ gs) = rw (place_of-last id h gs) (here_or_later (nat_eq g.id id) (place_of gs id) (nat_eq h.id id) (length gs))

joined : (b : Bool) (n : ℕ) (o : Option ℕ) → (b ≡ true → o ≡ None) → cond b (Some n) o ≡ or_else o (if b then Some n else None)
joined true n o none = rw (none refl)
joined false n None none = refl
joined false n (Some x) none = refl

pub finds_more : (m n : BTreeMap ℕ ℕ) (hs : List Head) (h : Head) → Finds m hs → place_of hs h.id ≡ None
    → ((id : ℕ) → tree.get nat_cmp n id ≡ cond (is_eq (nat_cmp h.id id)) (Some (length hs)) (tree.get nat_cmp m id)) → Finds n (hs ++ h ∷ [])
finds_more m n hs h finds new updates id =
    updates id ∙ rw (unsigned_tied h.id id, finds id)
    (joined (nat_eq h.id id) (length hs) (place_of hs id) (λ e. ap (place_of hs) (sym (eqb-true h.id id e)) ∙ new)
    ∙ sym (place_of-last id h hs))
