-- The names of an object's text rise, and each has its last text.
use Rattle.std.proofs.Common.{◌≡◌, ℕ, List, [], ◌∷◌, Bool, true, false, cond, fold, Option, Some, None, Ordering, Less, Equal, Greater, nat_cmp, bytes_eq, refl, sym, ap, ◌∙◌, subst, true≢false}
use Rattle.std.proofs.lemmas.Cmp.{tied_itself}
use Rattle.std.proofs.lemmas.Slice.Eq.{bytes_eq-Decides}
use Rattle.std.specs.BTreeMap.{insert_entry}
use Rattle.std.specs.Cmp.Lexicographic.{slice_cmp, nat_list_cmp_total}
use Rattle.std.specs.Ordering.{match_ordering, ordering_reverse}
use Rattle.ev_value.specs.JsonText.{Member, NamesRise, first_named, or_text, last_named, NamesAreOrdered}
use Rattle.ev_value.proofs.Orders.{text_same}

abbrev cmp : List ℕ → List ℕ → Ordering
cmp = slice_cmp nat_cmp

abbrev put : List Member → List ℕ → List ℕ → List Member
put = insert_entry cmp

-- the names of the list are above a name
abbrev Above : List ℕ → List Member → Type 0
Above k [] = Unit {0}
Above k (m ∷ more) = cmp k m.0 ≡ Less

rise_behind : (m : Member) (more : List Member) → Above m.0 more → NamesRise more → NamesRise (m ∷ more)
rise_behind m [] h k = tt
rise_behind m (n ∷ more) h k = (h, k)

rise_more : (m : Member) (more : List Member) → NamesRise (m ∷ more) → NamesRise more
rise_more m [] h = tt
rise_more m (n ∷ more) h = h.1

first_above : (m : Member) (more : List Member) → NamesRise (m ∷ more) → Above m.0 more
first_above m [] h = tt
first_above m (n ∷ more) h = h.0

-- what is put above a name stays above it
put_above : (low k v : List ℕ) (es : List Member) → cmp low k ≡ Less → Above low es → Above low (put es k v)
put_above low k v [] h above = h
put_above low k v (e ∷ es) h above = by_case (cmp k e.0)
  where
    by_case : (o : Ordering) → Above low (match_ordering o ((k, v) ∷ e ∷ es) ((e.0, v) ∷ es) (e ∷ put es k v))
    by_case Less = h
    by_case Equal = above
    by_case Greater = above

turned_less : (k l : List ℕ) → cmp k l ≡ Greater → cmp l k ≡ Less
turned_less k l h = nat_list_cmp_total.antisymm l k ∙ ap ordering_reverse h

put_rises : (k v : List ℕ) (es : List Member) → NamesRise es → NamesRise (put es k v)
put_rises k v [] h = tt
put_rises k v (e ∷ es) h = by_case (put_rises k v es (rise_more e es h)) (cmp k e.0) refl
  where
    by_case : NamesRise (put es k v) → (o : Ordering) → cmp k e.0 ≡ o → NamesRise (match_ordering o ((k, v) ∷ e ∷ es) ((e.0, v) ∷ es) (e ∷ put es k v))
    by_case more Less is = (is, h)
    by_case more Equal is = rise_behind (e.0, v) es (first_above e es h) (rise_more e es h)
    by_case more Greater is = rise_behind e (put es k v) (put_above e.0 k v es (turned_less k e.0 is) (first_above e es h)) more

all_rise : (done ms : List Member) → NamesRise done → NamesRise (fold (λ done m. put done m.0 m.1) done ms)
all_rise done [] h = h
all_rise done (m ∷ ms) h = all_rise (put done m.0 m.1) ms (put_rises m.0 m.1 done h)

-- ---- what stands at a name

never_greater : (l : List ℕ) → cmp l l ≡ Greater → ⊥
never_greater l e = let equal : cmp l l ≡ Equal = tied_itself nat_list_cmp_total l in cc

unequal : (k l : List ℕ) → cmp k l ≡ Greater → (name : List ℕ) → bytes_eq l name ≡ true → bytes_eq k name ≡ false
unequal k l h name e = by_case (bytes_eq k name) refl
  where
    by_case : (b : Bool) → bytes_eq k name ≡ b → b ≡ false
    by_case false is = refl
    by_case true is =
        let same : k ≡ l = (bytes_eq-Decides k name).0 is ∙ sym ((bytes_eq-Decides l name).0 e) in
        absurd (never_greater l (subst (λ x. cmp x l ≡ Greater) same h))

twice : {A : Type 0} (b : Bool) (x y z : A) → cond b x (cond b y z) ≡ cond b x z
twice true x y z = refl
twice false x y z = refl

swapped : {A : Type 0} (b c : Bool) (x y z : A) → (b ≡ true → c ≡ false) → cond b x (cond c y z) ≡ cond c y (cond b x z)
swapped true true x y z h = absurd (true≢false (h refl))
swapped true false x y z h = refl
swapped false c x y z h = refl

put_named : (name k v : List ℕ) (es : List Member) → first_named name (put es k v) ≡ cond (bytes_eq k name) (Some v) (first_named name es)
put_named name k v [] = refl
put_named name k v (e ∷ es) = by_case (put_named name k v es) (cmp k e.0) refl
  where
    by_case : first_named name (put es k v) ≡ cond (bytes_eq k name) (Some v) (first_named name es) → (o : Ordering) → cmp k e.0 ≡ o
        → first_named name (match_ordering o ((k, v) ∷ e ∷ es) ((e.0, v) ∷ es) (e ∷ put es k v)) ≡ cond (bytes_eq k name) (Some v) (cond (bytes_eq e.0 name) (Some e.1) (first_named name es))
    by_case more Less is = refl
    by_case more Equal is =
        sym (ap (λ n. cond (bytes_eq n name) (Some v) (cond (bytes_eq e.0 name) (Some e.1) (first_named name es))) (text_same k e.0 is) ∙ twice (bytes_eq e.0 name) (Some v) (Some e.1) (first_named name es))
    by_case more Greater is =
        ap (cond (bytes_eq e.0 name) (Some e.1)) more ∙ swapped (bytes_eq e.0 name) (bytes_eq k name) (Some e.1) (Some v) (first_named name es) (unequal k e.0 is name)

or_between : (o p : Option (List ℕ)) (b : Bool) (t : List ℕ) → or_text o (cond b (Some t) p) ≡ or_text (or_text o (cond b (Some t) None)) p
or_between (Some s) p b t = refl
or_between None p true t = refl
or_between None p false t = refl

or_none : (o : Option (List ℕ)) → or_text o None ≡ o
or_none None = refl
or_none (Some t) = refl

all_named : (name : List ℕ) (done ms : List Member) → first_named name (fold (λ done m. put done m.0 m.1) done ms) ≡ or_text (last_named name ms) (first_named name done)
all_named name done [] = refl
all_named name done (m ∷ ms) =
    all_named name (put done m.0 m.1) ms ∙ ap (or_text (last_named name ms)) (put_named name m.0 m.1 done)
    ∙ or_between (last_named name ms) (first_named name done) (bytes_eq m.0 name) m.1

pub names_ordered : NamesAreOrdered
names_ordered = record { rise = λ ms. all_rise [] ms tt; keep = λ name ms. all_named name [] ms ∙ or_none (last_named name ms) }
