-- The parameters of a statement are those that occur.
use Rattle.std.proofs.Common.{◌≡◌, ℕ, List, [], ◌∷◌, Bool, true, false, cond, fold, Option, Some, None, Ordering, Less, Equal, Greater, nat_cmp, bytes_eq, refl, sym, ap, ◌∙◌, subst}
use Rattle.std.proofs.lemmas.Cmp.{tied_itself}
use Rattle.std.proofs.lemmas.Slice.Eq.{bytes_eq-Decides}
use Rattle.std.specs.Cmp.Lexicographic.{slice_cmp, nat_list_cmp_total}
use Rattle.std.specs.Ordering.{match_ordering, ordering_reverse}
use Rattle.ev_value.proofs.Orders.{text_same}
use Rattle.ev_value.specs.declared.value.ScalarTy.{ScalarTy}
use Rattle.ev_list.specs.declared.param.Param.{Param}
use Rattle.sql_ast.specs.ParamLaws.{NamesRise, ParamsAreThoseThatOccur}
use Rattle.sql_ast.specs.Params.{args_of, scalar_params, type_of_param, with_param}

abbrev cmp : List ℕ → List ℕ → Ordering
cmp = slice_cmp nat_cmp

-- the first name of the list is above a name
abbrev Above : List ℕ → List Param → Type 0
Above k [] = Unit {0}
Above k (p ∷ more) = cmp k p.name ≡ Less

rise_behind : (p : Param) (more : List Param) → Above p.name more → NamesRise more → NamesRise (p ∷ more)
rise_behind p [] h k = tt
rise_behind p (q ∷ more) h k = (h, k)

rise_more : (p : Param) (more : List Param) → NamesRise (p ∷ more) → NamesRise more
rise_more p [] h = tt
rise_more p (q ∷ more) h = h.1

first_above : (p : Param) (more : List Param) → NamesRise (p ∷ more) → Above p.name more
first_above p [] h = tt
first_above p (q ∷ more) h = h.0

turned_less : (k l : List ℕ) → cmp k l ≡ Greater → cmp l k ≡ Less
turned_less k l h = nat_list_cmp_total.antisymm l k ∙ ap ordering_reverse h

-- what is put above a name stays above it
put_above : (low : List ℕ) (p : Param) (qs : List Param) → cmp low p.name ≡ Less → Above low qs → Above low (with_param qs p)
put_above low p [] h above = h
put_above low p (q ∷ qs) h above = by_case (cmp p.name q.name)
  where
    by_case : (o : Ordering) → Above low (match_ordering o (p ∷ q ∷ qs) (q ∷ qs) (q ∷ with_param qs p))
    by_case Less = h
    by_case Equal = above
    by_case Greater = above

put_rises : (p : Param) (qs : List Param) → NamesRise qs → NamesRise (with_param qs p)
put_rises p [] h = tt
put_rises p (q ∷ qs) h = by_case (put_rises p qs (rise_more q qs h)) (cmp p.name q.name) refl
  where
    by_case : NamesRise (with_param qs p) → (o : Ordering) → cmp p.name q.name ≡ o → NamesRise (match_ordering o (p ∷ q ∷ qs) (q ∷ qs) (q ∷ with_param qs p))
    by_case more Less is = (is, h)
    by_case more Equal is = h
    by_case more Greater is = rise_behind q (with_param qs p) (put_above q.name p qs (turned_less p.name q.name is) (first_above q qs h)) more

all_rise : (done ps : List Param) → NamesRise done → NamesRise (fold with_param done ps)
all_rise done [] h = h
all_rise done (p ∷ ps) h = all_rise (with_param done p) ps (put_rises p done h)

-- ---- what stands at a name

abbrev or_type : Option ScalarTy → Option ScalarTy → Option ScalarTy
or_type (Some t) other = Some t
or_type None other = other

or_none : (o : Option ScalarTy) → or_type o None ≡ o
or_none None = refl
or_none (Some t) = refl

never_less : (l : List ℕ) → cmp l l ≡ Less → ⊥
never_less l e = let equal : cmp l l ≡ Equal = tied_itself nat_list_cmp_total l in cc

never_greater : (l : List ℕ) → cmp l l ≡ Greater → ⊥
never_greater l e = let equal : cmp l l ≡ Equal = tied_itself nat_list_cmp_total l in cc

-- a name that all names are above is not there
absent : (name : List ℕ) (qs : List Param) → NamesRise qs → Above name qs → type_of_param name qs ≡ None
absent name [] r h = refl
absent name (q ∷ qs) r h = by_case (bytes_eq q.name name) refl (absent name qs (rise_more q qs r) (further qs r))
  where
    further : (qs : List Param) → NamesRise (q ∷ qs) → Above name qs
    further [] r = tt
    further (s ∷ ss) r = nat_list_cmp_total.trans name q.name s.name h r.0

    by_case : (b : Bool) → bytes_eq q.name name ≡ b → type_of_param name qs ≡ None → cond b (Some q.ty) (type_of_param name qs) ≡ None
    by_case false e more = more
    by_case true e more = absurd (never_less name (subst (λ l. cmp name l ≡ Less) ((bytes_eq-Decides q.name name).0 e) h))

put_typed : (name : List ℕ) (p : Param) (qs : List Param) → NamesRise qs → type_of_param name (with_param qs p) ≡ or_type (type_of_param name qs) (cond (bytes_eq p.name name) (Some p.ty) None)
put_typed name p [] r = refl
put_typed name p (q ∷ qs) r = by_case (put_typed name p qs (rise_more q qs r)) (cmp p.name q.name) refl
  where
    first_is : (b : Bool) → bytes_eq p.name name ≡ b → cmp p.name q.name ≡ Less → cond b (Some p.ty) (type_of_param name (q ∷ qs)) ≡ or_type (type_of_param name (q ∷ qs)) (cond b (Some p.ty) None)
    first_is true e is = sym (ap (λ o. or_type o (Some p.ty)) (absent name (q ∷ qs) r (subst (λ l. cmp l q.name ≡ Less) ((bytes_eq-Decides p.name name).0 e) is)))
    first_is false e is = sym (or_none (type_of_param name (q ∷ qs)))

    same_is : (b : Bool) → cond b (Some q.ty) (type_of_param name qs) ≡ or_type (cond b (Some q.ty) (type_of_param name qs)) (cond b (Some p.ty) None)
    same_is true = refl
    same_is false = sym (or_none (type_of_param name qs))

    later_is : (b : Bool) → type_of_param name (with_param qs p) ≡ or_type (type_of_param name qs) (cond (bytes_eq p.name name) (Some p.ty) None)
        → cond b (Some q.ty) (type_of_param name (with_param qs p)) ≡ or_type (cond b (Some q.ty) (type_of_param name qs)) (cond (bytes_eq p.name name) (Some p.ty) None)
    later_is true e = refl
    later_is false e = e

    by_case : type_of_param name (with_param qs p) ≡ or_type (type_of_param name qs) (cond (bytes_eq p.name name) (Some p.ty) None) → (o : Ordering) → cmp p.name q.name ≡ o
        → type_of_param name (match_ordering o (p ∷ q ∷ qs) (q ∷ qs) (q ∷ with_param qs p)) ≡ or_type (type_of_param name (q ∷ qs)) (cond (bytes_eq p.name name) (Some p.ty) None)
    by_case more Less is = first_is (bytes_eq p.name name) refl is
    by_case more Equal is =
        same_is (bytes_eq q.name name) ∙ ap (λ l. or_type (type_of_param name (q ∷ qs)) (cond (bytes_eq l name) (Some p.ty) None)) (sym (text_same p.name q.name is))
    by_case more Greater is = later_is (bytes_eq q.name name) more

or_between : (o : Option ScalarTy) (b : Bool) (t : ScalarTy) (p : Option ScalarTy) → or_type (or_type o (cond b (Some t) None)) p ≡ or_type o (cond b (Some t) p)
or_between (Some s) b t p = refl
or_between None true t p = refl
or_between None false t p = refl

all_typed : (name : List ℕ) (done ps : List Param) → NamesRise done → type_of_param name (fold with_param done ps) ≡ or_type (type_of_param name done) (type_of_param name ps)
all_typed name done [] r = sym (or_none (type_of_param name done))
all_typed name done (p ∷ ps) r =
    all_typed name (with_param done p) ps (put_rises p done r) ∙ ap (λ o. or_type o (type_of_param name ps)) (put_typed name p done r)
    ∙ or_between (type_of_param name done) (bytes_eq p.name name) p.ty (type_of_param name ps)

pub those_that_occur : ParamsAreThoseThatOccur
those_that_occur = record { rise = λ s. all_rise [] (scalar_params (args_of s)) tt; occur = λ s name. all_typed name [] (scalar_params (args_of s)) tt }
