-- A walk that keeps the names that it has seen finds a name twice where a list has one twice.
use Rattle.std.proofs.Common.{◌≡◌, ℕ, suc, Bool, true, false, ◌||◌, List, [], ◌∷◌, ◌++◌, Option, Some, None, option_map, is_some, if◌then◌else◌, refl, sym, ap, ◌∙◌}
use Rattle.std.specs.List.{list_any}
use Rattle.std.specs.Str.{bytes_eq}
use Rattle.ev_list.specs.Occurrence.{has_repeat}
use Rattle.ev_names.specs.Names.{place_of, is_among}
use Rattle.schema_build.specs.Lineage.{shares}

-- a name among those seen, or twice
abbrev pub repeats_from : List (List ℕ) → List (List ℕ) → Bool
repeats_from seen [] = false
repeats_from seen (x ∷ more) = is_among x seen || repeats_from (seen ++ x ∷ []) more

-- a group that shares a name with those seen, or with another
abbrev pub shares_from : List (List ℕ) → List (List (List ℕ)) → Bool
shares_from seen [] = false
shares_from seen (g ∷ more) = shares seen g || shares_from (seen ++ g) more

here_or_there : (b : Bool) (o : Option ℕ) → is_some (if b then Some 0 else option_map suc o) ≡ (b || is_some o)
here_or_there true o = refl
here_or_there false None = refl
here_or_there false (Some n) = refl

or_assoc : (a b c : Bool) → (a || (b || c)) ≡ ((a || b) || c)
or_assoc true b c = refl
or_assoc false b c = refl

or_swap : (a b p q : Bool) → ((a || b) || (p || q)) ≡ ((a || p) || (b || q))
or_swap true b p q = refl
or_swap false true true q = refl
or_swap false true false q = refl
or_swap false false p q = refl

or_turn : (a p q h : Bool) → (a || ((p || q) || h)) ≡ ((a || p) || (q || h))
or_turn true p q h = refl
or_turn false true q h = refl
or_turn false false q h = refl

among_both : (n : List ℕ) (a b : List (List ℕ)) → is_among n (a ++ b) ≡ (is_among n a || is_among n b)
among_both n [] b = refl
among_both n (y ∷ a) b =
    here_or_there (bytes_eq y n) (place_of n (a ++ b)) ∙ ap (λ t. bytes_eq y n || t) (among_both n a b)
    ∙ or_assoc (bytes_eq y n) (is_among n a) (is_among n b) ∙ ap (λ t. t || is_among n b) (sym (here_or_there (bytes_eq y n) (place_of n a)))

or_nothing : (b : Bool) → (b || false) ≡ b
or_nothing true = refl
or_nothing false = refl

among_one : (n x : List ℕ) → is_among n (x ∷ []) ≡ bytes_eq x n
among_one n x = here_or_there (bytes_eq x n) None ∙ or_nothing (bytes_eq x n)

any_same : {X : Type 0} (a b : X → Bool) (xs : List X) → ((x : X) → a x ≡ b x) → list_any a xs ≡ list_any b xs
any_same a b [] same = refl
any_same a b (x ∷ more) same = ap (λ t. t || list_any a more) (same x) ∙ ap (λ t. b x || t) (any_same a b more same)

any_either : {X : Type 0} (a b : X → Bool) (xs : List X) → list_any (λ x. a x || b x) xs ≡ (list_any a xs || list_any b xs)
any_either a b [] = refl
any_either a b (x ∷ more) = ap (λ t. (a x || b x) || t) (any_either a b more) ∙ or_swap (a x) (b x) (list_any a more) (list_any b more)

any_none : {X : Type 0} (xs : List X) → list_any (λ x. false) xs ≡ false
any_none [] = refl
any_none (x ∷ more) = any_none more

repeats_is : (seen xs : List (List ℕ)) → repeats_from seen xs ≡ (list_any (λ y. is_among y seen) xs || has_repeat bytes_eq xs)
repeats_is seen [] = refl
repeats_is seen (x ∷ more) =
    ap (λ t. is_among x seen || t)
    (repeats_is (seen ++ x ∷ []) more
    ∙ ap (λ t. t || has_repeat bytes_eq more)
    (any_same (λ y. is_among y (seen ++ x ∷ [])) (λ y. is_among y seen || bytes_eq x y) more (λ y. among_both y seen (x ∷ []) ∙ ap (λ t. is_among y seen || t) (among_one y x))
    ∙ any_either (λ y. is_among y seen) (bytes_eq x) more))
    ∙ or_turn (is_among x seen) (list_any (λ y. is_among y seen) more) (list_any (bytes_eq x) more) (has_repeat bytes_eq more)

-- A walk that has seen nothing finds what occurs twice.
pub repeats_begins : (xs : List (List ℕ)) → repeats_from [] xs ≡ has_repeat bytes_eq xs
repeats_begins xs = repeats_is [] xs ∙ ap (λ t. t || has_repeat bytes_eq xs) (any_none xs)

shares_both : (a b g : List (List ℕ)) → shares (a ++ b) g ≡ (shares a g || shares b g)
shares_both a b g = any_same (λ n. is_among n (a ++ b)) (λ n. is_among n a || is_among n b) g (λ n. among_both n a b) ∙ any_either (λ n. is_among n a) (λ n. is_among n b) g

shares_is : (seen : List (List ℕ)) (gs : List (List (List ℕ))) → shares_from seen gs ≡ (list_any (shares seen) gs || has_repeat shares gs)
shares_is seen [] = refl
shares_is seen (g ∷ more) =
    ap (λ t. shares seen g || t)
    (shares_is (seen ++ g) more
    ∙ ap (λ t. t || has_repeat shares more)
    (any_same (shares (seen ++ g)) (λ h. shares seen h || shares g h) more (shares_both seen g) ∙ any_either (shares seen) (shares g) more))
    ∙ or_turn (shares seen g) (list_any (shares seen) more) (list_any (shares g) more) (has_repeat shares more)

-- A walk that has seen the first group finds whether two groups share a name.
pub shares_begins : (own : List (List ℕ)) (gs : List (List (List ℕ))) → shares_from own gs ≡ has_repeat shares (own ∷ gs)
shares_begins own gs = shares_is own gs
