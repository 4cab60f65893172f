-- Texts that differ.
use Rattle.std.proofs.Common.{◌≡◌, ◌≢◌, ℕ, suc, Bool, true, false, List, [], ◌∷◌, ◌++◌, map, flat_map, Option, Some, None, option_map, is_some, cond, refl}
use Rattle.std.proofs.lemmas.Slice.Eq.{bytes_eq-Decides}
use Rattle.std.specs.List.{list_any}
use Rattle.std.specs.Str.{bytes_eq}
use Rattle.ev_list.specs.Occurrence.{has_repeat}
use Rattle.db_store.specs.Fits.{Each}
use Rattle.schema_build.specs.Lineage.{shares}
use Rattle.ev_names.specs.Names.{place_of, is_among}
use Rattle.db_check.specs.Laws.{NamesDiffer}
use Rattle.db_check.proofs.IdOrder.{each_more}
use Rattle.db_check.proofs.NoFlaw.{neither, each_not}
use Rattle.db_check.proofs.Repeats.{each_joined}

abbrev pub itself : List ℕ → List ℕ
itself x = x

-- no two of them are one text
abbrev pub Differ : List (List ℕ) → Type 0
Differ xs = NamesDiffer itself xs

-- no text of the one is one of the other
abbrev pub Apart : List (List ℕ) → List (List ℕ) → Type 0
Apart xs ys = Each (λ y. Each (λ x. x ≢ y) xs) ys

-- all texts of some groups
abbrev pub joint : List (List (List ℕ)) → List (List ℕ)
joint gs = flat_map (λ g. g) gs

other_text : (x y : List ℕ) → bytes_eq x y ≡ false → x ≢ y
other_text x y h e = no_both (bytes_eq x y) ((bytes_eq-Decides x y).1 e) h
  where
    no_both : (b : Bool) → b ≡ true → b ≡ false → ⊥
    no_both b e f = cc

-- a text that has no place among some is none of them
pub absent : (n : List ℕ) (xs : List (List ℕ)) → is_among n xs ≡ false → Each (λ x. x ≢ n) xs
absent n [] h = tt
absent n (x ∷ more) h = let both = no_place (bytes_eq x n) (place_of n more) h in (other_text x n both.0, absent n more both.1)
  where
    no_place : (b : Bool) (o : Option ℕ) → is_some (cond b (Some 0) (option_map suc o)) ≡ false → (b ≡ false) × (is_some o ≡ false)
    no_place true o h = absurd (cc)
    no_place false None h = (refl, refl)
    no_place false (Some m) h = absurd (cc)

pub differ_of : (xs : List (List ℕ)) → has_repeat bytes_eq xs ≡ false → Differ xs
differ_of [] h = tt
differ_of (x ∷ more) h =
    let both = neither (list_any (bytes_eq x) more) (has_repeat bytes_eq more) h in
    (each_more (λ y. bytes_eq x y ≡ false) (λ y. x ≢ y) (λ y k. other_text x y k) more (each_not (bytes_eq x) more both.0), differ_of more both.1)

apart_of : (xs ys : List (List ℕ)) → shares xs ys ≡ false → Apart xs ys
apart_of xs ys h = each_more (λ y. is_among y xs ≡ false) (λ y. Each (λ x. x ≢ y) xs) (λ y k. absent y xs k) ys (each_not (λ y. is_among y xs) ys h)

joined_differ : (xs ys : List (List ℕ)) → Differ xs → Differ ys → Apart xs ys → Differ (xs ++ ys)
joined_differ [] ys d g a = g
joined_differ (x ∷ xs) ys d g a = (
  each_joined (λ y. x ≢ y) xs ys d.0 (each_more (λ y. Each (λ z. z ≢ y) (x ∷ xs)) (λ y. x ≢ y) (λ y k. k.0) ys a),
  joined_differ xs ys d.1 g (each_more (λ y. Each (λ z. z ≢ y) (x ∷ xs)) (λ y. Each (λ z. z ≢ y) xs) (λ y k. k.1) ys a),
)

apart_from_all : (xs : List (List ℕ)) (gs : List (List (List ℕ))) → Each (Apart xs) gs → Apart xs (joint gs)
apart_from_all xs [] h = tt
apart_from_all xs (g ∷ more) h = each_joined (λ y. Each (λ x. x ≢ y) xs) g (joint more) h.0 (apart_from_all xs more h.1)

-- Where no two groups share a text, and none has one twice, the texts of all differ.
pub groups_differ : (gs : List (List (List ℕ))) → has_repeat shares gs ≡ false → Each Differ gs → Differ (joint gs)
groups_differ [] h d = tt
groups_differ (g ∷ more) h d =
    let both = neither (list_any (shares g) more) (has_repeat shares more) h in
    joined_differ g (joint more) d.0 (groups_differ more both.1 d.1)
    (apart_from_all g more (each_more (λ k. shares g k ≡ false) (Apart g) (λ k e. apart_of g k e) more (each_not (shares g) more both.0)))

module _ {A : Type 0} (name : A → List ℕ) where
  each_named : (n : List ℕ) (xs : List A) → Each (λ y. n ≢ y) (map name xs) → Each (λ x. n ≢ name x) xs
  each_named n [] h = tt
  each_named n (x ∷ more) h = (h.0, each_named n more h.1)

  pub named_differ : (xs : List A) → Differ (map name xs) → NamesDiffer name xs
  named_differ [] h = tt
  named_differ (x ∷ more) h = (each_named (name x) more h.0, named_differ more h.1)
