-- Elements in byte order of their names.
use Rattle.std.proofs.Common.{◌≡◌, ◌≢◌, ℕ, Bool, List, [], ◌∷◌, refl, sym, ap, ◌∙◌}
use Rattle.std.specs.Cmp.Lexicographic.{slice_cmp}
use Rattle.std.specs.Ordering.{nat_cmp, is_lt}
use Rattle.ev_value.specs.Order.{val_cmp}
use Rattle.ev_value.specs.declared.value.Val.{Val}
use Rattle.ev_value.specs.declared.value.Val.TheVariants as val
use Rattle.db_store.specs.Fits.{Each, Ascend, text_before}
use Rattle.db_check.specs.Laws.{NamesDiffer}
use Rattle.db_check.proofs.IdOrder.{ascend_more}
use Rattle.db_check.proofs.Sorted.{sorted, earlier, KeysDiffer, ascend_sorted}

texts_cmp : (m n : List ℕ) → val_cmp (val.Str m) (val.Str n) ≡ slice_cmp nat_cmp m n
unfolding val_cmp
texts_cmp m n = refl

module _ {A : Type 0} (name : A → List ℕ) where
  abbrev pub name_key : A → Val
  name_key x = val.Str (name x)

  abbrev pub by_names : A → A → Bool
  by_names x y = text_before (name x) (name y)

  apart : (x : A) (xs : List A) → Each (λ y. name x ≢ name y) xs → Each (λ y. name_key x ≢ name_key y) xs
  apart x [] h = tt
  apart x (y ∷ more) h = ((λ e. let same : name x ≡ name y = cc in h.0 same), apart x more h.1)

  keys_differ : (xs : List A) → NamesDiffer name xs → KeysDiffer name_key xs
  keys_differ [] h = tt
  keys_differ (x ∷ more) h = (apart x more h.0, keys_differ more h.1)

  -- where names differ, they ascend
  pub names_ascend : (xs : List A) → NamesDiffer name xs → Ascend by_names (sorted name_key xs)
  names_ascend xs d =
      ascend_more (earlier name_key) by_names (λ x y h. ap is_lt (sym (texts_cmp (name x) (name y))) ∙ h) (sorted name_key xs) (ascend_sorted name_key xs (keys_differ xs d))
