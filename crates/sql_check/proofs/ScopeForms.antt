-- The scope of columns, at the code's constructors.
use Rattle.std.proofs.Common.{◌≡◌, Bool, true, false, List, [], ◌∷◌, ◌++◌, Option, Some, None, if◌then◌else◌, refl, ap, sym, ◌∙◌}
use Rattle.std.specs.Str.{bytes_eq}
use Rattle.sql_ast.specs.declared.catalog.Typed.{Typed}
use Rattle.sql_ast.specs.declared.catalog.Catalog.{Catalog}
use Rattle.sql_ast.specs.declared.select.FromItem.{FromItem}
use Rattle.sql_ast.specs.WellFormed.{Name}
use Rattle.sql_check.specs.declared.sort.Known.{Known}
use Rattle.sql_check.specs.declared.sort.SortFrames.{SortFrames}
use Rattle.sql_check.specs.declared.sort.SortFrames.TheVariants as frames
use Rattle.sql_check.specs.SortFrames.{sorts, with_known}
use Rattle.sql_check.specs.TypeLists.{newest_known, column_type_of, known_of, within_items}
use Rattle.sql_check.specs.Types.{Sorts, column_type, sort_under}
use denote.Ref.{Bor}
use denote.Hole.Carrier as carrier

pub sort_top : sorts frames.Top ≡ []
unfolding sorts
sort_top = refl

pub frame_known : (outer : Bor SortFrames) (known : Bor (List Known)) → sorts (frames.Items outer known) ≡ with_known known.now (sorts outer.now)
unfolding sorts carrier.hidden
frame_known outer known = refl

-- one more entry is the newest
pub known_push : (ks : List Known) (k : Known) (d : Sorts) → with_known (ks ++ k ∷ []) d ≡ k ∷ with_known ks d
known_push [] k d = refl
known_push (first ∷ more) k d = known_push more k (first ∷ d)

-- what an item gives behind those before it
module _ (catalog : Catalog) (params : List Typed) (item : FromItem) (known ks new : List Known) (entry : Known) (d : Sorts) where
  pub known_next : ks ≡ known → entry ≡ known_of catalog params item (with_known ks d) → new ≡ known ++ entry ∷ []
      → with_known new d ≡ known_of catalog params item (with_known known d) ∷ with_known known d
  known_next k e n =
      ap (λ l. with_known l d) n ∙ known_push known entry d ∙ ap (λ x. x ∷ with_known known d) (e ∙ ap (λ l. known_of catalog params item (with_known l d)) k)

  pub known_more : (items more : List FromItem) (all : Sorts) → items ≡ item ∷ more → within_items catalog params items (with_known known d) ≡ all
      → ks ≡ known → entry ≡ known_of catalog params item (with_known ks d) → new ≡ known ++ entry ∷ []
      → within_items catalog params more (with_known new d) ≡ all
  known_more items more all here h k e n =
      ap (λ w. within_items catalog params more w) (known_next k e n) ∙ sym (ap (λ l. within_items catalog params l (with_known known d)) here) ∙ h

module _ (alias name : Name) where
  with_newer : (b : Bool) (k : Known) (found : Option Known) (d : Sorts) → column_type_of alias name (if b then Some k else found) d ≡ (if b then sort_under name k.columns else column_type_of alias name found d)
  with_newer true k found d = refl
  with_newer false k found d = refl

  in_known : (ks : List Known) (found : Option Known) (d outer : Sorts) → column_type alias name d ≡ column_type_of alias name found outer
      → column_type alias name (with_known ks d) ≡ column_type_of alias name (newest_known alias ks found) outer
  in_known [] found d outer h = h
  in_known (k ∷ more) found d outer h =
      in_known more _ (k ∷ d) outer (ap (λ t. if bytes_eq k.alias alias then sort_under name k.columns else t) h ∙ sym (with_newer (bytes_eq k.alias alias) k found outer))

  pub sort_found : (outer : Bor SortFrames) (known : Bor (List Known)) → column_type alias name (sorts (frames.Items outer known)) ≡ column_type_of alias name (newest_known alias known.now None) (sorts outer.now)
  unfolding sorts carrier.hidden
  sort_found outer known = in_known known.now None (sorts outer.now) (sorts outer.now) refl
