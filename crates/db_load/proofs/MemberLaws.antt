-- What a map's look-ups say of its members.
use Rattle.std.proofs.Common.{◌≡◌, ℕ, suc, ◌==◌, Bool, true, false, List, [], ◌∷◌, codes, length, Option, None, option_map, refl, ap, ◌∙◌, nat_cmp}
use Rattle.std.proofs.lemmas.Bool.{eqb-true}
use Rattle.std.specs.BTreeMap.{is_at}
use Rattle.std.specs.Cmp.Lexicographic.{slice_cmp}
use Rattle.std.specs.Map.{lookup}
use Rattle.std.specs.Prelude.{String, string_bytes}
use Rattle.std.specs.declared.alloc.Global.{Global}
use Rattle.serde_json.specs.Find.{get_member}
use Rattle.serde_json.specs.View.{view, members_view}
use Rattle.serde_json.specs.declared.value.Value.{Value}
use Rattle.serde_json.proofs.Views.{view-lookup}
use Rattle.db_load.specs.Document.{count, is_format, objects_in, document_in}

-- a look-up finds the member
pub found : (name : List ℕ) (es : List (String Global × Value)) (r : Option Value)
    → r ≡ lookup (is_at (λ k. slice_cmp nat_cmp name (string_bytes k))) es → option_map view r ≡ get_member name (members_view es)
found name es r e = ap (option_map view) e ∙ view-lookup name es

-- a map has as many entries as members
pub counted : (es : List (String Global × Value)) → count (members_view es) ≡ length es
counted [] = refl
counted (e ∷ es) = ap suc (counted es)

module _ (es : List (String Global × Value)) where
  pub ill_counted : (length es ≡ 2 → ⊥) → None ≡ document_in (members_view es)
  ill_counted other = by_case (length es == 2) refl
    where
      by_case : (b : Bool) → (length es == 2) ≡ b → None ≡ document_in (members_view es)
      by_case true e = absurd (other (eqb-true (length es) 2 e))
      by_case false e = rw (counted es, e) refl

  pub ill_formed : (length es == 2) ≡ true → is_format (get_member (codes "format") (members_view es)) ≡ false → None ≡ document_in (members_view es)
  ill_formed e f = rw (counted es, e, f) refl

  pub formed : (r : Option Value) → (length es == 2) ≡ true → is_format (get_member (codes "format") (members_view es)) ≡ true
      → r ≡ lookup (is_at (λ k. slice_cmp nat_cmp (codes "objects") (string_bytes k))) es → objects_in (option_map view r) ≡ document_in (members_view es)
  formed r e f l = ap objects_in (found (codes "objects") es r l) ∙ rw (counted es, e, f) refl
