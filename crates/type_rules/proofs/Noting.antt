-- What notes say, once a parameter is noted.
use Rattle.std.proofs.Common.{◌≡◌, ℕ, List, Some, cond, is_eq, sym, ◌∙◌}
use Rattle.std.specs.BTreeMap.{BTreeMap}
use Rattle.std.specs.BTreeMap as tree
use Rattle.std.specs.Cmp.Lexicographic.{slice_cmp, texts_ties}
use Rattle.std.specs.Ordering.{nat_cmp}
use Rattle.ev_list.specs.declared.param.Param.{Param}
use Rattle.core_ir.specs.declared.ty.Ty.{Ty}
use Rattle.type_rules.specs.Known.{known_by, with_parameter}

pub parameter_noted : (types : BTreeMap ℕ Ty) (m n : BTreeMap (List ℕ) Param) (name : List ℕ) (kept p : Param) → name ≡ p.name → kept ≡ p
    → ((x : List ℕ) → tree.get (slice_cmp nat_cmp) n x ≡ cond (is_eq (slice_cmp nat_cmp name x)) (Some kept) (tree.get (slice_cmp nat_cmp) m x))
    → known_by (record { types = types; parameters = n }) ≡ with_parameter p (known_by (record { types = types; parameters = m }))
parameter_noted types m n name kept p same copied updates =
    λ i. record {
      type_of = λ k. tree.get nat_cmp types k;
      parameter = λ x. (updates x ∙ (λ i. cond (sym (texts_ties (same i) x) i) (Some (copied i)) (tree.get (slice_cmp nat_cmp) m x))) i;
    }
