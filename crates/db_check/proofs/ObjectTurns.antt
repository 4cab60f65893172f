-- One turn of the loop over objects.
use Rattle.std.proofs.Common.{◌≡◌, ℕ, suc, ◌+◌, List, ◌∷◌, Option, None, slice_get, sym, ap, ◌∙◌, add-one}
use Rattle.core_ir.specs.declared.path.PtrId.{PtrId}
use Rattle.ev_schema.specs.declared.pointer.PtrInfo.{PtrInfo}
use Rattle.db_store.specs.declared.object.Object.{Object}
use Rattle.db_draft.specs.First.{or_else}
use Rattle.db_draft.specs.declared.refusal.Broken.{Broken}
use Rattle.db_check.specs.Exclusive.{Holding, held_after, clash, pointers_at, told_clash, exclusive_from}

module _ (infos : List PtrInfo) (orders : List (List PtrId)) where
  pub exclusive_turn : (old new : Holding) (n : ℕ) (o : Object) (listed : List PtrId) (left rest : List Object) (whole : Option Broken) → left ≡ o ∷ rest → listed ≡ pointers_at (slice_get orders o.ty.0) → None ≡ clash infos old n o listed → new ≡ held_after infos old n o listed → exclusive_from infos orders old n left ≡ whole → exclusive_from infos orders new (n + 1) rest ≡ whole
  exclusive_turn old new n o listed left rest whole e ps c h is =
      ap (λ k. exclusive_from infos orders new k rest) (add-one n)
      ∙ (λ i. or_else (told_clash n (c i)) (exclusive_from infos orders (h i) (suc n) rest))
      ∙ ap (λ l. or_else (told_clash n (clash infos old n o l)) (exclusive_from infos orders (held_after infos old n o l) (suc n) rest)) ps
      ∙ sym (ap (exclusive_from infos orders old n) e) ∙ is
