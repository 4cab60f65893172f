-- One turn of the product of several lists.
use Rattle.std.proofs.Common.{◌≡◌, List, ◌∷◌, sym, ap, ◌∙◌}
use Rattle.ev_value.specs.Item.{bind, both, one}
use Rattle.ev_value.specs.declared.item.Item.{Item}
use Rattle.eql_sem.specs.Operations.{product, gathered}

pub product_turn : {A : Type 0} (made : List (Item (List A))) (lists more : List (List (Item A))) (first : List (Item A)) (tails : List (Item (List A)))
    → lists ≡ first ∷ more → tails ≡ product more → made ≡ bind first (λ x. bind tails (λ rest. one (x ∷ rest))) → made ≡ product lists
product_turn made lists more first tails is_front is_rest is_made =
    is_made ∙ ap (λ ts. bind first (λ x. bind ts (λ rest. one (x ∷ rest)))) is_rest ∙ ap product (sym is_front)

pub gathered_turn : {A : Type 0} (made : List (Item (List A))) (lists more : List (List (Item A))) (first : List (Item A)) (tails : List (Item (List A)))
    → lists ≡ first ∷ more → tails ≡ gathered more → made ≡ both first tails (λ x rest. one (x ∷ rest)) → made ≡ gathered lists
gathered_turn made lists more first tails is_front is_rest is_made =
    is_made ∙ ap (λ ts. both first ts (λ x rest. one (x ∷ rest))) is_rest ∙ ap gathered (sym is_front)
