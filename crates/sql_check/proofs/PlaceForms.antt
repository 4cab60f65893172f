-- Places as the code's constructor names them.
use Rattle.std.proofs.Common.{◌≡◌, ℕ, List, ◌∷◌, refl}
use borrow.Enum.Total as total
use Rattle.sql_grammar.specs.contracts.grown.Places as contract
use Rattle.sql_grammar.specs.declared.grown.Places.{Places, At', Row_of-Places, out-Places}
use Rattle.sql_grammar.specs.declared.grown.Places.TheBlock as block
use Rattle.sql_grammar.specs.declared.grown.Places.TheVariants as places
use Rattle.sql_check.specs.Walk.{listed, start, parts_of}
use denote.Hole.Carrier.{shown-items, list-listed}
use denote.Hole.Carrier as carrier
use mathlib.Core.Former.{list, list_count, this}

pub start_is : (byte : ℕ) (ps more : List Places) → start (places.At byte ps ∷ more) ≡ byte
start_is byte ps more = refl

shown_is : (s : List (Unit {0})) (row : Row_of-Places (list_count (this {0}) s 0)) → block.shown-the_row-Places-0 s row ≡ listed row
unfolding block.shown-the_row-Places-0
shown_is s row = shown-items (list (this {0})) Places Row_of-Places block.view-the_row-Places (λ x. x) (list-listed Places) s row

-- what a match binds
pub parts_value : (p : Places) (h : _) → (total.values_d contract.enum 0 h p).1.0 ≡ parts_of p
unfolding out-Places carrier.out
parts_value (At' byte s row) h = shown_is s row
