-- Two worlds that give the same are one.
use Rattle.std.proofs.Common.{◌≡◌, ap}
use Rattle.eql_sem.specs.Parts.{values_in, items_in}
use Rattle.eql_sem.specs.World.{World}
use Rattle.eql_world.specs.Laws.{GiveTheSame, MeaningIsOfTheWorldAlone}

one_world : (v w : World) → GiveTheSame v w → v ≡ w
one_world v w h = λ i. record {
  extent = λ t. h.extents t i;
  step = λ s xs. h.steps s xs i;
  link_property = λ l n x y. h.properties l n x y i;
  param = λ n. h.params n i;
  global = λ n. h.globals n i;
}

pub meaning_is_of_the_world_alone : MeaningIsOfTheWorldAlone
meaning_is_of_the_world_alone = record {
  same_items = λ v w h x ns b. ap (λ (u : World). items_in u x ns b) (one_world v w h);
  same_values = λ v w h x ns b. ap (λ (u : World). values_in u x ns b) (one_world v w h);
}
