-- Each type and each pointer of a schema of some parts has a number.
use Rattle.std.proofs.Common.{◌∷◌, [], length-append, arith}
use Rattle.ev_schema.specs.Facts.{id_info}
use Rattle.ev_schema.specs.Numbered.{MadeIsNumbered}

pub made_numbered : MadeIsNumbered
made_numbered types pointers globals policies known fit =
    let one_more = length-append pointers (id_info ∷ []) in
    record { types = known; some = omega arith; few = omega arith }
