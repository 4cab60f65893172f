-- Tokens that stand before a list.
use Rattle.std.proofs.Common.{◌≡◌, ◌≢◌, List, [], ◌∷◌, length, refl, arith}
use Rattle.sql_print.specs.Marks.{Tokens}
use Rattle.sql_print.specs.Lists.{heading}

pub heading_some : {A : Type 0} (ts : Tokens) (xs : List A) → length xs ≢ 0 → heading ts xs ≡ ts
heading_some ts [] h = absurd (h refl)
heading_some ts (x ∷ xs) h = refl

pub heading_none : {A : Type 0} (ts : Tokens) (xs : List A) → length xs ≡ 0 → heading ts xs ≡ []
heading_none ts [] h = refl
heading_none ts (x ∷ xs) h = absurd (omega arith)
