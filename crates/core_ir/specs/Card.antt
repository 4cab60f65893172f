-- Cardinalities: the least and the most number of items.
use Rattle.std.specs.Prelude.{◌≡◌, ℕ, zero, suc, ◌+◌, ◌*◌, ◌≤◌, min, max, Bool, true, false, not, Option, Some, None}
use Rattle.core_ir.specs.declared.card.Card.{Card}
use Rattle.core_ir.specs.declared.card.Card.TheVariants as card

abbrev pub least : Card → ℕ
least card.Empty = 0
least card.AtMostOne = 0
least card.One = 1
least card.AtLeastOne = 1
least card.Many = 0

-- the most, or nothing where it may be many
abbrev pub most : Card → Option ℕ
most card.Empty = Some 0
most card.AtMostOne = Some 1
most card.One = Some 1
most card.AtLeastOne = None
most card.Many = None

-- whether a most allows a number
abbrev pub AtMost : Option ℕ → ℕ → Type 0
AtMost (Some m) n = n ≤ m
AtMost None n = Unit {0}

-- whether more than one item is allowed
abbrev pub is_many : Card → Bool
is_many card.Empty = false
is_many card.AtMostOne = false
is_many card.One = false
is_many card.AtLeastOne = true
is_many card.Many = true

-- whether at most one item is allowed
abbrev pub is_single : Card → Bool
is_single c = not (is_many c)

-- whether there is always an item
abbrev pub is_required : Card → Bool
is_required card.Empty = false
is_required card.AtMostOne = false
is_required card.One = true
is_required card.AtLeastOne = true
is_required card.Many = false

-- a number of items lies within a cardinality
abbrev pub Within : Card → ℕ → Type 0
Within c n = (least c ≤ n) × AtMost (most c) n

-- the cardinality with a least and a most; pairs without a name do not come up
abbrev pub card_with : ℕ → Option ℕ → Card
card_with zero (Some zero) = card.Empty
card_with zero (Some (suc m)) = card.AtMostOne
card_with zero None = card.Many
card_with (suc l) (Some m) = card.One
card_with (suc l) None = card.AtLeastOne

-- the product of two mosts; nothing times many is nothing
abbrev pub most_times : Option ℕ → Option ℕ → Option ℕ
most_times (Some zero) n = Some 0
most_times m (Some zero) = Some 0
most_times (Some m) (Some n) = Some (m * n)
most_times _ _ = None

-- the sum of two mosts; one and one make many
abbrev pub most_plus : Option ℕ → Option ℕ → Option ℕ
most_plus (Some zero) n = n
most_plus m (Some zero) = m
most_plus _ _ = None

-- the greater of two mosts
abbrev pub most_either : Option ℕ → Option ℕ → Option ℕ
most_either (Some m) (Some n) = Some (max m n)
most_either _ _ = None

-- of each item of the one an item of the other
abbrev pub times : Card → Card → Card
times c d = card_with (least c * least d) (most_times (most c) (most d))

-- the items of the one and then those of the other
abbrev pub plus : Card → Card → Card
plus c d = card_with (max (least c) (least d)) (most_plus (most c) (most d))

-- the items of the one or those of the other
abbrev pub either : Card → Card → Card
either c d = card_with (min (least c) (least d)) (most_either (most c) (most d))

-- the items, or one empty place where there are none
abbrev pub or_one : Card → Card
or_one c = card_with 1 (most_either (Some 1) (most c))

-- The bounds of lists bound what is made of the lists: the product of their lengths, their sum, and either of them.
pub record CardsBound : Type 0 where
  pub of_product : (c d : Card) (m n : ℕ) → Within c m → Within d n → Within (times c d) (m * n)
  pub of_sum : (c d : Card) (m n : ℕ) → Within c m → Within d n → Within (plus c d) (m + n)
  pub of_first : (c d : Card) (n : ℕ) → Within c n → Within (either c d) n
  pub of_second : (c d : Card) (n : ℕ) → Within d n → Within (either c d) n
  pub of_place : (c : Card) (n : ℕ) → Within c n → Within (or_one c) (max 1 n)

-- The least and the most of what is made are those that the words say.
pub record CardsKeep : Type 0 where
  pub least_times : (c d : Card) → least (times c d) ≡ least c * least d
  pub most_of_times : (c d : Card) → most (times c d) ≡ most_times (most c) (most d)
  pub least_plus : (c d : Card) → least (plus c d) ≡ max (least c) (least d)
  pub most_of_plus : (c d : Card) → most (plus c d) ≡ most_plus (most c) (most d)
  pub least_either : (c d : Card) → least (either c d) ≡ min (least c) (least d)
  pub most_of_either : (c d : Card) → most (either c d) ≡ most_either (most c) (most d)
