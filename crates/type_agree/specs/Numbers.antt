-- Trees in which each number stands once.
use Rattle.std.specs.Prelude.{◌≡◌, ◌≢◌, ℕ, ◌==◌, List, [], ◌∷◌, Option, None, AllPairs, map, if◌then◌else◌}
use Rattle.ev_value.specs.declared.args.Args.{Args}
use Rattle.core_ir.specs.declared.phase.Core.{Core}
use Rattle.core_ir.specs.declared.phase.Typed.{Typed}
use Rattle.core_ir.specs.declared.ty.Ty.{Ty}
use Rattle.ev_schema.specs.declared.schema.Schema.{Schema}
use Rattle.type_infer.specs.Laws.{HasTypes}
use Rattle.type_agree.specs.Noted.{Noted, Numbered, Asked, notes_of_tree}
use Rattle.type_agree.specs.Premises.{HasOneTypeEach, ArgumentsSuit}

-- what a place says apart from the type in its slot
abbrev pub bare : Noted → Noted
bare (Numbered n t) = Numbered n None
bare (Asked p) = Asked p

-- the slot that stands first for a number
abbrev pub slot_of : List Noted → ℕ → Option Ty
slot_of [] m = None
slot_of (Numbered n t ∷ more) m = if n == m then t else slot_of more m
slot_of (Asked p ∷ more) m = slot_of more m

-- two places do not speak of one number
abbrev pub Differ : Noted → Noted → Type 0
Differ (Numbered n t) (Numbered m u) = n ≢ m
Differ (Numbered n t) (Asked p) = Unit {0}
Differ (Asked p) other = Unit {0}

-- A tree keeps its numbers and its parameters as it gets its types. So where each number stands once, each has one type, and
-- arguments suit the tree with its types where they suit it before.
pub record NumbersAreKept : Type 0 where
  pub of_trees : (s : Schema) (core : Core) (typed : Typed) → HasTypes s core typed → map bare (notes_of_tree typed.core) ≡ map bare (notes_of_tree core)
  pub one_type : (s : Schema) (core : Core) (typed : Typed) → HasTypes s core typed → AllPairs Differ (notes_of_tree core) → HasOneTypeEach (slot_of (notes_of_tree typed.core)) (notes_of_tree typed.core)
  pub arguments : (s : Schema) (args : Args) (core : Core) (typed : Typed) → HasTypes s core typed → ArgumentsSuit s args (notes_of_tree core) → ArgumentsSuit s args (notes_of_tree typed.core)
