-- What stands for a pointer, as elements.
use Rattle.std.specs.Prelude.{Bool, true, false, not, List, [], ◌∷◌, Option, Some, None, if◌then◌else◌}
use Rattle.core_ir.specs.declared.card.Card.{Card}
use Rattle.core_ir.specs.Card.{is_required}
use Rattle.db_draft.specs.First.{when}
use Rattle.db_draft.specs.declared.draft.Draft.{Draft}
use Rattle.db_draft.specs.declared.draft.Draft.TheVariants as draft
use Rattle.db_draft.specs.declared.draft.Element.{Element}
use Rattle.db_draft.specs.declared.draft.Element.TheVariants as element
use Rattle.db_draft.specs.declared.draft.Plain.{Plain}
use Rattle.db_draft.specs.declared.draft.Plain.TheVariants as plain
use Rattle.db_draft.specs.declared.refusal.Rule.{Rule}
use Rattle.db_draft.specs.declared.refusal.Rule.TheVariants as rule

abbrev pub is_null : Plain → Bool
is_null plain.Null = true
is_null _ = false

-- whether `null` stands there
abbrev pub is_empty : Element → Bool
is_empty (element.Plain p) = is_null p
is_empty (element.Object fields) = false

-- No array stands for a single pointer (X9), and only an array or `null` for a multi one (X7).
abbrev pub form_flaw : Bool → Option Draft → Option Rule
form_flaw many None = None
form_flaw false (Some (draft.One e)) = None
form_flaw false (Some (draft.Array es)) = Some rule.X9
form_flaw true (Some (draft.One e)) = when (not (is_empty e)) rule.X7
form_flaw true (Some (draft.Array es)) = None

-- The elements that stand for a pointer: none where nothing or `null` does.
abbrev pub elements : Option Draft → List Element
elements None = []
elements (Some (draft.One e)) = if is_empty e then [] else e ∷ []
elements (Some (draft.Array es)) = es

-- X8 fails where a required pointer has no element
abbrev pub is_lacking : Card → List Element → Bool
is_lacking c [] = is_required c
is_lacking c (e ∷ more) = false
