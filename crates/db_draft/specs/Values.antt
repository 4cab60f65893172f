-- The value that a draft writes.
use Rattle.std.specs.Prelude.{ℕ, List, Option, Some, None, option_map}
use Rattle.std.specs.Int.{from_be_bytes, w128}
use Rattle.uuid.specs.Text.{parsed}
use Rattle.ev_value.specs.declared.value.ScalarTy.{ScalarTy}
use Rattle.ev_value.specs.declared.value.ScalarTy.TheVariants as scalar
use Rattle.ev_value.specs.declared.value.Val.{Val}
use Rattle.ev_value.specs.declared.value.Val.TheVariants as val
use Rattle.db_draft.specs.declared.draft.Draft.{Draft}
use Rattle.db_draft.specs.declared.draft.Draft.TheVariants as draft
use Rattle.db_draft.specs.declared.draft.Element.{Element}
use Rattle.db_draft.specs.declared.draft.Element.TheVariants as element
use Rattle.db_draft.specs.declared.draft.Plain.{Plain}
use Rattle.db_draft.specs.declared.draft.Plain.TheVariants as plain

-- the number of the uuid that a text writes, in one of the forms that the crate `uuid` parses
abbrev pub id_written : List ℕ → Option ℕ
id_written s = option_map (from_be_bytes w128) (parsed s)

-- the uuid that a text without parts writes
abbrev pub plain_id : Plain → Option ℕ
plain_id (plain.Str s) = id_written s
plain_id _ = None

-- the uuid that a draft writes as a text
abbrev pub id_in : Option Draft → Option ℕ
id_in (Some (draft.One (element.Plain p))) = plain_id p
id_in _ = None

-- the value of a scalar type that a draft writes, if it writes one
abbrev pub value_of : ScalarTy → Plain → Option Val
value_of scalar.Int64 (plain.Int z) = Some (val.Int z)
value_of scalar.Bool (plain.Bool b) = Some (val.Bool b)
value_of scalar.Str (plain.Str s) = Some (val.Str s)
value_of scalar.Uuid (plain.Str s) = option_map val.Id (id_written s)
value_of _ _ = None

-- the same of what stands in an array
abbrev pub element_value : ScalarTy → Element → Option Val
element_value t (element.Plain p) = value_of t p
element_value t (element.Object fields) = None
