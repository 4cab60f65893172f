-- The values that are made of a property where none of its rules fails.
use Rattle.std.proofs.Common.{◌≡◌, ◌≢◌, ℕ, suc, ◌≤◌, Bool, true, false, not, List, [], ◌∷◌, ◌++◌, length, Option, Some, None, is_none, option_map, cond, refl, ap, arith}
use Rattle.std.specs.List.{list_any}
use Rattle.core_ir.specs.Card.{Within, is_many, is_required}
use Rattle.core_ir.specs.declared.card.Card.{Card}
use Rattle.core_ir.specs.declared.card.Card.TheVariants as card
use Rattle.ev_schema.specs.declared.pointer.Limit.{Limit}
use Rattle.ev_schema.specs.declared.pointer.PtrInfo.{PtrInfo}
use Rattle.ev_value.specs.declared.value.ScalarTy.{ScalarTy}
use Rattle.ev_value.specs.declared.value.ScalarTy.TheVariants as scalar
use Rattle.ev_value.specs.declared.value.Val.{Val}
use Rattle.ev_value.specs.declared.value.Val.TheVariants as val
use Rattle.db_store.specs.Fits.{Each}
use Rattle.db_store.specs.Limits.{has_type, meets}
use Rattle.db_draft.specs.First.{or_else, when}
use Rattle.db_draft.specs.Values.{value_of, element_value, id_written}
use Rattle.db_draft.specs.declared.draft.Draft.{Draft}
use Rattle.db_draft.specs.declared.draft.Draft.TheVariants as draft
use Rattle.db_draft.specs.declared.draft.Element.{Element}
use Rattle.db_draft.specs.declared.draft.Element.TheVariants as element
use Rattle.db_draft.specs.declared.draft.Plain.{Plain}
use Rattle.db_draft.specs.declared.draft.Plain.TheVariants as plain
use Rattle.db_draft.specs.declared.refusal.Rule.TheVariants as rule
use Rattle.db_values.specs.Elements.{is_empty, form_flaw, elements, is_lacking}
use Rattle.db_values.specs.Properties.{value_in, values_of, some_ill, breaks, property_flaw}
use Rattle.db_check.proofs.NoFlaw.{neither_of, not_when, not_false, neither, each_not}
use Rattle.db_check.proofs.IdOrder.{each_more}

-- ---- a value is of its type

-- a value, if there is one, is of a type
abbrev pub Typed : ScalarTy → Option Val → Type 0
Typed t None = Unit {0}
Typed t (Some v) = has_type t v ≡ true

id_typed : (o : Option ℕ) → Typed scalar.Uuid (option_map val.Id o)
id_typed None = tt
id_typed (Some n) = refl

pub value_typed : (t : ScalarTy) (p : Plain) → Typed t (value_of t p)
value_typed scalar.Int64 (plain.Int z) = refl
value_typed scalar.Bool (plain.Bool b) = refl
value_typed scalar.Str (plain.Str s) = refl
value_typed scalar.Uuid (plain.Str s) = id_typed (id_written s)
value_typed _ _ = tt

element_typed : (t : ScalarTy) (e : Element) → Typed t (element_value t e)
element_typed t (element.Plain p) = value_typed t p
element_typed t (element.Object fields) = tt

-- ---- values

-- a value is of a type and meets some constraints
abbrev pub IsSound : ScalarTy → List Limit → Val → Type 0
IsSound t limits v = (has_type t v ≡ true) × Each (λ l. meets l v ≡ true) limits

each_met : (limits : List Limit) (v : Val) → breaks limits v ≡ false → Each (λ l. meets l v ≡ true) limits
each_met limits v h = each_more (λ l. not (meets l v) ≡ false) (λ l. meets l v ≡ true) (λ l e. not_false (meets l v) e) limits (each_not (λ l. not (meets l v)) limits h)

-- where no element is ill, each writes one value
pub sound_values : (t : ScalarTy) (limits : List Limit) (es : List Element) → some_ill t es ≡ false → list_any (breaks limits) (values_of t es) ≡ false
    → Each (IsSound t limits) (values_of t es) × (length (values_of t es) ≡ length es)
sound_values t limits [] ill break = (tt, refl)
sound_values t limits (e ∷ more) ill break =
    let both = neither (is_none (element_value t e)) (some_ill t more) ill in
    one (element_value t e) (element_typed t e) both.0 break (λ b. sound_values t limits more both.1 b)
  where
    one : (o : Option Val) → Typed t o → is_none o ≡ false → list_any (breaks limits) (value_in o ++ values_of t more) ≡ false
        → (list_any (breaks limits) (values_of t more) ≡ false → Each (IsSound t limits) (values_of t more) × (length (values_of t more) ≡ length more))
        → Each (IsSound t limits) (value_in o ++ values_of t more) × (length (value_in o ++ values_of t more) ≡ suc (length more))
    one None h ill b later = absurd (cc)
    one (Some v) h ill b later =
        let both = neither (breaks limits v) (list_any (breaks limits) (values_of t more)) b in
        let is = later both.1 in
        (((h, each_met limits v both.0), is.0), ap suc is.1)

-- ---- how many

few : (d : Option Draft) → form_flaw false d ≡ None → length (elements d) ≤ 1
few None h = omega arith
few (Some (draft.One e)) h = by_test (is_empty e)
  where
    by_test : (b : Bool) → length (cond b [] (e ∷ [])) ≤ 1
    by_test true = omega arith
    by_test false = omega arith
few (Some (draft.Array es)) h = absurd (cc)

some : (c : Card) (es : List Element) → is_required c ≡ true → is_lacking c es ≡ false → 1 ≤ length es
some c [] r h = absurd (cc)
some c (e ∷ more) r h = omega arith

pub bounded : (c : Card) (d : Option Draft) → c ≢ card.Empty → form_flaw (is_many c) d ≡ None → is_lacking c (elements d) ≡ false → Within c (length (elements d))
bounded card.Empty d n f l = absurd (n refl)
bounded card.AtMostOne d n f l = (omega arith, few d f)
bounded card.One d n f l = (some card.One (elements d) refl l, few d f)
bounded card.AtLeastOne d n f l = (some card.AtLeastOne (elements d) refl l, tt)
bounded card.Many d n f l = (omega arith, tt)

-- where none of the rules on a property fails, no value is ill or breaks a constraint, and none is lacking
pub property_passes : (info : PtrInfo) (t : ScalarTy) (es : List Element) → property_flaw info t es ≡ None
    → (some_ill t es ≡ false) × (is_lacking info.card es ≡ false) × (list_any (breaks info.limits) (values_of t es) ≡ false)
property_passes info t es h =
    let first = neither_of (when (some_ill t es) rule.X7) (or_else (when (is_lacking info.card es) rule.X8) (when (list_any (breaks info.limits) (values_of t es)) rule.X12)) h in
    let second = neither_of (when (is_lacking info.card es) rule.X8) (when (list_any (breaks info.limits) (values_of t es)) rule.X12) first.1 in
    (not_when (some_ill t es) rule.X7 first.0, not_when (is_lacking info.card es) rule.X8 second.0, not_when (list_any (breaks info.limits) (values_of t es)) rule.X12 second.1)
