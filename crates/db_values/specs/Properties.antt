-- The rules on the values of a property.
use Rattle.std.specs.Prelude.{Bool, not, List, [], ◌∷◌, ◌++◌, Option, Some, None, is_none}
use Rattle.std.specs.List.{list_any}
use Rattle.ev_value.specs.declared.value.ScalarTy.{ScalarTy}
use Rattle.ev_value.specs.declared.value.Val.{Val}
use Rattle.ev_schema.specs.declared.pointer.Limit.{Limit}
use Rattle.ev_schema.specs.declared.pointer.PtrInfo.{PtrInfo}
use Rattle.db_store.specs.Limits.{meets}
use Rattle.db_draft.specs.First.{or_else, when}
use Rattle.db_draft.specs.Values.{element_value}
use Rattle.db_draft.specs.declared.draft.Element.{Element}
use Rattle.db_draft.specs.declared.refusal.Rule.{Rule}
use Rattle.db_draft.specs.declared.refusal.Rule.TheVariants as rule
use Rattle.db_values.specs.Elements.{is_lacking}

abbrev pub value_in : Option Val → List Val
value_in None = []
value_in (Some v) = v ∷ []

-- the values that elements write
abbrev pub values_of : ScalarTy → List Element → List Val
values_of t [] = []
values_of t (e ∷ more) = value_in (element_value t e) ++ values_of t more

-- X7 fails where an element is no value of the type
abbrev pub some_ill : ScalarTy → List Element → Bool
some_ill t es = list_any (λ e. is_none (element_value t e)) es

-- X12 fails where a value does not meet a constraint
abbrev pub breaks : List Limit → Val → Bool
breaks limits v = list_any (λ l. not (meets l v)) limits

-- the first of the rules that fails for what stands for a property
abbrev pub property_flaw : PtrInfo → ScalarTy → List Element → Option Rule
property_flaw info t es =
    or_else (when (some_ill t es) rule.X7)
    (or_else (when (is_lacking info.card es) rule.X8) (when (list_any (breaks info.limits) (values_of t es)) rule.X12))
