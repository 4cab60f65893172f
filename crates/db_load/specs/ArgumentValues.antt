-- The values of globals and of parameters.
use Rattle.std.specs.Prelude.{ℕ, Bool, List, [], ◌∷◌, ◌++◌, map, Option, Some, None, Result, Ok, Err, if◌then◌else◌}
use Rattle.std.specs.Str.{bytes_eq}
use Rattle.serde_json.specs.Data.{Data, Members, no_members, member}
use Rattle.ev_value.specs.declared.args.Argument.{Argument}
use Rattle.ev_value.specs.declared.value.ScalarTy.{ScalarTy}
use Rattle.ev_value.specs.declared.value.Val.{Val}
use Rattle.ev_list.specs.declared.param.Param.{Param}
use Rattle.ev_schema.specs.declared.types.GlobalInfo.{GlobalInfo}
use Rattle.db_draft.specs.Values.{value_of}
use Rattle.db_draft.specs.declared.draft.Plain.{Plain}
use Rattle.db_draft.specs.declared.draft.Plain.TheVariants as plain
use Rattle.db_load.specs.Drafts.{plain_of}
use Rattle.db_load.specs.declared.refusal.ArgsRule.{ArgsRule}
use Rattle.db_load.specs.declared.refusal.ArgsRule.TheVariants as rule
use Rattle.db_load.specs.declared.refusal.BrokenArgs.{BrokenArgs}
use Rattle.db_load.specs.declared.argument_names.Wanted.{Wanted}

-- the names that may have values, with their types
abbrev pub wanted_globals : List GlobalInfo → List Wanted
wanted_globals gs = map (λ (g : GlobalInfo). record { name = g.name; ty = g.ty }) gs

abbrev pub wanted_params : List Param → List Wanted
wanted_params ps = map (λ (p : Param). record { name = p.name; ty = p.ty }) ps

abbrev pub ty_of : List Wanted → List ℕ → Option ScalarTy
ty_of [] n = None
ty_of (w ∷ more) n = if bytes_eq w.name n then Some w.ty else ty_of more n

-- a rule that fails at a name
abbrev pub at_name : ArgsRule → Bool → List ℕ → BrokenArgs
at_name r global n = record { rule = r; global = global; name = Some n }

-- `null` is no value; A3 fails where the value is of another type
abbrev pub typed : Bool → List ℕ → Option Val → Result (Option Argument) BrokenArgs
typed global n None = Err (at_name rule.A3 global n)
typed global n (Some v) = Ok (Some (record { name = n; value = v }))

abbrev pub valued : Bool → List ℕ → ScalarTy → Plain → Result (Option Argument) BrokenArgs
valued global n t plain.Null = Ok None
valued global n t (plain.Bool b) = typed global n (value_of t (plain.Bool b))
valued global n t (plain.Int z) = typed global n (value_of t (plain.Int z))
valued global n t (plain.Str s) = typed global n (value_of t (plain.Str s))
valued global n t plain.Other = typed global n (value_of t plain.Other)

-- A2 fails where the name may have no value
abbrev pub argument : Bool → List ℕ → Option ScalarTy → Plain → Result (Option Argument) BrokenArgs
argument global n None p = Err (at_name rule.A2 global n)
argument global n (Some t) p = valued global n t p

abbrev pub and_one : List Argument → Option Argument → List Argument
and_one found None = found
and_one found (Some a) = found ++ a ∷ []

abbrev pub and_then : Result (Option Argument) BrokenArgs → (Option Argument → Result (List Argument) BrokenArgs) → Result (List Argument) BrokenArgs
and_then (Ok next) f = f next
and_then (Err b) f = Err b

-- the values behind others, in byte order of their names, as a JSON object has its members
abbrev pub arguments : Bool → List Wanted → List Argument → Members → Result (List Argument) BrokenArgs
arguments global ws found no_members = Ok found
arguments global ws found (member n d more) = and_then (argument global n (ty_of ws n) (plain_of d)) (λ next. arguments global ws (and_one found next) more)
