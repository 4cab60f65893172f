-- The arguments that a text writes, or why it is refused.
use Rattle.std.specs.Prelude.{◌≡◌, ◌⊎◌, ℕ, Bool, true, false, not, ◌||◌, List, [], ◌∷◌, Option, Some, None, Result, Ok, Err, if◌then◌else◌}
use Rattle.std.specs.List.{list_any}
use Rattle.std.specs.Cmp.Lexicographic.{slice_cmp}
use Rattle.std.specs.Ordering.{nat_cmp, is_lt}
use Rattle.std.specs.Str.{bytes_eq}
use Rattle.serde_json.specs.Data.{Data, Members}
use Rattle.ev_value.specs.declared.args.Args.{Args}
use Rattle.ev_value.specs.declared.args.Argument.{Argument}
use Rattle.ev_list.specs.declared.param.Param.{Param}
use Rattle.ev_schema.specs.declared.schema.Schema.{Schema}
use Rattle.db_load.specs.Text.{Says}
use Rattle.db_load.specs.declared.refusal.ArgsRefusal.{ArgsRefusal}
use Rattle.db_load.specs.declared.refusal.ArgsRefusal.TheVariants as refusal
use Rattle.db_load.specs.declared.refusal.ArgsRule.TheVariants as rule
use Rattle.db_load.specs.declared.refusal.BrokenArgs.{BrokenArgs}
use Rattle.db_load.specs.Sections.{Sections, sections}
use Rattle.db_load.specs.ArgumentValues.{wanted_globals, wanted_params, at_name, arguments}

-- whether a parameter has an argument or needs none
abbrev pub is_given : List Argument → Param → Bool
is_given found p = p.optional || list_any (λ (a : Argument). bytes_eq a.name p.name) found

-- the lesser of two names, in byte order
abbrev pub lesser : Option (List ℕ) → List ℕ → Option (List ℕ)
lesser None n = Some n
lesser (Some least) n = if is_lt (slice_cmp nat_cmp n least) then Some n else Some least

-- the least name of a parameter that is not given, and of one that was found before
abbrev pub least_absent : List Argument → Option (List ℕ) → List Param → Option (List ℕ)
least_absent found least [] = least
least_absent found least (p ∷ more) = least_absent found (if is_given found p then least else lesser least p.name) more

-- A4 fails where a parameter is not given
abbrev pub complete : List Argument → List Argument → Option (List ℕ) → Result Args BrokenArgs
complete globals params None = Ok (record { globals = globals; params = params })
complete globals params (Some n) = Err (at_name rule.A4 false n)

-- the values of globals
abbrev pub globals_of : Schema → Members → Result (List Argument) BrokenArgs
globals_of schema ms = arguments true (wanted_globals schema.globals) [] ms

-- the values of parameters
abbrev pub params_of : List Param → Members → Result (List Argument) BrokenArgs
params_of ps ms = arguments false (wanted_params ps) [] ms

abbrev pub with_params : List Param → List Argument → Result (List Argument) BrokenArgs → Result Args BrokenArgs
with_params ps globals (Ok params) = complete globals params (least_absent params None ps)
with_params ps globals (Err b) = Err b

abbrev pub with_globals : List Param → Members → Result (List Argument) BrokenArgs → Result Args BrokenArgs
with_globals ps ms (Ok globals) = with_params ps globals (params_of ps ms)
with_globals ps ms (Err b) = Err b

-- the text as a whole is refused
abbrev pub ill_formed : BrokenArgs
ill_formed = record { rule = rule.A1; global = false; name = None }

abbrev pub args_in : Schema → List Param → Option Sections → Result Args BrokenArgs
args_in schema ps None = Err ill_formed
args_in schema ps (Some s) = with_globals ps s.params (globals_of schema s.globals)

-- The arguments that a JSON value writes, or the rule that fails first: A1; then A2 and A3 of globals and then of parameters, each in byte order
-- of their names; then A4 at the least name.
abbrev pub args_of : Schema → List Param → Data → Result Args BrokenArgs
args_of schema ps d = args_in schema ps (sections d)

abbrev pub told : {A : Type 0} → Result A BrokenArgs → Result A ArgsRefusal
told (Ok x) = Ok x
told (Err b) = Err (refusal.Rule b)

-- What a text loads as: A1 fails where it is no JSON. Want of memory may come anywhere.
abbrev pub IsLoaded : List ℕ → Schema → List Param → Result Args ArgsRefusal → Type 0
IsLoaded text schema ps result =
    (result ≡ Err refusal.Memory)
    ⊎ (((d : Data) × Says text d × (result ≡ told (args_of schema ps d)))
    ⊎ (((d : Data) → Says text d → ⊥) × (result ≡ Err (refusal.Rule ill_formed))))

-- the answer is this one, or memory ran out
abbrev pub IsAnswer : {A : Type 0} → Result A ArgsRefusal → Result A BrokenArgs → Type 0
IsAnswer result due = (result ≡ Err refusal.Memory) ⊎ (result ≡ told due)
