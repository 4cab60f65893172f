-- The form of arguments.
use Rattle.std.specs.Prelude.{ℕ, List, codes, Option, Some, None, if◌then◌else◌}
use Rattle.std.specs.Str.{bytes_eq}
use Rattle.serde_json.specs.Data.{Data, null, boolean, number, string, array, object, Items, no_items, item, Members, no_members, member}

-- the members of the two objects, `globals` and `params`
pub record Sections : Type 0 where
  pub globals : Members
  pub params : Members

-- One more object under a key: there are no keys but the two.
abbrev pub put : Sections → List ℕ → Members → Option Sections
put s key ms =
    if bytes_eq key (codes "globals") then Some (record { globals = ms; params = s.params })
    else (if bytes_eq key (codes "params") then Some (record { globals = s.globals; params = ms }) else None)

abbrev pub and_then : Option Sections → (Sections → Option Sections) → Option Sections
and_then None f = None
and_then (Some s) f = f s

-- what stands under the two keys, each of which has an object
abbrev pub sections_from : Sections → Members → Option Sections
sections_from s no_members = Some s
sections_from s (member key (object ms) more) = and_then (put s key ms) (λ t. sections_from t more)
sections_from s (member key null more) = None
sections_from s (member key (boolean b) more) = None
sections_from s (member key (number n) more) = None
sections_from s (member key (string t) more) = None
sections_from s (member key (array ds) more) = None

-- a key that is absent stands for an object without members
abbrev pub no_sections : Sections
no_sections = record { globals = no_members; params = no_members }

abbrev pub sections : Data → Option Sections
sections (object ms) = sections_from no_sections ms
sections null = None
sections (boolean b) = None
sections (number n) = None
sections (string s) = None
sections (array ds) = None
