-- The first of several values with one key.
use Rattle.std.specs.Prelude.{Bool, Option, Some, None, if◌then◌else◌}

-- what is found, or else another
abbrev pub or_other : {V : Type 0} → Option V → Option V → Option V
or_other (Some v) other = Some v
or_other None other = other

-- What is found by a key, once one more value came with its key: of one key the first value stays.
abbrev pub with_one : {K V : Type 0} → (K → K → Bool) → (K → Option V) → K → V → K → Option V
with_one same found key value other = or_other (found other) (if same key other then Some value else None)

-- nothing by any key
abbrev pub nothing : {K V : Type 0} → K → Option V
nothing key = None
