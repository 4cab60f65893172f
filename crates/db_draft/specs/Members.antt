-- What stands under a name.
use Rattle.std.specs.Prelude.{ℕ, List, [], ◌∷◌, Option, Some, None, if◌then◌else◌}
use Rattle.std.specs.Str.{bytes_eq}
use Rattle.db_draft.specs.declared.draft.Draft.{Draft}
use Rattle.db_draft.specs.declared.draft.Field.{Field}
use Rattle.db_draft.specs.declared.draft.Member.{Member}
use Rattle.db_draft.specs.declared.draft.Plain.{Plain}

-- what stands under a pointer's name, if anything does
abbrev pub member : List Member → List ℕ → Option Draft
member [] n = None
member (m ∷ more) n = if bytes_eq m.name n then Some m.value else member more n

-- what stands under a key of a target, if anything does
abbrev pub field : List Field → List ℕ → Option Plain
field [] n = None
field (f ∷ more) n = if bytes_eq f.name n then Some f.value else field more n
