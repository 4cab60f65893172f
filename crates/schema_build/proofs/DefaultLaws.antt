-- What stands later counts, however what stands before it is put together.
use Rattle.std.proofs.Common.{◌≡◌, Option, Some, None, refl}
use Rattle.ev_value.specs.declared.value.Val.{Val}
use Rattle.schema_build.specs.Made.{or_before}

pub or_before_assoc : (last middle first : Option Val) → or_before (or_before last middle) first ≡ or_before last (or_before middle first)
or_before_assoc (Some v) middle first = refl
or_before_assoc None middle first = refl

pub or_before_none : (last : Option Val) → or_before last None ≡ last
or_before_none (Some v) = refl
or_before_none None = refl
