-- Schemas whose types and pointers have numbers.
use Rattle.std.specs.Prelude.{◌<◌, ◌^◌, ◌+◌, length, List}
use Rattle.ev_schema.specs.Facts.{made_of}
use Rattle.ev_schema.specs.declared.policy.Policy.{Policy}
use Rattle.ev_schema.specs.declared.pointer.PtrInfo.{PtrInfo}
use Rattle.ev_schema.specs.declared.schema.Schema.{Schema}
use Rattle.ev_schema.specs.declared.types.GlobalInfo.{GlobalInfo}
use Rattle.ev_schema.specs.declared.types.TypeInfo.{TypeInfo}

-- Each type and each pointer has a number of 32 bits, and some pointer is `id`.
pub record IsNumbered (schema : Schema) : Type 0 where
  pub types : length schema.types < 2 ^ 32
  pub some : 0 < length schema.pointers
  pub few : length schema.pointers < 2 ^ 32

-- The schema of some parts is so, where these leave a number for `id`.
abbrev pub MadeIsNumbered : Type 0
MadeIsNumbered = (types : List TypeInfo) (pointers : List PtrInfo) (globals : List GlobalInfo) (policies : List Policy)
    → length types < 2 ^ 32 → length pointers + 1 < 2 ^ 32 → IsNumbered (made_of types pointers globals policies)
