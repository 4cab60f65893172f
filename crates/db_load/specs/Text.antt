-- The value of a JSON text.
use Rattle.std.specs.Prelude.{◌≡◌, ℕ, List, Some, IsUtf8}
use Rattle.serde_json.specs.Data.{Data}
use Rattle.serde_json.specs.Read.{read}

-- the text is JSON, and this is its value
abbrev pub Says : List ℕ → Data → Type 0
Says text d = IsUtf8 text × (read text ≡ Some d)
