-- How long a document may be.
use Rattle.std.specs.Prelude.{ℕ, ◌≤◌, nat_lt, Bool, List, length}
use Rattle.edge_run.specs.declared.outcome.Doc.{Doc}
use Rattle.edge_run.specs.declared.outcome.Doc.TheVariants as doc

-- how many bytes a document may have
abbrev pub limit_of : Doc → ℕ
limit_of doc.Schema = 1048576
limit_of doc.Data = 67108864
limit_of doc.Query = 1048576
limit_of doc.Args = 1048576

-- whether the text has more bytes than the document may have
abbrev pub is_long : Doc → List ℕ → Bool
is_long d text = nat_lt (limit_of d) (length text)

-- the text has no more bytes than the document may have
abbrev pub IsShort : Doc → List ℕ → Type 0
IsShort d text = length text ≤ limit_of d
