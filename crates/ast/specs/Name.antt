-- Where names stand in the text.
use Rattle.std.specs.Prelude.{ℕ, Option, Some, None}
use Rattle.ast.specs.declared.name.Name.{Name}
use Rattle.ast.specs.declared.name.QualifiedName.{QualifiedName}

-- the first byte of a name, or of the module before it
abbrev pub start_in : Option Name → Name → ℕ
start_in None n = n.span.start
start_in (Some m) n = m.span.start

-- the first byte of a name, its module included
abbrev pub start_of : QualifiedName → ℕ
start_of q = start_in q.module q.name
