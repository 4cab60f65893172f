use Rattle.std.proofs.Common.{◌≡◌, drop}
use Rattle.eql_forms.specs.Built.{built_all}
use Rattle.eql_forms.proofs.Forms.{behind}
use Rattle.eql_forms.proofs.built.+built.Given as goal

-- the scopes so far, and those of what is left, are the whole
abbrev pub invariant-built_all-loop-expr : goal.invariant-built_all-loop-expr
invariant-built_all-loop-expr l = behind l.all (built_all (drop l.expr-index l.exprs)) ≡ built_all l.exprs
