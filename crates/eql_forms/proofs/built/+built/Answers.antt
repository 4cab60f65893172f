use Rattle.eql_forms.proofs.Others.{built_none}
use Rattle.eql_forms.proofs.built.+built.Goals as goal

pub built-returns-in_default : goal.built-returns-in_default
built-returns-in_default t c = built_none c.args.expr.now c.in_default.not-Int c.in_default.not-Group c.in_default.not-Set c.in_default.not-Binary
