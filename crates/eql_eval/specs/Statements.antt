-- What aliases come to.
use Rattle.std.specs.Prelude.{◌≡◌, List}
use Rattle.ev_value.specs.Item.{only_faults}
use Rattle.core_ir.specs.declared.tree.Alias.{Alias}
use Rattle.eql_sem.specs.Parts.{aliased}
use Rattle.eql_sem.specs.Scopes.{Gives}
use Rattle.eql_sem.specs.World.{World}
use Rattle.eql_sem.specs.declared.binding.Bound.{Bound}
use Rattle.eql_sem.specs.declared.binding.Name.{Name}
use Rattle.eql_sem.specs.declared.form.Formed.{Formed}
use Rattle.eql_eval.specs.declared.statement.Defined.{Defined}
use Rattle.eql_eval.specs.declared.statement.Defined.TheVariants as defined

-- behind aliases stands whatever a statement gives where they are bound, or their faults alone
abbrev pub IsDefined : World → Defined → List Alias → List Name → List Bound → Type 0
IsDefined w (defined.Names ns' b') aliases ns b = (gives : Gives Formed) → aliased w aliases gives ns b ≡ gives ns' b'
IsDefined w (defined.Faults es) aliases ns b = (gives : Gives Formed) → aliased w aliases gives ns b ≡ only_faults es
