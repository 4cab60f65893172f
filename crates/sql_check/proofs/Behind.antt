-- Types with more behind them.
use Rattle.std.proofs.Common.{◌≡◌, List, [], ◌∷◌, ◌++◌, Option, Some, None, refl, ap, append_assoc}
use Rattle.ev_value.proofs.Items.{append_nil}
use Rattle.sql_ast.specs.declared.ty.SqlTy.{SqlTy}
use Rattle.sql_check.specs.TypeLists.{behind_types}
use Rattle.sql_check.specs.Types.{with_first}

pub behind_none : (o : Option (List SqlTy)) → behind_types [] o ≡ o
behind_none None = refl
behind_none (Some ts) = refl

pub behind_more : (ts : List SqlTy) (t : SqlTy) (o : Option (List SqlTy)) → behind_types (ts ++ t ∷ []) o ≡ behind_types ts (with_first (Some t) o)
behind_more ts t None = refl
behind_more ts t (Some us) = ap (λ l. Some l) (append_assoc ts (t ∷ []) us)

pub behind_all : (ts : List SqlTy) → behind_types ts (Some []) ≡ Some ts
behind_all ts = ap (λ l. Some l) (append_nil ts)
