use Rattle.std.proofs.Common.{subst}
use Rattle.db_store.specs.Fits.{Ascend}
use Rattle.db_check.specs.Check.{IsWritten}
use Rattle.db_check.specs.Store.{StoreView}
use Rattle.db_check.proofs.IdOrder.{before}
use Rattle.db_check.proofs.StoreLaws.{stores_in_order}
use Rattle.db_check.proofs.store.Store.objects.Goals as goal

pub returns-clause-in_order : goal.returns-clause-in_order
returns-clause-in_order c =
    let written = c.self.invariant in
    subst (λ (st : StoreView). Ascend before st.objects) c.self.view_is (stores_in_order written.schema written.drafts _ written.is)

pub returns-clause-written : goal.returns-clause-written
returns-clause-written c = subst IsWritten c.self.view_is c.self.invariant
