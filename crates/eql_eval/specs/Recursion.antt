-- A function value that works out what is asked of an expression.
use Rattle.std.specs.Prelude.{◌≡◌, ℕ, ◌-◌, ◌<◌, List, Result, IfOk}
use Rattle.std.specs.declared.alloc.Global.{Global}
use Rattle.std.specs.declared.alloc.AllocError.{AllocError}
use denote.Bor.{Bor}
use Rattle.ev_value.specs.declared.item.Item.{Item}
use Rattle.core_ir.specs.declared.tree.Expr.{Expr}
use Rattle.eql_sem.specs.declared.binding.Bound.{Bound}
use Rattle.eql_sem.specs.declared.binding.Name.{Name}
use Rattle.eql_sem.specs.declared.form.Formed.{Formed}
use Rattle.eql_eval.specs.declared.task.Task.{Task}
use Rattle.eql_eval.specs.declared.task.Task.TheVariants as task
use Rattle.eql_sem.specs.Meaning.{items, finish, made}
use Rattle.eql_sem.specs.Forms.{dress}
use Rattle.eql_sem.specs.Parts.{values_in}
use Rattle.eql_sem.specs.World.{World}

-- the items of an expression, the values of a scope with it as its body, or one of its items finished
abbrev pub task_items : World → Task → Expr → List Name → List Bound → List (Item Formed)
task_items w task.Items x ns b = items w x ns b
task_items w task.Scope x ns b = dress (values_in w x ns b)
task_items w (task.Finish i) x ns b = made w (finish w x) ns b i

-- It may be called where expressions may still stand one in the other, and answers what is asked.
pub record Evaluates {W : Type 0} (means : W → World) (depth : ℕ)
    (pre : Global → Bor W → ℕ → Bor Expr → Bor (List Name) → Bor (List Bound) → Task → Type 0)
    (post : Global → Bor W → ℕ → Bor Expr → Bor (List Name) → Bor (List Bound) → Task → Result (List (Item Formed)) AllocError → Type 0) : Type 0 where
  pub callable : (alloc : Global) (w : Bor W) (x : Bor Expr) (ns : Bor (List Name)) (b : Bor (List Bound)) (t : Task) → 0 < depth → pre alloc w (depth - 1) x ns b t
  pub answers : (alloc : Global) (w : Bor W) (x : Bor Expr) (ns : Bor (List Name)) (b : Bor (List Bound)) (t : Task) (r : Result (List (Item Formed)) AllocError)
      → 0 < depth → post alloc w (depth - 1) x ns b t r → IfOk r (λ xs. xs ≡ task_items (means w.now) t x.now ns.now b.now)
