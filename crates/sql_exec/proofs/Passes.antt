-- The passes over the turns, one after the other, give the rows of a core.
use Rattle.std.proofs.Common.{◌≡◌, List, [], ◌++◌, Bool, true, false, Option, refl, sym, ap, ◌∙◌}
use Rattle.ev_value.specs.Item.{bind, one}
use Rattle.ev_value.specs.declared.item.Item.{Item}
use Rattle.ev_value.specs.declared.item.Item.TheVariants as item
use Rattle.ev_value.specs.declared.value.Val as val
use Rattle.ev_value.proofs.Items.{bind_assoc, bind_same}
use Rattle.sql_ast.specs.declared.select.Body.{Body}
use Rattle.sql_ast.specs.declared.select.Column.{Column}
use Rattle.sql_ast.specs.declared.select.Core.TheVariants as core
use Rattle.sql_ast.specs.declared.select.Key.{Key}
use Rattle.sql_table.specs.Names.{Cells, Scope, World}
use Rattle.sql_table.specs.Meaning.{for_value, row_where, selected, rows_of_core}
use Rattle.sql_table.specs.Forms.{bound_of, cells_of, clauses_of, values_of, turns_of, truth_of, row_of}
use Rattle.sql_table.proofs.Equations.{of_all, of_distinct}
use Rattle.sql_exec.specs.Engine.{kept, kept_turn, kept_turns, row_turn, keyed_turn, arranged_rows}

module _ (w : World) where
  -- one turn through all passes
  one_turn : (columns : List Column) (keys : List Key) (turn : Scope) (condition : Item Bool) (cells : Item Cells) (ks : Item (List (Option val.Val)))
      → cells_of w columns turn ≡ cells → values_of w keys turn ≡ ks
      → bind (bind (kept condition turn) (row_turn w columns)) (keyed_turn w keys) ≡ row_where condition cells ks
  one_turn columns keys turn (item.Fault e) cells ks c k = refl
  one_turn columns keys turn (item.Value false) cells ks c k = refl
  one_turn columns keys turn (item.Value true) (item.Fault e) ks c k = ap (λ x. bind (for_value x (λ cs. one (record { scope = turn; row = cs })) ++ []) (keyed_turn w keys)) c
  one_turn columns keys turn (item.Value true) (item.Value cs) (item.Fault e) c k =
      ap (λ x. bind (for_value x (λ cs. one (record { scope = turn; row = cs })) ++ []) (keyed_turn w keys)) c ∙ ap (λ x. for_value x (λ ks. one (record { keys = ks; value = cs })) ++ []) k
  one_turn columns keys turn (item.Value true) (item.Value cs) (item.Value ks) c k =
      ap (λ x. bind (for_value x (λ cs. one (record { scope = turn; row = cs })) ++ []) (keyed_turn w keys)) c ∙ ap (λ x. for_value x (λ ks. one (record { keys = ks; value = cs })) ++ []) k

  passes : (columns : List Column) (body : Body) (r : Scope) → bind (bind (kept_turns w body r) (row_turn w columns)) (keyed_turn w body.keys) ≡ bind (turns_of w body.from r) (row_of w columns body)
  passes columns body r =
      ap (λ l. bind l (keyed_turn w body.keys)) (bind_assoc (turns_of w body.from r) (kept_turn w body) (row_turn w columns))
      ∙ bind_assoc (turns_of w body.from r) (λ t. bind (kept_turn w body t) (row_turn w columns)) (keyed_turn w body.keys)
      ∙ bind_same (turns_of w body.from r) (λ t. bind (bind (kept_turn w body t) (row_turn w columns)) (keyed_turn w body.keys)) (row_of w columns body)
      (λ t. one_turn columns body.keys t (truth_of w body.condition t) (cells_of w columns t) (values_of w body.keys t) refl refl)

  pub all_passes : (columns : List Column) (body : Body) (r : Scope) → arranged_rows w false body (bind (kept_turns w body r) (row_turn w columns)) r ≡ rows_of_core w (core.All columns body) r
  all_passes columns body r = ap (selected (clauses_of false body) (bound_of w body.offset r) (bound_of w body.limit r)) (passes columns body r) ∙ sym (of_all w columns body r)

  pub distinct_passes : (columns : List Column) (body : Body) (r : Scope) → arranged_rows w true body (bind (kept_turns w body r) (row_turn w columns)) r ≡ rows_of_core w (core.Distinct columns body) r
  distinct_passes columns body r = ap (selected (clauses_of true body) (bound_of w body.offset r) (bound_of w body.limit r)) (passes columns body r) ∙ sym (of_distinct w columns body r)
