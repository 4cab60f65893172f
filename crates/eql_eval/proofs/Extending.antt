-- Bindings extended by one prefix after the other are the nested loops of all of them.
use Rattle.std.proofs.Common.{◌≡◌, ℕ, ◌+◌, List, [], ◌∷◌, drop, sym, ap, ◌∙◌}
use Rattle.ev_value.proofs.Items.{bind_one, bind_unit, bind_assoc, bind_same}
use Rattle.ev_value.specs.Item.{bind, one}
use Rattle.ev_value.specs.declared.item.Item.{Item}
use Rattle.path_scope.specs.declared.prefix.Prefix.{Prefix}
use Rattle.eql_sem.specs.Bindings.{turns}
use Rattle.eql_sem.specs.Parts.{extended_by}
use Rattle.eql_sem.specs.Scopes.{Bases, extensions, value_list}
use Rattle.eql_sem.specs.World.{World}
use Rattle.eql_sem.specs.declared.binding.Bound.{Bound}
use Rattle.eql_sem.specs.declared.binding.Name.{Name}
use Rattle.eql_sem.specs.declared.binding.Name.TheVariants as name

module _ (w : World) (bases : Bases) where
  pub extensions_begin : (fs : List Prefix) (ns : List Name) (b : List Bound) → bind (one b) (extensions w bases fs ns) ≡ extensions w bases fs ns b
  extensions_begin fs ns b = bind_one b (extensions w bases fs ns)

  pub extensions_turn : (f : Prefix) (fs : List Prefix) (ns : List Name) (rows : List (Item (List Bound)))
      → bind (extended_by w bases f ns rows) (extensions w bases fs (name.Prefix f.path ∷ ns)) ≡ bind rows (extensions w bases (f ∷ fs) ns)
  extensions_turn f fs ns rows =
      let inner = name.Prefix f.path ∷ ns in
      bind_assoc rows (λ b. bind (turns f.optional (value_list w bases f.path ns b)) (λ x. one (x ∷ b))) (extensions w bases fs inner)
      ∙ bind_same rows (λ b. bind (bind (turns f.optional (value_list w bases f.path ns b)) (λ x. one (x ∷ b))) (extensions w bases fs inner)) (extensions w bases (f ∷ fs) ns)
      (λ b. bind_assoc (turns f.optional (value_list w bases f.path ns b)) (λ x. one (x ∷ b)) (extensions w bases fs inner)
      ∙ bind_same (turns f.optional (value_list w bases f.path ns b)) (λ x. bind (one (x ∷ b)) (extensions w bases fs inner)) (λ x. extensions w bases fs inner (x ∷ b))
      (λ x. bind_one (x ∷ b) (extensions w bases fs inner)))

  pub extensions_end : (ns : List Name) (rows : List (Item (List Bound))) → bind rows (extensions w bases [] ns) ≡ rows
  extensions_end ns rows = bind_unit rows

  -- one turn of a loop over the prefixes
  pub extensions_kept : (fs : List Prefix) (i : ℕ) (f : Prefix) (ns inner : List Name) (rows longer whole : List (Item (List Bound)))
      → bind rows (extensions w bases (drop i fs) ns) ≡ whole → drop i fs ≡ f ∷ drop (i + 1) fs → longer ≡ extended_by w bases f ns rows → inner ≡ name.Prefix f.path ∷ ns
      → bind longer (extensions w bases (drop (i + 1) fs) inner) ≡ whole
  extensions_kept fs i f ns inner rows longer whole so_far here is_longer is_inner =
      ap (λ r. bind r (extensions w bases (drop (i + 1) fs) inner)) is_longer
      ∙ ap (λ n. bind (extended_by w bases f ns rows) (extensions w bases (drop (i + 1) fs) n)) is_inner
      ∙ extensions_turn f (drop (i + 1) fs) ns rows
      ∙ ap (λ l. bind rows (extensions w bases l ns)) (sym here)
      ∙ so_far

  pub extensions_done : (fs : List Prefix) (i : ℕ) (ns : List Name) (rows whole : List (Item (List Bound)))
      → bind rows (extensions w bases (drop i fs) ns) ≡ whole → drop i fs ≡ [] → rows ≡ whole
  extensions_done fs i ns rows whole so_far over = sym (extensions_end ns rows) ∙ ap (λ l. bind rows (extensions w bases l ns)) (sym over) ∙ so_far
