-- Statements step by step: a row, the rows that a cut leaves, and a whole select.
use Rattle.std.proofs.Common.{◌≡◌, ℕ, ◌+◌, true, false, List, [], ◌∷◌, ◌++◌, drop, map, sym, ap, ◌∙◌, subst, append_assoc}
use Rattle.ev_value.specs.Item.{bind, only_faults}
use Rattle.ev_value.specs.declared.item.Fault.{Fault}
use Rattle.ev_value.specs.declared.item.Item.{Item}
use Rattle.ev_value.specs.declared.item.Item.TheVariants as item
use Rattle.ev_value.specs.declared.value.Val.{Val}
use Rattle.ev_list.specs.declared.order.KeyOrder.{KeyOrder}
use Rattle.ev_list.specs.declared.order.Keyed.{Keyed}
use Rattle.core_ir.specs.declared.path.Root.TheVariants as root
use Rattle.core_ir.specs.declared.tree.Select.{Select, out-Select}
use Rattle.path_scope.specs.declared.prefix.Prefix.{Prefix}
use Rattle.eql_sem.proofs.Cutting.{ranged_is}
use Rattle.eql_sem.specs.Bindings.{within}
use Rattle.eql_sem.specs.Forms.{name_of_root}
use Rattle.eql_sem.specs.Items.{IsSettled}
use Rattle.eql_sem.specs.Meaning.{bases, base_among, order_of}
use Rattle.eql_sem.specs.Operations.{gathered}
use Rattle.eql_sem.specs.Parts.{clause_values, condition_values, keys_of, is_cut_select, prefixes_of_select, rows_of_item, rows_under, row_made, selected}
use Rattle.eql_sem.specs.Scopes.{extensions}
use Rattle.eql_sem.specs.Selects.{cut_rows, finished, keyed_rows, plain_rows, ranges}
use Rattle.eql_sem.specs.World.{World}
use Rattle.eql_sem.specs.declared.binding.Bound.{Bound}
use Rattle.eql_sem.specs.declared.binding.Bound.TheVariants as bound
use Rattle.eql_sem.specs.declared.binding.Name.{Name}
use Rattle.eql_sem.specs.declared.form.Formed.{Formed}
use Rattle.eql_sem.specs.declared.item.Settled.{Settled}
use Rattle.eql_sem.specs.declared.item.Settled.TheVariants as settled
use Rattle.eql_sem.specs.declared.row.Range.{Range}
use Rattle.eql_sem.specs.declared.row.Row.{Row}
use Rattle.eql_eval.proofs.Aliases.{when_faulty}

-- ---- one turn of a loop that puts what f gives in each value's place

pub kept_value : {A B : Type 0} (f : A → List (Item B)) (xs : List (Item A)) (i : ℕ) (a : A) (all more whole : List (Item B))
    → all ++ bind (drop i xs) f ≡ whole → drop i xs ≡ item.Value a ∷ drop (i + 1) xs → more ≡ all ++ f a → more ++ bind (drop (i + 1) xs) f ≡ whole
kept_value f xs i a all more whole so_far here is_more =
    ap (λ l. l ++ bind (drop (i + 1) xs) f) is_more
    ∙ append_assoc all (f a) (bind (drop (i + 1) xs) f)
    ∙ ap (λ l. all ++ bind l f) (sym here)
    ∙ so_far

pub kept_fault : {A B : Type 0} (f : A → List (Item B)) (xs : List (Item A)) (i : ℕ) (e : Fault) (all more whole : List (Item B))
    → all ++ bind (drop i xs) f ≡ whole → drop i xs ≡ item.Fault e ∷ drop (i + 1) xs → more ≡ all ++ item.Fault e ∷ [] → more ++ bind (drop (i + 1) xs) f ≡ whole
kept_fault f xs i e all more whole so_far here is_more =
    ap (λ l. l ++ bind (drop (i + 1) xs) f) is_more
    ∙ append_assoc all (item.Fault e ∷ []) (bind (drop (i + 1) xs) f)
    ∙ ap (λ l. all ++ bind l f) (sym here)
    ∙ so_far

-- ---- what a cut leaves

pub cut_is : (offset limit : List (Item Val)) (orders : List KeyOrder) (rows : List (Item (Keyed Row))) (made : Row → List (Item Formed)) (rs : List (Item Range)) (xs : List (Item Formed))
    → rs ≡ ranges offset limit → xs ≡ bind rs (λ r. bind (cut_rows orders r.offset r.limit rows) made) → xs ≡ finished true offset limit orders rows made
cut_is offset limit orders rows made rs xs is_ranges is_made =
    is_made
    ∙ ap (λ l. bind l (λ r. bind (cut_rows orders r.offset r.limit rows) made)) is_ranges
    ∙ sym (ranged_is offset limit (λ o l. bind (cut_rows orders o l rows) made))

module _ (w : World) (s : Select) (ns : List Name) (b : List Bound) where
  -- ---- a row whose condition has faults

  pub row_faults : (x : Formed) (inner : List Name) (stand : List Bound) (es : List Fault) (t : Settled Val) (c l : List (Item Val)) (xs : List (Item (Keyed Row)))
      → inner ≡ name_of_root (root.Subject (out-Select s).number) ∷ ns → stand ≡ bound.One x.value ∷ b → c ≡ condition_values w (out-Select s).filter inner stand
      → l ≡ c → IsSettled t l → t ≡ settled.Faults es → xs ≡ only_faults es → xs ≡ rows_of_item w s ns b x
  row_faults x inner stand es t c l xs is_inner is_stand is_condition is_list stands is_faults told =
      let settled_so : IsSettled (settled.Faults es) c =
      subst (λ (k : List (Item Val)). IsSettled (settled.Faults es) k) is_list (subst (λ (u : Settled Val). IsSettled u l) is_faults stands) in
      let there = condition_values w (out-Select s).filter (name_of_root (root.Subject (out-Select s).number) ∷ ns) (bound.One x.value ∷ b) in
      let same : c ≡ there = is_condition ∙ (λ i. condition_values w (out-Select s).filter (is_inner i) (is_stand i)) in
      told
      ∙ when_faulty there es
      (keyed_rows b x (gathered (keys_of w (out-Select s).keys (name_of_root (root.Subject (out-Select s).number) ∷ ns) (bound.One x.value ∷ b))))
      (subst (λ (k : List (Item Val)). IsSettled (settled.Faults es) k) same settled_so)

  -- ---- a whole select

  module _ (fs : List Prefix) (inner : List Name) (exts : List (Item (List Bound))) (rows : List (Item (Keyed Row)))
      (is_fs : fs ≡ prefixes_of_select s ns) (is_inner : inner ≡ within fs ns)
      (is_exts : exts ≡ extensions w (base_among (bases w (out-Select s).subject)) fs ns b) (is_rows : rows ≡ bind exts (rows_under w s inner)) where
    inner_is : inner ≡ within (prefixes_of_select s ns) ns
    inner_is = is_inner ∙ ap (λ f. within f ns) is_fs

    exts_are : exts ≡ extensions w (base_among (bases w (out-Select s).subject)) (prefixes_of_select s ns) ns b
    exts_are = is_exts ∙ ap (λ f. extensions w (base_among (bases w (out-Select s).subject)) f ns b) is_fs

    rows_are : rows ≡ bind (extensions w (base_among (bases w (out-Select s).subject)) (prefixes_of_select s ns) ns b) (rows_under w s (within (prefixes_of_select s ns) ns))
    rows_are = is_rows ∙ (λ i. bind (exts_are i) (rows_under w s (inner_is i)))

    pub selected_cut : (xs : List (Item Formed)) → is_cut_select s ≡ true
        → xs ≡ finished true (clause_values w (out-Select s).offset ns b) (clause_values w (out-Select s).limit ns b) (map order_of (out-Select s).keys) rows (row_made w s inner)
        → xs ≡ selected w s ns b
    selected_cut xs cut made =
        made
        ∙ (λ i. finished (sym cut i) (clause_values w (out-Select s).offset ns b) (clause_values w (out-Select s).limit ns b) (map order_of (out-Select s).keys) (rows_are i) (row_made w s (inner_is i)))

    pub selected_plain : (xs : List (Item Formed)) → is_cut_select s ≡ false → xs ≡ bind (plain_rows rows) (row_made w s inner) → xs ≡ selected w s ns b
    selected_plain xs cut made =
        made
        ∙ (λ i. finished (sym cut i) (clause_values w (out-Select s).offset ns b) (clause_values w (out-Select s).limit ns b) (map order_of (out-Select s).keys) (rows_are i) (row_made w s (inner_is i)))
