-- Two measures that agree on what a node is and on what stands beside each other agree on whole trees.
use Rattle.std.proofs.Common.{◌≡◌, ℕ, zero, suc, ◌==◌, Bool, true, false, List, [], ◌∷◌, ◌++◌, Option, Some, None, map, length, slice_get, unwrap_or, refl, ap, if◌then◌else◌}
use Rattle.core_ir.specs.declared.path.PtrId.{PtrId}
use Rattle.core_ir.specs.declared.path.Root.{Root}
use Rattle.core_ir.specs.declared.path.Root.TheVariants as root
use Rattle.core_ir.specs.declared.path.Step.{Step}
use Rattle.core_ir.specs.declared.path.Step.TheVariants as step
use Rattle.core_ir.specs.declared.path.TypeId.{TypeId}
use Rattle.core_ir.specs.declared.phase.Carded.{Carded}
use Rattle.core_ir.specs.declared.phase.Core.{Core}
use Rattle.core_ir.specs.declared.tree.Expr.{Expr, Row_of-Expr, end_of-Expr, more_of-Expr, Row_of-Scope, end_of-Scope, more_of-Scope, Row_of-Alias, end_of-Alias, more_of-Alias, Row_of-Element, end_of-Element, more_of-Element}
use Rattle.core_ir.specs.declared.tree.Expr as e
use Rattle.core_ir.specs.declared.tree.Key as key
use Rattle.core_ir.specs.declared.tree.Occurrence.{Occurrence}
use Rattle.core_ir.specs.declared.tree.Select.{Select', Held-Select-filter, None', Some', Row_of-Key, end_of-Key, more_of-Key}
use Rattle.ev_schema.specs.declared.pointer.Computed.{Computed}
use Rattle.ev_schema.specs.declared.policy.Policy.{Policy}
use Rattle.ev_schema.specs.declared.schema.Schema.{Schema}
use Rattle.ev_schema.specs.declared.types.TypeInfo.{TypeInfo}
use Rattle.tree_weight.specs.Brought.{target_if_known, with_target, by_types, with_computed, with_all, brought_over, without_rules, by_rules, in_query, in_schema, of_query, of_schema_expression}
use Rattle.tree_weight.specs.Measure.{Measure, Brought, leaf, at_root, with_step, along}
use Rattle.tree_weight.specs.Rules.{concerns, reads, condition_at, of_condition, rulings, alone, rules_behind, rules_of, rules_below, heirs_below}
use Rattle.tree_weight.specs.Trees.{path, measured, exprs, scopes, aliases, elements, keys, key_of, clause}
use Rattle.tree_weight.specs.declared.ruling.Ruling.{Ruling}

-- A relation that nothing, things beside each other and nodes above something keep.
pub record Keeps {A B : Type 0} (m : Measure A) (n : Measure B) (R : A → B → Type 0) : Type 0 where
  pub none : R m.none n.none
  pub beside : {a c : A} {b d : B} → R a b → R c d → R (m.beside a c) (n.beside b d)
  pub above : {a : A} {b : B} → R a b → R (m.above a) (n.above b)

-- The same things are brought, as either measures them.
pub record BroughtAlike {A B : Type 0} (R : A → B → Type 0) (x : Brought A) (y : Brought B) : Type 0 where
  pub by_type : (t : TypeId) → R (x.by_type t) (y.by_type t)
  pub by_link : (p : PtrId) → R (x.by_link p) (y.by_link p)
  pub by_computed : (p : PtrId) → R (x.by_computed p) (y.by_computed p)

module _ {A B : Type 0} (m : Measure A) (n : Measure B) (R : A → B → Type 0) (h : Keeps m n R) where
  leaves : R (leaf m) (leaf n)
  leaves = h.above h.none

  chosen : (here : Bool) {a c : A} {b d : B} → R a b → R c d → R (if here then a else c) (if here then b else d)
  chosen true r s = r
  chosen false r s = s

  module _ (x : Brought A) (y : Brought B) (k : BroughtAlike R x y) where
    roots : (r : Root) → R (at_root m x r) (at_root n y r)
    roots (root.Extent t) = h.above (k.by_type t)
    roots (root.Alias i) = leaves
    roots (root.Var i) = leaves
    roots (root.Subject i) = leaves
    roots (root.Base i) = leaves

    steps : (s : Step) → R (with_step m x s) (with_step n y s)
    steps (step.Link p) = k.by_link p
    steps (step.Comp p) = k.by_computed p
    steps (step.Back p t) = k.by_type t
    steps (step.Is t) = k.by_type t
    steps (step.Dot name) = h.none
    steps (step.BackDot name t) = h.none
    steps (step.Prop p) = h.none
    steps (step.LinkProp name) = h.none

    ways : (a : A) (b : B) (xs : List Step) → R a b → R (along m x a xs) (along n y b xs)
    ways a b [] r = r
    ways a b (s ∷ xs) r = ways (m.above (m.beside a (with_step m x s))) (n.above (n.beside b (with_step n y s))) xs (h.above (h.beside r (steps s)))

    paths : (o : Occurrence) → R (path m x o) (path n y o)
    paths o = ways (at_root m x o.path.root) (at_root n y o.path.root) o.path.steps (roots o.path.root)

    mutual
      unfolding measured

      pub trees : (t : Expr) → R (measured m x t) (measured n y t)
      trees (e.Literal _ _) = leaves
      trees (e.Param _ _) = leaves
      trees (e.Global _ _) = leaves
      trees (e.Path _ o) = paths o
      trees (e.OnBase' _ _ _ _ (more_of-Expr base end_of-Expr) o) = ways (m.above (measured m x base)) (n.above (measured n y base)) o.path.steps (h.above (trees base))
      trees (e.Operation' _ _ _ operands) = h.above (rows operands h.none)
      trees (e.Plus' _ _ (more_of-Expr t end_of-Expr)) = h.above (trees t)
      trees (e.Cast' _ _ _ (more_of-Expr t end_of-Expr)) = h.above (trees t)
      trees (e.Tuple' _ _ components) = h.above (rows components h.none)
      trees (e.OptionalEqual' _ _ _ (more_of-Expr t end_of-Expr) _ (more_of-Expr u end_of-Expr)) = h.above (h.beside (trees t) (trees u))
      trees (e.In' _ _ _ (more_of-Expr t end_of-Expr) _ _ _ (more_of-Expr set end_of-Expr)) = h.above (h.beside (trees t) (trees set))
      trees (e.OfSet' _ _ _ _ _ (more_of-Expr set end_of-Expr)) = h.above (trees set)
      trees (e.Union' _ _ _ _ (more_of-Expr t end_of-Expr) _ _ _ (more_of-Expr u end_of-Expr)) = h.above (h.beside (trees t) (trees u))
      trees (e.Set' _ _ parts) = h.above (scope_rows parts h.none)
      trees (e.Coalesce' _ _ (more_of-Expr t end_of-Expr) _ _ _ (more_of-Expr u end_of-Expr)) = h.above (h.beside (trees t) (trees u))
      trees (e.If' _ _ _ (more_of-Expr condition end_of-Expr) _ _ _ (more_of-Expr value end_of-Expr) _ _ _ (more_of-Expr other end_of-Expr)) =
          h.above (h.beside (trees condition) (h.beside (trees value) (trees other)))
      trees (e.Shaped' _ _ (more_of-Expr t end_of-Expr) _ _ _ parts) = h.above (element_rows parts (trees t))
      trees (e.Select' _ _ parts (Select' _ (more_of-Expr subject end_of-Expr) _ _ filter _ orders offset limit)) =
          h.above (h.beside (h.beside (alias_rows parts h.none) (key_rows orders (h.beside (trees subject) (clauses filter)))) (h.beside (clauses offset) (clauses limit)))
      trees (e.For' _ _ parts _ _ _ _ (more_of-Expr iterator end_of-Expr) _ _ _ (more_of-Expr body end_of-Expr)) =
          h.above (h.beside (alias_rows parts h.none) (h.beside (trees iterator) (trees body)))
      trees (e.Array' _ _ _ parts) = h.above (rows parts h.none)
      trees (e.ArrayCast' _ _ _ (more_of-Expr t end_of-Expr)) = h.above (trees t)
      trees (e.Unpack' _ _ (more_of-Expr t end_of-Expr)) = h.above (trees t)
      trees (e.EmptySet _ _) = leaves
      trees (e.Unfit' _ _ _ _ parts) = h.above (rows parts h.none)

      rows : {i : _} (xs : Row_of-Expr i) {a : A} {b : B} → R a b → R (exprs m x a xs) (exprs n y b xs)
      rows end_of-Expr r = r
      rows (more_of-Expr t more) r = rows more (h.beside r (trees t))

      scope_rows : {i : _} (xs : Row_of-Scope i) {a : A} {b : B} → R a b → R (scopes m x a xs) (scopes n y b xs)
      scope_rows end_of-Scope r = r
      scope_rows (more_of-Scope _ _ _ (more_of-Expr t end_of-Expr) more) r = scope_rows more (h.beside r (trees t))

      alias_rows : {i : _} (xs : Row_of-Alias i) {a : A} {b : B} → R a b → R (aliases m x a xs) (aliases n y b xs)
      alias_rows end_of-Alias r = r
      alias_rows (more_of-Alias _ _ _ _ (more_of-Expr t end_of-Expr) more) r = alias_rows more (h.beside r (trees t))

      element_rows : {i : _} (xs : Row_of-Element i) {a : A} {b : B} → R a b → R (elements m x a xs) (elements n y b xs)
      element_rows end_of-Element r = r
      element_rows (more_of-Element _ _ _ _ _ _ _ _ _ (more_of-Expr t end_of-Expr) more) r = element_rows more (h.beside r (trees t))

      key_rows : {i : _} (xs : Row_of-Key i) {a : A} {b : B} → R a b → R (keys m x a xs) (keys n y b xs)
      key_rows end_of-Key r = r
      key_rows (more_of-Key k more) r = key_rows more (h.beside r (one_key k))

      one_key : (k : key.Key) → R (key_of m x k) (key_of n y k)
      one_key (key.Ascending' _ _ _ _ (more_of-Expr t end_of-Expr)) = trees t
      one_key (key.Descending' _ _ _ _ (more_of-Expr t end_of-Expr)) = trees t

      clauses : (c : Held-Select-filter) → R (clause m x c) (clause n y c)
      clauses None' = h.none
      clauses (Some' _ (more_of-Scope _ _ _ (more_of-Expr t end_of-Expr) _)) = trees t

    -- one more computed pointer
    one_computed : (c : Computed) → BroughtAlike R (with_computed m x c) (with_computed n y c)
    one_computed c = record {
      by_type = k.by_type;
      by_link = k.by_link;
      by_computed = λ p. chosen (c.pointer.0 == p.0) (trees c.expr.typed.core.root.body) (k.by_computed p);
    }

  every_computed : (x : Brought A) (y : Brought B) (cs : List Computed) → BroughtAlike R x y → BroughtAlike R (with_all m x cs) (with_all n y cs)
  every_computed x y [] k = k
  every_computed x y (c ∷ cs) k = every_computed (with_computed m x c) (with_computed n y c) cs (one_computed x y k c)

  targets : (f : TypeId → A) (g : TypeId → B) (o : Option TypeId) → ((t : TypeId) → R (f t) (g t)) → R (with_target m f o) (with_target n g o)
  targets f g None r = h.none
  targets f g (Some t) r = r t

  over : (f : TypeId → A) (g : TypeId → B) (schema : Schema) → ((t : TypeId) → R (f t) (g t)) → BroughtAlike R (brought_over m f schema) (brought_over n g schema)
  over f g schema r = every_computed (by_types m f schema.pointers) (by_types n g schema.pointers) schema.computed (record {
    by_type = r;
    by_link = λ p. targets f g (target_if_known (slice_get schema.pointers p.0)) r;
    by_computed = λ p. h.none;
  })

  -- ---- rules

  abbrev RulesAlike : List (Ruling A) → List (Ruling B) → Type 0
  RulesAlike [] [] = Unit {0}
  RulesAlike (r ∷ rs) (q ∷ qs) = (r.origin ≡ q.origin) × (R r.size q.size × RulesAlike rs qs)
  RulesAlike _ _ = ⊥

  conditions_alike : (f : Expr → A) (g : Expr → B) (reading : Bool) (o : Option Carded) → ((t : Expr) → R (f t) (g t)) → R (of_condition m f reading o) (of_condition n g reading o)
  conditions_alike f g reading None r = h.none
  conditions_alike f g reading (Some c) r = chosen reading (r c.typed.core.root.body) h.none

  rulings_alike : (f : Expr → A) (g : Expr → B) (cs : List (Option Carded)) (i : ℕ) (ps : List Policy) → ((t : Expr) → R (f t) (g t)) → RulesAlike (rulings m f cs i ps) (rulings n g cs i ps)
  rulings_alike f g cs i [] r = tt
  rulings_alike f g cs i (p ∷ ps) r = (refl, (h.above (conditions_alike f g (reads p) (condition_at cs i) r), rulings_alike f g cs (suc i) ps r))

  alone_alike : (ps : List Policy) → RulesAlike (map (alone m) ps) (map (alone n) ps)
  alone_alike [] = tt
  alone_alike (p ∷ ps) = (refl, (leaves, alone_alike ps))

  taken : (here there : Bool) → here ≡ there → {a c : A} {b d : B} → R a b → R c d → R (if here then a else c) (if there then b else d)
  taken true true same r s = r
  taken false false same r s = s
  taken true false same r s = absurd (cc)
  taken false true same r s = absurd (cc)

  behind : (types : List TypeInfo) (heirs : List TypeId) (rs : List (Ruling A)) (qs : List (Ruling B)) (a : A) (b : B) → R a b → RulesAlike rs qs → R (rules_behind m types heirs a rs) (rules_behind n types heirs b qs)
  behind types heirs [] [] a b r s = r
  behind types heirs (x ∷ rs) (y ∷ qs) a b r (same, (one, more)) =
      behind types heirs rs qs (if concerns types heirs x.origin then m.beside a x.size else a) (if concerns types heirs y.origin then n.beside b y.size else b)
      (taken (concerns types heirs x.origin) (concerns types heirs y.origin) (ap (concerns types heirs) same) (h.beside r one) r) more
  behind types heirs [] (y ∷ qs) a b r s = absurd s
  behind types heirs (x ∷ rs) [] a b r s = absurd s

  -- ---- types

  abbrev BothAlike : List A → List B → Type 0
  BothAlike [] [] = Unit {0}
  BothAlike (a ∷ xs) (b ∷ ys) = R a b × BothAlike xs ys
  BothAlike _ _ = ⊥

  one_more : (xs : List A) (ys : List B) (a : A) (b : B) → BothAlike xs ys → R a b → BothAlike (xs ++ a ∷ []) (ys ++ b ∷ [])
  one_more [] [] a b s r = (r, tt)
  one_more (x ∷ xs) (y ∷ ys) a b (q, s) r = (q, one_more xs ys a b s r)
  one_more [] (y ∷ ys) a b s r = absurd s
  one_more (x ∷ xs) [] a b s r = absurd s

  found : (xs : List A) (ys : List B) (i : ℕ) → BothAlike xs ys → R (unwrap_or (slice_get xs i) m.none) (unwrap_or (slice_get ys i) n.none)
  found [] [] i s = h.none
  found (a ∷ xs) (b ∷ ys) zero (r, s) = r
  found (a ∷ xs) (b ∷ ys) (suc i) (r, s) = found xs ys i s
  found [] (b ∷ ys) i s = absurd s
  found (a ∷ xs) [] i s = absurd s

  types_alike : (types : List TypeInfo) (rs : List (Ruling A)) (qs : List (Ruling B)) (i : ℕ) → RulesAlike rs qs → BothAlike (rules_below m types rs i) (rules_below n types qs i)
  types_alike types rs qs zero s = tt
  types_alike types rs qs (suc i) s =
      one_more (rules_below m types rs i) (rules_below n types qs i) (rules_of m types rs (record { 0 = i })) (rules_of n types qs (record { 0 = i })) (types_alike types rs qs i s)
      (behind types (heirs_below types (record { 0 = i }) (length types)) rs qs m.none n.none h.none s)

  ruled : (schema : Schema) (rs : List (Ruling A)) (qs : List (Ruling B)) → RulesAlike rs qs → (t : TypeId) → R (by_rules m schema rs t) (by_rules n schema qs t)
  ruled schema rs qs s t = found (rules_below m schema.types rs (length schema.types)) (rules_below n schema.types qs (length schema.types)) t.0 (types_alike schema.types rs qs (length schema.types) s)

  -- ---- whole trees

  pub queries : (schema : Schema) (c : Core) → R (of_query m schema c) (of_query n schema c)
  queries schema c =
      let f = measured m (without_rules m schema) in
      let g = measured n (without_rules n schema) in
      let rs = rulings m f schema.conditions 0 schema.policies in
      let qs = rulings n g schema.conditions 0 schema.policies in
      let plain = over (λ t. m.none) (λ t. n.none) schema (λ t. h.none) in
      let alike = rulings_alike f g schema.conditions 0 schema.policies (trees (without_rules m schema) (without_rules n schema) plain) in
      trees (in_query m schema) (in_query n schema) (over (by_rules m schema rs) (by_rules n schema qs) schema (ruled schema rs qs alike)) c.root.body

  pub expressions : (schema : Schema) (c : Core) → R (of_schema_expression m schema c) (of_schema_expression n schema c)
  expressions schema c =
      let rs = map (alone m) schema.policies in
      let qs = map (alone n) schema.policies in
      trees (in_schema m schema) (in_schema n schema) (over (by_rules m schema rs) (by_rules n schema qs) schema (ruled schema rs qs (alone_alike schema.policies))) c.root.body
