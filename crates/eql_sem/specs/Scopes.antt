-- How a scope binds its prefixes.
use Rattle.std.specs.Prelude.{ℕ, ◌-◌, slice_get, List, [], ◌∷◌, length, Option, Some, None}
use Rattle.ev_value.specs.Item.{bind, one, all_of}
use Rattle.ev_value.specs.declared.item.Item.{Item}
use Rattle.ev_value.specs.declared.value.Val.{Val}
use Rattle.core_ir.specs.declared.path.Path.{Path}
use Rattle.core_ir.specs.declared.path.PtrId.{PtrId}
use Rattle.core_ir.specs.declared.path.Root.{Root}
use Rattle.core_ir.specs.declared.path.Root.TheVariants as root
use Rattle.core_ir.specs.declared.path.Step.{Step}
use Rattle.core_ir.specs.declared.path.Step.TheVariants as step
use Rattle.core_ir.specs.declared.tree.Occurrence.{Occurrence}
use Rattle.core_ir.specs.declared.tree.Direct.{Direct}
use Rattle.core_ir.specs.Path.{prefix}
use Rattle.path_scope.specs.declared.prefix.Prefix.{Prefix}
use Rattle.path_scope.specs.Factored.{factored}
use Rattle.eql_sem.specs.declared.binding.Name.{Name}
use Rattle.eql_sem.specs.declared.binding.Name.TheVariants as name
use Rattle.eql_sem.specs.declared.binding.Bound.{Bound}
use Rattle.eql_sem.specs.declared.binding.Bound.TheVariants as bound
use Rattle.eql_sem.specs.Bindings.{paths_of, pick, nearest, within, given, listed, turns}
use Rattle.eql_sem.specs.World.{World}

-- what an expression gives where these names stand for these things
abbrev pub Gives : Type 0 → Type 0
Gives X = List Name → List Bound → List (Item X)

-- the list of the base expression with a number
abbrev pub Bases : Type 0
Bases = ℕ → Gives Val

-- a link and the property that is asked of it
abbrev pub property_of : Option Step → Option Step → Option (PtrId × List ℕ)
property_of (Some (step.Link l)) (Some (step.LinkProp n)) = Some (l, n)
property_of _ _ = None

-- the link and the property's name at the end of a path that ends in a link property
abbrev pub last_property : List Step → Option (PtrId × List ℕ)
last_property steps = property_of (slice_get steps (length steps - 2)) (slice_get steps (length steps - 1))

module _ (w : World) where
  -- the steps of a path, one after the other
  abbrev pub walk : List Step → List (Item Val) → List (Item Val)
  walk [] xs = xs
  walk (s ∷ more) xs = walk more (w.step s xs)

  -- the list of a root that is not bound
  abbrev pub root_list : Bases → Root → Gives Val
  root_list bases (root.Extent t) ns b = all_of (w.extent t)
  root_list bases (root.Alias k) ns b = listed (pick ns b (name.Alias k))
  root_list bases (root.Base k) ns b = bases k ns b
  root_list bases (root.Var k) ns b = []
  root_list bases (root.Subject k) ns b = []

  -- the steps from what a prefix stands for; from one that stands for nothing there is nothing
  abbrev pub from_bound : Bound → List Step → List (Item Val)
  from_bound (bound.One v) more = walk more (one v)
  from_bound _ more = []

  -- the steps from the longest bound prefix, or from the root
  abbrev pub from_nearest : Bases → Path → List Name → List Bound → Option (Bound × List Step) → List (Item Val)
  from_nearest bases p ns b None = walk p.steps (root_list bases p.root ns b)
  from_nearest bases p ns b (Some (x, more)) = from_bound x more

  -- the property of a link between its bound source and its bound target
  abbrev pub property_list : PtrId → List ℕ → List (Item Val) → List (Item Val) → List (Item Val)
  property_list l n sources targets = bind sources (λ x. bind targets (λ y. all_of (w.link_property l n x y)))

  -- the list of a path that ends in a link's property
  abbrev pub end_list : Path → PtrId → List ℕ → Gives Val
  end_list p l n ns b =
      property_list l n (given (pick ns b (name.Prefix (prefix (length p.steps - 2) p)))) (given (pick ns b (name.Prefix (prefix (length p.steps - 1) p))))

  abbrev pub list_by_end : Bases → Path → List Name → List Bound → Option (PtrId × List ℕ) → List (Item Val)
  list_by_end bases p ns b None = from_nearest bases p ns b (nearest (length p.steps) ns b p)
  list_by_end bases p ns b (Some (l, n)) = end_list p l n ns b

  -- The list of a path: its steps from its longest bound proper prefix, or from its root's list.
  abbrev pub value_list : Bases → Path → Gives Val
  value_list bases p ns b = list_by_end bases p ns b (last_property p.steps)

  -- All extensions of a binding by a scope's prefixes, as nested loops. A fault stands in its loop's place; an optional
  -- prefix without items stands for nothing, once; any other prefix without items ends its loop.
  abbrev pub extensions : Bases → List Prefix → List Name → List Bound → List (Item (List Bound))
  extensions bases [] ns b = one b
  extensions bases (f ∷ fs) ns b =
      bind (turns f.optional (value_list bases f.path ns b)) (λ x. extensions bases fs (name.Prefix f.path ∷ ns) (x ∷ b))

  -- What stands in a scope with these direct occurrences and these occurrences, under each extension in turn.
  abbrev pub scope : {X : Type 0} → List Direct → List Occurrence → Bases → Gives X → Gives X
  scope ds os bases gives ns b =
      let fs = factored ds os (paths_of ns) in bind (extensions bases fs ns b) (gives (within fs ns))
