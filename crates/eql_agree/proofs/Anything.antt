-- Each tree asks for nothing but anything.
use Rattle.std.proofs.Common.{Bool}
use Rattle.ev_value.specs.declared.value.Val.{Val}
use Rattle.core_ir.specs.declared.tree.Expr.{Row_of-Expr, end_of-Expr, more_of-Expr, Row_of-Scope, end_of-Scope, more_of-Scope, Row_of-Alias, end_of-Alias, more_of-Alias, Row_of-Element, end_of-Element, more_of-Element}
use Rattle.core_ir.specs.declared.tree.Expr as e
use Rattle.core_ir.specs.declared.tree.Select.{Select', Held-Select-filter, None', Some', Row_of-Key, end_of-Key, more_of-Key}
use Rattle.core_ir.specs.declared.tree.Key as key
use Rattle.eql_agree.specs.Uniform.{Literals, LiteralsOf, LiteralsOfScopes, LiteralsOfAliases, LiteralsOfElements, LiteralsOfClause, LiteralsOfKeys, LiteralsOfKey}
use Rattle.std.proofs.Common.{IsTrue, List, [], ◌∷◌, refl}
use Rattle.core_ir.specs.declared.path.Root.{Root}
use Rattle.core_ir.specs.declared.path.Root.TheVariants as root
use Rattle.core_ir.specs.declared.path.Step.{Step}
use Rattle.core_ir.specs.declared.tree.Expr.{Expr}
use Rattle.core_ir.specs.declared.tree.Occurrence.{Occurrence}
use Rattle.core_ir.specs.Occurrences.{all}
use Rattle.eql_agree.specs.Kinds.{Each}
use Rattle.eql_agree.specs.Uniform.{IsAskedRoot, IsAsked, AsksAlone, anything}

asks_root : (r : Root) → IsAskedRoot anything r
asks_root (root.Extent x) = refl
asks_root (root.Alias n) = tt
asks_root (root.Var n) = tt
asks_root (root.Subject n) = tt
asks_root (root.Base n) = tt

asks_steps : (ss : List Step) → Each (λ s. IsTrue (anything.step s)) ss
asks_steps [] = tt
asks_steps (s ∷ ss) = (refl, asks_steps ss)

asks_all : (os : List Occurrence) → Each (λ (o : Occurrence). IsAsked anything o.path) os
asks_all [] = tt
asks_all (o ∷ os) = ((asks_root o.path.root, asks_steps o.path.steps), asks_all os)

pub asks_anything : (x : Expr) → AsksAlone anything x
asks_anything x = asks_all (all x)

-- ---- where p is true of all values

module _ (p : Val → Bool) (true_of : (v : Val) → IsTrue (p v)) where
  mutual
    unfolding Literals

    pub any_literals : (x : Expr) → Literals p x
    any_literals (e.Literal _ v) = true_of v
    any_literals (e.Param _ _) = tt
    any_literals (e.Global _ _) = tt
    any_literals (e.Path _ _) = tt
    any_literals (e.OnBase' _ _ _ _ x _) = any_rows x
    any_literals (e.Operation' _ _ _ xs) = any_rows xs
    any_literals (e.Plus' _ _ x) = any_rows x
    any_literals (e.Cast' _ _ _ x) = any_rows x
    any_literals (e.Tuple' _ _ xs) = any_rows xs
    any_literals (e.OptionalEqual' _ _ _ x _ y) = (any_rows x, any_rows y)
    any_literals (e.In' _ _ _ x _ _ _ y) = (any_rows x, any_rows y)
    any_literals (e.OfSet' _ _ _ _ _ x) = any_rows x
    any_literals (e.Union' _ _ _ _ x _ _ _ y) = (any_rows x, any_rows y)
    any_literals (e.Set' _ _ xs) = any_scopes xs
    any_literals (e.Coalesce' _ _ x _ _ _ y) = (any_rows x, any_rows y)
    any_literals (e.If' _ _ _ c _ _ _ x _ _ _ y) = (any_rows c, any_rows x, any_rows y)
    any_literals (e.Shaped' _ _ x _ _ _ elements) = (any_rows x, any_elements elements)
    any_literals (e.Select' _ _ aliases (Select' _ x _ _ filter _ keys offset limit)) = (any_aliases aliases, any_rows x, any_clause filter, any_keys keys, any_clause offset, any_clause limit)
    any_literals (e.For' _ _ aliases _ _ _ _ x _ _ _ y) = (any_aliases aliases, any_rows x, any_rows y)
    any_literals (e.Array' _ _ _ xs) = any_rows xs
    any_literals (e.ArrayCast' _ _ _ x) = any_rows x
    any_literals (e.Unpack' _ _ x) = any_rows x
    any_literals (e.EmptySet _ _) = tt
    any_literals (e.Unfit' _ _ _ _ xs) = any_rows xs

    any_rows : {m : _} (xs : Row_of-Expr m) → LiteralsOf p xs
    any_rows end_of-Expr = tt
    any_rows (more_of-Expr x rest) = (any_literals x, any_rows rest)

    any_scopes : {m : _} (xs : Row_of-Scope m) → LiteralsOfScopes p xs
    any_scopes end_of-Scope = tt
    any_scopes (more_of-Scope _ _ _ body rest) = (any_rows body, any_scopes rest)

    any_aliases : {m : _} (xs : Row_of-Alias m) → LiteralsOfAliases p xs
    any_aliases end_of-Alias = tt
    any_aliases (more_of-Alias _ _ _ _ body rest) = (any_rows body, any_aliases rest)

    any_elements : {m : _} (xs : Row_of-Element m) → LiteralsOfElements p xs
    any_elements end_of-Element = tt
    any_elements (more_of-Element _ _ _ _ _ _ _ _ _ body rest) = (any_rows body, any_elements rest)

    any_clause : (c : Held-Select-filter) → LiteralsOfClause p c
    any_clause None' = tt
    any_clause (Some' _ x) = any_scopes x

    any_keys : {m : _} (xs : Row_of-Key m) → LiteralsOfKeys p xs
    any_keys end_of-Key = tt
    any_keys (more_of-Key x rest) = (any_key x, any_keys rest)

    any_key : (x : key.Key) → LiteralsOfKey p x
    any_key (key.Ascending' _ _ _ _ body) = any_rows body
    any_key (key.Descending' _ _ _ _ body) = any_rows body
