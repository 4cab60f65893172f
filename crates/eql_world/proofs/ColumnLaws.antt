-- What columns give is what computed pointers give.
use Rattle.std.proofs.Common.{◌≡◌, ℕ, ◌==◌, Bool, true, false, List, [], ◌∷◌, ◌++◌, map, Option, Some, None, if◌then◌else◌, refl, sym, ap, ◌∙◌}
use Rattle.std.proofs.lemmas.Bool.{eqb-true}
use Rattle.ev_value.specs.declared.args.Args.{Args}
use Rattle.ev_value.specs.declared.item.Item.{Item}
use Rattle.ev_value.specs.declared.value.Val.{Val}
use Rattle.ev_value.specs.declared.value.Val as val
use Rattle.core_ir.specs.declared.path.PtrId.{PtrId}
use Rattle.core_ir.specs.declared.phase.Carded.{Carded}
use Rattle.ev_schema.specs.declared.pointer.Computed.{Computed}
use Rattle.ev_schema.specs.declared.schema.Schema.{Schema}
use Rattle.db_store.specs.declared.object.Object.{Object}
use Rattle.db_store.specs.Objects.{object_of, find, as_value}
use Rattle.core_ir.specs.declared.tree.Expr.{Expr}
use Rattle.eql_sem.specs.declared.form.Formed.{Formed}
use Rattle.eql_sem.specs.Parts.{items_in}
use Rattle.eql_sem.specs.World.{World}
use Rattle.eql_world.specs.declared.column.Column.{Column}
use Rattle.eql_steps.specs.Steps.{of_object}
use Rattle.eql_world.specs.StoreWorld.{Computes, last_column, listed_if, listed_for, is_object, by_columns, knowing, computing, values_for, world_where, world_of}
use Rattle.eql_world.specs.Worked.{lists_for}

-- the last column of a pointer among some and one more
last_added : (cs : List Column) (c : Column) (p : PtrId) (found : Option Column) → last_column (cs ++ c ∷ []) p found ≡ (if c.pointer.0 == p.0 then Some c else last_column cs p found)
last_added [] c p found = refl
last_added (d ∷ cs) c p found = last_added cs c p (if d.pointer.0 == p.0 then Some d else found)

at_first : (f : Val → List (Item Val)) (o : Object) (os : List Object) (id : ℕ) (b : Bool) → (b ≡ true → o.id ≡ id)
    → listed_for os (map (λ o. f (as_value o)) os) (val.Obj id) ≡ of_object (find os id) (λ o. f (val.Obj id))
    → (if b then f (as_value o) else listed_for os (map (λ o. f (as_value o)) os) (val.Obj id)) ≡ of_object (if b then Some o else find os id) (λ o. f (val.Obj id))
at_first f o os id true is later = ap (λ n. f (val.Obj n)) (is refl)
at_first f o os id false is later = later

-- of each object the list that was made for it
listed : (f : Val → List (Item Val)) (os : List Object) (id : ℕ) → listed_for os (map (λ o. f (as_value o)) os) (val.Obj id) ≡ of_object (find os id) (λ o. f (val.Obj id))
listed f [] id = refl
listed f (o ∷ os) id = at_first f o os id (o.id == id) (eqb-true o.id id) (listed f os id)

nothing_listed : (os : List Object) (lists : List (List (Item Val))) (v : Val) → ((o : Object) → is_object v o ≡ false) → listed_for os lists v ≡ []
nothing_listed [] lists v none = refl
nothing_listed (o ∷ os) [] v none = refl
nothing_listed (o ∷ os) (xs ∷ lists) v none = ap (λ b. if b then xs else listed_for os lists v) (none o) ∙ nothing_listed os lists v none

pub nothing_for : (os : List Object) (lists : List (List (Item Val))) (v : Val) → ((o : Object) → is_object v o ≡ false) → [] ≡ listed_for os lists v
nothing_for os lists v none = sym (nothing_listed os lists v none)

listed_values : (f : Val → List (Item Val)) (os : List Object) (v : Val) → listed_for os (map (λ o. f (as_value o)) os) v ≡ of_object (object_of os v) (λ o. f v)
listed_values f os (val.Obj id) = listed f os id
listed_values f os (val.Int z) = nothing_listed os _ (val.Int z) (λ o. refl)
listed_values f os (val.Str s) = nothing_listed os _ (val.Str s) (λ o. refl)
listed_values f os (val.Bool b) = nothing_listed os _ (val.Bool b) (λ o. refl)
listed_values f os (val.Id n) = nothing_listed os _ (val.Id n) (λ o. refl)
listed_values f os (val.Tuple' m vs) = nothing_listed os _ (val.Tuple' m vs) (λ o. refl)
listed_values f os (val.Array' m vs) = nothing_listed os _ (val.Array' m vs) (λ o. refl)

-- One more column, worked out over those before it, is one more expression that is known.
pub column_added : (s : Schema) (os : List Object) (args : Args) (cs : List Column) (c : Computed) →
    by_columns os (cs ++ record { pointer = c.pointer; lists = lists_for (world_where s os args (by_columns os cs)) c.expr os } ∷ [])
    ≡ knowing s os args (by_columns os cs) c
column_added s os args cs c = λ i p v. added p v i
  where
    w : World
    w = world_where s os args (by_columns os cs)

    column : Column
    column = record { pointer = c.pointer; lists = lists_for w c.expr os }

    found : (b : Bool) (p : PtrId) (v : Val) → listed_if os (if b then Some column else last_column cs p None) v
        ≡ (if b then of_object (object_of os v) (λ o. values_for w c.expr v) else by_columns os cs p v)
    found true p v = listed_values (values_for w c.expr) os v
    found false p v = refl

    added : (p : PtrId) (v : Val) → by_columns os (cs ++ column ∷ []) p v ≡ knowing s os args (by_columns os cs) c p v
    added p v = ap (λ l. listed_if os l v) (last_added cs column p None) ∙ found (c.pointer.0 == p.0) p v

-- the same where the lists are known to be those
pub column_worked : (s : Schema) (os : List Object) (args : Args) (cs : List Column) (c : Computed) (lists : List (List (Item Val))) →
    lists ≡ lists_for (world_where s os args (by_columns os cs)) c.expr os →
    by_columns os (cs ++ record { pointer = c.pointer; lists = lists } ∷ []) ≡ knowing s os args (by_columns os cs) c
column_worked s os args cs c lists e =
    ap (λ (l : List (List (Item Val))). by_columns os (cs ++ record { pointer = c.pointer; lists = l } ∷ [])) e ∙ column_added s os args cs c

-- where columns give what computed pointers give, the world is whole
pub whole : (s : Schema) (os : List Object) (args : Args) (cs : List Column) → by_columns os cs ≡ computing s os args s.computed → world_where s os args (by_columns os cs) ≡ world_of s os args
whole s os args cs e = ap (λ (c : Computes). world_where s os args c) e

-- the list of an expression in a whole world
pub whole_list : (s : Schema) (os : List Object) (args : Args) (cs : List Column) (x : Carded) (v : Val) (xs : List (Item Val)) →
    world_where s os args (by_columns os cs) ≡ world_of s os args → xs ≡ values_for (world_where s os args (by_columns os cs)) x v → xs ≡ values_for (world_of s os args) x v
whole_list s os args cs x v xs e is = is ∙ ap (λ (w : World). values_for w x v) e

-- the items of a query in a whole world
pub whole_items : (s : Schema) (os : List Object) (args : Args) (cs : List Column) (x : Expr) (xs : List (Item Formed)) →
    world_where s os args (by_columns os cs) ≡ world_of s os args → xs ≡ items_in (world_where s os args (by_columns os cs)) x [] [] → xs ≡ items_in (world_of s os args) x [] []
whole_items s os args cs x xs e is = is ∙ ap (λ (w : World). items_in w x [] []) e
