-- What is built of parts as reading gives them, at most so high, is as reading gives it, and so high.
use Rattle.std.proofs.Common.{◌≡◌, ◌≤◌, ℕ, suc, max, ℤ, List, [], ◌∷◌, ◌++◌, Option, Some, None, refl, ap, sym, subst, arith}
use Rattle.std.proofs.Math.Nat.{max-le}
use Rattle.ev_list.specs.declared.order.Absent.{Absent}
use Rattle.sql_ast.specs.declared.expression.Binary.{Binary}
use Rattle.sql_ast.specs.declared.expression.Case.{Case}
use Rattle.sql_ast.specs.declared.expression.Function.{Function}
use Rattle.sql_ast.specs.declared.expression.SqlExpr.{SqlExpr}
use Rattle.sql_ast.specs.declared.expression.SqlExpr.TheBlock as block
use Rattle.sql_ast.specs.declared.expression.SqlExpr.TheVariants as expr
use Rattle.sql_ast.specs.declared.expression.UnaryOp.{UnaryOp}
use Rattle.sql_ast.specs.declared.select.Body.{Body}
use Rattle.sql_ast.specs.declared.select.Column.{Column}
use Rattle.sql_ast.specs.declared.select.Core.{Core}
use Rattle.sql_ast.specs.declared.select.Core.TheVariants as core
use Rattle.sql_ast.specs.declared.select.FromItem.{FromItem}
use Rattle.sql_ast.specs.declared.select.FromItem.TheVariants as from
use Rattle.sql_ast.specs.declared.select.Key.{Key}
use Rattle.sql_ast.specs.declared.select.Key.TheVariants as key
use Rattle.sql_ast.specs.declared.select.Select.{Select}
use Rattle.sql_ast.specs.declared.ty.SqlTy.{SqlTy}
use Rattle.sql_ast.specs.declared.ty.SqlTy.TheBlock as ty_block
use Rattle.sql_ast.specs.declared.ty.SqlTy.TheVariants as ty
use Rattle.sql_ast.specs.Nesting.{type_height, types_height, expr_height, exprs_height, cores_height, core_height, columns_height, items_height, item_height, keys_height, key_height, option_height, cores_height_of}
use Rattle.sql_ast.specs.WellFormed.{Name, IsName, alias_of}
use Rattle.sql_check.specs.Spelled.{MayBegin, IsSpelled, AreSpelled, CoresAreSpelled, FurtherAreSpelled, CoreIsSpelled, ColumnsAreSpelled, FurtherColumnsAreSpelled, FromIsSpelled, ItemsAreSpelled, ItemIsSpelled, KeysAreSpelled, KeyIsSpelled, HeldIsSpelled, FurtherCoresAreSpelled, SelectIsSpelled}
use denote.Hole.Carrier as carrier

-- ---- lists

-- it holds of each
abbrev pub Each : {A : Type 0} → (A → Type 0) → List A → Type 0
Each P [] = Unit {0}
Each P (x ∷ xs) = P x × Each P xs

pub each_first : {A : Type 0} (P : A → Type 0) (xs ys : List A) → Each P (xs ++ ys) → Each P xs
each_first P [] ys h = tt
each_first P (x ∷ xs) ys h = (h.0, each_first P xs ys h.1)

pub each_more : {A : Type 0} (P : A → Type 0) (xs ys : List A) → Each P (xs ++ ys) → Each P ys
each_more P [] ys h = h
each_more P (x ∷ xs) ys h = each_more P xs ys h.1

pub each_push : {A : Type 0} (P : A → Type 0) (xs : List A) (x : A) → Each P xs → P x → Each P (xs ++ x ∷ [])
each_push P [] x h p = (p, tt)
each_push P (y ∷ ys) x h p = (h.0, each_push P ys x h.1 p)

abbrev pub IsSome : {A : Type 0} → List A → Type 0
IsSome [] = ⊥
IsSome (x ∷ xs) = Unit {0}

pub some_push : {A : Type 0} (xs : List A) (x : A) → IsSome xs → IsSome (xs ++ x ∷ [])
some_push [] x h = tt
some_push (y ∷ ys) x h = tt

-- ---- what is as reading gives it, and at most so high

abbrev pub IsGood : ℕ → SqlExpr → Type 0
IsGood h x = IsSpelled x × (expr_height x ≤ h)

abbrev pub IsGoodTy : ℕ → SqlTy → Type 0
IsGoodTy h t = type_height t ≤ h

abbrev pub IsGoodColumn : ℕ → Column → Type 0
IsGoodColumn h c = IsGood h c.value × IsName c.name

abbrev pub IsGoodItem : ℕ → FromItem → Type 0
IsGoodItem h i = ItemIsSpelled i × IsName (alias_of i) × (item_height i ≤ h)

abbrev pub IsGoodKey : ℕ → Key → Type 0
IsGoodKey h k = KeyIsSpelled k × (key_height k ≤ h)

abbrev pub IsGoodOption : ℕ → Option SqlExpr → Type 0
IsGoodOption h None = Unit {0}
IsGoodOption h (Some x) = IsGood h x

-- the first may stand first
abbrev pub Begins : List FromItem → Type 0
Begins [] = Unit {0}
Begins (i ∷ is) = MayBegin i

abbrev pub AreGood : ℕ → List Column → Body → Type 0
AreGood h columns body =
    IsSome columns × Each (IsGoodColumn h) columns × Begins body.from × Each (IsGoodItem h) body.from × IsGoodOption h body.condition × Each (IsGoodKey h) body.keys × IsGoodOption h body.offset × IsGoodOption h body.limit

abbrev pub IsGoodCore : ℕ → Core → Type 0
IsGoodCore h c = CoreIsSpelled c × (core_height c ≤ h)

-- with the node of the select itself
abbrev pub IsGoodSelect : ℕ → List Core → Type 0
IsGoodSelect h cores = SelectIsSpelled cores × (suc (cores_height_of cores) ≤ h)

-- ---- lists and optional forms

one_more : (m k : ℕ) → m ≤ k → suc m ≤ suc k
one_more m k h = omega (arith, h)

types_built : (h : ℕ) (ts : List SqlTy) → Each (IsGoodTy h) ts → types_height (ty_block.hidden-the_row-SqlTy-0 ts) ≤ h
unfolding type_height ty_block.hidden-the_row-SqlTy-0 carrier.hidden
types_built h [] g = omega arith
types_built h (t ∷ ts) g = max-le g.0 (types_built h ts g.1)

exprs_built : (h : ℕ) (xs : List SqlExpr) → Each (IsGood h) xs → AreSpelled (block.hidden-the_row-SqlExpr-1 xs) × (exprs_height (block.hidden-the_row-SqlExpr-1 xs) ≤ h)
unfolding IsSpelled expr_height block.hidden-the_row-SqlExpr-1 carrier.hidden
exprs_built h [] g = (tt, omega arith)
exprs_built h (x ∷ xs) g =
    let more : AreSpelled (block.hidden-the_row-SqlExpr-1 xs) × (exprs_height (block.hidden-the_row-SqlExpr-1 xs) ≤ h) = exprs_built h xs g.1 in
    ((g.0.0, more.0), max-le g.0.1 more.1)

further_cores : (cs : List Core) → FurtherCoresAreSpelled cs → FurtherAreSpelled (block.hidden-the_row-Core-0 cs)
unfolding IsSpelled block.hidden-the_row-Core-0 carrier.hidden
further_cores [] g = tt
further_cores (c ∷ cs) g = (g.0, further_cores cs g.1)

cores_spelled : (cs : List Core) → SelectIsSpelled cs → CoresAreSpelled (block.hidden-the_row-Core-0 cs)
unfolding IsSpelled block.hidden-the_row-Core-0 carrier.hidden
cores_spelled [] g = absurd g
cores_spelled (c ∷ cs) g = (g.0, further_cores cs g.1)

cores_high : (cs : List Core) → cores_height (block.hidden-the_row-Core-0 cs) ≡ cores_height_of cs
unfolding expr_height block.hidden-the_row-Core-0 carrier.hidden
cores_high [] = refl
cores_high (c ∷ cs) = ap (λ n. max (core_height c) n) (cores_high cs)

-- a row of cores below the node of a select
select_built : (h : ℕ) (cs : List Core) → IsGoodSelect h cs → CoresAreSpelled (block.hidden-the_row-Core-0 cs) × (suc (cores_height (block.hidden-the_row-Core-0 cs)) ≤ h)
select_built h cs g = (cores_spelled cs g.0, subst (λ n. suc n ≤ h) (sym (cores_high cs)) g.1)

further_columns : (h : ℕ) (cs : List Column) → Each (IsGoodColumn h) cs → FurtherColumnsAreSpelled (block.hidden-the_row-Column-3 cs) × (columns_height (block.hidden-the_row-Column-3 cs) ≤ h)
unfolding IsSpelled expr_height block.hidden-the_row-Column-3 carrier.hidden
further_columns h [] g = (tt, omega arith)
further_columns h (c ∷ cs) g =
    let more : FurtherColumnsAreSpelled (block.hidden-the_row-Column-3 cs) × (columns_height (block.hidden-the_row-Column-3 cs) ≤ h) = further_columns h cs g.1 in
    ((g.0.0.0, g.0.1, more.0), max-le g.0.0.1 more.1)

columns_built : (h : ℕ) (cs : List Column) → IsSome cs → Each (IsGoodColumn h) cs → ColumnsAreSpelled (block.hidden-the_row-Column-3 cs) × (columns_height (block.hidden-the_row-Column-3 cs) ≤ h)
unfolding IsSpelled expr_height block.hidden-the_row-Column-3 carrier.hidden
columns_built h [] some g = absurd some
columns_built h (c ∷ cs) some g =
    let more : FurtherColumnsAreSpelled (block.hidden-the_row-Column-3 cs) × (columns_height (block.hidden-the_row-Column-3 cs) ≤ h) = further_columns h cs g.1 in
    ((g.0.0.0, g.0.1, more.0), max-le g.0.0.1 more.1)

further_items : (h : ℕ) (is : List FromItem) → Each (IsGoodItem h) is → ItemsAreSpelled (block.hidden-the_row-FromItem-4 is) × (items_height (block.hidden-the_row-FromItem-4 is) ≤ h)
unfolding IsSpelled expr_height block.hidden-the_row-FromItem-4 carrier.hidden
further_items h [] g = (tt, omega arith)
further_items h (i ∷ is) g =
    let more : ItemsAreSpelled (block.hidden-the_row-FromItem-4 is) × (items_height (block.hidden-the_row-FromItem-4 is) ≤ h) = further_items h is g.1 in
    ((g.0.0, g.0.1, more.0), max-le g.0.2 more.1)

items_built : (h : ℕ) (is : List FromItem) → Begins is → Each (IsGoodItem h) is → FromIsSpelled (block.hidden-the_row-FromItem-4 is) × (items_height (block.hidden-the_row-FromItem-4 is) ≤ h)
unfolding IsSpelled expr_height block.hidden-the_row-FromItem-4 carrier.hidden
items_built h [] begins g = (tt, omega arith)
items_built h (i ∷ is) begins g =
    let more : ItemsAreSpelled (block.hidden-the_row-FromItem-4 is) × (items_height (block.hidden-the_row-FromItem-4 is) ≤ h) = further_items h is g.1 in
    ((begins, g.0.0, g.0.1, more.0), max-le g.0.2 more.1)

keys_built : (h : ℕ) (ks : List Key) → Each (IsGoodKey h) ks → KeysAreSpelled (block.hidden-the_row-Key-5 ks) × (keys_height (block.hidden-the_row-Key-5 ks) ≤ h)
unfolding IsSpelled expr_height block.hidden-the_row-Key-5 carrier.hidden
keys_built h [] g = (tt, omega arith)
keys_built h (k ∷ ks) g =
    let more : KeysAreSpelled (block.hidden-the_row-Key-5 ks) × (keys_height (block.hidden-the_row-Key-5 ks) ≤ h) = keys_built h ks g.1 in
    ((g.0.0, more.0), max-le g.0.1 more.1)

option_built : (h : ℕ) (o : Option SqlExpr) → IsGoodOption h o → HeldIsSpelled (block.back-Body-condition o) × (option_height (block.back-Body-condition o) ≤ h)
unfolding IsSpelled expr_height block.hidden-the_row-SqlExpr-2 carrier.hidden
option_built h None g = (tt, omega arith)
option_built h (Some x) g = g

-- ---- types

pub row_type : (h : ℕ) (ts : List SqlTy) → Each (IsGoodTy h) ts → IsGoodTy (suc h) (ty.Row ts)
unfolding type_height
row_type h ts g = one_more _ h (types_built h ts g)

pub array_type : (h : ℕ) (t : SqlTy) → IsGoodTy h t → IsGoodTy (suc h) (ty.Array t)
unfolding type_height ty_block.hidden-the_row-SqlTy-1 carrier.hidden
array_type h t g = one_more _ h g

-- ---- expressions

pub null_built : (h : ℕ) (t : SqlTy) → IsGoodTy h t → IsGood (suc h) (expr.Null t)
unfolding IsSpelled expr_height
null_built h t g = (tt, one_more _ h g)

pub arg_built : (h : ℕ) (name : List ℕ) (t : SqlTy) → IsGoodTy h t → IsGood (suc h) (expr.Arg name t)
unfolding IsSpelled expr_height
arg_built h name t g = (tt, one_more _ h g)

pub array_built : (h : ℕ) (s : Select) → IsGoodSelect h s.cores → IsGood (suc h) (expr.Array s)
unfolding IsSpelled expr_height
array_built h s g =
    let cores : CoresAreSpelled (block.hidden-the_row-Core-0 s.cores) × (suc (cores_height (block.hidden-the_row-Core-0 s.cores)) ≤ h) = select_built h s.cores g in
    (cores.0, one_more _ h cores.1)

pub row_built : (h : ℕ) (xs : List SqlExpr) → Each (IsGood h) xs → IsGood (suc h) (expr.Row xs)
unfolding IsSpelled expr_height
row_built h xs g =
    let all : AreSpelled (block.hidden-the_row-SqlExpr-1 xs) × (exprs_height (block.hidden-the_row-SqlExpr-1 xs) ≤ h) = exprs_built h xs g in
    (all.0, one_more _ h all.1)

pub part_built : (h : ℕ) (x : SqlExpr) (z : ℤ) → IsGood h x → IsGood (suc h) (expr.Part x z)
unfolding IsSpelled expr_height block.hidden-the_row-SqlExpr-2 carrier.hidden
part_built h x z g = (g.0, one_more _ h g.1)

pub case_built : (h : ℕ) (form : Case) → IsGood h form.condition → IsGood h form.value → IsGood h form.other → IsGood (suc h) (expr.Case form)
unfolding IsSpelled expr_height block.hidden-the_row-SqlExpr-2 carrier.hidden
case_built h form a b c = ((a.0, b.0, c.0), one_more _ h (max-le a.1 (max-le b.1 c.1)))

pub cast_built : (h : ℕ) (x : SqlExpr) (t : SqlTy) → IsGood h x → IsGoodTy h t → IsGood (suc h) (expr.Cast x t)
unfolding IsSpelled expr_height block.hidden-the_row-SqlExpr-2 carrier.hidden
cast_built h x t a b = (a.0, one_more _ h (max-le a.1 b))

pub unary_built : (h : ℕ) (operator : UnaryOp) (x : SqlExpr) → IsGood h x → IsGood (suc h) (expr.Unary operator x)
unfolding IsSpelled expr_height block.hidden-the_row-SqlExpr-2 carrier.hidden
unary_built h operator x g = (g.0, one_more _ h g.1)

pub binary_built : (h : ℕ) (form : Binary) → IsGood h form.left → IsGood h form.right → IsGood (suc h) (expr.Binary form)
unfolding IsSpelled expr_height block.hidden-the_row-SqlExpr-2 carrier.hidden
binary_built h form a b = ((a.0, b.0), one_more _ h (max-le a.1 b.1))

pub call_built : (h : ℕ) (called : Function) (x : SqlExpr) → IsGood h x → IsGood (suc h) (expr.Call called x)
unfolding IsSpelled expr_height block.hidden-the_row-SqlExpr-2 carrier.hidden
call_built h called x g = (g.0, one_more _ h g.1)

-- ---- items, keys and cores

pub lateral_built : (h : ℕ) (s : Select) (alias : Name) → IsGoodSelect h s.cores → IsName alias → MayBegin (from.Lateral s alias) × IsGoodItem h (from.Lateral s alias)
unfolding IsSpelled expr_height
lateral_built h s alias g is =
    let cores : CoresAreSpelled (block.hidden-the_row-Core-0 s.cores) × (suc (cores_height (block.hidden-the_row-Core-0 s.cores)) ≤ h) = select_built h s.cores g in
    (tt, (cores.0, is, cores.1))

pub left_built : (h : ℕ) (s : Select) (alias : Name) → IsGoodSelect h s.cores → IsName alias → IsGoodItem h (from.LeftLateral s alias)
unfolding IsSpelled expr_height
left_built h s alias g is =
    let cores : CoresAreSpelled (block.hidden-the_row-Core-0 s.cores) × (suc (cores_height (block.hidden-the_row-Core-0 s.cores)) ≤ h) = select_built h s.cores g in
    (cores.0, is, cores.1)

pub table_built : (h : ℕ) (table alias : Name) → IsName table → IsName alias → MayBegin (from.Table table alias) × IsGoodItem h (from.Table table alias)
unfolding IsSpelled expr_height
table_built h table alias a b = (tt, (a, b, omega arith))

pub unnest_built : (h : ℕ) (array : SqlExpr) (alias : Name) → IsGood h array → IsName alias → MayBegin (from.Unnest array alias) × IsGoodItem h (from.Unnest array alias)
unfolding IsSpelled expr_height
unnest_built h array alias g is = (tt, (g.0, is, g.1))

pub ascending_built : (h : ℕ) (x : SqlExpr) (nulls : Absent) → IsGood h x → IsGoodKey h (key.Ascending x nulls)
unfolding IsSpelled expr_height
ascending_built h x nulls g = g

pub descending_built : (h : ℕ) (x : SqlExpr) (nulls : Absent) → IsGood h x → IsGoodKey h (key.Descending x nulls)
unfolding IsSpelled expr_height
descending_built h x nulls g = g

module _ (h : ℕ) (columns : List Column) (body : Body) (g : AreGood h columns body) where
  pub all_built : IsGoodCore h (core.All columns body)
  unfolding IsSpelled expr_height
  all_built =
      let a : ColumnsAreSpelled (block.hidden-the_row-Column-3 columns) × (columns_height (block.hidden-the_row-Column-3 columns) ≤ h) = columns_built h columns g.0 g.1 in
      let b : FromIsSpelled (block.hidden-the_row-FromItem-4 body.from) × (items_height (block.hidden-the_row-FromItem-4 body.from) ≤ h) = items_built h body.from g.2 g.3 in
      let c : HeldIsSpelled (block.back-Body-condition body.condition) × (option_height (block.back-Body-condition body.condition) ≤ h) = option_built h body.condition g.4 in
      let k : KeysAreSpelled (block.hidden-the_row-Key-5 body.keys) × (keys_height (block.hidden-the_row-Key-5 body.keys) ≤ h) = keys_built h body.keys g.5 in
      let o : HeldIsSpelled (block.back-Body-condition body.offset) × (option_height (block.back-Body-condition body.offset) ≤ h) = option_built h body.offset g.6 in
      let l : HeldIsSpelled (block.back-Body-condition body.limit) × (option_height (block.back-Body-condition body.limit) ≤ h) = option_built h body.limit g.7 in
      ((a.0, b.0, c.0, k.0, o.0, l.0), max-le a.1 (max-le b.1 (max-le c.1 (max-le k.1 (max-le o.1 l.1)))))

  pub distinct_built : IsGoodCore h (core.Distinct columns body)
  unfolding IsSpelled expr_height
  distinct_built =
      let a : ColumnsAreSpelled (block.hidden-the_row-Column-3 columns) × (columns_height (block.hidden-the_row-Column-3 columns) ≤ h) = columns_built h columns g.0 g.1 in
      let b : FromIsSpelled (block.hidden-the_row-FromItem-4 body.from) × (items_height (block.hidden-the_row-FromItem-4 body.from) ≤ h) = items_built h body.from g.2 g.3 in
      let c : HeldIsSpelled (block.back-Body-condition body.condition) × (option_height (block.back-Body-condition body.condition) ≤ h) = option_built h body.condition g.4 in
      let k : KeysAreSpelled (block.hidden-the_row-Key-5 body.keys) × (keys_height (block.hidden-the_row-Key-5 body.keys) ≤ h) = keys_built h body.keys g.5 in
      let o : HeldIsSpelled (block.back-Body-condition body.offset) × (option_height (block.back-Body-condition body.offset) ≤ h) = option_built h body.offset g.6 in
      let l : HeldIsSpelled (block.back-Body-condition body.limit) × (option_height (block.back-Body-condition body.limit) ≤ h) = option_built h body.limit g.7 in
      ((a.0, b.0, c.0, k.0, o.0, l.0), max-le a.1 (max-le b.1 (max-le c.1 (max-le k.1 (max-le o.1 l.1)))))

-- the cores of a select below its node
pub cores_built : (h : ℕ) (cs : List Core) → IsSome cs → Each (IsGoodCore h) cs → IsGoodSelect (suc h) cs
cores_built h [] some g = absurd some
cores_built h (c ∷ cs) some g =
    let more : FurtherCoresAreSpelled cs × (cores_height_of cs ≤ h) = rest cs g.1 in
    ((g.0.0, more.0), one_more _ h (max-le g.0.1 more.1))
  where
    rest : (cs : List Core) → Each (IsGoodCore h) cs → FurtherCoresAreSpelled cs × (cores_height_of cs ≤ h)
    rest [] g = (tt, omega arith)
    rest (c ∷ cs) g = let more : FurtherCoresAreSpelled cs × (cores_height_of cs ≤ h) = rest cs g.1 in ((g.0.0, more.0), max-le g.0.1 more.1)
