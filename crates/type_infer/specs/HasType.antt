-- Which types a tree has, by cases: apart from any order of asking, and from what is told where there are none.
use Rattle.std.specs.Prelude.{◌≡◌, ℕ, Bool, true, List, [], ◌∷◌, ◌++◌, Option, Some, None, slice_get}
use Rattle.ev_value.specs.declared.operator.Op.{Op}
use Rattle.ev_value.specs.declared.value.ScalarTy.{ScalarTy}
use Rattle.ev_value.specs.declared.value.ScalarTy.TheVariants.{Int64, Bool as Truth}
use Rattle.ev_value.specs.declared.value.Val.{Val}
use Rattle.ev_list.specs.declared.param.Param.{Param}
use Rattle.ev_list.specs.declared.order.Absent.{Absent}
use Rattle.core_ir.specs.declared.card.Card.{Card}
use Rattle.core_ir.specs.declared.path.PtrId.{PtrId}
use Rattle.core_ir.specs.declared.path.Step.{Step}
use Rattle.core_ir.specs.declared.path.Step.TheVariants as step
use Rattle.core_ir.specs.declared.path.TypeId.{TypeId}
use Rattle.core_ir.specs.declared.tree.Alias.{Alias}
use Rattle.core_ir.specs.declared.tree.Element.{Element}
use Rattle.core_ir.specs.declared.tree.Expr.{Expr, Row_of-Expr, end_of-Expr, more_of-Expr, Row_of-Scope, end_of-Scope, more_of-Scope, Row_of-Alias, end_of-Alias, more_of-Alias, Row_of-Element, end_of-Element, more_of-Element}
use Rattle.core_ir.specs.declared.tree.Expr as e
use Rattle.core_ir.specs.declared.tree.Expr.TheVariants as form
use Rattle.core_ir.specs.declared.tree.Key.{Key}
use Rattle.core_ir.specs.declared.tree.Key as key
use Rattle.core_ir.specs.declared.tree.Key.TheVariants as made
use Rattle.core_ir.specs.declared.tree.Need.{Need}
use Rattle.core_ir.specs.declared.tree.Occurrence.{Occurrence}
use Rattle.core_ir.specs.declared.tree.Order.TheVariants as order
use Rattle.core_ir.specs.declared.tree.Scope.{Scope}
use Rattle.core_ir.specs.declared.tree.Select.{roll-Select, Select', Held-Select-filter, None', Some', Row_of-Key, end_of-Key, more_of-Key}
use Rattle.core_ir.specs.declared.tree.SetFunction.{SetFunction}
use Rattle.core_ir.specs.declared.tree.Width.{Width}
use Rattle.core_ir.specs.declared.ty.Ty.{Ty}
use Rattle.core_ir.specs.declared.ty.Ty.TheVariants.{Scalar, Object, Tuple, Array}
use Rattle.ev_schema.specs.Pointers.{pointer_named, computed_among}
use Rattle.ev_schema.specs.Steps.{link_of, type_after}
use Rattle.ev_schema.specs.declared.schema.Schema.{Schema}
use Rattle.type_infer.specs.declared.clause.Clause.{Clause}
use Rattle.type_infer.specs.declared.clause.Clause.TheVariants.{Filter, Key as OrderKey, Cut}
use Rattle.type_rules.specs.declared.steps.Walked.{Walked}
use Rattle.type_rules.specs.Agreement.{agreed, agreed_among, same_scalar}
use Rattle.type_infer.specs.Forms.{suits_clause}
use Rattle.type_rules.specs.Known.{Known, root_type, with_type, with_base, with_parameter}
use Rattle.type_infer.specs.Known.{suits}
use Rattle.type_rules.specs.Steps.{step_of, link_named, is_related}
use Rattle.type_rules.specs.Tables.{literal, is_of, comparable, operator_type, function_type, can_cast, elements_type}
use Rattle.ev_index.specs.Globals.{global_type}
use Rattle.type_infer.specs.Kinds.{is_object, array_element}

-- a step as it is written, and the step that it stands for from values of a type
pub data StandsFor (schema : Schema) : Ty → Step → Step → Type 0 where
  pointer : {t : TypeId} {name : List ℕ} {p : PtrId} {y : Step} → pointer_named schema t name ≡ Some p → step_of p (slice_get schema.pointers p.0) (computed_among schema.computed p) ≡ Some y → StandsFor schema (Object t) (step.Dot name) y
  back : {t : Ty} {name : List ℕ} {source : TypeId} {link : PtrId × TypeId} → link_named schema source name ≡ Some link → is_related schema link.1 t ≡ true → StandsFor schema t (step.BackDot name source) (step.Back link.0 source)
  narrowing : {t : Ty} {narrow : TypeId} → StandsFor schema t (step.Is narrow) (step.Is narrow)
  property : {t : Ty} {name : List ℕ} → StandsFor schema t (step.LinkProp name) (step.LinkProp name)

-- the steps of a path, behind those that have types, and the path with types that they make
pub data Leads (schema : Schema) : Walked → List Step → Walked → Type 0 where
  here : {w : Walked} → Leads schema w [] w
  on : {w v : Walked} {x y : Step} {more : List Step} {t : Ty} → StandsFor schema w.reached x y → type_after schema w.link w.reached y ≡ Some t → Leads schema (record { steps = w.steps ++ y ∷ []; link = link_of y; reached = t }) more v → Leads schema w (x ∷ more) v

-- a path with its types: its root has one, and its steps lead on from there
pub data IsPath (schema : Schema) (known : Known) : Occurrence → Occurrence × Ty → Type 0 where
  path : {o : Occurrence} {t : Ty} {w : Walked} → root_type known o.path.root ≡ Some t → Leads schema (record { steps = []; link = None; reached = t }) o.path.steps w → IsPath schema known o (record { name = o.name; path = record { root = o.path.root; steps = w.steps }; places = o.places }, w.reached)

-- a scope with the type of its body in its slot
abbrev pub scoped : ℕ → Expr × Ty → Scope
scoped start x = record { start = start; ty = Some x.1; body = x.0 }

-- one more part behind those that have types
abbrev pub with_part : {A : Type 0} → List A × List Ty → A → Ty → List A × List Ty
with_part done x t = (done.0 ++ x ∷ [], done.1 ++ t ∷ [])

mutual
  -- An expression, the same with its types, and the type of its items; round them stands what is known before and behind.
  pub data HasType (schema : Schema) : Known → Expr → Expr × Ty → Known → Type 0 where
    constant : {k : Known} {byte : ℕ} {v : Val} {s : ScalarTy} → literal v ≡ Some s → HasType schema k (e.Literal byte v) (form.Literal byte v, Scalar s) k
    parameter : {k : Known} {byte : ℕ} {a : Param} → suits a (k.parameter a.name) ≡ true → HasType schema k (e.Param byte a) (form.Param byte a, Scalar a.ty) (with_parameter a k)
    global_value : {k : Known} {byte : ℕ} {name : List ℕ} {s : ScalarTy} → global_type schema.globals name ≡ Some s → HasType schema k (e.Global byte name) (form.Global byte name, Scalar s) k
    path_of : {k : Known} {byte : ℕ} {a : Occurrence} {y : Occurrence × Ty} → IsPath schema k a y → HasType schema k (e.Path byte a) (form.Path byte y.0, y.1) k
    on_base : {k l : Known} {byte : ℕ} {s1 : ℕ} {t1 : Option Ty} {f1 : _} {x : Expr} {a : Occurrence} {z : Expr × Ty} {y : Occurrence × Ty} → HasType schema k x z l → IsPath schema (with_base a.path.root z.1 l) a y → HasType schema k (e.OnBase' byte s1 t1 f1 (more_of-Expr x end_of-Expr) a) (form.OnBase byte (scoped s1 z) y.0, y.1) (with_base a.path.root z.1 l)
    operation : {k l : Known} {byte : ℕ} {op : Op} {f1 : _} {xs : _} {ys : List Expr × List Ty} {t : Ty} → HaveTypes schema _ k xs ([], []) ys l → operator_type schema.types op ys.1 ≡ Some t → HasType schema k (e.Operation' byte op f1 xs) (form.Operation byte op ys.0, t) l
    plus : {k l : Known} {byte : ℕ} {f1 : _} {x : Expr} {z : Expr × Ty} → HasType schema k x z l → is_of Int64 z.1 ≡ true → HasType schema k (e.Plus' byte f1 (more_of-Expr x end_of-Expr)) (form.Plus byte z.0, z.1) l
    cast : {k l : Known} {byte : ℕ} {to : ScalarTy} {f1 : _} {x : Expr} {z : Expr × Ty} → HasType schema k x z l → can_cast z.1 to ≡ true → HasType schema k (e.Cast' byte to f1 (more_of-Expr x end_of-Expr)) (form.Cast byte to z.0, Scalar to) l
    tuple : {k l : Known} {byte : ℕ} {f1 : _} {xs : _} {ys : List Expr × List Ty} → HaveTypes schema _ k xs ([], []) ys l → HasType schema k (e.Tuple' byte f1 xs) (form.Tuple byte ys.0, Tuple ys.1) l
    optional_equal : {k l m : Known} {byte : ℕ} {b : Bool} {f1 : _} {f2 : _} {x : Expr} {y : Expr} {z : Expr × Ty} {w : Expr × Ty} → HasType schema k x z l → HasType schema l y w m → comparable schema.types z.1 w.1 ≡ true → HasType schema k (e.OptionalEqual' byte b f1 (more_of-Expr x end_of-Expr) f2 (more_of-Expr y end_of-Expr)) (form.OptionalEqual byte b z.0 w.0, Scalar Truth) m
    membership : {k l m : Known} {byte : ℕ} {b : Bool} {f2 : _} {x : Expr} {s1 : ℕ} {t1 : Option Ty} {f1 : _} {y : Expr} {z : Expr × Ty} {w : Expr × Ty} → HasType schema k x z l → HasType schema l y w m → comparable schema.types z.1 w.1 ≡ true → HasType schema k (e.In' byte b f2 (more_of-Expr x end_of-Expr) s1 t1 f1 (more_of-Expr y end_of-Expr)) (form.In byte b z.0 (scoped s1 w), Scalar Truth) m
    of_set : {k l : Known} {byte : ℕ} {f : SetFunction} {s1 : ℕ} {t1 : Option Ty} {f1 : _} {x : Expr} {z : Expr × Ty} {t : Ty} → HasType schema k x z l → function_type f z.1 ≡ Some t → HasType schema k (e.OfSet' byte f s1 t1 f1 (more_of-Expr x end_of-Expr)) (form.OfSet byte f (scoped s1 z), t) l
    union : {k l m : Known} {byte : ℕ} {s1 : ℕ} {t1 : Option Ty} {f1 : _} {s2 : ℕ} {t2 : Option Ty} {f2 : _} {x : Expr} {y : Expr} {z : Expr × Ty} {w : Expr × Ty} {t : Ty} → HasType schema k x z l → HasType schema l y w m → agreed schema.types z.1 w.1 ≡ Some t → HasType schema k (e.Union' byte s1 t1 f1 (more_of-Expr x end_of-Expr) s2 t2 f2 (more_of-Expr y end_of-Expr)) (form.Union byte (scoped s1 z) (scoped s2 w), t) m
    set : {k l : Known} {byte : ℕ} {f1 : _} {xs : _} {ys : List Scope × List Ty} {t : Ty} → ScopesHaveTypes schema _ k xs ([], []) ys l → agreed_among schema.types ys.1 ≡ Some t → HasType schema k (e.Set' byte f1 xs) (form.Set byte ys.0, t) l
    coalesce : {k l m : Known} {byte : ℕ} {f2 : _} {s1 : ℕ} {t1 : Option Ty} {f1 : _} {x : Expr} {y : Expr} {z : Expr × Ty} {w : Expr × Ty} {t : Ty} → HasType schema k x z l → HasType schema l y w m → agreed schema.types z.1 w.1 ≡ Some t → HasType schema k (e.Coalesce' byte f2 (more_of-Expr x end_of-Expr) s1 t1 f1 (more_of-Expr y end_of-Expr)) (form.Coalesce byte z.0 (scoped s1 w), t) m
    value_first : {k l m n : Known} {byte : ℕ} {f3 : _} {s1 : ℕ} {t1 : Option Ty} {f1 : _} {s2 : ℕ} {t2 : Option Ty} {f2 : _} {c : Expr} {x : Expr} {y : Expr} {v : Expr × Ty} {z : Expr × Ty} {w : Expr × Ty} {t : Ty} → HasType schema k x z l → HasType schema l c v m → HasType schema m y w n → is_of Truth v.1 ≡ true → agreed schema.types z.1 w.1 ≡ Some t → HasType schema k (e.If' byte order.ValueFirst f3 (more_of-Expr c end_of-Expr) s1 t1 f1 (more_of-Expr x end_of-Expr) s2 t2 f2 (more_of-Expr y end_of-Expr)) (form.If byte (record { order = order.ValueFirst; condition = v.0; value = scoped s1 z; other = scoped s2 w }), t) n
    condition_first : {k l m n : Known} {byte : ℕ} {f3 : _} {s1 : ℕ} {t1 : Option Ty} {f1 : _} {s2 : ℕ} {t2 : Option Ty} {f2 : _} {c : Expr} {x : Expr} {y : Expr} {v : Expr × Ty} {z : Expr × Ty} {w : Expr × Ty} {t : Ty} → HasType schema k c v l → HasType schema l x z m → HasType schema m y w n → is_of Truth v.1 ≡ true → agreed schema.types z.1 w.1 ≡ Some t → HasType schema k (e.If' byte order.ConditionFirst f3 (more_of-Expr c end_of-Expr) s1 t1 f1 (more_of-Expr x end_of-Expr) s2 t2 f2 (more_of-Expr y end_of-Expr)) (form.If byte (record { order = order.ConditionFirst; condition = v.0; value = scoped s1 z; other = scoped s2 w }), t) n
    shaped : {k l m : Known} {byte : ℕ} {f1 : _} {f2 : _} {x : Expr} {t1 : Option Ty} {number : ℕ} {es : _} {z : Expr × Ty} {ys : List Element} → HasType schema k x z l → ElementsHaveTypes schema _ (with_type number z.1 l) es [] ys m → is_object z.1 ≡ true → HasType schema k (e.Shaped' byte f1 (more_of-Expr x end_of-Expr) t1 number f2 es) (form.Shaped byte z.0 (Some z.1) number ys, z.1) m
    select : {k l m n o p q : Known} {byte : ℕ} {f1 : _} {ds : _} {f2 : _} {x : Expr} {t1 : Option Ty} {number : ℕ} {f : Held-Select-filter} {f3 : _} {ks : _} {g : Held-Select-filter} {h : Held-Select-filter} {before : List Alias} {z : Expr × Ty} {filter : Option Scope} {keys : List Key} {offset : Option Scope} {limit : Option Scope} → AliasesHaveTypes schema _ k ds [] before l → HasType schema l x z m → ClauseHasType schema Filter (with_type number z.1 m) f filter n → KeysHaveTypes schema _ n ks [] keys o → ClauseHasType schema Cut o g offset p → ClauseHasType schema Cut p h limit q → HasType schema k (e.Select' byte f1 ds (Select' f2 (more_of-Expr x end_of-Expr) t1 number f f3 ks g h)) (form.Select byte before (roll-Select (record { subject = z.0; ty = Some z.1; number = number; filter = filter; keys = keys; offset = offset; limit = limit })), z.1) q
    each : {k l m n : Known} {byte : ℕ} {f3 : _} {ds : _} {number : ℕ} {s1 : ℕ} {t1 : Option Ty} {f1 : _} {s2 : ℕ} {t2 : Option Ty} {f2 : _} {x : Expr} {y : Expr} {before : List Alias} {z : Expr × Ty} {w : Expr × Ty} → AliasesHaveTypes schema _ k ds [] before l → HasType schema l x z m → HasType schema (with_type number z.1 m) y w n → HasType schema k (e.For' byte f3 ds number s1 t1 f1 (more_of-Expr x end_of-Expr) s2 t2 f2 (more_of-Expr y end_of-Expr)) (form.For byte before number (scoped s1 z) (scoped s2 w), w.1) n
    array : {k l : Known} {byte : ℕ} {written : Option ScalarTy} {f1 : _} {xs : _} {ys : List Expr × List Ty} {s : ScalarTy} → HaveTypes schema _ k xs ([], []) ys l → elements_type written ys.1 ≡ Some s → HasType schema k (e.Array' byte written f1 xs) (form.Array byte written ys.0, Array s) l
    array_cast : {k l : Known} {byte : ℕ} {to : ScalarTy} {from : ScalarTy} {f1 : _} {x : Expr} {z : Expr × Ty} → HasType schema k x z l → array_element z.1 ≡ Some from → same_scalar to from ≡ true → HasType schema k (e.ArrayCast' byte to f1 (more_of-Expr x end_of-Expr)) (form.ArrayCast byte to z.0, Array to) l
    unpack : {k l : Known} {byte : ℕ} {f1 : _} {x : Expr} {z : Expr × Ty} {s : ScalarTy} → HasType schema k x z l → array_element z.1 ≡ Some s → HasType schema k (e.Unpack' byte f1 (more_of-Expr x end_of-Expr)) (form.Unpack byte z.0, Scalar s) l
    empty_set : {k : Known} {byte : ℕ} {t : Ty} → HasType schema k (e.EmptySet byte t) (form.EmptySet byte t, t) k

  -- the expressions of a list, behind those that have types already
  pub data HaveTypes (schema : Schema) : (g : _) → Known → Row_of-Expr g → List Expr × List Ty → List Expr × List Ty → Known → Type 0 where
    no_more : {k : Known} {done : List Expr × List Ty} → HaveTypes schema _ k end_of-Expr done done k
    one_more : {k l m : Known} {g : _} {x : Expr} {xs : Row_of-Expr g} {z : Expr × Ty} {done ys : List Expr × List Ty} → HasType schema k x z l → HaveTypes schema _ l xs (with_part done z.0 z.1) ys m → HaveTypes schema _ k (more_of-Expr x xs) done ys m

  pub data ScopesHaveTypes (schema : Schema) : (g : _) → Known → Row_of-Scope g → List Scope × List Ty → List Scope × List Ty → Known → Type 0 where
    no_scope : {k : Known} {done : List Scope × List Ty} → ScopesHaveTypes schema _ k end_of-Scope done done k
    one_scope : {k l m : Known} {g : _} {s1 : ℕ} {t1 : Option Ty} {f1 : _} {x : Expr} {xs : Row_of-Scope g} {z : Expr × Ty} {done ys : List Scope × List Ty} → HasType schema k x z l → ScopesHaveTypes schema _ l xs (with_part done (scoped s1 z) z.1) ys m → ScopesHaveTypes schema _ k (more_of-Scope s1 t1 f1 (more_of-Expr x end_of-Expr) xs) done ys m

  pub data AliasesHaveTypes (schema : Schema) : (g : _) → Known → Row_of-Alias g → List Alias → List Alias → Known → Type 0 where
    no_alias : {k : Known} {done : List Alias} → AliasesHaveTypes schema _ k end_of-Alias done done k
    one_alias : {k l m : Known} {g : _} {number s1 : ℕ} {t1 : Option Ty} {f1 : _} {x : Expr} {xs : Row_of-Alias g} {z : Expr × Ty} {done ys : List Alias} → HasType schema k x z l → AliasesHaveTypes schema _ (with_type number z.1 l) xs (done ++ record { number = number; value = scoped s1 z } ∷ []) ys m → AliasesHaveTypes schema _ k (more_of-Alias number s1 t1 f1 (more_of-Expr x end_of-Expr) xs) done ys m

  pub data ElementsHaveTypes (schema : Schema) : (g : _) → Known → Row_of-Element g → List Element → List Element → Known → Type 0 where
    no_element : {k : Known} {done : List Element} → ElementsHaveTypes schema _ k end_of-Element done done k
    one_element : {k l m : Known} {g : _} {byte s1 : ℕ} {name : List ℕ} {need : Option Need} {width : Option Width} {t0 t1 : Option Ty} {card : Option Card} {f1 : _} {x : Expr} {xs : Row_of-Element g} {z : Expr × Ty} {done ys : List Element} → HasType schema k x z l → ElementsHaveTypes schema _ l xs (done ++ record { start = byte; name = name; need = need; width = width; ty = Some z.1; card = card; value = scoped s1 z } ∷ []) ys m → ElementsHaveTypes schema _ k (more_of-Element byte name need width t0 card s1 t1 f1 (more_of-Expr x end_of-Expr) xs) done ys m

  pub data KeysHaveTypes (schema : Schema) : (g : _) → Known → Row_of-Key g → List Key → List Key → Known → Type 0 where
    no_key : {k : Known} {done : List Key} → KeysHaveTypes schema _ k end_of-Key done done k
    one_key : {k l m : Known} {g : _} {x : Key} {xs : Row_of-Key g} {y : Key} {done ys : List Key} → KeyHasType schema k x y l → KeysHaveTypes schema _ l xs (done ++ y ∷ []) ys m → KeysHaveTypes schema _ k (more_of-Key x xs) done ys m

  pub data KeyHasType (schema : Schema) : Known → Key → Key → Known → Type 0 where
    ascending : {k l : Known} {absent : Absent} {s1 : ℕ} {t1 : Option Ty} {f1 : _} {x : Expr} {z : Expr × Ty} → HasType schema k x z l → suits_clause OrderKey z.1 ≡ true → KeyHasType schema k (key.Ascending' absent s1 t1 f1 (more_of-Expr x end_of-Expr)) (made.Ascending absent (scoped s1 z)) l
    descending : {k l : Known} {absent : Absent} {s1 : ℕ} {t1 : Option Ty} {f1 : _} {x : Expr} {z : Expr × Ty} → HasType schema k x z l → suits_clause OrderKey z.1 ≡ true → KeyHasType schema k (key.Descending' absent s1 t1 f1 (more_of-Expr x end_of-Expr)) (made.Descending absent (scoped s1 z)) l

  -- a clause that may be absent
  pub data ClauseHasType (schema : Schema) : Clause → Known → Held-Select-filter → Option Scope → Known → Type 0 where
    absent : {c : Clause} {k : Known} → ClauseHasType schema c k None' None k
    present : {c : Clause} {k l : Known} {f0 : _} {s1 : ℕ} {t1 : Option Ty} {f1 : _} {x : Expr} {z : Expr × Ty} → HasType schema k x z l → suits_clause c z.1 ≡ true → ClauseHasType schema c k (Some' f0 (more_of-Scope s1 t1 f1 (more_of-Expr x end_of-Expr) end_of-Scope)) (Some (scoped s1 z)) l
