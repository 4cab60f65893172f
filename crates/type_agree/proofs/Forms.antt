-- Each form of a tree with types has its type as its kind, where its parts have theirs.
use Rattle.std.proofs.Common.{◌≡◌, IsTrue, ℕ, ◌==◌, true, false, Option, Some, None, List, [], ◌∷◌, ◌++◌, refl, sym, ap, ◌∙◌, subst}
use Rattle.std.proofs.lemmas.Bool.Decides.{Decides-eqb}
use Rattle.ev_value.specs.declared.args.Args.{Args}
use Rattle.core_ir.specs.declared.path.Root.{Root}
use Rattle.core_ir.specs.declared.path.Root.TheVariants as root
use Rattle.core_ir.specs.declared.tree.Alias.{Alias}
use Rattle.core_ir.specs.declared.tree.Direct.{Direct}
use Rattle.core_ir.specs.declared.tree.Element.{Element}
use Rattle.core_ir.specs.declared.tree.Expr.{Expr, Row_of-Expr, Row_of-Scope, Row_of-Alias, Row_of-Element}
use Rattle.core_ir.specs.declared.tree.Expr.TheBlock as block
use Rattle.core_ir.specs.declared.tree.Key.{Key}
use Rattle.core_ir.specs.declared.tree.Occurrence.{Occurrence}
use Rattle.core_ir.specs.declared.tree.Scope.{Scope}
use Rattle.core_ir.specs.declared.tree.Select.{roll-Select, Held-Select-filter, Row_of-Key}
use Rattle.core_ir.specs.declared.ty.Ty.{Ty}
use Rattle.core_ir.specs.declared.ty.Ty.TheVariants as made
use Rattle.core_ir.specs.Occurrences.{direct, direct_of, all, all_of_clause, all_of_keys}
use Rattle.core_ir.specs.Path.{subject, variable}
use denote.Hole.Carrier as carrier
use Rattle.ev_value.specs.declared.value.ScalarTy.{ScalarTy}
use Rattle.ev_schema.specs.declared.schema.Schema.{Schema}
use Rattle.ev_index.specs.Globals.{global_type}
use Rattle.eql_steps.specs.Steps.{argument_named}
use Rattle.eql_sem.specs.declared.binding.Name.{Name}
use Rattle.eql_sem.specs.declared.binding.Name.TheVariants as name
use Rattle.eql_sem.specs.Bindings.{paths_of}
use Rattle.eql_sem.specs.Meaning.{base_number}
use Rattle.path_scope.specs.Factored.{factored}
use Rattle.eql_agree.specs.Kinds.{Each, Along}
use Rattle.eql_agree.specs.Kinded.{Extended, Has, HasEach, HasClause, HasKeys, HasAsScope, base_kinds, kinds_of_bases, part_kinds}
use Rattle.type_infer.specs.declared.clause.Clause.{Clause}
use Rattle.type_infer.specs.HasType.{HasType, HaveTypes, ScopesHaveTypes, AliasesHaveTypes, ElementsHaveTypes, KeysHaveTypes, KeyHasType, ClauseHasType, IsPath}
use Rattle.type_infer.specs.HasType as has
use Rattle.type_rules.specs.Known.{Known, root_type, with_type, with_base}
use Rattle.store_agree.specs.Typed.{given_fits, makes_tuple, typing}
use Rattle.type_agree.specs.Noted.{Noted, notes, notes_of, notes_of_aliases, notes_of_elements, notes_of_clause, notes_of_keys}
use Rattle.type_agree.specs.Premises.{IsTypedSchema, IsGivenTo, IsAnswered}
use Rattle.type_agree.proofs.Widened.{scalar_itself, chosen, agreed_widens, among_widen}
use Rattle.type_agree.proofs.Tables.{literal_has, operator_has, array_has, element_has, cast_array_is, function_has, tuple_has, tuple_parts}
use Rattle.type_agree.proofs.Walks.{Walks, led}
use Rattle.type_agree.proofs.Scopes.{HasPathType, IsPathTyped, is_picked, bases_append}
use Rattle.type_agree.proofs.Rows.{each_front, each_back, each_append, along_push, Throughout, InAlias, InClause, InKey, one_noted, row_noted, scopes_noted, elements_noted, aliases_noted, clause_noted, keys_noted, Gives, extended, in_scope, one_direct, one_bases, row_has, row_direct, row_bases, row_parts, scopes_have, GivesSome, elements_have, AliasGives, aliases_have, ClauseGives, clause_has, KeyGives, keys_have}

module _ (s : Schema) (types : ℕ → Option Ty) where
  -- what is known is of these types
  abbrev pub Within : Known → Type 0
  Within k = (n : ℕ) (t : Ty) → k.type_of n ≡ Some t → types n ≡ Some t

  pub within_type : (n : ℕ) (t : Ty) (k : Known) → types n ≡ Some t → Within k → Within (with_type n t k)
  within_type n t k e w m u f =
      chosen (n == m) (Some t) (k.type_of m) (Some u) f
      (λ h i. subst (λ m. types m ≡ Some u) ((Decides-eqb n m).0 h) (e ∙ i))
      (λ h i. w m u i)

  pub within_base : (r : Root) (t : Ty) (k : Known) → types (base_number r) ≡ Some t → Within k → Within (with_base r t k)
  within_base (root.Base n) t k e w = within_type n t k e w
  within_base (root.Extent a) t k e w = w
  within_base (root.Alias n) t k e w = w
  within_base (root.Var n) t k e w = w
  within_base (root.Subject n) t k e w = w

  root_within : (k : Known) (r : Root) (t : Ty) → Within k → root_type k r ≡ Some t → root_type (record { type_of = types; parameter = λ n. None }) r ≡ Some t
  root_within k (root.Extent a) t w e = e
  root_within k (root.Alias n) t w e = w n t e
  root_within k (root.Var n) t w e = w n t e
  root_within k (root.Subject n) t w e = w n t e
  root_within k (root.Base n) t w e = w n t e

  pub is_path : (typed : IsTypedSchema s) (k : Known) (o : Occurrence) (y : Occurrence × Ty) → IsPath s k o y → Within k → HasPathType s types y.0.path y.1
  is_path typed k o _ (has.path {t = t} {w = v} e l) w =
      let q = led s typed (record { steps = []; link = _; reached = t }) o.path.steps v l in
      (t, root_within k o.path.root t w e, subst (λ xs. Walks s None t xs v.reached) (sym q.1) q.2)

  pub same_root : (k : Known) (o : Occurrence) (y : Occurrence × Ty) → IsPath s k o y → y.0.path.root ≡ o.path.root
  same_root k o _ (has.path e l) = refl

-- an argument that is given for a global is of its type
abbrev pub GlobalsSuit : Schema → Args → Type 0
GlobalsSuit s args = (n : List ℕ) (a : ScalarTy) → global_type s.globals n ≡ Some a → IsTrue (given_fits (argument_named args.globals n) (made.Scalar a))

-- what a place says of a number and of a parameter is so
abbrev pub IsSo : (ℕ → Option Ty) → Args → Noted → Type 0
IsSo types args n = IsGivenTo types n × IsAnswered args n

module _ (s : Schema) (types : ℕ → Option Ty) (args : Args) (typed : IsTypedSchema s) (globals : GlobalsSuit s args) where
  abbrev So : Noted → Type 0
  So = IsSo types args

  -- what an expression says, as it stands in a box
  abbrev said : Expr → List Noted
  said x = notes_of (block.hidden-the_row-Expr-0 x)

  abbrev Given : Expr → Ty → Type 0
  Given = Gives s types typed args

  abbrev Some_given : Expr → Type 0
  Some_given = GivesSome s types typed args

  abbrev Alias_given : Alias → Type 0
  Alias_given = AliasGives s types typed args

  abbrev Scope_given : Scope → Ty → Type 0
  Scope_given c t = Given c.body t

  abbrev Element_given : Element → Type 0
  Element_given x = Some_given x.value.body

  abbrev Scope_noted : Scope → Type 0
  Scope_noted c = Throughout So c.body

  abbrev Element_noted : Element → Type 0
  Element_noted x = Throughout So x.value.body

  -- what is noted of the whole is noted of what stands before
  keeps_all : {g : _} {k l : Known} {xs : Row_of-Expr g} {done ys : List Expr × List Ty} → HaveTypes s _ k xs done ys l → Each (Throughout So) ys.0 → Each (Throughout So) done.0
  keeps_all has.no_more n = n
  keeps_all (has.one_more a b) n = each_front (Throughout So) _ _ (keeps_all b n)

  keeps_scopes : {g : _} {k l : Known} {xs : Row_of-Scope g} {done ys : List Scope × List Ty} → ScopesHaveTypes s _ k xs done ys l → Each Scope_noted ys.0 → Each Scope_noted done.0
  keeps_scopes has.no_scope n = n
  keeps_scopes (has.one_scope a b) n = each_front Scope_noted _ _ (keeps_scopes b n)

  keeps_aliases : {g : _} {k l : Known} {xs : Row_of-Alias g} {done ys : List Alias} → AliasesHaveTypes s _ k xs done ys l → Each (InAlias So) ys → Each (InAlias So) done
  keeps_aliases has.no_alias n = n
  keeps_aliases (has.one_alias a b) n = each_front (InAlias So) _ _ (keeps_aliases b n)

  keeps_elements : {g : _} {k l : Known} {xs : Row_of-Element g} {done ys : List Element} → ElementsHaveTypes s _ k xs done ys l → Each Element_noted ys → Each Element_noted done
  keeps_elements has.no_element n = n
  keeps_elements (has.one_element a b) n = each_front Element_noted _ _ (keeps_elements b n)

  keeps_keys : {g : _} {k l : Known} {xs : Row_of-Key g} {done ys : List Key} → KeysHaveTypes s _ k xs done ys l → Each (InKey So) ys → Each (InKey So) done
  keeps_keys has.no_key n = n
  keeps_keys (has.one_key a b) n = each_front (InKey So) _ _ (keeps_keys b n)

  mutual
    unfolding Has notes direct roll-Select carrier.roll carrier.hidden block.hidden-the_row-Expr-0

    pub gives : {k l : Known} {x : Expr} {y : Expr × Ty} → HasType s k x y l → Within s types k → Throughout So y.0 → Given y.0 y.1 × Within s types l
    gives (has.constant e) w n = (((λ ns ts h. literal_has _ _ e), (λ o. tt), tt), w)
    gives (has.parameter e) w n = (((λ ns ts h. n.0.1), (λ o. tt), tt), w)
    gives (has.global_value e) w n = (((λ ns ts h. globals _ _ e), (λ o. tt), tt), w)
    gives (has.path_of p) w n =
        let q = is_path s types typed _ _ _ p w in
        (((λ ns ts h. is_picked s types ns ts (name.Prefix _) _ h q), (λ o. ((_, q), tt)), tt), w)
    gives (has.on_base {l = l} {a = o} {z = z} {y = y} a p) w n =
        let r = gives a w (one_noted So z.0 n.1) in
        let at : types (base_number o.path.root) ≡ Some z.1 = ap (λ r. types (base_number r)) (sym (same_root s types _ _ _ p)) ∙ n.0.0 in
        let v = within_base s types o.path.root z.1 l at r.1 in
        let q = is_path s types typed _ _ _ p v in
        (((λ ns ts h. is_picked s types ns ts (name.Prefix y.0.path) y.1 h q), (λ o. ((_, q), tt)), ((z.1, n.0.0, in_scope s types typed args z.0 z.1 r.0), tt)), v)
    gives (has.operation {op = op} {ys = ys} a e) w n =
        let r = all_give a w (row_noted So ys.0 n) tt in
        (((λ ns ts h. (ys.1, row_has s types typed args ys.0 ys.1 r.0 ns ts h, operator_has s.types op ys.1 _ e)), row_direct s types typed args ys.0 ys.1 r.0, row_bases s types typed args ys.0 ys.1 r.0), r.1)
    gives (has.plus {z = z} a e) w n =
        let r = gives a w (one_noted So z.0 n) in
        (((λ ns ts h. r.0.0 ns ts h), (λ o. one_direct s types typed args z.0 o (r.0.1 o)), one_bases s types typed args z.0 r.0.2), r.1)
    gives (has.cast {to = to} {z = z} a e) w n =
        let r = gives a w (one_noted So z.0 n) in
        (((λ ns ts h. (z.1, r.0.0 ns ts h, scalar_itself to)), (λ o. one_direct s types typed args z.0 o (r.0.1 o)), one_bases s types typed args z.0 r.0.2), r.1)
    gives (has.tuple {ys = ys} a) w n =
        let r = all_give a w (row_noted So ys.0 n) tt in
        let k = typing s args in
        let row = block.hidden-the_row-Expr-1 ys.0 in
        let parts : part_kinds k row (made.Tuple ys.1) 0 ≡ ys.1 = row_parts s types typed args ys.0 ys.1 r.0 (made.Tuple ys.1) 0 (tuple_parts ys.1) in (
          (
            (λ ns ts h. subst (λ us. HasEach k row ns ts us × IsTrue (makes_tuple s us (made.Tuple ys.1))) (sym parts) (row_has s types typed args ys.0 ys.1 r.0 ns ts h, tuple_has s ys.1)),
            row_direct s types typed args ys.0 ys.1 r.0,
            row_bases s types typed args ys.0 ys.1 r.0,
          ),
          r.1,
        )
    gives (has.optional_equal {z = x} {w = y} a b e) w n =
        let r = gives a w (one_noted So x.0 (each_front So (said x.0) (said y.0) n)) in
        let q = gives b r.1 (one_noted So y.0 (each_back So (said x.0) (said y.0) n)) in (
          (
            (λ ns ts h. (x.1, y.1, r.0.0 ns ts h, q.0.0 ns ts h, refl)),
            (λ o. each_append (λ (d : Direct). IsPathTyped s types d.occurrence.path) (direct_of (block.hidden-the_row-Expr-0 x.0) true) _ (one_direct s types typed args x.0 true (r.0.1 true)) (one_direct s types typed args y.0 true (q.0.1 true))),
            bases_append s types (kinds_of_bases (typing s args) (block.hidden-the_row-Expr-0 x.0)) _ (one_bases s types typed args x.0 r.0.2) (one_bases s types typed args y.0 q.0.2),
          ),
          q.1,
        )
    gives (has.membership {z = x} {w = y} a b e) w n =
        let r = gives a w (one_noted So x.0 (each_front So (said x.0) (said y.0) n)) in
        let q = gives b r.1 (one_noted So y.0 (each_back So (said x.0) (said y.0) n)) in
        (((λ ns ts h. (x.1, y.1, r.0.0 ns ts h, in_scope s types typed args y.0 y.1 q.0 ns ts h, refl)), (λ o. one_direct s types typed args x.0 o (r.0.1 o)), one_bases s types typed args x.0 r.0.2), q.1)
    gives (has.of_set {f = f} {z = z} {t = t} a e) w n =
        let r = gives a w (one_noted So z.0 n) in
        (((λ ns ts h. (z.1, in_scope s types typed args z.0 z.1 r.0 ns ts h, function_has s f z.1 t e)), (λ o. tt), tt), r.1)
    gives (has.union {z = x} {w = y} {t = t} a b e) w n =
        let r = gives a w (one_noted So x.0 (each_front So (said x.0) (said y.0) n)) in
        let q = gives b r.1 (one_noted So y.0 (each_back So (said x.0) (said y.0) n)) in
        let wide = agreed_widens s x.1 y.1 t e in
        (((λ ns ts h. ((x.1, in_scope s types typed args x.0 x.1 r.0 ns ts h, wide.0), (y.1, in_scope s types typed args y.0 y.1 q.0 ns ts h, wide.1))), (λ o. tt), tt), q.1)
    gives (has.set {ys = ys} {t = t} a e) w n =
        let r = scopes_give a w (scopes_noted So ys.0 n) tt in
        (((λ ns ts h. scopes_have s types typed args ys.0 ys.1 t r.0 (among_widen s typed.extends ys.1 t e) ns ts h), (λ o. tt), tt), r.1)
    gives (has.coalesce {z = x} {w = y} {t = t} a b e) w n =
        let r = gives a w (one_noted So x.0 (each_front So (said x.0) (said y.0) n)) in
        let q = gives b r.1 (one_noted So y.0 (each_back So (said x.0) (said y.0) n)) in
        let wide = agreed_widens s x.1 y.1 t e in
        (((λ ns ts h. ((x.1, r.0.0 ns ts h, wide.0), (y.1, in_scope s types typed args y.0 y.1 q.0 ns ts h, wide.1))), (λ o. one_direct s types typed args x.0 true (r.0.1 true)), one_bases s types typed args x.0 r.0.2), q.1)
    gives (has.value_first {v = v} {z = x} {w = y} {t = t} a b c d e) w n =
        let first = each_front So (said v.0 ++ said x.0) (said y.0) n in
        let r = gives a w (one_noted So x.0 (each_back So (said v.0) (said x.0) first)) in
        let p = gives b r.1 (one_noted So v.0 (each_front So (said v.0) (said x.0) first)) in
        let q = gives c p.1 (one_noted So y.0 (each_back So (said v.0 ++ said x.0) (said y.0) n)) in
        let wide = agreed_widens s x.1 y.1 t e in
        (((λ ns ts h. (v.1, p.0.0 ns ts h, (x.1, in_scope s types typed args x.0 x.1 r.0 ns ts h, wide.0), (y.1, in_scope s types typed args y.0 y.1 q.0 ns ts h, wide.1))), (λ o. one_direct s types typed args v.0 o (p.0.1 o)), one_bases s types typed args v.0 p.0.2), q.1)
    gives (has.condition_first {v = v} {z = x} {w = y} {t = t} a b c d e) w n =
        let first = each_front So (said v.0 ++ said x.0) (said y.0) n in
        let p = gives a w (one_noted So v.0 (each_front So (said v.0) (said x.0) first)) in
        let r = gives b p.1 (one_noted So x.0 (each_back So (said v.0) (said x.0) first)) in
        let q = gives c r.1 (one_noted So y.0 (each_back So (said v.0 ++ said x.0) (said y.0) n)) in
        let wide = agreed_widens s x.1 y.1 t e in
        (((λ ns ts h. (v.1, p.0.0 ns ts h, (x.1, in_scope s types typed args x.0 x.1 r.0 ns ts h, wide.0), (y.1, in_scope s types typed args y.0 y.1 q.0 ns ts h, wide.1))), (λ o. one_direct s types typed args v.0 o (p.0.1 o)), one_bases s types typed args v.0 p.0.2), q.1)
    gives (has.shaped {l = l} {number = m} {z = z} {ys = ys} a b e) w n =
        let rest = notes_of_elements (block.hidden-the_row-Element-3 ys) in
        let r = gives a w (one_noted So z.0 (each_front So (said z.0) rest n.1)) in
        let q = elements_give b (within_type s types m z.1 l n.0.0 r.1) (elements_noted So ys (each_back So (said z.0) rest n.1)) tt in
        (((λ ns ts h. (r.0.0 ns ts h, elements_have s types typed args ys q.0 (name.Prefix (subject m) ∷ ns) (z.1 ∷ ts) ((z.1, n.0.0, refl), h))), (λ o. one_direct s types typed args z.0 o (r.0.1 o)), one_bases s types typed args z.0 r.0.2), q.1)
    gives (has.select {m = l} {number = m} {before = before} {z = z} {filter = filter} {keys = keys} {offset = offset} {limit = limit} a b c d e f) w n =
        let k = typing s args in
        let aliases = notes_of_aliases (block.hidden-the_row-Alias-4 before) in
        let in_filter = notes_of_clause (block.back-Select-filter filter) in
        let in_keys = notes_of_keys (block.hidden-the_row-Key-6 keys) in
        let in_offset = notes_of_clause (block.back-Select-filter offset) in
        let in_limit = notes_of_clause (block.back-Select-filter limit) in
        let n4 = each_front So (aliases ++ said z.0 ++ in_filter ++ in_keys ++ in_offset) in_limit n.1 in
        let n3 = each_front So (aliases ++ said z.0 ++ in_filter ++ in_keys) in_offset n4 in
        let n2 = each_front So (aliases ++ said z.0 ++ in_filter) in_keys n3 in
        let n1 = each_front So (aliases ++ said z.0) in_filter n2 in
        let p = aliases_give a w (aliases_noted So before (each_front So aliases (said z.0) n1)) tt in
        let r = gives b p.1 (one_noted So z.0 (each_back So aliases (said z.0) n1)) in
        let g = clause_gives c (within_type s types m z.1 l n.0.0 r.1) (clause_noted So filter (each_back So (aliases ++ said z.0) in_filter n2)) in
        let q = keys_give d g.1 (keys_noted So keys (each_back So (aliases ++ said z.0 ++ in_filter) in_keys n3)) tt in
        let o = clause_gives e q.1 (clause_noted So offset (each_back So (aliases ++ said z.0 ++ in_filter ++ in_keys) in_offset n4)) in
        let i = clause_gives f o.1 (clause_noted So limit (each_back So (aliases ++ said z.0 ++ in_filter ++ in_keys ++ in_offset) in_limit n.1)) in
        let occurrences = all z.0 ++ all_of_clause (block.back-Select-filter filter) ++ all_of_keys (block.hidden-the_row-Key-6 keys) in
        let inside = λ (ms : List Name) (us : List Ty). Has k z.0 ms us z.1 × HasClause k (block.back-Select-filter filter) (name.Prefix (subject m) ∷ ms) (z.1 ∷ us) × HasKeys k (block.hidden-the_row-Key-6 keys) (name.Prefix (subject m) ∷ ms) (z.1 ∷ us) in (
          (
            (λ ns ts h. aliases_have s types typed args before p.0
                (λ ms us. HasClause k (block.back-Select-filter offset) ms us × HasClause k (block.back-Select-filter limit) ms us × Extended k (base_kinds k z.0) (factored (direct z.0 false) occurrences (paths_of ms)) ms us inside)
                (λ ms us j. (
                  clause_has s types typed args offset o.0 ms us j,
                  clause_has s types typed args limit i.0 ms us j,
                  extended s types typed args (base_kinds k z.0) (direct z.0 false) occurrences ms us inside r.0.2 (r.0.1 false) j
                      (λ ms us j. (r.0.0 ms us j, clause_has s types typed args filter g.0 (name.Prefix (subject m) ∷ ms) (z.1 ∷ us) ((z.1, n.0.0, refl), j), keys_have s types typed args keys q.0 (name.Prefix (subject m) ∷ ms) (z.1 ∷ us) ((z.1, n.0.0, refl), j))),
                ))
                ns ts h),
            (λ o. tt),
            tt,
          ),
          i.1,
        )
    gives (has.each {m = l} {number = m} {before = before} {z = x} {w = y} a b c) w n =
        let aliases = notes_of_aliases (block.hidden-the_row-Alias-4 before) in
        let first = each_front So (aliases ++ said x.0) (said y.0) n.1 in
        let p = aliases_give a w (aliases_noted So before (each_front So aliases (said x.0) first)) tt in
        let r = gives b p.1 (one_noted So x.0 (each_back So aliases (said x.0) first)) in
        let q = gives c (within_type s types m x.1 l n.0.0 r.1) (one_noted So y.0 (each_back So (aliases ++ said x.0) (said y.0) n.1)) in
        let k = typing s args in (
          (
            (λ ns ts h. aliases_have s types typed args before p.0
                (λ ms us. (v : Ty) × HasAsScope k x.0 ms us v × HasAsScope k y.0 (name.Prefix (variable m) ∷ ms) (v ∷ us) y.1)
                (λ ms us i. (x.1, in_scope s types typed args x.0 x.1 r.0 ms us i, in_scope s types typed args y.0 y.1 q.0 (name.Prefix (variable m) ∷ ms) (x.1 ∷ us) ((x.1, n.0.0, refl), i))) ns ts h),
            (λ o. tt),
            tt,
          ),
          q.1,
        )
    gives (has.array {written = written} {ys = ys} {s = sc} a e) w n =
        let r = all_give a w (row_noted So ys.0 n) tt in
        (((λ ns ts h. (ys.1, row_has s types typed args ys.0 ys.1 r.0 ns ts h, array_has written ys.1 sc e)), row_direct s types typed args ys.0 ys.1 r.0, row_bases s types typed args ys.0 ys.1 r.0), r.1)
    gives (has.array_cast {to = to} {from = from} {z = z} a e f) w n =
        let r = gives a w (one_noted So z.0 n) in
        (((λ ns ts h. subst (Has (typing s args) z.0 ns ts) (cast_array_is z.1 to from e f) (r.0.0 ns ts h)), (λ o. one_direct s types typed args z.0 o (r.0.1 o)), one_bases s types typed args z.0 r.0.2), r.1)
    gives (has.unpack {z = z} {s = sc} a e) w n =
        let r = gives a w (one_noted So z.0 n) in
        (((λ ns ts h. (z.1, r.0.0 ns ts h, element_has z.1 sc e)), (λ o. one_direct s types typed args z.0 o (r.0.1 o)), one_bases s types typed args z.0 r.0.2), r.1)
    gives has.empty_set w n = (((λ ns ts h. tt), (λ o. tt), tt), w)

    all_give : {g : _} {k l : Known} {xs : Row_of-Expr g} {done ys : List Expr × List Ty} → HaveTypes s _ k xs done ys l → Within s types k → Each (Throughout So) ys.0 → Along Given done.0 done.1 → Along Given ys.0 ys.1 × Within s types l
    all_give has.no_more w n d = (d, w)
    all_give (has.one_more {done = done} a b) w n d =
        let r = gives a w (each_back (Throughout So) done.0 _ (keeps_all b n)).0 in
        all_give b r.1 n (along_push Given _ _ _ _ d r.0)

    scopes_give : {g : _} {k l : Known} {xs : Row_of-Scope g} {done ys : List Scope × List Ty} → ScopesHaveTypes s _ k xs done ys l → Within s types k → Each Scope_noted ys.0 → Along Scope_given done.0 done.1 → Along Scope_given ys.0 ys.1 × Within s types l
    scopes_give has.no_scope w n d = (d, w)
    scopes_give (has.one_scope {done = done} a b) w n d =
        let r = gives a w (each_back Scope_noted done.0 _ (keeps_scopes b n)).0 in
        scopes_give b r.1 n (along_push Scope_given _ _ _ _ d r.0)

    aliases_give : {g : _} {k l : Known} {xs : Row_of-Alias g} {done ys : List Alias} → AliasesHaveTypes s _ k xs done ys l → Within s types k → Each (InAlias So) ys → Each Alias_given done → Each Alias_given ys × Within s types l
    aliases_give has.no_alias w n d = (d, w)
    aliases_give (has.one_alias {l = l} {done = done} a b) w n d =
        let m = (each_back (InAlias So) done _ (keeps_aliases b n)).0 in
        let r = gives a w m.1 in
        aliases_give b (within_type s types _ _ l m.0.0 r.1) n (each_append Alias_given done _ d ((_, r.0, m.0.0), tt))

    elements_give : {g : _} {k l : Known} {xs : Row_of-Element g} {done ys : List Element} → ElementsHaveTypes s _ k xs done ys l → Within s types k → Each Element_noted ys → Each Element_given done → Each Element_given ys × Within s types l
    elements_give has.no_element w n d = (d, w)
    elements_give (has.one_element {done = done} a b) w n d =
        let r = gives a w (each_back Element_noted done _ (keeps_elements b n)).0 in
        elements_give b r.1 n (each_append Element_given done _ d ((_, r.0), tt))

    keys_give : {g : _} {k l : Known} {xs : Row_of-Key g} {done ys : List Key} → KeysHaveTypes s _ k xs done ys l → Within s types k → Each (InKey So) ys → Each (KeyGives s types typed args) done → Each (KeyGives s types typed args) ys × Within s types l
    keys_give has.no_key w n d = (d, w)
    keys_give (has.one_key {done = done} a b) w n d =
        let r = key_gives a w (each_back (InKey So) done _ (keeps_keys b n)).0 in
        keys_give b r.1 n (each_append (KeyGives s types typed args) done _ d (r.0, tt))

    key_gives : {k l : Known} {x y : Key} → KeyHasType s k x y l → Within s types k → InKey So y → KeyGives s types typed args y × Within s types l
    key_gives (has.ascending {z = z} a e) w n =
        let r = gives a w (one_noted So z.0 n) in
        ((λ ns ts h. (z.1, in_scope s types typed args z.0 z.1 r.0 ns ts h)), r.1)
    key_gives (has.descending {z = z} a e) w n =
        let r = gives a w (one_noted So z.0 n) in
        ((λ ns ts h. (z.1, in_scope s types typed args z.0 z.1 r.0 ns ts h)), r.1)

    clause_gives : {c : Clause} {k l : Known} {f : Held-Select-filter} {o : Option Scope} → ClauseHasType s c k f o l → Within s types k → InClause So o → ClauseGives s types typed args o × Within s types l
    clause_gives has.absent w n = (tt, w)
    clause_gives (has.present a e) w n = let r = gives a w n in ((_, r.0), r.1)
