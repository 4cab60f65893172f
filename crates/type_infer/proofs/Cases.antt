-- The rules and the relation by cases: each derivation is one of the relation, and the other way round.
use Rattle.std.proofs.Common.{◌≡◌, ℕ, Bool, true, false, List, [], ◌∷◌, ◌++◌, length, Option, Some, None, slice_get, refl, sym, ap, ◌∙◌, subst}
use Rattle.core_ir.specs.declared.path.Step.{Step}
use Rattle.core_ir.specs.declared.path.Step.TheVariants as step
use Rattle.core_ir.specs.declared.tree.Alias.{Alias}
use Rattle.core_ir.specs.declared.tree.Element.{Element}
use Rattle.core_ir.specs.declared.tree.Expr.{Expr, Row_of-Expr, end_of-Expr, more_of-Expr, Row_of-Scope, end_of-Scope, more_of-Scope, Row_of-Alias, end_of-Alias, more_of-Alias, Row_of-Element, end_of-Element, more_of-Element}
use Rattle.core_ir.specs.declared.tree.Expr as e
use Rattle.core_ir.specs.declared.tree.Expr.TheVariants as form
use Rattle.core_ir.specs.declared.tree.Key.{Key}
use Rattle.core_ir.specs.declared.tree.Key as key
use Rattle.core_ir.specs.declared.tree.Key.TheVariants as made
use Rattle.core_ir.specs.declared.tree.Need.{Need}
use Rattle.core_ir.specs.declared.tree.Width.{Width}
use Rattle.core_ir.specs.declared.card.Card.{Card}
use Rattle.core_ir.specs.declared.tree.Occurrence.{Occurrence}
use Rattle.core_ir.specs.declared.tree.Order.TheVariants as order
use Rattle.core_ir.specs.declared.tree.Scope.{Scope}
use Rattle.core_ir.specs.declared.tree.Select.{Select, roll-Select, Select', Held-Select-filter, None', Some', Row_of-Key, end_of-Key, more_of-Key}
use Rattle.core_ir.specs.declared.ty.Ty.{Ty}
use Rattle.core_ir.specs.declared.ty.Ty as ty
use Rattle.core_ir.specs.declared.ty.Ty.TheVariants.{Scalar, Object, Array}
use Rattle.ev_value.specs.declared.value.ScalarTy.TheVariants.{Int64, Bool as Truth}
use Rattle.ev_schema.specs.Pointers.{pointer_named, computed_among}
use Rattle.ev_schema.specs.Steps.{link_of, type_after}
use Rattle.ev_schema.specs.declared.schema.Schema.{Schema}
use Rattle.plan.specs.Plan.{Told, Given, Refused, Plan, Says, Part, Derives}
use Rattle.plan.specs.Ruled.{must, known}
use Rattle.type_infer.specs.declared.clause.Clause.{Clause}
use Rattle.type_infer.specs.declared.clause.Clause.TheVariants.{Filter, Key as OrderKey, Cut}
use Rattle.type_rules.specs.declared.steps.Walked.{Walked}
use Rattle.type_rules.specs.declared.refusal.TypeRefusal.{TypeRefusal}
use Rattle.type_rules.specs.declared.refusal.TypeRefusal.TheVariants.{Rule, Needs}
use Rattle.type_rules.specs.declared.refusal.TypeRule.TheVariants.{N2, T1, T2, T3, T4, T5, T6, T7}
use Rattle.type_rules.specs.Agreement.{agreed, agreed_among, same_scalar}
use Rattle.type_infer.specs.Forms.{operands_rule, suits_clause, rule_of_clause}
use Rattle.type_infer.specs.Forms as rule
use Rattle.type_infer.specs.HasType.{HasType, HaveTypes, ScopesHaveTypes, AliasesHaveTypes, ElementsHaveTypes, KeysHaveTypes, KeyHasType, ClauseHasType, StandsFor, Leads, IsPath, scoped}
use Rattle.type_infer.specs.HasType as has
use Rattle.type_rules.specs.Known.{Known, root_type, with_type, with_base, with_parameter}
use Rattle.type_infer.specs.Known.{Typing, plain, look, note, suits}
use Rattle.type_rules.specs.Steps.{dot, back, looked_up, walk_on, walk, place_of, unsuited, step_of, link_named, is_related}
use Rattle.type_rules.specs.Tables.{literal, is_of, comparable, operator_type, function_type, can_cast, elements_type}
use Rattle.ev_index.specs.Globals.{global_type}
use Rattle.type_infer.specs.Kinds.{is_object, array_element}
use Rattle.type_infer.specs.Typing.{infer, infer_all, infer_scopes, infer_aliases, infer_elements, infer_keys, infer_key, infer_clause, behind}

abbrev given_or : {R A : Type 0} → A → Told R A → A
given_or a (Given b) = b
given_or a (Refused r) = a

pub same : {R A : Type 0} {a b : A} → ◌≡◌ {A = Told R A} (Given a) (Given b) → a ≡ b
same {a = a} e = ap (given_or a) e

abbrev said : {A : Type 0} → A → Plan TypeRefusal A
said a = Says (Given a)

abbrev is_given : {R A : Type 0} → Told R A → Type 0
is_given (Given a) = Unit {0}
is_given (Refused r) = ⊥

module _ {S B : Type 0} (s : S) (b : B) where
  -- a condition that is met
  after_must : (c : Bool) (r : TypeRefusal) (rest : Unit {0} × S → Plan TypeRefusal B) → Derives (Part (must c r s) rest) b → (c ≡ true) × Derives (rest (tt, s)) b
  after_must true r rest (u, is, d) = (refl, subst (λ u. Derives (rest u) b) (sym (same is)) d)
  after_must false r rest (u, is, d) = absurd (subst is_given (sym is) tt)

  -- a row of a table that is there
  after_known : {A : Type 0} (o : Option A) (r : TypeRefusal) (rest : A × S → Plan TypeRefusal B) → Derives (Part (known o r s) rest) b → (a : A) × (o ≡ Some a) × Derives (rest (a, s)) b
  after_known (Some a) r rest (u, is, d) = (a, refl, subst (λ u. Derives (rest u) b) (sym (same is)) d)
  after_known None r rest (u, is, d) = absurd (subst is_given (sym is) tt)

must_is : {S : Type 0} (s : S) (c : Bool) (r : TypeRefusal) → c ≡ true → Derives (must c r s) (tt, s)
must_is s c r e = subst (λ c. Derives (must c r s) (tt, s)) (sym e) refl

known_is : {S A : Type 0} (s : S) (o : Option A) (r : TypeRefusal) (a : A) → o ≡ Some a → Derives (known o r s) (a, s)
known_is s o r a e = subst (λ o. Derives (known o r s) (a, s)) (sym e) refl

-- what a table gives
known_row : {S A : Type 0} (o : Option A) (r : TypeRefusal) (s : S) (x : A × S) → Derives (known o r s) x → o ≡ Some x.0
known_row (Some a) r s x e = ap (λ p. Some p.0) (same e)
known_row None r s x e = absurd (subst is_given (sym e) tt)

-- what is noted
after_note : {B : Type 0} (f : Known → Known) (k : Known) (rest : Unit {0} × Known → Plan TypeRefusal B) (b : B) → Derives (Part (note f k) rest) b → Derives (rest (tt, f k)) b
after_note f k rest b (u, is, d) = subst (λ u. Derives (rest u) b) (sym (same is)) d

-- what is looked up
after_look : {A B : Type 0} (f : Known → A) (k : Known) (rest : A × Known → Plan TypeRefusal B) (b : B) → Derives (Part (look f k) rest) b → Derives (rest (f k, k)) b
after_look f k rest b (u, is, d) = subst (λ u. Derives (rest u) b) (sym (same is)) d

-- a scope whose body has its type
after_scope : {B : Type 0} (start : ℕ) (body : Typing (Expr × Ty)) (k : Known) (rest : (Scope × Ty) × Known → Plan TypeRefusal B) (b : B) → Derives (Part (rule.scope start body k) rest) b
    → (z : (Expr × Ty) × Known) × Derives (body k) z × Derives (rest ((scoped start z.0, z.0.1), z.1)) b
unfolding rule.scope
after_scope start body k rest b (u, (z, dz, is), d) = (z, dz, subst (λ u. Derives (rest u) b) (sym (same is)) d)

-- a statement of its parts with their types
abbrev selected_of : ℕ → Expr × Ty → Option Scope × List Key → Option Scope × Option Scope → Select × Ty
selected_of number x a c = (roll-Select (record { subject = x.0; ty = Some x.1; number = number; filter = a.0; keys = a.1; offset = c.0; limit = c.1 }), x.1)

-- one more part
after_part : {A B : Type 0} (done : List A × List Ty) (part : Typing (A × Ty)) (k : Known) (rest : (List A × List Ty) × Known → Plan TypeRefusal B) (b : B) → Derives (Part (behind done part k) rest) b
    → (z : (A × Ty) × Known) × Derives (part k) z × Derives (rest ((done.0 ++ z.0.0 ∷ [], done.1 ++ z.0.1 ∷ []), z.1)) b
after_part done part k rest b (u, (z, dz, is), d) = (z, dz, subst (λ u. Derives (rest u) b) (sym (same is)) d)

-- the parts of forms, each with what is known behind it
after_alias : {B : Type 0} (number start : ℕ) (body : Typing (Expr × Ty)) (k : Known) (rest : Alias × Known → Plan TypeRefusal B) (b : B) → Derives (Part (rule.alias number (rule.scope start body) k) rest) b
    → (z : (Expr × Ty) × Known) × Derives (body k) z × Derives (rest (record { number = number; value = scoped start z.0 }, with_type number z.0.1 z.1)) b
unfolding rule.alias
after_alias number start body k rest b (u, du, d) =
    let last = λ (s : Scope) (l : Known). said (record { number = number; value = s }, l) in
    let q = after_scope start body k (λ x. Part (note (with_type number x.0.1) x.1) (λ n. last x.0.0 n.1)) u du in
    let e = after_note (with_type number q.0.0.1) q.0.1 (λ n. last (scoped start q.0.0) n.1) u q.2 in
    (q.0, q.1, subst (λ u. Derives (rest u) b) (sym (same e)) d)

after_element : {B : Type 0} (byte : ℕ) (name : List ℕ) (need : Option Need) (width : Option Width) (card : Option Card) (start : ℕ) (body : Typing (Expr × Ty)) (k : Known) (rest : Element × Known → Plan TypeRefusal B) (b : B)
    → Derives (Part (rule.element byte name need width card (rule.scope start body) k) rest) b
    → (z : (Expr × Ty) × Known) × Derives (body k) z × Derives (rest (record { start = byte; name = name; need = need; width = width; ty = Some z.0.1; card = card; value = scoped start z.0 }, z.1)) b
unfolding rule.element
after_element byte name need width card start body k rest b (u, du, d) =
    let q = after_scope start body k (λ x. Says (Given (record { start = byte; name = name; need = need; width = width; ty = Some x.0.1; card = card; value = x.0.0 }, x.1))) u du in
    (q.0, q.1, subst (λ u. Derives (rest u) b) (sym (same q.2)) d)

after_clause : {B : Type 0} (c : Clause) (start : ℕ) (body : Typing (Expr × Ty)) (k : Known) (rest : Scope × Known → Plan TypeRefusal B) (b : B) → Derives (Part (rule.clause c start body k) rest) b
    → (z : (Expr × Ty) × Known) × Derives (body k) z × (suits_clause c z.0.1 ≡ true) × Derives (rest (scoped start z.0, z.1)) b
unfolding rule.clause
after_clause c start body k rest b (u, du, d) =
    let q = after_scope start body k (λ x. Part (must (suits_clause c x.0.1) (Rule (rule_of_clause c) start) x.1) (λ m. Says (Given (x.0.0, m.1)))) u du in
    let p = after_must q.0.1 u (suits_clause c q.0.0.1) (Rule (rule_of_clause c) start) (λ m. Says (Given (scoped start q.0.0, m.1))) q.2 in
    (q.0, q.1, p.0, subst (λ u. Derives (rest u) b) (sym (same p.1)) d)

after_subject : {B : Type 0} (number : ℕ) (body : Typing (Expr × Ty)) (k : Known) (rest : (Expr × Ty) × Known → Plan TypeRefusal B) (b : B) → Derives (Part (rule.subject number body k) rest) b
    → (z : (Expr × Ty) × Known) × Derives (body k) z × Derives (rest (z.0, with_type number z.0.1 z.1)) b
unfolding rule.subject
after_subject number body k rest b (u, (z, dz, dn), d) =
    let e = after_note (with_type number z.0.1) z.1 (λ n. Says (Given (z.0, n.1))) u dn in
    (z, dz, subst (λ u. Derives (rest u) b) (sym (same e)) d)

after_two : {A C B : Type 0} (first : Typing A) (second : Typing C) (k : Known) (rest : (A × C) × Known → Plan TypeRefusal B) (b : B) → Derives (Part (Part (first k) (λ x. Part (second x.1) (λ y. Says (Given ((x.0, y.0), y.1))))) rest) b
    → (x : A × Known) × (y : C × Known) × Derives (first k) x × Derives (second x.1) y × Derives (rest ((x.0, y.0), y.1)) b
after_two first second k rest b (u, (x, dx, (y, dy, is)), d) = (x, y, dx, dy, subst (λ u. Derives (rest u) b) (sym (same is)) d)

module _ (schema : Schema) where
  stands_for : (t : Ty) (x : Step) (place : ℕ) (u : Unit {0}) (y : Step × Unit {0}) → Derives (looked_up schema t x place u) y → StandsFor schema t x y.0
  unfolding dot back
  stands_for (ty.Object t) (step.Dot name) place u y d =
      let q = after_known u y (pointer_named schema t name) (Rule N2 place) (λ p. known (step_of p.0 (slice_get schema.pointers (p.0).0) (computed_among schema.computed p.0)) (Needs p.0) p.1) d in
      has.pointer q.1 (known_row _ _ u y q.2)
  stands_for (ty.Scalar t) (step.Dot name) place u y d = absurd (subst is_given (sym d) tt)
  stands_for (ty.Tuple' f ts) (step.Dot name) place u y d = absurd (subst is_given (sym d) tt)
  stands_for (ty.Array t) (step.Dot name) place u y d = absurd (subst is_given (sym d) tt)
  stands_for t (step.BackDot name source) place u y d =
      let q = after_known u y (link_named schema source name) (Rule N2 place) (λ p. Part (must (is_related schema p.0.1 t) (Rule T5 place) p.1) (λ v. Says (Given (step.Back p.0.0 source, v.1)))) d in
      let p = after_must u y (is_related schema q.0.1 t) (Rule T5 place) (λ v. Says (Given (step.Back q.0.0 source, v.1))) q.2 in
      subst (λ y. StandsFor schema t (step.BackDot name source) y.0) (same p.1) (has.back q.1 p.0)
  stands_for t (step.Is narrow) place u y d = subst (λ y. StandsFor schema t (step.Is narrow) y.0) (same d) has.narrowing
  stands_for t (step.LinkProp name) place u y d = subst (λ y. StandsFor schema t (step.LinkProp name) y.0) (same d) has.property
  stands_for t (step.Prop p) place u y d = absurd (subst is_given (sym d) tt)
  stands_for t (step.Link p) place u y d = absurd (subst is_given (sym d) tt)
  stands_for t (step.Comp p) place u y d = absurd (subst is_given (sym d) tt)
  stands_for t (step.Back p source) place u y d = absurd (subst is_given (sym d) tt)

  stands : (t : Ty) (x y : Step) (place : ℕ) → StandsFor schema t x y → Derives (looked_up schema t x place tt) (y, tt)
  unfolding dot back
  stands _ _ _ place (has.pointer p y) = (_, known_is _ _ _ _ p, known_is _ _ _ _ y)
  stands _ _ _ place (has.back p r) = (_, known_is _ _ _ _ p, (_, must_is _ _ _ r, refl))
  stands _ _ _ place has.narrowing = refl
  stands _ _ _ place has.property = refl

  module _ (start : ℕ) (places : List ℕ) where
    leads : (steps : List Step) (w : Walked) (u : Unit {0}) (v : Walked × Unit {0}) → Derives (walk schema start places w steps u) v → Leads schema w steps v.0
    unfolding walk_on
    leads [] w u v d = subst (λ v. Leads schema w [] v.0) (same d) has.here
    leads (x ∷ more) w u v (n, (y, dy, dt), d) =
        let q = after_known y.1 n (type_after schema w.link w.reached y.0) (Rule (unsuited y.0) (place_of start places (length more))) (λ t. Says (Given (record { steps = w.steps ++ y.0 ∷ []; link = link_of y.0; reached = t.0 }, t.1))) dt in
        has.on (stands_for w.reached x (place_of start places (length more)) u y dy) q.1 (subst (λ n. Leads schema n.0 more v.0) (sym (same q.2)) (leads more n.0 n.1 v d))

    led : (steps : List Step) (w v : Walked) → Leads schema w steps v → Derives (walk schema start places w steps tt) (v, tt)
    unfolding walk_on
    led _ w v has.here = refl
    led _ w v (has.on s t l) = (_, (_, stands _ _ _ _ s, (_, known_is _ _ _ _ t, refl)), led _ _ v l)

  walked : Occurrence → Walked → Occurrence × Ty
  walked o w = (record { name = o.name; path = record { root = o.path.root; steps = w.steps }; places = o.places }, w.reached)

  path_from : (byte : ℕ) (o : Occurrence) (k : Known) (r : (Occurrence × Ty) × Known) → Derives (rule.occurrence schema byte o k) r → IsPath schema k o r.0 × (r.1 ≡ k)
  unfolding rule.occurrence walked
  path_from byte o k r d =
      let rest = λ (t : Ty) (l : Known). Part (plain (walk schema byte o.places (record { steps = []; link = None; reached = t }) o.path.steps) l) (λ w. Says (Given (walked o w.0, w.1))) in
      let d1 = after_look (λ k. root_type k o.path.root) k (λ s. Part (known s.0 (Rule T1 byte) s.1) (λ t. rest t.0 t.1)) r d in
      let q = after_known k r (root_type k o.path.root) (Rule T1 byte) (λ t. rest t.0 t.1) d1 in
      let w = q.2.0 in
      let v = q.2.1.0 in
      let is : (walked o v.0, k) ≡ r = ap (λ w. (walked o w.0, w.1)) (same q.2.1.2) ∙ same q.2.2 in
      (subst (λ r. IsPath schema k o r.0) is (has.path q.1 (leads byte o.places o.path.steps (record { steps = []; link = None; reached = q.0 }) tt v q.2.1.1)), ap (λ r. r.1) (sym is))

  path_to : (byte : ℕ) (o : Occurrence) (k : Known) (y : Occurrence × Ty) → IsPath schema k o y → Derives (rule.occurrence schema byte o k) (y, k)
  unfolding rule.occurrence
  path_to byte o k _ (has.path t l) = (_, refl, (_, known_is _ _ _ _ t, (_, (_, led byte o.places _ _ _ l, refl), refl)))

-- Each derivation is one of the relation.
module _ (schema : Schema) where
  mutual
    unfolding infer rule.constant rule.global_value rule.parameter rule.path_of rule.on_base rule.operation rule.plus rule.cast rule.tuple rule.optional_equal rule.membership rule.of_set rule.union rule.set rule.coalesce rule.choice rule.judged rule.shaped rule.subject rule.rows rule.cut rule.selected rule.select rule.each rule.array rule.array_cast rule.unpack rule.unfit rule.clause rule.scope rule.alias rule.element

    pub has_type : (x : Expr) (k : Known) (r : (Expr × Ty) × Known) → Derives (infer schema x k) r → HasType schema k x r.0 r.1
    has_type (e.Literal byte v) k r (x, dx, is) =
        let q = after_known tt x (literal v) (Rule T1 byte) (λ a. Says (Given ((form.Literal byte v, Scalar a.0), a.1))) dx in
        subst (λ r. HasType schema k (e.Literal byte v) r.0 r.1) (ap (λ x. (x.0, k)) (same q.2) ∙ same is) (has.constant q.1)
    has_type (e.Global byte name) k r (x, dx, is) =
        let q = after_known tt x (global_type schema.globals name) (Rule T1 byte) (λ a. Says (Given ((form.Global byte name, Scalar a.0), a.1))) dx in
        subst (λ r. HasType schema k (e.Global byte name) r.0 r.1) (ap (λ x. (x.0, k)) (same q.2) ∙ same is) (has.global_value q.1)
    has_type (e.EmptySet byte t) k r (x, dx, is) = subst (λ r. HasType schema k (e.EmptySet byte t) r.0 r.1) (ap (λ x. (x.0, k)) (same dx) ∙ same is) has.empty_set
    has_type (e.Param byte a) k r d =
        let last = λ (n : Unit {0} × Known). said ((form.Param byte a, Scalar a.ty), n.1) in
        let noted = λ (l : Known). Part (note (with_parameter a) l) last in
        let d0 = after_look (λ k. k.parameter a.name) k (λ o. Part (must (suits a o.0) (Rule T7 byte) o.1) (λ u. noted u.1)) r d in
        let q = after_must k r (suits a (k.parameter a.name)) (Rule T7 byte) (λ u. noted u.1) d0 in
        let d1 = after_note (with_parameter a) k last r q.1 in
        subst (λ r. HasType schema k (e.Param byte a) r.0 r.1) (same d1) (has.parameter q.0)
    has_type (e.Path byte o) k r (x, dx, is) =
        let p = path_from schema byte o k x dx in
        subst (λ r. HasType schema k (e.Path byte o) r.0 r.1) ((λ i. ((form.Path byte x.0.0, x.0.1), sym p.1 i)) ∙ same is) (has.path_of p.0)
    has_type (e.OnBase' byte s1 t1 f1 (more_of-Expr x end_of-Expr) o) k r d =
        let last = λ (s : Scope) (y : (Occurrence × Ty) × Known). said ((form.OnBase byte s y.0.0, y.0.1), y.1) in
        let rest = λ (s : Scope) (l : Known). Part (rule.occurrence schema byte o l) (last s) in
        let q = after_scope s1 (infer schema x) k (λ v. Part (note (with_base o.path.root v.0.1) v.1) (λ n. rest v.0.0 n.1)) r d in
        let d0 = after_note (with_base o.path.root q.0.0.1) q.0.1 (λ n. rest (scoped s1 q.0.0) n.1) r q.2 in
        let p = path_from schema byte o (with_base o.path.root q.0.0.1 q.0.1) d0.0 d0.1 in
        subst (λ r. HasType schema k (e.OnBase' byte s1 t1 f1 (more_of-Expr x end_of-Expr) o) r.0 r.1) ((λ i. ((form.OnBase byte (scoped s1 q.0.0) d0.0.0.0, d0.0.0.1), sym p.1 i)) ∙ same d0.2) (has.on_base (has_type x k q.0 q.1) p.0)
    has_type (e.Unfit' byte m place f1 xs) k r (ys, dys, is) = absurd (subst is_given (sym is) tt)
    has_type (e.If' byte order.ValueFirst f3 (more_of-Expr c end_of-Expr) s1 t1 f1 (more_of-Expr x end_of-Expr) s2 t2 f2 (more_of-Expr y end_of-Expr)) k r (p, dp, d) =
        let q0 = after_scope s1 (infer schema x) k (λ v. Part (infer schema c v.1) (λ w. Part (rule.scope s2 (infer schema y) w.1) (λ o. Says (Given ((w.0, v.0, o.0), o.1))))) p dp in
        let w0 = q0.2.0 in
        let q1 = after_scope s2 (infer schema y) w0.1 (λ o. Says (Given ((w0.0, (scoped s1 q0.0.0, q0.0.0.1), o.0), o.1))) p q0.2.2 in
        let last = q1.0.1 in let cond = w0.0 in let val = q0.0.0 in let oth = q1.0.0 in
        let h1 = has_type x k q0.0 q0.1 in let h2 = has_type c q0.0.1 w0 q0.2.1 in let h3 = has_type y w0.1 q1.0 q1.1 in
        let d0 = subst (λ p. Derives (plain (rule.judged schema byte order.ValueFirst p.0) p.1) r) (sym (same q1.2)) d in
        let q2 = after_must tt d0.0 (is_of Truth cond.1) (Rule T1 byte) (λ u. Part (known (agreed schema.types val.1 oth.1) (Rule T4 byte) u.1) (λ t. Says (Given ((form.If byte (record { order = order.ValueFirst; condition = cond.0; value = scoped s1 val; other = scoped s2 oth }), t.0), t.1)))) d0.1 in
        let q3 = after_known tt d0.0 (agreed schema.types val.1 oth.1) (Rule T4 byte) (λ t. Says (Given ((form.If byte (record { order = order.ValueFirst; condition = cond.0; value = scoped s1 val; other = scoped s2 oth }), t.0), t.1))) q2.1 in
        subst (λ r. HasType schema k (e.If' byte order.ValueFirst f3 (more_of-Expr c end_of-Expr) s1 t1 f1 (more_of-Expr x end_of-Expr) s2 t2 f2 (more_of-Expr y end_of-Expr)) r.0 r.1) (ap (λ w. (w.0, last)) (same q3.2) ∙ same d0.2) (has.value_first h1 h2 h3 q2.0 q3.1)
    has_type (e.If' byte order.ConditionFirst f3 (more_of-Expr c end_of-Expr) s1 t1 f1 (more_of-Expr x end_of-Expr) s2 t2 f2 (more_of-Expr y end_of-Expr)) k r (p, dp, d) =
        let w0 = dp.0 in
        let q0 = after_scope s1 (infer schema x) w0.1 (λ v. Part (rule.scope s2 (infer schema y) v.1) (λ o. Says (Given ((w0.0, v.0, o.0), o.1)))) p dp.2 in
        let q1 = after_scope s2 (infer schema y) q0.0.1 (λ o. Says (Given ((w0.0, (scoped s1 q0.0.0, q0.0.0.1), o.0), o.1))) p q0.2 in
        let last = q1.0.1 in let cond = w0.0 in let val = q0.0.0 in let oth = q1.0.0 in
        let h1 = has_type c k w0 dp.1 in let h2 = has_type x w0.1 q0.0 q0.1 in let h3 = has_type y q0.0.1 q1.0 q1.1 in
        let d0 = subst (λ p. Derives (plain (rule.judged schema byte order.ConditionFirst p.0) p.1) r) (sym (same q1.2)) d in
        let q2 = after_must tt d0.0 (is_of Truth cond.1) (Rule T1 byte) (λ u. Part (known (agreed schema.types val.1 oth.1) (Rule T4 byte) u.1) (λ t. Says (Given ((form.If byte (record { order = order.ConditionFirst; condition = cond.0; value = scoped s1 val; other = scoped s2 oth }), t.0), t.1)))) d0.1 in
        let q3 = after_known tt d0.0 (agreed schema.types val.1 oth.1) (Rule T4 byte) (λ t. Says (Given ((form.If byte (record { order = order.ConditionFirst; condition = cond.0; value = scoped s1 val; other = scoped s2 oth }), t.0), t.1))) q2.1 in
        subst (λ r. HasType schema k (e.If' byte order.ConditionFirst f3 (more_of-Expr c end_of-Expr) s1 t1 f1 (more_of-Expr x end_of-Expr) s2 t2 f2 (more_of-Expr y end_of-Expr)) r.0 r.1) (ap (λ w. (w.0, last)) (same q3.2) ∙ same d0.2) (has.condition_first h1 h2 h3 q2.0 q3.1)
    has_type (e.Select' byte f1 ds (Select' f2 (more_of-Expr x end_of-Expr) t1 number f f3 ks g h)) k r (b, db, (s, ds', is)) =
        let q0 = after_subject number (infer schema x) b.1 (λ x. Part (rule.rows (infer_clause schema Filter f) (infer_keys schema ks []) x.1) (λ a. Part (rule.cut (infer_clause schema Cut g) (infer_clause schema Cut h) a.1) (λ c. Says (Given (selected_of number x.0 a.0 c.0, c.1))))) s ds' in
        let z = q0.0 in
        let q1 = after_two (infer_clause schema Filter f) (infer_keys schema ks []) (with_type number z.0.1 z.1) (λ a. Part (rule.cut (infer_clause schema Cut g) (infer_clause schema Cut h) a.1) (λ c. Says (Given (selected_of number z.0 a.0 c.0, c.1)))) s q0.2 in
        let q2 = after_two (infer_clause schema Cut g) (infer_clause schema Cut h) q1.1.1 (λ c. Says (Given (selected_of number z.0 (q1.0.0, q1.1.0) c.0, c.1))) s q1.4 in
        subst (λ r. HasType schema k (e.Select' byte f1 ds (Select' f2 (more_of-Expr x end_of-Expr) t1 number f f3 ks g h)) r.0 r.1) (ap (λ s. ((form.Select byte b.0 s.0.0, s.0.1), s.1)) (same q2.4) ∙ same is)
        (has.select (aliases_have_types ds [] k b db) (has_type x b.1 z q0.1) (clause_has_type f Filter (with_type number z.0.1 z.1) q1.0 q1.2) (keys_have_types ks [] q1.0.1 q1.1 q1.3) (clause_has_type g Cut q1.1.1 q2.0 q2.2) (clause_has_type h Cut q2.0.1 q2.1 q2.3))
    has_type (e.Operation' byte op f1 xs) k r d =
        let v0 = d.0 in
        let d0 = d.2 in
        let q1 = after_known v0.1 r (operator_type schema.types op v0.0.1) (Rule (operands_rule op) byte) (λ a1. Says (Given ((form.Operation byte op v0.0.0, a1.0), a1.1))) d0 in
        let d1 = q1.2 in
        subst (λ r. HasType schema k (e.Operation' byte op f1 xs) r.0 r.1) (same d1) (has.operation (have_types xs ([], []) k v0 d.1) q1.1)
    has_type (e.Plus' byte f1 (more_of-Expr x end_of-Expr)) k r d =
        let v0 = d.0 in
        let d0 = d.2 in
        let q1 = after_must v0.1 r (is_of Int64 v0.0.1) (Rule T1 byte) (λ a1. Says (Given ((form.Plus byte v0.0.0, v0.0.1), a1.1))) d0 in
        let d1 = q1.1 in
        subst (λ r. HasType schema k (e.Plus' byte f1 (more_of-Expr x end_of-Expr)) r.0 r.1) (same d1) (has.plus (has_type x k v0 d.1) q1.0)
    has_type (e.Cast' byte to f1 (more_of-Expr x end_of-Expr)) k r d =
        let v0 = d.0 in
        let d0 = d.2 in
        let q1 = after_must v0.1 r (can_cast v0.0.1 to) (Rule T3 byte) (λ a1. Says (Given ((form.Cast byte to v0.0.0, Scalar to), a1.1))) d0 in
        let d1 = q1.1 in
        subst (λ r. HasType schema k (e.Cast' byte to f1 (more_of-Expr x end_of-Expr)) r.0 r.1) (same d1) (has.cast (has_type x k v0 d.1) q1.0)
    has_type (e.Tuple' byte f1 xs) k r d =
        let v0 = d.0 in
        let d0 = d.2 in
        subst (λ r. HasType schema k (e.Tuple' byte f1 xs) r.0 r.1) (same d0) (has.tuple (have_types xs ([], []) k v0 d.1))
    has_type (e.OptionalEqual' byte b f1 (more_of-Expr x end_of-Expr) f2 (more_of-Expr y end_of-Expr)) k r d =
        let v0 = d.0 in
        let d0 = d.2 in
        let v1 = d0.0 in
        let d1 = d0.2 in
        let q2 = after_must v1.1 r (comparable schema.types v0.0.1 v1.0.1) (Rule T1 byte) (λ a2. Says (Given ((form.OptionalEqual byte b v0.0.0 v1.0.0, Scalar Truth), a2.1))) d1 in
        let d2 = q2.1 in
        subst (λ r. HasType schema k (e.OptionalEqual' byte b f1 (more_of-Expr x end_of-Expr) f2 (more_of-Expr y end_of-Expr)) r.0 r.1) (same d2) (has.optional_equal (has_type x k v0 d.1) (has_type y v0.1 v1 d0.1) q2.0)
    has_type (e.In' byte b f2 (more_of-Expr x end_of-Expr) s1 t1 f1 (more_of-Expr y end_of-Expr)) k r d =
        let v0 = d.0 in
        let d0 = d.2 in
        let q1 = after_scope s1 (infer schema y) v0.1 (λ a1. Part (must (comparable schema.types v0.0.1 a1.0.1) (Rule T1 byte) a1.1) (λ a2. Says (Given ((form.In byte b v0.0.0 a1.0.0, Scalar Truth), a2.1)))) r d0 in
        let v1 = q1.0 in
        let d1 = q1.2 in
        let q2 = after_must v1.1 r (comparable schema.types v0.0.1 v1.0.1) (Rule T1 byte) (λ a2. Says (Given ((form.In byte b v0.0.0 (scoped s1 v1.0), Scalar Truth), a2.1))) d1 in
        let d2 = q2.1 in
        subst (λ r. HasType schema k (e.In' byte b f2 (more_of-Expr x end_of-Expr) s1 t1 f1 (more_of-Expr y end_of-Expr)) r.0 r.1) (same d2) (has.membership (has_type x k v0 d.1) (has_type y v0.1 v1 q1.1) q2.0)
    has_type (e.OfSet' byte f s1 t1 f1 (more_of-Expr x end_of-Expr)) k r d =
        let q0 = after_scope s1 (infer schema x) k (λ a0. Part (known (function_type f a0.0.1) (Rule T2 byte) a0.1) (λ a1. Says (Given ((form.OfSet byte f a0.0.0, a1.0), a1.1)))) r d in
        let v0 = q0.0 in
        let d0 = q0.2 in
        let q1 = after_known v0.1 r (function_type f v0.0.1) (Rule T2 byte) (λ a1. Says (Given ((form.OfSet byte f (scoped s1 v0.0), a1.0), a1.1))) d0 in
        let d1 = q1.2 in
        subst (λ r. HasType schema k (e.OfSet' byte f s1 t1 f1 (more_of-Expr x end_of-Expr)) r.0 r.1) (same d1) (has.of_set (has_type x k v0 q0.1) q1.1)
    has_type (e.Union' byte s1 t1 f1 (more_of-Expr x end_of-Expr) s2 t2 f2 (more_of-Expr y end_of-Expr)) k r d =
        let q0 = after_scope s1 (infer schema x) k (λ a0. Part (rule.scope s2 (infer schema y) a0.1) (λ a1. Part (known (agreed schema.types a0.0.1 a1.0.1) (Rule T4 byte) a1.1) (λ a2. Says (Given ((form.Union byte a0.0.0 a1.0.0, a2.0), a2.1))))) r d in
        let v0 = q0.0 in
        let d0 = q0.2 in
        let q1 = after_scope s2 (infer schema y) v0.1 (λ a1. Part (known (agreed schema.types v0.0.1 a1.0.1) (Rule T4 byte) a1.1) (λ a2. Says (Given ((form.Union byte (scoped s1 v0.0) a1.0.0, a2.0), a2.1)))) r d0 in
        let v1 = q1.0 in
        let d1 = q1.2 in
        let q2 = after_known v1.1 r (agreed schema.types v0.0.1 v1.0.1) (Rule T4 byte) (λ a2. Says (Given ((form.Union byte (scoped s1 v0.0) (scoped s2 v1.0), a2.0), a2.1))) d1 in
        let d2 = q2.2 in
        subst (λ r. HasType schema k (e.Union' byte s1 t1 f1 (more_of-Expr x end_of-Expr) s2 t2 f2 (more_of-Expr y end_of-Expr)) r.0 r.1) (same d2) (has.union (has_type x k v0 q0.1) (has_type y v0.1 v1 q1.1) q2.1)
    has_type (e.Set' byte f1 xs) k r d =
        let v0 = d.0 in
        let d0 = d.2 in
        let q1 = after_known v0.1 r (agreed_among schema.types v0.0.1) (Rule T6 byte) (λ a1. Says (Given ((form.Set byte v0.0.0, a1.0), a1.1))) d0 in
        let d1 = q1.2 in
        subst (λ r. HasType schema k (e.Set' byte f1 xs) r.0 r.1) (same d1) (has.set (scopes_have_types xs ([], []) k v0 d.1) q1.1)
    has_type (e.Coalesce' byte f2 (more_of-Expr x end_of-Expr) s1 t1 f1 (more_of-Expr y end_of-Expr)) k r d =
        let v0 = d.0 in
        let d0 = d.2 in
        let q1 = after_scope s1 (infer schema y) v0.1 (λ a1. Part (known (agreed schema.types v0.0.1 a1.0.1) (Rule T4 byte) a1.1) (λ a2. Says (Given ((form.Coalesce byte v0.0.0 a1.0.0, a2.0), a2.1)))) r d0 in
        let v1 = q1.0 in
        let d1 = q1.2 in
        let q2 = after_known v1.1 r (agreed schema.types v0.0.1 v1.0.1) (Rule T4 byte) (λ a2. Says (Given ((form.Coalesce byte v0.0.0 (scoped s1 v1.0), a2.0), a2.1))) d1 in
        let d2 = q2.2 in
        subst (λ r. HasType schema k (e.Coalesce' byte f2 (more_of-Expr x end_of-Expr) s1 t1 f1 (more_of-Expr y end_of-Expr)) r.0 r.1) (same d2) (has.coalesce (has_type x k v0 d.1) (has_type y v0.1 v1 q1.1) q2.1)
    has_type (e.Shaped' byte f1 (more_of-Expr x end_of-Expr) t1 number f2 es) k r d =
        let v0 = d.0 in
        let d0 = d.2 in
        let d1 = after_note (with_type number v0.0.1) v0.1 (λ a1. Part (infer_elements schema es [] a1.1) (λ a2. Part (must (is_object v0.0.1) (Rule T5 byte) a2.1) (λ a3. Says (Given ((form.Shaped byte v0.0.0 (Some v0.0.1) number a2.0, v0.0.1), a3.1))))) r d0 in
        let v2 = d1.0 in
        let d2 = d1.2 in
        let q3 = after_must v2.1 r (is_object v0.0.1) (Rule T5 byte) (λ a3. Says (Given ((form.Shaped byte v0.0.0 (Some v0.0.1) number v2.0, v0.0.1), a3.1))) d2 in
        let d3 = q3.1 in
        subst (λ r. HasType schema k (e.Shaped' byte f1 (more_of-Expr x end_of-Expr) t1 number f2 es) r.0 r.1) (same d3) (has.shaped (has_type x k v0 d.1) (elements_have_types es [] (with_type number v0.0.1 v0.1) v2 d1.1) q3.0)
    has_type (e.For' byte f3 ds number s1 t1 f1 (more_of-Expr x end_of-Expr) s2 t2 f2 (more_of-Expr y end_of-Expr)) k r d =
        let v0 = d.0 in
        let d0 = d.2 in
        let q1 = after_scope s1 (infer schema x) v0.1 (λ a1. Part (note (with_type number a1.0.1) a1.1) (λ a2. Part (rule.scope s2 (infer schema y) a2.1) (λ a3. Says (Given ((form.For byte v0.0 number a1.0.0 a3.0.0, a3.0.1), a3.1))))) r d0 in
        let v1 = q1.0 in
        let d1 = q1.2 in
        let d2 = after_note (with_type number v1.0.1) v1.1 (λ a2. Part (rule.scope s2 (infer schema y) a2.1) (λ a3. Says (Given ((form.For byte v0.0 number (scoped s1 v1.0) a3.0.0, a3.0.1), a3.1)))) r d1 in
        let q3 = after_scope s2 (infer schema y) (with_type number v1.0.1 v1.1) (λ a3. Says (Given ((form.For byte v0.0 number (scoped s1 v1.0) a3.0.0, a3.0.1), a3.1))) r d2 in
        let v3 = q3.0 in
        let d3 = q3.2 in
        subst (λ r. HasType schema k (e.For' byte f3 ds number s1 t1 f1 (more_of-Expr x end_of-Expr) s2 t2 f2 (more_of-Expr y end_of-Expr)) r.0 r.1) (same d3) (has.each (aliases_have_types ds [] k v0 d.1) (has_type x v0.1 v1 q1.1) (has_type y (with_type number v1.0.1 v1.1) v3 q3.1))
    has_type (e.Array' byte written f1 xs) k r d =
        let v0 = d.0 in
        let d0 = d.2 in
        let q1 = after_known v0.1 r (elements_type written v0.0.1) (Rule T6 byte) (λ a1. Says (Given ((form.Array byte written v0.0.0, Array a1.0), a1.1))) d0 in
        let d1 = q1.2 in
        subst (λ r. HasType schema k (e.Array' byte written f1 xs) r.0 r.1) (same d1) (has.array (have_types xs ([], []) k v0 d.1) q1.1)
    has_type (e.ArrayCast' byte to f1 (more_of-Expr x end_of-Expr)) k r d =
        let v0 = d.0 in
        let d0 = d.2 in
        let q1 = after_known v0.1 r (array_element v0.0.1) (Rule T3 byte) (λ a1. Part (must (same_scalar to a1.0) (Rule T3 byte) a1.1) (λ a2. Says (Given ((form.ArrayCast byte to v0.0.0, Array to), a2.1)))) d0 in
        let d1 = q1.2 in
        let q2 = after_must v0.1 r (same_scalar to q1.0) (Rule T3 byte) (λ a2. Says (Given ((form.ArrayCast byte to v0.0.0, Array to), a2.1))) d1 in
        let d2 = q2.1 in
        subst (λ r. HasType schema k (e.ArrayCast' byte to f1 (more_of-Expr x end_of-Expr)) r.0 r.1) (same d2) (has.array_cast (has_type x k v0 d.1) q1.1 q2.0)
    has_type (e.Unpack' byte f1 (more_of-Expr x end_of-Expr)) k r d =
        let v0 = d.0 in
        let d0 = d.2 in
        let q1 = after_known v0.1 r (array_element v0.0.1) (Rule T2 byte) (λ a1. Says (Given ((form.Unpack byte v0.0.0, Scalar a1.0), a1.1))) d0 in
        let d1 = q1.2 in
        subst (λ r. HasType schema k (e.Unpack' byte f1 (more_of-Expr x end_of-Expr)) r.0 r.1) (same d1) (has.unpack (has_type x k v0 d.1) q1.1)

    have_types : {g : _} (xs : Row_of-Expr g) (done : List Expr × List Ty) (k : Known) (r : (List Expr × List Ty) × Known) → Derives (infer_all schema xs done k) r → HaveTypes schema _ k xs done r.0 r.1
    have_types end_of-Expr done k r d = subst (λ r. HaveTypes schema _ k end_of-Expr done r.0 r.1) (same d) has.no_more
    have_types (more_of-Expr x xs) done k r d =
        let q = after_part done (infer schema x) k (λ next. infer_all schema xs next.0 next.1) r d in
        has.one_more (has_type x k q.0 q.1) (have_types xs (done.0 ++ q.0.0.0 ∷ [], done.1 ++ q.0.0.1 ∷ []) q.0.1 r q.2)

    scopes_have_types : {g : _} (xs : Row_of-Scope g) (done : List Scope × List Ty) (k : Known) (r : (List Scope × List Ty) × Known) → Derives (infer_scopes schema xs done k) r → ScopesHaveTypes schema _ k xs done r.0 r.1
    scopes_have_types end_of-Scope done k r d = subst (λ r. ScopesHaveTypes schema _ k end_of-Scope done r.0 r.1) (same d) has.no_scope
    scopes_have_types (more_of-Scope s1 t1 f1 (more_of-Expr x end_of-Expr) xs) done k r d =
        let q = after_part done (rule.scope s1 (infer schema x)) k (λ next. infer_scopes schema xs next.0 next.1) r d in
        let e = after_scope s1 (infer schema x) k (λ v. Says (Given v)) q.0 (q.0, q.1, refl) in
        has.one_scope (has_type x k e.0 e.1) (subst (λ v. ScopesHaveTypes schema _ v.1 xs (done.0 ++ v.0.0 ∷ [], done.1 ++ v.0.1 ∷ []) r.0 r.1) (sym (same e.2)) (scopes_have_types xs (done.0 ++ q.0.0.0 ∷ [], done.1 ++ q.0.0.1 ∷ []) q.0.1 r q.2))

    aliases_have_types : {g : _} (xs : Row_of-Alias g) (done : List Alias) (k : Known) (r : List Alias × Known) → Derives (infer_aliases schema xs done k) r → AliasesHaveTypes schema _ k xs done r.0 r.1
    aliases_have_types end_of-Alias done k r d = subst (λ r. AliasesHaveTypes schema _ k end_of-Alias done r.0 r.1) (same d) has.no_alias
    aliases_have_types (more_of-Alias number s1 t1 f1 (more_of-Expr x end_of-Expr) xs) done k r d =
        let q = after_alias number s1 (infer schema x) k (λ a. infer_aliases schema xs (done ++ a.0 ∷ []) a.1) r d in
        has.one_alias (has_type x k q.0 q.1) (aliases_have_types xs (done ++ record { number = number; value = scoped s1 q.0.0 } ∷ []) (with_type number q.0.0.1 q.0.1) r q.2)

    elements_have_types : {g : _} (xs : Row_of-Element g) (done : List Element) (k : Known) (r : List Element × Known) → Derives (infer_elements schema xs done k) r → ElementsHaveTypes schema _ k xs done r.0 r.1
    elements_have_types end_of-Element done k r d = subst (λ r. ElementsHaveTypes schema _ k end_of-Element done r.0 r.1) (same d) has.no_element
    elements_have_types (more_of-Element byte name need width t0 card s1 t1 f1 (more_of-Expr x end_of-Expr) xs) done k r d =
        let q = after_element byte name need width card s1 (infer schema x) k (λ a. infer_elements schema xs (done ++ a.0 ∷ []) a.1) r d in
        has.one_element (has_type x k q.0 q.1) (elements_have_types xs (done ++ record { start = byte; name = name; need = need; width = width; ty = Some q.0.0.1; card = card; value = scoped s1 q.0.0 } ∷ []) q.0.1 r q.2)

    keys_have_types : {g : _} (xs : Row_of-Key g) (done : List Key) (k : Known) (r : List Key × Known) → Derives (infer_keys schema xs done k) r → KeysHaveTypes schema _ k xs done r.0 r.1
    keys_have_types end_of-Key done k r d = subst (λ r. KeysHaveTypes schema _ k end_of-Key done r.0 r.1) (same d) has.no_key
    keys_have_types (more_of-Key x xs) done k r (y, dy, d) = has.one_key (key_has_type x k y dy) (keys_have_types xs (done ++ y.0 ∷ []) y.1 r d)

    key_has_type : (x : Key) (k : Known) (r : Key × Known) → Derives (infer_key schema x k) r → KeyHasType schema k x r.0 r.1
    key_has_type (key.Ascending' absent s1 t1 f1 (more_of-Expr x end_of-Expr)) k r d =
        let q = after_clause OrderKey s1 (infer schema x) k (λ s. Says (Given (made.Ascending absent s.0, s.1))) r d in
        subst (λ r. KeyHasType schema k (key.Ascending' absent s1 t1 f1 (more_of-Expr x end_of-Expr)) r.0 r.1) (same q.3) (has.ascending (has_type x k q.0 q.1) q.2)
    key_has_type (key.Descending' absent s1 t1 f1 (more_of-Expr x end_of-Expr)) k r d =
        let q = after_clause OrderKey s1 (infer schema x) k (λ s. Says (Given (made.Descending absent s.0, s.1))) r d in
        subst (λ r. KeyHasType schema k (key.Descending' absent s1 t1 f1 (more_of-Expr x end_of-Expr)) r.0 r.1) (same q.3) (has.descending (has_type x k q.0 q.1) q.2)

    clause_has_type : (f : Held-Select-filter) (c : Clause) (k : Known) (r : Option Scope × Known) → Derives (infer_clause schema c f k) r → ClauseHasType schema c k f r.0 r.1
    clause_has_type None' c k r d = subst (λ r. ClauseHasType schema c k None' r.0 r.1) (same d) has.absent
    clause_has_type (Some' f0 (more_of-Scope s1 t1 f1 (more_of-Expr x end_of-Expr) end_of-Scope)) c k r d =
        let q = after_clause c s1 (infer schema x) k (λ s. Says (Given (Some s.0, s.1))) r d in
        subst (λ r. ClauseHasType schema c k (Some' f0 (more_of-Scope s1 t1 f1 (more_of-Expr x end_of-Expr) end_of-Scope)) r.0 r.1) (same q.3) (has.present (has_type x k q.0 q.1) q.2)

-- Each case of the relation is a derivation.
module _ (schema : Schema) where
  mutual
    unfolding infer rule.constant rule.global_value rule.parameter rule.path_of rule.on_base rule.operation rule.plus rule.cast rule.tuple rule.optional_equal rule.membership rule.of_set rule.union rule.set rule.coalesce rule.choice rule.judged rule.shaped rule.subject rule.rows rule.cut rule.selected rule.select rule.each rule.array rule.array_cast rule.unpack rule.unfit rule.clause rule.scope rule.alias rule.element

    pub derives : {k m : Known} {x : Expr} {y : Expr × Ty} → HasType schema k x y m → Derives (infer schema x k) (y, m)
    derives (has.operation a b) = (_, derives_have_types a, (_, known_is _ _ _ _ b, refl))
    derives (has.plus a b) = (_, derives a, (_, must_is _ _ _ b, refl))
    derives (has.cast a b) = (_, derives a, (_, must_is _ _ _ b, refl))
    derives (has.tuple a) = (_, derives_have_types a, refl)
    derives (has.optional_equal a b c) = (_, derives a, (_, derives b, (_, must_is _ _ _ c, refl)))
    derives (has.membership a b c) = (_, derives a, (_, (_, derives b, refl), (_, must_is _ _ _ c, refl)))
    derives (has.of_set a b) = (_, (_, derives a, refl), (_, known_is _ _ _ _ b, refl))
    derives (has.union a b c) = (_, (_, derives a, refl), (_, (_, derives b, refl), (_, known_is _ _ _ _ c, refl)))
    derives (has.set a b) = (_, derives_scopes_have_types a, (_, known_is _ _ _ _ b, refl))
    derives (has.coalesce a b c) = (_, derives a, (_, (_, derives b, refl), (_, known_is _ _ _ _ c, refl)))
    derives (has.shaped a b c) = (_, derives a, (_, refl, (_, derives_elements_have_types b, (_, must_is _ _ _ c, refl))))
    derives (has.each a b c) = (_, derives_aliases_have_types a, (_, (_, derives b, refl), (_, refl, (_, (_, derives c, refl), refl))))
    derives (has.array a b) = (_, derives_have_types a, (_, known_is _ _ _ _ b, refl))
    derives (has.array_cast a b c) = (_, derives a, (_, known_is _ _ _ _ b, (_, must_is _ _ _ c, refl)))
    derives (has.unpack a b) = (_, derives a, (_, known_is _ _ _ _ b, refl))
    derives (has.constant a) = (_, (_, known_is _ _ _ _ a, refl), refl)
    derives (has.global_value a) = (_, (_, known_is _ _ _ _ a, refl), refl)
    derives has.empty_set = (_, refl, refl)
    derives (has.parameter a) = (_, refl, (_, must_is _ _ _ a, (_, refl, refl)))
    derives (has.path_of a) = (_, path_to schema _ _ _ _ a, refl)
    derives (has.on_base a b) = (_, (_, derives a, refl), (_, refl, (_, path_to schema _ _ _ _ b, refl)))
    derives (has.value_first a b c d e) = (_, (_, (_, derives a, refl), (_, derives b, (_, (_, derives c, refl), refl))), (_, (_, must_is _ _ _ d, (_, known_is _ _ _ _ e, refl)), refl))
    derives (has.condition_first a b c d e) = (_, (_, derives a, (_, (_, derives b, refl), (_, (_, derives c, refl), refl))), (_, (_, must_is _ _ _ d, (_, known_is _ _ _ _ e, refl)), refl))
    derives (has.select a b c d e f) = (_, derives_aliases_have_types a, (_, (_, (_, derives b, (_, refl, refl)), (_, (_, derives_clause_has_type c, (_, derives_keys_have_types d, refl)), (_, (_, derives_clause_has_type e, (_, derives_clause_has_type f, refl)), refl))), refl))

    derives_have_types : {g : _} {k m : Known} {xs : Row_of-Expr g} {done ys : List Expr × List Ty} → HaveTypes schema _ k xs done ys m → Derives (infer_all schema xs done k) (ys, m)
    derives_have_types has.no_more = refl
    derives_have_types (has.one_more a b) = (_, (_, derives a, refl), derives_have_types b)

    derives_scopes_have_types : {g : _} {k m : Known} {xs : Row_of-Scope g} {done ys : List Scope × List Ty} → ScopesHaveTypes schema _ k xs done ys m → Derives (infer_scopes schema xs done k) (ys, m)
    derives_scopes_have_types has.no_scope = refl
    derives_scopes_have_types (has.one_scope a b) = (_, (_, (_, derives a, refl), refl), derives_scopes_have_types b)

    derives_aliases_have_types : {g : _} {k m : Known} {xs : Row_of-Alias g} {done ys : List Alias} → AliasesHaveTypes schema _ k xs done ys m → Derives (infer_aliases schema xs done k) (ys, m)
    derives_aliases_have_types has.no_alias = refl
    derives_aliases_have_types (has.one_alias a b) = (_, (_, (_, derives a, refl), (_, refl, refl)), derives_aliases_have_types b)

    derives_elements_have_types : {g : _} {k m : Known} {xs : Row_of-Element g} {done ys : List Element} → ElementsHaveTypes schema _ k xs done ys m → Derives (infer_elements schema xs done k) (ys, m)
    derives_elements_have_types has.no_element = refl
    derives_elements_have_types (has.one_element a b) = (_, (_, (_, derives a, refl), refl), derives_elements_have_types b)

    derives_keys_have_types : {g : _} {k m : Known} {xs : Row_of-Key g} {done ys : List Key} → KeysHaveTypes schema _ k xs done ys m → Derives (infer_keys schema xs done k) (ys, m)
    derives_keys_have_types has.no_key = refl
    derives_keys_have_types (has.one_key a b) = (_, derives_key_has_type a, derives_keys_have_types b)

    derives_key_has_type : {k m : Known} {x y : Key} → KeyHasType schema k x y m → Derives (infer_key schema x k) (y, m)
    derives_key_has_type (has.ascending a b) = (_, (_, (_, derives a, refl), (_, must_is _ _ _ b, refl)), refl)
    derives_key_has_type (has.descending a b) = (_, (_, (_, derives a, refl), (_, must_is _ _ _ b, refl)), refl)

    derives_clause_has_type : {c : Clause} {k m : Known} {f : Held-Select-filter} {s : Option Scope} → ClauseHasType schema c k f s m → Derives (infer_clause schema c f k) (s, m)
    derives_clause_has_type has.absent = refl
    derives_clause_has_type (has.present a b) = (_, (_, (_, derives a, refl), (_, must_is _ _ _ b, refl)), refl)
