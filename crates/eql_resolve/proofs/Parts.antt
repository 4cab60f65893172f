-- What is told of a whole whose first parts are told.
use Rattle.std.proofs.Common.{◌≡◌, ℕ, ◌+◌, Bool, false, List, [], ◌∷◌, length, Some, Result, Err, refl, ap, sym, ◌∙◌, subst}
use Rattle.plan.specs.Plan.{Told, Given, and_then, tells}
use Rattle.plan.specs.Ruled.{known}
use Rattle.ast.specs.Expression.{span_of}
use Rattle.ast.specs.declared.expression.Expr as e
use Rattle.ast.specs.declared.expression.Expr.{Expr}
use Rattle.ast.specs.declared.expression.Postfix.{Postfix}
use Rattle.ast.specs.declared.expression.Step.{Step}
use Rattle.ast.specs.declared.expression.Step.TheVariants as postfix
use Rattle.ast.specs.declared.name.Name.{Name}
use Rattle.ast.specs.declared.name.QualifiedName.{QualifiedName}
use Rattle.ast.specs.declared.name.Span.{Span}
use Rattle.ast.specs.declared.operator.BinaryOperator.{BinaryOperator}
use Rattle.ast.specs.declared.shape.Nested.{Nested}
use Rattle.ast.specs.declared.statement.Alias.{Alias}
use Rattle.ast.specs.declared.statement.For.{For}
use Rattle.ast.specs.declared.statement.Select.{Select}
use Rattle.ast.specs.declared.statement.Statement as st
use Rattle.core_ir.specs.declared.path.Step.TheVariants as step
use Rattle.core_ir.specs.declared.tree.Element as core_element
use Rattle.core_ir.specs.declared.tree.Expr as core
use Rattle.core_ir.specs.declared.tree.Scope.{Scope}
use Rattle.ev_schema.specs.declared.schema.Schema.{Schema}
use Rattle.eql_naming.specs.declared.around.Subject.{Subject}
use Rattle.eql_naming.specs.declared.clauses.Clauses.{Clauses}
use Rattle.eql_naming.specs.declared.clauses.Defined.{Defined}
use Rattle.eql_naming.specs.declared.refusal.NameRefusal.{NameRefusal}
use Rattle.eql_naming.specs.declared.refusal.NameRefusal.TheVariants as refusal
use Rattle.eql_naming.specs.declared.refusal.NameRefusal.TheVariants.{Rule}
use Rattle.eql_naming.specs.declared.refusal.NameRule.TheVariants.{N7}
use Rattle.eql_naming.specs.Around as around
use Rattle.eql_naming.specs.Around.{Entry}
use Rattle.eql_naming.specs.Forms.{binary, joined, call_of_many}
use Rattle.eql_naming.specs.Naming.{Naming, Answers}
use Rattle.eql_naming.specs.Paths.{step_from, element_subject, narrowed, back_linked}
use Rattle.eql_naming.specs.Shapes.{shape, numbered, nested_behind, nested_scope}
use Rattle.eql_naming.specs.Statements.{select, for_each}
use Rattle.eql_resolve.specs.Resolving.{resolve, statement, narrowed_behind, all_of, aliases_of, elements_of, clauses_of, call_of, narrow_of, nested_behind_of, select_behind_of, for_behind_of}
use Rattle.eql_resolve.specs.Shaping.{shape_behind}
use Rattle.eql_resolve.proofs.Equations.{of_select, of_for, of_narrow}

module _ {A B : Type 0} (part : Told NameRefusal (A × ℕ)) (rest : A × ℕ → Told NameRefusal (B × ℕ)) where
  given_first : (a : A) (m : ℕ) (result : Result B NameRefusal) (l : ℕ) → part ≡ Given (a, m) → Answers (rest (a, m)) result l → Answers (and_then part rest) result l
  given_first a m result l h = subst (λ t. Answers t result l) (sym (ap (λ t. and_then t rest) h))

  refused_first : (r : NameRefusal) (m l : ℕ) → Answers {A = A} part (Err r) m → Answers {A = B} (and_then part rest) (Err r) l
  refused_first refusal.Memory m l h = tt
  refused_first (refusal.Rule rule byte) m l h = ap (λ t. and_then t rest) h

module _ (c : Schema) (p : Bool) (s : List Entry) where
  -- ---- two operands, and the form that joins them

  pub joined_told : (start : ℕ) (o : BinaryOperator) (place : ℕ) (left right : Expr) (n m l : ℕ) (x y tree : core.Expr)
      → tells (resolve c p left false s n) ≡ Given (x, m) → tells (resolve c p right false s m) ≡ Given (y, l)
      → joined start o (span_of left).start x (span_of right).start y ≡ Some tree
      → tells (binary start o place (span_of left).start (resolve c p left false s) (span_of right).start (resolve c p right false s) n) ≡ Given (tree, l)
  unfolding binary
  joined_told start o place left right n m l x y tree a b e =
      ap (λ t. and_then t (λ x. and_then (tells (resolve c p right false s x.1)) (λ y. tells (known (joined start o (span_of left).start x.0 (span_of right).start y.0) (Rule N7 place) y.1)))) a
      ∙ ap (λ t. and_then t (λ y. tells (known (joined start o (span_of left).start x (span_of right).start y.0) (Rule N7 place) y.1))) b
      ∙ ap (λ j. tells (known j (Rule N7 place) l)) e

  -- ---- a call whose arguments are not one

  many : (start : ℕ) (q : QualifiedName) (xs : List Expr) → (length xs ≡ 1 → ⊥) → (n : ℕ) → call_of c p s start q xs n ≡ call_of_many start q (all_of c p false s xs) n
  many start q [] apart n = refl
  many start q (x ∷ []) apart n = absurd (apart refl)
  many start q (x ∷ y ∷ more) apart n = refl

  pub many_told : (start : ℕ) (q : QualifiedName) (xs : List Expr) → (length xs ≡ 1 → ⊥) → (n l : ℕ) (result : Result core.Expr NameRefusal)
      → Answers (tells (call_of_many start q (all_of c p false s xs) n)) result l → Answers (tells (call_of c p s start q xs n)) result l
  many_told start q xs apart n l result = subst (λ t. Answers t result l) (sym (λ i. tells (many start q xs apart n i)))

  -- ---- what stands before `[is T]`

  module _ (b x : Expr) (at : Span) (f : Postfix) (is : b ≡ e.Postfix at x f) (start place : ℕ) (q : QualifiedName) (n : ℕ) where
    behind_postfix : tells (narrow_of c p b s start place q n)
        ≡ tells (narrowed_behind c f.step start at.start (span_of x).start f.span.start q place (resolve c p (e.Postfix at x f) false s) (resolve c p x false s) n)
    behind_postfix = ap (λ b. tells (narrow_of c p b s start place q n)) is ∙ (λ i. tells (of_narrow c p s at x f start place q n i))

    -- a back link
    pub narrow_back : (name : Name) (x' : Expr) (result : Result core.Expr NameRefusal) (l : ℕ) → f.step ≡ postfix.BackLink name → x' ≡ x
        → Answers (tells (back_linked c start (span_of x').start name.text f.span.start q (resolve c p x' false s) n)) result l → Answers (tells (narrow_of c p b s start place q n)) result l
    narrow_back name x' result l back same =
        subst (λ t. Answers t result l) (sym (behind_postfix
        ∙ ap (λ t. tells (narrowed_behind c t start at.start (span_of x).start f.span.start q place (resolve c p (e.Postfix at x f) false s) (resolve c p x false s) n)) back
        ∙ ap (λ y. tells (back_linked c start (span_of y).start name.text f.span.start q (resolve c p y false s) n)) (sym same)))

    other_step : (t : Step) → ((name : Name) → t ≡ postfix.BackLink name → ⊥) → (from inner at' : ℕ) (whole base : Naming core.Expr)
        → tells (narrowed_behind c t start from inner at' q place whole base n) ≡ tells (narrowed c start from q place whole n)
    other_step (postfix.Dot name) apart from inner at' whole base = refl
    other_step (postfix.BackLink name) apart from inner at' whole base = absurd (apart name refl)
    other_step (postfix.Property name) apart from inner at' whole base = refl
    other_step (postfix.Is r) apart from inner at' whole base = refl

    -- any other postfix
    pub narrow_other : (result : Result core.Expr NameRefusal) (l : ℕ) → ((name : Name) → f.step ≡ postfix.BackLink name → ⊥)
        → Answers (tells (narrowed c start (span_of b).start q place (resolve c p b false s) n)) result l → Answers (tells (narrow_of c p b s start place q n)) result l
    narrow_other result l apart =
        subst (λ t. Answers t result l) (sym (behind_postfix ∙ other_step f.step apart at.start (span_of x).start f.span.start (resolve c p (e.Postfix at x f) false s) (resolve c p x false s)
        ∙ ap (λ y. tells (narrowed c start (span_of y).start q place (resolve c p y false s) n)) (sym is)))

  -- ---- shapes

  pub shaped_told : (start : ℕ) (r : Bool) (brace : ℕ) (x x' : Expr) (elements : Subject → Naming (List core_element.Element)) (n m l : ℕ) (y : core.Expr) (result : Result core.Expr NameRefusal)
      → x' ≡ x → tells (resolve c p x' false s n) ≡ Given (y, m) → Answers (tells (shape_behind start r brace y elements m)) result l
      → Answers (tells (shape start r brace (resolve c p x false s) elements n)) result l
  unfolding shape
  shaped_told start r brace x x' elements n m l y result same h =
      given_first (tells (resolve c p x false s n)) (λ y. tells (shape_behind start r brace y.0 elements y.1)) y m result l (ap (λ x. tells (resolve c p x false s n)) (sym same) ∙ h)

  module _ (u v : Subject) (name : List ℕ) (is : v ≡ element_subject u name) (start : ℕ) (f : Nested) (n m l : ℕ) where
    clauses_behind : List core_element.Element → ℕ → Told NameRefusal (Scope × ℕ)
    clauses_behind es k =
        and_then (tells (clauses_of c p s f.clauses (element_subject u name) (k + 1))) (λ d. Given (nested_scope start (step_from u start (step.Dot name)) n es k d.0, d.1))

    elements_told : (t : Told NameRefusal (List core_element.Element × ℕ)) → tells (numbered (elements_of c p (around.On v ∷ s) f.shape.elements) n) ≡ t
        → tells (numbered (elements_of c p (around.On (element_subject u name) ∷ s) f.shape.elements) n) ≡ t
    elements_told t a = ap (λ v. tells (numbered (elements_of c p (around.On v ∷ s) f.shape.elements) n)) (sym is) ∙ a

    clauses_told : (t : Told NameRefusal (Clauses × ℕ)) → tells (numbered (clauses_of c p s f.clauses v) m) ≡ t → tells (numbered (clauses_of c p s f.clauses (element_subject u name)) m) ≡ t
    clauses_told t b = ap (λ v. tells (numbered (clauses_of c p s f.clauses v) m)) (sym is) ∙ b

    -- `p: {..}` whose elements and clauses are told
    pub nested_told : (es : List core_element.Element) (d : Clauses) (z : Scope) → tells (numbered (elements_of c p (around.On v ∷ s) f.shape.elements) n) ≡ Given (es, m)
        → tells (numbered (clauses_of c p s f.clauses v) m) ≡ Given (d, l) → z ≡ nested_scope start (step_from u start (step.Dot name)) n es m d → tells (nested_behind_of c p s u start name f n) ≡ Given (z, l)
    unfolding nested_behind numbered clauses_behind
    nested_told es d z a b e =
        subst (λ z. tells (nested_behind_of c p s u start name f n) ≡ Given (z, l)) (sym e)
        (ap (λ t. and_then t (λ es. clauses_behind es.0 es.1)) (elements_told (Given (es, m)) a)
        ∙ ap (λ t. and_then t (λ d. Given (nested_scope start (step_from u start (step.Dot name)) n es m d.0, d.1))) (clauses_told (Given (d, l)) b))

    -- its elements are refused
    elements_refused : (r : NameRefusal) (k : ℕ) → Answers {A = List core_element.Element} (tells (numbered (elements_of c p (around.On v ∷ s) f.shape.elements) n)) (Err r) k
        → Answers {A = Scope} (tells (nested_behind_of c p s u start name f n)) (Err r) l
    unfolding nested_behind numbered clauses_behind
    elements_refused refusal.Memory k h = tt
    elements_refused (refusal.Rule rule byte) k h = ap (λ t. and_then t (λ es. clauses_behind es.0 es.1)) (elements_told _ h)

    pub nested_elements_refused : (r : NameRefusal) (k : ℕ) (result : Result Scope NameRefusal) → result ≡ Err r
        → Answers {A = List core_element.Element} (tells (numbered (elements_of c p (around.On v ∷ s) f.shape.elements) n)) (Err r) k → Answers (tells (nested_behind_of c p s u start name f n)) result l
    nested_elements_refused r k result e h = subst (λ x. Answers (tells (nested_behind_of c p s u start name f n)) x l) (sym e) (elements_refused r k h)

    -- its clauses are refused
    clauses_refused : (r : NameRefusal) (k : ℕ) (es : List core_element.Element) → tells (numbered (elements_of c p (around.On v ∷ s) f.shape.elements) n) ≡ Given (es, m)
        → Answers {A = Clauses} (tells (numbered (clauses_of c p s f.clauses v) m)) (Err r) k → Answers {A = Scope} (tells (nested_behind_of c p s u start name f n)) (Err r) l
    unfolding nested_behind numbered clauses_behind
    clauses_refused refusal.Memory k es a h = tt
    clauses_refused (refusal.Rule rule byte) k es a h =
        ap (λ t. and_then t (λ es. clauses_behind es.0 es.1)) (elements_told (Given (es, m)) a)
        ∙ ap (λ t. and_then t (λ d. Given (nested_scope start (step_from u start (step.Dot name)) n es m d.0, d.1))) (clauses_told _ h)

    pub nested_clauses_refused : (r : NameRefusal) (k : ℕ) (es : List core_element.Element) (result : Result Scope NameRefusal) → result ≡ Err r
        → tells (numbered (elements_of c p (around.On v ∷ s) f.shape.elements) n) ≡ Given (es, m)
        → Answers {A = Clauses} (tells (numbered (clauses_of c p s f.clauses v) m)) (Err r) k → Answers (tells (nested_behind_of c p s u start name f n)) result l
    nested_clauses_refused r k es result e a h = subst (λ x. Answers (tells (nested_behind_of c p s u start name f n)) x l) (sym e) (clauses_refused r k es a h)

  -- ---- statements

  module _ (r : Bool) (x : st.Statement) (at : Span) (aliases aliases' : List Alias) (same : aliases' ≡ aliases) (n : ℕ) where
    aliases_told : (t : Told NameRefusal (Defined × ℕ)) → tells (aliases_of c p s aliases' n) ≡ t → tells (aliases_of c p s aliases n) ≡ t
    aliases_told t h = ap (λ a. tells (aliases_of c p s a n)) (sym same) ∙ h

    module _ (f : Select) (is : x ≡ st.Select at aliases f) where
      select_is : tells (statement c p x r s n) ≡ and_then (tells (aliases_of c p s aliases n)) (λ d. tells (select_behind_of c p r s at.start d.0 f d.1))
      unfolding select
      select_is = ap (λ x. tells (statement c p x r s n)) is ∙ (λ i. tells (of_select c p r s at aliases f n i))

      pub select_told : (d : Defined) (m l : ℕ) (result : Result core.Expr NameRefusal) → tells (aliases_of c p s aliases' n) ≡ Given (d, m)
          → Answers (tells (select_behind_of c p r s at.start d f m)) result l → Answers (tells (statement c p x r s n)) result l
      select_told d m l result h then =
          subst (λ t. Answers t result l) (sym select_is)
          (given_first (tells (aliases_of c p s aliases n)) (λ d. tells (select_behind_of c p r s at.start d.0 f d.1)) d m result l (aliases_told (Given (d, m)) h) then)

      pub select_refused : (q : NameRefusal) (m l : ℕ) (result : Result core.Expr NameRefusal) → result ≡ Err q
          → Answers {A = Defined} (tells (aliases_of c p s aliases' n)) (Err q) m → Answers (tells (statement c p x r s n)) result l
      select_refused q m l result e h =
          subst (λ y. Answers (tells (statement c p x r s n)) y l) (sym e) (subst (λ t. Answers {A = core.Expr} t (Err q) l) (sym select_is)
          (refused_first (tells (aliases_of c p s aliases n)) (λ d. tells (select_behind_of c p r s at.start d.0 f d.1)) q m l (subst (λ a. Answers {A = Defined} (tells (aliases_of c p s a n)) (Err q) m) same h)))

    module _ (f : For) (is : x ≡ st.For at aliases f) where
      for_is : tells (statement c p x r s n) ≡ and_then (tells (aliases_of c p s aliases n)) (λ d. tells (for_behind_of c p r s at.start d.0 f d.1))
      unfolding for_each
      for_is = ap (λ x. tells (statement c p x r s n)) is ∙ (λ i. tells (of_for c p r s at aliases f n i))

      pub for_told : (d : Defined) (m l : ℕ) (result : Result core.Expr NameRefusal) → tells (aliases_of c p s aliases' n) ≡ Given (d, m)
          → Answers (tells (for_behind_of c p r s at.start d f m)) result l → Answers (tells (statement c p x r s n)) result l
      for_told d m l result h then =
          subst (λ t. Answers t result l) (sym for_is)
          (given_first (tells (aliases_of c p s aliases n)) (λ d. tells (for_behind_of c p r s at.start d.0 f d.1)) d m result l (aliases_told (Given (d, m)) h) then)

      pub for_refused : (q : NameRefusal) (m l : ℕ) (result : Result core.Expr NameRefusal) → result ≡ Err q
          → Answers {A = Defined} (tells (aliases_of c p s aliases' n)) (Err q) m → Answers (tells (statement c p x r s n)) result l
      for_refused q m l result e h =
          subst (λ y. Answers (tells (statement c p x r s n)) y l) (sym e) (subst (λ t. Answers {A = core.Expr} t (Err q) l) (sym for_is)
          (refused_first (tells (aliases_of c p s aliases n)) (λ d. tells (for_behind_of c p r s at.start d.0 f d.1)) q m l (subst (λ a. Answers {A = Defined} (tells (aliases_of c p s a n)) (Err q) m) same h)))
