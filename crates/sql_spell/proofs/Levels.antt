-- Levels of operators: what binds tighter may stand where something looser may, and chains grow at their end.
use Rattle.std.proofs.Common.{◌≡◌, ℕ, zero, suc, ◌+◌, ◌-◌, ◌≤◌, max, Bool, true, false, List, [], ◌∷◌, ◌++◌, length, refl, sym, ap, ◌∙◌, subst, append_assoc, append-nil, arith}
use Rattle.std.proofs.Math.Dec.{ltb}
use Rattle.std.proofs.lemmas.Bool.Decides.{nat_tests}
use Rattle.sql_lex.specs.declared.token.Token.{Token}
use Rattle.sql_lex.specs.declared.token.TokenKind.{TokenKind}
use Rattle.sql_ast.specs.declared.expression.SqlExpr as e
use Rattle.sql_ast.specs.declared.expression.SqlExpr.{SqlExpr, end_of-SqlExpr, more_of-SqlExpr}
use Rattle.sql_ast.specs.declared.expression.SqlExpr.TheVariants as expr
use Rattle.sql_ast.specs.declared.expression.BinaryOp.{BinaryOp}
use Rattle.sql_ast.specs.declared.expression.BinaryOp.TheVariants as op
use Rattle.sql_ast.specs.declared.expression.UnaryOp.{UnaryOp}
use Rattle.sql_ast.specs.declared.expression.UnaryOp.TheVariants as unary
use Rattle.sql_ast.specs.Nesting.{expr_height}
use Rattle.sql_grammar.specs.declared.grown.Grown.{Grown}
use Rattle.sql_grammar.specs.declared.grown.GrownSelect.{GrownSelect}
use Rattle.sql_grammar.specs.declared.limits.TheConstants.{MAX_HEIGHT}
use Rattle.sql_grammar.specs.Trees.{too_high, above, grouped, operated}
use Rattle.sql_grammar.specs.Words.{class_of, operator_of}
use Rattle.sql_grammar.specs.Grammar as g
use Rattle.sql_print.specs.Marks.{mark_of, level_of, level_of_binary, level_of_unary, is_loose, held, in_parens}
use Rattle.exact.specs.Language.{Lang, One, Then, Links, Chain}
use Rattle.sql_spell.proofs.Spelling.{Spelt, Parted, parted, spelt_empty, spelt_then, spelt_end, spelt_left, spelt_right, spelt_stop, spelt_within, spelt_kind}
use Rattle.sql_spell.proofs.Heights.{above_low, is_low}
use Rattle.sql_spell.proofs.Types.{inner_of, open_paren, close_paren}

-- the languages of the levels, so many above what holds no operator of its own
abbrev pub lang : ℕ → ℕ → Lang Token Grown
lang zero d = g.Prim d too_high (inner_of d)
lang (suc zero) d = g.Unary d too_high (inner_of d)
lang (suc (suc zero)) d = g.Product d too_high (inner_of d)
lang (suc (suc (suc zero))) d = g.Sum d too_high (inner_of d)
lang (suc (suc (suc (suc zero)))) d = g.Comparison d too_high (inner_of d)
lang (suc (suc (suc (suc (suc zero))))) d = g.Negation d too_high (inner_of d)
lang (suc (suc (suc (suc (suc (suc zero)))))) d = g.Conjunction d too_high (inner_of d)
lang (suc (suc (suc (suc (suc (suc (suc k))))))) d = g.Expr d too_high (inner_of d)

step : (k d : ℕ) {P : Grown → Type 0} {ks : List TokenKind} → Spelt (lang k d) P ks → Spelt (lang (suc k) d) P ks
step zero d l = spelt_right _ l
step (suc zero) d l = spelt_end l (λ a p. spelt_stop a p)
step (suc (suc zero)) d l = spelt_end l (λ a p. spelt_stop a p)
step (suc (suc (suc zero))) d l = spelt_end l (λ a p. spelt_right _ (spelt_right _ (spelt_empty a p)))
step (suc (suc (suc (suc zero)))) d l = spelt_right _ l
step (suc (suc (suc (suc (suc zero))))) d l = spelt_end l (λ a p. spelt_stop a p)
step (suc (suc (suc (suc (suc (suc zero)))))) d l = spelt_end l (λ a p. spelt_stop a p)
step (suc (suc (suc (suc (suc (suc (suc k))))))) d l = l

pub looser : (j k d m : ℕ) {P : Grown → Type 0} {ks : List TokenKind} → m ≡ j + k → Spelt (lang k d) P ks → Spelt (lang m d) P ks
looser zero k d m {P} {ks} e l = subst (λ (i : ℕ). Spelt (lang i d) P ks) (let same : k ≡ m = omega arith in same) l
looser (suc j) k d m {P} {ks} e l = subst (λ (i : ℕ). Spelt (lang i d) P ks) (let same : suc (j + k) ≡ m = omega arith in same) (step (j + k) d (looser j k d (j + k) refl l))

-- ---- open parts

pub part_expr : (d : ℕ) {P : Grown → Type 0} {ks : List TokenKind} → Spelt (g.Expr d too_high (inner_of d)) P ks → Spelt (g.within too_high 0 d).expr P ks
unfolding g.within
part_expr zero l = l
part_expr (suc d) l = l

pub part_negation : (d : ℕ) {P : Grown → Type 0} {ks : List TokenKind} → Spelt (g.Negation d too_high (inner_of d)) P ks → Spelt (g.within too_high 0 d).negation P ks
unfolding g.within
part_negation zero l = l
part_negation (suc d) l = l

pub part_unary : (d : ℕ) {P : Grown → Type 0} {ks : List TokenKind} → Spelt (g.Unary d too_high (inner_of d)) P ks → Spelt (g.within too_high 0 d).unary P ks
unfolding g.within
part_unary zero l = l
part_unary (suc d) l = l

pub part_select : (d : ℕ) {P : GrownSelect → Type 0} {ks : List TokenKind} → Spelt (g.Sel d too_high (inner_of d)) P ks → Spelt (g.within too_high 0 d).select P ks
unfolding g.within
part_select zero l = l
part_select (suc d) l = l

pub sub_spelt : (d : ℕ) {P : GrownSelect → Type 0} {ks : List TokenKind} → Spelt (g.Sel d too_high (inner_of d)) P ks → Spelt (g.Sub (suc d) too_high (inner_of (suc d))) P (in_parens ks)
sub_spelt d l = spelt_then (open_paren d) (λ _ _. spelt_then (part_select d l) (λ s p. spelt_end close_paren (λ _ _. spelt_empty s p)))

-- what was read is the expression, with its height
abbrev pub Is : SqlExpr → Grown → Type 0
Is x y = (y.expr ≡ x) × (y.height ≡ expr_height x)

pub within_spelt : (d : ℕ) (x : SqlExpr) {ks : List TokenKind} → Spelt (g.Expr d too_high (inner_of d)) (Is x) ks → Spelt (g.Within (suc d) too_high (inner_of (suc d))) (Is x) (in_parens ks)
within_spelt d x l = spelt_then (open_paren d) (λ start _. spelt_then (part_expr d l) (λ y is. spelt_end close_paren (λ _ _. spelt_empty (grouped start y) is)))

-- ---- operands

unary_bound : (o : UnaryOp) → level_of_unary o ≤ 8
unary_bound unary.Neg = omega arith
unary_bound unary.Not = omega arith
unary_bound unary.IsNull = omega arith
unary_bound unary.IsNotNull = omega arith

binary_bound : (o : BinaryOp) → level_of_binary o ≤ 8
binary_bound op.Or = omega arith
binary_bound op.And = omega arith
binary_bound op.Eq = omega arith
binary_bound op.Ne = omega arith
binary_bound op.Lt = omega arith
binary_bound op.Le = omega arith
binary_bound op.Gt = omega arith
binary_bound op.Ge = omega arith
binary_bound op.Add = omega arith
binary_bound op.Sub = omega arith
binary_bound op.Concat = omega arith
binary_bound op.Mul = omega arith
binary_bound op.FloorDiv = omega arith
binary_bound op.Mod = omega arith

level_bound : (x : SqlExpr) → level_of x ≤ 8
level_bound (e.Unary' o s x) = unary_bound o
level_bound (e.Binary' o s x u y) = binary_bound o
level_bound (e.Int z) = omega arith
level_bound (e.Text s) = omega arith
level_bound (e.Bool b) = omega arith
level_bound (e.Uuid n) = omega arith
level_bound (e.Null t) = omega arith
level_bound (e.Column a n) = omega arith
level_bound (e.Arg n t) = omega arith
level_bound (e.Global n) = omega arith
level_bound (e.Array' s cs) = omega arith
level_bound (e.Row' s xs) = omega arith
level_bound (e.Part' s x z) = omega arith
level_bound (e.Case' s x u y v z) = omega arith
level_bound (e.Cast' s x t) = omega arith
level_bound (e.Call' o s x) = omega arith

not_loose : (a b : ℕ) → ltb a b ≡ false → b ≤ a
not_loose a b h = grind (arith, nat_tests)

-- an expression at its own level is one
pub as_expr : (d : ℕ) (x : SqlExpr) {ks : List TokenKind} → Spelt (lang (8 - level_of x) d) (Is x) ks → Spelt (g.Expr d too_high (inner_of d)) (Is x) ks
as_expr d x l = looser (level_of x) (8 - level_of x) d 8 (let bound : level_of x ≤ 8 = level_bound x in omega arith) l

-- An operand stands bare where its level allows, and in parentheses elsewhere.
pub held_spelt : (level : ℕ) (x : SqlExpr) (d : ℕ) {ks : List TokenKind} → level ≤ 8 → Spelt (lang (8 - level_of x) (suc d)) (Is x) ks → Spelt (lang (8 - level_of x) d) (Is x) ks
    → Spelt (lang (8 - level) (suc d)) (Is x) (held (is_loose level x) ks)
held_spelt level x d {ks} small own inside = pick (is_loose level x) refl
  where
    pick : (b : Bool) → is_loose level x ≡ b → Spelt (lang (8 - level) (suc d)) (Is x) (held b ks)
    pick true so = looser (8 - level) 0 (suc d) (8 - level) (omega arith) (spelt_left _ (within_spelt d x (as_expr d x inside)))
    pick false so =
        let bare : level ≤ level_of x = not_loose (level_of x) level so in
        let bound : level_of x ≤ 8 = level_bound x in
        subst (Spelt (lang (8 - level) (suc d)) (Is x)) (sym (append-nil ks)) (looser (level_of x - level) (8 - level_of x) (suc d) (8 - level) (omega arith) own)

-- ---- operators

links_end : {A : Type 0} (S : A → Lang Token A) (k : ℕ) (a left e : A) (front back : List Token) → ((m : ℕ) → S left m back e) → (n : ℕ) → Links S k a n front left → Links S (suc k) a n (front ++ back) e
links_end {A} S zero a left e front back more n l =
    record { front = back; back = []; value = e; parts = ap (λ (x : List Token). x ++ back) l.0 ∙ sym (append-nil back); first = subst (λ (x : A). S x n back e) l.1 (more n); second = (refl, refl) }
links_end {A} S (suc k) a left e front back more n l =
    record {
      front = l.front;
      back = l.back ++ back;
      value = l.value;
      parts = ap (λ (x : List Token). x ++ back) l.parts ∙ append_assoc l.front l.back back;
      first = l.first;
      second = links_end S k l.value left e l.back back more (n - length l.front) l.second;
    }

-- a chain with one more step at its end
chain_end : {A : Type 0} {L : Lang Token A} {S : A → Lang Token A} {P Q : A → Type 0} {ks js : List TokenKind}
    → Spelt (Then L (λ a. Chain S a)) P ks → ((a : A) → P a → Spelt (S a) Q js) → Spelt (Then L (λ a. Chain S a)) Q (ks ++ js)
chain_end {A} {L} {S} {P} {Q} {ks} {js} l m ts same =
    let cut : Parted ks js ts = parted ks js ts same in
    let first : (a : A) × P a × ((n : ℕ) → Then L (λ a. Chain S a) n cut.front a) = l cut.front cut.before in
    let second : (b : A) × Q b × ((n : ℕ) → S first.0 n cut.back b) = m first.0 first.1 cut.back cut.behind in (
      second.0,
      second.1,
      λ n. let x : Then L (λ a. Chain S a) n cut.front first.0 = first.2 n in
          record {
            front = x.front;
            back = x.back ++ cut.back;
            value = x.value;
            parts = cut.whole ∙ ap (λ (y : List Token). y ++ cut.back) x.parts ∙ append_assoc x.front x.back cut.back;
            first = x.first;
            second = (suc x.second.0, links_end S x.second.0 x.value first.0 second.0 x.back cut.back second.2 (n - length x.front) x.second.1);
          },
    )

operator_spelt : (o : BinaryOp) → Spelt (One (operator_of (level_of_binary o))) (λ a. a ≡ o) (mark_of o ∷ [])
unfolding class_of
operator_spelt op.Or = spelt_kind (mark_of op.Or) (λ _. op.Or) (λ _. refl) (λ _. refl)
operator_spelt op.And = spelt_kind (mark_of op.And) (λ _. op.And) (λ _. refl) (λ _. refl)
operator_spelt op.Eq = spelt_kind (mark_of op.Eq) (λ _. op.Eq) (λ _. refl) (λ _. refl)
operator_spelt op.Ne = spelt_kind (mark_of op.Ne) (λ _. op.Ne) (λ _. refl) (λ _. refl)
operator_spelt op.Lt = spelt_kind (mark_of op.Lt) (λ _. op.Lt) (λ _. refl) (λ _. refl)
operator_spelt op.Le = spelt_kind (mark_of op.Le) (λ _. op.Le) (λ _. refl) (λ _. refl)
operator_spelt op.Gt = spelt_kind (mark_of op.Gt) (λ _. op.Gt) (λ _. refl) (λ _. refl)
operator_spelt op.Ge = spelt_kind (mark_of op.Ge) (λ _. op.Ge) (λ _. refl) (λ _. refl)
operator_spelt op.Add = spelt_kind (mark_of op.Add) (λ _. op.Add) (λ _. refl) (λ _. refl)
operator_spelt op.Sub = spelt_kind (mark_of op.Sub) (λ _. op.Sub) (λ _. refl) (λ _. refl)
operator_spelt op.Concat = spelt_kind (mark_of op.Concat) (λ _. op.Concat) (λ _. refl) (λ _. refl)
operator_spelt op.Mul = spelt_kind (mark_of op.Mul) (λ _. op.Mul) (λ _. refl) (λ _. refl)
operator_spelt op.FloorDiv = spelt_kind (mark_of op.FloorDiv) (λ _. op.FloorDiv) (λ _. refl) (λ _. refl)
operator_spelt op.Mod = spelt_kind (mark_of op.Mod) (λ _. op.Mod) (λ _. refl) (λ _. refl)

-- an operator between two operands
abbrev pub IsBinary : BinaryOp → SqlExpr → SqlExpr → Grown → Type 0
IsBinary o x y r = (r.expr ≡ expr.Binary (record { operator = o; left = x; right = y })) × (r.height ≡ suc (max (expr_height x) (expr_height y)))

both_low : (a b h k : ℕ) → a ≡ h → b ≡ k → suc (max h k) ≤ MAX_HEIGHT → above (max a b) ≡ suc (max h k)
both_low a b h k p q low = above_low (max a b) (omega arith) ∙ (λ i. suc (max (p i) (q i)))

operated_is : (o found : BinaryOp) (x y : SqlExpr) (left right : Grown) → suc (max (expr_height x) (expr_height y)) ≤ MAX_HEIGHT → found ≡ o → Is x left → Is y right → IsBinary o x y (operated found left right)
operated_is o found x y left right low same p q =
    ((λ i. expr.Binary (record { operator = same i; left = p.0 i; right = q.0 i })), both_low left.height right.height (expr_height x) (expr_height y) p.1 q.1 low)

pub operators_spelt : (d : ℕ) (M : Lang Token Grown) (o : BinaryOp) (x y : SqlExpr) {ks js : List TokenKind} → suc (max (expr_height x) (expr_height y)) ≤ MAX_HEIGHT
    → Spelt (g.Operators d too_high (inner_of d) (level_of_binary o) M) (Is x) ks → Spelt M (Is y) js → Spelt (g.Operators d too_high (inner_of d) (level_of_binary o) M) (IsBinary o x y) (ks ++ mark_of o ∷ js)
operators_spelt d M o x y low l r =
    chain_end l (λ left p. spelt_then (spelt_within (is_low left.height (let known : left.height ≡ expr_height x = p.1 in omega arith)) (operator_spelt o))
    (λ found same. spelt_end r (λ right q. spelt_empty (operated found left right) (operated_is o found x y left right low same p q))))

pub comparison_spelt : (d : ℕ) (o : BinaryOp) (x y : SqlExpr) {ks js : List TokenKind} → level_of_binary o ≡ 4 → suc (max (expr_height x) (expr_height y)) ≤ MAX_HEIGHT
    → Spelt (g.Sum d too_high (inner_of d)) (Is x) ks → Spelt (g.Sum d too_high (inner_of d)) (Is y) js → Spelt (g.Comparison d too_high (inner_of d)) (IsBinary o x y) (ks ++ mark_of o ∷ js)
comparison_spelt d o x y level low l r =
    spelt_then l (λ left p. spelt_left _ (spelt_then (subst (λ (n : ℕ). Spelt (One (operator_of n)) (λ a. a ≡ o) (mark_of o ∷ [])) level (operator_spelt o))
    (λ found same. spelt_end r (λ right q. spelt_empty (operated found left right) (operated_is o found x y left right low same p q)))))
