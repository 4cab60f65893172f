-- The types that each type extends are told by the types that are written there.
use Rattle.std.proofs.Common.{◌≡◌, ◌⊎◌, ◌<◌, ℕ, zero, suc, List, [], ◌∷◌, length, Contains, inl, inr, refl, sym, ap, subst, ◌∙◌, arith}
use Rattle.std.proofs.lemmas.List.Elements.{Contains-append_right}
use Rattle.core_ir.specs.declared.path.TypeId.{TypeId}
use Rattle.schema_build.specs.Lineage.{at, Rises, IsLineage, AreLineages}

none_in : {A : Type 0} (x : A) → Contains [] x → ⊥
none_in x h = absurd (omega (arith, h.1))

here : {A : Type 0} (x : A) (more : List A) → Contains (x ∷ more) x
here x more = (0, omega arith, refl)

later : {A : Type 0} (y : A) (more : List A) (x : A) → Contains more x → Contains (y ∷ more) x
later y more x h = Contains-append_right (y ∷ []) more x h

head_or_later : {A : Type 0} (y : A) (more : List A) (x : A) → Contains (y ∷ more) x → (y ≡ x) ⊎ Contains more x
head_or_later y more x (zero, _, e) = inl e
head_or_later y more x (suc k, h, e) = inr (k, omega arith, e)

not_below_itself : (n : ℕ) → n < n → ⊥
not_below_itself n h = omega arith

not_below_each_other : (n m : ℕ) → n < m → m < n → ⊥
not_below_each_other n m h k = omega arith

-- of two lists that begin with the types, the types are the same
same_heads : (a b : TypeId) (more rest : List TypeId) → Rises (a ∷ more) → Rises (b ∷ rest) → Contains (b ∷ rest) a → Contains (a ∷ more) b → a ≡ b
same_heads a b more rest up down x y = elim (head_or_later b rest a x) [
  | inl e ↦ sym e
  | inr behind ↦ elim (head_or_later a more b y) [
    | inl e ↦ e
    | inr ahead ↦ absurd (not_below_each_other a.0 b.0 (up.0 b ahead) (down.0 a behind))
  ]
]

-- what stands behind the first stands behind the other first
behind : (a b : TypeId) (more rest : List TypeId) (c : TypeId) → Rises (a ∷ more) → a ≡ b → ((d : TypeId) → Contains (a ∷ more) d → Contains (b ∷ rest) d)
    → Contains more c → Contains rest c
behind a b more rest c up same among h = elim (head_or_later b rest c (among c (later a more c h))) [
  | inl e ↦ absurd (not_below_itself a.0 (subst (λ (d : TypeId). a.0 < d.0) (sym (same ∙ e)) (up.0 c h)))
  | inr found ↦ found
]

-- rising lists of the same types are the same
same_line : (line other : List TypeId) → Rises line → Rises other → ((b : TypeId) → Contains line b → Contains other b) → ((b : TypeId) → Contains other b → Contains line b)
    → line ≡ other
same_line [] [] up down to from = refl
same_line [] (b ∷ rest) up down to from = absurd (none_in b (from b (here b rest)))
same_line (a ∷ more) [] up down to from = absurd (none_in a (to a (here a more)))
same_line (a ∷ more) (b ∷ rest) up down to from =
    let same : a ≡ b = same_heads a b more rest up down (to a (here a more)) (from b (here b rest)) in
    ap (λ (c : TypeId). c ∷ more) same
    ∙ ap (λ (l : List TypeId). b ∷ l) (same_line more rest up.1 down.1 (λ c h. behind a b more rest c up same to h) (λ c h. behind b a rest more c down (sym same) from h))

one_lineage : (bases : List (List TypeId)) (a : TypeId) (line other : List TypeId) → IsLineage bases a line → IsLineage bases a other → line ≡ other
one_lineage bases a line other is is' =
    same_line line other is.0 is'.0 (λ b h. (is'.1 b).1 ((is.1 b).0 h)) (λ b h. (is.1 b).1 ((is'.1 b).0 h))

-- lists of lists that agree under each number are the same
same_lists : {A : Type 0} (xs ys : List (List A)) → length xs ≡ length ys → ((n : ℕ) → n < length xs → at xs n ≡ at ys n) → xs ≡ ys
same_lists [] [] e h = refl
same_lists [] (y ∷ ys) e h = absurd (omega (arith, e))
same_lists (x ∷ xs) [] e h = absurd (omega (arith, e))
same_lists (x ∷ xs) (y ∷ ys) e h =
    let first : x ≡ y = h 0 (omega arith) in
    ap (λ z. z ∷ xs) first ∙ ap (λ zs. y ∷ zs) (same_lists xs ys (omega (arith, e)) (λ n below. h (suc n) (omega (arith, below))))

pub one_lineages : (bases lines others : List (List TypeId)) → AreLineages bases lines → AreLineages bases others → lines ≡ others
one_lineages bases lines others is is' =
    same_lists lines others (is.0 ∙ sym is'.0)
    (λ n below. let a : TypeId = record { 0 = n } in let within : n < length bases = subst (λ m. n < m) is.0 below in
    one_lineage bases a (at lines n) (at others n) (is.1 a within) (is'.1 a within))
