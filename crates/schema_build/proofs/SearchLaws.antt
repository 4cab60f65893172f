-- What a search for the types that a type extends keeps, and what it has found when nothing is pending.
use Rattle.std.proofs.Common.{◌≡◌, ◌⊎◌, ◌<◌, ◌≤◌, ℕ, zero, suc, ◌+◌, Bool, true, false, List, [], ◌∷◌, ◌++◌, length, replicate, Option, Some, None, slice_get, set, Contains, inl, inr, refl, sym, ap, subst, ◌∙◌, arith, length-append, length-set, below_more}
use Rattle.std.proofs.lemmas.List.{length-replicate}
use Rattle.std.proofs.lemmas.List.Elements.{Contains-append_left, Contains-append_right, Contains-push, Contains-push_cases}
use Rattle.core_ir.specs.declared.path.TypeId.{TypeId}
use Rattle.schema_build.specs.Lineage.{at, IsBase, Extends, directly, through, Rises, IsLineage}
use Rattle.schema_build.specs.Search.{AreWithin, IsFound, none_found, says_missing, noted_if, noted, all_noted, found_from, missing, left_of, IsSearch}
use Rattle.schema_build.specs.declared.lineage.Search.{Search}

same_type : (a b : TypeId) → a.0 ≡ b.0 → a ≡ b
same_type a b e = let f : ℕ → TypeId = λ n. record { 0 = n } in ap f e

-- lists of types

pub none_in : {A : Type 0} (x : A) → Contains [] x → ⊥
none_in x h = absurd (omega (arith, h.1))

here : {A : Type 0} (x : A) (more : List A) → Contains (x ∷ more) x
here x more = (0, omega arith, refl)

later : {A : Type 0} (y : A) (more : List A) (x : A) → Contains more x → Contains (y ∷ more) x
later y more x h = Contains-append_right (y ∷ []) more x h

head_or_later : {A : Type 0} (y : A) (more : List A) (x : A) → Contains (y ∷ more) x → (y ≡ x) ⊎ Contains more x
head_or_later y more x (zero, _, e) = inl e
head_or_later y more x (suc k, h, e) = inr (k, omega arith, e)

pub only : {A : Type 0} (y x : A) → Contains (y ∷ []) x → y ≡ x
only y x h = elim (head_or_later y [] x h) [ inl e ↦ e | inr n ↦ absurd (none_in x n) ]

-- marks

still_found : (found : List Bool) (n k : ℕ) → slice_get found k ≡ Some true → slice_get (set found n true) k ≡ Some true
still_found [] n k h = h
still_found (x ∷ more) zero zero h = refl
still_found (x ∷ more) zero (suc k) h = h
still_found (x ∷ more) (suc n) zero h = h
still_found (x ∷ more) (suc n) (suc k) h = still_found more n k h

now_found : (found : List Bool) (n : ℕ) → slice_get found n ≡ Some false → slice_get (set found n true) n ≡ Some true
now_found [] n h = cc
now_found (x ∷ more) zero h = refl
now_found (x ∷ more) (suc n) h = now_found more n h

was_found : (found : List Bool) (n k : ℕ) → slice_get (set found n true) k ≡ Some true → (slice_get found k ≡ Some true) ⊎ (n ≡ k)
was_found [] n k h = inl h
was_found (x ∷ more) zero zero h = inr refl
was_found (x ∷ more) zero (suc k) h = inl h
was_found (x ∷ more) (suc n) zero h = inl h
was_found (x ∷ more) (suc n) (suc k) h = elim (was_found more n k h) [ inl f ↦ inl f | inr e ↦ inr (ap suc e) ]

one_less : (found : List Bool) (n : ℕ) → slice_get found n ≡ Some false → missing found ≡ suc (missing (set found n true))
one_less [] n h = cc
one_less (true ∷ more) zero h = cc
one_less (false ∷ more) zero h = refl
one_less (true ∷ more) (suc n) h = one_less more n h
one_less (false ∷ more) (suc n) h = ap suc (one_less more n h)

none_marked : (count k : ℕ) → slice_get (replicate count false) k ≡ Some true → ⊥
none_marked zero k h = cc
none_marked (suc count) zero h = cc
none_marked (suc count) (suc k) h = none_marked count k h

not_past : (found : List Bool) (k : ℕ) → slice_get found k ≡ None → k < length found → ⊥
not_past [] k e h = omega arith
not_past (x ∷ more) zero e h = cc
not_past (x ∷ more) (suc k) e h = not_past more k e (omega arith)

-- How a search has grown by some types.
record Grows (s now : Search) (types : List TypeId) : Type 0 where
  sized : length now.found ≡ length s.found
  kept : (b : TypeId) → IsFound s.found b → IsFound now.found b
  waits : (a : TypeId) → Contains s.pending a → Contains now.pending a
  news : (b : TypeId) → IsFound now.found b → IsFound s.found b ⊎ (Contains types b × Contains now.pending b)
  waiting : (a : TypeId) → Contains now.pending a → Contains s.pending a ⊎ IsFound now.found a
  marked : (b : TypeId) → Contains types b → b.0 < length s.found → IsFound now.found b
  nearer : left_of now ≤ left_of s

grows_not : (s : Search) → Grows s s []
grows_not s = record {
  sized = refl;
  kept = λ b f. f;
  waits = λ a c. c;
  news = λ b f. inl f;
  waiting = λ a c. inl c;
  marked = λ b c l. absurd (none_in b c);
  nearer = omega arith;
}

stays : (s : Search) (t : TypeId) → (t.0 < length s.found → IsFound s.found t) → Grows s s (t ∷ [])
stays s t there = record {
  sized = refl;
  kept = λ b f. f;
  waits = λ a c. c;
  news = λ b f. inl f;
  waiting = λ a c. inl c;
  marked = λ b c l. let e : t ≡ b = only t b c in
      subst (λ (x : TypeId). IsFound s.found x) e (there (subst (λ (x : TypeId). x.0 < length s.found) (sym e) l));
  nearer = omega arith;
}

marks : (s : Search) (t : TypeId) → slice_get s.found t.0 ≡ Some false → Grows s (noted_if true s t) (t ∷ [])
marks s t lacks = record {
  sized = length-set s.found t.0 true;
  kept = λ b f. still_found s.found t.0 b.0 f;
  waits = λ a c. Contains-append_left s.pending (t ∷ []) a c;
  news = λ b f. elim (was_found s.found t.0 b.0 f) [
    | inl old ↦ inl old
    | inr e ↦ let same : t ≡ b = same_type t b e in
        inr (subst (λ (x : TypeId). Contains (t ∷ []) x) same (here t []), subst (λ (x : TypeId). Contains (s.pending ++ t ∷ []) x) same (Contains-push s.pending t))
  ];
  waiting = λ a c. elim (Contains-push_cases s.pending t a c) [
    | inl old ↦ inl old
    | inr e ↦ inr (subst (λ (x : TypeId). IsFound (set s.found t.0 true) x) e (now_found s.found t.0 lacks))
  ];
  marked = λ b c l. subst (λ (x : TypeId). IsFound (set s.found t.0 true) x) (only t b c) (now_found s.found t.0 lacks);
  nearer = omega (arith, one_less s.found t.0 lacks, length-append s.pending (t ∷ []));
}

notes_if : (s : Search) (t : TypeId) (o : Option Bool) → slice_get s.found t.0 ≡ o → Grows s (noted_if (says_missing o) s t) (t ∷ [])
notes_if s t None e = stays s t (λ l. absurd (not_past s.found t.0 e l))
notes_if s t (Some true) e = stays s t (λ l. e)
notes_if s t (Some false) e = marks s t e

notes : (s : Search) (t : TypeId) → Grows s (noted s t) (t ∷ [])
notes s t = notes_if s t (slice_get s.found t.0) refl

grows_on : (s one now : Search) (t : TypeId) (more : List TypeId) → Grows s one (t ∷ []) → Grows one now more → Grows s now (t ∷ more)
grows_on s one now t more g h = record {
  sized = h.sized ∙ g.sized;
  kept = λ b f. h.kept b (g.kept b f);
  waits = λ a c. h.waits a (g.waits a c);
  news = λ b f. elim (h.news b f) [
    | inl old ↦ elim (g.news b old) [
      | inl older ↦ inl older
      | inr c ↦ inr (subst (λ (x : TypeId). Contains (t ∷ more) x) (only t b c.0) (here t more), h.waits b c.1)
    ]
    | inr c ↦ inr (later t more b c.0, c.1)
  ];
  waiting = λ a c. elim (h.waiting a c) [
    | inl old ↦ elim (g.waiting a old) [ inl older ↦ inl older | inr f ↦ inr (h.kept a f) ]
    | inr f ↦ inr f
  ];
  marked = λ b c l. elim (head_or_later t more b c) [
    | inl e ↦ h.kept b (g.marked b (subst (λ (x : TypeId). Contains (t ∷ []) x) e (here t [])) l)
    | inr rest ↦ h.marked b rest (subst (λ n. b.0 < n) (sym g.sized) l)
  ];
  nearer = omega (arith, g.nearer, h.nearer);
}

grows : (s : Search) (types : List TypeId) → Grows s (all_noted s types) types
grows s [] = grows_not s
grows s (t ∷ more) = grows_on s (noted s t) (all_noted (noted s t) more) t more (notes s t) (grows (noted s t) more)

module _ (bases : List (List TypeId)) where
  -- what a type that is extended extends is extended
  extends_more : (t a b : TypeId) → Extends bases t a → IsBase bases a b → Extends bases t b
  extends_more t a b (directly _ _ base) last = through t a b base (directly a b last)
  extends_more t a b (through _ c _ base rest) last = through t c b base (extends_more c a b rest last)

  reached : (found : List Bool) → ((a : TypeId) → IsFound found a → (b : TypeId) → IsBase bases a b → IsFound found b)
      → (a b : TypeId) → Extends bases a b → ((c : TypeId) → IsBase bases a c → IsFound found c) → IsFound found b
  reached found closed a b (directly _ _ base) begun = begun b base
  reached found closed a b (through _ c _ base rest) begun = reached found closed c b rest (closed c (begun c base))

  -- A search begins with the bases of its type.
  pub begins : (t : TypeId) → AreWithin bases → IsSearch bases t (all_noted (none_found (length bases)) (at bases t.0))
  begins t within =
      let none = none_found (length bases) in
      let g = grows none (at bases t.0) in
      let size : length none.found ≡ length bases = length-replicate (length bases) false in
      record {
        sized = g.sized ∙ size;
        sound = λ b f. elim (g.news b f) [ inl old ↦ absurd (none_marked (length bases) b.0 old) | inr c ↦ directly t b c.0 ];
        waiting = λ a c. elim (g.waiting a c) [ inl old ↦ absurd (none_in a old) | inr f ↦ f ];
        closed = λ a f. elim (g.news a f) [ inl old ↦ absurd (none_marked (length bases) a.0 old) | inr c ↦ inl c.1 ];
        begun = λ b base. g.marked b base (subst (λ n. b.0 < n) (sym size) (within t b base));
      }

  -- It goes on with the bases of a pending type.
  pub goes_on : (t next : TypeId) (s p : Search) → AreWithin bases → s.found ≡ p.found → s.pending ≡ p.pending ++ next ∷ [] → IsSearch bases t s
      → IsSearch bases t (all_noted p (at bases next.0))
  goes_on t next s p within same popped held =
      let g = grows p (at bases next.0) in
      let size : length p.found ≡ length bases = ap length (sym same) ∙ held.sized in
      let is_next : IsFound s.found next = held.waiting next (subst (λ (x : List TypeId). Contains x next) (sym popped) (Contains-push p.pending next)) in
      let was : (b : TypeId) → IsFound p.found b → IsFound s.found b = λ b f. subst (λ (x : List Bool). IsFound x b) (sym same) f in
      let is : (b : TypeId) → IsFound s.found b → IsFound p.found b = λ b f. subst (λ (x : List Bool). IsFound x b) same f in
      record {
        sized = g.sized ∙ size;
        sound = λ b f. elim (g.news b f) [ inl old ↦ held.sound b (was b old) | inr c ↦ extends_more t next b (held.sound next is_next) c.0 ];
        waiting = λ a c. elim (g.waiting a c) [
          | inl old ↦ g.kept a (is a (held.waiting a (subst (λ (x : List TypeId). Contains x a) (sym popped) (Contains-append_left p.pending (next ∷ []) a old))))
          | inr f ↦ f
        ];
        closed = λ a f. elim (g.news a f) [
          | inl old ↦ elim (held.closed a (was a old)) [
            | inl c ↦ elim (Contains-push_cases p.pending next a (subst (λ (x : List TypeId). Contains x a) popped c)) [
              | inl rest ↦ inl (g.waits a rest)
              | inr e ↦ inr (λ b base. g.marked b (subst (λ (x : TypeId). IsBase bases x b) (sym e) base) (subst (λ n. b.0 < n) (sym size) (within a b base)))
            ]
            | inr done ↦ inr (λ b base. g.kept b (is b (done b base)))
          ]
          | inr c ↦ inl c.1
        ];
        begun = λ b base. g.kept b (is b (held.begun b base));
      }

-- Each type that is looked at brings the search nearer to its end.
pub nearer : (bases : List (List TypeId)) (next : TypeId) (s p : Search) → s.found ≡ p.found → s.pending ≡ p.pending ++ next ∷ [] → left_of (all_noted p (at bases next.0)) < left_of s
nearer bases next s p same popped =
    let g = grows p (at bases next.0) in
    let m : missing s.found ≡ missing p.found = ap missing same in
    let l : length s.pending ≡ length (p.pending ++ next ∷ []) = ap length popped in
    omega (arith, g.nearer, m, l, length-append p.pending (next ∷ []))

-- the numbers of what is found

pub number_found : (n : ℕ) (found : List Bool) (b : TypeId) → Contains (found_from n found) b → (k : ℕ) × (b.0 ≡ k + n) × (slice_get found k ≡ Some true)
number_found n [] b h = absurd (none_in b h)
number_found n (true ∷ more) b h = elim (head_or_later (record { 0 = n }) (found_from (suc n) more) b h) [
  | inl e ↦ (0, let f : n ≡ b.0 = ap (λ (x : TypeId). x.0) e in omega arith, refl)
  | inr rest ↦ let r = number_found (suc n) more b rest in (suc r.0, omega (arith, r.1), r.2)
]
number_found n (false ∷ more) b h = let r = number_found (suc n) more b h in (suc r.0, omega (arith, r.1), r.2)

pub found_number : (n : ℕ) (found : List Bool) (b : TypeId) (k : ℕ) → b.0 ≡ k + n → slice_get found k ≡ Some true → Contains (found_from n found) b
found_number n [] b k e h = cc
found_number n (true ∷ more) b zero e h =
    let same : n ≡ b.0 = omega arith in
    subst (λ (x : TypeId). Contains (record { 0 = n } ∷ found_from (suc n) more) x) (same_type (record { 0 = n }) b same) (here (record { 0 = n }) (found_from (suc n) more))
found_number n (true ∷ more) b (suc k) e h = later (record { 0 = n }) (found_from (suc n) more) b (found_number (suc n) more b k (omega arith) h)
found_number n (false ∷ more) b zero e h = cc
found_number n (false ∷ more) b (suc k) e h = found_number (suc n) more b k (omega arith) h

pub rise : (n : ℕ) (found : List Bool) → Rises (found_from n found)
rise n [] = tt
rise n (true ∷ more) = (λ b c. let r = number_found (suc n) more b c in omega (arith, r.1), rise (suc n) more)
rise n (false ∷ more) = rise (suc n) more

-- What a search has found when nothing is pending is the lineage.
pub finds_lineage : (bases : List (List TypeId)) (t : TypeId) (s : Search) → IsSearch bases t s → s.pending ≡ [] → IsLineage bases t (found_from 0 s.found)
finds_lineage bases t s held done =
    let closed : (a : TypeId) → IsFound s.found a → (b : TypeId) → IsBase bases a b → IsFound s.found b =
    λ a f. elim (held.closed a f) [ inl c ↦ absurd (none_in a (subst (λ (x : List TypeId). Contains x a) done c)) | inr bases_found ↦ bases_found ] in (
      rise 0 s.found,
      λ b. (
        λ c. let r = number_found 0 s.found b c in let e : r.0 ≡ b.0 = omega (arith, r.1) in held.sound b (subst (λ n. slice_get s.found n ≡ Some true) e r.2),
        λ x. found_number 0 s.found b b.0 (omega arith) (reached bases s.found closed t b x held.begun),
      ),
    )

extends_some : (bases : List (List TypeId)) (a b : TypeId) → at bases a.0 ≡ [] → Extends bases a b → ⊥
extends_some bases a b none (directly _ _ base) = none_in b (subst (λ (x : List TypeId). Contains x b) none base)
extends_some bases a b none (through _ c _ base rest) = none_in c (subst (λ (x : List TypeId). Contains x c) none base)

-- A type without bases extends none.
pub no_lineage : (bases : List (List TypeId)) (t : TypeId) → at bases t.0 ≡ [] → IsLineage bases t []
no_lineage bases t none = (tt, λ b. (λ c. absurd (none_in b c), λ x. absurd (extends_some bases t b none x)))

-- the lineages of all types

at_before : (lines : List (List TypeId)) (line : List TypeId) (k : ℕ) → k < length lines → at (lines ++ line ∷ []) k ≡ at lines k
at_before [] line k h = absurd (omega arith)
at_before (x ∷ more) line zero h = refl
at_before (x ∷ more) line (suc k) h = at_before more line k (omega arith)

at_end : (lines : List (List TypeId)) (line : List TypeId) (k : ℕ) → length lines ≡ k → at (lines ++ line ∷ []) k ≡ line
at_end [] line zero h = refl
at_end [] line (suc k) h = cc
at_end (x ∷ more) line zero h = absurd (omega arith)
at_end (x ∷ more) line (suc k) h = at_end more line k (omega arith)

-- One more lineage, where those of the types before are there.
pub lines_more : (bases lines now : List (List TypeId)) (line : List TypeId) (n : ℕ) → length lines ≡ n
    → ((a : TypeId) → a.0 < n → IsLineage bases a (at lines a.0)) → IsLineage bases (record { 0 = n }) line → now ≡ lines ++ line ∷ []
    → (length now ≡ n + 1) × ((a : TypeId) → a.0 < n + 1 → IsLineage bases a (at now a.0))
lines_more bases lines now line n size held new is = (
  omega (arith, ap length is, length-append lines (line ∷ [])),
  λ a h.
      below_more (λ k. IsLineage bases (record { 0 = k }) (at now k)) n
      (λ k below. subst (λ (x : List TypeId). IsLineage bases (record { 0 = k }) x) (sym (ap (λ (ls : List (List TypeId)). at ls k) is ∙ at_before lines line k (omega arith))) (held (record { 0 = k }) below))
      (subst (λ (x : List TypeId). IsLineage bases (record { 0 = n }) x) (sym (ap (λ (ls : List (List TypeId)). at ls n) is ∙ at_end lines line n size)) new)
      a.0 h,
)
