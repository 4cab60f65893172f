-- Members spell the same as they are written in the grammar and by their first word.
use Rattle.std.proofs.Common.{◌≡◌, ℕ, ◌-◌, Bool, true, List, [], ◌∷◌, ◌++◌, length, Some, ap, inl, inr}
use Rattle.ev_lex.specs.declared.token.Token.{Token}
use Rattle.ev_lex.specs.declared.keyword.Keyword.{Keyword}
use Rattle.ev_lex.specs.declared.keyword.Keyword.TheVariants as keyword
use Rattle.ast.specs.declared.name.Name.{Name}
use Rattle.eql_grammar.specs.declared.grown.GrownExpr.{GrownExpr}
use Rattle.eql_grammar.specs.Words.{is_word, word_class, word_of, name_of, text_of}
use Rattle.exact.specs.Language.{Lang, Empty, One, Then, Either}
use Rattle.sdl_ast.specs.declared.member.Member.{Member}
use Rattle.sdl_ast.specs.declared.member.Member.TheVariants as tree
use Rattle.sdl_ast.specs.declared.member.PointerKind.{PointerKind}
use Rattle.sdl_ast.specs.declared.member.PointerKind.TheVariants as pointer_kind
use Rattle.sdl_grammar.specs.declared.form.MemberForm.{MemberForm}
use Rattle.sdl_grammar.specs.declared.form.MemberForm.TheVariants as member
use Rattle.sdl_grammar.specs.declared.part.Quals.{Quals}
use Rattle.sdl_grammar.specs.Words.{member_form, member_named, member_word_of}
use Rattle.sdl_grammar.specs.Trees.{no_quals, overloaded, pointer_head, bare_head}
use Rattle.sdl_grammar.specs.Grammar as g
use Rattle.sdl_grammar.proofs.ByWord as b
use Rattle.sdl_grammar.proofs.Alike.{Alike, alike_chain, alike_either, alike_behind, alike_assoc, alike_split, alike_map, swapped, led}
use Rattle.sdl_grammar.proofs.FirstWords.{MemberWordAt, member_word_known, word_known, member_Overloaded, member_Property, member_Link, member_Index, member_Annotation, member_Access}
use Rattle.sdl_grammar.proofs.SameItems.{after_overloaded, quals_alike}

-- ---- a first token, read as the word that a member begins with

-- what a keyword begins
worded : (k : Keyword) (f : MemberForm) (known : (t : Token) (s : _) → word_of k t ≡ Some s → member_word_of t ≡ Some (record { form = f; name = record { text = text_of t.kind; span = s } })) (M : ℕ → Lang Token Member) (N : MemberForm → Name → Lang Token Member)
    → ((name : Name) (n : ℕ) (x : List Token) (c : Member) → M name.span.start n x c → N f name n x c)
    → (n : ℕ) (x : List Token) (c : Member) → Then (One (word_of k)) (λ at. M at.start) n x c → Then (One member_word_of) (λ w. N w.form w.name) n x c
worded k f known M N reads =
    swapped (λ t s h. (record { form = f; name = record { text = text_of t.kind; span = s } }, known t s h, λ n x c m. reads (record { text = text_of t.kind; span = s }) n x c m))

-- what a name begins
named : (M : Name → Lang Token Member) (N : MemberForm → Name → Lang Token Member) → ((f : MemberForm) (name : Name) (n : ℕ) (x : List Token) (c : Member) → M name n x c → N f name n x c)
    → (n : ℕ) (x : List Token) (c : Member) → Then (One name_of) M n x c → Then (One member_word_of) (λ w. N w.form w.name) n x c
named M N reads = swapped (λ t name e. (record { form = member_form t; name = name }, ap (member_named (member_form t)) e, λ n x c m. reads (member_form t) name n x c m))

module _ (high : ℕ → Bool) (Expr : Lang Token GrownExpr) where
  -- ---- [property | link] Name

  -- what stands behind `property` or `link` at the byte `start`
  Own : PointerKind → Quals → ℕ → Lang Token Member
  Own kind q start = Then (One name_of) (λ own. g.Pointed high Expr (pointer_head q start (Some kind) own))

  ByName : Quals → Lang Token Member
  ByName q =
      Either (Then (One (word_of keyword.Property)) (λ at. Own pointer_kind.Property q at.start))
      (Either (Then (One (word_of keyword.Link)) (λ at. Own pointer_kind.Link q at.start))
      (Then (One name_of) (λ name. g.Pointed high Expr (bare_head q name))))

  own_alike : (k : Keyword) (kind : PointerKind) (q : Quals)
      → Alike (Then (Then (One (word_of k)) (λ at. Then (One name_of) (λ own. Empty (pointer_head q at.start (Some kind) own)))) (g.Pointed high Expr)) (Then (One (word_of k)) (λ at. Own kind q at.start))
  unfolding Own
  own_alike k kind q =
      alike_chain (alike_assoc (One (word_of k)) (λ at. Then (One name_of) (λ own. Empty (pointer_head q at.start (Some kind) own))) (g.Pointed high Expr))
      (alike_behind (λ at. alike_map (One name_of) (pointer_head q at.start (Some kind)) (g.Pointed high Expr)))

  by_name : (q : Quals) → Alike (Then (g.PointerName q) (g.Pointed high Expr)) (ByName q)
  unfolding ByName
  by_name q =
      alike_chain (alike_split _ _ (g.Pointed high Expr))
      (alike_either (own_alike keyword.Property pointer_kind.Property q)
      (alike_chain (alike_split _ _ (g.Pointed high Expr)) (alike_either (own_alike keyword.Link pointer_kind.Link q) (alike_map (One name_of) (bare_head q) (g.Pointed high Expr)))))

  plain : (q : Quals) (f : MemberForm) (name : Name) (n : ℕ) (x : List Token) (c : Member) → g.Pointed high Expr (bare_head q name) n x c → b.PointerOf high Expr f q name n x c
  plain q member.Property name n x c m = inl m
  plain q member.Link name n x c m = inl m
  plain q member.Overloaded name n x c m = m
  plain q member.Index name n x c m = m
  plain q member.Annotation name n x c m = m
  plain q member.Access name n x c m = m
  plain q member.Other name n x c m = m

  pointer_to : (q : Quals) (n : ℕ) (x : List Token) (c : Member) → ByName q n x c → b.Pointer high Expr q n x c
  unfolding ByName Own
  pointer_to q n x c (inl m) = worded keyword.Property member.Property member_Property (Own pointer_kind.Property q) (λ f name. b.PointerOf high Expr f q name) (λ name n x c m. inr m) n x c m
  pointer_to q n x c (inr (inl m)) = worded keyword.Link member.Link member_Link (Own pointer_kind.Link q) (λ f name. b.PointerOf high Expr f q name) (λ name n x c m. inr m) n x c m
  pointer_to q n x c (inr (inr m)) = named (λ name. g.Pointed high Expr (bare_head q name)) (λ f name. b.PointerOf high Expr f q name) (plain q) n x c m

  -- where the first token stands, with what is known of it
  module _ (n : ℕ) (x front back : List Token) (c : Member) (t : Token) (parts : x ≡ front ++ back) (one : front ≡ t ∷ []) where
    keyworded : (k : Keyword) (M : ℕ → Lang Token Member) (name : Name) → is_word k t ≡ true → name_of t ≡ Some name → M name.span.start (n - length front) back c → Then (One (word_of k)) (λ at. M at.start) n x c
    keyworded k M name is e m = led (word_of k) (λ at. M at.start) n x front back c t name.span parts one (word_known (word_class k) t name is e) m

    unworded : (q : Quals) (name : Name) → name_of t ≡ Some name → g.Pointed high Expr (bare_head q name) (n - length front) back c → ByName q n x c
    unfolding ByName
    unworded q name e m = inr (inr (led name_of (λ name. g.Pointed high Expr (bare_head q name)) n x front back c t name parts one e m))

    pointer_by : (q : Quals) (f : MemberForm) (name : Name) → MemberWordAt t f name → b.PointerOf high Expr f q name (n - length front) back c → ByName q n x c
    unfolding ByName Own
    pointer_by q member.Property name k (inl m) = unworded q name k.named m
    pointer_by q member.Property name k (inr m) = inl (keyworded keyword.Property (Own pointer_kind.Property q) name k.is k.named m)
    pointer_by q member.Link name k (inl m) = unworded q name k.named m
    pointer_by q member.Link name k (inr m) = inr (inl (keyworded keyword.Link (Own pointer_kind.Link q) name k.is k.named m))
    pointer_by q member.Overloaded name k m = unworded q name k.named m
    pointer_by q member.Index name k m = unworded q name k.named m
    pointer_by q member.Annotation name k m = unworded q name k.named m
    pointer_by q member.Access name k m = unworded q name k.named m
    pointer_by q member.Other name k m = unworded q name k.named m

  pointer_back : (q : Quals) (n : ℕ) (x : List Token) (c : Member) → b.Pointer high Expr q n x c → ByName q n x c
  pointer_back q n x c s = let first = s.first in pointer_by n x s.front s.back c first.0 s.parts first.1 q s.value.form s.value.name (member_word_known first.0 s.value first.2) s.second

  behind_quals : (q : Quals) → Alike (Then (g.PointerName q) (g.Pointed high Expr)) (b.Pointer high Expr q)
  behind_quals q = alike_chain (by_name q) (record { to = pointer_to q; back = pointer_back q })

  -- ---- pointers, behind their words

  Worded : Lang Token Member
  Worded = Either (Then (One (word_of keyword.Overloaded)) (λ at. after_overloaded (b.Pointer high Expr) (overloaded at.start))) (after_overloaded (b.Pointer high Expr) no_quals)

  pointer_alike : Alike (g.Pointer high Expr) Worded
  unfolding Worded
  pointer_alike = alike_chain (alike_behind behind_quals) (quals_alike (b.Pointer high Expr))

  -- ---- members

  bare : (f : MemberForm) (name : Name) (n : ℕ) (x : List Token) (c : Member) → b.PointerOf high Expr f no_quals name n x c → b.MemberOf high Expr f name n x c
  bare member.Overloaded name n x c m = inl m
  bare member.Property name n x c m = m
  bare member.Link name n x c m = m
  bare member.Index name n x c m = inl m
  bare member.Annotation name n x c m = inl m
  bare member.Access name n x c m = inl m
  bare member.Other name n x c m = m

  by_word : (k : Keyword) (f : MemberForm) (known : (t : Token) (s : _) → word_of k t ≡ Some s → member_word_of t ≡ Some (record { form = f; name = record { text = text_of t.kind; span = s } })) (M : ℕ → Lang Token Member)
      → ((name : Name) (n : ℕ) (x : List Token) (c : Member) → M name.span.start n x c → b.MemberOf high Expr f name n x c) → (n : ℕ) (x : List Token) (c : Member) → Then (One (word_of k)) (λ at. M at.start) n x c → b.MemberByWord high Expr n x c
  by_word k f known M reads n x c m = inr (worded k f known M (b.MemberOf high Expr) reads n x c m)

  worded_to : (n : ℕ) (x : List Token) (c : Member) → Worded n x c → b.MemberByWord high Expr n x c
  unfolding Worded after_overloaded
  worded_to n x c (inl m) = by_word keyword.Overloaded member.Overloaded member_Overloaded (λ start. after_overloaded (b.Pointer high Expr) (overloaded start)) (λ name n x c m. inr m) n x c m
  worded_to n x c (inr (inl m)) = inl m
  worded_to n x c (inr (inr m)) = inr (record { front = m.front; back = m.back; value = m.value; parts = m.parts; first = m.first; second = bare m.value.form m.value.name (n - length m.front) m.back c m.second })

  member_to : (n : ℕ) (x : List Token) (c : Member) → g.AMember high Expr n x c → b.MemberByWord high Expr n x c
  member_to n x c (inl m) = worded_to n x c (pointer_alike.to n x c m)
  member_to n x c (inr (inl m)) = by_word keyword.Access member.Access member_Access (g.Policed high Expr) (λ name n x c m. inr m) n x c m
  member_to n x c (inr (inr (inl m))) = by_word keyword.Index member.Index member_Index (g.Indexed high Expr) (λ name n x c m. inr m) n x c m
  member_to n x c (inr (inr (inr m))) = by_word keyword.Annotation member.Annotation member_Annotation (λ start. Then (g.Annotated high Expr start) (λ x. Empty (tree.Annotation x))) (λ name n x c m. inr m) n x c m

  pointing : (n : ℕ) (x : List Token) (c : Member) → Worded n x c → g.AMember high Expr n x c
  pointing n x c m = inl (pointer_alike.back n x c m)

  module _ (n : ℕ) (x front back : List Token) (c : Member) (t : Token) (parts : x ≡ front ++ back) (one : front ≡ t ∷ []) where
    -- a pointer that no word of Quals stands before
    bare_by : (f : MemberForm) (name : Name) → MemberWordAt t f name → b.PointerOf high Expr f no_quals name (n - length front) back c → g.AMember high Expr n x c
    unfolding Worded after_overloaded
    bare_by f name k m = pointing n x c (inr (inr (led member_word_of (λ w. b.PointerOf high Expr w.form no_quals w.name) n x front back c t (record { form = f; name = name }) parts one k.read m)))

    begun_by : (k : Keyword) (M : ℕ → Lang Token Member) (name : Name) → is_word k t ≡ true → name_of t ≡ Some name → M name.span.start (n - length front) back c → Then (One (word_of k)) (λ at. M at.start) n x c
    begun_by = keyworded n x front back c t parts one

    member_by : (f : MemberForm) (name : Name) → MemberWordAt t f name → b.MemberOf high Expr f name (n - length front) back c → g.AMember high Expr n x c
    unfolding Worded after_overloaded
    member_by member.Overloaded name k (inl m) = bare_by member.Overloaded name k m
    member_by member.Overloaded name k (inr m) = pointing n x c (inl (begun_by keyword.Overloaded (λ start. after_overloaded (b.Pointer high Expr) (overloaded start)) name k.is k.named m))
    member_by member.Property name k m = bare_by member.Property name k m
    member_by member.Link name k m = bare_by member.Link name k m
    member_by member.Index name k (inl m) = bare_by member.Index name k m
    member_by member.Index name k (inr m) = inr (inr (inl (begun_by keyword.Index (g.Indexed high Expr) name k.is k.named m)))
    member_by member.Annotation name k (inl m) = bare_by member.Annotation name k m
    member_by member.Annotation name k (inr m) = inr (inr (inr (begun_by keyword.Annotation (λ start. Then (g.Annotated high Expr start) (λ x. Empty (tree.Annotation x))) name k.is k.named m)))
    member_by member.Access name k (inl m) = bare_by member.Access name k m
    member_by member.Access name k (inr m) = inr (inl (begun_by keyword.Access (g.Policed high Expr) name k.is k.named m))
    member_by member.Other name k m = bare_by member.Other name k m

  member_back : (n : ℕ) (x : List Token) (c : Member) → b.MemberByWord high Expr n x c → g.AMember high Expr n x c
  unfolding Worded after_overloaded
  member_back n x c (inl m) = pointing n x c (inr (inl m))
  member_back n x c (inr s) = let first = s.first in member_by n x s.front s.back c first.0 s.parts first.1 s.value.form s.value.name (member_word_known first.0 s.value first.2) s.second

  -- A member is what the grammar says, said by its first word.
  pub member_alike : Alike (b.MemberByWord high Expr) (g.AMember high Expr)
  member_alike = record { to = member_back; back = member_to }
