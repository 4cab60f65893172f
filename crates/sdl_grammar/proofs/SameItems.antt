-- Items spell the same as they are written in the grammar and by their first word.
use Rattle.std.proofs.Common.{◌≡◌, ℕ, ◌-◌, Bool, true, false, List, [], ◌∷◌, ◌++◌, length, Some, ap, inl, inr}
use Rattle.ev_lex.specs.declared.token.Token.{Token}
use Rattle.ev_lex.specs.declared.keyword.Keyword.{Keyword}
use Rattle.ev_lex.specs.declared.keyword.Keyword.TheVariants as keyword
use Rattle.ast.specs.declared.name.Span.{Span}
use Rattle.ast.specs.declared.name.Name.{Name}
use Rattle.eql_grammar.specs.declared.grown.GrownExpr.{GrownExpr}
use Rattle.eql_grammar.specs.Words.{is_word, word_class, word_of, name_of, text_of}
use Rattle.exact.specs.Language.{Lang, Empty, One, Then, Either}
use Rattle.sdl_ast.specs.declared.item.Item.{Item}
use Rattle.sdl_ast.specs.declared.member.PointerKind.TheVariants as pointer_kind
use Rattle.sdl_ast.specs.declared.item.Item.TheVariants as tree
use Rattle.sdl_grammar.specs.declared.form.ItemForm.{ItemForm}
use Rattle.sdl_grammar.specs.declared.form.ItemForm.TheVariants as item
use Rattle.sdl_grammar.specs.declared.part.Quals.{Quals}
use Rattle.sdl_grammar.specs.Words.{item_form, item_named, item_word_of}
use Rattle.sdl_grammar.specs.Trees.{no_quals, overloaded, qualified, pointer_head, bare_head}
use Rattle.sdl_grammar.specs.Grammar as g
use Rattle.sdl_grammar.proofs.ByWord as b
use Rattle.sdl_grammar.proofs.Alike.{Alike, alike_chain, alike_either, alike_behind, alike_assoc, alike_unit, alike_split, alike_map, swapped, led}
use Rattle.sdl_grammar.proofs.FirstWords.{ItemWordAt, item_word_known, word_known, item_Overloaded, item_Property, item_Constraint, item_Delegated, item_Default, item_On, item_Annotation}

-- ---- the words before a name

-- What stands behind the words of Quals stands behind `overloaded`, behind the other words, or behind nothing.
unfoldable pub after_overloaded : {A : Type 0} → (Quals → Lang Token A) → Quals → Lang Token A
after_overloaded K before = Either (Then g.Words (λ q. K (qualified before q))) (K before)

pub quals_alike : {A : Type 0} (K : Quals → Lang Token A) → Alike (Then g.QualWords K) (Either (Then (One (word_of keyword.Overloaded)) (λ at. after_overloaded K (overloaded at.start))) (after_overloaded K no_quals))
unfolding after_overloaded
quals_alike K =
    alike_chain (alike_assoc g.Overloaded (λ before. Either (Then g.Words (λ q. Empty (qualified before q))) (Empty before)) K)
    (alike_chain (alike_behind (λ before. alike_chain (alike_split (Then g.Words (λ q. Empty (qualified before q))) (Empty before) K) (alike_either (alike_map g.Words (qualified before) K) (alike_unit before K))))
    (alike_chain (alike_split (Then (One (word_of keyword.Overloaded)) (λ at. Empty (overloaded at.start))) (Empty no_quals) (after_overloaded K))
    (alike_either (alike_map (One (word_of keyword.Overloaded)) (λ at. overloaded at.start) (after_overloaded K)) (alike_unit no_quals (after_overloaded K)))))

-- ---- a first token, read as the word that an item begins with

-- what a keyword begins
worded : (k : Keyword) (f : ItemForm) (known : (t : Token) (s : Span) → word_of k t ≡ Some s → item_word_of t ≡ Some (record { form = f; name = record { text = text_of t.kind; span = s } })) (M : ℕ → Lang Token Item) (N : ItemForm → Name → Lang Token Item)
    → ((name : Name) (n : ℕ) (x : List Token) (c : Item) → M name.span.start n x c → N f name n x c)
    → (n : ℕ) (x : List Token) (c : Item) → Then (One (word_of k)) (λ at. M at.start) n x c → Then (One item_word_of) (λ w. N w.form w.name) n x c
worded k f known M N reads =
    swapped (λ t s h. (record { form = f; name = record { text = text_of t.kind; span = s } }, known t s h, λ n x c m. reads (record { text = text_of t.kind; span = s }) n x c m))

-- what a name begins
named : (M : Name → Lang Token Item) (N : ItemForm → Name → Lang Token Item) → ((f : ItemForm) (name : Name) (n : ℕ) (x : List Token) (c : Item) → M name n x c → N f name n x c)
    → (n : ℕ) (x : List Token) (c : Item) → Then (One name_of) M n x c → Then (One item_word_of) (λ w. N w.form w.name) n x c
named M N reads = swapped (λ t name e. (record { form = item_form t; name = name }, ap (item_named (item_form t)) e, λ n x c m. reads (item_form t) name n x c m))

module _ (high : ℕ → Bool) (Expr : Lang Token GrownExpr) where
  -- ---- [property] Name

  ByName : Quals → Lang Token Item
  ByName q =
      Either (Then (One (word_of keyword.Property)) (λ at. Then (One name_of) (λ own. g.Propertied high Expr (pointer_head q at.start (Some pointer_kind.Property) own))))
      (Then (One name_of) (λ name. g.Propertied high Expr (bare_head q name)))

  by_name : (q : Quals) → Alike (Then (g.PropertyName q) (g.Propertied high Expr)) (ByName q)
  unfolding ByName
  by_name q =
      alike_chain (alike_split (Then (One (word_of keyword.Property)) (λ at. Then (One name_of) (λ own. Empty (pointer_head q at.start (Some pointer_kind.Property) own)))) (Then (One name_of) (λ name. Empty (bare_head q name))) (g.Propertied high Expr))
      (alike_either
      (alike_chain (alike_assoc (One (word_of keyword.Property)) (λ at. Then (One name_of) (λ own. Empty (pointer_head q at.start (Some pointer_kind.Property) own))) (g.Propertied high Expr)) (alike_behind (λ at. alike_map (One name_of) (pointer_head q at.start (Some pointer_kind.Property)) (g.Propertied high Expr))))
      (alike_map (One name_of) (bare_head q) (g.Propertied high Expr)))

  plain : (q : Quals) (f : ItemForm) (name : Name) (n : ℕ) (x : List Token) (c : Item) → g.Propertied high Expr (bare_head q name) n x c → b.PropertyOf high Expr f q name n x c
  plain q item.Property name n x c m = inl m
  plain q item.Overloaded name n x c m = m
  plain q item.Constraint name n x c m = m
  plain q item.Delegated name n x c m = m
  plain q item.Default name n x c m = m
  plain q item.On name n x c m = m
  plain q item.Annotation name n x c m = m
  plain q item.Other name n x c m = m

  property_to : (q : Quals) (n : ℕ) (x : List Token) (c : Item) → ByName q n x c → b.Property high Expr q n x c
  unfolding ByName
  property_to q n x c (inl m) = worded keyword.Property item.Property item_Property (λ start. Then (One name_of) (λ own. g.Propertied high Expr (pointer_head q start (Some pointer_kind.Property) own))) (λ f name. b.PropertyOf high Expr f q name) (λ name n x c m. inr m) n x c m
  property_to q n x c (inr m) = named (λ name. g.Propertied high Expr (bare_head q name)) (λ f name. b.PropertyOf high Expr f q name) (plain q) n x c m

  -- where the first token stands, with what is known of it
  module _ (n : ℕ) (x front back : List Token) (c : Item) (t : Token) (parts : x ≡ front ++ back) (one : front ≡ t ∷ []) where
    keyworded : (k : Keyword) (M : ℕ → Lang Token Item) (name : Name) → is_word k t ≡ true → name_of t ≡ Some name → M name.span.start (n - length front) back c → Then (One (word_of k)) (λ at. M at.start) n x c
    keyworded k M name is e m = led (word_of k) (λ at. M at.start) n x front back c t name.span parts one (word_known (word_class k) t name is e) m

    a_name : (M : Name → Lang Token Item) (name : Name) → name_of t ≡ Some name → M name (n - length front) back c → Then (One name_of) M n x c
    a_name M name e m = led name_of M n x front back c t name parts one e m

    property_by : (q : Quals) (f : ItemForm) (name : Name) → ItemWordAt t f name → b.PropertyOf high Expr f q name (n - length front) back c → ByName q n x c
    unfolding ByName
    property_by q item.Property name k (inl m) = inr (a_name (λ name. g.Propertied high Expr (bare_head q name)) name k.named m)
    property_by q item.Property name k (inr m) = inl (keyworded keyword.Property (λ start. Then (One name_of) (λ own. g.Propertied high Expr (pointer_head q start (Some pointer_kind.Property) own))) name k.is k.named m)
    property_by q item.Overloaded name k m = inr (a_name (λ name. g.Propertied high Expr (bare_head q name)) name k.named m)
    property_by q item.Constraint name k m = inr (a_name (λ name. g.Propertied high Expr (bare_head q name)) name k.named m)
    property_by q item.Delegated name k m = inr (a_name (λ name. g.Propertied high Expr (bare_head q name)) name k.named m)
    property_by q item.Default name k m = inr (a_name (λ name. g.Propertied high Expr (bare_head q name)) name k.named m)
    property_by q item.On name k m = inr (a_name (λ name. g.Propertied high Expr (bare_head q name)) name k.named m)
    property_by q item.Annotation name k m = inr (a_name (λ name. g.Propertied high Expr (bare_head q name)) name k.named m)
    property_by q item.Other name k m = inr (a_name (λ name. g.Propertied high Expr (bare_head q name)) name k.named m)

  property_back : (q : Quals) (n : ℕ) (x : List Token) (c : Item) → b.Property high Expr q n x c → ByName q n x c
  property_back q n x c s = let first = s.first in property_by n x s.front s.back c first.0 s.parts first.1 q s.value.form s.value.name (item_word_known first.0 s.value first.2) s.second

  property_alike : (q : Quals) → Alike (Then (g.PropertyName q) (g.Propertied high Expr)) (b.Property high Expr q)
  property_alike q = alike_chain (by_name q) (record { to = property_to q; back = property_back q })

  -- ---- properties of links, behind their words

  Worded : Lang Token Item
  Worded = Either (Then (One (word_of keyword.Overloaded)) (λ at. after_overloaded (b.Property high Expr) (overloaded at.start))) (after_overloaded (b.Property high Expr) no_quals)

  link_property_alike : Alike (g.LinkProperty high Expr) Worded
  unfolding Worded
  link_property_alike = alike_chain (alike_behind property_alike) (quals_alike (b.Property high Expr))

  -- ---- items

  bare : (f : ItemForm) (name : Name) (n : ℕ) (x : List Token) (c : Item) → b.PropertyOf high Expr f no_quals name n x c → b.ItemOf high Expr f name n x c
  bare item.Overloaded name n x c m = inl m
  bare item.Property name n x c m = m
  bare item.Constraint name n x c m = inl m
  bare item.Delegated name n x c m = inl m
  bare item.Default name n x c m = inl m
  bare item.On name n x c m = inl m
  bare item.Annotation name n x c m = inl m
  bare item.Other name n x c m = m

  by_word : (k : Keyword) (f : ItemForm) (known : (t : Token) (s : Span) → word_of k t ≡ Some s → item_word_of t ≡ Some (record { form = f; name = record { text = text_of t.kind; span = s } })) (M : ℕ → Lang Token Item)
      → ((name : Name) (n : ℕ) (x : List Token) (c : Item) → M name.span.start n x c → b.ItemOf high Expr f name n x c) → (n : ℕ) (x : List Token) (c : Item) → Then (One (word_of k)) (λ at. M at.start) n x c → b.ItemByWord high Expr n x c
  by_word k f known M reads n x c m = inr (worded k f known M (b.ItemOf high Expr) reads n x c m)

  worded_to : (n : ℕ) (x : List Token) (c : Item) → Worded n x c → b.ItemByWord high Expr n x c
  unfolding Worded after_overloaded
  worded_to n x c (inl m) = by_word keyword.Overloaded item.Overloaded item_Overloaded (λ start. after_overloaded (b.Property high Expr) (overloaded start)) (λ name n x c m. inr m) n x c m
  worded_to n x c (inr (inl m)) = inl m
  worded_to n x c (inr (inr m)) = inr (record { front = m.front; back = m.back; value = m.value; parts = m.parts; first = m.first; second = bare m.value.form m.value.name (n - length m.front) m.back c m.second })

  item_to : (n : ℕ) (x : List Token) (c : Item) → g.AnItem high Expr n x c → b.ItemByWord high Expr n x c
  item_to n x c (inl (inl m)) = by_word keyword.Delegated item.Delegated item_Delegated (λ start. Then (One (word_of keyword.Constraint)) (λ _. g.Constrained high Expr start true)) (λ name n x c m. inr m) n x c m
  item_to n x c (inl (inr m)) = by_word keyword.Constraint item.Constraint item_Constraint (λ start. g.Constrained high Expr start false) (λ name n x c m. inr m) n x c m
  item_to n x c (inr (inl m)) = by_word keyword.Default item.Default item_Default (g.Defaulted high Expr) (λ name n x c m. inr m) n x c m
  item_to n x c (inr (inr (inl m))) = by_word keyword.On item.On item_On (g.Deleting high Expr) (λ name n x c m. inr m) n x c m
  item_to n x c (inr (inr (inr (inl m)))) = by_word keyword.Annotation item.Annotation item_Annotation (λ start. Then (g.Annotated high Expr start) (λ x. Empty (tree.Annotation x))) (λ name n x c m. inr m) n x c m
  item_to n x c (inr (inr (inr (inr m)))) = worded_to n x c (link_property_alike.to n x c m)

  linked : (n : ℕ) (x : List Token) (c : Item) → Worded n x c → g.AnItem high Expr n x c
  linked n x c m = inr (inr (inr (inr (link_property_alike.back n x c m))))

  module _ (n : ℕ) (x front back : List Token) (c : Item) (t : Token) (parts : x ≡ front ++ back) (one : front ≡ t ∷ []) where
    -- a property that no word stands before
    bare_by : (f : ItemForm) (name : Name) → ItemWordAt t f name → b.PropertyOf high Expr f no_quals name (n - length front) back c → g.AnItem high Expr n x c
    unfolding Worded after_overloaded
    bare_by f name k m = linked n x c (inr (inr (led item_word_of (λ w. b.PropertyOf high Expr w.form no_quals w.name) n x front back c t (record { form = f; name = name }) parts one k.read m)))

    item_by : (f : ItemForm) (name : Name) → ItemWordAt t f name → b.ItemOf high Expr f name (n - length front) back c → g.AnItem high Expr n x c
    unfolding Worded after_overloaded
    item_by item.Overloaded name k (inl m) = bare_by item.Overloaded name k m
    item_by item.Overloaded name k (inr m) = linked n x c (inl (keyworded n x front back c t parts one keyword.Overloaded (λ start. after_overloaded (b.Property high Expr) (overloaded start)) name k.is k.named m))
    item_by item.Property name k m = bare_by item.Property name k m
    item_by item.Constraint name k (inl m) = bare_by item.Constraint name k m
    item_by item.Constraint name k (inr m) = inl (inr (keyworded n x front back c t parts one keyword.Constraint (λ start. g.Constrained high Expr start false) name k.is k.named m))
    item_by item.Delegated name k (inl m) = bare_by item.Delegated name k m
    item_by item.Delegated name k (inr m) = inl (inl (keyworded n x front back c t parts one keyword.Delegated (λ start. Then (One (word_of keyword.Constraint)) (λ _. g.Constrained high Expr start true)) name k.is k.named m))
    item_by item.Default name k (inl m) = bare_by item.Default name k m
    item_by item.Default name k (inr m) = inr (inl (keyworded n x front back c t parts one keyword.Default (g.Defaulted high Expr) name k.is k.named m))
    item_by item.On name k (inl m) = bare_by item.On name k m
    item_by item.On name k (inr m) = inr (inr (inl (keyworded n x front back c t parts one keyword.On (g.Deleting high Expr) name k.is k.named m)))
    item_by item.Annotation name k (inl m) = bare_by item.Annotation name k m
    item_by item.Annotation name k (inr m) = inr (inr (inr (inl (keyworded n x front back c t parts one keyword.Annotation (λ start. Then (g.Annotated high Expr start) (λ x. Empty (tree.Annotation x))) name k.is k.named m))))
    item_by item.Other name k m = bare_by item.Other name k m

  item_back : (n : ℕ) (x : List Token) (c : Item) → b.ItemByWord high Expr n x c → g.AnItem high Expr n x c
  unfolding Worded after_overloaded
  item_back n x c (inl m) = linked n x c (inr (inl m))
  item_back n x c (inr s) = let first = s.first in item_by n x s.front s.back c first.0 s.parts first.1 s.value.form s.value.name (item_word_known first.0 s.value first.2) s.second

  -- An item is what the grammar says, said by its first word.
  pub item_alike : Alike (b.ItemByWord high Expr) (g.AnItem high Expr)
  item_alike = record { to = item_back; back = item_to }
