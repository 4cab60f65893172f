-- What is answered of a tree that a text spells.
use Rattle.std.proofs.Common.{◌≡◌, ◌⊎◌, inl, inr, ℕ, List, [], length, Some, Result, Ok, Err, IfOk, refl, ap, sym, subst, arith}
use Rattle.sql_ast.specs.declared.catalog.Catalog.{Catalog}
use Rattle.sql_ast.specs.declared.select.Stmt.{Stmt}
use Rattle.sql_ast.specs.WellFormed.{IsWellFormed}
use Rattle.sql_grammar.specs.declared.grown.GrownSelect.{GrownSelect}
use Rattle.sql_read.specs.Promise.{IsTextOf}
use Rattle.sql_read.specs.declared.text.TextRefusal.{TextRefusal}
use Rattle.sql_read.specs.declared.text.TextRefusal.TheVariants as read
use Rattle.sql_check.specs.Walk.{IsLeast}
use Rattle.sql_check.specs.Laws.{HasNoFault}
use Rattle.sql_check.proofs.Complete.{complete}
use Rattle.sql_check.proofs.Sound.{sound}
use Rattle.sql_print.specs.Layout.{text_of}
use Rattle.sql_print.specs.Lists.{tokens_of}
use Rattle.sql_print.specs.Promise.{AreWritable}
use Rattle.sql_spell.specs.Form.{StatementHasForm}
use Rattle.sql_spell.proofs.Formed.{well_formed_good}
use Rattle.sql_parse.specs.ReadBack.{IsReadBackAs}
use Rattle.sql_parse.proofs.ReadBack.{form_is_read_back}
use Rattle.sql_ast.specs.declared.select.Select.{Select}
use Rattle.sql_parse.proofs.ReadTrees.{text_spelled}
use Rattle.sql_parse.specs.declared.parse.SqlRefusal.{SqlRefusal}
use Rattle.sql_parse.specs.declared.parse.SqlRefusal.TheVariants as refusal
use Rattle.sql_parse.specs.Promise.{statement_of, names_failing, types_failing, IsChecked, Holds, IsAccepted, IsAnswered, IsReadBack}

pub holds : (text : List ℕ) (catalog : Catalog) (x : GrownSelect) (r : Result Stmt SqlRefusal) → IsTextOf text x → IsChecked catalog (statement_of x) x.place r → Holds text catalog r
holds text catalog x (Ok s) h k = (x, h, k.0, k.1, k.2)
holds text catalog x (Err refusal.Q1) h k = absurd k
holds text catalog x (Err (refusal.Q2 byte)) h k = (x, h, k)
holds text catalog x (Err (refusal.Q3 byte)) h k = (x, h, k.0, k.1)
holds text catalog x (Err refusal.Memory) h k = tt

none_least : (bytes : List ℕ) (byte : ℕ) → bytes ≡ [] → IsLeast (Some byte) bytes → ⊥
none_least bytes byte e h = let none = ap length e in let lt = h.0.1 in omega (arith, none, lt)

answer : (catalog : Catalog) (x : GrownSelect) (r : Result Stmt SqlRefusal) → IsChecked catalog (statement_of x) x.place r → names_failing catalog x ≡ [] → types_failing catalog x ≡ [] → (r ≡ Ok (statement_of x)) ⊎ (r ≡ Err refusal.Memory)
answer catalog x (Ok s) k n t = inl (ap (λ (s : Stmt). Ok s) k.0)
answer catalog x (Err refusal.Q1) k n t = absurd k
answer catalog x (Err (refusal.Q2 byte)) k n t = absurd (none_least _ byte n k)
answer catalog x (Err (refusal.Q3 byte)) k n t = absurd (none_least _ byte t k.1)
answer catalog x (Err refusal.Memory) k n t = inr refl

abbrev Answers : Catalog → Result Stmt SqlRefusal → GrownSelect → Type 0
Answers catalog r y = names_failing catalog y ≡ [] → types_failing catalog y ≡ [] → (r ≡ Ok (statement_of y)) ⊎ (r ≡ Err refusal.Memory)

one_tree : (catalog : Catalog) (x y : GrownSelect) (r : Result Stmt SqlRefusal) → (◌≡◌ {A = Result GrownSelect TextRefusal} (Ok x) (Ok y)) ⊎ (◌≡◌ {A = Result GrownSelect TextRefusal} (Ok x) (Err read.Memory)) → Answers catalog r x → Answers catalog r y
one_tree catalog x y r (inl e) h = let same : x ≡ y = cc e in subst (λ (z : GrownSelect). Answers catalog r z) same h
one_tree catalog x y r (inr e) h = absurd (cc e)

pub answered : (text : List ℕ) (catalog : Catalog) (x : GrownSelect) (r : Result Stmt SqlRefusal) → ((y : GrownSelect) → IsTextOf text y → (◌≡◌ {A = Result GrownSelect TextRefusal} (Ok x) (Ok y)) ⊎ (◌≡◌ {A = Result GrownSelect TextRefusal} (Ok x) (Err read.Memory))) → IsChecked catalog (statement_of x) x.place r → IsAnswered text catalog r
answered text catalog x r only k = λ y h. one_tree catalog x y r (only y h) (answer catalog x r k)

-- What is answered of a tree that a text spells is well formed.
pub formed : (text : List ℕ) (catalog : Catalog) (x : GrownSelect) (r : Result Stmt SqlRefusal) → IsTextOf text x → IsChecked catalog (statement_of x) x.place r → IfOk r (λ s. IsWellFormed catalog s)
formed text catalog x (Ok s) h k = subst (λ (y : Stmt). IsWellFormed catalog y) (sym k.0) (sound catalog (statement_of x) x.place (text_spelled text x h) (record { names = k.1; types = k.2 }))
formed text catalog x (Err e) h k = tt

-- A well-formed statement that a text spells has no fault.
pub accepted : (text : List ℕ) (catalog : Catalog) (r : Result Stmt SqlRefusal) → IsAnswered text catalog r → IsAccepted text catalog r
accepted text catalog r answers = λ x h formed.
    let none : HasNoFault catalog (statement_of x) x.place = complete catalog (statement_of x) x.place formed in
    answers x h none.names none.types

-- The text that is printed of a well-formed statement spells that statement.
pub printed : (text : List ℕ) (catalog : Catalog) (r : Result Stmt SqlRefusal) → IsAnswered text catalog r → IsReadBack text catalog r
printed text catalog r answers = λ s formed fits e.
    let good : StatementHasForm s × AreWritable (tokens_of s) = well_formed_good catalog s formed fits in
    let back : IsReadBackAs (text_of (tokens_of s)) s = form_is_read_back s good.0 formed.low good.1 in
    let x : GrownSelect = back.0.0 in
    let same : statement_of x ≡ s = ap (λ (select : Select). record { select = select }) (back.1 x back.0.1) in
    subst (λ (y : Stmt). (r ≡ Ok y) ⊎ (r ≡ Err refusal.Memory)) same
    (accepted text catalog r answers x (subst (λ (l : List ℕ). IsTextOf l x) (sym e) back.0.1) (subst (λ (y : Stmt). IsWellFormed catalog y) (sym same) formed))
