-- The tokens of a statement spell it.
use Rattle.std.proofs.Common.{◌≡◌, ℕ, suc, ◌+◌, ◌≤◌, max, true, false, List, [], ◌∷◌, ◌++◌, length, refl, sym, ap, ◌∙◌, append_assoc, append-nil, arith}
use Rattle.sql_lex.specs.declared.keyword.Keyword.TheVariants as keyword
use Rattle.sql_lex.specs.declared.token.Token.{Token}
use Rattle.sql_ast.specs.declared.select.Core.{Core}
use Rattle.sql_ast.specs.declared.select.Stmt.{Stmt}
use Rattle.sql_ast.specs.declared.select.TheConstants.{MAX_NESTING}
use Rattle.sql_ast.specs.Nesting.{core_height, cores_height_of, nesting}
use Rattle.sql_grammar.specs.declared.grown.Cores.{Cores}
use Rattle.sql_grammar.specs.declared.grown.GrownSelect.{GrownSelect}
use Rattle.sql_grammar.specs.declared.limits.TheConstants.{MAX_HEIGHT, MAX_OPEN}
use Rattle.sql_grammar.specs.Trees.{too_high, added_core, first_core, select_of}
use Rattle.sql_grammar.specs.Grammar as g
use Rattle.sql_grammar.specs.Promise.{IsStatement}
use Rattle.sql_print.specs.Lists.{listed_cores, tokens_of}
use Rattle.exact.specs.Language.{Empty, Chain, ◌>>=◌}
use Rattle.sql_spell.specs.Form.{CoreHasForm, AllHaveForm, StatementHasForm}
use Rattle.sql_spell.specs.Promise.{kinds, SpellTheStatement}
use Rattle.sql_spell.proofs.Spelling.{Spelt, spelt_empty, spelt_then, spelt_end, spelt_right, spelt_as, spelt_stop, spelt_turn, spelt_word}
use Rattle.sql_spell.proofs.Heights.{above_is, is_low, max_apart, max_left, max_right, twice_left, twice_right}
use Rattle.sql_spell.proofs.Types.{inner_of}
use Rattle.sql_spell.proofs.Levels.{part_select}
use Rattle.sql_spell.proofs.Exprs.{IsSelect, AreCores, core_spelt}

max_nothing : (h : ℕ) → h ≡ max h 0
max_nothing h = omega arith

cores_behind : (more : List Core) (d : ℕ) → AllHaveForm more → cores_height_of more + cores_height_of more ≤ d → cores_height_of more ≤ MAX_HEIGHT → (all : Cores)
    → Spelt (Chain (λ all. g.FurtherCore d too_high (inner_of d) >>= λ x. Empty (added_core all x)) all) (AreCores (all.cores ++ more) (max all.height (cores_height_of more))) (listed_cores false more)
cores_behind [] d form fits low all = spelt_stop all (sym (append-nil all.cores), max_nothing all.height)
cores_behind (first ∷ more) d form fits low all =
    spelt_turn (spelt_end (spelt_then (spelt_word keyword.Union) (λ _ _. spelt_then (spelt_word keyword.All) (λ _ _. core_spelt first d form.0 (twice_left _ _ _ fits) (max_left _ _ _ low))))
    (λ y is. spelt_empty {P = AreCores (all.cores ++ first ∷ []) (max all.height (core_height first))} (added_core all y) ((λ i. all.cores ++ is.0 i ∷ []), (λ i. max all.height (is.1 i)))))
    (λ b so. spelt_as (λ r got. (got.0 ∙ ap (λ l. l ++ more) so.0 ∙ append_assoc all.cores (first ∷ []) more, got.1 ∙ ap (λ h. max h (cores_height_of more)) so.1 ∙ max_apart all.height (core_height first) (cores_height_of more)))
    (cores_behind more d form.1 (twice_right _ _ _ fits) (max_right _ _ _ low) b))

-- the select that a statement is
select_spelt : (first : Core) (more : List Core) (d : ℕ) → CoreHasForm first → AllHaveForm more → max (core_height first) (cores_height_of more) + max (core_height first) (cores_height_of more) ≤ d → suc (max (core_height first) (cores_height_of more)) ≤ MAX_HEIGHT
    → Spelt (g.Sel d too_high (inner_of d)) (IsSelect (first ∷ more) (suc (max (core_height first) (cores_height_of more)))) (listed_cores true (first ∷ more))
select_spelt first more d form forms fits low =
    let small : max (core_height first) (cores_height_of more) ≤ MAX_HEIGHT = omega arith in
    spelt_end (spelt_then (core_spelt first d form (twice_left _ _ _ fits) (max_left _ _ _ small))
    (λ y is. spelt_as {Q = AreCores (first ∷ more) (max (core_height first) (cores_height_of more))} (λ r got. (got.0 ∙ (λ i. is.0 i ∷ more), got.1 ∙ ap (λ h. max h (cores_height_of more)) is.1))
    (cores_behind more d forms (twice_right _ _ _ fits) (max_right _ _ _ small) (first_core y))))
    (λ all is. spelt_empty (select_of all) ((λ i. record { cores = is.0 i }), above_is all.height (max (core_height first) (cores_height_of more)) is.1 low))

statement_spelt : (first : Core) (more : List Core) → CoreHasForm first → AllHaveForm more → suc (max (core_height first) (cores_height_of more)) ≤ MAX_HEIGHT
    → Spelt (g.Statement (g.within too_high 0 MAX_OPEN)) (IsSelect (first ∷ more) (suc (max (core_height first) (cores_height_of more)))) (listed_cores true (first ∷ more))
statement_spelt first more form forms low = spelt_end (part_select MAX_OPEN (select_spelt first more MAX_OPEN form forms (omega arith) low)) (λ s is. spelt_right _ (spelt_empty s is))

-- Any tokens of the kinds that a statement is printed as spell that statement, within the limits.
pub printed_spells : (s : Stmt) → StatementHasForm s → nesting s ≤ MAX_NESTING → (ts : List Token) → kinds ts ≡ tokens_of s → SpellTheStatement ts s
printed_spells s form low ts same = at s.select.cores refl form low same
  where
    at : (cores : List Core) → s.select.cores ≡ cores → StatementHasForm (record { select = record { cores = cores } }) → suc (cores_height_of cores) ≤ MAX_NESTING → kinds ts ≡ listed_cores true cores → (x : GrownSelect) × IsStatement ts x × (x.select ≡ s.select)
    at [] is form low same = absurd form
    at (first ∷ more) is form low same =
        let found : (x : GrownSelect) × IsSelect (first ∷ more) (suc (max (core_height first) (cores_height_of more))) x × ((n : ℕ) → g.Statement (g.within too_high 0 MAX_OPEN) n ts x) = statement_spelt first more form.0 form.1 low ts same in
        let height : found.0.height ≡ suc (max (core_height first) (cores_height_of more)) = found.1.1 in
        (found.0, (0, (found.2 (suc (length ts)), (λ _. is_low found.0.height (omega arith)))), found.1.0 ∙ (λ i. record { cores = sym is i }))
