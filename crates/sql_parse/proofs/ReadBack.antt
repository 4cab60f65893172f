-- What is printed is read back.
use Rattle.std.proofs.Common.{◌≡◌, ◌≤◌, List, ap, ◌∙◌, subst}
use Rattle.sql_lex.specs.declared.token.Token.{Token}
use Rattle.sql_lex.proofs.Readings.{one_cut}
use Rattle.sql_grammar.specs.declared.grown.GrownSelect.{GrownSelect}
use Rattle.sql_grammar.specs.Promise.{IsStatement}
use Rattle.sql_grammar.proofs.Promise.{one_tree}
use Rattle.sql_print.specs.Layout.{text_of}
use Rattle.sql_print.specs.Lists.{tokens_of}
use Rattle.sql_print.specs.Promise.{IsReadBack}
use Rattle.sql_print.proofs.Layouts.{read_back}
use Rattle.sql_spell.specs.Promise.{SpellTheStatement}
use Rattle.sql_spell.proofs.Statements.{printed_spells}
use Rattle.sql_ast.specs.declared.select.Stmt.{Stmt}
use Rattle.sql_ast.specs.declared.select.TheConstants.{MAX_NESTING}
use Rattle.sql_ast.specs.Nesting.{nesting}
use Rattle.sql_print.specs.Promise.{AreWritable}
use Rattle.sql_spell.specs.Form.{StatementHasForm}
use Rattle.sql_parse.specs.ReadBack.{IsReadBackAs}

pub form_is_read_back : (s : Stmt) → StatementHasForm s → nesting s ≤ MAX_NESTING → AreWritable (tokens_of s) → IsReadBackAs (text_of (tokens_of s)) s
form_is_read_back s form low writable =
    let cut : IsReadBack (tokens_of s) = read_back (tokens_of s) writable in
    let found : SpellTheStatement cut.0 s = printed_spells s form low cut.0 cut.2 in (
      (found.0, (cut.0, cut.1, found.1)),
      λ x spelt.
          let same : spelt.0 ≡ cut.0 = one_cut (text_of (tokens_of s)) spelt.0 cut.0 spelt.1 cut.1 in
          let tree : x ≡ found.0 = one_tree cut.0 x found.0 (subst (λ (ts : List Token). IsStatement ts x) same spelt.2) found.1 in
          ap (λ (y : GrownSelect). y.select) tree ∙ found.2,
    )
