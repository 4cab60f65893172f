-- The readers of declarations, modules and files are exact for the grammar.
use Rattle.std.proofs.Common.{ℕ, Bool, true, false, ◌||◌, List, [], ◌∷◌, Some, refl}
use Rattle.ev_lex.specs.declared.token.Token.{Token}
use Rattle.ev_lex.specs.declared.token.Sign.TheVariants as sign
use Rattle.ev_lex.specs.declared.keyword.Keyword.TheVariants as keyword
use Rattle.ast.specs.declared.name.QualifiedName.{QualifiedName}
use Rattle.eql_grammar.specs.declared.class.Class.TheVariants.{Sign as ASign, Reserved, Named}
use Rattle.eql_grammar.specs.declared.grown.GrownExpr.{GrownExpr}
use Rattle.eql_grammar.specs.Words.{is_sign, is_word, same_sign, same_keyword, name_of}
use Rattle.eql_grammar.specs.Trees.{unlimited}
use Rattle.eql_grammar.proofs.Sets.{At, at_mark, avoids_one_mark, begins_one_mark, closes_mark, go, lacks_mark, lead, or_left, or_right, some_name, some_sign, word_Global}
use Rattle.eql_grammar.proofs.Exprs.{exact_qname}
use Rattle.exact.specs.Language.{Lang}
use Rattle.exact.specs.Reading.{Reader, inside}
use Rattle.exact.proofs.Heads.{Begins, begins_then, begins_either, avoids_begun, avoids_empty, avoids_either, avoids_chain}
use Rattle.exact.proofs.Laws.{Open, IsExactAt, exact_pure, exact_then, exact_map, exact_lead, exact_choose, exact_chain}
use Rattle.sdl_ast.specs.declared.declaration.FilePart.TheVariants as part
use Rattle.sdl_ast.specs.declared.declaration.Decl.{Decl}
use Rattle.sdl_grammar.specs.Words.{is_decl, is_part}
use Rattle.sdl_grammar.specs.Trees as t
use Rattle.sdl_grammar.specs.Grammar as g
use Rattle.sdl_grammar.specs.Readers as r
use Rattle.sdl_grammar.proofs.Sets.{close_avoids, exact_close, exact_typed, word_Abstract, word_Extending, word_Module, word_Type}
use Rattle.sdl_grammar.proofs.Members.{exact_members, members_begin}

-- with what the bases of a type go on
abbrev bases_go : Token → Bool
bases_go t = is_word keyword.Extending t || (is_sign sign.Comma t || go 23 t)

module _ (high : ℕ → Bool) (L U : Lang Token GrownExpr) (P : Reader Token GrownExpr) (h : IsExactAt Open L U P (λ _. go 11)) where
  -- ---- declarations

  exact_further_bases : (all : List QualifiedName) → IsExactAt Open (g.FurtherBases high L all) (g.FurtherBases unlimited U all) (r.further_bases high P all) (λ _. bases_go)
  unfolding r.further_bases same_sign same_keyword
  exact_further_bases all =
      exact_chain {go = bases_go} {inner = go 23} (λ all. lead (some_sign sign.Comma) (λ _. exact_map (t.behind all) exact_qname)) (λ all. begins_then (begins_one_mark (ASign sign.Comma) (λ t e. rw e refl)))
      (at_mark (ASign sign.Comma) {set = go 23} (λ t e. rw e refl))
      (λ t e. or_left (is_sign sign.Comma t) (go 23 t) (or_right (is_word keyword.Extending t) (is_sign sign.Comma t || go 23 t) e))
      (λ t e. or_right (is_sign sign.Comma t) (go 23 t) (or_right (is_word keyword.Extending t) (is_sign sign.Comma t || go 23 t) e)) all

  exact_bases : IsExactAt Open (g.Bases high L) (g.Bases unlimited U) (r.bases high P) (λ _. bases_go)
  unfolding r.bases same_sign same_keyword
  exact_bases =
      exact_choose
      (lead word_Extending
      (λ _. exact_then exact_qname (λ first. exact_further_bases (first ∷ []))
      (λ first. avoids_chain (λ all. avoids_one_mark (ASign sign.Comma) (λ t e. rw e refl)) (λ _ t e. or_right (is_sign sign.Comma t) (go 23 t) (or_right (is_word keyword.Extending t) (is_sign sign.Comma t || go 23 t) e)) (first ∷ []))))
      (exact_pure [])
      (begins_then (begins_one_mark (Named (Some keyword.Extending)) (λ t e. rw e refl)))
      (avoids_empty [] (λ t. or_left (is_word keyword.Extending t) (is_sign sign.Comma t || go 23 t)))

  exact_type_of : (start : ℕ) (is_abstract : Bool) → IsExactAt Open (g.TypeOf high L start is_abstract) (g.TypeOf unlimited U start is_abstract) (r.type_of high P start is_abstract) (λ _. is_sign sign.Semicolon)
  unfolding r.type_of same_sign same_keyword
  exact_type_of start is_abstract =
      exact_lead name_of some_name.token some_name.name some_name.known
      (λ name. exact_then exact_bases (λ bases. exact_map (t.type_decl start is_abstract name bases) (exact_members high L U P h))
      (λ bases. avoids_begun (begins_then (members_begin high L U P h (λ t e. rw e refl) (λ t e. rw e refl)))))

  exact_global : {on : _ → Token → Bool} → IsExactAt Open (g.Global high L) (g.Global unlimited U) (r.global_of high P) on
  unfolding r.global_of same_sign same_keyword
  exact_global =
      lead word_Global
      (λ at. exact_lead name_of some_name.token some_name.name some_name.known
      (λ name. exact_then exact_typed (λ ty. lead (some_sign sign.Semicolon) (λ end. exact_pure (t.global_decl at.start name ty end))) (λ ty. avoids_one_mark (ASign sign.Semicolon) (λ t e. rw e refl))))

  exact_decl : IsExactAt Open (g.ADecl high L) (g.ADecl unlimited U) (r.a_decl high P) (λ _. is_sign sign.Semicolon)
  unfolding r.a_decl same_sign same_keyword
  exact_decl =
      exact_choose (lead word_Abstract (λ at. lead word_Type (λ _. exact_type_of at.start true)))
      (exact_choose (lead word_Type (λ at. exact_type_of at.start false)) exact_global
      (begins_then (begins_one_mark (Named (Some keyword.Type)) (λ t e. rw e refl)))
      (avoids_one_mark (Reserved keyword.Global) (λ t e. rw e refl)))
      (begins_then (begins_one_mark (Named (Some keyword.Abstract)) (λ t e. rw e refl)))
      (avoids_either (avoids_one_mark (Named (Some keyword.Type)) (λ t e. rw e refl)) (avoids_one_mark (Reserved keyword.Global) (λ t e. rw e refl)))

  decl_begins : {first : Token → Bool} → At (Named (Some keyword.Abstract)) first true → At (Named (Some keyword.Type)) first true → At (Reserved keyword.Global) first true → Begins first (g.ADecl high L)
  decl_begins a b c =
      begins_either (begins_then (begins_one_mark (Named (Some keyword.Abstract)) a))
      (begins_either (begins_then (begins_one_mark (Named (Some keyword.Type)) b)) (begins_then (begins_one_mark (Reserved keyword.Global) c)))

  exact_decls : (all : List Decl) → IsExactAt Open (g.Decls high L all) (g.Decls unlimited U all) (r.decls high P all) (λ _. inside (is_sign sign.RightBrace))
  unfolding r.decls same_sign same_keyword
  exact_decls all =
      exact_chain {go = inside (is_sign sign.RightBrace)} {inner = is_sign sign.Semicolon} (λ all. exact_map (t.behind all) exact_decl)
      (λ all. begins_then (decl_begins (λ t e. rw e refl) (λ t e. rw e refl) (λ t e. rw e refl)))
      (lacks_mark (ASign sign.Semicolon) {set = is_decl} (λ t e. rw e refl)) (closes_mark (ASign sign.RightBrace) {set = is_decl} (λ t e. rw e refl)) (closes_mark (ASign sign.RightBrace) {set = is_sign sign.Semicolon} (λ t e. rw e refl)) all

  -- ---- modules and files

  exact_module : IsExactAt Open (g.AModule high L) (g.AModule unlimited U) (r.a_module high P) (λ _. is_sign sign.Semicolon)
  unfolding r.a_module same_sign same_keyword
  exact_module =
      lead word_Module
      (λ at. exact_lead name_of some_name.token some_name.name some_name.known
      (λ name. lead (some_sign sign.LeftBrace) (λ _. exact_then (exact_decls []) (λ all. exact_map (t.module_of at.start name all) exact_close) (λ all. close_avoids (λ t e. rw e refl)))))

  exact_part : IsExactAt Open (g.APart high L) (g.APart unlimited U) (r.a_part high P) (λ _. is_sign sign.Semicolon)
  unfolding r.a_part same_sign same_keyword
  exact_part =
      exact_choose exact_module (exact_map part.Decl exact_decl) (begins_then (begins_one_mark (Named (Some keyword.Module)) (λ t e. rw e refl)))
      (avoids_begun (begins_then (decl_begins (λ t e. rw e refl) (λ t e. rw e refl) (λ t e. rw e refl))))

  part_begins : Begins is_part (g.APart high L)
  unfolding same_sign same_keyword
  part_begins = begins_either (begins_then (begins_one_mark (Named (Some keyword.Module)) (λ t e. rw e refl))) (begins_then (decl_begins (λ t e. rw e refl) (λ t e. rw e refl) (λ t e. rw e refl)))

  -- any token may be said to go on with a file: none stands behind it
  pub exact_file : IsExactAt Open (g.File high L) (g.File unlimited U) (r.file high P) (λ _ _. true)
  unfolding r.file r.parts same_sign same_keyword
  exact_file =
      exact_chain {go = λ _. true} {inner = is_sign sign.Semicolon} (λ all. exact_map (t.with_part all) exact_part) (λ all. begins_then part_begins)
      (lacks_mark (ASign sign.Semicolon) {set = is_part} (λ t e. rw e refl)) (λ t e. absurd cc) (λ t e. absurd cc) t.no_parts
