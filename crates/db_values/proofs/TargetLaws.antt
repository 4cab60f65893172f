-- The first of the rules on targets that fails.
use Rattle.std.proofs.Common.{◌≡◌, Bool, true, false, List, Option, Some, None, is_none, sym, ap, ◌∙◌}
use Rattle.std.specs.List.{list_any}
use Rattle.ev_schema.specs.declared.pointer.LinkProperty.{LinkProperty}
use Rattle.ev_schema.specs.declared.pointer.PtrInfo.{PtrInfo}
use Rattle.db_draft.specs.First.{or_else, when}
use Rattle.db_draft.specs.declared.draft.Element.{Element}
use Rattle.db_draft.specs.declared.refusal.Rule.{Rule}
use Rattle.db_draft.specs.declared.refusal.Rule.TheVariants as rule
use Rattle.db_values.specs.Elements.{is_lacking}
use Rattle.db_values.specs.Links.{target_id, fields_of, is_unknown, is_ill, target_flaw}

abbrev chain : Bool → Bool → Bool → Bool → Option Rule
chain nameless unknown ill lacking = or_else (when nameless rule.X3) (or_else (when unknown rule.X6) (or_else (when ill rule.X7) (when lacking rule.X8)))

module _ (info : PtrInfo) (es : List Element) (ps : List LinkProperty) (same : ps ≡ info.link_props) where
  abbrev nameless : Bool
  nameless = list_any (λ e. is_none (target_id e)) es

  abbrev unknown : List LinkProperty → Bool
  unknown declared = list_any (λ e. list_any (is_unknown declared) (fields_of e)) es

  abbrev ill : List LinkProperty → Bool
  ill declared = list_any (λ e. list_any (is_ill declared) (fields_of e)) es

  abbrev lacking : Bool
  lacking = is_lacking info.card es

  named : nameless ≡ false → target_flaw info es ≡ chain false (unknown info.link_props) (ill info.link_props) lacking
  named n = ap (λ b. chain b (unknown info.link_props) (ill info.link_props) lacking) n

  known : nameless ≡ false → unknown ps ≡ false → target_flaw info es ≡ chain false false (ill info.link_props) lacking
  known n u = named n ∙ ap (λ b. chain false b (ill info.link_props) lacking) (ap unknown (sym same) ∙ u)

  well : nameless ≡ false → unknown ps ≡ false → ill ps ≡ false → target_flaw info es ≡ chain false false false lacking
  well n u i = known n u ∙ ap (λ b. chain false false b lacking) (ap ill (sym same) ∙ i)

  pub told_unknown : list_any (λ e. is_none (target_id e)) es ≡ false → list_any (λ e. list_any (is_unknown ps) (fields_of e)) es ≡ true → Some rule.X6 ≡ target_flaw info es
  told_unknown n u = sym (named n ∙ ap (λ b. chain false b (ill info.link_props) lacking) (ap unknown (sym same) ∙ u))

  pub told_ill : list_any (λ e. is_none (target_id e)) es ≡ false → list_any (λ e. list_any (is_unknown ps) (fields_of e)) es ≡ false → list_any (λ e. list_any (is_ill ps) (fields_of e)) es ≡ true → Some rule.X7 ≡ target_flaw info es
  told_ill n u i = sym (known n u ∙ ap (λ b. chain false false b lacking) (ap ill (sym same) ∙ i))

  pub told_none : list_any (λ e. is_none (target_id e)) es ≡ false → list_any (λ e. list_any (is_unknown ps) (fields_of e)) es ≡ false → list_any (λ e. list_any (is_ill ps) (fields_of e)) es ≡ false → is_lacking info.card es ≡ false → None ≡ target_flaw info es
  told_none n u i l = sym (well n u i ∙ ap (chain false false false) l)
