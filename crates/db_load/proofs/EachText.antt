-- Each text is loaded, or a rule refuses it.
use Rattle.std.proofs.Common.{◌≡◌, ◌⊎◌, ℕ, Bool, true, false, List, Option, Some, None, Result, Ok, Err, inl, inr, refl, sym, ◌∙◌, rules}
use Rattle.std.specs.Str.{is_utf8}
use Rattle.std.specs.Prelude.{IsUtf8}
use Rattle.std.proofs.lemmas.Bool.{cases_Bool}
use Rattle.std.proofs.lemmas.Str.{IsUtf8-from_is_utf8, is_utf8-from_IsUtf8}
use Rattle.serde_json.specs.Data.{Data}
use Rattle.serde_json.specs.Read.{read}
use Rattle.ev_value.specs.declared.args.Args.{Args}
use Rattle.ev_list.specs.declared.param.Param.{Param}
use Rattle.ev_schema.specs.declared.schema.Schema.{Schema}
use Rattle.db_draft.specs.Told as drafts
use Rattle.db_draft.specs.declared.draft.ObjectDraft.{ObjectDraft}
use Rattle.db_draft.specs.declared.refusal.Broken as draft
use Rattle.db_draft.specs.declared.refusal.DataRefusal.{DataRefusal}
use Rattle.db_draft.specs.declared.refusal.DataRefusal.TheVariants as data_refusal
use Rattle.db_draft.specs.declared.refusal.Rule.TheVariants as rule
use Rattle.db_check.specs.Check.{checked}
use Rattle.db_check.specs.declared.store.Store.{Store}
use Rattle.db_load.specs.Arguments.{args_of, ill_formed}
use Rattle.db_load.specs.Arguments as arguments
use Rattle.db_load.specs.Data.{at_text, stored}
use Rattle.db_load.specs.Document.{document}
use Rattle.db_load.specs.Laws.{IsDecided, AreDecided}
use Rattle.db_load.specs.Text.{Says}
use Rattle.db_load.specs.declared.refusal.ArgsRefusal.TheVariants as args_refusal
use Rattle.db_load.specs.declared.refusal.BrokenArgs.{BrokenArgs}

-- ---- JSON

-- the text has a value, or it has none
abbrev pub Said : List ℕ → Type 0
Said text = ((d : Data) × Says text d) ⊎ ((d : Data) → Says text d → ⊥)

clash : (b : Bool) → b ≡ true → b ≡ false → ⊥
clash b h k = cc (sym h ∙ k)

not_none : (d : Data) → ◌≡◌ {A = Option Data} None (Some d) → ⊥
not_none d e = cc e

by_value : (text : List ℕ) → IsUtf8 text → (o : Option Data) → read text ≡ o → Said text
by_value text utf8 (Some d) e = inl (d, (utf8, e))
by_value text utf8 None e = inr (λ d says. not_none d (sym e ∙ says.1))

pub each_text : (text : List ℕ) → Said text
each_text text = elim (cases_Bool (is_utf8 text)) [
  | inl is ↦ by_value text (IsUtf8-from_is_utf8 text is) (read text) refl
  | inr none ↦ inr (λ d says. clash (is_utf8 text) (is_utf8-from_IsUtf8 text says.0) none)
]

-- ---- data

rule_not_memory : {A : Type 0} (b : draft.Broken) → ◌≡◌ {A = Result A DataRefusal} (Err (data_refusal.Rule b)) (Err data_refusal.Memory) → ⊥
rule_not_memory b e = search rules

told_not_memory : (r : Result Store draft.Broken) → drafts.told r ≡ Err data_refusal.Memory → ⊥
told_not_memory (Ok store) e = search rules
told_not_memory (Err b) e = rule_not_memory b e

stored_not_memory : (s : Schema) (o : Option (List ObjectDraft)) → stored s o ≡ Err data_refusal.Memory → ⊥
stored_not_memory s None e = rule_not_memory (record { rule = rule.X2; object = None; other = None }) e
stored_not_memory s (Some ds) e = told_not_memory (checked s ds) e

pub each_data : (text : List ℕ) (s : Schema) → IsDecided text s
each_data text s = elim (each_text text) [
  | inl is ↦ (stored s (document is.0), stored_not_memory s (document is.0), inr (inl (is.0, is.1, refl)))
  | inr none ↦ (Err (at_text rule.X1), rule_not_memory (record { rule = rule.X1; object = None; other = None }), inr (inr (none, refl)))
]

-- ---- arguments

args_not_memory : (r : Result Args BrokenArgs) → arguments.told r ≡ Err args_refusal.Memory → ⊥
args_not_memory (Ok args) e = search rules
args_not_memory (Err b) e = search rules

pub each_args : (text : List ℕ) (s : Schema) (ps : List Param) → AreDecided text s ps
each_args text s ps = elim (each_text text) [
  | inl is ↦ (arguments.told (args_of s ps is.0), args_not_memory (args_of s ps is.0), inr (inl (is.0, is.1, refl)))
  | inr none ↦ (Err (args_refusal.Rule ill_formed), args_not_memory (Err ill_formed), inr (inr (none, refl)))
]
