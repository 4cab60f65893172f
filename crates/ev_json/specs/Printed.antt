-- What `serde_json` prints for the values that are made of forms.
use Rattle.std.specs.Prelude.{◌≡◌, ℕ, Bool, false, ◌||◌, List, [], ◌∷◌, map, String, string_bytes}
use Rattle.std.specs.declared.alloc.Global.{Global}
use Rattle.std.specs.BTreeMap.{insert_entry}
use Rattle.std.specs.Cmp.Lexicographic.{slice_cmp}
use Rattle.std.specs.Ordering.{nat_cmp}
use Rattle.serde_json.specs.View.{view}
use Rattle.serde_json.specs.Written.{compact_text, has_float}
use Rattle.serde_json.specs.declared.value.Value.{Value}
use Rattle.ev_value.specs.JsonText.{Member, by_name}

-- the value is printed as this text, and has no number with a fraction
pub record IsPrinted (v : Value) (due : List ℕ) : Type 0 where
  pub text : compact_text (view v) ≡ due
  pub whole : has_float (view v) ≡ false

abbrev pub any_float : List Value → Bool
any_float [] = false
any_float (v ∷ vs) = has_float (view v) || any_float vs

-- the values are printed as these texts
pub record ArePrinted (vs : List Value) (due : List (List ℕ)) : Type 0 where
  pub texts : map (λ v. compact_text (view v)) vs ≡ due
  pub whole : any_float vs ≡ false

abbrev pub Entry : Type 0
Entry = String Global × Value

-- an entry of an object as its name and text
abbrev pub entry_text : Entry → Member
entry_text e = (string_bytes e.0, compact_text (view e.1))

-- the entries of an object are these members in the byte order of their names
pub record HasMembers (entries : List Entry) (members : List Member) : Type 0 where
  pub texts : map entry_text entries ≡ by_name members
  pub whole : any_float (map (λ e. e.1) entries) ≡ false

-- the entries after a value is put at a name
pub record Puts (old new : List Entry) (name : List ℕ) (v : Value) : Type 0 where
  pub texts : map entry_text new ≡ insert_entry (slice_cmp nat_cmp) (map entry_text old) name (compact_text (view v))
  pub whole : any_float (map (λ e. e.1) old) ≡ false → has_float (view v) ≡ false → any_float (map (λ e. e.1) new) ≡ false
