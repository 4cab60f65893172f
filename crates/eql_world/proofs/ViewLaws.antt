-- What is flagged is what is shown.
use Rattle.std.proofs.Common.{◌≡◌, ℕ, ◌==◌, Bool, true, false, List, [], ◌∷◌, map, filter, Option, Some, None, if◌then◌else◌, refl, ap, ◌∙◌}
use Rattle.ev_value.specs.declared.args.Args.{Args}
use Rattle.ev_schema.specs.declared.schema.Schema.{Schema}
use Rattle.db_store.specs.declared.object.Object.{Object}
use Rattle.db_store.specs.Objects.{find}
use Rattle.eql_world.specs.View.{flag_for, flagged, cut, shown, is_shown, seen, view_of}

abbrev seen_by : (Object → Bool) → Option Object → Bool
seen_by p None = false
seen_by p (Some o) = p o

flag_at : (p : Object → Bool) (o : Object) (os : List Object) (id : ℕ) (b : Bool) → flag_for os (map p os) id ≡ seen_by p (find os id)
    → (if b then p o else flag_for os (map p os) id) ≡ seen_by p (if b then Some o else find os id)
flag_at p o os id true later = refl
flag_at p o os id false later = later

flags_tell : (p : Object → Bool) (os : List Object) (id : ℕ) → flag_for os (map p os) id ≡ seen_by p (find os id)
flags_tell p [] id = refl
flags_tell p (o ∷ os) id = flag_at p o os id (o.id == id) (flags_tell p os id)

kept_at : (sees : ℕ → Bool) (p : Object → Bool) (o : Object) (os : List Object) (b : Bool) → flagged sees os (map p os) ≡ map (cut sees) (filter p os)
    → (if b then cut sees o ∷ flagged sees os (map p os) else flagged sees os (map p os)) ≡ map (cut sees) (if b then o ∷ filter p os else filter p os)
kept_at sees p o os true later = ap (λ l. cut sees o ∷ l) later
kept_at sees p o os false later = later

kept : (sees : ℕ → Bool) (p : Object → Bool) (os : List Object) → flagged sees os (map p os) ≡ map (cut sees) (filter p os)
kept sees p [] = refl
kept sees p (o ∷ os) = kept_at sees p o os (p o) (kept sees p os)

is_seen : (s : Schema) (os : List Object) (args : Args) (found : Option Object) → seen_by (shown s os args) found ≡ is_shown s os args found
is_seen s os args None = refl
is_seen s os args (Some o) = refl

-- the objects beside true flags, where the flags tell what is shown
pub view_flagged : (s : Schema) (os : List Object) (args : Args) → flagged (flag_for os (map (shown s os args) os)) os (map (shown s os args) os) ≡ view_of s os args
view_flagged s os args =
    ap (λ (sees : ℕ → Bool). flagged sees os (map (shown s os args) os)) (λ i id. (flags_tell (shown s os args) os id ∙ is_seen s os args (find os id)) i)
    ∙ kept (seen s os args) (shown s os args) os
