-- An answer that is one, or want of memory, and what follows it.
use Rattle.std.proofs.Common.{◌≡◌, ℕ, Bool, List, Option, Result, Ok, Err, ◌⊎◌, inl, inr, sym, ap, ◌∙◌, rules, refl, subst}
use Rattle.ev_value.specs.declared.args.Argument.{Argument}
use Rattle.db_load.specs.Arguments.{IsAnswer, told}
use Rattle.serde_json.specs.Data.{Data, Members, member}
use Rattle.db_draft.specs.declared.draft.Plain.{Plain}
use Rattle.db_load.specs.Drafts.{plain_of}
use Rattle.db_load.specs.ArgumentValues.{and_then, argument, arguments, ty_of}
use Rattle.db_load.specs.declared.argument_names.Wanted.{Wanted}
use Rattle.db_load.specs.declared.refusal.ArgsRefusal.{ArgsRefusal}
use Rattle.db_load.specs.declared.refusal.ArgsRefusal.TheVariants as refusal
use Rattle.db_load.specs.declared.refusal.BrokenArgs.{BrokenArgs}

ok_not_err : {A E : Type 0} (a : A) (e : E) → ◌≡◌ {A = Result A E} (Ok a) (Err e) → ⊥
ok_not_err a e is = search rules

ok_is : {A E : Type 0} (a b : A) → ◌≡◌ {A = Result A E} (Ok a) (Ok b) → a ≡ b
ok_is a b e = cc

-- a value is the one that is due, and what follows it goes on from it
pub due : {A : Type 0} (r : Result A BrokenArgs) (x : A) → IsAnswer (Ok x) r → r ≡ Ok x
due r x (inl e) = absurd (ok_not_err _ _ e)
due (Ok y) x (inr e) = ap Ok (ok_is _ _ (sym e))
due (Err b) x (inr e) = absurd (ok_not_err _ _ e)

pub goes_on : (r : Result (Option Argument) BrokenArgs) (x : Option Argument) (f : Option Argument → Result (List Argument) BrokenArgs)
    → IsAnswer (Ok x) r → and_then r f ≡ f x
goes_on r x f is = ap (λ q. and_then q f) (due r x is)

-- a refusal is that of the whole
pub stops : (r : Result (Option Argument) BrokenArgs) (e : ArgsRefusal) (f : Option Argument → Result (List Argument) BrokenArgs)
    → IsAnswer (Err e) r → IsAnswer (Err e) (and_then r f)
stops r e f (inl is) = inl (ap Err (err_is _ _ is))
  where
    err_is : (d g : ArgsRefusal) → ◌≡◌ {A = Result (Option Argument) ArgsRefusal} (Err d) (Err g) → d ≡ g
    err_is d g q = cc
stops (Ok y) e f (inr is) = absurd (ok_not_err _ _ (sym is))
stops (Err b) e f (inr is) = inr (ap Err (err_is _ _ is))
  where
    err_is : (d g : ArgsRefusal) → ◌≡◌ {A = Result (Option Argument) ArgsRefusal} (Err d) (Err g) → d ≡ g
    err_is d g q = cc

-- a name that is refused refuses the whole
pub stops_here : (global : Bool) (ws : List Wanted) (found : List Argument) (n k : List ℕ) (d : Data) (p : Plain) (more : Members) (whole : Result (List Argument) BrokenArgs)
    (e : ArgsRefusal) → k ≡ n → p ≡ plain_of d → arguments global ws found (member n d more) ≡ whole → IsAnswer (Err e) (argument global k (ty_of ws k) p) → IsAnswer (Err e) whole
stops_here global ws found n k d p more whole e same plain is why =
    subst (λ r. IsAnswer (Err e) r) is (stops _ e _ (subst (λ q. IsAnswer (Err e) (argument global n (ty_of ws n) q)) plain (subst (λ m. IsAnswer (Err e) (argument global m (ty_of ws m) p)) same why)))
