-- What a run reads and decides, in its order.
use Rattle.std.specs.Prelude.{◌≡◌, ℕ, List, [], ◌∷◌, take, Option, Some, None, Result, Ok, Err, ◌⊎◌, true, false, Contains}
use Rattle.ev_io.specs.Shelf.{Call, call_of, ShelfView, Quiet, ReadGives, ReadFails}
use Rattle.ev_value.specs.declared.item.Fault.{Fault}
use Rattle.edge_run.specs.Judgement.{Judgement, Matter, Decides}
use Rattle.edge_run.specs.Refusal.{Refusal, told}
use Rattle.edge_run.specs.declared.outcome.Doc.{Doc}
use Rattle.edge_run.specs.declared.outcome.Outcome.{Outcome}
use Rattle.edge_run.specs.declared.outcome.Outcome.TheVariants as outcome

-- An answer, a refusal, faults of which any may be told, a document to read up to a number of bytes and how to go on, or a text to
-- judge and how to go on.
pub data Plan (A : Type 0) : Type 0 where
  Answer : A → Plan A
  Refuse : Refusal → Plan A
  Fail : List Fault → Plan A
  Read : Doc → List ℕ → ℕ → (List ℕ → Plan A) → Plan A
  Judge : (j : Judgement) → List ℕ → (Result (Matter j) Refusal → Plan A) → Plan A

infixl 20 ◌>>=◌
-- one plan, and then another over its answer
unfoldable pub ◌>>=◌ : {A B : Type 0} → Plan A → (A → Plan B) → Plan B
Answer a >>= f = f a
Refuse r >>= f = Refuse r
Fail fs >>= f = Fail fs
Read d name most next >>= f = Read d name most (λ bytes. next bytes >>= f)
Judge j text next >>= f = Judge j text (λ decided. next decided >>= f)

-- what was decided
unfoldable pub ruled : {A : Type 0} → Result A Refusal → Plan A
ruled (Ok a) = Answer a
ruled (Err r) = Refuse r

-- what is due over what the names hold
pub data Verdict (A : Type 0) : Type 0 where
  Answers : A → Verdict A
  Refuses : Refusal → Verdict A
  Faults : List Fault → Verdict A
  Missing : Doc → Verdict A

-- what is held meets the claim; or nothing is, and this stands in its place
abbrev pub IfHeld : Type 0 → (List ℕ → Type 0) → Option (List ℕ) → Type 0
IfHeld missing claim None = missing
IfHeld missing claim (Some bytes) = claim bytes

-- over what the names hold, the plan comes to the verdict
unfoldable pub Comes : {A : Type 0} → (List ℕ → Option (List ℕ)) → Plan A → Verdict A → Type 0
Comes files (Answer a) v = v ≡ Answers a
Comes files (Refuse r) v = v ≡ Refuses r
Comes files (Fail fs) v = v ≡ Faults fs
Comes files (Read d name most next) v = IfHeld (v ≡ Missing d) (λ bytes. Comes files (next (take most bytes)) v) (files name)
Comes files (Judge j text next) v = (decided : Result (Matter j) Refusal) × Decides j text decided × Comes files (next decided) v

-- memory ran out, and the shelf has told nothing more
abbrev pub Stops : {A : Type 0} → ShelfView → Result A Outcome → ShelfView → Type 0
Stops old result new = (result ≡ Err outcome.Memory) × Quiet old new

-- the read of the document failed, and this is told
abbrev pub Fails : {A : Type 0} → Doc → List ℕ → ShelfView → Result A Outcome → ShelfView → Type 0
Fails d name old result new = (result ≡ Err (outcome.ReadFault d)) × ReadFails old name new

-- a run of a plan over a shelf: want of memory may come anywhere
unfoldable pub Goes : {A : Type 0} → Plan A → ShelfView → Result A Outcome → ShelfView → Type 0
Goes (Answer a) old result new = Stops old result new ⊎ ((result ≡ Ok a) × (new ≡ old))
Goes (Refuse r) old result new = Stops old result new ⊎ ((result ≡ Err (told r)) × (new ≡ old))
Goes (Fail fs) old result new =
    Stops old result new ⊎ ((f : Fault) × Contains fs f × (result ≡ Err (outcome.RunFault f)) × (new ≡ old))
Goes (Read d name most next) old result new =
    Stops old result new ⊎ (Fails d name old result new
    ⊎ ((bytes : List ℕ) × (mid : ShelfView) × ReadGives old name most bytes mid × Goes (next bytes) mid result new))
Goes (Judge j text next) old result new =
    Stops old result new ⊎ ((decided : Result (Matter j) Refusal) × Decides j text decided × Goes (next decided) old result new)

-- The calls that a run of a plan makes: in its order, each under its name. A failed call is the last one, and its document's
-- fault is the answer; a later one comes only after the earlier were read and accepted.
unfoldable pub Along : {A : Type 0} → Plan A → Result A Outcome → List Call → Type 0
Along (Answer a) result made = made ≡ []
Along (Refuse r) result made = made ≡ []
Along (Fail fs) result made = made ≡ []
Along (Read d name most next) result made =
    ((made ≡ []) × (result ≡ Err outcome.Memory))
    ⊎ (((made ≡ call_of name true ∷ []) × (result ≡ Err (outcome.ReadFault d)))
    ⊎ ((bytes : List ℕ) × (later : List Call) × (made ≡ call_of name false ∷ later) × Along (next bytes) result later))
Along (Judge j text next) result made =
    ((made ≡ []) × (result ≡ Err outcome.Memory)) ⊎ ((decided : Result (Matter j) Refusal) × Decides j text decided × Along (next decided) result made)

-- whether some documents lead the plan to this refusal
unfoldable pub MayRefuse : {A : Type 0} → Plan A → Refusal → Type 0
MayRefuse (Answer a) x = ⊥
MayRefuse (Refuse y) x = x ≡ y
MayRefuse (Fail fs) x = ⊥
MayRefuse (Read d name most next) x = (bytes : List ℕ) × MayRefuse (next bytes) x
MayRefuse (Judge j text next) x = (decided : Result (Matter j) Refusal) × Decides j text decided × MayRefuse (next decided) x

-- whether some documents lead the plan to a read of this document
unfoldable pub MayRead : {A : Type 0} → Plan A → Doc → Type 0
MayRead (Answer a) x = ⊥
MayRead (Refuse y) x = ⊥
MayRead (Fail fs) x = ⊥
MayRead (Read d name most next) x = (x ≡ d) ⊎ ((bytes : List ℕ) × MayRead (next bytes) x)
MayRead (Judge j text next) x = (decided : Result (Matter j) Refusal) × Decides j text decided × MayRead (next decided) x
