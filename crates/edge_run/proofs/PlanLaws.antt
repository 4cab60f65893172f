-- Laws of plans: one after the other, and what is answered over what the names hold.
use Rattle.std.proofs.Common.{◌≡◌, ℕ, ◌≤◌, List, [], ◌∷◌, ◌++◌, take, Option, Some, None, option_map, Result, Ok, Err, ◌⊎◌, inl, inr, Contains, true, false, refl, sym, ap, ◌∙◌, subst, arith, rules, append_assoc, append-nil}
use Rattle.ev_value.specs.declared.item.Fault.{Fault}
use Rattle.ev_io.specs.Count.{Rose}
use Rattle.ev_io.specs.Shelf.{ShelfView, Quiet, Call, call_of}
use Rattle.edge_run.specs.Plan.{Plan, Answer, Refuse, Fail, Read, Judge, ◌>>=◌, Goes, Stops, ruled, Verdict, Comes, IfHeld, Along, MayRefuse, MayRead}
use Rattle.edge_run.specs.Plan as verdict_of
use Rattle.edge_run.specs.Judgement.{Judgement, Matter, Decides, IsDecided}
use Rattle.edge_run.specs.Refusal.{Refusal, told}
use Rattle.edge_run.specs.declared.outcome.Doc.{Doc}
use Rattle.edge_run.specs.declared.outcome.Outcome.{Outcome}
use Rattle.edge_run.specs.declared.outcome.Outcome.TheVariants as outcome
use Rattle.edge_run.proofs.Decisions.{one_decision}

ok_not_err : {A E : Type 0} (a : A) (e : E) → ◌≡◌ {A = Result A E} (Ok a) (Err e) → ⊥
ok_not_err a e is = search rules

ok_is : {A E : Type 0} (a b : A) → ◌≡◌ {A = Result A E} (Ok a) (Ok b) → a ≡ b
ok_is a b e = cc

err_is : {A E : Type 0} (d e : E) → ◌≡◌ {A = Result A E} (Err d) (Err e) → d ≡ e
err_is d e is = cc

-- want of memory may come anywhere
pub stopped : {A : Type 0} (p : Plan A) (old new : ShelfView) (r : Result A Outcome) → Stops old r new → Goes p old r new
unfolding Goes
stopped (Answer a) old new r s = inl s
stopped (Refuse x) old new r s = inl s
stopped (Fail fs) old new r s = inl s
stopped (Read d name most next) old new r s = inl s
stopped (Judge j text next) old new r s = inl s

pub refused : (A : Type 0) (x : Refusal) (s : ShelfView) → Goes {A = A} (Refuse x) s (Err (told x)) s
unfolding Goes
refused A x s = inr (refl, refl)

pub then_ok : {A B : Type 0} (p : Plan A) (f : A → Plan B) (old mid new : ShelfView) (a : A) (r : Result B Outcome)
    → Goes p old (Ok a) mid → Goes (f a) mid r new → Goes (p >>= f) old r new
unfolding Goes ◌>>=◌
then_ok (Answer b) f old mid new a r (inl s) later = absurd (ok_not_err _ _ s.0)
then_ok (Answer b) f old mid new a r (inr (e, is)) later = subst (λ o. Goes (f b) o r new) is (subst (λ c. Goes (f c) mid r new) (ok_is a b e) later)
then_ok (Refuse x) f old mid new a r (inl s) later = absurd (ok_not_err _ _ s.0)
then_ok (Refuse x) f old mid new a r (inr (e, is)) later = absurd (ok_not_err _ _ e)
then_ok (Fail fs) f old mid new a r (inl s) later = absurd (ok_not_err _ _ s.0)
then_ok (Fail fs) f old mid new a r (inr (g, among, e, is)) later = absurd (ok_not_err _ _ e)
then_ok (Read d name most next) f old mid new a r (inl s) later = absurd (ok_not_err _ _ s.0)
then_ok (Read d name most next) f old mid new a r (inr (inl s)) later = absurd (ok_not_err _ _ s.0)
then_ok (Read d name most next) f old mid new a r (inr (inr (bytes, far, reads, first))) later =
    inr (inr (bytes, far, reads, then_ok (next bytes) f far mid new a r first later))
then_ok (Judge j text next) f old mid new a r (inl s) later = absurd (ok_not_err _ _ s.0)
then_ok (Judge j text next) f old mid new a r (inr (decided, is, first)) later = inr (decided, is, then_ok (next decided) f old mid new a r first later)

pub then_err : {A B : Type 0} (p : Plan A) (f : A → Plan B) (old new : ShelfView) (o : Outcome) → Goes p old (Err o) new → Goes (p >>= f) old (Err o) new
unfolding Goes ◌>>=◌
then_err (Answer b) f old new o (inl s) = stopped (f b) _ _ _ (ap Err (err_is _ _ s.0), s.1)
then_err (Answer b) f old new o (inr (e, is)) = absurd (ok_not_err _ _ (sym e))
then_err (Refuse x) f old new o (inl s) = inl (ap Err (err_is _ _ s.0), s.1)
then_err (Refuse x) f old new o (inr (e, is)) = inr (ap Err (err_is _ _ e), is)
then_err (Fail fs) f old new o (inl s) = inl (ap Err (err_is _ _ s.0), s.1)
then_err (Fail fs) f old new o (inr (g, among, e, is)) = inr (g, among, ap Err (err_is _ _ e), is)
then_err (Read d name most next) f old new o (inl s) = inl (ap Err (err_is _ _ s.0), s.1)
then_err (Read d name most next) f old new o (inr (inl s)) = inr (inl (ap Err (err_is _ _ s.0), s.1))
then_err (Read d name most next) f old new o (inr (inr (bytes, mid, reads, first))) = inr (inr (bytes, mid, reads, then_err (next bytes) f mid new o first))
then_err (Judge j text next) f old new o (inl s) = inl (ap Err (err_is _ _ s.0), s.1)
then_err (Judge j text next) f old new o (inr (decided, is, first)) = inr (decided, is, then_err (next decided) f old new o first)

-- a rule that the code decides takes no reading
pub quiet : (s : ShelfView) → Quiet s s
quiet s = record { holds = refl; call = refl; calm = record { keeps = omega arith; still = λ made e. refl } }

-- memory ran out before anything was read
pub ran_out : {A : Type 0} (p : Plan A) (s : ShelfView) → Goes p s (Err outcome.Memory) s
ran_out p s = stopped p s s (Err outcome.Memory) (refl, quiet s)

pub judged_goes : (j : Judgement) (text : List ℕ) (r : Result (Matter j) Outcome) (s : ShelfView) → IsDecided j text r → Goes (Judge j text ruled) s r s
unfolding Goes ruled
judged_goes j text r s (inl e) = inl (e, quiet s)
judged_goes j text r s (inr (Ok a, is, e)) = inr (Ok a, is, inr (e, refl))
judged_goes j text r s (inr (Err x, is, e)) = inr (Err x, is, inr (e, refl))

-- what was made in memory of its own is the answer, unless there was none
pub made_goes : {A : Type 0} (a : A) (r : Result A Outcome) (s : ShelfView) → (r ≡ Ok a) ⊎ (r ≡ Err outcome.Memory) → Goes (Answer a) s r s
unfolding Goes
made_goes a r s (inl e) = inr (e, refl)
made_goes a r s (inr e) = inl (e, quiet s)

-- ---- what is answered

none_is_not : {A : Type 0} (a : A) → ◌≡◌ {A = Option A} None (Some a) → ⊥
none_is_not a e = search rules

some_is : {A : Type 0} (a b : A) → ◌≡◌ {A = Option A} (Some a) (Some b) → a ≡ b
some_is a b e = cc

-- the answer of a run, where memory was found and no read failed
abbrev pub Follows : {A : Type 0} → Verdict A → Result A Outcome → Type 0
Follows (verdict_of.Answers a) r = r ≡ Ok a
Follows (verdict_of.Refuses x) r = r ≡ Err (told x)
Follows (verdict_of.Faults fs) r = (f : Fault) × Contains fs f × (r ≡ Err (outcome.RunFault f))
Follows (verdict_of.Missing d) r = ⊥

abbrev pub ReadFault : {A : Type 0} → Plan A → ℕ → Result A Outcome → ℕ → Type 0
ReadFault p before r after = (d : Doc) × MayRead p d × (r ≡ Err (outcome.ReadFault d)) × Rose before after

abbrev pub Judged : {A : Type 0} → (List ℕ → Option (List ℕ)) → Plan A → ℕ → Result A Outcome → ℕ → Type 0
Judged {A} files p before r after =
    (r ≡ Err outcome.Memory) ⊎ (ReadFault p before r after ⊎ ((v : Verdict A) × Comes files p v × Follows v r))

found_is : (most : ℕ) (bytes : List ℕ) (missing : Type 0) (claim : List ℕ → Type 0) (o : Option (List ℕ)) → option_map (take most) o ≡ Some bytes → claim bytes
    → IfHeld missing (λ all. claim (take most all)) o
found_is most bytes missing claim None e is = absurd (none_is_not _ e)
found_is most bytes missing claim (Some all) e is = subst claim (sym (some_is _ _ e)) is

later_rose : (a b c : ℕ) → a ≤ b → Rose b c → Rose a c
later_rose a b c le rose = omega arith

-- what holds from behind a read on, or from behind a decision on, holds for the whole
from_read : {A : Type 0} (files : List ℕ → Option (List ℕ)) (d : Doc) (name : List ℕ) (most : ℕ) (next : List ℕ → Plan A) (bytes : List ℕ) (old mid new : ℕ)
    (r : Result A Outcome) → option_map (take most) (files name) ≡ Some bytes → old ≤ mid → Judged files (next bytes) mid r new → Judged files (Read d name most next) old r new
unfolding Comes MayRead
from_read files d name most next bytes old mid new r found le (inl m) = inl m
from_read files d name most next bytes old mid new r found le (inr (inl (e, may, is, rose))) = inr (inl (e, inr (bytes, may), is, later_rose old mid new le rose))
from_read files d name most next bytes old mid new r found le (inr (inr (v, comes, follows))) =
    inr (inr (v, found_is most bytes (v ≡ verdict_of.Missing d) (λ b. Comes files (next b) v) (files name) found comes, follows))

from_decision : {A : Type 0} (files : List ℕ → Option (List ℕ)) (j : Judgement) (text : List ℕ) (next : Result (Matter j) Refusal → Plan A) (decided : Result (Matter j) Refusal) (old new : ℕ)
    (r : Result A Outcome) → Decides j text decided → Judged files (next decided) old r new → Judged files (Judge j text next) old r new
unfolding Comes MayRead
from_decision files j text next decided old new r is (inl m) = inl m
from_decision files j text next decided old new r is (inr (inl (e, may, is', rose))) = inr (inl (e, (decided, is, may), is', rose))
from_decision files j text next decided old new r is (inr (inr (v, comes, follows))) = inr (inr (v, (decided, is, comes), follows))

-- over what the names hold, the answer follows what the plan comes to, but for want of memory and failed reads
pub judged : {A : Type 0} (p : Plan A) (old new : ShelfView) (r : Result A Outcome) (files : List ℕ → Option (List ℕ)) → Goes p old r new → old.held ≡ Some files
    → Judged files p old.faults r new.faults
unfolding Goes Comes MayRead
judged (Answer a) old new r files (inl s) held = inl s.0
judged (Answer a) old new r files (inr (e, is)) held = inr (inr (verdict_of.Answers a, refl, e))
judged (Refuse x) old new r files (inl s) held = inl s.0
judged (Refuse x) old new r files (inr (e, is)) held = inr (inr (verdict_of.Refuses x, refl, e))
judged (Fail fs) old new r files (inl s) held = inl s.0
judged (Fail fs) old new r files (inr (f, among, e, is)) held = inr (inr (verdict_of.Faults fs, refl, (f, among, e)))
judged (Read d name most next) old new r files (inl s) held = inl s.0
judged (Read d name most next) old new r files (inr (inl s)) held = inr (inl (d, inl refl, s.0, s.1.rose))
judged (Read d name most next) old new r files (inr (inr (bytes, mid, reads, later))) held =
    from_read files d name most next bytes old.faults mid.faults new.faults r (reads.found files held) reads.calm.keeps
    (judged (next bytes) mid new r files later (reads.holds ∙ held))
judged (Judge j text next) old new r files (inl s) held = inl s.0
judged (Judge j text next) old new r files (inr (decided, is, later)) held =
    from_decision files j text next decided old.faults new.faults r is (judged (next decided) old new r files later held)

both_held : (missing missing' : Type 0) (claim claim' : List ℕ → Type 0) (R : Type 0) → (missing → missing' → R) → ((all : List ℕ) → claim all → claim' all → R)
    → (o : Option (List ℕ)) → IfHeld missing claim o → IfHeld missing' claim' o → R
both_held missing missing' claim claim' R none some None a b = none a b
both_held missing missing' claim claim' R none some (Some all) a b = some all a b

-- a plan comes to at most one verdict
pub one_verdict : {A : Type 0} (p : Plan A) (files : List ℕ → Option (List ℕ)) (v w : Verdict A) → Comes files p v → Comes files p w → v ≡ w
unfolding Comes
one_verdict (Answer a) files v w c d = c ∙ sym d
one_verdict (Refuse x) files v w c d = c ∙ sym d
one_verdict (Fail fs) files v w c d = c ∙ sym d
one_verdict (Read doc name most next) files v w c d =
    both_held _ _ (λ bytes. Comes files (next (take most bytes)) v) (λ bytes. Comes files (next (take most bytes)) w) (v ≡ w) (λ a b. a ∙ sym b)
    (λ all a b. one_verdict (next (take most all)) files v w a b) (files name) c d
one_verdict (Judge j text next) files v w (r, is, c) (q, is', d) =
    one_verdict (next r) files v w c (subst (λ x. Comes files (next x) w) (sym (one_decision j text r q is is')) d)

-- what is answered, whatever the shelf tells
abbrev pub Possible : {A : Type 0} → Plan A → ℕ → Result A Outcome → ℕ → Type 0
Possible {A} p before r after =
    (r ≡ Err outcome.Memory) ⊎ (ReadFault p before r after ⊎ (((a : A) × (r ≡ Ok a))
    ⊎ (((x : Refusal) × MayRefuse p x × (r ≡ Err (told x))) ⊎ ((f : Fault) × (r ≡ Err (outcome.RunFault f))))))

behind_read : {A : Type 0} (d : Doc) (name : List ℕ) (most : ℕ) (next : List ℕ → Plan A) (bytes : List ℕ) (r : Result A Outcome) (old mid new : ℕ) → old ≤ mid
    → Possible (next bytes) mid r new → Possible (Read d name most next) old r new
unfolding MayRefuse MayRead
behind_read d name most next bytes r old mid new le (inl m) = inl m
behind_read d name most next bytes r old mid new le (inr (inl (e, may, is, rose))) = inr (inl (e, inr (bytes, may), is, later_rose old mid new le rose))
behind_read d name most next bytes r old mid new le (inr (inr (inl a))) = inr (inr (inl a))
behind_read d name most next bytes r old mid new le (inr (inr (inr (inl (x, may, is))))) = inr (inr (inr (inl (x, (bytes, may), is))))
behind_read d name most next bytes r old mid new le (inr (inr (inr (inr f)))) = inr (inr (inr (inr f)))

behind_decision : {A : Type 0} (j : Judgement) (text : List ℕ) (next : Result (Matter j) Refusal → Plan A) (decided : Result (Matter j) Refusal) (r : Result A Outcome) (old new : ℕ) → Decides j text decided
    → Possible (next decided) old r new → Possible (Judge j text next) old r new
unfolding MayRefuse MayRead
behind_decision j text next decided r old new is (inl m) = inl m
behind_decision j text next decided r old new is (inr (inl (e, may, is', rose))) = inr (inl (e, (decided, is, may), is', rose))
behind_decision j text next decided r old new is (inr (inr (inl a))) = inr (inr (inl a))
behind_decision j text next decided r old new is (inr (inr (inr (inl (x, may, e))))) = inr (inr (inr (inl (x, (decided, is, may), e))))
behind_decision j text next decided r old new is (inr (inr (inr (inr f)))) = inr (inr (inr (inr f)))

pub possible : {A : Type 0} (p : Plan A) (old new : ShelfView) (r : Result A Outcome) → Goes p old r new → Possible p old.faults r new.faults
unfolding Goes MayRefuse MayRead
possible (Answer a) old new r (inl s) = inl s.0
possible (Answer a) old new r (inr (e, is)) = inr (inr (inl (a, e)))
possible (Refuse x) old new r (inl s) = inl s.0
possible (Refuse x) old new r (inr (e, is)) = inr (inr (inr (inl (x, refl, e))))
possible (Fail fs) old new r (inl s) = inl s.0
possible (Fail fs) old new r (inr (f, among, e, is)) = inr (inr (inr (inr (f, e))))
possible (Read d name most next) old new r (inl s) = inl s.0
possible (Read d name most next) old new r (inr (inl s)) = inr (inl (d, inl refl, s.0, s.1.rose))
possible (Read d name most next) old new r (inr (inr (bytes, mid, reads, later))) =
    behind_read d name most next bytes r old.faults mid.faults new.faults reads.calm.keeps (possible (next bytes) mid new r later)
possible (Judge j text next) old new r (inl s) = inl s.0
possible (Judge j text next) old new r (inr (decided, is, later)) = behind_decision j text next decided r old.faults new.faults is (possible (next decided) old new r later)

-- ---- the calls

no_more : (calls : Option (List Call)) → option_map (λ cs. cs ++ []) calls ≡ calls
no_more None = refl
no_more (Some cs) = ap Some (append-nil cs)

one_more : (calls : Option (List Call)) (c : Call) (later : List Call)
    → option_map (λ cs. cs ++ later) (option_map (λ cs. cs ++ c ∷ []) calls) ≡ option_map (λ cs. cs ++ c ∷ later) calls
one_more None c later = refl
one_more (Some cs) c later = ap Some (append_assoc cs (c ∷ []) later)

pub along : {A : Type 0} (p : Plan A) (old new : ShelfView) (r : Result A Outcome) → Goes p old r new
    → (made : List Call) × Along p r made × (new.calls ≡ option_map (λ cs. cs ++ made) old.calls)
unfolding Goes Along
along (Answer a) old new r (inl s) = ([], refl, s.1.call ∙ sym (no_more old.calls))
along (Answer a) old new r (inr (e, is)) = ([], refl, ap (λ s. s.calls) is ∙ sym (no_more old.calls))
along (Refuse x) old new r (inl s) = ([], refl, s.1.call ∙ sym (no_more old.calls))
along (Refuse x) old new r (inr (e, is)) = ([], refl, ap (λ s. s.calls) is ∙ sym (no_more old.calls))
along (Fail fs) old new r (inl s) = ([], refl, s.1.call ∙ sym (no_more old.calls))
along (Fail fs) old new r (inr (f, among, e, is)) = ([], refl, ap (λ s. s.calls) is ∙ sym (no_more old.calls))
along (Read d name most next) old new r (inl s) = ([], inl (refl, s.0), s.1.call ∙ sym (no_more old.calls))
along (Read d name most next) old new r (inr (inl s)) = (call_of name true ∷ [], inr (inl (refl, s.0)), s.1.call)
along (Read d name most next) old new r (inr (inr (bytes, mid, reads, later))) =
    let rest = along (next bytes) mid new r later in (
      call_of name false ∷ rest.0,
      inr (inr (bytes, rest.0, refl, rest.1)),
      rest.2 ∙ ap (option_map (λ cs. cs ++ rest.0)) reads.call ∙ one_more old.calls (call_of name false) rest.0,
    )
along (Judge j text next) old new r (inl s) = ([], inl (refl, s.0), s.1.call ∙ sym (no_more old.calls))
along (Judge j text next) old new r (inr (decided, is, later)) = let rest = along (next decided) old new r later in (rest.0, inr (decided, is, rest.1), rest.2)
