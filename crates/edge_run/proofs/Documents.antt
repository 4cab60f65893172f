-- Documents, read and measured.
use Rattle.std.proofs.Common.{◌≡◌, ℕ, ◌+◌, ◌<◌, List, length, Ok, Err, inl, inr, true, false, refl, sym, ap, ◌∙◌, subst}
use Rattle.ev_io.specs.Shelf.{ShelfView, ReadGives, ReadFails, Quiet}
use Rattle.edge_run.specs.Limits.{limit_of, is_long, IsShort}
use Rattle.edge_run.specs.Modes.{document, unless_long}
use Rattle.edge_run.specs.Plan.{Plan, Answer, Refuse, Goes}
use Rattle.edge_run.specs.Refusal.{TooLong}
use Rattle.edge_run.specs.declared.outcome.Doc.{Doc}
use Rattle.edge_run.specs.declared.outcome.Outcome.TheVariants as outcome
use Rattle.edge_run.proofs.LimitLaws.{front, front_all, front_long, short_is, long_is}

pub answered : (d : Doc) (text : List ℕ) → is_long d text ≡ false → unless_long d text ≡ Answer text
answered d text e = rw e refl

pub refused : (d : Doc) (text : List ℕ) → is_long d text ≡ true → unless_long d text ≡ Refuse (TooLong d)
refused d text e = rw e refl

-- of the first bytes, one more than the limit, the same is answered as of the whole
pub front_answered : (d : Doc) (text : List ℕ) → is_long d text ≡ false → unless_long d (front d text) ≡ Answer text
front_answered d text e = answered d (front d text) (front_long d text ∙ e) ∙ ap Answer (front_all d text e)

pub front_refused : (d : Doc) (text : List ℕ) → is_long d text ≡ true → unless_long d (front d text) ≡ Refuse (TooLong d)
front_refused d text e = refused d (front d text) (front_long d text ∙ e)

-- ---- a read

pub read_short : (d : Doc) (name : List ℕ) (old new : ShelfView) (text : List ℕ) → ReadGives old name (limit_of d + 1) text new → IsShort d text
    → Goes (document d name) old (Ok text) new
unfolding document Goes
read_short d name old new text reads short =
    inr (inr (text, new, reads, subst (λ (p : Plan (List ℕ)). Goes p new (Ok text) new) (sym (answered d text (short_is d text short))) (inr (refl, refl))))

pub read_long : (d : Doc) (name : List ℕ) (old new : ShelfView) (text : List ℕ) → ReadGives old name (limit_of d + 1) text new → limit_of d < length text
    → Goes (document d name) old (Err (outcome.TooLong d)) new
unfolding document Goes
read_long d name old new text reads more =
    inr (inr (text, new, reads, subst (λ (p : Plan (List ℕ)). Goes p new (Err (outcome.TooLong d)) new) (sym (refused d text (long_is d text more))) (inr (refl, refl))))

pub read_failed : (d : Doc) (name : List ℕ) (old new : ShelfView) → ReadFails old name new → Goes (document d name) old (Err (outcome.ReadFault d)) new
unfolding document Goes
read_failed d name old new fails = inr (inl (refl, fails))

pub read_stopped : (d : Doc) (name : List ℕ) (old new : ShelfView) → Quiet old new → Goes (document d name) old (Err outcome.Memory) new
unfolding document Goes
read_stopped d name old new quiet = inl (refl, quiet)
