use Rattle.std.proofs.Common.{IsTrue}
use Rattle.ev_value.proofs.Standing.{stands_append, stands_bind, stands_weaken, stands_equal, stands_faults, stands_collect}
use Rattle.ev_value.proofs.laws.standing_is_lawful.Goals as goal

pub returns : goal.returns
returns g c = record {
  looped = λ may r s xs ys f h p each. stands_bind may (λ a b. IsTrue (r a b)) (λ c d. IsTrue (s c d)) f h p each;
  joined = λ may r xs more ys rest p q. stands_append may (λ a b. IsTrue (r a b)) p q;
  told = λ may r s xs ys p. stands_faults may (λ a b. IsTrue (r a b)) (λ c d. IsTrue (s c d)) p;
  collected = λ may r s xs ys f h p each. stands_collect may (λ a b. IsTrue (r a b)) (λ c d. IsTrue (s c d)) f h p each;
  weaker = λ may r s xs ys h p. stands_weaken may (λ a b. IsTrue (r a b)) (λ a b. IsTrue (s a b)) h p;
  equal = λ xs ys p. stands_equal p;
}
