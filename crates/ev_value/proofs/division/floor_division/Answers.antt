use Rattle.std.proofs.Common.{◌≡◌, ◌∙◌, ap, ◌<ℤ◌, ◌-ℤ◌, pos, to_z, of_z, arith}
use Rattle.std.proofs.Math.IntN.{neg_ℤ}
use Rattle.std.proofs.lemmas.Int.{ints}
use Rattle.std.specs.Int.{w64, w128, int_rem_euclid}
use Rattle.ev_value.proofs.Divisions.{rest_below, negated_rest}
use Rattle.ev_value.proofs.division.floor_division.Goals as goal

pub returns-else-b-gt0-clause-rest : goal.returns-else-b-gt0-clause-rest
returns-else-b-gt0-clause-rest c =
    let a_is : to_z w128 (of_z w128 (pos 0 -ℤ to_z w128 (of_z w128 (to_z w64 (of_z w64 c.args.a))))) ≡ neg_ℤ c.args.a = omega (arith, ints) in
    let b_is : to_z w128 (of_z w128 (pos 0 -ℤ to_z w128 (of_z w128 (to_z w64 (of_z w64 c.args.b))))) ≡ neg_ℤ c.args.b = omega (arith, ints) in
    let below : c.args.b <ℤ pos 0 = grind (arith, ints) in
    let turned = negated_rest c.rem_euclid-else-b-gt0.result c.args.b _ c.ranges.b c.rem_euclid-else-b-gt0.ensures.upper_bound b_is in
    turned ∙ ap neg_ℤ (c.rem_euclid-else-b-gt0.ensures.value ∙ (λ i. int_rem_euclid (a_is i) (b_is i))) ∙ rest_below c.args.a c.args.b below
