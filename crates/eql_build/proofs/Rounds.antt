-- `for`s round a body, from the last of them back.
use Rattle.std.proofs.Common.{◌≡◌, ℕ, zero, suc, ◌-◌, ◌<◌, ◌≤◌, max, List, [], ◌∷◌, ◌++◌, length, take, get_or, ap, refl, sym, ◌∙◌, arith}
use Rattle.std.proofs.lemmas.List.{take_all}
use Rattle.eql_grammar.specs.declared.grown.Head.{Head}
use Rattle.eql_grammar.specs.declared.grown.Body.{Body}
use Rattle.eql_grammar.specs.declared.grown.Body.TheVariants as body
use Rattle.eql_grammar.specs.Trees.{above, round, all_round, body_height}

-- the height of a body inside the `for`s, by its own
unfoldable pub high_round : List Head → ℕ → ℕ
high_round [] height = height
high_round (head ∷ more) height = above (max head.height (high_round more height))

pub high_round_is : (heads : List Head) (inside : Body) → body_height (all_round heads inside) ≡ high_round heads (body_height inside)
unfolding all_round high_round
high_round_is [] inside = refl
high_round_is (head ∷ more) inside = ap (λ n. above (max head.height n)) (high_round_is more inside)

turn : (heads : List Head) (left : ℕ) (last : Head) (height : ℕ) → left < length heads
    → high_round (take (suc left) heads) height ≡ high_round (take left heads) (above (max (get_or heads left last).height height))
unfolding high_round
turn [] left last height below = absurd (omega arith)
turn (head ∷ more) zero last height below = refl
turn (head ∷ more) (suc left) last height below = ap (λ n. above (max head.height n)) (turn more left last height (omega arith))

pub high_round_turn : (heads : List Head) (n : ℕ) (last : Head) (height : ℕ) → 0 < n → n ≤ length heads → last ≡ get_or heads (n - 1) last
    → high_round (take n heads) height ≡ high_round (take (n - 1) heads) (above (max last.height height))
high_round_turn heads n last height some below is =
    let one : n ≡ suc (n - 1) = omega arith in
    ap (λ k. high_round (take k heads) height) one ∙ turn heads (n - 1) last height (omega arith) ∙ ap (λ (h : Head). high_round (take (n - 1) heads) (above (max h.height height))) (sym is)

pub high_round_all : (heads : List Head) (height : ℕ) → high_round (take (length heads) heads) height ≡ high_round heads height
high_round_all heads height = ap (λ hs. high_round hs height) (take_all (length heads) heads (omega arith))

pub high_round_none : (heads : List Head) (height : ℕ) → high_round (take 0 heads) height ≡ height
unfolding high_round
high_round_none heads height = refl

pub all_round_last : (heads : List Head) (last : Head) (inside : Body) → all_round (heads ++ last ∷ []) inside ≡ all_round heads (body.Statement (round last inside))
unfolding all_round
all_round_last [] last inside = refl
all_round_last (head ∷ more) last inside = ap (λ b. body.Statement (round head b)) (all_round_last more last inside)

pub all_round_none : (inside : Body) → all_round [] inside ≡ inside
unfolding all_round
all_round_none inside = refl
