-- What is known of a prefix says whether the scope binds it.
use Rattle.std.proofs.Common.{◌≡◌, ℕ, suc, ◌+◌, Bool, true, false, not, ◌&&◌, ◌||◌, List, [], ◌∷◌, length, take, slice_get, refl, sym, ap, ◌∙◌, arith, if◌then◌else◌}
use Rattle.std.specs.List.{list_any}
use Rattle.core_ir.specs.declared.path.Path.{Path}
use Rattle.core_ir.specs.declared.path.Root.{Root}
use Rattle.core_ir.specs.declared.path.Step.{Step}
use Rattle.core_ir.specs.declared.tree.Direct.{Direct}
use Rattle.core_ir.specs.declared.tree.Occurrence.{Occurrence}
use Rattle.core_ir.specs.Path.{root_eq, step_eq, steps_eq, alike, begins}
use Rattle.core_ir.proofs.Paths.{roots, steps}
use Rattle.path_scope.specs.declared.branches.Onward.{Onward}
use Rattle.path_scope.specs.declared.branches.Onward.TheVariants as way
use Rattle.path_scope.specs.declared.branches.Node.{Node}
use Rattle.path_scope.specs.declared.branches.Seen.TheVariants as seen
use Rattle.path_scope.specs.Factored.{is_common, joins, is_optional}
use Rattle.path_scope.specs.Branches.{turn, together, met, part, behind, nothing, seeing, seeing_direct, seeing_all, node}

-- Paths part in the same way from either side.
step_turned : (b c : Bool) (s t : Step) → step_eq s t ≡ b → step_eq t s ≡ c → b ≡ c
step_turned true true s t e f = refl
step_turned false false s t e f = refl
step_turned true false s t e f = sym ((steps t s).1 (sym ((steps s t).0 e))) ∙ f
step_turned false true s t e f = sym e ∙ (steps s t).1 (sym ((steps t s).0 f))

part_turned : (v w : Onward) → part v w ≡ part w v
part_turned way.Nowhere way.Nowhere = refl
part_turned way.Nowhere (way.By t) = refl
part_turned way.Nowhere way.Apart = refl
part_turned (way.By s) way.Nowhere = refl
part_turned (way.By s) (way.By t) = ap not (step_turned (step_eq s t) (step_eq t s) s t refl refl)
part_turned (way.By s) way.Apart = refl
part_turned way.Apart way.Nowhere = refl
part_turned way.Apart (way.By t) = refl
part_turned way.Apart way.Apart = refl

part_none : (w : Onward) → part w way.Nowhere ≡ false
part_none w = part_turned w way.Nowhere

-- What parts from paths that go on in two ways parts from one of them.
or_itself : (b : Bool) → b ≡ (b || b)
or_itself true = refl
or_itself false = refl

or_none : (b : Bool) → b ≡ (b || false)
or_none true = refl
or_none false = refl

or_always : (b : Bool) → true ≡ (b || true)
or_always true = refl
or_always false = refl

apart_from : (x y : Bool) (s t r : Step) → step_eq s t ≡ false → step_eq s r ≡ x → step_eq t r ≡ y → true ≡ (not x || not y)
apart_from true true s t r e f g = let clash : true ≡ false = sym ((steps s t).1 ((steps s r).0 f ∙ sym ((steps t r).0 g))) ∙ e in absurd cc
apart_from true false s t r e f g = refl
apart_from false y s t r e f g = refl

part_together : (b : Bool) (s t r : Step) → step_eq s t ≡ b → part (together b s) (way.By r) ≡ (not (step_eq s r) || not (step_eq t r))
part_together true s t r e = or_itself (not (step_eq s r)) ∙ ap (λ x. not (step_eq s r) || not (step_eq x r)) ((steps s t).0 e)
part_together false s t r e = apart_from (step_eq s r) (step_eq t r) s t r e refl refl

part_together_apart : (b : Bool) (s : Step) → part (together b s) way.Apart ≡ true
part_together_apart true s = refl
part_together_apart false s = refl

part_met : (u v w : Onward) → part (met u v) w ≡ (part u w || part v w)
part_met way.Nowhere v w = refl
part_met (way.By s) way.Nowhere w = or_none (part (way.By s) w)
part_met (way.By s) (way.By t) way.Nowhere = part_none (together (step_eq s t) s)
part_met (way.By s) (way.By t) (way.By r) = part_together (step_eq s t) s t r refl
part_met (way.By s) (way.By t) way.Apart = part_together_apart (step_eq s t) s
part_met (way.By s) way.Apart way.Nowhere = refl
part_met (way.By s) way.Apart (way.By r) = or_always (not (step_eq s r))
part_met (way.By s) way.Apart way.Apart = refl
part_met way.Apart v way.Nowhere = sym (part_none v)
part_met way.Apart v (way.By r) = refl
part_met way.Apart v way.Apart = refl

part_from_met : (w u v : Onward) → part w (met u v) ≡ (part w u || part w v)
part_from_met w u v = part_turned w (met u v) ∙ part_met u v w ∙ (λ i. part_turned u w i || part_turned v w i)

met_none : (w : Onward) → w ≡ met w way.Nowhere
met_none way.Nowhere = refl
met_none (way.By s) = refl
met_none way.Apart = refl

-- A way that is there only under a condition.
abbrev gate : Bool → Onward → Onward
gate true w = w
gate false w = way.Nowhere

gate_both : (b c : Bool) (w : Onward) → (if b && c then w else way.Nowhere) ≡ gate b (if c then w else way.Nowhere)
gate_both true c w = refl
gate_both false c w = refl

-- how a path with these steps goes on from a prefix with those
abbrev on_steps : List Step → List Step → Onward
on_steps ps ss = if steps_eq ps (take (length ps) ss) then turn (slice_get ss (length ps)) else way.Nowhere

abbrev onward : Path → Path → Onward
onward p a = if begins p a then behind (length p.steps) a else way.Nowhere

onward_steps : (p a : Path) → onward p a ≡ gate (root_eq p.root a.root) (on_steps p.steps a.steps)
onward_steps p a = gate_both (root_eq p.root a.root) (steps_eq p.steps (take (length p.steps) a.steps)) (turn (slice_get a.steps (length p.steps)))

-- the longest common beginning of two lists of steps is where they part
ends_by : (b : Bool) (n : ℕ) (s : Step) (ss : List Step) → steps_eq [] (take (if b then n + 1 else 0) (s ∷ ss)) ≡ not b
ends_by true n s ss = let more : n + 1 ≡ suc n = omega arith in rw more refl
ends_by false n s ss = refl

both_gated : (c : Bool) (x : Bool) (v w : Onward) → x ≡ part v w → (c && x) ≡ part (gate c v) (gate c w)
both_gated true x v w h = h
both_gated false x v w h = refl

none_gated : (c d : Bool) (q s t : Step) (v w : Onward) → step_eq s t ≡ false → step_eq q s ≡ c → step_eq q t ≡ d → false ≡ part (gate c v) (gate d w)
none_gated true true q s t v w e f g = let clash : true ≡ false = sym ((steps s t).1 (sym ((steps q s).0 f) ∙ (steps q t).0 g)) ∙ e in absurd cc
none_gated true false q s t v w e f g = sym (part_none v)
none_gated false d q s t v w e f g = refl

goes_by : (b : Bool) (q s t : Step) (qs ss : List Step) (n : ℕ) (v w : Onward) → step_eq s t ≡ b → steps_eq qs (take n ss) ≡ part v w
    → steps_eq (q ∷ qs) (take (if b then n + 1 else 0) (s ∷ ss)) ≡ part (gate (step_eq q s) v) (gate (step_eq q t) w)
goes_by true q s t qs ss n v w e h =
    let more : n + 1 ≡ suc n = omega arith in
    ap (λ k. steps_eq (q ∷ qs) (take k (s ∷ ss))) more
    ∙ both_gated (step_eq q s) (steps_eq qs (take n ss)) v w h
    ∙ ap (λ x. part (gate (step_eq q s) v) (gate (step_eq q x) w)) ((steps s t).0 e)
goes_by false q s t qs ss n v w e h = none_gated (step_eq q s) (step_eq q t) q s t v w e refl refl

common_steps : (ps ss ts : List Step) → steps_eq ps (take (alike ss ts) ss) ≡ part (on_steps ps ss) (on_steps ps ts)
common_steps [] [] [] = refl
common_steps [] [] (t ∷ ts) = refl
common_steps [] (s ∷ ss) [] = refl
common_steps [] (s ∷ ss) (t ∷ ts) = ends_by (step_eq s t) (alike ss ts) s ss
common_steps (q ∷ qs) [] ts = refl
common_steps (q ∷ qs) (s ∷ ss) [] = sym (part_none (on_steps (q ∷ qs) (s ∷ ss)))
common_steps (q ∷ qs) (s ∷ ss) (t ∷ ts) =
    goes_by (step_eq s t) q s t qs ss (alike ss ts) (on_steps qs ss) (on_steps qs ts) refl (common_steps qs ss ts)
    ∙ sym (λ i. part
    (gate_both (step_eq q s) (steps_eq qs (take (length qs) ss)) (turn (slice_get ss (length qs))) i)
    (gate_both (step_eq q t) (steps_eq qs (take (length qs) ts)) (turn (slice_get ts (length qs))) i))

-- and of two paths
by_roots : (r z : Bool) (p a b : Path) (x : Bool) (v w : Onward) → root_eq p.root a.root ≡ r → root_eq a.root b.root ≡ z → x ≡ part v w
    → (z && (r && x)) ≡ part (gate r v) (gate (root_eq p.root b.root) w)
by_roots true true p a b x v w e f h = h ∙ ap (λ c. part v (gate c w)) (sym (ap (λ (q : Root). root_eq q b.root) ((roots p.root a.root).0 e) ∙ f))
by_roots true false p a b x v w e f h = sym (part_none v) ∙ ap (λ c. part v (gate c w)) (sym (ap (λ (q : Root). root_eq q b.root) ((roots p.root a.root).0 e) ∙ f))
by_roots false true p a b x v w e f h = refl
by_roots false false p a b x v w e f h = refl

common_is : (p a b : Path) → is_common p a b ≡ part (onward p a) (onward p b)
common_is p a b =
    by_roots (root_eq p.root a.root) (root_eq a.root b.root) p a b (steps_eq p.steps (take (alike a.steps b.steps) a.steps)) (on_steps p.steps a.steps) (on_steps p.steps b.steps) refl refl
    (common_steps p.steps a.steps b.steps)
    ∙ sym (λ i. part (onward_steps p a i) (onward_steps p b i))

-- What seeing a path adds.
or_assoc : (x y z : Bool) → ((x || y) || z) ≡ (x || (y || z))
or_assoc true y z = refl
or_assoc false y z = refl

and_assoc : (x y z : Bool) → ((x && y) && z) ≡ (x && (y && z))
and_assoc true y z = refl
and_assoc false y z = refl

and_true : (x : Bool) → x ≡ (x && true)
and_true true = refl
and_true false = refl

module _ (p : Path) where
  any_by : (b : Bool) (n : Node) (w : Onward) → (if b then record { direct = n.direct; any = met n.any w; optional = n.optional } else n).any ≡ met n.any (if b then w else way.Nowhere)
  any_by true n w = refl
  any_by false n w = met_none n.any

  direct_kept_by : (b : Bool) (n : Node) (w : Onward) → (if b then record { direct = n.direct; any = met n.any w; optional = n.optional } else n).direct ≡ n.direct
  direct_kept_by true n w = refl
  direct_kept_by false n w = refl

  optional_kept_by : (b : Bool) (n : Node) (w : Onward) → (if b then record { direct = n.direct; any = met n.any w; optional = n.optional } else n).optional ≡ n.optional
  optional_kept_by true n w = refl
  optional_kept_by false n w = refl

  direct_by : (b c : Bool) (n : Node) (w : Onward) → (if b then record { direct = met n.direct w; any = n.any; optional = n.optional && c } else n).direct ≡ met n.direct (if b then w else way.Nowhere)
  direct_by true c n w = refl
  direct_by false c n w = met_none n.direct

  any_kept_by : (b c : Bool) (n : Node) (w : Onward) → (if b then record { direct = met n.direct w; any = n.any; optional = n.optional && c } else n).any ≡ n.any
  any_kept_by true c n w = refl
  any_kept_by false c n w = refl

  optional_by : (b c : Bool) (n : Node) (w : Onward) → (if b then record { direct = met n.direct w; any = n.any; optional = n.optional && c } else n).optional ≡ (n.optional && (not b || c))
  optional_by true c n w = refl
  optional_by false c n w = and_true n.optional

  all_direct : (os : List Occurrence) (n : Node) → (seeing_all os p n).direct ≡ n.direct
  all_direct [] n = refl
  all_direct (o ∷ os) n = all_direct os (seeing seen.Anywhere o.path p n) ∙ direct_kept_by (begins p o.path) n (behind (length p.steps) o.path)

  all_optional : (os : List Occurrence) (n : Node) → (seeing_all os p n).optional ≡ n.optional
  all_optional [] n = refl
  all_optional (o ∷ os) n = all_optional os (seeing seen.Anywhere o.path p n) ∙ optional_kept_by (begins p o.path) n (behind (length p.steps) o.path)

  all_any : (w : Onward) (os : List Occurrence) (n : Node) → part w (seeing_all os p n).any ≡ (part w n.any || list_any (λ (o : Occurrence). part w (onward p o.path)) os)
  all_any w [] n = or_none (part w n.any)
  all_any w (o ∷ os) n =
      all_any w os (seeing seen.Anywhere o.path p n)
      ∙ ap (λ v. part w v || list_any (λ (o : Occurrence). part w (onward p o.path)) os) (any_by (begins p o.path) n (behind (length p.steps) o.path))
      ∙ ap (λ b. b || list_any (λ (o : Occurrence). part w (onward p o.path)) os) (part_from_met w n.any (onward p o.path))
      ∙ or_assoc (part w n.any) (part w (onward p o.path)) (list_any (λ (o : Occurrence). part w (onward p o.path)) os)

  direct_any : (ds : List Direct) (n : Node) → (seeing_direct ds p n).any ≡ n.any
  direct_any [] n = refl
  direct_any (d ∷ ds) n = direct_any ds (seeing (seen.Directly d.optional) d.occurrence.path p n) ∙ any_kept_by (begins p d.occurrence.path) d.optional n (behind (length p.steps) d.occurrence.path)

  direct_direct : (w : Onward) (ds : List Direct) (n : Node) → part (seeing_direct ds p n).direct w ≡ (part n.direct w || list_any (λ (d : Direct). part (onward p d.occurrence.path) w) ds)
  direct_direct w [] n = or_none (part n.direct w)
  direct_direct w (d ∷ ds) n =
      direct_direct w ds (seeing (seen.Directly d.optional) d.occurrence.path p n)
      ∙ ap (λ v. part v w || list_any (λ (d : Direct). part (onward p d.occurrence.path) w) ds) (direct_by (begins p d.occurrence.path) d.optional n (behind (length p.steps) d.occurrence.path))
      ∙ ap (λ b. b || list_any (λ (d : Direct). part (onward p d.occurrence.path) w) ds) (part_met n.direct (onward p d.occurrence.path) w)
      ∙ or_assoc (part n.direct w) (part (onward p d.occurrence.path) w) (list_any (λ (d : Direct). part (onward p d.occurrence.path) w) ds)

  direct_optional : (ds : List Direct) (n : Node) → (seeing_direct ds p n).optional ≡ (n.optional && is_optional ds p)
  direct_optional [] n = and_true n.optional
  direct_optional (d ∷ ds) n =
      direct_optional ds (seeing (seen.Directly d.optional) d.occurrence.path p n)
      ∙ ap (λ b. b && is_optional ds p) (optional_by (begins p d.occurrence.path) d.optional n (behind (length p.steps) d.occurrence.path))
      ∙ and_assoc n.optional (not (begins p d.occurrence.path) || d.optional) (is_optional ds p)

  -- The scope may bind a prefix exactly where direct occurrences and occurrences part at it.
  pub node_joins : (ds : List Direct) (os : List Occurrence) → part (node ds os p).direct (node ds os p).any ≡ joins ds os p
  node_joins ds os =
      let known = seeing_direct ds p nothing in
      let any = (node ds os p).any in
      ap (λ v. part v any) (all_direct os known)
      ∙ direct_direct any ds nothing
      ∙ (λ i. list_any (λ (d : Direct). (all_any (onward p d.occurrence.path) os known
      ∙ ap (λ v. part (onward p d.occurrence.path) v || list_any (λ (o : Occurrence). part (onward p d.occurrence.path) (onward p o.path)) os) (direct_any ds nothing)
      ∙ ap (λ b. b || list_any (λ (o : Occurrence). part (onward p d.occurrence.path) (onward p o.path)) os) (part_none (onward p d.occurrence.path))
      ∙ sym (λ j. list_any (λ (o : Occurrence). common_is p d.occurrence.path o.path j) os)) i) ds)

  -- And it is optional where each direct occurrence that it begins is.
  pub node_optional : (ds : List Direct) (os : List Occurrence) → (node ds os p).optional ≡ is_optional ds p
  node_optional ds os = all_optional os (seeing_direct ds p nothing) ∙ direct_optional ds nothing
