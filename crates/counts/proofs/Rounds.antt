-- Demand 3, the solver's half. A round that passes its tests applies what `find_move` finds: a unit move, which keeps the difference of
-- opposite sides, or nothing. So the difference stays over any list of rounds, and each round is as `RoundClaim` says: what the search kept is
-- itself a reading of the move that it lists, so its cost is the one that the move is claimed to have and the one that is answered; and a move
-- that costs less than -2e-12 has a reading that does, which a search that is not cut would have met. Assumes nothing.
use mathlib.Core.Logic.Iff
use mathlib.Core.Logic.{◌≢◌, ◌↔◌}
use mathlib.Core.Path.{◌≡◌, refl, sym, subst, ◌∙◌}
use mathlib.Core.Bool.{Bool, true, not}
use mathlib.Core.List.{List, [], ◌∷◌}
use Prim.Native.Nat.{ℕ, zero, suc, ◌+◌, ◌*◌, ◌<◌}
use native.Mathlib.Nat.{zero-mul, suc-mul, add_comm}
use native.Mathlib.Numerals.{add-two}
use native.Mathlib.Omega.{arith}
use lib.ListN.{length, drop}
use lib.Seq.{drop-drop}
use lib.Dec.{T}
use lib.Ieee.{Float, lt, neg}
use Rattle.base.specs.declared.verdict.Verdict.{Verdict}
use Rattle.base.specs.Refusal.{is_passed}
use Rattle.regions.specs.Region.{Constraint, constraint, constraints, places, graph, record_size, region_count, side, side_sum}
use Rattle.counts.specs.Move.{Change, apply_changes, cost, Reading, ReadingOf, CostsLess}
use Rattle.counts.specs.Cost.{CostModel}
use Rattle.counts.specs.Search.{two_eps}
use Rattle.counts.specs.Round.{Found, find_move}
use Rattle.regions.specs.Accept.{accepted}
use Rattle.counts.specs.Solver.{Round, none, made, round_made, round_with, expansions, round, round_test}
use Rattle.counts.specs.Demand.{left, left_by_all, MadeBy, RoundClaim, RoundClaims, Demand, Request, answer_to, request_costs}
use Rattle.counts.proofs.Accepted.{Accepted, accepted_ok}
use Rattle.counts.proofs.Balance.{move_balance}
use Rattle.base.proofs.BoolLaws.{by_cases, by_truth}
use Rattle.counts.proofs.Find.{Best, sound_find, complete_find}
use Rattle.counts.proofs.Find as find
use Rattle.counts.proofs.Makes.{makes_move, move_differs}

-- ---- what is found on accepted regions

module _ (g : List Constraint) (counts : List ℕ) (ok : Accepted (length counts) g) where
  -- what find_move finds: nothing, or a reading that costs less than -E
  abbrev pub Finds : CostModel → ℕ → Found → Type 0
  Finds costs limit = Best g (costs counts) counts limit (λ i. (ok.constraint_ok i).sided) (λ i. (ok.constraint_ok i).inside)

  pub found : (costs : CostModel) (limit : ℕ) → Finds costs limit (find_move g costs counts limit)
  unfolding find_move
  found costs limit = sound_find g (costs counts) counts limit (λ i. (ok.constraint_ok i).sided) (λ i. (ok.constraint_ok i).inside)

  nothing_left : (costs : CostModel) (limit : ℕ) → T (not (find_move g costs counts limit).cut) → (find_move g costs counts limit).best ≡ []
      → (r : List Change) → Reading g counts r → T (lt (cost (costs counts) r) (neg two_eps)) → ⊥
  unfolding find_move
  nothing_left costs limit =
      complete_find g (costs counts) counts limit (λ i. (ok.constraint_ok i).sided) (λ i. (ok.constraint_ok i).inside) ok.thin

-- ---- the difference of the two sides of each constraint stays

pub record Steady (g : List Constraint) (before after : List ℕ) : Type 0 where
  pub difference : (i : ℕ)
      → side_sum after (constraint g i).a + side_sum before (constraint g i).b ≡ side_sum after (constraint g i).b + side_sum before (constraint g i).a
  pub as_long : length after ≡ length before

pub steady_same : (g : List Constraint) (counts : List ℕ) → Steady g counts counts
steady_same g counts = record { difference = λ i. omega arith; as_long = refl }

steady_then : {g : List Constraint} {a b c : List ℕ} → Steady g a b → Steady g b c → Steady g a c
steady_then s t =
    record { difference = λ i. (let p = s.difference i in let q = t.difference i in omega arith); as_long = t.as_long ∙ s.as_long }

pub steady_found : (g : List Constraint) (counts : List ℕ) (ok : Accepted (length counts) g) (costs : CostModel) (limit : ℕ) (b : Found)
    → Finds g counts ok costs limit b → Steady g counts (apply_changes b.best counts)
steady_found g counts ok costs limit b (find.none k e) = rw e (steady_same g counts)
steady_found g counts ok costs limit b (find.some r c l) =
    record {
      difference = λ i.
          move_balance g counts b.best r.move i (ok.constraint_ok i).once_a (ok.constraint_ok i).once_b (ok.constraint_ok i).sided;
      as_long = (makes_move g counts b.best r.move).same_length;
    }

-- ---- one round

-- what a round answers and leaves, by the verdict of its tests
pub record RoundIs (verdict : Verdict) (b : Found) (counts : List ℕ) (out : Round) : Type 0 where
  pub accepted_as : is_passed out.verdict ≡ is_passed verdict
  pub applied : T (is_passed verdict) → out.counts ≡ apply_changes b.best counts
  pub untouched : T (not (is_passed verdict)) → out.counts ≡ counts
  pub cut_as : T (is_passed verdict) → out.cut ≡ b.cut
  pub made_some : T (is_passed verdict) → 0 < length b.best → out.move ≡ made b.kept
  pub made_none : T (is_passed verdict) → b.best ≡ [] → out.move ≡ none
  pub refused_none : T (not (is_passed verdict)) → out.move ≡ none

round_is : (p : ℕ) (verdict : Verdict) (costs : CostModel) (regions counts : List ℕ) (limit : ℕ)
    → RoundIs verdict (find_move (graph p regions) costs counts limit) counts (round_with p verdict costs regions counts limit)
unfolding round_with
round_is p verdict costs regions counts limit =
    let b = find_move (graph p regions) costs counts limit in
    by_truth (is_passed verdict)
    (λ e. rw (e, round_with) (by_move b.best b.kept b.cut e))
    (λ e. rw (e, round_with) (record {
      accepted_as = refl;
      applied = λ u. absurd (rw e at u);
      untouched = λ u. refl;
      cut_as = λ u. absurd (rw e at u);
      made_some = λ u. absurd (rw e at u);
      made_none = λ u. absurd (rw e at u);
      refused_none = λ u. refl;
    }))
  where
    by_move : (l : List Change) (k : Float) (c : Bool) → is_passed verdict ≡ true → RoundIs verdict (record { cut = c; kept = k; best = l }) counts (round_made c l k counts)
    by_move [] k c e =
        record {
          accepted_as = sym e;
          applied = λ u. refl;
          untouched = λ u. refl;
          cut_as = λ u. refl;
          made_some = λ u h. absurd (omega arith);
          made_none = λ u q. refl;
          refused_none = λ u. refl;
        }
    by_move (z ∷ l) k c e =
        record {
          accepted_as = sym e;
          applied = λ u. refl;
          untouched = λ u. absurd (rw e at u);
          cut_as = λ u. refl;
          made_some = λ u h. refl;
          made_none = λ u q. cc;
          refused_none = λ u. absurd (rw e at u);
        }

-- ---- the constraints of region r

pub constraint_at : (p m : ℕ) (l : List ℕ) (r : ℕ) → r < m
    → (constraint (constraints p m l) (r * 2) ≡ record { a = side p (drop (r * record_size p) l) 0; b = side p (drop (r * record_size p) l) 2 })
    × (constraint (constraints p m l) (suc (r * 2)) ≡ record { a = side p (drop (r * record_size p) l) 1; b = side p (drop (r * record_size p) l) 3 })
unfolding constraints
constraint_at p zero l r h = absurd (omega arith)
constraint_at p (suc m) l zero h = rw (zero-mul (4 * suc p)) (refl, refl)
constraint_at p (suc m) l (suc r) h =
    let ih = constraint_at p m (drop (4 * suc p) l) r (omega arith) in
    rw (suc-mul r 2, suc-mul r (4 * suc p), add-two, add_comm, ← drop-drop) ih

-- balance is kept both ways
both_ways : {g : List Constraint} {before after : List ℕ} → Steady g before after → (i : ℕ) {c : Constraint} → constraint g i ≡ c
    → (side_sum before c.a ≡ side_sum before c.b) ↔ (side_sum after c.a ≡ side_sum after c.b)
both_ways s i e = rw (← e) (let d = s.difference i in ((λ h. omega arith), (λ h. omega arith)))

-- ---- lists of rounds of any kind, whose tests, edge costs and limit are given

module _ {Request : Type 0} (regions : List ℕ) (answer : Request → List ℕ → Round) (costs : Request → CostModel) (test : Request → List ℕ → Verdict)
    (limit : Request → ℕ)
    (is : (request : Request) (counts : List ℕ) → answer request counts ≡ round_with places (test request counts) (costs request) regions counts (limit request)) where
  abbrev g : List Constraint
  g = graph places regions

  abbrev Ok : List ℕ → Type 0
  Ok counts = Accepted (length counts) g

  module _ (counts : List ℕ) (request : Request) (ok : Ok counts) where
    -- what the round finds
    abbrev b : Found
    b = find_move g (costs request) counts (limit request)

    finds : Finds g counts ok (costs request) (limit request) b
    finds = found g counts ok (costs request) (limit request)

    abbrev Passes : Type 0
    Passes = T (is_passed (test request counts))

    its : RoundIs (test request counts) b counts (answer request counts)
    its = rw is (round_is places (test request counts) (costs request) regions counts (limit request))

    pub steady_round : Steady g counts (answer request counts).counts
    steady_round =
        by_cases (is_passed (test request counts))
        (λ t. rw (its.applied t) (steady_found g counts ok (costs request) (limit request) b finds))
        (λ t. rw (its.untouched t) (steady_same g counts))

    -- the reading that was kept reads the move that it lists
    itself : Reading g counts b.best → ReadingOf g counts b.best b.best
    itself r = record { lists = λ z. Iff.rfl; reads = r }

    moved : Passes → Finds g counts ok (costs request) (limit request) b → left regions answer costs counts request ≢ counts
        → MadeBy regions answer costs counts request
    moved t (find.none k e) n = absurd (n (its.applied t ∙ rw e))
    moved t (find.some r c l) n =
        record {
          changes = b.best;
          move = r.move;
          less = record { reading = b.best; of_move = itself r; less = rw c l };
          makes = rw (its.applied t) (makes_move g counts b.best r.move);
          answered = b.kept;
          told = its.made_some t r.move.some;
          is_cost = record { reading = b.best; of_move = itself r; sum = sym c };
        }

    -- a move that was made has changed a count
    made_changes : Passes → Reading g counts b.best → left regions answer costs counts request ≡ counts → ⊥
    made_changes t r e = move_differs counts b.best r.move.some (makes_move g counts b.best r.move) (sym (its.applied t) ∙ e)

    silent : Passes → Finds g counts ok (costs request) (limit request) b → left regions answer costs counts request ≡ counts → (answer request counts).move ≡ none
    silent t (find.none k e') e = its.made_none t e'
    silent t (find.some r c l) e = absurd (made_changes t r e)

    still : Passes → Finds g counts ok (costs request) (limit request) b → left regions answer costs counts request ≡ counts
        → T (not (answer request counts).cut) → (r : List Change) → CostsLess g counts (costs request counts) r (neg two_eps) → ⊥
    still t (find.none k e') e c r l = nothing_left g counts ok (costs request) (limit request) (rw (its.cut_as t) at c) e' l.reading l.of_move.reads l.less
    still t (find.some r' c' l') e c r l = made_changes t r' e

    told : RoundClaim regions answer costs counts request
    told =
        record {
          changed = λ n. by_cases (is_passed (test request counts)) (λ t. moved t finds n) (λ t. absurd (n (its.untouched t)));
          unchanged = λ e. by_cases (is_passed (test request counts)) (λ t. silent t finds e) its.refused_none;
          idle = λ t e c r m l. still (subst T its.accepted_as t) finds e c r l;
        }

    ok_left : Ok (answer request counts).counts
    ok_left = rw steady_round.as_long ok

  told_all : (requests : List Request) (counts : List ℕ) → Ok counts → RoundClaims regions answer costs counts requests
  told_all [] counts ok = tt
  told_all (request ∷ requests) counts ok = (told counts request ok, told_all requests (answer request counts).counts (ok_left counts request ok))

  pub steady_all : (requests : List Request) (counts : List ℕ) → Ok counts → Steady g counts (left_by_all regions answer costs counts requests)
  steady_all [] counts ok = steady_same g counts
  steady_all (request ∷ requests) counts ok =
      steady_then (steady_round counts request ok) (steady_all requests (answer request counts).counts (ok_left counts request ok))

  -- ---- the theorem
  pub rounds_as_demanded : (counts : List ℕ) (requests : List Request) → T (accepted places (length counts) regions) → Demand regions answer costs counts requests
  rounds_as_demanded counts requests t =
      record {
        bottom_top = λ r h. both_ways steady (r * 2) (constraint_at places (region_count places regions) regions r h).0;
        right_left = λ r h. both_ways steady (suc (r * 2)) (constraint_at places (region_count places regions) regions r h).1;
        rounds = told_all requests counts ok;
      }
    where
      ok : Ok counts
      ok = accepted_ok places (length counts) regions t

      steady : Steady g counts (left_by_all regions answer costs counts requests)
      steady = steady_all requests counts ok

-- ---- the public rounds, of either kind

abbrev pub test_of : List ℕ → Request → List ℕ → Verdict
test_of regions request counts = round_test places regions request.spacing counts (expansions request.limit)

abbrev pub limit_of : Request → ℕ
limit_of request = expansions request.limit

pub answer_to_is : (regions : List ℕ) (request : Request) (counts : List ℕ)
    → answer_to regions request counts ≡ round_with places (test_of regions request counts) (request_costs request) regions counts (limit_of request)
unfolding round
answer_to_is regions request counts = refl

-- Demand 3's claim on the public rounds: for accepted regions, any starting counts and any list of rounds, each of either kind, its limit stated
-- or not.
pub demand_3_rounds : (regions counts : List ℕ) (requests : List Request) → T (accepted places (length counts) regions)
    → Demand regions (answer_to regions) request_costs counts requests
demand_3_rounds regions counts requests t = rounds_as_demanded regions (answer_to regions) request_costs (test_of regions) limit_of (answer_to_is regions) counts requests t
