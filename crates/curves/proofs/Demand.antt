-- Demand 3, whole. The rounds are counts' `demand_3_rounds`. A tile's seams are one longer than its sides add up to, or, where both sides of a pair
-- are empty, two long; an accepted solve leaves opposite sides that add up to the same, and each round keeps their difference. So opposite seams are
-- equally long, and no other test refuses with 22. Assumes nothing.
use mathlib.Core.Logic.{inl, inr}
use mathlib.Core.Path.{◌≡◌, refl, sym, ap, subst, ◌∙◌}
use mathlib.Core.Bool.{◌||◌}
use mathlib.Core.List.{List, [], ◌∷◌}
use Prim.Native.Nat.{ℕ, suc, ◌*◌, ◌≤◌, ◌<◌, min}
use native.Mathlib.Omega.{arith}
use lib.ListN.{length, get_or, take, drop, length-take}
use lib.Seq.{get_or-take, take-take, take_at}
use lib.Dec.{T, eqb, lt→ltb, ltb→lt}
use lib.Ieee.{Float}
use Rattle.std.specs.Prelude.{Option}
use Rattle.base.specs.Refusal.{is_passed}
use Rattle.base.specs.Lists.{In, member}
use Rattle.regions.specs.Region.{Constraint, constraint, places, region_count, graph, side, side_sum, empty_pair}
use Rattle.counts.specs.Round.{solve_zeros}
use Rattle.counts.specs.Cost.{Spacing, costs_of, edges_of}
use Rattle.counts.specs.Solver.{expansions, solve}
use Rattle.counts.specs.Demand.{Request, answer_to, request_costs, left_by_all, Balanced, sum_of}
use Rattle.counts.proofs.Accepted.{Accepted, accepted_ok}
use Rattle.base.proofs.BoolLaws.{clash, eq→eqb, or_left, or_right}
use Rattle.regions.proofs.accept.Record.{same_sides}
use Rattle.regions.proofs.region.Pairs.{pair_same}
use Rattle.base.proofs.ListLaws.{in→member}
use Rattle.counts.proofs.Rounds.{Steady, steady_all, constraint_at, demand_3_rounds, test_of, limit_of, answer_to_is}
use Rattle.counts.proofs.Solving.{SolveIs, solve_is, solve_balanced, level_solved}
use Rattle.curves.specs.Lay.{TileInput, seams_of, seam_of, lay}
use Rattle.curves.specs.Demand.{record_of, Alike, Handed, Demand_3}
use Rattle.curves.proofs.Clear.{EqualSeams, lay_clear}
use Rattle.curves.proofs.lay.Laws.{equally_long}

-- ---- more counts than edges do no harm

wider : (n m : ℕ) (g : List Constraint) → n ≤ m → Accepted n g → Accepted m g
wider n m g h ok =
    record {
      constraint_ok = λ i. record {
        inside = λ x t. lt→ltb x m (let l = ltb→lt x n ((ok.constraint_ok i).inside x t) in omega arith);
        once_a = (ok.constraint_ok i).once_a;
        once_b = (ok.constraint_ok i).once_b;
        sided = (ok.constraint_ok i).sided;
      };
      thin = ok.thin;
    }

-- counts that begin alike give a side of edges below n the same sum
sum_alike : (n : ℕ) (counts others side : List ℕ) → Alike n counts others → ((x : ℕ) → In x side → x < n) → side_sum counts side ≡ side_sum others side
sum_alike n counts others [] e h = refl
sum_alike n counts others (x ∷ side) e h =
    let b = h x (inl refl) in
    let p : get_or counts x 0 ≡ get_or others x 0 = sym (get_or-take n counts x 0 b) ∙ ap (λ (l : List ℕ). get_or l x 0) e ∙ get_or-take n others x 0 b in
    let q = sum_alike n counts others side e (λ y i. h y (inr i)) in
    omega arith

-- ---- counts handed to lay balance in every region

module _ (regions counts : List ℕ) (h : Handed regions counts) where
  abbrev n : ℕ
  n = edges_of h.spacing

  abbrev g : List Constraint
  g = graph places regions

  abbrev limit : ℕ
  limit = expansions h.limit

  abbrev written : List ℕ
  written = (solve regions h.spacing h.lent limit).counts

  abbrev after : List ℕ
  after = left_by_all regions (answer_to regions) request_costs h.begun h.requests

  is : SolveIs regions h.spacing h.lent limit
  is = solve_is regions h.spacing h.lent limit h.accepted_solve

  ok : Accepted n g
  ok = accepted_ok places n regions is.regions_accepted

  -- there are at least as many counts as the solve had edges
  long : n ≤ length h.begun
  long =
      let part = (solve_zeros g (costs_of h.spacing) limit n).counts in
      let l = (level_solved g n ok (costs_of h.spacing) limit).long in
      let w : take n written ≡ part = ap (take n) is.counts_are ∙ take_at part (drop n h.lent) n l in
      let e : min n (length h.begun) ≡ n = sym (length-take n h.begun) ∙ ap length (h.wrote ∙ w) ∙ l in
      omega arith

  steady : Steady g h.begun after
  steady =
      steady_all regions (answer_to regions) request_costs (test_of regions) limit_of (answer_to_is regions)
      h.requests h.begun (wider n (length h.begun) g long ok)

  below : (i x : ℕ) → T (member x (constraint g i).a || member x (constraint g i).b) → x < n
  below i x t = ltb→lt x n ((ok.constraint_ok i).inside x t)

  -- what the solve wrote balances, and so does what is left of it
  still_even : (i : ℕ) (c : Constraint) → constraint g i ≡ c → side_sum written c.a ≡ side_sum written c.b → side_sum counts c.a ≡ side_sum counts c.b
  still_even i c e =
      subst (λ (c : Constraint). side_sum written c.a ≡ side_sum written c.b → side_sum counts c.a ≡ side_sum counts c.b) e
      (λ even.
      let w1 = sum_alike n h.begun written a h.wrote below_a in
      let w2 = sum_alike n h.begun written b h.wrote below_b in
      let l1 = sum_alike n counts after a h.left below_a in
      let l2 = sum_alike n counts after b h.left below_b in
      let d = steady.difference i in
      omega arith)
    where
      a : List ℕ
      a = (constraint g i).a

      b : List ℕ
      b = (constraint g i).b

      below_a : (x : ℕ) → In x a → x < n
      below_a x m = below i x (or_left (member x a) (member x b) (in→member x a m))

      below_b : (x : ℕ) → In x b → x < n
      below_b x m = below i x (or_right (member x a) (member x b) (in→member x b m))

  pub handed_balanced : Balanced regions counts
  handed_balanced =
      let b = solve_balanced regions h.spacing h.lent h.limit h.accepted_solve in
      record {
        bottom_top = λ r l. still_even (r * 2) _ (constraint_at places (region_count places regions) regions r l).0 (b.bottom_top r l);
        right_left = λ r l. still_even (suc (r * 2)) _ (constraint_at places (region_count places regions) regions r l).1 (b.right_left r l);
      }

-- ---- the two ways to hand on what an accepted solve wrote, each with any list of rounds: the whole lent buffer, or the part that was written

pub whole_buffer : (regions : List ℕ) (spacing : Spacing) (lent : List ℕ) (limit : Option ℕ) (requests : List Request)
    → T (is_passed (solve regions spacing lent (expansions limit)).verdict)
    → Handed regions (left_by_all regions (answer_to regions) request_costs (solve regions spacing lent (expansions limit)).counts requests)
whole_buffer regions spacing lent limit requests t =
    record {
      spacing = spacing;
      lent = lent;
      limit = limit;
      accepted_solve = t;
      begun = (solve regions spacing lent (expansions limit)).counts;
      wrote = refl;
      requests = requests;
      left = refl;
    }

pub written_part : (regions : List ℕ) (spacing : Spacing) (lent : List ℕ) (limit : Option ℕ) (requests : List Request)
    → T (is_passed (solve regions spacing lent (expansions limit)).verdict)
    → Handed regions (left_by_all regions (answer_to regions) request_costs
    (take (edges_of spacing) (solve regions spacing lent (expansions limit)).counts) requests)
written_part regions spacing lent limit requests t =
    let n = edges_of spacing in
    let out = (solve regions spacing lent (expansions limit)).counts in
    record {
      spacing = spacing;
      lent = lent;
      limit = limit;
      accepted_solve = t;
      begun = take n out;
      wrote = take-take n n out (omega arith);
      requests = requests;
      left = refl;
    }

-- ---- the theorem

-- opposite seams of a tile are equally long
equal_seams : (regions counts : List ℕ) → Handed regions counts → (r : ℕ) → r < region_count places regions → (f : TileInput)
    → EqualSeams (seams_of (record_of regions r) counts f)
equal_seams regions counts h r l f =
    record {
      bottom_top = alike 0 2 f.breaks0 f.breaks2 (omega arith) (omega arith) (pair_same places region 0 2 refl refl) (b.bottom_top r l);
      left_right = alike 3 1 f.breaks3 f.breaks1 (omega arith) (omega arith) (pair_same places region 3 1 refl refl) (sym (b.right_left r l));
    }
  where
    b : Balanced regions counts
    b = handed_balanced regions counts h

    region : List ℕ
    region = record_of regions r

    same_sum : (k : ℕ) → k < 4 → side_sum counts (side places region k) ≡ sum_of regions counts r k
    same_sum k j =
        ap (side_sum counts) (same_sides places (edges_of h.spacing) regions (is regions counts h).regions_accepted r l k j)

    alike : (j k : ℕ) (breaks others : List Float) → j < 4 → k < 4 → empty_pair places region j ≡ empty_pair places region k
        → sum_of regions counts r j ≡ sum_of regions counts r k → length (seam_of region counts j breaks) ≡ length (seam_of region counts k others)
    alike j k breaks others p q same e = equally_long region counts j k breaks others same (same_sum j p ∙ e ∙ sym (same_sum k q))

pub demand_3 : (regions : List ℕ) → Demand_3 regions
demand_3 regions =
    record {
      rounds = λ counts requests t. demand_3_rounds regions counts requests t;
      tiles = λ counts h r l f out e.
          let v = (lay (record_of regions r) counts f out).verdict.number in
          clash (eqb v 22) (eq→eqb v 22 e) (lay_clear (record_of regions r) counts f out (equal_seams regions counts h r l f)).other;
    }
