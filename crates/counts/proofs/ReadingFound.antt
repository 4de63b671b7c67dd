-- Every unit move has a reading: 01, "Unit moves", says of its edges that they form a chain or a loop.
--
-- Proof idea. Call two changed edges neighbours if they share a constraint. A constraint that holds a changed edge holds just two, and an edge
-- is in at most two constraints: so an edge has no three neighbours, since each of them would be in another constraint with it (`crowded`).
-- Keep a path of changes, each a neighbour of the next, and the rest of the move; at the beginning the path is any one change. While the first
-- edge of the path has a neighbour in the rest, put that one before it (`grow`). The edge that was first now has a neighbour before it and one
-- behind it, so it has none in the rest. Only the last edge of the path has nothing behind it, and may still have a neighbour there. When the
-- first edge has none, turn the path round and grow it once more. Now no edge of the path has a neighbour in the rest. The edges of a move are
-- joined by neighbours, so that the rest has no edge, and the path lists the whole move. Assumes nothing.
use mathlib.Core.Logic.{◌≢◌, ◌⊎◌, inl, inr}
use mathlib.Core.Path.{◌≡◌, refl, sym, ap, subst, ◌∙◌}
use mathlib.Core.Bool.{Bool}
use mathlib.Core.List.{List, [], ◌∷◌, ◌++◌, append_assoc, reverse_aux, reverse_aux-eq}
use Prim.Native.Nat.{ℕ, zero, suc, ◌≤◌}
use native.Mathlib.Omega.{arith}
use lib.ListN.{length, length-append}
use lib.Dec.{T}
use Rattle.base.specs.Lists.{In, Distinct}
use Rattle.regions.specs.Region.{Constraint, constraint, holds, places, graph}
use Rattle.regions.specs.Accept.{accepted}
use Rattle.counts.specs.Move.{Change, edges, select, share, Joined, same, next, UnitMove, Linked, last_edge, Rearranged, ReadingOf}
use Rattle.base.proofs.BoolLaws.{by_cases, clash}
use Rattle.base.proofs.ListLaws.{member→in, in→member, in_left, in_right, in_split}
use Rattle.counts.proofs.MoveLaws.{edges_in, edge_of, later_differs, select_in, share_sym, link}
use Rattle.counts.proofs.Complete.{Thin}
use Rattle.counts.proofs.Accepted.{three, accepted_ok}
use Rattle.counts.proofs.Rearranged.{rearranged_refl, rearranged_trans, rearranged_front, rearranged_turn, rearranged_reverse}
use Rattle.counts.proofs.Rearranged.{distinct_front, distinct_turn, distinct_left, parts_differ, linked_reverse, settled_few, move_rearranged}

-- ---- a list turned round
-- the changes m from the last to the first, then f and t: what it begins and ends with
record Turned (f : Change) (m t : List Change) : Type 0 where
  first : Change
  others : List Change
  is : reverse_aux m (f ∷ t) ≡ first ∷ others
  begins : first.0 ≡ last_edge f m
  ends : last_edge first others ≡ last_edge f t

turned : (f : Change) (m t : List Change) → Turned f m t
turned f [] t = record { first = f; others = t; is = refl; begins = refl; ends = refl }
turned f (y ∷ m) t =
    let u = turned y m (f ∷ t) in
    record { first = u.first; others = u.others; is = u.is; begins = u.begins; ends = u.ends }

-- ---- a change that passes a test, and what stands before it and behind it
record Found (p : Change → Bool) (l : List Change) : Type 0 where
  before : List Change
  one : Change
  after : List Change
  is : l ≡ before ++ one ∷ after
  passes : T (p one)

seek : (p : Change → Bool) (l : List Change) → Found p l ⊎ ((y : Change) → In y l → T (p y) → ⊥)
seek p [] = inr (λ y i t. i)
seek p (z ∷ l) =
    by_cases (p z)
    (λ t. inl (record { before = []; one = z; after = l; is = refl; passes = t }))
    (λ n. elim (seek p l) [
      | inl f ↦ inl (record { before = z ∷ f.before; one = f.one; after = f.after; is = ap (λ (k : List Change). z ∷ k) f.is; passes = f.passes })
      | inr h ↦ inr (λ y i t. elim i [ inl q ↦ clash (p z) (rw q at t) n | inr j ↦ h y j t ])
    ])

-- ---- neighbours
-- x has no neighbour in the list
abbrev Free : List Constraint → List Change → ℕ → Type 0
Free g l x = (y : Change) → In y l → T (share g x y.0) → ⊥

-- a path, f first, and the rest: together they list the move, and in the path only the first and the last may have a neighbour in the rest
record Path (g : List Constraint) (r : List Change) (f : Change) (m rest : List Change) : Type 0 where
  linked : Linked g (f ∷ m)
  lists : Rearranged r (f ∷ m ++ rest)
  distinct : Distinct (edges (f ∷ m ++ rest))
  inner : (a : Change) → In a m → Free g rest a.0 ⊎ (a.0 ≡ last_edge f m)

-- a path grown at its front as far as can be
record Grown (g : List Constraint) (r : List Change) (f : Change) (m rest : List Change) : Type 0 where
  first : Change
  others : List Change
  left : List Change
  path : Path g r first others left
  stuck : Free g left first.0
  ending : last_edge first others ≡ last_edge f m
  fewer : (z : Change) → In z left → In z rest

module _ (g : List Constraint) (counts : List ℕ) (r : List Change) (thin : Thin g) (move : UnitMove g counts r) where
  -- no constraint holds three changed edges
  no_three : (i : ℕ) (a b c : Change) → In a r → In b r → In c r
      → T (holds (constraint g i) a.0) → T (holds (constraint g i) b.0) → T (holds (constraint g i) c.0)
      → a.0 ≢ b.0 → b.0 ≢ c.0 → a.0 ≢ c.0 → ⊥
  no_three i a b c ia ib ic ha hb hc =
      three (edges (select p r)) (settled_few (constraint g i) (select p r) (move.two i)) a.0 b.0 c.0 (held a ia ha) (held b ib hb) (held c ic hc)
    where
      p : ℕ → Bool
      p = holds (constraint g i)

      held : (z : Change) → In z r → T (holds (constraint g i) z.0) → In z.0 (edges (select p r))
      held z j h = edges_in z (select p r) (select_in p z r j h)

  -- constraints of one edge with two neighbours are two constraints
  other_constraint : (i j : ℕ) (a b c : Change) → In a r → In b r → In c r
      → T (holds (constraint g i) a.0) → T (holds (constraint g i) b.0) → T (holds (constraint g j) c.0)
      → a.0 ≢ b.0 → b.0 ≢ c.0 → a.0 ≢ c.0 → i ≢ j
  other_constraint i j a b c ia ib ic ha hb hc ab bc ac e = no_three i a b c ia ib ic ha hb (rw e hc) ab bc ac

  -- no edge has three neighbours
  pub crowded : (a b c d : Change) → In a r → In b r → In c r → In d r → T (share g a.0 b.0) → T (share g a.0 c.0) → T (share g a.0 d.0)
      → a.0 ≢ b.0 → a.0 ≢ c.0 → a.0 ≢ d.0 → b.0 ≢ c.0 → c.0 ≢ d.0 → b.0 ≢ d.0 → ⊥
  crowded a b c d ia ib ic id sb sc sd ab ac ad bc cd bd =
      let i = link g a.0 b.0 sb in
      let j = link g a.0 c.0 sc in
      let k = link g a.0 d.0 sd in
      thin a.0 i.0 j.0 k.0 i.1 j.1 k.1
      (other_constraint i.0 j.0 a b c ia ib ic i.1 i.2 j.2 ab bc ac)
      (other_constraint j.0 k.0 a c d ia ic id j.1 j.2 k.2 ac cd ad)
      (other_constraint i.0 k.0 a b d ia ib id i.1 i.2 k.2 ab bd ad)

  -- ---- one more change at the front
  -- a first edge that got one before it: it has no neighbour in what is left, or is the last as well
  was_first : (w f : Change) (m left : List Change) → Linked g (w ∷ f ∷ m) → Rearranged r (w ∷ f ∷ m ++ left) → Distinct (edges (w ∷ f ∷ m ++ left))
      → Free g left f.0 ⊎ (f.0 ≡ last_edge f m)
  was_first w f [] left l e d = inr refl
  was_first w f (b ∷ m) left l e d = inl (λ y i s.
      let j = in_right y m left i in
      let fw = later_differs w (f ∷ b ∷ m ++ left) d f (inl refl) in
      let bw = later_differs w (f ∷ b ∷ m ++ left) d b (inr (inl refl)) in
      let yw = later_differs w (f ∷ b ∷ m ++ left) d y (inr (inr j)) in
      let bf = later_differs f (b ∷ m ++ left) d.1 b (inl refl) in
      let yf = later_differs f (b ∷ m ++ left) d.1 y (inr j) in
      let yb = later_differs b (m ++ left) d.1.1 y j in
      crowded f b w y ((e f).1 (inr (inl refl))) ((e b).1 (inr (inr (inl refl)))) ((e w).1 (inl refl)) ((e y).1 (inr (inr (inr j))))
      l.1.0 (share_sym g w.0 f.0 l.0) s
      (λ q. bf (sym q)) fw (λ q. yf (sym q)) bw (λ q. yw (sym q)) (λ q. yb (sym q)))

  -- w, found in the rest between a and b, put before f
  longer : {f : Change} {m : List Change} (a : List Change) (w : Change) (b : List Change) → T (share g f.0 w.0) → Path g r f m (a ++ w ∷ b)
      → Path g r w (f ∷ m) (a ++ b)
  longer {f} {m} a w b s p =
      record {
        linked = l;
        lists = e;
        distinct = d;
        inner = λ z i. elim i [
          | inl q ↦ rw q (was_first w f m (a ++ b) l e d)
          | inr j ↦ elim (p.inner z j) [
            | inl u ↦ inl (λ y k. u y ((rearranged_front a w b y).1 (inr k)))
            | inr u ↦ inr u
          ]
        ];
      }
    where
      l : Linked g (w ∷ f ∷ m)
      l = (share_sym g f.0 w.0 s, p.linked)

      e : Rearranged r (w ∷ f ∷ m ++ (a ++ b))
      e =
          rw (← (append_assoc m a b))
          (rearranged_trans r ((f ∷ m ++ a) ++ w ∷ b) (w ∷ (f ∷ m ++ a) ++ b) (rw (append_assoc m a (w ∷ b)) p.lists) (rearranged_front (f ∷ m ++ a) w b))

      d : Distinct (edges (w ∷ f ∷ m ++ (a ++ b)))
      d = rw (← (append_assoc m a b)) (distinct_front (f ∷ m ++ a) w b (rw (append_assoc m a (w ∷ b)) p.distinct))

  -- n bounds how many can still be put there
  grow : (n : ℕ) (f : Change) (m rest : List Change) → length rest ≤ n → Path g r f m rest → Grown g r f m rest
  grow zero f m [] h p = record { first = f; others = m; left = []; path = p; stuck = λ y i. absurd i; ending = refl; fewer = λ z i. i }
  grow zero f m (z ∷ rest) h p = absurd (omega arith)
  grow (suc n) f m rest h p = elim (seek (λ (y : Change). share g f.0 y.0) rest) [
    | inl u ↦ (
        let a = u.before in
        let w = u.one in
        let b = u.after in
        let size : length rest ≡ suc (length (a ++ b)) = ap length u.is ∙ simp length-append (omega arith) in
        let more = grow n w (f ∷ m) (a ++ b) (omega arith) (longer a w b u.passes (rw u.is at p)) in
        record {
          first = more.first;
          others = more.others;
          left = more.left;
          path = more.path;
          stuck = more.stuck;
          ending = more.ending;
          fewer = λ z i. rw u.is ((rearranged_front a w b z).1 (inr (more.fewer z i)));
        })
    | inr u ↦ record { first = f; others = m; left = rest; path = p; stuck = u; ending = refl; fewer = λ z i. i }
  ]

  -- ---- the path turned round
  from_the_other_end : {f : Change} {m rest : List Change} → Path g r f m rest → Free g rest f.0 → (t : Turned f m []) → Path g r t.first t.others rest
  from_the_other_end {f} {m} {rest} p u t =
      record {
        linked = rw t.is at (linked_reverse g (f ∷ m) p.linked);
        lists = rearranged_trans r (f ∷ m ++ rest) (t.first ∷ t.others ++ rest) p.lists
            (rw e at (rearranged_turn (f ∷ m) rest));
        distinct = d;
        inner = λ a i. inl (elim (back a (inr i)) [
          | inl q ↦ rw q u
          | inr j ↦ elim (p.inner a j) [
            | inl v ↦ v
            | inr v ↦ absurd (later_differs t.first (t.others ++ rest) d a (in_left a t.others rest i) (v ∙ sym t.begins))
          ]
        ]);
      }
    where
      e : reverse_aux (f ∷ m) rest ≡ t.first ∷ t.others ++ rest
      e = rw (reverse_aux-eq, t.is)

      d : Distinct (edges (t.first ∷ t.others ++ rest))
      d = rw e at (distinct_turn (f ∷ m) rest p.distinct)

      back : (a : Change) → In a (t.first ∷ t.others) → In a (f ∷ m)
      back a i = (rearranged_reverse (f ∷ m) a).1 (rw t.is i)

  -- ---- where no edge of the path has a neighbour in the rest, the path has all edges
  module _ {f : Change} {m rest : List Change} (p : Path g r f m rest) (free : (a : Change) → In a (f ∷ m) → Free g rest a.0) where
    reached : (x y : ℕ) → Joined g (edges r) x y → In x (edges (f ∷ m)) → In y (edges (f ∷ m))
    reached x y (same _) i = i
    reached x y (next _ w _ j t s) i =
        let u = edge_of w (f ∷ m) (reached x w j i) in
        let v = edge_of y r (member→in y (edges r) t) in
        elim (in_split v.0 (f ∷ m) rest ((p.lists v.0).0 v.1)) [
          | inl k ↦ subst (λ (z : ℕ). In z (edges (f ∷ m))) v.2 (edges_in v.0 (f ∷ m) k)
          | inr k ↦ absurd (free u.0 u.1 v.0 k
              (rw u.2 (rw v.2 s)))
        ]

    all_in : (z : Change) → In z r → In z (f ∷ m)
    all_in z i = elim (in_split z (f ∷ m) rest ((p.lists z).0 i)) [
      | inl k ↦ k
      | inr k ↦ (
          let j = move.joined f.0 z.0 (in→member f.0 (edges r) (edges_in f r ((p.lists f).1 (inl refl)))) (in→member z.0 (edges r) (edges_in z r i)) in
          let u = edge_of z.0 (f ∷ m) (reached f.0 z.0 j (inl refl)) in
          absurd (parts_differ (f ∷ m) rest p.distinct u.0 z u.1 k u.2))
    ]

    reads_all : ReadingOf g counts r (f ∷ m)
    reads_all =
        let e : Rearranged r (f ∷ m) = λ z. (all_in z, λ i. (p.lists z).1 (in_left z (f ∷ m) rest i)) in
        record { lists = e; reads = record { move = move_rearranged move e (distinct_left (f ∷ m) rest p.distinct); linked = p.linked } }

  -- ---- grown, turned round and grown again
  both_ways : {f : Change} {m rest : List Change} → Path g r f m rest → (q : List Change) × ReadingOf g counts r q
  both_ways {f} {m} {rest} p = (
    b.first ∷ b.others,
    reads_all b.path (λ z i. elim i [
      | inl q ↦ rw q b.stuck
      | inr j ↦ elim (b.path.inner z j) [
        | inl u ↦ u
        | inr u ↦ rw (u, b.ending, t.ends) (λ y k. a.stuck y (b.fewer y k))
      ]
    ]),
  )
    where
      a : Grown g r f m rest
      a = grow (length rest) f m rest (omega arith) p

      t : Turned a.first a.others []
      t = turned a.first a.others []

      b : Grown g r t.first t.others a.left
      b = grow (length a.left) t.first t.others a.left (omega arith) (from_the_other_end a.path a.stuck t)

-- ---- every unit move has a reading
pub reading_found : (g : List Constraint) (counts : List ℕ) (r : List Change) → Thin g → UnitMove g counts r → (q : List Change) × ReadingOf g counts r q
reading_found g counts [] thin move = absurd (let s = move.some in omega arith)
reading_found g counts (z ∷ r) thin move =
    let alone : Path g (z ∷ r) z [] r = record { linked = tt; lists = rearranged_refl (z ∷ r); distinct = move.distinct; inner = λ a i. absurd i } in
    both_ways g counts (z ∷ r) thin move alone

-- so also in accepted regions
pub reading_in_regions : (regions counts : List ℕ) (r : List Change) → T (accepted places (length counts) regions) → UnitMove (graph places regions) counts r
    → (q : List Change) × ReadingOf (graph places regions) counts r q
reading_in_regions regions counts r t = reading_found (graph places regions) counts r (accepted_ok places (length counts) regions t).thin
