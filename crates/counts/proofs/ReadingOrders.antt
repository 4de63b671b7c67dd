-- The readings of a unit move are those that 01 names: "a chain from either end, a loop from any edge either way".
--
-- Proof idea. Each of them is a reading. It lists the same changes, so it lists the same move. From the other end, neighbours still share a
-- constraint. A loop can be turned edge by edge, the first becoming the last, since these two share a constraint as well.
--
-- There is no other. Call two changed edges neighbours if they share a constraint. No edge has three neighbours (`crowded`), so an edge inside
-- a reading has none but the one before it and the one after it (`between`). Three facts follow.
-- First: two readings of a move that begin with the same two edges are the same. For the third edge of both is the other neighbour of the
-- second, and so on (`agree`).
-- Second: if two edges of a reading are neighbours and do not follow one another in it, then one is its first and one its last (`begins`,
-- `ends`), so that it is a loop.
-- Third: two readings of a move that begin with the same edge are the same, or the one is a loop and the other goes around it the other way.
-- For if their second edges differ, the second edge of the other is a neighbour of the first edge, further on in the one. By the second fact
-- it is the last there, and the one is a loop. Read around the other way it begins with the same two edges as the other (`from_edge`).
--
-- Now let q be a reading of the move that r reads, and z the edge that q begins with. If z is the first of r, the third fact is what we want.
-- If z is the last, it is the first of r read from the end. Else r has edges before z and edges after z. The rest of q goes through all of
-- them and not through z, so somewhere it steps from one part to the other (`cross`). By the second fact r is a loop. It can be read from z,
-- and the third fact applies to that reading. Assumes nothing.
use mathlib.Core.Logic.{◌≢◌, ◌⊎◌, ◌↔◌, inl, inr, ⊎_swap}
use mathlib.Core.Path.{◌≡◌, refl, sym, ap, subst, ◌∙◌}
use mathlib.Core.List.{List, [], ◌∷◌, ◌++◌, reverse, append-nil, append_assoc, reverse-append, reverse-cons, reverse-reverse}
use Prim.Native.Nat.{ℕ}
use native.Mathlib.Omega.{arith}
use lib.ListN.{length}
use lib.Seq.{append_snoc}
use lib.Dec.{T}
use Rattle.base.specs.Lists.{In, Distinct}
use Rattle.regions.specs.Region.{Constraint, places, graph}
use Rattle.regions.specs.Accept.{accepted}
use Rattle.counts.specs.Move.{Change, edges, share, UnitMove, Linked, Reading, Rearranged, ReadingOf, last_edge, Loop}
use Rattle.counts.specs.Move.{ReadAs, as_listed, from_the_end, around, around_the_other_way}
use Rattle.base.proofs.ListLaws.{in_right, in_split}
use Rattle.counts.proofs.MoveLaws.{later_differs, share_sym}
use Rattle.counts.proofs.Complete.{Thin}
use Rattle.counts.proofs.Accepted.{accepted_ok}
use Rattle.counts.proofs.Rearranged.{rearranged_refl, rearranged_sym, rearranged_trans, rearranged_swap, rearranged_reverse}
use Rattle.counts.proofs.Rearranged.{distinct_left, distinct_swap, distinct_reverse, parts_differ, linked_reverse, move_rearranged}
use Rattle.counts.proofs.ReadingFound.{crowded}

-- ---- lists of changes
put_first : (z : Change) {l m : List Change} → l ≡ m → z ∷ l ≡ z ∷ m
put_first z e = rw e

-- where a change stands
place : (z : Change) (l : List Change) → In z l → (p : List Change) × (s : List Change) × (l ≡ p ++ z ∷ s)
place z [] i = elim i [ ]
place z (x ∷ l) (inl e) = ([], l, ap {B = List Change} (λ y. y ∷ l) (sym e))
place z (x ∷ l) (inr i) = let f = place z l i in (x ∷ f.0, f.1, put_first x f.2)

distinct_right : (p q : List Change) → Distinct (edges (p ++ q)) → Distinct (edges q)
distinct_right p q d = distinct_left q p (distinct_swap p q d)

reverse_snoc : (l : List Change) (z : Change) → reverse (l ++ z ∷ []) ≡ z ∷ reverse l
reverse_snoc l z = reverse-append l (z ∷ [])

last_edge_append : (x : Change) (p : List Change) (z : Change) (s : List Change) → last_edge x (p ++ z ∷ s) ≡ last_edge z s
last_edge_append x [] z s = refl
last_edge_append x (y ∷ p) z s = last_edge_append y p z s

-- after the same first change the same changes are left
rest_in : (x : Change) (l m : List Change) → Distinct (edges (x ∷ l)) → Rearranged (x ∷ l) (x ∷ m) → (z : Change) → In z l → In z m
rest_in x l m d e z i = elim ((e z).0 (inr i)) [ inl q ↦ absurd (later_differs x l d z i (ap (λ (k : Change). k.0) q)) | inr j ↦ j ]

rest_rearranged : (x : Change) (l m : List Change) → Distinct (edges (x ∷ l)) → Distinct (edges (x ∷ m)) → Rearranged (x ∷ l) (x ∷ m) → Rearranged l m
rest_rearranged x l m dl dm e z = (rest_in x l m dl e z, rest_in x m l dm (rearranged_sym (x ∷ l) (x ∷ m) e) z)

-- ---- neighbours that share a constraint
module _ (g : List Constraint) where
  linked_right : (p q : List Change) → Linked g (p ++ q) → Linked g q
  linked_right [] q k = k
  linked_right (x ∷ []) [] k = k
  linked_right (x ∷ []) (y ∷ q) k = k.1
  linked_right (x ∷ y ∷ p) q k = linked_right (y ∷ p) q k.1

  linked_after : (x : Change) (l : List Change) (y : Change) → Linked g (x ∷ l) → T (share g (last_edge x l) y.0) → Linked g (x ∷ l ++ y ∷ [])
  linked_after x [] y k t = (t, tt)
  linked_after x (w ∷ l) y k t = (k.0, linked_after w l y k.1 t)

  -- a loop whose first edge becomes the last
  linked_turned : (y : Change) (l : List Change) → Linked g (y ∷ l) → Loop g (y ∷ l) → Linked g (l ++ y ∷ [])
  linked_turned y [] k o = k
  linked_turned y (x ∷ l) k o = linked_after x l y k.1 (share_sym g y.0 (last_edge x l) o)

  loop_turned : (y : Change) (l : List Change) → Linked g (y ∷ l) → Loop g (y ∷ l) → Loop g (l ++ y ∷ [])
  loop_turned y [] k o = o
  loop_turned y (x ∷ l) k o = rw (last_edge_append x l y []) (share_sym g y.0 x.0 k.0)

  linked_around : (p q : List Change) → Linked g (p ++ q) → Loop g (p ++ q) → Linked g (q ++ p)
  linked_around [] q k o = rw (append-nil q) k
  linked_around (y ∷ p) q k o =
      let e = append_assoc p q (y ∷ []) in
      rw (append_snoc q y p) at (linked_around p (q ++ y ∷ [])
      (rw e at (linked_turned y (p ++ q) k o)) (rw e at (loop_turned y (p ++ q) k o)))

  -- a loop is one from the other end too
  loop_back : (x : Change) (p : List Change) (z : Change) → Loop g (z ∷ reverse (x ∷ p)) → Loop g (x ∷ p ++ z ∷ [])
  loop_back x p z o =
      let e = ap (last_edge z) (reverse-cons x p) ∙ last_edge_append z (reverse p) x [] in
      rw (last_edge_append x p z []) (share_sym g z.0 x.0 (rw e at o))

  -- what goes through p and s alone, begins in p and comes to s, steps from p to s
  cross : (p s : List Change) → ((z : Change) → In z p → In z s → ⊥) → (x : Change) (t : List Change) → Linked g (x ∷ t) → In x p
      → ((z : Change) → In z t → In z p ⊎ In z s) → (y : Change) → In y (x ∷ t) → In y s
      → (a : Change) × (b : Change) × In a p × In b s × T (share g a.0 b.0)
  cross p s n x [] k i h y (inl e) m = absurd (n x i (rw e at m))
  cross p s n x [] k i h y (inr j) m = absurd j
  cross p s n x (w ∷ t) k i h y (inl e) m = absurd (n x i (rw e at m))
  cross p s n x (w ∷ t) k i h y (inr j) m = elim (h w (inl refl)) [
    | inl u ↦ cross p s n w t k.1 u (λ z v. h z (inr v)) y j m
    | inr u ↦ (x, w, i, u, k.0)
  ]

-- ---- no edge has three neighbours
module _ (g : List Constraint) (counts : List ℕ) (r : List Change) (thin : Thin g) (move : UnitMove g counts r) where
  abbrev Within : List Change → Type 0
  Within l = (z : Change) → In z l → In z r

  -- k, with u before it and v after it, has no other neighbour b
  between : (u k v : Change) (l : List Change) → Linked g (u ∷ k ∷ v ∷ l) → Distinct (edges (u ∷ k ∷ v ∷ l)) → Within (u ∷ k ∷ v ∷ l)
      → (b : Change) → In b r → T (share g k.0 b.0) → u.0 ≢ b.0 → k.0 ≢ b.0 → v.0 ≢ b.0 → ⊥
  between u k v l lk d w b i t ub kb vb =
      crowded g counts r thin move k u v b (w k (inr (inl refl))) (w u (inl refl)) (w v (inr (inr (inl refl)))) i
      (share_sym g u.0 k.0 lk.0) lk.1.0 t
      (later_differs u (k ∷ v ∷ l) d k (inl refl)) (λ e. later_differs k (v ∷ l) d.1 v (inl refl) (sym e)) kb
      (λ e. later_differs u (k ∷ v ∷ l) d v (inr (inl refl)) (sym e)) vb ub

  between_ahead : (u k v : Change) (l : List Change) → Linked g (u ∷ k ∷ v ∷ l) → Distinct (edges (u ∷ k ∷ v ∷ l)) → Within (u ∷ k ∷ v ∷ l)
      → (b : Change) → In b l → T (share g k.0 b.0) → ⊥
  between_ahead u k v l lk d w b i t =
      between u k v l lk d w b (w b (inr (inr (inr i)))) t
      (λ e. later_differs u (k ∷ v ∷ l) d b (inr (inr i)) (sym e)) (λ e. later_differs k (v ∷ l) d.1 b (inr i) (sym e))
      (λ e. later_differs v l d.1.1 b i (sym e))

  -- what begins with the same two edges goes on in the same way
  agree : (a b : Change) (l m : List Change) → Linked g (a ∷ b ∷ l) → Linked g (a ∷ b ∷ m) → Distinct (edges (a ∷ b ∷ l)) → Distinct (edges (a ∷ b ∷ m))
      → Within (a ∷ b ∷ l) → Rearranged l m → m ≡ l
  agree a b [] [] kl km dl dm w e = refl
  agree a b [] (y ∷ m) kl km dl dm w e = absurd ((e y).1 (inl refl))
  agree a b (x ∷ l) [] kl km dl dm w e = absurd ((e x).0 (inl refl))
  agree a b (x ∷ l) (y ∷ m) kl km dl dm w e = elim ((e y).1 (inl refl)) [
    | inl q ↦ (
        let kx = subst (λ (z : Change). Linked g (b ∷ z ∷ m)) q km.1 in
        let dx = subst (λ (z : Change). Distinct (edges (b ∷ z ∷ m))) q dm.1 in
        let ex = subst (λ (z : Change). Rearranged (x ∷ l) (z ∷ m)) q e in
        let h = agree b x l m kl.1 kx dl.1 dx (λ z i. w z (inr i)) (rest_rearranged x l m dl.1.1 dx.1 ex) in
        ap {B = List Change} (λ z. z ∷ m) q ∙ put_first x h
        )
    | inr i ↦ absurd (between_ahead a b x l kl dl w y i km.1.0)
  ]

  -- a stands before u, and b after u: if they are neighbours, b is the last
  ends : (a : Change) → In a r → (u : Change) (l : List Change) → Linked g (u ∷ l) → Distinct (edges (u ∷ l)) → Within (u ∷ l)
      → ((z : Change) → In z (u ∷ l) → z.0 ≢ a.0) → (b : Change) → In b l → T (share g a.0 b.0) → (m : List Change) × (l ≡ m ++ b ∷ [])
  ends a ia u [] lk d w n b i t = absurd i
  ends a ia u (k ∷ []) lk d w n b (inl e) t = ([], ap {B = List Change} (λ z. z ∷ []) (sym e))
  ends a ia u (k ∷ []) lk d w n b (inr i) t = absurd i
  ends a ia u (k ∷ v ∷ l) lk d w n b (inl e) t =
      let s = share_sym g a.0 k.0 (rw e at t) in
      absurd (between u k v l lk d w a ia s (n u (inl refl)) (n k (inr (inl refl))) (n v (inr (inr (inl refl)))))
  ends a ia u (k ∷ v ∷ l) lk d w n b (inr i) t =
      let h = ends a ia k (v ∷ l) lk.1 d.1 (λ z j. w z (inr j)) (λ z j. n z (inr j)) b i t in
      (k ∷ h.0, put_first k h.1)

  -- a stands before z, and b after z: if they are neighbours, a is the first
  begins : (x : Change) (p : List Change) (z : Change) (s : List Change) → Linked g (x ∷ p ++ z ∷ s) → Distinct (edges (x ∷ p ++ z ∷ s))
      → Within (x ∷ p ++ z ∷ s) → (a : Change) → In a p → (b : Change) → In b s → T (share g a.0 b.0) → ⊥
  begins x [] z s lk d w a i b j t = i
  begins x (y ∷ []) z s lk d w a (inl e) b j t = between_ahead x y z s lk d w b j (rw e at t)
  begins x (y ∷ []) z s lk d w a (inr i) b j t = i
  begins x (y ∷ n ∷ p) z s lk d w a (inl e) b j t = between_ahead x y n (p ++ z ∷ s) lk d w b (in_right b p (z ∷ s) (inr j)) (rw e at t)
  begins x (y ∷ n ∷ p) z s lk d w a (inr i) b j t = begins y (n ∷ p) z s lk.1 d.1 (λ c m. w c (inr m)) a i b j t

  -- so these neighbours close a loop
  closes : (x : Change) (p : List Change) (z : Change) (s : List Change) → Linked g (x ∷ p ++ z ∷ s) → Distinct (edges (x ∷ p ++ z ∷ s))
      → Within (x ∷ p ++ z ∷ s) → (a : Change) → In a (x ∷ p) → (b : Change) → In b s → T (share g a.0 b.0) → Loop g (x ∷ p ++ z ∷ s)
  closes x p z s lk d w a (inr i) b j t = absurd (begins x p z s lk d w a i b j t)
  closes x p z s lk d w a (inl e) b j t =
      let u = rw e at t in
      let n : (c : Change) → In c (z ∷ s) → c.0 ≢ x.0 = λ c i. later_differs x (p ++ z ∷ s) d c (in_right c p (z ∷ s) i) in
      let v : Within (z ∷ s) = λ c i. w c (in_right c (x ∷ p) (z ∷ s) i) in
      let f = ends x (w x (inl refl)) z s (linked_right g (x ∷ p) (z ∷ s) lk) (distinct_right (x ∷ p) (z ∷ s) d) v n b j u in
      rw (last_edge_append x p z s, f.1, last_edge_append z f.0 b []) u

module _ (g : List Constraint) (counts : List ℕ) where
  -- ---- what 01 names is a reading of the move
  read_reverse : {r q : List Change} → ReadingOf g counts r q → ReadingOf g counts r (reverse q)
  read_reverse {r} {q} f =
      let e = rearranged_reverse q in
      record {
        lists = rearranged_trans r q (reverse q) f.lists e;
        reads = record {
          move = move_rearranged f.reads.move e (distinct_reverse q f.reads.move.distinct);
          linked = linked_reverse g q f.reads.linked;
        };
      }

  read_here : {r : List Change} → Reading g counts r → ReadingOf g counts r r
  read_here {r} h = record { lists = rearranged_refl r; reads = h }

  read_around : (p q : List Change) → Reading g counts (p ++ q) → Loop g (p ++ q) → ReadingOf g counts (p ++ q) (q ++ p)
  read_around p q h o =
      let e = rearranged_swap p q in
      record {
        lists = e;
        reads = record {
          move = move_rearranged h.move e (distinct_swap p q h.move.distinct);
          linked = linked_around g p q h.linked o;
        };
      }

  pub read_as : {r q : List Change} → ReadAs g r q → Reading g counts r → ReadingOf g counts r q
  read_as (as_listed r) h = read_here h
  read_as (from_the_end r) h = read_reverse (read_here h)
  read_as (around p q o) h = read_around p q h o
  read_as (around_the_other_way p q o) h = read_reverse (read_around p q h o)

  -- ---- a reading of the move is one of these
  -- seen from another reading of the move
  rebased : {r r' q : List Change} → ReadingOf g counts r r' → ReadingOf g counts r q → ReadingOf g counts r' q
  rebased {r} {r'} {q} a f = record { lists = rearranged_trans r' r q (rearranged_sym r r' a.lists) f.lists; reads = f.reads }

  module _ (thin : Thin g) where
    from_two : {a b : Change} {l m : List Change} → Reading g counts (a ∷ b ∷ l) → ReadingOf g counts (a ∷ b ∷ l) (a ∷ b ∷ m) → m ≡ l
    from_two {a} {b} {l} {m} h f =
        let dl = h.move.distinct in
        let dm = f.reads.move.distinct in
        agree g counts (a ∷ b ∷ l) thin h.move a b l m h.linked f.reads.linked dl dm (λ z i. i)
        (rest_rearranged b l m dl.1 dm.1 (rest_rearranged a (b ∷ l) (b ∷ m) dl dm f.lists))

    -- from the same edge: the same, or around the other way
    from_edge : (z : Change) (s t : List Change) → Reading g counts (z ∷ s) → ReadingOf g counts (z ∷ s) (z ∷ t)
        → (t ≡ s) ⊎ (Loop g (z ∷ s) × (t ≡ reverse s))
    from_edge z [] [] h f = inl refl
    from_edge z [] (w ∷ t) h f = absurd ((rest_rearranged z [] (w ∷ t) h.move.distinct f.reads.move.distinct f.lists w).1 (inl refl))
    from_edge z (n ∷ s) [] h f = absurd ((rest_rearranged z (n ∷ s) [] h.move.distinct f.reads.move.distinct f.lists n).0 (inl refl))
    from_edge z (n ∷ s) (w ∷ t) h f =
        let r = z ∷ n ∷ s in
        let d = h.move.distinct in
        elim ((rest_rearranged z (n ∷ s) (w ∷ t) d f.reads.move.distinct f.lists w).1 (inl refl)) [
          | inl q ↦ (
              let e = from_two h (rw q at f) in
              inl (ap {B = List Change} (λ k. k ∷ t) q ∙ put_first n e)
              )
          | inr i ↦ (
              let u = f.reads.linked.0 in
              let m = ends g counts r thin h.move z (inl refl) n s h.linked.1 d.1 (λ c j. inr j) (later_differs z (n ∷ s) d) w i u in
              let o = rw (← (last_edge_append n m.0 w []), ← m.1) at u in
              let e = ap {B = List Change} (λ l. reverse (n ∷ l)) m.1 ∙ reverse_snoc (n ∷ m.0) w in
              let v = read_as (around_the_other_way (z ∷ []) (n ∷ s) o) h in
              let back = rw (reverse_snoc (n ∷ s) z, put_first z e) at v in
              let b = from_two back.reads (rebased back f) in
              inr (o, put_first w b ∙ sym e)
              )
        ]

    -- from an edge inside: a loop
    from_inside : (x : Change) (p : List Change) (z y : Change) (s t : List Change) → Reading g counts (x ∷ p ++ z ∷ y ∷ s)
        → ReadingOf g counts (x ∷ p ++ z ∷ y ∷ s) (z ∷ t) → Loop g (x ∷ p ++ z ∷ y ∷ s)
    from_inside x p z y s t h f =
        go t f.reads.linked sides (comes x (inl refl) (parts x z (inl refl) (inl refl)))
        (comes y (in_right y (x ∷ p) (z ∷ y ∷ s) (inr (inl refl))) (later_differs z (y ∷ s) (distinct_right (x ∷ p) (z ∷ y ∷ s) d) y (inl refl)))
      where
        d : Distinct (edges (x ∷ p ++ z ∷ y ∷ s))
        d = h.move.distinct

        parts : (a b : Change) → In a (x ∷ p) → In b (z ∷ y ∷ s) → a.0 ≢ b.0
        parts = parts_differ (x ∷ p) (z ∷ y ∷ s) d

        both : (c : Change) → In c (x ∷ p) → In c (y ∷ s) → ⊥
        both c i j = parts c c i (inr j) refl

        comes : (c : Change) → In c (x ∷ p ++ z ∷ y ∷ s) → c.0 ≢ z.0 → In c t
        comes c i n = elim ((f.lists c).0 i) [ inl e ↦ absurd (n (ap (λ (k : Change). k.0) e)) | inr j ↦ j ]

        sides : (c : Change) → In c t → In c (x ∷ p) ⊎ In c (y ∷ s)
        sides c i = elim (in_split c (x ∷ p) (z ∷ y ∷ s) ((f.lists c).1 (inr i))) [
          | inl j ↦ inl j
          | inr (inl e) ↦ absurd (later_differs z t f.reads.move.distinct c i (ap (λ (k : Change). k.0) e))
          | inr (inr j) ↦ inr j
        ]

        closed : (a : Change) → In a (x ∷ p) → (b : Change) → In b (y ∷ s) → T (share g a.0 b.0) → Loop g (x ∷ p ++ z ∷ y ∷ s)
        closed = closes g counts (x ∷ p ++ z ∷ y ∷ s) thin h.move x p z (y ∷ s) h.linked d (λ c i. i)

        go : (t : List Change) → Linked g (z ∷ t) → ((c : Change) → In c t → In c (x ∷ p) ⊎ In c (y ∷ s)) → In x t → In y t → Loop g (x ∷ p ++ z ∷ y ∷ s)
        go [] k h i j = absurd i
        go (w ∷ t) k h i j = elim (h w (inl refl)) [
          | inl u ↦ (
              let c = cross g (x ∷ p) (y ∷ s) both w t k.1 u (λ b m. h b (inr m)) y j (inl refl) in
              closed c.0 c.2 c.1 c.3 c.4
              )
          | inr u ↦ (
              let c = cross g (y ∷ s) (x ∷ p) (λ a m n. both a n m) w t k.1 u (λ b m. ⊎_swap (h b (inr m))) x i (inl refl) in
              closed c.1 c.3 c.0 c.2 (share_sym g c.0.0 c.1.0 c.4)
              )
        ]

    -- q begins with z, which stands in r between p and s
    from_place : (p : List Change) (z : Change) (s t : List Change) → Reading g counts (p ++ z ∷ s) → ReadingOf g counts (p ++ z ∷ s) (z ∷ t)
        → ReadAs g (p ++ z ∷ s) (z ∷ t)
    from_place [] z s t h f = elim (from_edge z s t h f) [
      | inl e ↦ rw e (as_listed (z ∷ s))
      | inr c ↦ (
          let e = reverse_snoc s z ∙ put_first z (sym c.1) in
          rw (← e) (around_the_other_way (z ∷ []) s c.0)
          )
    ]
    from_place (x ∷ p) z [] t h f =
        let r = x ∷ p ++ z ∷ [] in
        let back = rw (reverse_snoc (x ∷ p) z) at (read_as (from_the_end r) h) in
        elim (from_edge z (reverse (x ∷ p)) t back.reads (rebased back f)) [
          | inl e ↦ rw (← (put_first z (sym e)), ← (reverse_snoc (x ∷ p) z)) (from_the_end r)
          | inr c ↦ (
              let e = c.1 ∙ reverse-reverse (x ∷ p) in
              rw e (around (x ∷ p) (z ∷ []) (loop_back g x p z c.0))
              )
        ]
    from_place (x ∷ p) z (y ∷ s) t h f =
        let r = x ∷ p ++ z ∷ y ∷ s in
        let o = from_inside x p z y s t h f in
        let there = read_as (around (x ∷ p) (z ∷ y ∷ s) o) h in
        elim (from_edge z (y ∷ s ++ x ∷ p) t there.reads (rebased there f)) [
          | inl e ↦ rw e (around (x ∷ p) (z ∷ y ∷ s) o)
          | inr c ↦ (
              let a = append_snoc p z (y ∷ s) in
              let b = append_assoc (y ∷ s) (x ∷ p) (z ∷ []) in
              let e = ap reverse (sym b) ∙ reverse_snoc (y ∷ s ++ x ∷ p) z ∙ put_first z (sym c.1) in
              rw (← a, ← e) (around_the_other_way ((x ∷ p) ++ z ∷ []) (y ∷ s) (rw a o))
              )
        ]

    pub only_read_as : (r q : List Change) → Reading g counts r → ReadingOf g counts r q → ReadAs g r q
    only_read_as r [] h f = let n = f.reads.move.some in absurd (omega arith)
    only_read_as r (z ∷ t) h f =
        let i = place z r ((f.lists z).1 (inl refl)) in
        rw i.2 (from_place i.0 z i.1 t
        (rw i.2 at h) (rw i.2 at f))

-- ---- the readings of a move
pub readings_are : (g : List Constraint) (counts : List ℕ) (r : List Change) → Thin g → Reading g counts r
    → (q : List Change) → ReadingOf g counts r q ↔ ReadAs g r q
readings_are g counts r thin h q = (only_read_as g counts thin r q h, λ a. read_as g counts a h)

-- so also in accepted regions
pub readings_in_regions : (regions counts : List ℕ) (r : List Change) → T (accepted places (length counts) regions) → Reading (graph places regions) counts r
    → (q : List Change) → ReadingOf (graph places regions) counts r q ↔ ReadAs (graph places regions) r q
readings_in_regions regions counts r t = readings_are (graph places regions) counts r (accepted_ok places (length counts) regions t).thin
