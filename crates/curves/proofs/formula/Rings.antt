-- Where nothing is rounded: the numbers of any ring, and points of the plane over it. So there the patch of closed curves runs through them. Assumes nothing.
use mathlib.Core.Path.{◌≡◌, sym, ap, ◌∙◌}
use mathlib.Mathlib.Algebra.Ring.Defs.{IsRing}
use Rattle.curves.specs.CoonsFormula.{Operations, Curves, Exact, Closed, ThroughBoundary}
use Rattle.curves.proofs.formula.Boundary.{patch_through_boundary}

-- ---- the numbers of a ring

module _ {R : Type 0} {add mul : R → R → R} {zero one : R} {neg : R → R} (r : IsRing R add mul zero neg one) where
  abbrev pub of_ring : Operations R R
  of_ring = record { zero = zero; one = one; less = λ a b. add a (neg b); add = add; sub = λ a b. add a (neg b); scale = mul }

  pub exact_ring : Exact of_ring
  exact_ring = record {
    origin = zero;
    less_zero = ap (add one) (sym (add_zero (neg zero)) ∙ inverse zero) ∙ add_zero one;
    less_one = inverse_right one;
    add_comm = add_comm;
    add_assoc = add_assoc;
    add_origin = add_zero;
    add_sub = λ a b. add_assoc a b (neg b) ∙ ap (add a) (inverse_right b) ∙ add_zero a;
    sub_add = λ a b. add_assoc a (neg b) b ∙ ap (add a) (inverse b) ∙ add_zero a;
    scale_zero = r.is_semiring.is_non_unital_semiring.is_non_unital_non_assoc_semiring.zero-mul;
    scale_one = r.is_semiring.one-mul;
    scale_add = r.is_semiring.is_non_unital_semiring.is_non_unital_non_assoc_semiring.left_distrib;
  }
    where
      add_comm : (a b : R) → add a b ≡ add b a
      add_comm = r.is_semiring.is_non_unital_semiring.is_non_unital_non_assoc_semiring.is_add_comm_monoid.add_comm

      add_assoc : (a b c : R) → add (add a b) c ≡ add a (add b c)
      add_assoc = r.is_semiring.is_non_unital_semiring.is_non_unital_non_assoc_semiring.is_add_comm_monoid.is_add_monoid.is_add_semigroup.add_assoc

      add_zero : (a : R) → add a zero ≡ a
      add_zero = r.is_semiring.is_non_unital_semiring.is_non_unital_non_assoc_semiring.is_add_comm_monoid.is_add_monoid.add-zero

      inverse : (a : R) → add (neg a) a ≡ zero
      inverse = r.neg-add_cancel

      inverse_right : (a : R) → add a (neg a) ≡ zero
      inverse_right a = add_comm a (neg a) ∙ inverse a

-- ---- points of the plane: x and y alike

pub record Pair (P : Type 0) : Type 0 where
  pub x : P
  pub y : P

abbrev pair : {P : Type 0} → P → P → Pair P
pair a b = record { x = a; y = b }

module _ {K P : Type 0} where
  abbrev pub in_plane : Operations K P → Operations K (Pair P)
  in_plane o = record {
    zero = o.zero;
    one = o.one;
    less = o.less;
    add = λ p q. pair (o.add p.x q.x) (o.add p.y q.y);
    sub = λ p q. pair (o.sub p.x q.x) (o.sub p.y q.y);
    scale = λ t p. pair (o.scale t p.x) (o.scale t p.y);
  }

  pub exact_plane : {o : Operations K P} → Exact o → Exact (in_plane o)
  exact_plane e = record {
    origin = pair e.origin e.origin;
    less_zero = e.less_zero;
    less_one = e.less_one;
    add_comm = λ p q. both (e.add_comm p.x q.x) (e.add_comm p.y q.y);
    add_assoc = λ p q r. both (e.add_assoc p.x q.x r.x) (e.add_assoc p.y q.y r.y);
    add_origin = λ p. both (e.add_origin p.x) (e.add_origin p.y);
    add_sub = λ p q. both (e.add_sub p.x q.x) (e.add_sub p.y q.y);
    sub_add = λ p q. both (e.sub_add p.x q.x) (e.sub_add p.y q.y);
    scale_zero = λ p. both (e.scale_zero p.x) (e.scale_zero p.y);
    scale_one = λ p. both (e.scale_one p.x) (e.scale_one p.y);
    scale_add = λ t p q. both (e.scale_add t p.x q.x) (e.scale_add t p.y q.y);
  }
    where
      both : {a b c d : P} → a ≡ b → c ≡ d → pair a c ≡ pair b d
      both f g = λ i. pair (f i) (g i)

-- ---- the patch of four curves from a ring's numbers to points of the plane over it

pub ring_patch_through_boundary : {R : Type 0} {add mul : R → R → R} {zero one : R} {neg : R → R} (r : IsRing R add mul zero neg one) (c : Curves R (Pair R))
    → Closed (in_plane (of_ring r)) c → ThroughBoundary (in_plane (of_ring r)) c
ring_patch_through_boundary r c j = patch_through_boundary (exact_plane (exact_ring r)) j
