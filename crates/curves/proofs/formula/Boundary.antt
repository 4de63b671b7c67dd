-- What Coons' patch is for: it fills the inside of four curves and keeps the curves. Where nothing is rounded (`Exact`):
-- - where the curves are closed, the patch at v = 0, u = 1, v = 1 and u = 0 is bottom, right, top and left (`patch_through_boundary`);
-- - left and right it meets even where they are not closed, since the corners are the ends of bottom and top (`on_left`, `on_right`);
-- - bottom and top it then misses by the gaps at their two ends, and in between in proportion (`off_bottom`, `off_top`).
-- The idea, at v = 0: the ruled patch from bottom to top is the bottom there; the one from left to right is the straight line between the ends of left
-- and right, and the bilinear one the straight line between the corners. So what the one adds the other takes off, where these ends are the corners.
-- Test 16 lets curves by that are a little apart, so that the third does occur: Cases has an example. Edges and Bound have the rounded patch. Assumes
-- nothing.
use mathlib.Core.Path.{◌≡◌, sym, ap, ◌∙◌}
use Rattle.curves.specs.CoonsFormula.{Operations, Curves, lerp, ruled_v, ruled_u, bilinear, coons, around, Exact, Closed, ThroughBoundary}

module _ {K P : Type 0} {o : Operations K P} (e : Exact o) where
  -- ---- between two points, at 0 and at 1

  pub lerp_zero : (a b : P) → lerp o o.zero a b ≡ a
  unfolding lerp
  lerp_zero a b = simp (lerp, e.less_zero, e.scale_one, e.scale_zero, e.add_origin)

  pub lerp_one : (a b : P) → lerp o o.one a b ≡ b
  unfolding lerp
  lerp_one a b = simp (lerp, e.less_one, e.scale_one, e.scale_zero, e.add_comm e.origin b, e.add_origin)

  -- ---- sums and differences

  add_sub_first : (a b : P) → o.sub (o.add a b) a ≡ b
  add_sub_first a b = rw (e.add_comm a b) (e.add_sub b a)

  -- what makes a, added to b, is their difference
  sub_is : (a b c : P) → o.add c b ≡ a → o.sub a b ≡ c
  sub_is a b c h = rw (← h) (e.add_sub c b)

  swap : (a b c d : P) → o.add (o.add a b) (o.add c d) ≡ o.add (o.add a c) (o.add b d)
  swap a b c d =
      e.add_assoc a b (o.add c d)
      ∙ ap (o.add a) (sym (e.add_assoc b c d) ∙ ap (λ (z : P). o.add z d) (e.add_comm b c) ∙ e.add_assoc c b d)
      ∙ sym (e.add_assoc a c (o.add b d))

  sub_sums : (a b c d : P) → o.sub (o.add a b) (o.add c d) ≡ o.add (o.sub a c) (o.sub b d)
  sub_sums a b c d = sub_is _ _ _ (swap (o.sub a c) (o.sub b d) c d ∙ simp e.sub_add)

  scale_sub : (t : K) (a b : P) → o.scale t (o.sub a b) ≡ o.sub (o.scale t a) (o.scale t b)
  scale_sub t a b = sym (sub_is _ _ _ (sym (e.scale_add t (o.sub a b) b) ∙ ap (o.scale t) (e.sub_add a b)))

  lerp_sub : (t : K) (a b c d : P) → o.sub (lerp o t a b) (lerp o t c d) ≡ lerp o t (o.sub a c) (o.sub b d)
  unfolding lerp
  lerp_sub t a b c d = simp (lerp, scale_sub) (sub_sums _ _ _ _)

  -- a sum less c, and less its first part, is its second part less c
  less_first : (a b c : P) → o.sub (o.sub (o.add a b) c) a ≡ o.sub b c
  less_first a b c = ap (λ (z : P). o.sub z a) (sub_is _ _ _ (simp (e.add_assoc, e.sub_add))) ∙ add_sub_first a (o.sub b c)

  module _ (c : Curves K P) where
    abbrev patch : K → K → P
    patch = coons o (around o c)

    -- ---- left and right, closed or not

    pub on_left : (v : K) → patch o.zero v ≡ c.left (o.less o.one v)
    unfolding coons ruled_v ruled_u bilinear
    on_left v = simp (coons, ruled_v, ruled_u, bilinear, around, lerp_zero, e.less_zero, add_sub_first)

    pub on_right : (v : K) → patch o.one v ≡ c.right v
    unfolding coons ruled_v ruled_u bilinear
    on_right v = simp (coons, ruled_v, ruled_u, bilinear, around, lerp_one, e.less_one, add_sub_first)

    -- ---- bottom and top, where the curves are closed

    pub on_bottom : Closed o c → (u : K) → patch u o.zero ≡ c.bottom u
    unfolding coons ruled_v ruled_u bilinear
    on_bottom j u = simp (coons, ruled_v, ruled_u, bilinear, around, lerp_zero, e.less_zero, j.left_bottom, j.bottom_right, e.add_sub)

    pub on_top : Closed o c → (u : K) → patch u o.one ≡ c.top (o.less o.one u)
    unfolding coons ruled_v ruled_u bilinear
    on_top j u = simp (coons, ruled_v, ruled_u, bilinear, around, lerp_one, e.less_one, j.top_left, j.right_top, e.add_sub)

    -- ---- and by how much they are missed: by the gaps at the two ends, in proportion between them

    pub off_bottom : (u : K)
        → o.sub (patch u o.zero) (c.bottom u)
        ≡ lerp o u (o.sub (c.left o.one) (c.bottom o.zero)) (o.sub (c.right o.zero) (c.bottom o.one))
    unfolding coons ruled_v ruled_u bilinear
    off_bottom u = simp (coons, ruled_v, ruled_u, bilinear, around, lerp_zero, e.less_zero, less_first, lerp_sub)

    pub off_top : (u : K)
        → o.sub (patch u o.one) (c.top (o.less o.one u))
        ≡ lerp o u (o.sub (c.left o.zero) (c.top o.one)) (o.sub (c.right o.one) (c.top o.zero))
    unfolding coons ruled_v ruled_u bilinear
    off_top u = simp (coons, ruled_v, ruled_u, bilinear, around, lerp_one, e.less_one, less_first, lerp_sub)

-- ---- the whole

pub patch_through_boundary : {K P : Type 0} {o : Operations K P} {c : Curves K P} → Exact o → Closed o c → ThroughBoundary o c
patch_through_boundary {c = c} e j = record { bottom = on_bottom e c j; right = on_right e c; top = on_top e c j; left = on_left e c }
