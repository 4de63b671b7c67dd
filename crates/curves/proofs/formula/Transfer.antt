-- Where none of the operations made for a point of the patch rounds anything, the rounded patch reads as the exact one. Stated for any two sets of
-- operations, the rounded o and the exact e, and any way to read parameters and points of the one in the other. Assumes nothing.
use mathlib.Core.Path.{◌≡◌, ◌∙◌}
use Rattle.curves.specs.CoonsFormula.{Operations, Sides, lerp, ruled_v, ruled_u, bilinear, coons}

module _ {K P L Q : Type 0} (o : Operations K P) (e : Operations L Q) (number : K → L) (value : P → Q) where
  -- the four operations between two points: each reads as the exact one on what it is made of
  pub record LerpExact (t : K) (a b : P) : Type 0 where
    pub rest : number (o.less o.one t) ≡ e.less e.one (number t)
    pub first : value (o.scale (o.less o.one t) a) ≡ e.scale (number (o.less o.one t)) (value a)
    pub second : value (o.scale t b) ≡ e.scale (number t) (value b)
    pub sum : value (lerp o t a b) ≡ e.add (value (o.scale (o.less o.one t) a)) (value (o.scale t b))

  pub lerp_reads : {t : K} {a b : P} → LerpExact t a b → value (lerp o t a b) ≡ lerp e (number t) (value a) (value b)
  unfolding lerp
  lerp_reads x = x.sum ∙ simp (x.first, x.second, x.rest)

  module _ (s : Sides K P) (u v : K) where
    -- the 22 operations of a point of the patch
    pub record CoonsExact : Type 0 where
      pub on_v : LerpExact v (s.bottom u) (s.top u)
      pub on_u : LerpExact u (s.left v) (s.right v)
      pub low : LerpExact u s.corner_00 s.corner_10
      pub high : LerpExact u s.corner_01 s.corner_11
      pub between : LerpExact v (lerp o u s.corner_00 s.corner_10) (lerp o u s.corner_01 s.corner_11)
      pub sum : value (o.add (ruled_v o s u v) (ruled_u o s u v)) ≡ e.add (value (ruled_v o s u v)) (value (ruled_u o s u v))
      pub difference : value (coons o s u v) ≡ e.sub (value (o.add (ruled_v o s u v) (ruled_u o s u v))) (value (bilinear o s u v))

    -- r has the same sides in exact numbers
    pub record Reads (r : Sides L Q) : Type 0 where
      pub bottom : value (s.bottom u) ≡ r.bottom (number u)
      pub top : value (s.top u) ≡ r.top (number u)
      pub left : value (s.left v) ≡ r.left (number v)
      pub right : value (s.right v) ≡ r.right (number v)
      pub corner_00 : value s.corner_00 ≡ r.corner_00
      pub corner_10 : value s.corner_10 ≡ r.corner_10
      pub corner_01 : value s.corner_01 ≡ r.corner_01
      pub corner_11 : value s.corner_11 ≡ r.corner_11

    pub coons_reads : {r : Sides L Q} → Reads r → CoonsExact → value (coons o s u v) ≡ coons e r (number u) (number v)
    unfolding coons ruled_v ruled_u bilinear
    coons_reads h x =
        x.difference
        ∙ simp (
          coons,
          ruled_v,
          ruled_u,
          bilinear,
          x.sum,
          lerp_reads x.on_v,
          lerp_reads x.on_u,
          lerp_reads x.between,
          lerp_reads x.low,
          lerp_reads x.high,
          h.bottom,
          h.top,
          h.left,
          h.right,
          h.corner_00,
          h.corner_10,
          h.corner_01,
          h.corner_11,
        )
