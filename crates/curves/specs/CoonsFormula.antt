-- Coons' bilinearly blended patch (S. A. Coons, 1967), over any operations: "the two ruled patches added, the bilinear one taken off". specs/Patch has it
-- at binary64. And what it is for: where nothing is rounded, it runs through its four curves (`ThroughBoundary`; proofs/formula/Boundary has the
-- theorem). Assumes nothing.
use Rattle.std.specs.Prelude.{◌≡◌}

-- what the formula is made of, parameters in K and points in P; nothing is asked of it here
pub record Operations (K P : Type 0) : Type 0 where
  pub zero : K
  pub one : K
  pub less : K → K → K
  pub add : P → P → P
  pub sub : P → P → P
  pub scale : K → P → P

-- four sides, each run from 0 to 1 along u or v, and the corners of the bilinear patch, corner-uv at u and v
pub record Sides (K P : Type 0) : Type 0 where
  pub bottom : K → P
  pub top : K → P
  pub left : K → P
  pub right : K → P
  pub corner_00 : P
  pub corner_10 : P
  pub corner_01 : P
  pub corner_11 : P

-- four curves counter-clockwise: bottom left to right, right bottom to top, top right to left, left top to bottom
pub record Curves (K P : Type 0) : Type 0 where
  pub bottom : K → P
  pub right : K → P
  pub top : K → P
  pub left : K → P

-- ---- the formula

module _ {K P : Type 0} (o : Operations K P) where
  -- (1 - t) a + t b
  unfoldable pub lerp : K → P → P → P
  lerp t a b = o.add (o.scale (o.less o.one t) a) (o.scale t b)

  -- the straight lines from bottom to top
  unfoldable pub ruled_v : Sides K P → K → K → P
  ruled_v s u v = lerp v (s.bottom u) (s.top u)

  -- the straight lines from left to right
  unfoldable pub ruled_u : Sides K P → K → K → P
  ruled_u s u v = lerp u (s.left v) (s.right v)

  -- the corners alone
  unfoldable pub bilinear : Sides K P → K → K → P
  bilinear s u v = lerp v (lerp u s.corner_00 s.corner_10) (lerp u s.corner_01 s.corner_11)

  unfoldable pub coons : Sides K P → K → K → P
  coons s u v = o.sub (o.add (ruled_v s u v) (ruled_u s u v)) (bilinear s u v)

  -- four curves as sides: top and left are run against. The corners are the ends of bottom and top, as in 000.
  abbrev pub around : Curves K P → Sides K P
  around c = record {
    bottom = c.bottom;
    top = λ u. c.top (o.less o.one u);
    left = λ v. c.left (o.less o.one v);
    right = c.right;
    corner_00 = c.bottom o.zero;
    corner_10 = c.bottom o.one;
    corner_01 = c.top o.one;
    corner_11 = c.top o.zero;
  }

-- ---- what it is for

-- What is asked of operations that round nothing. The numbers of any ring have it, and points whose coordinates are such (proofs/formula/Rings).
pub record Exact {K P : Type 0} (o : Operations K P) : Type 0 where
  pub origin : P
  pub less_zero : o.less o.one o.zero ≡ o.one
  pub less_one : o.less o.one o.one ≡ o.zero
  pub add_comm : (a b : P) → o.add a b ≡ o.add b a
  pub add_assoc : (a b c : P) → o.add (o.add a b) c ≡ o.add a (o.add b c)
  pub add_origin : (a : P) → o.add a origin ≡ a
  pub add_sub : (a b : P) → o.sub (o.add a b) b ≡ a
  pub sub_add : (a b : P) → o.add (o.sub a b) b ≡ a
  pub scale_zero : (a : P) → o.scale o.zero a ≡ origin
  pub scale_one : (a : P) → o.scale o.one a ≡ a
  pub scale_add : (t : K) (a b : P) → o.scale t (o.add a b) ≡ o.add (o.scale t a) (o.scale t b)

-- each curve begins where the one before it ends
pub record Closed {K P : Type 0} (o : Operations K P) (c : Curves K P) : Type 0 where
  pub bottom_right : c.bottom o.one ≡ c.right o.zero
  pub right_top : c.right o.one ≡ c.top o.zero
  pub top_left : c.top o.one ≡ c.left o.zero
  pub left_bottom : c.left o.one ≡ c.bottom o.zero

-- the patch at its four sides is the four curves, each as it is run along u or v
pub record ThroughBoundary {K P : Type 0} (o : Operations K P) (c : Curves K P) : Type 0 where
  pub bottom : (u : K) → coons o (around o c) u o.zero ≡ c.bottom u
  pub right : (v : K) → coons o (around o c) o.one v ≡ c.right v
  pub top : (u : K) → coons o (around o c) u o.one ≡ c.top (o.less o.one u)
  pub left : (v : K) → coons o (around o c) o.zero v ≡ c.left (o.less o.one v)
