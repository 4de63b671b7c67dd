-- What the functions on a tile answer and leave, by the outcomes of their tests. Assumes nothing.
use mathlib.Core.Path.{◌≡◌, refl, sym, ap, subst, ◌∙◌}
use mathlib.Core.Bool.{Bool, true, false, ◌||◌, cond}
use mathlib.Core.List.{List, []}
use Prim.Native.Nat.{ℕ, ◌*◌, ◌/◌, ◌<◌, ◌≤◌}
use native.Mathlib.Nat.{mul-le-mul_right}
use native.Mathlib.Omega.{arith}
use lib.ListN.{length}
use lib.Dec.{leb, ltb, eqb}
use lib.Ieee.{Float}
use borrow.Author.Tests.{lt-ltb, le-ltb, le-leb, lt-leb, leb-true, leb-false}
use Rattle.base.specs.declared.verdict.Verdict.{Verdict}
use Rattle.base.specs.Refusal.{passed, refused, verdict_of, is_passed, refuse_if}
use Rattle.base.specs.Tests.{if_passed}
use Rattle.base.specs.Answers.{Answer, good, turned_away}
use Rattle.base.specs.declared.refusal.Refusal.{Refusal}
use Rattle.base.proofs.BoolLaws.{T_false, nor_right}
use Rattle.base.proofs.TestLaws.{refusal_number}
use Rattle.base.specs.Buffers.{splice}
use Rattle.curves.specs.Curve.{point_count}
use Rattle.curves.specs.Coons.{Outcome, outcome_of, refusal, coons_quads, coons_nodes, coons_nodes_beside}
use Rattle.std.specs.Prelude.{Result, Ok, Err}
use Rattle.curves.proofs.coons.Laws.{cells_of_nodes, leaving, nodes_alone, short_nodes}
use Rattle.curves.proofs.Clear.{short_stopped}
use Rattle.mesh.specs.declared.boundary.Pieces.{Pieces}
use Rattle.mesh.specs.Loop.{from_loop, piece}
use Rattle.mesh.specs.Mesh.{mesh_of, needed_cells, mesh_cells, no_cells, zeroes, cells_left, mesh_tile_curves}
use Rattle.mesh.specs.Tile.{cell_limits_test, tile_loop, by_curves, coons_checked, mesh_tile}
use Rattle.mesh.proofs.boundary.Laws.{Holds, loop_held}
use Rattle.curves.specs.Limits.{max_cells}

-- ---- the room for the indices

-- a product of two numbers of 32 bits has at most 64
pub product_fits : (a b : ℕ) → a < 4294967296 → b < 4294967296 → a * b < 18446744073709551616
product_fits a b h g =
    let p : a * b ≤ 4294967295 * b = mul-le-mul_right b (omega (arith, h)) in
    omega (arith, p, g)

pub room_by_quads : (n m : ℕ) (cells : List ℕ) → leb (m * n) (length cells / 4) ≡ leb (needed_cells n m) (length cells)
room_by_quads n m cells = go (leb (m * n) (length cells / 4)) refl
  where
    go : (b : Bool) → leb (m * n) (length cells / 4) ≡ b → leb (m * n) (length cells / 4) ≡ leb (needed_cells n m) (length cells)
    go true e = let h = leb-true (m * n) (length cells / 4) e in e ∙ sym (le-leb (needed_cells n m) (length cells) (omega (arith, h)))
    go false e = let h = leb-false (m * n) (length cells / 4) e in e ∙ sym (lt-leb (needed_cells n m) (length cells) (omega (arith, h)))

-- ---- a mesh from four curves

module _ (bottom right top left : List Float) (n m : ℕ) (points : List Float) (cells : List ℕ) where
  abbrev grid : List Float → Outcome
  grid = coons_nodes bottom right top left n m

  -- the grid, told whether the indices have too little room
  abbrev told : Bool → Outcome
  told short = coons_nodes_beside short bottom right top left n m points

  tile_by : (short : Bool) → ltb (length cells) (needed_cells n m) ≡ short
      → record { grid = told short; cells = cells_left (told short).verdict n m cells } ≡ mesh_tile_curves bottom right top left n m points cells
  unfolding mesh_tile_curves
  tile_by short e = ap (λ (x : Bool). record { grid = told x; cells = cells_left (told x).verdict n m cells }) (sym e)

  left_by : (v : Verdict) (p z : Bool) → is_passed v ≡ p → zeroes v ≡ z
      → cond p (splice cells 0 (mesh_cells n m)) (cond z (splice cells 0 (no_cells (needed_cells n m))) cells) ≡ cells_left v n m cells
  unfolding cells_left
  left_by v p z d g = simp (d, g)

  -- without room for the indices: what a grid answered that had no room for its points either
  pub no_room : (b : Bool) (r : Result ℕ Refusal) (lent none : List Float) → b ≡ leb (needed_cells n m) (length cells) → b ≡ false → lent ≡ [] → outcome_of r none ≡ grid lent
      → mesh_of r points cells ≡ mesh_tile_curves bottom right top left n m points cells
  unfolding mesh_of outcome_of
  no_room b r lent none e f h o =
      let stopped = short_stopped bottom right top left n m points in
      let v = (told true).verdict in
      let few = leb-false (needed_cells n m) (length cells) (sym e ∙ f) in
      let unzeroed = T_false (zeroes v) (nor_right (eqb v.number 22) (zeroes v) stopped.early.other) in
      ap (λ (x : Outcome). record { grid = x; cells = cells }) (answer r ∙ ap (leaving points) (o ∙ ap grid h) ∙ sym (short_nodes bottom right top left points n m))
      ∙ ap (λ (l : List ℕ). record { grid = told true; cells = l }) (left_by v false false stopped.not_passed unzeroed)
      ∙ tile_by true (lt-ltb (length cells) (needed_cells n m) few)
    where
      answer : (r : Result ℕ Refusal) → outcome_of r points ≡ leaving points (outcome_of r none)
      answer (Ok quads) = refl
      answer (Err cause) = refl

  -- with room for them: what the grid answered, and the points that it left
  module _ (b : Bool) (made : Result ℕ Refusal) (after : List Float) (e : b ≡ leb (needed_cells n m) (length cells)) (f : b ≡ true) (o : outcome_of made after ≡ grid points) where
    pub room : needed_cells n m ≤ length cells
    room = leb-true (needed_cells n m) (length cells) (sym e ∙ f)

    answered : (r : Result ℕ Refusal) (rest : List ℕ) → made ≡ r → rest ≡ cells_left (outcome_of r after).verdict n m cells → mesh_of r after rest ≡ mesh_tile_curves bottom right top left n m points cells
    unfolding mesh_of
    answered r rest q w =
        ap (λ (l : List ℕ). record { grid = outcome_of r after; cells = l }) w
        ∙ ap (λ (x : Outcome). record { grid = x; cells = cells_left x.verdict n m cells }) (ap (λ (x : Result ℕ Refusal). outcome_of x after) (sym q) ∙ o ∙ nodes_alone bottom right top left points n m)
        ∙ tile_by false (le-ltb (length cells) (needed_cells n m) room)

    pub made_cells : (quads : ℕ) (rest : List ℕ) → made ≡ Ok quads → rest ≡ splice cells 0 (mesh_cells n m)
        → mesh_of (Ok quads) after rest ≡ mesh_tile_curves bottom right top left n m points cells
    unfolding outcome_of
    made_cells quads rest q w = answered (Ok quads) rest q (w ∙ left_by passed true false refl refl)

    module _ (cause : Refusal) (z : Bool) (q : made ≡ Err cause) (d : z ≡ zeroes (verdict_of cause)) where
      pub zeroed_cells : (rest : List ℕ) → z ≡ true → rest ≡ splice cells 0 (no_cells (needed_cells n m))
          → mesh_of (Err cause) after rest ≡ mesh_tile_curves bottom right top left n m points cells
      unfolding outcome_of
      zeroed_cells rest h w = answered (Err cause) rest q (w ∙ left_by (verdict_of cause) false true (refusal_number cause) (sym d ∙ h))

      pub same_cells : z ≡ false → mesh_of (Err cause) after cells ≡ mesh_tile_curves bottom right top left n m points cells
      unfolding outcome_of
      same_cells h = answered (Err cause) cells q (left_by (verdict_of cause) false false (refusal_number cause) (sym d ∙ h))

    -- a grid that was made has numbers of cells that are let by
    pub few_cells : (quads : ℕ) → made ≡ Ok quads → (n ≤ max_cells) × (m ≤ max_cells)
    unfolding outcome_of
    few_cells quads q = cells_of_nodes bottom right top left n m points (ap (λ (x : Outcome). x.verdict) (ap (λ (x : Result ℕ Refusal). outcome_of x after) (sym q) ∙ o))

-- ---- the loop of a tile

module _ (boundary : List Float) (n m : ℕ) where
  loop_by : (a b : Bool) → ltb max_cells n ≡ a → ltb max_cells m ≡ b
      → if_passed (refuse_if (a || b) (refused 1 0 0)) (from_loop boundary) turned_away ≡ tile_loop boundary n m
  unfolding cell_limits_test tile_loop
  loop_by a b e f = simp (e, f)

  pub too_wide : max_cells < n → turned_away (refused 1 0 0) ≡ tile_loop boundary n m
  too_wide h = loop_by true (ltb max_cells m) (lt-ltb max_cells n h) refl

  pub too_high : n ≤ max_cells → max_cells < m → turned_away (refused 1 0 0) ≡ tile_loop boundary n m
  too_high h g = loop_by false true (le-ltb max_cells n h) (lt-ltb max_cells m g)

  pub in_size : n ≤ max_cells → m ≤ max_cells → from_loop boundary ≡ tile_loop boundary n m
  in_size h g = loop_by false false (le-ltb max_cells n h) (le-ltb max_cells m g)

  tile_held : Holds (point_count boundary) (tile_loop boundary n m)
  unfolding tile_loop
  tile_held = go (is_passed (cell_limits_test n m))
    where
      go : (b : Bool) → Holds (point_count boundary) (elim b [ true ↦ from_loop boundary | false ↦ turned_away (cell_limits_test n m) ])
      go true = loop_held boundary
      go false = tt

  -- the pieces of a loop that is not refused, and what follows them
  module _ {p : Pieces} (told : good p ≡ tile_loop boundary n m) where
    pub held : Holds (point_count boundary) (good p)
    held = subst (Holds (point_count boundary)) (sym told) tile_held

    pub quads_by : (out : List Float) → coons_quads (piece p boundary 0) (piece p boundary 1) (piece p boundary 2) (piece p boundary 3) n m out ≡ coons_checked boundary n m out
    unfolding coons_checked
    quads_by out = ap (λ (a : Answer Pieces). by_curves a boundary (λ (b r t l : List Float). coons_quads b r t l n m out) (refusal out)) told

    pub mesh_by : (points : List Float) (cells : List ℕ)
        → mesh_tile_curves (piece p boundary 0) (piece p boundary 1) (piece p boundary 2) (piece p boundary 3) n m points cells ≡ mesh_tile boundary n m points cells
    unfolding mesh_tile
    mesh_by points cells =
        ap
        (λ (a : Answer Pieces).
        by_curves a boundary (λ (b r t l : List Float). mesh_tile_curves b r t l n m points cells)
        (λ (v : Verdict). record { grid = refusal points v; cells = cells }))
        told

  -- and its refusal
  module _ {v : Verdict} (told : turned_away v ≡ tile_loop boundary n m) where
    pub quads_refused : (out : List Float) → refusal out v ≡ coons_checked boundary n m out
    unfolding coons_checked
    quads_refused out = ap (λ (a : Answer Pieces). by_curves a boundary (λ (b r t l : List Float). coons_quads b r t l n m out) (refusal out)) told

    pub mesh_refused : (points : List Float) (cells : List ℕ) → record { grid = refusal points v; cells = cells } ≡ mesh_tile boundary n m points cells
    unfolding mesh_tile
    mesh_refused points cells =
        ap
        (λ (a : Answer Pieces).
        by_curves a boundary (λ (b r t l : List Float). mesh_tile_curves b r t l n m points cells)
        (λ (w : Verdict). record { grid = refusal points w; cells = cells }))
        told

-- ---- four curves in place of four

pub in_four_curves : {A : Type 0} (f : List Float → List Float → List Float → List Float → A) (a a' b b' c c' d d' : List Float) → a ≡ a' → b ≡ b'
    → c ≡ c' → d ≡ d' → f a b c d ≡ f a' b' c' d'
in_four_curves f a a' b b' c c' d d' p q r s = ap (λ (x : List Float). f x b c d) p ∙ ap (λ (x : List Float). f a' x c d) q ∙ ap (λ (x : List Float). f a' b' x d) r ∙ ap (f a' b' c') s
