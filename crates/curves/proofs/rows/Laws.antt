-- The rows of a grid: how long what each adds is, and a loop over rows 0 to m of the points that tests the cells below each one and writes what it
-- adds. Assumes nothing.
use mathlib.Core.Path.{◌≡◌, refl, sym, ap, ◌∙◌}
use mathlib.Core.Bool.{Bool, true, not}
use mathlib.Core.List.{List, [], ◌∷◌}
use Prim.Native.Nat.{ℕ, zero, suc, ◌+◌, ◌-◌, ◌*◌, ◌<◌, ◌≤◌}
use native.Mathlib.Nat.{mul_comm, mul-le-mul_right}
use native.Mathlib.Numerals.{add-one}
use native.Mathlib.Omega.{arith}
use lib.ListN.{length, set}
use lib.Ieee.{Float}
use Rattle.base.specs.declared.verdict.Verdict.{Verdict}
use Rattle.std.specs.Prelude.{Result, Ok, Err}
use Rattle.base.specs.declared.refusal.Refusal.{Refusal}
use Rattle.base.specs.Refusal.{passed, refused, refuse_if, outcome, then_test}
use Rattle.base.specs.Buffers.{concat_tabulate, splice}
use Rattle.base.specs.Tests.{first_of}
use Rattle.floats.specs.Scalar.{nought, is_positive}
use Rattle.curves.specs.Point.{signed_area}
use Rattle.curves.specs.Quad.{quad_test, zeros}
use Rattle.curves.specs.Grid.{Grid, node, grid_quad, quads_test, corner_values, node_values, grid_values, needed}
use Rattle.curves.specs.inner.Rows.{row_points, point_in, cell, cell_test, cells_test, below_test, quads_between, nodes_of, row_part, grid_part, row_size}
use Rattle.curves.specs.inner.Rows.{QuadsRoom, NodesRoom, RowRoom, RowLaid}
use Rattle.curves.specs.declared.point.Point.{Point}
use Rattle.curves.specs.declared.quad.Quad.{Quad}
use Rattle.curves.specs.declared.rows.Layout.{Layout}
use Rattle.curves.specs.declared.rows.Layout.TheVariants.{Quads, Nodes}
use Rattle.base.proofs.BufferLaws.{length_tabulate, length_concat, length_concat_more, concat_grows, splice_none, store_next, concat_step, splice_over}
use Rattle.base.proofs.TestLaws.{refusal_number, then_test_assoc, first_start}
use Rattle.curves.proofs.rows.Whole.{cells_below, tests_of_grid, parts_of_grid}
use Rattle.curves.specs.Limits.{max_cells}

-- ---- stores in a row

pub quad_stored : (d : List Float) (k : ℕ) (q : Quad) → k + 8 ≤ length d
    → (let a = q.lower_left in let b = q.lower_right in let c = q.upper_right in let e = q.upper_left in
    set (set (set (set (set (set (set (set d k a.x) (k + 1) a.y) (k + 2) b.x) (k + 3) b.y) (k + 4) c.x) (k + 5) c.y) (k + 6)
    e.x) (k + 7) e.y ≡ splice d k (corner_values q))
quad_stored d k q h =
    let a = q.lower_left in
    let b = q.lower_right in
    let c = q.upper_right in
    let e = q.upper_left in
    let s0 = store_next d k [] d k a.x (splice_none d k) (omega arith) (omega arith) in
    let s1 = store_next d k (a.x ∷ []) _ (k + 1) a.y s0 refl (omega arith) in
    let s2 = store_next d k (a.x ∷ a.y ∷ []) _ (k + 2) b.x s1 refl (omega arith) in
    let s3 = store_next d k (a.x ∷ a.y ∷ b.x ∷ []) _ (k + 3) b.y s2 refl (omega arith) in
    let s4 = store_next d k (a.x ∷ a.y ∷ b.x ∷ b.y ∷ []) _ (k + 4) c.x s3 refl (omega arith) in
    let s5 = store_next d k (a.x ∷ a.y ∷ b.x ∷ b.y ∷ c.x ∷ []) _ (k + 5) c.y s4 refl (omega arith) in
    let s6 = store_next d k (a.x ∷ a.y ∷ b.x ∷ b.y ∷ c.x ∷ c.y ∷ []) _ (k + 6) e.x s5 refl (omega arith) in
    store_next d k (a.x ∷ a.y ∷ b.x ∷ b.y ∷ c.x ∷ c.y ∷ e.x ∷ []) _ (k + 7) e.y s6 refl (omega arith)

pub node_stored : (d : List Float) (k : ℕ) (p : Point) → k + 3 ≤ length d → set (set (set d k p.x) (k + 1) p.y) (k + 2) nought ≡ splice d k (node_values p)
node_stored d k p h =
    let s0 = store_next d k [] d k p.x (splice_none d k) (omega arith) (omega arith) in
    let s1 = store_next d k (p.x ∷ []) _ (k + 1) p.y s0 refl (omega arith) in
    store_next d k (p.x ∷ p.y ∷ []) _ (k + 2) nought s1 refl (omega arith)

-- ---- quads between two rows, and points of one, written over d from an index on

abbrev pub quad_at : List Point → List Point → ℕ → List Float
quad_at low high i = corner_values (cell low high i)

abbrev pub node_at : List Point → ℕ → List Float
node_at row i = node_values (point_in row i)

-- the first i quads
pub record QuadsTo (low high : List Point) (from : ℕ) (d : List Float) (i : ℕ) (out : List Float) : Type 0 where
  pub written : out ≡ splice d from (concat_tabulate (quad_at low high) 0 i)

-- the first i points
pub record NodesTo (row : List Point) (from : ℕ) (d : List Float) (i : ℕ) (out : List Float) : Type 0 where
  pub written : out ≡ splice d from (concat_tabulate (node_at row) 0 i)

quads_length : (low high : List Point) (n : ℕ) → length (concat_tabulate (quad_at low high) 0 n) ≡ 8 * n
quads_length low high n = length_concat (quad_at low high) 8 0 n (λ i h. refl) ∙ mul_comm n 8

nodes_length : (row : List Point) (n : ℕ) → length (concat_tabulate (node_at row) 0 n) ≡ 3 * n
nodes_length row n = length_concat (node_at row) 3 0 n (λ i h. refl) ∙ mul_comm n 3

pub no_quads : {low high : List Point} {d : List Float} {from : ℕ} → QuadsTo low high from d 0 d
no_quads {d = d} {from = from} = record { written = splice_none d from }

-- a turn of the loop that writes the quads
pub next_quad : {low high : List Point} {d out next : List Float} {from i : ℕ} {q : Quad} → QuadsTo low high from d i out → from + 8 * i ≤ length d
    → q ≡ cell low high i → next ≡ splice out (from + 8 * i) (corner_values q) → QuadsTo low high from d (i + 1) next
next_quad {low} {high} {d} {out} {next} {from} {i} o h c w =
    let l = quads_length low high i in
    record {
      written = concat_step d from (quad_at low high) out i (from + 8 * i) next o.written (omega (arith, l)) h
          (w ∙ ap (λ (x : Quad). splice out (from + 8 * i) (corner_values x)) c);
    }

-- and of the one that writes the points
pub next_node : {row : List Point} {d out next : List Float} {from i : ℕ} → NodesTo row from d i out → from + 3 * i ≤ length d
    → next ≡ splice out (from + 3 * i) (node_at row i) → NodesTo row from d (i + 1) next
next_node {row} {d} {out} {next} {from} {i} o h w =
    let l = nodes_length row i in
    record { written = concat_step d from (node_at row) out i (from + 3 * i) next o.written (omega (arith, l)) h w }

pub quads_done : {low high : List Point} {d out : List Float} {from i n : ℕ} → QuadsTo low high from d i out → i ≡ n
    → out ≡ splice d from (quads_between low high n)
unfolding quads_between
quads_done {low} {high} {d} {from = from} o e = o.written ∙ ap (λ (k : ℕ). splice d from (concat_tabulate (quad_at low high) 0 k)) e

pub nodes_done : {row : List Point} {d out : List Float} {from i : ℕ} (n : ℕ) → NodesTo row from d i out → i ≡ n + 1 → out ≡ splice d from (nodes_of row n)
unfolding nodes_of
nodes_done {row} {d} {from = from} n o e = o.written ∙ ap (λ (k : ℕ). splice d from (concat_tabulate (node_at row) 0 k)) e

-- a quad with an area passes
abbrev area : Quad → Float
area q = signed_area q.lower_left q.lower_right q.upper_right q.upper_left

pub cell_passes : (low high : List Point) (i j : ℕ) {q : Quad} → q ≡ cell low high i → is_positive (area q) ≡ true → cell_test low high j i ≡ passed
unfolding cell_test quad_test
cell_passes low high i j c t = ap (λ (x : Bool). refuse_if (not x) (refused 25 i j)) (ap (λ (x : Quad). is_positive (area x)) (sym c) ∙ t)

-- ---- what a row adds, and its length

first_quads : (low high : List Point) (n j : ℕ) → j ≡ 0 → row_part Quads low high n j ≡ []
unfolding row_part
first_quads low high n j z = ap (row_part Quads low high n) z

later_quads : (low high : List Point) (n j : ℕ) → 0 < j → row_part Quads low high n j ≡ quads_between low high n
unfolding row_part
later_quads low high n zero h = absurd (omega arith)
later_quads low high n (suc j) h = refl

nodes_row : (layout : Layout) (low high : List Point) (n j : ℕ) → layout ≡ Nodes → row_part layout low high n j ≡ nodes_of high n
unfolding row_part
nodes_row layout low high n j e = ap (λ (l : Layout). row_part l low high n j) e

length_quads : (low high : List Point) (n : ℕ) → length (quads_between low high n) ≡ 8 * n
unfolding quads_between
length_quads low high n = quads_length low high n

length_nodes : (row : List Point) (n : ℕ) → length (nodes_of row n) ≡ 3 * (n + 1)
unfolding nodes_of
length_nodes row n = nodes_length row (n + 1)

pub size_told : (layout : Layout) (low high : List Point) (n j : ℕ) → length (row_part layout low high n j) ≡ row_size layout n j
unfolding row_part row_size
size_told Quads low high n zero = refl
size_told Quads low high n (suc j) = length_quads low high n
size_told Nodes low high n j = length_nodes high n

pub first_size : (layout : Layout) (n j : ℕ) → layout ≡ Quads → j ≡ 0 → 0 ≡ row_size layout n j
unfolding row_size
first_size layout n j e z = sym (ap (λ (l : Layout). row_size l n j) e ∙ ap (row_size Quads n) z)

later_size : (n j : ℕ) → 0 < j → row_size Quads n j ≡ 8 * n
unfolding row_size
later_size n zero h = absurd (omega arith)
later_size n (suc j) h = refl

pub quads_size : (layout : Layout) (n j : ℕ) → layout ≡ Quads → 0 < j → 8 * n ≡ row_size layout n j
quads_size layout n j e h = sym (ap (λ (l : Layout). row_size l n j) e ∙ later_size n j h)

pub nodes_size : (layout : Layout) (n j : ℕ) → layout ≡ Nodes → 3 * (n + 1) ≡ row_size layout n j
unfolding row_size
nodes_size layout n j e = sym (ap (λ (l : Layout). row_size l n j) e)

-- what stands below the lowest row does not matter
pub part_first : (layout : Layout) (low low' high : List Point) (n : ℕ) → row_part layout low high n 0 ≡ row_part layout low' high n 0
unfolding row_part
part_first Quads low low' high n = refl
part_first Nodes low low' high n = refl

pub below_first : (low high : List Point) (n j : ℕ) → j ≡ 0 → below_test low high n j ≡ passed
unfolding below_test
below_first low high n j e = ap (below_test low high n) e

pub below_later : (low high : List Point) (n j : ℕ) → 0 < j → below_test low high n j ≡ cells_test low high n (j - 1)
unfolding below_test
below_later low high n zero h = absurd (omega arith)
below_later low high n (suc j) h = let e : j ≡ suc j - 1 = omega arith in ap (cells_test low high n) e

-- ---- a row by its layout: what it asks and tells

module _ {low high : List Point} {n j from : ℕ} {out : List Float} where
  -- above the lowest row there are quads
  pub quads_room : RowRoom Quads low high n j from out → 0 < j → QuadsRoom low high n from out
  quads_room r h =
      let e = ap length (later_quads low high n j h) ∙ length_quads low high n in
      record { low_long = r.rows.low_long; high_long = r.rows.high_long; room = omega (arith, e, r.room) }

  pub nodes_room : {layout : Layout} → RowRoom layout low high n j from out → layout ≡ Nodes → NodesRoom high n from out
  nodes_room {layout} r e =
      let l = ap length (nodes_row layout low high n j e) ∙ length_nodes high n in
      record { long = r.rows.high_long; room = omega (arith, l, r.room) }

  -- the lowest row adds no quads
  pub nothing_laid : j ≡ 0 → RowLaid Quads low high n j from out out passed
  nothing_laid e = record {
    told = sym (below_first low high n j e);
    written = splice_none out from ∙ ap (splice out from) (sym (first_quads low high n j e));
  }

  module _ {after : List Float} {v : Verdict} where
    pub quads_laid : 0 < j → v ≡ cells_test low high n (j - 1) → after ≡ splice out from (quads_between low high n) → RowLaid Quads low high n j from out after v
    quads_laid h e w = record {
      told = e ∙ sym (below_later low high n j h);
      written = w ∙ ap (splice out from) (sym (later_quads low high n j h));
    }

    pub nodes_laid : {layout : Layout} → layout ≡ Nodes → v ≡ below_test low high n j → after ≡ splice out from (nodes_of high n)
        → RowLaid layout low high n j from out after v
    nodes_laid {layout} l e w = record { told = e; written = w ∙ ap (splice out from) (sym (nodes_row layout low high n j l)) }

-- ---- the whole grid

pub length_grid : (layout : Layout) (f : Grid) (n m : ℕ) → length (grid_values layout f n m) ≡ needed layout n m
unfolding grid_values needed
length_grid Quads f n m = length_concat (λ (j : ℕ). concat_tabulate (λ (i : ℕ). corner_values (grid_quad f j i)) 0 n) (8 * n) 0 m
    (λ j h. length_concat (λ (i : ℕ). corner_values (grid_quad f j i)) 8 0 n (λ i l. refl) ∙ mul_comm n 8)
length_grid Nodes f n m = length_concat (λ (j : ℕ). concat_tabulate (λ (i : ℕ). node_values (node (f j i))) 0 (n + 1)) (3 * (n + 1)) 0 (m + 1)
    (λ j h. length_concat (λ (i : ℕ). node_values (node (f j i))) 3 0 (n + 1) (λ i l. refl) ∙ mul_comm (n + 1) 3)

pub quads_fit : (n m : ℕ) → n ≤ max_cells → m ≤ max_cells → m * (8 * n) ≤ 8388608
quads_fit n m h k = let e : m * (8 * n) ≤ max_cells * (8 * n) = mul-le-mul_right (8 * n) k in omega arith

pub nodes_fit : (n m : ℕ) → n ≤ max_cells → m ≤ max_cells → (m + 1) * (3 * (n + 1)) ≤ 3151875
nodes_fit n m h k =
    let l : m + 1 ≤ max_cells + 1 = omega arith in
    let e : (m + 1) * (3 * (n + 1)) ≤ (max_cells + 1) * (3 * (n + 1)) = mul-le-mul_right (3 * (n + 1)) l in
    omega arith

-- a test with none after it
nothing_after : {A : Type 0} (x : Result A Refusal) → then_test (outcome x) passed ≡ outcome x
nothing_after (Ok a) = refl
nothing_after (Err r) = rw refusal_number

-- ---- rows 0 to m of the points, one after the other: `low` is the row before, if there is one, and `high` is row j

module _ (f : Grid) (n : ℕ) where
  abbrev pub RowBefore : ℕ → List Point → Type 0
  RowBefore j low = 0 < j → low ≡ row_points (f (j - 1)) n

  pub none_before : (low : List Point) → RowBefore 0 low
  none_before low h = absurd (omega arith)

  pub row_passed : (j : ℕ) (row : List Point) → row ≡ row_points (f j) n → RowBefore (j + 1) row
  row_passed j row e h = let k : j ≡ j + 1 - 1 = omega arith in e ∙ ap (λ (i : ℕ). row_points (f i) n) k

  -- ---- the tests

  below_same : (j : ℕ) (low high : List Point) → RowBefore j low → high ≡ row_points (f j) n → below_test low high n j ≡ cells_below f n j
  unfolding below_test
  below_same zero low high b e = refl
  below_same (suc j) low high b e =
      ap (λ (l : List Point). cells_test l high n j) (b (omega arith)) ∙ ap (λ (l : List Point). cells_test (row_points (f (suc j - 1)) n) l n j) e

  -- what is kept of the cells below row j, and then the rest, is the test of all
  abbrev pub CellsLeft : ℕ → ℕ → Verdict → Type 0
  CellsLeft m j kept = first_of (cells_below f n) 0 (m + 1) ≡ then_test kept (first_of (cells_below f n) j (m + 1 - j))

  pub cells_begin : (m : ℕ) → CellsLeft m 0 passed
  cells_begin m = first_start (cells_below f n) (m + 1)

  cells_turn : (m j : ℕ) → j ≤ m → first_of (cells_below f n) j (m + 1 - j) ≡ then_test (cells_below f n j) (first_of (cells_below f n) (j + 1) (m + 1 - (j + 1)))
  unfolding first_of
  cells_turn m j h =
      let e : m + 1 - j ≡ suc (m + 1 - (j + 1)) = omega arith in
      rw (e, ← (add-one j))

  pub cells_step : (m j : ℕ) (low high : List Point) (kept below : Verdict) → j ≤ m → RowBefore j low → high ≡ row_points (f j) n
      → CellsLeft m j kept → below ≡ below_test low high n j → CellsLeft m (j + 1) (then_test kept below)
  cells_step m j low high kept below h b e o t =
      let rest = first_of (cells_below f n) (j + 1) (m + 1 - (j + 1)) in
      o
      ∙ ap (then_test kept) (cells_turn m j h)
      ∙ ap (λ (v : Verdict). then_test kept (then_test v rest)) (sym (t ∙ below_same j low high b e))
      ∙ sym (then_test_assoc kept below rest)

  pub cells_end : {A : Type 0} (m j : ℕ) (kept : Result A Refusal) → CellsLeft m j (outcome kept) → m < j → outcome kept ≡ quads_test f n m
  unfolding first_of
  cells_end m j kept o h =
      let e : m + 1 - j ≡ 0 = omega arith in
      sym (o ∙ ap (λ (k : ℕ). then_test (outcome kept) (first_of (cells_below f n) j k)) e ∙ nothing_after kept) ∙ tests_of_grid f n m

  -- ---- the output

  module _ (layout : Layout) where
    part_same : (j : ℕ) (low high : List Point) → RowBefore j low → high ≡ row_points (f j) n → row_part layout low high n j ≡ grid_part layout f n j
    part_same zero low high b e = part_first layout low (row_points (f (0 - 1)) n) high n
        ∙ ap (λ (l : List Point). row_part layout (row_points (f (0 - 1)) n) l n 0) e
    part_same (suc j) low high b e =
        ap (λ (l : List Point). row_part layout l high n (suc j)) (b (omega arith))
        ∙ ap (λ (l : List Point). row_part layout (row_points (f (suc j - 1)) n) l n (suc j)) e

    within : (m j : ℕ) → j ≤ m + 1 → length (concat_tabulate (grid_part layout f n) 0 j) ≤ needed layout n m
    within m j h =
        let g = concat_grows (grid_part layout f n) j (m + 1) h in
        let e = ap length (parts_of_grid f n layout m) ∙ length_grid layout f n m in
        omega (arith, g, e)

    -- what row j adds has room
    pub row_fits : (d : List Float) (m j at : ℕ) (low high : List Point) → RowBefore j low → high ≡ row_points (f j) n
        → at ≡ length (concat_tabulate (grid_part layout f n) 0 j) → j ≤ m → needed layout n m ≤ length d
        → at + length (row_part layout low high n j) ≤ length d
    row_fits d m j at low high b e a h r =
        let p = ap length (part_same j low high b e) in
        let q = length_concat_more (grid_part layout f n) j in
        let w = within m (j + 1) (omega arith) in
        omega (arith, p, q, w, a, r)

    pub row_end : (j at next : ℕ) (low high : List Point) → RowBefore j low → high ≡ row_points (f j) n
        → at ≡ length (concat_tabulate (grid_part layout f n) 0 j) → next ≡ at + row_size layout n j
        → next ≡ length (concat_tabulate (grid_part layout f n) 0 (j + 1))
    row_end j at next low high b e a w =
        let p = ap length (part_same j low high b e) in
        let q = length_concat_more (grid_part layout f n) j in
        let s = size_told layout low high n j in
        omega (arith, p, q, s, a, w)

    pub row_written : (d out next : List Float) (m j at : ℕ) (low high : List Point) → RowBefore j low → high ≡ row_points (f j) n
        → at ≡ length (concat_tabulate (grid_part layout f n) 0 j) → j ≤ m → needed layout n m ≤ length d
        → out ≡ splice d 0 (concat_tabulate (grid_part layout f n) 0 j) → next ≡ splice out at (row_part layout low high n j)
        → next ≡ splice d 0 (concat_tabulate (grid_part layout f n) 0 (j + 1))
    row_written d out next m j at low high b e a h r o w =
        let i = within m j (omega arith) in
        concat_step d 0 (grid_part layout f n) out j at next o (omega arith) (omega (arith, i, a, r)) (w ∙ ap (splice out at) (part_same j low high b e))

    pub rows_written : (d out : List Float) (m j : ℕ) → out ≡ splice d 0 (concat_tabulate (grid_part layout f n) 0 j) → m < j → j ≤ m + 1
        → out ≡ splice d 0 (grid_values layout f n m)
    rows_written d out m j o h k =
        let e : j ≡ m + 1 = omega arith in
        o ∙ ap (λ (i : ℕ). splice d 0 (concat_tabulate (grid_part layout f n) 0 i)) e ∙ ap (splice d 0) (parts_of_grid f n layout m)

    -- a refusal clears what was written
    pub rows_cleared : (d out last : List Float) (m j : ℕ) → out ≡ splice d 0 (concat_tabulate (grid_part layout f n) 0 j) → j ≤ m + 1 → needed layout n m ≤ length d
        → last ≡ splice out 0 (zeros (needed layout n m)) → last ≡ splice d 0 (zeros (needed layout n m))
    rows_cleared d out last m j o h r w =
        let z = length_tabulate (λ (i : ℕ). nought) 0 (needed layout n m) in
        let i = within m j h in
        w ∙ ap (λ (l : List Float). splice l 0 (zeros (needed layout n m))) o
        ∙ splice_over d 0 (concat_tabulate (grid_part layout f n) 0 j) (zeros (needed layout n m)) (omega (arith, z, i)) (omega (arith, z, r))
