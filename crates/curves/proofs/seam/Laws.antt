-- The seam of a side edge by edge, and the tests of one seam by their outcomes. Assumes nothing.
use mathlib.Core.Path.{◌≡◌, refl, sym, ap, ◌∙◌}
use mathlib.Core.Bool.{Bool, true, false}
use mathlib.Core.List.{List, [], ◌∷◌, ◌++◌}
use Prim.Native.Nat.{ℕ, ◌+◌, ◌-◌, ◌<◌, ◌≤◌}
use native.Mathlib.Numerals.{add-one}
use native.Mathlib.Omega.{arith}
use lib.ListN.{length, get_or, set, take, drop, drop_of_length-le}
use lib.Seq.{drop-cons, take-length}
use lib.Dec.{ltb}
use lib.Ieee.{Float, nan}
use borrow.Author.Tests.{lt-ltb, le-ltb}
use Rattle.base.specs.declared.verdict.Verdict.{Verdict}
use Rattle.base.specs.Refusal.{refused, then_test, refuse_if}
use Rattle.base.specs.Tests.{first_of}
use Rattle.curves.specs.Seam.{edge_value, edge_values, seam_from, side_seam, value_test, seam_ends_test, seam_test}
use Rattle.base.specs.Buffers.{splice}
use Rattle.base.proofs.BufferLaws.{length_tabulate, part_fits, part_left, part_written, set_splice}

-- ---- edge by edge

pub length_edge : (breaks : List Float) (i n : ℕ) → length (edge_values breaks i n) ≡ n
unfolding edge_values
length_edge breaks i n = length_tabulate (edge_value breaks i n) 0 n

seam_edge : (breaks : List Float) (counts : List ℕ) (i : ℕ) → i < length counts
    → seam_from breaks i (drop i counts) ≡ edge_values breaks i (get_or counts i 0) ++ seam_from breaks (i + 1) (drop (i + 1) counts)
unfolding seam_from
seam_edge breaks counts i h =
    ap (seam_from breaks i) (drop-cons counts i 0 h)
    ∙ ap (λ (k : ℕ). edge_values breaks i (get_or counts i 0) ++ seam_from breaks k (drop k counts)) (sym (add-one i))

seam_last : (breaks : List Float) (counts : List ℕ) (i : ℕ) → length counts ≤ i → seam_from breaks i (drop i counts) ≡ (get_or breaks i nan ∷ []) ++ []
unfolding seam_from
seam_last breaks counts i h = ap (seam_from breaks i) (drop_of_length-le counts h)

-- before the edge i: k values of the seam are written over d, and what is still to come is that of the edges from i on
pub record SeamTo (breaks : List Float) (counts : List ℕ) (d : List Float) (i k : ℕ) (out : List Float) : Type 0 where
  pub so_far : k ≤ length (side_seam breaks counts)
  pub to_come : drop k (side_seam breaks counts) ≡ seam_from breaks i (drop i counts)
  pub written : out ≡ splice d 0 (take k (side_seam breaks counts))

pub seam_begins : {breaks : List Float} {counts : List ℕ} {d : List Float} → SeamTo breaks counts d 0 0 d
unfolding side_seam
seam_begins = record { so_far = omega arith; to_come = refl; written = refl }

module _ {breaks : List Float} {counts : List ℕ} {d : List Float} {i k : ℕ} {out : List Float} (s : SeamTo breaks counts d i k out) where
  module _ (h : i < length counts) where
    next : drop k (side_seam breaks counts) ≡ edge_values breaks i (get_or counts i 0) ++ seam_from breaks (i + 1) (drop (i + 1) counts)
    next = s.to_come ∙ seam_edge breaks counts i h

    -- the next edge's values are within the seam
    pub edge_fits : k + get_or counts i 0 ≤ length (side_seam breaks counts)
    edge_fits =
        let f = part_fits (side_seam breaks counts) (edge_values breaks i (get_or counts i 0)) (seam_from breaks (i + 1) (drop (i + 1) counts)) k s.so_far next in
        omega (arith, f, length_edge breaks i (get_or counts i 0))

    pub next_edge : {after : List Float} → length (side_seam breaks counts) ≤ length d → after ≡ splice out k (edge_values breaks i (get_or counts i 0))
        → SeamTo breaks counts d (i + 1) (k + get_or counts i 0) after
    next_edge {after} r w =
        let whole = side_seam breaks counts in
        let values = edge_values breaks i (get_or counts i 0) in
        let rest = seam_from breaks (i + 1) (drop (i + 1) counts) in
        let l = length_edge breaks i (get_or counts i 0) in
        record {
          so_far = edge_fits;
          to_come = ap (λ (x : ℕ). drop (k + x) whole) (sym l) ∙ part_left whole values rest k next;
          written = part_written d out whole values rest k after s.so_far r next s.written w ∙ ap (λ (x : ℕ). splice d 0 (take (k + x) whole)) l;
        }

  module _ (h : length counts ≤ i) where
    last : drop k (side_seam breaks counts) ≡ (get_or breaks i nan ∷ []) ++ []
    last = s.to_come ∙ seam_last breaks counts i h

    -- one value is left
    pub last_fits : k + 1 ≡ length (side_seam breaks counts)
    last_fits = let f = part_fits (side_seam breaks counts) (get_or breaks i nan ∷ []) [] k s.so_far last in omega (arith, f)

    pub seam_done : length (side_seam breaks counts) ≤ length d → length out ≡ length d → set out k (get_or breaks i nan) ≡ splice d 0 (side_seam breaks counts)
    seam_done r l =
        let whole = side_seam breaks counts in
        part_written d out whole (get_or breaks i nan ∷ []) [] k _ s.so_far r last s.written (set_splice out k (get_or breaks i nan) (omega (arith, last_fits)))
        ∙ ap (λ (x : ℕ). splice d 0 (take x whole)) last_fits
        ∙ ap (splice d 0) (take-length whole)

-- ---- the tests

module _ (values : List Float) (seam : ℕ) where
  abbrev from_two : Verdict
  from_two = then_test (first_of (value_test values seam) 0 (length values)) (seam_ends_test (get_or values 0 nan) (get_or values (length values - 1) nan) seam)

  by_length : (b : Bool) → ltb (length values) 2 ≡ b → then_test (refuse_if b (refused 18 seam 0)) from_two ≡ seam_test values seam
  unfolding seam_test
  by_length b e = sym (ap (λ (x : Bool). then_test (refuse_if x (refused 18 seam 0)) from_two) e)

  pub too_short : length values < 2 → refused 18 seam 0 ≡ seam_test values seam
  too_short h = by_length true (lt-ltb (length values) 2 h)

  pub long_enough : 2 ≤ length values → from_two ≡ seam_test values seam
  long_enough h = by_length false (le-ltb (length values) 2 h)
