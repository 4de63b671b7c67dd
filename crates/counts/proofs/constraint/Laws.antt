-- The constraints of all regions, record by record: all hold just if those of the records left do. Assumes nothing.
use mathlib.Core.Path.{◌≡◌, sym, ap, subst, ◌∙◌}
use mathlib.Core.Bool.{Bool, true, false, ◌&&◌}
use mathlib.Core.List.{List}
use Prim.Native.Nat.{ℕ, ◌+◌, ◌-◌, ◌*◌, ◌≤◌, ◌<◌}
use native.Mathlib.Omega.{arith}
use lib.ListN.{drop}
use lib.Dec.{T}
use Rattle.base.specs.Lists.{all}
use Rattle.regions.specs.Region.{places, constraints, record_size, region_count}
use Rattle.regions.specs.Accept.{sides_fit, records_whole}
use Rattle.counts.specs.Solver.{constraint_holds}
use Rattle.regions.proofs.accept.Laws.{whole_sides, sides_after, side_few, rest}
use Rattle.counts.proofs.SolverLaws.{hold_turn, hold_end}

-- the records from r on
abbrev pub records_from : List ℕ → ℕ → List ℕ
records_from regions r = drop (r * record_size places) regions

-- those of the first r of m records hold
pub record Holding (regions counts : List ℕ) (m r : ℕ) : Type 0 where
  pub sides_fit : T (sides_fit places (m - r) (records_from regions r))
  pub same : all (constraint_holds counts) (constraints places m regions) ≡ all (constraint_holds counts)
      (constraints places (m - r) (records_from regions r))

pub hold_starts : {regions counts : List ℕ} → T (records_whole places regions) → Holding regions counts (region_count places regions) 0
hold_starts {regions} {counts} whole =
    let m = region_count places regions in
    let e : m ≡ m - 0 = omega arith in
    record {
      sides_fit = subst (λ (k : ℕ). T (sides_fit places k regions)) e (whole_sides places regions whole);
      same = ap (λ (k : ℕ). all (constraint_holds counts) (constraints places k regions)) e;
    }

module _ {regions counts : List ℕ} {m r : ℕ} (s : Holding regions counts m r) where
  turn : (b : Bool) → r < m → all (constraint_holds counts) (constraints places 1 (records_from regions r)) ≡ b
      → all (constraint_holds counts) (constraints places m regions)
      ≡ b && all (constraint_holds counts) (constraints places (m - (r + 1)) (records_from regions (r + 1)))
  turn b h e =
      s.same ∙ hold_turn places (constraint_holds counts) m r regions h
      ∙ ap (λ (c : Bool). c && all (constraint_holds counts) (constraints places (m - (r + 1)) (records_from regions (r + 1)))) e

  pub hold_more : r < m → all (constraint_holds counts) (constraints places 1 (records_from regions r)) ≡ true → Holding regions counts m (r + 1)
  hold_more h e = record { sides_fit = sides_after places m r regions h s.sides_fit; same = turn true h e }

  pub hold_fails : r < m → all (constraint_holds counts) (constraints places 1 (records_from regions r)) ≡ false
      → false ≡ all (constraint_holds counts) (constraints places m regions)
  hold_fails h e = sym (turn false h e)

  pub hold_done : m ≤ r → true ≡ all (constraint_holds counts) (constraints places m regions)
  hold_done h = sym (s.same ∙ hold_end places (constraint_holds counts) m r (records_from regions r) h)

-- a turn of the loop over the records
pub ruleset holding = (hold_more, hold_fails, hold_done, rest)
