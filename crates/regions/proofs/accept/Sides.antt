-- A record as its four sides are written, each with its number and all its places (`written`: specs/Turned), for any number p of places. Assumes nothing.
use mathlib.Core.Path.{◌≡◌, refl, sym, ap, ◌∙◌}
use mathlib.Core.List.{List, [], ◌∷◌, ◌++◌}
use Prim.Native.Nat.{ℕ, suc, ◌-◌, ◌*◌, ◌≤◌, ◌<◌}
use native.Mathlib.Nat.{zero-mul, one-mul, add-zero}
use native.Mathlib.Numerals.{add-one}
use native.Mathlib.Omega.{arith}
use lib.ListN.{length, get_or, take, drop, replicate, length-append, length-drop, length-replicate, take-append-drop}
use lib.Seq.{take-nil, get_or-drop, get_or-take, take-take, drop-drop, take_at, drop_at, length-take-le}
use Rattle.regions.specs.Region.{places, side_size, record_size, side}
use Rattle.regions.specs.Turned.{written, number_on}
use Rattle.regions.specs.Written.{side_record}
use Rattle.regions.proofs.accept.Laws.{next_side}
use Rattle.regions.proofs.accept.Record.{within_record}

-- four sides of p places and what comes behind them
abbrev pub row : (a b c d rest : List ℕ) → List ℕ
row a b c d rest = a ++ (b ++ (c ++ (d ++ rest)))

module _ (p : ℕ) (l : List ℕ) where
  -- from side k on
  from_side : (k : ℕ) → written p l k ++ drop (suc k * side_size p) l ≡ drop (k * side_size p) l
  from_side k = rw (← next_side) (take-append-drop (side_size p) (drop (k * side_size p) l))

  pub in_sides : row (written p l 0) (written p l 1) (written p l 2) (written p l 3) (drop (record_size p) l) ≡ l
  in_sides =
      ap (λ (r : List ℕ). written p l 0 ++ (written p l 1 ++ (written p l 2 ++ r))) (from_side 3)
      ∙ ap (λ (r : List ℕ). written p l 0 ++ (written p l 1 ++ r)) (from_side 2)
      ∙ ap (λ (r : List ℕ). written p l 0 ++ r) (from_side 1)
      ∙ from_side 0
      ∙ ap (λ (n : ℕ). drop n l) (zero-mul (side_size p))

-- l starts with these four, and goes on with rest
pub record InRow (p : ℕ) (l a b c d rest : List ℕ) : Type 0 where
  pub side_0 : written p l 0 ≡ a
  pub side_1 : written p l 1 ≡ b
  pub side_2 : written p l 2 ≡ c
  pub side_3 : written p l 3 ≡ d
  pub others : drop (record_size p) l ≡ rest

pub in_row : (p : ℕ) (a b c d rest : List ℕ) → length a ≡ side_size p → length b ≡ side_size p → length c ≡ side_size p → length d ≡ side_size p
    → InRow p (row a b c d rest) a b c d rest
in_row p a b c d rest la lb lc ld =
    record {
      side_0 = rw zero-mul (take_at a (b ++ (c ++ (d ++ rest))) (side_size p) la);
      side_1 = rw from_1 (take_at b (c ++ (d ++ rest)) (side_size p) lb);
      side_2 = rw from_2 (take_at c (d ++ rest) (side_size p) lc);
      side_3 = rw from_3 (take_at d rest (side_size p) ld);
      others = sym (next_side p 3 (row a b c d rest)) ∙ rw from_3 (drop_at d rest (side_size p) ld);
    }
  where
    from_1 : drop (1 * side_size p) (row a b c d rest) ≡ b ++ (c ++ (d ++ rest))
    from_1 = rw one-mul (drop_at a (b ++ (c ++ (d ++ rest))) (side_size p) la)

    from_2 : drop (2 * side_size p) (row a b c d rest) ≡ c ++ (d ++ rest)
    from_2 = sym (next_side p 1 (row a b c d rest)) ∙ rw from_1 (drop_at b (c ++ (d ++ rest)) (side_size p) lb)

    from_3 : drop (3 * side_size p) (row a b c d rest) ≡ d ++ rest
    from_3 = sym (next_side p 2 (row a b c d rest)) ∙ rw from_2 (drop_at c (d ++ rest) (side_size p) lc)

-- ---- number and edges of a side, from how it is written

pub number_written : (p : ℕ) (l : List ℕ) (k : ℕ) → get_or (written p l k) 0 0 ≡ number_on p l k
number_written p l k = rw (get_or-take (side_size p) (drop (k * side_size p) l) 0 0 (omega arith), get_or-drop, add-zero)

-- past the first of the first p + 1 values
tail_of_front : (p : ℕ) (l : List ℕ) → drop 1 (take (suc p) l) ≡ take p (drop 1 l)
tail_of_front p [] = sym (take-nil p)
tail_of_front p (x ∷ l) = refl

pub edges_written : (p : ℕ) (l : List ℕ) (k : ℕ) → number_on p l k ≤ p → take (number_on p l k) (drop 1 (written p l k)) ≡ side p l k
edges_written p l k few =
    rw (tail_of_front, drop-drop, add-one) (take-take (number_on p l k) p (drop (suc (k * side_size p)) l) few)

-- ---- how long a written side is

-- where a whole record stands
pub written_full : (p : ℕ) (l : List ℕ) → record_size p ≤ length l → (k : ℕ) → k < 4 → length (written p l k) ≡ side_size p
written_full p l whole k h =
    let w = within_record p k h in
    length-take-le (side_size p) (drop (k * side_size p) l) (rw length-drop (omega (arith, w, whole)))

pub side_record_full : (edges : List ℕ) → length edges ≤ places → length (side_record edges) ≡ side_size places
side_record_full edges few = ap suc (length-append edges (replicate (places - length edges) 0) ∙ rw (length-replicate {A = ℕ} (places - length edges) 0) (omega (arith, few)))
