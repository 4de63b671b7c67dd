-- What a reader of `root` wants to know, in one place: it is the correctly rounded root, for every finite operand above zero of either format (`root_iff`, `root_half_unit`), and what it is
-- for the others. Assumes nothing.
use mathlib.Core.Path.{◌≡◌, refl}
use mathlib.Core.Bool.{Bool, true, false}
use mathlib.Core.Logic.{◌↔◌}
use Prim.Native.Nat.{ℕ, zero, suc, ◌*◌, ◌<◌}
use native.Mathlib.Nat.{mul-pos}
use native.Mathlib.Omega.{arith}
use lib.IntN.{ℤ, pos}
use lib.Dec.{T}
use lib.Ieee.{Float, nan, inf, fin, Format, down}
use lib.Ieee.Fits.{down_pos}
use Rattle.floats.specs.Root.{amount, among, Nearest, HalfUnit, apart, rounded, root}
use Rattle.floats.proofs.root.Amounts.{own_amount}
use Rattle.floats.proofs.root.Rounding.{rounding, half_unit, only}
use Rattle.floats.proofs.root.TakenApart.{taken_apart}

-- ---- finite operands above zero

no_zero : (f : Format) (s : Bool) (e : ℤ) → T (among f (fin s zero e)) → 0 < amount f (fin s zero e) → ⊥
no_zero f s e X P = let p : 0 < amount f (fin s zero e) * down e = mul-pos P (down_pos e) in omega (arith, (own_amount f (fin s zero e) X).1)

pub root_above : (f : Format) (x : Float) → T (among f x) → 0 < amount f x → rounded f (apart f x) ≡ root f x
unfolding root among
root_above f nan X P = absurd X
root_above f (inf s) X P = absurd X
root_above f (fin s zero e) X P = absurd (no_zero f s e X P)
root_above f (fin true (suc m) e) X P = absurd X
root_above f (fin false (suc m) e) X P = refl

pub root_nearest : (f : Format) (x : Float) → T (among f x) → 0 < amount f x → Nearest f x (root f x)
root_nearest f x X P = rw (← (root_above f x X P)) (rounding f x (apart f x) X (taken_apart f x X P).0)

-- r is the correctly rounded root of x exactly where it is `root x`
pub root_iff : (f : Format) (x r : Float) → T (among f x) → 0 < amount f x → Nearest f x r ↔ (r ≡ root f x)
root_iff f x r X P = (λ n. only f x r (root f x) n (root_nearest f x X P), λ e. rw e (root_nearest f x X P))

pub root_half_unit : (f : Format) (x : Float) → T (among f x) → 0 < amount f x → HalfUnit f x (root f x)
root_half_unit f x X P = rw (← (root_above f x X P)) (half_unit f x (apart f x) X (taken_apart f x X P).0)

-- ---- special operands

pub root_of_zero : (f : Format) (s : Bool) → root f (fin s 0 (pos 0)) ≡ fin s 0 (pos 0)
unfolding root
root_of_zero f s = refl

pub root_of_infinity : (f : Format) → root f (inf false) ≡ inf false
unfolding root
root_of_infinity f = refl

pub root_of_below : (f : Format) (m : ℕ) (e : ℤ) → root f (fin true (suc m) e) ≡ nan
unfolding root
root_of_below f m e = refl

pub root_of_minus_infinity : (f : Format) → root f (inf true) ≡ nan
unfolding root
root_of_minus_infinity f = refl
