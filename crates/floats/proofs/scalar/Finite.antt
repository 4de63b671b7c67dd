-- What an operation is made on is finite where its result is: a sum, a difference, a square or a root of what is not finite is not finite either.
-- Assumes nothing.
use mathlib.Core.Bool.{true, false}
use lib.Dec.{T}
use lib.Ieee.{Float, nan, inf, fin, Format, add, sub, mul, neg}
use Rattle.floats.specs.Root.{root}
use Rattle.floats.specs.Scalar.{is_finite}

pub sum_first : (f : Format) (x d : Float) → T (is_finite (add f x d)) → T (is_finite x)
unfolding add is_finite
sum_first f nan d t = t
sum_first f (inf s) nan t = t
sum_first f (inf true) (inf true) t = t
sum_first f (inf true) (inf false) t = t
sum_first f (inf false) (inf true) t = t
sum_first f (inf false) (inf false) t = t
sum_first f (inf s) (fin z n k) t = t
sum_first f (fin s m e) d t = tt

pub sum_second : (f : Format) (x d : Float) → T (is_finite (add f x d)) → T (is_finite d)
unfolding add is_finite
sum_second f nan d t = absurd t
sum_second f (inf s) nan t = t
sum_second f (inf true) (inf true) t = t
sum_second f (inf true) (inf false) t = t
sum_second f (inf false) (inf true) t = t
sum_second f (inf false) (inf false) t = t
sum_second f (inf s) (fin z n k) t = tt
sum_second f (fin s m e) nan t = t
sum_second f (fin s m e) (inf z) t = t
sum_second f (fin s m e) (fin z n k) t = tt

neg_finite : (x : Float) → T (is_finite (neg x)) → T (is_finite x)
unfolding neg is_finite
neg_finite nan t = t
neg_finite (inf s) t = t
neg_finite (fin s m e) t = tt

pub difference_first : (f : Format) (x y : Float) → T (is_finite (sub f x y)) → T (is_finite x)
unfolding sub
difference_first f x y t = sum_first f x (neg y) t

pub difference_second : (f : Format) (x y : Float) → T (is_finite (sub f x y)) → T (is_finite y)
unfolding sub
difference_second f x y t = neg_finite y (sum_second f x (neg y) t)

pub square_finite : (f : Format) (x : Float) → T (is_finite (mul f x x)) → T (is_finite x)
unfolding mul is_finite
square_finite f nan t = t
square_finite f (inf s) t = t
square_finite f (fin s m e) t = tt

pub root_finite : (f : Format) (x : Float) → T (is_finite (root f x)) → T (is_finite x)
unfolding root is_finite
root_finite f nan t = t
root_finite f (inf true) t = t
root_finite f (inf false) t = t
root_finite f (fin s m e) t = tt
