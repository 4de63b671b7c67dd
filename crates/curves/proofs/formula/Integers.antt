-- The integers round nothing: the laws of the patch hold of something. Assumes nothing.
use mathlib.Core.Path.{◌≡◌, sym, ap, ◌∙◌}
use Prim.Native.Nat.{zero, suc}
use lib.IntN.{ℤ, pos, negsuc, suc_ℤ, pred_ℤ, neg_ℤ, ◌+ℤ◌, ◌-ℤ◌, ◌*ℤ◌, one, +ℤ_idl, +ℤ_idr, +ℤ_assoc, +ℤ_comm, +ℤ_invr, +ℤ-neg_ℤ_cancel, -ℤ-+ℤ_cancel}
use lib.IntN.{suc_ℤ-+ℤ, pred_ℤ-+ℤ, suc_ℤ-*ℤ, pred_ℤ-*ℤ, zero-*ℤ, *ℤ_comm, *ℤ-one}
use Rattle.curves.specs.CoonsFormula.{Operations, Exact}

-- ---- a sum times k, by counting its first number up or down

swap_last : (a b c : ℤ) → a +ℤ b +ℤ c ≡ a +ℤ c +ℤ b
swap_last a b c = +ℤ_assoc a b c ∙ ap (λ (z : ℤ). a +ℤ z) (+ℤ_comm b c) ∙ sym (+ℤ_assoc a c b)

more : (m b k : ℤ) → (m +ℤ b) *ℤ k ≡ m *ℤ k +ℤ b *ℤ k → (suc_ℤ m +ℤ b) *ℤ k ≡ suc_ℤ m *ℤ k +ℤ b *ℤ k
more m b k h = simp (suc_ℤ-+ℤ, suc_ℤ-*ℤ, h) (swap_last (m *ℤ k) (b *ℤ k) k)

fewer : (m b k : ℤ) → (m +ℤ b) *ℤ k ≡ m *ℤ k +ℤ b *ℤ k → (pred_ℤ m +ℤ b) *ℤ k ≡ pred_ℤ m *ℤ k +ℤ b *ℤ k
fewer m b k h = simp (pred_ℤ-+ℤ, pred_ℤ-*ℤ, h) (swap_last (m *ℤ k) (b *ℤ k) (neg_ℤ k))

none : (b k : ℤ) → (pos zero +ℤ b) *ℤ k ≡ pos zero *ℤ k +ℤ b *ℤ k
none b k = simp (+ℤ_idl, zero-*ℤ)

sum_times : (a b k : ℤ) → (a +ℤ b) *ℤ k ≡ a *ℤ k +ℤ b *ℤ k
sum_times (pos zero) b k = none b k
sum_times (pos (suc n)) b k = more (pos n) b k (sum_times (pos n) b k)
sum_times (negsuc zero) b k = fewer (pos zero) b k (none b k)
sum_times (negsuc (suc n)) b k = fewer (negsuc n) b k (sum_times (negsuc n) b k)

times_sum : (t a b : ℤ) → t *ℤ (a +ℤ b) ≡ t *ℤ a +ℤ t *ℤ b
times_sum t a b = rw (*ℤ_comm t (a +ℤ b), *ℤ_comm t a, *ℤ_comm t b) (sum_times a b t)

-- ---- the operations

abbrev pub of_integers : Operations ℤ ℤ
of_integers = record { zero = pos zero; one = one; less = ◌-ℤ◌; add = ◌+ℤ◌; sub = ◌-ℤ◌; scale = ◌*ℤ◌ }

pub exact_integers : Exact of_integers
exact_integers = record {
  origin = pos zero;
  less_zero = +ℤ_idr one;
  less_one = +ℤ_invr one;
  add_comm = +ℤ_comm;
  add_assoc = +ℤ_assoc;
  add_origin = +ℤ_idr;
  add_sub = +ℤ-neg_ℤ_cancel;
  sub_add = -ℤ-+ℤ_cancel;
  scale_zero = zero-*ℤ;
  scale_one = λ a. *ℤ_comm one a ∙ *ℤ-one a;
  scale_add = times_sum;
}
