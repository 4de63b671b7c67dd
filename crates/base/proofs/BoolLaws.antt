-- Tests as facts: a Boolean that passes or fails, numbers told apart, and proofs by cases of a test (`by_cases`, `by_truth`, `by_contradiction`). Assumes nothing.
use mathlib.Core.Logic.{◌≢◌, ◌⊎◌, inl, inr}
use mathlib.Core.Path.{◌≡◌, refl, sym}
use mathlib.Core.Bool.{Bool, true, false, not, ◌||◌, cond}
use Prim.Native.Nat.{ℕ}
use lib.Dec.{T, eqb, eqb→eq, eqb_refl}
use Rattle.base.specs.Lists.{differs}

pub T_or_not : (b : Bool) → T b ⊎ T (not b)
T_or_not true = inl tt
T_or_not false = inr tt

pub clash : (b : Bool) → T b → T (not b) → ⊥
clash true p q = q
clash false p q = p

pub eq→eqb : (m n : ℕ) → m ≡ n → T (eqb m n)
eq→eqb m n e = rw (← e) (eqb_refl m)

pub ne→differs : (x y : ℕ) → y ≢ x → T (differs x y)
ne→differs x y n = lib.Dec.not_T (eqb y x) (λ t. n (eqb→eq y x t))

pub differs→ne : (x y : ℕ) → T (differs x y) → y ≢ x
differs→ne x y t e = clash (eqb y x) (eq→eqb y x e) t

pub or_split : (p q : Bool) → T (p || q) → T p ⊎ T q
or_split true q t = inl tt
or_split false q t = inr t

pub or_left : (p q : Bool) → T p → T (p || q)
or_left true q t = tt
or_left false q t = absurd t

pub or_right : (p q : Bool) → T q → T (p || q)
or_right true q t = tt
or_right false q t = t

-- of two tests, one of which passes, the first fails
pub or_other : (p q : Bool) → T (not p) → T (p || q) → T q
or_other true q n t = absurd n
or_other false q n t = t

-- neither passes
pub nor_left : (p q : Bool) → T (not (p || q)) → T (not p)
nor_left true q t = t
nor_left false q t = tt

pub nor_right : (p q : Bool) → T (not (p || q)) → T (not q)
nor_right true q t = absurd t
nor_right false q t = t

pub T_true : (b : Bool) → T b → b ≡ true
T_true true t = refl
T_true false t = absurd t

pub true_T : (b : Bool) → b ≡ true → T b
true_T b e = rw e tt

pub T_false : (b : Bool) → T (not b) → b ≡ false
T_false true t = absurd t
T_false false t = refl

pub not_T_false : (b : Bool) → (T b → ⊥) → b ≡ false
not_T_false true n = absurd (n tt)
not_T_false false n = refl

pub false_T : (b : Bool) → b ≡ false → T (not b)
false_T b e = rw e tt

pub ne→eqb : (x y : ℕ) → x ≢ y → eqb x y ≡ false
ne→eqb x y n = not_T_false (eqb x y) (λ t. n (eqb→eq x y t))

pub same→eqb : (x : ℕ) → eqb x x ≡ true
same→eqb x = T_true (eqb x x) (eqb_refl x)

-- two tests that pass alike
pub same_truth : (b c : Bool) → (T b → T c) → (T c → T b) → b ≡ c
same_truth true true f g = refl
same_truth true false f g = absurd (f tt)
same_truth false true f g = absurd (g tt)
same_truth false false f g = refl

pub eqb_comm : (m n : ℕ) → eqb m n ≡ eqb n m
eqb_comm m n = same_truth (eqb m n) (eqb n m) (λ t. eq→eqb n m (sym (eqb→eq m n t))) (λ t. eq→eqb m n (sym (eqb→eq n m t)))

-- ---- a test made in the course of a proof: what follows if it passes, and what if it fails
pub by_cases : {P : Type 0} (b : Bool) → (T b → P) → (T (not b) → P) → P
by_cases true f h = f tt
by_cases false f h = h tt

-- the same with equations, which `rw` puts into the goal or into a fact
pub by_truth : {P : Type 0} (b : Bool) → (b ≡ true → P) → (b ≡ false → P) → P
by_truth true f h = f refl
by_truth false f h = h refl

pub by_contradiction : (b : Bool) → (T (not b) → ⊥) → T b
by_contradiction true n = tt
by_contradiction false n = n tt

pub cond_yes {ℓ} : {A : Type ℓ} (b : Bool) (x y : A) → T b → cond b x y ≡ x
cond_yes true x y t = refl
cond_yes false x y t = absurd t

pub cond_no {ℓ} : {A : Type ℓ} (b : Bool) (x y : A) → (T b → ⊥) → cond b x y ≡ y
cond_no true x y n = absurd (n tt)
cond_no false x y n = refl
