-- Laws of specs/Lists: members, lists that have an element if it passes a test, tests of some or of every element, acts in a row, and what
-- stands at a number. Assumes nothing.
use mathlib.Core.Path.{◌≡◌, refl, sym}
use mathlib.Core.Bool.{Bool, true, false, not, ◌&&◌, ◌||◌, cond, or_assoc}
use mathlib.Core.Logic.{◌⊎◌, inl, inr}
use mathlib.Core.List.{List, [], ◌∷◌, ◌++◌, append-nil, map, map-id}
use Prim.Native.Nat.{ℕ, zero, suc, ◌+◌, ◌<◌}
use native.Mathlib.Omega.{arith}
use lib.ListN.{length, get_or, take, length-append}
use lib.Dec.{T, not_T, eqb, eqb→eq, eqb-zero-suc, eqb-suc-zero, eqb-suc-suc}
use lib.Ieee.Fits.{and_i, and_l, and_r}
use Rattle.base.specs.Lists.{member, any, all, filter, each, Distinct, In}
use Rattle.base.proofs.BoolLaws.{by_truth, clash, eq→eqb, or_split, or_left, or_right, T_true, true_T}

-- ---- membership
pub member→in : (x : ℕ) (l : List ℕ) → T (member x l) → In x l
member→in x [] t = t
member→in x (y ∷ l) t = elim (or_split (eqb x y) (member x l) t) [ inl u ↦ inl (eqb→eq x y u) | inr u ↦ inr (member→in x l u) ]

pub in→member : (x : ℕ) (l : List ℕ) → In x l → T (member x l)
in→member x [] i = i
in→member x (y ∷ l) (inl e) = or_left (eqb x y) (member x l) (eq→eqb x y e)
in→member x (y ∷ l) (inr i) = or_right (eqb x y) (member x l) (in→member x l i)

pub in_left : {A : Type 0} (a : A) (l m : List A) → In a l → In a (l ++ m)
in_left a [] m i = absurd i
in_left a (x ∷ l) m (inl e) = inl e
in_left a (x ∷ l) m (inr i) = inr (in_left a l m i)

pub in_right : {A : Type 0} (a : A) (l m : List A) → In a m → In a (l ++ m)
in_right a [] m i = i
in_right a (x ∷ l) m i = inr (in_right a l m i)

pub in_split : {A : Type 0} (a : A) (l m : List A) → In a (l ++ m) → In a l ⊎ In a m
in_split a [] m i = inr i
in_split a (x ∷ l) m (inl e) = inl (inl e)
in_split a (x ∷ l) m (inr i) = elim (in_split a l m i) [ inl j ↦ inl (inr j) | inr j ↦ inr j ]

pub in_snoc : {A : Type 0} (a : A) (l : List A) (z : A) → In a (l ++ z ∷ []) → In a l ⊎ (a ≡ z)
in_snoc a l z i = elim (in_split a l (z ∷ []) i) [ inl j ↦ inl j | inr (inl e) ↦ inr e | inr (inr j) ↦ absurd j ]

-- ---- a list that has x in front if a test passes, as `filter` and its like build it
module _ {A : Type 0} (b : Bool) (x : A) (l : List A) where
  pub in_front : (a : A) → T b → a ≡ x → In a (cond b (x ∷ l) l)
  in_front a t e = rw (T_true b t) (inl e)

  pub in_behind : (a : A) → In a l → In a (cond b (x ∷ l) l)
  in_behind a i = by_truth b (λ e. rw e (inr i)) (λ e. rw e i)

  pub front_or_behind : (a : A) → In a (cond b (x ∷ l) l) → (T b × (a ≡ x)) ⊎ In a l
  front_or_behind a i = by_truth b (λ e. elim (rw e at i) [ inl q ↦ inl (true_T b e, q) | inr j ↦ inr j ]) (λ e. inr (rw e at i))

pub in_filter : (p : ℕ → Bool) (a : ℕ) (l : List ℕ) → In a l → T (p a) → In a (filter p l)
in_filter p a [] i t = i
in_filter p a (x ∷ l) (inl e) t = in_front (p x) x (filter p l) a (rw e at t) e
in_filter p a (x ∷ l) (inr i) t = in_behind (p x) x (filter p l) a (in_filter p a l i t)

pub filter_in : (p : ℕ → Bool) (a : ℕ) (l : List ℕ) → In a (filter p l) → In a l × T (p a)
filter_in p a [] i = absurd i
filter_in p a (x ∷ l) i =
    elim (front_or_behind (p x) x (filter p l) a i) [
      | inl f ↦ (inl f.1, rw f.1 f.0)
      | inr j ↦ (let r = filter_in p a l j in (inr r.0, r.1))
    ]

-- ---- a test of some element, and of every element
pub any_in : {A : Type 0} (p : A → Bool) (l : List A) → T (any p l) → (a : A) × In a l × T (p a)
any_in p [] t = absurd t
any_in p (x ∷ l) t = elim (or_split (p x) (any p l) t) [
  | inl u ↦ (x, inl refl, u)
  | inr u ↦ (let w = any_in p l u in (w.0, inr w.1, w.2))
]

pub in_any : {A : Type 0} (p : A → Bool) (l : List A) (a : A) → In a l → T (p a) → T (any p l)
in_any p [] a i t = absurd i
in_any p (x ∷ l) a (inl e) t = or_left (p x) (any p l) (rw e at t)
in_any p (x ∷ l) a (inr i) t = or_right (p x) (any p l) (in_any p l a i t)

pub not_any : {A : Type 0} (p : A → Bool) (l : List A) → ((a : A) → In a l → T (p a) → ⊥) → T (not (any p l))
not_any p l h = not_T (any p l) (λ t. let w = any_in p l t in h w.0 w.1 w.2)

pub none_out : {A : Type 0} (p : A → Bool) (l : List A) → T (not (any p l)) → (a : A) → In a l → T (p a) → ⊥
none_out p l t a i u = clash (any p l) (in_any p l a i u) t

pub every : {A : Type 0} (p : A → Bool) (l : List A) → ((a : A) → In a l → T (p a)) → T (all p l)
every p [] h = tt
every p (x ∷ l) h = and_i (p x) (all p l) (h x (inl refl)) (every p l (λ a i. h a (inr i)))

pub every_in : {A : Type 0} (p : A → Bool) (l : List A) → T (all p l) → (a : A) → In a l → T (p a)
every_in p [] t a i = absurd i
every_in p (x ∷ l) t a (inl e) = rw e (and_l (p x) (all p l) t)
every_in p (x ∷ l) t a (inr i) = every_in p l (and_r (p x) (all p l) t) a i

pub nothing_in : {A : Type 0} (a : A) (l : List A) → In a l → l ≡ [] → ⊥
nothing_in a l i e = rw e at i

pub no_elements : {A : Type 0} (l : List A) → ((a : A) → In a l → ⊥) → l ≡ []
no_elements [] h = refl
no_elements (x ∷ l) h = absurd (h x (inl refl))

-- ---- tests and acts that agree element by element, along two lists of which f makes the second from the first
pub any_map : {A B : Type 0} (f : A → B) (p : A → Bool) (q : B → Bool) (l : List A) → ((a : A) → In a l → p a ≡ q (f a)) → any p l ≡ any q (map f l)
any_map f p q [] h = refl
any_map f p q (x ∷ l) h = rw (h x (inl refl), any_map f p q l (λ a i. h a (inr i)))

pub all_map : {A B : Type 0} (f : A → B) (p : A → Bool) (q : B → Bool) (l : List A) → ((a : A) → In a l → p a ≡ q (f a)) → all p l ≡ all q (map f l)
all_map f p q [] h = refl
all_map f p q (x ∷ l) h = rw (h x (inl refl), all_map f p q l (λ a i. h a (inr i)))

pub filter_map : (f : ℕ → ℕ) (p q : ℕ → Bool) (l : List ℕ) → ((a : ℕ) → In a l → p a ≡ q (f a)) → map f (filter p l) ≡ filter q (map f l)
filter_map f p q [] h = refl
filter_map f p q (x ∷ l) h =
    let e = filter_map f p q l (λ a i. h a (inr i)) in
    rw (h x (inl refl)) (by_truth (q (f x)) (λ t. rw (t, e)) (λ t. rw (t, e)))

pub each_map : {S A B : Type 0} (f : A → B) (act : A → S → S) (act' : B → S → S) (l : List A) → ((a : A) → In a l → (st : S) → act a st ≡ act' (f a) st)
    → (st : S) → each act l st ≡ each act' (map f l) st
each_map f act act' [] h st = refl
each_map f act act' (x ∷ l) h st = rw (h x (inl refl) st, each_map f act act' l (λ a i. h a (inr i)) (act' (f x) st))

-- the same along one list
pub any_same : {A : Type 0} (p q : A → Bool) (l : List A) → ((a : A) → In a l → p a ≡ q a) → any p l ≡ any q l
any_same p q l h = rw (any_map (λ a. a) p q l h, map-id)

pub all_same : {A : Type 0} (p q : A → Bool) (l : List A) → ((a : A) → In a l → p a ≡ q a) → all p l ≡ all q l
all_same p q l h = rw (all_map (λ a. a) p q l h, map-id)

pub each_same : {S A : Type 0} (act act' : A → S → S) (l : List A) → ((a : A) → In a l → (st : S) → act a st ≡ act' a st) → (st : S) → each act l st ≡ each act' l st
each_same act act' l h st = rw (each_map (λ a. a) act act' l h st, map-id)

-- ---- members, and what stands at a number
pub member_append : (y : ℕ) (l m : List ℕ) → member y (l ++ m) ≡ member y l || member y m
member_append y [] m = refl
member_append y (x ∷ l) m = rw (member_append y l m, or_assoc)

pub one_in : (y e : ℕ) → T (member y (e ∷ [])) → y ≡ e
one_in y e t = elim (member→in y (e ∷ []) t) [ inl q ↦ q | inr q ↦ absurd q ]

pub in_one : (y e : ℕ) → y ≡ e → T (member y (e ∷ []))
in_one y e q = in→member y (e ∷ []) (inl q)

pub member_getD : (l : List ℕ) (j : ℕ) → j < length l → T (member (get_or l j 0) l)
member_getD [] j h = absurd (omega arith)
member_getD (x ∷ l) zero h = or_left (eqb x x) (member x l) (eq→eqb x x refl)
member_getD (x ∷ l) (suc j) h = or_right (eqb (get_or l j 0) x) (member (get_or l j 0) l) (member_getD l j (omega arith))

-- an element of a list without repetitions is not among those before it
pub distinct_before : (l : List ℕ) (j : ℕ) → Distinct l → j < length l → T (member (get_or l j 0) (take j l)) → ⊥
distinct_before [] j d h t = omega arith
distinct_before (x ∷ l) zero d h t = t
distinct_before (x ∷ l) (suc j) d h t =
    elim (or_split (eqb (get_or l j 0) x) (member (get_or l j 0) (take j l)) t) [
      | inl u ↦ clash (member x l) (rw (eqb→eq (get_or l j 0) x u) at (member_getD l j (omega arith))) d.0
      | inr u ↦ distinct_before l j d.1 (omega arith) u
    ]

pub getD_in : (l : List ℕ) (k d : ℕ) → get_or l k d < d → In (get_or l k d) l
getD_in [] k d h = absurd (omega arith)
getD_in (x ∷ l) zero d h = inl refl
getD_in (x ∷ l) (suc k) d h = inr (getD_in l k d h)

-- what stands at k once i is put behind a list
pub getD_snoc : (l : List ℕ) (i k d : ℕ) → get_or (l ++ i ∷ []) k d ≡ cond (eqb (length l) k) i (get_or l k d)
getD_snoc [] i zero d = refl
getD_snoc [] i (suc k) d = rw eqb-zero-suc
getD_snoc (x ∷ l) i zero d = rw eqb-suc-zero
getD_snoc (x ∷ l) i (suc k) d = rw eqb-suc-suc (getD_snoc l i k d)

-- what a list grows by, counted and read
pub length_grown : (l : List ℕ) (i : ℕ) (b : Bool) → length l + cond b 1 0 ≡ length (l ++ cond b (i ∷ []) [])
length_grown l i true = sym (length-append l (i ∷ []))
length_grown l i false = sym (length-append l [])

pub getD_grown : (l : List ℕ) (i k d : ℕ) (b : Bool) → cond (b && eqb (length l) k) i (get_or l k d) ≡ get_or (l ++ cond b (i ∷ []) []) k d
getD_grown l i k d true = sym (getD_snoc l i k d)
getD_grown l i k d false = rw append-nil
