-- Laws of `tabulate`, `concat_tabulate` and `splice`: a list by its index function, and a buffer that is written from some index on. Assumes nothing.
use mathlib.Core.Path.{◌≡◌, refl, sym, ap, ◌∙◌}
use mathlib.Core.List.{List, [], ◌∷◌, ◌++◌, append_assoc, append-nil}
use Prim.Native.Nat.{ℕ, zero, suc, ◌+◌, ◌-◌, ◌*◌, ◌<◌, ◌≤◌}
use native.Mathlib.Nat.{add-zero, zero-add, add-suc, suc-add, add_assoc, add_comm, zero-mul, suc-mul, mul-suc, mul-zero, le_of_suc-le-suc, not-suc-le-zero}
use native.Mathlib.Numerals.{add-one}
use native.Mathlib.Omega.{arith}
use lib.ListN.{length, get_or, set, take, drop, replicate, length-append, length-drop, take-append-drop, get_or-append}
use lib.Seq.{drop-cons, set_at, append_snoc, set_split, length-take-le, take_at, drop_at, drop-drop, take-add, take-append_seam, drop-append_seam, get_or-append-add, get_or-drop}
use Rattle.base.specs.Buffers.{tabulate, concat_tabulate, splice}

module _ {A : Type 0} where
  -- ---- tabulate

  pub length_tabulate : (f : ℕ → A) (k n : ℕ) → length (tabulate f k n) ≡ n
  length_tabulate f k zero = refl
  length_tabulate f k (suc n) = rw (length_tabulate f (suc k) n)

  tabulate_snoc : (f : ℕ → A) (k n : ℕ) → tabulate f k (suc n) ≡ tabulate f k n ++ (f (k + n) ∷ [])
  tabulate_snoc f k zero = rw add-zero
  tabulate_snoc f k (suc n) = rw (tabulate_snoc f (suc k) n, suc-add, ← add-suc)

  -- one more at the end, as a loop's counter has it
  pub tabulate_more : (f : ℕ → A) (n : ℕ) → tabulate f 0 (n + 1) ≡ tabulate f 0 n ++ (f n ∷ [])
  tabulate_more f n = rw (add-one, tabulate_snoc, zero-add)

  -- ---- concat_tabulate

  concat_snoc : (f : ℕ → List A) (k n : ℕ) → concat_tabulate f k (suc n) ≡ concat_tabulate f k n ++ f (k + n)
  concat_snoc f k zero = rw (append-nil, add-zero)
  concat_snoc f k (suc n) = rw (concat_snoc f (suc k) n, suc-add, ← add-suc, ← append_assoc)

  -- one more at the end, as a loop's counter has it
  pub concat_more : (f : ℕ → List A) (n : ℕ) → concat_tabulate f 0 (n + 1) ≡ concat_tabulate f 0 n ++ f n
  concat_more f n = rw (add-one, concat_snoc, zero-add)

  -- parts of one length
  pub length_concat : (f : ℕ → List A) (w k n : ℕ) → ((i : ℕ) → k ≤ i → length (f i) ≡ w) → length (concat_tabulate f k n) ≡ n * w
  length_concat f w k zero h = sym (zero-mul w)
  length_concat f w k (suc n) h = rw (length-append, h k (omega arith), length_concat f w (suc k) n (λ i l. h i (omega arith)), add_comm, ← suc-mul)

  pub length_concat_more : (f : ℕ → List A) (n : ℕ) → length (concat_tabulate f 0 (n + 1)) ≡ length (concat_tabulate f 0 n) + length (f n)
  length_concat_more f n = rw (concat_more, length-append)

  pub concat_same : (f g : ℕ → List A) (k n : ℕ) → ((i : ℕ) → i < k + n → f i ≡ g i) → concat_tabulate f k n ≡ concat_tabulate g k n
  concat_same f g k zero h = refl
  concat_same f g k (suc n) h = rw (h k (omega arith), concat_same f g (suc k) n (λ i l. h i (omega arith)))

  -- the value r of the part i, of parts of one length
  pub getD_concat : (f : ℕ → List A) (w k n i r : ℕ) (z : A) → ((j : ℕ) → length (f j) ≡ w) → i < n → r < w
      → get_or (concat_tabulate f k n) (w * i + r) z ≡ get_or (f (k + i)) r z
  getD_concat f w k zero i r z h l q = absurd (not-suc-le-zero l)
  getD_concat f w k (suc n) zero r z h l q =
      let g = h k in
      rw (mul-zero, zero-add, add-zero) (get_or-append (f k) (concat_tabulate f (suc k) n) z r (omega arith))
  getD_concat f w k (suc n) (suc i) r z h l q =
      let g = h k in
      let m = mul-suc w i in
      let e : w * suc i + r ≡ length (f k) + (w * i + r) = omega arith in
      rw (e, get_or-append-add, getD_concat f w (suc k) n i r z h (le_of_suc-le-suc l) q, suc-add, ← add-suc)

  concat_add : (f : ℕ → List A) (k n m : ℕ) → concat_tabulate f k (n + m) ≡ concat_tabulate f k n ++ concat_tabulate f (k + n) m
  concat_add f k zero m = rw (zero-add, add-zero)
  concat_add f k (suc n) m = rw (suc-add, concat_add f (suc k) n m, suc-add, ← add-suc, ← append_assoc)

  pub concat_grows : (f : ℕ → List A) (i k : ℕ) → i ≤ k → length (concat_tabulate f 0 i) ≤ length (concat_tabulate f 0 k)
  concat_grows f i k h =
      let e : k ≡ i + (k - i) = omega arith in
      rw (e, concat_add, length-append) (omega arith)

  -- ---- splice

  head_length : (d : List A) (from : ℕ) (vs : List A) → from ≤ length d → length (take from d ++ vs) ≡ from + length vs
  head_length d from vs h = rw (length-append, length-take-le)

  pub splice_none : (d : List A) (from : ℕ) → d ≡ splice d from []
  splice_none d from = rw (add-zero, append-nil, take-append-drop)

  -- a store just past what was replaced
  pub splice_snoc : (d : List A) (from : ℕ) (vs : List A) (v : A) (i : ℕ) → i ≡ from + length vs → i < length d
      → set (splice d from vs) i v ≡ splice d from (vs ++ (v ∷ []))
  splice_snoc d from vs v i e h =
      let p : length (take from d ++ vs) ≡ i = head_length d from vs (omega arith) ∙ sym e in
      let q : suc i ≡ from + length (vs ++ (v ∷ [])) = simp length-append (omega arith) in
      rw (← e, drop-cons d i v, set_at, ← append_snoc, append_assoc (take from d) vs (v ∷ []), q)

  -- one more of several stores in a row
  pub store_next : (d : List A) (from : ℕ) (vs out : List A) (i : ℕ) (v : A) → out ≡ splice d from vs → i ≡ from + length vs → i < length d
      → set out i v ≡ splice d from (vs ++ (v ∷ []))
  store_next d from vs out i v o e h = rw (o, splice_snoc)

  -- a turn of a loop that writes f 0, f 1, .. from an index on
  pub fill_step : (d : List A) (from : ℕ) (f : ℕ → A) (out : List A) (j k : ℕ) (v : A)
      → out ≡ splice d from (tabulate f 0 j) → k ≡ from + j → k < length d → v ≡ f j → set out k v ≡ splice d from (tabulate f 0 (j + 1))
  fill_step d from f out j k v o e h w =
      let l : k ≡ from + length (tabulate f 0 j) = rw length_tabulate e in
      rw (o, splice_snoc, w, ← (tabulate_more f j))

  -- a second part just past the first
  splice_next : (d : List A) (from : ℕ) (vs ws : List A) (i : ℕ) → i ≡ from + length vs → i ≤ length d → splice (splice d from vs) i ws ≡ splice d from (vs ++ ws)
  splice_next d from vs ws i e h =
      let l : length (take from d ++ vs) ≡ i = head_length d from vs (omega arith) ∙ sym e in
      rw (take_at, ← drop-drop, drop_at, drop-drop, append_assoc (take from d) vs ws, add_assoc, ← length-append)

  -- a turn of a loop that writes the parts f 0, f 1, .. one after the other
  pub concat_step : (d : List A) (from : ℕ) (f : ℕ → List A) (out : List A) (j k : ℕ) (next : List A)
      → out ≡ splice d from (concat_tabulate f 0 j) → k ≡ from + length (concat_tabulate f 0 j) → k ≤ length d → next ≡ splice out k (f j)
      → next ≡ splice d from (concat_tabulate f 0 (j + 1))
  concat_step d from f out j k next o e h w = rw (w, o, splice_next, ← (concat_more f j))

  -- two stores are a part of two values
  pub pair_step : (d : List A) (f : ℕ → List A) (out : List A) (i k : ℕ) (x y : A)
      → ((j : ℕ) → length (f j) ≡ 2) → out ≡ splice d 0 (concat_tabulate f 0 i) → k ≡ 2 * i → k + 2 ≤ length d → x ∷ y ∷ [] ≡ f i
      → set (set out k x) (k + 1) y ≡ splice d 0 (concat_tabulate f 0 (i + 1))
  pair_step d f out i k x y w o e h q =
      let vs : List A = concat_tabulate f 0 i in
      let l : length vs ≡ i * 2 = length_concat f 2 0 i (λ j l. w j) in
      let s = store_next d 0 vs out k x o (omega arith) (omega arith) in
      let m : k + 1 ≡ 0 + length (vs ++ (x ∷ [])) = simp length-append (omega arith) in
      rw (store_next d 0 (vs ++ (x ∷ [])) (set out k x) (k + 1) y s m (omega arith), append_assoc vs (x ∷ []) (y ∷ []), q, ← (concat_more f i))

  -- what was written is written over by a part that is as long or longer
  pub splice_over : (d : List A) (from : ℕ) (vs ws : List A) → length vs ≤ length ws → from + length ws ≤ length d
      → splice (splice d from vs) from ws ≡ splice d from ws
  splice_over d from vs ws h r =
      let k : from + length ws ≡ (from + length vs) + (length ws - length vs) = omega arith in
      let l : length (take from d ++ vs) ≡ from + length vs = head_length d from vs (omega arith) in
      let m : length (take from d) ≡ from = length-take-le from d (omega arith) in
      rw (k, ← (drop-drop (length ws - length vs) (from + length vs)), drop_at, append_assoc (take from d) vs, take_at, drop-drop)

  -- ---- a list s that is written part by part: k values stand in the buffer, and what is still to come begins with the next part vs

  pub part_written : (d out : List A) (s vs rest : List A) (k : ℕ) (next : List A) → k ≤ length s → length s ≤ length d → drop k s ≡ vs ++ rest
      → out ≡ splice d 0 (take k s) → next ≡ splice out k vs
      → next ≡ splice d 0 (take (k + length vs) s)
  part_written d out s vs rest k next h g e o w =
      let l : k ≡ 0 + length (take k s) = rw (zero-add, length-take-le k s h) in
      rw (w, o, splice_next d 0 (take k s) vs k l (omega arith), take-add, e, take-append_seam)

  pub part_left : (s vs rest : List A) (k : ℕ) → drop k s ≡ vs ++ rest → drop (k + length vs) s ≡ rest
  part_left s vs rest k e = rw (← drop-drop, e, drop-append_seam)

  -- what is still to come is as long as it should be
  pub part_fits : (s vs rest : List A) (k : ℕ) → k ≤ length s → drop k s ≡ vs ++ rest → k + length vs + length rest ≡ length s
  part_fits s vs rest k h e = omega (arith, simp (length-drop, length-append) at (ap length e))

  -- one value is a part too
  pub set_splice : (l : List A) (k : ℕ) (v : A) → k < length l → set l k v ≡ splice l k (v ∷ [])
  set_splice l k v h = rw (set_split, ← add-one, ← append_snoc)

  -- what was written at the front
  pub take_splice : (d vs : List A) (n : ℕ) → length vs ≡ n → take n (splice d 0 vs) ≡ vs
  take_splice d vs n e = take_at vs (drop (0 + length vs) d) n e

  -- what stands past it is as before
  pub splice_past : (d : List A) (vs : List A) (k : ℕ) (z : A) → length vs ≤ k → get_or (splice d 0 vs) k z ≡ get_or d k z
  splice_past d vs k z h =
      let e : k ≡ length vs + (k - length vs) = omega arith in
      rw (e, get_or-append-add vs (drop (0 + length vs) d), get_or-drop, zero-add)

  -- ---- std's `fill` of the start of a buffer

  all_alike : (x : A) (k n : ℕ) → replicate n x ≡ tabulate (λ (i : ℕ). x) k n
  all_alike x k zero = refl
  all_alike x k (suc n) = ap (λ (l : List A). x ∷ l) (all_alike x (suc k) n)

  pub filled : (x : A) (n : ℕ) (d xs : List A) → n ≤ length d → xs ≡ replicate (length (take n d)) x → xs ++ drop n d ≡ splice d 0 (tabulate (λ (i : ℕ). x) 0 n)
  filled x n d xs h e =
      let m : n ≡ 0 + length (tabulate (λ (i : ℕ). x) 0 n) = omega (arith, length_tabulate (λ (i : ℕ). x) 0 n) in
      ap (λ (l : List A). l ++ drop n d) (e ∙ ap (λ (k : ℕ). replicate k x) (length-take-le n d h) ∙ all_alike x 0 n)
      ∙ ap (λ (k : ℕ). tabulate (λ (i : ℕ). x) 0 n ++ drop k d) m
