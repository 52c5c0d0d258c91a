-- Parts of slices: what stands in one, and what one leaves alone.
use mathlib.Core.Path.{◌≡◌, refl, sym, ◌∙◌, ap}
use mathlib.Core.List.{List, [], ◌∷◌, ◌++◌, append_assoc}
use Prim.Native.Nat.{ℕ, zero, suc, ◌+◌, ◌-◌, ◌≤◌}
use native.Mathlib.Omega.{arith}
use lib.ListN.{length, take, drop, length-append, length-take, length-drop, take-append-drop}
use lib.Seq.{slice, take-nil, take-append-le, take-take, take-add, drop-drop, take_at, drop_at}
use Rattle.lexer.proofs.Law.Spelling.{slice_is}
use Rattle.text.specs.Slice.{put_back}

-- ---- a part of a part

take-drop : (p m : ℕ) (l : List ℕ) → take m (drop p l) ≡ drop p (take (p + m) l)
take-drop zero m l =
    let e : m ≡ 0 + m = omega arith in
    ap (λ (k : ℕ). take k l) e
take-drop (suc p) m [] = take-nil m ∙ ap (drop (suc p)) (sym (take-nil (suc p + m)))
take-drop (suc p) m (x ∷ l) =
    let e : suc (p + m) ≡ suc p + m = omega arith in
    take-drop p m l ∙ ap (λ (k : ℕ). drop (suc p) (take k (x ∷ l))) e

pub slice-slice : (l : List ℕ) (at end a b : ℕ) → at + b ≤ end → slice a b (slice at end l) ≡ slice (at + a) (at + b) l
slice-slice l at end a b h =
    ap (drop a) (take-drop at b (take end l) ∙ ap (drop at) (take-take (at + b) end l h)) ∙ drop-drop a at (take (at + b) l)

-- a part is known by the elements before its end
slice-known : (x y : List ℕ) (p q m : ℕ) → q ≤ m → take m x ≡ take m y → slice p q x ≡ slice p q y
slice-known x y p q m h e = ap (drop p) (sym (take-take q m x h) ∙ ap (take q) e ∙ take-take q m y h)

-- ---- a part that is put back

module _ (l : List ℕ) (from to : ℕ) (part : List ℕ) (inside : to ≤ length l) (order : from ≤ to) where
  -- what stands before it stays
  put-before : (m : ℕ) → m ≤ from → take m (put_back l from to part) ≡ take m l
  unfolding put_back
  put-before m h = take-append-le m (take from l) _ (omega (arith, length-take from l)) ∙ take-take m from l h

  pub put-left : (p q : ℕ) → q ≤ from → slice p q (put_back l from to part) ≡ slice p q l
  put-left p q h = slice-known (put_back l from to part) l p q q (omega arith) (put-before q h)

  module _ (size : length part ≡ to - from) where
    pub put-there : slice from to (put_back l from to part) ≡ part
    unfolding put_back
    put-there =
        slice_is from to (put_back l from to part)
        ∙ ap (take (to - from)) (drop_at (take from l) _ from (simp length-take (omega arith)))
        ∙ take_at part _ (to - from) size

    pub put-length : length (put_back l from to part) ≡ length l
    unfolding put_back
    put-length = simp (length-append, length-take, length-drop, size) (omega arith)

    -- another part in its place
    pub put-again : (other : List ℕ) → put_back (put_back l from to part) from to other ≡ put_back l from to other
    unfolding put_back
    put-again other =
        let rest : drop from (put_back l from to part) ≡ part ++ drop (to - from) (drop from l) = drop_at (take from l) _ from (simp length-take (omega arith)) in
        λ i. put-before from (omega arith) i ++ (other ++ (ap (drop (to - from)) rest ∙ drop_at part _ (to - from) size) i)

-- the part that stood there
pub put_same : (l : List ℕ) (from to : ℕ) → put_back l from to (slice from to l) ≡ l
unfolding put_back
put_same l from to =
    ap (λ (x : List ℕ). take from l ++ (x ++ drop (to - from) (drop from l))) (slice_is from to l)
    ∙ ap (λ (x : List ℕ). take from l ++ x) (take-append-drop (to - from) (drop from l))
    ∙ take-append-drop from l

-- ---- a part of a part that is put back

-- what stands behind a place of a front, and then the rest
drop-front : (q m : ℕ) (l : List ℕ) → q ≤ m → drop q (take m l) ++ drop m l ≡ drop q l
drop-front zero m l h = take-append-drop m l
drop-front (suc q) zero l h = absurd (omega arith)
drop-front (suc q) (suc m) [] h = refl
drop-front (suc q) (suc m) (x ∷ l) h = drop-front q m l (omega arith)

pub put-inside : (l : List ℕ) (at end p q : ℕ) (part : List ℕ) → at ≤ end → end ≤ length l → p ≤ q → at + q ≤ end →
    put_back l at end (put_back (slice at end l) p q part) ≡ put_back l (at + p) (at + q) part
unfolding put_back
put-inside l at end p q part order inside low high =
    let m = end - at in
    let d = drop at l in
    let own : slice at end l ≡ take m d = slice_is at end l in
    let width : q - p ≡ at + q - (at + p) = omega arith in
    let behind : drop (q - p) (drop p (take m d)) ++ drop m d ≡ drop (at + q - (at + p)) (drop (at + p) l) =
    ap (λ (x : List ℕ). x ++ drop m d) (drop-drop (q - p) p (take m d))
    ∙ drop-front (p + (q - p)) m d (omega arith)
    ∙ sym (drop-drop (q - p) p d)
    ∙ (λ i. drop (width i) (drop-drop p at l i)) in
    ap (λ (w : List ℕ). take at l ++ ((take p w ++ (part ++ drop (q - p) (drop p w))) ++ drop m d)) own
    ∙ ap (λ (x : List ℕ). take at l ++ x)
    (append_assoc (take p (take m d)) (part ++ drop (q - p) (drop p (take m d))) (drop m d)
    ∙ ap (λ (x : List ℕ). take p (take m d) ++ x) (append_assoc part (drop (q - p) (drop p (take m d))) (drop m d) ∙ ap (λ (x : List ℕ). part ++ x) behind)
    ∙ ap (λ (x : List ℕ). x ++ (part ++ drop (at + q - (at + p)) (drop (at + p) l))) (take-take p m d (omega arith)))
    ∙ sym (append_assoc (take at l) (take p d) (part ++ drop (at + q - (at + p)) (drop (at + p) l)))
    ∙ ap (λ (x : List ℕ). x ++ (part ++ drop (at + q - (at + p)) (drop (at + p) l))) (sym (take-add at p l))
