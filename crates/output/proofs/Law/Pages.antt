-- Bytes written one behind the other.
use mathlib.Core.Path.{◌≡◌, refl, sym, ◌∙◌, ap}
use mathlib.Core.Bool.{Bool, true, false, cond}
use mathlib.Core.List.{List, [], ◌∷◌, ◌++◌, append_assoc}
use Prim.Native.Nat.{ℕ, suc, ◌+◌, ◌-◌, ◌≤◌, ◌<◌, min}
use native.Mathlib.Nat.{zero-add}
use native.Mathlib.Numerals.{add-one, unary_clauses}
use native.Mathlib.Omega.{arith}
use borrow.Author.Tests.{leb-true, leb-false, ltb-true, lt-ltb, le-ltb}
use lib.Dec.{leb, ltb}
use lib.ListN.{length, set, take, drop, drop_of_length-le, length-take, length-set, length-append}
use lib.Seq.{sets, length-sets, sets-eq, take-append_seam}
use borrow.Rule.Slice.PartMut.{put_mid}
use Rattle.std.proofs.lemmas.List.{take-append-drop, drop-drop}
use Rattle.output.specs.Page.{byte_on, written, Writes}
use Rattle.output.specs.declared.page.Page.{Page}

pub byte_fits : (page : List ℕ) (at b : ℕ) → at < length page → (set page at b, at + 1) ≡ written (page, at) (b ∷ [])
unfolding written
byte_fits page at b h = rw (lt-ltb at (length page) h)

-- on a full page nothing changes
pub full : (page : List ℕ) (at : ℕ) (bs : List ℕ) → length page ≤ at → (page, at) ≡ written (page, at) bs
unfolding written
full page at [] h = refl
full page at (b ∷ bs) h = rw (le-ltb at (length page) h) (full page at bs h)

pub written_none : (p : List ℕ × ℕ) → p ≡ written p []
unfolding written
written_none p = refl

-- ---- one piece behind another

pub written-append : (p : List ℕ × ℕ) (xs ys : List ℕ) → written (written p xs) ys ≡ written p (xs ++ ys)
unfolding written
written-append p [] ys = refl
written-append p (x ∷ xs) ys = written-append (byte_on p x) xs ys

pub and_then : {q r : List ℕ × ℕ} (p : List ℕ × ℕ) (xs ys : List ℕ) → q ≡ written p xs → r ≡ written q ys → r ≡ written p (xs ++ ys)
and_then p xs ys e f = f ∙ ap (λ (s : List ℕ × ℕ). written s ys) e ∙ written-append p xs ys

-- the same of pages in their rooms
pub nothing : (p : Page) → Writes p [] p
nothing p = record { page = written_none (p.room.now, p.end); room = refl }

pub full_page : (p : Page) {bs : List ℕ} → length p.room.now ≤ p.end → Writes p bs p
full_page p {bs} h = record { page = full p.room.now p.end bs h; room = refl }

pub then : {p q r : Page} (xs ys : List ℕ) → Writes p xs q → Writes q ys r → Writes p (xs ++ ys) r
then xs ys e f = record { page = and_then _ xs ys e.page f.page; room = f.room ∙ e.room }

-- ---- bytes that fit

by-sets : (bs page : List ℕ) (at : ℕ) → at + length bs ≤ length page → written (page, at) bs ≡ (sets page at bs, at + length bs)
unfolding written
by-sets [] page at h = simp unary_clauses
by-sets (b ∷ bs) page at h =
    let more : suc at + length bs ≤ length (set page at b) = rw (length-set page at b) (omega arith) in
    rw (lt-ltb at (length page) (omega arith), add-one at) (by-sets bs (set page at b) (suc at) more ∙ ap (λ (n : ℕ). (sets page at (b ∷ bs), n)) (omega arith))

-- as many bytes as there is room for
put : (page xs : List ℕ) (at : ℕ) → at + length xs ≤ length page → sets page at xs ≡ put_mid at (length xs) page xs
put page xs at h = rw (sets-eq xs page at h, append_assoc, drop-drop (length xs) at page)

module _ (page bs : List ℕ) (at k : ℕ) (h : at < length page) (e : k ≡ min (length bs) (length page - at)) where
  few : length (take k bs) ≡ k
  few = rw (length-take k bs) (omega arith)

  rest : (p : List ℕ) → length p ≡ length page → (p, at + k) ≡ written (p, at + k) (drop k bs)
  rest p l = go (leb (length bs) k) refl
    where
      go : (t : Bool) → leb (length bs) k ≡ t → (p, at + k) ≡ written (p, at + k) (drop k bs)
      go true q = rw (drop_of_length-le bs {i = k} (leb-true (length bs) k q)) (written_none (p, at + k))
      go false q = full p (at + k) (drop k bs) (omega (arith, leb-false (length bs) k q))

  pub as_fits : (put_mid at k page (take k bs), at + k) ≡ written (page, at) bs
  as_fits =
      let xs : List ℕ = take k bs in
      let fits : at + length xs ≤ length page = omega (arith, few) in
      let first : written (page, at) xs ≡ (put_mid at k page xs, at + k) = rw (by-sets xs page at fits, put page xs at fits, few) in
      let kept : length (put_mid at k page xs) ≡ length page = ap length (sym (put page xs at fits ∙ ap (λ (n : ℕ). put_mid at n page xs) few)) ∙ length-sets page at xs in
      rest (put_mid at k page xs) kept
      ∙ ap (λ (p : List ℕ × ℕ). written p (drop k bs)) (sym first)
      ∙ written-append (page, at) xs (drop k bs)
      ∙ ap (written (page, at)) (take-append-drop k bs)

pub at_front : (page bs : List ℕ) → length bs ≤ length page → written (page, 0) bs ≡ (bs ++ drop (length bs) page, length bs)
at_front page bs h = by-sets bs page 0 (rw zero-add h) ∙ rw (sets-eq bs page 0 (rw zero-add h), zero-add)

-- what was written on a page from its start on, and where it ends
module _ (page bs : List ℕ) {page' : List ℕ} {end : ℕ} (fits : length bs ≤ length page) (e : (page', end) ≡ written (page, 0) bs) where
  pub end_is : end ≡ length bs
  end_is = ap (λ (p : List ℕ × ℕ). p.1) (e ∙ at_front page bs fits)

  pub read_back : take end page' ≡ bs
  read_back = rw (end_is, ap (λ (p : List ℕ × ℕ). p.0) (e ∙ at_front page bs fits)) (take-append_seam bs (drop (length bs) page))

  pub end-inside : end ≤ length page'
  end-inside = rw (ap (λ (p : List ℕ × ℕ). p.0) (e ∙ at_front page bs fits), length-append) (omega (arith, end_is))

  pub end_read : end ≡ length (take end page')
  end_read = rw (read_back) end_is

-- ---- the next byte's place

within : (page : List ℕ) (at : ℕ) (bs : List ℕ) → at ≤ length page → (written (page, at) bs).1 ≤ length page
unfolding written
within page at [] h = h
within page at (b ∷ bs) h = go (ltb at (length page)) refl (within page at bs h) (λ k. within (set page at b) (at + 1) bs (rw (length-set page at b) (omega arith)))
  where
    go : (t : Bool) → ltb at (length page) ≡ t → (written (page, at) bs).1 ≤ length page → (at < length page → (written (set page at b, at + 1) bs).1 ≤ length (set page at b)) →
        (written (cond t (set page at b, at + 1) (page, at)) bs).1 ≤ length page
    go true q stays more = rw (length-set page at b) at (more (ltb-true at (length page) q))
    go false q stays more = stays

-- is inside the page, or its end
next-within : (page : List ℕ) (at : ℕ) (bs : List ℕ) {page' : List ℕ} {end : ℕ} → (page', end) ≡ written (page, at) bs → at ≤ length page → end ≤ length page
next-within page at bs e h = rw (ap (λ (p : List ℕ × ℕ). p.1) e) (within page at bs h)

written-length : (page : List ℕ) (at : ℕ) (bs : List ℕ) → length (written (page, at) bs).0 ≡ length page
unfolding written
written-length page at [] = refl
written-length page at (b ∷ bs) = go (ltb at (length page)) (written-length page at bs) (written-length (set page at b) (at + 1) bs)
  where
    go : (t : Bool) → length (written (page, at) bs).0 ≡ length page → length (written (set page at b, at + 1) bs).0 ≡ length (set page at b) →
        length (written (cond t (set page at b, at + 1) (page, at)) bs).0 ≡ length page
    go true stays more = more ∙ length-set page at b
    go false stays more = stays

-- the same of the page as it is then
pub next-inside : (page : List ℕ) (at : ℕ) (bs : List ℕ) {page' : List ℕ} {end : ℕ} → (page', end) ≡ written (page, at) bs → at ≤ length page → end ≤ length page'
next-inside page at bs e h = rw (ap (λ (p : List ℕ × ℕ). p.0) e, written-length page at bs) (next-within page at bs e h)
