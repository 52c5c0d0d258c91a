-- Words of a table, and their places in it.
use mathlib.Core.Path.{◌≡◌, refl, sym, ◌∙◌, ap, ap₂}
use mathlib.Core.Bool.{Bool, true, false, cond, ◌&&◌, and-false}
use mathlib.Core.List.{List, [], ◌∷◌, map}
use Prim.Native.Nat.{ℕ, suc, ◌+◌, ◌-◌, ◌<◌, ◌≤◌}
use native.Mathlib.Nat.{add-zero}
use native.Mathlib.Omega.{arith}
use borrow.Author.Tests.{eqb-true, eqb-false, eq-eqb, ne_eqb}
use lib.Dec.{eqb}
use lib.ListN.{length, get_or, take, drop, drop_of_length-le}
use lib.Seq.{drop-cons, drop-drop}
use Rattle.lexer.specs.Bytes.{in_class, is_name_byte, run, same, place_in}
use Rattle.lexer.specs.declared.bytes.Class.TheVariants.{Name}
use Rattle.lexer.proofs.Law.Runs.{run-cons, run-nil, run-within}
use Rattle.std.specs.List.{zip, list_all}
use Rattle.words.specs.Table.{folded, before, words_in}

-- ---- a word of a table and a word whose bytes are mapped, compared byte by byte

abbrev pub agree : (ℕ → ℕ) → List ℕ → List ℕ → Bool
agree f v w = list_all (λ p. eqb p.0 (f p.1)) (zip v w)

pub alike : (f : ℕ → ℕ) (v w : List ℕ) → length v ≡ length w → agree f v w ≡ same v (map f w)
alike f [] [] h = refl
alike f [] (y ∷ w) h = absurd (omega arith)
alike f (x ∷ v) [] h = absurd (omega arith)
alike f (x ∷ v) (y ∷ w) h = ap (λ t. eqb x (f y) && t) (alike f v w (omega arith))

pub other : (f : ℕ → ℕ) (v w : List ℕ) → (length v ≡ length w → ⊥) → false ≡ same v (map f w)
other f [] [] h = absurd (h refl)
other f [] (y ∷ w) h = refl
other f (x ∷ v) [] h = refl
other f (x ∷ v) (y ∷ w) h = sym (rw (sym (other f v w (λ e. h (omega arith)))) (and-false (eqb x (f y))))

-- ---- `same` does not ask for an order

eqb-sym : (m n : ℕ) → eqb m n ≡ eqb n m
eqb-sym m n = go (eqb m n) refl
  where
    go : (t : Bool) → eqb m n ≡ t → t ≡ eqb n m
    go true e = sym (eq-eqb n m (sym (eqb-true m n e)))
    go false e = sym (ne_eqb n m (λ q. eqb-false m n e (sym q)))

pub same-sym : (v w : List ℕ) → same v w ≡ same w v
same-sym [] [] = refl
same-sym [] (y ∷ w) = refl
same-sym (x ∷ v) [] = refl
same-sym (x ∷ v) (y ∷ w) = ap₂ ◌&&◌ (eqb-sym x y) (same-sym v w)

-- ---- the first word of a table, and those after it

-- a table that is not empty: the bytes of a name, and the words after the byte that ends it
abbrev parted : List ℕ → List (List ℕ)
parted bs = take (run (in_class Name) bs) bs ∷ words_in (drop (suc (run (in_class Name) bs)) bs)

put : (b : ℕ) (bs : List ℕ) → before b (words_in bs) ≡ before b (parted bs) → words_in (b ∷ bs) ≡ parted (b ∷ bs)
put b bs h = go (is_name_byte b) refl
  where
    by : Bool → List (List ℕ)
    by t = elim t [ true ↦ before b (words_in bs) | false ↦ [] ∷ words_in bs ]

    go : (t : Bool) → is_name_byte b ≡ t → words_in (b ∷ bs) ≡ parted (b ∷ bs)
    go true e = ap by e ∙ h ∙ rw (run-cons (in_class Name) b bs e)
    go false e = ap by e ∙ rw (run-nil (in_class Name) b bs e)

first_word : (b : ℕ) (bs : List ℕ) → words_in (b ∷ bs) ≡ parted (b ∷ bs)
unfolding run
first_word b [] = put b [] refl
first_word b (c ∷ bs) = put b (c ∷ bs) (ap (before b) (first_word c bs))

-- ---- a word that is looked for where a word of a table begins, which ends at `end`
module _ (table : List ℕ) (at end : ℕ) (h : at < length table) (q : end ≡ at + run (in_class Name) (drop at table)) where
  pub ends-within : end ≤ length table
  ends-within = rw q (run-within (in_class Name) table at (omega (arith, h)))

  words-at : words_in (drop at table) ≡ take (end - at) (drop at table) ∷ words_in (drop (end + 1) table)
  words-at =
      let n : run (in_class Name) (drop at table) ≡ end - at = omega (arith, q) in
      let m : at + suc (end - at) ≡ end + 1 = omega (arith, q) in
      let s = drop-cons table at 0 h in
      ap words_in s ∙ first_word (get_or table at 0) (drop (suc at) table) ∙ rw (sym s, n, drop-drop (suc (end - at)) at table, m)

  -- a number plus a word's place in the rest of the table, by whether the first word there is that one
  module _ (w : List ℕ) (number : ℕ) {r : Bool} (e : r ≡ same (take (end - at) (drop at table)) w) where
    place_at : number + place_in (words_in (drop at table)) w ≡ number + cond r 0 (suc (place_in (words_in (drop (end + 1) table)) w))
    place_at = rw (words-at, same-sym w (take (end - at) (drop at table)), sym e)

    pub found : r ≡ true → number ≡ number + place_in (words_in (drop at table)) w
    found k = sym (rw k at place_at ∙ add-zero number)

    pub passed : r ≡ false → number + 1 + place_in (words_in (drop (end + 1) table)) w ≡ number + place_in (words_in (drop at table)) w
    passed k = let h : number + place_in (words_in (drop at table)) w ≡ number + suc (place_in (words_in (drop (end + 1) table)) w) = rw k at place_at in omega arith

pub past : (table w : List ℕ) (at number : ℕ) → length table ≤ at → number ≡ number + place_in (words_in (drop at table)) w
past table w at number h = rw (drop_of_length-le table h) (sym (add-zero number))

-- where letter case counts, a word stands as it is
pub as-it-is : (w : List ℕ) → map (folded false) w ≡ w
as-it-is [] = refl
as-it-is (b ∷ bs) = ap (λ (cs : List ℕ). b ∷ cs) (as-it-is bs)
