-- Runs of bytes, and bytes and words at a place, by the first byte there.
use mathlib.Core.Path.{◌≡◌, refl, sym, ◌∙◌, ap, ap₂}
use mathlib.Core.Bool.{Bool, true, false, cond, ◌&&◌, and-false, false≢true}
use mathlib.Core.List.{List, [], ◌∷◌}
use Prim.Native.Nat.{ℕ, zero, suc, ◌+◌, ◌≤◌, ◌<◌}
use native.Mathlib.Nat.{add-zero}
use native.Mathlib.Numerals.{add-one}
use native.Mathlib.Omega.{arith}
use borrow.Author.Tests.{eqb-true, eqb-false, ne_eqb}
use lib.Dec.{eqb}
use lib.ListN.{length, get_or, take, drop, drop_of_length-le, length-drop}
use lib.Seq.{drop-cons}
use Rattle.std.specs.List.{prefix_len, starts_with}
use Rattle.lexer.specs.Bytes.{run, begins, same}

-- one of two, by a test
pub by-test : {A : Type 0} (P : A → Type 0) (t : Bool) {a b : A} → (t ≡ true → P a) → (t ≡ false → P b) → P (cond t a b)
by-test P true p q = p refl
by-test P false p q = q refl

-- ---- runs

pub run-cons : (p : ℕ → Bool) (b : ℕ) (bs : List ℕ) → p b ≡ true → run p (b ∷ bs) ≡ suc (run p bs)
unfolding run
run-cons p b bs e = rw (run, e)

pub run-nil : (p : ℕ → Bool) (b : ℕ) (bs : List ℕ) → p b ≡ false → run p (b ∷ bs) ≡ 0
unfolding run
run-nil p b bs e = rw (run, e)

-- `take_while` counts the same
pub run-prefix : (p : ℕ → Bool) (bs : List ℕ) → prefix_len p bs ≡ run p bs
unfolding run
run-prefix p [] = refl
run-prefix p (b ∷ bs) = go (p b) refl (run-prefix p bs)
  where
    go : (t : Bool) → p b ≡ t → prefix_len p bs ≡ run p bs → prefix_len p (b ∷ bs) ≡ run p (b ∷ bs)
    go true e h = rw (e, run-cons p b bs e) (omega arith)
    go false e h = rw (e, run-nil p b bs e)

pub run-le : (p : ℕ → Bool) (bs : List ℕ) → run p bs ≤ length bs
unfolding run
run-le p [] = omega arith
run-le p (b ∷ bs) = go (p b) refl (run-le p bs)
  where
    go : (t : Bool) → p b ≡ t → run p bs ≤ length bs → run p (b ∷ bs) ≤ length (b ∷ bs)
    go true e h = rw (run-cons p b bs e) (omega arith)
    go false e h = rw (run-nil p b bs e) (omega arith)

-- a run ends within its text
pub run-within : (p : ℕ → Bool) (text : List ℕ) (at : ℕ) → at ≤ length text → at + run p (drop at text) ≤ length text
run-within p text at h = omega (arith, run-le p (drop at text), length-drop at text)

module _ (p : ℕ → Bool) (text : List ℕ) (at : ℕ) where
  pub run_more : at < length text → p (get_or text at 0) ≡ true → at + 1 + run p (drop (at + 1) text) ≡ at + run p (drop at text)
  run_more h e = rw (add-one at, drop-cons text at 0 h, run-cons p _ (drop (suc at) text) e) (omega arith)

  pub run-stop : at < length text → p (get_or text at 0) ≡ false → at ≡ at + run p (drop at text)
  run-stop h e = rw (drop-cons text at 0 h, run-nil p _ (drop (suc at) text) e) (sym (add-zero at))

  pub run_past : length text ≤ at → at ≡ at + run p (drop at text)
  unfolding run
  run_past h = rw (drop_of_length-le text h) (sym (add-zero at))

-- ---- bytes and words at a place

-- a text that begins with a byte has one
begins-some : (b : ℕ) (bs : List ℕ) → begins (b ∷ []) bs ≡ true → 0 < length bs
begins-some b [] e = absurd (false≢true e)
begins-some b (x ∷ bs) e = omega arith

pub byte-within : (text : List ℕ) (at b : ℕ) → begins (b ∷ []) (drop at text) ≡ true → at < length text
byte-within text at b e = omega (arith, begins-some b (drop at text) e, length-drop at text)

eqb_comm : (x y : ℕ) → eqb x y ≡ eqb y x
eqb_comm x y = go (eqb y x) refl
  where
    go : (t : Bool) → eqb y x ≡ t → eqb x y ≡ eqb y x
    go true e = rw (eqb-true y x e)
    go false e = rw e (ne_eqb x y (λ i. eqb-false y x e (sym i)))

-- `starts_with` tests the same
pub starts-begins : (word bs : List ℕ) → starts_with eqb bs word ≡ begins word bs
starts-begins [] bs = refl
starts-begins (x ∷ word) [] = refl
starts-begins (x ∷ word) (b ∷ bs) = ap₂ (λ t u. t && u) (eqb_comm x b) (starts-begins word bs)

-- ---- a part of a text that is a word

pub word_same : (n : ℕ) (bs w : List ℕ) → n ≡ length w → n ≤ length bs → begins w bs ≡ same (take n bs) w
word_same zero bs [] e h = refl
word_same zero bs (x ∷ w) e h = absurd (omega arith)
word_same (suc n) [] w e h = absurd (omega arith)
word_same (suc n) (b ∷ bs) [] e h = absurd (omega arith)
word_same (suc n) (b ∷ bs) (x ∷ w) e h = ap (λ t. eqb b x && t) (word_same n bs w (omega arith) (omega arith))

pub word-other : (n : ℕ) (bs w : List ℕ) → (n ≡ length w → ⊥) → n ≤ length bs → false ≡ same (take n bs) w
word-other zero bs [] e h = absurd (e refl)
word-other zero bs (x ∷ w) e h = refl
word-other (suc n) [] w e h = absurd (omega arith)
word-other (suc n) (b ∷ bs) [] e h = refl
word-other (suc n) (b ∷ bs) (x ∷ w) e h = sym (ap (λ t. eqb b x && t) (sym (word-other n bs w (λ k. e (omega arith)) (omega arith))) ∙ and-false (eqb b x))
