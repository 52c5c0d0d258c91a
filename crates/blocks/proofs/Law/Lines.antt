-- The lines of a text behind which more bytes come: those that are whole stay as they are.
use mathlib.Core.Path.{◌≡◌, refl, sym, ◌∙◌, ap, subst}
use mathlib.Core.Bool.{Bool, true, false, cond, ◌||◌}
use mathlib.Core.List.{List, [], ◌∷◌, ◌++◌}
use Prim.Native.Nat.{ℕ, zero, suc, ◌-◌, ◌≤◌, min}
use native.Mathlib.Nat.{zero-min, suc-sub-suc}
use native.Mathlib.Omega.{arith}
use borrow.Author.Tests.{lt-ltb}
use lib.Dec.{eqb, ltb, leb-suc-suc}
use lib.ListN.{length, take, drop}
use lib.Seq.{take-nil}
use Rattle.words.specs.Table.{before}
use Rattle.text.specs.Parts.{parts_before, lines, bytes_of}
use Rattle.text.proofs.Law.Parts.{lines_from}
use Rattle.blocks.specs.Block.{whole_lines}

-- ---- the first byte

module _ (end : List (List ℕ)) (b x : ℕ) (xs : List ℕ) where
  abbrev by : Bool → List (List ℕ)
  by t = elim t [ true ↦ [] ∷ parts_before end b xs | false ↦ before x (parts_before end b xs) ]

  -- one that ends a part, and another
  pub byte-ends : eqb x b ≡ true → parts_before end b (x ∷ xs) ≡ [] ∷ parts_before end b xs
  byte-ends e = ap by e

  pub byte-goes : eqb x b ≡ false → parts_before end b (x ∷ xs) ≡ before x (parts_before end b xs)
  byte-goes e = ap by e

-- only a text without bytes has no line
pub no_lines : (xs : List ℕ) → lines xs ≡ [] → xs ≡ []
no_lines [] h = refl
no_lines (x ∷ xs) h = absurd (omega (arith, ap length (sym (lines_from (x ∷ xs) 0 (omega arith)) ∙ h)))

-- ---- the first lines that are whole

module _ (ends : Bool) (future : List ℕ) (none : ends ≡ true → future ≡ []) where
  -- how many bytes k of these lines have, of a text
  abbrev used_of : List ℕ → List (List ℕ) → ℕ → ℕ
  used_of text ls k = min (bytes_of (take k ls)) (length text)

  -- k whole lines are the first of the text with the bytes to come
  abbrev Splits : List ℕ → List (List ℕ) → ℕ → Type 0
  Splits text ls k =
      k ≤ length (whole_lines ends (length text) ls) →
      lines (text ++ future) ≡ take k ls ++ lines (drop (used_of text ls k) text ++ future)

  no_line : (text : List ℕ) (ls : List (List ℕ)) → Splits text ls 0
  no_line text ls h = rw (zero-min (length text))

  module _ (x : ℕ) (xs : List ℕ) (k : ℕ) where
    line-ends : eqb x 10 ≡ true → Splits xs (lines xs) k → Splits (x ∷ xs) ([] ∷ lines xs) (suc k)
    line-ends e more h =
        let t : ltb 0 (suc (length xs)) ≡ true = lt-ltb 0 (suc (length xs)) (omega arith) in
        let n : suc (length xs) - 1 ≡ length xs = omega arith in
        let u : used_of (x ∷ xs) ([] ∷ lines xs) (suc k) ≡ suc (used_of xs (lines xs) k) = omega arith in
        rw u (byte-ends [] 10 x (xs ++ future) e ∙ ap (λ (ls : List (List ℕ)). [] ∷ ls) (more (le-of-suc (rw (t, n) at h))))
      where
        le-of-suc : {m n : ℕ} → suc m ≤ suc n → m ≤ n
        le-of-suc h = omega arith

    -- the last line, which no LF ends
    line-last : eqb x 10 ≡ false → Splits (x ∷ []) ((x ∷ []) ∷ []) (suc k)
    line-last e h = go ends refl h
      where
        go : (t : Bool) → ends ≡ t → suc k ≤ length (whole_lines t 1 ((x ∷ []) ∷ [])) →
            lines ((x ∷ []) ++ future)
            ≡ take (suc k) ((x ∷ []) ∷ []) ++ lines (drop (used_of (x ∷ []) ((x ∷ []) ∷ []) (suc k)) (x ∷ []) ++ future)
        go false q h = absurd (omega arith)
        go true q h = rw (none q, take-nil k) (byte-goes [] 10 x [] e)

    line-goes : eqb x 10 ≡ false → (l : List ℕ) (ls : List (List ℕ)) → Splits xs (l ∷ ls) (suc k) → Splits (x ∷ xs) ((x ∷ l) ∷ ls) (suc k)
    line-goes e l ls more h =
        let u : used_of (x ∷ xs) ((x ∷ l) ∷ ls) (suc k) ≡ suc (used_of xs (l ∷ ls) (suc k)) = omega arith in
        let n = rw (leb-suc-suc (suc (length l)) (length xs), suc-sub-suc (length xs) (suc (length l))) at h in
        let m = same_count (ltb (length l) (length xs) || ends) (x ∷ l) l (whole_lines ends (length xs - suc (length l)) ls) in
        rw u (byte-goes [] 10 x (xs ++ future) e ∙ ap (before x) (more (omega (arith, n, m))))
      where
        same_count : (t : Bool) (a b : List ℕ) (ls : List (List ℕ)) → length (cond t (a ∷ ls) []) ≡ length (cond t (b ∷ ls) [])
        same_count true a b ls = refl
        same_count false a b ls = refl

  pub split : (text : List ℕ) (k : ℕ) → Splits text (lines text) k
  split text zero = no_line text (lines text)
  split [] (suc k) = λ h. absurd (omega arith)
  split (x ∷ xs) (suc k) = go (eqb x 10) refl (split xs k) (split xs (suc k))
    where
      on : eqb x 10 ≡ false → Splits xs (lines xs) (suc k) → (ls : List (List ℕ)) → lines xs ≡ ls → Splits (x ∷ xs) (before x ls) (suc k)
      on e more [] q = rw (no_lines xs q) (line-last x xs k e)
      on e more (l ∷ ls) q = line-goes x xs k e l ls (subst (λ (ls : List (List ℕ)). Splits xs ls (suc k)) q more)

      go : (t : Bool) → eqb x 10 ≡ t → Splits xs (lines xs) k → Splits xs (lines xs) (suc k) → Splits (x ∷ xs) (lines (x ∷ xs)) (suc k)
      go true e less more = rw (byte-ends [] 10 x xs e) (line-ends x xs k e less)
      go false e less more = rw (byte-goes [] 10 x xs e) (on e more (lines xs) refl)
