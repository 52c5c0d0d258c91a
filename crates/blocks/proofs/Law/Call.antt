-- One call: what it prints, and what is left of the block for the next.
use mathlib.Core.Path.{◌≡◌, refl, sym, ◌∙◌, ap, ap₂}
use mathlib.Core.Bool.{Bool, true, false, cond, ◌||◌, or-true}
use mathlib.Core.List.{List, [], ◌∷◌, ◌++◌, append_assoc}
use Prim.Native.Nat.{ℕ, zero, suc, ◌+◌, ◌-◌, ◌<◌, ◌≤◌}
use native.Mathlib.Nat.{add-zero}
use native.Mathlib.Omega.{arith}
use borrow.Author.Tests.{leb-true, leb-false, le-leb, lt-leb}
use lib.Dec.{leb, ltb}
use lib.ListN.{length, take, drop, length-append, length-take}
use lib.Seq.{take-nil, take-take, drop-drop}
use Rattle.text.specs.Parts.{lines}
use Rattle.output.specs.Line.{longest_line}
use Rattle.blocks.specs.Ledger.{last_number, numbered}
use Rattle.blocks.specs.Block.{whole_lines, fitting, joined, surplus, used_by}
use Rattle.blocks.proofs.Law.Lines.{split}
use Rattle.blocks.proofs.Law.Long.{LongAlike, surplus-alike}

-- ---- the first so many

whole-front : (ends : Bool) (size : ℕ) (ls : List (List ℕ)) (k : ℕ) → k ≤ length (whole_lines ends size ls) →
    take k (whole_lines ends size ls) ≡ take k ls
whole-front ends size ls zero h = refl
whole-front ends size [] (suc k) h = refl
whole-front ends size (l ∷ ls) (suc k) h = go (ltb (length l) size || ends) h (whole-front ends (size - suc (length l)) ls k)
  where
    go : (t : Bool) → suc k ≤ length (cond t (l ∷ whole_lines ends (size - suc (length l)) ls) []) →
        (k ≤ length (whole_lines ends (size - suc (length l)) ls) → take k (whole_lines ends (size - suc (length l)) ls) ≡ take k ls) →
        take (suc k) (cond t (l ∷ whole_lines ends (size - suc (length l)) ls) []) ≡ l ∷ take k ls
    go true h more = ap (λ (ls : List (List ℕ)). l ∷ ls) (more (omega arith))
    go false h more = absurd (omega arith)

-- where the input ends every line is whole
all_whole : (size : ℕ) (ls : List (List ℕ)) → whole_lines true size ls ≡ ls
all_whole size [] = refl
all_whole size (l ∷ ls) = rw or-true (ap (λ (ls : List (List ℕ)). l ∷ ls) (all_whole (size - suc (length l)) ls))

fitting-front : (size : ℕ) (ts : List (List ℕ)) → fitting size ts ≡ take (length (fitting size ts)) ts
fitting-front size [] = refl
fitting-front size (t ∷ ts) = go (leb longest_line size) (fitting-front (size - length t) ts)
  where
    go : (b : Bool) → fitting (size - length t) ts ≡ take (length (fitting (size - length t) ts)) ts →
        cond b (t ∷ fitting (size - length t) ts) [] ≡ take (length (cond b (t ∷ fitting (size - length t) ts) [])) (t ∷ ts)
    go true e = ap (λ (ts : List (List ℕ)). t ∷ ts) e
    go false e = refl

-- where another would fit there is none
fitting-all : (size : ℕ) (ts : List (List ℕ)) → length (joined (fitting size ts)) + longest_line ≤ size → fitting size ts ≡ ts
fitting-all size [] h = refl
fitting-all size (t ∷ ts) h = go (leb longest_line size) refl h (fitting-all (size - length t) ts)
  where
    go : (b : Bool) → leb longest_line size ≡ b → length (joined (cond b (t ∷ fitting (size - length t) ts) [])) + longest_line ≤ size →
        (length (joined (fitting (size - length t) ts)) + longest_line ≤ size - length t → fitting (size - length t) ts ≡ ts) →
        cond b (t ∷ fitting (size - length t) ts) [] ≡ t ∷ ts
    go true e h more = ap (λ (ts : List (List ℕ)). t ∷ ts) (more (omega (arith, length-append t (joined (fitting (size - length t) ts)))))
    go false e h more = absurd (omega (arith, leb-false longest_line size e))

-- ---- lines with their numbers

module _ (say : ℕ → List ℕ → List ℕ) where
  -- what is printed for each
  abbrev pub texts : ℕ → List (List ℕ) → List (List ℕ)
  texts n [] = []
  texts n (l ∷ ls) = say n l ∷ texts (suc n) ls

  texts-front : (k n : ℕ) (ls : List (List ℕ)) → texts n (take k ls) ≡ take k (texts n ls)
  texts-front zero n ls = refl
  texts-front (suc k) n [] = refl
  texts-front (suc k) n (l ∷ ls) = ap (λ (ts : List (List ℕ)). say n l ∷ ts) (texts-front k (suc n) ls)

  texts-count : (n : ℕ) (ls : List (List ℕ)) → length (texts n ls) ≡ length ls
  texts-count n [] = refl
  texts-count n (l ∷ ls) = ap suc (texts-count (suc n) ls)

  pub none-numbered : (n : ℕ) (ls : List (List ℕ)) → last_number < n → numbered say n ls ≡ []
  none-numbered n [] h = refl
  none-numbered n (l ∷ ls) h = rw (lt-leb n last_number h)

  all-numbered : (n : ℕ) (ls : List (List ℕ)) → numbered say n ls ≡ joined (texts n (take (suc last_number - n) ls))
  all-numbered n [] = rw (take-nil (suc last_number - n))
  all-numbered n (l ∷ ls) = go (leb n last_number) refl (all-numbered (suc n) ls)
    where
      go : (b : Bool) → leb n last_number ≡ b → numbered say (suc n) ls ≡ joined (texts (suc n) (take (suc last_number - suc n) ls)) →
          cond b (say n l ++ numbered say (suc n) ls) [] ≡ joined (texts n (take (suc last_number - n) (l ∷ ls)))
      go true e more =
          let h = leb-true n last_number e in
          let m : suc last_number - n ≡ suc (suc last_number - suc n) = omega arith in
          rw m (ap (λ (t : List ℕ). say n l ++ t) more)
      go false e more =
          let h = leb-false n last_number e in
          let m : suc last_number - n ≡ 0 = omega arith in
          rw m

  front-numbered : (n : ℕ) (ls ms : List (List ℕ)) → length ls ≤ suc last_number - n →
      numbered say n (ls ++ ms) ≡ joined (texts n ls) ++ numbered say (n + length ls) ms
  front-numbered n [] ms h = rw (add-zero n)
  front-numbered n (l ∷ ls) ms h =
      let m : n + length (l ∷ ls) ≡ suc n + length ls = omega arith in
      rw (le-leb n last_number (omega arith), m, append_assoc, front-numbered (suc n) ls ms (omega arith))

-- ---- the call

module _ (say : ℕ → List ℕ → List ℕ) where
  -- its lines, by the first one's number and how much the output holds
  abbrev pub printed_from : ℕ → List ℕ → Bool → ℕ → List (List ℕ)
  printed_from n block ends size = fitting size (texts say n (take (suc last_number - n) (whole_lines ends (length block) (lines block))))

  -- the last one, which isn't full, prints all
  pub all-printed : (n : ℕ) (block : List ℕ) (size : ℕ) → length (joined (printed_from n block true size)) + longest_line ≤ size →
      joined (printed_from n block true size) ≡ numbered say n (lines block)
  all-printed n block size h =
      ap joined (fitting-all size (texts say n (take (suc last_number - n) (whole_lines true (length block) (lines block)))) h)
      ∙ ap (λ (ls : List (List ℕ)). joined (texts say n (take (suc last_number - n) ls))) (all_whole (length block) (lines block))
      ∙ sym (all-numbered say n (lines block))

  module _ (n : ℕ) (block : List ℕ) (ends : Bool) (size : ℕ) where
    abbrev whole : List (List ℕ)
    whole = whole_lines ends (length block) (lines block)

    abbrev count : ℕ
    count = length (printed_from n block ends size)

    -- so many are printed as are whole and have a number
    count_most : count ≤ length (take (suc last_number - n) whole)
    count_most =
        let ts = texts say n (take (suc last_number - n) whole) in
        omega (arith, ap length (fitting-front size ts) ∙ length-take count ts, texts-count say n (take (suc last_number - n) whole))

    count-numbered : count ≤ suc last_number - n
    count-numbered = omega (arith, count_most, length-take (suc last_number - n) whole)

    count-whole : count ≤ length whole
    count-whole = omega (arith, count_most, length-take (suc last_number - n) whole)

    -- they are the block's first
    printed-are : printed_from n block ends size ≡ texts say n (take count (lines block))
    printed-are =
        fitting-front size (texts say n (take (suc last_number - n) whole))
        ∙ sym (texts-front say count n (take (suc last_number - n) whole))
        ∙ ap (texts say n)
        (take-take count (suc last_number - n) whole count-numbered ∙ whole-front ends (length block) (lines block) count count-whole)

    counted : count ≡ length (take count (lines block))
    counted = ap length printed-are ∙ texts-count say n (take count (lines block))

    module _ (alike : LongAlike say) (future : List ℕ) (none : ends ≡ true → future ≡ []) where
      abbrev used : ℕ
      used = used_by block count

      -- the bytes behind them, without the surplus
      left-alike : numbered say (n + count) (lines (drop (used + surplus (drop used block)) block ++ future))
          ≡ numbered say (n + length (take count (lines block))) (lines (drop used block ++ future))
      left-alike =
          ap (λ (l : List ℕ). numbered say (n + count) (lines (l ++ future))) (sym (drop-drop (surplus (drop used block)) used block))
          ∙ surplus-alike say alike (n + count) (drop used block) future
          ∙ ap (λ (k : ℕ). numbered say (n + k) (lines (drop used block ++ future))) counted

      -- what is printed, and what is left with the bytes to come, is what the block is with them
      pub goes_on :
          joined (printed_from n block ends size)
          ++ numbered say (n + count) (lines (drop (used + surplus (drop used block)) block ++ future))
          ≡ numbered say n (lines (block ++ future))
      goes_on =
          ap₂ (λ (ts : List (List ℕ)) (t : List ℕ). joined ts ++ t) printed-are left-alike
          ∙ sym (front-numbered say n (take count (lines block)) (lines (drop used block ++ future)) (rw (← counted) count-numbered))
          ∙ sym (ap (numbered say n) (split ends future none block count count-whole))
