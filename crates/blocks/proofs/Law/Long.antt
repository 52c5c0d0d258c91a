-- A line that is too long: of its bytes so many as show that are enough.
use mathlib.Core.Path.{◌≡◌, refl, ◌∙◌, ap}
use mathlib.Core.Bool.{Bool, true, false, cond, not}
use mathlib.Core.List.{List, [], ◌∷◌, ◌++◌}
use Prim.Native.Nat.{ℕ, zero, suc, ◌-◌, ◌<◌, ◌≤◌}
use native.Mathlib.Omega.{arith}
use borrow.Author.Tests.{leb-true}
use lib.Dec.{eqb, leb}
use lib.ListN.{length, get_or, drop, length-append, length-drop}
use Rattle.lexer.specs.Bytes.{run}
use Rattle.lexer.proofs.Law.Runs.{run-cons, run-nil}
use Rattle.words.specs.Table.{before}
use Rattle.text.specs.Parts.{lines}
use Rattle.feature.specs.Feature.{feature_size}
use Rattle.blocks.specs.Ledger.{last_number, numbered}
use Rattle.blocks.specs.Block.{surplus}
use Rattle.blocks.proofs.Law.Lines.{byte-goes}

-- ---- bytes without an LF

abbrev pub Unended : List ℕ → Type 0
Unended r = length r ≤ run (λ x. not (eqb x 10)) r

first-unended : (x : ℕ) (r : List ℕ) → Unended (x ∷ r) → (eqb x 10 ≡ false) × Unended r
first-unended x r h = go (eqb x 10) refl
  where
    go : (t : Bool) → eqb x 10 ≡ t → (eqb x 10 ≡ false) × Unended r
    go true e = absurd (omega (arith, run-nil (λ x. not (eqb x 10)) x r (ap not e)))
    go false e = (e, omega (arith, run-cons (λ x. not (eqb x 10)) x r (ap not e)))

rest-unended : (k : ℕ) (r : List ℕ) → Unended r → Unended (drop k r)
rest-unended zero r h = h
rest-unended (suc k) [] h = h
rest-unended (suc k) (x ∷ r) h = rest-unended k r (first-unended x r h).1

-- they are the front of the first line
pub unended-line : (r future : List ℕ) → 0 < length r → Unended r →
    lines (r ++ future) ≡ (r ++ get_or (lines future) 0 []) ∷ drop 1 (lines future)
unended-line [] future some h = absurd (omega arith)
unended-line (x ∷ []) future some h = byte-goes [] 10 x future (first-unended x [] h).0 ∙ go (lines future)
  where
    go : (ls : List (List ℕ)) → before x ls ≡ (x ∷ get_or ls 0 []) ∷ drop 1 ls
    go [] = refl
    go (l ∷ ls) = refl
unended-line (x ∷ y ∷ r) future some h =
    let f = first-unended x (y ∷ r) h in
    byte-goes [] 10 x (y ∷ r ++ future) f.0 ∙ ap (before x) (unended-line (y ∷ r) future (omega arith) f.1)

-- ---- without the surplus

-- two lines that are too long are printed alike
abbrev pub LongAlike : (ℕ → List ℕ → List ℕ) → Type 0
LongAlike say = (n : ℕ) (l m : List ℕ) → feature_size < length l → feature_size < length m → say n l ≡ say n m

module _ (say : ℕ → List ℕ → List ℕ) (alike : LongAlike say) where
  first_alike : (n : ℕ) (l m : List ℕ) (ls : List (List ℕ)) → feature_size < length l → feature_size < length m →
      numbered say n (l ∷ ls) ≡ numbered say n (m ∷ ls)
  first_alike n l m ls h k = ap (λ (t : List ℕ). cond (leb n last_number) (t ++ numbered say (suc n) ls) []) (alike n l m h k)

  module _ (n : ℕ) (r future : List ℕ) where
    abbrev Alike : ℕ → Type 0
    Alike k = numbered say n (lines (drop k r ++ future)) ≡ numbered say n (lines (r ++ future))

    some-off : (k : ℕ) → length r - suc feature_size ≡ suc k → Unended r → Alike (suc k)
    some-off k e h =
        let d = length-drop (suc k) r in
        rw (unended-line (drop (suc k) r) future (omega arith) (rest-unended (suc k) r h), unended-line r future (omega arith) h)
        (first_alike n _ _ (drop 1 (lines future))
        (omega (arith, length-append (drop (suc k) r) (get_or (lines future) 0 [])))
        (omega (arith, length-append r (get_or (lines future) 0 []))))

    pub surplus-alike : Alike (surplus r)
    surplus-alike = by_end (leb (length r) (run (λ x. not (eqb x 10)) r)) refl
      where
        by_length : (k : ℕ) → length r - suc feature_size ≡ k → Unended r → Alike k
        by_length zero e h = refl
        by_length (suc k) e h = some-off k e h

        by_end : (t : Bool) → leb (length r) (run (λ x. not (eqb x 10)) r) ≡ t → Alike (cond t (length r - suc feature_size) 0)
        by_end true e = by_length (length r - suc feature_size) refl (leb-true (length r) (run (λ x. not (eqb x 10)) r) e)
        by_end false e = refl
