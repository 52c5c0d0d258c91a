-- `longest_of` is the longest match, and the spellings of punctuators are all different, so that a punctuator's number says which it is.
use mathlib.Core.Path.{◌≡◌, refl, sym, ◌∙◌, ap}
use mathlib.Core.Bool.{Bool, true, false, cond, false≢true}
use mathlib.Core.List.Memᴰ
use mathlib.Core.List.{List, [], ◌∷◌, ◌++◌, map, Memᴰ}
use mathlib.Core.Logic.{◌⊎◌, inl, inr}
use Prim.Native.Nat.{ℕ, zero, suc, ◌+◌, ◌≤◌, ◌<◌}
use native.Mathlib.Nat.{add-zero, zero-add}
use native.Mathlib.Omega.{arith}
use borrow.Author.Tests.{leb-true, leb-false}
use lib.Dec.{leb}
use lib.ListN.{length, get_or, get_or-map}
use Rattle.lexer.specs.Bytes.{begins, place_in}
use Rattle.lexer.specs.Punctuator.{punctuators, refused_operators, longer_if, longest_of}
use Rattle.lexer.proofs.Law.Punctuators.{longest-is}

-- ---- the longest match

-- what is found is nothing, or one of the spellings that the text begins with; and none of these is longer
pub record Longest (ss : List (List ℕ)) (text found : List ℕ) : Type 0 where
  pub is_one : (found ≡ []) ⊎ (Memᴰ found ss × (begins found text ≡ true))
  pub none-longer : (s : List ℕ) → Memᴰ s ss → begins s text ≡ true → length s ≤ length found

over : (t : Bool) (s l : List ℕ) → (t ≡ true → length s ≤ length (longer_if t s l)) × (length l ≤ length (longer_if t s l))
over false s l = (λ e. absurd (false≢true e), omega arith)
over true s l = let h = go (leb (length l) (length s)) refl in (λ e. h.0, h.1)
  where
    go : (t : Bool) → leb (length l) (length s) ≡ t → (length s ≤ length (cond t s l)) × (length l ≤ length (cond t s l))
    go true e = (omega arith, leb-true (length l) (length s) e)
    go false e = (omega (arith, leb-false (length l) (length s) e), omega arith)

no_longer : (ss : List (List ℕ)) (text s : List ℕ) → Memᴰ s ss → begins s text ≡ true → length s ≤ length (longest_of ss text)
no_longer [] text s m e = absurd (Memᴰ.not-nil m)
no_longer (t ∷ ss) text s m e = go (Memᴰ.cases_cons m) (λ k. no_longer ss text s k e)
  where
    more : (begins t text ≡ true → length t ≤ length (longest_of (t ∷ ss) text)) × (length (longest_of ss text) ≤ length (longest_of (t ∷ ss) text))
    more = over (begins t text) t (longest_of ss text)

    go : (s ≡ t) ⊎ Memᴰ s ss → (Memᴰ s ss → length s ≤ length (longest_of ss text)) → length s ≤ length (longest_of (t ∷ ss) text)
    go (inl q) r = rw q (more.0 (rw q at e))
    go (inr k) r = omega (arith, r k, more.1)

pub longest : (ss : List (List ℕ)) (text : List ℕ) → Longest ss text (longest_of ss text)
longest ss text =
    record {
      is_one = longest-is (λ l. (l ≡ []) ⊎ (Memᴰ l ss × (begins l text ≡ true))) ss text (inl refl) (λ s m e. inr (m, e));
      none-longer = no_longer ss text;
    }

-- ---- the place of a spelling

-- n numbers from i on
abbrev from : ℕ → ℕ → List ℕ
from i zero = []
from i (suc n) = i ∷ from (suc i) n

from_at : (i n k d : ℕ) → k < n → get_or (from i n) k d ≡ i + k
from_at i zero k d h = absurd (omega arith)
from_at i (suc n) zero d h = sym (add-zero i)
from_at i (suc n) (suc k) d h = from_at (suc i) n k d (omega arith) ∙ omega arith

placed-in : (ss : List (List ℕ)) → map (place_in ss) ss ≡ from 0 (length ss) → (k : ℕ) → k < length ss → place_in ss (get_or ss k []) ≡ k
placed-in ss e k h = sym (get_or-map (place_in ss) ss k []) ∙ ap (λ (l : List ℕ). get_or l k (place_in ss [])) e ∙ from_at 0 (length ss) k _ h ∙ zero-add k

pub placed : (k : ℕ) → k < length punctuators → place_in punctuators (get_or punctuators k []) ≡ k
placed = placed-in punctuators refl

-- no two places of the table hold the same spelling, so no refused one is a punctuator
pub all-differ : (j k : ℕ) → j < length (punctuators ++ refused_operators) → k < length (punctuators ++ refused_operators) → get_or (punctuators ++ refused_operators) j [] ≡ get_or (punctuators ++ refused_operators) k [] → j ≡ k
all-differ j k h i e =
    let place = placed-in (punctuators ++ refused_operators) refl in
    sym (place j h) ∙ ap (place_in (punctuators ++ refused_operators)) e ∙ place k i
