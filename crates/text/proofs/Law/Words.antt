-- Words by the numbers that a table gives them.
use mathlib.Core.Path.{◌≡◌, ◌∙◌, ap}
use mathlib.Core.Bool.{true, false}
use mathlib.Core.List.{List, [], ◌∷◌, map}
use Prim.Native.Nat.{ℕ, suc, ◌+◌, ◌≤◌}
use native.Mathlib.Numerals.{add-one}
use native.Mathlib.Nat.{add_comm}
use native.Mathlib.Omega.{arith}
use lib.ListN.{length}
use Rattle.lexer.specs.Bytes.{same, place_in, ascii}
use Rattle.lexer.proofs.Law.Runs.{by-test}
use Rattle.words.specs.Table.{folded}
use Rattle.words.proofs.Law.Words.{as-it-is}
use Rattle.text.specs.Word.{flag_words}

-- the number of a word as it stands
pub numbered : (n : ℕ) (ws : List (List ℕ)) (w : List ℕ) → n ≡ place_in ws (map (folded false) w) → n ≡ place_in ws w
numbered n ws w e = e ∙ ap (place_in ws) (as-it-is w)

-- a number that a table gives is at most the count of its words
place-most : (ws : List (List ℕ)) (w : List ℕ) → place_in ws w ≤ length ws
place-most [] w = omega arith
place-most (v ∷ ws) w = by-test (λ (n : ℕ). n ≤ length (v ∷ ws)) (same w v) (λ e. omega arith) (λ e. omega (arith, place-most ws w))

pub few : (n : ℕ) (ws : List (List ℕ)) (w : List ℕ) → n ≡ place_in ws w → n ≤ length ws
few n ws w e = omega (arith, e, place-most ws w)

-- the flags: `-` first, and then those of letters
module _ (w : List ℕ) where
  pub no-flags : same w (45 ∷ []) ≡ true → 0 ≡ place_in flag_words w
  no-flags e = rw e

  pub letter-flags : (n : ℕ) → same w (45 ∷ []) ≡ false → n ≡ place_in (ascii "a" ∷ ascii "n" ∷ ascii "an" ∷ []) (map (folded false) w) → 1 + n ≡ place_in flag_words w
  letter-flags n e h = rw (e, add_comm 1 n, add-one n) (ap suc (numbered n (ascii "a" ∷ ascii "n" ∷ ascii "an" ∷ []) w h))
