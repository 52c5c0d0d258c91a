-- Six hex digits, and basic words.
use Rattle.std.specs.Prelude.{Option, Some, None}
use Rattle.std.specs.Char.{to_ascii_lowercase}
use mathlib.Core.Path.{◌≡◌, refl}
use mathlib.Core.Bool.{Bool, true, false, cond, ◌&&◌}
use mathlib.Core.List.{List, [], ◌∷◌, map}
use Prim.Native.Nat.{ℕ, suc, ◌<◌, ◌+◌, ◌*◌}
use native.Mathlib.Omega.{arith}
use native.Mathlib.Numerals.{add-one}
use denote.Bor.{Bor}
use lib.Dec.{eqb}
use lib.ListN.{length, get_or, take, drop}
use lib.Seq.{drop-cons}
use Rattle.std.specs.Cmp.Lexicographic.{pointwise}
use Rattle.std.proofs.lemmas.Bool.Decides.{nat_tests}
use Rattle.lexer.proofs.Law.Texts.{decided}
use Rattle.lexer.specs.Bytes.{same, begins, is_hex_digit, place_in}
use Rattle.words.specs.Table.{folded}
use Rattle.colour.specs.Colour.{of_bytes}
use Rattle.colour.specs.Inner.{byte_of, found}
use Rattle.colour.specs.Text.{short_hex, long_hex, hex_value, Basic, word, colour, first}
use Rattle.colour.specs.declared.colour.Colour.{Colour}

-- ---- six hex digits

abbrev pub of_three : Option ℕ → Option ℕ → Option ℕ → Option Colour
of_three None g b = None
of_three (Some r) None b = None
of_three (Some r) (Some g) None = None
of_three (Some r) (Some g) (Some b) = Some (of_bytes r g b)

by_tests : (red green blue : Bool) (r g b : ℕ) →
    cond {A = Option Colour} (red && (green && blue)) (Some (of_bytes r g b)) None ≡
    of_three (cond {A = Option ℕ} red (Some r) None) (cond {A = Option ℕ} green (Some g) None) (cond {A = Option ℕ} blue (Some b) None)
by_tests false green blue r g b = refl
by_tests true false blue r g b = refl
by_tests true true false r g b = refl
by_tests true true true r g b = refl

pub long-is : (r s g h b c : ℕ) → long_hex r s g h b c ≡ of_three (byte_of r s) (byte_of g h) (byte_of b c)
unfolding long_hex
long-is r s g h b c = by_tests (is_hex_digit r && is_hex_digit s) (is_hex_digit g && is_hex_digit h) (is_hex_digit b && is_hex_digit c) _ _ _

idem : (t : Bool) → (t && t) ≡ t
idem true = refl
idem false = refl

-- a digit that stands for two
pub doubled : (r g b : ℕ) → long_hex r r g g b b ≡ short_hex r g b
unfolding long_hex short_hex
doubled r g b =
    let twice : (n : ℕ) → 16 * n + n ≡ 17 * n = λ n. omega arith in
    rw (idem (is_hex_digit r), idem (is_hex_digit g), idem (is_hex_digit b), twice (hex_value r), twice (hex_value g), twice (hex_value b))

-- ---- what stands before them

pub hash : (text : List ℕ) → pointwise eqb (take 1 text) (35 ∷ []) ≡ begins (35 ∷ []) text
hash [] = refl
hash (b ∷ bs) = refl

-- ---- basic words

letter : (b : ℕ) → to_ascii_lowercase b ≡ folded true b
letter b = grind (arith, nat_tests)

letters : (text : List ℕ) → map to_ascii_lowercase text ≡ map (folded true) text
letters [] = refl
letters (b ∷ bs) = rw (letter b, letters bs)

-- what `eq_ignore_ascii_case` says
pub same-letters : (r : Bool) (s t : List ℕ) →
    (r ≡ true → map to_ascii_lowercase s ≡ map to_ascii_lowercase t) × (map to_ascii_lowercase s ≡ map to_ascii_lowercase t → r ≡ true) →
    r ≡ same (map (folded true) s) (map (folded true) t)
same-letters r s t h = decided r (map (folded true) s) (map (folded true) t) (rw (letters s, letters t) at h)

module _ (table : List (Bor (List ℕ) × Colour)) (i : ℕ) (text : List ℕ) (d : Bor (List ℕ) × Colour) (inside : i < length table) where
  abbrev pub at_word : Bool
  at_word = same (map (folded true) text) (map (folded true) (get_or table i d).0.now)

  step : found (drop i table) text ≡ cond at_word (Some (get_or table i d).1) (found (drop (i + 1) table) text)
  unfolding found
  step = rw (add-one i, drop-cons table i d inside)

  pub here : at_word ≡ true → Some (get_or table i d).1 ≡ found (drop i table) text
  here e = rw (step, e)

  pub elsewhere : at_word ≡ false → found (drop (i + 1) table) text ≡ found (drop i table) text
  elsewhere e = rw (step, e)

-- the colour of the first word that a text is in small letters
abbrev pub named : List Basic → List ℕ → Option Colour
named [] small = None
named (b ∷ bs) small = cond (same small (word b)) (Some (colour b)) (named bs small)

pub place-named : (bs : List Basic) (small : List ℕ) → first (drop (place_in (map word bs) small) bs) ≡ named bs small
place-named [] small = refl
place-named (b ∷ bs) small = go (same small (word b)) (place-named bs small)
  where
    go : (t : Bool) → first (drop (place_in (map word bs) small) bs) ≡ named bs small →
        first (drop (cond t 0 (suc (place_in (map word bs) small))) (b ∷ bs)) ≡ cond t (Some (colour b)) (named bs small)
    go true rest = refl
    go false rest = rest
