-- The sixteen basic words: none stands twice, and in any letter case each names its own colour.
use mathlib.Core.Path.{◌≡◌, refl, sym, ◌∙◌, ap}
use mathlib.Core.Bool.{Bool, true, false, true≢false}
use mathlib.Core.List.{List, [], ◌∷◌, map}
use Prim.Native.Nat.{ℕ, ◌<◌}
use borrow.Author.Tests.{eqb-true}
use lib.Dec.{T, eqb}
use lib.ListN.{get_or, get_or-map}
use Rattle.lexer.specs.Bytes.{begins}
use Rattle.words.specs.Table.{folded}
use Rattle.words.proofs.Distinct.{ascending, ascending-distinct, number-of}
use Rattle.colour.specs.Text.{basics, word, colour_at, colour_of}

abbrev pub words : List (List ℕ)
words = map word basics

-- the words ascend in the order of bytes
pub in_order : T (ascending words)
in_order = tt

-- each is its own small letters
pub small-letters : map (map (folded true)) words ≡ words
small-letters = refl

-- ---- a word does not begin with `#`, and so no text that is one in some letter case does

abbrev hash : List ℕ → Bool
hash text = begins (35 ∷ []) text

word-hash : (n : ℕ) → hash (get_or words n []) ≡ false
word-hash n = sym (get_or-map hash words n []) ∙ get_or-map (λ w. false) words n []

text-hash : (text : List ℕ) → hash (map (folded true) text) ≡ false → hash text ≡ false
text-hash [] e = refl
text-hash (b ∷ text) e = go (eqb b 35) refl
  where
    go : (t : Bool) → eqb b 35 ≡ t → hash (b ∷ text) ≡ false
    go true q = absurd (true≢false (rw (eqb-true b 35 q) at e))
    go false q = rw q

-- ---- a text whose small letters are a basic word names that word's colour

pub named : (n : ℕ) → n < 16 → (text : List ℕ) → map (folded true) text ≡ get_or words n [] → colour_of text ≡ colour_at n
unfolding colour_of
named n h text e = rw (text-hash text (ap hash e ∙ word-hash n), e, number-of words (ascending-distinct words in_order) n h)

-- and so does the word itself
pub named-itself : (n : ℕ) → n < 16 → colour_of (get_or words n []) ≡ colour_at n
named-itself n h = named n h (get_or words n []) (sym (get_or-map (map (folded true)) words n []) ∙ ap (λ (ws : List (List ℕ)). get_or ws n []) small-letters)
