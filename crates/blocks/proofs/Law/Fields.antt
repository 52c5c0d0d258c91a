-- Whether a line is a feature's: its first bytes tell, one more than the word has.
use mathlib.Core.Path.{◌≡◌, refl, sym, ◌∙◌, ap}
use mathlib.Core.Bool.{Bool, true, false, ◌&&◌}
use mathlib.Core.List.{List, [], ◌∷◌, ◌++◌}
use Prim.Native.Nat.{ℕ, ◌<◌, ◌≤◌}
use native.Mathlib.Omega.{arith}
use lib.Dec.{eqb}
use lib.ListN.{length, get_or}
use Rattle.lexer.specs.Bytes.{same}
use Rattle.words.specs.Table.{before}
use Rattle.text.specs.Parts.{fields, field}
use Rattle.text.specs.Word.{feature_word}
use Rattle.text.specs.Head.{is_feature}
use Rattle.blocks.proofs.Law.Lines.{byte-ends, byte-goes}

module _ (x : ℕ) (t : List ℕ) where
  tab-first : eqb x 9 ≡ true → field (x ∷ t) 0 ≡ []
  tab-first e = ap (λ (fs : List (List ℕ)). get_or fs 0 []) (byte-ends ([] ∷ []) 9 x t e)

  byte-first : eqb x 9 ≡ false → field (x ∷ t) 0 ≡ x ∷ field t 0
  byte-first e = ap (λ (fs : List (List ℕ)). get_or fs 0 []) (byte-goes ([] ∷ []) 9 x t e) ∙ go (fields t)
    where
      go : (fs : List (List ℕ)) → get_or (before x fs) 0 [] ≡ x ∷ get_or fs 0 []
      go [] = refl
      go (f ∷ fs) = refl

-- the first field is a word, or is not, whatever comes behind more bytes than the word has
abbrev Told : List ℕ → List ℕ → Type 0
Told more t = (word : List ℕ) → length word < length t → same (field (t ++ more) 0) word ≡ same (field t 0) word

word-told : (more t : List ℕ) → Told more t
word-told more [] = λ word h. absurd (omega arith)
word-told more (x ∷ t) = go (eqb x 9) refl (word-told more t)
  where
    behind : Told more t → (word : List ℕ) → length word < length (x ∷ t) → same (x ∷ field (t ++ more) 0) word ≡ same (x ∷ field t 0) word
    behind told [] h = refl
    behind told (y ∷ word) h = ap (λ (b : Bool). eqb x y && b) (told word (omega arith))

    go : (b : Bool) → eqb x 9 ≡ b → Told more t → Told more (x ∷ t)
    go true e told word h = ap (λ (f : List ℕ). same f word) (tab-first x (t ++ more) e ∙ sym (tab-first x t e))
    go false e told word h =
        ap (λ (f : List ℕ). same f word) (byte-first x (t ++ more) e)
        ∙ behind told word h
        ∙ sym (ap (λ (f : List ℕ). same f word) (byte-first x t e))

pub feature-told : (t more : List ℕ) → 5 ≤ length t → is_feature (t ++ more) ≡ is_feature t
feature-told t more h = word-told more t feature_word h
