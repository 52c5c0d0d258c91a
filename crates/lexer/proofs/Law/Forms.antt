-- Each form of token, as the functions find it at a place of a text.
use mathlib.Core.Path.{◌≡◌, refl, sym, ◌∙◌, ap}
use mathlib.Core.Bool.{Bool, true, false, cond, ◌&&◌}
use mathlib.Core.List.{List, [], ◌∷◌}
use Prim.Native.Nat.{ℕ, suc, ◌+◌, ◌-◌, ◌≤◌, ◌<◌}
use native.Mathlib.Numerals.{add-one}
use native.Mathlib.Omega.{arith}
use borrow.Author.Tests.{ne_eqb, eq-eqb, eqb-true}
use lib.Dec.{eqb}
use lib.ListN.{length, get_or, take, drop, drop_of_length-le}
use lib.Seq.{drop-cons, drop-drop}
use Rattle.number.specs.Decimal.{read_at}
use Rattle.number.specs.declared.decimal.Decimal.{Decimal}
use Rattle.lexer.specs.Bytes.{is_quote, is_letter, is_word_start, is_name_byte, is_name_length, in_class, run, begins, place_in}
use Rattle.lexer.specs.Token.{literal_words, string_at, variable_at, word_at, punctuator_at, Start, quote, dollar, letter, other, start_of, starting_at, other_at, number_or, first_at, lexeme_at}
use Rattle.lexer.specs.declared.bytes.Class.TheVariants.{Space, Name, Inside}
use Rattle.lexer.specs.declared.token.Token.TheVariants.{String, Variable, Word}
use Rattle.lexer.specs.declared.token.Lexeme.TheVariants.{Found, Bad, End}
use Rattle.lexer.proofs.Law.Runs.{by-test}

-- ---- strings

module _ (text : List ℕ) (at q end : ℕ) (e : end ≡ at + 1 + run (in_class (Inside q)) (drop (at + 1) text)) where
  string-is : string_at at q (drop (suc at) text) ≡ cond (begins (q ∷ []) (drop end text)) (Found String at (end + 1)) (Bad at (at + 1))
  unfolding string_at
  string-is =
      let n = run (in_class (Inside q)) (drop (suc at) text) in
      let f : end ≡ suc at + n = rw (add-one at) at e in
      rw (drop-drop n (suc at) text, ← f) (ap (λ (i : ℕ). cond (begins (q ∷ []) (drop end text)) (Found String at i) (Bad at (at + 1))) (omega arith))

  pub string-closed : begins (q ∷ []) (drop end text) ≡ true → Found String at (end + 1) ≡ string_at at q (drop (suc at) text)
  string-closed h = sym (string-is ∙ rw h)

  pub string-open : begins (q ∷ []) (drop end text) ≡ false → Bad at (at + 1) ≡ string_at at q (drop (suc at) text)
  string-open h = sym (string-is ∙ rw h)

-- ---- variables

pub variable-other : (text : List ℕ) (at : ℕ) → begins (123 ∷ []) (drop (at + 1) text) ≡ false → Bad at (at + 1) ≡ variable_at at (drop (suc at) text)
unfolding variable_at
variable-other text at h = rw (rw (add-one at) at h)

module _ (text : List ℕ) (at end : ℕ) (named closed : Bool) (h : begins (123 ∷ []) (drop (at + 1) text) ≡ true) (e : end ≡ at + 2 + run (in_class Name) (drop (at + 2) text))
    (l : named ≡ is_name_length (end - (at + 2))) (k : closed ≡ begins (125 ∷ []) (drop end text)) where
  variable-is : variable_at at (drop (suc at) text)
      ≡ cond (named && closed) (Found Variable at (end + 1)) (Bad at (at + 1))
  unfolding variable_at
  variable-is =
      let n = run is_name_byte (drop (at + 2) text) in
      let two : suc at + 1 ≡ at + 2 = omega arith in
      let name : drop 1 (drop (suc at) text) ≡ drop (at + 2) text = drop-drop 1 (suc at) text ∙ ap (λ (i : ℕ). drop i text) two in
      let sum : suc at + (1 + n) ≡ end = omega arith in
      let past : drop (1 + n) (drop (suc at) text) ≡ drop end text = drop-drop (1 + n) (suc at) text ∙ ap (λ (i : ℕ). drop i text) sum in
      let size : end - (at + 2) ≡ n = omega arith in
      let last : end + 1 ≡ at + (n + 3) = omega arith in
      rw (l, k, name, past, rw (add-one at) at h, size, last)

  pub variable-named : named && closed ≡ true → Found Variable at (end + 1) ≡ variable_at at (drop (suc at) text)
  variable-named t = sym (variable-is ∙ rw t)

  pub variable-misnamed : named && closed ≡ false → Bad at (at + 1) ≡ variable_at at (drop (suc at) text)
  variable-misnamed t = sym (variable-is ∙ rw t)

-- ---- words

pub word-is : (text : List ℕ) (at end k : ℕ) → end ≡ at + run (in_class Name) (drop at text) → k ≡ place_in literal_words (take (end - at) (drop at text)) →
    Found (Word k) at end ≡ word_at at (drop at text)
unfolding word_at
word-is text at end k e h =
    let size : end - at ≡ run is_name_byte (drop at text) = omega arith in
    let number : k ≡ place_in literal_words (take (run is_name_byte (drop at text)) (drop at text)) = h ∙ ap (λ (n : ℕ). place_in literal_words (take n (drop at text))) size in
    λ i. Found (Word (number i)) at (e i)

-- ---- by the first byte

starts : (s : Start) (at b : ℕ) (bs : List ℕ) → start_of b ≡ s → starting_at s at b bs ≡ other_at at b bs
unfolding other_at
starts s at b bs e = ap (λ t. starting_at t at b bs) (sym e)

module _ (b : ℕ) where
  with-dollar : is_quote b ≡ false → b ≡ 36 → start_of b ≡ dollar
  with-dollar q d = rw (q, eq-eqb b 36 d)

  with-letter : is_quote b ≡ false → (b ≡ 36 → ⊥) → is_word_start b ≡ true → start_of b ≡ letter
  with-letter q d w = rw (q, ne_eqb b 36 d, w)

  with-other : is_quote b ≡ false → (b ≡ 36 → ⊥) → is_word_start b ≡ false → start_of b ≡ other
  with-other q d w = rw (q, ne_eqb b 36 d, w)

pub start-cases : (P : Start → Type 0) (b : ℕ) → (is_quote b ≡ true → P quote) → (b ≡ 36 → P dollar) → (is_word_start b ≡ true → P letter) → P other → P (start_of b)
start-cases P b p q r s = by-test P (is_quote b) p (λ _. by-test P (eqb b 36) (λ e. q (eqb-true b 36 e)) (λ _. by-test P (is_word_start b) r (λ _. s)))

-- what may begin a word may stand in it
pub start-byte : (b : ℕ) → is_word_start b ≡ true → is_name_byte b ≡ true
start-byte b e = go (is_letter b) refl
  where
    go : (t : Bool) → is_letter b ≡ t → is_name_byte b ≡ true
    go true i = rw i
    go false i = rw (i, eqb-true b 95 (rw i at e))

module _ (text : List ℕ) (at : ℕ) where
  pub other-string : is_quote (get_or text at 0) ≡ true → string_at at (get_or text at 0) (drop (suc at) text) ≡ other_at at (get_or text at 0) (drop (suc at) text)
  other-string q = starts quote at (get_or text at 0) (drop (suc at) text) (rw q)

  pub other-variable : is_quote (get_or text at 0) ≡ false → get_or text at 0 ≡ 36 → variable_at at (drop (suc at) text) ≡ other_at at (get_or text at 0) (drop (suc at) text)
  other-variable q d = starts dollar at (get_or text at 0) (drop (suc at) text) (with-dollar _ q d)

  pub other_word : at < length text → is_quote (get_or text at 0) ≡ false → (get_or text at 0 ≡ 36 → ⊥) → is_word_start (get_or text at 0) ≡ true →
      word_at at (drop at text) ≡ other_at at (get_or text at 0) (drop (suc at) text)
  other_word h q d w = ap (word_at at) (drop-cons text at 0 h) ∙ starts letter at (get_or text at 0) (drop (suc at) text) (with-letter _ q d w)

  pub other-punctuator : at < length text → is_quote (get_or text at 0) ≡ false → (get_or text at 0 ≡ 36 → ⊥) → is_word_start (get_or text at 0) ≡ false →
      punctuator_at at (drop at text) ≡ other_at at (get_or text at 0) (drop (suc at) text)
  other-punctuator h q d w = ap (punctuator_at at) (drop-cons text at 0 h) ∙ starts other at (get_or text at 0) (drop (suc at) text) (with-other _ q d w)

-- ---- after spaces

module _ (text : List ℕ) (from at : ℕ) (e : at ≡ from + run (in_class Space) (drop from text)) where
  lexeme-is : lexeme_at text from ≡ first_at text at (drop at text)
  unfolding lexeme_at
  lexeme-is = ap (λ (i : ℕ). first_at text i (drop i text)) (sym e)

  pub lexeme-end : length text ≤ at → End ≡ lexeme_at text from
  lexeme-end h = sym (lexeme-is ∙ rw (drop_of_length-le text h))

  pub lexeme-some : (d : Decimal) → at < length text → d ≡ read_at text at → number_or d at (get_or text at 0) (drop (suc at) text) ≡ lexeme_at text from
  lexeme-some d h k = sym (lexeme-is ∙ rw (drop-cons text at 0 h, ← k))
