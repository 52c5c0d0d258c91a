-- Tokens as page 01's "Tokens and grammar" has them, sentence by sentence: which bytes spell which token, and what "Longest match" says of
-- a place. `lexeme_at` meets it, and nothing else does: `munch` in proofs/Munch.antt, `only` in proofs/Only.antt. "Outside strings only
-- bytes 0x20 to 0x7E" follows from it: proofs/Printable.antt.
use Rattle.std.specs.Prelude.{◌≡◌, Bool, false, ◌⊎◌, ℕ, ◌+◌, ◌-◌, ◌≤◌, ◌<◌, T, length, get_or, drop}
use mathlib.Core.List.{List, [], ◌∷◌, ◌++◌, Memᴰ}
use Rattle.std.proofs.Math.Seq.{slice}
use Rattle.number.specs.Decimal.{most_digits, IsNumber}
use Rattle.lexer.specs.Bytes.{is_space, is_name_byte, is_name_length, is_word_start, is_quote, in_class, place_in, ascii}
use Rattle.lexer.specs.Punctuator.{punctuators, refused_operators}
use Rattle.lexer.specs.Token.{literal_words}
use Rattle.lexer.specs.declared.bytes.Class.TheVariants.{Inside}
use Rattle.lexer.specs.declared.token.Token.{Token}
use Rattle.lexer.specs.declared.token.Token.TheVariants.{Number, String, Variable, Word, Punctuator}
use Rattle.lexer.specs.declared.token.Lexeme.{Lexeme}
use Rattle.lexer.specs.declared.token.Lexeme.TheVariants.{Found, Bad, End}

-- every byte is of a kind
abbrev pub All : (ℕ → Bool) → List ℕ → Type 0
All p [] = Unit {0}
All p (b ∷ bs) = T (p b) × All p bs

-- the bytes that spell a token
pub data Spells : List ℕ → Token → Type 0 where
  -- "15 digits in all at most"
  number : {s : List ℕ} {n k d : ℕ} → IsNumber s n k d → d ≤ most_digits → Spells s (Number n k)
  -- "A string is closed by the quote that opened it"; what stands inside is `in_class (Inside q)`
  string : (q : ℕ) (bs : List ℕ) → T (is_quote q) → All (in_class (Inside q)) bs → Spells (q ∷ bs ++ q ∷ []) String
  -- "A variable is `${`, a name, `}`"
  variable : (bs : List ℕ) → All is_name_byte bs → T (is_name_length (length bs)) → Spells (ascii "${" ++ bs ++ ascii "}") Variable
  -- "A word is a letter or underscore, then letters, digits or underscores"
  word : (b : ℕ) (bs : List ℕ) → T (is_word_start b) → All is_name_byte bs → Spells (b ∷ bs) (Word (place_in literal_words (b ∷ bs)))
  punctuator : {s : List ℕ} → Memᴰ s punctuators → Spells s (Punctuator (place_in punctuators s))

-- the bytes that spell a token which is refused
pub data Refuses : List ℕ → Type 0 where
  -- "a longer one being a token refused with 2"
  long-number : {s : List ℕ} {n k d : ℕ} → IsNumber s n k d → most_digits < d → Refuses s
  refused-operator : {s : List ℕ} → Memᴰ s refused_operators → Refuses s

-- "Longest match": a text begins with no token, listed or refused, of over n bytes
pub record NoLonger (n : ℕ) (text : List ℕ) : Type 0 where
  pub spelled : (p q : List ℕ) (t : Token) → p ++ q ≡ text → Spells p t → length p ≤ n
  pub refused : (p q : List ℕ) → p ++ q ≡ text → Refuses p → length p ≤ n

-- "spaces part tokens": from a place up to the first byte that is none
pub record SpacesUpTo (text : List ℕ) (from at : ℕ) : Type 0 where
  pub onward : from ≤ at
  pub inside : at < length text
  pub spaces : All is_space (slice from at text)
  pub no_more : is_space (get_or text at 0) ≡ false

-- What stands at a place or after it, within the text: a token, and no longer one stands there; or a refused one that is the longest, or a
-- byte that begins no token at all; or spaces up to the end.
abbrev pub Munch : List ℕ → ℕ → Lexeme → Type 0
Munch text from (Found t at end) =
    SpacesUpTo text from at × (end ≤ length text) × Spells (slice at end text) t × NoLonger (end - at) (drop at text)
Munch text from (Bad at end) =
    SpacesUpTo text from at × (end ≤ length text)
    × ((Refuses (slice at end text) × NoLonger (end - at) (drop at text)) ⊎ (NoLonger 0 (drop at text) × (end ≡ at + 1)))
Munch text from End = All is_space (drop from text)
