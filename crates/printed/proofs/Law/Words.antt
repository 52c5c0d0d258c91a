-- Words of a table, and tokens.
use mathlib.Core.Path.{◌≡◌, refl}
use mathlib.Core.List.{List, [], ◌∷◌}
use Prim.Native.Nat.{ℕ, zero, suc, ◌≤◌, ◌<◌}
use native.Mathlib.Omega.{arith}
use denote.Bor.{Bor}
use lib.ListN.{length, get_or}
use Rattle.lexer.specs.declared.token.Lexeme.{Lexeme}
use Rattle.lexer.specs.declared.token.Lexeme.TheVariants.{Found, Bad, End}
use Rattle.lexer.specs.declared.token.Token.{Token}
use Rattle.printed.specs.Shown.{token_of, word_of, words_of}

word-here : (table : List (Bor (List ℕ))) (n : ℕ) (d : Bor (List ℕ)) → n < length table → word_of n (words_of table) ≡ (get_or table n d).now
word-here [] n d h = absurd (omega arith)
word-here (w ∷ ws) zero d h = refl
word-here (w ∷ ws) (suc n) d h = word-here ws n d (omega arith)

pub word-got : (table : List (Bor (List ℕ))) (n : ℕ) (w d : Bor (List ℕ)) → n < length table → w ≡ get_or table n d → word_of n (words_of table) ≡ w.now
word-got table n w d h e = rw (word-here table n d h, e)

pub word-past : (table : List (Bor (List ℕ))) (n : ℕ) → length table ≤ n → word_of n (words_of table) ≡ []
word-past [] n h = refl
word-past (w ∷ ws) zero h = absurd (omega arith)
word-past (w ∷ ws) (suc n) h = word-past ws n (omega arith)

pub no-token : (text : List ℕ) (l : Lexeme) → ((t : Token) (at end : ℕ) → l ≡ Found t at end → ⊥) → token_of text l ≡ []
no-token text (Found t at end) h = absurd (h t at end refl)
no-token text (Bad at end) h = refl
no-token text End h = refl
