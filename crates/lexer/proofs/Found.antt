-- What is read at the place of a token of a text is that token; and at the bad place of a text stands what is refused.
use mathlib.Core.Path.{◌≡◌, refl, sym, subst}
use mathlib.Core.List.Memᴰ
use mathlib.Core.List.{List, [], Memᴰ}
use mathlib.Core.Logic.{◌⊎◌, inl, inr}
use Prim.Native.Nat.{ℕ, zero, suc}
use lib.ListN.{length}
use Rattle.lexer.specs.Spelling.{Munch}
use Rattle.lexer.specs.Token.{lexeme_at}
use Rattle.lexer.specs.Tokens.{Placed, placed, Lexed, tokens, bad_at, after, onward, tokens_in, tokens_from, tokens_of}
use Rattle.lexer.specs.declared.token.Token.{Token}
use Rattle.lexer.specs.declared.token.Lexeme.{Lexeme}
use Rattle.lexer.specs.declared.token.Lexeme.TheVariants.{Found, Bad, End}
use Rattle.lexer.proofs.Munch.{munch}
use Rattle.lexer.proofs.Only.{is-lexeme}
use Rattle.lexer.proofs.Law.Spelling.{no-spaces}

module _ (text : List ℕ) where
  -- ---- what is found after spaces is found at its own place too

  pub found-again : (from : ℕ) (t : Token) (at end : ℕ) → lexeme_at text from ≡ Found t at end → lexeme_at text at ≡ Found t at end
  found-again from t at end e =
      let m : Munch text from (Found t at end) = subst (Munch text from) e (munch text from) in
      sym (is-lexeme text at (Found t at end) (no-spaces text at m.0.inside m.0.no_more, m.1, m.2, m.3))

  pub bad-again : (from at end : ℕ) → lexeme_at text from ≡ Bad at end → lexeme_at text at ≡ Bad at end
  bad-again from at end e =
      let m : Munch text from (Bad at end) = subst (Munch text from) e (munch text from) in
      sym (is-lexeme text at (Bad at end) (no-spaces text at m.0.inside m.0.no_more, m.1, m.2))

  -- ---- so is each of the tokens

  abbrev Stands : Placed → Type 0
  Stands (placed t at end) = lexeme_at text at ≡ Found t at end

  abbrev Again : Lexed → Type 0
  Again (tokens ts) = (x : Placed) → Memᴰ x ts → Stands x
  Again (bad_at p) = (end : ℕ) × (lexeme_at text p ≡ Bad p end)

  none-again : Again (tokens [])
  none-again x m = absurd (Memᴰ.not-nil m)

  after-again : (x : Placed) (l : Lexed) → Stands x → Again l → Again (after x l)
  after-again x (bad_at p) s h = h
  after-again x (tokens ts) s h = λ y m. go y (Memᴰ.cases_cons m)
    where
      go : (y : Placed) → (y ≡ x) ⊎ Memᴰ y ts → Stands y
      go y (inl e) = subst Stands (sym e) s
      go y (inr m) = h y m

  all-again : (f from : ℕ) → Again (tokens_in f text from)
  unfolding tokens_in
  all-again zero from = none-again
  all-again (suc f) from = go (lexeme_at text from) refl (all-again f)
    where
      go : (x : Lexeme) → lexeme_at text from ≡ x → ((end : ℕ) → Again (tokens_in f text end)) → Again (onward x (tokens_in f text))
      go (Found t at end) e rest = after-again (placed t at end) (tokens_in f text end) (found-again from t at end e) (rest end)
      go (Bad at end) e rest = (end, bad-again from at end e)
      go End e rest = none-again

  -- What is read at the place of a token of a text is that token.
  pub token-again : (ts : List Placed) → tokens_of text ≡ tokens ts → (t : Token) (at end : ℕ) → Memᴰ (placed t at end) ts → lexeme_at text at ≡ Found t at end
  unfolding tokens_from
  token-again ts e t at end = subst Again e (all-again (suc (length text)) 0) (placed t at end)

  -- What is read at the bad place of a text is refused there.
  pub bad-place : (p : ℕ) → tokens_of text ≡ bad_at p → (end : ℕ) × (lexeme_at text p ≡ Bad p end)
  unfolding tokens_from
  bad-place p e = subst Again e (all-again (suc (length text)) 0)
