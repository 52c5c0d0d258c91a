-- Reading on demand: from the end of a token on, the rest of the list is read.
use mathlib.Core.Path.{◌≡◌, refl, sym, ◌∙◌, ap}
use mathlib.Core.List.{List, []}
use Prim.Native.Nat.{ℕ, zero, suc, ◌+◌, ◌≤◌, ◌<◌}
use native.Mathlib.Omega.{arith}
use lib.ListN.{length}
use Rattle.lexer.specs.Token.{lexeme_at}
use Rattle.lexer.specs.Tokens.{placed, Lexed, tokens, bad_at, after, onward, tokens_in, tokens_from}
use Rattle.lexer.specs.declared.token.Token.{Token}
use Rattle.lexer.specs.declared.token.Lexeme.{Lexeme}
use Rattle.lexer.specs.declared.token.Lexeme.TheVariants.{Found, Bad, End}
use Rattle.lexer.proofs.Law.Ahead.{Ahead, ahead}

module _ (text : List ℕ) where
  -- what stands at a place goes on alike, if the rests are alike from later places on
  alike : (x : Lexeme) (from : ℕ) (a b : ℕ → Lexed) → Ahead from (length text) x → ((end : ℕ) → from < end → end ≤ length text → a end ≡ b end) → onward x a ≡ onward x b
  alike (Found t at end) from a b h k = ap (after (placed t at end)) (k end (omega (arith, h)) h.ends)
  alike (Bad at end) from a b h k = refl
  alike End from a b h k = refl

  -- past the end nothing stands
  nothing : (x : Lexeme) (from : ℕ) (a : ℕ → Lexed) → Ahead from (length text) x → length text < from → tokens [] ≡ onward x a
  nothing (Found t at end) from a h l = absurd (omega (arith, h))
  nothing (Bad at end) from a h l = absurd (omega (arith, h))
  nothing End from a h l = refl

  -- more steps than bytes from a place on change nothing
  enough : (f g from : ℕ) → length text < f + from → length text < g + from → tokens_in f text from ≡ tokens_in g text from
  unfolding tokens_in
  enough zero zero from h k = refl
  enough zero (suc g) from h k = nothing (lexeme_at text from) from (tokens_in g text) (ahead text from) (omega arith)
  enough (suc f) zero from h k = sym (nothing (lexeme_at text from) from (tokens_in f text) (ahead text from) (omega arith))
  enough (suc f) (suc g) from h k =
      alike (lexeme_at text from) from (tokens_in f text) (tokens_in g text) (ahead text from) (λ end later within. enough f g end (omega arith) (omega arith))

  -- The tokens from a place on are what stands there, and then the tokens from its end on.
  pub on-demand : (from : ℕ) → tokens_from text from ≡ onward (lexeme_at text from) (tokens_from text)
  unfolding tokens_from tokens_in
  on-demand from =
      alike (lexeme_at text from) from (tokens_in (length text) text) (tokens_from text) (ahead text from)
      (λ end later within. enough (length text) (suc (length text)) end (omega arith) (omega arith))

  -- the same by cases, as a reader that asks for one token after another meets them
  pub on-found : (from : ℕ) (t : Token) (at end : ℕ) → lexeme_at text from ≡ Found t at end → tokens_from text from ≡ after (placed t at end) (tokens_from text end)
  on-found from t at end e = on-demand from ∙ ap (λ x. onward x (tokens_from text)) e

  pub on-bad : (from at end : ℕ) → lexeme_at text from ≡ Bad at end → tokens_from text from ≡ bad_at at
  on-bad from at end e = on-demand from ∙ ap (λ x. onward x (tokens_from text)) e

  pub on-end : (from : ℕ) → lexeme_at text from ≡ End → tokens_from text from ≡ tokens []
  on-end from e = on-demand from ∙ ap (λ x. onward x (tokens_from text)) e
