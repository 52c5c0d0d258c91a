-- What `scan` leans on: its account of brackets is that of the definition.
use mathlib.Core.Path.{◌≡◌, refl, sym, ◌∙◌, ap, subst}
use mathlib.Core.Bool.{Bool, true, false}
use mathlib.Core.List.{List, ◌∷◌}
use Prim.Native.Nat.{ℕ, ◌≤◌, ◌<◌}
use native.Mathlib.Numerals.{add-one}
use native.Mathlib.Omega.{arith}
use lib.Dec.{leb}
use borrow.Author.Tests.{le-ltb, lt-ltb, leb-true, leb-false}
use lib.ListN.{length}
use Rattle.lexer.specs.Refusal.{refusal_at, Judged, refused, fine}
use Rattle.lexer.specs.Token.{lexeme_at}
use Rattle.lexer.specs.Tokens.{Placed, placed, Lexed, tokens, bad_at, after, tokens_from}
use Rattle.lexer.specs.Scan.{most_open, bracket_of, brackets_in, verdict_of, scan_of}
use Rattle.std.specs.Prelude.{Result, Ok, Err}
use Rattle.lexer.specs.declared.refusal.Refusal.{Refusal}
use Rattle.lexer.specs.Inner.{changed, next_open}
use Rattle.lexer.specs.declared.token.Token.{Token}
use Rattle.lexer.specs.declared.token.Lexeme.{Lexeme}
use Rattle.lexer.specs.declared.token.Lexeme.TheVariants.{Found, Bad, End}
use Rattle.lexer.specs.declared.scan.Bracket.{Bracket}
use Rattle.lexer.specs.declared.scan.Bracket.TheVariants.{Opens, Closes, Neither}
use Rattle.lexer.specs.declared.refusal.Reason.TheVariants as reason
use Rattle.lexer.proofs.Law.Ahead.{Ahead, ahead}
use Rattle.lexer.proofs.OnDemand.{on-found, on-bad, on-end}

-- the verdict on the rest of a text, where so many brackets are open, or one was too many
abbrev pub rest_verdict : Result ℕ Refusal → Lexed → Judged (Unit {0})
rest_verdict (Ok n) (tokens ts) = brackets_in n ts
rest_verdict (Err r) (tokens ts) = refused r
rest_verdict seen (bad_at p) = refused (refusal_at reason.Token p)

step : (b : Bracket) (n : ℕ) (t : Token) (at end : ℕ) (ts : List Placed) → bracket_of t ≡ b →
    rest_verdict (changed b n at) (tokens ts) ≡ brackets_in n (placed t at end ∷ ts)
unfolding brackets_in
step Opens n t at end ts e = go (leb most_open n) refl
  where
    go : (u : Bool) → leb most_open n ≡ u → rest_verdict (changed Opens n at) (tokens ts) ≡ brackets_in n (placed t at end ∷ ts)
    go true i = rw (brackets_in, e, i, le-ltb n most_open (leb-true most_open n i))
    go false i = rw (brackets_in, e, i, lt-ltb n most_open (leb-false most_open n i), add-one n)
step Closes n t at end ts e = rw (brackets_in, e)
step Neither n t at end ts e = rw (brackets_in, e)

-- a token seen, or still to be seen
seen-token : (n : ℕ) (t : Token) (at end : ℕ) (rest : Lexed) → rest_verdict (next_open n t at) rest ≡ rest_verdict (Ok n) (after (placed t at end) rest)
seen-token n t at end (bad_at p) = bad (next_open n t at)
  where
    bad : (r : Result ℕ Refusal) → rest_verdict r (bad_at p) ≡ refused (refusal_at reason.Token p)
    bad (Ok m) = refl
    bad (Err r) = refl
seen-token n t at end (tokens ts) = step (bracket_of t) n t at end ts refl

-- a token that is one too many changes nothing
over-token : (r : Refusal) (t : Token) (at end : ℕ) (rest : Lexed) → rest_verdict (Err r) rest ≡ rest_verdict (Err r) (after (placed t at end) rest)
over-token r t at end (bad_at p) = refl
over-token r t at end (tokens ts) = refl

module _ (text : List ℕ) (from : ℕ) where
  pub scan-found : (n : ℕ) (x : Lexeme) (t : Token) (at end : ℕ) (next : Result ℕ Refusal) → x ≡ lexeme_at text from → x ≡ Found t at end → next ≡ next_open n t at →
      rest_verdict next (tokens_from text end) ≡ rest_verdict (Ok n) (tokens_from text from)
  scan-found n x t at end next e f g =
      ap (λ (b : Result ℕ Refusal). rest_verdict b (tokens_from text end)) g
      ∙ seen-token n t at end (tokens_from text end)
      ∙ ap (rest_verdict (Ok n)) (sym (on-found text from t at end (sym e ∙ f)))

  pub scan-over : (r : Refusal) (x : Lexeme) (t : Token) (at end : ℕ) → x ≡ lexeme_at text from → x ≡ Found t at end →
      rest_verdict (Err r) (tokens_from text end) ≡ rest_verdict (Err r) (tokens_from text from)
  scan-over r x t at end e f = over-token r t at end (tokens_from text end) ∙ ap (rest_verdict (Err r)) (sym (on-found text from t at end (sym e ∙ f)))

  pub scan-bad : (seen : Result ℕ Refusal) (x : Lexeme) (at end : ℕ) → x ≡ lexeme_at text from → x ≡ Bad at end → refused (refusal_at reason.Token at) ≡ rest_verdict seen (tokens_from text from)
  scan-bad seen x at end e f = sym (bad seen) ∙ ap (rest_verdict seen) (sym (on-bad text from at end (sym e ∙ f)))
    where
      bad : (r : Result ℕ Refusal) → rest_verdict r (bad_at at) ≡ refused (refusal_at reason.Token at)
      bad (Ok m) = refl
      bad (Err r) = refl

  pub scan-fine : (n : ℕ) (x : Lexeme) → x ≡ lexeme_at text from → x ≡ End → fine tt ≡ rest_verdict (Ok n) (tokens_from text from)
  unfolding brackets_in
  scan-fine n x e f = ap (rest_verdict (Ok n)) (sym (on-end text from (sym e ∙ f)))

  pub scan-refused : (r : Refusal) (x : Lexeme) → x ≡ lexeme_at text from → x ≡ End → refused r ≡ rest_verdict (Err r) (tokens_from text from)
  scan-refused r x e f = ap (rest_verdict (Err r)) (sym (on-end text from (sym e ∙ f)))

-- the whole text, before anything is seen
all_of : (l : Lexed) → rest_verdict (Ok 0) l ≡ verdict_of l
all_of (tokens ts) = refl
all_of (bad_at p) = refl

pub scan-all : (text : List ℕ) → rest_verdict (Ok 0) (tokens_from text 0) ≡ scan_of text
unfolding scan_of
scan-all text = all_of (tokens_from text 0)

-- a token brings the scan on
pub scan-on : (text : List ℕ) (from : ℕ) (x : Lexeme) (t : Token) (at end : ℕ) → x ≡ lexeme_at text from → x ≡ Found t at end → (from < end) × (end ≤ length text)
scan-on text from x t at end e f = let h : Ahead from (length text) (Found t at end) = subst (Ahead from (length text)) (sym e ∙ f) (ahead text from) in (omega (arith, h), h.ends)
