-- The parser over a text answers as it does over the list of the text's symbols.
use mathlib.Core.Path.{◌≡◌, refl, ap, sym, ◌∙◌}
use mathlib.Core.Bool.{Bool, true, false}
use mathlib.Core.List.{List, [], ◌∷◌}
use Prim.Native.Nat.{ℕ, zero, suc, ◌+◌, ◌≤◌, ◌<◌}
use native.Mathlib.Omega.{arith}
use lib.ListN.{length}
use borrow.Author.Tests.{ne_eqb}
use Rattle.lexer.specs.Token.{lexeme_at}
use Rattle.lexer.specs.Tokens.{Placed, placed, Lexed, tokens, bad_at, after, tokens_from}
use Rattle.lexer.specs.declared.token.Token.{Token}
use Rattle.lexer.specs.declared.token.Lexeme.{Lexeme}
use Rattle.lexer.specs.declared.token.Lexeme.TheVariants.{Found, Bad, End}
use Rattle.lexer.proofs.Law.Ahead.{Ahead, ahead}
use Rattle.lexer.proofs.OnDemand.{on-found, on-bad, on-end}
use Rattle.tree.specs.Tree.{Tree}
use Rattle.syntax.specs.Symbol.{end, number_of, seen, symbol_of, symbol_at, is}
use Rattle.syntax.specs.Place.{symbols_of, place_of}
use Rattle.syntax.specs.Parser.{Parse, part, refused, spent, on_part, and_then, tested, ask, at_end, whole_from, in_text}
use Rattle.syntax.specs.declared.symbol.Symbol.{Symbol}
use Rattle.syntax.proofs.Law.Symbols.{token-number}
use Rattle.syntax.proofs.Grammar.Lists.{Parser, uncons}
use Rattle.syntax.proofs.Grammar.Kept.{Le, Kept, whole-kept}

module _ (text : List ℕ) where
  -- ---- alike

  -- the symbols from x on
  pub data Streams : Symbol → List Symbol → Type 0 where
    ends : {x : Symbol} → is end x ≡ true → x.at ≡ length text → Streams x []
    goes : {x : Symbol} {xs : List Symbol} → is end x ≡ false → Streams (symbol_at text x.end) xs → Streams x (x ∷ xs)

  pub stream-place : {x : Symbol} (ts : List Placed) → Streams x (symbols_of ts) → x.at ≡ place_of text ts
  stream-place [] (ends e p) = p
  stream-place (placed t at until ∷ ts) (goes e h) = refl

  -- the list's answer, where it is not that no steps are left, and the text's
  pub data Alike {A : Type 0} : Parse (List Symbol) A → Parse Symbol A → Type 0 where
    parts : (a : A) {x : Symbol} {xs : List Symbol} → Streams x xs → Alike (part a xs) (part a x)
    refusals : {x : Symbol} {xs : List Symbol} → Streams x xs → Alike (refused xs) (refused x)
    nothing_left : {r : Parse Symbol A} → Alike spent r

  pub record Over (A : Type 0) (m : Parser A) (n : Symbol → Parse Symbol A) : Type 0 where
    pub over : {x : Symbol} {xs : List Symbol} → Streams x xs → Alike (m xs) (n x)

  over-end : {A : Type 0} (a : A) → Over A (at_end uncons a) (at_end (in_text text) a)
  unfolding at_end
  over-end {A} a = record { over = go }
    where
      go : {x : Symbol} {xs : List Symbol} → Streams x xs → Alike (at_end uncons a xs) (at_end (in_text text) a x)
      go (ends e p) = rw e (parts a (ends e p))
      go (goes e h) = rw e (refusals (goes e h))

  module _ {A B : Type 0} {m : Parser A} {n : Symbol → Parse Symbol A} {k : A → Parser B} {l : A → Symbol → Parse Symbol B} where
    over-then : Over A m n → ((a : A) → Over B (k a) (l a)) → Over B (and_then m k) (and_then n l)
    unfolding and_then
    over-then h on = record { over = λ s. go (h.over s) }
      where
        go : {r : Parse (List Symbol) A} {s : Parse Symbol A} → Alike r s → Alike (on_part r k) (on_part s l)
        go (parts a s) = (on a).over s
        go (refusals s) = refusals s
        go nothing_left = nothing_left

  module _ {A : Type 0} {y : Symbol → Parser A} {y' : Symbol → Symbol → Parse Symbol A} {n : Parser A} {n' : Symbol → Parse Symbol A} where
    over-ask : (test : Symbol → Bool) → ((x : Symbol) → Over A (y x) (y' x)) → Over A n n' → Over A (ask uncons test y n) (ask (in_text text) test y' n')
    unfolding ask
    over-ask test a b = record { over = go }
      where
        asked : {x : Symbol} {xs : List Symbol} (w : Bool) → Streams x (x ∷ xs) → Streams (symbol_at text x.end) xs → Alike (tested w (λ _. y x xs) (λ _. n (x ∷ xs))) (tested w (λ _. y' x (symbol_at text x.end)) (λ _. n' x))
        asked {x} true s s' = (a x).over s'
        asked false s s' = b.over s

        go : {x : Symbol} {xs : List Symbol} → Streams x xs → Alike (ask uncons test y n xs) (ask (in_text text) test y' n' x)
        go (ends e p) = rw e (b.over (ends e p))
        go (goes {x} e h) = rw e (asked (test x) (goes e h) h)

  pub whole-over : {f g : ℕ} → Le f g → Over Tree (whole_from text uncons f) (whole_from text (in_text text) g)
  whole-over l = whole-kept text over-kept l
    where
      over-kept : Kept uncons (in_text text) Over
      over-kept = record {
        kept-part = λ {A} {a}. record { over = λ s. parts a s };
        kept-refused = record { over = λ s. refusals s };
        kept-nothing = record { over = λ s. nothing_left };
        kept-end = λ a. over-end a;
        kept_then = λ a b. over-then a b;
        kept-ask = λ test a b. over-ask test a b;
      }

  -- ---- the list

  -- the symbols from a place on: no more than bytes, and those of the tokens where all of these are good
  pub record Listed (from : ℕ) (x : Symbol) : Type 0 where
    pub symbols : List Symbol
    pub streams : Streams x symbols
    pub few : length symbols + from ≤ length text
    pub tokens-are : (ts : List Placed) → tokens_from text from ≡ tokens ts → symbols ≡ symbols_of ts

  -- a token, and then the others
  found-are : (t : Token) (at until : ℕ) (xs : List Symbol) (rest : Lexed) → ((ts : List Placed) → rest ≡ tokens ts → xs ≡ symbols_of ts) →
      (ts : List Placed) → after (placed t at until) rest ≡ tokens ts → seen t at until ∷ xs ≡ symbols_of ts
  found-are t at until xs (tokens ts') h ts e = go ts e
    where
      go : (ts : List Placed) → tokens (placed t at until ∷ ts') ≡ tokens ts → seen t at until ∷ xs ≡ symbols_of ts
      go ts e = ap (λ r. seen t at until ∷ r) (h ts' refl) ∙ ap (λ r. symbols_of r) (let i : placed t at until ∷ ts' ≡ ts = cc in i)
  found-are t at until xs (bad_at p) h ts e = cc

  listed-as : (from : ℕ) (x : Lexeme) → lexeme_at text from ≡ x → Ahead from (length text) x → from ≤ length text →
      ((until : ℕ) → from < until → until ≤ length text → Listed until (symbol_at text until)) → Listed from (symbol_of text x)
  listed-as from (Found t at until) e a l on =
      let r = on until (omega (arith, a)) a.ends in
      record {
        symbols = seen t at until ∷ r.symbols;
        streams = goes (ne_eqb (number_of t) 36 (token-number t).1) r.streams;
        few = omega (arith, a, r.few);
        tokens-are = λ ts h. found-are t at until r.symbols (tokens_from text until) (λ ts i. r.tokens-are ts i) ts (sym (on-found text from t at until e) ∙ h);
      }
  listed-as from (Bad at until) e a l on =
      let r = on until (omega (arith, a)) a.ends in
      record {
        symbols = symbol_of text (Bad at until) ∷ r.symbols;
        streams = goes refl r.streams;
        few = omega (arith, a, r.few);
        tokens-are = λ ts h. absurd (let b = on-bad text from at until e in let z : ◌≡◌ {A = ℕ} 0 1 = cc in omega arith);
      }
  listed-as from End e a l on = record {
    symbols = [];
    streams = ends refl refl;
    few = omega arith;
    tokens-are = λ ts h. ap (λ r. symbols_of r) (let b = on-end text from e in let i : [] ≡ ts = cc in i);
  }

  listed_in : (f from : ℕ) → from ≤ length text → length text < f + from → Listed from (symbol_at text from)
  unfolding symbol_at
  listed_in zero from l n = absurd (omega arith)
  listed_in (suc f) from l n = listed-as from (lexeme_at text from) refl (ahead text from) l (λ until b i. listed_in f until i (omega arith))

  pub listed : Listed 0 (symbol_at text 0)
  listed = listed_in (suc (length text)) 0 (omega arith) (omega arith)
