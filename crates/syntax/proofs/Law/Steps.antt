-- The pieces of the parser over a text, each by what it meets.
use mathlib.Core.Path.{◌≡◌, refl, subst}
use mathlib.Core.List.{List}
use mathlib.Core.Bool.{Bool, true, false}
use Prim.Native.Nat.{ℕ}
use lib.Dec.{eqb}
use borrow.Author.Tests.{eq-eqb, ne_eqb}
use Rattle.syntax.specs.Symbol.{symbol_at, end}
use Rattle.syntax.specs.Parser.{Parse, part, refused, and_then, ask, at_end, on_next, followed, in_text}
use Rattle.syntax.specs.Inner.{Follows}
use Rattle.syntax.specs.declared.symbol.Symbol.{Symbol}

-- a parser gives an answer
pub record Gives {S A : Type 0} (m : S → Parse S A) (s : S) (a : Parse S A) : Type 0 where
  pub gives : m s ≡ a

pub given : {S A : Type 0} {m : S → Parse S A} {s : S} {a : Parse S A} → m s ≡ a → Gives m s a
given e = record { gives = e }

-- an answer as it stands
pub at_once : {S A : Type 0} {m : S → Parse S A} {s : S} → Gives m s (m s)
at_once = record { gives = refl }

module _ {S A B : Type 0} where
  pub then-part : {m : S → Parse S A} (k : A → S → Parse S B) {s : S} {e : A} {t : S} {a : Parse S B} → Gives m s (part e t) → Gives (k e) t a → Gives (and_then m k) s a
  unfolding and_then
  then-part k h i = record { gives = rw h.gives i.gives }

  pub then-bad : {m : S → Parse S A} (k : A → S → Parse S B) {s : S} {t : S} → Gives m s (refused t) → Gives (and_then m k) s (refused t)
  unfolding and_then
  then-bad k h = record { gives = rw h.gives refl }

module _ {A : Type 0} (text : List ℕ) (test : Symbol → Bool) (y : Symbol → Symbol → Parse Symbol A) (n : Symbol → Parse Symbol A) {x : Symbol} {a : Parse Symbol A} where
  pub asks-yes : test x ≡ true → (x.number ≡ end → ⊥) → Gives (y x) (symbol_at text x.end) a → Gives (ask (in_text text) test y n) x a
  unfolding ask
  asks-yes h e i = record { gives = simp (ne_eqb x.number end e, h, i.gives) }

  pub asks-no : test x ≡ false → Gives n x a → Gives (ask (in_text text) test y n) x a
  unfolding ask
  asks-no h i = record { gives = go (eqb x.number end) }
    where
      go : (b : Bool) → on_next (followed b text x) test y (λ _. n x) ≡ a
      go true = i.gives
      go false = rw h i.gives

module _ {A : Type 0} (text : List ℕ) (e : A) (x : Symbol) where
  pub ends-here : x.number ≡ end → Gives (at_end (in_text text) e) x (part e x)
  unfolding at_end
  ends-here h = record { gives = rw (eq-eqb x.number end h) refl }

  pub ends-later : (x.number ≡ end → ⊥) → Gives (at_end (in_text text) e) x (refused x)
  unfolding at_end
  ends-later h = record { gives = rw (ne_eqb x.number end h) refl }

-- what a parser gives at the symbol that follows
pub after-that : {A : Type 0} {text : List ℕ} {x y : Symbol} {m : Symbol → Parse Symbol A} {a : Parse Symbol A} → Follows text x y → Gives m y a → Gives m (symbol_at text x.end) a
after-that {m = m} {a = a} f h = subst (λ s. Gives m s a) f.is h
