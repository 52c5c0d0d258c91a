-- Lists of symbols: the parser over them, what tests see of a symbol, and lists that go with each other.
use mathlib.Core.Path.{◌≡◌, ap}
use mathlib.Core.Bool.{Bool}
use mathlib.Core.List.{List, [], ◌∷◌, ◌++◌}
use mathlib.Core.Option.{Option, none, some}
use Prim.Native.Nat.{ℕ}
use Rattle.syntax.specs.Parser.{Parse}
use Rattle.syntax.specs.declared.symbol.Symbol.{Symbol}

abbrev pub Parser : Type 0 → Type 0
Parser A = List Symbol → Parse (List Symbol) A

abbrev pub uncons : List Symbol → Option (Symbol × List Symbol)
uncons [] = none
uncons (x ∷ xs) = some (x, xs)

-- a symbol of the number n, at no place in particular
abbrev pub made : ℕ → Symbol
made n = record { number = n; at = 0; end = 0 }

-- a test of the grammar sees the number of a symbol and nothing else: at each of them the ends of this path compute to the test of symbols with these numbers
pub by_number : {n m : ℕ} (test : Symbol → Bool) → n ≡ m → test (made n) ≡ test (made m)
by_number test e = ap (λ n. test (made n)) e

-- ---- lists that go with each other, one by one

module _ {A B : Type 0} (R : A → B → Type 0) where
  pub data Each : List A → List B → Type 0 where
    each_none : Each [] []
    each_more : {x : A} {y : B} {xs : List A} {ys : List B} → R x y → Each xs ys → Each (x ∷ xs) (y ∷ ys)

  -- what goes with two lists, one behind the other, is two lists
  pub data Cut (xs ys : List A) : List B → Type 0 where
    cut : {us vs : List B} → Each xs us → Each ys vs → Cut xs ys (us ++ vs)

  pub cutting : (xs ys : List A) {zs : List B} → Each (xs ++ ys) zs → Cut xs ys zs
  cutting [] ys h = cut each_none h
  cutting (x ∷ xs) ys (each_more {y} e h) = go (cutting xs ys h)
    where
      go : {zs : List B} → Cut xs ys zs → Cut (x ∷ xs) ys (y ∷ zs)
      go (cut a b) = cut (each_more e a) b

  -- the same with one between them
  pub data Joined (xs : List A) (x : A) (ys : List A) : List B → Type 0 where
    joined : {us vs : List B} (y : B) → R x y → Each xs us → Each ys vs → Joined xs x ys (us ++ (y ∷ []) ++ vs)

  pub joining : (xs : List A) (x : A) (ys : List A) {zs : List B} → Each (xs ++ (x ∷ []) ++ ys) zs → Joined xs x ys zs
  joining xs x ys h = go (cutting (xs ++ (x ∷ [])) ys h)
    where
      inner : {us vs : List B} → Cut xs (x ∷ []) us → Each ys vs → Joined xs x ys (us ++ vs)
      inner (cut a (each_more {y} e each_none)) b = joined y e a b

      go : {zs : List B} → Cut (xs ++ (x ∷ [])) ys zs → Joined xs x ys zs
      go (cut a b) = inner (cutting xs (x ∷ []) a) b
