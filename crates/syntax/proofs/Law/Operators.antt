-- Operators by their numbers: the ranges and numbers that the code compares are those of the spellings in `prefixes` and `operators`.
use mathlib.Core.Path.{◌≡◌, refl}
use mathlib.Core.Bool.{Bool, true, false, cond, not, ◌&&◌, ◌||◌, and-eq-true_iff, false≢true}
use mathlib.Core.List.{[]}
use Prim.Native.Nat.{ℕ, zero, suc, ◌<◌, ◌≤◌}
use native.Mathlib.Omega.{arith}
use borrow.Author.Tests.{eqb-true, eqb-false, ltb-true, ltb-false, le-leb, lt-leb, ne_eqb}
use lib.Dec.{eqb, ltb, leb}
use lib.ListN.{length, get_or-eq_default}
use Rattle.std.proofs.lemmas.Bool.Decides.{nat_tests}
use Rattle.lexer.specs.Punctuator.{punctuators}
use Rattle.syntax.specs.Symbol.{is_among, spelling, prefixes, is_prefix, precedence_of}
use Rattle.syntax.specs.declared.symbol.Symbol.{Symbol}

-- ---- what a computed test says of all numbers below one

module _ {A : Type 0} (same : A → A → Bool) (only : (a b : A) → same a b ≡ true → a ≡ b) (f g : ℕ → A) where
  -- whether two functions agree below a number
  abbrev agree : ℕ → Bool
  agree zero = true
  agree (suc m) = same (f m) (g m) && agree m

  agreed : (m : ℕ) → agree m ≡ true → (n : ℕ) → n < m → f n ≡ g n
  agreed zero h n l = absurd (omega arith)
  agreed (suc m) h n l =
      let both = (and-eq-true_iff (same (f m) (g m)) (agree m)).0 h in
      go (eqb n m) refl (only (f m) (g m) both.0) (agreed m both.1 n)
    where
      go : (b : Bool) → eqb n m ≡ b → f m ≡ g m → (n < m → f n ≡ g n) → f n ≡ g n
      go true e own before = rw (eqb-true n m e) own
      go false e own before = let apart = eqb-false n m e in before (omega arith)

abbrev alike : Bool → Bool → Bool
alike true b = b
alike false b = not b

only-alike : (a b : Bool) → alike a b ≡ true → a ≡ b
only-alike true true e = refl
only-alike true false e = absurd (false≢true e)
only-alike false true e = absurd (false≢true e)
only-alike false false e = refl

-- a symbol that is no punctuator has no spelling
unspelled : (n : ℕ) → length punctuators ≤ n → spelling n ≡ []
unspelled n h = get_or-eq_default punctuators [] {n = n} h

-- ---- unary operators

abbrev pub prefix_by : ℕ → Bool
prefix_by n = (eqb n 10 || eqb n 11) || eqb n 15

pub prefix-is : (x : Symbol) → is_prefix x ≡ prefix_by x.number
unfolding is_prefix
prefix-is x = go x.number (ltb x.number 22) refl
  where
    go : (n : ℕ) (b : Bool) → ltb n 22 ≡ b → is_among prefixes (spelling n) ≡ prefix_by n
    go n true h = agreed alike only-alike (λ (n : ℕ). is_among prefixes (spelling n)) prefix_by 22 refl n (ltb-true n 22 h)
    go n false h =
        let l = ltb-false n 22 h in
        rw (unspelled n l, ne_eqb n 10 (λ e. omega arith), ne_eqb n 11 (λ e. omega arith), ne_eqb n 15 (λ e. omega arith))

-- ---- binary operators

abbrev pub level_by : ℕ → ℕ
level_by n =
    cond (leb 12 n && leb n 14) 1
    (cond (leb 10 n && leb n 11) 2
    (cond (leb 6 n && leb n 9) 3
    (cond (leb 4 n && leb n 5) 4
    (cond (eqb n 3) 5
    (cond (eqb n 2) 6 0)))))

-- only binary operators have a level
none-by : (n : ℕ) → 14 < n → level_by n ≡ 0
none-by n h = simp (
  le-leb 12 n (omega arith),
  lt-leb n 14 (omega arith),
  le-leb 10 n (omega arith),
  lt-leb n 11 (omega arith),
  le-leb 6 n (omega arith),
  lt-leb n 9 (omega arith),
  le-leb 4 n (omega arith),
  lt-leb n 5 (omega arith),
  ne_eqb n 3 (omega arith),
  ne_eqb n 2 (omega arith),
)

pub precedence-is : (n : ℕ) → precedence_of n ≡ level_by n
unfolding precedence_of
precedence-is n = go (ltb n 22) refl
  where
    go : (b : Bool) → ltb n 22 ≡ b → precedence_of n ≡ level_by n
    go true h = agreed eqb eqb-true precedence_of level_by 22 refl n (ltb-true n 22 h)
    go false h = let l = ltb-false n 22 h in rw (unspelled n l, none-by n (omega arith))

pub operator-none : (n : ℕ) → 14 < n → precedence_of n ≡ 0
operator-none n h = rw (precedence-is n) (none-by n h)

-- what the code's ranges of numbers are, with the tests that they are made of
pub ruleset by_ranges = (prefix-is, precedence-is, nat_tests)
