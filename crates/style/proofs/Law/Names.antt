-- The arrays say of names what the style says: the kinds that a name stands for, its number, and whether a name is new.
use mathlib.Core.Path.{◌≡◌, refl, sym, ◌∙◌, ap}
use mathlib.Core.Bool.{Bool, true, false, cond, not, ◌&&◌, ◌||◌, false≢true}
use mathlib.Core.List.{List, [], ◌∷◌, map}
use Prim.Native.Nat.{ℕ, zero, suc, ◌+◌, ◌<◌, ◌≤◌}
use native.Mathlib.Omega.{arith}
use borrow.Author.Tests.{ltb-true, lt-ltb, le-ltb, lt-leb}
use lib.Dec.{ltb, leb}
use lib.ListN.{length}
use Rattle.lexer.specs.Bytes.{same}
use Rattle.lexer.proofs.Law.Runs.{by-test}
use Rattle.lexer.proofs.Law.Spelling.{same-eq}
use Rattle.kind.specs.Set.{single_of}
use Rattle.kind.specs.declared.kind.Kind.TheVariants.{Undefined}
use Rattle.kind.specs.declared.set.Kinds.{Kinds}
use Rattle.checker.specs.Name.{row_at, first_row, property_row, row_in, number_of}
use Rattle.checker.specs.Property.{undeclared, property_kinds, set_at}
use Rattle.plan.specs.Layout as layout
use Rattle.checker.specs.declared.name.Scope.{Scope}
use Rattle.checker.specs.declared.name.Scope.TheVariants as scope
use Rattle.text.specs.Name.{is_name}
use Rattle.style.specs.Style.{Declared, Define, Style, is_among, name_of, define_name, property_in, defined_in, kinds_in, number_from, number_in}
use Rattle.style.specs.Holds.{Each, Few, Sets}
use Rattle.style.specs.Inner.{Reads}

pub through : {A B : Type 0} (f : A → B) (t : Bool) (a b : A) → f (cond t a b) ≡ cond t (f a) (f b)
through f true a b = refl
through f false a b = refl

and-if : (t : Bool) {a b : Bool} → (t ≡ true → a ≡ b) → t && a ≡ t && b
and-if true h = h refl
and-if false h = refl

-- ---- the first row that is as asked

first-here : (p : ℕ → Bool) (n i : ℕ) → p i ≡ true → first_row p (suc n) i ≡ i
unfolding first_row
first-here p n i e = rw (first_row, e)

first-later : (p : ℕ → Bool) (n i : ℕ) → p i ≡ false → first_row p (suc n) i ≡ first_row p n (suc i)
unfolding first_row
first-later p n i e = rw (first_row, e)

first-low : (p : ℕ → Bool) (n i : ℕ) → i ≤ first_row p n i
unfolding first_row
first-low p zero i = omega arith
first-low p (suc n) i = go (p i) refl (first-low p n (suc i))
  where
    go : (u : Bool) → p i ≡ u → suc i ≤ first_row p n (suc i) → i ≤ first_row p (suc n) i
    go true e h = rw (first-here p n i e) (omega arith)
    go false e h = rw (first-later p n i e) (omega arith)

-- A row is `row k`, from b on, for k < e. What the first row that is as asked gives is what the search r gives: r goes through a list by the same tests of the rows that it stands in, and a row from c on, behind them, gives what r
-- gives for an empty list, if it is as asked.
module _
    {A B : Type 0}
    (P : ℕ → A → Type 0)
    (row : ℕ → ℕ)
    (b e c : ℕ)
    (p : ℕ → Bool)
    (pick : ℕ → B)
    (r : List A → B)
    (at : (k : ℕ) → row k ≡ b + k)
    (step : (k : ℕ) (x : A) (xs : List A) → P k x → r (x ∷ xs) ≡ cond (p (row k)) (pick (row k)) (r xs))
    (free : (k : ℕ) → c ≤ k → k < e → p (row k) ≡ true → pick (row k) ≡ r [])
  where
    abbrev pub picked : ℕ → B
    picked j = cond (ltb j (b + e)) (pick j) (r [])

    by_first : (n i : ℕ) → i + suc n ≡ e → picked (first_row p (suc n) (row i)) ≡ cond (p (row i)) (pick (row i)) (picked (first_row p n (row (suc i))))
    by_first n i h = go (p (row i)) refl
      where
        go : (u : Bool) → p (row i) ≡ u → picked (first_row p (suc n) (row i)) ≡ cond u (pick (row i)) (picked (first_row p n (row (suc i))))
        go true q = ap picked (first-here p n (row i) q) ∙ ap (λ u. cond u (pick (row i)) (r [])) (lt-ltb (row i) (b + e) (omega (arith, at i)))
        go false q =
            let s : suc (row i) ≡ row (suc i) = omega (arith, at i, at (suc i)) in
            ap picked (first-later p n (row i) q ∙ ap (first_row p n) s)

    pub seek : (n i : ℕ) (xs : List A) → i + n ≡ e → c ≤ i + length xs → length xs ≤ n → Each P i xs → picked (first_row p n (row i)) ≡ r xs
    unfolding first_row
    seek zero i [] h k l ps = ap (λ u. cond u (pick (row i)) (r [])) (le-ltb (row i) (b + e) (omega (arith, at i)))
    seek zero i (x ∷ xs) h k l ps = absurd (omega arith)
    seek (suc n) i [] h k l ps =
        by_first n i h
        ∙ ap (λ y. cond (p (row i)) (pick (row i)) y) (seek n (suc i) [] (omega arith) (omega arith) (omega arith) tt)
        ∙ by-test (λ y. y ≡ r []) (p (row i)) (free i (omega arith) (omega arith)) (λ q. refl)
    seek (suc n) i (x ∷ xs) h k l ps =
        by_first n i h
        ∙ ap (λ y. cond (p (row i)) (pick (row i)) y) (seek n (suc i) xs (omega arith) (omega arith) (omega arith) ps.1)
        ∙ sym (step i x xs ps.0)

-- ---- rows of names

-- a name is not empty
name-some : (x : List ℕ) → is_name x ≡ true → same x [] ≡ false
unfolding is_name
name-some [] e = absurd (false≢true e)
name-some (y ∷ x) e = refl

pub same_none : (l : List ℕ) → 0 < length l → same [] l ≡ false
same_none [] h = absurd (omega arith)
same_none (y ∷ l) h = refl

same_some : (x : List ℕ) → 0 < length x → same x [] ≡ false
same_some [] h = absurd (omega arith)
same_some (y ∷ x) h = refl

-- whether a name stands in a row
abbrev pub is_in : List ℕ → List ℕ → List ℕ → ℕ → Bool
is_in head names x i = same x (row_at head names i)

-- a row has a name, which is not empty
abbrev pub NameAt : List ℕ → List ℕ → ℕ → List ℕ → Type 0
NameAt head names row name = (row_at head names row ≡ name) × (0 < length name)

-- where the names of a style lie; a row that is not used is empty
pub record Named (head names : List ℕ) (s : Style) : Type 0 where
  pub size : length names ≡ 96
  pub properties : Each (λ i (d : Declared). NameAt head names i d.name) 0 s.properties
  pub no-properties : (i : ℕ) → length s.properties ≤ i → i < 32 → row_at head names i ≡ []
  pub defines : Each (λ i (d : Define). NameAt head names (32 + i) d.name) 0 s.defines
  pub no-defines : (i : ℕ) → length s.defines ≤ i → i < 16 → row_at head names (32 + i) ≡ []

-- some stand in the first of n rows from b on, each by its name and kinds, and the other rows are free
record Rows {A : Type 0} (head names plan : List ℕ) (row : ℕ → ℕ) (b n : ℕ) (name : A → List ℕ) (kinds : A → Kinds) (xs : List A) : Type 0 where
  at : (k : ℕ) → row k ≡ b + k
  few : length xs ≤ n
  used : Each (λ i (a : A). NameAt head names (row i) (name a)) 0 xs
  sets : Each (λ i (a : A). set_at plan (row i) ≡ kinds a) 0 xs
  free : (i : ℕ) → length xs ≤ i → i < n → row_at head names (row i) ≡ []
  none : (i : ℕ) → length xs ≤ i → i < n → set_at plan (row i) ≡ single_of Undefined

each_both : {A : Type 0} (P Q : ℕ → A → Type 0) (i : ℕ) (xs : List A) → Each P i xs → Each Q i xs → Each (λ i x. P i x × Q i x) i xs
each_both P Q i [] p q = tt
each_both P Q i (x ∷ xs) p q = ((p.0, q.0), each_both P Q (suc i) xs p.1 q.1)

module _ {A : Type 0} {head names plan : List ℕ} {row : ℕ → ℕ} {b n : ℕ} {name : A → List ℕ} {kinds : A → Kinds} {xs : List A} (rows : Rows head names plan row b n name kinds xs) (x : List ℕ) where
  abbrev first : ℕ
  first = first_row (is_in head names x) n (row 0)

  -- The set of a name's row is what r gives. An empty name is in the first free row.
  rows_kinds : (r : List A → Kinds) → ((a : A) (l : List A) → r (a ∷ l) ≡ cond (same x (name a)) (kinds a) (r l)) → (x ≡ [] → single_of Undefined ≡ r []) →
      cond (ltb first (b + n)) (set_at plan first) (r []) ≡ r xs
  rows_kinds r step none =
      seek (λ i (a : A). NameAt head names (row i) (name a) × (set_at plan (row i) ≡ kinds a)) row b n (length xs) (is_in head names x) (set_at plan) r rows.at
      (λ k a l w. rw (w.0.0, w.1) (step a l))
      (λ k h i e. rows.none k h i ∙ none (same-eq x [] (rw (rows.free k h i) at e)))
      n 0 xs (omega arith) (omega arith) rows.few
      (each_both (λ i (a : A). NameAt head names (row i) (name a)) (λ i (a : A). set_at plan (row i) ≡ kinds a) 0 xs rows.used rows.sets)

  -- a name has one of the rows just if it is one of the names
  rows-among : is_name x ≡ true → cond (ltb first (b + n)) true false ≡ is_among (map name xs) x
  rows-among right =
      seek (λ i (a : A). NameAt head names (row i) (name a)) row b n (length xs) (is_in head names x) (λ k. true) (λ l. is_among (map name l) x) rows.at
      (λ k a l w. rw w.0)
      (λ k h i e. absurd (false≢true (sym (name-some x right) ∙ (rw (rows.free k h i) at e))))
      n 0 xs (omega arith) (omega arith) rows.few rows.used

  -- and the number of a name that is not empty is its row's
  module _ (some : 0 < length x) (other : ℕ) where
    free-apart : (i : ℕ) → length xs ≤ i → i < n → is_in head names x (row i) ≡ false
    free-apart i h k = ap (same x) (rows.free i h k) ∙ same_some x some

    number-from : (m i : ℕ) (ys : List A) → i + m ≡ n → length xs ≤ i + length ys → length ys ≤ m → Each (λ i (a : A). NameAt head names (row i) (name a)) i ys →
        cond (ltb (first_row (is_in head names x) m (row i)) (b + n)) (first_row (is_in head names x) m (row i)) other ≡ number_from (row i) (map name ys) other x
    unfolding first_row
    number-from zero i [] h l few ps = ap (λ u. cond u (row i) other) (le-ltb (row i) (b + n) (omega (arith, rows.at i)))
    number-from zero i (y ∷ ys) h l few ps = absurd (omega arith)
    number-from (suc m) i [] h l few ps =
        let e : suc (row i) ≡ row (suc i) = omega (arith, rows.at i, rows.at (suc i)) in
        ap (λ (j : ℕ). cond (ltb j (b + n)) j other) (first-later (is_in head names x) m (row i) (free-apart i (omega arith) (omega arith)) ∙ ap (first_row (is_in head names x) m) e)
        ∙ number-from m (suc i) [] (omega arith) (omega arith) (omega arith) tt
    number-from (suc m) i (y ∷ ys) h l few ps = go (same x (name y)) refl (number-from m (suc i) ys (omega arith) (omega arith) (omega arith) ps.1)
      where
        next : suc (row i) ≡ row (suc i)
        next = omega (arith, rows.at i, rows.at (suc i))

        go : (u : Bool) → same x (name y) ≡ u →
            (cond (ltb (first_row (is_in head names x) m (row (suc i))) (b + n)) (first_row (is_in head names x) m (row (suc i))) other
            ≡ number_from (row (suc i)) (map name ys) other x) →
            cond (ltb (first_row (is_in head names x) (suc m) (row i)) (b + n)) (first_row (is_in head names x) (suc m) (row i)) other
            ≡ cond u (row i) (number_from (suc (row i)) (map name ys) other x)
        go true q rest =
            ap (λ (j : ℕ). cond (ltb j (b + n)) j other) (first-here (is_in head names x) m (row i) (ap (same x) ps.0.0 ∙ q))
            ∙ ap (λ u. cond u (row i) other) (lt-ltb (row i) (b + n) (omega (arith, rows.at i)))
        go false q rest =
            ap (λ (j : ℕ). cond (ltb j (b + n)) j other) (first-later (is_in head names x) m (row i) (ap (same x) ps.0.0 ∙ q) ∙ ap (first_row (is_in head names x) m) next)
            ∙ rest
            ∙ ap (λ (j : ℕ). number_from j (map name ys) other x) (sym next)

    rows-number : cond (ltb first (b + n)) first other ≡ number_from (row 0) (map name xs) other x
    rows-number = number-from n 0 xs (omega arith) (omega arith) rows.few rows.used

-- ---- the numbers of names

-- a name has no number of a row if it has no property's row
property-new : (p : ℕ → Bool) → leb 48 (property_row p) ≡ not (cond (ltb (first_row p 32 0) 32) true false)
unfolding property_row
property-new p = go (ltb (first_row p 32 0) 32) refl
  where
    go : (u : Bool) → ltb (first_row p 32 0) 32 ≡ u → leb 48 (cond u (first_row p 32 0) 48) ≡ not (cond u true false)
    go true e = lt-leb 48 (first_row p 32 0) (omega (arith, ltb-true (first_row p 32 0) 32 e))
    go false e = refl

abbrev no_define : ℕ → Bool
no_define n = ltb n 32 || leb 48 n

property-no-define : (p : ℕ → Bool) → no_define (property_row p) ≡ true
unfolding property_row
property-no-define p = by-test (λ (n : ℕ). no_define n ≡ true) (ltb (first_row p 32 0) 32) (λ e. rw e) (λ e. refl)

-- a name's number is no define's if it has no define's row
define-new : (p : ℕ → Bool) → no_define (row_in scope.Style p) ≡ not (cond (ltb (first_row p 16 32) 48) true false)
unfolding row_in
define-new p = go (ltb (first_row p 16 32) 48) refl
  where
    go : (u : Bool) → ltb (first_row p 16 32) 48 ≡ u → no_define (cond u (first_row p 16 32) (property_row p)) ≡ not (cond u true false)
    go true e = rw (le-ltb (first_row p 16 32) 32 (first-low p 16 32), lt-leb 48 (first_row p 16 32) (ltb-true (first_row p 16 32) 48 e))
    go false e = property-no-define p

-- ---- the arrays

module _ (head names plan : List ℕ) (s : Style) (few : Few s) (named : Named head names s) (sets : Sets plan s) where
  properties : Rows head names plan (λ k. k) 0 32 name_of (λ d. property_kinds d.property) s.properties
  properties = record {
    at = λ k. omega arith;
    few = few.properties;
    used = named.properties;
    sets = sets.properties;
    free = named.no-properties;
    none = sets.no-properties;
  }

  defines : Rows head names plan (λ k. 32 + k) 32 16 define_name (λ d. d.expression.kinds) s.defines
  defines = record { at = λ k. refl; few = few.defines; used = named.defines; sets = sets.defines; free = named.no-defines; none = sets.no-defines }

  -- no property has an empty name
  none-empty : (ds : List Declared) (i : ℕ) → Each (λ i (d : Declared). NameAt head names i d.name) i ds → property_in ds [] ≡ undeclared
  none-empty [] i rs = refl
  none-empty (d ∷ ds) i rs = rw (same_none d.name rs.0.1) (none-empty ds (suc i) rs.1)

  empty-kinds : (x : List ℕ) → x ≡ [] → single_of Undefined ≡ property_kinds (property_in s.properties x)
  empty-kinds x e = sym (rw e (ap property_kinds (none-empty s.properties 0 named.properties)))

  property-kinds : (x : List ℕ) → set_at plan (property_row (is_in head names x)) ≡ property_kinds (property_in s.properties x)
  unfolding property_row set_at
  property-kinds x =
      let i = first_row (is_in head names x) 32 0 in
      through (set_at plan) (ltb i 32) i 48
      ∙ rows_kinds properties x (λ l. property_kinds (property_in l x)) (λ d l. through property_kinds (same x d.name) d.property (property_in l x)) (λ e. refl)

  kinds-read : (c : Scope) (x : List ℕ) → set_at plan (number_of c head names x) ≡ kinds_in c s x
  unfolding row_in
  kinds-read scope.Define x = property-kinds x
  kinds-read scope.Style x =
      let i = first_row (is_in head names x) 16 32 in
      through (set_at plan) (ltb i 48) i (property_row (is_in head names x))
      ∙ ap (λ k. cond (ltb i 48) (set_at plan i) k) (property-kinds x)
      ∙ rows_kinds defines x (λ l. defined_in l x (property_kinds (property_in s.properties x))) (λ d l. refl) (empty-kinds x)

  property-number : (x : List ℕ) → 0 < length x → property_row (is_in head names x) ≡ number_in scope.Define s x
  unfolding property_row
  property-number x some = rows-number properties x some layout.undeclared

  numbers-read : (c : Scope) (x : List ℕ) → 0 < length x → number_of c head names x ≡ number_in c s x
  unfolding row_in
  numbers-read scope.Define x some = property-number x some
  numbers-read scope.Style x some =
      let i = first_row (is_in head names x) 16 32 in
      ap (λ (k : ℕ). cond (ltb i 48) i k) (property-number x some) ∙ rows-number defines x some (number_in scope.Define s x)

  -- what the arrays of a head say of names is what its style says
  pub reads : Reads head names plan s
  unfolding row_in
  reads = record {
    kinds = kinds-read;
    numbers = numbers-read;
    new-property = λ x. and-if (is_name x) (λ e. property-new (is_in head names x) ∙ ap not (rows-among properties x e));
    new-define = λ x. and-if (is_name x) (λ e. define-new (is_in head names x) ∙ ap not (rows-among defines x e));
  }
