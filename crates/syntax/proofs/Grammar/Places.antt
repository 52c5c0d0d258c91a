-- Places do not matter to the grammar: a right list stays right with other places, and in another text.
use mathlib.Core.Path.{◌≡◌, ap, sym, ◌∙◌}
use mathlib.Core.Bool.{Bool, true}
use mathlib.Core.List.{List, [], ◌∷◌, ◌++◌, map-append}
use Prim.Native.Nat.{ℕ, suc}
use native.Mathlib.Omega.{arith}
use Rattle.lexer.specs.Tokens.{Placed, placed}
use Rattle.syntax.specs.Symbol.{question, colon, open_round, close_round, open_square, close_square, comma, dot, word, number_of, is, is_literal, is_index, is_word, is_prefix, levels, has_precedence}
use Rattle.syntax.specs.Symbol as symbol
use Rattle.syntax.specs.Grammar.{Nonterminal, expression, binary, postfix, primary, arguments, TreeOf, ‹◌›, Derives}
use Rattle.syntax.specs.Grammar.{expression-binary, conditional, binary-unary, binary-lower, binary-operation, unary-postfix}
use Rattle.syntax.specs.Grammar.{unary-operation, postfix-primary, member, index, literal, variable, bare, call, brackets, last}
use Rattle.syntax.specs.Grammar.{next}
use Rattle.syntax.specs.Place.{symbols_of, numbers_of, Right, Begins}
use Rattle.syntax.specs.declared.symbol.Symbol.{Symbol}
use Rattle.syntax.proofs.Grammar.Lists.{made, by_number, Each, each_none, each_more, Cut, cut, cutting, Joined, joined, joining}

-- ---- lists with the same numbers

abbrev Same : Symbol → Symbol → Type 0
Same x y = x.number ≡ y.number

abbrev Like : List Symbol → List Symbol → Type 0
Like xs ys = Each Same xs ys

likes : (ts us : List Placed) → numbers_of ts ≡ numbers_of us → Like (symbols_of ts) (symbols_of us)
likes [] [] h = each_none
likes [] (placed t at until ∷ us) h = absurd (let z : ◌≡◌ {A = ℕ} 0 1 = cc in omega arith)
likes (placed t at until ∷ ts) [] h = absurd (let z : ◌≡◌ {A = ℕ} 0 1 = cc in omega arith)
likes (placed t at until ∷ ts) (placed t' at' until' ∷ us) h = each_more (let i : number_of t ≡ number_of t' = cc in i) (likes ts us (cc))

passes : {n m : ℕ} (test : Symbol → Bool) → n ≡ m → test (made n) ≡ true → test (made m) ≡ true
passes test e h = sym (by_number test e) ∙ h

-- ---- the levels

module _ (text text' : List ℕ) where
  -- something of it
  record Some (N : Nonterminal) (ys : List Symbol) : Type 0 where
    value : TreeOf N
    derives : Derives text' N ys value

  abbrev Moved : Nonterminal → List Symbol → Type 0
  Moved N xs = (ys : List Symbol) → Like xs ys → Some N ys

  some : {N : Nonterminal} {ys : List Symbol} {a : TreeOf N} → Derives text' N ys a → Some N ys
  some {a = a} d = record { value = a; derives = d }

  module _ {xs ys : List Symbol} (x : Symbol) where
    branches-moved : {us : List Symbol} (y : Symbol) → is question x ≡ true → is colon y ≡ true → Moved (binary levels) xs →
        Moved expression ys → Moved expression us → Moved expression (xs ++ ‹ x › ++ ys ++ ‹ y › ++ us)
    branches-moved {us} y h i c a b zs l = go (joining Same (xs ++ ‹ x › ++ ys) y us l)
      where
        inner : {vs ws : List Symbol} (y' : Symbol) → y.number ≡ y'.number → Like us ws → Joined Same xs x ys vs →
            Some expression (vs ++ ‹ y' › ++ ws)
        inner y' j l₂ (joined x' e l l₁) = some (conditional x' y' (passes (is question) e h) (passes (is colon) j i) (c _ l).derives (a _ l₁).derives (b _ l₂).derives)

        go : {zs : List Symbol} → Joined Same (xs ++ ‹ x › ++ ys) y us zs → Some expression zs
        go (joined y' j l l₂) = inner y' j l₂ (joining Same xs x ys l)

    operation-moved : (k : ℕ) → has_precedence (suc k) x ≡ true → Moved (binary (suc k)) xs → Moved (binary k) ys →
        Moved (binary (suc k)) (xs ++ ‹ x › ++ ys)
    operation-moved k h a b zs l = go (joining Same xs x ys l)
      where
        go : {zs : List Symbol} → Joined Same xs x ys zs → Some (binary (suc k)) zs
        go (joined y e l l₁) = some (binary-operation y (passes (has_precedence (suc k)) e h) (a _ l).derives (b _ l₁).derives)

    next-moved : is comma x ≡ true → Moved expression xs → Moved arguments ys → Moved arguments (xs ++ ‹ x › ++ ys)
    next-moved h a b zs l = go (joining Same xs x ys l)
      where
        go : {zs : List Symbol} → Joined Same xs x ys zs → Some arguments zs
        go (joined y e l l₁) = some (next y (passes (is comma) e h) (a _ l).derives (b _ l₁).derives)

  module _ {xs : List Symbol} (x y : Symbol) where
    member-moved : is dot x ≡ true → is_word y ≡ true → Moved postfix xs → Moved postfix (xs ++ ‹ x › ++ ‹ y ›)
    member-moved h i a zs l = go (joining Same xs x ‹ y › l)
      where
        go : {zs : List Symbol} → Joined Same xs x ‹ y › zs → Some postfix zs
        go (joined x' e l (each_more {y = y'} j each_none)) = some (member x' y' (passes (is dot) e h) (passes is_word j i) (a _ l).derives)

    index-moved : (z : Symbol) → is open_square x ≡ true → is_index y ≡ true → is close_square z ≡ true → Moved postfix xs →
        Moved postfix (xs ++ ‹ x › ++ ‹ y › ++ ‹ z ›)
    index-moved z h i j a zs l = go (joining Same (xs ++ ‹ x ›) y ‹ z › l)
      where
        inner : {us : List Symbol} (y' z' : Symbol) → y.number ≡ y'.number → z.number ≡ z'.number → Cut Same xs ‹ x › us →
            Some postfix (us ++ ‹ y' › ++ ‹ z' ›)
        inner y' z' e e' (cut l (each_more {y = x'} e'' each_none)) = some (index x' y' z' (passes (is open_square) e'' h) (passes is_index e i) (passes (is close_square) e' j) (a _ l).derives)

        go : {zs : List Symbol} → Joined Same (xs ++ ‹ x ›) y ‹ z › zs → Some postfix zs
        go (joined y' e l (each_more {y = z'} e' each_none)) = inner y' z' e e' (cutting Same xs ‹ x › l)

    call-moved : (z : Symbol) → is word x ≡ true → is open_round y ≡ true → is close_round z ≡ true → Moved arguments xs →
        Moved primary (‹ x › ++ ‹ y › ++ xs ++ ‹ z ›)
    call-moved z h i j a _ (each_more {y = x'} e (each_more {y = y'} e' l)) = go (cutting Same xs ‹ z › l)
      where
        go : {zs : List Symbol} → Cut Same xs ‹ z › zs → Some primary (x' ∷ y' ∷ zs)
        go (cut l (each_more {y = z'} e'' each_none)) = some (call x' y' z' (passes (is word) e h) (passes (is open_round) e' i) (passes (is close_round) e'' j) (a _ l).derives)

    brackets-moved : is open_round x ≡ true → is close_round y ≡ true → Moved expression xs → Moved primary (‹ x › ++ xs ++ ‹ y ›)
    brackets-moved h i a _ (each_more {y = x'} e l) = go (cutting Same xs ‹ y › l)
      where
        go : {zs : List Symbol} → Cut Same xs ‹ y › zs → Some primary (x' ∷ zs)
        go (cut l (each_more {y = y'} e' each_none)) = some (brackets x' y' (passes (is open_round) e h) (passes (is close_round) e' i) (a _ l).derives)

  moved : {N : Nonterminal} {xs : List Symbol} {a : TreeOf N} → Derives text N xs a → Moved N xs
  unfolding is_prefix
  moved (expression-binary d) zs l = some (expression-binary (moved d zs l).derives)
  moved (conditional x y h i d d₁ d₂) zs l = branches-moved x y h i (λ zs l. moved d zs l) (λ zs l. moved d₁ zs l) (λ zs l. moved d₂ zs l) zs l
  moved (binary-unary d) zs l = some (binary-unary (moved d zs l).derives)
  moved (binary-lower d) zs l = some (binary-lower (moved d zs l).derives)
  moved (binary-operation {k} x h d d₁) zs l = operation-moved x k h (λ zs l. moved d zs l) (λ zs l. moved d₁ zs l) zs l
  moved (unary-postfix d) zs l = some (unary-postfix (moved d zs l).derives)
  moved (unary-operation x h d) _ (each_more {y} e l) = some (unary-operation y (passes is_prefix e h) (moved d _ l).derives)
  moved (postfix-primary d) zs l = some (postfix-primary (moved d zs l).derives)
  moved (member x y h i d) zs l = member-moved x y h i (λ zs l. moved d zs l) zs l
  moved (index x y z h i j d) zs l = index-moved x y z h i j (λ zs l. moved d zs l) zs l
  moved (literal x h) _ (each_more {y} e each_none) = some (literal y (passes is_literal e h))
  moved (variable x h) _ (each_more {y} e each_none) = some (variable y (passes (is symbol.variable) e h))
  moved (bare x y z h i j) _ (each_more {y = x'} e (each_more {y = y'} e' (each_more {y = z'} e'' each_none))) = some (bare x' y' z' (passes (is word) e h) (passes (is open_round) e' i) (passes (is close_round) e'' j))
  moved (call x y z h i j d) zs l = call-moved x y z h i j (λ zs l. moved d zs l) zs l
  moved (brackets x y h i d) zs l = brackets-moved x y h i (λ zs l. moved d zs l) zs l
  moved (last d) zs l = some (last (moved d zs l).derives)
  moved (next x h d d₁) zs l = next-moved x h (λ zs l. moved d zs l) (λ zs l. moved d₁ zs l) zs l

  -- A right list of tokens stays right with other places, and in another text.
  pub places-free : (ts us : List Placed) → numbers_of ts ≡ numbers_of us → Right text ts → Right text' us
  places-free ts us h r = let s = moved r.1 (symbols_of us) (likes ts us h) in (s.value, s.derives)

  -- So does what begins one.
  pub begins-free : (ts us : List Placed) → numbers_of ts ≡ numbers_of us → Begins text ts → Begins text' us
  begins-free ts us h (cs, r) = (cs, places-free (ts ++ cs) (us ++ cs) (map-append _ ts cs ∙ ap (λ ns. ns ++ numbers_of cs) h ∙ sym (map-append _ us cs)) r)
