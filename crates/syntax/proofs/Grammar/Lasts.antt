-- The steps suffice: the parser never answers that none are left.
use mathlib.Core.Path.{◌≡◌, subst}
use mathlib.Core.Bool.{Bool, true, false}
use mathlib.Core.List.{List, [], ◌∷◌}
use Prim.Native.Nat.{ℕ, zero, suc, ◌≤◌, ◌<◌, ◌+◌, ◌*◌}
use native.Mathlib.Omega.{arith}
use lib.ListN.{length}
use Rattle.tree.specs.Tree.{Tree, pick, binary}
use Rattle.syntax.specs.Symbol.{question, colon, open_round, close_round, open_square, close_square, comma, dot, word, is, is_literal, is_index, index_of, is_word, is_prefix, levels, has_precedence, member_of}
use Rattle.syntax.specs.Symbol as symbol
use Rattle.syntax.specs.Parser.{Parse, part, refused, spent, on_part, and_then, tested, ask, at_end, closed, expression_from}
use Rattle.syntax.specs.Parser.{branches_from, level_from, tail_from, unary_from, postfix_from, picks_from, primary_from, call_from}
use Rattle.syntax.specs.Parser.{arguments_from, whole_from}
use Rattle.syntax.specs.declared.symbol.Symbol.{Symbol}
use Rattle.syntax.proofs.Grammar.Lists.{Parser, uncons}

-- an answer that took d of n symbols at least
abbrev Ample : {A : Type 0} → ℕ → ℕ → Parse (List Symbol) A → Type 0
Ample d n (part a r) = length r + d ≤ n
Ample d n (refused r) = Unit {0}
Ample d n spent = ⊥

-- m has steps for any n symbols, and takes d of them at least
record Lasts {A : Type 0} (d n : ℕ) (m : Parser A) : Type 0 where
  lasts : (s : List Symbol) → length s ≤ n → Ample d (length s) (m s)

-- ---- the pieces

fewer : {A : Type 0} (d k n : ℕ) (a : Parse (List Symbol) A) → k < n → d ≤ 1 → Ample 0 k a → Ample d n a
fewer d k n (part a r) l h f = omega arith
fewer d k n (refused r) l h f = tt
fewer d k n spent l h f = f

lasts-part : {A : Type 0} {n : ℕ} {a : A} → Lasts 0 n (part a)
lasts-part = record { lasts = λ s h. omega arith }

lasts-refused : {A : Type 0} {d n : ℕ} → Lasts {A = A} d n refused
lasts-refused = record { lasts = λ s h. tt }

lasts-end : {A : Type 0} {n : ℕ} (a : A) → Lasts 0 n (at_end uncons a)
unfolding at_end
lasts-end {A} {n} a = record { lasts = go }
  where
    go : (s : List Symbol) → length s ≤ n → Ample 0 (length s) (at_end uncons a s)
    go [] h = omega arith
    go (x ∷ s) h = tt

module _ {A B : Type 0} {d n : ℕ} where
  then-ample : (k : A → Parser B) → d ≤ 1 → ((i : ℕ) → i < n → (a : A) → Lasts 0 i (k a)) → (s : List Symbol) → length s ≤ n → (r : Parse (List Symbol) A) → Ample 1 (length s) r → Ample d (length s) (on_part r k)
  then-ample k le on s h (part a r) f = fewer d (length r) (length s) (k a r) (omega arith) le ((on (length r) (omega arith) a).lasts r (omega arith))
  then-ample k le on s h (refused r) f = tt
  then-ample k le on s h spent f = f

  lasts-then : {m : Parser A} {k : A → Parser B} → d ≤ 1 → Lasts 1 n m → ((i : ℕ) → i < n → (a : A) → Lasts 0 i (k a)) → Lasts d n (and_then m k)
  unfolding and_then
  lasts-then {m} {k} le h on = record { lasts = λ s l. then-ample k le on s l (m s) (h.lasts s l) }

module _ {A : Type 0} {d n : ℕ} {y : Symbol → Parser A} {z : Parser A} where
  lasts-ask : (test : Symbol → Bool) → d ≤ 1 → ((i : ℕ) → i < n → (x : Symbol) → Lasts 0 i (y x)) → Lasts d n z → Lasts d n (ask uncons test y z)
  unfolding ask
  lasts-ask test le a b = record { lasts = go }
    where
      asked : (x : Symbol) (s : List Symbol) → length (x ∷ s) ≤ n → (w : Bool) → Ample d (length (x ∷ s)) (tested w (λ _. y x s) (λ _. z (x ∷ s)))
      asked x s h true = fewer d (length s) (length (x ∷ s)) (y x s) (omega arith) le ((a (length s) (omega arith) x).lasts s (omega arith))
      asked x s h false = b.lasts (x ∷ s) h

      go : (s : List Symbol) → length s ≤ n → Ample d (length s) (ask uncons test y z s)
      go [] h = b.lasts [] h
      go (x ∷ s) h = asked x s h (test x)

closed-lasts : {A : Type 0} {d n : ℕ} (a : A) → d ≤ 1 → Lasts d n (closed uncons a)
closed-lasts a le = lasts-ask (is close_round) le (λ _ _ z. lasts-part) lasts-refused

-- ---- the levels

module _ (text : List ℕ) where
  mutual
    unfolding expression_from

    expression-lasts : (f n : ℕ) → n * 32 + 10 < f → Lasts 1 n (expression_from text uncons f)
    expression-lasts zero n l = absurd (omega arith)
    expression-lasts (suc f) n l =
        lasts-then (omega arith) (level-lasts f levels n (omega arith)) (λ i i< c. lasts-ask (is question) (omega arith) (λ j j< x. lasts-then (omega arith) (branches-lasts f j (omega arith)) (λ _ _ b. lasts-part)) lasts-part)

    branches-lasts : (f n : ℕ) → n * 32 + 11 < f → Lasts 1 n (branches_from text uncons f)
    branches-lasts zero n l = absurd (omega arith)
    branches-lasts (suc f) n l =
        lasts-then (omega arith) (expression-lasts f n (omega arith)) (λ i i< a. lasts-ask (is colon) (omega arith) (λ j j< y. lasts-then (omega arith) (expression-lasts f j (omega arith)) (λ _ _ b. lasts-part)) lasts-refused)

    level-lasts : (f k n : ℕ) → n * 32 + k + 3 < f → Lasts 1 n (level_from text uncons f k)
    level-lasts zero k n l = absurd (omega arith)
    level-lasts (suc f) zero n l = unary-lasts f n (omega arith)
    level-lasts (suc f) (suc k) n l = lasts-then (omega arith) (level-lasts f k n (omega arith)) (λ i i< e. tail-lasts f k i e (omega arith))

    tail-lasts : (f k n : ℕ) (e : Tree) → n * 32 + k < f → Lasts 0 n (tail_from text uncons f k e)
    tail-lasts zero k n e l = absurd (omega arith)
    tail-lasts (suc f) k n e l =
        lasts-ask (has_precedence (suc k)) (omega arith) (λ i i< x. lasts-then (omega arith) (level-lasts f k i (omega arith)) (λ j j< d. tail-lasts f k j (binary x.at x.number e d) (omega arith))) lasts-part

    unary-lasts : (f n : ℕ) → n * 32 + 2 < f → Lasts 1 n (unary_from text uncons f)
    unary-lasts zero n l = absurd (omega arith)
    unary-lasts (suc f) n l = lasts-ask is_prefix (omega arith) (λ i i< x. lasts-then (omega arith) (unary-lasts f i (omega arith)) (λ _ _ e. lasts-part)) (postfix-lasts f n (omega arith))

    postfix-lasts : (f n : ℕ) → n * 32 + 1 < f → Lasts 1 n (postfix_from text uncons f)
    postfix-lasts zero n l = absurd (omega arith)
    postfix-lasts (suc f) n l = lasts-then (omega arith) (primary-lasts f n (omega arith)) (λ i i< e. picks-lasts f i e (omega arith))

    picks-lasts : (f n : ℕ) (e : Tree) → n * 32 < f → Lasts 0 n (picks_from text uncons f e)
    picks-lasts zero n e l = absurd (omega arith)
    picks-lasts (suc f) n e l =
        lasts-ask (is dot) (omega arith) (λ i i< x. lasts-ask is_word (omega arith) (λ j j< y. picks-lasts f j (pick x.at (member_of text y) e) (omega arith)) lasts-refused)
        (lasts-ask (is open_square) (omega arith) (λ i i< x. lasts-ask is_index (omega arith) (λ j j< y. lasts-ask (is close_square) (omega arith) (λ k k< z. picks-lasts f k (pick x.at (index_of y) e) (omega arith)) lasts-refused) lasts-refused)
        lasts-part)

    primary-lasts : (f n : ℕ) → n * 32 < f → Lasts 1 n (primary_from text uncons f)
    primary-lasts zero n l = absurd (omega arith)
    primary-lasts (suc f) n l =
        lasts-ask is_literal (omega arith) (λ _ _ x. lasts-part)
        (lasts-ask (is symbol.variable) (omega arith) (λ _ _ x. lasts-part)
        (lasts-ask (is open_round) (omega arith) (λ i i< x. lasts-then (omega arith) (expression-lasts f i (omega arith)) (λ _ _ e. closed-lasts e (omega arith)))
        (lasts-ask (is word) (omega arith) (λ i i< x. call-lasts f i x (omega arith)) lasts-refused)))

    call-lasts : (f n : ℕ) (x : Symbol) → n * 32 < f → Lasts 0 n (call_from text uncons f x)
    call-lasts zero n x l = absurd (omega arith)
    call-lasts (suc f) n x l =
        lasts-ask (is open_round) (omega arith) (λ i i< y.
        lasts-ask (is close_round) (omega arith) (λ _ _ z. lasts-part)
        (lasts-then (omega arith) (lasts-then (omega arith) (arguments-lasts f i (omega arith)) (λ _ _ xs. closed-lasts xs (omega arith))) (λ _ _ xs. lasts-part))) lasts-refused

    arguments-lasts : (f n : ℕ) → n * 32 + 11 < f → Lasts 1 n (arguments_from text uncons f)
    arguments-lasts zero n l = absurd (omega arith)
    arguments-lasts (suc f) n l =
        lasts-then (omega arith) (expression-lasts f n (omega arith)) (λ i i< e. lasts-ask (is comma) (omega arith) (λ j j< x. lasts-then (omega arith) (arguments-lasts f j (omega arith)) (λ _ _ xs. lasts-part)) lasts-part)

  -- over any list of symbols
  pub list-lasts : (f : ℕ) (s : List Symbol) → length s * 32 + 32 ≤ f → whole_from text uncons f s ≡ spent → ⊥
  list-lasts f s l h =
      let w : Lasts 1 (length s) (whole_from text uncons f) = lasts-then (omega arith) (expression-lasts f (length s) (omega arith)) (λ _ _ e. lasts-end e) in
      subst (λ a. Ample 1 (length s) a) h (w.lasts s (omega arith))
