-- What the grammar derives the parser takes, with that tree.
use mathlib.Core.Path.{◌≡◌, refl, ap, sym, subst, ◌∙◌}
use mathlib.Core.Bool.{Bool, true, false, cond, ◌||◌, and-eq-true_iff}
use mathlib.Core.List.{List, [], ◌∷◌, ◌++◌, append_assoc}
use Prim.Native.Nat.{ℕ, zero, suc, ◌≤◌, ◌<◌, ◌+◌, ◌*◌}
use native.Mathlib.Omega.{arith}
use lib.Dec.{eqb, leb}
use lib.ListN.{length, length-append}
use borrow.Author.Tests.{eqb-true, ne_eqb, leb-true}
use Rattle.tree.specs.Tree.{Tree}
use Rattle.syntax.specs.Symbol.{question, colon, open_round, close_round, open_square, close_square, comma, dot, word, is, is_literal, is_index, is_word, is_prefix, precedence_of, levels, has_precedence}
use Rattle.syntax.specs.Symbol as symbol
use Rattle.syntax.specs.Grammar.{Nonterminal, expression, binary, unary, postfix, primary, arguments, TreeOf, ‹◌›, Derives}
use Rattle.syntax.specs.Grammar.{expression-binary, conditional, binary-unary, binary-lower, binary-operation, unary-postfix}
use Rattle.syntax.specs.Grammar.{unary-operation, postfix-primary, member, index, literal, variable, bare, call, brackets, last}
use Rattle.syntax.specs.Grammar.{next}
use Rattle.syntax.specs.Parser.{Parse, part, and_then, ask, expression_from, branches_from, level_from, tail_from, unary_from}
use Rattle.syntax.specs.Parser.{postfix_from, picks_from, primary_from, call_from, arguments_from}
use Rattle.syntax.specs.declared.symbol.Symbol.{Symbol}
use Rattle.syntax.proofs.Law.Operators.{prefix-is}
use Rattle.syntax.proofs.Law.Steps.{Gives, given, then-part}
use Rattle.syntax.proofs.Law.Levels.{prefix-operator}
use Rattle.syntax.proofs.Grammar.Lists.{Parser, uncons, made, by_number}

-- ---- tests

-- the first symbol does not pass
abbrev Misses : (Symbol → Bool) → List Symbol → Type 0
Misses test [] = Unit {0}
Misses test (x ∷ s) = test x ≡ false

module _ {A : Type 0} (test : Symbol → Bool) (y : Symbol → Parser A) (n : Parser A) {a : Parse (List Symbol) A} where
  yes : {x : Symbol} {s : List Symbol} → test x ≡ true → Gives (y x) s a → Gives (ask uncons test y n) (x ∷ s) a
  unfolding ask
  yes h i = record { gives = rw h i.gives }

  no : (s : List Symbol) → Misses test s → Gives n s a → Gives (ask uncons test y n) s a
  unfolding ask
  no [] h i = record { gives = i.gives }
  no (x ∷ s) h i = record { gives = rw h i.gives }

test_of : (n : ℕ) (x : Symbol) (test : Symbol → Bool) → is n x ≡ true → test (made x.number) ≡ test (made n)
test_of n x test h = by_number test (eqb-true x.number n h)

-- ---- what may follow

-- how far out a symbol reaches: 0 for a pick, its level for a binary operator, then `?`, `,` and all others. A part of a level goes on over what reaches no further than the level.
abbrev ranked : ℕ → ℕ → ℕ
ranked zero n = cond (eqb n dot || eqb n open_square) 0 (cond (eqb n question) 7 (cond (eqb n comma) 8 9))
ranked (suc k) n = suc k

abbrev rank : ℕ → ℕ
rank n = ranked (precedence_of n) n

abbrev pub reach : List Symbol → ℕ
reach [] = 9
reach (x ∷ s) = rank x.number

-- a test that only symbols of a reach up to k pass
outer : (test : Symbol → Bool) (k : ℕ) → ((x : Symbol) → test x ≡ true → rank x.number ≤ k) → (s : List Symbol) → k < reach s → Misses test s
outer test k le [] h = tt
outer test k le (x ∷ s) h = go (test x) refl
  where
    go : (w : Bool) → test x ≡ w → test x ≡ false
    go true e = absurd (omega (arith, le x e))
    go false e = e

rank_is : (n : ℕ) (x : Symbol) → is n x ≡ true → rank x.number ≡ rank n
rank_is n x h = ap rank (eqb-true x.number n h)

misses-mark : (n : ℕ) (s : List Symbol) → rank n < reach s → Misses (is n) s
misses-mark n s h = outer (is n) (rank n) (λ x e. omega (arith, rank_is n x e)) s h

rank-operator : (k : ℕ) (x : Symbol) → has_precedence (suc k) x ≡ true → rank x.number ≡ suc k
rank-operator k x h = ap (λ m. ranked m x.number) (eqb-true (precedence_of x.number) (suc k) h)

misses-operator : (k : ℕ) (s : List Symbol) → suc k < reach s → Misses (has_precedence (suc k)) s
misses-operator k s h = outer (has_precedence (suc k)) (suc k) (λ x e. omega (arith, rank-operator k x e)) s h

-- ---- what stands first

-- Where the parser goes on after a test that failed, it has to fail on what the nonterminal begins with: a unary operator before a pick, the bracket that closes before arguments.
-- The first symbol has a number from lo on, and is not the bracket that closes
data Starts (lo : ℕ) : List Symbol → Type 0 where
  starts : (x : Symbol) {s : List Symbol} → lo ≤ x.number → (x.number ≡ close_round → ⊥) → Starts lo (x ∷ s)

longer : {lo : ℕ} {xs : List Symbol} (ys : List Symbol) → Starts lo xs → Starts lo (xs ++ ys)
longer ys (starts x h i) = starts x h i

-- unary operators have numbers below 16
abbrev least : Nonterminal → ℕ
least expression = 0
least (binary k) = 0
least unary = 0
least postfix = 16
least primary = 16
least arguments = 0

any : {lo : ℕ} {xs : List Symbol} → Starts lo xs → Starts 0 xs
any (starts x h i) = starts x (omega arith) i

from-number : {lo : ℕ} (x : Symbol) {s : List Symbol} (n : ℕ) → is n x ≡ true → lo ≤ n → (n ≡ close_round → ⊥) → Starts lo (x ∷ s)
from-number x n h l i = let e = eqb-true x.number n h in starts x (omega arith) (λ j. i (sym e ∙ j))

no-operator : {lo : ℕ} {xs : List Symbol} (r : List Symbol) → 16 ≤ lo → Starts lo xs → Misses is_prefix (xs ++ r)
no-operator r l (starts x h i) = simp (prefix-is x, ne_eqb x.number 10 (λ e. omega arith), ne_eqb x.number 11 (λ e. omega arith), ne_eqb x.number 15 (λ e. omega arith))

not-closed : {lo : ℕ} {xs : List Symbol} (r : List Symbol) → Starts lo xs → Misses (is close_round) (xs ++ r)
not-closed r (starts x h i) = ne_eqb x.number close_round i

module _ (text : List ℕ) where
  first_of : {N : Nonterminal} {xs : List Symbol} {e : TreeOf N} → Derives text N xs e → Starts (least N) xs
  first_of (expression-binary d) = first_of d
  first_of (conditional {xs} {ys} {zs} x y h i d d₁ d₂) = longer zs (longer ‹ y › (longer ys (longer ‹ x › (first_of d))))
  first_of (binary-unary d) = first_of d
  first_of (binary-lower d) = first_of d
  first_of (binary-operation {ys = ys} x h d d₁) = longer ys (longer ‹ x › (first_of d))
  first_of (unary-postfix d) = any (first_of d)
  first_of (unary-operation x h d) = let l = prefix-operator x h in starts x (omega arith) (λ e. omega arith)
  first_of (postfix-primary d) = first_of d
  first_of (member x y h i d) = longer ‹ y › (longer ‹ x › (first_of d))
  first_of (index x y z h i j d) = longer ‹ z › (longer ‹ y › (longer ‹ x › (first_of d)))
  first_of (literal x h) = let l = leb-true 22 x.number ((and-eq-true_iff (leb 22 x.number) (leb x.number 33)).0 h).0 in starts x (omega arith) (λ e. omega arith)
  first_of (variable x h) = from-number x symbol.variable h (omega arith) (λ e. omega arith)
  first_of (bare x y z h i j) = from-number x word h (omega arith) (λ e. omega arith)
  first_of (call x y z h i j d) = from-number x word h (omega arith) (λ e. omega arith)
  first_of (brackets x y h i d) = from-number x open_round h (omega arith) (λ e. omega arith)
  first_of (last d) = first_of d
  first_of (next {ys = ys} x h d d₁) = longer ys (longer ‹ x › (first_of d))

-- ---- steps

-- steps enough for the symbols s
pub record Enough (c : ℕ) (s : List Symbol) (f : ℕ) : Type 0 where
  pub steps : length s * 32 + c < f

past : (xs r : List Symbol) {c f : ℕ} → Enough c (xs ++ r) f → Enough c r f
past xs r l = omega (arith, length-append xs r)

-- m takes the symbols s down to r, and this is their part
pub record Takes {A : Type 0} (c : ℕ) (m : ℕ → Parser A) (a : A) (r s : List Symbol) : Type 0 where
  pub takes : (f : ℕ) → Enough c s f → Gives (m f) s (part a r)

-- m goes on from the part of the symbols s down to r as the tail t does
record Goes {A : Type 0} (b c : ℕ) (m : ℕ → Parser A) (t : ℕ → A → Parser A) (a : A) (r s : List Symbol) : Type 0 where
  goes : (z : Parse (List Symbol) A) → ((g : ℕ) → Enough b r g → Gives (t g a) r z) → (f : ℕ) → Enough c s f → Gives (m f) s z

module _ {A : Type 0} where
  stepped : {c : ℕ} {s : List Symbol} {z : Parse (List Symbol) A} (m : ℕ → Parser A) → ((g : ℕ) → Enough c s (suc g) → Gives (m (suc g)) s z) → (f : ℕ) → Enough c s f → Gives (m f) s z
  stepped m step zero l = absurd (omega arith)
  stepped m step (suc g) l = step g l

  taken_more : {c : ℕ} {m : ℕ → Parser A} {a : A} {r s : List Symbol} (d : ℕ) → c ≤ d → Takes c m a r s → Takes d m a r s
  taken_more d l h = record { takes = λ f n. h.takes f (omega arith) }

  taken_as : {c : ℕ} {m : ℕ → Parser A} {a : A} {r s s' : List Symbol} → s' ≡ s → Takes c m a r s → Takes c m a r s'
  taken_as {c} {m} {a} {r} e h = subst (λ s. Takes c m a r s) (sym e) h

  module _ {b c : ℕ} {m : ℕ → Parser A} {t : ℕ → A → Parser A} where
    goes-as : {a : A} {r s s' : List Symbol} → s' ≡ s → Goes b c m t a r s → Goes b c m t a r s'
    goes-as {a} {r} e h = subst (λ s. Goes b c m t a r s) (sym e) h

    -- a level ends where its tail does
    ends : {a : A} {r s : List Symbol} → Goes b c m t a r s → ((g : ℕ) → Gives (t (suc g) a) r (part a r)) → Takes c m a r s
    ends {a} {r} h k = record { takes = h.goes (part a r) (stepped (λ g. t g a) (λ g l. k g)) }

    module _ {d : ℕ} {o : ℕ → Parser A} where
      -- a level's first operand
      first : (xs : List Symbol) {a : A} {r : List Symbol} → d < c → b < c → ((f : ℕ) → m (suc f) ≡ and_then (o f) (t f)) → Takes d o a r (xs ++ r) → Goes b c m t a r (xs ++ r)
      first xs {a} {r} l l' is h = record {
        goes = λ z k. stepped m (λ f n. rw (is f) (then-part (t f) (h.takes f (omega arith)) (k f (past xs r (omega arith)))));
      }

-- ---- the levels

module _ (text : List ℕ) where
  -- what is derived the parser takes, with steps from some count on, before what reaches further out; where operators group to the left, the parser goes on from it as from a part
  abbrev Complete : (of : Nonterminal) → List Symbol → TreeOf of → Type 0
  Complete expression xs e = (r : List Symbol) → 7 < reach r → Takes 10 (expression_from text uncons) e r (xs ++ r)
  Complete (binary zero) xs e = (r : List Symbol) → 0 < reach r → Takes 3 (λ f. level_from text uncons f 0) e r (xs ++ r)
  Complete (binary (suc k)) xs e = (r : List Symbol) → k < reach r → Goes k (k + 4) (λ f. level_from text uncons f (suc k)) (λ f. tail_from text uncons f k) e r (xs ++ r)
  Complete unary xs e = (r : List Symbol) → 0 < reach r → Takes 2 (unary_from text uncons) e r (xs ++ r)
  Complete postfix xs e = (r : List Symbol) → Goes 0 1 (postfix_from text uncons) (picks_from text uncons) e r (xs ++ r)
  Complete primary xs e = (r : List Symbol) → Takes 0 (primary_from text uncons) e r (xs ++ r)
  Complete arguments xs args = (r : List Symbol) → 8 < reach r → Takes 11 (arguments_from text uncons) args r (xs ++ r)

  module _ (xs : List Symbol) (e : Tree) (r : List Symbol) where
    level-whole : (k : ℕ) → Complete (binary k) xs e → k < reach r → Takes (k + 3) (λ f. level_from text uncons f k) e r (xs ++ r)
    unfolding expression_from
    level-whole zero h n = h r n
    level-whole (suc k) h n = taken_more (suc k + 3) (omega arith) (ends (h r (omega arith)) (λ g. no (has_precedence (suc k)) _ _ r (misses-operator k r n) (given refl)))

    postfix-whole : Complete postfix xs e → 0 < reach r → Takes 1 (postfix_from text uncons) e r (xs ++ r)
    unfolding expression_from precedence_of
    postfix-whole h n = ends (h r) (λ g. no (is dot) _ _ r (misses-mark dot r n) (no (is open_square) _ _ r (misses-mark open_square r n) (given refl)))

  -- a pick goes on behind its tokens
  module _ (xs ys r : List Symbol) {a b : Tree} where
    picked : Complete postfix xs a → ((g : ℕ) (z : Parse (List Symbol) Tree) → Gives (picks_from text uncons g b) r z → Gives (picks_from text uncons (suc g) a) (ys ++ r) z) → 0 < length ys → Goes 0 1 (postfix_from text uncons) (picks_from text uncons) b r (xs ++ ys ++ r)
    picked h go n = goes-as (append_assoc xs ys r)
        (record { goes = λ z k. (h (ys ++ r)).goes z (stepped (λ g. picks_from text uncons g a) (λ g l. go g z (k g (omega (arith, length-append ys r))))) })

  -- a word begins a call
  word-called : (f : ℕ) {x : Symbol} {s : List Symbol} {z : Parse (List Symbol) Tree} → is word x ≡ true → Gives (call_from text uncons f x) s z → Gives (primary_from text uncons (suc f)) (x ∷ s) z
  unfolding expression_from
  word-called f {x} {s} h k =
      no is_literal _ _ (x ∷ s) (test_of word x is_literal h) (no (is symbol.variable) _ _ (x ∷ s) (test_of word x (is symbol.variable) h) (no (is open_round) _ _ (x ∷ s) (test_of word x (is open_round) h) (yes (is word) _ _ h k)))

  complete : {N : Nonterminal} {xs : List Symbol} {e : TreeOf N} → Derives text N xs e → Complete N xs e
  unfolding expression_from precedence_of
  complete (expression-binary {xs} {e} d) = λ r n. record {
    takes = stepped (expression_from text uncons) (λ f l. then-part _ ((level-whole xs e r levels (complete d) (omega arith)).takes f (omega arith)) (no (is question) _ _ r (misses-mark question r n) (given refl)));
  }
  complete (conditional {xs} {ys} {zs} {c} {a} {b} x y h i d d₁ d₂) = λ r n.
      let t : List Symbol = ys ++ (y ∷ (zs ++ r)) in
      let same : xs ++ ‹ x › ++ ys ++ ‹ y › ++ zs ++ r ≡ xs ++ (x ∷ t) = simp append_assoc in
      let q = rank_is question x h in
      let c = rank_is colon y i in
      taken_as same (record {
        takes = stepped (expression_from text uncons) (λ f l.
            let l₁ = past xs (x ∷ t) l in
            then-part _ ((level-whole xs _ (x ∷ t) levels (complete d) (omega arith)).takes f (omega arith))
            (yes (is question) _ _ h (then-part _ (stepped {c = 11} (branches_from text uncons) (λ g k.
            let k₁ = past ys (y ∷ (zs ++ r)) k in
            then-part _ ((complete d₁ (y ∷ (zs ++ r)) (omega arith)).takes g (omega arith)) (yes (is colon) _ _ i (then-part _ ((complete d₂ r n).takes g (omega arith)) (given refl)))) f (omega arith)) (given refl))));
      })
  complete (binary-unary d) = λ r n. record { takes = stepped (λ f. level_from text uncons f 0) (λ f l. (complete d r n).takes f (omega arith)) }
  complete (binary-lower {k} {xs} {e} d) = λ r n. first xs (omega arith) (omega arith) (λ f. refl) (level-whole xs e r k (complete d) n)
  complete (binary-operation {k} {xs} {ys} {a} {b} x h d d₁) = λ r n.
      let o = rank-operator k x h in
      goes-as (append_assoc (xs ++ ‹ x ›) ys r ∙ append_assoc xs ‹ x › (ys ++ r))
      (record {
        goes = λ z t. (complete d (x ∷ (ys ++ r)) (omega arith)).goes z (stepped (λ g. tail_from text uncons g k a) (λ g l.
            yes (has_precedence (suc k)) _ _ h (then-part _ ((level-whole ys b r k (complete d₁) n).takes g (omega arith)) (t g (past ys r (omega arith))))));
      })
  complete (unary-postfix {xs} {e} d) = λ r n. record {
    takes = stepped (unary_from text uncons) (λ f l. no is_prefix _ _ (xs ++ r) (no-operator r (omega arith) (first_of text d)) ((postfix-whole xs e r (complete d) n).takes f (omega arith)));
  }
  complete (unary-operation {xs} x h d) = λ r n. record { takes = stepped (unary_from text uncons) (λ f l. yes is_prefix _ _ h (then-part _ ((complete d r n).takes f (omega arith)) (given refl))) }
  complete (postfix-primary {xs} d) = λ r. first xs (omega arith) (omega arith) (λ f. refl) (complete d r)
  complete (member {xs} {e} x y h i d) = λ r. goes-as (ap (λ s. s ++ r) (append_assoc xs ‹ x › ‹ y ›))
      (picked xs (x ∷ y ∷ []) r (complete d) (λ g z k. yes (is dot) _ _ h (yes is_word _ _ i k)) (omega arith))
  complete (index {xs} {e} x y z h i j d) = λ r. goes-as (ap (λ s. s ++ r) (append_assoc (xs ++ ‹ x ›) ‹ y › ‹ z › ∙ append_assoc xs ‹ x › (y ∷ z ∷ [])))
      (picked xs (x ∷ y ∷ z ∷ []) r (complete d) (λ g u k. no (is dot) _ _ _ (test_of open_square x (is dot) h) (yes (is open_square) _ _ h (yes is_index _ _ i (yes (is close_square) _ _ j k)))) (omega arith))
  complete (literal x h) = λ r. record { takes = stepped (primary_from text uncons) (λ f l. yes is_literal _ _ h (given refl)) }
  complete (variable x h) = λ r. record { takes = stepped (primary_from text uncons) (λ f l. no is_literal _ _ _ (test_of symbol.variable x is_literal h) (yes (is symbol.variable) _ _ h (given refl))) }
  complete (bare x y z h i j) = λ r. record {
    takes = stepped (primary_from text uncons) (λ f l. word-called f h (stepped {c = 0} (λ g. call_from text uncons g x) (λ g k. yes (is open_round) _ _ i (yes (is close_round) _ _ j (given refl))) f (omega arith)));
  }
  complete (call {xs} {args} x y z h i j d) = λ r.
      let c = rank_is close_round z j in
      taken_as (ap (λ s. x ∷ y ∷ s) (append_assoc xs ‹ z › r))
      (record {
        takes = stepped (primary_from text uncons) (λ f l. word-called f h (stepped {c = 0} (λ g. call_from text uncons g x) (λ g k.
            yes (is open_round) _ _ i (no (is close_round) _ _ _ (not-closed (z ∷ r) (first_of text d))
            (then-part _ (then-part _ ((complete d (z ∷ r) (omega arith)).takes g (omega arith)) (yes (is close_round) _ _ j (given refl))) (given refl)))) f (omega arith)));
      })
  complete (brackets {xs} {e} x y h i d) = λ r.
      let c = rank_is close_round y i in
      taken_as (ap (λ s. x ∷ s) (append_assoc xs ‹ y › r))
      (record {
        takes = stepped (primary_from text uncons) (λ f l.
            no is_literal _ _ _ (test_of open_round x is_literal h) (no (is symbol.variable) _ _ _ (test_of open_round x (is symbol.variable) h)
            (yes (is open_round) _ _ h (then-part _ ((complete d (y ∷ r) (omega arith)).takes f (omega arith)) (yes (is close_round) _ _ i (given refl))))));
      })
  complete (last {xs} {e} d) = λ r n. record {
    takes = stepped (arguments_from text uncons) (λ f l. then-part _ ((complete d r (omega arith)).takes f (omega arith)) (no (is comma) _ _ r (misses-mark comma r n) (given refl)));
  }
  complete (next {xs} {ys} {e} {args} x h d d₁) = λ r n.
      let c = rank_is comma x h in
      taken_as (append_assoc (xs ++ ‹ x ›) ys r ∙ append_assoc xs ‹ x › (ys ++ r))
      (record {
        takes = stepped (arguments_from text uncons) (λ f l.
            let l₁ = past xs (x ∷ (ys ++ r)) l in
            then-part _ ((complete d (x ∷ (ys ++ r)) (omega arith)).takes f (omega arith)) (yes (is comma) _ _ h (then-part _ ((complete d₁ r n).takes f (omega arith)) (given refl))));
      })

  -- a right expression, before what cannot go on with it
  pub completed : {xs : List Symbol} {e : Tree} → Derives text expression xs e → (r : List Symbol) → 7 < reach r → Takes 10 (expression_from text uncons) e r (xs ++ r)
  completed d = complete d
