-- What a parser answers depends on the symbols up to the one at which it stops, and on no more; and not on how many steps are left.
use mathlib.Core.Bool.{Bool, true, false}
use mathlib.Core.List.{List, [], ◌∷◌, ◌++◌}
use Prim.Native.Nat.{ℕ, ◌≤◌}
use native.Mathlib.Omega.{arith}
use lib.ListN.{length}
use Rattle.tree.specs.Tree.{Tree}
use Rattle.syntax.specs.Parser.{Parse, part, refused, spent, on_part, and_then, tested, ask, at_end, whole_from}
use Rattle.syntax.specs.declared.symbol.Symbol.{Symbol}
use Rattle.syntax.proofs.Grammar.Lists.{Parser, uncons}
use Rattle.syntax.proofs.Grammar.Kept.{Le, Kept, whole-kept}

-- the parser has looked into u: no more than u is left
abbrev pub Gone : {A : Type 0} → List Symbol → Parse (List Symbol) A → Type 0
Gone u (part a r) = length r ≤ length u
Gone u (refused r) = length r ≤ length u
Gone u spent = Unit {0}

-- the same answer over lists that end in u and in v, or one that looked into the end
pub data Out {A : Type 0} (u v : List Symbol) : Parse (List Symbol) A → Parse (List Symbol) A → Type 0 where
  parts : (a : A) (x : Symbol) (q : List Symbol) → Out u v (part a (x ∷ (q ++ u))) (part a (x ∷ (q ++ v)))
  refusals : (x : Symbol) (q : List Symbol) → Out u v (refused (x ∷ (q ++ u))) (refused (x ∷ (q ++ v)))
  gone : (a b : Parse (List Symbol) A) → Gone u a → Out u v a b

pub record Same (u v : List Symbol) (A : Type 0) (m n : Parser A) : Type 0 where
  pub past : (s : List Symbol) → length s ≤ length u → Gone u (m s)
  pub same : (x : Symbol) (q : List Symbol) → Out u v (m (x ∷ (q ++ u))) (n (x ∷ (q ++ v)))

module _ {u v : List Symbol} where
  pub same_at : {A : Type 0} {m n : Parser A} → Same u v A m n → (q : List Symbol) → Out u v (m (q ++ u)) (n (q ++ v))
  same_at {A} {m} {n} h [] = gone (m u) (n v) (h.past u (omega arith))
  same_at h (x ∷ q) = h.same x q

  same_end : {A : Type 0} (a : A) → Same u v A (at_end uncons a) (at_end uncons a)
  unfolding at_end
  same_end a = record { past = go; same = λ x q. refusals x q }
    where
      go : (s : List Symbol) → length s ≤ length u → Gone u (at_end uncons a s)
      go [] h = h
      go (x ∷ s) h = h

  module _ {A B : Type 0} {k l : A → Parser B} (on : (a : A) → Same u v B (k a) (l a)) where
    then-past : (r : Parse (List Symbol) A) → Gone u r → Gone u (on_part r k)
    then-past (part a s) h = (on a).past s h
    then-past (refused s) h = h
    then-past spent h = tt

    then-out : {r s : Parse (List Symbol) A} → Out u v r s → Out u v (on_part r k) (on_part s l)
    then-out (parts a x q) = (on a).same x q
    then-out (refusals x q) = refusals x q
    then-out (gone r s h) = gone (on_part r k) (on_part s l) (then-past r h)

    same_then : {m n : Parser A} → Same u v A m n → Same u v B (and_then m k) (and_then n l)
    unfolding and_then
    same_then {m} h = record { past = λ s i. then-past (m s) (h.past s i); same = λ x q. then-out (h.same x q) }

  module _ {A : Type 0} {y y' : Symbol → Parser A} {n n' : Parser A} where
    same-ask : (test : Symbol → Bool) → ((x : Symbol) → Same u v A (y x) (y' x)) → Same u v A n n' → Same u v A (ask uncons test y n) (ask uncons test y' n')
    unfolding ask
    same-ask test a b = record { past = go; same = λ x q. asked x q (test x) }
      where
        asked : (x : Symbol) (q : List Symbol) (w : Bool) → Out u v (tested w (λ _. y x (q ++ u)) (λ _. n (x ∷ (q ++ u)))) (tested w (λ _. y' x (q ++ v)) (λ _. n' (x ∷ (q ++ v))))
        asked x q true = same_at (a x) q
        asked x q false = b.same x q

        left : (x : Symbol) (s : List Symbol) (w : Bool) → length (x ∷ s) ≤ length u → Gone u (tested w (λ _. y x s) (λ _. n (x ∷ s)))
        left x s true h = (a x).past s (omega arith)
        left x s false h = b.past (x ∷ s) h

        go : (s : List Symbol) → length s ≤ length u → Gone u (ask uncons test y n s)
        go [] h = b.past [] h
        go (x ∷ s) h = left x s (test x) h

pub whole_same : {u v : List Symbol} (text : List ℕ) {f g : ℕ} → Le f g → Same u v Tree (whole_from text uncons f) (whole_from text uncons g)
whole_same {u} {v} text h = whole-kept text (same_kept u v) h
  where
    same_kept : (u v : List Symbol) → Kept uncons uncons (Same u v)
    same_kept u v = record {
      kept-part = λ {A} {a}. record { past = λ s h. h; same = λ x q. parts a x q };
      kept-refused = record { past = λ s h. h; same = λ x q. refusals x q };
      kept-nothing = λ {A} {n}. record { past = λ s h. tt; same = λ x q. gone spent (n (x ∷ (q ++ v))) tt };
      kept-end = λ a. same_end a;
      kept_then = λ a b. same_then b a;
      kept-ask = λ test a b. same-ask test a b;
    }
