-- The parser over the symbols of tokens decides what the grammar says of these: their one tree, or the one place where they are refused.
use mathlib.Core.Path.{◌≡◌, refl, ap, sym, subst, ◌∙◌}
use mathlib.Core.List.{List, [], ◌∷◌, ◌++◌, append_assoc, append-nil, map-append}
use Prim.Native.Nat.{ℕ, ◌≤◌, ◌+◌, ◌*◌}
use native.Mathlib.Omega.{arith}
use lib.ListN.{length}
use Rattle.lexer.specs.Tokens.{Placed, placed}
use Rattle.tree.specs.Tree.{Tree}
use Rattle.syntax.specs.Symbol.{seen}
use Rattle.syntax.specs.Grammar.{expression, ‹◌›, Derives}
use Rattle.syntax.specs.Place.{symbols_of, Right, Begins, Never, Refused}
use Rattle.syntax.specs.Parser.{Parse, part, refused, spent, on_part, and_then, at_end, expression_from, whole_from}
use Rattle.syntax.specs.declared.symbol.Symbol.{Symbol}
use Rattle.syntax.proofs.Law.Steps.{given, then-part}
use Rattle.syntax.proofs.Grammar.Lists.{uncons}
use Rattle.syntax.proofs.Grammar.Sound.{Fair, Sound, sound-then, sound-end, expression-sound}
use Rattle.syntax.proofs.Grammar.Kept.{le_of}
use Rattle.syntax.proofs.Grammar.Same.{Gone, Out, parts, refusals, gone, same_at, whole_same}
use Rattle.syntax.proofs.Grammar.Complete.{completed}

abbrev pub steps_of : List Symbol → ℕ
steps_of xs = length xs * 32 + 32

-- a refusal before u, and a whole list that ends in v: not both
apart : {u v : List Symbol} {a b : Parse (List Symbol) Tree} {x : Symbol} {e : Tree} → Out u v a b → a ≡ refused (x ∷ u) → b ≡ part e [] → ⊥
apart (parts e x q) h k = let z : ◌≡◌ {A = ℕ} 0 1 = cc in omega arith
apart (refusals x q) h k = let z : ◌≡◌ {A = ℕ} 0 1 = cc in omega arith
apart {u} {x = x} (gone a b l) h k = let z : length (x ∷ u) ≤ length u = subst (λ r. Gone u r) h l in omega arith

module _ (text : List ℕ) where
  -- ---- what is right

  whole-fair : (f : ℕ) (xs : List Symbol) → Fair (Derives text expression) xs (whole_from text uncons f xs)
  whole-fair f xs = let w : Sound (Derives text expression) [] (whole_from text uncons f) = sound-then (expression-sound text f) (λ _ e d. sound-end e d) in w.fair xs

  whole-ends : (a : Parse (List Symbol) Tree) (e : Tree) (r : List Symbol) → on_part a (at_end uncons) ≡ part e r → r ≡ []
  unfolding at_end
  whole-ends (part x []) e r h = cc
  whole-ends (part x (y ∷ s)) e r h = cc
  whole-ends (refused s) e r h = cc
  whole-ends spent e r h = cc

  pub taken-right : (f : ℕ) (xs : List Symbol) (e : Tree) (r : List Symbol) → whole_from text uncons f xs ≡ part e r → Derives text expression xs e
  unfolding and_then
  taken-right f xs e r h =
      let w = subst (λ a. Fair (Derives text expression) xs a) (h ∙ ap (part e) (whole-ends (expression_from text uncons f xs) e r h)) (whole-fair f xs) in
      rw (w.1, append-nil) w.2

  right-taken : (f : ℕ) (xs : List Symbol) (e : Tree) → steps_of xs ≤ f → Derives text expression xs e → whole_from text uncons f xs ≡ part e []
  unfolding at_end
  right-taken f xs e l d = (then-part (at_end uncons) (rw append-nil at ((completed text d [] (omega arith)).takes f (rw append-nil (omega arith)))) (given refl)).gives

  -- An expression has one tree.
  pub one-tree : (xs : List Symbol) (a b : Tree) → Derives text expression xs a → Derives text expression xs b → a ≡ b
  one-tree xs a b d d' = let p = right-taken (steps_of xs) xs a (omega arith) d in let q = right-taken (steps_of xs) xs b (omega arith) d' in cc

  -- ---- the rest at a refusal is one

  module _ (q : List Placed) (t : Placed) (x : List Placed) where
    -- an expression begins with q, t and x, and none with q and t
    none-there : (r s : List Placed) → r ≡ t ∷ s → Never text (q ++ []) r → Begins text (q ++ (t ∷ x)) → ⊥
    none-there r s e d (us, (a, b)) =
        let d' : Never text q (t ∷ s) = subst (λ p. Never text p (t ∷ s)) (append-nil q) (subst (λ r. Never text (q ++ []) r) e d) in
        d' (x ++ us, (a, rw (append_assoc q (t ∷ []), ← append_assoc q (t ∷ x)) b))

  meet : (q p p' r r' : List Placed) → p ++ r ≡ p' ++ r' → Begins text (q ++ p) → Never text (q ++ p) r → Begins text (q ++ p') → Never text (q ++ p') r' → r ≡ r'
  meet q [] [] r r' e v d v' d' = e
  meet q [] (t ∷ x) r r' e v d v' d' = absurd (none-there q t x r (x ++ r') e d v')
  meet q (t ∷ x) [] r r' e v d v' d' = absurd (none-there q t x r' (x ++ r) (sym e) d' v)
  meet q (t ∷ x) (t' ∷ x') r r' e v d v' d' =
      let i : t ≡ t' = cc in
      let j : x ++ r ≡ x' ++ r' = cc in
      let a : q ++ (t ∷ []) ++ x ≡ q ++ (t ∷ x) = append_assoc q (t ∷ []) x in
      let b : q ++ (t ∷ []) ++ x' ≡ q ++ (t' ∷ x') = rw i (append_assoc q (t' ∷ []) x') in
      meet (q ++ (t ∷ [])) x x' r r' j (rw a v) (subst (λ p. Never text p r) (sym a) d) (rw b v') (subst (λ p. Never text p r') (sym b) d')

  pub one-rest : {ts r r' : List Placed} → Refused text ts r → Refused text ts r' → r ≡ r'
  one-rest {ts} {r} {r'} h k = meet [] h.taken k.taken r r' (let e = h.are in let e' = k.are in cc) h.begins h.never k.begins k.never

  -- what is right is not refused
  pub never_both : {ts r : List Placed} → Refused text ts r → Right text ts → ⊥
  never_both {ts} {r} h d = go r h.never (rw h.are at d)
    where
      go : (r : List Placed) → Never text h.taken r → Right text (h.taken ++ r) → ⊥
      go [] z d = z (rw append-nil at d)
      go (x ∷ s) z (e, d) = z (s, (e, rw append_assoc d))

  -- ---- and the parser finds it

  -- symbols of tokens, cut in two, are those of two lists of tokens
  record Split (ts : List Placed) (xs ys : List Symbol) : Type 0 where
    left : List Placed
    right : List Placed
    are : ts ≡ left ++ right
    lefts : symbols_of left ≡ xs
    rights : symbols_of right ≡ ys

  split : (ts : List Placed) (xs ys : List Symbol) → symbols_of ts ≡ xs ++ ys → Split ts xs ys
  split ts [] ys e = record { left = []; right = ts; are = refl; lefts = refl; rights = e }
  split [] (x ∷ xs) ys e = absurd (let z : ◌≡◌ {A = ℕ} 0 1 = cc in omega arith)
  split (placed t at until ∷ ts) (x ∷ xs) ys e =
      let i : seen t at until ≡ x = cc in
      let h = split ts xs ys (cc) in
      record { left = placed t at until ∷ h.left; right = h.right; are = ap (λ l. placed t at until ∷ l) h.are; lefts = let j = h.lefts in cc; rights = h.rights }

  not-begun : (f : ℕ) (p : List Symbol) (x : Symbol) (s ys : List Symbol) (e : Tree) → whole_from text uncons f (p ++ (x ∷ s)) ≡ refused (x ∷ s) → Derives text expression (p ++ ‹ x › ++ ys) e → ⊥
  not-begun f p x s ys e h d =
      let g : ℕ = steps_of (p ++ ‹ x › ++ ys) in
      apart (same_at (whole_same {u = s} {v = ys} text (le_of f (f + g) (omega arith))) (p ++ ‹ x ›))
      (subst (λ t. whole_from text uncons f t ≡ refused (x ∷ s)) (sym (append_assoc p ‹ x › s)) h)
      (right-taken (f + g) (p ++ ‹ x › ++ ys) e (omega arith) d)

  module _ (f : ℕ) (taken : List Placed) where
    never_here : (rest : List Placed) → steps_of (symbols_of (taken ++ rest)) ≤ f → whole_from text uncons f (symbols_of (taken ++ rest)) ≡ refused (symbols_of rest) → Never text taken rest
    never_here [] l h = λ (e, d). (let q = right-taken f (symbols_of (taken ++ [])) e l (rw append-nil d) in let z : ◌≡◌ {A = ℕ} 0 1 = cc in omega arith)
    never_here (placed t at until ∷ rest) l h = λ (us, (e, d)). not-begun f (symbols_of taken) _ (symbols_of rest) (symbols_of us) e (rw map-append at h) (rw (map-append, map-append) at d)

  pub refused-where : (f : ℕ) (ts : List Placed) (r : List Symbol) → steps_of (symbols_of ts) ≤ f → whole_from text uncons f (symbols_of ts) ≡ refused r → (rest : List Placed) × Refused text ts rest × (symbols_of rest ≡ r)
  refused-where f ts r l h =
      let w = subst (λ a. Fair (Derives text expression) (symbols_of ts) a) h (whole-fair f (symbols_of ts)) in
      let o = w.2 in
      let s = split ts w.0 r w.1 in (
        s.right,
        record {
          taken = s.left;
          are = s.are;
          begins = (o.more, (o.value, rw (map-append, s.lefts) o.right));
          never = never_here f s.left s.right (rw (← s.are) l) (rw (← s.are, s.rights) h);
        },
        s.rights,
      )
