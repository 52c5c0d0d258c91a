-- A part of an expression from its own parts: the tree, and what has been written.
use Rattle.std.specs.Prelude.{Ok, Err, Result}
use Rattle.std.specs.Result.{IsErrAnd}
use Rattle.std.proofs.lemmas.Result.{err_from_is_err_and}
use mathlib.Core.Path.{◌≡◌, refl, ap, sym, subst, ◌∙◌}
use mathlib.Core.List.{List}
use Prim.Native.Nat.{ℕ, zero, suc, ◌<◌, ◌≤◌}
use native.Mathlib.Omega.{arith}
use Rattle.lexer.specs.Refusal.{Judged}
use Rattle.lexer.specs.declared.refusal.Refusal.{Refusal}
use Rattle.tree.specs.Tree.{Tree}
use Rattle.tree.specs.Slots.{Shape, between, root, lay, put, join, shape_of}
use Rattle.syntax.specs.Parser.{Parse, part, refused, on_part}
use Rattle.syntax.specs.Inner.{Goes, Answer, WholeBy, JudgedBy, Good, Agrees, Ahead, ParsedBy, TailedBy}
use Rattle.syntax.specs.declared.symbol.Symbol.{Symbol}
use Rattle.syntax.specs.declared.parse.Parsed.{Parsed}

-- ---- what a callee's answer says, once it is taken apart

module _ {A : Type 0} {shape : A → Shape} {spec : ℕ → Parse Symbol A} {fuel : ℕ} {text w v : List ℕ} {lo : ℕ} {r : Answer} (h : ParsedBy shape spec fuel text w v lo r) where
  pub ahead-tree : {t : Parsed} → r ≡ Ok t → (lo ≤ t.root) × Goes text t
  ahead-tree e = subst (λ (r : Answer). Ahead text lo r) e h.ahead

  pub says-tree : {t : Parsed} → r ≡ Ok t → (f : ℕ) → fuel ≤ f → Good shape w v t (spec f)
  says-tree e f l = subst (λ (r : Answer). Agrees shape w v r (spec f)) e (h.says f l)

  pub says-bad : {y : Symbol} → r ≡ Err y → (f : ℕ) → fuel ≤ f → spec f ≡ refused y
  says-bad e f l = subst (λ (r : Answer). Agrees shape w v r (spec f)) e (h.says f l)

-- a `?` returns the refusal that it met
module _ {y : Symbol} {r : Answer} {text w v : List ℕ} (e : IsErrAnd r (λ z. z ≡ y)) where
  pub parsed-exit : {A : Type 0} {shape : A → Shape} {spec : ℕ → Parse Symbol A} {fuel lo : ℕ} → ParsedBy shape spec fuel text w v lo (Err y) → ParsedBy shape spec fuel text w v lo r
  parsed-exit h = let p = err_from_is_err_and r e in rw (p.1, p.2) h

  pub whole-exit : WholeBy text w v (Err y) → WholeBy text w v r
  whole-exit h = let p = err_from_is_err_and r e in rw (p.1, p.2) h

pub judged-exit : {j : Judged Tree} {w v : List ℕ} {e : Refusal} {r : Result ℕ Refusal} → IsErrAnd r (λ z. z ≡ e) → JudgedBy j w v (Err e) → JudgedBy j w v r
judged-exit {r = r} e h = let p = err_from_is_err_and r e in rw (p.1, p.2) h

-- what goes on from a part, once the part is known
module _ (k : ℕ → Tree → Symbol → Parse Symbol Tree) {fuel : ℕ} {text w v : List ℕ} {t : Parsed} {r : Answer} (h : TailedBy k fuel text w v t r) where
  pub goes_on : (f : ℕ) → fuel ≤ f → {u : List ℕ} {m : Parse Symbol Tree} → Good shape_of u w t m → Agrees shape_of u v r (on_part m (k f))
  goes_on f l {u} d = subst (λ m. Agrees shape_of u v r (on_part m (k f))) (sym d.is) (h.says f l u d.tree d.wrote d.rooted)

-- what holds at each step past the first holds where there are steps enough
pub stepped : {fuel : ℕ} (P : ℕ → Type 0) → 0 < fuel → ((g : ℕ) → fuel ≤ suc g → P (suc g)) → (f : ℕ) → fuel ≤ f → P f
stepped P some step zero l = absurd (omega arith)
stepped P some step (suc g) l = step g l

pub ahead-wider : (text : List ℕ) {lo : ℕ} (lo' : ℕ) (r : Answer) → lo' ≤ lo → Ahead text lo r → Ahead text lo' r
ahead-wider text lo' (Ok t) l a = (omega arith, a.1)
ahead-wider text lo' (Err y) l a = tt

-- Another level answers the same, a step later and from no further on.
module _ {A : Type 0} {shape : A → Shape} {spec : ℕ → Parse Symbol A} {fuel : ℕ} {text w v : List ℕ} {lo : ℕ} {r : Answer} where
  pub same : (spec' : ℕ → Parse Symbol A) (fuel' lo' : ℕ) → lo' ≤ lo → fuel < fuel' → ((g : ℕ) → spec' (suc g) ≡ spec g) →
      ParsedBy shape spec fuel text w v lo r → ParsedBy shape spec' fuel' text w v lo' r
  same spec' fuel' lo' l less step h = record {
    ahead = ahead-wider text lo' r l h.ahead;
    says = stepped (λ f. Agrees shape w v r (spec' f)) (omega arith) (λ g m. subst (λ a. Agrees shape w v r a) (sym (step g)) (h.says g (omega arith)));
  }

-- ---- a node and its parts

module _ {A C : Type 0} {shape_a : A → Shape} (shape : C → Shape) where
  -- a node with one part, before it or after it
  pub with_part : (node : A → C) (p tag : ℕ) → ((a : A) → root (shape (node a)) ≡ p) →
      ((w : List ℕ) (a : A) → lay w (shape (node a)) ≡ put (lay w (shape_a a)) p tag (root (shape_a a))) →
      {w v u : List ℕ} {t : Parsed} {next : Symbol} {m : Parse Symbol A} {a : Parse Symbol C} (d : Good shape_a w v t m) →
      u ≡ put v p tag t.root → a ≡ part (node d.tree) next → Good shape w u (record { root = p; next = next }) a
  with_part node p tag is-root is-laid {w} d wrote is =
      record { tree = node d.tree; is = is; rooted = sym (is-root d.tree); wrote = wrote ∙ rw (d.wrote, d.rooted) (sym (is-laid w d.tree)) }

  -- a node between two parts
  module _ {B : Type 0} {shape_b : B → Shape} where
    pub paired : (node : A → B → C) (p tag : ℕ) → ((a : A) (b : B) → shape (node a b) ≡ between p tag (shape_a a) (shape_b b)) →
        {w v u x : List ℕ} {t t' : Parsed} {m : Parse Symbol A} {n : Parse Symbol B} {a : Parse Symbol C}
        (d : Good shape_a w v t m) (e : Good shape_b v u t' n) →
        x ≡ join u p tag t.root t'.root → a ≡ part (node d.tree e.tree) t'.next → Good shape w x (record { root = p; next = t'.next }) a
    unfolding lay
    paired node p tag is-shape {w} {v} {u} {x} d e wrote is =
        let s = is-shape d.tree e.tree in
        record {
          tree = node d.tree e.tree;
          is = is;
          rooted = sym (ap root s);
          wrote = subst (λ z. x ≡ lay w z) (sym s) (rw (wrote, e.wrote, d.wrote, e.rooted, d.rooted) refl);
        }
