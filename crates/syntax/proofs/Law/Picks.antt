-- The picks of a part, path by path.
use Rattle.std.specs.Prelude.{Option, None, Some, Ok, Err, Result}
use mathlib.Core.Path.{◌≡◌, refl, sym, subst}
use mathlib.Core.List.{List}
use Prim.Native.Nat.{ℕ, suc, ◌<◌}
use native.Mathlib.Omega.{arith}
use borrow.Author.Tests.{eqb-true}
use Rattle.lexer.proofs.Law.Runs.{by-test}
use Rattle.tree.specs.Tree.{Tree, pick}
use Rattle.tree.specs.Slots.{root, lay, put, shape_of, pick_tag}
use Rattle.syntax.specs.Symbol.{symbol_at, is, dot, open_square, close_square, is_word, is_index, index_of, member_of}
use Rattle.syntax.specs.Parser.{Parse, part, refused, expect, in_text, picks_from}
use Rattle.syntax.specs.Inner.{Sound, Goes, Answer, Good, Agrees, PicksBy, member_pick_of, index_pick_of, begun, picking_of}
use Rattle.syntax.specs.declared.symbol.Symbol.{Symbol}
use Rattle.syntax.specs.declared.parse.Parsed.{Parsed}
use Rattle.syntax.specs.declared.parse.Pick.{Pick}
use Rattle.syntax.proofs.Law.Symbols.{in-range, Picked, picking-sound}
use Rattle.syntax.proofs.Law.Steps.{Gives, asks-yes, asks-no, at_once}
use Rattle.syntax.proofs.Law.Parts.{goes_on, stepped, ahead-wider, with_part}

-- what comes of a pick
abbrev on_begun : Result Pick Symbol → (ℕ → Symbol → Parse Symbol Tree) → Parse Symbol Tree
on_begun (Ok p) more = more p.index p.next
on_begun (Err y) more = refused y

abbrev on_picking : Result (Option Pick) Symbol → (ℕ → Symbol → Parse Symbol Tree) → Parse Symbol Tree → Parse Symbol Tree
on_picking (Ok (Some p)) more none = more p.index p.next
on_picking (Ok None) more none = none
on_picking (Err y) more none = refused y

by-begun : (p : Result Pick Symbol) (more : ℕ → Symbol → Parse Symbol Tree) (none : Parse Symbol Tree) → on_begun p more ≡ on_picking (begun p) more none
by-begun (Ok p) more none = refl
by-begun (Err y) more none = refl

module _ (text : List ℕ) (g : ℕ) (e : Tree) (x : Symbol) where
  -- the picks after one of the component i
  abbrev more : ℕ → Symbol → Parse Symbol Tree
  more i = picks_from text (in_text text) g (pick x.at i e)

  member-step : Gives (expect (in_text text) is_word (λ y. more (member_of text y))) (symbol_at text x.end) (on_begun (member_pick_of text x) more)
  unfolding member_pick_of
  member-step =
      let y = symbol_at text x.end in
      by-test (λ (p : Result Pick Symbol). Gives (expect (in_text text) is_word (λ y. more (member_of text y))) y (on_begun p more)) (is_word y)
      (λ h. asks-yes _ _ _ _ h (λ q. absurd (omega (arith, in-range 28 34 y.number h))) at_once)
      (λ h. asks-no _ _ _ _ h at_once)

  index-step : Gives (expect (in_text text) is_index (λ y. expect (in_text text) (is close_square) (λ z. more (index_of y)))) (symbol_at text x.end) (on_begun (index_pick_of text x) more)
  unfolding index_pick_of
  index-step =
      let y = symbol_at text x.end in
      let z = symbol_at text y.end in
      by-test (λ (p : Result Pick Symbol). Gives (expect (in_text text) is_index (λ y. expect (in_text text) (is close_square) (λ z. more (index_of y)))) y (on_begun p more)) (is_index y)
      (λ h. asks-yes _ _ _ _ h (λ q. absurd (omega (arith, in-range 22 25 y.number h)))
      (by-test (λ (p : Result Pick Symbol). Gives (expect (in_text text) (is close_square) (λ z. more (index_of y))) z (on_begun p more)) (is close_square z)
      (λ i. asks-yes _ _ _ _ i (λ q. absurd (omega (arith, eqb-true z.number 19 i))) at_once)
      (λ i. asks-no _ _ _ _ i at_once)))
      (λ h. asks-no _ _ _ _ h at_once)

  picks-step : Gives (picks_from text (in_text text) (suc g) e) x (on_picking (picking_of text x) more (part e x))
  unfolding picks_from picking_of
  picks-step =
      by-test (λ (p : Result (Option Pick) Symbol). Gives (picks_from text (in_text text) (suc g) e) x (on_picking p more (part e x))) (is dot x)
      (λ h. asks-yes _ _ _ _ h (λ q. absurd (omega (arith, eqb-true x.number 21 h))) (subst (Gives _ _) (by-begun (member_pick_of text x) more (part e x)) member-step))
      (λ n. by-test (λ (p : Result (Option Pick) Symbol). Gives (picks_from text (in_text text) (suc g) e) x (on_picking p more (part e x))) (is open_square x)
      (λ h. asks-no _ _ _ _ n (asks-yes _ _ _ _ h (λ q. absurd (omega (arith, eqb-true x.number 18 h))) (subst (Gives _ _) (by-begun (index_pick_of text x) more (part e x)) index-step)))
      (λ h. asks-no _ _ _ _ n (asks-no _ _ _ _ h at_once)))

  pub by-pick : {p : Result (Option Pick) Symbol} → picking_of text x ≡ p → picks_from text (in_text text) (suc g) e x ≡ on_picking p more (part e x)
  by-pick i = subst (λ p. picks_from text (in_text text) (suc g) e x ≡ on_picking p more (part e x)) i picks-step.gives

-- what the call of `pick_at` gave, once it is taken apart
pub found : {r p : Result (Option Pick) Symbol} {o a : Option Pick} → r ≡ p → r ≡ Ok o → o ≡ a → p ≡ Ok a
found e f g = cc

pub pick-sound : {text : List ℕ} {x : Symbol} {p : Pick} → Sound text x → picking_of text x ≡ Ok (Some p) → (x.at < p.next.at) × Sound text p.next
pick-sound {text} {x} s p = subst (Picked text x) p (picking-sound text x s)

module _ {text w : List ℕ} (t : Parsed) (s : Goes text t) where
  pub picks-none : picking_of text t.next ≡ Ok None → PicksBy text w w t (Ok t)
  picks-none p = record {
    ahead = (omega arith, s);
    says = stepped (λ f. (u : List ℕ) (e : Tree) → w ≡ lay u (shape_of e) → t.root ≡ root (shape_of e) →
        Good shape_of u w t (picks_from text (in_text text) f e t.next)) (omega arith) (λ g l u e wrote rooted.
        record { tree = e; is = by-pick text g e t.next p; rooted = rooted; wrote = wrote });
  }

  pub picks-bad : {y : Symbol} → picking_of text t.next ≡ Err y → PicksBy text w w t (Err y)
  picks-bad {y} p = record {
    ahead = tt;
    says = stepped (λ f. (u : List ℕ) (e : Tree) → w ≡ lay u (shape_of e) → t.root ≡ root (shape_of e) →
        picks_from text (in_text text) f e t.next ≡ refused y) (omega arith) (λ g l u e wrote rooted. by-pick text g e t.next p);
  }

  pub picks-goes : {k : Pick} {u v : List ℕ} {r : Answer} → picking_of text t.next ≡ Ok (Some k) → u ≡ put w t.next.at (pick_tag k.index) t.root →
      PicksBy text u v (record { root = t.next.at; next = k.next }) r → PicksBy text w v t r
  unfolding lay
  picks-goes {k} {u} {v} {r} p wrote m =
      let x = t.next in
      let a = pick-sound s.sound p in
      record {
        ahead = ahead-wider text t.root r (omega (arith, s.before)) m.ahead;
        says = stepped (λ f. (u : List ℕ) (e : Tree) → w ≡ lay u (shape_of e) → t.root ≡ root (shape_of e) →
            Agrees shape_of u v r (picks_from text (in_text text) f e x)) (omega arith) (λ g l w₀ e wrote' rooted.
            let inner : Good shape_of w₀ w t (part e x) = record { tree = e; is = refl; rooted = rooted; wrote = wrote' } in
            let d = with_part shape_of (pick x.at k.index) x.at (pick_tag k.index) (λ a. refl) (λ w a. refl) inner wrote refl in
            subst (λ a. Agrees shape_of w₀ v r a) (sym (by-pick text g e x p)) (goes_on (picks_from text (in_text text)) m g (omega (arith, a.1.order, a.1.inside)) d));
      }
