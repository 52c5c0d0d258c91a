-- The whole text: its tree, and the judgement on it.
use Rattle.std.specs.Prelude.{Option, Some, None, Ok, Err, Result}
use mathlib.Core.Path.{◌≡◌, refl, ap, sym, subst, ◌∙◌}
use mathlib.Core.Bool.{Bool, true, false}
use mathlib.Core.List.{List, ◌++◌}
use Prim.Native.Nat.{ℕ, ◌≤◌, ◌<◌}
use native.Mathlib.Omega.{arith}
use lib.Dec.{ltb}
use lib.ListN.{length, take, drop}
use borrow.Author.Tests.{ltb-true, ltb-false, lt-ltb, le-ltb, le-leb, lt-leb}
use Rattle.lexer.specs.Refusal.{refusal_at, Judged, fine}
use Rattle.lexer.specs.Refusal as judged
use Rattle.lexer.specs.Scan.{scan_of}
use Rattle.lexer.specs.declared.refusal.Refusal.{Refusal}
use Rattle.lexer.specs.declared.refusal.Reason.TheVariants as reason
use Rattle.tree.specs.Tree.{Tree, place}
use Rattle.tree.specs.Slots.{shape_of, store}
use Rattle.tree.specs.Node.{tree_at}
use Rattle.tree.specs.Fits.{pruned}
use Rattle.tree.proofs.Law.Places.{root-shape, length-lay}
use Rattle.tree.proofs.Back.{stored}
use Rattle.syntax.specs.Sizes.{most_bytes, most_height}
use Rattle.syntax.specs.Symbol.{symbol_at, end}
use Rattle.syntax.specs.Parser.{Parse, expression_from, in_text, steps_for, parse_of}
use Rattle.syntax.specs.Height.{height_of}
use Rattle.syntax.specs.Names.{unknown_in, leftmost_of}
use Rattle.syntax.specs.Judge.{by_names, by_height, by_grammar, judged_of, root_of, judgement_of, answer_of, kept, slots_after}
use Rattle.syntax.specs.Inner.{Answer, Good, Agrees, ExpressionBy, WholeBy, names_judged, tree_judged, Kept, JudgedBy}
use Rattle.syntax.specs.declared.symbol.Symbol.{Symbol}
use Rattle.syntax.specs.declared.parse.Parsed.{Parsed}
use Rattle.syntax.proofs.Law.Steps.{Gives, given, then-part, then-bad, ends-here, ends-later}
use Rattle.syntax.proofs.Law.Parts.{says-tree, says-bad}
use Rattle.syntax.proofs.Laid.{parsed-fits}
use Rattle.syntax.proofs.Law.Heights.{pruned-low, pruned-high}

-- ---- the tree of a text

module _ {text w v : List ℕ} {x : Symbol} {r : Answer} (i : x ≡ symbol_at text 0) (h : ExpressionBy text w v x r) where
  -- at the first symbol, with the steps that the definition has
  first : {a : Parse Symbol Tree} → expression_from text (in_text text) (steps_for text) x ≡ a → Gives (expression_from text (in_text text) (steps_for text)) (symbol_at text 0) a
  first {a} e = subst (λ s. Gives (expression_from text (in_text text) (steps_for text)) s a) i (given e)

  pub whole-bad : {y : Symbol} → r ≡ Err y → WholeBy text w v (Err y)
  unfolding parse_of
  whole-bad e = record { says = (then-bad _ (first (says-bad h e (steps_for text) (omega arith)))).gives }

  module _ {t : Parsed} (e : r ≡ Ok t) where
    pub whole-more : (t.next.number ≡ end → ⊥) → WholeBy text w v (Err t.next)
    unfolding parse_of
    whole-more q =
        let d = says-tree h e (steps_for text) (omega arith) in
        record { says = (then-part _ (first d.is) (ends-later text d.tree t.next q)).gives }

    pub whole-goes : t.next.number ≡ end → WholeBy text w v (Ok t)
    unfolding parse_of
    whole-goes q =
        let d = says-tree h e (steps_for text) (omega arith) in
        record {
          says = record {
            tree = d.tree;
            is = (then-part _ (first d.is) (ends-here text d.tree t.next q)).gives;
            rooted = d.rooted;
            wrote = d.wrote;
          };
        }

-- ---- the judgement on a tree

module _ (text : List ℕ) (e : Tree) where
  names-judged : (l : Option ℕ) → names_judged l (place e) ≡ root_of (by_names l e)
  names-judged (Some p) = refl
  names-judged None = refl

  -- it is the same on the tree as deep as is allowed
  height-judged : (b : Bool) → ltb most_height (height_of e) ≡ b → tree_judged text (place e) (pruned e most_height) ≡ root_of (by_height b text e)
  height-judged true h = rw (lt-leb (height_of (pruned e most_height)) most_height (pruned-high e most_height (ltb-true most_height (height_of e) h))) refl
  height-judged false h =
      let low = ltb-false most_height (height_of e) h in
      rw (pruned-low e most_height low, le-leb (height_of e) most_height low) (names-judged (leftmost_of (unknown_in text e)))

  module _ (w : List ℕ) where
    names-kept : (l : Option ℕ) → Kept (by_names l e) w (store w e)
    names-kept (Some p) = length-lay w (shape_of e)
    names-kept None = refl

    height-kept : (b : Bool) → Kept (by_height b text e) w (store w e)
    height-kept true = length-lay w (shape_of e)
    height-kept false = names-kept (leftmost_of (unknown_in text e))

judged-alike : (text : List ℕ) {u v : List ℕ} {at p : ℕ} {t : Tree} → v ≡ u → at ≡ p → tree_at most_height u p ≡ t → tree_judged text at (tree_at most_height v at) ≡ tree_judged text p t
judged-alike text a b c = rw (a, b, c) refl

module _ {text w v : List ℕ} {r : Answer} (most : length text ≤ most_bytes) (room : length w ≡ length text) (h : WholeBy text w v r) where
  pub grammar-goes : {p : Parsed} {j : Result ℕ Refusal} → r ≡ Ok p → answer_of j ≡ tree_judged text p.root (tree_at most_height v p.root) → JudgedBy (by_grammar (parse_of text) text) w v j
  grammar-goes {p} {j} e answer =
      let d : Good shape_of w v p (parse_of text) = subst (λ r. Agrees shape_of w v r (parse_of text)) e h.says in
      let t = d.tree in
      let root : p.root ≡ place t = d.rooted ∙ root-shape t in
      let fits = parsed-fits text t p.next d.is in
      let back = stored w 0 (length text) t most_height fits.0 fits.1 most (omega arith) in
      subst (λ a. JudgedBy (by_grammar a text) w v j) (sym d.is) (record {
        answers = answer ∙ judged-alike text d.wrote root back ∙ height-judged text t (ltb most_height (height_of t)) refl;
        keeps = subst (λ v. Kept (by_height (ltb most_height (height_of t)) text t) w v) (sym d.wrote) (height-kept text t w (ltb most_height (height_of t)));
      })

-- ---- the judgement on a text

module _ (text : List ℕ) {w : List ℕ} where
  pub size-over : most_bytes < length text → JudgedBy (judged_of text) w w (Err (refusal_at reason.Size most_bytes))
  unfolding judged_of
  size-over h = rw (lt-ltb most_bytes (length text) h) (record { answers = refl; keeps = refl })

  pub tokens-bad : {r : Refusal} → length text ≤ most_bytes → scan_of text ≡ judged.refused r → JudgedBy (judged_of text) w w (Err r)
  unfolding judged_of
  tokens-bad h e = rw (le-ltb most_bytes (length text) h, e) (record { answers = refl; keeps = refl })

  pub tokens-fine : {v : List ℕ} {r : Result ℕ Refusal} → length text ≤ most_bytes → scan_of text ≡ fine tt → JudgedBy (by_grammar (parse_of text) text) w v r → JudgedBy (judged_of text) w v r
  unfolding judged_of
  tokens-fine h e j = rw (le-ltb most_bytes (length text) h, e) j

-- ---- what the slots hold in the end

module _ (text w : List ℕ) where
  pub room-short : length w < length text → (judged.refused (refusal_at reason.Room 0) ≡ judgement_of (length w) text) × (w ≡ slots_after w text)
  room-short h = rw (lt-ltb (length w) (length text) h) (refl, refl)

  pub room-enough : {a : Judged ℕ} {v : List ℕ} → length text ≤ length w → a ≡ root_of (judged_of text) → v ≡ kept (judged_of text) (take (length text) w) →
      (a ≡ judgement_of (length w) text) × (v ++ drop (length text) w ≡ slots_after w text)
  room-enough h i k = rw (le-ltb (length w) (length text) h) (i, ap (λ v. v ++ drop (length text) w) k)
