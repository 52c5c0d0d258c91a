-- What a refusal 4 or 7 of a head says: the expression that is refused, and why.
use mathlib.Core.Path.{◌≡◌}
use mathlib.Core.List.{List}
use mathlib.Core.Logic.{◌↔◌}
use Prim.Native.Nat.{ℕ, ◌≤◌}
use native.Mathlib.Omega.{arith}
use lib.ListN.{length, take}
use Rattle.lexer.specs.Refusal.{fine, refusal_at}
use Rattle.lexer.specs.declared.refusal.Reason.TheVariants as reason
use Rattle.tree.specs.Tree.{Tree}
use Rattle.syntax.specs.Judge.{judged_of}
use Rattle.syntax.proofs.Grammar.Judged.{judged-four}
use Rattle.checker.specs.declared.name.Scope.{Scope}
use Rattle.checker.specs.declared.check.Wanted.{Wanted}
use Rattle.text.specs.Parts.{lines}
use Rattle.style.specs.Answer.{refusal}
use Rattle.style.specs.Style.{Style, empty, kinds_in}
use Rattle.style.specs.Item.{Item}
use Rattle.style.specs.Head.{head_size, room_size, checked_of}
use Rattle.style.specs.Items.{Stand, Reached, RefusedAs, LineOrigin}
use Rattle.style.proofs.Lines.{gives-stand, reached-schema}
use Rattle.painter.specs.Demand.{by-expression, FourPlaced, SevenPlaced, SomeLineFails, Passes, IsPlain, RefusedExactly}
use Rattle.painter.proofs.Order.{check-refused, of-expression, conforms-reads}
use Rattle.painter.proofs.Judged.{four-judged, seven-judged}
use Rattle.painter.proofs.Complete.{refused-exactly}

pub four-placed : FourPlaced
four-placed slots head n p e =
    let (_, _, o) = of-expression slots head n (refusal_at reason.Grammar p) (λ h. omega arith) (λ h. omega arith) (λ h. omega arith) e in
    let x = o.origin in
    let (ts, scanned, at) = (judged-four x.text p).0 (four-judged (kinds_in x.scope x.style) x.want x.text p x.is.refused) in
    (o, ts, scanned, at)

seven-of : (slots : ℕ) (head : List ℕ) (n p : ℕ) → checked_of slots head ≡ refusal n (refusal_at reason.Kinds p) →
    (room_size ≤ slots) × (length head ≤ head_size) × LineOrigin head n (refusal_at reason.Kinds p)
seven-of slots head n p e = of-expression slots head n (refusal_at reason.Kinds p) (λ h. omega arith) (λ h. omega arith) (λ h. omega arith) e

pub seven-placed : SevenPlaced
seven-placed slots head n p e =
    let (_, _, o) = seven-of slots head n p e in
    let x = o.origin in
    let (tree, is, kinds) = seven-judged (kinds_in x.scope x.style) x.want x.text p x.is.refused in
    (o, tree, is, kinds)

-- ---- an expression without conditional, `&&` or `||` that names no define

-- In items, whoever has read them: one that is reached and has a tree is refused with 7 exactly if some line that reads as values of the
-- style's properties makes it fail by itself.
pub seven-in-items : (items : List Item) → Stand empty items → (n : ℕ) (s : Style) (c : Scope) (want : Wanted) (text : List ℕ) →
    Reached items n s c want text → (tree : Tree) → judged_of text ≡ fine tree → IsPlain c s text tree →
    ((p : ℕ) × RefusedAs items n (refusal_at reason.Kinds p) s c want text) ↔ SomeLineFails s want text tree
seven-in-items items stand n s c want text reached tree judged such =
    refused-exactly items stand n s c want text reached tree judged such.0 such.1

-- and in a head
pub refused-for-kinds : RefusedExactly
refused-for-kinds slots head n s c want text such = (
  (λ r.
      let (p, e, at) = r in
      let (enough, small, _) = seven-of slots head n p e in
      let (tree, is, kinds) = seven-judged (kinds_in c s) want text p at.is.refused in
      let x : Passes slots head n s c want text = record { room = enough; size = small; items = at.items; gives = at.gives; reached = at.is.reached; tree = tree; is = is } in
      let w = (exactly x).0 (p, at.is) in
      let read = reached-schema head n at.items s c want text at.gives at.is.reached in
      (x, record { line = w; conforms = (conforms-reads head small s read w.number w.feature).1 (w.values, w.reads) })),
  (λ w.
      let (x, made) = w in
      let (p, at) = (exactly x).1 made.line in
      let o : LineOrigin head n (refusal_at reason.Kinds p) = record { items = x.items; gives = x.gives; origin = record { style = s; scope = c; want = want; text = text; is = at } } in
      (p, (check-refused slots head n (refusal_at reason.Kinds p)).1 (by-expression x.room x.size o), record { items = x.items; gives = x.gives; is = at })),
)
  where
    exactly : (x : Passes slots head n s c want text) →
        ((p : ℕ) × RefusedAs x.items n (refusal_at reason.Kinds p) s c want text) ↔ SomeLineFails s want text x.tree
    exactly x =
        seven-in-items x.items (gives-stand (take n (lines head)) x.items empty x.gives) n s c want text x.reached x.tree x.is (such x)
