-- What is printed for a feature is its line.
use Rattle.std.specs.Prelude.{Result, Ok, Err}
use mathlib.Core.Path.{◌≡◌, refl, ◌∙◌, ap}
use mathlib.Core.List.{List, ◌++◌}
use Prim.Native.Nat.{ℕ, ◌≤◌}
use native.Mathlib.Omega.{arith}
use borrow.Author.Tests.{le-leb}
use lib.ListN.{length, drop}
use Rattle.value.specs.declared.value.Value.{Value}
use Rattle.plan.specs.Layout.{undeclared}
use Rattle.style.specs.Answer.{Answer, refusal, accepted, on_accepted}
use Rattle.style.specs.Style.{Style}
use Rattle.style.specs.Head.{style_of, checked_of}
use Rattle.style.proofs.Law.Ladder.{taken}
use Rattle.style.specs.declared.check.LineRefusal.{LineRefusal}
use Rattle.output.specs.Line.{front, longest_line}
use Rattle.output.proofs.Sizes.{painted-page, refused-feature-page}
use Rattle.painter.specs.declared.answer.Given.{Given}
use Rattle.painter.specs.Paint.{drawn_answer, given_answer, written_for, least_bytes, painted_of, feature_line, drawn_line, given_in}
use Rattle.painter.specs.Applied.{compiled, given_under}
use Rattle.painter.proofs.Order.{paint-style}
use Rattle.painter.proofs.Law.Calls.{compiled-given}
use Rattle.lexer.specs.Refusal.{reason_number}

-- what is printed of page 01's refusals
pub drawn-is : (number : ℕ) (drawn : Result Given LineRefusal) →
    drawn_line (λ r. reason_number r.refusal.reason) (λ r. r.refusal.place) number drawn ≡ feature_line number (drawn_answer drawn)
drawn-is number (Err r) = refl
drawn-is number (Ok given) = refl

pub line-fits : (number : ℕ) (a : Answer Given) → length (feature_line number a) ≤ longest_line
line-fits number (refusal line r) = refused-feature-page number (reason_number r.reason) r.place
line-fits number (accepted given) = painted-page number given.show given.colouring

-- where any line fits
pub printed-whole : (number : ℕ) (a : Answer Given) (out : List ℕ) → longest_line ≤ length out →
    front out (feature_line number a) ≡ (feature_line number a ++ drop (length (feature_line number a)) out, length (feature_line number a))
unfolding front
printed-whole number a out h = taken (out, 0) (le-leb (length (feature_line number a)) (length out) (omega (arith, h, line-fits number a))) refl

-- what `paint` gives is what the style gives
painted-given : (slots : ℕ) (head : List ℕ) (number : ℕ) (feature : List ℕ) →
    given_in (painted_of least_bytes slots head number feature) ≡ on_accepted (style_of slots head) (λ s. given_answer s number feature)
painted-given slots head number feature = ap given_in (paint-style least_bytes slots head number feature (omega arith)) ∙ by-style (style_of slots head)
  where
    by-given : (a : Answer Given) → given_in (on_accepted a (λ given. accepted (written_for number given))) ≡ a
    by-given (refusal line r) = refl
    by-given (accepted given) = refl

    by-style : (a : Answer Style) →
        given_in (on_accepted a (λ s. on_accepted (given_answer s number feature) (λ given. accepted (written_for number given))))
        ≡ on_accepted a (λ s. given_answer s number feature)
    by-style (refusal line r) = refl
    by-style (accepted s) = by-given (given_answer s number feature)

-- by a compiled head
pub printed-compiled : (head room plan : List ℕ) → checked_of (length room) head ≡ accepted tt → (number : ℕ) (feature : List ℕ) (values : List Value) →
    length values ≡ undeclared → (out : List ℕ) → longest_line ≤ length out →
    (let line = feature_line number (given_in (painted_of least_bytes (length room) head number feature)) in
    front out (feature_line number (given_under (compiled head room plan feature) number values)) ≡ (line ++ drop (length line) out, length line))
printed-compiled head room plan ok number feature values size out h =
    rw (compiled-given head room plan ok number feature values size, painted-given (length room) head number feature)
    (printed-whole number (on_accepted (style_of (length room) head) (λ s. given_answer s number feature)) out h)
