-- The style of a window's head is that of the input's, and the input's features are the window's with the bytes to come.
use mathlib.Core.Path.{◌≡◌, sym, ◌∙◌, ap}
use mathlib.Core.Bool.{false≢true}
use mathlib.Core.List.{List, ◌++◌}
use mathlib.Core.Logic.{inl, inr}
use Prim.Native.Nat.{ℕ, ◌<◌, ◌≤◌}
use native.Mathlib.Omega.{arith}
use borrow.Author.Tests.{le-ltb}
use lib.ListN.{take, drop, length-take}
use lib.Seq.{take-append-le, drop-append-le}
use Rattle.lexer.specs.declared.refusal.Refusal.{Refusal}
use Rattle.text.specs.Head.{head_end}
use Rattle.style.specs.Answer.{Answer, refusal, accepted}
use Rattle.style.specs.Style.{Style}
use Rattle.style.specs.Head.{head_size, room_size, long_head, style_of, checked_of}
use Rattle.style.proofs.Law.Answers.{is_accepted}
use Rattle.output.specs.Line.{heading}
use Rattle.painter.specs.Demand.{by-size}
use Rattle.painter.proofs.Order.{style-refused, check-refused}
use Rattle.blocks.specs.Ledger.{behind_heading, ledger_of}
use Rattle.blocks.specs.Run.{head_in, features_in}
use Rattle.blocks.proofs.Law.Windows.{Agree}

-- a room that is long enough
pub style-roomed : (slots : ℕ) (head : List ℕ) → room_size ≤ slots → style_of slots head ≡ style_of room_size head
unfolding style_of
style-roomed slots head h = rw (le-ltb slots room_size h)

style-long : (w : List ℕ) → head_size < head_end w → style_of room_size (head_in w) ≡ long_head
style-long w h = style-refused room_size (head_in w) (by-size (omega arith) (omega (arith, length-take (head_end w) w)))

-- one that is refused
pub style-checked : (slots : ℕ) (head : List ℕ) (line : ℕ) (r : Refusal) → room_size ≤ slots → checked_of slots head ≡ refusal line r →
    style_of room_size head ≡ refusal line r
style-checked slots head line r h e = sym (style-roomed slots head h) ∙ style-refused slots head ((check-refused slots head line r).0 e)

-- ---- the input

module _ (w rest : List ℕ) where
  same_head : head_end (w ++ rest) ≡ head_end w → head_in (w ++ rest) ≡ head_in w
  same_head e = ap (λ (n : ℕ). take n (w ++ rest)) e ∙ take-append-le (head_end w) w rest (omega arith)

  same-features : head_end (w ++ rest) ≡ head_end w → features_in (w ++ rest) ≡ features_in w ++ rest
  same-features e = ap (λ (n : ℕ). drop n (w ++ rest)) e ∙ drop-append-le (head_end w) w rest (omega arith)

  pub same-style : Agree head_size w rest → style_of room_size (head_in (w ++ rest)) ≡ style_of room_size (head_in w)
  same-style (inl e) = ap (style_of room_size) (same_head e)
  same-style (inr h) = style-long (w ++ rest) h.1 ∙ sym (style-long w h.0)

  -- those of an accepted head
  pub features-on : (s : Style) → style_of room_size (head_in w) ≡ accepted s → Agree head_size w rest →
      features_in (w ++ rest) ≡ features_in w ++ rest
  features-on s e (inl q) = same-features q
  features-on s e (inr h) = absurd (false≢true (ap is_accepted (sym (style-long w h.0) ∙ e)))

  pub ledger-is : (x : Answer Style) → style_of room_size (head_in (w ++ rest)) ≡ x →
      ledger_of (w ++ rest) ≡ heading ++ behind_heading x (features_in (w ++ rest))
  unfolding ledger_of
  ledger-is x e = ap (λ (x : Answer Style). heading ++ behind_heading x (features_in (w ++ rest))) e
