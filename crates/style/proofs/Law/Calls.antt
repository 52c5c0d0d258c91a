-- What the calls answer, and what they leave.
use Rattle.std.specs.Prelude.{Result, Ok, Err}
use mathlib.Core.Path.{◌≡◌, refl, sym, ◌∙◌, ap}
use mathlib.Core.Bool.{Bool, true, false, cond}
use mathlib.Core.List.{List}
use Prim.Native.Nat.{ℕ, ◌<◌, ◌≤◌}
use borrow.Author.Tests.{lt-ltb, le-ltb, ltb-false}
use lib.Dec.{ltb}
use lib.ListN.{length, replicate}
use Rattle.lexer.specs.Refusal.{refusal_at}
use Rattle.lexer.specs.declared.refusal.Refusal.{Refusal}
use Rattle.lexer.specs.declared.refusal.Reason.TheVariants as reason
use Rattle.style.specs.Answer.{Answer, refusal, accepted, on_accepted}
use Rattle.style.specs.Style.{Style}
use Rattle.style.specs.Head.{head_of, answer_of, head_size, short_room, long_head, style_of, checked_of, room_after}
use Rattle.style.specs.Compile.{plan_of, room_of, plan_by, room_by, plan_after, trees_after}
use Rattle.style.specs.Inner.{unread, LinesBy}
use Rattle.style.specs.declared.check.LineRefusal.{LineRefusal}
use Rattle.style.proofs.Law.Ladder.{taken, passed}

-- ---- a style, behind 10 and the head's size

module _ (room head : List ℕ) where
  short-style : length room < 32768 → style_of (length room) head ≡ short_room
  unfolding style_of
  short-style h = taken _ (lt-ltb (length room) 32768 h) refl

  long-style : 32768 ≤ length room → 32768 < length head → style_of (length room) head ≡ long_head
  unfolding style_of
  long-style h k = passed _ (le-ltb (length room) 32768 h) (taken _ (lt-ltb 32768 (length head) k) refl)

  lines-style : 32768 ≤ length room → length head ≤ 32768 → style_of (length room) head ≡ head_of head
  unfolding style_of
  lines-style h k = passed _ (le-ltb (length room) 32768 h) (passed _ (le-ltb 32768 (length head) k) refl)

  enough-room : 32768 ≤ length room → replicate (length room) 0 ≡ room_after room
  enough-room h = sym (passed _ (le-ltb (length room) 32768 h) refl)

  -- an accepted head has room enough
  accepted-room : (s : Style) → style_of (length room) head ≡ accepted s → 32768 ≤ length room
  unfolding style_of
  accepted-room s = go (ltb (length room) 32768) refl
    where
      go : (b : Bool) → ltb (length room) 32768 ≡ b → cond b short_room (cond (ltb head_size (length head)) long_head (head_of head)) ≡ accepted s → 32768 ≤ length room
      go true e h = absurd cc
      go false e h = ltb-false (length room) 32768 e

  -- ---- what a call leaves

  abbrev WholeBy : List ℕ → Result (Unit {0}) LineRefusal → List ℕ → List ℕ → Type 0
  WholeBy plan r plan' room' = (answer_of r ≡ checked_of (length room) head) × ((plan' ≡ plan_after (length room) head plan) × (room' ≡ trees_after head room))

  -- by what it makes of the head
  whole-refused : (plan : List ℕ) (a : Result (Unit {0}) LineRefusal) (n : ℕ) (x : Refusal) (room' : List ℕ) → style_of (length room) head ≡ refusal n x → answer_of a ≡ refusal n x → room' ≡ room_after room →
      WholeBy plan a plan room'
  whole-refused plan a n x room' st e z = (
    e ∙ ap (λ (s : Answer Style). on_accepted s (λ _. accepted tt)) (sym st),
    (ap (λ (s : Answer Style). plan_by s head plan) (sym st), z ∙ ap (λ (s : Answer Style). room_by s head room) (sym st)),
  )

  whole-accepted : (plan plan' room' : List ℕ) (s : Style) → style_of (length room) head ≡ accepted s → plan' ≡ plan_of head → room' ≡ room_of head room → WholeBy plan (Ok tt) plan' room'
  whole-accepted plan plan' room' s st p q = (
    ap (λ (s : Answer Style). on_accepted s (λ _. accepted tt)) (sym st),
    (p ∙ ap (λ (s : Answer Style). plan_by s head plan) (sym st), q ∙ ap (λ (s : Answer Style). room_by s head room) (sym st)),
  )

  pub too_small : (plan : List ℕ) (x : LineRefusal) → length room < 32768 → x ≡ unread reason.Room 0 → WholeBy plan (Err x) plan room
  too_small plan x h e =
      whole-refused plan (Err x) 0 (refusal_at reason.Room 0) room (short-style h) (ap (λ (x : LineRefusal). answer_of (Err x)) e) (sym (taken _ (lt-ltb (length room) 32768 h) refl))

  pub too_long : (plan : List ℕ) (x : LineRefusal) (room' : List ℕ) → 32768 ≤ length room → 32768 < length head → x ≡ unread reason.Size 32768 → room' ≡ replicate (length room) 0 →
      WholeBy plan (Err x) plan room'
  too_long plan x room' h k e z =
      whole-refused plan (Err x) 0 (refusal_at reason.Size 32768) room' (long-style h k) (ap (λ (x : LineRefusal). answer_of (Err x)) e) (z ∙ enough-room h)

  -- the head's own answer
  head-refused : (x : Answer Style) (n : ℕ) (r : Refusal) → ◌≡◌ {A = Answer (Unit {0})} (refusal n r) (on_accepted x (λ s. accepted tt)) → x ≡ refusal n r
  head-refused (refusal m q) n r e = cc
  head-refused (accepted s) n r e = absurd cc

  head-accepted : (x : Answer Style) → ◌≡◌ {A = Answer (Unit {0})} (accepted tt) (on_accepted x (λ s. accepted tt)) → (s : Style) × (x ≡ accepted s)
  head-accepted (refusal m q) e = absurd cc
  head-accepted (accepted s) e = (s, refl)

  -- the lines in turn, of a head of no more than its size
  module _ (h : 32768 ≤ length room) (k : length head ≤ 32768) (plan own u : List ℕ) (c : Result (Unit {0}) LineRefusal) (n : length u ≡ length room) (by : LinesBy head room own u c) where
    own-answer : (a : Result (Unit {0}) LineRefusal) → c ≡ a → answer_of a ≡ on_accepted (head_of head) (λ s. accepted tt)
    own-answer a e = ap answer_of (sym e) ∙ by.answer

    -- what a refused one has written is taken back
    pub lines_bad : (x : LineRefusal) → c ≡ Err x → (room' : List ℕ) → room' ≡ replicate (length u) 0 → WholeBy plan (Err x) plan room'
    lines_bad x e room' z =
        let st : style_of (length room) head ≡ refusal x.line x.refusal = lines-style h k ∙ head-refused (head_of head) x.line x.refusal (own-answer (Err x) e) in
        whole-refused plan (Err x) x.line x.refusal room' st refl (z ∙ ap (λ (i : ℕ). replicate i 0) n ∙ enough-room h)

    pub lines_good : c ≡ (Ok tt) → WholeBy plan (Ok tt) own u
    lines_good e =
        let (s, is) = head-accepted (head_of head) (own-answer (Ok tt) e) in
        let kept = by.kept s is in
        whole-accepted plan own u s (lines-style h k ∙ is) kept.0 kept.1

-- ---- the room after a check

module _ (room head : List ℕ) (after : List ℕ) (left : after ≡ trees_after head room) (a : Result (Unit {0}) LineRefusal) (is : answer_of a ≡ checked_of (length room) head) where
  pub zeroed : a ≡ (Ok tt) → length after ≡ length room → (room' : List ℕ) → room' ≡ replicate (length after) 0 → room' ≡ room_after room
  zeroed e n room' z =
      let (s, st) = head-accepted room head (style_of (length room) head) (sym (ap answer_of e) ∙ is) in
      z ∙ ap (λ (i : ℕ). replicate i 0) n ∙ enough-room room head (accepted-room room head s st)

  pub left_alone : (x : LineRefusal) → a ≡ Err x → after ≡ room_after room
  left_alone x e =
      let st = head-refused room head (style_of (length room) head) x.line x.refusal (sym (ap answer_of e) ∙ is) in
      left ∙ ap (λ (s : Answer Style). room_by s head room) st
