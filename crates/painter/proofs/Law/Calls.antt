-- What the calls answer, by what they were answered.
use Rattle.std.specs.Prelude.{Result, Ok, Err, is_ok}
use mathlib.Core.Path.{◌≡◌, refl, sym, ◌∙◌, ap, subst}
use mathlib.Core.Bool.{Bool, true, false, false≢true}
use mathlib.Core.List.{List, []}
use Prim.Native.Nat.{ℕ, ◌<◌, ◌≤◌}
use native.Mathlib.Omega.{arith}
use borrow.Author.Tests.{lt-ltb, le-ltb, ltb-true, ltb-false}
use lib.Dec.{ltb}
use lib.ListN.{length, replicate}
use Rattle.lexer.specs.Refusal.{Judged, refused, fine, on_fine}
use Rattle.lexer.specs.declared.refusal.Refusal.{Refusal}
use Rattle.value.specs.declared.value.Value.{Value}
use Rattle.plan.specs.Layout.{undeclared}
use Rattle.style.specs.Answer.{Answer, refusal, accepted, on_accepted}
use Rattle.style.specs.Style.{Style}
use Rattle.style.specs.Head.{head_of, head_size, room_size, style_of, checked_of}
use Rattle.style.specs.Head as style
use Rattle.style.specs.Compile.{plan_by, plan_after, room_by, trees_after}
use Rattle.style.specs.Holds.{Holds}
use Rattle.style.specs.declared.check.LineRefusal.{LineRefusal}
use Rattle.style.proofs.Accepted.{accepted-stand}
use Rattle.style.proofs.Held.{compiled-length, compiled-holds}
use Rattle.style.proofs.Law.Ladder.{taken, passed}
use Rattle.style.proofs.Law.Answers.{is_fine, refusal_in, is_accepted, line_of, refusal_of}
use Rattle.feature.specs.Feature.{Values, complete, broken, sets_of, feature_of, all_conform, values_of, values_with}
use Rattle.feature.specs.Feature as feature
use Rattle.output.specs.Line.{front}
use Rattle.output.proofs.Law.Lines.{front-within}
use Rattle.painter.specs.Paint.{on_values, given_answer, given_line, drawn_answer, featured, least_bytes, short_buffer, painted_of, out_after, room_after, drawn_line}
use Rattle.painter.specs.declared.answer.Given.{Given}
use Rattle.painter.specs.Applied.{Source, source, compiled, all_defined, given_at, entered_by, given_under, defined_by, given_values, line_written, written_by, applied_of, applied_values}
use Rattle.painter.proofs.Order.{accepted-first, style-given}
use Rattle.painter.proofs.Law.Drawn.{given_is, applied-is}
use Rattle.painter.specs.declared.answer.Painted.{Painted}

-- ---- a feature that was read

-- what it answered
pub was-refused : (r : Result (Unit {0}) Refusal) → is_ok r ≡ false → (q : Refusal) × (r ≡ Err q)
was-refused (Ok x) h = absurd (false≢true (sym h))
was-refused (Err q) h = (q, refl)

pub was-read : (r : Result (Unit {0}) Refusal) → is_ok r ≡ true → r ≡ Ok tt
was-read (Ok x) h = refl
was-read (Err q) h = absurd (false≢true h)

module _ (x : Source) (number : ℕ) (a : List Value) (r : Result (Unit {0}) Refusal) (is : feature.answer_of r ≡ feature_of (sets_of x.plan) number x.feature) where
  -- the values behind it
  abbrev read : List Value
  read = values_with 0 (values_of (entered_by x number)) a

  pub given-refused : (q : Refusal) → r ≡ Err q → (refusal number q ≡ given_under x number a) × (read ≡ given_values x number a)
  unfolding given_under given_values
  given-refused q e = go (entered_by x number) (sym is ∙ ap feature.answer_of e)
    where
      go : (j : Judged Values) → on_fine j all_conform ≡ refused q →
          (refusal number q ≡ on_values number j (λ vs. given_at x (all_defined x (values_with 0 vs a)))) × (values_with 0 (values_of j) a ≡ defined_by x j (values_with 0 (values_of j) a))
      go (refused p) h = (ap (λ j. refusal number (refusal_in q j)) (sym h), refl)
      go (fine (broken vs p)) h = (ap (λ j. refusal number (refusal_in q j)) (sym h), refl)
      go (fine (complete vs)) h = absurd (false≢true (sym (ap is_fine h)))

  pub given-read : r ≡ (Ok tt) → (after : List Value) → after ≡ all_defined x read → (given : Given) → given ≡ given_at x after →
      (accepted given ≡ given_under x number a) × (after ≡ given_values x number a)
  unfolding given_under given_values
  given-read e after d given g = go (entered_by x number) (sym is ∙ ap feature.answer_of e) d
    where
      go : (j : Judged Values) → on_fine j all_conform ≡ fine tt → after ≡ all_defined x (values_with 0 (values_of j) a) →
          (accepted given ≡ on_values number j (λ vs. given_at x (all_defined x (values_with 0 vs a)))) × (after ≡ defined_by x j (values_with 0 (values_of j) a))
      go (refused p) h d = absurd (false≢true (ap is_fine h))
      go (fine (broken vs p)) h d = absurd (false≢true (ap is_fine h))
      go (fine (complete vs)) h d = (ap accepted (g ∙ ap (given_at x) d), d)

-- ---- a style that is applied

module _ (x : Source) (number : ℕ) (out : List ℕ) (a : List Value) where
  -- a buffer that is too small
  pub applied-short : length out < least_bytes → ((short_buffer, out) ≡ applied_of x number out a) × (a ≡ applied_values x number out a)
  unfolding applied_of applied_values
  applied-short h = let e = lt-ltb (length out) least_bytes h in (sym (taken _ e refl), sym (taken _ e refl))

  module _ (enough : least_bytes ≤ length out) (after : List Value) (left : after ≡ given_values x number a) (d : Result Given LineRefusal) (is : drawn_answer d ≡ given_under x number a) where
    by-given : (w : Answer Painted × List ℕ) → w ≡ written_by number out (drawn_answer d) → (w ≡ applied_of x number out a) × (after ≡ applied_values x number out a)
    unfolding applied_of applied_values
    by-given w h =
        let e = le-ltb (length out) least_bytes enough in
        (h ∙ ap (written_by number out) is ∙ sym (passed _ e refl), left ∙ sym (passed _ e refl))

    pub applied-refused : (r : LineRefusal) → d ≡ Err r →
        ((refusal r.line r.refusal, out) ≡ applied_of x number out a) × (after ≡ applied_values x number out a)
    applied-refused r e = by-given _ (ap (λ d. written_by number out (drawn_answer d)) (sym e))

    pub applied-given : (given : Given) → d ≡ Ok given → (out' : List ℕ) (bytes : ℕ) → (out', bytes) ≡ front out (given_line number given) →
        ((accepted (record { given = given; bytes = bytes }), out') ≡ applied_of x number out a) × (after ≡ applied_values x number out a)
    applied-given given e out' bytes w = by-given _ (ap (line_written given) w ∙ ap (λ d. written_by number out (drawn_answer d)) (sym e))

-- ---- what is printed

module _ {R : Type 0} (printed_number printed_place : R → ℕ) (d : Result Given R) (number : ℕ) (out : List ℕ) where
  abbrev line : Result Given R → List ℕ
  line d = drawn_line printed_number printed_place number d

  pub printed : (d' : Result Given R) → d ≡ d' → (out' : List ℕ) (r : ℕ) → (out', r) ≡ front out (line d') →
      ((out', r) ≡ front out (line d)) × (r ≤ length out)
  printed d' e out' r h = (h ∙ ap (λ (d : Result Given R). front out (line d)) (sym e), front-within _ _ h)

-- ---- a head that is accepted

-- it gives a style, and the room and the head's size were right
pub accepted-style : (slots : ℕ) (head : List ℕ) → checked_of slots head ≡ accepted tt → (s : Style) × (style_of slots head ≡ accepted s) × (head_of head ≡ accepted s) × (room_size ≤ slots) × (length head ≤ head_size)
accepted-style slots head ok =
    let (s, is, _) = accepted-first (λ s. accepted tt) tt (style_of slots head) ok in
    let (enough, small, given) = style-given slots head s is in
    (s, is, given, enough, small)

module _ (head room plan : List ℕ) (ok : checked_of (length room) head ≡ accepted tt) where
  abbrev given-style : Style
  given-style = (accepted-style (length room) head ok).0

  styled : style_of (length room) head ≡ accepted given-style
  styled = (accepted-style (length room) head ok).1

  is : head_of head ≡ accepted given-style
  is = (accepted-style (length room) head ok).2

  enough : room_size ≤ length room
  enough = (accepted-style (length room) head ok).3

  small : length head ≤ head_size
  small = (accepted-style (length room) head ok).4

  -- the room and the plan that compiling leaves
  abbrev trees : List ℕ
  trees = trees_after head room

  abbrev planned : List ℕ
  planned = plan_after (length room) head plan

  size : length trees ≡ length room
  size = ap (λ (x : Answer Style). length (room_by x head room)) styled ∙ compiled-length head room given-style is small enough

  held : Holds head trees planned given-style
  held =
      subst (λ (x : Answer Style). Holds head (room_by x head room) (plan_by x head plan) given-style) (sym styled)
      (compiled-holds head room given-style is small enough)

  module _ (number : ℕ) (feature : List ℕ) (a : List Value) (a-size : length a ≡ undeclared) where
    fits : length head ≤ length trees
    fits = omega (arith, size, enough, small)

    -- they give what the style gives, whatever the values of names were before
    pub compiled-given : given_under (compiled head room plan feature) number a ≡ on_accepted (style_of (length room) head) (λ s. given_answer s number feature)
    compiled-given =
        given_is head feature trees planned fits given-style held (accepted-stand head given-style is) number a a-size
        ∙ ap (λ x. on_accepted x (λ s. given_answer s number feature)) (sym styled)

    pub compiled-applied : (out : List ℕ) → least_bytes ≤ length out →
        (let answer = painted_of (length out) (length room) head number feature in applied_of (compiled head room plan feature) number out a ≡ (answer, out_after answer number out))
    unfolding painted_of
    compiled-applied out h =
        applied-is head feature trees planned fits given-style held (accepted-stand head given-style is) number a a-size out h
        ∙ (λ i. (painted-as i, out_after (painted-as i) number out))
      where
        painted-as : featured given-style number feature ≡ painted_of (length out) (length room) head number feature
        painted-as =
            sym (passed short_buffer (le-ltb (length out) least_bytes h) (ap (λ x. on_accepted x (λ s. featured s number feature)) styled))

-- ---- the painter's call

module _ (bytes : ℕ) (room : List ℕ) (head : List ℕ) (number : ℕ) (feature : List ℕ) where
  -- a buffer that is too small
  pub short-answer : bytes < least_bytes → short_buffer ≡ painted_of bytes (length room) head number feature
  unfolding painted_of
  short-answer h = sym (taken _ (lt-ltb bytes least_bytes h) refl)

  pub short-room : bytes < least_bytes → room ≡ room_after bytes room
  short-room h = sym (taken _ (lt-ltb bytes least_bytes h) refl)

  module _ (enough : least_bytes ≤ bytes) (c : Result (Unit {0}) LineRefusal) (is : style.answer_of c ≡ checked_of (length room) head) where
    -- a head that is refused
    module _ (r : LineRefusal) (e : c ≡ Err r) where
      refused-style : style_of (length room) head ≡ refusal r.line r.refusal
      refused-style = go (style_of (length room) head) (sym is ∙ ap style.answer_of e)
        where
          go : (x : Answer Style) → ◌≡◌ {A = Answer (Unit {0})} (on_accepted x (λ s. accepted tt)) (refusal r.line r.refusal) → x ≡ refusal r.line r.refusal
          go (refusal n q) h = λ i. refusal (ap line_of h i) (ap (refusal_of q) h i)
          go (accepted s) h = absurd (false≢true (sym (ap is_accepted h)))

      pub refused-answer : refusal r.line r.refusal ≡ painted_of bytes (length room) head number feature
      unfolding painted_of
      refused-answer = sym (passed short_buffer (le-ltb bytes least_bytes enough) (ap (λ x. on_accepted x (λ s. featured s number feature)) refused-style))

      pub refused-room : (after : List ℕ) → after ≡ trees_after head room → after ≡ room_after bytes room
      refused-room after h = h ∙ ap (λ (x : Answer Style). room_by x head room) refused-style ∙ sym (passed room (le-ltb bytes least_bytes enough) refl)

    -- one that is accepted
    module _ (e : c ≡ (Ok tt)) where
      ok : checked_of (length room) head ≡ accepted tt
      ok = sym is ∙ ap style.answer_of e

      module _ (plan : List ℕ) (values : List Value) (values-size : length values ≡ undeclared) (out : List ℕ) (length-is : bytes ≡ length out) (answer : Answer Painted)
          (out' trees planned : List ℕ) (left : trees ≡ trees_after head room) (written : planned ≡ plan_after (length room) head plan)
          (w : (answer, out') ≡ applied_of (source head feature trees planned) number out values) where
        given : ◌≡◌ {A = Answer Painted × List ℕ} (answer, out') (painted_of bytes (length room) head number feature, out_after (painted_of bytes (length room) head number feature) number out)
        given =
            w
            ∙ (λ i. applied_of (source head feature (left i) (written i)) number out values)
            ∙ compiled-applied head room plan ok number feature values values-size out (omega arith)
            ∙ ap (λ (n : ℕ). (painted_of n (length room) head number feature, out_after (painted_of n (length room) head number feature) number out)) (sym length-is)

        pub painted-answer : answer ≡ painted_of bytes (length room) head number feature
        painted-answer = ap (λ (x : Answer Painted × List ℕ). x.0) given

        pub painted-out : out' ≡ out_after (answer) number out
        painted-out = ap (λ (x : Answer Painted × List ℕ). x.1) given ∙ ap (λ (x : Answer Painted). out_after x number out) (sym painted-answer)

      pub painted-room : (slots room' : List ℕ) → slots ≡ trees_after head room → room' ≡ replicate (length slots) 0 → room' ≡ room_after bytes room
      painted-room slots room' left z =
          z
          ∙ ap (λ (n : ℕ). replicate n 0) (ap length left ∙ size head room [] ok)
          ∙ sym (passed room (le-ltb bytes least_bytes enough) (passed room (le-ltb (length room) room_size (accepted-style (length room) head ok).3) refl))

-- ---- a compiled head, applied

-- whatever the buffer's size
pub compiled-applies : (head room plan : List ℕ) → checked_of (length room) head ≡ accepted tt → (number : ℕ) (feature : List ℕ) (a : List Value) →
    length a ≡ undeclared → (out : List ℕ) →
    (let answer = painted_of (length out) (length room) head number feature in
    applied_of (compiled head room plan feature) number out a ≡ (answer, out_after answer number out))
compiled-applies head room plan ok number feature a a-size out = by-size (ltb (length out) least_bytes) refl
  where
    by-size : (b : Bool) → ltb (length out) least_bytes ≡ b →
        (let answer = painted_of (length out) (length room) head number feature in
        applied_of (compiled head room plan feature) number out a ≡ (answer, out_after answer number out))
    by-size true e =
        let h = ltb-true (length out) least_bytes e in
        let short = short-answer (length out) room head number feature h in
        sym (applied-short (compiled head room plan feature) number out a h).0 ∙ (λ i. (short i, out_after (short i) number out))
    by-size false e = compiled-applied head room plan ok number feature a a-size out (ltb-false (length out) least_bytes e)
