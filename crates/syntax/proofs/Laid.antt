-- A parsed tree lies in its text and has known numbers, so it is read back from the slots into which it was laid.
use Rattle.std.specs.Prelude.{Option, Some, None}
use mathlib.Core.Path.{◌≡◌, refl, subst, ◌∙◌}
use mathlib.Core.Bool.{Bool, true, false}
use mathlib.Core.List.{List, ◌++◌}
use Prim.Native.Nat.{ℕ, zero, suc, ◌+◌, ◌<◌, ◌≤◌}
use native.Mathlib.Omega.{arith}
use lib.Dec.{ltb}
use lib.ListN.{length, take, drop, length-take, length-drop, length-append}
use borrow.Author.Tests.{eqb-true, ltb-false, le-ltb}
use Rattle.lexer.specs.Refusal.{Judged, fine}
use Rattle.lexer.specs.Refusal as judged
use Rattle.lexer.specs.Scan.{scan_of}
use Rattle.tree.specs.Tree.{Tree, literal, variable, unary, binary, bare, call, pick, place, Arguments, last, next}
use Rattle.tree.specs.Slots.{tags, function_tag, question_tag, colon_tag, operator_tag, comma_tag, pick_tag, Shape, before, between, shape_of, shapes_of, store}
use Rattle.tree.specs.Node.{tree_at}
use Rattle.tree.specs.Fits.{Within, Known, KnownAll}
use Rattle.tree.proofs.Law.Places.{within-le, within_wider, length-lay}
use Rattle.tree.proofs.Back.{Holds, holds-lay, holds_more, read_back}
use Rattle.syntax.specs.Sizes.{most_bytes, most_height}
use Rattle.syntax.specs.Symbol.{question, colon, open_round, close_round, open_square, close_square, comma, dot, word, end, symbol_at, is, is_literal, form_of, is_index, index_of, is_word, is_prefix, precedence_of, levels, has_precedence, function_of, member_of}
use Rattle.syntax.specs.Symbol as symbol
use Rattle.syntax.specs.Parser.{Parse, part, refused, spent, nothing, and_then, on_part, ask, on_next, at_end, ended, closed}
use Rattle.syntax.specs.Parser.{Branches, branches, chosen, expression_from, branches_from, level_from, tail_from, unary_from}
use Rattle.syntax.specs.Parser.{postfix_from, picks_from, primary_from, call_from, arguments_from, followed, in_text, steps_for, parse_of}
use Rattle.syntax.specs.Height.{height_of}
use Rattle.syntax.specs.Names.{unknown_in, leftmost_of}
use Rattle.syntax.specs.Judge.{by_names, by_height, by_grammar, by_tokens, by_size, judged_of, slots_after}
use Rattle.syntax.specs.Inner.{Sound, branches_shape}
use Rattle.syntax.specs.declared.symbol.Symbol.{Symbol}
use Rattle.syntax.proofs.Law.Symbols.{sound-at, later-at, function-known, member-known, in-range}
use Rattle.syntax.proofs.Law.Levels.{operator-number, prefix-operator}
use Rattle.syntax.proofs.Law.Heights.{pruned-low}

-- ---- what fits

abbrev KnownBranches : Branches → Type 0
KnownBranches (branches q a b) = Known a × Known b

-- s lies in the text, at lo or after it
record From (text : List ℕ) (lo : ℕ) (s : Symbol) : Type 0 where
  sound : Sound text s
  from : lo ≤ s.at

from-wider : {text : List ℕ} {s : Symbol} (lo lo' : ℕ) → lo' ≤ lo → From text lo s → From text lo' s
from-wider lo lo' l i = record { sound = i.sound; from = omega (arith, i.from) }

-- a part from lo on, and the symbol after it
record Fit {A : Type 0} (shape : A → Shape) (known : A → Type 0) (text : List ℕ) (lo : ℕ) (a : A) (t : Symbol) : Type 0 where
  sound : Sound text t
  tidy : Within lo t.at (shape a)
  fits : known a

abbrev FitsIn : {A : Type 0} → (A → Shape) → (A → Type 0) → List ℕ → ℕ → Parse Symbol A → Type 0
FitsIn shape known text lo (part a t) = Fit shape known text lo a t
FitsIn shape known text lo (refused t) = Unit {0}
FitsIn shape known text lo spent = Unit {0}

-- each part that a parser gives at s fits
record Fits {A : Type 0} (shape : A → Shape) (known : A → Type 0) (text : List ℕ) (lo : ℕ) (m : Symbol → Parse Symbol A) (s : Symbol) : Type 0 where
  gives : FitsIn shape known text lo (m s)

-- ---- tests

-- what passes takes a byte
abbrev pub Low : (Symbol → Bool) → Type 0
Low test = (x : Symbol) → test x ≡ true → x.number < 36

pub low-is : (n : ℕ) → n < 36 → Low (is n)
low-is n h x e = omega (arith, eqb-true x.number n e)

pub low-literal : Low is_literal
low-literal x e = omega (arith, in-range 22 33 x.number e)

pub low-index : Low is_index
low-index x e = omega (arith, in-range 22 25 x.number e)

pub low_word : Low is_word
low_word x e = omega (arith, in-range 28 34 x.number e)

pub low-prefix : Low is_prefix
low-prefix x e = omega (arith, prefix-operator x e)

operator-passed : (k : ℕ) (x : Symbol) → has_precedence (suc k) x ≡ true → (1 < x.number) × (x.number < 15)
operator-passed k x e = operator-number x.number k (eqb-true (precedence_of x.number) (suc k) e)

pub low-operator : (k : ℕ) → Low (has_precedence (suc k))
low-operator k x e = omega (arith, operator-passed k x e)

-- x has passed a test, and t follows it
record Past (text : List ℕ) (test : Symbol → Bool) (x t : Symbol) : Type 0 where
  passed : test x ≡ true
  later : x.end ≤ t.at
  on : From text (x.at + 1) t

past : {text : List ℕ} {test : Symbol → Bool} → Low test → (x : Symbol) → Sound text x → test x ≡ true → Past text test x (symbol_at text x.end)
past {text} low x s e =
    let m = s.moves (low x e) in
    let l = later-at text x.end s.inside in
    record { passed = e; later = l; on = record { sound = sound-at text x.end; from = omega arith } }

-- ---- the pieces

module _ {A : Type 0} {shape : A → Shape} {known : A → Type 0} {text : List ℕ} {lo : ℕ} where
  fits-nothing : {s : Symbol} → Fits shape known text lo nothing s
  fits-nothing = record { gives = tt }

  fits_refused : {s : Symbol} → Fits shape known text lo refused s
  fits_refused = record { gives = tt }

  fits-part : {a : A} {s : Symbol} → Fit shape known text lo a s → Fits shape known text lo (part a) s
  fits-part h = record { gives = h }

  fits-ask : {test : Symbol → Bool} (y : Symbol → Symbol → Parse Symbol A) {n : Symbol → Parse Symbol A} {x : Symbol} → Low test → Sound text x →
      ((t : Symbol) → Past text test x t → Fits shape known text lo (y x) t) → Fits shape known text lo n x → Fits shape known text lo (ask (in_text text) test y n) x
  unfolding ask
  fits-ask {test} y {n} {x} low s behind else = record { gives = go (is end x) (test x) refl }
    where
      go : (b c : Bool) → test x ≡ c → FitsIn shape known text lo (on_next (followed b text x) test y (λ _. n x))
      go true c e = else.gives
      go false true e = rw e (behind (symbol_at text x.end) (past low x s e)).gives
      go false false e = rw e else.gives

  fits-end : {a : A} {s : Symbol} → Fit shape known text lo a s → Fits shape known text lo (at_end (in_text text) a) s
  unfolding at_end
  fits-end {a} {s} h = record { gives = go (is end s) }
    where
      go : (b : Bool) → FitsIn shape known text lo (ended (followed b text s) a s)
      go true = h
      go false = tt

  fits-closed : {a : A} {s : Symbol} → Fit shape known text lo a s → Fits shape known text lo (closed (in_text text) a) s
  fits-closed {a} {s} h =
      fits-ask _ (low-is close_round (omega arith)) h.sound
      (λ t p. fits-part (record { sound = p.on.sound; tidy = within_wider lo t.at (shape a) (omega arith) (omega (arith, p.on.from)) h.tidy; fits = h.fits }))
      fits_refused

module _ {A B : Type 0} {shape_a : A → Shape} {known_a : A → Type 0} {shape_b : B → Shape} {known_b : B → Type 0} {text : List ℕ} {lo lo' : ℕ} where
  fits-then : {m : Symbol → Parse Symbol A} {k : A → Symbol → Parse Symbol B} {s : Symbol} → Fits shape_a known_a text lo m s →
      ((a : A) (t : Symbol) → Fit shape_a known_a text lo a t → Fits shape_b known_b text lo' (k a) t) → Fits shape_b known_b text lo' (and_then m k) s
  unfolding and_then
  fits-then {m} {k} {s} h i = record { gives = go (m s) h.gives }
    where
      go : (r : Parse Symbol A) → FitsIn shape_a known_a text lo r → FitsIn shape_b known_b text lo' (on_part r k)
      go (part a t) f = (i a t f).gives
      go (refused t) f = tt
      go spent f = tt

-- ---- nodes

within-between : (lo p hi tag : ℕ) (l r : Shape) → tag < tags → Within lo p l → Within (p + 1) hi r → Within lo hi (between p tag l r)
unfolding Within
within-between lo p hi tag l r small t u = (within-le l t, within-le r u, small, t, u)

within-before : (lo p hi tag : ℕ) (s : Shape) → lo ≤ p → tag < tags → Within (p + 1) hi s → Within lo hi (before p tag s)
unfolding Within
within-before lo p hi tag s from small t = (from, within-le s t, small, t)

module _ {text : List ℕ} {lo : ℕ} where
  fit-chosen : {c : Tree} (b : Branches) {x t : Symbol} → Fit shape_of Known text lo c x → Fit branches_shape KnownBranches text (x.at + 1) b t →
      Fit shape_of Known text lo (chosen x.at c b) t
  unfolding Known
  fit-chosen {c} (branches q a b) h i = record {
    sound = i.sound;
    tidy = within-between _ _ _ question_tag (shape_of c) (branches_shape (branches q a b)) (omega arith) h.tidy i.tidy;
    fits = (h.fits, i.fits.0, i.fits.1);
  }

  fit-branches : {a b : Tree} {x t : Symbol} → Fit shape_of Known text lo a x → Fit shape_of Known text (x.at + 1) b t → Fit branches_shape KnownBranches text lo (branches x.at a b) t
  fit-branches {a} {b} h i = record { sound = i.sound; tidy = within-between _ _ _ colon_tag (shape_of a) (shape_of b) (omega arith) h.tidy i.tidy; fits = (h.fits, i.fits) }

  fit-binary : {l r : Tree} {x t : Symbol} → (1 < x.number) × (x.number < 15) → Fit shape_of Known text lo l x → Fit shape_of Known text (x.at + 1) r t →
      Fit shape_of Known text lo (binary x.at x.number l r) t
  unfolding Known
  fit-binary {l} {r} {x} o h i = record {
    sound = i.sound;
    tidy = within-between _ _ _ (operator_tag x.number) (shape_of l) (shape_of r) (omega (arith, o)) h.tidy i.tidy;
    fits = (omega (arith, o), omega (arith, o), h.fits, i.fits);
  }

  fit_next : {e : Tree} {xs : Arguments} {x t : Symbol} → Fit shape_of Known text lo e x → Fit shapes_of KnownAll text (x.at + 1) xs t → Fit shapes_of KnownAll text lo (next e x.at xs) t
  unfolding Known
  fit_next {e} {xs} h i = record { sound = i.sound; tidy = within-between _ _ _ comma_tag (shape_of e) (shapes_of xs) (omega arith) h.tidy i.tidy; fits = (h.fits, i.fits) }

  fit-last : {e : Tree} {t : Symbol} → Fit shape_of Known text lo e t → Fit shapes_of KnownAll text lo (last e) t
  unfolding Known
  fit-last h = record { sound = h.sound; tidy = h.tidy; fits = h.fits }

  fit-unary : {e : Tree} (x : Symbol) {t : Symbol} → lo ≤ x.at → is_prefix x ≡ true → Fit shape_of Known text (x.at + 1) e t → Fit shape_of Known text lo (unary x.at x.number e) t
  unfolding Known
  fit-unary {e} x from q h =
      let o = prefix-operator x q in
      record { sound = h.sound; tidy = within-before _ _ _ x.number (shape_of e) from (omega arith) h.tidy; fits = (o.0, o.1, h.fits) }

  fit-call : {xs : Arguments} {t : Symbol} (p f : ℕ) → lo ≤ p → function_tag f < question_tag → Fit shapes_of KnownAll text (p + 1) xs t → Fit shape_of Known text lo (call p f xs) t
  unfolding Known
  fit-call {xs} p f from small h = record { sound = h.sound; tidy = within-before _ _ _ (function_tag f) (shapes_of xs) from (omega arith) h.tidy; fits = (small, h.fits) }

  fit-bare : {t : Symbol} (p f : ℕ) → lo ≤ p → function_tag f < question_tag → p + 1 < t.at → Sound text t → Fit shape_of Known text lo (bare p f) t
  unfolding Known Within
  fit-bare p f from small less s = record { sound = s; tidy = (from, less, omega arith, omega arith); fits = small }

  fit-literal : {x t : Symbol} → lo ≤ x.at → Past text is_literal x t → Fit shape_of Known text lo (literal x.at (form_of x)) t
  unfolding Known Within
  fit-literal {x} from p =
      let most = in-range 22 33 x.number p.passed in
      record { sound = p.on.sound; tidy = (from, omega (arith, p.on.from), omega arith); fits = omega arith }

  fit-variable : {x t : Symbol} → From text lo x → Past text (is symbol.variable) x t → Fit shape_of Known text lo (variable x.at 0) t
  unfolding Known Within
  fit-variable {x} i p =
      let long = i.sound.long (eqb-true x.number 35 p.passed) in
      record { sound = p.on.sound; tidy = (i.from, omega (arith, p.later), omega arith, omega arith); fits = tt }

  fit-pick : {e : Tree} {x t : Symbol} (i : ℕ) → pick_tag i < tags → Fit shape_of Known text lo e x → x.at + 1 < t.at → Sound text t → Fit shape_of Known text lo (pick x.at i e) t
  unfolding Known Within
  fit-pick {e} i small h less s = record { sound = s; tidy = (within-le (shape_of e) h.tidy, less, omega arith, h.tidy); fits = (small, h.fits) }

-- ---- the levels

module _ (text : List ℕ) where
  mutual
    unfolding expression_from

    expression-fits : (f lo : ℕ) (s : Symbol) → From text lo s → Fits shape_of Known text lo (expression_from text (in_text text) f) s
    expression-fits zero lo s i = fits-nothing
    expression-fits (suc f) lo s i =
        fits-then (level-fits f levels lo s i) (λ c x h.
        fits-ask _ (low-is question (omega arith)) h.sound (λ t p. fits-then (branches-fits f (x.at + 1) t p.on) (λ b u k. fits-part (fit-chosen b h k))) (fits-part h))

    branches-fits : (f lo : ℕ) (s : Symbol) → From text lo s → Fits branches_shape KnownBranches text lo (branches_from text (in_text text) f) s
    branches-fits zero lo s i = fits-nothing
    branches-fits (suc f) lo s i =
        fits-then (expression-fits f lo s i) (λ a x h.
        fits-ask _ (low-is colon (omega arith)) h.sound (λ t p. fits-then (expression-fits f (x.at + 1) t p.on) (λ b u k. fits-part (fit-branches h k))) fits_refused)

    level-fits : (f k lo : ℕ) (s : Symbol) → From text lo s → Fits shape_of Known text lo (level_from text (in_text text) f k) s
    level-fits zero k lo s i = fits-nothing
    level-fits (suc f) zero lo s i = unary-fits f lo s i
    level-fits (suc f) (suc k) lo s i = fits-then (level-fits f k lo s i) (λ e x h. tail-fits f k lo e x h)

    tail-fits : (f k lo : ℕ) (e : Tree) (x : Symbol) → Fit shape_of Known text lo e x → Fits shape_of Known text lo (tail_from text (in_text text) f k e) x
    tail-fits zero k lo e x h = fits-nothing
    tail-fits (suc f) k lo e x h =
        fits-ask _ (low-operator k) h.sound (λ t p.
        fits-then (level-fits f k (x.at + 1) t p.on) (λ d u i. tail-fits f k lo (binary x.at x.number e d) u (fit-binary (operator-passed k x p.passed) h i))) (fits-part h)

    unary-fits : (f lo : ℕ) (s : Symbol) → From text lo s → Fits shape_of Known text lo (unary_from text (in_text text) f) s
    unary-fits zero lo s i = fits-nothing
    unary-fits (suc f) lo s i =
        fits-ask _ low-prefix i.sound (λ t p. fits-then (unary-fits f (s.at + 1) t p.on) (λ e u h. fits-part (fit-unary s i.from p.passed h))) (postfix-fits f lo s i)

    postfix-fits : (f lo : ℕ) (s : Symbol) → From text lo s → Fits shape_of Known text lo (postfix_from text (in_text text) f) s
    postfix-fits zero lo s i = fits-nothing
    postfix-fits (suc f) lo s i = fits-then (primary-fits f lo s i) (λ e x h. picks-fits f lo e x h)

    picks-fits : (f lo : ℕ) (e : Tree) (x : Symbol) → Fit shape_of Known text lo e x → Fits shape_of Known text lo (picks_from text (in_text text) f e) x
    picks-fits zero lo e x h = fits-nothing
    picks-fits (suc f) lo e x h =
        fits-ask _ (low-is dot (omega arith)) h.sound
        (λ y p. fits-ask _ low_word p.on.sound (λ t q.
        picks-fits f lo (pick x.at (member_of text y) e) t (fit-pick (member_of text y) (member-known text y) h (omega (arith, p.on.from, q.on.from)) q.on.sound)) fits_refused)
        (fits-ask _ (low-is open_square (omega arith)) h.sound
        (λ y p. fits-ask _ low-index p.on.sound
        (λ z q. fits-ask _ (low-is close_square (omega arith)) q.on.sound
        (λ t r. picks-fits f lo (pick x.at (index_of y) e) t
        (fit-pick (index_of y) (omega (arith, in-range 22 25 y.number q.passed)) h (omega (arith, p.on.from, q.on.from, r.on.from)) r.on.sound)) fits_refused) fits_refused)
        (fits-part h))

    primary-fits : (f lo : ℕ) (s : Symbol) → From text lo s → Fits shape_of Known text lo (primary_from text (in_text text) f) s
    primary-fits zero lo s i = fits-nothing
    primary-fits (suc f) lo s i =
        fits-ask _ low-literal i.sound (λ t p. fits-part (fit-literal i.from p))
        (fits-ask _ (low-is symbol.variable (omega arith)) i.sound (λ t p. fits-part (fit-variable i p))
        (fits-ask _ (low-is open_round (omega arith)) i.sound
        (λ t p. fits-then (expression-fits f lo t (from-wider (s.at + 1) lo (omega (arith, i.from)) p.on)) (λ e x h. fits-closed h))
        (fits-ask _ (low-is word (omega arith)) i.sound (λ t p. call_fits f lo s t i.from p.on) fits_refused)))

    call_fits : (f lo : ℕ) (x s : Symbol) → lo ≤ x.at → From text (x.at + 1) s → Fits shape_of Known text lo (call_from text (in_text text) f x) s
    call_fits zero lo x s from i = fits-nothing
    call_fits (suc f) lo x s from i =
        let small = function-known text x in
        fits-ask _ (low-is open_round (omega arith)) i.sound (λ y p.
        fits-ask _ (low-is close_round (omega arith)) p.on.sound
        (λ z q. fits-part (fit-bare x.at (function_of text x) from small (omega (arith, i.from, p.on.from, q.on.from)) q.on.sound))
        (fits-then (fits-then (arguments-fits f (x.at + 1) y (from-wider (s.at + 1) (x.at + 1) (omega (arith, i.from)) p.on)) (λ xs t h. fits-closed h))
        (λ xs t h. fits-part (fit-call x.at (function_of text x) from small h)))) fits_refused

    arguments-fits : (f lo : ℕ) (s : Symbol) → From text lo s → Fits shapes_of KnownAll text lo (arguments_from text (in_text text) f) s
    arguments-fits zero lo s i = fits-nothing
    arguments-fits (suc f) lo s i =
        fits-then (expression-fits f lo s i) (λ e x h.
        fits-ask _ (low-is comma (omega arith)) h.sound (λ t p. fits-then (arguments-fits f (x.at + 1) t p.on) (λ xs u k. fits-part (fit_next h k))) (fits-part (fit-last h)))

-- ---- the tree of a text

whole-fits : (text : List ℕ) → FitsIn shape_of Known text 0 (parse_of text)
unfolding parse_of
whole-fits text = (fits-then (expression-fits text (steps_for text) 0 (symbol_at text 0) (record { sound = sound-at text 0; from = omega arith })) (λ e t h. fits-end h)).gives

pub parsed-fits : (text : List ℕ) (e : Tree) (y : Symbol) → parse_of text ≡ part e y → Within 0 (length text) (shape_of e) × Known e
parsed-fits text e y h =
    let d : Fit shape_of Known text 0 e y = subst (FitsIn shape_of Known text 0) h (whole-fits text) in
    (within_wider 0 (length text) (shape_of e) (omega arith) (omega (arith, d.sound.order, d.sound.inside)) d.tidy, d.fits)

-- ---- the tree that was judged

module _ (text : List ℕ) where
  abbrev Right : Tree → Type 0
  Right e = (length text ≤ most_bytes) × (height_of e ≤ most_height) × Within 0 (length text) (shape_of e) × Known e

  abbrev IfFine : Judged Tree → Type 0
  IfFine (fine e) = Right e
  IfFine (judged.refused r) = Unit {0}

  names-right : (l : Option ℕ) (e : Tree) → Right e → IfFine (by_names l e)
  names-right (Some p) e h = tt
  names-right None e h = h

  height-right : (b : Bool) (e : Tree) → ltb most_height (height_of e) ≡ b → (height_of e ≤ most_height → Right e) → IfFine (by_height b text e)
  height-right true e q h = tt
  height-right false e q h = names-right (leftmost_of (unknown_in text e)) e (h (ltb-false most_height (height_of e) q))

  grammar-right : (r : Parse Symbol Tree) → parse_of text ≡ r → length text ≤ most_bytes → IfFine (by_grammar r text)
  grammar-right (part e y) q most = height-right (ltb most_height (height_of e)) e refl (λ low. (let d = parsed-fits text e y q in (most, low, d.0, d.1)))
  grammar-right (refused y) q most = tt
  grammar-right spent q most = tt

  tokens-right : (v : Judged (Unit {0})) → length text ≤ most_bytes → IfFine (by_tokens v text)
  tokens-right (judged.refused r) most = tt
  tokens-right (fine a) most = grammar-right (parse_of text) refl most

  size-right : (b : Bool) → ltb most_bytes (length text) ≡ b → IfFine (by_size b text)
  size-right true q = tt
  size-right false q = tokens-right (scan_of text) (ltb-false most_bytes (length text) q)

  judged-right : IfFine (judged_of text)
  unfolding judged_of
  judged-right = size-right (ltb most_bytes (length text)) refl

pub judged-fits : (text : List ℕ) (e : Tree) → judged_of text ≡ fine e → (length text ≤ most_bytes) × (height_of e ≤ most_height) × Within 0 (length text) (shape_of e) × Known e
judged-fits text e h = subst (IfFine text) h (judged-right text)

-- The slots after a call hold the tree that was judged, and are as many as before.
pub slots-hold : (text w : List ℕ) (e : Tree) → judged_of text ≡ fine e → length text ≤ length w → Holds (slots_after w text) (shape_of e) × (length (slots_after w text) ≡ length w)
slots-hold text w e judged room =
    let n = length text in
    let d = judged-fits text e judged in
    let own = take n w in
    let size = length-lay own (shape_of e) in
    let enough : n ≤ length own = rw (length-take n w) (omega arith) in
    let held = holds_more (store own e) (drop n w) 0 n (shape_of e) d.2 (omega arith) (holds-lay own 0 n (shape_of e) d.2 d.0 enough) in
    let whole : length (store own e ++ drop n w) ≡ length w = omega (arith, length-append (store own e) (drop n w), length-take n w, length-drop n w) in
    rw (le-ltb (length w) n room, judged) (held, whole)

-- So what a call laid into the slots is read back from them as the tree that was judged.
pub read-judged : (text w : List ℕ) (e : Tree) (h : ℕ) → judged_of text ≡ fine e → length text ≤ length w → height_of e ≤ h → tree_at h (slots_after w text) (place e) ≡ e
read-judged text w e h judged room low =
    let d = judged-fits text e judged in
    read_back (slots_after w text) 0 (length text) e h d.2 d.3 d.0 (slots-hold text w e judged room).0 ∙ pruned-low e h low
