-- The search of a window: what it says of the head, whatever bytes come behind the window.
use Rattle.std.specs.Prelude.{Result, Ok, Err}
use mathlib.Core.Path.{◌≡◌, refl, sym, ◌∙◌, ap, subst}
use mathlib.Core.Bool.{Bool, true, false, cond, false≢true}
use mathlib.Core.List.{List, [], ◌∷◌, ◌++◌, append_assoc, append-nil}
use Prim.Native.Nat.{ℕ, suc, ◌+◌, ◌<◌, ◌≤◌, min}
use native.Mathlib.Omega.{arith}
use borrow.Author.Tests.{lt-ltb, ltb-true}
use lib.Dec.{ltb}
use lib.ListN.{length, drop, length-append, length-drop}
use lib.Seq.{drop-drop, drop-append-le}
use Rattle.lexer.proofs.Law.Runs.{by-test}
use Rattle.text.specs.Parts.{lines}
use Rattle.text.specs.Head.{is_feature, before_features, head_end}
use Rattle.blocks.specs.Opening.{search_in, search_of}
use Rattle.blocks.specs.Run.{Opened}
use Rattle.blocks.proofs.Law.Lines.{split}

-- by the first line
pub before-first : (l : List ℕ) (ls : List (List ℕ)) (t : Bool) → is_feature l ≡ t →
    before_features (l ∷ ls) ≡ cond t 0 (suc (length l + before_features ls))
unfolding before_features
before-first l ls t e = rw e

-- ---- what is known of a head, whatever comes behind a text

-- it ends at a place (true), or goes on from there (false)
pub record Known (t : List ℕ) (found : Bool) (k : ℕ) : Type 0 where
  pub inside : k ≤ length t
  pub is : (future : List ℕ) → head_end (t ++ future) ≡ k + cond found 0 (head_end (drop k t ++ future))

start : (t : List ℕ) → Known t false 0
start t = record { inside = omega arith; is = λ future. omega arith }

-- from a place that the head reaches on
onward : (t : List ℕ) (n k : ℕ) (found : Bool) → Known t false n → Known (drop n t) found k → Known t found (n + k)
onward t n k found o p = record { inside = omega (arith, o.inside, p.inside, length-drop n t); is = go found p.is }
  where
    go : (b : Bool) → ((future : List ℕ) → head_end (drop n t ++ future) ≡ k + cond b 0 (head_end (drop k (drop n t) ++ future))) →
        (future : List ℕ) → head_end (t ++ future) ≡ n + k + cond b 0 (head_end (drop (n + k) t ++ future))
    go true q future = omega (arith, o.is future, q future)
    go false q future = omega (arith, o.is future, q future, ap (λ (l : List ℕ). head_end (l ++ future)) (drop-drop k n t))

-- with more bytes
wider : (t new : List ℕ) (n : ℕ) → Known t false n → Known (t ++ new) false n
wider t new n o = record {
  inside = omega (arith, o.inside, length-append t new);
  is = λ future.
      ap head_end (append_assoc t new future)
      ∙ o.is (new ++ future)
      ∙ ap (λ (l : List ℕ). n + head_end l) (sym (append_assoc (drop n t) new future))
      ∙ ap (λ (l : List ℕ). n + head_end (l ++ future)) (sym (drop-append-le n t new o.inside));
}

-- ---- a first line that an LF ends

module _ (t l : List ℕ) (ls : List (List ℕ)) (e : lines t ≡ l ∷ ls) (ended : length l < length t) where
  abbrev behind : List ℕ
  behind = drop (suc (length l)) t

  first_ended : (future : List ℕ) → lines (t ++ future) ≡ l ∷ lines (behind ++ future)
  first_ended future =
      let u : min (suc (length l + 0)) (length t) ≡ suc (length l) = omega arith in
      (rw (e, u, lt-ltb (length l) (length t) ended) at (split false future (λ q. absurd (false≢true q)) t 1)) (omega arith)

  pub behind-lines : lines behind ≡ ls
  behind-lines =
      let p : lines t ≡ l ∷ lines behind = simp append-nil at (first_ended []) in
      ap (drop 1) (sym p ∙ e)

  pub at-feature : is_feature l ≡ true → Known t true 0
  at-feature q = record {
    inside = omega arith;
    is = λ future. omega (arith, ap before_features (first_ended future) ∙ before-first l (lines (behind ++ future)) true q);
  }

  pub behind-line : is_feature l ≡ false → Known t false (suc (length l))
  behind-line q = record {
    inside = ended;
    is = λ future.
        omega (
          arith,
          ap before_features (first_ended future) ∙ before-first l (lines (behind ++ future)) false q,
          length-append t future,
          length-append behind future,
          length-drop (suc (length l)) t,
        );
  }

-- ---- what a search says

abbrev Says : ℕ → List ℕ → Result ℕ ℕ → Type 0
Says at t (Ok p) = (k : ℕ) × (p ≡ at + k) × Known t true k
Says at t (Err p) = (k : ℕ) × (p ≡ at + k) × Known t false k

search-says : (ls : List (List ℕ)) (at : ℕ) (t : List ℕ) → lines t ≡ ls → Says at t (search_in at (length t) ls)
search-says [] at t e = (0, omega arith, start t)
search-says (l ∷ ls) at t e =
    by-test (Says at t) (ltb (length l) (length t)) (λ q.
    let ended = ltb-true (length l) (length t) q in
    by-test (Says at t) (is_feature l) (λ f. (0, omega arith, at-feature t l ls e ended f)) (λ f.
    let p = search-says ls (at + suc (length l)) (drop (suc (length l)) t) (behind-lines t l ls e ended) in
    further (behind-line t l ls e ended f) _ (rw (length-drop (suc (length l)) t) at p)))
    (λ q. (0, omega arith, start t))
  where
    further : Known t false (suc (length l)) → (r : Result ℕ ℕ) → Says (at + suc (length l)) (drop (suc (length l)) t) r → Says at t r
    further o (Ok r) p = (suc (length l) + p.0, omega (arith, p.1), onward t (suc (length l)) p.0 true o p.2)
    further o (Err r) p = (suc (length l) + p.0, omega (arith, p.1), onward t (suc (length l)) p.0 false o p.2)

-- of a text from its first byte on
abbrev pub Told : List ℕ → Result ℕ ℕ → Type 0
Told t (Ok k) = Known t true k
Told t (Err k) = Known t false k

module _ (w : List ℕ) (from : ℕ) (new : List ℕ) where
  told : Known w false from → (r : Result ℕ ℕ) → Says from (drop from (w ++ new)) r → Told (w ++ new) r
  told o (Ok k) p = subst (Known (w ++ new) true) (sym p.1) (onward (w ++ new) from p.0 true (wider w new from o) p.2)
  told o (Err k) p = subst (Known (w ++ new) false) (sym p.1) (onward (w ++ new) from p.0 false (wider w new from o) p.2)

  pub searched-as : (r : Result ℕ ℕ) → search_of (w ++ new) from ≡ r → Known w false from → Told (w ++ new) r
  unfolding search_of
  searched-as r e o =
      let p = rw (length-drop from (w ++ new)) at (search-says (lines (drop from (w ++ new))) from (drop from (w ++ new)) refl) in
      subst (Told (w ++ new)) e (told o _ p)

-- the lines before the place from which a window is searched are of the head
pub opened : {w : List ℕ} {from : ℕ} → Opened w from → Known w false from
opened Opened.nothing = start []
opened (Opened.more {w} {from} {at} o new e) = searched-as w from new (Err at) e (opened o)
