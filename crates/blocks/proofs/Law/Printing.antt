-- The lines of a block in turn: what is printed from a place on, and what the loop knows there.
use mathlib.Core.Path.{◌≡◌, refl, sym, ◌∙◌, ap, subst}
use mathlib.Core.Bool.{Bool, true, false, cond, ◌&&◌, ◌||◌, not, false≢true}
use mathlib.Core.List.{List, [], ◌∷◌, ◌++◌, append_assoc, append-nil}
use Prim.Native.Nat.{ℕ, zero, suc, ◌+◌, ◌-◌, ◌≤◌, ◌<◌, min, max}
use native.Mathlib.Omega.{arith}
use borrow.Author.Tests.{ltb-true, ltb-false, lt-ltb, le-ltb, leb-true, leb-false, le-leb, lt-leb}
use lib.Dec.{eqb, ltb, leb}
use lib.ListN.{length, get_or, take, drop, length-append, length-take, length-drop, drop_of_length-le}
use lib.Seq.{take-nil, take_all, take_at, drop-drop, drop_at}
use Rattle.lexer.specs.Bytes.{run}
use Rattle.lexer.proofs.Law.Spelling.{slice_is}
use Rattle.value.specs.declared.value.Value.{Value}
use Rattle.text.specs.Parts.{lines, bytes_of, end_from}
use Rattle.text.proofs.Law.Parts.{lines_from, end-from, end-within}
use Rattle.feature.specs.Feature.{feature_size}
use Rattle.style.specs.Answer.{Answer}
use Rattle.output.specs.Line.{longest_line, front}
use Rattle.painter.specs.declared.answer.Given.{Given}
use Rattle.painter.specs.Paint.{feature_line}
use Rattle.painter.proofs.Printed.{line-fits, printed-whole}
use Rattle.painter.specs.Applied.{source, given_under, given_values}
use Rattle.blocks.proofs.Law.Left.{left-whole, left-some, left-none}
use Rattle.blocks.specs.Ledger.{last_number}
use Rattle.blocks.specs.Block.{whole_lines, texts_by, fitting, no_values, printed_of, joined, on_page, surplus, used_by, progress_of, is_whole, is_next, left_from, Advances}

-- ---- lists

-- the lines behind so many
behind : (k : ℕ) (l : List ℕ) (ls ms : List (List ℕ)) → drop k ls ≡ l ∷ ms →
    (bytes_of (take (suc k) ls) ≡ bytes_of (take k ls) + suc (length l)) × (drop (suc k) ls ≡ ms)
behind zero l [] ms e = absurd (let n : 0 ≡ suc (length ms) = ap length e in omega arith)
behind zero l (m ∷ ls) ms e =
    let size : length m ≡ length l = ap (λ (x : List (List ℕ)). length (get_or x 0 [])) e in
    (omega (arith, size), ap (drop 1) e)
behind (suc k) l [] ms e = absurd (let n : 0 ≡ suc (length ms) = ap length e in omega arith)
behind (suc k) l (m ∷ ls) ms e = let r = behind k l ls ms e in (omega (arith, r.0), r.1)

-- texts behind texts
joined-more : (ts : List (List ℕ)) (t : List ℕ) → joined (ts ++ t ∷ []) ≡ joined ts ++ t
joined-more [] t = append-nil t
joined-more (s ∷ ts) t = ap (λ (x : List ℕ). s ++ x) (joined-more ts t) ∙ sym (append_assoc s (joined ts) t)

-- both of two
and_left : (s t : Bool) → (s && t) ≡ true → s ≡ true
and_left true t e = refl
and_left false t e = e

and_right : (s t : Bool) → (s && t) ≡ true → t ≡ true
and_right true t e = e
and_right false t e = absurd (false≢true e)

-- what is known of a line that is next
next-is : (at end size : ℕ) (ends : Bool) (n room : ℕ) → is_next (is_whole at end size ends) n room ≡ true →
    (at < size) × ((ltb end size || ends) ≡ true) × (n ≤ last_number) × (longest_line ≤ room)
next-is at end size ends n room e =
    let whole = ltb end size || ends in
    let able = leb n last_number && leb longest_line room in
    let w = and_left (ltb at size && whole) able e in
    let b = and_right (ltb at size && whole) able e in (
      ltb-true at size (and_left (ltb at size) whole w),
      and_right (ltb at size) whole w,
      leb-true n last_number (and_left (leb n last_number) (leb longest_line room) b),
      leb-true longest_line room (and_right (leb n last_number) (leb longest_line room) b),
    )

-- ---- bytes that are left

surplus-some : (bytes : List ℕ) → length bytes ≤ run (λ x. not (eqb x 10)) bytes → surplus bytes ≡ length bytes - suc feature_size
surplus-some bytes h = rw (le-leb (length bytes) (run (λ x. not (eqb x 10)) bytes) h)

surplus-none : (bytes : List ℕ) → run (λ x. not (eqb x 10)) bytes < length bytes → surplus bytes ≡ 0
surplus-none bytes h = rw (lt-leb (length bytes) (run (λ x. not (eqb x 10)) bytes) h)

-- ---- a page

-- a text behind those that are on a page, written into the part behind them
page-more : (out₀ : List ℕ) (ts : List (List ℕ)) (t : List ℕ) (out : List ℕ) → out ≡ on_page out₀ ts → (n : ℕ) → n ≡ length (joined ts) →
    take n out ++ ((t ++ drop (length t) (take (length out - n) (drop n out))) ++ drop (length out - n) (drop n out)) ≡ on_page out₀ (ts ++ t ∷ [])
unfolding on_page
page-more out₀ ts t out e n size =
    let front = joined ts in
    let d = drop (length front) out₀ in
    let head : take n out ≡ front = ap (take n) e ∙ take_at front d n (sym size) in
    let tail : drop n out ≡ d = ap (drop n) e ∙ drop_at front d n (sym size) in
    let left : length out - n ≡ length d = omega (arith, ap length e, length-append front d, size) in
    let behind : drop (length t) d ≡ drop (length (front ++ t)) out₀ =
    drop-drop (length t) (length front) out₀ ∙ ap (λ (m : ℕ). drop m out₀) (sym (length-append front t)) in
    rw (head, tail, left, take_all (length d) d (omega arith), drop_of_length-le d {i = length d} (omega arith), append-nil (t ++ drop (length t) d), behind, joined-more ts t)
    (sym (append_assoc front t (drop (length (front ++ t)) out₀)))

-- ---- what is printed from a place on

module _ (head plan room block : List ℕ) (ends : Bool) where
  abbrev say : ℕ → List ℕ → List Value → List ℕ
  say n l a = feature_line n (given_under (source head l room plan) n a)

  abbrev after : ℕ → List ℕ → List Value → List Value
  after n l a = given_values (source head l room plan) n a

  abbrev from_lines : ℕ → ℕ → List Value → List (List ℕ) → List (List ℕ)
  from_lines n size a ls = fitting size (texts_by say after n a (take (suc last_number - n) ls))

  unfoldable pub rest : ℕ → ℕ → ℕ → List Value → List (List ℕ)
  rest at n size a = from_lines n size a (whole_lines ends (length block - at) (lines (drop at block)))

  nothing : (n size : ℕ) (a : List Value) → from_lines n size a [] ≡ []
  nothing n size a = ap (λ (ls : List (List ℕ)). fitting size (texts_by say after n a ls)) (take-nil (suc last_number - n))

  -- a line is printed first
  first-line : (n size : ℕ) (a : List Value) (l : List ℕ) (ls : List (List ℕ)) → n ≤ last_number → longest_line ≤ size →
      from_lines n size a (l ∷ ls) ≡ say n l a ∷ from_lines (suc n) (size - length (say n l a)) (after n l a) ls
  first-line n size a l ls h k =
      let m : suc last_number - n ≡ suc (suc last_number - suc n) = omega arith in
      ap (λ (i : ℕ). fitting size (texts_by say after n a (take i (l ∷ ls)))) m ∙ rw (le-leb longest_line size k)

  no_line : (n size : ℕ) (a : List Value) (l : List ℕ) (ls : List (List ℕ)) → (leb n last_number && leb longest_line size) ≡ false → from_lines n size a (l ∷ ls) ≡ []
  no_line n size a l ls h = by_number (leb n last_number) refl
    where
      by_number : (t : Bool) → leb n last_number ≡ t → from_lines n size a (l ∷ ls) ≡ []
      by_number false e =
          let m : suc last_number - n ≡ 0 = omega (arith, leb-false n last_number e) in
          ap (λ (i : ℕ). fitting size (texts_by say after n a (take i (l ∷ ls)))) m
      by_number true e =
          let m : suc last_number - n ≡ suc (suc last_number - suc n) = omega (arith, leb-true n last_number e) in
          let k : leb longest_line size ≡ false = ap (λ (t : Bool). t && leb longest_line size) (sym e) ∙ h in
          ap (λ (i : ℕ). fitting size (texts_by say after n a (take i (l ∷ ls)))) m ∙ rw k

  module _ (at end n size : ℕ) (a : List Value) (ends_at : end ≡ end_from 10 block at) where
    abbrev line : List ℕ
    line = take (end - at) (drop at block)

    module _ (inside : at < length block) where
      line-end : end ≤ length block
      line-end = rw ends_at (end-within 10 block at (omega arith))

      line-length : length line ≡ end - at
      line-length = omega (arith, length-take (end - at) (drop at block), length-drop at block, line-end)

      here : lines (drop at block) ≡ line ∷ lines (drop (end + 1) block)
      here = rw (← slice_is at end block, ends_at) (lines_from block at inside)

      -- whether the line is whole
      whole_here : (ltb (length line) (length block - at) || ends) ≡ (ltb end (length block) || ends)
      whole_here = ap (λ (t : Bool). t || ends) (by (ltb end (length block)) refl)
        where
          by : (t : Bool) → ltb end (length block) ≡ t → ltb (length line) (length block - at) ≡ ltb end (length block)
          by true e = lt-ltb (length line) (length block - at) (omega (arith, line-length, ltb-true end (length block) e, ends_at)) ∙ sym e
          by false e = le-ltb (length line) (length block - at) (omega (arith, line-length, ltb-false end (length block) e)) ∙ sym e

      from-here : (w : Bool) → (ltb end (length block) || ends) ≡ w →
          whole_lines ends (length block - at) (lines (drop at block)) ≡
          cond w (line ∷ whole_lines ends (length block - (end + 1)) (lines (drop (end + 1) block))) []
      from-here w e =
          let m : length block - at - suc (length line) ≡ length block - (end + 1) = omega (arith, line-length, line-end, ends_at) in
          ap (whole_lines ends (length block - at)) here ∙ rw (whole_here, e, m)

    -- the next line is printed, or none is
    turn : is_next (is_whole at end (length block) ends) n size ≡ true → rest at n size a ≡ say n line a ∷ rest (end + 1) (n + 1) (size - length (say n line a)) (after n line a)
    unfolding rest
    turn e =
        let next : suc n ≡ n + 1 = omega arith in
        let is = next-is at end (length block) ends n size e in
        ap (from_lines n size a) (from-here is.0 true is.1) ∙ first-line n size a line _ is.2 is.3
        ∙ ap
        (λ (m : ℕ).
        say n line a ∷ from_lines m (size - length (say n line a)) (after n line a) (whole_lines ends (length block - (end + 1)) (lines (drop (end + 1) block))))
        next

    stop : is_next (is_whole at end (length block) ends) n size ≡ false → rest at n size a ≡ []
    unfolding rest
    stop e = by (ltb at (length block)) refl
      where
        by_whole : (inside : at < length block) (w : Bool) → (ltb end (length block) || ends) ≡ w → (ltb at (length block) ≡ true) → rest at n size a ≡ []
        by_whole inside false k q = ap (from_lines n size a) (from-here inside false k) ∙ nothing n size a
        by_whole inside true k q =
            let able = leb n last_number && leb longest_line size in
            let whole = ltb end (length block) || ends in
            ap (from_lines n size a) (from-here inside true k)
            ∙ no_line n size a line _ (sym (ap (λ (t : Bool). t && whole && able) q ∙ ap (λ (t : Bool). t && able) k) ∙ e)

        by : (t : Bool) → ltb at (length block) ≡ t → rest at n size a ≡ []
        by true q = by_whole (ltb-true at (length block) q) (ltb end (length block) || ends) refl q
        by false q =
            let none : drop at block ≡ [] = drop_of_length-le block {i = at} (ltb-false at (length block) q) in
            ap (λ (s : List ℕ). from_lines n size a (whole_lines ends (length block - at) (lines s))) none ∙ nothing n size a

  -- ---- the loop

  -- what is known behind some lines: they are what is printed of the block, up to what the rest gives
  pub record Sofar (first : ℕ) (out₀ out : List ℕ) (a : List Value) (at end number printed : ℕ) : Type 0 where
    pub done : List (List ℕ)
    pub all : printed_of head plan room block first ends (length out₀) ≡ done ++ rest at number (length out₀ - printed) a
    pub counted : number ≡ first + length done
    pub wrote : out ≡ on_page out₀ done
    pub bytes : printed ≡ length (joined done)
    pub fits : printed ≤ length out₀
    pub most : number ≤ max first (suc last_number)
    pub used : bytes_of (take (length done) (lines block)) ≡ at
    pub left : lines (drop at block) ≡ drop (length done) (lines block)
    pub ended : end ≡ end_from 10 block at
    pub near : at ≤ length block + 1

  -- an end that is known to be the line's
  pub at-end : (first : ℕ) (out₀ out : List ℕ) (a : List Value) (at number printed : ℕ) → Sofar first out₀ out a at (end_from 10 block at) number printed →
      (end : ℕ) → end ≡ end_from 10 block at → Sofar first out₀ out a at end number printed
  at-end first out₀ out a at number printed s end e = subst (λ (n : ℕ). Sofar first out₀ out a at n number printed) (sym e) s

  pub at_first : (first : ℕ) (out : List ℕ) → Sofar first out out no_values 0 (end_from 10 block 0) first 0
  unfolding printed_of rest on_page
  at_first first out =
      let whole : length block ≡ length block - 0 = omega arith in
      let wide : length out ≡ length out - 0 = omega arith in
      record {
        done = [];
        all = ap (λ (m : ℕ). from_lines first (length out) no_values (whole_lines ends m (lines block))) whole ∙ ap (λ (m : ℕ). rest 0 first m no_values) wide;
        counted = omega arith;
        wrote = refl;
        bytes = refl;
        fits = omega arith;
        most = omega arith;
        used = refl;
        left = refl;
        ended = refl;
        near = omega arith;
      }

  module _ (first : ℕ) (out₀ out : List ℕ) (a : List Value) (at end number printed : ℕ) (s : Sofar first out₀ out a at end number printed) where
    pub same_size : length out ≡ length out₀
    unfolding on_page
    same_size = ap length s.wrote ∙ length-append (joined s.done) _ ∙ omega (arith, length-drop (length (joined s.done)) out₀, s.bytes, s.fits)

    pub room-left : printed ≤ length out
    room-left = omega (arith, s.fits, same_size)

    pub end-behind : at ≤ end
    end-behind = rw s.ended (end-from 10 block at)

    -- whether a line is next, as the two functions answer
    pub asked : (whole next : Bool) → whole ≡ is_whole at end (length block) ends → next ≡ is_next whole number (length out - printed) →
        (t : Bool) → next ≡ t → is_next (is_whole at end (length block) ends) number (length out - printed) ≡ t
    asked whole next w e t q = ap (λ (b : Bool). is_next b number (length out - printed)) (sym w) ∙ sym e ∙ q

    module _ (more : is_next (is_whole at end (length block) ends) number (length out - printed) ≡ true) where
      abbrev text : List ℕ
      text = say number (line at end number 0 a s.ended) a

      pub known : (at < length block) × ((ltb end (length block) || ends) ≡ true) × (number ≤ last_number) × (longest_line ≤ length out - printed)
      known = next-is at end (length block) ends number (length out - printed) more

      pub end-inside : end ≤ length block
      end-inside = line-end at end number 0 a s.ended known.0

      -- the text that is printed, as it comes back with the part of the page behind the others
      module _ (answer : Answer Given) (told : answer ≡ given_under (source head (line at end number 0 a s.ended) room plan) number a) (part : List ℕ) (bytes : ℕ) (a' : List Value)
          (is : (part, bytes) ≡ front (take (length out - printed) (drop printed out)) (feature_line number answer)) (kept : a' ≡ after number (line at end number 0 a s.ended) a) where
        wide : longest_line ≤ length (take (length out - printed) (drop printed out))
        wide = omega (arith, known.3, length-take (length out - printed) (drop printed out), length-drop printed out)

        whole : ◌≡◌ {A = List ℕ × ℕ} (part, bytes) (text ++ drop (length text) (take (length out - printed) (drop printed out)), length text)
        whole = is ∙ ap (λ (x : Answer Given). front (take (length out - printed) (drop printed out)) (feature_line number x)) told ∙ printed-whole number (given_under (source head (line at end number 0 a s.ended) room plan) number a) _ wide

        pub bytes-are : bytes ≡ length text
        bytes-are = ap (λ (p : List ℕ × ℕ). p.1) whole

        pub short : printed + bytes ≤ length out
        short = omega (arith, bytes-are, line-fits number (given_under (source head (line at end number 0 a s.ended) room plan) number a), known.3)

        pub on-next : Sofar first out₀ (take printed out ++ (part ++ drop (length out - printed) (drop printed out))) a' (end + 1) (end_from 10 block (end + 1)) (number + 1) (printed + bytes)
        on-next =
            let l = line at end number 0 a s.ended in
            let count : length (s.done ++ text ∷ []) ≡ suc (length s.done) = length-append s.done (text ∷ []) ∙ omega arith in
            let step = behind (length s.done) l (lines block) (lines (drop (end + 1) block)) (sym s.left ∙ here at end number 0 a s.ended known.0) in
            let turned : rest at number (length out - printed) a ≡ text ∷ rest (end + 1) (number + 1) (length out - printed - length text) (after number l a) =
            turn at end number (length out - printed) a s.ended more in
            let room : length out₀ - printed ≡ length out - printed = omega (arith, same_size) in
            let less : length out - printed - length text ≡ length out₀ - (printed + bytes) = omega (arith, same_size, bytes-are) in
            record {
              done = s.done ++ text ∷ [];
              all =
                  s.all
                  ∙ ap (λ (m : ℕ). s.done ++ rest at number m a) room
                  ∙ ap (λ (x : List (List ℕ)). s.done ++ x) (turned ∙ (λ i. text ∷ rest (end + 1) (number + 1) (less i) (sym kept i)))
                  ∙ sym (append_assoc s.done (text ∷ []) (rest (end + 1) (number + 1) (length out₀ - (printed + bytes)) a'));
              counted = omega (arith, s.counted, count);
              wrote = ap (λ (p : List ℕ). take printed out ++ (p ++ drop (length out - printed) (drop printed out))) (ap (λ (p : List ℕ × ℕ). p.0) whole) ∙ page-more out₀ s.done text out s.wrote printed s.bytes;
              bytes = omega (arith, s.bytes, bytes-are, ap length (joined-more s.done text), length-append (joined s.done) text);
              fits = omega (arith, short, same_size);
              most = omega (arith, known.2);
              used = ap (λ (k : ℕ). bytes_of (take k (lines block))) count ∙ step.0 ∙ omega (arith, s.used, line-length at end number 0 a s.ended known.0, end-behind);
              left = sym (ap (λ (k : ℕ). drop k (lines block)) count ∙ step.1);
              ended = refl;
              near = omega (arith, end-inside);
            }

    -- nothing is printed any more
    module _ (over : is_next (is_whole at end (length block) ends) number (length out - printed) ≡ false) where
      all_done : printed_of head plan room block first ends (length out₀) ≡ s.done
      all_done =
          let room : length out₀ - printed ≡ length out - printed = omega (arith, same_size) in
          s.all ∙ ap (λ (x : List (List ℕ)). s.done ++ x) (ap (λ (m : ℕ). rest at number m a) room ∙ stop at end number (length out - printed) a s.ended over) ∙ append-nil s.done

      pub page-is : out ≡ on_page out₀ (printed_of head plan room block first ends (length out₀))
      page-is = s.wrote ∙ ap (on_page out₀) (sym all_done)

      from_is : used_by block (length s.done) ≡ min at (length block)
      from_is = ap (λ (k : ℕ). min k (length block)) s.used

      left_is : min at (length block) + surplus (drop (min at (length block)) block) ≡ left_from at end (length block)
      left_is = by (ltb at (length block)) refl
        where
          some : at < length block → (t : Bool) → ltb end (length block) ≡ t → at + surplus (drop at block) ≡ left_from at end (length block)
          some h true q =
              let n : run (λ x. not (eqb x 10)) (drop at block) < length (drop at block) = omega (arith, s.ended, length-drop at block, ltb-true end (length block) q) in
              omega (arith, surplus-none (drop at block) n, left-whole at end (length block) (ltb-true end (length block) q))
          some h false q =
              let n : length (drop at block) ≤ run (λ x. not (eqb x 10)) (drop at block) = omega (arith, s.ended, length-drop at block, ltb-false end (length block) q) in
              omega (arith, surplus-some (drop at block) n, length-drop at block, left-some at end (length block) (ltb-false end (length block) q))

          by : (t : Bool) → ltb at (length block) ≡ t → min at (length block) + surplus (drop (min at (length block)) block) ≡ left_from at end (length block)
          by true q =
              let m : min at (length block) ≡ at = omega (arith, ltb-true at (length block) q) in
              ap (λ (u : ℕ). u + surplus (drop u block)) m ∙ some (ltb-true at (length block) q) (ltb end (length block)) refl
          by false q =
              let m : min at (length block) ≡ length block = omega (arith, ltb-false at (length block) q) in
              let none : drop (length block) block ≡ [] = drop_of_length-le block {i = length block} (omega arith) in
              let far : length block ≤ end = omega (arith, s.ended, ltb-false at (length block) q) in
              ap (λ (u : ℕ). u + surplus (drop u block)) m
              ∙ ap (λ (x : List ℕ). length block + surplus x) none
              ∙ omega (arith, surplus-some [] (omega arith), left-none at end (length block) far (ltb-false at (length block) q))

      pub progress-is : (from : ℕ) → from ≡ left_from at end (length block) →
          record { at = from; number = number; printed = printed } ≡ progress_of block first (printed_of head plan room block first ends (length out₀))
      unfolding progress_of
      progress-is from e =
          let place : from ≡ used_by block (length s.done) + surplus (drop (used_by block (length s.done)) block) =
          e ∙ sym (ap (λ (u : ℕ). u + surplus (drop u block)) from_is ∙ left_is) in
          (λ i. record { at = place i; number = s.counted i; printed = s.bytes i }) ∙ ap (progress_of block first) (sym all_done)

      -- with room and a number for a line none is whole
      none-whole : number ≤ last_number → longest_line ≤ length out - printed → length block ≤ end
      none-whole h k = by (ltb at (length block)) refl (ltb end (length block)) refl
        where
          by : (s : Bool) → ltb at (length block) ≡ s → (t : Bool) → ltb end (length block) ≡ t → length block ≤ end
          by false p t q = omega (arith, ltb-false at (length block) p, end-behind)
          by true p false q = ltb-false end (length block) q
          by true p true q = absurd (false≢true (sym over ∙ rw (p, q, le-leb number last_number h, le-leb longest_line (length out - printed) k)))

      left-inside : left_from at end (length block) ≤ length block
      left-inside = by (ltb end (length block)) refl
        where
          by : (t : Bool) → ltb end (length block) ≡ t → left_from at end (length block) ≤ length block
          by true q = omega (arith, left-whole at end (length block) (ltb-true end (length block) q), ltb-true end (length block) q, end-behind)
          by false q = omega (arith, left-some at end (length block) (ltb-false end (length block) q))

      counted-on : (ts : List (List ℕ)) → 0 < length (joined ts) → 0 < length ts
      counted-on [] h = absurd (omega (arith, h))
      counted-on (t ∷ ts) h = omega arith

      pub advances : (from : ℕ) → from ≡ left_from at end (length block) → Advances block out₀ first (record { at = from; number = number; printed = printed })
      advances from e =
          record {
            inside = omega (arith, e, left-inside);
            fits = s.fits;
            counts = λ h. omega (arith, s.counted, counted-on s.done (omega (arith, s.bytes, h)));
            most = s.most;
            left = λ h k. omega (arith, e, left-some at end (length block) (none-whole h (omega (arith, k, same_size))));
          }
