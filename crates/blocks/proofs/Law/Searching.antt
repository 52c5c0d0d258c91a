-- The lines of a window in turn, while a head is looked for.
use Rattle.std.specs.Prelude.{Ok, Err}
use mathlib.Core.Path.{◌≡◌, refl, sym, ◌∙◌}
use mathlib.Core.Bool.{Bool, true, false, cond}
use mathlib.Core.List.{List, ◌∷◌}
use Prim.Native.Nat.{ℕ, suc, ◌+◌, ◌-◌, ◌≤◌, ◌<◌}
use native.Mathlib.Omega.{arith}
use borrow.Author.Tests.{ltb-true, ltb-false, lt-ltb, le-ltb}
use lib.Dec.{ltb}
use lib.ListN.{length, take, drop, length-take, length-drop, drop_of_length-le}
use Rattle.lexer.proofs.Law.Spelling.{slice_is}
use Rattle.text.specs.Parts.{lines, end_from}
use Rattle.text.specs.Head.{is_feature}
use Rattle.text.proofs.Law.Parts.{lines_from, end-from, end-within}
use Rattle.blocks.specs.Opening.{search_in, search_of}

-- what the search gives from here on is what it gives, and the line here ends there
module _ (window : List ℕ) (from at end : ℕ) (same : search_of window from ≡ search_of window at) (ended : end ≡ end_from 10 window at) where
  abbrev line : List ℕ
  line = take (end - at) (drop at window)

  module _ (inside : at < length window) where
    here : lines (drop at window) ≡ line ∷ lines (drop (end + 1) window)
    here = rw (← slice_is at end window, ended) (lines_from window at inside)

    line-length : length line ≡ end - at
    line-length =
        omega (arith, length-take (end - at) (drop at window), length-drop at window, ended, end-within 10 window at (omega (arith, inside)))

  -- no LF ends the line here
  pub not_found : length window ≤ end → Err at ≡ search_of window from
  unfolding search_of
  not_found h = by (ltb at (length window)) refl ∙ sym same
    where
      by : (t : Bool) → ltb at (length window) ≡ t → Err at ≡ search_in at (length window - at) (lines (drop at window))
      by true q =
          let inside = ltb-true at (length window) q in
          let long : length window - at ≤ length line = omega (arith, line-length inside, h) in
          rw (here inside, le-ltb (length line) (length window - at) long)
      by false q = rw (drop_of_length-le window {i = at} (ltb-false at (length window) q))

  module _ (h : end < length window) where
    pub order : at ≤ end
    order = rw ended (end-from 10 window at)

    found_here : search_of window at ≡ cond (is_feature line) (Ok at) (search_of window (end + 1))
    unfolding search_of
    found_here =
        let inside : at < length window = omega (arith, h, order) in
        let size : length line ≡ end - at = line-length inside in
        let short : length line < length window - at = omega (arith, size, h, order) in
        let next : at + suc (length line) ≡ end + 1 = omega (arith, size, order) in
        let left : length window - at - suc (length line) ≡ length window - (end + 1) = omega (arith, size, order, h) in
        rw (here inside, lt-ltb (length line) (length window - at) short, next, left)

    pub found_it : (t : Bool) → t ≡ is_feature line → t ≡ true → Ok at ≡ search_of window from
    found_it t e q = sym (same ∙ found_here ∙ rw (← e, q))

    pub on-next : (t : Bool) → t ≡ is_feature line → t ≡ false → search_of window from ≡ search_of window (end + 1)
    on-next t e q = same ∙ found_here ∙ rw (← e, q)
