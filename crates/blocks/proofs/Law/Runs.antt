-- A run of calls prints what the features are, however they are cut.
use mathlib.Core.Path.{◌≡◌, refl, sym, ◌∙◌, ap, subst}
use mathlib.Core.Bool.{Bool, true, false, false≢true}
use mathlib.Core.List.{List, [], ◌++◌, append_assoc, append-nil}
use Prim.Native.Nat.{ℕ, ◌+◌, ◌≤◌}
use lib.ListN.{length, drop}
use Rattle.text.specs.Parts.{lines}
use Rattle.style.specs.Answer.{accepted}
use Rattle.style.specs.Style.{Style}
use Rattle.style.specs.Head.{style_of}
use Rattle.style.specs.Compile.{plan_after, trees_after}
use Rattle.output.specs.Line.{longest_line}
use Rattle.blocks.specs.Ledger.{numbered, line_by}
use Rattle.blocks.specs.Block.{joined, progress_of}
use Rattle.blocks.specs.Run.{State, printed_by, state_after, Run}
use Rattle.blocks.proofs.Law.Call.{printed_from, none-numbered, all-printed, goes_on}
use Rattle.blocks.proofs.Law.Texts.{lines-alike, printed-same}

module _ (head room plan : List ℕ) (s : Style) (gives : style_of (length room) head ≡ accepted s) where
  abbrev planned : List ℕ
  planned = plan_after (length room) head plan

  abbrev trees : List ℕ
  trees = trees_after head room

  -- what the features from a state on are, with the bytes to come
  abbrev printed_on : State → List ℕ → List ℕ
  printed_on st rest = numbered (line_by s) st.number (lines (st.kept ++ rest))

  module _ (st : State) (new : List ℕ) (input-ends : Bool) (size : ℕ) where
    abbrev block : List ℕ
    block = st.kept ++ new

    same : printed_by head planned trees st new input-ends size ≡ printed_from (line_by s) st.number block input-ends size
    same = printed-same head room plan s gives block st.number input-ends size

    -- what a call prints, and what is left behind it
    call-on : (future : List ℕ) → (input-ends ≡ true → future ≡ []) →
        joined (printed_by head planned trees st new input-ends size)
        ++ printed_on (state_after head planned trees st new input-ends size) future
        ≡ numbered (line_by s) st.number (lines (block ++ future))
    unfolding progress_of
    call-on future none = subst On (sym same) (goes_on (line_by s) st.number block input-ends size (lines-alike s) future none)
      where
        On : List (List ℕ) → Type 0
        On ts =
            joined ts
            ++ numbered (line_by s) (progress_of block st.number ts).number
            (lines (drop (progress_of block st.number ts).at block ++ future))
            ≡ numbered (line_by s) st.number (lines (block ++ future))

  pub run-prints : {st : State} {rest out : List ℕ} → Run head planned trees st rest out → out ≡ printed_on st rest
  run-prints (Run.goes st new size {rest} r) =
      ap (λ (t : List ℕ). joined (printed_by head planned trees st new false size) ++ t) (run-prints r)
      ∙ call-on st new false size rest (λ e. absurd (false≢true e))
      ∙ ap (λ (t : List ℕ). numbered (line_by s) st.number (lines t)) (append_assoc st.kept new rest)
  run-prints (Run.ends st new size r) =
      ap (λ (t : List ℕ). joined (printed_by head planned trees st new true size) ++ t) (run-prints r)
      ∙ call-on st new true size [] (λ e. refl)
      ∙ ap (λ (t : List ℕ). numbered (line_by s) st.number (lines t)) (append-nil (st.kept ++ new))
  run-prints (Run.last st new size h) =
      let e = same st new true size in
      ap joined e
      ∙ all-printed (line_by s) st.number (st.kept ++ new) size
      (subst (λ (ts : List (List ℕ)). length (joined ts) + longest_line ≤ size) e h)
  run-prints (Run.enough st rest h) = sym (none-numbered (line_by s) st.number (lines (st.kept ++ rest)) h)
