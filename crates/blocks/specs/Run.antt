-- A run of the program as the calls of this library see it, and what it prints: the bytes of an input come in pieces, however it is cut.
use Rattle.std.specs.Prelude.{◌≡◌, Bool, true, false, List, [], ◌++◌, ℕ, ◌+◌, ◌<◌, ◌≤◌, length, take, drop, Ok, Err}
use Rattle.lexer.specs.declared.refusal.Refusal.{Refusal}
use Rattle.text.specs.Head.{head_end}
use Rattle.style.specs.Answer.{refusal, accepted}
use Rattle.style.specs.Head.{head_size, room_size, checked_of}
use Rattle.style.specs.Compile.{plan_after, trees_after}
use Rattle.output.specs.Line.{heading, refused_head, longest_line}
use Rattle.blocks.specs.Ledger.{last_number, ledger_of}
use Rattle.blocks.specs.Opening.{search_of}
use Rattle.blocks.specs.Block.{printed_of, progress_of, joined}
use Rattle.lexer.specs.Refusal.{reason_number}

-- ---- the head is looked for

-- a window as far as it is read, and the place up to which its lines are known to be of the head
pub data Opened : List ℕ → ℕ → Type 0 where
  nothing : Opened [] 0
  more : {w : List ℕ} {from at : ℕ} → Opened w from → (new : List ℕ) → search_of (w ++ new) from ≡ Err at → Opened (w ++ new) at

-- more than a head may have, and the word of the line behind it
abbrev pub window_size : ℕ
window_size = head_size + 5

-- The window is read as far as it has to be, and these bytes are still to come: a feature's line is found, the input ends, or the window is
-- longer than a head may be.
pub data Whole : List ℕ → List ℕ → Type 0 where
  found : {w : List ℕ} {from at : ℕ} → Opened w from → (new rest : List ℕ) → search_of (w ++ new) from ≡ Ok at → Whole (w ++ new) rest
  ended : (w : List ℕ) → Whole w []
  full : (w rest : List ℕ) → window_size ≤ length w → Whole w rest

-- ---- the features are printed

-- between two calls: the number of the next line, and the bytes that are left of the block before
pub record State : Type 0 where
  pub number : ℕ
  pub kept : List ℕ

abbrev pub first : State
first = record { number = 1; kept = [] }

module _ (head plan room : List ℕ) where
  -- what a call prints, with new bytes behind those that are left and an output that holds so many
  abbrev pub printed_by : State → List ℕ → Bool → ℕ → List (List ℕ)
  printed_by s new ends size = printed_of head plan room (s.kept ++ new) s.number ends size

  abbrev pub state_after : State → List ℕ → Bool → ℕ → State
  state_after s new ends size =
      let block = s.kept ++ new in
      let p = progress_of block s.number (printed_by s new ends size) in
      record { number = p.number; kept = drop p.at block }

  -- Calls from a state on, the bytes that are still to come, and what is printed of them. The input's end is told with its last bytes or
  -- behind them; after a call that had no room for more lines comes another.
  pub data Run : State → List ℕ → List ℕ → Type 0 where
    goes : (s : State) (new : List ℕ) (size : ℕ) {rest out : List ℕ} → Run (state_after s new false size) rest out →
        Run s (new ++ rest) (joined (printed_by s new false size) ++ out)
    ends : (s : State) (new : List ℕ) (size : ℕ) {out : List ℕ} → Run (state_after s new true size) [] out →
        Run s new (joined (printed_by s new true size) ++ out)
    last : (s : State) (new : List ℕ) (size : ℕ) → length (joined (printed_by s new true size)) + longest_line ≤ size →
        Run s new (joined (printed_by s new true size))
    enough : (s : State) (rest : List ℕ) → last_number < s.number → Run s rest []

-- ---- what is printed is the ledger

-- the head of a window, and its features
abbrev pub head_in : List ℕ → List ℕ
head_in w = take (head_end w) w

abbrev pub features_in : List ℕ → List ℕ
features_in w = drop (head_end w) w

-- a refused head: one line behind the heading
abbrev pub RefusedPrinted : Type 0
RefusedPrinted =
    (w rest room : List ℕ) → room_size ≤ length room → Whole w rest → (line : ℕ) (r : Refusal) →
    checked_of (length room) (head_in w) ≡ refusal line r →
    heading ++ refused_head (reason_number r.reason) line r.place ≡ ledger_of (w ++ rest)

-- an accepted one: what the calls print, by the plan and the room that `compile` leaves, however the input is cut
abbrev pub FeaturesPrinted : Type 0
FeaturesPrinted =
    (w rest room plan out : List ℕ) → room_size ≤ length room → Whole w rest → checked_of (length room) (head_in w) ≡ accepted tt →
    Run (head_in w) (plan_after (length room) (head_in w) plan) (trees_after (head_in w) room) first (features_in w ++ rest) out →
    heading ++ out ≡ ledger_of (w ++ rest)
