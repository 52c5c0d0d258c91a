-- Asking for the cases of a file.
use Rattle.std.specs.Prelude.{◌≤◌, ◌<◌, Bool, Option, Some, None, List, length}
use Rattle.std.specs.List.{FoldsTo}

-- from one state to another it was asked for cases, a million at most, and these are their answers, in order;
-- if there are fewer, then it was asked once more, and there was none
abbrev pub CountsTo : {F : Type 0} → (F → Option Bool → F → Type 0) → F → List Bool → F → Type 0
CountsTo {F} step first answers last =
    FoldsTo (λ p agrees q. step p (Some agrees) q) first answers last
    × (length answers ≤ 1000000)
    × (length answers < 1000000 → (end : F) × step last None end)
