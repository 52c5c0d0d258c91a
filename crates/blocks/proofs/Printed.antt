-- What a run of the program prints is the ledger of its input, as specs/Run.antt says it.
use mathlib.Core.Path.{sym, ◌∙◌, ap}
use mathlib.Core.List.{List, ◌++◌}
use Prim.Native.Nat.{ℕ}
use lib.ListN.{length}
use Rattle.text.specs.Parts.{lines}
use Rattle.style.specs.Answer.{refusal, accepted}
use Rattle.style.specs.Head.{style_of}
use Rattle.output.specs.Line.{heading}
use Rattle.painter.proofs.Order.{accepted-first}
use Rattle.blocks.specs.Ledger.{numbered, line_by}
use Rattle.blocks.specs.Run.{RefusedPrinted, FeaturesPrinted, head_in}
use Rattle.blocks.proofs.Law.Runs.{run-prints}
use Rattle.blocks.proofs.Law.Windows.{whole-agrees}
use Rattle.blocks.proofs.Law.Heads.{style-roomed, style-checked, same-style, features-on, ledger-is}

pub refused-printed : RefusedPrinted
refused-printed w rest room enough whole line r e =
    sym
    (ledger-is w rest (refusal line r)
    (same-style w rest (whole-agrees whole) ∙ style-checked (length room) (head_in w) line r enough e))

pub features-printed : FeaturesPrinted
features-printed w rest room plan out enough whole e run =
    let (s, gives, _) = accepted-first _ tt (style_of (length room) (head_in w)) e in
    let given = sym (style-roomed (length room) (head_in w) enough) ∙ gives in
    let agree = whole-agrees whole in
    ap (λ (t : List ℕ). heading ++ t)
    (run-prints (head_in w) room plan s gives run
    ∙ ap (λ (t : List ℕ). numbered (line_by s) 1 (lines t)) (sym (features-on w rest s given agree)))
    ∙ sym (ledger-is w rest (accepted s) (same-style w rest agree ∙ given))
