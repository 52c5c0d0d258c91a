use mathlib.Core.Path.{sym, ◌∙◌}
use Rattle.feature.proofs.Law.Lines.{too_long, too_many, other_word, its-fields, refuses, reads}
use Rattle.feature.proofs.feature.read.Goals as goal

pub returns-then-line-gt-MOST_BYTES : goal.returns-then-line-gt-MOST_BYTES
returns-then-line-gt-MOST_BYTES c =
    let held = refuses _ _ c.refused.ensures (too_long _ _ _ c.if-line-gt-MOST_BYTES.true) in
    record { answer = held.0; values = held.1 }

pub returns-then-number-gt-MOST_FEATURES : goal.returns-then-number-gt-MOST_FEATURES
returns-then-number-gt-MOST_FEATURES c =
    let held = refuses _ _ c.refused-then-number-gt-MOST_FEATURES.ensures (too_many _ _ _ c.if-line-gt-MOST_BYTES.false c.if-number-gt-MOST_FEATURES.true) in
    record { answer = held.0; values = held.1 }

pub returns-then-not-is_feature : goal.returns-then-not-is_feature
returns-then-not-is_feature c =
    let held = refuses _ _ c.refused-then-not-is_feature.ensures (other_word _ _ _ c.if-line-gt-MOST_BYTES.false c.if-number-gt-MOST_FEATURES.false (sym c.is_feature.ensures ∙ c.if-not-is_feature.true)) in
    record { answer = held.0; values = held.1 }

pub returns : goal.returns
returns c =
    let held = reads _ _ _ _ _ _ _ c.number_at.ensures (its-fields _ _ _ c.if-line-gt-MOST_BYTES.false c.if-number-gt-MOST_FEATURES.false (sym c.is_feature.ensures ∙ c.if-not-is_feature.false)) c.read_fields.ensures in
    record { answer = held.0; values = held.1 }
