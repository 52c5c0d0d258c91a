-- Values that are the same but for where their strings lie: page 01, "Kinds and meaning" ("strings by bytes").
use Rattle.std.specs.Prelude.{Bool, not, ℕ, ◌≤◌, T, Option, Some, None}
use Rattle.kind.specs.Kind.{eq_kind}
use Rattle.kind.specs.declared.kind.Kind.TheVariants as kind
use Rattle.value.specs.Value.{kind_of}
use Rattle.value.specs.declared.value.Span.{Span}
use Rattle.value.specs.declared.value.Value.{Value}
use Rattle.value.specs.declared.value.Value.TheVariants.{String}

abbrev pub is_string : Value → Bool
is_string v = eq_kind kind.String (kind_of v)

-- the same value, or two strings whose places go together
pub data Alike (R : Span → Span → Type 0) : Value → Value → Type 0 where
  same : (v : Value) → T (not (is_string v)) → Alike R v v
  strings : (s t : Span) → R s t → Alike R (String s) (String t)

-- two faults, or two such values
abbrev pub AlikeOutcomes : (Span → Span → Type 0) → Option Value → Option Value → Type 0
AlikeOutcomes R None None = Unit {0}
AlikeOutcomes R None (Some w) = ⊥
AlikeOutcomes R (Some v) None = ⊥
AlikeOutcomes R (Some v) (Some w) = Alike R v w

-- a place lies in a text of some length
pub record Within (n : ℕ) (s : Span) : Type 0 where
  pub ordered : s.start ≤ s.end
  pub inside : s.end ≤ n
