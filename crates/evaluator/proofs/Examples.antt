-- The expressions of page 01's "Checked examples" that are marked there, and what is answered of each from its text: a table under one theorem, worked out by computing.
use Rattle.std.specs.Prelude.{Option, Some, Result}
use mathlib.Core.Path.{◌≡◌, refl}
use mathlib.Core.Bool.{true, false}
use mathlib.Core.List.{List, [], ◌∷◌, map}
use Prim.Native.Nat.{ℕ}
use Prim.Native.String.{String}
use lib.Ieee.{Float, binary64, of_bits, of_int, add, sub, mul, div, rem, neg, lt, eq, round}
use Rattle.number.specs.Decimal.{value_of, ten_to}
use Rattle.number.specs.Rounding.{floor_of, round_of}
use Rattle.lexer.specs.Bytes.{same, ascii}
use Rattle.lexer.specs.Refusal.{refusal_at, Judged, refused, fine, on_fine}
use Rattle.lexer.specs.Token.{meaning}
use Rattle.kind.specs.Rule.{rule_of}
use Rattle.kind.specs.Set.{set_of, single_of, union_of, within_of}
use Rattle.kind.specs.Choice.{node_kinds}
use Rattle.kind.specs.declared.kind.Kind.TheVariants as kind
use Rattle.colour.specs.Text.{colour_of}
use Rattle.value.specs.Value.{text_in}
use Rattle.value.specs.Equality.{equal_of}
use Rattle.value.specs.Meaning as value
use Rattle.value.specs.Name.{function_at, member_index, pick_at}
use Rattle.value.specs.declared.value.Value.{Value}
use Rattle.value.specs.declared.value.Value.TheVariants.{Undefined, Boolean, Number, Vec3}
use Rattle.tree.specs.Tree.{Tree}
use Rattle.syntax.specs.Judge.{judged_of}
use Rattle.checker.specs.Name.{name_at}
use Rattle.checker.specs.Property.{Property, undeclared, declared, property_kinds}
use Rattle.checker.specs.Operator.{prefix_at, infix_at}
use Rattle.checker.specs.Kinds.{kinds_of}
use Rattle.checker.specs.Check.{answer_of}
use Rattle.evaluator.specs.Literal.{literal_at}
use Rattle.evaluator.specs.Eval.{eval_of}
use Rattle.kind.specs.declared.set.Kinds.{Kinds}
use Rattle.lexer.specs.declared.refusal.Refusal.{Refusal}
use Rattle.lexer.specs.declared.refusal.Reason.TheVariants as reason

-- a refusal, or what an accepted expression comes to
infix 2 ◌gives◌
pub data Example : Type 0 where
  ◌gives◌ : String → Judged (Option Value) → Example

-- "`Lap` is a Number that may be absent."
abbrev pub property : List ℕ → Property
property x = elim (same x (ascii "Lap")) [ true ↦ declared kind.Number true false | false ↦ undeclared ]

-- as a number's bits have it
abbrev number : ℕ → Value
number bits = Number (of_bits binary64 bits)

abbrev third : Float
third = of_bits binary64 0x3FD5555555555555

abbrev pub table : List Example
table =
    ("1 + 2 * 3 === 7" gives fine (Some (Boolean true)))
    ∷ ("-7 % 3" gives fine (Some (number 0xBFF0000000000000)))
    ∷ ("${Lap} === undefined" gives fine (Some (Boolean true)))
    ∷ ("${Lap} < 0.2" gives refused (refusal_at reason.Kinds 7))
    ∷ ("true || ${Lap} < 0.2" gives refused (refusal_at reason.Kinds 15))
    ∷ ("vec3(1.0) / 3" gives fine (Some (Vec3 third third third)))
    ∷ ("3 / vec3(1.0)" gives refused (refusal_at reason.Kinds 2))
    ∷ ("vec2(1, 2).z" gives refused (refusal_at reason.Kinds 10))
    ∷ ("1 === '1'" gives fine (Some (Boolean false)))
    ∷ ("NaN === NaN" gives fine (Some (Boolean false)))
    ∷ ("floor(-0.5) === -1" gives fine (Some (Boolean true)))
    ∷ ("round(-2.5)" gives fine (Some (number 0xC000000000000000)))
    ∷ ("false ? 1 : true ? 2 : 3" gives fine (Some (number 0x4000000000000000)))
    ∷ ("" gives refused (refusal_at reason.Grammar 0))
    ∷ []

-- what an expression comes to, if each of its variables comes to an outcome
abbrev pub comes : List ℕ → Option Value → Tree → Option Value
comes text o e = eval_of (record { text = text_in text []; literals = literal_at text; variables = λ p n. o }) e

-- 7 after 1 to 6, and then what the expression comes to for an absent lap
abbrev pub by_kinds : Result Kinds Refusal → List ℕ → Tree → Judged (Option Value)
by_kinds v text e = on_fine (answer_of v) (λ s. fine (comes text (Some Undefined) e))

abbrev pub answered : List ℕ → Judged (Option Value)
answered text = on_fine (judged_of text) (λ e. by_kinds (kinds_of (λ p n. property_kinds (property (name_at text p))) e) text e)

abbrev pub expected : Example → Judged (Option Value)
expected (s gives a) = a

abbrev pub worked : Example → Judged (Option Value)
worked (s gives a) = answered (ascii s)

-- what a text comes to, whatever is answered of its kinds
abbrev pub eager : Option Value → List ℕ → Judged (Option Value)
eager o text = on_fine (judged_of text) (λ e. fine (comes text o e))

-- "`true || ${Lap} < 0.2` is refused 7 at 15, though no strip faults"
pub examples : (map worked table ≡ map expected table) × ((o : Option Value) → eager o (ascii "true || ${Lap} < 0.2") ≡ fine (Some (Boolean true)))
unfolding judged_of member_index colour_of meaning name_at kinds_of eval_of literal_at prefix_at infix_at function_at pick_at node_kinds rule_of set_of single_of union_of within_of value.meaning value.joined_at equal_of value_of ten_to floor_of round_of of_bits of_int add sub mul div rem neg lt eq round
examples = (refl, λ o. refl)
