-- What an expression is worked out from, as the evaluator is given it: page 01, "What each answer owes" ("By itself means from the strip's
-- values").
use Rattle.std.specs.Prelude.{List, ℕ, ◌+◌, Option, Some}
use Rattle.value.specs.Value.{text_in}
use Rattle.tree.specs.Node.{tree_at}
use Rattle.syntax.specs.Sizes.{most_height}
use Rattle.evaluator.specs.Literal.{literal_at}
use Rattle.evaluator.specs.Values.{value_at}
use Rattle.evaluator.specs.Eval.{Context, eval_of}
use Rattle.evaluator.specs.declared.evaluate.Scene.{Scene}
use Rattle.value.specs.declared.value.Value.{Value}

-- The expression lies in the style's text from a base on; strings lie in that text or in the feature's; a variable has the value
-- that is given for its number.
abbrev pub array_context : List ℕ → List ℕ → List Value → ℕ → Context
array_context style feature values base =
    record {
      text = text_in style feature;
      literals = λ p k. literal_at style (base + p) k;
      variables = λ p n. Some (value_at values n);
    }

-- what the tree comes to whose root is at a place of the slots
abbrev pub eval_at : List ℕ → List ℕ → List ℕ → List Value → ℕ → ℕ → Option Value
eval_at style feature slots values base root = eval_of (array_context style feature values base) (tree_at most_height slots root)

-- the same by a scene
abbrev pub evaluated : Scene → ℕ → Option Value
evaluated s root = eval_at s.texts.style.now s.texts.feature.now s.slots.now s.values.now s.base root
