use mathlib.Core.Path.{◌∙◌, ap}
use Rattle.lexer.specs.Bytes.{place_in}
use Rattle.words.proofs.Law.Words.{as-it-is}
use Rattle.value.specs.Name.{function_names}
use Rattle.value.proofs.name.function_number.Goals as goal

pub returns : goal.returns
returns c = c.number_in.ensures ∙ ap (place_in function_names) (as-it-is c.args.word.now)
