-- What the private functions of the crate write. No promise of a public function names anything here.
use Rattle.std.specs.Prelude.{List, ℕ}
use Rattle.output.specs.Line.{painted_line, refused_feature, refused_head}
use Rattle.output.specs.declared.line.Line.{Line}
use Rattle.output.specs.declared.line.Line.TheVariants.{Painted, RefusedFeature, RefusedHead}

abbrev pub line_text : Line → List ℕ
line_text (Painted number show colouring) = painted_line number show colouring
line_text (RefusedFeature feature number place) = refused_feature feature number place
line_text (RefusedHead number line place) = refused_head number line place
