use mathlib.Core.Path.{◌≡◌}
use Prim.Native.Nat.{◌-◌}
use lib.ListN.{length}
use Rattle.lexer.specs.Tokens.{tokens_from}
use Rattle.lexer.specs.Scan.{scan_of}
use Rattle.lexer.proofs.Law.Scanning.{rest_verdict}
use Rattle.lexer.proofs.scan.scan.Given as goal

-- `scan` goes from token to token. The invariant: the verdict on the rest, with the brackets that are open, is that on the whole text.
abbrev pub invariant-loop-token : goal.invariant-loop-token
invariant-loop-token l =
    rest_verdict l.open (tokens_from l.text l.from) ≡ scan_of l.text

abbrev pub decreases-loop-token : goal.decreases-loop-token
decreases-loop-token l =
    length l.text - l.from
