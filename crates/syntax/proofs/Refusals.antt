-- A text that is refused is refused with a number up to 6.
use Rattle.std.specs.Prelude.{Option, Some, None}
use mathlib.Core.Path.{◌≡◌, sym, ap, subst}
use mathlib.Core.Bool.{Bool, true, false}
use mathlib.Core.List.{List}
use mathlib.Core.Logic.{◌⊎◌, inl, inr}
use Prim.Native.Nat.{ℕ, ◌≤◌}
use native.Mathlib.Omega.{arith}
use lib.Dec.{ltb}
use lib.ListN.{length}
use Rattle.lexer.specs.Refusal.{reason_number, refusal_at, Judged, fine, number_of}
use Rattle.lexer.specs.Refusal as judged
use Rattle.lexer.specs.Tokens.{Placed, tokens, tokens_of}
use Rattle.lexer.specs.Scan.{scan_of}
use Rattle.lexer.specs.declared.refusal.Refusal.{Refusal}
use Rattle.lexer.specs.declared.refusal.Reason.TheVariants as reason
use Rattle.lexer.proofs.Refusals.{With, scan-says}
use Rattle.tree.specs.Tree.{Tree}
use Rattle.syntax.specs.Sizes.{most_bytes, most_height}
use Rattle.syntax.specs.Parser.{Parse, part, refused, spent, parse_of}
use Rattle.syntax.specs.Height.{height_of}
use Rattle.syntax.specs.Names.{unknown_in, leftmost_of}
use Rattle.syntax.specs.Judge.{by_names, by_height, by_grammar, by_tokens, by_size, judged_of}
use Rattle.syntax.specs.declared.symbol.Symbol.{Symbol}

module _ (text : List ℕ) where
  names-below : (l : Option ℕ) (e : Tree) → number_of (by_names l e) ≤ 6
  names-below (Some p) e = omega arith
  names-below None e = omega arith

  height-below : (b : Bool) (e : Tree) → number_of (by_height b text e) ≤ 6
  height-below true e = omega arith
  height-below false e = names-below (leftmost_of (unknown_in text e)) e

  grammar-below : (r : Parse Symbol Tree) → number_of (by_grammar r text) ≤ 6
  grammar-below (part e x) = height-below (ltb most_height (height_of e)) e
  grammar-below (refused x) = omega arith
  grammar-below spent = omega arith

  tokens-below : (v : Judged (Unit {0})) → ((p : ℕ) × (v ≡ judged.refused (refusal_at reason.Token p))) ⊎ ((ts : List Placed) × (tokens_of text ≡ tokens ts) × With 3 v) → number_of (by_tokens v text) ≤ 6
  tokens-below v (inl (p, e)) = subst (λ (v : Judged (Unit {0})). number_of (by_tokens v text) ≤ 6) (sym e) (omega arith)
  tokens-below (fine a) (inr (ts, e, w)) = grammar-below (parse_of text)
  tokens-below (judged.refused r) (inr (ts, e, w)) = omega (arith, w)

  below : number_of (judged_of text) ≤ 6
  unfolding judged_of
  below = go (ltb most_bytes (length text))
    where
      go : (b : Bool) → number_of (by_size b text) ≤ 6
      go true = omega arith
      go false = tokens-below (scan_of text) (scan-says text)

  pub judged-below : (r : Refusal) → judged_of text ≡ judged.refused r → reason_number r.reason ≤ 6
  judged-below r e = subst (λ (n : ℕ). n ≤ 6) (ap number_of e) below
