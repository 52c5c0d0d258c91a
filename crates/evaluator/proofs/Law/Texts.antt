-- Past the end of a text there is nothing.
use mathlib.Core.Path.{◌≡◌, refl, ap, sym, ◌∙◌}
use mathlib.Core.Bool.{Bool, true, false}
use mathlib.Core.List.{List}
use Prim.Native.Nat.{ℕ, ◌+◌, ◌≤◌, min}
use native.Mathlib.Omega.{arith}
use lib.Dec.{leb}
use lib.ListN.{length, drop, drop_of_length-le}
use borrow.Author.Tests.{leb-true, leb-false}
use Rattle.lexer.specs.Bytes.{is_space, run}
use Rattle.lexer.specs.Token.{first_at, lexeme_at}
use Rattle.lexer.specs.declared.token.Lexeme.TheVariants.{End}
use Rattle.evaluator.specs.Literal.{literal_at}

nothing : (text : List ℕ) (p : ℕ) → length text ≤ p → lexeme_at text p ≡ End
unfolding lexeme_at run
nothing text p h =
    let none = drop_of_length-le text {i = p} h in
    let here : p + 0 ≡ p = omega arith in
    ap (λ (bs : List ℕ). first_at text (p + run is_space bs) (drop (p + run is_space bs) text)) none ∙ ap (λ (q : ℕ). first_at text q (drop q text)) here ∙ ap (first_at text p) none

cut : (text : List ℕ) (p : ℕ) → lexeme_at text (min p (length text)) ≡ lexeme_at text p
cut text p = go (leb p (length text)) refl
  where
    go : (b : Bool) → leb p (length text) ≡ b → lexeme_at text (min p (length text)) ≡ lexeme_at text p
    go true e = let l = leb-true p (length text) e in let m : min p (length text) ≡ p = omega arith in ap (lexeme_at text) m
    go false e =
        let l = leb-false p (length text) e in
        nothing text (min p (length text)) (omega arith) ∙ sym (nothing text p (omega arith))

-- so a literal's place may be cut to the text
pub literal-cut : (style : List ℕ) (p form : ℕ) → literal_at style (min p (length style)) form ≡ literal_at style p form
unfolding literal_at
literal-cut style p form = rw (cut style p)
