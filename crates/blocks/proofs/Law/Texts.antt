-- What is printed for a line under an accepted head: what the style gives, whatever the values of names are before.
use mathlib.Core.Path.{◌≡◌, refl, sym, ◌∙◌, ap, ap₂}
use mathlib.Core.Bool.{Bool}
use mathlib.Core.List.{List, [], ◌∷◌}
use Prim.Native.Nat.{ℕ, suc, ◌-◌, ◌<◌, min}
use borrow.Author.Tests.{lt-ltb}
use lib.ListN.{length, take, length-replicate}
use Rattle.lexer.specs.Refusal.{Judged, refused, fine, refusal_at}
use Rattle.lexer.specs.declared.refusal.Reason.TheVariants as reason
use Rattle.kind.specs.declared.set.Kinds.{Kinds}
use Rattle.value.specs.declared.value.Value.{Value}
use Rattle.value.specs.declared.value.Value.TheVariants.{Undefined}
use Rattle.plan.specs.Layout.{most_defines, define_count, number_at, undeclared}
use Rattle.text.specs.Parts.{lines}
use Rattle.style.specs.Answer.{Answer, refusal, accepted, on_accepted}
use Rattle.style.specs.Style.{Style}
use Rattle.style.specs.Head.{style_of, checked_of}
use Rattle.style.specs.Compile.{plan_after, trees_after}
use Rattle.feature.specs.Feature.{Values, complete, broken, feature_size, entered_of, values_of, values_with}
use Rattle.feature.proofs.Filled.{values-kept}
use Rattle.painter.specs.Meaning.{given_of}
use Rattle.painter.specs.Paint.{on_values, schema_of, given_answer, feature_line}
use Rattle.painter.specs.Applied.{Source, compiled, given_under, entered_by, defined_by, given_values}
use Rattle.painter.specs.declared.answer.Given.{Given}
use Rattle.painter.proofs.Demands.{given-as-meant}
use Rattle.painter.proofs.Law.Drawn.{defined-length}
use Rattle.blocks.specs.Ledger.{last_number, line_by}
use Rattle.blocks.specs.Block.{whole_lines, texts_by, fitting, no_values, printed_of}
use Rattle.blocks.proofs.Law.Long.{LongAlike}
use Rattle.blocks.proofs.Law.Call.{texts, printed_from}

-- ---- a line that is too long

entered-long : (sets : List Kinds) (n : ℕ) (l : List ℕ) → feature_size < length l → entered_of sets n l ≡ refused (refusal_at reason.Size feature_size)
unfolding entered_of
entered-long sets n l h = rw (lt-ltb feature_size (length l) h)

line-long : (s : Style) (n : ℕ) (l : List ℕ) → feature_size < length l → line_by s n l ≡ feature_line n (refusal n (refusal_at reason.Size feature_size))
line-long s n l h = ap (λ (j : Judged Values). feature_line n (on_values n j (given_of s l))) (entered-long (schema_of s) n l h)

-- is printed as any other
pub lines-alike : (s : Style) → LongAlike (line_by s)
lines-alike s n l m h k = line-long s n l h ∙ sym (line-long s n m k)

-- ---- the values of names

-- there are as many behind a line
after-length : (x : Source) (n : ℕ) (a : List Value) → length (given_values x n a) ≡ length a
unfolding given_values
after-length x n a = go (entered_by x n) (values_with 0 (values_of (entered_by x n)) a) ∙ values-kept 0 (values_of (entered_by x n)) a
  where
    go : (j : Judged Values) (a : List Value) → length (defined_by x j a) ≡ length a
    go (refused r) a = refl
    go (fine (broken vs p)) a = refl
    go (fine (complete vs)) a = defined-length x (min (number_at x.plan define_count) most_defines) 0 a

-- ---- the lines

module _ (head room plan : List ℕ) (s : Style) (gives : style_of (length room) head ≡ accepted s) where
  line_same : (n : ℕ) (l : List ℕ) (a : List Value) → length a ≡ undeclared → feature_line n (given_under (compiled head room plan l) n a) ≡ line_by s n l
  line_same n l a size = ap (feature_line n) (given-as-meant head room plan ok n l a size ∙ ap given gives)
    where
      ok : checked_of (length room) head ≡ accepted tt
      ok = ap (λ (x : Answer Style). on_accepted x (λ s. accepted tt)) gives

      given : Answer Style → Answer Given
      given x = on_accepted x (λ s. given_answer s n l)

  texts-same : (n : ℕ) (a : List Value) (ls : List (List ℕ)) → length a ≡ undeclared →
      texts_by (λ n l a. feature_line n (given_under (compiled head room plan l) n a))
      (λ n l a. given_values (compiled head room plan l) n a) n a ls
      ≡ texts (line_by s) n ls
  texts-same n a [] size = refl
  texts-same n a (l ∷ ls) size =
      let after = given_values (compiled head room plan l) n a in
      ap₂ (λ (t : List ℕ) (ts : List (List ℕ)). t ∷ ts) (line_same n l a size)
      (texts-same (suc n) after ls (after-length (compiled head room plan l) n a ∙ size))

  -- what a call prints
  pub printed-same : (block : List ℕ) (n : ℕ) (ends : Bool) (size : ℕ) →
      printed_of head (plan_after (length room) head plan) (trees_after head room) block n ends size ≡ printed_from (line_by s) n block ends size
  unfolding printed_of
  printed-same block n ends size =
      ap (fitting size) (texts-same n no_values (take (suc last_number - n) (whole_lines ends (length block) (lines block))) (length-replicate {A = Value} undeclared Undefined))
