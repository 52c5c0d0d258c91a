-- The room with what a line adds: the trees that lie beside the line lie beside it in the head.
use mathlib.Core.Path.{◌≡◌, refl, sym, ◌∙◌, ap}
use mathlib.Core.List.{List, ◌++◌}
use Prim.Native.Nat.{ℕ, zero, suc, ◌+◌, ◌-◌, ◌≤◌}
use native.Mathlib.Omega.{arith}
use lib.Dec.{ltb}
use lib.ListN.{length, take, drop, length-set, length-append, length-replicate, take-append-drop}
use lib.Seq.{slice, length-slice}
use Rattle.lexer.specs.Refusal.{Judged, refused, fine}
use Rattle.lexer.specs.Token.{lexeme_at}
use Rattle.lexer.specs.declared.token.Token.{Token}
use Rattle.lexer.specs.declared.token.Token.TheVariants as token
use Rattle.lexer.specs.declared.token.Lexeme.{Lexeme}
use Rattle.lexer.specs.declared.token.Lexeme.TheVariants.{Found, Bad, End}
use Rattle.lexer.proofs.Law.Runs.{by-test}
use Rattle.tree.specs.Tree.{Tree}
use Rattle.tree.specs.Slots.{shape_of}
use Rattle.tree.proofs.Law.Places.{length-lay}
use Rattle.syntax.specs.Judge.{judged_of, kept, slots_after}
use Rattle.checker.specs.Name.{numbered, onward, resolved_from, resolved_slots}
use Rattle.checker.proofs.Law.Names.{one-step}
use Rattle.text.specs.Slice.{put_back}
use Rattle.text.proofs.Slices.{slice-slice, put-there, put-length, put-again, put-inside}
use Rattle.style.specs.Style.{Expression}
use Rattle.style.specs.Compile.{laid}

-- ---- lengths

kept-length : (j : Judged Tree) (w : List ℕ) → length (kept j w) ≡ length w
kept-length (fine e) w = length-lay w (shape_of e)
kept-length (refused r) w = length-replicate {A = ℕ} (length w) 0

slots_length : (w text : List ℕ) → length (slots_after w text) ≡ length w
slots_length w text = by-test (λ (x : List ℕ). length x ≡ length w) (ltb (length w) (length text)) (λ e. refl) (λ e. whole)
  where
    whole : length (kept (judged_of text) (take (length text) w) ++ drop (length text) w) ≡ length w
    whole =
        length-append (kept (judged_of text) (take (length text) w)) (drop (length text) w)
        ∙ ap (λ (n : ℕ). n + length (drop (length text) w)) (kept-length (judged_of text) (take (length text) w))
        ∙ sym (length-append (take (length text) w) (drop (length text) w))
        ∙ ap length (take-append-drop (length text) w)

module _ (number : List ℕ → ℕ) (text : List ℕ) where
  numbered-length : (t : Token) (at end : ℕ) (w : List ℕ) → length (numbered number text t at end w) ≡ length w
  numbered-length (token.Number digits places) at end w = refl
  numbered-length token.String at end w = refl
  numbered-length token.Variable at end w = length-set w at _
  numbered-length (token.Word k) at end w = refl
  numbered-length (token.Punctuator k) at end w = refl

  resolved-length : (n from : ℕ) (w : List ℕ) → length (resolved_from number text n from w) ≡ length w
  unfolding resolved_from
  resolved-length zero from w = refl
  resolved-length (suc n) from w = ap length (one-step number text from w n _ refl) ∙ go (lexeme_at text from) (resolved-length n)
    where
      go : (x : Lexeme) → ((from : ℕ) (w : List ℕ) → length (resolved_from number text n from w) ≡ length w) → length (onward number text x w (resolved_from number text n)) ≡ length w
      go (Found t at end) rest = rest end (numbered number text t at end w) ∙ numbered-length t at end w
      go (Bad at end) rest = refl
      go End rest = refl

module _ (number : List ℕ → ℕ) (p : ℕ) (e : Expression) (w : List ℕ) (inside : p + length e.text ≤ length w) where
  pub tree-length : length (resolved_slots number e.text (slots_after (slice p (p + length e.text) w) e.text)) ≡ p + length e.text - p
  tree-length =
      resolved-length number e.text (length e.text) 0 (slots_after (slice p (p + length e.text) w) e.text)
      ∙ slots_length (slice p (p + length e.text) w) e.text
      ∙ length-slice p (p + length e.text) w inside

  pub laid-length : length (laid number p e w) ≡ length w
  unfolding laid
  laid-length =
      put-length w p (p + length e.text) (resolved_slots number e.text (slots_after (slice p (p + length e.text) w) e.text)) inside (omega arith) tree-length

-- ---- beside a line

-- one expression, in the part of the room beside a line
pub laid_beside : (room : List ℕ) (at end : ℕ) → at ≤ end → end ≤ length room → (number : List ℕ → ℕ) (p : ℕ) (e : Expression) → at + (p + length e.text) ≤ end →
    put_back room at end (laid number p e (slice at end room)) ≡ laid number (at + p) e room
unfolding laid
laid_beside room at end order wide number p e h =
    let n = length e.text in
    let to : at + (p + n) ≡ at + p + n = omega arith in
    ap (λ (x : List ℕ). put_back room at end (put_back (slice at end room) p (p + n) (resolved_slots number e.text (slots_after x e.text)))) (slice-slice room at end p (p + n) h)
    ∙ put-inside room at end p (p + n) (resolved_slots number e.text (slots_after (slice (at + p) (at + (p + n)) room) e.text)) order wide (omega arith) h
    ∙ (λ i. put_back room (at + p) (to i) (resolved_slots number e.text (slots_after (slice (at + p) (to i) room) e.text)))

-- another one behind it; u are the slots beside the line between the two
pub laid_both : (room : List ℕ) (at end : ℕ) → at ≤ end → end ≤ length room → (number : List ℕ → ℕ) (p q : ℕ) (e f : Expression) →
    at + (p + length e.text) ≤ end → at + (q + length f.text) ≤ end →
    put_back room at end (laid number q f (laid number p e (slice at end room))) ≡ laid number (at + q) f (laid number (at + p) e room)
laid_both room at end order wide number p q e f h k =
    let u = laid number p e (slice at end room) in
    let own-size : length (slice at end room) ≡ end - at = length-slice at end room wide in
    let size : length u ≡ end - at = laid-length number p e (slice at end room) (omega (arith, own-size, h)) ∙ own-size in
    let between = put_back room at end u in
    let first : between ≡ laid number (at + p) e room = laid_beside room at end order wide number p e h in
    let own : slice at end between ≡ u = put-there room at end u wide order size in
    let same : length between ≡ length room = put-length room at end u wide order size in
    sym (put-again room at end u wide order size (laid number q f u))
    ∙ ap (λ (x : List ℕ). put_back between at end (laid number q f x)) (sym own)
    ∙ laid_beside between at end order (omega (arith, same, wide)) number q f k
    ∙ ap (laid number (at + q) f) first
