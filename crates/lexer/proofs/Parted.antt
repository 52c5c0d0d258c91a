-- "spaces part tokens": tokens written with a space behind each are read back.
use mathlib.Core.Path.{◌≡◌, refl, sym, ◌∙◌, ap}
use mathlib.Core.Bool.{cond, and-false}
use mathlib.Core.List.{List, [], ◌∷◌, ◌++◌, append-nil, append_assoc, map}
use Prim.Native.Nat.{ℕ, ◌+◌, ◌≤◌, ◌<◌}
use native.Mathlib.Nat.{add-sub_cancel_left}
use native.Mathlib.Omega.{arith}
use borrow.Author.Tests.{eq-eqb}
use lib.Dec.{leb}
use lib.Ieee.Bits.{is_true}
use lib.ListN.{length, get_or, drop, length-append, length-drop}
use lib.Seq.{slice, take-append_seam, drop-append_seam, drop-drop, drop-cons}
use Rattle.lexer.specs.Bytes.{is_space, is_quote, in_class, run}
use Rattle.lexer.specs.Token.{lexeme_at}
use Rattle.lexer.specs.Spelling.{All, Spells, NoLonger, SpacesUpTo}
use Rattle.lexer.specs.Tokens.{Placed, placed, token_of, tokens, after, tokens_from, tokens_of}
use Rattle.lexer.specs.declared.bytes.Class.TheVariants.{Inside}
use Rattle.lexer.specs.declared.token.Token.{Token}
use Rattle.lexer.specs.declared.token.Lexeme.TheVariants.{Found, End}
use Rattle.lexer.proofs.Only.{is-lexeme}
use Rattle.lexer.proofs.OnDemand.{on-found, on-end}
use Rattle.lexer.proofs.Law.Runs.{run-nil}
use Rattle.lexer.proofs.Law.Plain.{is_plain, plain-parts, Formed, plain, quoted, spelled-formed, refused-formed, first_byte}
use Rattle.lexer.proofs.Law.Spelling.{run-over, closed_run, slice_is}

-- ---- how far a token goes

-- the most bytes that a token may take of a text
abbrev reach : List ℕ → ℕ
reach [] = 0
reach (b ∷ bs) = cond (is_quote b) (run (in_class (Inside b)) bs + 2) (run is_plain (b ∷ bs))

-- a token takes that many, if no plain byte stands behind it
reaches : {A : Type 0} {s : List ℕ} → Formed A s → (q : List ℕ) → (length s ≤ reach (s ++ q)) × (reach (s ++ q) ≤ length s + run is_plain q)
reaches (plain [] h) q = absurd (omega (arith, h.0))
reaches (plain (b ∷ bs) h) q =
    let over = run-over is_plain (b ∷ bs) q h.1 in
    rw (plain-parts b h.1.0).2 (omega (arith, over), omega (arith, over))
reaches (quoted c bs _ h a) q =
    let inside = (closed_run (in_class (Inside c)) c ((bs ++ c ∷ []) ++ q) bs q a (rw (eq-eqb c c refl) (and-false (leb 32 c))) (sym (append_assoc bs (c ∷ []) q))).0 in
    let size = length-append bs (c ∷ []) in
    rw (is_true (is_quote c) h) (omega (arith, inside, size), omega (arith, inside, size))

-- so a space behind a token ends every token that may stand there
no_longer : {A : Type 0} (s rest : List ℕ) → Formed A s → NoLonger (length s) (s ++ 32 ∷ rest)
no_longer s rest f =
    record {
      spelled = λ p q t e h. within p q e (spelled-formed h);
      refused = λ p q e h. within p q e (refused-formed h);
    }
  where
    within : {B : Type 0} (p q : List ℕ) → p ++ q ≡ s ++ 32 ∷ rest → Formed B p → length p ≤ length s
    within p q e g = omega (arith, (reaches g q).0, ap reach e, (reaches f (32 ∷ rest)).1, run-nil is_plain 32 rest refl)

-- ---- a part of a text, and what stands behind it

module _ (w : List ℕ) (at : ℕ) (s r : List ℕ) (e : drop at w ≡ s ++ r) where
  part-is : slice at (at + length s) w ≡ s
  part-is = rw (slice_is at (at + length s) w, add-sub_cancel_left at (length s), e) (take-append_seam s r)

  behind-is : drop (at + length s) w ≡ r
  behind-is = sym (drop-drop (length s) at w) ∙ ap (drop (length s)) e ∙ drop-append_seam s r

-- ---- a token behind spaces, and a space behind it

module _ (w : List ℕ) (from : ℕ) (sp s rest : List ℕ) (e : drop from w ≡ sp ++ (s ++ 32 ∷ rest)) where
  abbrev at : ℕ
  at = from + length sp

  rest-is : drop at w ≡ s ++ 32 ∷ rest
  rest-is = behind-is w from sp (s ++ 32 ∷ rest) e

  fits : at + length s < length w
  fits = omega (arith, ap length rest-is, length-append s (32 ∷ rest), length-drop at w)

  up_to : {A : Type 0} → All is_space sp → Formed A s → SpacesUpTo w from at
  up_to a f =
      let inside : at < length w = omega (arith, fits) in
      record {
        onward = omega arith;
        inside = inside;
        spaces = rw (part-is w from sp (s ++ 32 ∷ rest) e) a;
        no_more = ap (λ (l : List ℕ). is_space (get_or l 0 0)) (sym (drop-cons w at 0 inside) ∙ rest-is) ∙ (first_byte f (32 ∷ rest)).1;
      }

  one : (t : Token) → All is_space sp → Spells s t → lexeme_at w from ≡ Found t at (at + length s)
  one t a h =
      let f = spelled-formed h in
      sym (is-lexeme w from (Found t at (at + length s)) (
        up_to a f,
        omega (arith, fits),
        rw (part-is w at s (32 ∷ rest) rest-is) h,
        rw (add-sub_cancel_left at (length s), rest-is) (no_longer s rest f),
      ))

-- ---- one after another

-- a text that spells tokens, a space behind each
pub data Spelled : List ℕ → List Token → Type 0 where
  done : Spelled [] []
  more : {s text : List ℕ} {t : Token} {ts : List Token} → Spells s t → Spelled text ts → Spelled (s ++ 32 ∷ text) (t ∷ ts)

-- behind a token the next one begins with the space there
from_place : (w : List ℕ) (from : ℕ) (sp : List ℕ) {text : List ℕ} {ts : List Token} → All is_space sp → drop from w ≡ sp ++ text → Spelled text ts →
    (us : List Placed) × (tokens_from w from ≡ tokens us) × (map token_of us ≡ ts)
from_place w from sp a e done = ([], on-end w from (sym (is-lexeme w from End (rw (e, append-nil sp) a))), refl)
from_place w from sp a e (more {s} {text} {t} h k) =
    let at = from + length sp in
    let end = at + length s in
    let r = from_place w end (32 ∷ []) (tt, tt) (behind-is w at s (32 ∷ text) (rest-is w from sp s text e)) k in
    (placed t at end ∷ r.0, on-found w from t at end (one w from sp s text e t a h) ∙ ap (after (placed t at end)) r.1, ap (λ (l : List Token). t ∷ l) r.2)

-- Tokens with a space behind each are the tokens of their text.
pub parted : {text : List ℕ} {ts : List Token} → Spelled text ts → (us : List Placed) × (tokens_of text ≡ tokens us) × (map token_of us ≡ ts)
parted {text} h = from_place text 0 [] tt refl h
