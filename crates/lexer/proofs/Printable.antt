-- "Outside strings only bytes 0x20 to 0x7E".
use mathlib.Core.Path.{◌≡◌, refl, sym, ◌∙◌, ap, subst}
use mathlib.Core.Bool.{false, false≢true}
use mathlib.Core.List.{List, ◌∷◌, ◌++◌}
use mathlib.Core.Logic.{◌⊎◌, inl, inr}
use Prim.Native.Nat.{ℕ, suc, ◌+◌, ◌≤◌, ◌<◌}
use native.Mathlib.Omega.{arith}
use borrow.Author.Tests.{ne_eqb}
use lib.Dec.{T}
use lib.ListN.{length, get_or, drop}
use lib.Seq.{drop-cons}
use Rattle.lexer.specs.Bytes.{is_printable, is_space}
use Rattle.lexer.specs.Token.{lexeme_at}
use Rattle.lexer.specs.Spelling.{All, Spells, Refuses, NoLonger}
use Rattle.lexer.specs.declared.token.Token.{Token}
use Rattle.lexer.specs.declared.token.Token.TheVariants.{String}
use Rattle.lexer.specs.declared.token.Lexeme.TheVariants.{Bad}
use Rattle.lexer.proofs.Only.{is-lexeme}
use Rattle.lexer.proofs.Law.Spelling.{no-spaces}
use Rattle.lexer.proofs.Law.Plain.{is_plain, plain-parts, all_of, Formed, plain, quoted, spelled-formed, refused-formed, first_byte}

-- ---- all bytes of a token

all-printable : {A : Type 0} {s : List ℕ} → Formed A s → A ⊎ All is_printable s
all-printable (plain s h) = inr (all_of is_plain is_printable (λ b p. subst T (sym (plain-parts b p).0) tt) s h.1)
all-printable (quoted q bs a h i) = inl a

-- A token is a string, or all its bytes are 0x20 to 0x7E; so are those of a token that is refused.
pub string-or-printable : {s : List ℕ} {t : Token} → Spells s t → (t ≡ String) ⊎ All is_printable s
string-or-printable h = all-printable (spelled-formed h)

pub refused-printable : {s : List ℕ} → Refuses s → All is_printable s
refused-printable {s} h = go (all-printable (refused-formed h))
  where
    go : ⊥ ⊎ All is_printable s → All is_printable s
    go (inl a) = absurd a
    go (inr i) = i

-- ---- any other byte

-- It begins no token, listed or refused, ..
pub begins-none : (b : ℕ) (bs : List ℕ) → is_printable b ≡ false → NoLonger 0 (b ∷ bs)
begins-none b bs n = record { spelled = λ p q t e h. none p q e (spelled-formed h); refused = λ p q e h. none p q e (refused-formed h) }
  where
    none : {A : Type 0} (p q : List ℕ) → p ++ q ≡ b ∷ bs → Formed A p → length p ≤ 0
    none p q e f = absurd (false≢true (sym n ∙ ap (λ (l : List ℕ). is_printable (get_or l 0 0)) (sym e) ∙ (first_byte f q).0))

-- .. and is refused by itself.
pub refused-alone : (text : List ℕ) (at : ℕ) → at < length text → is_printable (get_or text at 0) ≡ false → lexeme_at text at ≡ Bad at (at + 1)
refused-alone text at h n =
    let b = get_or text at 0 in
    let no-space : is_space b ≡ false = ne_eqb b 32 (λ e. false≢true (sym n ∙ ap is_printable e)) in
    let none : NoLonger 0 (drop at text) = subst (NoLonger 0) (sym (drop-cons text at 0 h)) (begins-none b (drop (suc at) text) n) in
    sym (is-lexeme text at (Bad at (at + 1)) (no-spaces text at h no-space, omega arith, inr (none, refl)))
