-- The bytes of tokens: those of a string stand between quotes, and those of any other are plain.
use mathlib.Core.Path.{◌≡◌, refl, sym, subst}
use mathlib.Core.Bool.{Bool, true, false, not, ◌&&◌, and-false, and-eq-true_iff}
use mathlib.Core.List.Memᴰ
use mathlib.Core.List.{List, [], ◌∷◌, ◌++◌, Memᴰ}
use Prim.Native.Nat.{ℕ, ◌≤◌, ◌<◌}
use native.Mathlib.Omega.{arith}
use borrow.Author.Tests.{leb-true, leb-false, le-leb, lt-leb, eqb-true, ne_eqb, not-true}
use lib.Dec.{T, eqb, leb}
use lib.Ieee.Bits.{is_true}
use lib.ListN.{length, get_or, length-append}
use lib.Seq.{take_all}
use Rattle.number.specs.Decimal.{is_digit, IsWholePart, IsNumber, whole, pointed}
use Rattle.lexer.specs.Bytes.{is_printable, is_space, is_name_byte, is_quote, in_class, run}
use Rattle.lexer.specs.Punctuator.{punctuators, refused_operators}
use Rattle.lexer.specs.Spelling.{All, Spells, number, string, variable, word, punctuator, Refuses, long-number, refused-operator}
use Rattle.lexer.specs.declared.bytes.Class.TheVariants.{Inside}
use Rattle.lexer.specs.declared.token.Token.{Token}
use Rattle.lexer.specs.declared.token.Token.TheVariants.{String}
use Rattle.lexer.proofs.Only.{all_digits, of-whole}
use Rattle.lexer.proofs.Law.Forms.{start-byte}
use Rattle.lexer.proofs.Law.Spelling.{run-all, of-all}

-- ---- plain bytes

abbrev pub is_plain : ℕ → Bool
is_plain b = is_printable b && (not (is_space b) && not (is_quote b))

pub plain-parts : (b : ℕ) → T (is_plain b) → (is_printable b ≡ true) × (is_space b ≡ false) × (is_quote b ≡ false)
plain-parts b h =
    let r = (and-eq-true_iff (is_printable b) (not (is_space b) && not (is_quote b))).0 (is_true (is_plain b) h) in
    let o = (and-eq-true_iff (not (is_space b)) (not (is_quote b))).0 r.1 in
    (r.0, not-true (is_space b) o.0, not-true (is_quote b) o.1)

-- between `(` and `~`
plain-from : (b : ℕ) → 40 ≤ b → b ≤ 126 → T (is_plain b)
plain-from b h k =
    rw (le-leb 32 b (omega arith), le-leb b 126 k, ne_eqb b 32 (λ e. omega arith), ne_eqb b 39 (λ e. omega arith), ne_eqb b 34 (λ e. omega arith)) tt

name-plain : (b : ℕ) → T (is_name_byte b) → T (is_plain b)
name-plain b h = go (leb 40 b) (leb b 126) refl refl
  where
    go : (t u : Bool) → leb 40 b ≡ t → leb b 126 ≡ u → T (is_plain b)
    go true true e f = plain-from b (leb-true 40 b e) (leb-true b 126 f)
    go false u e f =
        let low : b < 40 = leb-false 40 b e in
        absurd (rw (lt-leb 65 b (omega arith), lt-leb 97 b (omega arith), lt-leb 48 b (omega arith), ne_eqb b 95 (λ i. omega arith)) at h)
    go true false e f =
        let high : 126 < b = leb-false b 126 f in
        absurd (rw (lt-leb b 90 (omega arith), lt-leb b 122 (omega arith), lt-leb b 57 (omega arith), ne_eqb b 95 (λ i. omega arith), and-false (leb 65 b), and-false (leb 97 b), and-false (leb 48 b)) at h)

digit-plain : (b : ℕ) → T (is_digit b) → T (is_plain b)
digit-plain b h =
    let r = (and-eq-true_iff (leb 48 b) (leb b 57)).0 (is_true (is_digit b) h) in
    plain-from b (omega (arith, leb-true 48 b r.0)) (omega (arith, leb-true b 57 r.1))

pub all_of : (p q : ℕ → Bool) → ((b : ℕ) → T (p b) → T (q b)) → (bs : List ℕ) → All p bs → All q bs
all_of p q one [] h = tt
all_of p q one (b ∷ bs) h = (one b h.0, all_of p q one bs h.1)

plain-append : (s r : List ℕ) → All is_plain s → All is_plain r → All is_plain (s ++ r)
plain-append [] r h k = k
plain-append (b ∷ s) r h k = (h.0, plain-append s r h.1 k)

-- such bytes, at least one
abbrev pub Plain : List ℕ → Type 0
Plain s = (0 < length s) × All is_plain s

whole_plain : {w : List ℕ} → IsWholePart w → Plain w
whole_plain h = of-whole h Plain (λ b bs a. (omega arith, all_of is_digit is_plain digit-plain (b ∷ bs) a))

number-plain : {s : List ℕ} {n k d : ℕ} → IsNumber s n k d → Plain s
number-plain (whole h) = whole_plain h
number-plain (pointed w f h d) =
    let p = whole_plain h in
    (omega (arith, p.0, length-append w (46 ∷ f)), plain-append w (46 ∷ f) p.1 (tt, all_of is_digit is_plain digit-plain f (all_digits f d)))

-- `Plain` as a test, to be worked out on the lists of punctuators
abbrev looks_plain : List ℕ → Bool
looks_plain s = leb 1 (length s) && leb (length s) (run is_plain s)

punctuator-plain : (s : List ℕ) → Memᴰ s (punctuators ++ refused_operators) → Plain s
unfolding run
punctuator-plain s m =
    let h = (and-eq-true_iff (leb 1 (length s)) (leb (length s) (run is_plain s))).0 (of-all looks_plain (punctuators ++ refused_operators) s refl m) in
    (leb-true 1 (length s) h.0, subst (All is_plain) (take_all (run is_plain s) s (leb-true (length s) (run is_plain s) h.1)) (run-all is_plain s))

-- ---- the bytes of a token

-- plain bytes, or bytes between quotes, which only what is A may have
pub data Formed (A : Type 0) : List ℕ → Type 0 where
  plain : (s : List ℕ) → Plain s → Formed A s
  quoted : (q : ℕ) (bs : List ℕ) → A → T (is_quote q) → All (in_class (Inside q)) bs → Formed A (q ∷ bs ++ q ∷ [])

pub spelled-formed : {s : List ℕ} {t : Token} → Spells s t → Formed (t ≡ String) s
spelled-formed (number d h) = plain _ (number-plain d)
spelled-formed (string q bs h a) = quoted q bs refl h a
spelled-formed (variable bs a h) =
    plain (36 ∷ 123 ∷ bs ++ 125 ∷ []) (omega arith, (tt, (tt, plain-append bs (125 ∷ []) (all_of is_name_byte is_plain name-plain bs a) (tt, tt))))
spelled-formed (word b bs h a) =
    plain (b ∷ bs) (omega arith, all_of is_name_byte is_plain name-plain (b ∷ bs) (subst T (sym (start-byte b (is_true _ h))) tt, a))
spelled-formed (punctuator {s} m) = plain s (punctuator-plain s (Memᴰ.append_left refused_operators m))

pub refused-formed : {s : List ℕ} → Refuses s → Formed ⊥ s
refused-formed (long-number d h) = plain _ (number-plain d)
refused-formed (refused-operator {s} m) = plain s (punctuator-plain s (Memᴰ.append_right punctuators m))

-- a quote is one of two bytes
of-quote : (P : ℕ → Type 0) → P 39 → P 34 → (b : ℕ) → T (is_quote b) → P b
of-quote P x y b h = go (eqb b 39) refl
  where
    go : (t : Bool) → eqb b 39 ≡ t → P b
    go true e = subst P (sym (eqb-true b 39 e)) x
    go false e = subst P (sym (eqb-true b 34 (is_true _ (rw e at h)))) y

-- no token begins with a space, nor with a byte that is not printable
pub first_byte : {A : Type 0} {s : List ℕ} → Formed A s → (q : List ℕ) → (is_printable (get_or (s ++ q) 0 0) ≡ true) × (is_space (get_or (s ++ q) 0 0) ≡ false)
first_byte (plain [] h) q = absurd (omega (arith, h.0))
first_byte (plain (b ∷ bs) h) q = let r = plain-parts b h.1.0 in (r.0, r.1)
first_byte (quoted c bs a h i) q = of-quote (λ b. (is_printable b ≡ true) × (is_space b ≡ false)) (refl, refl) (refl, refl) c h
