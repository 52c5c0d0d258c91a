-- What `munch` and `only` lean on: runs of bytes and the bytes a text begins with, the byte that a token begins with, and a token at a place as the functions look for it.
use mathlib.Core.Path.{◌≡◌, refl, sym, ◌∙◌, ap, ap₂, subst}
use mathlib.Core.Bool.{Bool, true, false, cond, not, ◌&&◌, false≢true, and-eq-true_iff}
use mathlib.Core.List.Memᴰ
use mathlib.Core.List.{List, [], ◌∷◌, ◌++◌, append_assoc, Memᴰ, nil≢cons, head-eq_of_cons-eq, tail-eq_of_cons-eq}
use mathlib.Core.Logic.{◌⊎◌, inl, inr}
use Prim.Native.Nat.{ℕ, zero, suc, ◌+◌, ◌-◌, ◌≤◌, ◌<◌}
use native.Mathlib.Nat.{sub-zero, zero-sub, suc-sub-suc}
use native.Mathlib.Omega.{arith}
use borrow.Author.Tests.{eqb-true, ne_eqb, eq-eqb, leb-true, leb-false, lt-leb, not-true}
use lib.Dec.{T, eqb, leb}
use lib.Ieee.Bits.{is_true}
use lib.ListN.{length, get_or, take, drop, length-append}
use lib.Seq.{slice, slice_empty, take-nil, take-add, drop-append_seam}
use Rattle.number.specs.Decimal.{is_digit, IsNumber}
use Rattle.lexer.specs.Bytes.{is_space, is_quote, is_word_start, is_name_byte, is_name_length, in_class, run, begins, same, place_in}
use Rattle.lexer.specs.Punctuator.{punctuators, refused_operators}
use Rattle.lexer.specs.Token.{Start, quote, dollar, letter, other, start_of}
use Rattle.lexer.specs.Spelling.{All, Spells, number, string, variable, word, punctuator, Refuses, long-number, refused-operator, NoLonger, SpacesUpTo}
use Rattle.lexer.specs.declared.bytes.Class.TheVariants.{Inside}
use Rattle.lexer.specs.declared.token.Token.{Token}
use Rattle.lexer.proofs.Law.Runs.{run-cons, run-nil}
use Rattle.lexer.proofs.Law.Punctuators.{all_of}

-- ---- runs

-- bytes of a kind are counted to their end, and on
pub run-over : (p : ℕ → Bool) (s q : List ℕ) → All p s → run p (s ++ q) ≡ length s + run p q
run-over p [] q h = omega arith
run-over p (b ∷ s) q h = run-cons p b (s ++ q) (is_true _ h.0) ∙ omega (arith, run-over p s q h.1)

-- up to a byte that is not of the kind
run-up-to : (p : ℕ → Bool) (s : List ℕ) (b : ℕ) (q : List ℕ) → All p s → p b ≡ false → run p (s ++ b ∷ q) ≡ length s
run-up-to p s b q h e = omega (arith, run-over p s (b ∷ q) h, run-nil p b q e)

pub run-all : (p : ℕ → Bool) (bs : List ℕ) → All p (take (run p bs) bs)
unfolding run
run-all p [] = tt
run-all p (b ∷ bs) = go (p b) refl (run-all p bs)
  where
    go : (t : Bool) → p b ≡ t → All p (take (run p bs) bs) → All p (take (run p (b ∷ bs)) (b ∷ bs))
    go true e h = rw (run-cons p b bs e) (subst T (sym e) tt, h)
    go false e h = rw (run-nil p b bs e) tt

-- what stands after a run is not of the kind
pub run_ends : (p : ℕ → Bool) (l : List ℕ) (b : ℕ) (bs : List ℕ) → drop (run p l) l ≡ b ∷ bs → p b ≡ false
unfolding run
run_ends p [] b bs e = absurd (nil≢cons e)
run_ends p (c ∷ l) b bs e = go (p c) refl (run_ends p l b bs)
  where
    go : (t : Bool) → p c ≡ t → (drop (run p l) l ≡ b ∷ bs → p b ≡ false) → p b ≡ false
    go true i h = h (rw (run-cons p c l i) at e)
    go false i h = subst (λ (x : ℕ). p x ≡ false) (head-eq_of_cons-eq (rw (run-nil p c l i) at e)) i

-- ---- bytes that a text begins with

pub begins-over : (s q : List ℕ) → begins s (s ++ q) ≡ true
begins-over [] q = refl
begins-over (b ∷ s) q = rw (eq-eqb b b refl, begins-over s q)

pub begins-take : (s bs : List ℕ) → begins s bs ≡ true → take (length s) bs ≡ s
begins-take [] bs e = refl
begins-take (x ∷ s) [] e = absurd (false≢true e)
begins-take (x ∷ s) (b ∷ bs) e =
    let h = (and-eq-true_iff (eqb b x) (begins s bs)).0 e in
    ap₂ (λ (c : ℕ) (l : List ℕ). c ∷ l) (eqb-true b x h.0) (begins-take s bs h.1)

-- bytes up to one of another kind, and that one
module _ (p : ℕ → Bool) (b : ℕ) (bs : List ℕ) where
  pub closed_run : (s q : List ℕ) → All p s → p b ≡ false → s ++ b ∷ q ≡ bs → (run p bs ≡ length s) × (begins (b ∷ []) (drop (run p bs) bs) ≡ true)
  closed_run s q h e k =
      subst (λ (l : List ℕ). (run p l ≡ length s) × (begins (b ∷ []) (drop (run p l) l) ≡ true)) k
      (let r = run-up-to p s b q h e in (r, rw (r, drop-append_seam s (b ∷ q)) (begins-over (b ∷ []) q)))

  pub closed-take : begins (b ∷ []) (drop (run p bs) bs) ≡ true → take (run p bs + 1) bs ≡ take (run p bs) bs ++ b ∷ []
  closed-take e = take-add (run p bs) 1 bs ∙ ap (λ (l : List ℕ). take (run p bs) bs ++ l) (begins-take (b ∷ []) (drop (run p bs) bs) e)

-- a part of a text, from its place on
pub slice_is : (f t : ℕ) (l : List ℕ) → slice f t l ≡ take (t - f) (drop f l)
slice_is zero t l = rw (sub-zero t)
slice_is (suc f) zero l = rw (zero-sub (suc f))
slice_is (suc f) (suc t) [] = sym (take-nil (suc t - suc f))
slice_is (suc f) (suc t) (b ∷ l) = rw (suc-sub-suc t f) (slice_is f t l)

-- no spaces before a byte that is none
pub no-spaces : (text : List ℕ) (at : ℕ) → at < length text → is_space (get_or text at 0) ≡ false → SpacesUpTo text at at
no-spaces text at h e = record { onward = omega arith; inside = h; spaces = subst (All is_space) (sym (slice_empty at text)) tt; no_more = e }

-- ---- spellings in a list

pub same-eq : (s t : List ℕ) → same s t ≡ true → s ≡ t
same-eq [] [] e = refl
same-eq [] (y ∷ t) e = absurd (false≢true e)
same-eq (x ∷ s) [] e = absurd (false≢true e)
same-eq (x ∷ s) (y ∷ t) e =
    let h = (and-eq-true_iff (eqb x y) (same s t)).0 e in
    ap₂ (λ (c : ℕ) (l : List ℕ). c ∷ l) (eqb-true x y h.0) (same-eq s t h.1)

pub same_self : (s : List ℕ) → same s s ≡ true
same_self [] = refl
same_self (x ∷ s) = rw (eq-eqb x x refl, same_self s)

-- a spelling is in a list if its place is one of the list's
pub place-mem : (ss : List (List ℕ)) (s : List ℕ) → place_in ss s < length ss → Memᴰ s ss
place-mem [] s h = absurd (omega arith)
place-mem (t ∷ ss) s h = go (same s t) refl (place-mem ss s)
  where
    go : (u : Bool) → same s t ≡ u → (place_in ss s < length ss → Memᴰ s ss) → Memᴰ s (t ∷ ss)
    go true e ih = Memᴰ.head (same-eq s t e)
    go false e ih = Memᴰ.tail (ih (omega (arith, rw e at h)))

pub mem-place : (ss : List (List ℕ)) (s : List ℕ) → Memᴰ s ss → place_in ss s < length ss
mem-place [] s m = absurd (Memᴰ.not-nil m)
mem-place (t ∷ ss) s m = go (same s t) refl (Memᴰ.cases_cons m) (mem-place ss s)
  where
    go : (u : Bool) → same s t ≡ u → (s ≡ t) ⊎ Memᴰ s ss → (Memᴰ s ss → place_in ss s < length ss) → place_in (t ∷ ss) s < length (t ∷ ss)
    go true e o ih = rw e (omega arith)
    go false e (inl q) ih = absurd (false≢true (sym e ∙ ap (same s) (sym q) ∙ same_self s))
    go false e (inr k) ih = rw e (omega (arith, ih k))

-- what is in two lists and has no place in the first is in the second
pub not_first : (ss ts : List (List ℕ)) (s : List ℕ) → Memᴰ s (ss ++ ts) → length ss ≤ place_in ss s → Memᴰ s ts
not_first ss ts s m h = go (Memᴰ.append_cases ss m)
  where
    go : Memᴰ s ss ⊎ Memᴰ s ts → Memᴰ s ts
    go (inl k) = absurd (omega (arith, mem-place ss s k))
    go (inr k) = k

-- ---- the byte that a token begins with

below-letters : (b : ℕ) → b < 65 → is_word_start b ≡ false
below-letters b h = rw (lt-leb 65 b h, lt-leb 97 b (omega arith), ne_eqb b 95 (λ e. omega arith))

above-quotes : (b : ℕ) → 40 ≤ b → start_of b ≡ cond (is_word_start b) letter other
above-quotes b h = rw (ne_eqb b 39 (λ e. omega arith), ne_eqb b 34 (λ e. omega arith), ne_eqb b 36 (λ e. omega arith))

pub starts-letter : (b : ℕ) → is_word_start b ≡ true → start_of b ≡ letter
starts-letter b e = go (leb 65 b) refl
  where
    go : (t : Bool) → leb 65 b ≡ t → start_of b ≡ letter
    go true i = above-quotes b (omega (arith, leb-true 65 b i)) ∙ rw e
    go false i = absurd (false≢true (sym (below-letters b (leb-false 65 b i)) ∙ e))

pub starts-digit : (b : ℕ) → is_digit b ≡ true → start_of b ≡ other
starts-digit b e =
    let h = (and-eq-true_iff (leb 48 b) (leb b 57)).0 e in
    let low : 48 ≤ b = leb-true 48 b h.0 in
    let high : b ≤ 57 = leb-true b 57 h.1 in
    above-quotes b (omega arith) ∙ rw (below-letters b (omega arith))

-- a punctuator begins with a byte that begins nothing else
abbrev pub is_other : Start → Bool
is_other quote = false
is_other dollar = false
is_other letter = false
is_other other = true

is-other : (s : Start) → is_other s ≡ true → s ≡ other
is-other quote e = absurd (false≢true e)
is-other dollar e = absurd (false≢true e)
is-other letter e = absurd (false≢true e)
is-other other e = refl

abbrev only_punctuator : List ℕ → Bool
only_punctuator [] = false
only_punctuator (b ∷ bs) = not (is_digit b) && is_other (start_of b)

pub of-all : (p : List ℕ → Bool) (ss : List (List ℕ)) (s : List ℕ) → all_of p ss ≡ true → Memᴰ s ss → p s ≡ true
of-all p [] s e m = absurd (Memᴰ.not-nil m)
of-all p (t ∷ ss) s e m = go (Memᴰ.cases_cons m) ((and-eq-true_iff (p t) (all_of p ss)).0 e) (of-all p ss s)
  where
    go : (s ≡ t) ⊎ Memᴰ s ss → (p t ≡ true) × (all_of p ss ≡ true) → (all_of p ss ≡ true → Memᴰ s ss → p s ≡ true) → p s ≡ true
    go (inl q) h ih = ap p q ∙ h.0
    go (inr k) h ih = ih h.1 k

pub punctuator-first : (s q : List ℕ) (b : ℕ) (bs : List ℕ) → Memᴰ s (punctuators ++ refused_operators) → s ++ q ≡ b ∷ bs → (is_digit b ≡ false) × (start_of b ≡ other)
punctuator-first s q b bs m e = go s e (of-all only_punctuator (punctuators ++ refused_operators) s refl m)
  where
    go : (l : List ℕ) → l ++ q ≡ b ∷ bs → only_punctuator l ≡ true → (is_digit b ≡ false) × (start_of b ≡ other)
    go [] i k = absurd (false≢true k)
    go (c ∷ l) i k =
        let h = (and-eq-true_iff (not (is_digit c)) (is_other (start_of c))).0 k in
        subst (λ (x : ℕ). (is_digit x ≡ false) × (start_of x ≡ other)) (head-eq_of_cons-eq i) (not-true (is_digit c) h.0, is-other (start_of c) h.1)

-- ---- a token that a text begins with

abbrev pub Numeral : List ℕ → Type 0
Numeral s = (n k d : ℕ) × IsNumber s n k d

-- n bytes of b ∷ bs that are a token and no number, by what it starts with
abbrev pub Form : Start → ℕ → List ℕ → ℕ → Type 0
Form quote b bs n = (s q : List ℕ) × All (in_class (Inside b)) s × (s ++ b ∷ q ≡ bs) × (n ≡ length s + 2)
Form dollar b bs n = (s q : List ℕ) × All is_name_byte s × T (is_name_length (length s)) × (123 ∷ s ++ 125 ∷ q ≡ bs) × (n ≡ length s + 3)
Form letter b bs n = (s q : List ℕ) × All is_name_byte s × (s ++ q ≡ bs) × (n ≡ suc (length s))
Form other b bs n = (s q : List ℕ) × Memᴰ s (punctuators ++ refused_operators) × (s ++ q ≡ b ∷ bs) × (n ≡ length s)

starting : (s : Start) (c b n : ℕ) (bs : List ℕ) → start_of c ≡ s → c ≡ b → Form s c bs n → Form (start_of b) b bs n
starting s c b n bs k e f = subst (λ (x : ℕ). Form (start_of x) x bs n) e (subst (λ (i : Start). Form i c bs n) (sym k) f)

punctuator-form : (s q : List ℕ) (b : ℕ) (bs : List ℕ) → Memᴰ s (punctuators ++ refused_operators) → s ++ q ≡ b ∷ bs → Form (start_of b) b bs (length s)
punctuator-form s q b bs m e = starting other b b (length s) bs (punctuator-first s q b bs m e).1 refl (s, q, m, e, refl)

spelled-form : {p : List ℕ} {t : Token} → Spells p t → (q : List ℕ) (b : ℕ) (bs : List ℕ) → p ++ q ≡ b ∷ bs → Numeral p ⊎ Form (start_of b) b bs (length p)
spelled-form (number d h) q b bs e = inl (_, _, _, d)
spelled-form (string c s h a) q b bs e =
    inr (starting quote c b _ bs (rw (is_true (is_quote c) h)) (head-eq_of_cons-eq e)
    (s, q, a, sym (append_assoc s (c ∷ []) q) ∙ tail-eq_of_cons-eq e, omega (arith, length-append s (c ∷ []))))
spelled-form (variable s a h) q b bs e =
    inr (starting dollar 36 b _ bs refl (head-eq_of_cons-eq e)
    (s, q, a, h, ap (λ (l : List ℕ). 123 ∷ l) (sym (append_assoc s (125 ∷ []) q)) ∙ tail-eq_of_cons-eq e, omega (arith, length-append s (125 ∷ []))))
spelled-form (word c s h a) q b bs e = inr (starting letter c b _ bs (starts-letter c (is_true _ h)) (head-eq_of_cons-eq e) (s, q, a, tail-eq_of_cons-eq e, refl))
spelled-form (punctuator {s} m) q b bs e = inr (punctuator-form s q b bs (Memᴰ.append_left refused_operators m) e)

refused-form : {p : List ℕ} → Refuses p → (q : List ℕ) (b : ℕ) (bs : List ℕ) → p ++ q ≡ b ∷ bs → Numeral p ⊎ Form (start_of b) b bs (length p)
refused-form (long-number d h) q b bs e = inl (_, _, _, d)
refused-form (refused-operator {s} m) q b bs e = inr (punctuator-form s q b bs (Memᴰ.append_right punctuators m) e)

-- so no token is longer than n bytes if no number is, nor any form that the first byte may start
pub limited : (b : ℕ) (bs : List ℕ) (n : ℕ) → ((p q : List ℕ) → p ++ q ≡ b ∷ bs → Numeral p → length p ≤ n) → ((m : ℕ) → Form (start_of b) b bs m → m ≤ n) → NoLonger n (b ∷ bs)
limited b bs n h k = record { spelled = λ p q t e s. go p q e (spelled-form s q b bs e); refused = λ p q e s. go p q e (refused-form s q b bs e) }
  where
    go : (p q : List ℕ) → p ++ q ≡ b ∷ bs → Numeral p ⊎ Form (start_of b) b bs (length p) → length p ≤ n
    go p q e (inl i) = h p q e i
    go p q e (inr f) = k (length p) f
