-- Page 01's grammar leaves no choice: `Munch` holds of one lexeme only, so of none but `lexeme_at`'s.
use mathlib.Core.Path.{◌≡◌, refl, sym, ◌∙◌, ap, subst}
use mathlib.Core.Bool.{Bool, true, false, cond, not, false≢true}
use mathlib.Core.List.Memᴰ
use mathlib.Core.List.{List, [], ◌∷◌, ◌++◌, append-nil, Memᴰ}
use mathlib.Core.Logic.{◌⊎◌, inl, inr}
use Prim.Native.Nat.{ℕ, suc, ◌+◌, ◌-◌, ◌≤◌, ◌<◌}
use native.Mathlib.Nat.{add-zero}
use native.Mathlib.Omega.{arith}
use borrow.Author.Tests.{le-leb, lt-leb, lt-ltb, not-true}
use lib.Dec.{leb, ltb}
use lib.Ieee.Bits.{is_true}
use lib.ListN.{length, get_or, take, drop, length-drop, take-append-drop}
use lib.Seq.{slice, length-slice, take-append_seam, drop-append_seam, drop-drop, drop-cons}
use Rattle.number.specs.Decimal.{is_digit, joined, most_digits, Digits⁺, IsWholePart, nought, counted, IsNumber, whole, pointed}
use Rattle.lexer.specs.Bytes.{is_space, is_quote, run, place_in}
use Rattle.lexer.specs.Punctuator.{punctuators, refused_operators}
use Rattle.lexer.specs.Token.{literal_words, Start, quote, dollar, letter, other, start_of, lexeme_at}
use Rattle.lexer.specs.Spelling.{All, Spells, number, string, variable, word, punctuator, Refuses, long-number, refused-operator, NoLonger, SpacesUpTo, Munch}
use Rattle.lexer.specs.declared.token.Token.{Token}
use Rattle.lexer.specs.declared.token.Token.TheVariants.{Number, String, Variable, Word, Punctuator}
use Rattle.lexer.specs.declared.token.Lexeme.{Lexeme}
use Rattle.lexer.specs.declared.token.Lexeme.TheVariants.{Found, Bad, End}
use Rattle.lexer.proofs.Munch.{munch}
use Rattle.lexer.proofs.Law.Runs.{run-nil}
use Rattle.lexer.proofs.Law.Spelling.{run-over, closed_run, slice_is, starts-letter, starts-digit, is_other, of-all, mem-place, punctuator-first}

-- ---- what bytes spell, by the first of them

pub all_digits : (ds : List ℕ) → Digits⁺ ds → All is_digit ds
all_digits [] h = tt
all_digits (b ∷ []) h = (h, tt)
all_digits (b ∷ c ∷ ds) h = (h.0, all_digits (c ∷ ds) h.1)

pub of-whole : {w : List ℕ} → IsWholePart w → (P : List ℕ → Type 0) → ((b : ℕ) (bs : List ℕ) → All is_digit (b ∷ bs) → P (b ∷ bs)) → P w
of-whole nought P f = f 48 [] (tt, tt)
of-whole (counted {b} {bs} n h) P f = f b bs (all_digits (b ∷ bs) h)

module _ (at : ℕ) where
  -- n bytes are a token, or one that is refused
  abbrev ruled : Bool → Token → ℕ → Lexeme
  ruled good t n = cond good (Found t at (at + n)) (Bad at (at + n))

  -- digits, and those after a point
  abbrev decimal : List ℕ → List ℕ → ℕ → Lexeme
  decimal w f n = ruled (leb (length w + length f) most_digits) (Number (joined 0 (w ++ f)) (length f)) n

  abbrev started : Start → List ℕ → Lexeme
  started quote s = ruled true String (length s)
  started dollar s = ruled true Variable (length s)
  started letter s = ruled true (Word (place_in literal_words s)) (length s)
  started other s = ruled (ltb (place_in punctuators s) (length punctuators)) (Punctuator (place_in punctuators s)) (length s)

  -- the lexeme that some bytes are; none at all stand for a byte that begins no token
  abbrev reading : List ℕ → Lexeme
  reading [] = Bad at (at + 1)
  reading (b ∷ bs) =
      let n = run is_digit (b ∷ bs) in
      cond (is_digit b) (decimal (take n (b ∷ bs)) (drop 1 (drop n (b ∷ bs))) (length (b ∷ bs))) (started (start_of b) (b ∷ bs))

  abbrev Reads : List ℕ → Lexeme → Type 0
  Reads s x = (0 < length s) × (reading s ≡ x)

  -- a number's whole part ends with its first digits
  digits-read : (b : ℕ) (bs r : List ℕ) → All is_digit (b ∷ bs) → run is_digit r ≡ 0 → Reads (b ∷ bs ++ r) (decimal (b ∷ bs) (drop 1 r) (length (b ∷ bs ++ r)))
  digits-read b bs r h z =
      let n : run is_digit (b ∷ bs ++ r) ≡ suc (length bs) = omega (arith, run-over is_digit (b ∷ bs) r h) in
      (omega arith, rw (is_true (is_digit b) h.0, n, take-append_seam bs r, drop-append_seam bs r))

  decimal-read : {s : List ℕ} {n k d : ℕ} → IsNumber s n k d → Reads s (ruled (leb d most_digits) (Number n k) (length s))
  unfolding run
  decimal-read (whole {w} h) =
      of-whole h (λ (s : List ℕ). Reads s (ruled (leb (length s) most_digits) (Number (joined 0 s) 0) (length s)))
      (λ b bs a. rw (append-nil bs, add-zero (suc (length bs))) at (digits-read b bs [] a refl))
  decimal-read (pointed w f h d) =
      of-whole h (λ (s : List ℕ). Reads (s ++ 46 ∷ f) (ruled (leb (length s + length f) most_digits) (Number (joined 0 (s ++ f)) (length f)) (length (s ++ 46 ∷ f))))
      (λ b bs a. digits-read b bs (46 ∷ f) a (run-nil is_digit 46 f refl))

  -- every other token shows by its first byte
  start-read : (k : Start) (b : ℕ) (bs : List ℕ) → start_of b ≡ k → is_other k ≡ false → reading (b ∷ bs) ≡ started k (b ∷ bs)
  start-read k b bs e o = go (is_digit b) refl
    where
      go : (t : Bool) → is_digit b ≡ t → reading (b ∷ bs) ≡ started k (b ∷ bs)
      go true i = absurd (false≢true (sym o ∙ ap is_other (sym e ∙ starts-digit b i)))
      go false i = rw (i, e)

  punctuator-read : (s : List ℕ) → Memᴰ s (punctuators ++ refused_operators) → Reads s (started other s)
  punctuator-read [] m = absurd (false≢true (sym (punctuator-first [] (48 ∷ []) 48 [] m refl).0))
  punctuator-read (b ∷ bs) m = let h = punctuator-first (b ∷ bs) [] b (bs ++ []) m refl in (omega arith, rw (h.0, h.1))

  spelled-read : {s : List ℕ} {t : Token} → Spells s t → Reads s (Found t at (at + length s))
  spelled-read (number {s} {n} {k} {d} i h) = rw (le-leb d most_digits h) at (decimal-read i)
  spelled-read (string q bs h a) = (omega arith, start-read quote q (bs ++ q ∷ []) (rw (is_true (is_quote q) h)) refl)
  spelled-read (variable bs a h) = (omega arith, refl)
  spelled-read (word b bs h a) = (omega arith, start-read letter b bs (starts-letter b (is_true _ h)) refl)
  spelled-read (punctuator {s} m) = rw (lt-ltb _ _ (mem-place punctuators s m)) at (punctuator-read s (Memᴰ.append_left refused_operators m))

  refused-read : {s : List ℕ} → Refuses s → Reads s (Bad at (at + length s))
  refused-read (long-number {s} {n} {k} {d} i h) = rw (lt-leb d most_digits h) at (decimal-read i)
  refused-read (refused-operator {s} m) =
      let none : ltb (place_in punctuators s) (length punctuators) ≡ false = not-true _ (of-all (λ l. not (ltb (place_in punctuators l) (length punctuators))) refused_operators s refl m) in
      rw none at (punctuator-read s (Memᴰ.append_right punctuators m))

-- ---- what stands at a place

module _ (text : List ℕ) (from : ℕ) where
  -- the only place that spaces go up to
  abbrev first : ℕ
  first = from + run is_space (drop from text)

  is-first : (at : ℕ) → SpacesUpTo text from at → at ≡ first
  is-first at s =
      let n = at - from in
      let sum : from + n ≡ at = omega (arith, s.onward) in
      let rest : drop n (drop from text) ≡ get_or text at 0 ∷ drop (suc at) text = rw (drop-drop n from text, sum) (drop-cons text at 0 s.inside) in
      let parts : slice from at text ++ get_or text at 0 ∷ drop (suc at) text ≡ drop from text = rw (slice_is from at text, ← rest) (take-append-drop n (drop from text)) in
      let r = closed_run is_space (get_or text at 0) (drop from text) (slice from at text) (drop (suc at) text) s.spaces s.no_more parts in
      omega (arith, s.onward, length-slice from at text (omega (arith, s.inside)), r.0)

  -- n bytes at a place are the most that a token takes there, and spell the lexeme
  abbrev Stands : ℕ → Lexeme → Type 0
  Stands at x = (at < length text) × (n : ℕ) × NoLonger n (drop at text) × ((m : ℕ) → NoLonger m (drop at text) → n ≤ m) × (x ≡ reading at (take n (drop at text)))

  -- so does whatever a lexeme has from its place to its end
  stands : (at end : ℕ) (x : ℕ → Lexeme) → SpacesUpTo text from at → end ≤ length text → NoLonger (end - at) (drop at text) →
      ((m : ℕ) (q : List ℕ) → slice at end text ++ q ≡ drop at text → NoLonger m (drop at text) → length (slice at end text) ≤ m) →
      Reads at (slice at end text) (x (at + length (slice at end text))) → Stands first (x end)
  stands at end x s h l k r =
      let n = end - at in
      let size = length-slice at end text h in
      let end_is : at + length (slice at end text) ≡ end = omega (arith, r.0) in
      let part = slice_is at end text in
      subst (λ (i : ℕ). Stands i (x end)) (is-first at s) (
        s.inside,
        n,
        l,
        λ m f. omega (arith, k m (drop n (drop at text)) (rw part (take-append-drop n (drop at text))) f),
        ap x (sym end_is) ∙ sym r.1 ∙ ap (reading at) part,
      )

  -- spaces up to the end, or something else
  abbrev Case : Lexeme → Type 0
  Case x = ((x ≡ End) × All is_space (drop from text)) ⊎ Stands first x

  which : (x : Lexeme) → Munch text from x → Case x
  which (Found t at end) m =
      inr (stands at end (Found t at) m.0 m.1 m.3 (λ i q e l. l.spelled _ q t e m.2) (spelled-read at m.2))
  which (Bad at end) m = inr (go m.2)
    where
      go : (Refuses (slice at end text) × NoLonger (end - at) (drop at text)) ⊎ (NoLonger 0 (drop at text) × (end ≡ at + 1)) → Stands first (Bad at end)
      go (inl r) = stands at end (Bad at) m.0 m.1 r.1 (λ i q e l. l.refused _ q e r.0) (refused-read at r.0)
      go (inr r) = subst (λ (i : ℕ). Stands i (Bad at end)) (is-first at m.0) (m.0.inside, 0, r.0, λ i l. omega arith, ap (Bad at) r.1)
  which End m = inl (refl, m)

  not-both : All is_space (drop from text) → first < length text → ⊥
  unfolding run
  not-both a h =
      let r : run is_space (drop from text) ≡ length (drop from text) + 0 = rw (append-nil (drop from text)) at (run-over is_space (drop from text) [] a) in
      omega (arith, r, length-drop from text)

  one : (x y : Lexeme) → Case x → Case y → x ≡ y
  one x y (inl a) (inl b) = a.0 ∙ sym b.0
  one x y (inl a) (inr b) = absurd (not-both a.1 b.0)
  one x y (inr a) (inl b) = absurd (not-both b.1 a.0)
  one x y (inr a) (inr b) =
      let same : a.1 ≡ b.1 = omega (arith, a.3 b.1 b.2, b.3 a.1 a.2) in
      a.4 ∙ ap (λ (n : ℕ). reading first (take n (drop first text))) same ∙ sym b.4

-- ---- one lexeme only

pub only : (text : List ℕ) (from : ℕ) (x y : Lexeme) → Munch text from x → Munch text from y → x ≡ y
only text from x y m k = one text from x y (which text from x m) (which text from y k)

pub is-lexeme : (text : List ℕ) (from : ℕ) (x : Lexeme) → Munch text from x → x ≡ lexeme_at text from
is-lexeme text from x m = only text from x (lexeme_at text from) m (munch text from)
