-- `lexeme_at` finds the longest token by page 01's grammar, `Munch`.
use mathlib.Core.Path.{◌≡◌, refl, sym, ◌∙◌, ap, subst}
use mathlib.Core.Bool.{Bool, true, ◌&&◌, false≢true, and-false, and-eq-true_iff}
use mathlib.Core.List.{List, [], ◌∷◌, ◌++◌, nil≢cons, Memᴰ}
use mathlib.Core.Logic.{◌⊎◌, inl, inr}
use Prim.Native.Nat.{ℕ, suc, ◌+◌, ◌-◌, ◌≤◌, ◌<◌}
use native.Mathlib.Nat.{add-sub_cancel_left}
use native.Mathlib.Omega.{arith}
use borrow.Author.Tests.{eq-eqb, ltb-true, ltb-false}
use lib.Dec.{T, leb, ltb}
use lib.Ieee.Bits.{is_true}
use lib.ListN.{length, get_or, take, drop, length-drop}
use lib.Seq.{length-take-le, take-add, take_all, take-append_seam, drop-drop, drop-append_seam, drop-cons}
use Rattle.number.specs.Decimal.{read_at, IsNumber}
use Rattle.number.specs.Decimal as decimals
use Rattle.number.specs.declared.decimal.Decimal.{Decimal}
use Rattle.number.specs.declared.decimal.Decimal.TheVariants as decimal
use Rattle.number.proofs.Longest as numbers
use Rattle.number.proofs.Longest.{number-first}
use Rattle.lexer.specs.Bytes.{is_space, is_quote, is_word_start, is_name_byte, is_name_length, in_class, run, begins, place_in}
use Rattle.std.specs.Prelude.{Option}
use Rattle.lexer.specs.Punctuator.{punctuators, refused_operators, longest_of, judged}
use Rattle.lexer.specs.Token.{literal_words, string_at, variable_at, word_at, lexeme_of, punctuator_at, Start, quote, dollar, letter, other, starting_at, other_at, number_or, first_at, lexeme_at}
use Rattle.lexer.specs.Spelling.{All, Spells, number, string, variable, word, punctuator, Refuses, long-number, refused-operator, NoLonger, SpacesUpTo, Munch}
use Rattle.lexer.specs.declared.bytes.Class.TheVariants.{Inside}
use Rattle.lexer.specs.declared.token.Token.{Token}
use Rattle.lexer.specs.declared.token.Token.TheVariants.{Number, String, Variable, Word, Punctuator}
use Rattle.lexer.specs.declared.token.Lexeme.{Lexeme}
use Rattle.lexer.specs.declared.token.Lexeme.TheVariants.{Found, Bad, End}
use Rattle.lexer.proofs.Longest.{Longest, longest}
use Rattle.lexer.proofs.Law.Runs.{by-test, run-cons, run-le}
use Rattle.lexer.proofs.Law.Forms.{start-cases, start-byte}
use Rattle.lexer.proofs.Law.Ahead.{Ahead, ahead}
use Rattle.lexer.proofs.Law.Spelling.{run-over, run-all, run_ends, begins-over, begins-take, closed_run, closed-take, slice_is, place-mem, not_first, starts-digit, punctuator-first, Numeral, Form, limited}

-- ---- what stands at a place, from the bytes there

abbrev Here : ℕ → List ℕ → Lexeme → Type 0
Here at rest (Found t a end) = (a ≡ at) × Spells (take (end - at) rest) t × NoLonger (end - at) rest
Here at rest (Bad a end) = (a ≡ at) × ((Refuses (take (end - at) rest) × NoLonger (end - at) rest) ⊎ (NoLonger 0 rest × (end ≡ at + 1)))
Here at rest End = ⊥

module _ (at : ℕ) (rest : List ℕ) where
  found : (n : ℕ) (t : Token) → Spells (take n rest) t → NoLonger n rest → Here at rest (Found t at (at + n))
  found n t s l = rw (add-sub_cancel_left at n) (refl, s, l)

  refused : (n : ℕ) → Refuses (take n rest) → NoLonger n rest → Here at rest (Bad at (at + n))
  refused n s l = rw (add-sub_cancel_left at n) (refl, inl (s, l))

  unlisted : NoLonger 0 rest → Here at rest (Bad at (at + 1))
  unlisted l = (refl, inr (l, refl))

-- a bound for what one form may take bounds every token there
abbrev Limit : Start → ℕ → List ℕ → Type 0
Limit s b bs = (n : ℕ) → ((m : ℕ) → Form s b bs m → m ≤ n) → NoLonger n (b ∷ bs)

-- ---- strings: one ends where the run of bytes inside it does

module _ (b : ℕ) (bs : List ℕ) where
  abbrev inside : ℕ
  inside = run (in_class (Inside b)) bs

  string-form : (m : ℕ) → Form quote b bs m → (m ≡ inside + 2) × (begins (b ∷ []) (drop inside bs) ≡ true)
  string-form m f =
      let c = closed_run (in_class (Inside b)) b bs f.0 f.1 f.2 (rw (eq-eqb b b refl) (and-false (leb 32 b))) f.3 in
      (omega (arith, c.0, f.4), c.1)

  string-taken : is_quote b ≡ true → begins (b ∷ []) (drop inside bs) ≡ true → Spells (take (inside + 2) (b ∷ bs)) String
  string-taken e t =
      let more : inside + 2 ≡ suc (inside + 1) = omega arith in
      rw (more, closed-take (in_class (Inside b)) b bs t) (string b (take inside bs) (subst T (sym e) tt) (run-all (in_class (Inside b)) bs))

  string-here : (at : ℕ) → is_quote b ≡ true → Limit quote b bs → Here at (b ∷ bs) (string_at at b bs)
  unfolding string_at
  string-here at e l =
      by-test (Here at (b ∷ bs)) (begins (b ∷ []) (drop inside bs))
      (λ t. found at (b ∷ bs) (inside + 2) String (string-taken e t) (l (inside + 2) (λ m f. omega (arith, (string-form m f).0))))
      (λ t. unlisted at (b ∷ bs) (l 0 (λ m f. absurd (false≢true (sym t ∙ (string-form m f).1)))))

-- ---- variables: one ends where the run of its name's bytes does

-- the test of `variable_at`
abbrev closes : List ℕ → Bool
closes bs = let n = run is_name_byte (drop 1 bs) in (begins (123 ∷ []) bs && is_name_length n) && begins (125 ∷ []) (drop (1 + n) bs)

variable-form : (b : ℕ) (bs : List ℕ) (m : ℕ) → Form dollar b bs m → (m ≡ run is_name_byte (drop 1 bs) + 3) × (closes bs ≡ true)
variable-form b bs m f =
    let c = closed_run is_name_byte 125 (f.0 ++ 125 ∷ f.1) f.0 f.1 f.2 refl refl in
    let last : drop (1 + length f.0) (123 ∷ f.0 ++ 125 ∷ f.1) ≡ 125 ∷ f.1 = sym (drop-drop (length f.0) 1 _) ∙ drop-append_seam f.0 (125 ∷ f.1) in
    subst (λ (l : List ℕ). (m ≡ run is_name_byte (drop 1 l) + 3) × (closes l ≡ true)) f.4
    (omega (arith, c.0, f.5), rw (c.0, is_true (is_name_length (length f.0)) f.3, last))

module _ (b : ℕ) (bs : List ℕ) where
  abbrev name : ℕ
  name = run is_name_byte (drop 1 bs)

  variable-taken : b ≡ 36 → closes bs ≡ true → Spells (take (name + 3) (b ∷ bs)) Variable
  variable-taken e t =
      let h = (and-eq-true_iff (begins (123 ∷ []) bs && is_name_length name) (begins (125 ∷ []) (drop (1 + name) bs))).0 t in
      let i = (and-eq-true_iff (begins (123 ∷ []) bs) (is_name_length name)).0 h.0 in
      let more : name + 3 ≡ suc (1 + (name + 1)) = omega arith in
      let size : T (is_name_length (length (take name (drop 1 bs)))) = rw (length-take-le name (drop 1 bs) (run-le is_name_byte (drop 1 bs)), i.1) tt in
      rw (more, e, take-add 1 (name + 1) bs, begins-take (123 ∷ []) bs i.0, closed-take is_name_byte 125 (drop 1 bs) (rw (drop-drop name 1 bs) h.1))
      (variable (take name (drop 1 bs)) (run-all is_name_byte (drop 1 bs)) size)

  variable-here : (at : ℕ) → b ≡ 36 → Limit dollar b bs → Here at (b ∷ bs) (variable_at at bs)
  unfolding variable_at
  variable-here at e l =
      by-test (Here at (b ∷ bs)) (closes bs)
      (λ t. found at (b ∷ bs) (name + 3) Variable (variable-taken e t) (l (name + 3) (λ m f. omega (arith, (variable-form b bs m f).0))))
      (λ t. unlisted at (b ∷ bs) (l 0 (λ m f. absurd (false≢true (sym t ∙ (variable-form b bs m f).1)))))

-- ---- words: one goes as far as bytes of a name do

word-here : (at b : ℕ) (bs : List ℕ) → is_word_start b ≡ true → Limit letter b bs → Here at (b ∷ bs) (word_at at (b ∷ bs))
unfolding word_at
word-here at b bs e l =
    let n = run is_name_byte bs in
    let r : run is_name_byte (b ∷ bs) ≡ suc n = run-cons is_name_byte b bs (start-byte b e) in
    subst (λ (i : ℕ). Here at (b ∷ bs) (Found (Word (place_in literal_words (take i (b ∷ bs)))) at (at + i))) (sym r)
    (found at (b ∷ bs) (suc n) (Word (place_in literal_words (b ∷ take n bs))) (word b (take n bs) (subst T (sym e) tt) (run-all is_name_byte bs))
    (l (suc n) (λ m f. omega (arith, run-over is_name_byte f.0 f.1 f.2, ap (run is_name_byte) f.3, f.4))))

-- ---- punctuators: the longest that the text begins with is taken

punctuator-judged : (at b : ℕ) (bs l : List ℕ) → Longest (punctuators ++ refused_operators) (b ∷ bs) l → Limit other b bs → Here at (b ∷ bs) (lexeme_of at (judged l))
punctuator-judged at b bs l h k = go l h.is_one (k (length l) (λ m f. rw f.4 (h.none-longer f.0 f.2 (subst (λ (i : List ℕ). begins f.0 i ≡ true) f.3 (begins-over f.0 f.1)))))
  where
    go : (s : List ℕ) → (s ≡ []) ⊎ (Memᴰ s (punctuators ++ refused_operators) × (begins s (b ∷ bs) ≡ true)) → NoLonger (length s) (b ∷ bs) → Here at (b ∷ bs) (lexeme_of at (judged s))
    go [] o n = unlisted at (b ∷ bs) n
    go (c ∷ s) (inl e) n = absurd (nil≢cons (sym e))
    go (c ∷ s) (inr o) n =
        let taken : c ∷ s ≡ take (length (c ∷ s)) (b ∷ bs) = sym (begins-take (c ∷ s) (b ∷ bs) o.1) in
        by-test (λ (x : Option ℕ). Here at (b ∷ bs) (lexeme_of at (x, length (c ∷ s)))) (ltb (place_in punctuators (c ∷ s)) (length punctuators))
        (λ t. found at (b ∷ bs) (length (c ∷ s)) (Punctuator (place_in punctuators (c ∷ s)))
        (subst (λ (i : List ℕ). Spells i (Punctuator (place_in punctuators (c ∷ s)))) taken (punctuator (place-mem punctuators (c ∷ s) (ltb-true _ _ t)))) n)
        (λ t. refused at (b ∷ bs) (length (c ∷ s)) (subst Refuses taken (refused-operator (not_first punctuators refused_operators (c ∷ s) o.0 (ltb-false _ _ t)))) n)

punctuator-here : (at b : ℕ) (bs : List ℕ) → Limit other b bs → Here at (b ∷ bs) (punctuator_at at (b ∷ bs))
unfolding punctuator_at
punctuator-here at b bs l = punctuator-judged at b bs (longest_of (punctuators ++ refused_operators) (b ∷ bs)) (longest (punctuators ++ refused_operators) (b ∷ bs)) l

-- ---- by the first byte

other-here : (at b : ℕ) (bs : List ℕ) → ((p q : List ℕ) → p ++ q ≡ b ∷ bs → Numeral p → length p ≤ 0) → Here at (b ∷ bs) (other_at at b bs)
unfolding other_at
other-here at b bs none =
    start-cases (λ (s : Start). Limit s b bs → Here at (b ∷ bs) (starting_at s at b bs)) b (string-here b bs at) (variable-here b bs at) (word-here at b bs) (punctuator-here at b bs)
    (λ n. limited b bs n (λ p q e i. omega (arith, none p q e i)))

-- ---- numbers

-- where a number begins nothing else does
number-limit : (b : ℕ) (bs s : List ℕ) {n k d : ℕ} → decimals.LongestNumber (b ∷ bs) s n k d → NoLonger (length s) (b ∷ bs)
number-limit b bs s l =
    let digit = number-first l.is_number l.rest b bs l.begins in
    limited b bs (length s) (λ p q e i. l.none-longer p q i.0 i.1 i.2 e i.3)
    (λ m f. (let g : Form other b bs m = subst (λ (t : Start). Form t b bs m) (starts-digit b digit) f in
    absurd (false≢true (sym (punctuator-first g.0 g.1 b bs g.2 g.3).0 ∙ digit))))

number-taken : (rest s : List ℕ) {n k d : ℕ} → decimals.LongestNumber rest s n k d → IsNumber (take (length s) rest) n k d
number-taken rest s {n} {k} {d} l =
    subst (λ (p : List ℕ). IsNumber p n k d) (sym (take-append_seam s l.rest) ∙ ap (take (length s)) l.begins) l.is_number

number-here : (at b : ℕ) (bs text : List ℕ) (d : Decimal) → drop at text ≡ b ∷ bs → decimals.Longest text at d → Here at (b ∷ bs) (number_or d at b bs)
number-here at b bs text decimal.Nothing e l = other-here at b bs (λ p q i h. absurd (l p q h.0 h.1 h.2 (i ∙ sym e) h.3))
number-here at b bs text (decimal.Number end n k) e (s, d, l, ends, few) =
    let here : decimals.LongestNumber (b ∷ bs) s n k d = rw e at l in
    rw ends (found at (b ∷ bs) (length s) (Number n k) (number (number-taken (b ∷ bs) s here) few) (number-limit b bs s here))
number-here at b bs text (decimal.TooLong end) e (s, n, k, d, l, ends, many) =
    let here : decimals.LongestNumber (b ∷ bs) s n k d = rw e at l in
    rw ends (refused at (b ∷ bs) (length s) (long-number (number-taken (b ∷ bs) s here) many) (number-limit b bs s here))

-- ---- after spaces

munched : (text : List ℕ) (from at : ℕ) (x : Lexeme) → SpacesUpTo text from at → Ahead from (length text) x → Here at (drop at text) x → Munch text from x
munched text from at (Found t a end) s w h = rw (h.0, slice_is at end text) (s, w.ends, h.1, h.2)
munched text from at (Bad a end) s w h = rw (h.0, slice_is at end text) (s, w.ends, h.1)
munched text from at End s w h = absurd h

module _ (text : List ℕ) (from : ℕ) where
  abbrev at : ℕ
  at = from + run is_space (drop from text)

  rest-is : drop (run is_space (drop from text)) (drop from text) ≡ drop at text
  rest-is = drop-drop (run is_space (drop from text)) from text

  up_to : (b : ℕ) (bs : List ℕ) → drop at text ≡ b ∷ bs → SpacesUpTo text from at
  up_to b bs e =
      let inside : at < length text = omega (arith, ap length e, length-drop at text) in
      record {
        onward = omega arith;
        inside = inside;
        spaces = rw (slice_is from at text, add-sub_cancel_left from (run is_space (drop from text))) (run-all is_space (drop from text));
        no_more = ap (λ (l : List ℕ). is_space (get_or l 0 0)) (sym (drop-cons text at 0 inside) ∙ e) ∙ run_ends is_space (drop from text) b bs (rest-is ∙ e);
      }

  first-munch : (rest : List ℕ) → drop at text ≡ rest → Ahead from (length text) (first_at text at rest) → Munch text from (first_at text at rest)
  first-munch [] e w =
      let n = run is_space (drop from text) in
      let short : length (drop from text) ≤ n = omega (arith, ap length (rest-is ∙ e), length-drop n (drop from text)) in
      subst (All is_space) (take_all n (drop from text) short) (run-all is_space (drop from text))
  first-munch (b ∷ bs) e w = munched text from at (number_or (read_at text at) at b bs) (up_to b bs e) w (rw e (number-here at b bs text (read_at text at) e (numbers.longest text at)))

pub munch : (text : List ℕ) (from : ℕ) → Munch text from (lexeme_at text from)
unfolding lexeme_at
munch text from = first-munch text from (drop (from + run is_space (drop from text)) text) refl (ahead text from)
