-- Parts by their places.
use mathlib.Core.Path.{◌≡◌, refl, sym, ◌∙◌, ap, subst}
use mathlib.Core.Bool.{Bool, true, false, cond, not}
use mathlib.Core.List.{List, [], ◌∷◌, ◌++◌}
use Prim.Native.Nat.{ℕ, zero, suc, ◌+◌, ◌-◌, ◌<◌, ◌≤◌}
use native.Mathlib.Nat.{add-sub_cancel_left}
use native.Mathlib.Numerals.{add-one}
use native.Mathlib.Omega.{arith}
use borrow.Author.Tests.{eq-eqb, not-true, ltb-true, ltb-false, lt-ltb, le-ltb, lt-leb, le-leb}
use lib.Dec.{eqb, ltb, leb}
use lib.Ieee.Bits.{is_true}
use lib.ListN.{length, get_or, take, drop, length-drop, drop_of_length-le}
use lib.Seq.{slice, take-nil, take_all, drop-cons, drop-drop, length-slice}
use Rattle.std.specs.List.{filter, prefix_len}
use Rattle.lexer.specs.Bytes.{run}
use Rattle.lexer.specs.Spelling.{All}
use Rattle.lexer.proofs.Law.Runs.{run-cons, run-nil, run-le}
use Rattle.lexer.proofs.Law.Spelling.{slice_is}
use Rattle.words.specs.Table.{before}
use Rattle.text.specs.Parts.{parts_before, lines, bytes_of, parted, start_in, part_at, end_from}
use Rattle.text.specs.declared.part.Part.{Part}

-- ---- what the iterators count

-- a run is what `take_while` takes
pub run-prefix : (p : ℕ → Bool) (s : List ℕ) → prefix_len p s ≡ run p s
unfolding run
run-prefix p [] = refl
run-prefix p (x ∷ xs) = go (p x) (run-prefix p xs)
  where
    go : (t : Bool) → prefix_len p xs ≡ run p xs → cond t (1 + prefix_len p xs) 0 ≡ elim t [ true ↦ suc (run p xs) | false ↦ 0 ]
    go true h = omega (arith, h)
    go false h = refl

-- there is one part more than bytes that part
length-before : (n x : ℕ) (ps : List (List ℕ)) → 1 + n ≡ length ps → 1 + n ≡ length (before x ps)
length-before n x [] h = absurd (omega arith)
length-before n x (p ∷ ps) h = h

pub parted-count : (b : ℕ) (s : List ℕ) → 1 + length (filter (λ x. eqb x b) s) ≡ length (parted b s)
parted-count b [] = refl
parted-count b (x ∷ xs) = go (eqb x b) (parted-count b xs)
  where
    go : (t : Bool) → 1 + length (filter (λ x. eqb x b) xs) ≡ length (parted b xs) →
        1 + length (cond t (x ∷ filter (λ x. eqb x b) xs) (filter (λ x. eqb x b) xs)) ≡ length {A = List ℕ} (elim t [ true ↦ [] ∷ parted b xs | false ↦ before x (parted b xs) ])
    go true h = omega (arith, h)
    go false h = length-before (length (filter (λ x. eqb x b) xs)) x (parted b xs) h

-- two numbers, by which is the greater
by_order : {P : Type 0} (a b : ℕ) → (a < b → P) → (b ≤ a → P) → P
by_order {P} a b f g = go (ltb a b) refl
  where
    go : (t : Bool) → ltb a b ≡ t → P
    go true e = f (ltb-true a b e)
    go false e = g (ltb-false a b e)

-- ---- the first part of a text, by its first byte that parts

module _ (end : List (List ℕ)) (b : ℕ) where
  -- how many bytes stand before it
  abbrev ahead : List ℕ → ℕ
  ahead s = run (λ x. not (eqb x b)) s

  -- a byte that parts, and one that doesn't
  first_ends : (x : ℕ) (xs : List ℕ) → eqb x b ≡ true → (parts_before end b (x ∷ xs) ≡ [] ∷ parts_before end b xs) × (ahead (x ∷ xs) ≡ 0)
  first_ends x xs e = (ap by e, run-nil (λ x. not (eqb x b)) x xs (ap not e))
    where
      by : Bool → List (List ℕ)
      by t = elim t [ true ↦ [] ∷ parts_before end b xs | false ↦ before x (parts_before end b xs) ]

  first_goes : (x : ℕ) (xs : List ℕ) → eqb x b ≡ false → (parts_before end b (x ∷ xs) ≡ before x (parts_before end b xs)) × (ahead (x ∷ xs) ≡ suc (ahead xs))
  first_goes x xs e = (ap by e, run-cons (λ x. not (eqb x b)) x xs (ap not e))
    where
      by : Bool → List (List ℕ)
      by t = elim t [ true ↦ [] ∷ parts_before end b xs | false ↦ before x (parts_before end b xs) ]

  first_part : (s : List ℕ) → ahead s < length s → parts_before end b s ≡ take (ahead s) s ∷ parts_before end b (drop (suc (ahead s)) s)
  first_part [] h = absurd (omega arith)
  first_part (x ∷ xs) h = go (eqb x b) refl (first_part xs)
    where
      go : (t : Bool) → eqb x b ≡ t → (ahead xs < length xs → parts_before end b xs ≡ take (ahead xs) xs ∷ parts_before end b (drop (suc (ahead xs)) xs)) →
          parts_before end b (x ∷ xs) ≡ take (ahead (x ∷ xs)) (x ∷ xs) ∷ parts_before end b (drop (suc (ahead (x ∷ xs))) (x ∷ xs))
      go true e more = let f = first_ends x xs e in rw f.1 f.0
      go false e more = let f = first_goes x xs e in rw f.1 (f.0 ∙ ap (before x) (more (omega (arith, h, f.1))))

-- a text without such a byte
only_part : (b : ℕ) (s : List ℕ) → length s ≤ run (λ x. not (eqb x b)) s → parted b s ≡ s ∷ []
only_part b [] h = refl
only_part b (x ∷ xs) h = go (eqb x b) refl (only_part b xs)
  where
    go : (t : Bool) → eqb x b ≡ t → (length xs ≤ run (λ x. not (eqb x b)) xs → parted b xs ≡ xs ∷ []) → parted b (x ∷ xs) ≡ (x ∷ xs) ∷ []
    go true e more = absurd (omega (arith, h, (first_ends ([] ∷ []) b x xs e).1))
    go false e more = let f = first_goes ([] ∷ []) b x xs e in f.0 ∙ ap (before x) (more (omega (arith, h, f.1)))

-- a text that is joined of one without such a byte, such a byte and a rest
module _ (b : ℕ) where
  pub parted-joined : (p rest : List ℕ) → All (λ x. not (eqb x b)) p → parted b (p ++ b ∷ rest) ≡ p ∷ parted b rest
  parted-joined [] rest h = (first_ends ([] ∷ []) b b rest (eq-eqb b b refl)).0
  parted-joined (x ∷ p) rest h = (first_goes ([] ∷ []) b x (p ++ b ∷ rest) (not-true _ (is_true _ h.0))).0 ∙ ap (before x) (parted-joined p rest h.1)

  pub parted-alone : (p : List ℕ) → All (λ x. not (eqb x b)) p → parted b p ≡ p ∷ []
  parted-alone [] h = refl
  parted-alone (x ∷ p) h = (first_goes ([] ∷ []) b x p (not-true _ (is_true _ h.0))).0 ∙ ap (before x) (parted-alone p h.1)

line-goes : (x : ℕ) (ys : List ℕ) (t : Bool) → eqb x 10 ≡ t → length (x ∷ ys) ≤ run (λ x. not (eqb x 10)) (x ∷ ys) →
    (eqb x 10 ≡ false → length ys ≤ run (λ x. not (eqb x 10)) ys → before x (lines ys) ≡ (x ∷ ys) ∷ []) → lines (x ∷ ys) ≡ (x ∷ ys) ∷ []
line-goes x ys true e h more = absurd (omega (arith, h, (first_ends [] 10 x ys e).1))
line-goes x ys false e h more = let f = first_goes [] 10 x ys e in f.0 ∙ more e (omega (arith, h, f.1))

only-line : (x : ℕ) (xs : List ℕ) → length (x ∷ xs) ≤ run (λ x. not (eqb x 10)) (x ∷ xs) → lines (x ∷ xs) ≡ (x ∷ xs) ∷ []
only-line x [] h = line-goes x [] (eqb x 10) refl h (λ e k. refl)
only-line x (y ∷ ys) h = line-goes x (y ∷ ys) (eqb x 10) refl h (λ e k. ap (before x) (only-line y ys k))

-- ---- a part of a text that begins at a place

module _ (b : ℕ) (text : List ℕ) (at : ℕ) where
  pub end-from : at ≤ end_from b text at
  end-from = omega arith

  pub end-within : at ≤ length text → end_from b text at ≤ length text
  end-within h = omega (arith, run-le (λ x. not (eqb x b)) (drop at text), length-drop at text)

  -- its bytes
  bytes-of : take (run (λ x. not (eqb x b)) (drop at text)) (drop at text) ≡ slice at (end_from b text at) text
  bytes-of = sym (slice_is at (end_from b text at) text ∙ ap (λ (n : ℕ). take n (drop at text)) (add-sub_cancel_left at (run (λ x. not (eqb x b)) (drop at text))))

  rest_of : drop (suc (run (λ x. not (eqb x b)) (drop at text))) (drop at text) ≡ drop (end_from b text at + 1) text
  rest_of =
      let n : at + suc (run (λ x. not (eqb x b)) (drop at text)) ≡ end_from b text at + 1 = omega arith in
      drop-drop (suc (run (λ x. not (eqb x b)) (drop at text))) at text ∙ ap (λ (n : ℕ). drop n text) n

  parts_from_lem : (end : List (List ℕ)) → end_from b text at < length text →
      parts_before end b (drop at text) ≡ slice at (end_from b text at) text ∷ parts_before end b (drop (end_from b text at + 1) text)
  parts_from_lem end h =
      first_part end b (drop at text) (omega (arith, h, length-drop at text)) ∙ rw (bytes-of, rest_of)

  last-from : at ≤ length text → length text ≤ end_from b text at → drop at text ≡ slice at (end_from b text at) text
  last-from h e =
      let n : length (drop at text) ≤ run (λ x. not (eqb x b)) (drop at text) = omega (arith, e, length-drop at text) in
      sym (take_all (run (λ x. not (eqb x b)) (drop at text)) (drop at text) n) ∙ bytes-of

-- The lines from a place on: the part up to the next LF, and then the lines after it.
pub lines_from : (text : List ℕ) (at : ℕ) → at < length text →
    lines (drop at text) ≡ slice at (end_from 10 text at) text ∷ lines (drop (end_from 10 text at + 1) text)
lines_from text at h = by_order (end_from 10 text at) (length text) (λ k. parts_from_lem 10 text at [] k) last
  where
    last : length text ≤ end_from 10 text at → lines (drop at text) ≡ slice at (end_from 10 text at) text ∷ lines (drop (end_from 10 text at + 1) text)
    last k =
        let s = drop-cons text at 0 h in
        let n : length (drop at text) ≤ run (λ x. not (eqb x 10)) (drop at text) = omega (arith, k, length-drop at text) in
        let one : lines (drop at text) ≡ drop at text ∷ [] =
        subst (λ (l : List ℕ). length l ≤ run (λ x. not (eqb x 10)) l → lines l ≡ l ∷ []) (sym s) (only-line (get_or text at 0) (drop (suc at) text)) n in
        let past : drop (end_from 10 text at + 1) text ≡ [] = drop_of_length-le text {i = end_from 10 text at + 1} (omega (arith, k)) in
        one ∙ rw (past, ← last-from 10 text at (omega (arith, h)) k)

-- ---- the first lines of a text

no_lines : (xs : List ℕ) → lines xs ≡ [] → xs ≡ []
no_lines [] h = refl
no_lines (x ∷ xs) h = go (eqb x 10) refl
  where
    some : (ls : List (List ℕ)) → before x ls ≡ [] → ⊥
    some [] e = absurd (let n : ◌≡◌ {A = ℕ} 1 0 = ap length e in omega arith)
    some (l ∷ ls) e = absurd (let n : suc (length ls) ≡ 0 = ap length e in omega arith)

    go : (t : Bool) → eqb x 10 ≡ t → x ∷ xs ≡ []
    go true e = absurd (let n : suc (length (lines xs)) ≡ 0 = ap length (sym (first_ends [] 10 x xs e).0 ∙ h) in omega arith)
    go false e = absurd (some (lines xs) (sym (first_goes [] 10 x xs e).0 ∙ h))

-- what is said of the first so many lines, where the text's lines are these
abbrev Front : List ℕ → List (List ℕ) → ℕ → Type 0
Front text ls k = lines (take (bytes_of (take k ls)) text) ≡ take k ls

module _ (x : ℕ) (xs : List ℕ) (k : ℕ) where
  -- an LF before the lines of the others
  front_ends : eqb x 10 ≡ true → Front xs (lines xs) k → Front (x ∷ xs) ([] ∷ lines xs) (suc k)
  front_ends e rest =
      let n : 0 + bytes_of (take k (lines xs)) ≡ bytes_of (take k (lines xs)) = omega arith in
      ap (λ (n : ℕ). lines (x ∷ take n xs)) n ∙ (first_ends [] 10 x (take (bytes_of (take k (lines xs))) xs) e).0 ∙ ap (λ (ls : List (List ℕ)). [] ∷ ls) rest

  -- another byte
  front_goes : eqb x 10 ≡ false → (ls : List (List ℕ)) → lines xs ≡ ls → Front xs ls (suc k) → Front (x ∷ xs) (before x ls) (suc k)
  front_goes e [] h rest =
      subst (λ (s : List ℕ). Front (x ∷ s) ((x ∷ []) ∷ []) (suc k)) (sym (no_lines xs h))
      (subst (λ (s : List (List ℕ)). lines (take (bytes_of ((x ∷ []) ∷ s)) (x ∷ [])) ≡ (x ∷ []) ∷ s) (sym (take-nil k)) (first_goes [] 10 x [] e).0)
  front_goes e (l ∷ ls) h rest =
      let n : suc (length l) + bytes_of (take k ls) ≡ bytes_of (take (suc k) (l ∷ ls)) = omega arith in
      ap (λ (n : ℕ). lines (x ∷ take n xs)) n ∙ (first_goes [] 10 x (take (bytes_of (take (suc k) (l ∷ ls))) xs) e).0 ∙ ap (before x) rest

  front-byte : ((k : ℕ) → Front xs (lines xs) k) → Front (x ∷ xs) (lines (x ∷ xs)) (suc k)
  front-byte rest = go (eqb x 10) refl
    where
      go : (t : Bool) → eqb x 10 ≡ t → Front (x ∷ xs) (lines (x ∷ xs)) (suc k)
      go true e = subst (λ ls. Front (x ∷ xs) ls (suc k)) (sym (first_ends [] 10 x xs e).0) (front_ends e (rest k))
      go false e = subst (λ ls. Front (x ∷ xs) ls (suc k)) (sym (first_goes [] 10 x xs e).0) (front_goes e (lines xs) refl (rest (suc k)))

-- The bytes of the first k lines are a text of those lines.
pub lines-front : (text : List ℕ) → ((k : ℕ) → lines (take (bytes_of (take k (lines text))) text) ≡ take k (lines text))
lines-front [] = λ k. elim k as (λ k. Front [] [] k) [ zero ↦ refl | suc j ↦ refl ]
lines-front (x ∷ xs) = λ k. elim k as (λ k. Front (x ∷ xs) (lines (x ∷ xs)) k) [ zero ↦ refl | suc j ↦ front-byte x xs j (lines-front xs) ]

-- ---- the parts from a place on

-- of which there are none behind the text's end
unfoldable pub parts_from : ℕ → List ℕ → ℕ → List (List ℕ)
parts_from b text at = cond (leb at (length text)) (parted b (drop at text)) []

module _ (b : ℕ) (text : List ℕ) where
  parts_within : (at : ℕ) → at ≤ length text → parts_from b text at ≡ parted b (drop at text)
  unfolding parts_from
  parts_within at h = rw (le-leb at (length text) h)

  pub parts_all : parts_from b text 0 ≡ parted b text
  parts_all = parts_within 0 (omega arith)

  pub parts-behind : (at : ℕ) → length text < at → parts_from b text at ≡ []
  unfolding parts_from
  parts-behind at h = rw (lt-leb at (length text) h)

  -- the part here, and those behind it and the byte that ends it
  pub parts-on : (at : ℕ) → at ≤ length text → parts_from b text at ≡ slice at (end_from b text at) text ∷ parts_from b text (end_from b text at + 1)
  parts-on at h = parts_within at h ∙ by_order (end_from b text at) (length text) more last
    where
      more : end_from b text at < length text → parted b (drop at text) ≡ slice at (end_from b text at) text ∷ parts_from b text (end_from b text at + 1)
      more k = parts_from_lem b text at ([] ∷ []) k ∙ rw (parts_within (end_from b text at + 1) (omega (arith, k)))

      last : length text ≤ end_from b text at → parted b (drop at text) ≡ slice at (end_from b text at) text ∷ parts_from b text (end_from b text at + 1)
      last k =
          only_part b (drop at text) (omega (arith, k, length-drop at text))
          ∙ rw (parts-behind (end_from b text at + 1) (omega (arith, k)), ← last-from b text at h k)

  -- some are left only within the text
  pub parts-some : (at : ℕ) → 0 < length (parts_from b text at) → at ≤ length text
  parts-some at h = by_order (length text) at (λ k. absurd (omega (arith, h, ap length (parts-behind at k)))) (λ k. k)

-- ---- the parts from one on

-- the parts from the i-th on are those of the text from a place on, where that part begins
pub record From (b : ℕ) (text : List ℕ) (i at : ℕ) : Type 0 where
  pub inside : at ≤ length text
  pub left : drop i (parted b text) ≡ parted b (drop at text)
  pub start : start_in (parted b text) i ≡ at

pub from_first : (b : ℕ) (text : List ℕ) → From b text 0 0
from_first b text = record { inside = omega arith; left = refl; start = first (parted b text) }
  where
    first : (ps : List (List ℕ)) → start_in ps 0 ≡ 0
    first [] = refl
    first (p ∷ ps) = refl

pub some-part : (b : ℕ) (s : List ℕ) → 0 < length (parted b s)
some-part b [] = omega arith
some-part b (x ∷ xs) = go (eqb x b) refl
  where
    go : (t : Bool) → eqb x b ≡ t → 0 < length (parted b (x ∷ xs))
    go true e = rw (first_ends ([] ∷ []) b x xs e).0 (omega arith)
    go false e = rw (first_goes ([] ∷ []) b x xs e).0 (push (parted b xs))
      where
        push : (ps : List (List ℕ)) → 0 < length (before x ps)
        push [] = omega arith
        push (p ∷ ps) = omega arith

-- the next part begins behind this one and the byte that ends it
pub start-next : (ps : List (List ℕ)) (i : ℕ) → i < length ps → start_in ps (suc i) ≡ suc (start_in ps i + length (get_or ps i []))
start-next [] i h = absurd (omega arith)
start-next (p ∷ []) zero h = omega arith
start-next (p ∷ q ∷ ps) zero h = omega arith
start-next (p ∷ ps) (suc i) h = let n = start-next ps i (omega arith) in omega arith

module _ (b : ℕ) (text : List ℕ) (i at : ℕ) (f : From b text i at) where
  pub below : i < length (parted b text)
  below = omega (arith, length-drop i (parted b text), some-part b (drop at text), ap length f.left)

  opened : drop i (parted b text) ≡ get_or (parted b text) i [] ∷ drop (suc i) (parted b text)
  opened = drop-cons (parted b text) i [] below

  module _ (more : end_from b text at < length text) where
    split-here : get_or (parted b text) i [] ∷ drop (suc i) (parted b text) ≡ slice at (end_from b text at) text ∷ parted b (drop (end_from b text at + 1) text)
    split-here = sym opened ∙ f.left ∙ parts_from_lem b text at ([] ∷ []) more

    here-more : get_or (parted b text) i [] ≡ slice at (end_from b text at) text
    here-more = ap (λ (ps : List (List ℕ)). get_or ps 0 []) split-here

    from_next : From b text (i + 1) (end_from b text at + 1)
    from_next =
        let l : length (slice at (end_from b text at) text) ≡ end_from b text at - at = length-slice at (end_from b text at) text (omega arith) in
        record {
          inside = omega arith;
          left = rw (add-one i) (ap (drop 1) split-here);
          start = rw (add-one i, start-next (parted b text) i below, here-more, l, f.start) (omega arith);
        }

  module _ (done : length text ≤ end_from b text at) where
    whole_here : get_or (parted b text) i [] ∷ drop (suc i) (parted b text) ≡ drop at text ∷ []
    whole_here = sym opened ∙ f.left ∙ only_part b (drop at text) (omega (arith, done, length-drop at text))

    here-last : get_or (parted b text) i [] ≡ slice at (end_from b text at) text
    here-last = ap (λ (ps : List (List ℕ)). get_or ps 0 []) whole_here ∙ last-from b text at f.inside done

    last-is : length (parted b text) ≡ i + 1
    last-is = omega (arith, length-drop (suc i) (parted b text), ap (λ (ps : List (List ℕ)). length (drop 1 ps)) whole_here, below)

  -- this part, whichever it is
  pub here : get_or (parted b text) i [] ≡ slice at (end_from b text at) text
  here = by_order (end_from b text at) (length text) here-more here-last

  -- there is another only if it ends before the text does
  pub another : i + 1 < length (parted b text) → end_from b text at < length text
  another h = by_order (end_from b text at) (length text) (λ k. k) (λ k. absurd (omega (arith, h, last-is k)))

-- the same of an end that is known to be it
module _ (b : ℕ) (text : List ℕ) (k at end : ℕ) (e : end ≡ end_from b text at) (f : From b text k at) where
  pub next-from : end < length text → From b text (k + 1) (end + 1)
  next-from h = subst (λ (n : ℕ). From b text (k + 1) (n + 1)) (sym e) (from_next b text k at f (subst (λ (n : ℕ). n < length text) e h))

-- ---- a part by its index

module _ (b : ℕ) (text : List ℕ) where
  part-there : (i at : ℕ) → From b text i at → ◌≡◌ {A = Part} (record { start = at; end = end_from b text at }) (part_at b text i)
  unfolding part_at
  part-there i at f =
      let n : start_in (parted b text) i + length (get_or (parted b text) i []) ≡ end_from b text at =
      rw (here b text i at f, length-slice at (end_from b text at) text (end-within b text at f.inside), f.start) (omega arith) in
      rw (lt-ltb i (length (parted b text)) (below b text i at f), n, f.start)

  pub part_none : (k at : ℕ) → From b text k at → length text ≤ end_from b text at → (i : ℕ) → k < i → ◌≡◌ {A = Part} (record { start = length text; end = length text }) (part_at b text i)
  unfolding part_at
  part_none k at f done i h = rw (le-ltb i (length (parted b text)) (omega (arith, last-is b text k at f done, h)))

  pub found : (k at index end : ℕ) → k ≡ index → From b text k at → end ≡ end_from b text at → ◌≡◌ {A = Part} (record { start = at; end = end }) (part_at b text index)
  found k at index end n f e =
      ap (λ (x : ℕ). record { start = at; end = x }) e ∙ part-there k at f ∙ ap (part_at b text) n

  from_each : (i : ℕ) → i < length (parted b text) → (at : ℕ) × From b text i at
  from_each zero h = (0, from_first b text)
  from_each (suc i) h =
      let f = from_each i (omega arith) in
      let n = another b text i f.0 f.1 (omega arith) in
      (end_from b text f.0 + 1, subst (λ (k : ℕ). From b text k (end_from b text f.0 + 1)) (add-one i) (from_next b text i f.0 f.1 n))

-- a part that there is lies in the text
pub record Lies (b : ℕ) (text : List ℕ) (i : ℕ) (p : Part) : Type 0 where
  pub order : p.start ≤ p.end
  pub inside : p.end ≤ length text
  pub is : slice p.start p.end text ≡ get_or (parted b text) i []
  pub begins : p.start ≡ start_in (parted b text) i

pub lies : (b : ℕ) (text : List ℕ) (i : ℕ) → i < length (parted b text) → Lies b text i (part_at b text i)
lies b text i h =
    let f = from_each b text i h in
    let e = end-within b text f.0 f.1.inside in
    subst (Lies b text i) (part-there b text i f.0 f.1) (record { order = omega arith; inside = e; is = sym (here b text i f.0 f.1); begins = sym f.1.start })
