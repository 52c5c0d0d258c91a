-- What the functions that tell punctuators lean on: laws over any list of spellings, so that nothing is worked out at a text that is not known.
use mathlib.Core.Path.{◌≡◌, refl, sym, ◌∙◌, ap, ap₂}
use mathlib.Core.Bool.{Bool, true, false, not, ◌&&◌, ◌||◌, false≢true, and-eq-true_iff}
use mathlib.Core.List.{List, [], ◌∷◌, ◌++◌, Memᴰ}
use Prim.Native.Nat.{ℕ, zero, suc, ◌+◌, ◌≤◌, ◌<◌}
use native.Mathlib.Omega.{arith}
use borrow.Author.Tests.{eqb-true, ne_eqb, not-true}
use lib.Dec.{eqb, leb, lit<}
use lib.ListN.{length, get_or, drop, length-drop}
use Rattle.std.specs.Prelude.{Option, None}
use Rattle.lexer.specs.Bytes.{begins}
use Rattle.lexer.specs.Punctuator.{punctuators, refused_operators, longer_if, longest_of, Spelled, judged, spelled_by}
use Rattle.lexer.specs.Token.{lexeme_of, punctuator_at}

-- ---- a test of every spelling in a list

abbrev pub all_of : (List ℕ → Bool) → List (List ℕ) → Bool
all_of p [] = true
all_of p (s ∷ ss) = p s && all_of p ss

-- ---- what the longest is: nothing, or a spelling that the text begins with

pub longest-is : (P : List ℕ → Type 0) (ss : List (List ℕ)) (text : List ℕ) → P [] → ((s : List ℕ) → Memᴰ s ss → begins s text ≡ true → P s) → P (longest_of ss text)
longest-is P [] text p q = p
longest-is P (s ∷ ss) text p q = go (begins s text) (leb (length (longest_of ss text)) (length s)) refl refl (longest-is P ss text p (λ l m. q l (Memᴰ.tail m)))
  where
    go : (t u : Bool) → begins s text ≡ t → leb (length (longest_of ss text)) (length s) ≡ u → P (longest_of ss text) → P (longest_of (s ∷ ss) text)
    go true true e k r = rw (e, k) (q s (Memᴰ.head refl) e)
    go true false e k r = rw (e, k) r
    go false u e k r = rw e r

begins-fits : (s text : List ℕ) → begins s text ≡ true → length s ≤ length text
begins-fits [] text e = omega arith
begins-fits (x ∷ s) [] e = absurd (false≢true e)
begins-fits (x ∷ s) (b ∷ bs) e = omega (arith, begins-fits s bs ((and-eq-true_iff (eqb b x) (begins s bs)).0 e).1)

-- how many bytes what is found takes
abbrev pub taken : Spelled → ℕ
taken s = s.1

judged-takes : (s : List ℕ) (m : ℕ) → length s ≤ m → 0 < m → (0 < taken (judged s)) × (taken (judged s) ≤ m)
judged-takes [] m h k = (lit< tt, k)
judged-takes (b ∷ bs) m h k = (omega arith, h)

-- something is taken of a text that has a byte, and nothing past its end
pub spelled-takes : (text : List ℕ) → 0 < length text → (0 < taken (spelled_by text)) × (taken (spelled_by text) ≤ length text)
unfolding spelled_by
spelled-takes text = judged-takes (longest_of (punctuators ++ refused_operators) text) (length text) (longest-is (λ s. length s ≤ length text) (punctuators ++ refused_operators) text (omega arith) (λ s m. begins-fits s text))

-- the same, of a place in a text
pub punctuator-takes : (text : List ℕ) (at : ℕ) (r : Spelled) → at < length text → r ≡ spelled_by (drop at text) → (0 < taken r) × (at + taken r ≤ length text)
punctuator-takes text at r h e = rw e (let l = length-drop at text in let t = spelled-takes (drop at text) (omega (arith, l)) in (t.0, omega (arith, l, t.1)))

pub punctuator-is : (at : ℕ) (text : List ℕ) (r : Spelled) (o : Option ℕ) → r.0 ≡ o → r ≡ spelled_by (drop at text) → lexeme_of at (o, r.1) ≡ punctuator_at at (drop at text)
unfolding punctuator_at
punctuator-is at text r o k e = ap (λ (i : Option ℕ). lexeme_of at (i, r.1)) (sym k) ∙ ap (lexeme_of at) e

-- ---- a byte that begins no spelling

-- what the last arm of a match knows: b is none of the keys, of which the last is the first here
abbrev pub Apart : List ℕ → ℕ → Type 0
Apart [] b = Unit
Apart (k ∷ ks) b = Apart ks b × (b ≡ k → ⊥)

abbrev among : List ℕ → ℕ → Bool
among [] x = false
among (k ∷ ks) x = eqb x k || among ks x

apart : (ks : List ℕ) (b x : ℕ) → Apart ks b → among ks x ≡ true → b ≡ x → ⊥
apart [] b x r e = absurd (false≢true e)
apart (k ∷ ks) b x r e = go (eqb x k) refl e (apart ks b x r.0)
  where
    go : (t : Bool) → eqb x k ≡ t → (t || among ks x) ≡ true → (among ks x ≡ true → b ≡ x → ⊥) → b ≡ x → ⊥
    go true q i later p = r.1 (p ∙ eqb-true x k q)
    go false q i later p = later i p

-- whether a spelling begins with one of the keys
abbrev pub begun : List ℕ → List ℕ → Bool
begun ks [] = false
begun ks (x ∷ s) = among ks x

none-begins : (ks : List ℕ) (ss : List (List ℕ)) (b : ℕ) (bs : List ℕ) → Apart ks b → all_of (begun ks) ss ≡ true → longest_of ss (b ∷ bs) ≡ []
none-begins ks [] b bs r e = refl
none-begins ks ([] ∷ ss) b bs r e = absurd (false≢true e)
none-begins ks ((x ∷ s) ∷ ss) b bs r e =
    let h = (and-eq-true_iff (among ks x) (all_of (begun ks) ss)).0 e in
    rw (ne_eqb b x (apart ks b x r h.0), none-begins ks ss b bs r h.1)

pub unlisted : (ks : List ℕ) → all_of (begun ks) (punctuators ++ refused_operators) ≡ true → (b : ℕ) (bs : List ℕ) → Apart ks b → (None, 1) ≡ spelled_by (b ∷ bs)
unfolding spelled_by
unlisted ks e b bs r = sym (ap judged (none-begins ks (punctuators ++ refused_operators) b bs r e))

-- ---- zeros after a text

-- the first bytes of a text, with zeros past its end
abbrev padded : ℕ → List ℕ → List ℕ
padded zero text = []
padded (suc n) [] = 0 ∷ padded n []
padded (suc n) (b ∷ bs) = b ∷ padded n bs

-- whether a spelling has n bytes at most, and no zero
abbrev short : ℕ → List ℕ → Bool
short n [] = true
short zero (x ∷ s) = false
short (suc n) (x ∷ s) = not (eqb 0 x) && short n s

begins-padded : (n : ℕ) (s text : List ℕ) → short n s ≡ true → begins s (padded n text) ≡ begins s text
begins-padded n [] text e = refl
begins-padded zero (x ∷ s) text e = absurd (false≢true e)
begins-padded (suc n) (x ∷ s) [] e = rw (not-true (eqb 0 x) ((and-eq-true_iff (not (eqb 0 x)) (short n s)).0 e).0)
begins-padded (suc n) (x ∷ s) (b ∷ bs) e = ap (λ (t : Bool). eqb b x && t) (begins-padded n s bs ((and-eq-true_iff (not (eqb 0 x)) (short n s)).0 e).1)

longest-padded : (n : ℕ) (ss : List (List ℕ)) (text : List ℕ) → all_of (short n) ss ≡ true → longest_of ss (padded n text) ≡ longest_of ss text
longest-padded n [] text e = refl
longest-padded n (s ∷ ss) text e =
    let h = (and-eq-true_iff (short n s) (all_of (short n) ss)).0 e in
    ap₂ (λ (t : Bool) (l : List ℕ). longer_if t s l) (begins-padded n s text h.0) (longest-padded n ss text h.1)

three : (text : List ℕ) → get_or text 0 0 ∷ get_or text 1 0 ∷ get_or text 2 0 ∷ [] ≡ padded 3 text
three [] = refl
three (b ∷ []) = refl
three (b ∷ c ∷ []) = refl
three (b ∷ c ∷ d ∷ bs) = refl

pub by_three : (text : List ℕ) → spelled_by (get_or text 0 0 ∷ get_or text 1 0 ∷ get_or text 2 0 ∷ []) ≡ spelled_by text
unfolding spelled_by
by_three text = ap judged (ap (longest_of (punctuators ++ refused_operators)) (three text) ∙ longest-padded 3 (punctuators ++ refused_operators) text refl)
