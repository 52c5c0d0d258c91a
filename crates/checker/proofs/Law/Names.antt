-- Names: rows that are looked through, and the numbers that tokens get.
use mathlib.Core.Path.{◌≡◌, refl, sym, ◌∙◌, ap, subst}
use Rattle.std.specs.Prelude.{Option, Some, None}
use Rattle.std.specs.Option.{unwrap_or}
use mathlib.Core.Bool.{Bool, true, false, cond, and-eq-true_iff}
use mathlib.Core.List.{List, [], ◌∷◌}
use Prim.Native.Nat.{ℕ, zero, suc, ◌+◌, ◌-◌, ◌<◌, ◌≤◌}
use native.Mathlib.Omega.{arith}
use borrow.Author.Tests.{lt-ltb, le-ltb, leb-true}
use lib.Dec.{leb, ltb}
use lib.Ieee.Bits.{is_true}
use lib.ListN.{length, take, drop, length-append}
use lib.Seq.{slice, take_all, length-slice}
use Rattle.lexer.specs.Bytes.{is_name_length, same}
use Rattle.lexer.specs.Spelling.{Spells, Munch}
use Rattle.lexer.specs.Spelling as spelling
use Rattle.lexer.specs.Token.{lexeme_at}
use Rattle.lexer.specs.declared.token.Token.{Token}
use Rattle.lexer.specs.declared.token.Token.TheVariants.{Number, String, Variable, Word, Punctuator}
use Rattle.lexer.specs.declared.token.Lexeme.{Lexeme}
use Rattle.lexer.specs.declared.token.Lexeme.TheVariants.{Found, Bad, End}
use Rattle.lexer.proofs.Law.Ahead.{Ahead, ahead}
use Rattle.lexer.proofs.Law.Spelling.{slice_is}
use Rattle.lexer.proofs.Munch.{munch}
use Rattle.tree.specs.Slots.{put, variable_tag}
use Rattle.checker.specs.Name.{first_row, property_row, row_in, numbered, onward, resolved_from, resolved_slots}
use Rattle.checker.specs.Inner.{row_below, Stands}
use Rattle.checker.specs.declared.name.Scope.{Scope}
use Rattle.checker.specs.declared.name.Scope.TheVariants.{Define, Style}

-- a name is all of itself, from its start to its end
pub whole-name : (r : Bool) (name other : List ℕ) → r ≡ same (slice 0 (length name) name) other → r ≡ same name other
whole-name r name other e = e ∙ ap (λ s. same s other) (take_all (length name) name (omega arith))

-- ---- rows

module _ (p : ℕ → Bool) where
  -- a row that is as asked is the first
  found_first : (n i : ℕ) → 0 < n → p i ≡ true → i ≡ first_row p n i
  unfolding first_row
  found_first zero i h e = absurd (omega arith)
  found_first (suc n) i h e = rw (first_row, e)

  -- a row that is not as asked is passed
  passed : (n i : ℕ) → p i ≡ false → first_row p n (suc i) ≡ first_row p (suc n) i
  unfolding first_row
  passed n i e = rw (first_row, e)

  -- the same for the rows up to another, as the loop meets them
  module _ (row to : ℕ) where
    pub row-found : row < to → p row ≡ true → Some row ≡ row_below to (first_row p (to - row) row)
    row-found h e = rw (← found_first (to - row) row (omega arith) e, lt-ltb row to h)

    pub row-passed : row < to → p row ≡ false → first_row p (to - (row + 1)) (row + 1) ≡ first_row p (to - row) row
    row-passed h e =
        let next : row + 1 ≡ suc row = omega arith in
        let left : suc (to - (row + 1)) ≡ to - row = omega arith in
        ap (first_row p (to - (row + 1))) next ∙ passed (to - (row + 1)) row e ∙ ap (λ n. first_row p n row) left

    pub row-behind : row ≡ to → None ≡ row_below to (first_row p (to - row) row)
    unfolding first_row
    row-behind e =
        let none : to - row ≡ 0 = omega arith in
        rw (none, le-ltb row to (omega arith))

-- a row below another, or what stands for none
below-or : (i to d : ℕ) → unwrap_or (row_below to i) d ≡ cond (ltb i to) i d
below-or i to d = go (ltb i to)
  where
    go : (b : Bool) → unwrap_or (cond b (Some i) None) d ≡ cond b i d
    go true = refl
    go false = refl

module _ (p : ℕ → Bool) (r : Option ℕ) where
  -- the first row of the properties, or the number of an undeclared name
  pub property-or : r ≡ row_below 32 (first_row p (32 - 0) 0) → unwrap_or r 48 ≡ property_row p
  unfolding property_row
  property-or e = ap (λ r. unwrap_or r 48) e ∙ below-or (first_row p 32 0) 32 48

  -- a define hides a property of its name
  pub define-or : r ≡ row_below 48 (first_row p (48 - 32) 32) → unwrap_or r (property_row p) ≡ row_in Style p
  unfolding row_in
  define-or e = ap (λ r. unwrap_or r (property_row p)) e ∙ below-or (first_row p 16 32) 48 (property_row p)

-- either scope
module _ (p : ℕ → Bool) (scope : Scope) (i : ℕ) where
  pub in-define : scope ≡ Define → i ≡ property_row p → i ≡ row_in scope p
  unfolding row_in
  in-define e h = h ∙ ap (λ s. row_in s p) (sym e)

  pub in-style : scope ≡ Style → i ≡ row_in Style p → i ≡ row_in scope p
  in-style e h = h ∙ ap (λ s. row_in s p) (sym e)

-- ---- tokens

-- a variable has a byte at least between `${` and `}`
long-variable : {s : List ℕ} {t : Token} → Spells s t → t ≡ Variable → 3 < length s
long-variable (spelling.number d h) e = absurd (cc)
long-variable (spelling.string q bs h a) e = absurd (cc)
long-variable (spelling.variable bs a h) e =
    let some = leb-true 1 (length bs) ((and-eq-true_iff (leb 1 (length bs)) (leb (length bs) 64)).0 (is_true (is_name_length (length bs)) h)).0 in
    omega (arith, length-append bs (125 ∷ []))
long-variable (spelling.word b bs h a) e = absurd (cc)
long-variable (spelling.punctuator m) e = absurd (cc)

variable-not : (number : List ℕ → ℕ) (text w : List ℕ) (t : Token) (at end : ℕ) → (t ≡ Variable → ⊥) → w ≡ numbered number text t at end w
variable-not number text w (Number digits places) at end n = refl
variable-not number text w String at end n = refl
variable-not number text w Variable at end n = absurd (n refl)
variable-not number text w (Word k) at end n = refl
variable-not number text w (Punctuator k) at end n = refl

-- what the lexer finds stands in the text
stands : (text : List ℕ) (from : ℕ) (t : Token) (at end : ℕ) → Ahead from (length text) (Found t at end) → Munch text from (Found t at end) → Stands text t at end
stands text from t at end a m = record {
  order = a.goes;
  inside = a.ends;
  long = λ e. omega (arith, long-variable m.2 e, length-slice at end text a.ends);
}

-- the same of a lexeme that the code holds
module _ (text : List ℕ) (from : ℕ) (x : Lexeme) (is : x ≡ lexeme_at text from) (t : Token) (at end : ℕ) (found : x ≡ Found t at end) where
  pub found-ahead : Ahead from (length text) (Found t at end)
  found-ahead = subst (Ahead from (length text)) (sym is ∙ found) (ahead text from)

  pub found-stands : Stands text t at end
  found-stands = stands text from t at end found-ahead (subst (Munch text from) (sym is ∙ found) (munch text from))

  pub found-variable : t ≡ Variable → Stands text Variable at end
  found-variable e = subst (λ t. Stands text t at end) e found-stands

-- the code takes the name as a part of the text
pub variable-numbered : (number : List ℕ → ℕ) (text w v : List ℕ) (at end n : ℕ) → n ≡ number (take (end - 1 - (at + 2)) (drop (at + 2) text)) →
    v ≡ put w at variable_tag n → v ≡ numbered number text Variable at end w
variable-numbered number text w v at end n i h = h ∙ ap (put w at variable_tag) (i ∙ ap number (sym (slice_is (at + 2) (end - 1) text)))

-- ---- token after token

-- the definition, step by step
module _ (number : List ℕ → ℕ) (text : List ℕ) (from : ℕ) (w : List ℕ) where
  pub no_step : resolved_from number text 0 from w ≡ w
  unfolding resolved_from
  no_step = refl

  pub one-step : (n : ℕ) (x : Lexeme) → lexeme_at text from ≡ x → resolved_from number text (suc n) from w ≡ onward number text x w (resolved_from number text n)
  unfolding resolved_from
  one-step n x e = ap (λ x. onward number text x w (resolved_from number text n)) e

-- the tokens from a place on make of w what all of them make of w₀
pub record Resolving (number : List ℕ → ℕ) (text w₀ w : List ℕ) (from : ℕ) : Type 0 where
  pub steps : ℕ
  pub enough : length text ≤ steps + from
  pub comes : resolved_from number text steps from w ≡ resolved_slots number text w₀
  pub size : length w ≡ length w₀

module _ (number : List ℕ → ℕ) (text w₀ : List ℕ) where
  pub resolving : Resolving number text w₀ w₀ 0
  resolving = record { steps = length text; enough = omega arith; comes = refl; size = refl }

  -- one more lexeme
  module _ (w : List ℕ) (from : ℕ) (r : Resolving number text w₀ w from) (x : Lexeme) (is : x ≡ lexeme_at text from) where
    resolving-on : (t : Token) (at end : ℕ) (v : List ℕ) → x ≡ Found t at end → v ≡ numbered number text t at end w → length v ≡ length w → Resolving number text w₀ v end
    resolving-on t at end v found h size = go r.steps r.enough r.comes
      where
        go : (n : ℕ) → length text ≤ n + from → resolved_from number text n from w ≡ resolved_slots number text w₀ → Resolving number text w₀ v end
        go zero room e = absurd (omega (arith, found-ahead text from x is t at end found))
        go (suc n) room e = record {
          steps = n;
          enough = omega (arith, found-ahead text from x is t at end found);
          comes = ap (resolved_from number text n end) h ∙ sym (one-step number text from w n (Found t at end) (sym is ∙ found)) ∙ e;
          size = size ∙ r.size;
        }

    -- whether it is a variable
    module _ (t : Token) (at end : ℕ) (found : x ≡ Found t at end) where
      pub resolving-variable : t ≡ Variable → (v : List ℕ) → v ≡ numbered number text Variable at end w → length v ≡ length w → Resolving number text w₀ v end
      resolving-variable e v i size = resolving-on t at end v found (i ∙ ap (λ t. numbered number text t at end w) (sym e)) size

      pub resolving-other : (t ≡ Variable → ⊥) → Resolving number text w₀ w end
      resolving-other n = resolving-on t at end w found (variable-not number text w t at end n) refl

    -- where no token stands nothing changes any more
    pub resolved : ((t : Token) (at end : ℕ) → x ≡ Found t at end → ⊥) → w ≡ resolved_slots number text w₀
    resolved none = go r.steps r.comes
      where
        same : (x : Lexeme) → ((t : Token) (at end : ℕ) → x ≡ Found t at end → ⊥) → (rest : ℕ → List ℕ → List ℕ) → onward number text x w rest ≡ w
        same (Found t at end) none rest = absurd (none t at end refl)
        same (Bad at end) none rest = refl
        same End none rest = refl

        go : (n : ℕ) → resolved_from number text n from w ≡ resolved_slots number text w₀ → w ≡ resolved_slots number text w₀
        go zero e = sym (no_step number text from w) ∙ e
        go (suc n) e = sym (same x none (resolved_from number text n)) ∙ sym (one-step number text from w n x (sym is)) ∙ e
