-- Lines or items, each judged in turn behind what those before it give: all are refused exactly as one of them is.
use mathlib.Core.Path.{◌≡◌, refl, sym, ◌∙◌, ap, ap₂}
use mathlib.Core.Bool.{false≢true, true≢false}
use mathlib.Core.List.{List, [], ◌∷◌, ◌++◌, append_assoc}
use Prim.Native.Nat.{ℕ, suc, ◌+◌}
use native.Mathlib.Omega.{arith}
use lib.ListN.{length, length-append}
use Rattle.lexer.specs.Refusal.{Judged, refused, fine}
use Rattle.lexer.specs.declared.refusal.Refusal.{Refusal}
use Rattle.style.specs.Answer.{Answer, refusal, accepted, on_line}
use Rattle.style.specs.Style.{Style, Entry, empty, with}
use Rattle.style.specs.Items.{At}
use Rattle.style.proofs.Law.Answers.{is_accepted, accepted_in, line_of, refusal_of}

module _
    {A : Type 0}
    (judged : Style → A → Judged Entry)
    (from : ℕ → Style → List A → Answer Style)
    (none : (n : ℕ) (s : Style) → from n s [] ≡ accepted s)
    (next : (n : ℕ) (s : Style) (x : A) (xs : List A) → from n s (x ∷ xs) ≡ on_line n (judged s x) (λ e. from (suc n) (with s e) xs)) where
  -- one that is fine, and one that is not
  pub next-fine : (n : ℕ) (s : Style) (x : A) (xs : List A) (e : Entry) → judged s x ≡ fine e → from n s (x ∷ xs) ≡ from (suc n) (with s e) xs
  next-fine n s x xs e h = next n s x xs ∙ ap (λ j. on_line n j (λ e. from (suc n) (with s e) xs)) h

  pub next-refused : (n : ℕ) (s : Style) (x : A) (xs : List A) (r : Refusal) → judged s x ≡ refused r → from n s (x ∷ xs) ≡ refusal n r
  next-refused n s x xs r h = next n s x xs ∙ ap (λ j. on_line n j (λ e. from (suc n) (with s e) xs)) h

  -- the first of some that are accepted is fine, and the others go on from it
  pub first_fine : (n : ℕ) (s t : Style) (x : A) (xs : List A) → from n s (x ∷ xs) ≡ accepted t → (e : Entry) × (judged s x ≡ fine e) × (from (suc n) (with s e) xs ≡ accepted t)
  first_fine n s t x xs h = go (judged s x) refl
    where
      go : (j : Judged Entry) → judged s x ≡ j → (e : Entry) × (judged s x ≡ fine e) × (from (suc n) (with s e) xs ≡ accepted t)
      go (refused r) q = absurd (false≢true (ap is_accepted (sym (next-refused n s x xs r q) ∙ h)))
      go (fine e) q = (e, q, sym (next-fine n s x xs e q) ∙ h)

  -- those before give a style, with which the others go on
  pub behind : (before rest : List A) (k : ℕ) (s t : Style) → from k s before ≡ accepted t → from k s (before ++ rest) ≡ from (k + length before) t rest
  behind [] rest k s t g =
      let n : k ≡ k + 0 = omega arith in
      ap₂ (λ (k : ℕ) (s : Style). from k s rest) n (ap (accepted_in t) (sym (none k s) ∙ g))
  behind (x ∷ xs) rest k s t g =
      let (e, q, h) = first_fine k s t x xs g in
      let n : suc k + length xs ≡ k + length (x ∷ xs) = omega arith in
      next-fine k s x (xs ++ rest) e q ∙ behind xs rest (suc k) (with s e) t h ∙ ap (λ (k : ℕ). from k t rest) n

  -- one that is refused behind them refuses all
  pub refused-by : (all : List A) (n : ℕ) (r : Refusal) (s : Style) (x : A) → At (from 1 empty) all n s x → judged s x ≡ refused r → from 1 empty all ≡ refusal n r
  refused-by all n r s x at h =
      let k : 1 + length at.before ≡ n = omega (arith, at.number) in
      ap (from 1 empty) at.is
      ∙ behind at.before (x ∷ at.after) 1 empty s at.given
      ∙ next-refused (1 + length at.before) s x at.after r h
      ∙ ap (λ (k : ℕ). refusal k r) k

  -- and none else does: the last of them, behind some that give a style
  last-refused : (all : List A) (n : ℕ) (r : Refusal) (xs before : List A) (s : Style) → all ≡ before ++ xs → from 1 empty before ≡ accepted s → from (1 + length before) s xs ≡ refusal n r →
      (t : Style) × (x : A) × At (from 1 empty) all n t x × (judged t x ≡ refused r)
  last-refused all n r [] before s is g h = absurd (true≢false (ap is_accepted (sym (none (1 + length before) s) ∙ h)))
  last-refused all n r (x ∷ xs) before s is g h = go (judged s x) refl (last-refused all n r xs (before ++ x ∷ []))
    where
      go : (j : Judged Entry) → judged s x ≡ j →
          ((t : Style) → all ≡ (before ++ x ∷ []) ++ xs → from 1 empty (before ++ x ∷ []) ≡ accepted t → from (1 + length (before ++ x ∷ [])) t xs ≡ refusal n r →
          (t : Style) × (x : A) × At (from 1 empty) all n t x × (judged t x ≡ refused r)) →
          (t : Style) × (x : A) × At (from 1 empty) all n t x × (judged t x ≡ refused r)
      go (refused i) q onward =
          let e = sym (next-refused (1 + length before) s x xs i q) ∙ h in
          let at : 1 + length before ≡ n = ap line_of e in
          (s, x, record { before = before; after = xs; is = is; number = omega (arith, at); given = g }, q ∙ ap (λ a. refused (refusal_of i a)) e)
      go (fine e) q onward =
          let k : 1 + length (before ++ x ∷ []) ≡ suc (1 + length before) = omega (arith, length-append before (x ∷ [])) in
          onward (with s e) (is ∙ sym (append_assoc before (x ∷ []) xs))
          (behind before (x ∷ []) 1 empty s g ∙ next-fine (1 + length before) s x [] e q ∙ none (suc (1 + length before)) (with s e))
          (ap (λ (k : ℕ). from k (with s e) xs) k ∙ sym (next-fine (1 + length before) s x xs e q) ∙ h)

  pub refused-at : (all : List A) (n : ℕ) (r : Refusal) → from 1 empty all ≡ refusal n r → (t : Style) × (x : A) × At (from 1 empty) all n t x × (judged t x ≡ refused r)
  refused-at all n r h = last-refused all n r all [] empty refl (none 1 empty) h
