-- A window that is read as far as it has to be: its head is the input's, or both are too long.
use Rattle.std.specs.Prelude.{Ok}
use mathlib.Core.Path.{◌≡◌, refl, sym, ◌∙◌, ap}
use mathlib.Core.Bool.{Bool, true, false}
use mathlib.Core.List.{List, [], ◌∷◌, ◌++◌, append-nil}
use mathlib.Core.Logic.{◌⊎◌, inl, inr}
use Prim.Native.Nat.{ℕ, suc, ◌+◌, ◌-◌, ◌<◌, ◌≤◌}
use native.Mathlib.Omega.{arith}
use borrow.Author.Tests.{ltb-true, ltb-false}
use lib.Dec.{ltb}
use lib.ListN.{length, get_or, drop, length-append, length-drop}
use lib.Seq.{length-slice}
use Rattle.text.specs.Parts.{lines, end_from}
use Rattle.text.specs.Head.{is_feature, before_features, head_end}
use Rattle.text.proofs.Law.Parts.{lines_from, end-within}
use Rattle.style.specs.Head.{head_size}
use Rattle.blocks.specs.Run.{Whole}
use Rattle.blocks.proofs.Law.Lines.{no_lines}
use Rattle.blocks.proofs.Law.Long.{Unended, unended-line}
use Rattle.blocks.proofs.Law.Fields.{feature-told}
use Rattle.blocks.proofs.Law.Searches.{before-first, Known, at-feature, behind-line, behind-lines, searched-as, opened}

-- ---- the two heads

-- with bytes to come the head ends where it does without, or neither is within a limit
abbrev pub Agree : ℕ → List ℕ → List ℕ → Type 0
Agree limit t future = (head_end (t ++ future) ≡ head_end t) ⊎ ((limit < head_end t) × (limit < head_end (t ++ future)))

-- of a text that has more bytes than the limit and the word; its lines are these
abbrev Agreeing : List (List ℕ) → List ℕ → ℕ → List ℕ → Type 0
Agreeing ls t limit future = lines t ≡ ls → limit + 5 ≤ length t → Agree limit t future

alone : (t : List ℕ) → head_end (t ++ []) ≡ head_end t
alone t = ap head_end (append-nil t)

settled : (t : List ℕ) (k : ℕ) → Known t true k → (future : List ℕ) → head_end (t ++ future) ≡ head_end t
settled t k o future = o.is future ∙ sym (o.is []) ∙ alone t

-- no LF ends the first line
module _ (t : List ℕ) (some : 5 ≤ length t) (h : Unended t) (future : List ℕ) where
  abbrev more : List ℕ
  more = get_or (lines future) 0 []

  abbrev line : List ℕ
  line = t ++ more

  told : is_feature line ≡ is_feature t
  told = feature-told t more some

  before-is : before_features (lines (t ++ future)) ≡ before_features (line ∷ drop 1 (lines future))
  before-is = ap before_features (unended-line t future (omega arith) h)

  no-head : is_feature t ≡ true → head_end (t ++ future) ≡ 0
  no-head q = omega (arith, before-is, before-first line (drop 1 (lines future)) true (told ∙ q))

  all_head : is_feature t ≡ false → length t ≤ head_end (t ++ future)
  all_head q =
      omega (arith, before-is, before-first line (drop 1 (lines future)) false (told ∙ q), length-append t more, length-append t future)

module _ (t l : List ℕ) (ls : List (List ℕ)) (e : lines t ≡ l ∷ ls) (limit : ℕ) (h : limit + 5 ≤ length t) (future : List ℕ) where
  is-unended : length t ≤ length l → Unended t
  is-unended q =
      let p : l ≡ _ = ap (λ (ls : List (List ℕ)). get_or ls 0 []) (sym e ∙ lines_from t 0 (omega arith)) in
      omega (arith, q, ap length p, length-slice 0 (end_from 10 t 0) t (end-within 10 t 0 (omega arith)))

  unended-agrees : length t ≤ length l → Agree limit t future
  unended-agrees q = go (is_feature t) refl
    where
      go : (b : Bool) → is_feature t ≡ b → Agree limit t future
      go true f = inl (no-head t (omega arith) (is-unended q) future f ∙ sym (no-head t (omega arith) (is-unended q) [] f) ∙ alone t)
      go false f =
          let m = all_head t (omega arith) (is-unended q) future f in
          let n = all_head t (omega arith) (is-unended q) [] f in
          inr (omega (arith, alone t), omega arith)

  module _ (ended : length l < length t) where
    abbrev rest : List ℕ
    rest = drop (suc (length l)) t

    further : Known t false (suc (length l)) → suc (length l) ≤ limit → Agree (limit - suc (length l)) rest future → Agree limit t future
    further o k (inl p) = inl (o.is future ∙ ap (λ (n : ℕ). suc (length l) + n) (p ∙ sym (alone rest)) ∙ sym (o.is []) ∙ alone t)
    further o k (inr p) = inr (omega (arith, p.0, o.is [], alone t, alone rest), omega (arith, p.1, o.is future))

    ended-agrees : (b c : Bool) → is_feature l ≡ b → ltb limit (suc (length l)) ≡ c → Agreeing ls rest (limit - suc (length l)) future →
        Agree limit t future
    ended-agrees true c f g more = inl (settled t 0 (at-feature t l ls e ended f) future)
    ended-agrees false true f g more =
        let o = behind-line t l ls e ended f in
        let k = ltb-true limit (suc (length l)) g in
        inr (omega (arith, o.is [], alone t), omega (arith, o.is future))
    ended-agrees false false f g more =
        let k = ltb-false limit (suc (length l)) g in
        further (behind-line t l ls e ended f) k (more (behind-lines t l ls e ended) (omega (arith, length-drop (suc (length l)) t)))

agrees : (ls : List (List ℕ)) (t : List ℕ) (limit : ℕ) (future : List ℕ) → Agreeing ls t limit future
agrees [] t limit future = λ e h. absurd (omega (arith, ap length (no_lines t e)))
agrees (l ∷ ls) t limit future = go (agrees ls (drop (suc (length l)) t) (limit - suc (length l)) future)
  where
    go : Agreeing ls (drop (suc (length l)) t) (limit - suc (length l)) future → Agreeing (l ∷ ls) t limit future
    go more e h = by_end (ltb (length l) (length t)) refl
      where
        by_end : (b : Bool) → ltb (length l) (length t) ≡ b → Agree limit t future
        by_end true q =
            ended-agrees t l ls e limit h future (ltb-true (length l) (length t) q)
            (is_feature l) (ltb limit (suc (length l))) refl refl more
        by_end false q = unended-agrees t l ls e limit h future (ltb-false (length l) (length t) q)

-- ---- a window that is read as far as it has to be

pub whole-agrees : {w rest : List ℕ} → Whole w rest → Agree head_size w rest
whole-agrees (Whole.found {w} {from} {at} o new rest e) = inl (settled (w ++ new) at (searched-as w from new (Ok at) e (opened o)) rest)
whole-agrees (Whole.ended w) = inl (alone w)
whole-agrees (Whole.full w rest h) = agrees (lines w) w head_size rest refl h
