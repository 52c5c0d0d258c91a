use mathlib.Core.Path.{◌≡◌, sym, ap, ◌∙◌}
use mathlib.Core.Bool.{true, false}
use mathlib.Core.List.{List, [], ◌∷◌}
use Prim.Native.Nat.{ℕ, ◌≤◌}
use native.Mathlib.Omega.{arith}
use lib.ListN.{length, take}
use lib.Seq.{take_all}
use Rattle.std.proofs.Common.{rules, slice_set}
use Rattle.kind.specs.Set.{set_of, empty_of}
use Rattle.kind.specs.Choice.{unless_empty, with_of}
use Rattle.kind.specs.declared.set.Kinds.{Kinds}
use Rattle.kind.proofs.choice.add.Goals as goal

-- the last of five becomes empty
emptied : (ss : List Kinds) (n : ℕ) (s : Kinds) → length ss ≡ 5 → 5 ≤ n → true ≡ empty_of s →
    take n (slice_set ss 4 (set_of (λ k. false))) ≡ with_of (take n ss) s
emptied (a ∷ b ∷ c ∷ d ∷ e ∷ []) n s l f h =
    take_all n (a ∷ b ∷ c ∷ d ∷ set_of (λ k. false) ∷ []) (omega (arith, f))
    ∙ ap (λ t. a ∷ b ∷ c ∷ d ∷ unless_empty t e ∷ []) h
    ∙ ap (λ ss. with_of ss s) (sym (take_all n (a ∷ b ∷ c ∷ d ∷ e ∷ []) (omega (arith, f))))
emptied [] n s l f h = absurd (omega (arith, l))
emptied (a ∷ []) n s l f h = absurd (omega (arith, l))
emptied (a ∷ b ∷ []) n s l f h = absurd (omega (arith, l))
emptied (a ∷ b ∷ c ∷ []) n s l f h = absurd (omega (arith, l))
emptied (a ∷ b ∷ c ∷ d ∷ []) n s l f h = absurd (omega (arith, l))
emptied (a ∷ b ∷ c ∷ d ∷ e ∷ f ∷ ss) n s l g h = absurd (omega (arith, l))

pub returns-then-empty : goal.returns-then-empty
unfolding set_of
returns-then-empty c =
    let p = c.args.parts.now in
    let five : length p.sets ≡ 5 = search rules in
    let empty : true ≡ empty_of c.args.set = search rules in
    emptied p.sets p.count c.args.set five c.if-count-lt-MOST_PARTS.false empty
