-- The scan refuses with 2 or with 3, and what it does not refuse is a list of tokens.
use mathlib.Core.Path.{◌≡◌, refl, ap}
use mathlib.Core.Logic.{◌⊎◌, inl, inr}
use mathlib.Core.Bool.{Bool, true, false}
use mathlib.Core.List.{List, [], ◌∷◌}
use Prim.Native.Nat.{ℕ, suc, ◌-◌}
use lib.Dec.{ltb}
use Rattle.lexer.specs.Refusal.{reason_number, refusal_at, Judged, refused, fine}
use Rattle.lexer.specs.Tokens.{Placed, placed, Lexed, tokens, bad_at, tokens_of}
use Rattle.lexer.specs.Scan.{most_open, bracket_of, brackets_in, verdict_of, scan_of}
use Rattle.lexer.specs.declared.scan.Bracket.{Bracket}
use Rattle.lexer.specs.declared.scan.Bracket.TheVariants.{Opens, Closes, Neither}
use Rattle.lexer.specs.declared.refusal.Reason.TheVariants as reason

-- fine, or refused with the number n
abbrev pub With : ℕ → Judged (Unit {0}) → Type 0
With n (fine a) = Unit {0}
With n (refused r) = reason_number r.reason ≡ n

brackets-with : (n : ℕ) (ts : List Placed) → With 3 (brackets_in n ts)
unfolding brackets_in
brackets-with n [] = tt
brackets-with n (placed t at end ∷ ts) = go (bracket_of t) (ltb n most_open) (brackets-with (suc n) ts) (brackets-with (n - 1) ts) (brackets-with n ts)
  where
    go : (b : Bracket) (w : Bool) → With 3 (brackets_in (suc n) ts) → With 3 (brackets_in (n - 1) ts) → With 3 (brackets_in n ts) →
        With 3 (elim b [ Opens ↦ elim w [ true ↦ brackets_in (suc n) ts | false ↦ refused (refusal_at reason.Brackets at) ] | Closes ↦ brackets_in (n - 1) ts | Neither ↦ brackets_in n ts ])
    go Opens true x y z = x
    go Opens false x y z = refl
    go Closes w x y z = y
    go Neither w x y z = z

-- What the scan says of a text: 2, or the tokens and maybe 3.
pub scan-says : (text : List ℕ) → ((p : ℕ) × (scan_of text ≡ refused (refusal_at reason.Token p))) ⊎ ((ts : List Placed) × (tokens_of text ≡ tokens ts) × With 3 (scan_of text))
unfolding scan_of
scan-says text = go (tokens_of text) refl
  where
    go : (l : Lexed) → tokens_of text ≡ l → ((p : ℕ) × (verdict_of (tokens_of text) ≡ refused (refusal_at reason.Token p))) ⊎ ((ts : List Placed) × (tokens_of text ≡ tokens ts) × With 3 (verdict_of (tokens_of text)))
    go (tokens ts) e = inr (ts, e, rw e (brackets-with 0 ts))
    go (bad_at p) e = inl (p, ap verdict_of e)
