-- The number 4 and its place, by the grammar.
use Rattle.std.specs.Prelude.{Option, Some, None}
use mathlib.Core.Path.{◌≡◌, refl, ap, sym, ◌∙◌}
use mathlib.Core.Logic.{◌⊎◌, inl, inr, ◌↔◌}
use mathlib.Core.Bool.{Bool, true, false, cond}
use mathlib.Core.List.{List}
use Prim.Native.Nat.{ℕ, ◌≤◌}
use native.Mathlib.Omega.{arith}
use lib.Dec.{ltb}
use lib.ListN.{length}
use borrow.Author.Tests.{ltb-false, le-ltb}
use Rattle.lexer.specs.Refusal.{refusal_at, Judged, refused, fine, number_of}
use Rattle.lexer.specs.Tokens.{Placed, tokens, tokens_of}
use Rattle.lexer.specs.Scan.{scan_of}
use Rattle.lexer.specs.declared.refusal.Refusal.{Refusal}
use Rattle.lexer.specs.declared.refusal.Reason.TheVariants as reason
use Rattle.lexer.proofs.Refusals.{With, scan-says}
use Rattle.tree.specs.Tree.{Tree}
use Rattle.syntax.specs.Sizes.{most_bytes, most_height}
use Rattle.syntax.specs.Grammar.{expression, Derives}
use Rattle.syntax.specs.Place.{symbols_of, RefusedAt, Scanned}
use Rattle.syntax.specs.Parser.{Parse, part, spent, parse_of}
use Rattle.syntax.specs.Parser as parser
use Rattle.syntax.specs.Height.{height_of}
use Rattle.syntax.specs.Names.{unknown_in, leftmost_of}
use Rattle.syntax.specs.Judge.{by_names, by_height, by_grammar, by_tokens, by_size, judged_of, root_of, judgement_of}
use Rattle.syntax.specs.declared.symbol.Symbol.{Symbol}
use Rattle.syntax.proofs.Grammar.Text.{never-spent, accepts, refuses}

-- a refusal's place; 0 for none
abbrev place_of : Judged Tree → ℕ
place_of (refused r) = r.place
place_of (fine e) = 0

module _ (text : List ℕ) where
  names-number : (l : Option ℕ) (e : Tree) → number_of (by_names l e) ≡ 4 → ⊥
  names-number (Some p) e h = omega arith
  names-number None e h = omega arith

  height-number : (b : Bool) (e : Tree) → number_of (by_height b text e) ≡ 4 → ⊥
  height-number true e h = omega arith
  height-number false e h = names-number (leftmost_of (unknown_in text e)) e h

  -- 4 comes from the parser's refusal alone
  four-of : (a : Parse Symbol Tree) (p : ℕ) → parse_of text ≡ a → by_grammar a text ≡ refused (refusal_at reason.Grammar p) → (x : Symbol) × (parse_of text ≡ parser.refused x) × (x.at ≡ p)
  four-of (part e x) p h k = absurd (height-number (ltb most_height (height_of e)) e (ap number_of k))
  four-of (parser.refused x) p h k = (x, h, ap place_of k)
  four-of spent p h k = absurd (never-spent text h)

  -- a tree comes from the parser's part alone
  fine_of : (a : Parse Symbol Tree) (e : Tree) → parse_of text ≡ a → by_grammar a text ≡ fine e → (x : Symbol) × (parse_of text ≡ part e x)
  fine_of (part e' x) e h k = (x, h ∙ ap (λ e. part e x) (heighted (ltb most_height (height_of e')) e' k))
    where
      named : (l : Option ℕ) (e' : Tree) → by_names l e' ≡ fine e → e' ≡ e
      named (Some p) e' k = cc
      named None e' k = cc

      heighted : (b : Bool) (e' : Tree) → by_height b text e' ≡ fine e → e' ≡ e
      heighted true e' k = cc
      heighted false e' k = named (leftmost_of (unknown_in text e')) e' k
  fine_of (parser.refused x) e h k = absurd (let z = ap number_of k in omega arith)
  fine_of spent e h k = absurd (never-spent text h)

  -- what is not refused with 1, 2 or 3 is judged by the grammar
  module _ (j : Judged Tree) (one : number_of j ≡ 1 → ⊥) (two : number_of j ≡ 2 → ⊥) (three : number_of j ≡ 3 → ⊥) where
    by-verdict : length text ≤ most_bytes → (v : Judged (Unit {0})) → scan_of text ≡ v → by_tokens v text ≡ j → ((p : ℕ) × (v ≡ refused (refusal_at reason.Token p))) ⊎ ((ts : List Placed) × (tokens_of text ≡ tokens ts) × With 3 v) →
        (ts : List Placed) × Scanned text ts × (by_grammar (parse_of text) text ≡ j)
    by-verdict l v e k (inl (p, i)) = absurd (two (ap number_of (sym k ∙ ap (λ v. by_tokens v text) i)))
    by-verdict l (fine tt) e k (inr (ts, i, w)) = (ts, record { short = l; fine = e; lexed = i }, k)
    by-verdict l (refused r) e k (inr (ts, i, w)) = absurd (three (sym (ap number_of k) ∙ w))

    by-size : (b : Bool) → ltb most_bytes (length text) ≡ b → by_size b text ≡ j → (ts : List Placed) × Scanned text ts × (by_grammar (parse_of text) text ≡ j)
    by-size true e k = absurd (one (sym (ap number_of k)))
    by-size false e k = by-verdict (ltb-false most_bytes (length text) e) (scan_of text) refl k (scan-says text)

    by-grammar : judged_of text ≡ j → (ts : List Placed) × Scanned text ts × (by_grammar (parse_of text) text ≡ j)
    unfolding judged_of
    by-grammar h = by-size (ltb most_bytes (length text)) refl h

  scanned-judged : {ts : List Placed} → Scanned text ts → judged_of text ≡ by_grammar (parse_of text) text
  unfolding judged_of
  scanned-judged s = ap (λ b. by_size b text) (le-ltb most_bytes (length text) s.short) ∙ ap (λ v. by_tokens v text) s.fine

  -- A text is refused with 4 at a place exactly if the checks before have passed and the grammar refuses its tokens there.
  pub judged-four : (p : ℕ) → (judged_of text ≡ refused (refusal_at reason.Grammar p)) ↔ ((ts : List Placed) × Scanned text ts × RefusedAt text ts p)
  judged-four p = (onto, back)
    where
      onto : judged_of text ≡ refused (refusal_at reason.Grammar p) → (ts : List Placed) × Scanned text ts × RefusedAt text ts p
      onto h =
          let (ts, s, k) = by-grammar (refused (refusal_at reason.Grammar p)) (λ e. omega arith) (λ e. omega arith) (λ e. omega arith) h in
          (ts, s, (refuses text ts s.lexed p).0 (four-of (parse_of text) p refl k))

      back : (ts : List Placed) × Scanned text ts × RefusedAt text ts p → judged_of text ≡ refused (refusal_at reason.Grammar p)
      back (ts, s, r) =
          let (x, i, q) = (refuses text ts s.lexed p).1 r in
          scanned-judged s ∙ ap (λ a. by_grammar a text) i ∙ ap (λ (p : ℕ). refused (refusal_at reason.Grammar p)) q

  -- A right expression is judged further by its tree, for 5 and 6: nothing else of the parser's definition counts.
  pub right-judged : (ts : List Placed) (e : Tree) → Scanned text ts → Derives text expression (symbols_of ts) e → judged_of text ≡ by_height (ltb most_height (height_of e)) text e
  right-judged ts e s d = let (x, i) = (accepts text ts s.lexed e).1 d in scanned-judged s ∙ ap (λ a. by_grammar a text) i

  -- The tree of a fine text is the one that the grammar derives of its tokens.
  pub judged-fine : (e : Tree) → judged_of text ≡ fine e → (ts : List Placed) × Scanned text ts × Derives text expression (symbols_of ts) e
  judged-fine e h =
      let (ts, s, k) = by-grammar (fine e) (λ e. omega arith) (λ e. omega arith) (λ e. omega arith) h in
      (ts, s, (accepts text ts s.lexed e).0 (fine_of (parse_of text) e refl k))

  -- ---- what `judge` answers

  module _ (slots p : ℕ) where
    answered-so : (j : Judged Tree) → root_of j ≡ refused (refusal_at reason.Grammar p) → j ≡ refused (refusal_at reason.Grammar p)
    answered-so (fine e) h = absurd (let z : ◌≡◌ {A = ℕ} 0 1 = cc in omega arith)
    answered-so (refused q) h = let i : q ≡ refusal_at reason.Grammar p = cc in ap (λ (r : Refusal). refused r) i

    by-room : (b : Bool) → ltb slots (length text) ≡ b → cond b (refused (refusal_at reason.Room 0)) (root_of (judged_of text)) ≡ refused (refusal_at reason.Grammar p) → (length text ≤ slots) × (judged_of text ≡ refused (refusal_at reason.Grammar p))
    by-room true e h = absurd (let z = ap number_of h in omega arith)
    by-room false e h = (ltb-false slots (length text) e, answered-so (judged_of text) h)

    -- The call answers 4 at a place exactly if there is room, the checks before have passed and the grammar refuses the text's tokens there.
    pub answered-four : (judgement_of slots text ≡ refused (refusal_at reason.Grammar p)) ↔ ((length text ≤ slots) × ((ts : List Placed) × Scanned text ts × RefusedAt text ts p))
    answered-four = (onto, back)
      where
        onto : judgement_of slots text ≡ refused (refusal_at reason.Grammar p) → (length text ≤ slots) × ((ts : List Placed) × Scanned text ts × RefusedAt text ts p)
        onto h = let (l, i) = by-room (ltb slots (length text)) refl h in (l, (judged-four p).0 i)

        back : (length text ≤ slots) × ((ts : List Placed) × Scanned text ts × RefusedAt text ts p) → judgement_of slots text ≡ refused (refusal_at reason.Grammar p)
        back (l, r) = ap (λ b. cond b (refused (refusal_at reason.Room 0)) (root_of (judged_of text))) (le-ltb slots (length text) l) ∙ ap root_of ((judged-four p).1 r)
