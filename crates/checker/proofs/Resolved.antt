-- Names resolved: the numbers that they get, and the tree that is read back from the slots then.
use mathlib.Core.Path.{◌≡◌, refl, sym, ap, ◌∙◌, subst}
use mathlib.Core.Bool.{Bool}
use mathlib.Core.List.{List, [], ◌∷◌, ◌++◌}
use Prim.Native.Nat.{ℕ, ◌+◌, ◌/◌, ◌%◌, ◌<◌, ◌≤◌}
use native.Mathlib.Omega.{arith}
use borrow.Author.Tests.{ltb-true}
use lib.Dec.{ltb}
use lib.ListN.{length}
use Rattle.lexer.specs.Refusal.{fine}
use Rattle.lexer.specs.Tokens.{Placed, placed}
use Rattle.lexer.specs.declared.token.Token.{Token}
use Rattle.lexer.specs.declared.token.Token.TheVariants.{Variable, Word, Punctuator}
use Rattle.lexer.proofs.Law.Runs.{by-test}
use Rattle.tree.specs.Tree.{Tree, Arguments, place}
use Rattle.tree.specs.Tree as tree
use Rattle.tree.specs.Slots.{word, variable_tag, function_tag, question_tag, colon_tag, operator_tag, comma_tag, pick_tag, Shape, leaf, held, before, between, after, root, shape_of, shapes_of}
use Rattle.tree.specs.Node.{tree_at}
use Rattle.tree.specs.Fits.{Within, Known, KnownAll}
use Rattle.tree.proofs.Law.Places.{root-shape}
use Rattle.tree.proofs.Back.{Holds, read_back}
use Rattle.syntax.specs.Anchored.{Among, IsLiteral, Anchored, AnchoredAll}
use Rattle.syntax.specs.Anchored as anchored
use Rattle.syntax.specs.Height.{height_of, height_of_all}
use Rattle.syntax.specs.Judge.{judged_of, slots_after}
use Rattle.syntax.proofs.Laid.{judged-fits, slots-hold}
use Rattle.syntax.proofs.Grammar.Anchored.{anchored-among}
use Rattle.syntax.proofs.Grammar.Judged.{judged-fine}
use Rattle.syntax.proofs.Law.Heights.{pruned-low}
use Rattle.checker.specs.Name.{name_at, first_row, property_row, row_in, number_of, resolved_slots, resolved, resolved_all}
use Rattle.checker.specs.declared.name.Scope.{Scope}
use Rattle.checker.specs.declared.name.Scope.TheVariants.{Define, Style}
use Rattle.checker.proofs.Law.Tokens.{Other, Settled, SettledAt, Each, each-cut, numbered_all, tokens-listed, all_settled}

-- ---- the numbers of names

property-below : (p : ℕ → Bool) → property_row p < 49
unfolding property_row
property-below p = by-test (λ (n : ℕ). n < 49) (ltb (first_row p 32 0) 32) (λ e. omega (arith, ltb-true (first_row p 32 0) 32 e)) (λ e. omega arith)

row_below : (scope : Scope) (p : ℕ → Bool) → row_in scope p < 49
unfolding row_in
row_below Define p = property-below p
row_below Style p = by-test (λ (n : ℕ). n < 49) (ltb (first_row p 16 32) 48) (λ e. omega (arith, ltb-true (first_row p 16 32) 48 e)) (λ e. property-below p)

-- There are 48 rows, and one number more for an undeclared name.
pub number-below : (scope : Scope) (head names name : List ℕ) → number_of scope head names name < 49
number-below scope head names name = row_below scope _

-- ---- a shape with its variables numbered

-- it stands at the same place in the same bounds, and where the slots v hold the one, u hold the other
record Turned (v u : List ℕ) (s s' : Shape) : Type 0 where
  rooted : root s' ≡ root s
  within : (lo hi : ℕ) → Within lo hi s → Within lo hi s'
  holds : (lo hi : ℕ) → Within lo hi s → Holds v s → Holds u s'

module _ {v u : List ℕ} {name : ℕ → ℕ} {t : Token} {p : ℕ} (at : Settled v u name t p) where
  turned-variable : (m : ℕ) → t ≡ Variable → name p < 1024 → Turned v u (held p variable_tag m) (held p variable_tag (name p))
  unfolding Within Holds
  turned-variable m is small = record { rooted = refl; within = λ lo hi t. (t.0, t.1, t.2, small); holds = λ lo hi t h. at.named is }

  module _ (tag : ℕ) (other : Other t) where
    turned-leaf : Turned v u (leaf p tag) (leaf p tag)
    unfolding Within Holds
    turned-leaf = record { rooted = refl; within = λ lo hi t. t; holds = λ lo hi t h. ap (λ (m : ℕ). m / 1024) (at.kept other) ∙ h }

    turned-held : (m : ℕ) → Turned v u (held p tag m) (held p tag m)
    unfolding Within Holds
    turned-held m = record { rooted = refl; within = λ lo hi t. t; holds = λ lo hi t h. at.kept other ∙ h }

    turned-before : {s s' : Shape} → Turned v u s s' → Turned v u (before p tag s) (before p tag s')
    unfolding Within Holds
    turned-before e = record {
      rooted = refl;
      within = λ lo hi t. (t.0, t.1, t.2, e.within (p + 1) hi t.3);
      holds = λ lo hi t h. (at.kept other ∙ h.0 ∙ ap (word tag) (sym e.rooted), e.holds (p + 1) hi t.3 h.1);
    }

    turned-after : {s s' : Shape} → Turned v u s s' → Turned v u (after p tag s) (after p tag s')
    unfolding Within Holds
    turned-after e = record {
      rooted = refl;
      within = λ lo hi t. (t.0, t.1, t.2, e.within lo p t.3);
      holds = λ lo hi t h. (at.kept other ∙ h.0 ∙ ap (word tag) (sym e.rooted), e.holds lo p t.3 h.1);
    }

    turned-between : {l l' r r' : Shape} → Turned v u l l' → Turned v u r r' → Turned v u (between p tag l r) (between p tag l' r')
    unfolding Within Holds
    turned-between a b = record {
      rooted = refl;
      within = λ lo hi t. (t.0, t.1, t.2, a.within lo p t.3, b.within (p + 1) hi t.4);
      holds = λ lo hi t h. (
        at.kept other ∙ h.0 ∙ ap (word tag) (sym b.rooted),
        ap (λ (m : ℕ). m % 1024) (at.left (omega arith)) ∙ h.1 ∙ sym a.rooted,
        a.holds lo p t.3 h.2,
        b.holds (p + 1) hi t.4 h.3,
      );
    }

-- ---- a tree whose nodes are read from its own tokens

literal-other : {t : Token} {k : ℕ} → IsLiteral t k → Other t
literal-other (anchored.number digits places) = tt
literal-other anchored.string = tt
literal-other (anchored.word k h) = tt

module _ (text v u : List ℕ) (name : ℕ → ℕ) (small : (p : ℕ) → name p < 1024) (ts : List Placed) (settled : Each ts (SettledAt v u name)) where
  -- the first of some that stand one after another
  first : (t : Token) (p until : ℕ) (us : List Placed) → Among ts (placed t p until ∷ us) → Settled v u name t p
  first t p until us (xs, ys, are) =
      let h = subst (λ (all : List Placed). Each all (SettledAt v u name)) are settled in
      (each-cut xs (placed t p until ∷ us) (SettledAt v u name) (each-cut (xs ++ placed t p until ∷ us) ys (SettledAt v u name) h).0).1.0

  alone : (t : Token) (p : ℕ) → anchored.At text (Among ts) t p → Settled v u name t p
  alone t p (until, a) = first t p until [] a

  called : (p f : ℕ) (c : anchored.Called text (Among ts) p f) → Settled v u name (Word c.number) p
  called p f c = first (Word c.number) p c.until _ c.stand

  picked : {p i : ℕ} → anchored.Picked text (Among ts) p i → (t : Token) × Other t × Settled v u name t p
  picked (anchored.member k end at until a) = (_, tt, first (Punctuator _) _ end _ a)
  picked (anchored.index i end at until close closed h a) = (_, tt, first (Punctuator _) _ end _ a)

  mutual
    unfolding resolved Anchored

    turned : (e : Tree) → Anchored text (Among ts) e → Turned v u (shape_of e) (shape_of (resolved name e))
    turned (tree.literal p k) (t, is, a) = turned-leaf (alone t p a) k (literal-other is)
    turned (tree.variable p n) a = turned-variable (alone Variable p a) n refl (small p)
    turned (tree.unary p o e) a = turned-before (alone (Punctuator o) p a.0) o tt (turned e a.1)
    turned (tree.binary p o l r) a = turned-between (alone (Punctuator o) p a.0) (operator_tag o) tt (turned l a.1) (turned r a.2)
    turned (tree.conditional p q c x y) a =
        turned-between (alone _ p a.0) question_tag tt (turned c a.2)
        (turned-between (alone _ q a.1) colon_tag tt (turned x a.3) (turned y a.4))
    turned (tree.bare p f) a = turned-held (called p f a) (function_tag f) tt 0
    turned (tree.call p f xs) a = turned-before (called p f a.0) (function_tag f) tt (turned-all xs a.1)
    turned (tree.pick p i e) a = let (t, other, at) = picked a.0 in turned-after at (pick_tag i) other (turned e a.1)

    turned-all : (xs : Arguments) → AnchoredAll text (Among ts) xs → Turned v u (shapes_of xs) (shapes_of (resolved_all name xs))
    turned-all (tree.last e) a = turned e a
    turned-all (tree.next e q xs) a = turned-between (alone _ q a.1) comma_tag tt (turned e a.0) (turned-all xs a.2)

-- ---- resolving changes neither the operations of a tree nor its height

module _ (name : ℕ → ℕ) where
  mutual
    unfolding Known resolved

    known-resolved : (e : Tree) → Known e → Known (resolved name e)
    known-resolved (tree.literal p k) h = h
    known-resolved (tree.variable p n) h = h
    known-resolved (tree.unary p o e) h = (h.0, h.1, known-resolved e h.2)
    known-resolved (tree.binary p o l r) h = (h.0, h.1, known-resolved l h.2, known-resolved r h.3)
    known-resolved (tree.conditional p q c a b) h = (known-resolved c h.0, known-resolved a h.1, known-resolved b h.2)
    known-resolved (tree.bare p f) h = h
    known-resolved (tree.call p f xs) h = (h.0, known-resolved-all xs h.1)
    known-resolved (tree.pick p i e) h = (h.0, known-resolved e h.1)

    known-resolved-all : (xs : Arguments) → KnownAll xs → KnownAll (resolved_all name xs)
    known-resolved-all (tree.last e) h = known-resolved e h
    known-resolved-all (tree.next e q xs) h = (known-resolved e h.0, known-resolved-all xs h.1)

  mutual
    unfolding height_of resolved

    height-resolved : (e : Tree) → height_of (resolved name e) ≡ height_of e
    height-resolved (tree.literal p k) = refl
    height-resolved (tree.variable p n) = refl
    height-resolved (tree.unary p o e) = rw (height-resolved e)
    height-resolved (tree.binary p o l r) = rw (height-resolved l, height-resolved r)
    height-resolved (tree.conditional p q c a b) = rw (height-resolved c, height-resolved a, height-resolved b)
    height-resolved (tree.bare p f) = refl
    height-resolved (tree.call p f xs) = rw (height-resolved-all xs)
    height-resolved (tree.pick p i e) = rw (height-resolved e)

    height-resolved-all : (xs : Arguments) → height_of_all (resolved_all name xs) ≡ height_of_all xs
    height-resolved-all (tree.last e) = height-resolved e
    height-resolved-all (tree.next e q xs) = rw (height-resolved e, height-resolved-all xs)

-- A judged expression whose variables have been resolved is read back as its tree with their numbers.
pub read-resolved : (number : List ℕ → ℕ) → ((x : List ℕ) → number x < 1024) → (text w : List ℕ) (e : Tree) (h : ℕ) → judged_of text ≡ fine e → length text ≤ length w → height_of e ≤ h →
    tree_at h (resolved_slots number text (slots_after w text)) (place e) ≡ resolved (λ p. number (name_at text p)) e
read-resolved number small text w e h judged room low =
    let n = length text in
    let d = judged-fits text e judged in
    let v = slots_after w text in
    let kept = slots-hold text w e judged room in
    let (ts, scanned, derived) = judged-fine text e judged in
    let l = tokens-listed number text ts scanned.lexed in
    let name : ℕ → ℕ = λ p. number (name_at text p) in
    let u = numbered_all number text ts v in
    let t : Turned v u (shape_of e) (shape_of (resolved name e)) =
    turned text v u name (λ p. small (name_at text p)) ts (all_settled number text v ts l.0 (omega (arith, kept.1))) e (anchored-among text ts e derived) in
    let same : place (resolved name e) ≡ place e = sym (root-shape (resolved name e)) ∙ t.rooted ∙ root-shape e in
    let read = read_back u 0 n (resolved name e) h (t.within 0 n d.2) (known-resolved name e d.3) d.0 (t.holds 0 n d.2 kept.0) in
    let whole = pruned-low (resolved name e) h (rw (height-resolved name e) low) in
    rw (l.1 v, ← same) (read ∙ whole)
