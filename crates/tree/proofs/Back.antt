-- A tree that was written is read back, and the slots outside its places are as they were.
use mathlib.Core.Path.{◌≡◌, refl, ap, subst, ◌∙◌}
use mathlib.Core.List.{List, ◌++◌}
use mathlib.Core.Logic.{◌⊎◌, inl, inr}
use Prim.Native.Nat.{ℕ, zero, suc, ◌+◌, ◌-◌, ◌/◌, ◌%◌, ◌<◌, ◌≤◌}
use native.Mathlib.Omega.{arith}
use lib.ListN.{length, get_or, length-set, get_or-append}
use lib.Seq.{get_or-set_same, get_or-set_other}
use Rattle.tree.specs.Tree.{Tree, literal, variable, unary, binary, conditional, bare, call, pick, place, Arguments, last, next}
use Rattle.tree.specs.Slots.{tags, links, word, tag_at, left_at, put, join, comma_tag, Shape, leaf, held, before, between, after}
use Rattle.tree.specs.Slots.{root, lay, shape_of, shapes_of, store}
use Rattle.tree.specs.Node.{node_at, arguments_at, grown, most_commas, tree_at}
use Rattle.tree.specs.Fits.{Within, Known, KnownAll, allowed, pruned, pruned_all}
use Rattle.tree.proofs.Law.Places.{root-within, root-shape, length-lay}
use Rattle.tree.proofs.Law.Words.{tag_word, link-word, link_tag, join-other}
use Rattle.tree.proofs.Law.Nodes.{node-literal, node-variable, node-unary, node-binary, node-conditional, node-bare, node_call}
use Rattle.tree.proofs.Law.Nodes.{node-pick, argument-next, argument-last}

-- ---- the slots outside

-- a place outside lo up to hi: if it is not below, it is at hi or above
abbrev Outside : ℕ → ℕ → ℕ → Type 0
Outside lo hi i = lo ≤ i → hi ≤ i

outside-part : {lo hi i : ℕ} (lo' hi' : ℕ) → lo ≤ lo' → hi' ≤ hi → Outside lo hi i → Outside lo' hi' i
outside-part lo' hi' a b out = λ l. omega (arith, out (omega arith))

-- it is none of the places inside
other : {lo hi i : ℕ} (p : ℕ) → lo ≤ p → p < hi → Outside lo hi i → i ≡ p → ⊥
other p a b out same = omega (arith, out (omega arith))

outside-lay : (w : List ℕ) (lo hi i : ℕ) (s : Shape) → Within lo hi s → Outside lo hi i → get_or (lay w s) i 0 ≡ get_or w i 0
unfolding lay Within
outside-lay w lo hi i (leaf p tag) t out = get_or-set_other w p i (word tag 0) 0 (other p t.0 t.1 out)
outside-lay w lo hi i (held p tag n) t out = get_or-set_other w p i (word tag n) 0 (other p t.0 (omega arith) out)
outside-lay w lo hi i (before p tag e) t out =
    get_or-set_other (lay w e) p i (word tag (root e)) 0 (other p t.0 (omega arith) out) ∙ outside-lay w (p + 1) hi i e t.3 (outside-part (p + 1) hi (omega arith) (omega arith) out)
outside-lay w lo hi i (between p tag l r) t out =
    join-other (lay (lay w l) r) p tag (root l) (root r) i (other p (omega arith) (omega arith) out) (other (p - 1) (omega arith) (omega arith) out) ∙
    outside-lay (lay w l) (p + 1) hi i r t.4 (outside-part (p + 1) hi (omega arith) (omega arith) out) ∙
    outside-lay w lo p i l t.3 (outside-part lo p (omega arith) (omega arith) out)
outside-lay w lo hi i (after p tag e) t out =
    get_or-set_other (lay w e) p i (word tag (root e)) 0 (other p (omega arith) (omega arith) out) ∙ outside-lay w lo p i e t.3 (outside-part lo p (omega arith) (omega arith) out)

pub outside-store : (w : List ℕ) (lo hi i : ℕ) (s : Shape) → Within lo hi s → (i < lo) ⊎ (hi ≤ i) → get_or (lay w s) i 0 ≡ get_or w i 0
outside-store w lo hi i s t (inl below) = outside-lay w lo hi i s t (λ l. omega arith)
outside-store w lo hi i s t (inr above) = outside-lay w lo hi i s t (λ l. above)

-- ---- the slots hold a shape

-- each node's word at its place, of a leaf the tag alone; and the place of the left part in the link before a node with parts on both sides
unfoldable pub Holds : List ℕ → Shape → Type 0
Holds v (leaf p tag) = tag_at v p ≡ tag
Holds v (held p tag n) = get_or v p 0 ≡ word tag n
Holds v (before p tag e) = (get_or v p 0 ≡ word tag (root e)) × Holds v e
Holds v (between p tag l r) = (get_or v p 0 ≡ word tag (root r)) × (left_at v p ≡ root l) × Holds v l × Holds v r
Holds v (after p tag e) = (get_or v p 0 ≡ word tag (root e)) × Holds v e

-- Slots that agree from lo up to hi, but for the link of the last one: it is free.
record Same (v u : List ℕ) (lo hi : ℕ) : Type 0 where
  slot : (i : ℕ) → lo ≤ i → i + 1 < hi → get_or u i 0 ≡ get_or v i 0
  tag : (i : ℕ) → lo ≤ i → i < hi → tag_at v i < tags → tag_at u i ≡ tag_at v i

same-part : {v u : List ℕ} {lo hi : ℕ} (lo' hi' : ℕ) → lo ≤ lo' → hi' ≤ hi → Same v u lo hi → Same v u lo' hi'
same-part lo' hi' a b s = record { slot = λ i l h. s.slot i (omega arith) (omega arith); tag = λ i l h. s.tag i (omega arith) (omega arith) }

-- they hold the same shapes there
holds_same : {v u : List ℕ} {lo hi : ℕ} (s : Shape) → Within lo hi s → Same v u lo hi → Holds v s → Holds u s
unfolding Holds Within
holds_same {v = v} {u = u} {lo = lo} {hi = hi} (leaf p tag) t same h = same.tag p t.0 t.1 (omega arith) ∙ h
holds_same {v = v} {u = u} {lo = lo} {hi = hi} (held p tag n) t same h = same.slot p t.0 t.1 ∙ h
holds_same {v = v} {u = u} {lo = lo} {hi = hi} (before p tag e) t same h = (
  same.slot p t.0 t.1 ∙ h.0,
  holds_same {v = v} {u = u} {lo = p + 1} {hi = hi} e t.3 (same-part (p + 1) hi (omega arith) (omega arith) same) h.1,
)
holds_same {v = v} {u = u} {lo = lo} {hi = hi} (between p tag l r) t same h = (
  same.slot p (omega arith) t.1 ∙ h.0,
  ap (λ (n : ℕ). n % 1024) (same.slot (p - 1) (omega arith) (omega arith)) ∙ h.1,
  holds_same {v = v} {u = u} {lo = lo} {hi = p} l t.3 (same-part lo p (omega arith) (omega arith) same) h.2,
  holds_same {v = v} {u = u} {lo = p + 1} {hi = hi} r t.4 (same-part (p + 1) hi (omega arith) (omega arith) same) h.3,
)
holds_same {v = v} {u = u} {lo = lo} {hi = hi} (after p tag e) t same h = (
  same.slot p (omega arith) t.1 ∙ h.0,
  holds_same {v = v} {u = u} {lo = lo} {hi = p} e t.3 (same-part lo p (omega arith) (omega arith) same) h.1,
)

same-all : {v u : List ℕ} {lo hi : ℕ} → ((i : ℕ) → lo ≤ i → i < hi → get_or u i 0 ≡ get_or v i 0) → Same v u lo hi
same-all s = record { slot = λ i l h. s i l (omega arith); tag = λ i l h m. ap (λ (n : ℕ). n / 1024) (s i l h) }

-- with more slots behind them they hold it still
pub holds_more : (v u : List ℕ) (lo hi : ℕ) (s : Shape) → Within lo hi s → hi ≤ length v → Holds v s → Holds (v ++ u) s
holds_more v u lo hi s t room h = holds_same s t (same-all (λ i a b. get_or-append v u 0 i (omega arith))) h

-- a node with parts on both sides leaves the left one, whose last slot lends its link
same_left : (v b : List ℕ) (lo p tag left right : ℕ) → ((i : ℕ) → i < p → get_or b i 0 ≡ get_or v i 0) → Same v (join b p tag left right) lo p
same_left v b lo p tag left right alike = record {
  slot = λ i l h. join-other b p tag left right i (omega arith) (omega arith) ∙ alike i (omega arith);
  tag = λ i l h m.
      let same : tag_at (put b p tag right) i ≡ tag_at v i = ap (λ (n : ℕ). n / 1024) (get_or-set_other b p i (word tag right) 0 (omega arith) ∙ alike i h) in
      link_tag (put b p tag right) (p - 1) left i (omega arith) ∙ same;
}

pub holds-lay : (w : List ℕ) (lo hi : ℕ) (s : Shape) → Within lo hi s → hi ≤ links → hi ≤ length w → Holds (lay w s) s
unfolding Holds Within lay
holds-lay w lo hi (leaf p tag) t m n = ap (λ (n : ℕ). n / 1024) (get_or-set_same w p (word tag 0) 0 (omega arith)) ∙ tag_word tag 0 t.2
holds-lay w lo hi (held p tag x) t m n = get_or-set_same w p (word tag x) 0 (omega arith)
holds-lay w lo hi (before p tag e) t m n = (
  get_or-set_same (lay w e) p (word tag (root e)) 0 (omega (arith, length-lay w e)),
  holds_same e t.3 (same-all (λ i a b. get_or-set_other (lay w e) p i (word tag (root e)) 0 (omega arith))) (holds-lay w (p + 1) hi e t.3 m n),
)
holds-lay w lo hi (between p tag l r) t m n =
    let inside = root-within lo p l t.3 in
    let v = lay (lay w l) r in
    let room : length v ≡ length w = length-lay (lay w l) r ∙ length-lay w l in
    let own = put v p tag (root r) in
    let lent = word (tag_at own (p - 1)) (root l) in (
      get_or-set_other own (p - 1) p lent 0 (omega arith) ∙ get_or-set_same v p (word tag (root r)) 0 (omega arith),
      ap (λ (n : ℕ). n % 1024) (get_or-set_same own (p - 1) lent 0 (omega (arith, length-set v p (word tag (root r))))) ∙ link-word (tag_at own (p - 1)) (root l) (omega arith),
      holds_same
          l
          t.3
          (same_left (lay w l) v lo p tag (root l) (root r) (λ i b. outside-lay (lay w l) (p + 1) hi i r t.4 (λ a. omega arith)))
          (holds-lay w lo p l t.3 (omega arith) (omega arith)),
      holds_same
          r
          t.4
          (same-all (λ i a b. join-other v p tag (root l) (root r) i (omega arith) (omega arith)))
          (holds-lay (lay w l) (p + 1) hi r t.4 m (omega (arith, length-lay w l))),
    )
holds-lay w lo hi (after p tag e) t m n = (
  get_or-set_same (lay w e) p (word tag (root e)) 0 (omega (arith, length-lay w e)),
  holds_same e t.3 (same-all (λ i a b. get_or-set_other (lay w e) p i (word tag (root e)) 0 (omega arith))) (holds-lay w lo p e t.3 (omega arith) (omega arith)),
)

-- ---- the tree is read back

-- one step: with nothing allowed a literal is read, and else what the node's parts say
grows : (v : List ℕ) (p h : ℕ) (tree : ℕ → Tree) →
    ((g : ℕ) → grown (node_at v p) p (tree_at g v) (arguments_at (tree_at g v) most_commas v) ≡ tree g) → tree_at h v p ≡ allowed h p tree
unfolding tree_at
grows v p zero tree step = refl
grows v p (suc g) tree step = step g

-- no node of a tree has a comma's tag
not-comma : (v : List ℕ) (e : Tree) → Known e → Holds v (shape_of e) → tag_at v (root (shape_of e)) ≡ comma_tag → ⊥
unfolding Known Holds
not-comma v (literal p k) known h c = omega arith
not-comma v (variable p n) known h c = omega arith
not-comma v (unary p o e) known h c = omega arith
not-comma v (binary p o l r) known h c = omega arith
not-comma v (conditional p q x a b) known h c = omega arith
not-comma v (bare p f) known h c = omega arith
not-comma v (call p f xs) known h c = omega arith
not-comma v (pick p i e) known h c = omega arith

-- so an argument that no comma follows is the last, however many are allowed
alone : (tree : ℕ → Tree) (n : ℕ) (v : List ℕ) (p : ℕ) → (tag_at v p ≡ comma_tag → ⊥) → arguments_at tree n v p ≡ last (tree p)
unfolding arguments_at
alone tree zero v p no-comma = refl
alone tree (suc n) v p no-comma = rw (argument-last v p no-comma)

mutual
  unfolding Within Known Holds pruned arguments_at

  tree-back : (v : List ℕ) (lo hi : ℕ) (e : Tree) (h : ℕ) → Within lo hi (shape_of e) → Known e → hi ≤ links → Holds v (shape_of e) → tree_at h v (root (shape_of e)) ≡ pruned e h
  tree-back v lo hi (literal p k) h t known m holds = grows v p h _ (λ g. rw (node-literal v p k holds known))
  tree-back v lo hi (variable p n) h t known m holds = grows v p h _ (λ g. rw (node-variable v p n holds t.3))
  tree-back v lo hi (unary p o e) h t known m holds =
      let r = root-within (p + 1) hi (shape_of e) t.3 in
      grows v p h _ (λ g. rw (node-unary v p o (root (shape_of e)) holds.0 known.0 known.1 (omega arith), tree-back v (p + 1) hi e g t.3 known.2 m holds.1))
  tree-back v lo hi (binary p o l r) h t known m holds =
      let i = root-within (p + 1) hi (shape_of r) t.4 in
      grows v p h _ (λ g.
      rw (
        node-binary v p o (root (shape_of l)) (root (shape_of r)) holds.0 holds.1 known.0 known.1 (omega arith),
        tree-back v lo p l g t.3 known.2 (omega arith) holds.2,
        tree-back v (p + 1) hi r g t.4 known.3 m holds.3,
      ))
  tree-back v lo hi (conditional p q c a b) h t known m holds =
      let i = root-within (q + 1) hi (shape_of b) t.4.4 in
      grows v p h _ (λ g.
      rw (
        node-conditional v p q (root (shape_of c)) (root (shape_of a)) (root (shape_of b)) holds.0 holds.1 (omega arith) holds.3.0 holds.3.1 (omega arith),
        tree-back v lo p c g t.3 known.0 (omega arith) holds.2,
        tree-back v (p + 1) q a g t.4.3 known.1 (omega arith) holds.3.2,
        tree-back v (q + 1) hi b g t.4.4 known.2 m holds.3.3,
      ))
  tree-back v lo hi (bare p f) h t known m holds = grows v p h _ (λ g. rw (node-bare v p f holds known))
  tree-back v lo hi (call p f xs) h t known m holds =
      let r = root-within (p + 1) hi (shapes_of xs) t.3 in
      grows v p h _ (λ g.
      rw (
        node_call v p f (root (shapes_of xs)) holds.0 known.0 (omega arith) (omega arith),
        arguments-back v (p + 1) hi xs most_commas g t.3 known.1 m (omega arith) holds.1,
      ))
  tree-back v lo hi (pick p i e) h t known m holds =
      let r = root-within lo p (shape_of e) t.3 in
      grows v p h _ (λ g. rw (node-pick v p i (root (shape_of e)) holds.0 known.0 (omega arith), tree-back v lo p e g t.3 known.1 (omega arith) holds.1))

  arguments-back : (v : List ℕ) (lo hi : ℕ) (xs : Arguments) (n h : ℕ) → Within lo hi (shapes_of xs) → KnownAll xs → hi ≤ links → hi - lo ≤ n → Holds v (shapes_of xs) →
      arguments_at (tree_at h v) n v (root (shapes_of xs)) ≡ pruned_all xs h
  arguments-back v lo hi (last e) n h t known m room holds =
      alone (tree_at h v) n v (root (shape_of e)) (not-comma v e known holds) ∙ ap last (tree-back v lo hi e h t known m holds)
  arguments-back v lo hi (next e q xs) zero h t known m room holds = absurd (omega arith)
  arguments-back v lo hi (next e q xs) (suc n) h t known m room holds =
      let r = root-within (q + 1) hi (shapes_of xs) t.4 in
      rw (
        argument-next v q (root (shape_of e)) (root (shapes_of xs)) holds.0 holds.1 (omega arith),
        tree-back v lo q e h t.3 known.0 (omega arith) holds.2,
        arguments-back v (q + 1) hi xs n h t.4 known.1 m (omega arith) holds.3,
      )

-- Any slots that hold a tree give it, as deep as is allowed.
pub read_back : (v : List ℕ) (lo hi : ℕ) (e : Tree) (h : ℕ) → Within lo hi (shape_of e) → Known e → hi ≤ links → Holds v (shape_of e) → tree_at h v (place e) ≡ pruned e h
read_back v lo hi e h t known m holds = subst (λ (p : ℕ). tree_at h v p ≡ pruned e h) (root-shape e) (tree-back v lo hi e h t known m holds)

-- And so do those into which it was written.
pub stored : (w : List ℕ) (lo hi : ℕ) (e : Tree) (h : ℕ) → Within lo hi (shape_of e) → Known e → hi ≤ links → hi ≤ length w → tree_at h (store w e) (place e) ≡ pruned e h
stored w lo hi e h t known m room = read_back (store w e) lo hi e h t known m (holds-lay w lo hi (shape_of e) t m room)
