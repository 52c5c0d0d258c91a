-- What is read at a place where a node was written.
use Rattle.std.specs.Prelude.{None, Some}
use mathlib.Core.Bool.{cond}
use mathlib.Core.Path.{◌≡◌}
use mathlib.Core.List.{List}
use Prim.Native.Nat.{ℕ, ◌<◌}
use native.Mathlib.Nat.{add-sub_cancel_left}
use native.Mathlib.Omega.{arith}
use lib.ListN.{get_or}
use lib.Dec.{eqb}
use borrow.Author.Tests.{ne_eqb, lt-ltb, le-ltb}
use Rattle.tree.specs.Slots.{tags, links, word, tag_at, left_at, variable_tag, first_function_tag, function_tag, question_tag, colon_tag, operator_tag, comma_tag, pick_tag}
use Rattle.tree.specs.Node.{node_at, argument_at}
use Rattle.tree.specs.declared.node.Node.TheVariants.{Literal, Variable, Unary, Binary, Conditional, Bare, Call, Pick}
use Rattle.tree.proofs.Law.Words.{tag_word, link-word}

module _ (v : List ℕ) (p : ℕ) where
  pub node-literal : (k : ℕ) → tag_at v p ≡ k → k < variable_tag → node_at v p ≡ Literal k
  unfolding node_at
  node-literal k h a = simp (h, lt-ltb k 40 (omega arith), lt-ltb k 8 a)

  pub node-variable : (n : ℕ) → get_or v p 0 ≡ word variable_tag n → n < links → node_at v p ≡ Variable n
  unfolding node_at
  node-variable n h m = simp (h, tag_word 8 n (omega arith), link-word 8 n m)

  pub node-unary : (o x : ℕ) → get_or v p 0 ≡ word o x → variable_tag < o → o < first_function_tag → x < links → node_at v p ≡ Unary o x
  unfolding node_at
  node-unary o x h a b m =
      simp (h, tag_word o x (omega arith), link-word o x m, lt-ltb o 40 (omega arith), le-ltb o 8 (omega arith), ne_eqb o 8 (omega arith), lt-ltb o 16 b)

  -- a word of a function, by its link: 0 where it has no arguments
  function : (f x : ℕ) → get_or v p 0 ≡ word (function_tag f) x → function_tag f < question_tag → x < links → node_at v p ≡ cond (eqb x 0) (Bare f) (Call f x)
  unfolding node_at
  function f x h a m =
      let t = function_tag f in
      simp (
        h,
        tag_word t x (omega arith),
        link-word t x m,
        lt-ltb t 40 (omega arith),
        le-ltb t 8 (omega arith),
        ne_eqb t 8 (omega arith),
        le-ltb t 16 (omega arith),
        add-sub_cancel_left 16 f,
      )

  pub node-bare : (f : ℕ) → get_or v p 0 ≡ word (function_tag f) 0 → function_tag f < question_tag → node_at v p ≡ Bare f
  node-bare f h a = function f 0 h a (omega arith)

  pub node_call : (f x : ℕ) → get_or v p 0 ≡ word (function_tag f) x → function_tag f < question_tag → 0 < x → x < links → node_at v p ≡ Call f x
  node_call f x h a some m = rw (function f x h a m, ne_eqb x 0 (omega arith))

  pub node-binary : (o l r : ℕ) → get_or v p 0 ≡ word (operator_tag o) r → left_at v p ≡ l → colon_tag < operator_tag o → operator_tag o < comma_tag → r < links → node_at v p ≡ Binary o l r
  unfolding node_at
  node-binary o l r h g a b m =
      let t = operator_tag o in
      simp (h, g, tag_word t r (omega arith), link-word t r m, le-ltb t 40 (omega arith), lt-ltb t 56 (omega arith), ne_eqb t 40 (omega arith), add-sub_cancel_left 40 o)

  pub node-conditional : (q c a b : ℕ) → get_or v p 0 ≡ word question_tag q → left_at v p ≡ c → q < links →
      get_or v q 0 ≡ word colon_tag b → left_at v q ≡ a → b < links → node_at v p ≡ Conditional q c a b
  unfolding node_at
  node-conditional q c a b h g m h' g' m' = simp (h, g, tag_word 40 q (omega arith), link-word 40 q m, h', g', link-word 41 b m')

  pub node-pick : (i x : ℕ) → get_or v p 0 ≡ word (pick_tag i) x → pick_tag i < tags → x < links → node_at v p ≡ Pick i x
  unfolding node_at
  node-pick i x h a m =
      let t = pick_tag i in
      simp (h, tag_word t x (omega arith), link-word t x m, le-ltb t 40 (omega arith), le-ltb t 56 (omega arith), add-sub_cancel_left 56 i)

  pub argument-next : (l r : ℕ) → get_or v p 0 ≡ word comma_tag r → left_at v p ≡ l → r < links → argument_at v p ≡ Some (record { first = l; rest = r })
  unfolding argument_at
  argument-next l r h g m = simp (h, g, tag_word 55 r (omega arith), link-word 55 r m)

  pub argument-last : (tag_at v p ≡ comma_tag → ⊥) → argument_at v p ≡ None
  unfolding argument_at
  argument-last h = rw (ne_eqb (tag_at v p) 55 h)
