-- The levels of the grammar, path by path: what the callees gave, and the tests that were passed, give what the caller says.
use Rattle.std.specs.Prelude.{Ok, Err}
use mathlib.Core.Path.{◌≡◌, refl, ap, sym, subst, ◌∙◌}
use mathlib.Core.List.{List}
use mathlib.Core.Bool.{Bool, true, false, cond, ◌&&◌, ◌||◌, false≢true}
use Prim.Native.Nat.{ℕ, zero, suc, ◌+◌, ◌<◌, ◌≤◌}
use native.Mathlib.Omega.{arith}
use lib.Dec.{eqb, ltb, leb}
use lib.ListN.{length}
use borrow.Author.Tests.{eq-eqb, ne_eqb, eqb-true, ltb-true, ltb-false}
use Rattle.tree.specs.Tree.{Tree, literal, variable, unary, binary, bare, call, last, next}
use Rattle.tree.specs.Slots.{Shape, between, root, lay, put, join, shape_of, shapes_of, question_tag, colon_tag, operator_tag, function_tag, variable_tag, comma_tag}
use Rattle.syntax.specs.Symbol.{symbol_at, is, question, colon, comma, close_round, is_literal, form_of, is_prefix, precedence_of, function_of}
use Rattle.syntax.specs.Parser.{Parse, part, refused, and_then, ask, closed, Branches, branches, chosen, in_text, expression_from}
use Rattle.syntax.specs.Parser.{branches_from, level_from, tail_from, unary_from, postfix_from, picks_from, primary_from, call_from}
use Rattle.syntax.specs.Parser.{arguments_from}
use Rattle.syntax.specs.Inner.{Sound, Follows, Goes, Answer, parsed, Good, Agrees, ParsedBy, steps, branches_shape, ExpressionBy}
use Rattle.syntax.specs.Inner.{BranchesBy, LevelBy, TailBy, UnaryBy, PostfixBy, PicksBy, PrimaryBy, CallBy, ArgumentsBy, closed_of}
use Rattle.syntax.specs.declared.symbol.Symbol.{Symbol}
use Rattle.syntax.specs.declared.parse.Parsed.{Parsed}
use Rattle.syntax.proofs.Law.Symbols.{sound-at, later-at, in-range}
use Rattle.syntax.proofs.Law.Operators.{prefix-is, operator-none}
use Rattle.syntax.proofs.Law.Steps.{Gives, given, then-part, then-bad, asks-yes, asks-no, after-that, at_once}
use Rattle.syntax.proofs.Law.Parts.{ahead-tree, says-tree, says-bad, goes_on, stepped, ahead-wider, same, with_part, paired}

-- ---- an answer, by a step at a time

module _ {A : Type 0} {shape : A → Shape} {text w v : List ℕ} {lo : ℕ} (m : ℕ → Symbol → Parse Symbol A) (x : Symbol) (fuel : ℕ) where
  refuses : {y : Symbol} → 0 < fuel → ((g : ℕ) → fuel ≤ suc g → Gives (m (suc g)) x (refused y)) → ParsedBy shape (λ f. m f x) fuel text w v lo (Err y)
  refuses {y} some h = record { ahead = tt; says = stepped (λ f. m f x ≡ refused y) some (λ g l. (h g l).gives) }

  builds : {t : Parsed} → 0 < fuel → lo ≤ t.root → t.root < t.next.at → Sound text t.next → ((g : ℕ) → fuel ≤ suc g → Good shape w v t (m (suc g) x)) →
      ParsedBy shape (λ f. m f x) fuel text w v lo (Ok t)
  builds {t} some after before sound h =
      record { ahead = (after, record { sound = sound; before = before }); says = stepped (λ f. Good shape w v t (m f x)) some h }

-- ---- two parts with a symbol between them: conditionals, branches, arguments

-- A level that reads a first part, and if the symbol after it is the right one, a second part and a node between the two. It takes c steps, and its parts c₁ and c₂.
pub record Pair {A B C : Type 0} (shape_a : A → Shape) (shape_b : B → Shape) (shape_c : C → Shape) (text : List ℕ) : Type 0 where
  pub first : ℕ → Symbol → Parse Symbol A
  pub second : ℕ → Symbol → Parse Symbol B
  pub whole : ℕ → Symbol → Parse Symbol C
  pub none : A → Symbol → Parse Symbol C
  pub node : ℕ → A → B → C
  pub mark : ℕ
  pub tag : ℕ
  pub c₁ : ℕ
  pub c₂ : ℕ
  pub c : ℕ
  step : (g : ℕ) → whole (suc g) ≡ and_then (first g) (λ a. ask (in_text text) (is mark) (λ y. and_then (second g) (λ b. part (node y.at a b))) (none a))
  shaped : (p : ℕ) (a : A) (b : B) → shape_c (node p a b) ≡ between p tag (shape_a a) (shape_b b)
  marked : mark < 36
  later₁ : c₁ < c
  later₂ : c₂ < c + 32

module _ {A B C : Type 0} {shape_a : A → Shape} {shape_b : B → Shape} {shape_c : C → Shape} {text : List ℕ}
    (p : Pair shape_a shape_b shape_c text) {w v : List ℕ} (x : Symbol) {r : Answer}
    (h : ParsedBy shape_a (λ f. p.first f x) (steps p.c₁ text x) text w v x.at r) where
  by-step : {g : ℕ} {a : Parse Symbol C} →
      Gives (and_then (p.first g) (λ a. ask (in_text text) (is p.mark) (λ y. and_then (p.second g) (λ b. part (p.node y.at a b))) (p.none a))) x a → Gives (p.whole (suc g)) x a
  by-step {g} {a} i = subst (λ m. Gives m x a) (sym (p.step g)) i

  pub first-bad : {y : Symbol} → r ≡ Err y → ParsedBy shape_c (λ f. p.whole f x) (steps p.c text x) text w v x.at (Err y)
  first-bad e = let l = p.later₁ in refuses p.whole x _ (omega arith) (λ g m. by-step (then-bad _ (given (says-bad h e g (omega arith)))))

  module _ {t : Parsed} (e : r ≡ Ok t) where
    -- with another symbol after it, the first part goes on as it may
    pub alone : (t.next.number ≡ p.mark → ⊥) → (g : ℕ) → steps p.c text x ≤ suc g → (d : Good shape_a w v t (p.first g x)) → Gives (p.whole (suc g)) x (p.none d.tree t.next)
    alone q g l d = by-step (then-part _ (given d.is) (asks-no _ _ _ _ (ne_eqb t.next.number p.mark q) at_once))

    module _ (q : t.next.number ≡ p.mark) {z : Symbol} (f : Follows text t.next z) {u : List ℕ} {r' : Answer}
        (i : ParsedBy shape_b (λ f. p.second f z) (steps p.c₂ text z) text v u z.at r') where
      -- there are steps enough for the second part
      enough : (g : ℕ) → steps p.c text x ≤ suc g → steps p.c₂ text z ≤ g
      enough g l =
          let a = ahead-tree h e in
          let m = a.1.sound.moves (omega (arith, p.marked)) in
          omega (arith, p.later₂, f.later, f.sound.order, f.sound.inside)

      pub second-bad : {b : Symbol} → r' ≡ Err b → ParsedBy shape_c (λ f. p.whole f x) (steps p.c text x) text w u x.at (Err b)
      second-bad e' = refuses p.whole x _ (omega (arith, p.later₁)) (λ g l.
          by-step (then-part _ (given (says-tree h e g (omega (arith, p.later₁))).is) (asks-yes _ _ _ _ (eq-eqb t.next.number p.mark q) (omega (arith, p.marked))
          (then-bad _ (after-that f (given (says-bad i e' g (enough g l))))))))

      pub both : {t' : Parsed} {s : List ℕ} → r' ≡ Ok t' → s ≡ join u t.next.at p.tag t.root t'.root →
          ParsedBy shape_c (λ f. p.whole f x) (steps p.c text x) text w s x.at (parsed t.next.at t'.next)
      both e' wrote =
          let a = ahead-tree h e in
          let b = ahead-tree i e' in
          let m = a.1.sound.moves (omega (arith, p.marked)) in
          builds p.whole x _ (omega (arith, p.later₁)) (omega (arith, a)) (omega (arith, b, f.later)) b.1.sound (λ g l.
          let d = says-tree h e g (omega (arith, p.later₁)) in
          let k = says-tree i e' g (enough g l) in
          paired shape_c (p.node t.next.at) t.next.at p.tag (p.shaped t.next.at) d k wrote
          (by-step (then-part _ (given d.is) (asks-yes _ _ _ _ (eq-eqb t.next.number p.mark q) (omega (arith, p.marked))
          (then-part _ (after-that f (given k.is)) at_once)))).gives)

module _ (text : List ℕ) where
  pub chosen-shape : (p : ℕ) (c : Tree) (b : Branches) → shape_of (chosen p c b) ≡ between p question_tag (shape_of c) (branches_shape b)
  chosen-shape p c (branches q a b) = refl

  pub conditionals-step : (g : ℕ) → expression_from text (in_text text) (suc g) ≡
      and_then (level_from text (in_text text) g 6) (λ a. ask (in_text text) (is question) (λ y. and_then (branches_from text (in_text text) g) (λ b. part (chosen y.at a b))) (part a))
  unfolding expression_from
  conditionals-step g = refl

  abbrev pub conditionals : Pair shape_of branches_shape shape_of text
  conditionals = record {
    first = λ f. level_from text (in_text text) f 6;
    second = branches_from text (in_text text);
    whole = expression_from text (in_text text);
    none = part;
    node = chosen;
    mark = question;
    tag = question_tag;
    c₁ = 11;
    c₂ = 13;
    c = 12;
    step = conditionals-step;
    shaped = chosen-shape;
    marked = omega arith;
    later₁ = omega arith;
    later₂ = omega arith;
  }

  pub pairs-step : (g : ℕ) → branches_from text (in_text text) (suc g) ≡
      and_then (expression_from text (in_text text) g) (λ a. ask (in_text text) (is colon) (λ y. and_then (expression_from text (in_text text) g) (λ b. part (branches y.at a b))) (refused))
  unfolding expression_from
  pairs-step g = refl

  abbrev pub pairs : Pair shape_of shape_of branches_shape text
  pairs = record {
    first = expression_from text (in_text text);
    second = expression_from text (in_text text);
    whole = branches_from text (in_text text);
    none = λ a. refused;
    node = branches;
    mark = colon;
    tag = colon_tag;
    c₁ = 12;
    c₂ = 12;
    c = 13;
    step = pairs-step;
    shaped = λ p a b. refl;
    marked = omega arith;
    later₁ = omega arith;
    later₂ = omega arith;
  }

  pub lists-step : (g : ℕ) → arguments_from text (in_text text) (suc g) ≡
      and_then (expression_from text (in_text text) g) (λ a. ask (in_text text) (is comma) (λ y. and_then (arguments_from text (in_text text) g) (λ b. part (next a y.at b))) (part (last a)))
  unfolding expression_from
  lists-step g = refl

  abbrev pub lists : Pair shape_of shapes_of shapes_of text
  lists = record {
    first = expression_from text (in_text text);
    second = arguments_from text (in_text text);
    whole = arguments_from text (in_text text);
    none = λ e. part (last e);
    node = λ q e xs. next e q xs;
    mark = comma;
    tag = comma_tag;
    c₁ = 12;
    c₂ = 13;
    c = 13;
    step = lists-step;
    shaped = λ q e xs. refl;
    marked = omega arith;
    later₁ = omega arith;
    later₂ = omega arith;
  }

module _ {text w v : List ℕ} (x : Symbol) {r : Answer} {t : Parsed} (e : r ≡ Ok t) where
  -- what stands before no `?` is a whole expression
  pub expression-none : LevelBy 6 text w v x r → (t.next.number ≡ question → ⊥) → ExpressionBy text w v x (Ok t)
  expression-none h q =
      let a = ahead-tree h e in
      builds (expression_from text (in_text text)) x _ (omega arith) a.0 a.1.before a.1.sound (λ g l.
      let d = says-tree h e g (omega arith) in
      record { tree = d.tree; is = (alone (conditionals text) x h e q g l d).gives; rooted = d.rooted; wrote = d.wrote })

  -- a first branch without its `:` is refused at what follows
  pub branches-none : ExpressionBy text w v x r → (t.next.number ≡ colon → ⊥) → BranchesBy text w v x (Err t.next)
  branches-none h q = refuses (branches_from text (in_text text)) x _ (omega arith) (λ g l. alone (pairs text) x h e q g l (says-tree h e g (omega arith)))

  -- an argument without a comma after it is the last
  pub arguments-last : ExpressionBy text w v x r → (t.next.number ≡ comma → ⊥) → ArgumentsBy text w v x (Ok t)
  arguments-last h q =
      let a = ahead-tree h e in
      builds (arguments_from text (in_text text)) x _ (omega arith) a.0 a.1.before a.1.sound (λ g l.
      let d = says-tree h e g (omega arith) in
      record { tree = last d.tree; is = (alone (lists text) x h e q g l d).gives; rooted = d.rooted; wrote = d.wrote })

-- ---- binary operators

module _ {text w v : List ℕ} (k : ℕ) (x : Symbol) {r : Answer} where
  pub level-unary : k ≡ 0 → UnaryBy text w v x r → LevelBy k text w v x r
  unfolding expression_from
  level-unary e h = subst (λ k. LevelBy k text w v x r) (sym e) (same (λ f. level_from text (in_text text) f 0 x) _ x.at (omega arith) (omega arith) (λ g. refl) h)

-- a level is one more than that of its operands
module _ {text w v : List ℕ} (j : ℕ) (x : Symbol) {r : Answer} (h : LevelBy j text w v x r) where
  level-bad : {y : Symbol} → r ≡ Err y → LevelBy (suc j) text w v x (Err y)
  unfolding expression_from
  level-bad e = refuses (λ f. level_from text (in_text text) f (suc j)) x _ (omega arith) (λ g l. then-bad _ (given (says-bad h e g (omega arith))))

  level-goes : {t : Parsed} {u : List ℕ} {r' : Answer} → r ≡ Ok t → TailBy j text v u t r' → LevelBy (suc j) text w u x r'
  unfolding expression_from and_then
  level-goes {u = u} {r' = r'} e k =
      let a = ahead-tree h e in
      record {
        ahead = ahead-wider text x.at r' a.0 k.ahead;
        says = stepped (λ f. Agrees shape_of w u r' (level_from text (in_text text) f (suc j) x)) (omega arith) (λ g l.
            goes_on (λ f. tail_from text (in_text text) f j) k g (omega (arith, a.1.sound.order, a.1.sound.inside)) (says-tree h e g (omega arith)));
      }

module _ {text w v : List ℕ} (k j : ℕ) (x : Symbol) {r : Answer} (e : k ≡ suc j) (h : LevelBy j text w v x r) where
  pub binary-bad : {y : Symbol} → r ≡ Err y → LevelBy k text w v x (Err y)
  binary-bad {y} i = subst (λ k. LevelBy k text w v x (Err y)) (sym e) (level-bad j x h i)

  pub binary-goes : {t : Parsed} {u : List ℕ} {r' : Answer} → r ≡ Ok t → TailBy j text v u t r' → LevelBy k text w u x r'
  binary-goes {u = u} {r' = r'} i t = subst (λ k. LevelBy k text w u x r') (sym e) (level-goes j x h i t)

pub operator-number : (n k : ℕ) → precedence_of n ≡ suc k → (1 < n) × (n < 15)
unfolding precedence_of
operator-number zero k e = absurd (omega arith)
operator-number (suc zero) k e = absurd (omega arith)
operator-number (suc (suc n)) k e = (omega arith, below (ltb (suc (suc n)) 15) refl)
  where
    below : (b : Bool) → ltb (suc (suc n)) 15 ≡ b → suc (suc n) < 15
    below true h = ltb-true (suc (suc n)) 15 h
    below false h = absurd (omega (arith, operator-none (suc (suc n)) (ltb-false (suc (suc n)) 15 h)))

module _ {text w : List ℕ} (k : ℕ) (t : Parsed) (s : Goes text t) where
  -- no operator of the level follows
  pub tail-ends : (precedence_of t.next.number ≡ suc k → ⊥) → TailBy k text w w t (Ok t)
  unfolding expression_from
  tail-ends q = record {
    ahead = (omega arith, s);
    says = stepped (λ f. (u : List ℕ) (e : Tree) → w ≡ lay u (shape_of e) → t.root ≡ root (shape_of e) → Good shape_of u w t (tail_from text (in_text text) f k e t.next)) (omega arith) (λ g l u e wrote rooted.
        record { tree = e; is = (asks-no _ _ _ _ (ne_eqb (precedence_of t.next.number) (suc k) q) at_once).gives; rooted = rooted; wrote = wrote });
  }

  module _ (q : precedence_of t.next.number ≡ suc k) {y : Symbol} (f : Follows text t.next y) {v : List ℕ} {r : Answer} (small : k < 6) (h : LevelBy k text w v y r) where
    pub tail-bad : {b : Symbol} → r ≡ Err b → TailBy k text w v t (Err b)
    unfolding expression_from
    tail-bad {b} e =
        let o = operator-number t.next.number k q in
        let m = s.sound.moves (omega arith) in
        record {
          ahead = tt;
          says = stepped (λ f. (u : List ℕ) (e : Tree) → w ≡ lay u (shape_of e) → t.root ≡ root (shape_of e) →
              tail_from text (in_text text) f k e t.next ≡ refused b) (omega arith) (λ g l u e' wrote rooted.
              (asks-yes _ _ _ _ (eq-eqb (precedence_of t.next.number) (suc k) q) (omega arith) (then-bad _ (after-that f (given
              (says-bad h e g (omega (arith, f.later, f.sound.order, f.sound.inside))))))).gives);
        }

    pub tail-goes : {t' : Parsed} {u v' : List ℕ} {r' : Answer} → r ≡ Ok t' → u ≡ join v t.next.at (operator_tag t.next.number) t.root t'.root →
        TailBy k text u v' (record { root = t.next.at; next = t'.next }) r' → TailBy k text w v' t r'
    unfolding expression_from
    tail-goes {t'} {u} {v'} {r'} e wrote m' =
        let x = t.next in
        let o = operator-number x.number k q in
        let m = s.sound.moves (omega arith) in
        let a = ahead-tree h e in
        record {
          ahead = ahead-wider text t.root r' (omega (arith, s.before)) m'.ahead;
          says = stepped (λ f. (u : List ℕ) (e : Tree) → w ≡ lay u (shape_of e) → t.root ≡ root (shape_of e) →
              Agrees shape_of u v' r' (tail_from text (in_text text) f k e x)) (omega arith) (λ g l w₀ e' wrote' rooted.
              let left : Good shape_of w₀ w t (part e' x) = record { tree = e'; is = refl; rooted = rooted; wrote = wrote' } in
              let right = says-tree h e g (omega (arith, f.later, f.sound.order, f.sound.inside)) in
              let node : Tree → Tree → Tree = binary x.at x.number in
              let d = paired shape_of node x.at (operator_tag x.number) (λ a b. refl) left right wrote refl in
              let step = (asks-yes _ _ _ _ (eq-eqb (precedence_of x.number) (suc k) q) (omega arith) (then-part _ (after-that f (given right.is)) at_once)).gives in
              subst (λ a. Agrees shape_of w₀ v' r' a) (sym step)
              (goes_on (λ f. tail_from text (in_text text) f k) m' g (omega (arith, a.1.sound.order, a.1.sound.inside, f.later, f.sound.order)) d));
        }

-- ---- unary operators and picks

one_of : (n : ℕ) (a b c : Bool) → eqb n 10 ≡ a → eqb n 11 ≡ b → eqb n 15 ≡ c → (a || b) || c ≡ true → (8 < n) × (n < 16)
one_of n true b c h i j e = omega (arith, eqb-true n 10 h)
one_of n false true c h i j e = omega (arith, eqb-true n 11 i)
one_of n false false true h i j e = omega (arith, eqb-true n 15 j)
one_of n false false false h i j e = absurd (false≢true e)

pub prefix-operator : (x : Symbol) → is_prefix x ≡ true → (8 < x.number) × (x.number < 16)
prefix-operator x e = one_of x.number (eqb x.number 10) (eqb x.number 11) (eqb x.number 15) refl refl refl (sym (prefix-is x) ∙ e)

module _ {text w v : List ℕ} (x : Symbol) {r : Answer} where
  pub unary-none : is_prefix x ≡ false → PostfixBy text w v x r → UnaryBy text w v x r
  unfolding expression_from
  unary-none q h = same (λ f. unary_from text (in_text text) f x) _ x.at (omega arith) (omega arith) (λ g. (asks-no _ _ _ _ q at_once).gives) h

  module _ (q : is_prefix x ≡ true) (s : Sound text x) {y : Symbol} (f : Follows text x y) (h : UnaryBy text w v y r) where
    pub unary-bad : {b : Symbol} → r ≡ Err b → UnaryBy text w v x (Err b)
    unfolding expression_from
    unary-bad e =
        let o = prefix-operator x q in
        let m = s.moves (omega arith) in
        refuses (unary_from text (in_text text)) x _ (omega arith) (λ g l.
        asks-yes _ _ _ _ q (omega arith) (then-bad _ (after-that f (given (says-bad h e g (omega (arith, f.later, f.sound.order, f.sound.inside)))))))

    pub unary-goes : {t : Parsed} {u : List ℕ} → r ≡ Ok t → u ≡ put v x.at x.number t.root → UnaryBy text w u x (parsed x.at t.next)
    unfolding expression_from lay
    unary-goes e wrote =
        let o = prefix-operator x q in
        let m = s.moves (omega arith) in
        let a = ahead-tree h e in
        builds (unary_from text (in_text text)) x _ (omega arith) (omega arith) (omega (arith, a, f.later)) a.1.sound (λ g l.
        let d = says-tree h e g (omega (arith, f.later, f.sound.order, f.sound.inside)) in
        with_part shape_of (unary x.at x.number) x.at x.number (λ a. refl) (λ w a. refl) d wrote
        (asks-yes _ _ _ _ q (omega arith) (then-part _ (after-that f (given d.is)) at_once)).gives)

module _ {text w v : List ℕ} (x : Symbol) {r : Answer} (h : PrimaryBy text w v x r) where
  pub postfix-bad : {b : Symbol} → r ≡ Err b → PostfixBy text w v x (Err b)
  unfolding expression_from
  postfix-bad e = refuses (postfix_from text (in_text text)) x _ (omega arith) (λ g l. then-bad _ (given (says-bad h e g (omega arith))))

  pub postfix-goes : {t : Parsed} {u : List ℕ} {r' : Answer} → r ≡ Ok t → PicksBy text v u t r' → PostfixBy text w u x r'
  unfolding expression_from and_then
  postfix-goes {u = u} {r' = r'} e k =
      let a = ahead-tree h e in
      record {
        ahead = ahead-wider text x.at r' a.0 k.ahead;
        says = stepped (λ f. Agrees shape_of w u r' (postfix_from text (in_text text) f x)) (omega arith) (λ g l.
            goes_on (picks_from text (in_text text)) k g (omega (arith, a.1.sound.order, a.1.sound.inside)) (says-tree h e g (omega arith)));
      }

-- ---- brackets

-- a part with the bracket that closes it
module _ {A : Type 0} {shape : A → Shape} (m : ℕ → Symbol → Parse Symbol A) (x : Symbol) {fuel : ℕ} {text w v : List ℕ} {lo : ℕ} where
  closes-tree : (t : Parsed) (b : Bool) → is close_round t.next ≡ b → ParsedBy shape (λ f. m f x) fuel text w v lo (Ok t) →
      ParsedBy shape (λ f. and_then (m f) (closed (in_text text)) x) fuel text w v lo (cond b (parsed t.root (symbol_at text t.next.end)) (Err t.next))
  closes-tree t false q h = record { ahead = tt; says = λ f l. (then-part _ (given (h.says f l).is) (asks-no _ _ _ _ q at_once)).gives }
  closes-tree t true q h =
      let y = t.next in
      let a = h.ahead in
      let n = eqb-true y.number 17 q in
      let later = later-at text y.end a.1.sound.inside in
      record {
        ahead = (a.0, record { sound = sound-at text y.end; before = omega (arith, a.1.before, a.1.sound.order, later) });
        says = λ f l.
            let d = h.says f l in
            record {
              tree = d.tree;
              is = (then-part _ (given d.is) (asks-yes _ _ _ _ q (omega arith) at_once)).gives;
              rooted = d.rooted;
              wrote = d.wrote;
            };
      }

  pub closes : {r r' : Answer} {t : Parsed} → ParsedBy shape (λ f. m f x) fuel text w v lo r → r ≡ Ok t → r' ≡ closed_of text t → ParsedBy shape (λ f. and_then (m f) (closed (in_text text)) x) fuel text w v lo r'
  closes {t = t} h e k = subst (λ r. ParsedBy shape (λ f. and_then (m f) (closed (in_text text)) x) fuel text w v lo r) (sym k) (closes-tree t (is close_round t.next) refl (subst (λ r. ParsedBy shape (λ f. m f x) fuel text w v lo r) e h))

  pub closes-bad : {r : Answer} {y : Symbol} → ParsedBy shape (λ f. m f x) fuel text w v lo r → r ≡ Err y → ParsedBy shape (λ f. and_then (m f) (closed (in_text text)) x) fuel text w v lo r
  closes-bad h e = subst (λ r. ParsedBy shape (λ f. and_then (m f) (closed (in_text text)) x) fuel text w v lo r) (sym e) (record { ahead = tt; says = λ f l. (then-bad _ (given (says-bad h e f l))).gives })

-- ---- primaries

module _ {text w v : List ℕ} (x : Symbol) (s : Sound text x) where
  pub primary-literal : {n : ℕ} {y : Symbol} → is_literal x ≡ true → n ≡ form_of x → v ≡ put w x.at n 0 → Follows text x y → PrimaryBy text w v x (parsed x.at y)
  unfolding expression_from lay
  primary-literal q e wrote f =
      let most = in-range 22 33 x.number q in
      let m = s.moves (omega arith) in
      builds (primary_from text (in_text text)) x _ (omega arith) (omega arith) (omega (arith, f.later)) f.sound (λ g l.
      record {
        tree = literal x.at (form_of x);
        is = (asks-yes _ _ _ _ q (omega arith) (after-that f at_once)).gives;
        rooted = refl;
        wrote = subst (λ n. v ≡ put w x.at n 0) e wrote;
      })

  pub primary-variable : {y : Symbol} → x.number ≡ 35 → v ≡ put w x.at variable_tag 0 → Follows text x y → PrimaryBy text w v x (parsed x.at y)
  unfolding expression_from lay
  primary-variable q wrote f =
      let m = s.long q in
      builds (primary_from text (in_text text)) x _ (omega arith) (omega arith) (omega (arith, f.later)) f.sound (λ g l.
      record {
        tree = variable x.at 0;
        is = (asks-no _ _ _ _ (ap (λ n. leb 22 n && leb n 33) q) (asks-yes _ _ _ _ (eq-eqb x.number 35 q) (omega arith) (after-that f at_once))).gives;
        rooted = refl;
        wrote = wrote;
      })

  -- what stands in brackets, with the one that closes them
  pub primary-brackets : {y : Symbol} {r : Answer} → x.number ≡ 16 → Follows text x y →
      ParsedBy shape_of (λ f. and_then (expression_from text (in_text text) f) (closed (in_text text)) y) (steps 12 text y) text w v y.at r → PrimaryBy text w v x r
  unfolding expression_from
  primary-brackets {y} q f h =
      let m = s.moves (omega arith) in
      same (λ f. primary_from text (in_text text) f x) _ x.at (omega (arith, f.later)) (omega (arith, f.later, f.sound.order, f.sound.inside))
      (λ g. (asks-no _ _ _ _ (ap (λ n. leb 22 n && leb n 33) q) (asks-no _ _ _ _ (ap (λ n. eqb n 35) q) (asks-yes _ _ _ _ (eq-eqb x.number 16 q) (omega arith) (after-that f at_once)))).gives)
      h

  pub primary-call : {r : Answer} → x.number ≡ 34 → CallBy text w v x r → PrimaryBy text w v x r
  unfolding expression_from
  primary-call q h = same (λ f. primary_from text (in_text text) f x) _ x.at (omega arith) (omega arith)
      (λ g. (asks-no _ _ _ _ (ap (λ n. leb 22 n && leb n 33) q) (asks-no _ _ _ _ (ap (λ n. eqb n 35) q) (asks-no _ _ _ _ (ap (λ n. eqb n 16) q) (asks-yes _ _ _ _ (eq-eqb x.number 34 q) (omega arith) at_once)))).gives)
      h

  pub primary-none : is_literal x ≡ false → (x.number ≡ 35 → ⊥) → (x.number ≡ 16 → ⊥) → (x.number ≡ 34 → ⊥) → PrimaryBy text w v x (Err x)
  unfolding expression_from
  primary-none a b c d = refuses (primary_from text (in_text text)) x _ (omega arith) (λ g l.
      asks-no _ _ _ _ a (asks-no _ _ _ _ (ne_eqb x.number 35 b) (asks-no _ _ _ _ (ne_eqb x.number 16 c) (asks-no _ _ _ _ (ne_eqb x.number 34 d) at_once))))

-- ---- calls

module _ {text w v : List ℕ} (x : Symbol) (s : Sound text x) (q : x.number ≡ 34) {y : Symbol} (f : Follows text x y) where
  pub call_none : (y.number ≡ 16 → ⊥) → CallBy text w v x (Err y)
  unfolding expression_from
  call_none n = refuses (λ f. call_from text (in_text text) f x) (symbol_at text x.end) _ (omega arith) (λ g l. after-that f (asks-no _ _ _ _ (ne_eqb y.number 16 n) at_once))

  module _ (o : y.number ≡ 16) {z : Symbol} (i : Follows text y z) where
    pub call-bare : {n : ℕ} {t : Symbol} → n ≡ function_of text x → z.number ≡ 17 → v ≡ put w x.at (function_tag n) 0 → Follows text z t → CallBy text w v x (parsed x.at t)
    unfolding expression_from lay
    call-bare {n} {t} e c wrote j =
        let m = s.moves (omega arith) in
        let m₁ = f.sound.moves (omega arith) in
        let m₂ = i.sound.moves (omega arith) in
        builds (λ f. call_from text (in_text text) f x) (symbol_at text x.end) _ (omega arith) (omega arith) (omega (arith, m, m₁, m₂, f.later, i.later, j.later)) j.sound (λ g l.
        record {
          tree = bare x.at (function_of text x);
          is = (after-that f (asks-yes _ _ _ _ (eq-eqb y.number 16 o) (omega arith) (after-that i (asks-yes _ _ _ _ (eq-eqb z.number 17 c) (omega arith) (after-that j at_once))))).gives;
          rooted = refl;
          wrote = subst (λ n. v ≡ put w x.at (function_tag n) 0) e wrote;
        })

    -- with arguments and the bracket that closes them
    module _ (n : z.number ≡ 17 → ⊥) {r : Answer}
        (inside : ParsedBy shapes_of (λ f. and_then (arguments_from text (in_text text) f) (closed (in_text text)) z) (steps 13 text z) text w v z.at r) where
      further : (x.at < z.at) × (z.at ≤ length text)
      further =
          let m = s.moves (omega arith) in
          let m₁ = f.sound.moves (omega arith) in
          omega (arith, m, m₁, f.later, i.later, i.sound.order, i.sound.inside)

      pub call-bad : {b : Symbol} → r ≡ Err b → CallBy text w v x (Err b)
      unfolding expression_from
      call-bad d = refuses (λ f. call_from text (in_text text) f x) (symbol_at text x.end) _ (omega arith) (λ g l.
          after-that f (asks-yes _ _ _ _ (eq-eqb y.number 16 o) (omega arith) (after-that i (asks-no _ _ _ _ (ne_eqb z.number 17 n)
          (then-bad _ (given (says-bad inside d g (omega (arith, further)))))))))

      pub call-goes : {k : ℕ} {t : Parsed} {u : List ℕ} → k ≡ function_of text x → r ≡ Ok t → u ≡ put v x.at (function_tag k) t.root → CallBy text w u x (parsed x.at t.next)
      unfolding expression_from lay
      call-goes {t = t} {u = u} k d wrote =
          let a = ahead-tree inside d in
          builds (λ f. call_from text (in_text text) f x) (symbol_at text x.end) _ (omega arith) (omega arith) (omega (arith, further, a)) a.1.sound (λ g l.
          let c = says-tree inside d g (omega (arith, further)) in
          with_part shape_of (call x.at (function_of text x)) x.at (function_tag (function_of text x)) (λ a. refl) (λ w a. refl) c (subst (λ n. u ≡ put v x.at (function_tag n) t.root) k wrote)
          (after-that f (asks-yes _ _ _ _ (eq-eqb y.number 16 o) (omega arith) (after-that i (asks-no _ _ _ _ (ne_eqb z.number 17 n)
          (then-part _ (given c.is) at_once))))).gives)
