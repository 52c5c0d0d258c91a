-- An expression comes to the same in two contexts that differ only in where strings lie, but for a string's place: all that is seen of a string is its bytes.
use Rattle.std.specs.Prelude.{Option, Some, None}
use Rattle.std.specs.List.{flat_map}
use mathlib.Core.Path.{◌≡◌, refl, ◌∙◌, ap, subst}
use mathlib.Core.Bool.{Bool, true, false, not, cond, ◌&&◌, ◌||◌, beq}
use mathlib.Core.List.{List, [], ◌∷◌, map, ◌++◌}
use Prim.Native.Nat.{ℕ, zero, suc, ◌≤◌}
use native.Mathlib.Nat.{suc-sub-suc, sub-zero}
use native.Mathlib.Omega.{arith}
use lib.Dec.{T, eqb-suc-zero, eqb-suc-suc}
use lib.Ieee.{Float, binary64, sub, mul, eq}
use lib.Ieee.Bits.{is_false}
use lib.ListN.{length, get_or, length-append}
use lib.Seq.{slice, length-slice}
use Rattle.kind.specs.Kind.{eq_kind, dimension_of}
use Rattle.kind.specs.Operation.{index_of}
use Rattle.kind.specs.Rule.{rule_of}
use Rattle.kind.specs.declared.kind.Kind.{Kind}
use Rattle.kind.specs.declared.kind.Kind.TheVariants as kind
use Rattle.kind.specs.declared.operation.Logic.{Logic}
use Rattle.kind.specs.declared.operation.Logic.TheVariants.{Not, And, Or}
use Rattle.kind.specs.declared.operation.Equality.{Equality}
use Rattle.kind.specs.declared.operation.Equality.TheVariants.{Equal, NotEqual}
use Rattle.kind.specs.declared.operation.Constructor.{Constructor}
use Rattle.kind.specs.declared.operation.Constructor.TheVariants as make
use Rattle.kind.specs.declared.operation.Product.{Product}
use Rattle.kind.specs.declared.operation.Product.TheVariants.{Dot, Cross}
use Rattle.kind.specs.declared.operation.Operation.{Operation}
use Rattle.kind.specs.declared.operation.Operation.TheVariants as op
use Rattle.colour.specs.Colour.{rgb_of, rgba_of}
use Rattle.colour.specs.Text.{colour_of}
use Rattle.lexer.specs.Bytes as of-bytes
use Rattle.lexer.specs.Spelling.{Spells, string, Munch}
use Rattle.lexer.specs.Token.{lexeme_at}
use Rattle.lexer.specs.declared.token.Token.{Token}
use Rattle.lexer.specs.declared.token.Token.TheVariants as token
use Rattle.lexer.specs.declared.token.Lexeme.{Lexeme}
use Rattle.lexer.specs.declared.token.Lexeme.TheVariants as lexeme
use Rattle.lexer.proofs.Munch.{munch}
use Rattle.value.specs.Value.{kind_of, components_of, at, truth, nowhere, colour_in}
use Rattle.value.specs.Scalar as scalar
use Rattle.value.specs.Equality.{parts_equal, equal_of}
use Rattle.value.specs.Meaning.{by_component, logic_of, equality_of, sum_of, dot_of, cross_at, product_of, joined_at, or_white, alpha_or, color_of, vec4_of, constructed, made_of, outcome, operand, meaning}
use Rattle.value.specs.Name.{function_at, pick_at}
use Rattle.value.specs.declared.value.Span.{Span}
use Rattle.value.specs.declared.value.Value.{Value}
use Rattle.value.specs.declared.value.Value.TheVariants.{Undefined, Null, Boolean, Number, String, Vec2, Vec3, Vec4}
use Rattle.tree.specs.Tree.{Tree, literal, variable, unary, binary, conditional, bare, call, pick, Arguments, last, next}
use Rattle.checker.specs.Operator.{prefix_at, infix_at}
use Rattle.evaluator.specs.Literal.{token_span, span_in, word_values, literal_at, moved_span, moved_value}
use Rattle.evaluator.specs.Eval.{is_fault, value_in, some_fault, applied, branch_of, boolean_of, need_of, binary_by, Context, eval_of, eval_of_all}
use Rattle.evaluator.specs.Demand.{Variables, VariablesOf}
use Rattle.evaluator.specs.declared.need.Need.{Need}
use Rattle.evaluator.specs.declared.need.Need.TheVariants.{Both, UntilTrue, UntilFalse}
use Rattle.evaluator.specs.Alike.{is_string, Alike, same, strings, AlikeOutcomes, Within}

-- ---- what is seen of two values alike

module _ {R : Span → Span → Type 0} where
  -- what does not look at a string's place
  alike-by : {A : Type 0} (f : Value → A) → ((s t : Span) → f (String s) ≡ f (String t)) → {v w : Value} → Alike R v w → f v ≡ f w
  alike-by f e (same v n) = refl
  alike-by f e (strings s t r) = e s t

  pub alike-kind : {v w : Value} → Alike R v w → kind_of v ≡ kind_of w
  alike-kind = alike-by kind_of (λ s t. refl)

  pub alike-truth : {v w : Value} → Alike R v w → truth v ≡ truth w
  alike-truth = alike-by truth (λ s t. refl)

  pub alike_at : {v w : Value} → Alike R v w → (i : ℕ) → at i v ≡ at i w
  alike_at h i = alike-by (at i) (λ s t. refl) h

  pub alike-components : {v w : Value} → Alike R v w → components_of v ≡ components_of w
  alike-components = alike-by components_of (λ s t. refl)

  pub alike-colour : {v w : Value} → Alike R v w → colour_in v ≡ colour_in w
  unfolding colour_in
  alike-colour = alike-by colour_in (λ s t. refl)

-- ---- no operation makes a String

component-plain : (k : Kind) (g : ℕ → Float) → T (not (is_string (by_component k g)))
component-plain kind.Undefined g = tt
component-plain kind.Null g = tt
component-plain kind.Boolean g = tt
component-plain kind.Number g = tt
component-plain kind.String g = tt
component-plain kind.Vec2 g = tt
component-plain kind.Vec3 g = tt
component-plain kind.Vec4 g = tt

module _ (text : Span → List ℕ) (vs : List Value) where
  constructed-plain : (f : Constructor) → T (not (is_string (constructed text f vs)))
  constructed-plain make.Vec2 = tt
  constructed-plain make.Vec3 = tt
  constructed-plain make.Vec4 = tt
  constructed-plain make.Rgb = tt
  constructed-plain make.Rgba = tt
  constructed-plain make.Color = tt

  product-plain : (f : Product) (a b : Value) → T (not (is_string (product_of f a b)))
  product-plain Dot a b = tt
  product-plain Cross a b = tt

  made_plain : (o : Operation) (k : Kind) → T (not (is_string (made_of text o k vs)))
  made_plain (op.Unary f) k = component-plain k _
  made_plain (op.Binary f) k = component-plain k _
  made_plain (op.Ternary f) k = component-plain k _
  made_plain (op.Logic f) k = tt
  made_plain (op.Order f) k = tt
  made_plain (op.Equality f) k = tt
  made_plain (op.Test f) k = tt
  made_plain (op.Constructor f) k = constructed-plain f
  made_plain (op.Product f) k = product-plain f (operand 0 vs) (operand 1 vs)
  made_plain (op.Pick m) k = tt

module _ {R : Span → Span → Type 0} (t u : Span → List ℕ) (bytes : (s z : Span) → R s z → t s ≡ u z) where
  -- ---- what looks at strings

  parts-alike : (v : Value) → T (not (is_string v)) → {x y : Value} → Alike R x y → parts_equal t v x ≡ parts_equal u v y
  parts-alike Undefined n h = refl
  parts-alike Null n h = refl
  parts-alike (Boolean b) n h = ap (beq b) (alike-truth h)
  parts-alike (Number a) n h = ap (eq a) (alike_at h 0)
  parts-alike (String s) n h = absurd n
  parts-alike (Vec2 a b) n h = λ i. eq a (alike_at h 0 i) && eq b (alike_at h 1 i)
  parts-alike (Vec3 a b c) n h = λ i. eq a (alike_at h 0 i) && (eq b (alike_at h 1 i) && eq c (alike_at h 2 i))
  parts-alike (Vec4 a b c d) n h = λ i. eq a (alike_at h 0 i) && (eq b (alike_at h 1 i) && (eq c (alike_at h 2 i) && eq d (alike_at h 3 i)))

  equal-alike : {v w : Value} → Alike R v w → {x y : Value} → Alike R x y → equal_of t v x ≡ equal_of u w y
  unfolding equal_of
  equal-alike (same v n) h = λ i. eq_kind (kind_of v) (alike-kind h i) && parts-alike v n h i
  equal-alike (strings s z r) (same v n) = rw (is_false (is_string v) n)
  equal-alike (strings s z r) (strings s' z' r') = λ i. of-bytes.same (bytes s z r i) (bytes s' z' r' i)

  color-alike : {v w : Value} → Alike R v w → {x y : Value} → Alike R x y → color_of t v x ≡ color_of u w y
  unfolding color_of
  color-alike (same v n) h = rw (is_false (is_string v) n)
  color-alike (strings s z r) {x} h =
      ap (λ (l : List ℕ). alpha_or (or_white (colour_of l)) x) (bytes s z r) ∙ alike-by (alpha_or (or_white (colour_of (u z)))) (λ s t. refl) h

  -- ---- an operation

  module _ {a b a' b' : Value} (p : Alike R a a') (q : Alike R b b') where
    logic-is : (f : Logic) → logic_of f a b ≡ logic_of f a' b'
    logic-is Not = ap not (alike-truth p)
    logic-is And = λ i. alike-truth p i && alike-truth q i
    logic-is Or = λ i. alike-truth p i || alike-truth q i

    equality-is : (f : Equality) → equality_of t f a b ≡ equality_of u f a' b'
    equality-is Equal = equal-alike p q
    equality-is NotEqual = ap not (equal-alike p q)

    product_is : (f : Product) → product_of f a b ≡ product_of f a' b'
    unfolding dot_of cross_at
    product_is Dot = λ i. Number (sum_of (dimension_of (alike-kind p i)) (λ j. mul binary64 (alike_at p j i) (alike_at q j i)))
    product_is Cross = λ i. Vec3 (cross 1 2 i) (cross 2 0 i) (cross 0 1 i)
      where
        cross : (j k : ℕ) → cross_at a b j k ≡ cross_at a' b' j k
        cross j k = λ i. sub binary64 (mul binary64 (alike_at p j i) (alike_at q k i)) (mul binary64 (alike_at p k i) (alike_at q j i))

  module _ (vs ws : List Value) (joined : flat_map components_of vs ≡ flat_map components_of ws) (h : (i : ℕ) → Alike R (operand i vs) (operand i ws)) where
    joined_is : (n : ℕ) → joined_at vs n ≡ joined_at ws n
    unfolding joined_at
    joined_is n = λ i. get_or (joined i) n (alike_at (h 0) 0 i)

    constructed-is : (f : Constructor) → constructed t f vs ≡ constructed u f ws
    constructed-is make.Vec2 = λ i. Vec2 (joined_is 0 i) (joined_is 1 i)
    constructed-is make.Vec3 = λ i. Vec3 (joined_is 0 i) (joined_is 1 i) (joined_is 2 i)
    constructed-is make.Vec4 = λ i. Vec4 (joined_is 0 i) (joined_is 1 i) (joined_is 2 i) (joined_is 3 i)
    constructed-is make.Rgb = λ i. vec4_of (rgb_of (alike_at (h 0) 0 i) (alike_at (h 1) 0 i) (alike_at (h 2) 0 i))
    constructed-is make.Rgba =
        λ i. vec4_of (rgba_of (alike_at (h 0) 0 i) (alike_at (h 1) 0 i) (alike_at (h 2) 0 i) (alike_at (h 3) 0 i))
    constructed-is make.Color = ap vec4_of (color-alike (h 0) (h 1))

    made-is : (o : Operation) (k : Kind) → made_of t o k vs ≡ made_of u o k ws
    made-is (op.Unary f) k = λ i. by_component k (λ j. scalar.unary_of f (alike_at (h 0) j i))
    made-is (op.Binary f) k = λ i. by_component k (λ j. scalar.binary_of f (alike_at (h 0) j i) (alike_at (h 1) j i))
    made-is (op.Ternary f) k =
        λ i. by_component k (λ j. scalar.ternary_of f (alike_at (h 0) j i) (alike_at (h 1) j i) (alike_at (h 2) j i))
    made-is (op.Logic f) k = ap Boolean (logic-is (h 0) (h 1) f)
    made-is (op.Order f) k = λ i. Boolean (scalar.order_of f (alike_at (h 0) 0 i) (alike_at (h 1) 0 i))
    made-is (op.Equality f) k = ap Boolean (equality-is (h 0) (h 1) f)
    made-is (op.Test f) k = λ i. Boolean (scalar.test_of f (alike_at (h 0) 0 i))
    made-is (op.Constructor f) k = constructed-is f
    made-is (op.Product f) k = product_is (h 0) (h 1) f
    made-is (op.Pick m) k = λ i. Number (alike_at (h 0) (index_of m) i)

    made_alike : (o : Operation) (k : Kind) → Alike R (made_of t o k vs) (made_of u o k ws)
    made_alike o k = subst (Alike R (made_of t o k vs)) (made-is o k) (same (made_of t o k vs) (made_plain t vs o k))

  meaning-alike : (o : Operation) (vs ws : List Value) → map kind_of vs ≡ map kind_of ws → flat_map components_of vs ≡ flat_map components_of ws →
      ((i : ℕ) → Alike R (operand i vs) (operand i ws)) → AlikeOutcomes R (meaning t o vs) (meaning u o ws)
  unfolding meaning
  meaning-alike o vs ws e j h = rw e (go (rule_of o (map kind_of ws)))
    where
      go : (r : Option Kind) → AlikeOutcomes R (outcome r (λ k. made_of t o k vs)) (outcome r (λ k. made_of u o k ws))
      go None = tt
      go (Some k) = made_alike vs ws j h o k

-- ---- parts that go together

-- one by one
data AllAlike (R : Span → Span → Type 0) : List (Option Value) → List (Option Value) → Type 0 where
  none : AllAlike R [] []
  more : (o p : Option Value) {os ps : List (Option Value)} → AlikeOutcomes R o p → AllAlike R os ps → AllAlike R (o ∷ os) (p ∷ ps)

module _ (R : Span → Span → Type 0) where
  alike-fault : (o p : Option Value) → AlikeOutcomes R o p → is_fault o ≡ is_fault p
  alike-fault None None h = refl
  alike-fault None (Some w) h = absurd h
  alike-fault (Some v) None h = absurd h
  alike-fault (Some v) (Some w) h = refl

  alike-value : (o p : Option Value) → AlikeOutcomes R o p → Alike R (value_in o) (value_in p)
  alike-value None None h = same Undefined tt
  alike-value None (Some w) h = absurd h
  alike-value (Some v) None h = absurd h
  alike-value (Some v) (Some w) h = h

  -- both have a fault, or neither
  alike-faults : {os ps : List (Option Value)} → AllAlike R os ps → some_fault os ≡ some_fault ps
  alike-faults none = refl
  alike-faults (more o p h hs) = λ i. alike-fault o p h i || alike-faults hs i

  alike-kinds : {os ps : List (Option Value)} → AllAlike R os ps → map kind_of (map value_in os) ≡ map kind_of (map value_in ps)
  alike-kinds none = refl
  alike-kinds (more o p h hs) = λ i. alike-kind (alike-value o p h) i ∷ alike-kinds hs i

  alike-joined : {os ps : List (Option Value)} → AllAlike R os ps → flat_map components_of (map value_in os) ≡ flat_map components_of (map value_in ps)
  alike-joined none = refl
  alike-joined (more o p h hs) = λ i. alike-components (alike-value o p h) i ++ alike-joined hs i

  alike-operand : {os ps : List (Option Value)} → AllAlike R os ps → (i : ℕ) → Alike R (operand i (map value_in os)) (operand i (map value_in ps))
  alike-operand none i = same Undefined tt
  alike-operand (more o p h hs) zero = alike-value o p h
  alike-operand (more o p h hs) (suc i) = alike-operand hs i

  -- a test takes both the same way
  branch-alike : (o p a b x y : Option Value) → AlikeOutcomes R o p → AlikeOutcomes R a x → AlikeOutcomes R b y → AlikeOutcomes R (branch_of o a b) (branch_of p x y)
  branch-alike None None a b x y h ha hb = tt
  branch-alike None (Some w) a b x y h ha hb = absurd h
  branch-alike (Some v) None a b x y h ha hb = absurd h
  branch-alike (Some v) (Some w) a b x y h ha hb = rw (alike-kind h, alike-truth h) (go (eq_kind kind.Boolean (kind_of w)) (truth w))
    where
      go : (k z : Bool) → AlikeOutcomes R (cond k (cond z a b) None) (cond k (cond z x y) None)
      go true true = ha
      go true false = hb
      go false z = tt

  boolean-alike : (o p : Option Value) → AlikeOutcomes R o p → AlikeOutcomes R (boolean_of o) (boolean_of p)
  boolean-alike o p h = branch-alike o p _ _ _ _ h (same (Boolean true) tt) (same (Boolean false) tt)

  -- ---- an expression

  module _ (c d : Context) (bytes : (s t : Span) → R s t → c.text s ≡ d.text t) where
    applied-alike : (found : Option Operation) {os ps : List (Option Value)} → AllAlike R os ps → AlikeOutcomes R (applied c.text found os) (applied d.text found ps)
    applied-alike None h = tt
    applied-alike (Some o) {os} {ps} h = rw (alike-faults h) (go (some_fault ps))
      where
        go : (f : Bool) → AlikeOutcomes R (cond f None (meaning c.text o (map value_in os))) (cond f None (meaning d.text o (map value_in ps)))
        go true = tt
        go false = meaning-alike c.text d.text bytes o (map value_in os) (map value_in ps) (alike-kinds h) (alike-joined h) (alike-operand h)

    applied-one : (found : Option Operation) (o p : Option Value) → AlikeOutcomes R o p → AlikeOutcomes R (applied c.text found (o ∷ [])) (applied d.text found (p ∷ []))
    applied-one found o p h = applied-alike found (more o p h none)

    binary-alike : (found : Option Operation) (n : Need) (l r x y : Option Value) → AlikeOutcomes R l x → AlikeOutcomes R r y →
        AlikeOutcomes R (binary_by n c.text found l r) (binary_by n d.text found x y)
    binary-alike found Both l r x y hl hr = applied-alike found (more l x hl (more r y hr none))
    binary-alike found UntilTrue l r x y hl hr = branch-alike l x _ _ _ _ hl (same (Boolean true) tt) (boolean-alike r y hr)
    binary-alike found UntilFalse l r x y hl hr = branch-alike l x _ _ _ _ hl (boolean-alike r y hr) (same (Boolean false) tt)

    module _ (literals : (p k : ℕ) → Alike R (c.literals p k) (d.literals p k)) where
      mutual
        unfolding eval_of Variables

        pub eval-alike : (e : Tree) → Variables (λ p n. AlikeOutcomes R (c.variables p n) (d.variables p n)) e → AlikeOutcomes R (eval_of c e) (eval_of d e)
        eval-alike (literal p k) h = literals p k
        eval-alike (variable p n) h = h
        eval-alike (unary p o e) h = applied-one (prefix_at o) (eval_of c e) (eval_of d e) (eval-alike e h)
        eval-alike (binary p o l r) h =
            binary-alike (infix_at o) (need_of (infix_at o)) (eval_of c l) (eval_of c r) (eval_of d l) (eval_of d r) (eval-alike l h.0) (eval-alike r h.1)
        eval-alike (conditional p q t a b) h =
            branch-alike (eval_of c t) (eval_of d t) (eval_of c a) (eval_of c b) (eval_of d a) (eval_of d b)
            (eval-alike t h.0) (eval-alike a h.1) (eval-alike b h.2)
        eval-alike (bare p f) h = applied-alike (function_at f) none
        eval-alike (call p f xs) h = applied-alike (function_at f) (arguments-alike xs h)
        eval-alike (pick p i e) h = applied-one (pick_at i) (eval_of c e) (eval_of d e) (eval-alike e h)

        arguments-alike : (xs : Arguments) → VariablesOf (λ p n. AlikeOutcomes R (c.variables p n) (d.variables p n)) xs → AllAlike R (eval_of_all c xs) (eval_of_all d xs)
        arguments-alike (last e) h = more (eval_of c e) (eval_of d e) (eval-alike e h) none
        arguments-alike (next e q xs) h = more (eval_of c e) (eval_of d e) (eval-alike e h.0) (arguments-alike xs h.1)

-- ---- a literal's string lies within its text

-- it has its two quotes
string-size : {s : List ℕ} → Spells s token.String → 2 ≤ length s
string-size (string q bs h a) = omega (arith, length-append bs (q ∷ []))

no_place : (n : ℕ) → Within n nowhere
no_place n = record { ordered = omega arith; inside = omega arith }

token-within : (text : List ℕ) (at end : ℕ) (t : Token) → end ≤ length text → Spells (slice at end text) t → Within (length text) (token_span t at end)
token-within text at end (token.Number digits places) h s = no_place (length text)
token-within text at end token.String h s =
    let two = string-size s in
    let size = length-slice at end text h in
    record { ordered = omega arith; inside = omega arith }
token-within text at end token.Variable h s = no_place (length text)
token-within text at end (token.Word k) h s = no_place (length text)
token-within text at end (token.Punctuator k) h s = no_place (length text)

span-within : (text : List ℕ) (from : ℕ) (x : Lexeme) → Munch text from x → Within (length text) (span_in x)
span-within text from (lexeme.Found t at end) h = token-within text at end t h.1 h.2
span-within text from (lexeme.Bad at end) h = no_place (length text)
span-within text from lexeme.End h = no_place (length text)

-- no literal word is a String
word-plain : (k : ℕ) → T (not (is_string (get_or word_values k Undefined)))
word-plain zero = tt
word-plain (suc zero) = tt
word-plain (suc (suc zero)) = tt
word-plain (suc (suc (suc zero))) = tt
word-plain (suc (suc (suc (suc zero)))) = tt
word-plain (suc (suc (suc (suc (suc zero))))) = tt
word-plain (suc (suc (suc (suc (suc (suc k)))))) = tt

not-string : (v : Value) (s : Span) → T (not (is_string v)) → v ≡ String s → ⊥
not-string v s n e = subst (λ (v : Value). T (not (is_string v))) e n

pub literal-within : (text : List ℕ) (p k : ℕ) (s : Span) → literal_at text p k ≡ String s → Within (length text) s
unfolding literal_at
literal-within text p zero s e = absurd (not-string _ s tt e)
literal-within text p (suc zero) s e =
    let f : span_in (lexeme_at text p) ≡ s = cc in
    subst (Within (length text)) f (span-within text p (lexeme_at text p) (munch text p))
literal-within text p (suc (suc k)) s e =
    absurd (not-string _ s (word-plain k) (rw (eqb-suc-zero (suc k), eqb-suc-suc (suc k) 0, eqb-suc-zero k, suc-sub-suc (suc k) 1, suc-sub-suc k 0, sub-zero k) at e))

-- ---- a literal, with its text at two places

module _ (R : Span → Span → Type 0) (n a b : ℕ) (moved : (s : Span) → Within n s → R (moved_span a s) (moved_span b s)) where
  value-alike : (v : Value) → ((s : Span) → v ≡ String s → Within n s) → Alike R (moved_value a v) (moved_value b v)
  value-alike Undefined h = same Undefined tt
  value-alike Null h = same Null tt
  value-alike (Boolean x) h = same (Boolean x) tt
  value-alike (Number x) h = same (Number x) tt
  value-alike (String s) h = strings (moved_span a s) (moved_span b s) (moved s (h s refl))
  value-alike (Vec2 x y) h = same (Vec2 x y) tt
  value-alike (Vec3 x y z) h = same (Vec3 x y z) tt
  value-alike (Vec4 x y z w) h = same (Vec4 x y z w) tt

pub literal-alike : (R : Span → Span → Type 0) (text : List ℕ) (a b : ℕ) → ((s : Span) → Within (length text) s → R (moved_span a s) (moved_span b s)) →
    (p k : ℕ) → Alike R (moved_value a (literal_at text p k)) (moved_value b (literal_at text p k))
literal-alike R text a b moved p k = value-alike R (length text) a b moved (literal_at text p k) (literal-within text p k)
