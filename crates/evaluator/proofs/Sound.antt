-- An expression that the checker accepts meets no fault, and it comes to a value of its set and of what is wanted, whatever its variables come to that conforms.
use Rattle.std.specs.Prelude.{Option, Some, None, Result, Ok, Err}
use mathlib.Core.Path.{◌≡◌, refl, sym, ◌∙◌, ap, subst}
use mathlib.Core.Bool.{Bool, true, false, cond, ◌&&◌, true≢false}
use mathlib.Core.List.{List, [], ◌∷◌, map}
use Prim.Native.Nat.{ℕ}
use lib.Dec.{T}
use lib.Ieee.Bits.{is_true}
use lib.Ieee.Fits.{and_l, and_r}
use Rattle.lexer.specs.Refusal.{Judged, refused, fine}
use Rattle.kind.specs.Kind.{eq_kind}
use Rattle.kind.specs.Rule.{Signature, signatures, of_logic, ruled_by, rule_of}
use Rattle.kind.specs.Set.{has, single_of, union_of, within_of}
use Rattle.kind.specs.Choice.{node_kinds}
use Rattle.kind.specs.declared.kind.Kind.{Kind}
use Rattle.kind.specs.declared.kind.Kind.TheVariants.{Boolean}
use Rattle.kind.specs.declared.operation.Logic.TheVariants.{And, Or}
use Rattle.kind.specs.declared.operation.Operation.{Operation}
use Rattle.kind.specs.declared.operation.Operation.TheVariants as op
use Rattle.kind.specs.declared.set.Kinds.{Kinds}
use Rattle.kind.proofs.Choosing as choosing
use Rattle.kind.proofs.Choosing.{Among, refuses}
use Rattle.kind.proofs.Law.Sets.{has-single, in-single, in_left, in_right, within}
use Rattle.value.specs.Value.{kind_of, truth}
use Rattle.value.specs.Meaning.{meaning}
use Rattle.value.specs.Name.{function_at, pick_at}
use Rattle.value.specs.declared.value.Span.{Span}
use Rattle.value.specs.declared.value.Value.{Value}
use Rattle.value.specs.declared.value.Value.TheVariants as value
use Rattle.value.proofs.Kinded.{ruled, kinded}
use Rattle.tree.specs.Tree.{Tree, literal, variable, unary, binary, conditional, bare, call, pick, Arguments, last, next}
use Rattle.checker.specs.Operator.{prefix_at, infix_at}
use Rattle.checker.specs.Kinds.{wrong_at, after, gathered, placed, operated, node_of, conditional_of}
use Rattle.checker.specs.Kinds.{literal_kind, kinds_of, kinds_of_all, taken_by, result_of}
use Rattle.checker.specs.Check.{answer_of}
use Rattle.checker.specs.declared.check.Wanted.{Wanted}
use Rattle.evaluator.specs.Eval.{value_in, some_fault, applied, branch_of, boolean_of, or_of, and_of, need_of, binary_by, binary_of, Context, eval_of, eval_of_all}
use Rattle.evaluator.specs.Demand.{Conforms, Variables, VariablesOf, is_refused, fails}
use Rattle.evaluator.specs.declared.need.Need.{Need}
use Rattle.evaluator.proofs.Law.Outcomes.{Told, is-or, is-and, is-other, told}
use Rattle.lexer.specs.declared.refusal.Refusal.{Refusal}

-- ---- a verdict and an outcome go together

-- what is accepted conforms to its set
abbrev pub Sound : Result Kinds Refusal → Option Value → Type 0
Sound (Err p) o = Unit {0}
Sound (Ok s) o = Conforms s o

abbrev Sounds : List (Result Kinds Refusal) → List (Option Value) → Type 0
Sounds [] [] = Unit {0}
Sounds [] (o ∷ os) = ⊥
Sounds (a ∷ bs) [] = ⊥
Sounds (a ∷ bs) (o ∷ os) = Sound a o × Sounds bs os

-- parts that are all accepted meet no fault, and the kinds of their values are a choice from their sets
abbrev SoundParts : Judged (List Kinds) → List (Option Value) → Type 0
SoundParts (refused p) os = Unit {0}
SoundParts (fine ss) os = (some_fault os ≡ false) × Among ss (map kind_of (map value_in os))

widened : (s t : Kinds) (o : Option Value) → ((k : Kind) → T (has s k) → T (has t k)) → Conforms s o → Conforms t o
widened s t None w h = h
widened s t (Some v) w h = w (kind_of v) h

-- ---- a node whose parts are sound

not-refused : (s : Kinds) → Some s ≡ None → ⊥
not-refused s e = subst accepts e tt
  where
    accepts : Option Kinds → Type 0
    accepts None = ⊥
    accepts (Some s) = Unit {0}

after-sound : (s : Kinds) (v : Value) (ps : Judged (List Kinds)) (os : List (Option Value)) → T (has s (kind_of v)) → SoundParts ps os → SoundParts (after s ps) (Some v ∷ os)
after-sound s v (refused p) os h hs = tt
after-sound s v (fine ss) os h hs = (hs.0, (h, hs.1))

gathered-sound : (bs : List (Result Kinds Refusal)) (os : List (Option Value)) → Sounds bs os → SoundParts (gathered bs) os
gathered-sound [] [] h = (refl, tt)
gathered-sound [] (o ∷ os) h = absurd h
gathered-sound (a ∷ bs) [] h = absurd h
gathered-sound (Err p ∷ bs) (o ∷ os) h = tt
gathered-sound (Ok s ∷ bs) (None ∷ os) h = absurd h.0
gathered-sound (Ok s ∷ bs) (Some v ∷ os) h = after-sound s v (gathered bs) os h.0 (gathered-sound bs os h.1)

-- the values' kinds are a choice: if it faulted the node would be refused, so it gives the value's kind, which the node's set has
operated-sound : (text : Span → List ℕ) (p : ℕ) (found : Option Operation) (ps : Judged (List Kinds)) (os : List (Option Value)) → SoundParts ps os →
    Sound (operated p found ps) (applied text found os)
operated-sound text p found (refused q) os h = tt
operated-sound text p None (fine ss) os h = tt
operated-sound text p (Some o) (fine ss) os h = rw h.0 (go (node_kinds o ss) refl (meaning text o vs) (kinded text o vs))
  where
    vs : List Value
    vs = map value_in os

    go : (c : Option Kinds) → node_kinds o ss ≡ c → (w : Option Value) → ruled w ≡ rule_of o (map kind_of vs) → Sound (placed p c) w
    go None e w f = tt
    go (Some s) e None f = not-refused s (sym e ∙ refuses o ss (map kind_of vs) h.1 (sym f))
    go (Some s) e (Some v) f = (choosing.accepted o ss s e (kind_of v)).1 (map kind_of vs) h.1 (sym f)

node-sound : (text : Span → List ℕ) (p : ℕ) (found : Option Operation) (bs : List (Result Kinds Refusal)) (os : List (Option Value)) → Sounds bs os →
    Sound (node_of p found bs) (applied text found os)
node-sound text p found bs os h = operated-sound text p found (gathered bs) os (gathered-sound bs os h)

-- ---- a test, which has to be a Boolean

branch-sound : (s : Kinds) (o a b : Option Value) → Conforms (single_of Boolean) o → Conforms s a → Conforms s b → Conforms s (branch_of o a b)
branch-sound s None a b h ha hb = h
branch-sound s (Some v) a b h ha hb = rw (is_true (eq_kind Boolean (kind_of v)) (subst T (has-single Boolean (kind_of v)) h)) (go (truth v))
  where
    go : (x : Bool) → Conforms s (cond x a b)
    go true = ha
    go false = hb

conditional-sound : (p : ℕ) (c a b : Result Kinds Refusal) (o x y : Option Value) → Sound c o → Sound a x → Sound b y → Sound (conditional_of p c a b) (branch_of o x y)
conditional-sound p (Err q) a b o x y h hx hy = tt
conditional-sound p (Ok t) (Err q) b o x y h hx hy = tt
conditional-sound p (Ok t) (Ok a) (Err q) o x y h hx hy = tt
conditional-sound p (Ok t) (Ok a) (Ok b) o x y h hx hy = go (within_of t (single_of Boolean)) refl
  where
    go : (w : Bool) → within_of t (single_of Boolean) ≡ w → Sound (cond w (Ok (union_of a b)) (wrong_at p)) (branch_of o x y)
    go false e = tt
    go true e =
        branch-sound (union_of a b) o x y (widened t (single_of Boolean) o (λ k. within t (single_of Boolean) k (subst T (sym e) tt)) h)
        (widened a (union_of a b) x (in_left a b) hx) (widened b (union_of a b) y (in_right a b) hy)

-- ---- `&&` and `||`

-- an accepted node that takes two Booleans alone has no other kinds in its parts' sets, and gives a Boolean
booleans : (o : Operation) → signatures o ≡ of_logic And → (s t u : Kinds) → node_kinds o (s ∷ t ∷ []) ≡ Some u →
    (k l : Kind) → T (has s k) → T (has t l) → T (has (single_of Boolean) k) × T (has (single_of Boolean) l) × T (has u Boolean)
unfolding rule_of
booleans o g s t u e k l hk hl = go (eq_kind Boolean l && eq_kind Boolean k) refl
  where
    given : (b : Bool) → (eq_kind Boolean l && eq_kind Boolean k) ≡ b → rule_of o (k ∷ l ∷ []) ≡ elim b [ true ↦ Some Boolean | false ↦ None ]
    given b q = ap (λ (gs : List Signature). ruled_by gs (k ∷ l ∷ [])) g ∙ ap (λ (b : Bool). elim b [ true ↦ Some Boolean | false ↦ None ]) q

    single : (j : Kind) → T (eq_kind Boolean j) → T (has (single_of Boolean) j)
    single j h = subst T (sym (has-single Boolean j)) h

    go : (b : Bool) → (eq_kind Boolean l && eq_kind Boolean k) ≡ b → T (has (single_of Boolean) k) × T (has (single_of Boolean) l) × T (has u Boolean)
    go true q =
        let h = subst T (sym q) tt in (
          single k (and_r (eq_kind Boolean l) (eq_kind Boolean k) h),
          single l (and_l (eq_kind Boolean l) (eq_kind Boolean k) h),
          (choosing.accepted o (s ∷ t ∷ []) u e Boolean).1 (k ∷ l ∷ []) (hk, (hl, tt)) (given true q),
        )
    go false q = absurd (not-refused u (sym e ∙ refuses o (s ∷ t ∷ []) (k ∷ l ∷ []) (hk, (hl, tt)) (given false q)))

-- so its value is sound if it conforms wherever both parts are Booleans
logic-sound : (o : Operation) → signatures o ≡ of_logic And → (both : Option Value → Option Value → (Option Value)) →
    ((u : Kinds) (l r : Option Value) → T (has u Boolean) → Conforms (single_of Boolean) l → Conforms (single_of Boolean) r → Conforms u (both l r)) →
    (p : ℕ) (a b : Result Kinds Refusal) (l r : Option Value) → Sound a l → Sound b r → Sound (node_of p (Some o) (a ∷ b ∷ [])) (both l r)
logic-sound o g both f p (Err q) b l r hl hr = tt
logic-sound o g both f p (Ok s) (Err q) l r hl hr = tt
logic-sound o g both f p (Ok s) (Ok t) None r hl hr = absurd hl
logic-sound o g both f p (Ok s) (Ok t) (Some v) None hl hr = absurd hr
logic-sound o g both f p (Ok s) (Ok t) (Some v) (Some w) hl hr = go (node_kinds o (s ∷ t ∷ [])) refl
  where
    go : (c : Option Kinds) → node_kinds o (s ∷ t ∷ []) ≡ c → Sound (placed p c) (both (Some v) (Some w))
    go None e = tt
    go (Some u) e =
        let h = booleans o g s t u e (kind_of v) (kind_of w) hl hr in
        f u (Some v) (Some w) h.2 h.0 h.1

-- `||` and `&&` do, whether or not they come to their right side
or_sound : (u : Kinds) (l r : Option Value) → T (has u Boolean) → Conforms (single_of Boolean) l → Conforms (single_of Boolean) r → Conforms u (or_of l r)
or_sound u l r h hl hr = branch-sound u l (Some (value.Boolean true)) (boolean_of r) hl h (branch-sound u r _ _ hr h h)

and_sound : (u : Kinds) (l r : Option Value) → T (has u Boolean) → Conforms (single_of Boolean) l → Conforms (single_of Boolean) r → Conforms u (and_of l r)
and_sound u l r h hl hr = branch-sound u l (boolean_of r) (Some (value.Boolean false)) hl (branch-sound u r _ _ hr h h) h

-- an operator by what it needs
binary-sound : (text : Span → List ℕ) (p : ℕ) (found : Option Operation) (a b : Result Kinds Refusal) (l r : Option Value) → Sound a l → Sound b r →
    Sound (node_of p found (a ∷ b ∷ [])) (binary_of text found l r)
binary-sound text p found a b l r hl hr = go found (need_of found) (told found)
  where
    go : (found : Option Operation) (n : Need) → Told found n → Sound (node_of p found (a ∷ b ∷ [])) (binary_by n text found l r)
    go _ _ is-or = logic-sound (op.Logic Or) refl or_of or_sound p a b l r hl hr
    go _ _ is-and = logic-sound (op.Logic And) refl and_of and_sound p a b l r hl hr
    go _ _ (is-other found) = node-sound text p found (a ∷ b ∷ []) (l ∷ r ∷ []) (hl, (hr, tt))

-- ---- an expression

module _ (c : Context) (look : ℕ → ℕ → Kinds) (literals : (p k : ℕ) → kind_of (c.literals p k) ≡ literal_kind k) where
  mutual
    unfolding kinds_of eval_of Variables

    pub sound : (e : Tree) → Variables (λ p n. Conforms (look p n) (c.variables p n)) e → Sound (kinds_of look e) (eval_of c e)
    sound (literal p k) h = subst (λ (j : Kind). T (has (single_of (literal_kind k)) j)) (sym (literals p k)) (in-single (literal_kind k))
    sound (variable p n) h = h
    sound (unary p o e) h = node-sound c.text p (prefix_at o) (kinds_of look e ∷ []) (eval_of c e ∷ []) (sound e h, tt)
    sound (binary p o l r) h = binary-sound c.text p (infix_at o) (kinds_of look l) (kinds_of look r) (eval_of c l) (eval_of c r) (sound l h.0) (sound r h.1)
    sound (conditional p q t a b) h =
        conditional-sound p (kinds_of look t) (kinds_of look a) (kinds_of look b) (eval_of c t) (eval_of c a) (eval_of c b)
        (sound t h.0) (sound a h.1) (sound b h.2)
    sound (bare p f) h = node-sound c.text p (function_at f) [] [] tt
    sound (call p f xs) h = node-sound c.text p (function_at f) (kinds_of_all look xs) (eval_of_all c xs) (sounds xs h)
    sound (pick p i e) h = node-sound c.text p (pick_at i) (kinds_of look e ∷ []) (eval_of c e ∷ []) (sound e h, tt)

    sounds : (xs : Arguments) → VariablesOf (λ p n. Conforms (look p n) (c.variables p n)) xs → Sounds (kinds_of_all look xs) (eval_of_all c xs)
    sounds (last e) h = (sound e h, tt)
    sounds (next e q xs) h = (sound e h.0, sounds xs h.1)

-- ---- its result

-- what is accepted conforms to what is wanted too
abbrev SoundResult : Wanted → Result Kinds Refusal → Option Value → Type 0
SoundResult want (Err p) o = Unit {0}
SoundResult want (Ok s) o = Conforms s o × Conforms (taken_by want) o

result-sound : (want : Wanted) (end : ℕ) (a : Result Kinds Refusal) (o : Option Value) → Sound a o → SoundResult want (result_of want end a) o
result-sound want end (Err p) o h = tt
result-sound want end (Ok s) o h = go (within_of s (taken_by want)) refl
  where
    go : (w : Bool) → within_of s (taken_by want) ≡ w → SoundResult want (cond w (Ok s) (wrong_at end)) o
    go true e = (h, widened s (taken_by want) o (λ k. within s (taken_by want) k (subst T (sym e) tt)) h)
    go false e = tt

-- ---- the theorems

module _ (c : Context) (look : ℕ → ℕ → Kinds) (literals : (p k : ℕ) → kind_of (c.literals p k) ≡ literal_kind k) (e : Tree)
    (variables : Variables (λ p n. Conforms (look p n) (c.variables p n)) e) where
  -- what is accepted comes to a value of its set
  pub accepted : (s : Kinds) → kinds_of look e ≡ Ok s → (v : Value) × (eval_of c e ≡ Some v) × T (has s (kind_of v))
  accepted s a = go (eval_of c e) refl (subst (λ (d : Result Kinds Refusal). Sound d (eval_of c e)) a (sound c look literals e variables))
    where
      go : (o : Option Value) → eval_of c e ≡ o → Conforms s o → (v : Value) × (eval_of c e ≡ Some v) × T (has s (kind_of v))
      go None f h = absurd h
      go (Some v) f h = (v, f, h)

  module _ (want : Wanted) (end : ℕ) where
    result : SoundResult want (result_of want end (kinds_of look e)) (eval_of c e)
    result = result-sound want end (kinds_of look e) (eval_of c e) (sound c look literals e variables)

    -- and with what is wanted, to a value of a kind that is taken
    pub accepted-result : (s : Kinds) → answer_of (result_of want end (kinds_of look e)) ≡ fine s →
        (v : Value) × (eval_of c e ≡ Some v) × T (has s (kind_of v)) × T (has (taken_by want) (kind_of v))
    accepted-result s a = go (eval_of c e) refl (subst (λ (j : Judged Kinds). SoundAnswer j (eval_of c e)) a (answer (result_of want end (kinds_of look e)) (eval_of c e) result))
      where
        SoundAnswer : Judged Kinds → Option Value → Type 0
        SoundAnswer (refused r) o = Unit {0}
        SoundAnswer (fine s) o = Conforms s o × Conforms (taken_by want) o

        answer : (a : Result Kinds Refusal) (o : Option Value) → SoundResult want a o → SoundAnswer (answer_of a) o
        answer (Err r) o h = tt
        answer (Ok s) o h = h

        go : (o : Option Value) → eval_of c e ≡ o → Conforms s o × Conforms (taken_by want) o →
            (v : Value) × (eval_of c e ≡ Some v) × T (has s (kind_of v)) × T (has (taken_by want) (kind_of v))
        go None f h = absurd h.0
        go (Some v) f h = (v, f, h.0, h.1)

    -- in short: what is not refused does not fail
    pub never-fails : is_refused (answer_of (result_of want end (kinds_of look e))) ≡ false → fails want (eval_of c e) ≡ false
    never-fails n = go (result_of want end (kinds_of look e)) (eval_of c e) result n
      where
        go : (a : Result Kinds Refusal) (o : Option Value) → SoundResult want a o → is_refused (answer_of a) ≡ false → fails want o ≡ false
        go (Err p) o h n = absurd (true≢false n)
        go (Ok s) None h n = absurd h.0
        go (Ok s) (Some v) h n = rw (is_true (has (taken_by want) (kind_of v)) h.1)
