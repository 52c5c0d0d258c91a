-- An expression without conditional, `&&` or `||` is refused exactly if it fails at some values that its properties may have. It fails at the worst of them: a
-- property absent where it may be, else null where it may be.
use Rattle.std.specs.Prelude.{Option, Some, None, Result, Ok, Err}
use mathlib.Core.Path.{◌≡◌, refl, sym, ◌∙◌, ap, subst}
use mathlib.Core.Bool.{Bool, true, false, cond, ◌&&◌, ◌||◌, true≢false}
use mathlib.Core.List.{List, [], ◌∷◌, map}
use mathlib.Core.Logic.{◌⊎◌, inl, inr, ⊎_elim, ◌↔◌}
use Prim.Native.Nat.{ℕ, suc}
use lib.Dec.{T, not_T}
use lib.Ieee.Bits.{is_true}
use lib.Ieee.Fits.{and_l, and_r}
use lib.ListN.{length}
use Rattle.number.specs.Arithmetic.{nought}
use Rattle.lexer.specs.Refusal.{Judged, fine}
use Rattle.lexer.specs.Refusal as judged
use Rattle.kind.specs.Kind.{eq_kind}
use Rattle.kind.specs.Rule.{rule_of}
use Rattle.kind.specs.Set.{has, set_of, single_of, union_of, within_of}
use Rattle.kind.specs.Choice.{node_kinds}
use Rattle.kind.specs.declared.kind.Kind.{Kind}
use Rattle.kind.specs.declared.kind.Kind.TheVariants as kind
use Rattle.kind.specs.declared.operation.Operation.{Operation}
use Rattle.kind.specs.declared.set.Kinds.{Kinds}
use Rattle.kind.proofs.Choosing.{Among, refused, accepted}
use Rattle.kind.proofs.Lacking.{lacks, lacking}
use Rattle.kind.proofs.Law.Choices.{or_l, or_r, or_elim, has-set}
use Rattle.kind.proofs.Law.Sets.{has-union, in-single, single-is, in_left, in_right, is_within}
use Rattle.value.specs.Value.{kind_of, nowhere}
use Rattle.value.specs.Meaning.{meaning}
use Rattle.value.specs.Name.{function_at, pick_at}
use Rattle.value.specs.declared.value.Span.{Span}
use Rattle.value.specs.declared.value.Value.{Value}
use Rattle.value.specs.declared.value.Value.TheVariants.{Undefined, Null, Boolean, Number, String, Vec2, Vec3, Vec4}
use Rattle.value.proofs.Kinded.{ruled, kinded}
use Rattle.tree.specs.Tree.{Tree, literal, variable, unary, binary, conditional, bare, call, pick, Arguments, last, next}
use Rattle.checker.specs.Operator.{prefix_at, infix_at}
use Rattle.checker.specs.Property.{Property, undeclared, declared, only_if, property_kinds}
use Rattle.checker.specs.Kinds.{literal_kind, wrong_at, after, gathered, placed, operated, node_of, kinds_of, kinds_of_all, taken_by, result_of}
use Rattle.checker.specs.Check.{answer_of}
use Rattle.checker.specs.declared.check.Wanted.{Wanted}
use Rattle.checker.specs.declared.check.Wanted.TheVariants as wanted
use Rattle.evaluator.specs.Eval.{is_fault, value_in, some_fault, applied, need_of, Context, eval_of, eval_of_all}
use Rattle.evaluator.specs.Demand.{Allowed, Worst, Variables, VariablesOf, needs_both, plain, plain_all, is_refused, fails}
use Rattle.evaluator.proofs.Law.Outcomes.{both-needed}
use Rattle.evaluator.proofs.Law.Variables.{both-variables, each-variable}
use Rattle.evaluator.proofs.Sound.{never-fails}
use Rattle.lexer.specs.declared.refusal.Refusal.{Refusal}

-- ---- the worst values

-- a kind lacks if it is Undefined or Null
abbrev lacks_one : Kind → Bool
lacks_one k = eq_kind k kind.Undefined || eq_kind k kind.Null

-- a low value of a set lacks, or else its kind is the only one of the set
abbrev pub Low : Kinds → Value → Type 0
Low s v = T (lacks_one (kind_of v)) ⊎ ((k : Kind) → T (has s k) → k ≡ kind_of v)

lacks-low : {s : Kinds} (v w : Value) → T (lacks_one (kind_of w)) → v ≡ w → Low s v
lacks-low v w h e = inl (subst (λ (v : Value). T (lacks_one (kind_of v))) (sym e) h)

pub worst-low : (p : Property) (v : Value) → Worst p v → Low (property_kinds p) v
worst-low undeclared v e = lacks-low v Undefined tt e
worst-low (declared t true n) v e = lacks-low v Undefined tt e
worst-low (declared t false true) v e = lacks-low v Null tt e
worst-low (declared t false false) v e = inr (λ k h. sym (only k h) ∙ sym e)
  where
    none : Kinds
    none = set_of (λ k. false)

    no_kind : (k : Kind) → T (has none k) → ⊥
    no_kind k h = subst T (has-set (λ k. false) k) h

    only : (k : Kind) → T (has (union_of (single_of t) (union_of none none)) k) → t ≡ k
    only k h =
        or_elim (has (single_of t) k) (has (union_of none none) k) (subst T (has-union (single_of t) (union_of none none) k) h) (single-is t k)
        (λ x. absurd (or_elim (has none k) (has none k) (subst T (has-union none none k) x) (no_kind k) (no_kind k)))

-- the worst value is one that the property may have
pub worst-allowed : (p : Property) (v : Value) → Worst p v → Allowed p v
worst-allowed undeclared v e = subst (Allowed undeclared) (sym e) (in-single kind.Undefined)
worst-allowed (declared t true n) v e =
    subst (Allowed (declared t true n)) (sym e)
    (in_right (single_of t) (union_of (single_of kind.Undefined) (only_if n kind.Null)) kind.Undefined
    (in_left (single_of kind.Undefined) (only_if n kind.Null) kind.Undefined (in-single kind.Undefined)))
worst-allowed (declared t false true) v e =
    subst (Allowed (declared t false true)) (sym e)
    (in_right (single_of t) (union_of (set_of (λ k. false)) (single_of kind.Null)) kind.Null
    (in_right (set_of (λ k. false)) (single_of kind.Null) kind.Null (in-single kind.Null)))
worst-allowed (declared t false false) v e =
    in_left (single_of t) (union_of (set_of (λ k. false)) (set_of (λ k. false))) (kind_of v) (subst (λ (k : Kind). T (has (single_of t) k)) (sym e) (in-single t))

-- ---- a verdict and an outcome go together

-- what is refused faults, and what is accepted faults too or comes to a low value
abbrev pub Falls : Result Kinds Refusal → Option Value → Type 0
Falls (Err p) o = o ≡ None
Falls (Ok s) None = Unit {0}
Falls (Ok s) (Some v) = Low s v

abbrev AllFall : List (Result Kinds Refusal) → List (Option Value) → Type 0
AllFall [] [] = Unit {0}
AllFall [] (o ∷ os) = ⊥
AllFall (a ∷ bs) [] = ⊥
AllFall (a ∷ bs) (o ∷ os) = Falls a o × AllFall bs os

abbrev Lows : List Kinds → List Value → Type 0
Lows [] [] = Unit {0}
Lows [] (v ∷ vs) = ⊥
Lows (s ∷ ss) [] = ⊥
Lows (s ∷ ss) (v ∷ vs) = Low s v × Lows ss vs

-- parts that are all accepted come to low values, unless one of them faults
abbrev PartsFall : Judged (List Kinds) → List (Option Value) → Type 0
PartsFall (judged.refused p) os = T (some_fault os)
PartsFall (fine ss) os = some_fault os ≡ false → Lows ss (map value_in os)

-- ---- a choice of kinds beside low values

-- they are as many
as_many : (ss : List Kinds) (vs : List Value) (ks : List Kind) → Lows ss vs → Among ss ks → length ks ≡ length (map kind_of vs)
as_many [] [] [] l m = refl
as_many [] [] (k ∷ ks) l m = absurd m
as_many [] (v ∷ vs) ks l m = absurd l
as_many (s ∷ ss) [] ks l m = absurd l
as_many (s ∷ ss) (v ∷ vs) [] l m = absurd m
as_many (s ∷ ss) (v ∷ vs) (k ∷ ks) l m = ap suc (as_many ss vs ks l.1 m.1)

-- a value lacks, or the choice is the values' own kinds
own-choice : (ss : List Kinds) (vs : List Value) (ks : List Kind) → Lows ss vs → Among ss ks → T (lacks (map kind_of vs)) ⊎ (ks ≡ map kind_of vs)
own-choice [] [] [] l m = inr refl
own-choice [] [] (k ∷ ks) l m = absurd m
own-choice [] (v ∷ vs) ks l m = absurd l
own-choice (s ∷ ss) [] ks l m = absurd l
own-choice (s ∷ ss) (v ∷ vs) [] l m = absurd m
own-choice (s ∷ ss) (v ∷ vs) (k ∷ ks) l m = go l.0 (own-choice ss vs ks l.1 m.1)
  where
    go : Low s v → T (lacks (map kind_of vs)) ⊎ (ks ≡ map kind_of vs) → T (lacks (kind_of v ∷ map kind_of vs)) ⊎ (k ∷ ks ≡ kind_of v ∷ map kind_of vs)
    go (inl h) t = inl (or_l (lacks_one (kind_of v)) (lacks (map kind_of vs)) h)
    go (inr f) (inl h) = inl (or_r (lacks_one (kind_of v)) (lacks (map kind_of vs)) h)
    go (inr f) (inr e) = inr (λ i. f k m.0 i ∷ e i)

-- so the values' kinds fault, or the choice comes to what they come to
settled : (o : Operation) (ss : List Kinds) (vs : List Value) (ks : List Kind) → Lows ss vs → Among ss ks →
    (rule_of o (map kind_of vs) ≡ None) ⊎ (rule_of o ks ≡ rule_of o (map kind_of vs))
settled o ss vs ks l m = ⊎_elim (lacking o ks (map kind_of vs) (as_many ss vs ks l m)) (λ e. inr (ap (rule_of o) e)) (own-choice ss vs ks l m)

-- ---- a node

-- the kind that a rule gives
abbrev given_kind : Kind → Option Kind → Kind
given_kind d None = d
given_kind d (Some k) = k

abbrev Given : Option Kind → Type 0
Given None = ⊥
Given (Some k) = Unit {0}

is-fault : (o : Option Value) → ruled o ≡ None → o ≡ None
is-fault None e = refl
is-fault (Some v) e = absurd (subst Given e tt)

fault-falls : (p : ℕ) (c : Option Kinds) → Falls (placed p c) None
fault-falls p None = refl
fault-falls p (Some s) = tt

-- a refused node has a choice that faults, and the values fault with it; the set of an accepted one has only the kind that they give
node-falls : (text : Span → List ℕ) (p : ℕ) (o : Operation) (ss : List Kinds) (vs : List Value) → Lows ss vs →
    Falls (placed p (node_kinds o ss)) (meaning text o vs)
node-falls text p o ss vs l = go (node_kinds o ss) refl (meaning text o vs) (kinded text o vs)
  where
    go : (c : Option Kinds) → node_kinds o ss ≡ c → (w : Option Value) → ruled w ≡ rule_of o (map kind_of vs) → Falls (placed p c) w
    go None e w f =
        let c = refused o ss e in
        is-fault w (f ∙ ⊎_elim (λ x. x) (λ g. sym g ∙ c.2) (settled o ss vs c.0 l c.1))
    go (Some s) e None f = tt
    go (Some s) e (Some v) f =
        inr (λ k h. let c = (accepted o ss s e k).0 h in
        ⊎_elim (λ x. absurd (subst Given (f ∙ x) tt)) (λ g. ap (given_kind k) (sym c.2 ∙ g ∙ sym f)) (settled o ss vs c.0 l c.1))

operated-falls : (text : Span → List ℕ) (p : ℕ) (found : Option Operation) (ps : Judged (List Kinds)) (os : List (Option Value)) → PartsFall ps os →
    Falls (operated p found ps) (applied text found os)
operated-falls text p None (judged.refused q) os h = refl
operated-falls text p (Some o) (judged.refused q) os h = rw (is_true (some_fault os) h)
operated-falls text p None (fine ss) os h = refl
operated-falls text p (Some o) (fine ss) os h = go (some_fault os) refl
  where
    go : (b : Bool) → some_fault os ≡ b → Falls (placed p (node_kinds o ss)) (cond b None (meaning text o (map value_in os)))
    go true e = fault-falls p (node_kinds o ss)
    go false e = node-falls text p o ss (map value_in os) (h e)

after-falls : (s : Kinds) (ps : Judged (List Kinds)) (o : Option Value) (os : List (Option Value)) → Falls (Ok s) o → PartsFall ps os → PartsFall (after s ps) (o ∷ os)
after-falls s (judged.refused p) o os h hs = or_r (is_fault o) (some_fault os) hs
after-falls s (fine ss) None os h hs = λ e. absurd (true≢false e)
after-falls s (fine ss) (Some v) os h hs = λ e. (h, hs e)

gathered-falls : (bs : List (Result Kinds Refusal)) (os : List (Option Value)) → AllFall bs os → PartsFall (gathered bs) os
gathered-falls [] [] h = λ e. tt
gathered-falls [] (o ∷ os) h = absurd h
gathered-falls (a ∷ bs) [] h = absurd h
gathered-falls (Err p ∷ bs) (o ∷ os) h = subst (λ (o : Option Value). T (is_fault o || some_fault os)) (sym h.0) tt
gathered-falls (Ok s ∷ bs) (o ∷ os) h = after-falls s (gathered bs) o os h.0 (gathered-falls bs os h.1)

parts-fall : (text : Span → List ℕ) (p : ℕ) (found : Option Operation) (bs : List (Result Kinds Refusal)) (os : List (Option Value)) → AllFall bs os →
    Falls (node_of p found bs) (applied text found os)
parts-fall text p found bs os h = operated-falls text p found (gathered bs) os (gathered-falls bs os h)

-- ---- an expression

module _ (c : Context) (look : ℕ → ℕ → Kinds) (literals : (p k : ℕ) → kind_of (c.literals p k) ≡ literal_kind k) where
  mutual
    unfolding kinds_of eval_of Variables

    pub falls : (e : Tree) → T (plain e) → Variables (λ p n. Falls (Ok (look p n)) (c.variables p n)) e → Falls (kinds_of look e) (eval_of c e)
    falls (literal p k) t h = inr (λ j m. sym (single-is (literal_kind k) j m) ∙ sym (literals p k))
    falls (variable p n) t h = h
    falls (unary p o e) t h = parts-fall c.text p (prefix_at o) (kinds_of look e ∷ []) (eval_of c e ∷ []) (falls e t h, tt)
    falls (binary p o l r) t h =
        let need = need_of (infix_at o) in
        let sides = and_r (needs_both need) (plain l && plain r) t in
        rw (both-needed c.text (infix_at o) need (eval_of c l) (eval_of c r) (and_l (needs_both need) (plain l && plain r) t))
        (parts-fall c.text p (infix_at o) (kinds_of look l ∷ kinds_of look r ∷ []) (eval_of c l ∷ eval_of c r ∷ [])
        (falls l (and_l (plain l) (plain r) sides) h.0, (falls r (and_r (plain l) (plain r) sides) h.1, tt)))
    falls (conditional p q a b d) t h = absurd t
    falls (bare p f) t h = parts-fall c.text p (function_at f) [] [] tt
    falls (call p f xs) t h = parts-fall c.text p (function_at f) (kinds_of_all look xs) (eval_of_all c xs) (all-fall xs t h)
    falls (pick p i e) t h = parts-fall c.text p (pick_at i) (kinds_of look e ∷ []) (eval_of c e ∷ []) (falls e t h, tt)

    all-fall : (xs : Arguments) → T (plain_all xs) → VariablesOf (λ p n. Falls (Ok (look p n)) (c.variables p n)) xs →
        AllFall (kinds_of_all look xs) (eval_of_all c xs)
    all-fall (last e) t h = (falls e t h, tt)
    all-fall (next e q xs) t h = (falls e (and_l (plain e) (plain_all xs) t) h.0, all-fall xs (and_r (plain e) (plain_all xs) t) h.1)

-- ---- its result

-- where one kind is taken, a value that lacks is taken only if that kind does
taken-lacks : (k : Kind) (v : Value) → T (has (single_of k) (kind_of v)) → T (lacks_one (kind_of v)) → T (lacks_one k)
taken-lacks k v h x = subst (λ (k : Kind). T (lacks_one k)) (sym (single-is k (kind_of v) h)) x

-- if a low value is taken, so is its whole set
low-within : (want : Wanted) (s : Kinds) (v : Value) → Low s v → T (has (taken_by want) (kind_of v)) → T (within_of s (taken_by want))
low-within want s v (inr f) h = is_within s (taken_by want) (λ k m. subst (λ (j : Kind). T (has (taken_by want) j)) (sym (f k m)) h)
low-within wanted.Any s v (inl x) h = is_within s (set_of (λ k. true)) (λ k m. subst T (sym (has-set (λ k. true) k)) tt)
low-within wanted.Boolean s v (inl x) h = absurd (taken-lacks kind.Boolean v h x)
low-within wanted.Vec4 s v (inl x) h = absurd (taken-lacks kind.Vec4 v h x)

pub result-fails : (want : Wanted) (end : ℕ) (a : Result Kinds Refusal) (o : Option Value) → Falls a o → T (is_refused (answer_of (result_of want end a))) → T (fails want o)
result-fails want end (Err p) o h r = subst (λ (o : Option Value). T (fails want o)) (sym h) tt
result-fails want end (Ok s) None h r = tt
result-fails want end (Ok s) (Some v) h r = not_T (has (taken_by want) (kind_of v)) (λ m. go (within_of s (taken_by want)) (low-within want s v h m) r)
  where
    go : (w : Bool) → T w → T (is_refused (answer_of (cond w (Ok s) (wrong_at end)))) → ⊥
    go true h r = r
    go false h r = h

-- ---- the theorems

-- some value of each kind
abbrev sample : Kind → Value
sample kind.Undefined = Undefined
sample kind.Null = Null
sample kind.Boolean = Boolean true
sample kind.Number = Number nought
sample kind.String = String nowhere
sample kind.Vec2 = Vec2 nought nought
sample kind.Vec3 = Vec3 nought nought nought
sample kind.Vec4 = Vec4 nought nought nought nought

sample-kind : (k : Kind) → kind_of (sample k) ≡ k
sample-kind kind.Undefined = refl
sample-kind kind.Null = refl
sample-kind kind.Boolean = refl
sample-kind kind.Number = refl
sample-kind kind.String = refl
sample-kind kind.Vec2 = refl
sample-kind kind.Vec3 = refl
sample-kind kind.Vec4 = refl

-- one of the worst values of each property
some-worst : (p : Property) → (v : Value) × Worst p v
some-worst undeclared = (Undefined, refl)
some-worst (declared t true n) = (Undefined, refl)
some-worst (declared t false true) = (Null, refl)
some-worst (declared t false false) = (sample t, sample-kind t)

module _ {N : Type 0} (name : ℕ → ℕ → N) (properties : N → Property) (text : Span → List ℕ) (literals : ℕ → ℕ → Value)
    (kinds : (p k : ℕ) → kind_of (literals p k) ≡ literal_kind k) (look : ℕ → ℕ → Kinds) (e : Tree) (t : T (plain e))
    (looked : Variables (λ p n. look p n ≡ property_kinds (properties (name p n))) e) (want : Wanted) (end : ℕ) where
  -- each name with a value
  abbrev with_values : (N → Value) → Context
  with_values values = record { text = text; literals = literals; variables = λ p n. Some (values (name p n)) }

  -- a refused expression fails at any values that are worst for its own variables
  pub worst-fails : (values : N → Value) → Variables (λ p n. Worst (properties (name p n)) (values (name p n))) e → T (is_refused (answer_of (result_of want end (kinds_of look e)))) →
      T (fails want (eval_of (with_values values) e))
  worst-fails values worst =
      result-fails want end (kinds_of look e) (eval_of (with_values values) e)
      (falls (with_values values) look kinds e t
      (both-variables (λ p n s w. subst (λ (s : Kinds). Low s (values (name p n))) (sym s) (worst-low (properties (name p n)) (values (name p n)) w)) e looked worst))

  -- so it is refused exactly if it fails at some values that the properties may have
  pub exactly : T (is_refused (answer_of (result_of want end (kinds_of look e))))
      ↔ ((values : N → Value) × ((x : N) → Allowed (properties x) (values x)) × T (fails want (eval_of (with_values values) e)))
  exactly = (
    (λ r. ((λ x. (worst x).0), (λ x. worst-allowed (properties x) (worst x).0 (worst x).1), worst-fails (λ x. (worst x).0) (each-variable (λ p n s. (worst (name p n)).1) e looked) r)),
    (λ w. go w.0 w.1 w.2 (is_refused (answer_of (result_of want end (kinds_of look e)))) refl),
  )
    where
      worst : (x : N) → (v : Value) × Worst (properties x) v
      worst x = some-worst (properties x)

      go : (values : N → Value) → ((x : N) → Allowed (properties x) (values x)) → T (fails want (eval_of (with_values values) e)) →
          (b : Bool) → is_refused (answer_of (result_of want end (kinds_of look e))) ≡ b → T b
      go values allowed f true r = tt
      go values allowed f false r =
          subst T (never-fails (with_values values) look kinds e
          (each-variable (λ p n s. subst (λ (s : Kinds). T (has s (kind_of (values (name p n))))) (sym s) (allowed (name p n))) e looked) want end r) f
