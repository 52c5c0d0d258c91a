-- Laws of kinds that are equal by test, of what some kind of a set has, and of what choices give.
use Rattle.std.specs.Prelude.{Option, Some, None}
use Rattle.std.specs.Option.{option_map}
use Rattle.std.proofs.lemmas.Option.{same_Some}
use mathlib.Core.Path.{◌≡◌, refl, sym, ◌∙◌, ap, subst}
use mathlib.Core.Bool.{Bool, true, false, not, cond, ◌&&◌, ◌||◌, or-false, or_assoc}
use mathlib.Core.List.{List, [], ◌∷◌, ◌++◌, append-nil, append_assoc}
use Prim.Native.Nat.{ℕ, ◌+◌, ◌<◌}
use native.Mathlib.Omega.{arith}
use lib.Dec.{T}
use lib.ListN.{length, take, get_or}
use Rattle.std.proofs.lemmas.List.{take_more}
use lib.Ieee.Bits.{is_true}
use lib.Ieee.Fits.{and_i, and_l, and_r}
use Rattle.kind.specs.Kind.{kinds, eq_kind}
use Rattle.kind.specs.Set.{has, set_of, some_of, some, single_of, union_of}
use Rattle.kind.specs.Choice.{some_choice, faults, gives}
use Rattle.kind.specs.Rule.{rule_of}
use Rattle.kind.specs.Inner.{choices_of}
use Rattle.kind.specs.declared.kind.Kind.{Kind}
use Rattle.kind.specs.declared.kind.Kind.TheVariants.{Undefined, Null, Boolean, Number, String, Vec2, Vec3, Vec4}
use Rattle.kind.specs.declared.set.Kinds.{Kinds}
use Rattle.kind.specs.declared.operation.Operation.{Operation}
use Rattle.kind.proofs.Law.Tests.{same_kind}

-- ---- tests

pub or_l : (a b : Bool) → T a → T (a || b)
or_l true b h = tt
or_l false b h = absurd h

pub or_r : (a b : Bool) → T b → T (a || b)
or_r true b h = tt
or_r false b h = h

pub or_elim : (a b : Bool) {G : Type 0} → T (a || b) → (T a → G) → (T b → G) → G
or_elim true b h f g = f tt
or_elim false b h f g = g h

pub is_false : (b : Bool) → (T b → ⊥) → b ≡ false
is_false true h = absurd (h tt)
is_false false h = refl

pub unless_not : (b : Bool) → (T (not b) → ⊥) → T b
unless_not true h = tt
unless_not false h = h tt

-- ---- kinds and outcomes that are equal by test

pub kind-is : (k l : Kind) → T (eq_kind k l) → k ≡ l
kind-is k l h = same_kind k l (is_true (eq_kind k l) h)

pub fault-is : (r : Option Kind) → T (faults r) → r ≡ None
fault-is None h = refl
fault-is (Some k) h = absurd h

pub gives-is : (k : Kind) (r : Option Kind) → T (gives k r) → r ≡ Some k
gives-is k None h = absurd h
gives-is k (Some l) h = ap Some (kind-is l k h)

-- ---- some kind

some_of-elim : (ls : List Kind) (p : Kind → Bool) → T (some_of ls p) → (k : Kind) × T (p k)
some_of-elim [] p h = absurd h
some_of-elim (l ∷ ls) p h = or_elim (p l) (some_of ls p) h (λ x. (l, x)) (some_of-elim ls p)

some_of-intro : (ls : List Kind) (p : Kind → Bool) (k : Kind) → T (some_of ls (eq_kind k)) → T (p k) → T (some_of ls p)
some_of-intro [] p k m h = absurd m
some_of-intro (l ∷ ls) p k m h =
    or_elim (eq_kind k l) (some_of ls (eq_kind k)) m (λ e. or_l (p l) (some_of ls p) (subst (λ (j : Kind). T (p j)) (kind-is k l e) h))
    (λ n. or_r (p l) (some_of ls p) (some_of-intro ls p k n h))

one-of-kinds : (k : Kind) → T (some_of kinds (eq_kind k))
one-of-kinds Undefined = tt
one-of-kinds Null = tt
one-of-kinds Boolean = tt
one-of-kinds Number = tt
one-of-kinds String = tt
one-of-kinds Vec2 = tt
one-of-kinds Vec3 = tt
one-of-kinds Vec4 = tt

pub any-elim : (p : Kind → Bool) → T (some_of kinds p) → (k : Kind) × T (p k)
any-elim p h = some_of-elim kinds p h

pub any-intro : (p : Kind → Bool) (k : Kind) → T (p k) → T (some_of kinds p)
any-intro p k h = some_of-intro kinds p k (one-of-kinds k) h

pub some-elim : (s : Kinds) (p : Kind → Bool) → T (some s p) → (k : Kind) × T (has s k) × T (p k)
some-elim s p h =
    let e = any-elim (λ k. has s k && p k) h in
    (e.0, and_l (has s e.0) (p e.0) e.1, and_r (has s e.0) (p e.0) e.1)

pub some-intro : (s : Kinds) (p : Kind → Bool) (k : Kind) → T (has s k) → T (p k) → T (some s p)
some-intro s p k h q = any-intro (λ j. has s j && p j) k (and_i (has s k) (p k) h q)

-- the set of the kinds that are as asked has these
pub has-set : (p : Kind → Bool) (k : Kind) → has (set_of p) k ≡ p k
unfolding set_of
has-set p Undefined = refl
has-set p Null = refl
has-set p Boolean = refl
has-set p Number = refl
has-set p String = refl
has-set p Vec2 = refl
has-set p Vec3 = refl
has-set p Vec4 = refl

-- ---- what choices give

-- with no set there is one choice
pub no-sets : (rule : List Kind → (Option Kind)) → option_map single_of (rule []) ≡ choices_of rule []
unfolding set_of single_of choices_of
no-sets rule = go (rule [])
  where
    go : (r : Option Kind) → option_map single_of r ≡ cond (faults r) None (Some (set_of (λ k. gives k r)))
    go None = refl
    go (Some k) = refl

some_of-after : (ls : List Kind) (k : Kind) (p : Kind → Bool) → some_of (ls ++ k ∷ []) p ≡ (some_of ls p || p k)
some_of-after [] k p = or-false (p k)
some_of-after (l ∷ ls) k p = ap (λ b. p l || b) (some_of-after ls k p) ∙ sym (or_assoc (p l) (some_of ls p) (p k))

-- where two have no fault, neither has their union
both-given : (a b : Bool) (q r : Kind → Bool) (s t : Kinds) → Some s ≡ cond a None (Some (set_of q)) → Some t ≡ cond b None (Some (set_of r)) →
    Some (union_of s t) ≡ cond (a || b) None (Some (set_of (λ k. q k || r k)))
unfolding set_of union_of
both-given true b q r s t e f = cc
both-given false true q r s t e f = cc
both-given false false q r s t e f = λ i. Some (union_of (same_Some s (set_of q) e i) (same_Some t (set_of r) f i))

some-fault : (b : Bool) (s : Kinds) → None ≡ cond b None (Some s) → T b
some-fault true s e = tt
some-fault false s e = cc

module _ (rule : List Kind → (Option Kind)) (s : Kinds) (ss : List Kinds) where
  abbrev faulty : Kind → Bool
  faulty k = has s k && some_choice ss (λ ks. faults (rule (k ∷ ks)))

  abbrev giving : Kind → Kind → Bool
  giving j k = has s k && some_choice ss (λ ks. gives j (rule (k ∷ ks)))

  -- what the choices give whose first kind is one of some
  abbrev pub given_by : List Kind → Option Kinds
  given_by ls = cond (some_of ls faulty) None (Some (set_of (λ j. some_of ls (giving j))))

  pub by-none : Some (set_of (λ j. false)) ≡ given_by []
  by-none = refl

  pub by-all : given_by kinds ≡ choices_of rule (s ∷ ss)
  unfolding choices_of
  by-all = refl

  after : (ls : List Kind) (k : Kind) → given_by (ls ++ k ∷ []) ≡ cond (some_of ls faulty || faulty k) None (Some (set_of (λ j. some_of ls (giving j) || giving j k)))
  after ls k = λ i. cond (some_of-after ls k faulty i) None (Some (set_of (λ j. some_of-after ls k (giving j) i)))

  module _ (k : Kind) where
    -- one more kind, which is not in the set
    pub kind-passed : (ls : List Kind) → has s k ≡ false → given_by ls ≡ given_by (ls ++ k ∷ [])
    kind-passed ls e =
        sym
        (after ls k
        ∙ (λ i. cond (some_of ls faulty || (e i && some_choice ss (λ ks. faults (rule (k ∷ ks))))) None
        (Some (set_of (λ j. some_of ls (giving j) || (e i && some_choice ss (λ ks. gives j (rule (k ∷ ks))))))))
        ∙ (λ i. cond (or-false (some_of ls faulty) i) None (Some (set_of (λ j. or-false (some_of ls (giving j)) i)))))

    -- or is in it
    pub kind-given : (ls : List Kind) (t u : Kinds) → has s k ≡ true → Some t ≡ given_by ls → Some u ≡ choices_of (λ ks. rule (k ∷ ks)) ss → Some (union_of t u) ≡ given_by (ls ++ k ∷ [])
    unfolding choices_of
    kind-given ls t u h e f =
        both-given (some_of ls faulty) (some_choice ss (λ ks. faults (rule (k ∷ ks)))) (λ j. some_of ls (giving j)) (λ j. some_choice ss (λ ks. gives j (rule (k ∷ ks)))) t u e f
        ∙ sym
        (after ls k
        ∙ (λ i. cond (some_of ls faulty || (h i && some_choice ss (λ ks. faults (rule (k ∷ ks))))) None
        (Some (set_of (λ j. some_of ls (giving j) || (h i && some_choice ss (λ ks. gives j (rule (k ∷ ks)))))))))

    -- and some choice with it faults
    pub kind-faulted : has s k ≡ true → None ≡ choices_of (λ ks. rule (k ∷ ks)) ss → None ≡ choices_of rule (s ∷ ss)
    unfolding choices_of
    kind-faulted h e =
        let f = some-fault (some_choice ss (λ ks. faults (rule (k ∷ ks)))) _ e in
        sym (ap (λ b. cond b None (Some (set_of (λ j. some_choice (s ∷ ss) (λ ks. gives j (rule ks))))))
        (is_true (some_of kinds faulty) (any-intro faulty k (and_i (has s k) (some_choice ss (λ ks. faults (rule (k ∷ ks)))) (subst T (sym h) tt) f))))

-- a kind that is chosen is behind those before it
chosen-after : (o : Operation) (js ls : List Kind) (k : Kind) (ss : List Kinds) → ls ≡ js ++ k ∷ [] →
    choices_of (λ ks. rule_of o (ls ++ ks)) ss ≡ choices_of (λ ks. rule_of o (js ++ (k ∷ ks))) ss
chosen-after o js ls k ss e =
    ap (λ ls. choices_of (λ ks. rule_of o (ls ++ ks)) ss) e ∙ ap (λ r. choices_of r ss) (λ i. λ ks. rule_of o (append_assoc js (k ∷ []) ks i))

pub no-parts : (o : Operation) (js : List Kind) (ss : List Kinds) → length ss < 1 →
    option_map single_of (rule_of o js) ≡ choices_of (λ ks. rule_of o (js ++ ks)) ss
no-parts o js [] h = ap (λ ks. option_map single_of (rule_of o ks)) (sym (append-nil js)) ∙ no-sets (λ ks. rule_of o (js ++ ks))
no-parts o js (s ∷ ss) h = absurd (omega arith)

-- the kinds of a first set in turn, some operands being chosen
module _ (o : Operation) (js : List Kind) (s : Kinds) (ss : List Kinds) where
  abbrev after_these : List Kind → Option Kind
  after_these ks = rule_of o (js ++ ks)

  module _ (i : ℕ) (d : Kind) (inside : i < 8) where
    abbrev k : Kind
    k = get_or kinds i d

    next : take (i + 1) kinds ≡ take i kinds ++ k ∷ []
    next = take_more kinds i d inside

    pub at-passed : (r : Bool) → r ≡ has s k → r ≡ false → (t : Kinds) → Some t ≡ given_by after_these s ss (take i kinds) →
        Some t ≡ given_by after_these s ss (take (i + 1) kinds)
    at-passed r h f t g = g ∙ kind-passed after_these s ss k (take i kinds) (sym h ∙ f) ∙ ap (given_by after_these s ss) (sym next)

    module _ (r : Bool) (h : r ≡ has s k) (f : r ≡ true) (bs : List Kind) (same : bs ≡ js) (ls : List Kind) (pushed : ls ≡ bs ++ k ∷ []) (given : Option Kinds)
        (is : given ≡ choices_of (λ ks. rule_of o (ls ++ ks)) ss) where
      chosen : ls ≡ js ++ k ∷ []
      chosen = pushed ∙ ap (λ bs. bs ++ k ∷ []) same

      pub at-given : (t u v : Kinds) → Some t ≡ given_by after_these s ss (take i kinds) → given ≡ Some u → v ≡ union_of t u →
          Some v ≡ given_by after_these s ss (take (i + 1) kinds)
      at-given t u v g was un =
          ap Some un
          ∙ kind-given after_these s ss k (take i kinds) t u (sym h ∙ f) g (sym was ∙ is ∙ chosen-after o js ls k ss chosen)
          ∙ ap (given_by after_these s ss) (sym next)

      pub at-faulted : given ≡ None → None ≡ choices_of after_these (s ∷ ss)
      at-faulted was = kind-faulted after_these s ss k (sym h ∙ f) (sym was ∙ is ∙ chosen-after o js ls k ss chosen)

  pub all-given : (i : ℕ) (t : Kinds) → i ≡ 8 → Some t ≡ given_by after_these s ss (take i kinds) → Some t ≡ choices_of after_these (s ∷ ss)
  all-given i t e g = g ∙ ap (λ n. given_by after_these s ss (take n kinds)) e ∙ by-all after_these s ss
