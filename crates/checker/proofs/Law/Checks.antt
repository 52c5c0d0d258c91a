-- What is known of a node's parts, as the code holds it, gives the node the definition's verdict; and the tree at a place by its node.
use Rattle.std.specs.Prelude.{Option, Some, None, Result, Ok, Err}
use mathlib.Core.Path.{◌≡◌, refl, sym, ◌∙◌, ap}
use mathlib.Core.List.{List, [], ◌∷◌, ◌++◌, append-nil, append_assoc}
use mathlib.Core.Logic.{◌⊎◌, inl, inr}
use Prim.Native.Nat.{ℕ, zero, suc, ◌-◌}
use native.Mathlib.Omega.{arith}
use Rattle.lexer.specs.Refusal.{Judged, refused, fine}
use Rattle.lexer.specs.declared.refusal.Refusal.{Refusal}
use Rattle.kind.specs.Choice.{parts_of, with_of}
use Rattle.kind.specs.declared.set.Kinds.{Kinds}
use Rattle.kind.proofs.AnyCount.{any-count, with-parts}
use Rattle.value.specs.Name.{function_at, pick_at}
use Rattle.tree.specs.Tree.{Tree, Arguments}
use Rattle.tree.specs.Node.{node_at, argument_at, arguments_at, grown, most_commas, tree_at}
use Rattle.tree.specs.declared.node.Node.{Node}
use Rattle.tree.specs.declared.node.Node.TheVariants.{Literal, Variable, Unary, Binary, Conditional, Bare, Call, Pick}
use Rattle.syntax.proofs.Law.Nodes.{tree-step, arguments-end, arguments-step}
use Rattle.kind.specs.Set.{single_of}
use Rattle.checker.specs.Operator.{prefix_at, infix_at}
use Rattle.checker.specs.Kinds.{after, gathered, placed, operated, node_of, literal_kind, conditional_of, kinds_of, kinds_of_all}
use Rattle.checker.specs.Inner.{with_all}
use Rattle.kind.specs.declared.operation.Operation.{Operation}

-- ---- parts that are known one after the other

-- parts as they are held, by the list of their sets
abbrev known : List Kinds → Judged (List Kinds) → Result (List Kinds) Refusal
known ts (refused r) = Err r
known ts (fine ss) = Ok (parts_of (ts ++ ss))

known-after : (ts : List Kinds) (s : Kinds) (ps : Judged (List Kinds)) → known (ts ++ s ∷ []) ps ≡ known ts (after s ps)
known-after ts s (refused r) = refl
known-after ts s (fine ss) = ap (λ us. Ok (parts_of us)) (append_assoc ts (s ∷ []) ss)

all_known : (ts : List Kinds) (vs : List (Result Kinds Refusal)) → with_all (parts_of ts) vs ≡ known ts (gathered vs)
all_known ts [] = ap (λ us. Ok (parts_of us)) (sym (append-nil ts))
all_known ts (Err r ∷ vs) = refl
all_known ts (Ok s ∷ vs) =
    ap (λ ps. with_all ps vs) (sym (with-parts ts s)) ∙ all_known (ts ++ s ∷ []) vs ∙ known-after ts s (gathered vs)

-- the node has the definition's verdict
abbrev node_by : ℕ → Option Operation → Result (List Kinds) Refusal → Result Kinds Refusal
node_by p found (Err r) = Err r
node_by p found (Ok ss) = operated p found (fine ss)

node-known : (p : ℕ) (found : Option Operation) (ps : Judged (List Kinds)) → node_by p found (known [] ps) ≡ operated p found ps
node-known p found (refused r) = refl
node-known p (Some o) (fine ss) = ap (placed p) (sym (any-count o ss))
node-known p None (fine ss) = refl

pub node-all : (p : ℕ) (found : Option Operation) (vs : List (Result Kinds Refusal)) → node_by p found (with_all [] vs) ≡ node_of p found vs
node-all p found vs = ap (node_by p found) (all_known [] vs) ∙ node-known p found (gathered vs)

-- ---- a tree by its node

-- the verdict on the tree of a node, by those on the trees at its parts
abbrev pub kinds_by : (ℕ → ℕ → Kinds) → Node → ℕ → (ℕ → (Result Kinds Refusal)) → (ℕ → List (Result Kinds Refusal)) → Result Kinds Refusal
kinds_by look (Literal k) p tree arguments = Ok (single_of (literal_kind k))
kinds_by look (Variable n) p tree arguments = Ok (look p n)
kinds_by look (Unary o e) p tree arguments = node_of p (prefix_at o) (tree e ∷ [])
kinds_by look (Binary o l r) p tree arguments = node_of p (infix_at o) (tree l ∷ tree r ∷ [])
kinds_by look (Conditional q c a b) p tree arguments = conditional_of p (tree c) (tree a) (tree b)
kinds_by look (Bare f) p tree arguments = node_of p (function_at f) []
kinds_by look (Call f xs) p tree arguments = node_of p (function_at f) (arguments xs)
kinds_by look (Pick i e) p tree arguments = node_of p (pick_at i) (tree e ∷ [])

kinds-grown : (look : ℕ → ℕ → Kinds) (n : Node) (p : ℕ) (tree : ℕ → Tree) (arguments : ℕ → Arguments) →
    kinds_of look (grown n p tree arguments) ≡ kinds_by look n p (λ q. kinds_of look (tree q)) (λ q. kinds_of_all look (arguments q))
unfolding kinds_of
kinds-grown look (Literal k) p tree arguments = refl
kinds-grown look (Variable n) p tree arguments = refl
kinds-grown look (Unary o e) p tree arguments = refl
kinds-grown look (Binary o l r) p tree arguments = refl
kinds-grown look (Conditional q c a b) p tree arguments = refl
kinds-grown look (Bare f) p tree arguments = refl
kinds-grown look (Call f xs) p tree arguments = refl
kinds-grown look (Pick i e) p tree arguments = refl

pub kinds-step : (look : ℕ → ℕ → Kinds) (w : List ℕ) (p h : ℕ) (n : Node) → (h ≡ 0 → ⊥) → n ≡ node_at w p →
    kinds_of look (tree_at h w p) ≡
    kinds_by look n p (λ q. kinds_of look (tree_at (h - 1) w q)) (λ q. kinds_of_all look (arguments_at (tree_at (h - 1) w) most_commas w q))
kinds-step look w p h n some e =
    rw (tree-step w p h n some e) (kinds-grown look n p (tree_at (h - 1) w) (arguments_at (tree_at (h - 1) w) most_commas w))

-- ---- arguments one after another

-- no comma is left, or none stands there
last-argument : (look : ℕ → ℕ → Kinds) (tree : ℕ → Tree) (w : List ℕ) (n p : ℕ) → (n ≡ 0) ⊎ (None ≡ argument_at w p) →
    kinds_of_all look (arguments_at tree n w p) ≡ kinds_of look (tree p) ∷ []
unfolding kinds_of
last-argument look tree w n p (inl e) = rw (arguments-end tree w p n e)
last-argument look tree w zero p (inr e) = rw (arguments-end tree w p zero refl)
last-argument look tree w (suc n) p (inr e) = rw (arguments-step tree w p (suc n) None (λ z. omega (arith, z)) e)

module _ (look : ℕ → ℕ → Kinds) (tree : ℕ → Tree) (w : List ℕ) (n p : ℕ) (ps : List Kinds) where
  -- what the arguments at a place bring some parts to
  abbrev all_from : ℕ → ℕ → List Kinds → Result (List Kinds) Refusal
  all_from m q ts = with_all ts (kinds_of_all look (arguments_at tree m w q))

  module _ (first rest : ℕ) (some : n ≡ 0 → ⊥) (e : Some (record { first = first; rest = rest }) ≡ argument_at w p) where
    next-argument : kinds_of_all look (arguments_at tree n w p) ≡ kinds_of look (tree first) ∷ kinds_of_all look (arguments_at tree (n - 1) w rest)
    unfolding kinds_of
    next-argument = rw (arguments-step tree w p n (Some (record { first = first; rest = rest })) some e)

    pub next-refused : (r : Refusal) → kinds_of look (tree first) ≡ Err r → Err r ≡ all_from n p ps
    next-refused r f = sym (ap (with_all ps) (next-argument ∙ ap (λ v. v ∷ kinds_of_all look (arguments_at tree (n - 1) w rest)) f))

    pub next-added : (s : Kinds) → kinds_of look (tree first) ≡ Ok s → (ts : List Kinds) → ts ≡ with_of ps s → (m : ℕ) → m ≡ n - 1 →
        all_from m rest ts ≡ all_from n p ps
    next-added s f ts added m e =
        ap (all_from m rest) added
        ∙ ap (λ m. all_from m rest (with_of ps s)) e
        ∙ sym (ap (with_all ps) (next-argument ∙ ap (λ v. v ∷ kinds_of_all look (arguments_at tree (n - 1) w rest)) f))

  module _ (last : (n ≡ 0) ⊎ (None ≡ argument_at w p)) where
    pub last-refused : (r : Refusal) → kinds_of look (tree p) ≡ Err r → Err r ≡ all_from n p ps
    last-refused r f = sym (ap (with_all ps) (last-argument look tree w n p last ∙ ap (λ v. v ∷ []) f))

    pub last-added : (s : Kinds) → kinds_of look (tree p) ≡ Ok s → (ts : List Kinds) → ts ≡ with_of ps s → Ok ts ≡ all_from n p ps
    last-added s f ts added = ap Ok added ∙ sym (ap (with_all ps) (last-argument look tree w n p last ∙ ap (λ v. v ∷ []) f))
