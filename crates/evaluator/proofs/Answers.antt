-- The third demand about what `check` and `evaluate` answer: their promises are `checked_at` and `eval_at`, over any slots. And what they answer of an expression that was judged and resolved is what its tree's
-- own names give.
use Rattle.std.specs.Prelude.{Some}
use mathlib.Core.Path.{◌≡◌, refl, ap, subst, ◌∙◌}
use mathlib.Core.Bool.{Bool, true, false}
use mathlib.Core.List.{List}
use mathlib.Core.Logic.{◌↔◌}
use Prim.Native.Nat.{ℕ, ◌+◌, ◌<◌, ◌≤◌}
use lib.Dec.{T}
use lib.ListN.{length, drop}
use Rattle.lexer.specs.Refusal.{fine}
use Rattle.kind.specs.Set.{has}
use Rattle.kind.specs.declared.set.Kinds.{Kinds}
use Rattle.value.specs.Value.{kind_of, text_in}
use Rattle.value.specs.declared.value.Span.{Span}
use Rattle.value.specs.declared.value.Value.{Value}
use Rattle.tree.specs.Tree.{Tree, place}
use Rattle.tree.specs.Node.{tree_at}
use Rattle.syntax.specs.Sizes.{most_height}
use Rattle.syntax.specs.Judge.{judged_of, slots_after}
use Rattle.syntax.proofs.Laid.{judged-fits}
use Rattle.checker.specs.Name.{name_at, resolved_slots, resolved}
use Rattle.checker.specs.Property.{Property, property_kinds, set_at}
use Rattle.checker.specs.Kinds.{literal_kind, taken_by}
use Rattle.checker.specs.Check.{checked_at}
use Rattle.checker.specs.declared.check.Wanted.{Wanted}
use Rattle.checker.proofs.Resolved.{read-resolved}
use Rattle.checker.proofs.Named.{checked-named}
use Rattle.evaluator.specs.Literal.{literal_at, moved_value}
use Rattle.evaluator.specs.Values.{value_at}
use Rattle.evaluator.specs.Eval.{eval_of}
use Rattle.evaluator.specs.Arrays.{array_context, eval_at}
use Rattle.evaluator.specs.Demand.{Conforms, Allowed, Worst, Variables, plain, is_refused, fails}
use Rattle.evaluator.proofs.Literals.{literal-kind, literal-moved}
use Rattle.evaluator.proofs.Named.{eval-resolved}
use Rattle.evaluator.proofs.Sound.{accepted-result, never-fails}
use Rattle.evaluator.proofs.Complete.{worst-fails, exactly}

-- ---- any slots

module _ (style feature slots plan : List ℕ) (base root : ℕ) (want : Wanted) (end : ℕ) where
  abbrev tree : Tree
  tree = tree_at most_height slots root

  -- if `check` accepts and the arrays hold values of the sets, `evaluate` gives a value of its set that is wanted
  pub check_sound : (values : List Value) → Variables (λ p n. Conforms (set_at plan n) (Some (value_at values n))) tree →
      (s : Kinds) → checked_at slots plan root want end ≡ fine s →
      (v : Value) × (eval_at style feature slots values base root ≡ Some v) × T (has s (kind_of v)) × T (has (taken_by want) (kind_of v))
  check_sound values conforms =
      accepted-result (array_context style feature values base) (λ p n. set_at plan n) (λ p k. literal-kind style (base + p) k) tree conforms want end

  -- so if `evaluate` fails with such arrays, `check` refuses
  pub check-refuses : (values : List Value) → Variables (λ p n. Conforms (set_at plan n) (Some (value_at values n))) tree →
      T (fails want (eval_at style feature slots values base root)) → T (is_refused (checked_at slots plan root want end))
  check-refuses values conforms f = go (is_refused (checked_at slots plan root want end)) refl
    where
      go : (b : Bool) → is_refused (checked_at slots plan root want end) ≡ b → T b
      go true r = tt
      go false r =
          subst T (never-fails (array_context style feature values base) (λ p n. set_at plan n) (λ p k. literal-kind style (base + p) k) tree conforms want end r) f

  -- and if `check` refuses a plain expression whose variables are properties, `evaluate` fails with any arrays that hold worst values of these
  pub check-worst : (properties : ℕ → Property) → T (plain tree) → Variables (λ p n. set_at plan n ≡ property_kinds (properties n)) tree →
      (values : List Value) → Variables (λ p n. Worst (properties n) (value_at values n)) tree →
      T (is_refused (checked_at slots plan root want end)) → T (fails want (eval_at style feature slots values base root))
  check-worst properties is_plain looked values =
      worst-fails (λ p n. n) properties (text_in style feature) (λ p k. literal_at style (base + p) k) (λ p k. literal-kind style (base + p) k) (λ p n. set_at plan n) tree is_plain looked want end
      (value_at values)

-- ---- the slots of an expression that was judged and resolved

module _ (number : List ℕ → ℕ) (small : (x : List ℕ) → number x < 1024) (text w : List ℕ) (e : Tree) (judged : judged_of text ≡ fine e) (room : length text ≤ length w) where
  abbrev after : List ℕ
  after = resolved_slots number text (slots_after w text)

  named : tree_at most_height after (place e) ≡ resolved (λ p. number (name_at text p)) e
  named = read-resolved number small text w e most_height judged room (judged-fits text e judged).1

  -- what is worked out is the tree, by the values of its names and the literals of its text, if that lies at the end of the style's
  pub evaluated-named : (style feature : List ℕ) (values : List Value) (base : ℕ) → drop base style ≡ text →
      eval_at style feature after values base (place e)
      ≡ eval_of (record { text = text_in style feature; literals = λ p k. moved_value base (literal_at text p k); variables = λ p n. Some (value_at values (number (name_at text p))) }) e
  evaluated-named style feature values base lies =
      let c = array_context style feature values base in
      let own : (p k : ℕ) → literal_at style (base + p) k ≡ moved_value base (literal_at text p k) =
      λ p k. literal-moved style base p k ∙ ap (λ (t : List ℕ). moved_value base (literal_at t p k)) lies in
      ap (eval_of c) named
      ∙ eval-resolved c (λ p. number (name_at text p)) e
      ∙ (λ i. eval_of (record { text = text_in style feature; literals = λ p k. own p k i; variables = λ p n. Some (value_at values (number (name_at text p))) }) e)

  -- An expression without conditional, `&&` or `||` that names no define, by its names: `check` refuses it exactly if some values of its properties make it fail
  pub named-exactly : (plan : List ℕ) (want : Wanted) (end : ℕ) (literals : ℕ → ℕ → Value) → ((p k : ℕ) → kind_of (literals p k) ≡ literal_kind k) → (strings : Span → List ℕ) →
      (properties : List ℕ → Property) → T (plain e) → Variables (λ p n. set_at plan (number (name_at text p)) ≡ property_kinds (properties (name_at text p))) e →
      T (is_refused (checked_at after plan (place e) want end))
      ↔ ((values : List ℕ → Value) × ((x : List ℕ) → Allowed (properties x) (values x))
      × T (fails want (eval_of (record { text = strings; literals = literals; variables = λ p n. Some (values (name_at text p)) }) e)))
  named-exactly plan want end literals kinds strings properties is_plain looked =
      rw (checked-named number small text w e judged room plan want end)
      (exactly (λ p n. name_at text p) properties strings literals kinds (λ p n. set_at plan (number (name_at text p))) e is_plain looked want end)
