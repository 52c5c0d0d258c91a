-- An expression without conditional, `&&` or `||` that names no define is refused by 7 exactly if some feature makes it fail by itself that reads as values of the style's properties, whoever has read the items. The feature gives each property its worst:
-- nothing if it may be absent, else null if it may be null, else a sample of its type.
use mathlib.Core.Path.{◌≡◌, refl, sym, ◌∙◌, ap, ap₂}
use mathlib.Core.Bool.{Bool, true, false, cond, true≢false, false≢true}
use mathlib.Core.List.{List, [], ◌∷◌, map}
use mathlib.Core.Logic.{◌↔◌}
use Prim.Native.Nat.{ℕ, suc, ◌+◌, ◌≤◌}
use native.Mathlib.Omega.{arith}
use lib.Dec.{T}
use lib.ListN.{length}
use Rattle.lexer.specs.Bytes.{same}
use Rattle.lexer.specs.Refusal.{fine, refusal_at}
use Rattle.lexer.specs.declared.refusal.Reason.TheVariants as reason
use Rattle.kind.specs.declared.set.Kinds.{Kinds}
use Rattle.value.specs.Value.{text_in}
use Rattle.value.specs.declared.value.Value.{Value}
use Rattle.plan.specs.Layout.{most_properties}
use Rattle.tree.specs.Tree.{Tree}
use Rattle.syntax.specs.Judge.{judged_of}
use Rattle.checker.specs.Name.{name_at}
use Rattle.checker.specs.Property.{Property, undeclared, declared, property_kinds}
use Rattle.checker.specs.declared.name.Scope.{Scope}
use Rattle.checker.specs.declared.name.Scope.TheVariants as scope
use Rattle.checker.specs.declared.check.Wanted.{Wanted}
use Rattle.evaluator.specs.Literal.{literal_at}
use Rattle.evaluator.specs.Demand.{Worst, Variables, plain}
use Rattle.evaluator.proofs.Complete as evaluator
use Rattle.evaluator.proofs.Literals.{literal-kind}
use Rattle.evaluator.proofs.Law.Variables.{each-variable, every-variable}
use Rattle.style.specs.Style.{Declared, Define, Style, empty, property_in, is_among, define_name, defined_in, kinds_in}
use Rattle.style.specs.Item.{Item}
use Rattle.style.specs.Items.{is_declared, Stand, Reached, RefusedAs}
use Rattle.style.specs.Accepted.{AllDeclared, Whole}
use Rattle.style.proofs.Items.{at-whole}
use Rattle.feature.specs.Feature.{entered_of, AllOf}
use Rattle.feature.specs.Sample.{absent, null, sample, Given, given, text_of, chosen_at, line_for, chosen_from}
use Rattle.feature.specs.Sample as sampled
use Rattle.feature.proofs.Samples.{sample-kind, sample-read, sample-line}
use Rattle.feature.proofs.Conforming.{entered-conform}
use Rattle.painter.specs.Meaning.{property_value}
use Rattle.painter.specs.Paint.{declared_kinds, schema_of}
use Rattle.painter.specs.Demand.{ReadsAs, NoDefine, SomeLineFails}
use Rattle.painter.proofs.Sound.{values-conform}
use Rattle.painter.proofs.Judged.{seven-exactly}

-- ---- the worst feature

abbrev worst_given : (p : Property) → is_declared p ≡ true → Given
worst_given undeclared h = absurd (false≢true h)
worst_given (declared t true n) h = given (declared t true n) absent tt
worst_given (declared t false true) h = given (declared t false true) null tt
worst_given (declared t false false) h = given (declared t false false) sample tt

given-kinds : (p : Property) (h : is_declared p ≡ true) → sampled.kinds_of (worst_given p h) ≡ property_kinds p
given-kinds undeclared h = absurd (false≢true h)
given-kinds (declared t true n) h = refl
given-kinds (declared t false true) h = refl
given-kinds (declared t false false) h = refl

given-worst : (at : ℕ) (p : Property) (h : is_declared p ≡ true) → Worst p (chosen_at at (worst_given p h))
given-worst at undeclared h = absurd (false≢true h)
given-worst at (declared t true n) h = refl
given-worst at (declared t false true) h = refl
given-worst at (declared t false false) h = sample-kind at t

-- for each property
abbrev worst_of : (ds : List Declared) → AllDeclared ds → List Given
worst_of [] a = []
worst_of (d ∷ ds) a = worst_given d.property a.0 ∷ worst_of ds a.1

worst-kinds : (ds : List Declared) (a : AllDeclared ds) → map sampled.kinds_of (worst_of ds a) ≡ map declared_kinds ds
worst-kinds [] a = refl
worst-kinds (d ∷ ds) a = ap₂ (λ (k : Kinds) (ks : List Kinds). k ∷ ks) (given-kinds d.property a.0) (worst-kinds ds a.1)

worst-length : (ds : List Declared) (a : AllDeclared ds) → length (worst_of ds a) ≡ length ds
worst-length [] a = refl
worst-length (d ∷ ds) a = ap suc (worst-length ds a.1)

-- so each name has its worst value
worst-values : (at : ℕ) (ds : List Declared) (a : AllDeclared ds) (x : List ℕ) → Worst (property_in ds x) (property_value ds (chosen_from at (worst_of ds a)) x)
worst-values at [] a x = refl
worst-values at (d ∷ ds) a x = go (same x d.name) (worst-values next ds a.1 x)
  where
    next : ℕ
    next = at + length (text_of (worst_given d.property a.0)) + 1

    go : (b : Bool) → Worst (property_in ds x) (property_value ds (chosen_from next (worst_of ds a.1)) x) →
        Worst (cond b d.property (property_in ds x)) (cond b (chosen_at at (worst_given d.property a.0)) (property_value ds (chosen_from next (worst_of ds a.1)) x))
    go true h = given-worst at d.property a.0
    go false h = h

worst-read : (s : Style) (a : AllDeclared s.properties) → length s.properties ≤ most_properties → ReadsAs s 1 (line_for (worst_of s.properties a)) (chosen_from 5 (worst_of s.properties a))
worst-read s a few =
    let gs = worst_of s.properties a in
    let short : length gs ≤ most_properties = omega (arith, worst-length s.properties a) in
    ap (λ (ks : List Kinds). entered_of ks 1 (line_for gs)) (sym (worst-kinds s.properties a)) ∙ sample-read gs short 1 (omega arith)

-- ---- a feature that conforms

pub reads-conform : (s : Style) (number : ℕ) (feature : List ℕ) (vs : List Value) → ReadsAs s number feature vs → AllOf (schema_of s) vs
reads-conform s number feature vs e = entered-conform (schema_of s) number feature vs e

-- ---- names

-- a name that is no define's stands for its property
defined-none : (ds : List Define) (x : List ℕ) (other : Kinds) → is_among (map define_name ds) x ≡ false → defined_in ds x other ≡ other
defined-none [] x other h = refl
defined-none (d ∷ ds) x other h = go (same x d.name) h (defined-none ds x other)
  where
    go : (b : Bool) → cond b true (is_among (map define_name ds) x) ≡ false → (is_among (map define_name ds) x ≡ false → defined_in ds x other ≡ other) →
        cond b d.expression.kinds (defined_in ds x other) ≡ other
    go true h rest = absurd (true≢false h)
    go false h rest = rest h

stand-for : (c : Scope) (s : Style) (text : List ℕ) (e : Tree) → NoDefine c s text e →
    Variables (λ p n. kinds_in c s (name_at text p) ≡ property_kinds (property_in s.properties (name_at text p))) e
stand-for scope.Define s text e h = every-variable (λ p n. refl) e
stand-for scope.Style s text e h =
    each-variable (λ p n h. defined-none s.defines (name_at text p) (property_kinds (property_in s.properties (name_at text p))) h) e h

-- ---- an expression that is reached, with a tree

module _ (items : List Item) (stand : Stand empty items) (n : ℕ) (s : Style) (c : Scope) (want : Wanted) (text : List ℕ) (reached : Reached items n s c want text) (tree : Tree)
    (judged : judged_of text ≡ fine tree) (is_plain : T (plain tree)) (none : NoDefine c s text tree) where
  whole : Whole s
  whole = at-whole items stand n s reached.item reached.stands

  -- each name stands for its property
  looked : Variables (λ p n. kinds_in c s (name_at text p) ≡ property_kinds (property_in s.properties (name_at text p))) tree
  looked = stand-for c s text tree none

  abbrev look : ℕ → ℕ → Kinds
  look p n = kinds_in c s (name_at text p)

  -- the worst feature
  abbrev line : List ℕ
  line = line_for (worst_of s.properties whole.declared)

  abbrev values : List Value
  values = chosen_from 5 (worst_of s.properties whole.declared)

  -- It is refused with 7, and its item with it, exactly if some feature that reads as values makes it fail by itself.
  pub refused-exactly : ((p : ℕ) × RefusedAs items n (refusal_at reason.Kinds p) s c want text) ↔ SomeLineFails s want text tree
  refused-exactly =
      let by-tree = seven-exactly (kinds_in c s) want text tree judged in (
        (λ r. record {
          number = 1;
          feature = line;
          is-line = sample-line (worst_of s.properties whole.declared);
          values = values;
          reads = worst-read s whole.declared whole.few.properties;
          failing =
              evaluator.worst-fails (λ p n. name_at text p) (property_in s.properties) (text_in text line) (literal_at text) (literal-kind text) look tree is_plain looked want (length text)
              (property_value s.properties values) (every-variable (λ p n. worst-values 5 s.properties whole.declared (name_at text p)) tree) (by-tree.0 (r.0, r.1.refused));
        }),
        (λ w. let r = by-tree.1
            ((evaluator.exactly (λ p n. name_at text p) (property_in s.properties) (text_in text w.feature) (literal_at text) (literal-kind text) look tree is_plain looked want (length text)).1
            (property_value s.properties w.values, values-conform s.properties w.values (reads-conform s w.number w.feature w.values w.reads), w.failing)) in
            (r.0, record { reached = reached; refused = r.1 })),
      )
