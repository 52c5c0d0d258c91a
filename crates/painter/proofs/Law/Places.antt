-- An expression is worked out as at its places in the head, or as at other places: it comes to the same but for where strings lie.
use Rattle.std.specs.Prelude.{Option, Some, None}
use mathlib.Core.Path.{◌≡◌, refl, sym, ◌∙◌, ap}
use mathlib.Core.Bool.{Bool, true, false, true≢false}
use mathlib.Core.List.{List}
use Prim.Native.Nat.{ℕ, ◌+◌, ◌-◌, ◌≤◌}
use native.Mathlib.Omega.{arith}
use lib.ListN.{length, take, drop}
use lib.Seq.{slice, take-take, length-slice}
use Rattle.lexer.specs.Token.{meaning}
use Rattle.lexer.proofs.Law.Spelling.{slice_is}
use Rattle.value.specs.Value.{text_in}
use Rattle.value.specs.declared.value.Span.{Span}
use Rattle.value.specs.declared.value.Value.{Value}
use Rattle.value.specs.declared.value.Value.TheVariants.{Undefined, Null, Boolean, Number, String, Vec2, Vec3, Vec4}
use Rattle.checker.specs.Name.{name_at}
use Rattle.evaluator.specs.Literal.{literal_at, moved_span, moved_value}
use Rattle.evaluator.specs.Alike.{Alike, same, strings, AlikeOutcomes, Within}
use Rattle.evaluator.proofs.Alike.{eval-alike, literal-alike}
use Rattle.evaluator.proofs.Law.Variables.{every-variable}
use Rattle.text.proofs.Slices.{slice-slice}
use Rattle.style.specs.Style.{Expression}
use Rattle.painter.specs.Meaning.{expression_at}
use Rattle.feature.proofs.Own.{Own}

-- ---- a text that lies in another

-- from a base on
abbrev pub Lies : ℕ → List ℕ → List ℕ → Type 0
Lies base text whole = take (length text) (drop base whole) ≡ text

-- a part of a front of the head does
pub lies-cut : (head text : List ℕ) (from to m : ℕ) → slice from to head ≡ text → to ≤ length head → to ≤ m → Lies from text (take m head)
lies-cut head text from to m e inside h =
    let n : length text ≡ to - from = sym (ap length e) ∙ length-slice from to head inside in
    ap (λ (k : ℕ). take k (drop from (take m head))) n ∙ sym (slice_is from to (take m head)) ∙ ap (drop from) (take-take to m head h) ∙ e

-- and so does each string of it
part-there : (base : ℕ) (text whole : List ℕ) (a b : ℕ) → Lies base text whole → b ≤ length text → slice (base + a) (base + b) whole ≡ slice a b text
part-there base text whole a b e h =
    let n : base + length text - base ≡ length text = omega arith in
    sym (slice-slice whole base (base + length text) a b (omega arith))
    ∙ ap (slice a b) (slice_is base (base + length text) whole ∙ ap (λ (k : ℕ). take k (drop base whole)) n ∙ e)

literal-there : (literal : Bool) (a b : ℕ) (base : ℕ) (text whole feature : List ℕ) → Lies base text whole → b ≤ length text →
    let s : Span = record { literal = literal; start = a; end = b } in
    text_in whole feature (moved_span base s) ≡ text_in text feature s
unfolding text_in
literal-there true a b base text whole feature e h = ap meaning (part-there base text whole a b e h)
literal-there false a b base text whole feature e h = refl

span-there : (base : ℕ) (text whole feature : List ℕ) → Lies base text whole → (s : Span) → Within (length text) s → text_in whole feature (moved_span base s) ≡ text_in text feature s
span-there base text whole feature e s w = literal-there s.literal s.start s.end base text whole feature e w.inside

-- ---- places that go together

-- a string's bytes at a place of the head, from an end on, are those at a place of another text
abbrev pub Together : List ℕ → List ℕ → ℕ → List ℕ → Span → Span → Type 0
Together head feature to whole s t = (m : ℕ) → to ≤ m → text_in (take m head) feature s ≡ text_in whole feature t

literals-together : (head feature : List ℕ) (from to : ℕ) (text : List ℕ) (base : ℕ) (whole : List ℕ) → slice from to head ≡ text → to ≤ length head → Lies base text whole →
    (s : Span) → Within (length text) s → Together head feature to whole (moved_span from s) (moved_span base s)
literals-together head feature from to text base whole e inside lies s w m h =
    span-there from text (take m head) feature (lies-cut head text from to m e inside h) s w ∙ sym (span-there base text whole feature lies s w)

-- a feature's own string is the same in any
own-together : (literal : Bool) (a b : ℕ) (head feature : List ℕ) (to : ℕ) (whole : List ℕ) → literal ≡ false →
    let s : Span = record { literal = literal; start = a; end = b } in
    Together head feature to whole s s
unfolding text_in
own-together true a b head feature to whole e m h = absurd (true≢false e)
own-together false a b head feature to whole e m h = refl

pub own-alike : (head feature : List ℕ) (to : ℕ) (whole : List ℕ) (v : Value) → Own v → Alike (Together head feature to whole) v v
own-alike head feature to whole Undefined o = same Undefined tt
own-alike head feature to whole Null o = same Null tt
own-alike head feature to whole (Boolean b) o = same (Boolean b) tt
own-alike head feature to whole (Number x) o = same (Number x) tt
own-alike head feature to whole (String s) o = strings s s (own-together s.literal s.start s.end head feature to whole o)
own-alike head feature to whole (Vec2 x y) o = same (Vec2 x y) tt
own-alike head feature to whole (Vec3 x y z) o = same (Vec3 x y z) tt
own-alike head feature to whole (Vec4 x y z w) o = same (Vec4 x y z w) tt

-- what goes together from an end on does from a later one
pub later : (head feature : List ℕ) (to more : ℕ) (whole : List ℕ) → to ≤ more → (o p : Option Value) → AlikeOutcomes (Together head feature to whole) o p → AlikeOutcomes (Together head feature more whole) o p
later head feature to more whole h None None a = tt
later head feature to more whole h None (Some w) a = a
later head feature to more whole h (Some v) None a = a
later head feature to more whole h (Some v) (Some w) a = go a
  where
    go : {v w : Value} → Alike (Together head feature to whole) v w → Alike (Together head feature more whole) v w
    go (same v n) = same v n
    go (strings s t r) = strings s t (λ m k. r m (omega arith))

-- ---- an expression

pub expression-alike : (head feature : List ℕ) (from to : ℕ) (e : Expression) (base : ℕ) (whole : List ℕ) → slice from to head ≡ e.text → to ≤ length head → Lies base e.text whole →
    (names others : List ℕ → Option Value) → ((x : List ℕ) → AlikeOutcomes (Together head feature to whole) (names x) (others x)) →
    AlikeOutcomes (Together head feature to whole) (expression_at (text_in (take to head) feature) from names e) (expression_at (text_in whole feature) base others e)
expression-alike head feature from to e base whole is inside lies names others alike =
    eval-alike (Together head feature to whole)
    (record { text = text_in (take to head) feature; literals = λ p k. moved_value from (literal_at e.text p k); variables = λ p n. names (name_at e.text p) })
    (record { text = text_in whole feature; literals = λ p k. moved_value base (literal_at e.text p k); variables = λ p n. others (name_at e.text p) })
    (λ s t r. r to (omega arith))
    (literal-alike (Together head feature to whole) e.text from base (literals-together head feature from to e.text base whole is inside lies))
    e.tree (every-variable (λ p n. alike (name_at e.text p)) e.tree)
