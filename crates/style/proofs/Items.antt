-- What items give, whoever has read them: every expression of their style was judged and checked, and by the names of that style; the style is whole; and they are refused exactly as an expression that is reached in one of them.
use Rattle.std.specs.Prelude.{Result, Ok, Err}
use mathlib.Core.Path.{◌≡◌, refl, sym, ◌∙◌, ap, subst}
use mathlib.Core.Bool.{true, ◌&&◌}
use mathlib.Core.List.{List, [], ◌∷◌, ◌++◌, map}
use mathlib.Core.Logic.{◌↔◌, ◌⊎◌, inl, inr}
use Prim.Native.Nat.{ℕ, suc, ◌≤◌}
use native.Mathlib.Nat.{zero-add}
use native.Mathlib.Omega.{arith}
use borrow.Author.Tests.{eqb-true, ltb-true}
use lib.Dec.{eqb, ltb}
use lib.ListN.{length, length-append}
use Rattle.lexer.specs.Refusal.{Judged, refused, fine, on_fine}
use Rattle.lexer.specs.declared.refusal.Refusal.{Refusal}
use Rattle.kind.specs.declared.set.Kinds.{Kinds}
use Rattle.plan.specs.Layout.{most_properties, most_defines, most_conditions}
use Rattle.tree.specs.Tree.{Tree}
use Rattle.syntax.specs.Judge.{judged_of}
use Rattle.checker.specs.Name.{name_at}
use Rattle.checker.specs.Kinds.{kinds_of, result_of}
use Rattle.checker.specs.Check.{answer_of}
use Rattle.checker.specs.declared.name.Scope.{Scope}
use Rattle.checker.specs.declared.name.Scope.TheVariants as scope
use Rattle.checker.specs.declared.check.Wanted.{Wanted}
use Rattle.checker.specs.declared.check.Wanted.TheVariants as wanted
use Rattle.text.specs.declared.word.Line.TheVariants as line
use Rattle.style.specs.Answer.{refusal, accepted}
use Rattle.style.specs.Style.{Declared, Expression, Define, Condition, Style, Entry, empty, with, admits, admits_to, name_of, kinds_in}
use Rattle.style.specs.Style as entry
use Rattle.style.specs.Expression.{by_kinds, expression_of}
use Rattle.style.specs.Item.{Item, is_new, item_judged}
use Rattle.style.specs.Item as item
use Rattle.style.specs.Items.{is_declared, may_stand, Stand, items_from, Asks, ItemAt, Origin}
use Rattle.style.specs.Items as asks
use Rattle.style.specs.Holds.{Each}
use Rattle.style.specs.Accepted.{Stands, AllStand, AllDeclared, Whole}
use Rattle.style.proofs.Law.Ladder.{both}
use Rattle.style.proofs.Law.Each.{each_map, each_more, each_none}
use Rattle.style.proofs.Law.Answers.{fine_in, refusal_in, accepted_in, on-refused, on_fine_lem}
use Rattle.style.proofs.Law.Turns.{first_fine, refused-by, refused-at}

-- ---- an item that is judged

module _ (s : Style) where
  -- what it adds, if its expressions are accepted
  pub data Adds : Item → Entry → Type 0 where
    property : (d : Declared) → Adds (item.property d) (entry.property d)
    define : {name text : List ℕ} (e : Expression) → expression_of (kinds_in scope.Define s) wanted.Any text ≡ fine e →
        Adds (item.define name text) (entry.define (record { name = name; expression = e }))
    show : {text : List ℕ} (e : Expression) → expression_of (kinds_in scope.Style s) wanted.Boolean text ≡ fine e → Adds (item.show text) (entry.show e)
    color : {text : List ℕ} (e : Expression) → expression_of (kinds_in scope.Style s) wanted.Vec4 text ≡ fine e → Adds (item.color text) (entry.colour e)
    condition : {test colour : List ℕ} (t e : Expression) → expression_of (kinds_in scope.Style s) wanted.Boolean test ≡ fine t →
        expression_of (kinds_in scope.Style s) wanted.Vec4 colour ≡ fine e → Adds (item.condition test colour) (entry.condition (record { test = t; colour = e }))

  module _ (i : Item) where
    -- it is refused as one of its expressions is, or adds something
    data Told : Judged Entry → Type 0 where
      its : {c : Scope} {want : Wanted} {text : List ℕ} {r : Refusal} → Asks s i c want text → expression_of (kinds_in c s) want text ≡ refused r → Told (refused r)
      goes : {e : Entry} → Adds i e → Told (fine e)

    on-expression : {c : Scope} {want : Wanted} {text : List ℕ} (k : Expression → Judged Entry) → Asks s i c want text →
        ((e : Expression) → expression_of (kinds_in c s) want text ≡ fine e → Told (k e)) → Told (on_fine (expression_of (kinds_in c s) want text) k)
    on-expression {c} {want} {text} k a f = go (expression_of (kinds_in c s) want text) refl
      where
        go : (j : Judged Expression) → expression_of (kinds_in c s) want text ≡ j → Told (on_fine j k)
        go (refused r) h = its a h
        go (fine e) h = f e h

  item-told : (i : Item) → Told i (item_judged s i)
  unfolding item_judged
  item-told (item.property d) = goes (property d)
  item-told (item.define name text) = on-expression (item.define name text) _ asks.define (λ e h. goes (define e h))
  item-told (item.show text) = on-expression (item.show text) _ asks.show (λ e h. goes (show e h))
  item-told (item.color text) = on-expression (item.color text) _ asks.color (λ e h. goes (color e h))
  item-told (item.condition test colour) =
      on-expression (item.condition test colour) _ asks.condition
      (λ t h. on-expression (item.condition test colour) _ (asks.colour t h) (λ e k. goes (condition t e h k)))

  pub item-adds : (i : Item) (e : Entry) → item_judged s i ≡ fine e → Adds i e
  item-adds i e h = go (item_judged s i) (item-told i) h
    where
      go : (j : Judged Entry) → Told i j → j ≡ fine e → Adds i e
      go (refused r) told h = absurd cc
      go (fine x) (goes a) h = subst (Adds i) (ap (fine_in x) h) a

  pub item_refused : (i : Item) (r : Refusal) → item_judged s i ≡ refused r → (c : Scope) × (want : Wanted) × (text : List ℕ) × Asks s i c want text × (expression_of (kinds_in c s) want text ≡ refused r)
  item_refused i r h = go (item_judged s i) (item-told i) h
    where
      go : (j : Judged Entry) → Told i j → j ≡ refused r → (c : Scope) × (want : Wanted) × (text : List ℕ) × Asks s i c want text × (expression_of (kinds_in c s) want text ≡ refused r)
      go (refused x) (its {c} {want} {text} a e) h = (c, want, text, a, e ∙ ap (λ j. refused (refusal_in x j)) h)
      go (fine x) told h = absurd cc

  pub asks-refused : {i : Item} {c : Scope} {want : Wanted} {text : List ℕ} → Asks s i c want text → (r : Refusal) → expression_of (kinds_in c s) want text ≡ refused r → item_judged s i ≡ refused r
  unfolding item_judged
  asks-refused asks.define r h = on-refused _ h
  asks-refused asks.show r h = on-refused _ h
  asks-refused asks.color r h = on-refused _ h
  asks-refused asks.condition r h = on-refused _ h
  asks-refused (asks.colour t a) r h = on_fine_lem _ a ∙ on-refused _ h

-- ---- items in turn

-- what every item that may stand keeps is true of the style that they give
module _ (P : Style → Type 0) (keeps : (s : Style) (i : Item) (e : Entry) → P s → may_stand s i ≡ true → Adds s i e → P (with s e)) where
  pub from-items : (is : List Item) (k : ℕ) (s : Style) → Stand s is → P s → (t : Style) → items_from k s is ≡ accepted t → P t
  from-items [] k s st p t h = subst P (ap (accepted_in t) h) p
  from-items (i ∷ is) k s st p t h =
      let (e, q, rest) = first_fine item_judged items_from (λ n s. refl) (λ n s i is. refl) k s t i is h in
      from-items is (suc k) (with s e) (st.1 e q) (keeps s i e p st.0 (item-adds s i e q)) t rest

pub items_refused : (items : List Item) (n : ℕ) (r : Refusal) → (items_from 1 empty items ≡ refusal n r) ↔ Origin items n r
items_refused items n r = (
  (λ h.
      let (s, i, at, q) = refused-at item_judged items_from (λ n s. refl) (λ n s i is. refl) items n r h in
      let (c, want, text, a, e) = item_refused s i r q in
      record { style = s; scope = c; want = want; text = text; is = record { reached = record { item = i; stands = at; asks = a }; refused = e } }),
  (λ o.
      let at = o.is.reached in
      refused-by item_judged items_from (λ n s. refl) (λ n s i is. refl) items n r o.style at.item at.stands (asks-refused o.style at.asks r o.is.refused)),
)

-- ---- an expression that is accepted

-- what makes it one
record Made (look : List ℕ → Kinds) (want : Wanted) (text : List ℕ) (e : Expression) : Type 0 where
  own : e.text ≡ text
  judged-as : judged_of text ≡ fine e.tree
  checked-as : result_of want (length text) (kinds_of (λ p n. look (name_at text p)) e.tree) ≡ Ok e.kinds

module _ (look : List ℕ → Kinds) (want : Wanted) (text : List ℕ) (e : Expression) where
  by-kinds : (v : Result Kinds Refusal) (t : Tree) → result_of want (length text) (kinds_of (λ p n. look (name_at text p)) t) ≡ v → judged_of text ≡ fine t → by_kinds (answer_of v) text t ≡ fine e → Made look want text e
  by-kinds (Err r) t v j h = absurd cc
  by-kinds (Ok k) t v j h =
      subst (Made look want text) (ap (fine_in e) h) (record { own = refl; judged-as = j; checked-as = v })

  made : expression_of look want text ≡ fine e → Made look want text e
  unfolding expression_of
  made h = go (judged_of text) refl h
    where
      go : (j : Judged Tree) → judged_of text ≡ j → on_fine j (λ t. by_kinds (answer_of (result_of want (length text) (kinds_of (λ p n. look (name_at text p)) t))) text t) ≡ fine e → Made look want text e
      go (refused r) q h = absurd cc
      go (fine t) q h = by-kinds (result_of want (length text) (kinds_of (λ p n. look (name_at text p)) t)) t refl q h

-- an expression that is accepted has the text that was judged
pub accepted-text : (look : List ℕ → Kinds) (want : Wanted) (text : List ℕ) (e : Expression) → expression_of look want text ≡ fine e → e.text ≡ text
accepted-text look want text e h = (made look want text e h).own

stands : (c : Scope) (want : Wanted) (s : Style) (text : List ℕ) (e : Expression) → expression_of (kinds_in c s) want text ≡ fine e → Stands c want s e
stands c want s text e h =
    let m = made (kinds_in c s) want text e h in
    record {
      judged = ap judged_of m.own ∙ m.judged-as;
      checked = ap (λ (t : List ℕ). result_of want (length t) (kinds_of (λ p n. kinds_in c s (name_at t p)) e.tree)) m.own ∙ m.checked-as;
    }

-- ---- lists

abbrev All : {A : Type 0} → (A → Type 0) → List A → Type 0
All P xs = Each (λ i x. P x) 0 xs

all_more : {A : Type 0} (P : A → Type 0) (xs : List A) (x : A) → All P xs → P x → All P (xs ++ x ∷ [])
all_more P xs x a p = each_more (λ i x. P x) 0 (length xs) xs x (sym (zero-add (length xs))) a p

all_map : {A : Type 0} (P Q : A → Type 0) (xs : List A) → ((x : A) → P x → Q x) → All P xs → All Q xs
all_map P Q xs f a = each_map (λ i x. P x) (λ i x. Q x) 0 xs (λ k x low high p. f x p) a

all_none : {A : Type 0} (P : A → Type 0) (xs : List A) → length xs ≡ 0 → All P xs
all_none P xs h = each_none (λ i x. P x) 0 xs h

-- ---- the expressions of a style with what an item adds

-- the names stand for the same, in one scope or both
same_names : (c : Scope) (want : Wanted) (s t : Style) (e : Expression) → kinds_in c t ≡ kinds_in c s → Stands c want s e → Stands c want t e
same_names c want s t e n x =
    record {
      judged = x.judged;
      checked = ap (λ (k : List ℕ → Kinds). result_of want (length e.text) (kinds_of (λ p n. k (name_at e.text p)) e.tree)) n ∙ x.checked;
    }

abbrev Conditioned : Style → Condition Expression → Type 0
Conditioned s c = Stands scope.Style wanted.Boolean s c.test × Stands scope.Style wanted.Vec4 s c.colour

abbrev Defined : Style → Define → Type 0
Defined s d = Stands scope.Define wanted.Any s d.expression

-- some expressions of each sort stand in a style
abbrev Over : Style → List Define → List Expression → List Expression → List (Condition Expression) → Type 0
Over t ds ss cs ks = All (Defined t) ds × All (Stands scope.Style wanted.Boolean t) ss × All (Stands scope.Style wanted.Vec4 t) cs × All (Conditioned t) ks

-- none stands behind
record Bare (s : Style) : Type 0 where
  shows : length s.shows ≡ 0
  colours : length s.colours ≡ 0
  conditions : length s.conditions ≡ 0

bare : (s : Style) → eqb (length s.shows) 0 && (eqb (length s.colours) 0 && eqb (length s.conditions) 0) ≡ true → Bare s
bare s h =
    let x = both (eqb (length s.shows) 0) _ h in
    let y = both (eqb (length s.colours) 0) _ x.1 in
    record { shows = eqb-true _ _ x.0; colours = eqb-true _ _ y.0; conditions = eqb-true _ _ y.1 }

module _ (s : Style) (a : AllStand s) where
  -- where names stand for the same
  over : (t : Style) → kinds_in scope.Define t ≡ kinds_in scope.Define s → kinds_in scope.Style t ≡ kinds_in scope.Style s → Over t s.defines s.shows s.colours s.conditions
  over t m n = (
    all_map (Defined s) _ s.defines (λ d x. same_names scope.Define wanted.Any s t d.expression m x) a.defines,
    all_map (Stands scope.Style wanted.Boolean s) _ s.shows (λ e x. same_names scope.Style wanted.Boolean s t e n x) a.shows,
    all_map (Stands scope.Style wanted.Vec4 s) _ s.colours (λ e x. same_names scope.Style wanted.Vec4 s t e n x) a.colours,
    all_map (Conditioned s) _ s.conditions
        (λ c x. (same_names scope.Style wanted.Boolean s t c.test n x.0, same_names scope.Style wanted.Vec4 s t c.colour n x.1))
        a.conditions,
  )

  -- a property stands before every expression
  with-property : (d : Declared) → admits_to s line.Prop ≡ true → AllStand (with s (entry.property d))
  unfolding admits
  with-property d ok =
      let x = both (ltb (length s.properties) most_properties) _ ok in
      let y = both (eqb (length s.defines) 0) _ x.1 in
      let z = bare s y.1 in
      record {
        defines = all_none _ s.defines (eqb-true _ _ y.0);
        shows = all_none _ s.shows z.shows;
        colours = all_none _ s.colours z.colours;
        conditions = all_none _ s.conditions z.conditions;
      }

  -- and a define before those of the style, while defines don't see it
  with-define : (d : Define) → admits_to s line.Define ≡ true → Stands scope.Define wanted.Any s d.expression → AllStand (with s (entry.define d))
  unfolding admits
  with-define d ok e =
      let z = bare s (both (ltb (length s.defines) most_defines) _ ok).1 in
      let t = with s (entry.define d) in
      record {
        defines =
            all_more (Defined t) s.defines d
            (all_map (Defined s) _ s.defines (λ d x. same_names scope.Define wanted.Any s t d.expression refl x) a.defines)
            (same_names scope.Define wanted.Any s t d.expression refl e);
        shows = all_none _ s.shows z.shows;
        colours = all_none _ s.colours z.colours;
        conditions = all_none _ s.conditions z.conditions;
      }

  with-show : (e : Expression) → Stands scope.Style wanted.Boolean s e → AllStand (with s (entry.show e))
  with-show e x =
      let t = with s (entry.show e) in
      let o = over t refl refl in
      record { defines = o.0; shows = all_more (Stands scope.Style wanted.Boolean t) s.shows e o.1 (same_names scope.Style wanted.Boolean s t e refl x); colours = o.2; conditions = o.3 }

  with-colour : (e : Expression) → Stands scope.Style wanted.Vec4 s e → AllStand (with s (entry.colour e))
  with-colour e x =
      let t = with s (entry.colour e) in
      let o = over t refl refl in
      record { defines = o.0; shows = o.1; colours = all_more (Stands scope.Style wanted.Vec4 t) s.colours e o.2 (same_names scope.Style wanted.Vec4 s t e refl x); conditions = o.3 }

  with-condition : (c : Condition Expression) → Stands scope.Style wanted.Boolean s c.test → Stands scope.Style wanted.Vec4 s c.colour → AllStand (with s (entry.condition c))
  with-condition c x y =
      let t = with s (entry.condition c) in
      let o = over t refl refl in
      record {
        defines = o.0;
        shows = o.1;
        colours = o.2;
        conditions =
            all_more (Conditioned t) s.conditions c o.3
            (same_names scope.Style wanted.Boolean s t c.test refl x, same_names scope.Style wanted.Vec4 s t c.colour refl y);
      }

stands-more : (s : Style) (i : Item) (e : Entry) → AllStand s → may_stand s i ≡ true → Adds s i e → AllStand (with s e)
stands-more s i e a ok (property d) = with-property s a d (both (admits_to s line.Prop) _ ok).0
stands-more s i e a ok (define {name} {text} x h) =
    with-define s a (record { name = name; expression = x }) (both (admits_to s line.Define) _ ok).0 (stands scope.Define wanted.Any s text x h)
stands-more s i e a ok (show {text} x h) = with-show s a x (stands scope.Style wanted.Boolean s text x h)
stands-more s i e a ok (color {text} x h) = with-colour s a x (stands scope.Style wanted.Vec4 s text x h)
stands-more s i e a ok (condition {test} {colour} t x h k) =
    with-condition s a (record { test = t; colour = x }) (stands scope.Style wanted.Boolean s test t h) (stands scope.Style wanted.Vec4 s colour x k)

-- ---- the style is whole

declared-more : (ds : List Declared) (d : Declared) → AllDeclared ds → is_declared d.property ≡ true → AllDeclared (ds ++ d ∷ [])
declared-more [] d a h = (h, tt)
declared-more (x ∷ ds) d a h = (a.0, declared-more ds d a.1 h)

-- one more is not one too many
few-more : {A : Type 0} (xs : List A) (x : A) (most : ℕ) → ltb (length xs) most ≡ true → length (xs ++ x ∷ []) ≤ most
few-more xs x most h = omega (arith, ltb-true (length xs) most h, length-append xs (x ∷ []))

whole : (s : Style) → length s.properties ≤ most_properties → length s.defines ≤ most_defines → length s.shows ≤ 1 → length s.colours ≤ 1 → length s.conditions ≤ most_conditions →
    AllDeclared s.properties → (length s.colours ≡ 0) ⊎ (length s.conditions ≡ 0) → Whole s
whole s p d sh co cs all apart = record { few = record { properties = p; defines = d; shows = sh; colours = co; conditions = cs }; declared = all; apart = apart }

whole-more : (s : Style) (i : Item) (e : Entry) → Whole s → may_stand s i ≡ true → Adds s i e → Whole (with s e)
unfolding admits
whole-more s i e w ok (property d) =
    let f = w.few in
    let (a, new) = both (admits_to s line.Prop) _ ok in
    whole (with s (entry.property d)) (few-more s.properties d most_properties (both (ltb (length s.properties) most_properties) _ a).0) f.defines f.shows f.colours f.conditions
    (declared-more s.properties d w.declared (both (is_new (map name_of s.properties) d.name) _ new).1) w.apart
whole-more s i e w ok (define {name} x h) =
    let f = w.few in
    let d : Define = record { name = name; expression = x } in
    let a = both (ltb (length s.defines) most_defines) _ (both (admits_to s line.Define) _ ok).0 in
    whole (with s (entry.define d)) f.properties (few-more s.defines d most_defines a.0) f.shows f.colours f.conditions w.declared w.apart
whole-more s i e w ok (show x h) =
    let f = w.few in
    whole (with s (entry.show x)) f.properties f.defines (few-more s.shows x 1 (both (admits_to s line.Show) _ ok).0) f.colours f.conditions w.declared w.apart
whole-more s i e w ok (color x h) =
    let f = w.few in
    let a = both (ltb (length s.colours) 1) _ (both (admits_to s line.Color) _ ok).0 in
    whole (with s (entry.colour x)) f.properties f.defines f.shows (few-more s.colours x 1 a.0) f.conditions w.declared
    (inr (eqb-true (length s.conditions) 0 a.1))
whole-more s i e w ok (condition t x h k) =
    let f = w.few in
    let c : Condition Expression = record { test = t; colour = x } in
    let a = both (ltb (length s.conditions) most_conditions) _ (both (admits_to s line.Cond) _ ok).0 in
    whole (with s (entry.condition c)) f.properties f.defines f.shows f.colours (few-more s.conditions c most_conditions a.0) w.declared
    (inl (eqb-true (length s.colours) 0 a.1))

-- ---- items that may stand

module _ (items : List Item) (stand : Stand empty items) (s : Style) (is : items_from 1 empty items ≡ accepted s) where
  pub items-stand : AllStand s
  items-stand = from-items AllStand stands-more items 1 empty stand (record { defines = tt; shows = tt; colours = tt; conditions = tt }) s is

  pub items-whole : Whole s
  items-whole =
      from-items Whole whole-more items 1 empty stand (whole empty (omega arith) (omega arith) (omega arith) (omega arith) (omega arith) tt (inl refl)) s is

-- ---- the first of them

stand-front : (before rest : List Item) (s : Style) → Stand s (before ++ rest) → Stand s before
stand-front [] rest s st = tt
stand-front (i ∷ before) rest s st = (st.0, λ e q. stand-front before rest (with s e) (st.1 e q))

-- the style that an item stands behind
module _ (items : List Item) (stand : Stand empty items) (n : ℕ) (s : Style) (i : Item) (at : ItemAt items n s i) where
  before-stand : Stand empty at.before
  before-stand = stand-front at.before (i ∷ at.after) empty (subst (Stand empty) at.is stand)

  pub at-stand : AllStand s
  at-stand = items-stand at.before before-stand s at.given

  pub at-whole : Whole s
  at-whole = items-whole at.before before-stand s at.given
