-- A head and its items: its lines give items, and it is refused exactly as one of its lines is, which is by an 8 or as an expression that is reached in its item. And what its `prop` lines give alone.
use Rattle.std.specs.Prelude.{Option, Some, None}
use mathlib.Core.Path.{◌≡◌, refl, sym, ◌∙◌, ap, ap₂, subst}
use mathlib.Core.Bool.{Bool, true, false, cond, ◌&&◌, false≢true, true≢false}
use mathlib.Core.List.{List, [], ◌∷◌, ◌++◌, map, append-nil, append_assoc}
use mathlib.Core.Logic.{◌↔◌, ◌⊎◌, inl, inr}
use Prim.Native.Nat.{ℕ, suc, ◌<◌}
use native.Mathlib.Omega.{arith}
use borrow.Author.Tests.{eqb-true}
use lib.Dec.{eqb, ltb}
use lib.ListN.{length, take, drop, length-append, take-append-drop}
use Rattle.lexer.specs.Refusal.{reason_number, Judged, refused, fine}
use Rattle.lexer.specs.declared.refusal.Refusal.{Refusal}
use Rattle.lexer.proofs.Law.Runs.{by-test}
use Rattle.kind.specs.declared.kind.Kind.{Kind}
use Rattle.plan.specs.Layout.{most_properties}
use Rattle.checker.specs.declared.name.Scope.{Scope}
use Rattle.checker.specs.declared.check.Wanted.{Wanted}
use Rattle.text.specs.Parts.{lines, bytes_of, fields, field, field_start}
use Rattle.text.specs.Word.{line_of, type_of, flags_of}
use Rattle.text.specs.declared.word.Line.{Line}
use Rattle.text.specs.declared.word.Line.TheVariants as word
use Rattle.text.specs.declared.word.Flags.{Flags}
use Rattle.text.proofs.Law.Parts.{lines-front}
use Rattle.style.specs.Answer.{refusal, accepted, on_line}
use Rattle.style.specs.Style.{Style, Entry, empty, with, admits, admits_to, name_of, define_name}
use Rattle.style.specs.Style as entry
use Rattle.style.specs.Item.{Item, eight_at, is_new, on_flags, on_type, property_item, define_item, item_by, on_word, item_of, item_judged, line_said}
use Rattle.style.specs.Item as item
use Rattle.style.specs.Head.{head_from, head_of}
use Rattle.style.specs.Items.{word_of, may_stand, Stand, items_from, Asks, ItemAt, Reached, Gives, LineAt, Refused, NoItem, LineOrigin}
use Rattle.style.specs.Items as asks
use Rattle.style.specs.Schema.{is_property, property_lines, schema_text, properties_of}
use Rattle.style.proofs.Law.Ladder.{taken, passed, both}
use Rattle.style.proofs.Law.Answers.{is_fine, fine_in, refusal_in, accepted_in, on-refused, on_fine_lem}
use Rattle.style.proofs.Law.Turns.{next-fine, first_fine, refused-by, refused-at}
use Rattle.style.proofs.Items.{Adds, property, define, show, color, condition, item-adds, item_refused, asks-refused, from-items}

-- ---- a line is an item that may stand there, or an 8

and-true : (a b : Bool) → a ≡ true → b ≡ true → a && b ≡ true
and-true true b e h = h
and-true false b e h = absurd (false≢true e)

-- an item's expressions are fields of its line
abbrev pub FieldsOf : List ℕ → Item → Type 0
FieldsOf line (item.property d) = Unit {0}
FieldsOf line (item.define name text) = (text ≡ field line 2) × (2 < length (fields line))
FieldsOf line (item.show text) = (text ≡ field line 1) × (1 < length (fields line))
FieldsOf line (item.color text) = (text ≡ field line 1) × (1 < length (fields line))
FieldsOf line (item.condition test colour) = (test ≡ field line 1) × (colour ≡ field line 2) × (2 < length (fields line))

module _ (s : Style) (line : List ℕ) where
  data Read : Judged Item → Type 0 where
    eight : (p : ℕ) → Read (eight_at p)
    reads : {i : Item} → line_of (field line 0) ≡ Some (word_of i) → may_stand s i ≡ true → FieldsOf line i → Read (fine i)

  count : (n : ℕ) → eqb (length (fields line)) n ≡ true → length (fields line) ≡ n
  count n e = eqb-true (length (fields line)) n e

  tested : (t : Bool) {i : Judged Item} (p : ℕ) → (t ≡ true → Read i) → Read (cond t i (eight_at p))
  tested t p f = by-test Read t f (λ _. eight p)

  on-type : (f : Option Kind) (p : ℕ) (k : Kind → Judged Item) → ((t : Kind) → Read (k t)) → Read (on_type f p k)
  on-type None p k g = eight p
  on-type (Some t) p k g = g t

  on-flags : (f : Option Flags) (p : ℕ) (name : List ℕ) (t : Kind) → line_of (field line 0) ≡ Some word.Prop → admits_to s word.Prop ≡ true → is_new (map name_of s.properties) name ≡ true → Read (on_flags f p name t)
  on-flags None p name t w ok new = eight p
  on-flags (Some f) p name t w ok new = reads w (and-true (admits_to s word.Prop) _ ok (and-true (is_new (map name_of s.properties) name) true new refl)) tt

  by-line : (l : Line) → line_of (field line 0) ≡ Some l → admits_to s l ≡ true → Read (item_by l s line)
  unfolding property_item define_item
  by-line word.Prop w ok =
      tested (eqb (length (fields line)) 4) _
      (λ n. tested (is_new (map name_of s.properties) (field line 1)) (field_start line 1)
      (λ new. on-type (type_of (field line 2)) (field_start line 2) _ (λ t. on-flags (flags_of (field line 3)) (field_start line 3) (field line 1) t w ok new)))
  by-line word.Define w ok =
      tested (eqb (length (fields line)) 3) _
      (λ n. tested (is_new (map define_name s.defines) (field line 1)) (field_start line 1) (λ new. reads w (and-true (admits_to s word.Define) _ ok new) (refl, omega (arith, count 3 n))))
  by-line word.Show w ok = tested (eqb (length (fields line)) 2) _ (λ n. reads w (and-true (admits_to s word.Show) _ ok refl) (refl, omega (arith, count 2 n)))
  by-line word.Color w ok = tested (eqb (length (fields line)) 2) _ (λ n. reads w (and-true (admits_to s word.Color) _ ok refl) (refl, omega (arith, count 2 n)))
  by-line word.Cond w ok = tested (eqb (length (fields line)) 3) _ (λ n. reads w (and-true (admits_to s word.Cond) _ ok refl) (refl, refl, omega (arith, count 3 n)))
  by-line word.Feat w ok = eight 0

  by-word : (o : Option Line) → line_of (field line 0) ≡ o → Read (on_word o s line)
  by-word None w = eight 0
  by-word (Some l) w = tested (admits_to s l) 0 (λ ok. by-line l w ok)

  item-read : Read (item_of s line)
  unfolding item_of
  item-read = by-word (line_of (field line 0)) refl

  -- it has the word of its item
  pub item-stands : (i : Item) → item_of s line ≡ fine i → (line_of (field line 0) ≡ Some (word_of i)) × (may_stand s i ≡ true)
  item-stands i h = go (item_of s line) item-read h
    where
      go : (j : Judged Item) → Read j → j ≡ fine i → (line_of (field line 0) ≡ Some (word_of i)) × (may_stand s i ≡ true)
      go (refused r) read h = absurd cc
      go (fine x) (reads w ok own) h =
          let e = ap (fine_in x) h in
          (w ∙ ap (λ i. Some (word_of i)) e, ap (may_stand s) (sym e) ∙ ok)

  -- and its expressions
  pub item-fields : (i : Item) → item_of s line ≡ fine i → FieldsOf line i
  item-fields i h = go (item_of s line) item-read h
    where
      go : (j : Judged Item) → Read j → j ≡ fine i → FieldsOf line i
      go (refused r) read h = absurd cc
      go (fine x) (reads w ok own) h = subst (FieldsOf line) (ap (fine_in x) h) own

  pub item-eight : (r : Refusal) → item_of s line ≡ refused r → reason_number r.reason ≡ 8
  item-eight r h = go (item_of s line) item-read h
    where
      go : (j : Judged Item) → Read j → j ≡ refused r → reason_number r.reason ≡ 8
      go (refused x) (eight p) h = ap (λ j. reason_number (refusal_in r j).reason) (sym h)
      go (fine x) read h = absurd cc

  -- and says what its item says
  pub said-item : (i : Item) → item_of s line ≡ fine i → line_said s line ≡ item_judged s i
  unfolding line_said
  said-item i h = on_fine_lem (item_judged s) h

  pub said-eight : (r : Refusal) → item_of s line ≡ refused r → line_said s line ≡ refused r
  unfolding line_said
  said-eight r h = on-refused (item_judged s) h

  -- one that adds something has an item
  pub said-fine : (e : Entry) → line_said s line ≡ fine e → (i : Item) × (item_of s line ≡ fine i)
  said-fine e h = go (item_of s line) refl
    where
      go : (j : Judged Item) → item_of s line ≡ j → (i : Item) × (item_of s line ≡ fine i)
      go (refused r) q = absurd (false≢true (ap is_fine (sym (said-eight r q) ∙ h)))
      go (fine i) q = (i, q)

-- ---- lines that give items

pub gives-from : (ls : List (List ℕ)) (is : List Item) (n : ℕ) (s : Style) → Gives s ls is → head_from n s ls ≡ items_from n s is
gives-from [] [] n s g = refl
gives-from [] (i ∷ is) n s g = absurd g
gives-from (l ∷ ls) [] n s g = absurd g
gives-from (l ∷ ls) (i ∷ is) n s g =
    ap (λ j. on_line n j (λ e. head_from (suc n) (with s e) ls)) (said-item s l i g.0) ∙ go (item_judged s i) refl (λ e. gives-from ls is (suc n) (with s e))
  where
    go : (j : Judged Entry) → item_judged s i ≡ j → ((e : Entry) → Gives (with s e) ls is → head_from (suc n) (with s e) ls ≡ items_from (suc n) (with s e) is) →
        on_line n j (λ e. head_from (suc n) (with s e) ls) ≡ on_line n j (λ e. items_from (suc n) (with s e) is)
    go (refused r) q onward = refl
    go (fine e) q onward = onward e (g.1 e q)

pub gives-stand : (ls : List (List ℕ)) (is : List Item) (s : Style) → Gives s ls is → Stand s is
gives-stand [] [] s g = tt
gives-stand [] (i ∷ is) s g = absurd g
gives-stand (l ∷ ls) [] s g = absurd g
gives-stand (l ∷ ls) (i ∷ is) s g = ((item-stands s l i g.0).1, λ e q. gives-stand ls is (with s e) (g.1 e q))

-- what one entry gives, any does: there is one
only : (s : Style) (i : Item) (P : Entry → Type 0) (e : Entry) → item_judged s i ≡ fine e → P e → (x : Entry) → item_judged s i ≡ fine x → P x
only s i P e q p x h = subst P (ap (fine_in e) (sym q ∙ h)) p

pub accepted-gives : (ls : List (List ℕ)) (n : ℕ) (s t : Style) → head_from n s ls ≡ accepted t → (is : List Item) × Gives s ls is
accepted-gives [] n s t h = ([], tt)
accepted-gives (l ∷ ls) n s t h =
    let (e, q, rest) = first_fine line_said head_from (λ n s. refl) (λ n s l ls. refl) n s t l ls h in
    let (i, read) = said-fine s l e q in
    let (is, g) = accepted-gives ls (suc n) (with s e) t rest in
    (i ∷ is, (read, only s i (λ e. Gives (with s e) ls is) e (sym (said-item s l i read) ∙ q) g))

-- one line more
gives_more : (ls : List (List ℕ)) (is : List Item) (k : ℕ) (s t : Style) (l : List ℕ) (i : Item) → Gives s ls is → items_from k s is ≡ accepted t → item_of t l ≡ fine i → Gives s (ls ++ l ∷ []) (is ++ i ∷ [])
gives_more [] [] k s t l i g h read = (ap (λ s. item_of s l) (ap (accepted_in t) h) ∙ read, λ e q. tt)
gives_more [] (j ∷ is) k s t l i g h read = absurd g
gives_more (m ∷ ls) [] k s t l i g h read = absurd g
gives_more (m ∷ ls) (j ∷ is) k s t l i g h read =
    let (e, q, rest) = first_fine item_judged items_from (λ n s. refl) (λ n s i is. refl) k s t j is h in
    (g.0, only s j (λ e. Gives (with s e) (ls ++ l ∷ []) (is ++ i ∷ [])) e q (gives_more ls is (suc k) (with s e) t l i (g.1 e q) rest read))

-- of lines that are accepted each has its item
size : (ls : List (List ℕ)) (is : List Item) (k : ℕ) (s t : Style) → Gives s ls is → items_from k s is ≡ accepted t → length ls ≡ length is
size [] [] k s t g h = refl
size [] (i ∷ is) k s t g h = absurd g
size (l ∷ ls) [] k s t g h = absurd g
size (l ∷ ls) (i ∷ is) k s t g h =
    let (e, q, rest) = first_fine item_judged items_from (λ n s. refl) (λ n s i is. refl) k s t i is h in
    ap suc (size ls is (suc k) (with s e) t (g.1 e q) rest)

-- the line of an item, behind items that give a style
record Split (s t : Style) (ls : List (List ℕ)) (items : List Item) (i : Item) : Type 0 where
  before : List (List ℕ)
  line : List ℕ
  after : List (List ℕ)
  is : ls ≡ before ++ line ∷ after
  gives : Gives s before items
  read : item_of t line ≡ fine i

split : (ls : List (List ℕ)) (items : List Item) (i : Item) (after : List Item) (k : ℕ) (s t : Style) → Gives s ls (items ++ i ∷ after) → items_from k s items ≡ accepted t → Split s t ls items i
split [] [] i after k s t g h = absurd g
split [] (x ∷ items) i after k s t g h = absurd g
split (l ∷ ls) [] i after k s t g h =
    record { before = []; line = l; after = ls; is = refl; gives = tt; read = ap (λ s. item_of s l) (sym (ap (accepted_in t) h)) ∙ g.0 }
split (l ∷ ls) (x ∷ items) i after k s t g h =
    let (e, q, rest) = first_fine item_judged items_from (λ n s. refl) (λ n s i is. refl) k s t x items h in
    let r = split ls items i after (suc k) (with s e) t (g.1 e q) rest in
    record {
      before = l ∷ r.before;
      line = r.line;
      after = r.after;
      is = ap (λ (ls : List (List ℕ)). l ∷ ls) r.is;
      gives = (g.0, only s x (λ e. Gives (with s e) r.before items) e q r.gives);
      read = r.read;
    }

-- ---- a head

pub line_at : (head : List ℕ) (n : ℕ) (items : List Item) (s : Style) (i : Item) → Gives empty (take n (lines head)) items → ItemAt items n s i →
    (line : List ℕ) × LineAt head n s line × (item_of s line ≡ fine i)
line_at head n items s i g at =
    let x = split (take n (lines head)) at.before i at.after 1 empty s (subst (Gives empty (take n (lines head))) at.is g) at.given in
    let behind : List (List ℕ) = drop n (lines head) in (
      x.line,
      record {
        before = x.before;
        after = x.after ++ behind;
        is =
            sym (take-append-drop n (lines head))
            ∙ ap (λ (ls : List (List ℕ)). ls ++ behind) x.is
            ∙ append_assoc x.before (x.line ∷ x.after) behind;
        number = at.number ∙ ap suc (sym (size x.before at.before 1 empty s x.gives at.given));
        given = gives-from x.before at.before 1 empty x.gives ∙ at.given;
      },
      x.read,
    )

-- it is refused exactly as one of its lines is, behind lines that give a style
pub refused-line : (head : List ℕ) (n : ℕ) (r : Refusal) → (head_of head ≡ refusal n r) ↔ Refused head n r
unfolding head_of
refused-line head n r = (
  (λ h.
      let (s, l, at, q) = refused-at line_said head_from (λ n s. refl) (λ n s l ls. refl) (lines head) n r h in
      record { style = s; line = l; stands = at; said = q }),
  (λ x. refused-by line_said head_from (λ n s. refl) (λ n s l ls. refl) (lines head) n r x.style x.line x.stands x.said),
)

-- the lines up to one
lines-up-to : {A : Type 0} (before after : List A) (x : A) → take (suc (length before)) (before ++ x ∷ after) ≡ before ++ x ∷ []
lines-up-to [] after x = refl
lines-up-to (y ∷ before) after x = ap (λ ys. y ∷ ys) (lines-up-to before after x)

-- and a line by an 8, or as an expression that is reached in its item
pub refused-origin : (head : List ℕ) (n : ℕ) (r : Refusal) → Refused head n r ↔ (NoItem head n r ⊎ LineOrigin head n r)
refused-origin head n r = (to, from)
  where
    to : Refused head n r → NoItem head n r ⊎ LineOrigin head n r
    to x = go (item_of x.style x.line) refl
      where
        at : LineAt head n x.style x.line
        at = x.stands

        go : (j : Judged Item) → item_of x.style x.line ≡ j → NoItem head n r ⊎ LineOrigin head n r
        go (refused e) q =
            let same : item_of x.style x.line ≡ refused r = q ∙ ap (λ j. refused (refusal_in e j)) (sym (said-eight x.style x.line e q) ∙ x.said) in
            inl (record { style = x.style; line = x.line; stands = at; said = same; eight = item-eight x.style x.line r same })
        go (fine i) q =
            let (items, g) = accepted-gives at.before 1 empty x.style at.given in
            let given = sym (gives-from at.before items 1 empty g) ∙ at.given in
            let (c, want, text, a, e) = item_refused x.style i r (sym (said-item x.style x.line i q) ∙ x.said) in
            let first : take n (lines head) ≡ at.before ++ x.line ∷ [] = ap₂ take at.number at.is ∙ lines-up-to at.before at.after x.line in
            inr (record {
              items = items ++ i ∷ [];
              gives = subst (λ ls. Gives empty ls (items ++ i ∷ [])) (sym first) (gives_more at.before items 1 empty x.style x.line i g given q);
              origin = record {
                style = x.style;
                scope = c;
                want = want;
                text = text;
                is = record {
                  reached = record { item = i; stands = record { before = items; after = []; is = refl; number = at.number ∙ ap suc (size at.before items 1 empty x.style g given); given = given }; asks = a };
                  refused = e;
                };
              };
            })

    from : NoItem head n r ⊎ LineOrigin head n r → Refused head n r
    from (inl x) = record { style = x.style; line = x.line; stands = x.stands; said = said-eight x.style x.line r x.said }
    from (inr x) =
        let o = x.origin in
        let at = o.is.reached in
        let (l, stands, read) = line_at head n x.items o.style at.item x.gives at.stands in
        record { style = o.style; line = l; stands = stands; said = said-item o.style l at.item read ∙ asks-refused o.style at.asks r o.is.refused }

-- ---- the properties come first

-- behind any other entry no property may stand
later : (a b c d e : ℕ) → (b ≡ 0 → c ≡ 0 → d ≡ 0 → e ≡ 0 → ⊥) → admits word.Prop a b c d e ≡ false
unfolding admits
later a b c d e h = go (ltb a most_properties) (eqb b 0) refl (eqb c 0) refl (eqb d 0) refl (eqb e 0) refl
  where
    go : (t u : Bool) → eqb b 0 ≡ u → (v : Bool) → eqb c 0 ≡ v → (w : Bool) → eqb d 0 ≡ w → (x : Bool) → eqb e 0 ≡ x → t && (u && (v && (w && x))) ≡ false
    go false u p v q w r x k = refl
    go true false p v q w r x k = refl
    go true true p false q w r x k = refl
    go true true p true q false r x k = refl
    go true true p true q true r false k = refl
    go true true p true q true r true k = absurd (h (eqb-true b 0 p) (eqb-true c 0 q) (eqb-true d 0 r) (eqb-true e 0 k))

abbrev Shut : Style → Type 0
Shut s = admits_to s word.Prop ≡ false

more : {A : Type 0} (xs : List A) (x : A) → length (xs ++ x ∷ []) ≡ 0 → ⊥
more xs x h = omega (arith, length-append xs (x ∷ []))

-- such an item shuts a style for them, and leaves those that it has
shuts : (s : Style) (i : Item) (e : Entry) → is_property (Some (word_of i)) ≡ false → Adds s i e → Shut (with s e) × ((with s e).properties ≡ s.properties)
shuts s i e not (property d) = absurd (true≢false not)
shuts s i e not (define {name} x h) = (later _ _ _ _ _ (λ a b c d. more s.defines (record { name = name; expression = x }) a), refl)
shuts s i e not (show x h) = (later _ _ _ _ _ (λ a b c d. more s.shows x b), refl)
shuts s i e not (color x h) = (later _ _ _ _ _ (λ a b c d. more s.colours x c), refl)
shuts s i e not (condition t x h k) = (later _ _ _ _ _ (λ a b c d. more s.conditions (record { test = t; colour = x }) d), refl)

-- a property leaves a style of properties alone one
stays : (s : Style) (i : Item) (e : Entry) → is_property (Some (word_of i)) ≡ true → s ≡ properties_of s → Adds s i e → with s e ≡ properties_of (with s e)
stays s i e is_one a (property d) = ap (λ (s : Style). with s (entry.property d)) a
stays s i e is_one a (define x h) = absurd (false≢true is_one)
stays s i e is_one a (show x h) = absurd (false≢true is_one)
stays s i e is_one a (color x h) = absurd (false≢true is_one)
stays s i e is_one a (condition t x h k) = absurd (false≢true is_one)

-- where none may stand no item is one
other : (s : Style) (i : Item) → Shut s → may_stand s i ≡ true → is_property (Some (word_of i)) ≡ false
other s (item.property d) shut ok = absurd (false≢true (sym shut ∙ (both (admits_to s word.Prop) _ ok).0))
other s (item.define name text) shut ok = refl
other s (item.show text) shut ok = refl
other s (item.color text) shut ok = refl
other s (item.condition test colour) shut ok = refl

-- so the properties stay
stay : (s t : Style) (is : List Item) (k : ℕ) → Stand s is → Shut s → items_from k s is ≡ accepted t → t.properties ≡ s.properties
stay s t is k st shut h = (from-items (λ x. Shut x × (x.properties ≡ s.properties)) keeps is k s st (shut, refl) t h).1
  where
    keeps : (x : Style) (i : Item) (e : Entry) → Shut x × (x.properties ≡ s.properties) → may_stand x i ≡ true → Adds x i e → Shut (with x e) × ((with x e).properties ≡ s.properties)
    keeps x i e p ok a =
        let (shut, same) = shuts x i e (other x i p.0 ok) a in
        (shut, same ∙ p.1)

-- a line that is none of a property's ends those
no-property : (l : List ℕ) (ls : List (List ℕ)) (i : Item) → line_of (field l 0) ≡ Some (word_of i) → is_property (Some (word_of i)) ≡ false → property_lines (l ∷ ls) ≡ []
no-property l ls i e h = passed _ (ap is_property e ∙ h) refl

-- the lines of the properties give these and no more, whatever is behind the lines that give a style and begins with no property
module _ (rest : List (List ℕ)) (none : property_lines rest ≡ []) where
  alone : (ls : List (List ℕ)) (is : List Item) (k : ℕ) (s t : Style) → s ≡ properties_of s → Gives s ls is → items_from k s is ≡ accepted t →
      head_from k s (property_lines (ls ++ rest)) ≡ accepted (properties_of t)
  alone [] [] k s t a g h = ap (head_from k s) none ∙ ap accepted (a ∙ ap (λ x. properties_of (accepted_in t x)) h)
  alone [] (i ∷ is) k s t a g h = absurd g
  alone (l ∷ ls) [] k s t a g h = absurd g
  alone (l ∷ ls) (i ∷ is) k s t a g h =
      let (e, q, onward) = first_fine item_judged items_from (λ n s. refl) (λ n s i is. refl) k s t i is h in
      go e q onward (item-adds s i e q) (is_property (Some (word_of i))) refl (λ a. alone ls is (suc k) (with s e) t a (g.1 e q) onward)
    where
      word-is : line_of (field l 0) ≡ Some (word_of i)
      word-is = (item-stands s l i g.0).0

      -- and no line behind one that adds something else
      go : (e : Entry) → item_judged s i ≡ fine e → items_from (suc k) (with s e) is ≡ accepted t → Adds s i e → (b : Bool) → is_property (Some (word_of i)) ≡ b →
          (with s e ≡ properties_of (with s e) → head_from (suc k) (with s e) (property_lines (ls ++ rest)) ≡ accepted (properties_of t)) →
          head_from k s (property_lines (l ∷ (ls ++ rest))) ≡ accepted (properties_of t)
      go e q onward adds true is_one below =
          ap (head_from k s) (taken [] (ap is_property word-is ∙ is_one) refl)
          ∙ next-fine line_said head_from (λ n s. refl) (λ n s l ls. refl) k s l (property_lines (ls ++ rest)) e (said-item s l i g.0 ∙ q)
          ∙ below (stays s i e is_one a adds)
      go e q onward adds false is_none below =
          let (shut, same) = shuts s i e is_none adds in
          let kept = stay (with s e) t is (suc k) (gives-stand ls is (with s e) (g.1 e q)) shut onward in
          ap (head_from k s) (no-property l (ls ++ rest) i word-is is_none)
          ∙ ap accepted (a ∙ ap (λ ds. record { properties = ds; defines = []; shows = []; colours = []; conditions = [] }) (sym (kept ∙ same)))

first-lines : (ls : List (List ℕ)) → take (length (property_lines ls)) ls ≡ property_lines ls
first-lines [] = refl
first-lines (l ∷ ls) = go (is_property (line_of (field l 0))) (first-lines ls)
  where
    go : (b : Bool) → take (length (property_lines ls)) ls ≡ property_lines ls → take (length (cond b (l ∷ property_lines ls) [])) (l ∷ ls) ≡ cond b (l ∷ property_lines ls) []
    go true h = ap (λ (r : List (List ℕ)). l ∷ r) h
    go false h = refl

module _ (head : List ℕ) where
  schema-lines : lines (schema_text head) ≡ property_lines (lines head)
  schema-lines =
      let first = first-lines (lines head) in
      ap (λ ls. lines (take (bytes_of ls) head)) (sym first) ∙ lines-front head (length (property_lines (lines head))) ∙ first

  -- so does a head's first text
  schema-of : (before rest : List (List ℕ)) (s : Style) → lines head ≡ before ++ rest → head_from 1 empty before ≡ accepted s → property_lines rest ≡ [] → head_of (schema_text head) ≡ accepted (properties_of s)
  unfolding head_of
  schema-of before rest s is h none =
      let (items, g) = accepted-gives before 1 empty s h in
      ap (head_from 1 empty) (schema-lines ∙ ap property_lines is)
      ∙ alone rest none before items 1 empty s refl g (sym (gives-from before items 1 empty g) ∙ h)

  pub given-schema : (s : Style) → head_of head ≡ accepted s → head_of (schema_text head) ≡ accepted (properties_of s)
  unfolding head_of
  given-schema s g = schema-of (lines head) [] s (sym (append-nil (lines head))) g refl

  -- where an expression is reached, the properties are all before it
  pub reached-schema : (n : ℕ) (items : List Item) (s : Style) (c : Scope) (want : Wanted) (text : List ℕ) → Gives empty (take n (lines head)) items → Reached items n s c want text →
      head_of (schema_text head) ≡ accepted (properties_of s)
  reached-schema n items s c want text g r =
      let (l, at, read) = line_at head n items s r.item g r.stands in
      schema-of at.before (l ∷ at.after) s at.is at.given (no-property l at.after r.item (item-stands s l r.item read).0 (no-prop r.asks))
    where
      no-prop : {i : Item} {c : Scope} {want : Wanted} {text : List ℕ} → Asks s i c want text → is_property (Some (word_of i)) ≡ false
      no-prop asks.define = refl
      no-prop asks.show = refl
      no-prop asks.color = refl
      no-prop asks.condition = refl
      no-prop (asks.colour t a) = refl
