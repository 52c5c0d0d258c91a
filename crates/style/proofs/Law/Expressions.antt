-- One expression: what the judge, the names and the checker say together.
use Rattle.std.specs.Prelude.{Result, Ok, Err}
use mathlib.Core.Path.{◌≡◌, refl, sym, ◌∙◌, ap, subst}
use mathlib.Core.List.{List}
use Prim.Native.Nat.{ℕ, zero, suc, ◌+◌, ◌-◌, ◌<◌, ◌≤◌}
use native.Mathlib.Omega.{arith}
use borrow.Author.Tests.{le-ltb}
use lib.ListN.{length, take, drop}
use lib.Seq.{slice, length-slice}
use Rattle.lexer.specs.Refusal.{Judged, refused, fine, on_fine}
use Rattle.lexer.specs.Token.{lexeme_at}
use Rattle.lexer.specs.declared.refusal.Refusal.{Refusal}
use Rattle.lexer.specs.declared.token.Token.{Token}
use Rattle.lexer.specs.declared.token.Token.TheVariants as token
use Rattle.lexer.specs.declared.token.Lexeme.{Lexeme}
use Rattle.lexer.specs.declared.token.Lexeme.TheVariants.{Found, Bad, End}
use Rattle.lexer.proofs.Law.Spelling.{slice_is}
use Rattle.kind.specs.declared.set.Kinds.{Kinds}
use Rattle.tree.specs.Tree.{Tree, place}
use Rattle.tree.specs.Slots.{put, variable_tag}
use Rattle.tree.proofs.Law.Places.{root-within, root-shape}
use Rattle.syntax.specs.Judge.{judged_of, root_of, judgement_of, slots_after}
use Rattle.syntax.specs.Judge as judge
use Rattle.syntax.proofs.Laid.{judged-fits}
use Rattle.checker.specs.Name.{name_in, name_at, number_of, numbered, onward, resolved_from, resolved_slots}
use Rattle.checker.specs.Property.{packed_of}
use Rattle.checker.specs.Kinds.{kinds_of, result_of}
use Rattle.checker.specs.Check.{checked_at}
use Rattle.checker.specs.Check as checker
use Rattle.checker.specs.declared.name.Scope.{Scope}
use Rattle.checker.specs.declared.check.Wanted.{Wanted}
use Rattle.checker.proofs.Resolved.{number-below}
use Rattle.checker.proofs.Named.{checked-named}
use Rattle.checker.proofs.Law.Names.{found-stands, one-step}
use Rattle.text.specs.Parts.{field, field_start}
use Rattle.text.specs.Slice.{put_back}
use Rattle.text.specs.declared.part.Part.{Part}
use Rattle.style.specs.Style.{Style, kinds_in, number_in}
use Rattle.style.specs.Expression.{by_kinds, expression_of}
use Rattle.style.specs.Compile.{laid}
use Rattle.style.specs.Inner.{Says, scope_of, wanted_of, judged_for, EnteredBy, FieldBy}
use Rattle.style.specs.declared.expression.Purpose.{Purpose}
use Rattle.style.specs.declared.expression.Entered.{Entered}
use Rattle.style.specs.declared.item.Before.{Before}
use Rattle.style.proofs.Law.Items.{field-text}

-- ---- numbers of names that are alike

-- a variable's name is not empty
module _ (number number' : List ℕ → ℕ) (alike : (x : List ℕ) → 0 < length x → number x ≡ number' x) (text : List ℕ) where
  numbered-alike : (from : ℕ) (t : Token) (at end : ℕ) (w : List ℕ) → lexeme_at text from ≡ Found t at end → numbered number text t at end w ≡ numbered number' text t at end w
  numbered-alike from (token.Number digits places) at end w e = refl
  numbered-alike from token.String at end w e = refl
  numbered-alike from token.Variable at end w e =
      let st = found-stands text from (lexeme_at text from) refl token.Variable at end e in
      let some : 0 < length (name_in text at end) = omega (arith, st.long refl, st.inside, length-slice (at + 2) (end - 1) text (omega (arith, st.inside))) in
      ap (put w at variable_tag) (alike (name_in text at end) some)
  numbered-alike from (token.Word k) at end w e = refl
  numbered-alike from (token.Punctuator k) at end w e = refl

  from-alike : (n from : ℕ) (w : List ℕ) → resolved_from number text n from w ≡ resolved_from number' text n from w
  unfolding resolved_from
  from-alike zero from w = refl
  from-alike (suc n) from w = one-step number text from w n _ refl ∙ go (lexeme_at text from) refl (from-alike n) ∙ sym (one-step number' text from w n _ refl)
    where
      go : (x : Lexeme) → lexeme_at text from ≡ x → ((from : ℕ) (w : List ℕ) → resolved_from number text n from w ≡ resolved_from number' text n from w) →
          onward number text x w (resolved_from number text n) ≡ onward number' text x w (resolved_from number' text n)
      go (Found t at end) e rest = rest end (numbered number text t at end w) ∙ ap (resolved_from number' text n end) (numbered-alike from t at end w e)
      go (Bad at end) e rest = refl
      go End e rest = refl

  resolved-alike : (w : List ℕ) → resolved_slots number text w ≡ resolved_slots number' text w
  resolved-alike w = from-alike (length text) 0 w

-- ---- what the judge answers

fine-is : (j : Judged Tree) (r : ℕ) → root_of j ≡ fine r → (e : Tree) × (j ≡ fine e) × (r ≡ place e)
fine-is (fine e) r h = (e, refl, cc)
fine-is (refused x) r h = absurd cc

refused-is : (j : Judged Tree) (x : Refusal) → root_of j ≡ refused x → j ≡ refused x
refused-is (fine e) x h = absurd cc
refused-is (refused y) x h = cc

-- ---- an expression and the slots beside it

module _ (q : Purpose) (b : Before) (text w : List ℕ) (room : length w ≡ length text) (r : Result ℕ Refusal) (is : judge.answer_of r ≡ judgement_of (length w) text) where
  -- with as many slots as bytes
  judged-is : root_of (judged_of text) ≡ judge.answer_of r
  judged-is = sym (is ∙ rw (le-ltb (length w) (length text) (omega arith)))

  pub judge-refuses : (x : Refusal) → r ≡ Err x → (v : List ℕ) → EnteredBy q b text w v (Err x)
  unfolding expression_of
  judge-refuses x e v =
      λ s reads.
      ap (λ j. on_fine j (λ e. by_kinds (checker.answer_of (result_of (wanted_of q) (length text) (kinds_of (λ p n. kinds_in (scope_of q) s (name_at text p)) e))) text e))
      (refused-is (judged_of text) x (judged-is ∙ ap judge.answer_of e))

  module _ (root : ℕ) (e : r ≡ Ok root) (c : Scope) (is_c : c ≡ scope_of q) (v : List ℕ) (beside : v ≡ resolved_slots (number_of c b.head.now b.names.now) text (slots_after w text)) (want : Wanted)
      (is-want : want ≡ wanted_of q) (said : Result Kinds Refusal) (checked : checker.answer_of said ≡ checked_at v b.plan.now root want (length text)) where
    tree : (t : Tree) × (judged_of text ≡ fine t) × (root ≡ place t)
    tree = fine-is (judged_of text) root (judged-is ∙ ap judge.answer_of e)

    small : (x : List ℕ) → number_of (scope_of q) b.head.now b.names.now x < 1024
    small x = omega (arith, number-below (scope_of q) b.head.now b.names.now x)

    root-small : root < 1024
    root-small =
        let d = judged-fits text tree.0 tree.1 in
        omega (arith, tree.2, root-shape tree.0, d.0, (root-within 0 (length text) _ d.2).1)

    beside-q : v ≡ resolved_slots (number_of (scope_of q) b.head.now b.names.now) text (slots_after w text)
    beside-q = beside ∙ ap (λ (c : Scope). resolved_slots (number_of c b.head.now b.names.now) text (slots_after w text)) is_c

    module _ (s : Style) (reads : Says b s) where
      -- the checker's verdict is that on the tree, by its names
      by_names : checker.answer_of (result_of (wanted_of q) (length text) (kinds_of (λ p n. kinds_in (scope_of q) s (name_at text p)) tree.0)) ≡ checker.answer_of said
      by_names =
          sym
          (checked
          ∙ (λ i. checked_at (beside-q i) b.plan.now (tree.2 i) (is-want i) (length text))
          ∙ checked-named (number_of (scope_of q) b.head.now b.names.now) small text w tree.0 tree.1 (omega arith) b.plan.now (wanted_of q) (length text)
          ∙ (λ i. checker.answer_of (result_of (wanted_of q) (length text) (kinds_of (λ p n. reads.kinds (scope_of q) (name_at text p) i) tree.0))))

      judged-as : judged_for q s text ≡ by_kinds (checker.answer_of said) text tree.0
      unfolding expression_of
      judged-as =
          ap (λ j. on_fine j (λ e. by_kinds (checker.answer_of (result_of (wanted_of q) (length text) (kinds_of (λ p n. kinds_in (scope_of q) s (name_at text p)) e))) text e)) tree.1
          ∙ ap (λ a. by_kinds a text tree.0) by_names

    pub check-refuses : (x : Refusal) → said ≡ Err x → EnteredBy q b text w v (Err x)
    check-refuses x h = λ s reads. judged-as s reads ∙ ap (λ a. by_kinds (checker.answer_of a) text tree.0) h

    pub check-accepts : (k : Kinds) (byte : ℕ) → said ≡ Ok k → byte ≡ packed_of k → EnteredBy q b text w v (Ok (record { root = root; set = byte }))
    check-accepts k byte h packed = λ s reads. (
      record { text = text; tree = tree.0; kinds = k },
      judged-as s reads ∙ ap (λ a. by_kinds (checker.answer_of a) text tree.0) h,
      record {
        own = refl;
        rooted = tree.2;
        small = root-small;
        set = packed;
        beside = beside-q ∙ resolved-alike (number_of (scope_of q) b.head.now b.names.now) (number_in (scope_of q) s) (reads.numbers (scope_of q)) text (slots_after w text);
      },
    )

-- ---- a field

module _ (q : Purpose) (p : Part) (b : Before) (line w : List ℕ) (order : p.start ≤ p.end) (inside : p.end ≤ length line) (u : List ℕ) (r : Result Entered Refusal)
    (by : EnteredBy q b (take (p.end - p.start) (drop p.start line)) (take (p.end - p.start) (drop p.start w)) u r) where
  pub field-refused : (x : Refusal) → r ≡ Err x → (v : List ℕ) → FieldBy q p b line w v (Err x)
  field-refused x e v =
      λ i lies s says.
      subst (λ (t : List ℕ). judged_for q s t ≡ refused x) (field-text line i p lies) (subst (EnteredBy q b _ _ u) e by s says)

  pub field-accepted : (y : Entered) → r ≡ Ok y → FieldBy q p b line w (put_back w p.start p.end u) (Ok (record { text = p; root = y.root; set = y.set }))
  unfolding laid
  field-accepted y e =
      λ i lies s says.
      let x = subst (EnteredBy q b _ _ u) e by s says in
      let own : x.0.text ≡ field line i = x.2.own ∙ field-text line i p lies in
      let size : length x.0.text ≡ p.end - p.start = ap length (own ∙ sym lies.is) ∙ length-slice p.start p.end line inside in
      let to : p.end ≡ p.start + length x.0.text = omega (arith, size, order) in
      let from : p.start ≡ field_start line i = lies.begins in
      let same_w : take (p.end - p.start) (drop p.start w) ≡ slice p.start p.end w = sym (slice_is p.start p.end w) in (
        x.0,
        subst (λ (t : List ℕ). judged_for q s t ≡ fine x.0) (field-text line i p lies) x.1,
        record { lies = lies; own = own; rooted = x.2.rooted; small = x.2.small; set = x.2.set },
        (λ j. put_back w p.start (to j) (x.2.beside j))
            ∙ (λ j. put_back w p.start (p.start + length x.0.text) (resolved_slots (number_in (scope_of q) s) (sym x.2.own j) (slots_after (same_w j) (sym x.2.own j))))
            ∙ (λ j. put_back w p.start (p.start + length x.0.text) (resolved_slots (number_in (scope_of q) s) x.0.text (slots_after (slice p.start (to j) w) x.0.text)))
            ∙ (λ j. put_back w (from j) (from j + length x.0.text) (resolved_slots (number_in (scope_of q) s) x.0.text (slots_after (slice (from j) (from j + length x.0.text) w) x.0.text))),
      )
