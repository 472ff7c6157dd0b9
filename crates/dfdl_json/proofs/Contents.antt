-- What content says of an element, and what is left to be read.
use Rattle.std.proofs.Common.{◌≡◌, ℕ, suc, ◌+◌, ◌<◌, ◌≤◌, ◌||◌, cond, true, false, List, [], ◌∷◌, ◌++◌, length, drop, fold, All, get_or, Bool, Option, None, Some, slice_get, refl, sym, ap, ◌∙◌, arith, append_assoc, drop-cons, Bor}
use Rattle.std.proofs.Math.ListN.{drop_of_length-le}
use Rattle.std.proofs.lemmas.Grind.{fold-append}
use Rattle.std.proofs.lemmas.List.Elements.{All-append, All-cons, All-head, All-nil, All-tail}
use Rattle.serde_json.specs.Data.{Data, null, boolean, number, string, array, object, Members}
use Rattle.serde_json.specs.Find.{get_member}
use Rattle.serde_json.specs.View.{items_view, view}
use Rattle.serde_json.specs.declared.value.Value.{Value}
use Rattle.dfdl_forms.specs.declared.simple.Simple.{Simple}
use Rattle.dfdl_terms.specs.declared.representations.Representations.{Representations}
use Rattle.dfdl_terms.specs.declared.statement.Statements.{Statements}
use Rattle.dfdl_terms.specs.declared.delimiters.Delimiter.{Delimiter}
use Rattle.dfdl_terms.specs.declared.prefix.Measure.{Measure}
use Rattle.dfdl_terms.specs.declared.prefix.Prefix.{Prefix}
use Rattle.dfdl_terms.specs.declared.keys.Key.{Key}
use Rattle.dfdl_terms.specs.declared.slots.Slot.{Slot}
use Rattle.dfdl_separators.specs.declared.policy.SeparatorPosition.{SeparatorPosition}
use Rattle.dfdl_separators.specs.declared.policy.SeparatorSuppressionPolicy.{SeparatorSuppressionPolicy}
use Rattle.dfdl_terms.specs.declared.row.Row.TheVariants.{Leaf, Elem, Group, Skip, Align, Initiator, Terminator, Separator, Scope, Boxed, PrefixedLeaf, PrefixedBox, MeasuredLeaf, MeasuredBox, Repeat, Counted, Optional, Choice, Dispatch, Statement, Concluded, Hidden, Spanned, Instance, Separated}
use Rattle.dfdl_terms.specs.declared.event.Event.TheVariants.{Start, Nil, End}
use Rattle.dfdl_terms.specs.Arrays.{is_item}
use Rattle.dfdl_terms.specs.Rows.{Table}
use Rattle.dfdl_json.specs.ByRows.{below}
use Rattle.dfdl_json.specs.Children.{elements_in, name_of}
use Rattle.dfdl_json.specs.Found.{Found, noted}
use Rattle.dfdl_json.specs.Hidden.{is_hidden}
use Rattle.dfdl_json.specs.Members.{is_declared, members_in, with_member}
use Rattle.dfdl_json.specs.Paths.{Names, step_to}
use Rattle.dfdl_json.specs.Infosets.{Finding, Says, findings_by, findings, is_nil, unless_nil, value_in, simple_findings, complex_findings, children_findings, member_findings, array_findings, items_findings, unknown_findings}
use Rattle.dfdl_json.specs.Reading.{coming, data_at, steps_left}
use Rattle.dfdl_json.specs.ReadingSteps.{array_cost, children_cost, complex_cost, cost, cost_by, items_cost, member_cost}
use Rattle.dfdl_json.specs.Steps.{total}
use Rattle.dfdl_json.specs.declared.reading.Task.{Task}
use Rattle.dfdl_json.specs.declared.reading.Task.TheVariants.{Read, Item, Array}
use Rattle.dfdl_json.proofs.RowValues.{row_is, below_is, flat_map_same, map_same}
use Rattle.dfdl_json.proofs.Below.{are_below}

-- what holds of each of these elements holds of those that have members
all_with : (t : Table) (P : ℕ → Type 0) (members : List ℕ) (row : ℕ) (b : Bool) → P row → All P members → All P (cond b members (members ++ row ∷ []))
all_with t P members row true here all = all
all_with t P members row false here all = All-append P members (row ∷ []) all (All-cons P row [] here (All-nil P))

all_folded : (t : Table) (P : ℕ → Type 0) (members elements : List ℕ) → All P members → All P elements → All P (fold (with_member t) members elements)
all_folded t P members [] all others = all
all_folded t P members (row ∷ rows) all others =
    all_folded t P (with_member t members row) rows
    (all_with t P members row (is_hidden t row || is_declared t members (name_of t row)) (All-head P row rows others) all) (All-tail P row rows others)

pub all_members : (t : Table) (P : ℕ → Type 0) (body : ℕ) → All P (elements_in t body) → All P (members_in t body)
all_members t P body all = all_folded t P [] (elements_in t body) (All-nil P) all

-- members that say the same
member_same : (t : Table) (f g : ℕ → Option ℕ → Data → Names → List Finding) (names : Names) (row : ℕ) (o : Option Data) → f row ≡ g row
    → member_findings t f names row o ≡ member_findings t g names row o
member_same t f g names row None same = refl
member_same t f g names row (Some content) same =
    ap (λ h. cond (is_item t.rows row) (array_findings h (name_of t row) names content) (h None content names)) same

-- children that say the same
children_same : (t : Table) (bound : ℕ) (f g : ℕ → Option ℕ → Data → Names → List Finding) → ((c : ℕ) → c < bound → f c ≡ g c) → (elements : List ℕ)
    → All (λ c. c < bound) elements → (names : Names) (entries : Members)
    → children_findings t f elements names entries ≡ children_findings t g elements names entries
children_same t bound f g same elements within names entries =
    flat_map_same bound (λ row. member_findings t f names row (get_member (name_of t row) entries)) (λ row. member_findings t g names row (get_member (name_of t row) entries))
    (λ c less. member_same t f g names c (get_member (name_of t c) entries) (same c less)) elements within

complex_same : (t : Table) (bound : ℕ) (f g : ℕ → Option ℕ → Data → Names → List Finding) → ((c : ℕ) → c < bound → f c ≡ g c) → (row : ℕ) (elements : List ℕ)
    → All (λ c. c < bound) elements → (names : Names) (content : Data)
    → complex_findings t f row elements names content ≡ complex_findings t g row elements names content
complex_same t bound f g same row elements within names null = refl
complex_same t bound f g same row elements within names (boolean b) = refl
complex_same t bound f g same row elements within names (number n) = refl
complex_same t bound f g same row elements within names (string text) = refl
complex_same t bound f g same row elements within names (array items) = refl
complex_same t bound f g same row elements within names (object entries) =
    ap (λ fs. Says (Start row) ∷ (unknown_findings t elements names entries ++ (fs ++ Says End ∷ [])))
    (children_same t bound f g same elements within names entries)

-- members that take the same steps
member_costs : (t : Table) (f g : ℕ → Data → ℕ) (row : ℕ) (o : Option Data) → f row ≡ g row → member_cost t f row o ≡ member_cost t g row o
member_costs t f g row None same = refl
member_costs t f g row (Some content) same = ap (λ h. cond (is_item t.rows row) (array_cost h content) (suc (h content))) same

complex_costs : (t : Table) (bound : ℕ) (f g : ℕ → Data → ℕ) → ((c : ℕ) → c < bound → f c ≡ g c) → (elements : List ℕ) → All (λ c. c < bound) elements → (content : Data)
    → complex_cost t f elements content ≡ complex_cost t g elements content
complex_costs t bound f g same elements within null = refl
complex_costs t bound f g same elements within (boolean b) = refl
complex_costs t bound f g same elements within (number n) = refl
complex_costs t bound f g same elements within (string text) = refl
complex_costs t bound f g same elements within (array items) = refl
complex_costs t bound f g same elements within (object entries) =
    ap (λ ns. suc (total ns))
    (map_same bound (λ row. member_cost t f row (get_member (name_of t row) entries)) (λ row. member_cost t g row (get_member (name_of t row) entries))
    (λ c less. member_costs t f g c (get_member (name_of t c) entries) (same c less)) elements within)

-- the elements that have members in a row stand below it
members_below : (t : Table) (row body : ℕ) → body < row → All (λ c. c < row) (members_in t body)
members_below t row body less = all_members t (λ c. c < row) body (λ k d here. omega (arith, less, (are_below t body).within k d here))

module _ (t : Table) (row : ℕ) (place : Option ℕ) (content : Data) (around : Names) where
  pub simple_says : (name : List ℕ) (kind : Simple) (tried : Representations) (behind : Statements) (body : ℕ) → slice_get t.rows row ≡ Some (Elem name (Some kind) tried behind body)
      → findings t row place content around
      ≡ unless_nil (is_nil tried.nil content) row (simple_findings row (step_to name place ∷ around) (value_in kind content))
  simple_says name kind tried behind body is =
      ap (λ f. f place content around) (row_is (findings_by t) (λ p c a. []) t.rows row (Some (Elem name (Some kind) tried behind body)) is)

  pub complex_says : (name : List ℕ) (tried : Representations) (behind : Statements) (body : ℕ) → slice_get t.rows row ≡ Some (Elem name None tried behind body) → body < row
      → findings t row place content around
      ≡ unless_nil (is_nil tried.nil content) row (complex_findings t (findings t) row (members_in t body) (step_to name place ∷ around) content)
  complex_says name tried behind body is less =
      ap (λ f. f place content around) (row_is (findings_by t) (λ p c a. []) t.rows row (Some (Elem name None tried behind body)) is)
      ∙ ap (λ fs. unless_nil (is_nil tried.nil content) row fs)
      (complex_same t row (below (findings_by t) (λ p c a. []) t.rows row) (findings t) (λ c under. below_is (findings_by t) (λ p d a. []) t.rows row c under) row
      (members_in t body) (members_below t row body less) (step_to name place ∷ around) content)

  pub leaf_says : (prim : ℕ) → slice_get t.rows row ≡ Some (Leaf prim) → findings t row place content around ≡ []
  leaf_says prim is = ap (λ f. f place content around) (row_is (findings_by t) (λ p c a. []) t.rows row (Some (Leaf prim)) is)

  pub skip_says : (bits : ℕ) → slice_get t.rows row ≡ Some (Skip bits) → findings t row place content around ≡ []
  skip_says bits is = ap (λ f. f place content around) (row_is (findings_by t) (λ p c a. []) t.rows row (Some (Skip bits)) is)

  pub align_says : (bits : ℕ) → slice_get t.rows row ≡ Some (Align bits) → findings t row place content around ≡ []
  align_says bits is = ap (λ f. f place content around) (row_is (findings_by t) (λ p c a. []) t.rows row (Some (Align bits)) is)

  pub initiator_says : (delimiter : Delimiter) → slice_get t.rows row ≡ Some (Initiator delimiter) → findings t row place content around ≡ []
  initiator_says delimiter is = ap (λ f. f place content around) (row_is (findings_by t) (λ p c a. []) t.rows row (Some (Initiator delimiter)) is)

  pub terminator_says : (delimiter : Delimiter) (separators : Option ℕ) → slice_get t.rows row ≡ Some (Terminator delimiter separators) → findings t row place content around ≡ []
  terminator_says delimiter separators is = ap (λ f. f place content around) (row_is (findings_by t) (λ p c a. []) t.rows row (Some (Terminator delimiter separators)) is)

  pub separator_says : slice_get t.rows row ≡ Some Separator → findings t row place content around ≡ []
  separator_says is = ap (λ f. f place content around) (row_is (findings_by t) (λ p c a. []) t.rows row (Some Separator) is)

  pub box_says : (bits body : ℕ) → slice_get t.rows row ≡ Some (Boxed bits body) → findings t row place content around ≡ []
  box_says bits body is = ap (λ f. f place content around) (row_is (findings_by t) (λ p c a. []) t.rows row (Some (Boxed bits body)) is)

  pub scope_says : (list body : ℕ) → slice_get t.rows row ≡ Some (Scope list body) → findings t row place content around ≡ []
  scope_says list body is = ap (λ f. f place content around) (row_is (findings_by t) (λ p c a. []) t.rows row (Some (Scope list body)) is)

  pub prefixed_leaf_says : (prefix : Prefix) (prim : ℕ) → slice_get t.rows row ≡ Some (PrefixedLeaf prefix prim) → findings t row place content around ≡ []
  prefixed_leaf_says prefix prim is = ap (λ f. f place content around) (row_is (findings_by t) (λ p c a. []) t.rows row (Some (PrefixedLeaf prefix prim)) is)

  pub measured_leaf_says : (measure : Measure) (prim : ℕ) → slice_get t.rows row ≡ Some (MeasuredLeaf measure prim) → findings t row place content around ≡ []
  measured_leaf_says measure prim is = ap (λ f. f place content around) (row_is (findings_by t) (λ p c a. []) t.rows row (Some (MeasuredLeaf measure prim)) is)

  pub prefixed_box_says : (prefix : Prefix) (body : ℕ) → slice_get t.rows row ≡ Some (PrefixedBox prefix body) → findings t row place content around ≡ []
  prefixed_box_says prefix body is = ap (λ f. f place content around) (row_is (findings_by t) (λ p c a. []) t.rows row (Some (PrefixedBox prefix body)) is)

  pub measured_box_says : (measure : Measure) (body : ℕ) → slice_get t.rows row ≡ Some (MeasuredBox measure body) → findings t row place content around ≡ []
  measured_box_says measure body is = ap (λ f. f place content around) (row_is (findings_by t) (λ p c a. []) t.rows row (Some (MeasuredBox measure body)) is)

  pub repeat_says : (count body : ℕ) → slice_get t.rows row ≡ Some (Repeat count body) → findings t row place content around ≡ []
  repeat_says count body is = ap (λ f. f place content around) (row_is (findings_by t) (λ p c a. []) t.rows row (Some (Repeat count body)) is)

  pub counted_says : (question body : ℕ) → slice_get t.rows row ≡ Some (Counted question body) → findings t row place content around ≡ []
  counted_says question body is = ap (λ f. f place content around) (row_is (findings_by t) (λ p c a. []) t.rows row (Some (Counted question body)) is)

  pub optional_says : (most : ℕ) (item initiated : Bool) (body : ℕ) → slice_get t.rows row ≡ Some (Optional most item initiated body) → findings t row place content around ≡ []
  optional_says most item initiated body is = ap (λ f. f place content around) (row_is (findings_by t) (λ p c a. []) t.rows row (Some (Optional most item initiated body)) is)

  pub choice_says : (branches : List ℕ) (initiated : Bool) → slice_get t.rows row ≡ Some (Choice branches initiated) → findings t row place content around ≡ []
  choice_says branches initiated is = ap (λ f. f place content around) (row_is (findings_by t) (λ p c a. []) t.rows row (Some (Choice branches initiated)) is)

  pub dispatch_says : (question : ℕ) (keys : List Key) → slice_get t.rows row ≡ Some (Dispatch question keys) → findings t row place content around ≡ []
  dispatch_says question keys is = ap (λ f. f place content around) (row_is (findings_by t) (λ p c a. []) t.rows row (Some (Dispatch question keys)) is)

  pub statement_says : (statement : ℕ) → slice_get t.rows row ≡ Some (Statement statement) → findings t row place content around ≡ []
  statement_says statement is = ap (λ f. f place content around) (row_is (findings_by t) (λ p c a. []) t.rows row (Some (Statement statement)) is)

  pub concluded_says : (behind : Statements) (body : ℕ) → slice_get t.rows row ≡ Some (Concluded behind body) → findings t row place content around ≡ []
  concluded_says behind body is = ap (λ f. f place content around) (row_is (findings_by t) (λ p c a. []) t.rows row (Some (Concluded behind body)) is)

  pub hidden_says : (body : ℕ) → slice_get t.rows row ≡ Some (Hidden body) → findings t row place content around ≡ []
  hidden_says body is = ap (λ f. f place content around) (row_is (findings_by t) (λ p c a. []) t.rows row (Some (Hidden body)) is)

  pub spanned_says : (body : ℕ) → slice_get t.rows row ≡ Some (Spanned body) → findings t row place content around ≡ []
  spanned_says body is = ap (λ f. f place content around) (row_is (findings_by t) (λ p c a. []) t.rows row (Some (Spanned body)) is)

  pub instance_says : (statement body : ℕ) → slice_get t.rows row ≡ Some (Instance statement body) → findings t row place content around ≡ []
  instance_says statement body is = ap (λ f. f place content around) (row_is (findings_by t) (λ p c a. []) t.rows row (Some (Instance statement body)) is)

  pub separated_says : (policy : SeparatorSuppressionPolicy) (position : SeparatorPosition) (initiated : Bool) (slots : List Slot)
      → slice_get t.rows row ≡ Some (Separated policy position initiated slots) → findings t row place content around ≡ []
  separated_says policy position initiated slots is =
      ap (λ f. f place content around) (row_is (findings_by t) (λ p c a. []) t.rows row (Some (Separated policy position initiated slots)) is)

  pub group_says : (children : List ℕ) → slice_get t.rows row ≡ Some (Group children) → findings t row place content around ≡ []
  group_says children is = ap (λ f. f place content around) (row_is (findings_by t) (λ p c a. []) t.rows row (Some (Group children)) is)

  pub no_row_says : slice_get t.rows row ≡ None → findings t row place content around ≡ []
  no_row_says is = ap (λ f. f place content around) (row_is (findings_by t) (λ p c a. []) t.rows row None is)

-- the steps of a complex element
pub complex_steps : (t : Table) (row : ℕ) (content : Data) (name : List ℕ) (tried : Representations) (behind : Statements) (body : ℕ)
    → slice_get t.rows row ≡ Some (Elem name None tried behind body) → body < row → cost t row content ≡ complex_cost t (cost t) (members_in t body) content
complex_steps t row content name tried behind body is less =
    ap (λ f. f content) (row_is (cost_by t) (λ c. 0) t.rows row (Some (Elem name None tried behind body)) is)
    ∙ complex_costs t row (below (cost_by t) (λ c. 0) t.rows row) (cost t) (λ c under. below_is (cost_by t) (λ d. 0) t.rows row c under) (members_in t body)
    (members_below t row body less) content

-- the elements from a place on, with their members, before the tasks of the beginning
pub record ArePushed (t : Table) (elements : List ℕ) (at : ℕ) (entries : Members) (tasks start : List Task) (contents first : List Data) : Type 0 where
  pub within : at ≤ length elements
  pub coming : (names : Names) → coming t tasks contents names
      ≡ children_findings t (findings t) (drop at elements) names entries ++ coming t start first names
  pub steps : steps_left t tasks contents ≡ children_cost t (cost t) (drop at elements) entries + steps_left t start first

pub pushed_none : (t : Table) (elements : List ℕ) (at : ℕ) (entries : Members) (tasks : List Task) (contents : List Data) → at ≡ length elements
    → ArePushed t elements at entries tasks tasks contents contents
pushed_none t elements at entries tasks contents is =
    let none : drop at elements ≡ [] = drop_of_length-le elements (omega (arith, is)) in
    record {
      within = omega (arith, is);
      coming = λ names. ap (λ rows. children_findings t (findings t) rows names entries ++ coming t tasks contents names) (sym none);
      steps = let nothing : children_cost t (cost t) (drop at elements) entries ≡ 0 = ap (λ rows. children_cost t (cost t) rows entries) none in omega (arith, nothing);
    }

-- the member of an element's name is there
pub found_there : (t : Table) (row : ℕ) (entries : Members) (name : List ℕ) (content : Data) → Some content ≡ get_member name entries → name ≡ name_of t row
    → get_member (name_of t row) entries ≡ Some content
found_there t row entries name content is named = ap (λ n. get_member n entries) (sym named) ∙ sym is

-- how the member of an element is read
abbrev pub reading_if : Bool → ℕ → Task
reading_if b row = cond b (Array row) (Read row)

-- the task that is put
pub task_put : (row : ℕ) (tasks now : List Task) (task : Task) (b : Bool) → now ≡ task ∷ tasks → task ≡ reading_if b row → now ≡ reading_if b row ∷ tasks
task_put row tasks now task b is task_is = is ∙ ap (λ k. k ∷ tasks) task_is

member_comes : (t : Table) (row : ℕ) (content : Data) (tasks : List Task) (contents : List Data) (names : Names) (b : Bool)
    → coming t (reading_if b row ∷ tasks) (content ∷ contents) names
    ≡ cond b (array_findings (findings t row) (name_of t row) names content) (findings t row None content names) ++ coming t tasks contents names
member_comes t row content tasks contents names true = refl
member_comes t row content tasks contents names false = refl

member_steps : (t : Table) (row : ℕ) (content : Data) (tasks : List Task) (contents : List Data) (b : Bool)
    → steps_left t (reading_if b row ∷ tasks) (content ∷ contents) ≡ cond b (array_cost (cost t row) content) (suc (cost t row content)) + steps_left t tasks contents
member_steps t row content tasks contents true = refl
member_steps t row content tasks contents false = refl

module _ (t : Table) (elements : List ℕ) (k at row : ℕ) (entries : Members) (tasks start : List Task) (contents first : List Data)
    (is : at ≡ suc k) (row_is_it : row ≡ get_or elements k row) (pushed : ArePushed t elements at entries tasks start contents first) where
  left : drop k elements ≡ row ∷ drop at elements
  left = drop-cons elements k row (omega (arith, is, pushed.within)) ∙ rw (← row_is_it, is) refl

  less : k ≤ length elements
  less = omega (arith, is, pushed.within)

  abbrev others : Names → List Finding
  others names = children_findings t (findings t) (drop at elements) names entries

  said : (names : Names) (o : Option Data) → get_member (name_of t row) entries ≡ o
      → (member_findings t (findings t) names row o ++ others names) ++ coming t start first names
      ≡ children_findings t (findings t) (drop k elements) names entries ++ coming t start first names
  said names o there =
      ap (λ m. (member_findings t (findings t) names row m ++ others names) ++ coming t start first names) (sym there)
      ∙ ap (λ rows. children_findings t (findings t) rows names entries ++ coming t start first names) (sym left)

  costs : (o : Option Data) → get_member (name_of t row) entries ≡ o
      → children_cost t (cost t) (drop k elements) entries ≡ member_cost t (cost t) row o + children_cost t (cost t) (drop at elements) entries
  costs o there =
      ap (λ rows. children_cost t (cost t) rows entries) left
      ∙ ap (λ m. member_cost t (cost t) row m + children_cost t (cost t) (drop at elements) entries) there

  -- its member is absent
  pub pushed_absent : get_member (name_of t row) entries ≡ None → ArePushed t elements k entries tasks start contents first
  pushed_absent absent = record {
    within = less;
    coming = λ names. pushed.coming names ∙ said names None absent;
    steps = omega (arith, costs None absent, pushed.steps);
  }

  -- it is there
  pub pushed_member : (content : Data) (now : List Task) (with : List Data) (marked : Bool) → get_member (name_of t row) entries ≡ Some content
      → marked ≡ is_item t.rows row → now ≡ reading_if marked row ∷ tasks → with ≡ content ∷ contents → ArePushed t elements k entries now start with first
  pushed_member content now with marked there marked_is now_is with_is =
      let task : now ≡ reading_if (is_item t.rows row) row ∷ tasks = now_is ∙ ap (λ b. reading_if b row ∷ tasks) marked_is in
      let own : Names → List Finding = λ names. member_findings t (findings t) names row (Some content) in
      rw (task, with_is) (record {
        within = less;
        coming = λ names. member_comes t row content tasks contents names (is_item t.rows row)
            ∙ (ap (λ fs. own names ++ fs) (pushed.coming names)
            ∙ (sym (append_assoc (own names) (others names) (coming t start first names))
            ∙ said names (Some content) there));
        steps = omega (arith, member_steps t row content tasks contents (is_item t.rows row), costs (Some content) there, pushed.steps);
      })

-- the items of an array from a place on, before the tasks of the beginning
pub record AreItemsPushed (row : ℕ) (items : List Value) (at : ℕ) (tasks start : List Task) (contents first : List Data) : Type 0 where
  pub within : at ≤ length items
  pub coming : (t : Table) (names : Names) → coming t tasks contents names
      ≡ items_findings (findings t row) names (suc at) (items_view (drop at items)) ++ coming t start first names
  pub steps : (t : Table) → steps_left t tasks contents ≡ items_cost (cost t row) (items_view (drop at items)) + steps_left t start first

pub no_items_pushed : (row : ℕ) (items : List Value) (at : ℕ) (tasks : List Task) (contents : List Data) → at ≡ length items
    → AreItemsPushed row items at tasks tasks contents contents
no_items_pushed row items at tasks contents is =
    let none : drop at items ≡ [] = drop_of_length-le items (omega (arith, is)) in
    record {
      within = omega (arith, is);
      coming = λ t names. ap (λ vs. items_findings (findings t row) names (suc at) (items_view vs) ++ coming t tasks contents names) (sym none);
      steps = λ t. let nothing : items_cost (cost t row) (items_view (drop at items)) ≡ 0 = ap (λ vs. items_cost (cost t row) (items_view vs)) none in omega (arith, nothing);
    }

pub item_pushed : (row : ℕ) (items : List Value) (k at : ℕ) (value : Value) (tasks start now : List Task) (contents first with : List Data)
    → at ≡ suc k → value ≡ get_or items k value → now ≡ Item row (k + 1) ∷ tasks → with ≡ view value ∷ contents
    → AreItemsPushed row items at tasks start contents first → AreItemsPushed row items k now start with first
item_pushed row items k at value tasks start now contents first with is value_is now_is with_is pushed =
    let left : drop k items ≡ value ∷ drop at items = drop-cons items k value (omega (arith, is, pushed.within)) ∙ rw (← value_is, is) refl in
    let place : k + 1 ≡ suc k = omega arith in
    let task : now ≡ Item row (suc k) ∷ tasks = now_is ∙ ap (λ n. Item row n ∷ tasks) place in
    rw (task, with_is) (record {
      within = omega (arith, is, pushed.within);
      coming = λ t names. ap (λ fs. findings t row (Some (suc k)) (view value) names ++ fs) (pushed.coming t names)
          ∙ (sym (append_assoc (findings t row (Some (suc k)) (view value) names) (items_findings (findings t row) names (suc at) (items_view (drop at items))) (coming t start first names))
          ∙ (ap (λ n. (findings t row (Some (suc k)) (view value) names ++ items_findings (findings t row) names (suc n) (items_view (drop at items))) ++ coming t start first names) is
          ∙ ap (λ vs. items_findings (findings t row) names (suc k) (items_view vs) ++ coming t start first names) (sym left)));
      steps = λ t.
          let more : items_cost (cost t row) (items_view (drop k items)) ≡ suc (cost t row (view value)) + items_cost (cost t row) (items_view (drop at items))
          = ap (λ vs. items_cost (cost t row) (items_view vs)) left in
          omega (arith, more, pushed.steps t);
    })

-- what is read of a row, before what is left
module _ (t : Table) (row : ℕ) (place : Option ℕ) (content : Data) (around : Names) (found : Found) (tasks : List Task) (contents : List Data) where
  abbrev pub Comes : Found → Type 0
  Comes now = now ≡ fold noted found (findings t row place content around ++ coming t tasks contents around)

  says_then : (fs : List Finding) → findings t row place content around ≡ fs
      → fold noted found (fs ++ coming t tasks contents around) ≡ fold noted found (findings t row place content around ++ coming t tasks contents around)
  says_then fs is = ap (λ xs. fold noted found (xs ++ coming t tasks contents around)) (sym is)

  -- an element that is nil, simple or not
  pub nil_comes : (name : List ℕ) (simple : Option Simple) (tried : Representations) (behind : Statements) (body : ℕ) (now : Found)
      → slice_get t.rows row ≡ Some (Elem name simple tried behind body) → is_nil tried.nil content ≡ true → now ≡ noted found (Says (Nil row))
      → Comes (fold noted now (coming t tasks contents around))
  nil_comes name (Some kind) tried behind body now is nil now_is =
      ap (λ f. fold noted f (coming t tasks contents around)) now_is
      ∙ says_then (Says (Nil row) ∷ [])
      (simple_says t row place content around name kind tried behind body is
      ∙ ap (λ b. unless_nil b row (simple_findings row (step_to name place ∷ around) (value_in kind content))) nil)
  nil_comes name None tried behind body now is nil now_is =
      ap (λ f. fold noted f (coming t tasks contents around)) now_is
      ∙ says_then (Says (Nil row) ∷ [])
      (ap (λ f. f place content around) (row_is (findings_by t) (λ p c a. []) t.rows row (Some (Elem name None tried behind body)) is)
      ∙ ap (λ b. unless_nil b row (complex_findings t (below (findings_by t) (λ p c a. []) t.rows row) row (members_in t body) (step_to name place ∷ around) content)) nil)

  pub simple_comes : (name : List ℕ) (kind : Simple) (tried : Representations) (behind : Statements) (body : ℕ) (now : Found) → slice_get t.rows row ≡ Some (Elem name (Some kind) tried behind body)
      → is_nil tried.nil content ≡ false → now ≡ fold noted found (simple_findings row (step_to name place ∷ around) (value_in kind content))
      → Comes (fold noted now (coming t tasks contents around))
  simple_comes name kind tried behind body now is other now_is =
      ap (λ f. fold noted f (coming t tasks contents around)) now_is
      ∙ (sym (fold-append noted found (simple_findings row (step_to name place ∷ around) (value_in kind content)) (coming t tasks contents around))
      ∙ says_then (simple_findings row (step_to name place ∷ around) (value_in kind content))
      (simple_says t row place content around name kind tried behind body is
      ∙ ap (λ b. unless_nil b row (simple_findings row (step_to name place ∷ around) (value_in kind content))) other))

  pub complex_comes : (name : List ℕ) (tried : Representations) (behind : Statements) (body : ℕ) (now : Found) → slice_get t.rows row ≡ Some (Elem name None tried behind body) → body < row
      → is_nil tried.nil content ≡ false
      → now ≡ fold noted found (complex_findings t (findings t) row (members_in t body) (step_to name place ∷ around) content ++ coming t tasks contents around)
      → Comes now
  complex_comes name tried behind body now is less other now_is =
      now_is ∙ says_then (complex_findings t (findings t) row (members_in t body) (step_to name place ∷ around) content)
      (complex_says t row place content around name tried behind body is less
      ∙ ap (λ b. unless_nil b row (complex_findings t (findings t) row (members_in t body) (step_to name place ∷ around) content)) other)

  -- of a row that says nothing
  pub bare_comes : findings t row place content around ≡ [] → Comes (fold noted found (coming t tasks contents around))
  bare_comes none = says_then [] none

-- the same tasks are left, and one step less
pub less_left : (steps inside : ℕ) → steps < suc inside + steps
less_left steps inside = omega arith

-- the same is left
pub left_same : (t : Table) (found : Found) (tasks now : List Task) (contents with : List (Bor Value)) (around names : Names) → now ≡ tasks → with ≡ contents
    → names ≡ around → fold noted found (coming t now (data_at with) names) ≡ fold noted found (coming t tasks (data_at contents) around)
left_same t found tasks now contents with around names tasks_are contents_are names_are =
    rw (tasks_are, contents_are, names_are) refl

pub simple_less : (t : Table) (inside : ℕ) (tasks now : List Task) (contents with : List (Bor Value)) → now ≡ tasks → with ≡ contents
    → steps_left t now (data_at with) < suc inside + steps_left t tasks (data_at contents)
simple_less t inside tasks now contents with are with_is = rw (are, with_is) (less_left (steps_left t tasks (data_at contents)) inside)

pub complex_less : (t : Table) (row : ℕ) (content : Data) (name : List ℕ) (tried : Representations) (behind : Statements) (body steps left : ℕ)
    → slice_get t.rows row ≡ Some (Elem name None tried behind body) → body < row
    → steps < suc (complex_cost t (cost t) (members_in t body) content) + left → steps < suc (cost t row content) + left
complex_less t row content name tried behind body steps left is less few =
    omega (arith, complex_steps t row content name tried behind body is less, few)
