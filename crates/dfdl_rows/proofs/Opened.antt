-- The rows around the content of a sequence or choice, with the instances that are open in it: how many they are, what holds of each, and how they
-- are pushed.
use Rattle.std.proofs.Common.{◌≡◌, ℕ, zero, suc, ◌+◌, ◌<◌, Bool, true, false, nat_lt, if◌then◌else◌, List, [], ◌∷◌, ◌++◌, length, All, Option, None, Some, sym, ap, ◌∙◌, refl, arith, append_assoc, length-append}
use Rattle.std.proofs.lemmas.List.{append-nil}
use Rattle.std.proofs.lemmas.List.Elements.{All-nil, All-cons, All-append}
use Rattle.dfdl_terms.specs.declared.delimiters.Delimiter.{Delimiter}
use Rattle.dfdl_terms.specs.declared.framing.Framing.{Framing}
use Rattle.dfdl_terms.specs.declared.row.Row.{Row}
use Rattle.dfdl_terms.specs.declared.row.Row.TheVariants.{Group, Skip, Align, Initiator, Terminator, Statement, Instance}
use Rattle.dfdl_rows.specs.Framing.{framed, framed_row, framing_size, instance_rows, instances_from, instances_size, opened, opened_row, opened_size, outermost, tests_alone, untested, with_instances}
use Rattle.dfdl_rows.proofs.Framed.{framed_all, length_framed}
use Rattle.dfdl_rows.proofs.Nests.{NestsFrom, nests_none, nests_cons}

pub length_instances : (first count content from : ℕ) → length (instances_from first count content from) ≡ count
unfolding instances_from
length_instances first zero content from = refl
length_instances first (suc count) content from = omega (arith, length_instances first count from (from + 1))

pub outermost_below : (count content from : ℕ) → content < from → outermost count content from < from + count
unfolding outermost
outermost_below zero content from less = omega (arith, less)
outermost_below (suc count) content from less =
    let inside : outermost count from (from + 1) < from + 1 + count = outermost_below count from (from + 1) (omega arith) in
    omega (arith, inside)

-- they nest
pub instances_nest : (first count content from : ℕ) → content < from → NestsFrom from (instances_from first count content from)
unfolding instances_from
instances_nest first zero content from low = nests_none from
instances_nest first (suc count) content from low =
    nests_cons from (Instance (first + count) content) (instances_from first count from (from + 1)) low
    (instances_nest first count from (from + 1) (omega arith))

-- with instances and without
pub opened_cases : (f : Framing) (separators : Option ℕ) (content first : ℕ) (P : List Row → ℕ → Type 0) → P (framed f separators content first) (framing_size f separators)
    → P (with_instances f separators content first) (instances_size f separators) → P (opened f separators content first) (opened_size f separators)
unfolding opened opened_size
opened_cases f separators content first P none some = by (nat_lt 0 f.openings.count)
  where
    by : (b : Bool)
        → P (if b then with_instances f separators content first else framed f separators content first) (if b then instances_size f separators else framing_size f separators)
    by true = some
    by false = none

pub length_opened : (f : Framing) (separators : Option ℕ) (content first : ℕ) → length (opened f separators content first) ≡ opened_size f separators
length_opened f separators content first =
    let inside : ℕ = framed_row (untested f) separators content first in
    let behind : ℕ = first + framing_size (untested f) separators in
    let instances : List Row = instance_rows f.openings (framed_row (untested f) separators content first) (first + framing_size (untested f) separators) in
    let tests : List Row = framed (tests_alone f) None (opened_row f separators content first) (first + framing_size (untested f) separators + f.openings.count) in
    opened_cases f separators content first (λ rows size. length rows ≡ size) (length_framed f separators content first)
    (omega (
      arith,
      length-append (framed (untested f) separators content first) (instances ++ tests),
      length-append instances tests,
      length_framed (untested f) separators content first,
      length_instances f.openings.first f.openings.count inside behind,
      length_framed (tests_alone f) None (opened_row f separators content first) (first + framing_size (untested f) separators + f.openings.count),
    ))

-- what holds of instances
pub instances_all : (P : Row → Type 0) (first count content from : ℕ) → ((statement body : ℕ) → statement < first + count → P (Instance statement body))
    → All P (instances_from first count content from)
unfolding instances_from
instances_all P first zero content from holds = All-nil P
instances_all P first (suc count) content from holds =
    All-cons P (Instance (first + count) content) (instances_from first count from (from + 1)) (holds (first + count) content (omega arith))
    (instances_all P first count from (from + 1) (λ statement body less. holds statement body (omega (arith, less))))

-- and of all rows around the content
pub opened_all : (P : Row → Type 0) → ((bits : ℕ) → P (Skip bits)) → ((bits : ℕ) → P (Align bits)) → (f : Framing) (separators : Option ℕ)
    → ((statement : ℕ) → statement < f.before.first + f.before.count → P (Statement statement))
    → ((statement body : ℕ) → statement < f.openings.first + f.openings.count → P (Instance statement body))
    → ((statement : ℕ) → statement < f.settings.first + f.settings.count → P (Statement statement))
    → ((own : Delimiter) → f.initiator ≡ Some own → P (Initiator own)) → ((own : Delimiter) → f.terminator ≡ Some own → P (Terminator own separators))
    → ((children : List ℕ) → P (Group children)) → (content first : ℕ) → All P (opened f separators content first)
opened_all P skips aligns f separators tests instances settings initiators terminators groups content first =
    let inside : ℕ = framed_row (untested f) separators content first in
    let behind : ℕ = first + framing_size (untested f) separators in
    let own : List Row = instance_rows f.openings (framed_row (untested f) separators content first) (first + framing_size (untested f) separators) in
    let tested : List Row = framed (tests_alone f) None (opened_row f separators content first) (first + framing_size (untested f) separators + f.openings.count) in
    opened_cases f separators content first (λ rows size. All P rows)
    (framed_all P skips aligns f separators tests settings initiators terminators groups content first)
    (All-append P (framed (untested f) separators content first) (own ++ tested)
    (framed_all P skips aligns (untested f) separators (λ statement less. absurd (omega (arith, less))) settings initiators terminators groups content first)
    (All-append P own tested (instances_all P f.openings.first f.openings.count inside behind instances)
    (framed_all P skips aligns (tests_alone f) None tests (λ statement less. absurd (omega (arith, less))) (λ d is. absurd (cc)) (λ d is. absurd (cc)) groups
    (opened_row f separators content first) (first + framing_size (untested f) separators + f.openings.count))))

-- no instance is open
pub unopened : (f : Framing) (separators : Option ℕ) (content first : ℕ) → f.openings.count ≡ 0 → opened f separators content first ≡ framed f separators content first
unfolding opened
unopened f separators content first none = ap (λ (n : ℕ). if nat_lt 0 n then with_instances f separators content first else framed f separators content first) none

-- by a test of whether one is
module _ (f : Framing) (separators : Option ℕ) where
  pub opened_by : (content first : ℕ) (some : Bool) → nat_lt 0 f.openings.count ≡ some
      → opened f separators content first ≡ (if some then with_instances f separators content first else framed f separators content first)
  unfolding opened
  opened_by content first some is = ap (λ (b : Bool). if b then with_instances f separators content first else framed f separators content first) is

  pub size_by : (some : Bool) → nat_lt 0 f.openings.count ≡ some → opened_size f separators ≡ (if some then instances_size f separators else framing_size f separators)
  unfolding opened_size
  size_by some is = ap (λ (b : Bool). if b then instances_size f separators else framing_size f separators) is

-- one more instance is pushed around the others
module _ (first left behind : ℕ) (is : left ≡ suc behind) (statement content : ℕ) (statement_is : statement ≡ first + behind) (rows next : List Row)
    (next_is : next ≡ rows ++ Instance statement content ∷ []) where
  next_long : length next ≡ length rows + 1
  next_long = ap (λ (rs : List Row). length rs) next_is ∙ length-append rows (Instance statement content ∷ [])

  step : instances_from first left content (length rows) ≡ Instance statement content ∷ instances_from first behind (length rows) (length next)
  unfolding instances_from
  step =
      ap (λ (n : ℕ). instances_from first n content (length rows)) is
      ∙ (ap (λ (n : ℕ). Instance n content ∷ instances_from first behind (length rows) (length rows + 1)) (sym statement_is)
      ∙ ap (λ (n : ℕ). Instance statement content ∷ instances_from first behind (length rows) n) (sym next_long))

  pub instances_more : (body : ℕ) (whole : List Row) → body ≡ length rows → rows ++ instances_from first left content (length rows) ≡ whole
      → next ++ instances_from first behind body (length next) ≡ whole
  instances_more body whole body_is same =
      ap (λ (n : ℕ). next ++ instances_from first behind n (length next)) body_is
      ∙ (ap (λ (rs : List Row). rs ++ instances_from first behind (length rows) (length next)) next_is
      ∙ (append_assoc rows (Instance statement content ∷ []) (instances_from first behind (length rows) (length next))
      ∙ (ap (λ (rs : List Row). rows ++ rs) (sym step) ∙ same)))

  pub outermost_more : (body whole : ℕ) → body ≡ length rows → outermost left content (length rows) ≡ whole → outermost behind body (length next) ≡ whole
  unfolding outermost
  outermost_more body whole body_is same =
      ap (λ (n : ℕ). outermost behind n (length next)) body_is
      ∙ (ap (λ (n : ℕ). outermost behind (length rows) n) next_long
      ∙ (sym (ap (λ (n : ℕ). outermost n content (length rows)) is) ∙ same))

-- there is room for one
pub instances_few : (first left content : ℕ) (rows old : List Row) (count before most : ℕ) → 0 < left
    → rows ++ instances_from first left content (length rows) ≡ old ++ instances_from first count before (length old) → length old + count < most → length rows < most
instances_few first left content rows old count before most some same few =
    let long : length (rows ++ instances_from first left content (length rows)) ≡ length (old ++ instances_from first count before (length old))
    = ap (λ (rs : List Row). length rs) same in
    omega (
      arith,
      few,
      some,
      long,
      length-append rows (instances_from first left content (length rows)),
      length-append old (instances_from first count before (length old)),
      length_instances first left content (length rows),
      length_instances first count before (length old),
    )

-- all are pushed
pub instances_end : (first left content : ℕ) (rows whole : List Row) → left ≡ 0 → rows ++ instances_from first left content (length rows) ≡ whole → rows ≡ whole
unfolding instances_from
instances_end first left content rows whole none same =
    sym (append-nil rows) ∙ (ap (λ (n : ℕ). rows ++ instances_from first n content (length rows)) (sym none) ∙ same)

pub outermost_end : (left content from whole : ℕ) → left ≡ 0 → outermost left content from ≡ whole → content ≡ whole
unfolding outermost
outermost_end left content from whole none same = ap (λ (n : ℕ). outermost n content from) (sym none) ∙ same

-- what frames a content, the instances around it and the tests are pushed
module _ (f : Framing) (separators : Option ℕ) (content : ℕ) (rows inner : List Row) (inner_is : inner ≡ rows ++ framed (untested f) separators content (length rows)) where
  inner_long : length inner ≡ length rows + framing_size (untested f) separators
  inner_long =
      ap (λ (rs : List Row). length rs) inner_is
      ∙ (length-append rows (framed (untested f) separators content (length rows)) ∙ ap (λ (n : ℕ). length rows + n) (length_framed (untested f) separators content (length rows)))

  pub inner_few : (most : ℕ) → length rows + instances_size f separators < most → length inner + f.openings.count < most
  inner_few most few = omega (arith, few, inner_long)

  module _ (body : ℕ) (body_is : body ≡ framed_row (untested f) separators content (length rows)) (next : List Row)
      (next_is : next ≡ inner ++ instance_rows f.openings body (length inner)) where
    next_size : length next ≡ length inner + f.openings.count
    next_size =
        ap (λ (rs : List Row). length rs) next_is
        ∙ (length-append inner (instance_rows f.openings body (length inner))
        ∙ ap (λ (n : ℕ). length inner + n) (length_instances f.openings.first f.openings.count body (length inner)))

    pub tests_few : (most : ℕ) → length rows + instances_size f separators < most → length next + framing_size (tests_alone f) None < most
    tests_few most few = omega (arith, few, inner_long, next_size)

    pub instances_whole : (own : ℕ) (all : List Row) → own ≡ outermost f.openings.count body (length inner) → all ≡ next ++ framed (tests_alone f) None own (length next)
        → all ≡ rows ++ with_instances f separators content (length rows)
    instances_whole own all own_is all_is =
        let begin : ℕ = length rows + framing_size (untested f) separators in
        let frame : List Row = framed (untested f) separators content (length rows) in
        let inside : ℕ = framed_row (untested f) separators content (length rows) in
        let whole : ℕ = opened_row f separators content (length rows) in
        let instances : List Row = instance_rows f.openings (framed_row (untested f) separators content (length rows)) (length rows + framing_size (untested f) separators) in
        let own_row : own ≡ opened_row f separators content (length rows)
        = own_is
        ∙ (ap (λ (n : ℕ). outermost f.openings.count n (length inner)) body_is
        ∙ ap (λ (n : ℕ). outermost f.openings.count (framed_row (untested f) separators content (length rows)) n) inner_long) in
        let behind : length next ≡ length rows + framing_size (untested f) separators + f.openings.count
        = next_size ∙ ap (λ (n : ℕ). n + f.openings.count) inner_long in
        let tests : List Row = framed (tests_alone f) None (opened_row f separators content (length rows)) (length rows + framing_size (untested f) separators + f.openings.count) in
        let next_rows : next ≡ (rows ++ frame) ++ instances
        = next_is
        ∙ (ap (λ (n : ℕ). inner ++ instance_rows f.openings n (length inner)) body_is
        ∙ (ap (λ (n : ℕ). inner ++ instance_rows f.openings (framed_row (untested f) separators content (length rows)) n) inner_long
        ∙ ap (λ (rs : List Row). rs ++ instances) inner_is)) in
        all_is
        ∙ (ap (λ (n : ℕ). next ++ framed (tests_alone f) None n (length next)) own_row
        ∙ (ap (λ (n : ℕ). next ++ framed (tests_alone f) None (opened_row f separators content (length rows)) n) behind
        ∙ (ap (λ (rs : List Row). rs ++ tests) next_rows
        ∙ (append_assoc (rows ++ frame) instances tests ∙ append_assoc rows frame (instances ++ tests)))))
