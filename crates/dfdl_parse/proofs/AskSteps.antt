-- The steps of rows that ask an expression do a part of what is ahead.
use Rattle.std.proofs.Common.{◌≡◌, refl, ℕ, zero, suc, ◌+◌, ◌-◌, ◌<◌, nat_eq, nat_le, Bool, true, false, cond, List, [], ◌∷◌, Option, Some, None, Result, Ok, Err, All, ap, sym, subst, ◌∙◌, arith, replicate}
use Rattle.std.specs.Prelude.{bytes_eq, slice_get}
use Rattle.std.proofs.lemmas.Bool.Decides.{nat_tests}
use Rattle.dfdl_bits.specs.Window.{Held}
use Rattle.dfdl_expressions.specs.declared.node.Node.{Node}
use Rattle.dfdl_paths.specs.declared.place.Start.{Start}
use Rattle.dfdl_paths.specs.declared.place.Start.TheVariants.{At, Inside}
use Rattle.dfdl_surroundings.specs.Taking.{count_taken, text_taken}
use Rattle.dfdl_value.specs.declared.value.Value.{Value}
use Rattle.dfdl_vars.specs.Kept.{Kept}
use Rattle.dfdl_report.specs.declared.cause.ParseCause.{ParseCause}
use Rattle.dfdl_report.specs.declared.cause.ParseCause.TheVariants.{LengthOutOfRange, NegativeCount, NoDispatchBranch}
use Rattle.dfdl_terms.specs.Rows.{Table}
use Rattle.dfdl_terms.specs.declared.keys.Key.{Key}
use Rattle.dfdl_terms.specs.declared.prefix.Measure.{Measure}
use Rattle.dfdl_terms.specs.declared.row.Primitive.{Primitive}
use Rattle.dfdl_looks.specs.Tallies.{nothing, one_row}
use Rattle.dfdl_grammar.specs.declared.end.End.TheVariants.{Done}
use Rattle.dfdl_grammar.specs.States.{Input, State}
use Rattle.dfdl_grammar.specs.Outcomes.{Outcome, ended, spend, then_do}
use Rattle.dfdl_grammar.specs.Leaves.{nil_values}
use Rattle.dfdl_grammar.specs.Prefixes.{bits_of_units, size_of, sized_leaf}
use Rattle.dfdl_grammar.specs.Boxes.{boxed}
use Rattle.dfdl_grammar.specs.Questions.{asked_count, asked_key, counted, dispatched, measured_box, measured_leaf, question_at, row_by, taken_by, told_count, told_key}
use Rattle.dfdl_grammar.specs.Rows.{below, group, meaning}
use Rattle.dfdl_grammar.specs.Statements.{evaluated, with_reads}
use Rattle.dfdl_grammar.proofs.Spending.{spend-nothing}
use Rattle.dfdl_grammar.proofs.Towers.{below-meaning}
use Rattle.dfdl_parse.specs.declared.frame.Frame.{Frame}
use Rattle.dfdl_parse.specs.declared.frame.Frame.TheVariants.{Times}
use Rattle.dfdl_parse.specs.declared.frame.Focus.TheVariants.{Enter}
use Rattle.dfdl_parse.specs.declared.frame.Behind.TheVariants as behind
use Rattle.dfdl_parse.specs.Moves.{Machine}
use Rattle.dfdl_parse.specs.Prefixed.{at_end, behind_units}
use Rattle.dfdl_parse.specs.Asking.{begins, count_told, counted_begins, dispatch_begins, given_by, key_told, measured_begins, row_begins, row_told, times_begin, told, variables_behind}
use Rattle.dfdl_parse.specs.Ahead.{ahead, finish}
use Rattle.dfdl_parse.proofs.Finishes.{Does, after_nothing, finish-spend}
use Rattle.dfdl_parse.proofs.LeafSteps.{box-ahead, sized-begin}

-- the row to which a text leads is that of a key
found-below : (bound : ℕ) (keys : List Key) (text : List ℕ) (id : ℕ) → All (λ key. key.body < bound) keys → row_by keys text ≡ Some id → id < bound
unfolding row_by
found-below bound [] text id all is = absurd (cc)
found-below bound (key ∷ keys) text id all is =
    by (bytes_eq key.text text) (λ there. found-below bound keys text id (λ i d less. all (suc i) d (omega arith)) there) is
  where
    same : (body : ℕ) → Some body ≡ Some id → body ≡ id
    same body one = cc

    by : (equal : Bool) → (row_by keys text ≡ Some id → id < bound) → cond equal (Some key.body) (row_by keys text) ≡ Some id → id < bound
    by true later one = subst (λ (n : ℕ). n < bound) (same key.body one) (all 0 key (omega arith))
    by false later one = later one

module _ (input : Input) (table : Table) where
  -- behind a number that is told or isn't
  told-ahead : (cause : ParseCause) (follow : ℕ → State → Outcome) (next : ℕ → List Frame → State → Machine) (k : List Frame) (s : State)
      → ((number : ℕ) → finish input table k (follow number s) ≡ ahead input table (next number k s)) → (answer : Result (Option ℕ) ℕ)
      → finish input table k (told_count cause follow answer s) ≡ ahead input table (told cause next answer k s)
  told-ahead cause follow next k s goes (Ok None) = refl
  told-ahead cause follow next k s goes (Ok (Some number)) = goes number
  told-ahead cause follow next k s goes (Err fault) = refl

  -- behind a question, which reads variables
  count-ahead : (start : Start) (cause : ParseCause) (follow : ℕ → State → Outcome) (next : ℕ → List Frame → State → Machine) (k : List Frame) (s : State)
      → ((variables : Kept) (number : ℕ) → finish input table k (follow number (record s { variables = variables })) ≡ ahead input table (next number k (record s { variables = variables })))
      → (found : Option (List Node))
      → finish input table k (asked_count table start cause follow found s)
      ≡ ahead input table (told cause next (count_told (given_by table start found s)) k (record s { variables = variables_behind table start found s }))
  count-ahead start cause follow next k s goes None = refl
  count-ahead start cause follow next k s goes (Some expression) =
      let t : State = with_reads table start expression s in
      told-ahead cause follow next k t (goes t.variables) (count_taken (evaluated table start expression s))

  -- a content whose length a question tells
  pub measured_leaf-ahead : (held : Held) (measure : Measure) (prim : ℕ) (k : List Frame) (s : State)
      → Does input table
      (finish input table k (spend one_row (measured_leaf input table measure (nil_values table.primitives s.instead) (slice_get table.primitives prim) s)))
      (begins one_row held (measured_begins table measure (behind.Leaf prim) k s))
  measured_leaf-ahead held measure prim k s =
      let nil : Option (List Value) = nil_values table.primitives s.instead in
      let primitive : Option Primitive = slice_get table.primitives prim in
      finish-spend input table k one_row (measured_leaf input table measure nil primitive s)
      ∙ ap (spend one_row)
      (count-ahead (At s.inside) LengthOutOfRange (λ units after. sized_leaf input table.delimiters nil primitive (size_of measure.unit units) after)
      (behind_units table.primitives measure.unit (behind.Leaf prim)) k s
      (λ variables units. sized-begin input table prim (size_of measure.unit units) primitive k (record s { variables = variables }) refl)
      (question_at table measure.question))

  pub measured_box-ahead : (held : Held) (id : ℕ) (measure : Measure) (body : ℕ) (k : List Frame) (s : State) → body < id
      → Does input table (finish input table k (spend one_row (measured_box input table measure (below input table id body) s)))
      (begins one_row held (measured_begins table measure (behind.Box body) k s))
  measured_box-ahead held id measure body k s less =
      finish-spend input table k one_row (measured_box input table measure (below input table id body) s)
      ∙ ap (spend one_row)
      (count-ahead (At s.inside) LengthOutOfRange (λ units after. boxed input (bits_of_units measure.unit units) (below input table id body) after)
      (behind_units table.primitives measure.unit (behind.Box body)) k s
      (λ variables units. box-ahead input table id (bits_of_units measure.unit units) body k (record s { variables = variables }) less
      (nat_le (s.at + bits_of_units measure.unit units) s.stop))
      (question_at table measure.question))

  -- a row that stands so many times more
  times-ahead : (body left : ℕ) (k : List Frame) (s : State)
      → finish input table k (group (meaning input table) (replicate left body) s) ≡ ahead input table (times_begin body left k s)
  unfolding finish
  times-ahead body zero k s = refl
  times-ahead body (suc left) k s =
      let same : left ≡ suc left - 1 = omega arith in
      let some : nat_eq (suc left) 0 ≡ false = grind (arith, nat_tests) in
      ap (λ (n : ℕ). finish input table k (then_do (meaning input table body s) (group (meaning input table) (replicate n body)))) same
      ∙ ap (λ (none : Bool). ahead input table (cond none (at_end Done k s) (record { focus = Enter body; stack = Times body (suc left - 1) ∷ k; state = s }))) (sym some)

  -- rows below another one mean the same
  below-times : (id body count : ℕ) → body < id → (s : State) → group (below input table id) (replicate count body) s ≡ group (meaning input table) (replicate count body) s
  below-times id body zero less s = refl
  below-times id body (suc count) less s =
      let same : group (below input table id) (replicate count body) ≡ group (meaning input table) (replicate count body) =
      λ i t. below-times id body count less t i in
      ap (λ (o : Outcome). then_do o (group (below input table id) (replicate count body))) (below-meaning input table id body s less)
      ∙ ap (then_do (meaning input table body s)) same

  pub counted-ahead : (held : Held) (id question body : ℕ) (k : List Frame) (s : State) → body < id
      → Does input table (finish input table k (spend one_row (counted table (group (below input table id)) question body s)))
      (begins one_row held (counted_begins table question body k s))
  counted-ahead held id question body k s less =
      finish-spend input table k one_row (counted table (group (below input table id)) question body s)
      ∙ ap (spend one_row)
      (count-ahead (Inside s.inside) NegativeCount (λ count after. group (below input table id) (replicate count body) after) (times_begin body) k s
      (λ variables count. ap (finish input table k) (below-times id body count less (record s { variables = variables }))
      ∙ times-ahead body count k (record s { variables = variables }))
      (question_at table question))

  -- one of the times is done
  pub time-ahead : (held : Held) (body left : ℕ) (k : List Frame) (s : State)
      → Does input table (finish input table k (then_do (ended Done s) (group (meaning input table) (replicate left body))))
      (begins nothing held (times_begin body left k s))
  time-ahead held body left k s =
      let o : Outcome = group (meaning input table) (replicate left body) s in
      ap (finish input table k) (spend-nothing o) ∙ after_nothing input table k o ∙ ap (spend nothing) (times-ahead body left k s)

  -- the row to which a key leads
  row-ahead : (id : ℕ) (k : List Frame) (s : State) (row : Option ℕ) → ((n : ℕ) → row ≡ Some n → n < id)
      → finish input table k (taken_by (below input table id) row s) ≡ ahead input table (told NoDispatchBranch row_begins (Ok row) k s)
  row-ahead id k s None less = refl
  row-ahead id k s (Some row) less = ap (finish input table k) (below-meaning input table id row s (less row refl))

  key-ahead : (id : ℕ) (keys : List Key) (k : List Frame) (s : State) → All (λ key. key.body < id) keys → (text : Result (List ℕ) ℕ)
      → finish input table k (told_key (below input table id) keys text s) ≡ ahead input table (told NoDispatchBranch row_begins (row_told keys text) k s)
  key-ahead id keys k s all (Ok text) = row-ahead id k s (row_by keys text) (λ n is. found-below id keys text n all is)
  key-ahead id keys k s all (Err fault) = refl

  question-ahead : (id : ℕ) (start : Start) (keys : List Key) (k : List Frame) (s : State) → All (λ key. key.body < id) keys → (found : Option (List Node))
      → finish input table k (asked_key table start (below input table id) keys found s)
      ≡ ahead input table (told NoDispatchBranch row_begins (key_told keys (given_by table start found s)) k (record s { variables = variables_behind table start found s }))
  question-ahead id start keys k s all None = refl
  question-ahead id start keys k s all (Some expression) =
      key-ahead id keys k (with_reads table start expression s) all (text_taken (evaluated table start expression s))

  pub dispatch-ahead : (held : Held) (id question : ℕ) (keys : List Key) (k : List Frame) (s : State) → All (λ key. key.body < id) keys
      → Does input table (finish input table k (spend one_row (dispatched table (below input table id) question keys s)))
      (begins one_row held (dispatch_begins table question keys k s))
  dispatch-ahead held id question keys k s all =
      finish-spend input table k one_row (dispatched table (below input table id) question keys s)
      ∙ ap (spend one_row) (question-ahead id (Inside s.inside) keys k s all (question_at table question))
