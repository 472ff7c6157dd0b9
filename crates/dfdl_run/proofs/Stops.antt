-- A document stops by a limit on data, or a variable that can't be set, alone.
use Rattle.std.proofs.Common.{ℕ, zero, suc, ◌+◌, ◌-◌, ◌*◌, ◌/◌, nat_eq, nat_le, nat_lt, true, false, Bool, if◌then◌else◌, List, [], ◌∷◌, length, Option, None, Some, Result, Ok, Err, slice_get, replicate}
use Rattle.dfdl_report.specs.declared.cause.LimitCause.TheVariants.{Nodes}
use Rattle.dfdl_report.specs.declared.cause.ParseCause.TheVariants.{LengthOutOfRange, NegativeCount}
use Rattle.dfdl_looks.specs.Asks.{Reached, Told, TooFar, Missing, ask}
use Rattle.dfdl_looks.specs.Looks.{seen_in}
use Rattle.dfdl_looks.specs.Tallies.{needs_from, nothing}
use Rattle.dfdl_terms.specs.declared.delimiters.Delimiters.{Delimiters}
use Rattle.dfdl_terms.specs.Rows.{Table}
use Rattle.dfdl_value.specs.declared.value.Value.{Value}
use Rattle.dfdl_terms.specs.declared.row.Primitive.{Primitive}
use Rattle.dfdl_terms.specs.declared.representations.Representations.{Representations}
use Rattle.dfdl_terms.specs.declared.row.Row.{Row}
use Rattle.dfdl_terms.specs.declared.text.TextSize.{TextSize}
use Rattle.dfdl_terms.specs.declared.row.Row.TheVariants.{Leaf, Elem, Group, Skip, Align, Initiator, Terminator, Separator, Scope, Boxed, PrefixedLeaf, PrefixedBox, MeasuredLeaf, MeasuredBox, Repeat, Counted, Optional, Choice as ChoiceRow, Dispatch, Statement, Concluded, Hidden, Spanned, Instance, Separated}
use Rattle.dfdl_grammar.specs.declared.end.End.{End}
use Rattle.dfdl_grammar.specs.declared.end.End.TheVariants.{Done, Failed, Stopped}
use Rattle.dfdl_grammar.specs.declared.end.Halt.TheVariants.{Limit}
use Rattle.dfdl_grammar.specs.declared.instead.Instead.{Instead}
use Rattle.dfdl_grammar.specs.declared.instead.Instead.TheVariants.{Nothing, Nil, Empty}
use Rattle.dfdl_grammar.specs.declared.limits.Limits.{Limits}
use Rattle.dfdl_grammar.specs.declared.mark.Mark.{Mark}
use Rattle.dfdl_grammar.specs.States.{Input, State, anchor, anchor_at}
use Rattle.dfdl_grammar.specs.Outcomes.{Outcome, ended, spend, then_do}
use Rattle.dfdl_grammar.specs.Leaves.{Find, Fails, Finds, FindsOctets, FindsText, content_begins, has_room, land, leaf, nil_values, program, program_for, read_by}
use Rattle.dfdl_grammar.specs.Framing.{aligned, fill_to, has_byte, pass_to, passed}
use Rattle.dfdl_grammar.specs.Delimiters.{lists_of, markup, opens, scoped, unscoped}
use Rattle.dfdl_grammar.specs.Boxes.{boxed_at, bytes_up_to, filled_from, pass_bytes, past_byte, rest_from, unboxed}
use Rattle.dfdl_grammar.specs.Spans.{span_ends}
use Rattle.dfdl_paths.specs.declared.place.Start.TheVariants.{At, Inside}
use Rattle.dfdl_grammar.specs.Elements.{attempted, begun, close, element, has_elements}
use Rattle.dfdl_grammar.specs.Marks.{back, closed, is_settled, marked, pointed, stays_at}
use Rattle.dfdl_grammar.specs.Choices.{branches, choice, or_branch}
use Rattle.dfdl_grammar.specs.Occurrences.{after_occurrence, dropped, occurrences, occurring}
use Rattle.dfdl_grammar.specs.Slots.{Sequence}
use Rattle.dfdl_grammar.specs.Representations.{Attempt, after_empty, or_else, refuse, is_occurrence, refused_among, representations_in, represented, represented_by, the_last, then_empty, then_nil, then_normal}
use Rattle.dfdl_grammar.specs.Prefixes.{behind_prefix, bits_of_units, land_prefix, leaf_of, prefixed, resized, size_of, sized_leaf, units_told}
use Rattle.dfdl_grammar.specs.Instances.{closed_behind, opened_by, opened_with, opening_of, start_read, start_told, with_instance}
use Rattle.dfdl_grammar.specs.Questions.{question_at}
use Rattle.dfdl_terms.specs.declared.statement.Opening.{Opening}
use Rattle.dfdl_vars.specs.Kept.{entered}
use Rattle.dfdl_grammar.specs.Rows.{below, group, meaning, row, row_at}
use Rattle.dfdl_grammar.specs.Documents.{document}
use Rattle.dfdl_run.proofs.AskedStops.{count-stops, key-stops}
use Rattle.dfdl_run.proofs.Stopping.{StopsByData}
use Rattle.dfdl_run.proofs.SlottedStops.{separated-stops}
use Rattle.dfdl_run.proofs.SoughtStops.{initiator-stops, separator-stops, terminator-stops}
use Rattle.dfdl_run.proofs.StatedStops.{concluded-stops, follow-stops, land-stops, occurring-stops, statement-stops}

room-stops : (input : Input) (delimiters : List Delimiters) (nil : Option (List Value)) (primitive : Primitive) (s : State) (room : Bool)
    → StopsByData (let whole : Outcome = (if room then
    (let reading = ask (seen_in input.bytes input.limits.window (anchor s)) (program_for nil (lists_of delimiters (markup s)) primitive s.at s.stop) nothing in
    spend (needs_from (anchor s) reading.tally) (land input.limits (content_begins primitive s.at) reading.reached s))
    else ended (Failed LengthOutOfRange s.at) s) in whole.end)
room-stops input delimiters nil primitive s true =
    land-stops input.limits (content_begins primitive s.at)
    (ask (seen_in input.bytes input.limits.window (anchor s)) (program_for nil (lists_of delimiters (markup s)) primitive s.at s.stop) nothing).reached s
room-stops input delimiters nil primitive s false = tt

leaf-stops : (input : Input) (delimiters : List Delimiters) (nil : Option (List Value)) (primitive : Option Primitive) (s : State)
    → StopsByData (leaf input delimiters nil primitive s).end
leaf-stops input delimiters nil None s = tt
leaf-stops input delimiters nil (Some primitive) s = room-stops input delimiters nil primitive s (has_room primitive s.at s.stop)

passed-stops : (window to : ℕ) (reached : Reached Bool) (s : State) → StopsByData (passed window to reached s).end
passed-stops window to (Told true) s = tt
passed-stops window to (Told false) s = tt
passed-stops window to TooFar s = tt
passed-stops window to Missing s = tt

fill-stops : (input : Input) (to : ℕ) (s : State) (over room : Bool)
    → StopsByData (let whole : Outcome = (if over then ended Done s else if room then fill_to input to s
    else ended (Failed LengthOutOfRange s.at) s) in whole.end)
fill-stops input to s true room = tt
fill-stops input to s false true =
    passed-stops input.limits.window to
    (ask (seen_in input.bytes input.limits.window (anchor_at s (to - 1))) (has_byte ((to - 1) / 8)) nothing).reached s
fill-stops input to s false false = tt

pass-stops : (input : Input) (to : ℕ) (s : State) → StopsByData (pass_to input to s).end
pass-stops input to s = fill-stops input to s (nat_le to s.at) (nat_le to s.stop)

byte-stops : (window : ℕ) (reached : Reached Bool) (next : State → Outcome) → ((s : State) → StopsByData (next s).end)
    → (s : State) → StopsByData (past_byte window reached next s).end
byte-stops window (Told true) next after s = after s
byte-stops window (Told false) next after s = tt
byte-stops window TooFar next after s = tt
byte-stops window Missing next after s = tt

bytes-stop : (input : Input) (left k : ℕ) (s : State) → StopsByData (pass_bytes input left k s).end
bytes-stop input zero k s = tt
bytes-stop input (suc left) k s =
    byte-stops input.limits.window (ask (seen_in input.bytes input.limits.window (anchor_at s (8 * k))) (has_byte k) nothing).reached
    (pass_bytes input left (k + 1)) (bytes-stop input left (k + 1)) s

rest-stops : (input : Input) (s : State) (over : Bool)
    → StopsByData (let whole : Outcome = (if over then ended Done s else pass_bytes input (bytes_up_to s.stop (s.at / 8)) (s.at / 8) s) in whole.end)
rest-stops input s true = tt
rest-stops input s false = bytes-stop input (bytes_up_to s.stop (s.at / 8)) (s.at / 8) s

group-stops : (child : ℕ → State → Outcome) → ((id : ℕ) (s : State) → StopsByData (child id s).end)
    → (ids : List ℕ) (s : State) → StopsByData (group child ids s).end
group-stops child each [] s = tt
group-stops child each (id ∷ ids) s =
    follow-stops (child id s).end (child id s) (group child ids) (each id s) (group-stops child each ids)

close-stops : (end : End) (outer : ℕ) (complex : Bool) (o : Outcome) → StopsByData o.end
    → StopsByData (close end outer complex o).end
close-stops Done outer complex o own = own
close-stops (Failed cause bit) outer complex o own = own
close-stops (Stopped cause quantity) outer complex o own = own

attempted-stops : (input : Input) (id : ℕ) (complex : Bool) (body : State → Outcome)
    → ((s : State) → StopsByData (body s).end) → (instead : Instead) (s : State) → StopsByData (attempted input id complex body instead s).end
attempted-stops input id complex body each instead s = elim (nat_lt (length s.nodes) input.limits.nodes) as (λ (b : Bool).
    StopsByData (let whole : Outcome = (if b then (let o : Outcome = body (begun id instead s) in close o.end s.inside complex o)
    else ended (Stopped (Limit Nodes) input.limits.nodes) s) in whole.end)) [
      | true ↦ close-stops (body (begun id instead s)).end s.inside complex (body (begun id instead s)) (each (begun id instead s))
      | false ↦ tt
    ]

last-stops : (end : End) (o : Outcome) → StopsByData o.end → StopsByData (the_last end o).end
last-stops Done o own = own
last-stops (Failed cause bit) o own = own
last-stops (Stopped cause quantity) o own = own

else-stops : (end : End) (o : Outcome) (next : State → Outcome) → StopsByData o.end → ((s : State) → StopsByData (next s).end)
    → StopsByData (or_else end o next).end
else-stops Done o next own after = own
else-stops (Failed cause bit) o next own after = after (back o.state)
else-stops (Stopped cause quantity) o next own after = own

-- each representation stops by data
abbrev AllStop : Attempt → Type 0
AllStop attempt = (instead : Instead) (s : State) → StopsByData (attempt instead s).end

normal-stops : (attempt : Attempt) → AllStop attempt → (s : State) → StopsByData (then_normal attempt s).end
normal-stops attempt each s = last-stops (attempt Nothing s).end (attempt Nothing s) (each Nothing s)

refused-stops : (marks : List Mark) (o : Outcome) → StopsByData o.end → StopsByData (refused_among marks o).end
refused-stops [] o own = own
refused-stops (mark ∷ outer) o own = tt

refuse-stops : (end : End) (o : Outcome) (next : State → Outcome) → StopsByData o.end → ((s : State) → StopsByData (next s).end)
    → StopsByData (refuse end o next).end
refuse-stops Done o next own after = refused-stops o.state.marks o own
refuse-stops (Failed cause bit) o next own after = else-stops (Failed cause bit) o next own after
refuse-stops (Stopped cause quantity) o next own after = own

behind-empty-stops : (refuses : Bool) (o : Outcome) (next : State → Outcome) → StopsByData o.end → ((s : State) → StopsByData (next s).end)
    → StopsByData (after_empty refuses o next).end
behind-empty-stops true o next own after = refuse-stops o.end o next own after
behind-empty-stops false o next own after = else-stops o.end o next own after

empty-stops : (refuses : Bool) (empty : Option ℕ) (attempt : Attempt) → AllStop attempt → (s : State) → StopsByData (then_empty refuses empty attempt s).end
empty-stops refuses None attempt each s = normal-stops attempt each s
empty-stops refuses (Some prim) attempt each s =
    behind-empty-stops refuses (attempt (Empty prim) s) (then_normal attempt) (each (Empty prim) s) (normal-stops attempt each)

nil-stops : (tried : Representations) (nil : Option ℕ) (attempt : Attempt) → AllStop attempt → (s : State) → StopsByData (then_nil tried nil attempt s).end
nil-stops tried None attempt each s = empty-stops tried.refuses_empty tried.empty attempt each s
nil-stops tried (Some prim) attempt each s =
    else-stops (attempt (Nil prim) s).end (attempt (Nil prim) s) (then_empty tried.refuses_empty tried.empty attempt) (each (Nil prim) s)
    (empty-stops tried.refuses_empty tried.empty attempt each)

representations-stop : (tried : Representations) (attempt : Attempt) → AllStop attempt → (s : State) → StopsByData (represented_by tried attempt s).end
representations-stop tried attempt each s = elim tried.are_several as (λ (b : Bool).
    StopsByData (let whole : Outcome = (if b then then_nil tried tried.nil attempt (marked s) else attempt Nothing s) in whole.end)) [
      | true ↦ nil-stops tried tried.nil attempt each (marked s)
      | false ↦ each Nothing s
    ]

represented-stops : (tried : Representations) (attempt : Attempt) → AllStop attempt → (s : State) → StopsByData (represented tried attempt s).end
represented-stops tried attempt each s = representations-stop (representations_in (is_occurrence s.instead) tried) attempt each s

-- behind a branch that fails
settled-stops : (o : Outcome) (next : State → Outcome) → StopsByData o.end → ((s : State) → StopsByData (next s).end) → (settled : Bool)
    → StopsByData (let whole : Outcome = (if settled then record o { state = closed o.state } else spend o.tally (next (back o.state))) in whole.end)
settled-stops o next own after true = own
settled-stops o next own after false = after (back o.state)

branch-stops : (end : End) (o : Outcome) (next : State → Outcome) → StopsByData o.end → ((s : State) → StopsByData (next s).end)
    → StopsByData (or_branch end o next).end
branch-stops Done o next own after = own
branch-stops (Failed cause bit) o next own after = settled-stops o next own after (is_settled o.state.marks)
branch-stops (Stopped cause quantity) o next own after = own

branches-stop : (child : ℕ → State → Outcome) → ((id : ℕ) (s : State) → StopsByData (child id s).end) → (ids : List ℕ) (s : State)
    → StopsByData (branches child ids s).end
branches-stop child each [] s = tt
branches-stop child each (id ∷ ids) s = branch-stops (child id s).end (child id s) (branches child ids) (each id s) (branches-stop child each ids)

choice-stops : (child : ℕ → State → Outcome) → ((id : ℕ) (s : State) → StopsByData (child id s).end) → (initiated : Bool) (ids : List ℕ) (s : State)
    → StopsByData (choice child initiated ids s).end
choice-stops child each initiated ids s = branches-stop child each ids (pointed initiated s)

-- behind a time that is done
done-stops : (o : Outcome) (next : State → Outcome) → StopsByData o.end → ((s : State) → StopsByData (next s).end) → (stays : Bool)
    → StopsByData (let whole : Outcome = (if stays then record o { state = dropped o.state } else spend o.tally (next (closed o.state))) in whole.end)
done-stops o next own after true = own
done-stops o next own after false = after (closed o.state)

-- behind one that fails
dropped-stops : (o : Outcome) → StopsByData o.end → (settled : Bool)
    → StopsByData (let whole : Outcome = (if settled then record o { state = closed o.state }
    else record o { end = Done; state = dropped o.state }) in whole.end)
dropped-stops o own true = own
dropped-stops o own false = tt

occurrence-stops : (end : End) (o : Outcome) (next : State → Outcome) → StopsByData o.end → ((s : State) → StopsByData (next s).end)
    → StopsByData (after_occurrence end o next).end
occurrence-stops Done o next own after = done-stops o next own after (stays_at o.state.marks o.state.at)
occurrence-stops (Failed cause bit) o next own after = dropped-stops o own (is_settled o.state.marks)
occurrence-stops (Stopped cause quantity) o next own after = own

occurrences-stop : (body : State → Outcome) → ((s : State) → StopsByData (body s).end) → (initiated : Bool) (most : ℕ) (s : State)
    → StopsByData (occurrences body initiated most s).end
unfolding occurrences
occurrences-stop body each initiated zero s = tt
occurrences-stop body each initiated (suc most) s =
    let o : Outcome = body (pointed initiated s) in
    occurrence-stops o.end o (occurrences body initiated most) (each (pointed initiated s)) (occurrences-stop body each initiated most)

unscoped-stops : (end : End) (count : ℕ) (o : Outcome) → StopsByData o.end → StopsByData (unscoped end count o).end
unscoped-stops Done count o own = own
unscoped-stops (Failed cause bit) count o own = own
unscoped-stops (Stopped cause quantity) count o own = own

scoped-stops : (list : ℕ) (body : State → Outcome) → ((s : State) → StopsByData (body s).end) → (s : State) → StopsByData (scoped list body s).end
scoped-stops list body each s = unscoped-stops (body (opens list s)).end (length s.lists) (body (opens list s)) (each (opens list s))

unboxed-stops : (end : End) (outer hidden : ℕ) (o : Outcome) → StopsByData o.end → StopsByData (unboxed end outer hidden o).end
unboxed-stops Done outer hidden o own = own
unboxed-stops (Failed cause bit) outer hidden o own = own
unboxed-stops (Stopped cause quantity) outer hidden o own = own

boxed-stops : (input : Input) (bits : ℕ) (body : State → Outcome) → ((s : State) → StopsByData (body s).end) → (s : State) (room : Bool)
    → StopsByData (let whole : Outcome = (if room then
    (let o : Outcome = then_do (body (boxed_at (s.at + bits) s)) (rest_from input s.at) in unboxed o.end s.stop s.hidden o)
    else ended (Failed LengthOutOfRange s.at) s) in whole.end)
boxed-stops input bits body each s true =
    let inside : State = boxed_at (s.at + bits) s in
    let o : Outcome = then_do (body inside) (rest_from input s.at) in
    unboxed-stops o.end s.stop s.hidden o
    (follow-stops (body inside).end (body inside) (rest_from input s.at) (each inside)
    (λ t. rest-stops input (filled_from s.at t) (nat_le t.stop t.at)))
boxed-stops input bits body each s false = tt

behind-stops : (end : ℕ) (next : ℕ → State → Outcome) → ((units : ℕ) (s : State) → StopsByData (next units s).end)
    → (s : State) (units : Option ℕ) → StopsByData (behind_prefix end next s units).end
behind-stops end next each s None = tt
behind-stops end next each s (Some units) = each units (record s { at = end })

land-prefix-stops : (limits : Limits) (own first : ℕ) (next : ℕ → State → Outcome) → ((units : ℕ) (s : State) → StopsByData (next units s).end)
    → (reached : Reached Find) (s : State) → StopsByData (land_prefix limits own first next reached s).end
land-prefix-stops limits own first next each (Told (Fails cause)) s = tt
land-prefix-stops limits own first next each (Told (Finds content span)) s = behind-stops span.end next each s (units_told own content)
land-prefix-stops limits own first next each (Told (FindsOctets bytes span)) s = tt
land-prefix-stops limits own first next each (Told (FindsText bytes span)) s = tt
land-prefix-stops limits own first next each TooFar s = tt
land-prefix-stops limits own first next each Missing s = tt

prefix-room-stops : (input : Input) (delimiters : List Delimiters) (primitive : Primitive) (own : ℕ) (next : ℕ → State → Outcome)
    → ((units : ℕ) (s : State) → StopsByData (next units s).end) → (s : State) (room : Bool)
    → StopsByData (let whole : Outcome = (if room then
    (let reading = ask (seen_in input.bytes input.limits.window (anchor s)) (program (lists_of delimiters (markup s)) primitive s.at s.stop) nothing in
    spend (needs_from (anchor s) reading.tally) (land_prefix input.limits own (content_begins primitive s.at) next reading.reached s))
    else ended (Failed LengthOutOfRange s.at) s) in whole.end)
prefix-room-stops input delimiters primitive own next each s true =
    land-prefix-stops input.limits own (content_begins primitive s.at) next each
    (ask (seen_in input.bytes input.limits.window (anchor s)) (program (lists_of delimiters (markup s)) primitive s.at s.stop) nothing).reached s
prefix-room-stops input delimiters primitive own next each s false = tt

prefixed-stops : (input : Input) (delimiters : List Delimiters) (primitive : Option Primitive) (own : ℕ) (next : ℕ → State → Outcome)
    → ((units : ℕ) (s : State) → StopsByData (next units s).end) → (s : State) → StopsByData (prefixed input delimiters primitive own next s).end
prefixed-stops input delimiters None own next each s = tt
prefixed-stops input delimiters (Some primitive) own next each s = prefix-room-stops input delimiters primitive own next each s (has_room primitive s.at s.stop)

resized-stops : (input : Input) (delimiters : List Delimiters) (nil : Option (List Value)) (primitive : Option Primitive) (s : State)
    → StopsByData (leaf_of input delimiters nil primitive s).end
resized-stops input delimiters nil None s = tt
resized-stops input delimiters nil (Some primitive) s = leaf-stops input delimiters nil (Some primitive) s

sized-stops : (input : Input) (delimiters : List Delimiters) (nil : Option (List Value)) (primitive : Option Primitive) (size : TextSize) (s : State)
    → StopsByData (sized_leaf input delimiters nil primitive size s).end
sized-stops input delimiters nil None size s = tt
sized-stops input delimiters nil (Some primitive) size s = resized-stops input delimiters nil (resized size primitive) s

closed-behind-stops : (end : End) (o : Outcome) → StopsByData o.end → StopsByData (closed_behind end o).end
closed-behind-stops Done o own = own
closed-behind-stops (Failed cause bit) o own = own
closed-behind-stops (Stopped cause quantity) o own = own

there-stops : (number : ℕ) (start : Option Value) (body : State → Outcome) → ((s : State) → StopsByData (body s).end) → (s : State) (there : Bool)
    → StopsByData (let whole : Outcome = (if there then with_instance number start body s else body s) in whole.end)
there-stops number start body each s true =
    let inside : State = record s { variables = entered s.variables number start } in
    closed-behind-stops (body inside).end (body inside) (each inside)
there-stops number start body each s false = each s

opened-with-stops : (number : ℕ) (start : Result (Option Value) ℕ) (body : State → Outcome) → ((s : State) → StopsByData (body s).end) → (s : State)
    → StopsByData (opened_with number start body s).end
opened-with-stops number (Ok start) body each s = there-stops number start body each s (nat_lt number s.variables.globals)
opened-with-stops number (Err cause) body each s = tt

-- a component with the instance that is opened for it
opened-stops : (table : Table) (opening : Option Opening) (body : State → Outcome) → ((s : State) → StopsByData (body s).end) → (s : State)
    → StopsByData (opened_by table opening body s).end
opened-stops table None body each s = each s
opened-stops table (Some opening) body each s =
    opened-with-stops opening.variable (start_told table (Inside s.inside) opening.kind opening.start s) body each
    (record s { variables = start_read table (Inside s.inside) opening.start s })

row-stops : (input : Input) (table : Table) (child : ℕ → State → Outcome) → ((id : ℕ) (s : State) → StopsByData (child id s).end)
    → (id : ℕ) (o : Option Row) (s : State) → StopsByData (row input table child id o s).end
row-stops input table child each id None s = tt
row-stops input table child each id (Some (Leaf prim)) s =
    leaf-stops input table.delimiters (nil_values table.primitives s.instead) (slice_get table.primitives (read_by table.primitives s.instead prim)) s
row-stops input table child each id (Some (Elem name simple tried behind body)) s =
    concluded-stops input.limits table (At (length s.nodes)) behind (element input id (has_elements simple) tried (child body) s)
    (represented-stops tried (attempted input id (has_elements simple) (child body)) (attempted-stops input id (has_elements simple) (child body) (each body)) s)
row-stops input table child each id (Some (Group children)) s = group-stops child each children s
row-stops input table child each id (Some (Repeat count body)) s = group-stops child each (replicate count body) s
row-stops input table child each id (Some (Counted question body)) s =
    count-stops NegativeCount (λ count t. group child (replicate count body) t) (λ count t. group-stops child each (replicate count body) t)
    table (Inside s.inside) (question_at table question) s
row-stops input table child each id (Some (Optional most item initiated body)) s =
    occurrences-stop (occurring true (child body)) (occurring-stops true (child body) (each body)) initiated most s
row-stops input table child each id (Some (ChoiceRow ids initiated)) s = choice-stops child each initiated ids s
row-stops input table child each id (Some (Dispatch question keys)) s =
    key-stops child each table (Inside s.inside) keys (question_at table question) s
row-stops input table child each id (Some (Statement number)) s = statement-stops input table number s
row-stops input table child each id (Some (Concluded behind body)) s =
    concluded-stops input.limits table (Inside s.inside) behind (child body s) (each body s)
row-stops input table child each id (Some (Hidden body)) s = each body s
row-stops input table child each id (Some (Spanned body)) s =
    follow-stops (child body s).end (child body s) (span_ends s.at) (each body s) (λ t. tt)
row-stops input table child each id (Some (Instance statement body)) s =
    opened-stops table (opening_of (slice_get table.statements statement)) (child body) (each body) s
row-stops input table child each id (Some (Separated policy position initiated slots)) s =
    let sequence : Sequence =
    record { input = input; table = table; child = child; position = position; initiated = initiated } in
    separated-stops sequence each (separator-stops input table.delimiters) policy slots s
row-stops input table child each id (Some (Skip bits)) s = pass-stops input (s.at + bits) s
row-stops input table child each id (Some (Align bits)) s = pass-stops input (aligned bits s.at) s
row-stops input table child each id (Some (Initiator delimiter)) s = initiator-stops input table.delimiters delimiter s
row-stops input table child each id (Some (Terminator delimiter separators)) s = terminator-stops input table.delimiters delimiter separators s
row-stops input table child each id (Some Separator) s = separator-stops input table.delimiters s
row-stops input table child each id (Some (Scope list body)) s = scoped-stops list (child body) (each body) s
row-stops input table child each id (Some (Boxed bits body)) s =
    boxed-stops input bits (child body) (each body) s (nat_le (s.at + bits) s.stop)
row-stops input table child each id (Some (PrefixedLeaf prefix prim)) s =
    prefixed-stops input table.delimiters (slice_get table.primitives prefix.prim) prefix.own _
    (λ units t. sized-stops input table.delimiters (nil_values table.primitives s.instead) (slice_get table.primitives (read_by table.primitives s.instead prim))
    (size_of prefix.unit units) t) s
row-stops input table child each id (Some (PrefixedBox prefix body)) s =
    prefixed-stops input table.delimiters (slice_get table.primitives prefix.prim) prefix.own _
    (λ units t. boxed-stops input (bits_of_units prefix.unit units) (child body) (each body) t
    (nat_le (t.at + bits_of_units prefix.unit units) t.stop)) s
row-stops input table child each id (Some (MeasuredLeaf measure prim)) s =
    count-stops LengthOutOfRange _
    (λ units t. sized-stops input table.delimiters (nil_values table.primitives s.instead) (slice_get table.primitives (read_by table.primitives s.instead prim))
    (size_of measure.unit units) t) table (At s.inside) (question_at table measure.question) s
row-stops input table child each id (Some (MeasuredBox measure body)) s =
    count-stops LengthOutOfRange _
    (λ units t. boxed-stops input (bits_of_units measure.unit units) (child body) (each body) t
    (nat_le (t.at + bits_of_units measure.unit units) t.stop)) table (At s.inside) (question_at table measure.question) s

below-stops : (input : Input) (table : Table) (n id : ℕ) (s : State) → StopsByData (below input table n id s).end
unfolding below
below-stops input table zero id s = tt
below-stops input table (suc n) id s = elim (nat_eq id n) as (λ (b : Bool).
    StopsByData (let whole : Outcome = (if b then row_at input table (below input table n) n s else below input table n id s) in whole.end)) [
      | true ↦ row-stops input table (below input table n) (below-stops input table n) n (slice_get table.rows n) s
      | false ↦ below-stops input table n id s
    ]

-- what a document comes to
pub document-stops : (limits : Limits) (table : Table) (bytes : List ℕ) → StopsByData (document limits table bytes).end
unfolding meaning
document-stops limits table bytes =
    row-stops _ table (below _ table _) (below-stops _ table _) _ (slice_get table.rows _) _
