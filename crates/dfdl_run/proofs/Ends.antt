-- How a run ends, from what it decided and what came of it.
use Rattle.std.proofs.Common.{◌≡◌, ◌⊎◌, ℕ, ◌+◌, ◌++◌, IsTrue, List, [], length, Option}
use Rattle.std.proofs.Common.{None, Some, Ok, Err, refl, sym, ap, subst, ◌∙◌, arith, append-nil}
use Rattle.std.proofs.Common.{inl, inr}
use Rattle.std.proofs.Math.Seq.{take-length}
use Rattle.dfdl_edge.specs.Faults.{Rose}
use Rattle.dfdl_edge.specs.Files.{FilesSeen}
use Rattle.dfdl_edge.specs.Sink.{Adds, AddsFront, SinkSeen}
use Rattle.dfdl_edge.specs.Source.{SourceSeen}
use Rattle.dfdl_edge.specs.Whole.{IsUsedUp}
use Rattle.dfdl_report.specs.Lines.{memory_line, variable_line}
use Rattle.dfdl_report.specs.declared.cause.VariableCause.{VariableCause}
use Rattle.dfdl_report.specs.declared.cause.LimitCause.TheVariants.{Input, Window, Nodes, Text, Depth, Cells, Held, Schema, Schemas, Rows}
use Rattle.dfdl_documents.specs.Faults.{IsFailed}
use Rattle.dfdl_compile.specs.Settling.{Free}
use Rattle.dfdl_breaches.specs.Builds.{PatternsSeen}
use Rattle.dfdl_terms.specs.Rows.{Table}
use Rattle.dfdl_run.specs.declared.command.Verb.{Verb}
use Rattle.dfdl_run.specs.declared.answer.Answer.{Answer}
use Rattle.dfdl_run.specs.declared.answer.Answer.TheVariants.{Done, LeftOver, Failed, Variable, Unparsed}
use Rattle.dfdl_run.specs.declared.answer.Answer.TheVariants.{NotUnparsed, NoInfoset}
use Rattle.dfdl_run.specs.declared.stop.Stop.{Stop}
use Rattle.dfdl_run.specs.declared.stop.Stop.TheVariants.{Usage, FilesFailed, NoDocument, Refused}
use Rattle.dfdl_run.specs.declared.stop.Stop.TheVariants.{SourceFailed}
use Rattle.dfdl_run.specs.declared.stop.Stop.TheVariants.{Limit, OutOfMemory}
use Rattle.dfdl_run.specs.Answer.{End, status_of, written_of, note_of}
use Rattle.dfdl_run.specs.Decided.{Decided, by_words, by_schema, by_data, AreFewLoads, IsLoadFault, IsReadEnd}
use Rattle.dfdl_run.specs.Expects.{Expects, no_command, no_documents, no_schema, no_rows, long_input}
use Rattle.dfdl_run.specs.Expects.{meant, is_excused, Tells, Gives, NoneFailed, IsAsExpected}
use Rattle.dfdl_run.specs.Finished.{Finished, all, no_sink, no_memory, Writes}
use Rattle.dfdl_run.specs.Outside.{Inputs, Outside}
use Rattle.dfdl_run.specs.Run.{IsRun, FilesFail, SinkFails, SourceFails, VariableFails, is_before_schema, is_of_data}
use Rattle.dfdl_run.specs.Schemas.{asked}
use Rattle.dfdl_run.proofs.Excuses.{end_excused, limit_excused}
use Rattle.dfdl_run.proofs.Rankings.{LoadingIsOne, Ranked, Reading, same, files, source, memory, ranked, due_memory}

adds_front : (old new : Option (List ℕ)) (piece : List ℕ) → Adds old piece new
    → AddsFront old piece new
adds_front None None piece added = tt
adds_front None (Some now) piece added = added
adds_front (Some before) None piece added = added
adds_front (Some before) (Some now) piece added =
    (length piece, added ∙ ap (λ xs. before ++ xs) (sym (take-length piece)))

none_front : (old new : Option (List ℕ)) (piece : List ℕ) → Adds old [] new
    → AddsFront old piece new
none_front None None piece added = tt
none_front None (Some now) piece added = added
none_front (Some before) None piece added = added
none_front (Some before) (Some now) piece added = (0, added)

same_adds : (old new : Option (List ℕ)) → new ≡ old → Adds old [] new
same_adds None None is = tt
same_adds None (Some now) is = absurd (cc)
same_adds (Some before) None is = absurd (cc)
same_adds (Some before) (Some now) is =
    let same_bytes : now ≡ before = cc in same_bytes ∙ sym (append-nil before)

-- each end that is expected is excused by want of memory
memory_excused : (words : List (List ℕ)) (free : Free) (told : Inputs) (b : End) → Expects words free told b
    → IsTrue (is_excused b 9)
memory_excused words free told _ (no_command at place) = refl
memory_excused words free told _ (no_documents order due orders expects) = due_memory told.files order.schema due expects
memory_excused words free told _ (no_schema order documents cause document at orders there loaded wrong) = refl
memory_excused words free told _ (no_rows order documents cause quantity orders there loaded past) = limit_excused cause quantity
memory_excused words free told _ (long_input order documents table bytes orders there loaded schema input_is long) = refl
memory_excused words free told _ (meant order documents table bytes orders there loaded schema input_is few) = (end_excused order.verb table bytes).memory

-- the statuses of answers are those of data, and that of a variable that can't be set
abbrev IsOfAnswer : ℕ → Type 0
IsOfAnswer status = IsTrue (is_of_data status) ⊎ (status ≡ 2)

of_answer : (answer : Answer) → IsOfAnswer (status_of (Ok answer))
of_answer (Done line) = inl refl
of_answer (LeftOver line bit) = inl refl
of_answer (Failed cause bit path message) = inl refl
of_answer (Variable cause bit path) = inr refl
of_answer (Unparsed pieces) = inl refl
of_answer (NotUnparsed pieces cause path) = inl refl
of_answer (NoInfoset cause path) = inl refl

no_answer : (answer : Answer) (status : ℕ) → status_of (Ok answer) ≡ status
    → (IsTrue (is_of_data status) → ⊥) → (status ≡ 2 → ⊥) → ⊥
no_answer answer status is none apart = elim (subst IsOfAnswer is (of_answer answer)) [ inl some ↦ none some | inr two ↦ apart two ]

five : (e : End) → status_of e ≡ 5 → e ≡ Err SourceFailed
five (Err SourceFailed) is = refl
five (Err stop) is = absurd (cc)
five (Ok answer) is = absurd (no_answer answer 5 is (λ none. cc) (λ two. cc))

seven : (e : End) → status_of e ≡ 7 → (name : List ℕ) × (e ≡ Err (FilesFailed name))
seven (Err (FilesFailed name)) is = (name, refl)
seven (Err stop) is = absurd (cc)
seven (Ok answer) is = absurd (no_answer answer 7 is (λ none. cc) (λ two. cc))

nine : (e : End) → status_of e ≡ 9 → e ≡ Err OutOfMemory
nine (Err OutOfMemory) is = refl
nine (Err stop) is = absurd (cc)
nine (Ok answer) is = absurd (no_answer answer 9 is (λ none. cc) (λ two. cc))

never_six : (e : End) → status_of e ≡ 6 → ⊥
never_six (Err (Usage word)) is = cc
never_six (Err (FilesFailed name)) is = cc
never_six (Err (NoDocument cause document at)) is = cc
never_six (Err (Refused cause document at)) is = cc
never_six (Err SourceFailed) is = cc
never_six (Err (Limit cause quantity)) is = cc
never_six (Err OutOfMemory) is = cc
never_six (Ok answer) is = no_answer answer 6 is (λ none. cc) (λ two. cc)

nothing_written : (e : End) → (status_of e ≡ 0 → ⊥) → (status_of e ≡ 3 → ⊥) → (status_of e ≡ 11 → ⊥)
    → written_of e ≡ []
nothing_written (Ok (Done line)) not_done _ _ = absurd (not_done refl)
nothing_written (Ok (LeftOver line bit)) _ _ not_over = absurd (not_over refl)
nothing_written (Ok (Unparsed pieces)) not_done _ _ = absurd (not_done refl)
nothing_written (Ok (NotUnparsed pieces cause path)) _ not_failed _ = absurd (not_failed refl)
nothing_written (Ok (NoInfoset cause path)) _ _ _ = refl
nothing_written (Ok (Failed cause bit path message)) _ _ _ = refl
nothing_written (Ok (Variable cause bit path)) _ _ _ = refl
nothing_written (Err stop) _ _ _ = refl

unwritten_stop : (stop : Stop) → Writes (Err stop) → ⊥
unwritten_stop (Usage word) line = cc
unwritten_stop (FilesFailed name) line = cc
unwritten_stop (NoDocument cause document at) line = cc
unwritten_stop (Refused cause document at) line = cc
unwritten_stop SourceFailed line = cc
unwritten_stop (Limit Input quantity) line = cc
unwritten_stop (Limit Window quantity) line = cc
unwritten_stop (Limit Nodes quantity) line = cc
unwritten_stop (Limit Text quantity) line = cc
unwritten_stop (Limit Depth quantity) line = cc
unwritten_stop (Limit Schema quantity) line = cc
unwritten_stop (Limit Schemas quantity) line = cc
unwritten_stop (Limit Cells quantity) line = cc
unwritten_stop (Limit Held quantity) line = cc
unwritten_stop (Limit Rows quantity) line = cc
unwritten_stop OutOfMemory line = cc

-- what stops a run before its data is no status of data
stop_early : (stop : Stop) → IsTrue (is_of_data (status_of (Err stop))) → ⊥
stop_early (Usage word) of = cc
stop_early (FilesFailed name) of = cc
stop_early (NoDocument cause document at) of = cc
stop_early (Refused cause document at) of = cc
stop_early SourceFailed of = cc
stop_early (Limit cause quantity) of = cc
stop_early OutOfMemory of = cc

answer_late : (answer : Answer) → IsTrue (is_before_schema (status_of (Ok answer))) → ⊥
answer_late (Done line) early = cc
answer_late (LeftOver line bit) early = cc
answer_late (Failed cause bit path message) early = cc
answer_late (Variable cause bit path) early = cc
answer_late (Unparsed pieces) early = cc
answer_late (NotUnparsed pieces cause path) early = cc
answer_late (NoInfoset cause path) early = cc

-- what the source came to has no status of words and files
read_late : (verb : Verb) (table : Table) (before after : SourceSeen) (e : End)
    → IsReadEnd verb table before after e
    → IsTrue (is_before_schema (status_of e)) → ⊥
read_late verb table before after (Ok answer) read early = answer_late answer early
read_late verb table before after (Err SourceFailed) read early = cc
read_late verb table before after (Err OutOfMemory) read early = cc
read_late verb table before after (Err (Limit cause quantity)) read early = cc
read_late verb table before after (Err (Usage word)) read early = absurd read
read_late verb table before after (Err (FilesFailed name)) read early = absurd read
read_late verb table before after (Err (NoDocument cause document at)) read early = absurd read
read_late verb table before after (Err (Refused cause document at)) read early = absurd read

-- where what the source came to has the status of a refused schema, a variable can't be set, and the source is used up
record IsRefusedByData (before after : SourceSeen) (e : End) : Type 0 where
  pub cause : VariableCause
  pub bit : ℕ
  pub path : List ℕ
  pub note : note_of e ≡ variable_line cause bit path
  pub used_up : IsUsedUp before.left after.left

answer_refused : (verb : Verb) (table : Table) (before after : SourceSeen) (answer : Answer)
    → IsReadEnd verb table before after (Ok answer)
    → status_of (Ok answer) ≡ 2 → IsRefusedByData before after (Ok answer)
answer_refused verb table before after (Variable cause bit path) read two =
    record { cause = cause; bit = bit; path = path; note = refl; used_up = read.used_up }
answer_refused verb table before after (Done line) read two = absurd (cc)
answer_refused verb table before after (LeftOver line bit) read two = absurd (cc)
answer_refused verb table before after (Failed cause bit path message) read two = absurd (cc)
answer_refused verb table before after (Unparsed pieces) read two = absurd (cc)
answer_refused verb table before after (NotUnparsed pieces cause path) read two = absurd (cc)
answer_refused verb table before after (NoInfoset cause path) read two = absurd (cc)

read_refused : (verb : Verb) (table : Table) (before after : SourceSeen) (e : End)
    → IsReadEnd verb table before after e
    → status_of e ≡ 2 → IsRefusedByData before after e
read_refused verb table before after (Ok answer) read two = answer_refused verb table before after answer read two
read_refused verb table before after (Err SourceFailed) read two = absurd (cc)
read_refused verb table before after (Err OutOfMemory) read two = absurd (cc)
read_refused verb table before after (Err (Limit cause quantity)) read two = absurd (cc)
read_refused verb table before after (Err (Usage word)) read two = absurd read
read_refused verb table before after (Err (FilesFailed name)) read two = absurd read
read_refused verb table before after (Err (NoDocument cause document at)) read two = absurd read
read_refused verb table before after (Err (Refused cause document at)) read two = absurd read

read_used : (verb : Verb) (table : Table) (before after : SourceSeen) (e : End)
    → IsReadEnd verb table before after e
    → IsTrue (is_of_data (status_of e)) → IsUsedUp before.left after.left
read_used verb table before after (Ok answer) read of = read.used_up
read_used verb table before after (Err stop) read of = absurd (stop_early stop of)

-- the count of faults of the source stands where no read failed
read_still : (verb : Verb) (table : Table) (before after : SourceSeen) (e : End)
    → IsReadEnd verb table before after e
    → (e ≡ Err SourceFailed → ⊥) → after.faults ≡ before.faults
read_still verb table before after (Ok answer) read well = read.still
read_still verb table before after (Err SourceFailed) read well = absurd (well refl)
read_still verb table before after (Err OutOfMemory) read well = read
read_still verb table before after (Err (Limit cause quantity)) (inl long) well = long.still
read_still verb table before after (Err (Limit cause quantity)) (inr answered) well = answered.still
read_still verb table before after (Err (Usage word)) read well = absurd read
read_still verb table before after (Err (FilesFailed name)) read well = absurd read
read_still verb table before after (Err (NoDocument cause document at)) read well = absurd read
read_still verb table before after (Err (Refused cause document at)) read well = absurd read

-- no schema is no usage
load_late : (verb : Verb) (free : Free) (before after : FilesSeen) (seen now : PatternsSeen) (name : List ℕ) (stop : Stop)
    → IsLoadFault verb free before after seen now name stop
    → status_of (Err stop) ≡ 4 → ⊥
load_late verb free before after seen now name (Usage word) fault four = absurd fault
load_late verb free before after seen now name (FilesFailed failed) fault four = cc
load_late verb free before after seen now name (NoDocument cause document at) fault four = cc
load_late verb free before after seen now name (Refused cause document at) fault four = cc
load_late verb free before after seen now name SourceFailed fault four = absurd fault
load_late verb free before after seen now name (Limit cause quantity) fault four = cc
load_late verb free before after seen now name OutOfMemory fault four = cc

-- the count of faults of the files stands where no load failed
load_still : (verb : Verb) (free : Free) (before after : FilesSeen) (seen now : PatternsSeen) (name : List ℕ) (stop : Stop)
    → IsLoadFault verb free before after seen now name stop
    → ((status_of (Err stop) ≡ 7) ⊎ (status_of (Err stop) ≡ 9) → ⊥) → after.faults ≡ before.faults
load_still verb free before after seen now name (FilesFailed failed) fault well = absurd (well (inl refl))
load_still verb free before after seen now name (NoDocument cause document at) fault well =
    ap (λ (f : FilesSeen). f.faults) fault.0.refused.seen
load_still verb free before after seen now name (Refused cause document at) fault well =
    ap (λ (f : FilesSeen). f.faults) fault.loaded.seen
load_still verb free before after seen now name (Limit Schema quantity) (inl limit) well = ap (λ (f : FilesSeen). f.faults) limit.0.1.seen
load_still verb free before after seen now name (Limit Schemas quantity) (inl limit) well = ap (λ (f : FilesSeen). f.faults) limit.0.1.seen
load_still verb free before after seen now name (Limit cause quantity) (inl limit) well = absurd limit.0
load_still verb free before after seen now name (Limit cause quantity) (inr past) well = ap (λ (f : FilesSeen). f.faults) past.loaded.seen
load_still verb free before after seen now name OutOfMemory fault well = fault.0
load_still verb free before after seen now name (Usage word) fault well = absurd fault
load_still verb free before after seen now name SourceFailed fault well = absurd fault

-- what builds patterns is left as it was where a file ended the run
load_unbuilt : (verb : Verb) (free : Free) (before after : FilesSeen) (seen now : PatternsSeen) (name : List ℕ) (stop : Stop)
    → IsLoadFault verb free before after seen now name stop
    → IsTrue (is_before_schema (status_of (Err stop))) → now ≡ seen
load_unbuilt verb free before after seen now name (Usage word) fault early = absurd fault
load_unbuilt verb free before after seen now name (FilesFailed failed) fault early = fault.1
load_unbuilt verb free before after seen now name (NoDocument cause document at) fault early = fault.1
load_unbuilt verb free before after seen now name (Refused cause document at) fault early = absurd (cc)
load_unbuilt verb free before after seen now name SourceFailed fault early = absurd fault
load_unbuilt verb free before after seen now name (Limit cause quantity) fault early = absurd (cc)
load_unbuilt verb free before after seen now name OutOfMemory fault early = absurd (cc)

module _ (loading : LoadingIsOne) (reading : Reading) (words : List (List ℕ)) (free : Free) (before after : Outside) (status : ℕ) (a : End)
    (decided : Decided words free before.inputs after.inputs a) (finished : Finished a before.outputs after.outputs status) where
  -- what it is to end so
  abbrev Ends : End → Type 0
  Ends b = Gives b before.outputs after.outputs status

  at_status : (b : End) (number : ℕ) → status ≡ number → IsTrue (is_excused b number)
      → IsTrue (is_excused b status)
  at_status b number is excused = subst (λ (s : ℕ). IsTrue (is_excused b s)) (sym is) excused

  exact : (b : End) → Ranked before.inputs after.inputs a b
      → Finished a before.outputs after.outputs status
      → IsTrue (is_excused b 9) → IsTrue (is_excused b status) ⊎ Ends b
  exact b (same is) (all gives still) excused = inr (subst Ends is gives)
  exact b (same is) (no_sink line number rose written told) excused =
      inl (at_status b 6 number (subst Writes is line))
  exact b (same is) (no_memory number none told) excused = inl (at_status b 9 number excused)
  exact b (files name is rose earlier) (all gives still) excused =
      inl (at_status b 7 (gives.status_is ∙ ap status_of is) earlier)
  exact b (files name is rose earlier) (no_sink line number _ written told) excused =
      absurd (let none = subst Writes is line in cc)
  exact b (files name is rose earlier) (no_memory number none told) excused =
      inl (at_status b 9 number excused)
  exact b (source is rose earlier) (all gives still) excused =
      inl (at_status b 5 (gives.status_is ∙ ap status_of is) earlier)
  exact b (source is rose earlier) (no_sink line number _ written told) excused =
      absurd (let none = subst Writes is line in cc)
  exact b (source is rose earlier) (no_memory number none told) excused =
      inl (at_status b 9 number excused)
  exact b (memory is earlier) (all gives still) excused =
      inl (at_status b 9 (gives.status_is ∙ ap status_of is) earlier)
  exact b (memory is earlier) (no_sink line number _ written told) excused =
      absurd (let none = subst Writes is line in cc)
  exact b (memory is earlier) (no_memory number none told) excused =
      inl (at_status b 9 number excused)

  complete : (b : End) → Ranked before.inputs after.inputs a b
      → Finished a before.outputs after.outputs status
      → NoneFailed before after → (status ≡ 9) ⊎ Ends b
  complete b ranking (no_memory number none told) well = inl number
  complete b ranking (no_sink line number rose written told) well = absurd (well.out rose)
  complete b (same is) (all gives still) well = inr (subst Ends is gives)
  complete b (files name is rose earlier) (all gives still) well = absurd (well.files rose)
  complete b (source is rose earlier) (all gives still) well = absurd (well.source rose)
  complete b (memory is earlier) (all gives still) well = inl (gives.status_is ∙ ap status_of is)

  abbrev Front : End → Type 0
  Front b = AddsFront before.outputs.out.taken (written_of b) after.outputs.out.taken

  nothing_front : (b : End) (stop : Stop) → a ≡ Err stop → Ends a → Front b
  nothing_front b stop is gives =
      none_front before.outputs.out.taken after.outputs.out.taken (written_of b)
      (subst (λ (piece : List ℕ). Adds before.outputs.out.taken piece after.outputs.out.taken) (ap written_of is) gives.written)

  front : (b : End) → Ranked before.inputs after.inputs a b
      → Finished a before.outputs after.outputs status → Front b
  front b ranking (no_memory number none told) =
      none_front before.outputs.out.taken after.outputs.out.taken (written_of b)
      (same_adds before.outputs.out.taken after.outputs.out.taken (ap (λ (s : SinkSeen). s.taken) none))
  front b (same is) (all gives still) =
      adds_front before.outputs.out.taken after.outputs.out.taken (written_of b)
      (subst (λ (e : End). Adds before.outputs.out.taken (written_of e) after.outputs.out.taken) is gives.written)
  front b (same is) (no_sink line number rose written told) = subst Front is written
  front b (files name is rose earlier) (all gives still) =
      nothing_front b (FilesFailed name) is gives
  front b (files name is rose earlier) (no_sink line number _ written told) =
      absurd (let none = subst Writes is line in cc)
  front b (source is rose earlier) (all gives still) = nothing_front b SourceFailed is gives
  front b (source is rose earlier) (no_sink line number _ written told) =
      absurd (let none = subst Writes is line in cc)
  front b (memory is earlier) (all gives still) = nothing_front b OutOfMemory is gives
  front b (memory is earlier) (no_sink line number _ written told) =
      absurd (let none = subst Writes is line in cc)

  comes : (b : End) (number : ℕ) → IsTrue (is_excused b status) ⊎ Ends b
      → IsTrue (is_excused b status)
      ⊎ ((status ≡ number → status_of b ≡ number) × (status_of b ≡ number → status ≡ number))
  comes b number (inl excused) = inl excused
  comes b number (inr gives) = inr (λ is. sym gives.status_is ∙ is, λ is. gives.status_is ∙ is)

  expected : (b : End) → Expects words free before.inputs b → IsAsExpected b before after status
  expected b expects =
      let ranking = ranked loading reading free before.inputs after.inputs words a b decided expects in
      let is_exact = exact b ranking finished (memory_excused words free before.inputs b expects) in
      record {
        exact = is_exact;
        complete = complete b ranking finished;
        front = front b ranking finished;
        comes = λ number. comes b number is_exact;
      }

  -- the end where all of it came with this status
  abbrev AtEnd : Type 0
  AtEnd = (status ≡ status_of a) × Tells (note_of a) before.outputs.notes after.outputs.notes

  source_rises : a ≡ Err SourceFailed → Decided words free before.inputs after.inputs a
      → Rose before.inputs.source.faults after.inputs.source.faults
  source_rises end (by_words at place is untouched) = absurd (let no = sym end ∙ is in cc)
  source_rises end (by_schema order stop orders is fault loads unread) =
      let same_stop : stop ≡ SourceFailed = let no = sym is ∙ end in cc in
      absurd (subst (λ (s : Stop). IsLoadFault order.verb free before.inputs.files after.inputs.files before.inputs.patterns after.inputs.patterns order.schema s) same_stop fault)
  source_rises end (by_data order table orders found read) =
      subst (λ (e : End). IsReadEnd order.verb table before.inputs.source after.inputs.source e) end read

  source_failed : Finished a before.outputs after.outputs status → status ≡ 5
      → SourceFails before after
  source_failed (no_sink line number rose written told) is = absurd (omega arith)
  source_failed (no_memory number none told) is = absurd (omega arith)
  source_failed (all gives still) is =
      let end = five a (sym gives.status_is ∙ is) in
      record {
        rose = source_rises end decided;
        told =
            subst (λ (e : End). Tells (note_of e) before.outputs.notes after.outputs.notes) end gives.told;
      }

  sink_failed : Finished a before.outputs after.outputs status → status ≡ 6 → SinkFails before after
  sink_failed (no_sink line number rose written told) is = record { rose = rose; told = told }
  sink_failed (no_memory number none told) is = absurd (omega arith)
  sink_failed (all gives still) is = absurd (never_six a (sym gives.status_is ∙ is))

  names : (name : List ℕ) → a ≡ Err (FilesFailed name) → Ends a
      → Decided words free before.inputs after.inputs a → FilesFail words before after
  names name end gives (by_words at place is untouched) = absurd (let no = sym end ∙ is in cc)
  names name end gives (by_schema order stop orders is fault loads unread) =
      let same_stop : stop ≡ FilesFailed name = let no = sym is ∙ end in cc in
      let failed : IsFailed before.inputs.files after.inputs.files (asked order.schema) name =
      (subst (λ (s : Stop). IsLoadFault order.verb free before.inputs.files after.inputs.files before.inputs.patterns after.inputs.patterns order.schema s) same_stop fault).0 in
      record {
        rose = failed.rose;
        named = record {
          order = order;
          orders = orders;
          name = name;
          failed = failed;
          told =
              subst (λ (e : End). Tells (note_of e) before.outputs.notes after.outputs.notes) end gives.told;
        };
      }
  names name end gives (by_data order table orders found read) =
      absurd (subst (λ (e : End). IsReadEnd order.verb table before.inputs.source after.inputs.source e) end read)

  files_failed : Finished a before.outputs after.outputs status → status ≡ 7
      → FilesFail words before after
  files_failed (no_sink line number rose written told) is = absurd (omega arith)
  files_failed (no_memory number none told) is = absurd (omega arith)
  files_failed (all gives still) is =
      let end = seven a (sym gives.status_is ∙ is) in names end.0 end.1 gives decided

  out_of_memory : Finished a before.outputs after.outputs status → status ≡ 9
      → Tells memory_line before.outputs.notes after.outputs.notes
  out_of_memory (no_sink line number rose written told) is = absurd (omega arith)
  out_of_memory (no_memory number none told) is = told
  out_of_memory (all gives still) is =
      subst (λ (e : End). Tells (note_of e) before.outputs.notes after.outputs.notes) (nine a (sym gives.status_is ∙ is)) gives.told

  unwritten : Finished a before.outputs after.outputs status → (status ≡ 0 → ⊥) → (status ≡ 3 → ⊥)
      → (status ≡ 6 → ⊥)
      → (status ≡ 11 → ⊥) → Adds before.outputs.out.taken [] after.outputs.out.taken
  unwritten (no_sink line number rose written told) not_done not_unparsed not_failed not_over =
      absurd (not_failed number)
  unwritten (no_memory number none told) not_done not_unparsed not_failed not_over =
      same_adds before.outputs.out.taken after.outputs.out.taken (ap (λ (s : SinkSeen). s.taken) none)
  unwritten (all gives still) not_done not_unparsed not_failed not_over =
      subst (λ (piece : List ℕ). Adds before.outputs.out.taken piece after.outputs.out.taken)
      (nothing_written a (λ is. not_done (gives.status_is ∙ is)) (λ is. not_unparsed (gives.status_is ∙ is)) (λ is. not_over (gives.status_is ∙ is)))
      gives.written

  -- where something stops the run, the status is its own, or that of want of memory
  stopped : (stop : Stop) → a ≡ Err stop → Finished a before.outputs after.outputs status
      → (status ≡ status_of (Err stop)) ⊎ (status ≡ 9)
  stopped stop is (all gives still) = inl (gives.status_is ∙ ap status_of is)
  stopped stop is (no_sink line number rose written told) =
      absurd (unwritten_stop stop (subst Writes is line))
  stopped stop is (no_memory number none told) = inr number

  unread : Finished a before.outputs after.outputs status
      → Decided words free before.inputs after.inputs a
      → IsTrue (is_before_schema status) → after.inputs.source ≡ before.inputs.source
  unread end (by_words at place is untouched) early = ap (λ (i : Inputs). i.source) untouched
  unread end (by_schema order stop orders is fault loads kept) early = kept
  unread (all gives still) (by_data order table orders found read) early =
      absurd (read_late order.verb table before.inputs.source after.inputs.source a read
      (subst (λ (s : ℕ). IsTrue (is_before_schema s)) gives.status_is early))
  unread (no_sink line number rose written told) (by_data order table orders found read) early =
      absurd (let no : IsTrue (is_before_schema 6) = subst (λ (s : ℕ). IsTrue (is_before_schema s)) number early in cc)
  unread (no_memory number none told) (by_data order table orders found read) early =
      absurd (let no : IsTrue (is_before_schema 9) = subst (λ (s : ℕ). IsTrue (is_before_schema s)) number early in cc)

  schema_refused : Finished a before.outputs after.outputs status
      → Decided words free before.inputs after.inputs a
      → status ≡ 2 → (after.inputs.source ≡ before.inputs.source) ⊎ VariableFails before after
  schema_refused end (by_words at place is untouched) two = inl (ap (λ (i : Inputs). i.source) untouched)
  schema_refused end (by_schema order stop orders is fault loads kept) two = inl kept
  schema_refused (all gives still) (by_data order table orders found read) two =
      let told = read_refused order.verb table before.inputs.source after.inputs.source a read (sym gives.status_is ∙ two) in
      inr (record {
        cause = told.cause;
        bit = told.bit;
        path = told.path;
        used_up = told.used_up;
        told = subst (λ (line : List ℕ). Tells line before.outputs.notes after.outputs.notes) told.note gives.told;
      })
  schema_refused (no_sink line number rose written told) (by_data order table orders found read) two = absurd (omega arith)
  schema_refused (no_memory number none told) (by_data order table orders found read) two = absurd (omega arith)

  unloaded : Finished a before.outputs after.outputs status
      → Decided words free before.inputs after.inputs a
      → status ≡ 4 → after.inputs.files ≡ before.inputs.files
  unloaded end (by_words at place is untouched) four = ap (λ (i : Inputs). i.files) untouched
  unloaded end (by_schema order stop orders is fault loads kept) four =
      absurd (no_usage (stopped stop is end))
    where
      no_usage : (status ≡ status_of (Err stop)) ⊎ (status ≡ 9) → ⊥
      no_usage (inl own) =
          load_late order.verb free before.inputs.files after.inputs.files before.inputs.patterns after.inputs.patterns order.schema stop fault (sym own ∙ four)
      no_usage (inr none) = absurd (omega arith)
  unloaded (all gives still) (by_data order table orders found read) four =
      absurd (read_late order.verb table before.inputs.source after.inputs.source a read
      (subst (λ (s : ℕ). IsTrue (is_before_schema s)) (sym four ∙ gives.status_is) refl))
  unloaded (no_sink line number rose written told) (by_data order table orders found read) four = absurd (omega arith)
  unloaded (no_memory number none told) (by_data order table orders found read) four = absurd (omega arith)

  unbuilt : Finished a before.outputs after.outputs status
      → Decided words free before.inputs after.inputs a
      → IsTrue (is_before_schema status) → after.inputs.patterns ≡ before.inputs.patterns
  unbuilt end (by_words at place is untouched) early = ap (λ (i : Inputs). i.patterns) untouched
  unbuilt end (by_schema order stop orders is fault loads kept) early = by (stopped stop is end)
    where
      by : (status ≡ status_of (Err stop)) ⊎ (status ≡ 9) → after.inputs.patterns ≡ before.inputs.patterns
      by (inl own) = load_unbuilt order.verb free before.inputs.files after.inputs.files before.inputs.patterns after.inputs.patterns order.schema
          stop fault (subst (λ (s : ℕ). IsTrue (is_before_schema s)) own early)
      by (inr none) = absurd (let no : IsTrue (is_before_schema 9) = subst (λ (s : ℕ). IsTrue (is_before_schema s)) none early in cc)
  unbuilt (all gives still) (by_data order table orders found read) early =
      absurd (read_late order.verb table before.inputs.source after.inputs.source a read
      (subst (λ (s : ℕ). IsTrue (is_before_schema s)) gives.status_is early))
  unbuilt (no_sink line number rose written told) (by_data order table orders found read) early =
      absurd (let no : IsTrue (is_before_schema 6) = subst (λ (s : ℕ). IsTrue (is_before_schema s)) number early in cc)
  unbuilt (no_memory number none told) (by_data order table orders found read) early =
      absurd (let no : IsTrue (is_before_schema 9) = subst (λ (s : ℕ). IsTrue (is_before_schema s)) number early in cc)

  used_up : Finished a before.outputs after.outputs status
      → Decided words free before.inputs after.inputs a
      → IsTrue (is_of_data status) → IsUsedUp before.inputs.source.left after.inputs.source.left
  used_up (no_sink line number rose written told) decision of =
      absurd (let no : IsTrue (is_of_data 6) = subst (λ (s : ℕ). IsTrue (is_of_data s)) number of in cc)
  used_up (no_memory number none told) decision of =
      absurd (let no : IsTrue (is_of_data 9) = subst (λ (s : ℕ). IsTrue (is_of_data s)) number of in cc)
  used_up (all gives still) (by_words at place is untouched) of =
      absurd (stop_early (Usage (at + 1)) (subst (λ (s : ℕ). IsTrue (is_of_data s)) (gives.status_is ∙ ap status_of is) of))
  used_up (all gives still) (by_schema order stop orders is fault loads kept) of =
      absurd (stop_early stop (subst (λ (s : ℕ). IsTrue (is_of_data s)) (gives.status_is ∙ ap status_of is) of))
  used_up (all gives still) (by_data order table orders found read) of =
      read_used order.verb table before.inputs.source after.inputs.source a read
      (subst (λ (s : ℕ). IsTrue (is_of_data s)) gives.status_is of)

  out_still : Finished a before.outputs after.outputs status → (status ≡ 6 → ⊥)
      → after.outputs.out.faults ≡ before.outputs.out.faults
  out_still (all gives still) not_failed = still
  out_still (no_sink line number rose written told) not_failed = absurd (not_failed number)
  out_still (no_memory number none told) not_failed = ap (λ (s : SinkSeen). s.faults) none

  source_still : Finished a before.outputs after.outputs status
      → Decided words free before.inputs after.inputs a
      → (status ≡ 5 → ⊥) → (status ≡ 9 → ⊥)
      → after.inputs.source.faults ≡ before.inputs.source.faults
  source_still end (by_words at place is untouched) not_failed some =
      ap (λ (i : Inputs). i.source.faults) untouched
  source_still end (by_schema order stop orders is fault loads kept) not_failed some =
      ap (λ (s : SourceSeen). s.faults) kept
  source_still end (by_data order table orders found read) not_failed some =
      read_still order.verb table before.inputs.source after.inputs.source a read
      (λ is. either (stopped SourceFailed is end))
    where
      either : (status ≡ 5) ⊎ (status ≡ 9) → ⊥
      either (inl failed) = not_failed failed
      either (inr none) = some none

  files_still : Finished a before.outputs after.outputs status
      → Decided words free before.inputs after.inputs a
      → (status ≡ 7 → ⊥) → (status ≡ 9 → ⊥) → after.inputs.files.faults ≡ before.inputs.files.faults
  files_still end (by_words at place is untouched) not_failed some =
      ap (λ (i : Inputs). i.files.faults) untouched
  files_still end (by_schema order stop orders is fault loads kept) not_failed some =
      load_still order.verb free before.inputs.files after.inputs.files before.inputs.patterns after.inputs.patterns order.schema stop fault
      (λ own. either (stopped stop is end) own)
    where
      either : (status ≡ status_of (Err stop)) ⊎ (status ≡ 9)
          → (status_of (Err stop) ≡ 7) ⊎ (status_of (Err stop) ≡ 9) → ⊥
      either (inl own) (inl failed) = not_failed (own ∙ failed)
      either (inl own) (inr none) = some (own ∙ none)
      either (inr none) number = some none
  files_still end (by_data order table orders found read) not_failed some =
      ap (λ (f : FilesSeen). f.faults) found.loaded.seen

  few_loads : Decided words free before.inputs after.inputs a → AreFewLoads before.inputs.files after.inputs.files
  few_loads (by_words at place is untouched) =
      record { n = 0; few = omega arith; loads = ap (λ (i : Inputs). i.files.loads) untouched }
  few_loads (by_schema order stop orders is fault loads kept) = loads
  few_loads (by_data order table orders found read) = record {
    n = length found.documents;
    few = found.loaded.are.few;
    loads = ap (λ (f : FilesSeen). f.loads) found.loaded.seen;
  }

  pub run_is : IsRun words before after status
  run_is = record {
    free = free;
    answered = (a, decided, finished);
    expected = expected;
    source_failed = source_failed finished;
    sink_failed = sink_failed finished;
    files_failed = files_failed finished;
    out_of_memory = out_of_memory finished;
    unwritten = unwritten finished;
    unread = unread finished decided;
    schema_refused = schema_refused finished decided;
    unloaded = unloaded finished decided;
    unbuilt = unbuilt finished decided;
    used_up = used_up finished decided;
    out_still = out_still finished;
    source_still = source_still finished decided;
    files_still = files_still finished decided;
    loads = few_loads decided;
  }
