use Rattle.std.proofs.Common.{◌≡◌, ℕ, ◌<◌, ◌≤◌, Bool, true, false, Some, length, List, get_or, take, subst, sym, ◌∙◌, arith}
use Rattle.std.proofs.lemmas.List.{take_all}
use Rattle.dfdl_forms.specs.declared.number_pattern.NumberPattern.{NumberPattern}
use Rattle.dfdl_fronts.specs.Fronts.{IsPlace}
use Rattle.dfdl_machines.specs.Machines.{run}
use Rattle.dfdl_machines.proofs.Readers.{place_at, place_end, reaches, run_more}
use Rattle.dfdl_number_pattern.specs.Pattern.{Spells, IsPattern}
use Rattle.dfdl_number_pattern.specs.Machine.{State, start, step, accepts}
use Rattle.dfdl_number_pattern.specs.Taken.{Takes}
use Rattle.dfdl_number_pattern.specs.ReaderShown.{state_seen}
use Rattle.dfdl_number_pattern.proofs.Runs.{reads_patterns, only_pattern}
use Rattle.dfdl_number_pattern.proofs.ReaderLaws.{Reached, spells_value}
use Rattle.dfdl_number_pattern.proofs.Texts.{KeepsTexts, keeps_texts, first_texts}
use Rattle.dfdl_number_pattern.proofs.Spelled.{one_read, spelled_bounded, unread}
use Rattle.dfdl_number_pattern.proofs.reading.read_pattern.Goals as goal

pub loop-at-preserved : goal.loop-at-preserved
loop-at-preserved c =
    let bytes = c.as_bytes-bytes.result.now in
    let inside : c.loop-at.at < length bytes = omega arith in
    let taken : Takes (step (state_seen c.loop-at.reader) (get_or bytes c.loop-at.at 0)) true (state_seen c.step.new.self) =
    subst (λ (x : Bool). Takes (step (state_seen c.loop-at.reader) (get_or bytes c.loop-at.at 0)) x (state_seen c.step.new.self)) c.if-not-branch.false c.in_ok-step.ensures
    in
    run_more step start bytes c.loop-at.at (state_seen c.loop-at.reader) (state_seen c.step.new.self) 0 inside c.loop-at.invariant taken

pub returns-then-not-branch-clause-place : goal.returns-then-not-branch-clause-place
returns-then-not-branch-clause-place c =
    let bytes = c.as_bytes-bytes.result.now in
    let inside : c.loop-at.at < length bytes = omega arith in
    let taken : Takes (step (state_seen c.loop-at.reader) (get_or bytes c.loop-at.at 0)) false (state_seen c.step.new.self) =
    subst (λ (x : Bool). Takes (step (state_seen c.loop-at.reader) (get_or bytes c.loop-at.at 0)) x (state_seen c.step.new.self)) c.if-not-branch.true c.in_ok-step.ensures
    in
    subst (λ (l : List ℕ). IsPlace IsPattern l c.loop-at.at) c.as_bytes-bytes.ensures.value
    (place_at reads_patterns bytes c.loop-at.at (state_seen c.loop-at.reader) 0 inside c.loop-at.invariant taken)

pub returns-then-not-branch-clause-refused : goal.returns-then-not-branch-clause-refused
returns-then-not-branch-clause-refused c =
    let place : IsPlace IsPattern c.args.text.now c.loop-at.at = returns-then-not-branch-clause-place c in
    unread c.args.text.now place.no_text

pub returns-then-not-accepts-clause-place : goal.returns-then-not-accepts-clause-place
returns-then-not-accepts-clause-place c =
    let bytes = c.as_bytes-bytes.result.now in
    let behind : length bytes ≤ c.loop-at.at = omega arith in
    let all : run step start bytes ≡ Some (state_seen c.loop-at.reader) =
    subst (λ (l : List ℕ). run step start l ≡ Some (state_seen c.loop-at.reader)) (take_all c.loop-at.at bytes behind) c.loop-at.invariant
    in
    let refuses : accepts (state_seen c.loop-at.reader) ≡ false = sym c.accepts.ensures ∙ c.if-not-accepts.true in
    subst (λ (l : List ℕ). IsPlace IsPattern l (length bytes)) c.as_bytes-bytes.ensures.value
    (place_end reads_patterns bytes (state_seen c.loop-at.reader) all refuses)

pub returns-then-not-accepts-clause-refused : goal.returns-then-not-accepts-clause-refused
returns-then-not-accepts-clause-refused c =
    let place : IsPlace IsPattern c.args.text.now (length c.as_bytes-bytes.result.now) = returns-then-not-accepts-clause-place c in
    unread c.args.text.now place.no_text

-- the machine has run through the whole text, and accepts
record Accepted (bytes : List ℕ) (s : State) : Type 0 where
  runs : run step start bytes ≡ Some s
  reached : Reached s bytes
  takes : accepts s ≡ true

accepted : (bytes : List ℕ) (at : ℕ) (s : State) → length bytes ≤ at → run step start (take at bytes) ≡ Some s → accepts s ≡ true → Accepted bytes s
accepted bytes at s behind is takes =
    let all : run step start bytes ≡ Some s = subst (λ (l : List ℕ). run step start l ≡ Some s) (take_all at bytes behind) is in
    record { runs = all; reached = reaches reads_patterns bytes s all; takes = takes }

texts : (c : goal.Else-not-accepts) → KeepsTexts (state_seen c.loop-at.reader)
texts c =
    let bytes = c.as_bytes-bytes.result.now in
    let a = accepted bytes c.loop-at.at (state_seen c.loop-at.reader) (omega arith) c.loop-at.invariant (sym c.accepts.ensures ∙ c.if-not-accepts.false) in
    keeps_texts (state_seen c.loop-at.reader) bytes a.reached a.takes c.as_bytes-bytes.ensures.utf8

pub finish-requires-clause-utf8_prefix : goal.finish-requires-clause-utf8_prefix
finish-requires-clause-utf8_prefix c = (texts c).last.is_prefix

pub finish-requires-clause-utf8_suffix : goal.finish-requires-clause-utf8_suffix
finish-requires-clause-utf8_suffix c = (texts c).last.is_suffix

pub finish-requires-clause-utf8_first : goal.finish-requires-clause-utf8_first
finish-requires-clause-utf8_first c = first_texts c.loop-at.reader.first (texts c).first

pub returns-clause-found : goal.returns-clause-found
returns-clause-found c =
    let bytes = c.as_bytes-bytes.result.now in
    let state = state_seen c.loop-at.reader in
    let a = accepted bytes c.loop-at.at state (omega arith) c.loop-at.invariant (sym c.accepts.ensures ∙ c.if-not-accepts.false) in
    subst (λ (l : List ℕ). Spells c.in_ok-finish.field-0 l) c.as_bytes-bytes.ensures.value
    (subst (λ (p : NumberPattern). Spells p bytes) (sym c.in_ok-finish.ensures) (spells_value state bytes a.reached a.takes))

pub returns-clause-reading : goal.returns-clause-reading
returns-clause-reading c = one_read c.args.text.now c.in_ok-finish.field-0 (returns-clause-found c)

pub returns-clause-bounded : goal.returns-clause-bounded
returns-clause-bounded c = spelled_bounded c.in_ok-finish.field-0 c.args.text.now (returns-clause-found c)

pub returns-clause-only : goal.returns-clause-only
returns-clause-only c other spells =
    let bytes = c.as_bytes-bytes.result.now in
    let state = state_seen c.loop-at.reader in
    let a = accepted bytes c.loop-at.at state (omega arith) c.loop-at.invariant (sym c.accepts.ensures ∙ c.if-not-accepts.false) in
    only_pattern state bytes a.runs other (subst (λ (l : List ℕ). Spells other l) (sym c.as_bytes-bytes.ensures.value) spells) ∙ sym c.in_ok-finish.ensures
