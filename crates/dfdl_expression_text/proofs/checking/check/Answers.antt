use Rattle.std.proofs.Common.{◌≡◌, ℕ, ◌+◌, ◌<◌, ◌≤◌, Bool, true, false, Ok, IsErr, List, length, get_or, take, ap, subst, sym, ◌∙◌, arith}
use Rattle.std.proofs.lemmas.List.{take_all}
use Rattle.dfdl_fronts.specs.Fronts.{IsPlace}
use Rattle.dfdl_layers.specs.Tellers.{run}
use Rattle.dfdl_layers.specs.Bytes.{Inside, byte_accepts}
use Rattle.dfdl_layers.proofs.Runs.{run_more}
use Rattle.dfdl_expression_text.specs.Machine.{State, accepts}
use Rattle.dfdl_expression_text.specs.Counting.{read_start, read_step}
use Rattle.dfdl_expression_text.specs.Expressions.{IsExpression}
use Rattle.dfdl_expression_text.specs.Shown.{ByteSteps, inside_seen}
use Rattle.dfdl_expression_text.proofs.Whole.{stuck_at, stuck_end, whole_text, SoundRead, begins_soundly, goes_soundly, counts_few}
use Rattle.dfdl_expression_text.proofs.checking.check.Goals as goal

pub loop-at-init : goal.loop-at-init
loop-at-init c = (ap Ok (sym c.new-reader.ensures), subst SoundRead (sym c.new-reader.ensures) begins_soundly)

pub step-requires : goal.step-requires
step-requires c =
    let few : c.loop-at.reader.scanner.count ≤ 1000 = counts_few (inside_seen c.loop-at.reader) c.loop-at.invariant.1 in
    omega arith

pub loop-at-preserved : goal.loop-at-preserved
loop-at-preserved c =
    let bytes = c.as_bytes-bytes.result.now in
    let inside : c.loop-at.at < length bytes = omega arith in
    let taken : ByteSteps (read_step (inside_seen c.loop-at.reader) (get_or bytes c.loop-at.at 0)) true (inside_seen c.step.new.self) =
    subst (λ (x : Bool). ByteSteps (read_step (inside_seen c.loop-at.reader) (get_or bytes c.loop-at.at 0)) x (inside_seen c.step.new.self)) c.if-not-goes_on.false c.in_ok-goes_on.ensures
    in (
      run_more read_step read_start bytes c.loop-at.at (inside_seen c.loop-at.reader) (inside_seen c.step.new.self) 0 inside c.loop-at.invariant.0 taken,
      goes_soundly (inside_seen c.loop-at.reader) (inside_seen c.step.new.self) (get_or bytes c.loop-at.at 0) c.loop-at.invariant.1 taken,
    )

pub returns-then-not-goes_on-clause-place : goal.returns-then-not-goes_on-clause-place
returns-then-not-goes_on-clause-place c =
    let bytes = c.as_bytes-bytes.result.now in
    let inside : c.loop-at.at < length bytes = omega arith in
    let taken : ByteSteps (read_step (inside_seen c.loop-at.reader) (get_or bytes c.loop-at.at 0)) false (inside_seen c.step.new.self) =
    subst (λ (x : Bool). ByteSteps (read_step (inside_seen c.loop-at.reader) (get_or bytes c.loop-at.at 0)) x (inside_seen c.step.new.self)) c.if-not-goes_on.true c.in_ok-goes_on.ensures
    in
    subst (λ (l : List ℕ). IsPlace IsExpression l c.loop-at.at) c.as_bytes-bytes.ensures.value
    (stuck_at bytes c.loop-at.at (inside_seen c.loop-at.reader) inside c.loop-at.invariant.0 taken)

all_read : (bytes : List ℕ) (at : ℕ) (i : Inside State) → length bytes ≤ at → run read_step read_start (take at bytes) ≡ Ok i → run read_step read_start bytes ≡ Ok i
all_read bytes at i behind is = subst (λ (l : List ℕ). run read_step read_start l ≡ Ok i) (take_all at bytes behind) is

pub returns-then-not-ends-clause-place : goal.returns-then-not-ends-clause-place
returns-then-not-ends-clause-place c =
    let bytes = c.as_bytes-bytes.result.now in
    let behind : length bytes ≤ c.loop-at.at = omega arith in
    let refuses : byte_accepts accepts (inside_seen c.loop-at.reader) ≡ false = sym c.in_ok-ends.ensures ∙ c.if-not-ends.true in
    subst (λ (l : List ℕ). IsPlace IsExpression l (length bytes)) c.as_bytes-bytes.ensures.value
    (stuck_end bytes (inside_seen c.loop-at.reader) (all_read bytes c.loop-at.at (inside_seen c.loop-at.reader) behind c.loop-at.invariant.0) refuses)

pub returns-clause-expression : goal.returns-clause-expression
returns-clause-expression c =
    let bytes = c.as_bytes-bytes.result.now in
    let behind : length bytes ≤ c.loop-at.at = omega arith in
    let takes : byte_accepts accepts (inside_seen c.loop-at.reader) ≡ true = sym c.in_ok-ends.ensures ∙ c.if-not-ends.false in
    subst (λ (l : List ℕ). IsExpression l) c.as_bytes-bytes.ensures.value
    (whole_text bytes (inside_seen c.loop-at.reader) (all_read bytes c.loop-at.at (inside_seen c.loop-at.reader) behind c.loop-at.invariant.0) takes)
