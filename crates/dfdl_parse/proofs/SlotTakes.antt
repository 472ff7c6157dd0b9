-- What is known of a slot is taken.
use Rattle.std.proofs.Common.{◌≡◌, ℕ, max, ap, sym, subst, ◌∙◌, List, Bool, false, arith, Result, Ok, Err, OnOk}
use Rattle.dfdl_bits.specs.Window.{Held}
use Rattle.dfdl_looks.specs.Asks.{Reached, Told as Tells, Reading}
use Rattle.dfdl_looks.specs.Tallies.{needs_from, nothing, one_row}
use Rattle.dfdl_grammar.specs.declared.limits.Limits.{Limits}
use Rattle.dfdl_grammar.specs.States.{State}
use Rattle.dfdl_parse.specs.declared.frame.Frame.{Frame}
use Rattle.dfdl_parse.specs.declared.frame.Focus.{Focus}
use Rattle.dfdl_parse.specs.declared.parser.Parser.{Parser}
use Rattle.dfdl_parse.specs.declared.testing.Told.{Told}
use Rattle.dfdl_parse.specs.declared.testing.Verdict.TheVariants.{Holds}
use Rattle.dfdl_parse.specs.Testing.{verdict_shown}
use Rattle.dfdl_parse.specs.Moves.{Machine, Move}
use Rattle.dfdl_parse.specs.Shown.{Becomes, shown, state_of}
use Rattle.dfdl_parse.specs.SlotLooks.{Answers}
use Rattle.dfdl_parse.specs.Slots.{told_move}
use Rattle.dfdl_parse.specs.Steps.{Moved}
use Rattle.dfdl_parse.proofs.SlotMoves.{Passes}

pub answer-moved : (old mid new : Parser) (limits : Limits) (focus : Focus) (sight : Held) (moves : Bool → Move) (reading : Reading Bool) (told : Told) (looks : ℕ)
    (answer : Bool) (k : List Frame) (s : State) → Answers reading told looks → told.verdict ≡ Holds answer
    → Passes (needs_from sight.base reading.tally) sight (moves answer) → Becomes old (moves answer).machine mid
    → new ≡ record mid { far = max mid.far told.far }
    → Moved (told_move limits focus sight (needs_from sight.base reading.tally) moves reading.reached k s) false old.far new sight looks
answer-moved old mid new limits focus sight moves reading told looks answer k s answers is passes becomes new_is =
    let reached : reading.reached ≡ Tells answer = answers.reached ∙ ap verdict_shown is in
    let looks_are = answers.looks in
    let passed = passes.looks in
    let far_is : new.far ≡ max mid.far told.far = ap (λ (p : Parser). p.far) new_is in
    let mid_far : mid.far ≡ old.far = becomes.far in
    let told_far = answers.far in
    let passed_far = passes.far in
    subst (λ (r : Reached Bool). Moved (told_move limits focus sight (needs_from sight.base reading.tally) moves r k s) false old.far new sight looks) (sym reached)
    (record {
      machine = ap shown new_is ∙ becomes.machine;
      held = sym passes.held_are;
      waits = sym passes.waits;
      looks = omega arith;
      far = λ going. omega arith;
      stays = λ waits. absurd (cc);
    })

-- a step that looks at nothing is made
pub pass-moved : (old new : Parser) (held : Held) (move : Move) → Passes nothing held move → Becomes old move.machine new → Moved move false old.far new held 0
pass-moved old new held move passes becomes =
    let far = passes.far in
    let same = becomes.far in
    record {
      machine = becomes.machine;
      held = sym passes.held_are;
      waits = sym passes.waits;
      looks = sym passes.looks;
      far = λ going. omega arith;
      stays = λ waits. becomes.far;
    }

pub on_ok : {T E : Type 0} (r : Result T E) (P Q : Type 0) → OnOk r P → (P → Q) → OnOk r Q
on_ok (Ok v) P Q is follows = follows is
on_ok (Err e) P Q is follows = tt

-- the sequence begins
pub row-moved : (old new : Parser) (held : Held) (move : Move) → Passes one_row held move → Becomes old move.machine new → Moved move false old.far new held 0
row-moved old new held move passes becomes =
    let far = passes.far in
    let same = becomes.far in
    record {
      machine = becomes.machine;
      held = sym passes.held_are;
      waits = sym passes.waits;
      looks = sym passes.looks;
      far = λ going. omega arith;
      stays = λ waits. becomes.far;
    }

-- one change and then another
pub becomes-then : (old mid new : Parser) (m : Machine) (next : List Frame → State → Machine) → Becomes old m mid
    → Becomes mid (next mid.stack (state_of mid)) new → Becomes old (next m.stack m.state) new
becomes-then old mid new m next first second =
    let one = first.limits in
    let two = second.limits in
    record {
      machine = subst (λ (x : Machine). shown new ≡ next x.stack x.state) first.machine second.machine;
      far = second.far ∙ first.far;
      limits = (two.0 ∙ one.0, (two.1.0 ∙ one.1.0, (two.1.1.0 ∙ one.1.1.0, two.1.1.1 ∙ one.1.1.1)));
    }

-- a question is asked, over the window that the clause speaks of
pub question-moved : (old mid new : Parser) (held there : Held) (waited : Bool) (looks : ℕ) (move : Parser → Held → Move)
    → mid ≡ record old { candidates = mid.candidates } → there ≡ held → Moved (move mid there) waited mid.far new there looks
    → Moved (move (record old { candidates = mid.candidates }) held) waited old.far new there looks
question-moved old mid new held there waited looks move same is moved =
    let one : Moved (move (record old { candidates = mid.candidates }) there) waited old.far new there looks =
    subst (λ (p : Parser). Moved (move p there) waited p.far new there looks) same moved in
    subst (λ (h : Held). Moved (move (record old { candidates = mid.candidates }) h) waited old.far new there looks) is one
