use Rattle.std.proofs.Common.{◌≡◌, ◌+◌, ◌++◌, ◌∷◌, [], length, take, get_or, ap, sym, ◌∙◌, arith, None, Some}
use Rattle.std.proofs.lemmas.Bool.{cond-false, cond-true}
use Rattle.std.proofs.lemmas.Iterator.{YieldsList-from_chars}
use Rattle.std.proofs.lemmas.Iterator.Consumers.{YieldsList-turn, YieldsList-end}
use Rattle.std.proofs.lemmas.List.{length_push, take_all}
use Rattle.std.proofs.lemmas.Str.{encodes-chars}
use Rattle.std.specs.Char.{encode_utf8}
use Rattle.std.specs.Str.{chars, encode_utf8_all}
use Rattle.dfdl_machines.specs.Machines.{run}
use Rattle.dfdl_machines.proofs.Readers.{place_at, place_end, run_more}
use Rattle.dfdl_literals.specs.Steps.{step, start}
use Rattle.dfdl_literals.proofs.Bytes.{bytes_more, bytes_within}
use Rattle.dfdl_literals.proofs.Reader.{reader, reads_only}
use Rattle.dfdl_literals.proofs.scanned.Goals as goal

pub returns-in-Ok-false-clause-refused : goal.returns-in-Ok-false-clause-refused
returns-in-Ok-false-clause-refused c =
    let t = YieldsList-turn (YieldsList-from_chars c.args.text.now c.utf8.text cc) c.loop-c.yielded _ c.loop-c.yielded_by _ _ c.in-Some.c c.in-Some.is c.next.ensures.steps in
    let none : step c.args.empty_allowed c.loop-c.scan c.in-Some.c ≡ None = c.in-Ok-false.ensures ∙ cond-false _ _ _ c.in-Ok-false.field-0-test in (
      length c.loop-c.yielded,
      place_at (reader c.args.empty_allowed) (chars c.args.text.now) (length c.loop-c.yielded) c.loop-c.scan c.in-Some.c t.0 c.loop-c.invariant.1
          (ap (λ x. step c.args.empty_allowed c.loop-c.scan x) (sym t.1) ∙ none),
      c.loop-c.invariant.0,
    )

pub overflow_add-at : goal.overflow_add-at
overflow_add-at c =
    let t = YieldsList-turn (YieldsList-from_chars c.args.text.now c.utf8.text cc) c.loop-c.yielded _ c.loop-c.yielded_by _ _ c.in-Some.c c.in-Some.is c.next.ensures.steps in
    let cs = chars c.args.text.now in
    let n = length c.loop-c.yielded in
    let more = bytes_more cs n c.in-Some.c t.0 in
    let same : length (encode_utf8 (get_or cs n c.in-Some.c)) ≡ length (encode_utf8 c.in-Some.c) = ap (λ x. length (encode_utf8 x)) (sym t.1) in
    let within = bytes_within cs (n + 1) in
    let all : length (encode_utf8_all cs) ≡ length c.args.text.now = ap length (encodes-chars c.args.text.now c.utf8.text) in
    omega (arith, more, same, within, all, c.loop-c.invariant.0, c.len_utf8-at.ensures.len)

pub loop-c-preserved : goal.loop-c-preserved
loop-c-preserved c =
    let t = YieldsList-turn (YieldsList-from_chars c.args.text.now c.utf8.text cc) c.loop-c.yielded _ c.loop-c.yielded_by _ _ c.in-Some.c c.in-Some.is c.next.ensures.steps in
    let cs = chars c.args.text.now in
    let n = length c.loop-c.yielded in
    let one = length_push c.loop-c.yielded c.in-Some.c in
    let at_more : length (encode_utf8_all (take (length (c.loop-c.yielded ++ c.in-Some.c ∷ [])) cs)) ≡ length (encode_utf8_all (take (n + 1) cs)) =
    ap (λ k. length (encode_utf8_all (take k cs))) one in
    let more = bytes_more cs n c.in-Some.c t.0 in
    let same : length (encode_utf8 (get_or cs n c.in-Some.c)) ≡ length (encode_utf8 c.in-Some.c) = ap (λ x. length (encode_utf8 x)) (sym t.1) in
    let some : step c.args.empty_allowed c.loop-c.scan c.in-Some.c ≡ Some c.step.new.self = c.in-Ok-true.ensures ∙ cond-true _ _ _ c.in-Ok-true.field-0-test in (
      omega (arith, at_more, more, same, c.loop-c.invariant.0, c.len_utf8-at.ensures.len),
      ap (λ k. run (step c.args.empty_allowed) start (take k cs)) one
          ∙ run_more (step c.args.empty_allowed) start cs n c.loop-c.scan c.step.new.self c.in-Some.c t.0 c.loop-c.invariant.1
          (ap (λ x. step c.args.empty_allowed c.loop-c.scan x) (sym t.1) ∙ some),
    )

pub returns-then-is_whole-clause-found : goal.returns-then-is_whole-clause-found
returns-then-is_whole-clause-found c =
    let t = YieldsList-end (YieldsList-from_chars c.args.text.now c.utf8.text cc) c.loop-c.yielded _ c.loop-c.yielded_by _ _ c.in-None.is c.next.ensures.steps in
    let cs = chars c.args.text.now in
    let all : take (length c.loop-c.yielded) cs ≡ cs = take_all (length c.loop-c.yielded) cs (omega (arith, t.1)) in
    reads_only c.args.empty_allowed c.loop-c.scan cs
    (ap (λ l. run (step c.args.empty_allowed) start l) (sym all) ∙ c.loop-c.invariant.1)
    (sym c.is_whole.ensures ∙ c.if-is_whole.true)

pub returns-else-is_whole-clause-refused : goal.returns-else-is_whole-clause-refused
returns-else-is_whole-clause-refused c =
    let t = YieldsList-end (YieldsList-from_chars c.args.text.now c.utf8.text cc) c.loop-c.yielded _ c.loop-c.yielded_by _ _ c.in-None.is c.next.ensures.steps in
    let cs = chars c.args.text.now in
    let all : take (length c.loop-c.yielded) cs ≡ cs = take_all (length c.loop-c.yielded) cs (omega (arith, t.1)) in (
      length cs,
      place_end (reader c.args.empty_allowed) cs c.loop-c.scan (ap (λ l. run (step c.args.empty_allowed) start l) (sym all) ∙ c.loop-c.invariant.1)
          (sym c.is_whole.ensures ∙ c.if-is_whole.false),
      c.loop-c.invariant.0 ∙ ap (λ k. length (encode_utf8_all (take k cs))) t.1,
    )
