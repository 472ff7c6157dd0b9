use Rattle.std.proofs.Common.{◌∙◌}
use Rattle.dfdl_statements.specs.Settled.{refusal}
use Rattle.dfdl_statements.proofs.Refused.{looked_err, looked_ok, looked_same}
use Rattle.dfdl_statements.proofs.settling.settle.Goals as goal

pub returns-in-Ok-clause-answer : goal.returns-in-Ok-clause-answer
returns-in-Ok-clause-answer c = λ read reads.
    let rows = c.args.rows.now in
    let written = c.args.written.items in
    looked_ok read c.args.sight.now rows written (refusal read c.args.sight.now rows written c.args.given) c.in_ok-looked.looked
    (looked_same read c.args.sight.now rows c.args.given c.as_slice.result.now written c.in_ok-looked.looked c.as_slice.ensures.value (c.in_ok-looked.ensures read reads))
    c.in-Ok.places c.made.result c.in-Ok.is (λ same. c.made.ensures.answer rows read reads (c.as_slice-in-Ok.ensures.value ∙ same))

pub returns-in-Err-clause-answer : goal.returns-in-Err-clause-answer
returns-in-Err-clause-answer c = λ read reads.
    let rows = c.args.rows.now in
    let written = c.args.written.items in
    looked_err read c.args.sight.now rows written (refusal read c.args.sight.now rows written c.args.given) c.in_ok-looked.looked
    (looked_same read c.args.sight.now rows c.args.given c.as_slice.result.now written c.in_ok-looked.looked c.as_slice.ensures.value (c.in_ok-looked.ensures read reads))
    c.in-Err.refusal c.in-Err.is
