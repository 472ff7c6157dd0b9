use Rattle.std.proofs.Common.{◌∙◌, Some, ap, get_or, length, refl}
use Rattle.dfdl_statements.specs.Settled.{beside, given_at, given_in, lowest}
use Rattle.dfdl_statements.proofs.Refused.{own_refused}
use Rattle.dfdl_statements.proofs.Tables.{there}
use Rattle.dfdl_statements.proofs.settling.own_refusal.Goals as goal

pub returns : goal.returns
returns c = λ read reads.
    let rows = c.args.scene.now.rows.now in
    let written = c.args.scene.now.written.now in
    let row = get_or rows c.args.number c.index-scene-number.result in
    own_refused rows written c.args.number read c.args.sight.now c.args.given c.args.scene.now.arounds.now c.in_ok-list.list.items
    c.given_at-here.result c.in_ok-found.found c.beside.result row c.requires.arounds c.in_ok-list.ensures
    (c.given_at-here.ensures ∙ ap (given_at c.args.given) c.new.ensures)
    (c.in_ok-found.ensures read reads ∙ ap (lowest read c.args.sight.now written c.given_at-here.result) c.as_slice.ensures.value)
    (there rows (length rows) c.args.number c.index-scene-number.result refl c.requires.within c.index-scene-number.is ∙ ap Some c.index-scene-number.is)
    (c.beside.ensures ∙ ap (λ o. beside o c.in_ok-found.found) (c.given_in.ensures ∙ ap (given_in c.args.given) c.counted_of.ensures))
