use Rattle.std.proofs.Common.{◌∙◌, Some, ap, get_or, length, refl}
use Rattle.dfdl_statements.specs.Children.{children_in, slots_in}
use Rattle.dfdl_statements.specs.Elements.{or_else}
use Rattle.dfdl_statements.specs.Settled.{first_asked, first_told}
use Rattle.dfdl_statements.proofs.Refused.{row_refused}
use Rattle.dfdl_statements.proofs.Tables.{there}
use Rattle.dfdl_statements.proofs.settling.row_refusal.Goals as goal

pub returns : goal.returns
returns c = λ read reads.
    let rows = c.args.scene.now.rows.now in
    let written = c.args.scene.now.written.now in
    let row = get_or rows c.args.number c.index-scene-number.result in
    row_refused rows written c.args.number read c.args.sight.now c.args.given c.args.table.now
    c.in_ok-own.own c.in_ok-inner.inner c.or_else.result row (c.in_ok-own.ensures read reads)
    (there rows (length rows) c.args.number c.index-scene-number.result refl c.requires.within c.index-scene-number.is ∙ ap Some c.index-scene-number.is)
    (c.in_ok-inner.ensures read reads
    ∙ ap
    (λ n. or_else (first_asked read c.args.sight.now rows written c.args.given n c.args.table.now (slots_in (Some row))) (first_told c.args.table.now (children_in (Some row))))
    c.new-id.ensures) c.or_else.ensures
