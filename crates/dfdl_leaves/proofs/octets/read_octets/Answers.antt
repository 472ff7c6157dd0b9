use Rattle.std.proofs.Common.{◌≡◌, ℕ, ◌+◌, ◌-◌, ◌/◌, ◌%◌, ◌<◌, ◌∙◌, length, ap, arith}
use Rattle.dfdl_bits.specs.Window.{seen_at}
use Rattle.dfdl_looks.specs.Asks.{Told}
use Rattle.dfdl_terms.specs.declared.row.Primitive.TheVariants.{Octets}
use Rattle.dfdl_grammar.specs.Leaves.{FindsOctets, bytes_spanned}
use Rattle.dfdl_grammar.specs.Octets.{octets_from}
use Rattle.dfdl_grammar.specs.declared.span.Span.{Span}
use Rattle.dfdl_leaves.specs.declared.leaf.Found.TheVariants.{Octets as HasOctets}
use Rattle.dfdl_leaves.proofs.HexBinaries.{field_read}
use Rattle.dfdl_leaves.proofs.Leaves.{cut_read, whole_read}
use Rattle.dfdl_leaves.proofs.octets.read_octets.Goals as goal

pub returns-then-run-count-clause-answers : goal.returns-then-run-count-clause-answers
returns-then-run-count-clause-answers g c =
    let form = c.args.form in
    let look = seen_at c.args.sight.now in
    let looks : ℕ = c.cut.new.steps - c.args.steps.now in
    let fewer : length c.run-run.result.now < bytes_spanned c.args.bit form.bits = omega arith in
    field_read look form c.args.bit c.args.scratch.now c.if-form-eq0.false c.if-form-ne0.false c.cut.result looks
    (cut_read look (Octets form) c.args.bit c.run-run.result.now c.run-run.ensures.seen fewer c.cut.result c.cut.ensures.cut looks (omega arith) c.args.scratch.now)

pub returns-clause-answers : goal.returns-clause-answers
returns-clause-answers g c =
    let form = c.args.form in
    let look = seen_at c.args.sight.now in
    let run = c.run-run.result.now in
    let looks : ℕ = c.run-run.new.steps - c.args.steps.now in
    let all : bytes_spanned c.args.bit form.bits ≡ length run = omega arith in
    field_read look form c.args.bit _ c.if-form-eq0.false c.if-form-ne0.false _ looks
    (whole_read look (Octets form) c.args.bit run c.run-run.ensures.seen (omega arith) all _
    (HasOctets c.filled.result)
    (ap (λ bytes. Told (FindsOctets bytes c.filled.result)) c.in_ok-put_octets.ensures
    ∙ ap (λ (span : Span). Told (FindsOctets (octets_from form.bits_by run (c.args.bit % 8) (form.bits / 8)) span)) c.filled.ensures) (c.args.bit / 8 + c.spanned-count.result) (omega arith) looks (omega arith))
