use Rattle.std.proofs.Common.{ℕ, ◌-◌}
use Rattle.dfdl_bits.specs.Window.{seen_at}
use Rattle.dfdl_texts.specs.Texts.{text_at}
use Rattle.dfdl_leaves.specs.Views.{text_of}
use Rattle.dfdl_leaves.proofs.StringReadings.{characters_read}
use Rattle.dfdl_leaves.proofs.strings.read_characters.Goals as goal

pub returns-clause-answers : goal.returns-clause-answers
returns-clause-answers g c =
    let form = text_of c.args.form.now c.args.size in
    let looks : ℕ = c.read_text.new.steps - c.args.steps.now in
    characters_read (seen_at c.args.sight.now) form c.args.bit (text_at form.encoding form.replaces c.args.extent c.args.stop c.args.byte)
    c.read_text.new.into.items c.in_ok-text.text looks _ c.in_ok-found.found c.in_ok-text.ensures.answers c.in_ok-found.ensures.shown
