use Rattle.std.proofs.Common.{◌-◌, [], sym, subst, arith}
use Rattle.dfdl_bits.specs.Window.{seen_at}
use Rattle.dfdl_looks.specs.Asks.{ask}
use Rattle.dfdl_looks.specs.Tallies.{nothing}
use Rattle.dfdl_terms.specs.declared.text.TextSize.{TextSize}
use Rattle.dfdl_grammar.specs.Leaves.{text_of_size}
use Rattle.dfdl_leaves.specs.Readings.{Answers}
use Rattle.dfdl_leaves.specs.Views.{text_of}
use Rattle.dfdl_leaves.proofs.StringReadings.{boxed_sized, counted_sized, string-within}
use Rattle.dfdl_leaves.proofs.strings.read_string.Goals as goal

pub returns-in_ok-glance-in-Bits-clause-answers : goal.returns-in_ok-glance-in-Bits-clause-answers
returns-in_ok-glance-in-Bits-clause-answers g c opened opens =
    boxed_sized (seen_at c.args.sight.now) c.args.form.now opened c.args.bit c.args.stop c.args.size c.in-Bits.bits c.text_begins-first.result c.in-Bits.is
    c.text_begins-first.ensures.begin (omega arith) (c.read_characters.new.steps - c.args.steps.now) c.read_characters.new.scratch
    c.in_ok-glance-in-Bits.glance c.in_ok-glance-in-Bits.ensures.answers

pub returns-in_ok-glance-in-Bits-clause-within : goal.returns-in_ok-glance-in-Bits-clause-within
returns-in_ok-glance-in-Bits-clause-within g c =
    string-within c.args.sight.now (text_of c.args.form.now c.args.size) [] c.args.bit c.requires.at c.requires.base c.args.stop c.requires.room _ _
    c.in_ok-glance-in-Bits.glance
    (boxed_sized (seen_at c.args.sight.now) c.args.form.now [] c.args.bit c.args.stop c.args.size c.in-Bits.bits c.text_begins-first.result c.in-Bits.is
    c.text_begins-first.ensures.begin (omega arith) (c.read_characters.new.steps - c.args.steps.now) c.read_characters.new.scratch
    c.in_ok-glance-in-Bits.glance c.in_ok-glance-in-Bits.ensures.answers)

pub returns-in_ok-glance-in-Characters-clause-answers : goal.returns-in_ok-glance-in-Characters-clause-answers
returns-in_ok-glance-in-Characters-clause-answers g c opened opens =
    counted_sized (seen_at c.args.sight.now) c.args.form.now opened c.args.bit c.args.stop c.args.size c.in-Characters.count c.text_begins-first.result c.in-Characters.is
    c.text_begins-first.ensures.begin (c.read_characters-in-Characters.new.steps - c.args.steps.now) c.read_characters-in-Characters.new.scratch
    c.in_ok-glance-in-Characters.glance c.in_ok-glance-in-Characters.ensures.answers

pub returns-in_ok-glance-in-Characters-clause-within : goal.returns-in_ok-glance-in-Characters-clause-within
returns-in_ok-glance-in-Characters-clause-within g c =
    string-within c.args.sight.now (text_of c.args.form.now c.args.size) [] c.args.bit c.requires.at c.requires.base c.args.stop c.requires.room _ _
    c.in_ok-glance-in-Characters.glance
    (counted_sized (seen_at c.args.sight.now) c.args.form.now [] c.args.bit c.args.stop c.args.size c.in-Characters.count c.text_begins-first.result c.in-Characters.is
    c.text_begins-first.ensures.begin (c.read_characters-in-Characters.new.steps - c.args.steps.now) c.read_characters-in-Characters.new.scratch
    c.in_ok-glance-in-Characters.glance c.in_ok-glance-in-Characters.ensures.answers)

pub returns-in_ok-glance-in-Delimited-clause-answers : goal.returns-in_ok-glance-in-Delimited-clause-answers
returns-in_ok-glance-in-Delimited-clause-answers g c opened opens =
    subst (λ (size : TextSize). Answers (ask (seen_at c.args.sight.now) (text_of_size (text_of c.args.form.now c.args.size) size opened c.args.bit c.args.stop) nothing)
    c.read_delimited.new.scratch c.in_ok-glance-in-Delimited.glance (c.read_delimited.new.steps - c.args.steps.now))
    (sym c.in-Delimited.is) (c.in_ok-glance-in-Delimited.ensures.answers opened opens)
