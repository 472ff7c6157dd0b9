use Rattle.dfdl_number_text.specs.Writing.{number_of_value}
use Rattle.dfdl_number_text.proofs.WriteLemmas.{written_number}
use Rattle.dfdl_number_text.proofs.write_value.write_pattern.Goals as goal

pub returns-in-Some-size_of : goal.returns-in-Some-size_of
returns-in-Some-size_of c =
    written_number c.args.form.now c.args.pattern.now (number_of_value c.args.value.now) c.in-Some.number c.mode_of-mode.result c.in-Some-size_of.size c.put_number.result
    c.args.into.now c.put_number.new.into c.in-Some.ensures.number c.mode_of-mode.ensures (rw c.places_of.ensures.value at c.in-Some-size_of.ensures)
    (record { count_is = c.put_number.ensures.place; inside = c.put_number.ensures.inside; put = c.put_number.ensures.put })
