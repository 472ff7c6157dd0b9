use Rattle.std.proofs.Common.{◌≡◌, length, Ok, sym, ap, ◌∙◌}
use Rattle.std.proofs.lemmas.List.{length-replicate}
use Rattle.dfdl_bits.specs.Bits.{data_bit}
use Rattle.dfdl_int_binary.specs.Integers.{field_of}
use Rattle.dfdl_writings.proofs.FieldBits.{bits_of_number}
use Rattle.dfdl_writings.proofs.Vecs.{written_over, kept_of}
use Rattle.dfdl_writings.specs.Bits.{number_bit}
use Rattle.dfdl_writings.specs.Fields.{number_field}
use Rattle.dfdl_writings.specs.declared.fault.Unwritten.TheVariants.{BinaryForm}
use Rattle.dfdl_writings.proofs.fields.integer.Goals as goal

pub returns-in-Ok : goal.returns-in-Ok
returns-in-Ok c =
    let new = c.write.new.bytes in
    let items = c.in_ok-bytes.bytes.items in
    let form = c.args.form.now in
    let order = form.bits_by in
    let bits = form.bits in
    let same : length new ≡ length items = c.write.auto.bytes ∙ ap length c.as_mut_slice.ensures.value in
    let over = written_over new items c.in_ok-bytes.bytes.len same c.in_ok-bytes.bytes.ok.0 in
    let long = ap length over ∙ (same ∙ (ap length c.in_ok-bytes.ensures ∙ length-replicate _ 0)) in
    let kept = kept_of order _ _ _ _ 0 _ (c.as_mut_slice.ensures.value ∙ c.in_ok-bytes.ensures) (sym over) c.in-Ok.ensures.kept in
    let bit = number_bit form.bytes_by order bits (field_of form new 0) in
    ap Ok (c.field.ensures order bit long kept (λ i h. ap (λ xs. data_bit order xs i) over ∙ bits_of_number form.bytes_by order new bits i h))
    ∙ sym (ap (number_field BinaryForm form.bytes_by order bits) c.in-Ok.ensures.number)
