use Rattle.std.proofs.Common.{◌≡◌, length, Ok, sym, ap, ◌∙◌}
use Rattle.std.proofs.lemmas.List.{length-replicate}
use Rattle.dfdl_bits.specs.Bits.{data_bit}
use Rattle.dfdl_packed.specs.Packed.{nibbles_in}
use Rattle.dfdl_writings.proofs.FieldBits.{bits_of_nibbles}
use Rattle.dfdl_writings.proofs.Vecs.{written_over, kept_of}
use Rattle.dfdl_writings.specs.Bits.{nibble_bit}
use Rattle.dfdl_writings.specs.Fields.{nibble_field}
use Rattle.dfdl_writings.proofs.fields.packed.Goals as goal

pub returns-in-Ok : goal.returns-in-Ok
returns-in-Ok c =
    let new = c.write.new.bytes in
    let items = c.in_ok-bytes.bytes.items in
    let form = c.args.form.now in
    let order = form.bits_by in
    let count = form.nibbles in
    let same : length new ≡ length items = c.write.auto.bytes ∙ ap length c.as_mut_slice.ensures.value in
    let over = written_over new items c.in_ok-bytes.bytes.len same c.in_ok-bytes.bytes.ok.0 in
    let long = ap length over ∙ (same ∙ (ap length c.in_ok-bytes.ensures ∙ length-replicate _ 0)) in
    let kept = kept_of order _ _ _ _ 0 _ (c.as_mut_slice.ensures.value ∙ c.in_ok-bytes.ensures) (sym over) c.in-Ok.ensures.kept in
    let bit = nibble_bit order (nibbles_in form new 0) in
    ap Ok (c.field.ensures order bit long kept (λ i h. ap (λ xs. data_bit order xs i) over ∙ bits_of_nibbles order new count i h))
    ∙ sym (ap (nibble_field order count) c.in-Ok.ensures.nibbles)
