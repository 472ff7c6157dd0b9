use Rattle.std.proofs.Common.{ℕ, ◌<◌, get_or, ap, subst, ◌∙◌}
use Rattle.dfdl_writings.proofs.FieldBits.{field_is, in_bytes}
use Rattle.dfdl_writings.proofs.fields.field.Goals as goal

pub returns : goal.returns
returns c = λ order bit long kept is.
    let small : (k : ℕ) → get_or c.args.bytes.items k 0 < 256 = λ k. subst (λ xs. get_or xs k 0 < 256) c.deref.ensures.value (c.bytes_are_small.ensures k) in
    ap (λ n. in_bytes n c.from_vec.result) c.from.ensures ∙ ap (in_bytes c.args.bits) c.from_vec.ensures ∙ field_is order c.args.bits c.args.bytes.items bit small long kept is
