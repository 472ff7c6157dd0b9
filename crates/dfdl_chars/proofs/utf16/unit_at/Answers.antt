use Rattle.std.proofs.Common.{◌+◌, sym, ap, ◌∙◌, add_assoc}
use Rattle.dfdl_chars.specs.Decoding.{in_box, Walk, at_byte}
use Rattle.dfdl_chars.specs.Looks.{joined_by}
use Rattle.dfdl_chars.proofs.utf16.unit_at.Goals as goal

pub returns-in-Ok-byte_at-clause-next : goal.returns-in-Ok-byte_at-clause-next
returns-in-Ok-byte_at-clause-next g c = λ go.
    let here = c.args.here.now in
    let box = in_box here.window.now here.stop in
    let join = joined_by c.args.order in
    let walk : Walk = record { far = c.in-Ok.first.far; looks = c.byte_at.new.steps } in
    c.in-Ok.ensures.next (λ a w. at_byte box (here.byte + c.args.ahead + 1) w c.args.ends.1 (λ b v. go (join a b) v))
    ∙ ap (λ k. at_byte box k walk c.args.ends.1 (λ b v. go (join c.in-Ok.first.byte b) v)) (add_assoc here.byte c.args.ahead 1)
    ∙ c.in-Ok-byte_at.ensures.next (λ b v. go (join c.in-Ok.first.byte b) v)
    ∙ ap (λ u. go u (record { far = c.in-Ok-byte_at.second.far; looks = c.byte_at-in-Ok.new.steps })) (sym c.joined.ensures)

pub returns-in-Err-byte_at-clause-next : goal.returns-in-Err-byte_at-clause-next
returns-in-Err-byte_at-clause-next g c = λ go.
    let here = c.args.here.now in
    let box = in_box here.window.now here.stop in
    let join = joined_by c.args.order in
    let walk : Walk = record { far = c.in-Ok.first.far; looks = c.byte_at.new.steps } in
    c.in-Ok.ensures.next (λ a w. at_byte box (here.byte + c.args.ahead + 1) w c.args.ends.1 (λ b v. go (join a b) v))
    ∙ ap (λ k. at_byte box k walk c.args.ends.1 (λ b v. go (join c.in-Ok.first.byte b) v)) (add_assoc here.byte c.args.ahead 1)
    ∙ c.in-Err-byte_at.ensures.next (λ b v. go (join c.in-Ok.first.byte b) v)
