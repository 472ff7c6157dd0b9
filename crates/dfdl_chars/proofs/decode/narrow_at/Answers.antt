use Rattle.std.proofs.Common.{ℕ, ◌<◌, nat_lt, if◌then◌else◌, sym, ap, ◌∙◌, add-zero, arith}
use Rattle.std.proofs.lemmas.Bool.{lt-ltb}
use Rattle.dfdl_chars.specs.declared.decode.Chars.TheVariants.{Char, End}
use Rattle.dfdl_chars.specs.Decoding.{in_box, Walk, Decoded, at_byte, char_of, bad_of, found, no_look}
use Rattle.dfdl_chars.proofs.decode.narrow_at.Goals as goal

-- what is answered of a byte
abbrev answer : ℕ → ℕ → Walk → Decoded
answer limit b w = if nat_lt b limit then char_of b 1 w else bad_of 1 w

pub returns-in-Ok-clause-answer : goal.returns-in-Ok-clause-answer
returns-in-Ok-clause-answer g c =
    let here = c.args.here.now in
    let walk : Walk = record { far = c.in-Ok.seen.far; looks = c.byte_at.new.steps } in
    let below : c.in-Ok.seen.byte < c.args.limit = omega (arith, c.from.ensures) in
    ap (λ k. at_byte (in_box here.window.now here.stop) k (no_look c.args.steps.now) End (answer c.args.limit)) (sym (add-zero here.byte))
    ∙ c.in-Ok.ensures.next (answer c.args.limit)
    ∙ ap (λ t. if t then char_of c.in-Ok.seen.byte 1 walk else bad_of 1 walk) (lt-ltb _ _ below)
    ∙ ap (λ b. found (Char b 8) walk) (sym c.from-in-Ok.ensures)

pub returns-in-Err-clause-answer : goal.returns-in-Err-clause-answer
returns-in-Err-clause-answer g c =
    let here = c.args.here.now in
    ap (λ k. at_byte (in_box here.window.now here.stop) k (no_look c.args.steps.now) End (answer c.args.limit)) (sym (add-zero here.byte))
    ∙ c.in-Err.ensures.next (answer c.args.limit)
