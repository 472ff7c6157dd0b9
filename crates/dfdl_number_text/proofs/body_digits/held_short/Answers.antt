use Rattle.std.proofs.Common.{◌∙◌, filter, length, ap, sym, arith}
use Rattle.std.specs.Char.{is_ascii_digit}
use Rattle.dfdl_value.specs.Texts.{number_after}
use Rattle.dfdl_value.proofs.DecimalLemmas.{number_after-append}
use Rattle.dfdl_number_text.proofs.ShortNumbers.{room_more}
use Rattle.dfdl_number_text.proofs.body_digits.held_short.Goals as goal

pub appended_short-number-requires : goal.appended_short-number-requires
appended_short-number-requires c = room_more 0 0 (length c.args.whole.now) (omega arith) (omega (arith, c.requires))

pub appended_short-requires : goal.appended_short-requires
appended_short-requires c =
    room_more c.appended_short-number.result (length c.args.whole.now) (length c.args.fraction.now) c.appended_short-number.ensures.small (omega (arith, c.requires))

pub returns : goal.returns
returns c =
    let whole = filter is_ascii_digit c.args.whole.now in
    let fraction = filter is_ascii_digit c.args.fraction.now in
    record { value = c.appended_short.ensures.value ∙ ap (λ n. number_after n fraction) c.appended_short-number.ensures.value ∙ sym (number_after-append 0 whole fraction) }
