use Rattle.std.proofs.Common.{◌∙◌, ap, sym, Some, []}
use Rattle.std.proofs.lemmas.List.{take_rest}
use Rattle.dfdl_chars.specs.Encodings.{encoded_of, joined}
use Rattle.dfdl_literal_texts.specs.Places.{front_of}
use Rattle.dfdl_literal_texts.proofs.Ends.{first_lacks, second_lacks, both_stand, one_front}
use Rattle.dfdl_literal_texts.proofs.fronts.pair_length.Goals as goal

pub returns-in-None-clause-front : goal.returns-in-None-clause-front
returns-in-None-clause-front c =
    first_lacks (encoded_of c.args.encoding c.args.first) (joined (encoded_of c.args.encoding c.args.second) (Some [])) c.args.bytes.now c.in-None.ensures.front

pub returns-in-None-front_length-clause-front : goal.returns-in-None-front_length-clause-front
returns-in-None-front_length-clause-front c =
    second_lacks (encoded_of c.args.encoding c.args.first) (joined (encoded_of c.args.encoding c.args.second) (Some [])) c.args.bytes.now c.in-Some.count
    c.in-Some.ensures.front
    (c.in-None-front_length.ensures.front ∙ ap (λ l. front_of (encoded_of c.args.encoding c.args.second) l) (take_rest c.args.bytes.now c.in-Some.count)
    ∙ sym (one_front (encoded_of c.args.encoding c.args.second) _))

pub returns-in-Some-front_length-clause-front : goal.returns-in-Some-front_length-clause-front
returns-in-Some-front_length-clause-front c =
    both_stand (encoded_of c.args.encoding c.args.first) (joined (encoded_of c.args.encoding c.args.second) (Some [])) c.args.bytes.now c.in-Some.count _
    c.in-Some.ensures.front
    (c.in-Some-front_length.ensures.front ∙ ap (λ l. front_of (encoded_of c.args.encoding c.args.second) l) (take_rest c.args.bytes.now c.in-Some.count)
    ∙ sym (one_front (encoded_of c.args.encoding c.args.second) _))
