use Rattle.std.proofs.Common.{ℕ, ◌+◌, ◌*◌, ◌^◌, List, ◌++◌, arith}
use Rattle.dfdl_number_text.specs.Writing.{body_text, places_of}
use Rattle.dfdl_number_text.specs.Written.{IsPut}
use Rattle.dfdl_number_text.proofs.WriteLists.{put_joined}
use Rattle.dfdl_number_text.proofs.write_value.put_between.Goals as goal

pub returns-clause-put : goal.returns-clause-put
returns-clause-put c =
    let prefix : List ℕ = c.args.prefix.now in
    let suffix : List ℕ = c.args.suffix.now in
    let places : ℕ = places_of c.args.pattern.now c.args.pattern.now.point in
    let body : List ℕ = body_text c.args.form.now c.args.pattern.now (c.args.size.whole * 10 ^ places + c.args.size.fraction) in
    let behind : IsPut c.put_affix-behind_prefix.new.into c.put_affix-behind_prefix.result (body ++ suffix) c.put_affix.new.into =
    put_joined c.put_affix-behind_prefix.new.into c.put_body-behind_body.new.into c.put_affix.new.into c.put_affix-behind_prefix.result c.put_body-behind_body.result body suffix
    (omega (arith, c.put_affix-behind_prefix.ensures.place, c.requires.room, c.put_affix-behind_prefix.auto.into)) c.put_body-behind_body.ensures.place c.put_body-behind_body.ensures.put c.put_affix.ensures.put in
    put_joined c.args.into.now c.put_affix-behind_prefix.new.into c.put_affix.new.into 0 c.put_affix-behind_prefix.result prefix (body ++ suffix)
    (omega arith) c.put_affix-behind_prefix.ensures.place c.put_affix-behind_prefix.ensures.put behind
