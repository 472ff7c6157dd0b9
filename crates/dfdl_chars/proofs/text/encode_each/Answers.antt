use Rattle.std.proofs.Common.{◌≡◌, length, take, Some, refl, ap, sym, ◌∙◌, arith}
use Rattle.std.proofs.lemmas.Iterator.{YieldsList-from_chars}
use Rattle.std.proofs.lemmas.Iterator.Consumers.{YieldsList-turn, YieldsList-end}
use Rattle.std.proofs.lemmas.List.{length_push, take_all}
use Rattle.std.specs.Str.{chars}
use Rattle.dfdl_chars.specs.Encodings.{encoded_text, joined}
use Rattle.dfdl_chars.proofs.Texts.{text_more, text_lacks}
use Rattle.dfdl_chars.proofs.text.encode_each.Goals as goal

pub returns-in-Err-clause-lacks : goal.returns-in-Err-clause-lacks
returns-in-Err-clause-lacks c = λ lacks.
    let t = YieldsList-turn (YieldsList-from_chars c.args.text.now c.utf8.text cc) c.loop-c.yielded _ c.loop-c.yielded_by _ _ c.in-Some.c c.in-Some.is c.next.ensures.steps in
    text_lacks c.args.enc (chars c.args.text.now) (length c.loop-c.yielded) c.in-Some.c t.0 t.1 (c.in-Err.ensures.refused.0 refl)

pub loop-c-preserved : goal.loop-c-preserved
loop-c-preserved c =
    let t = YieldsList-turn (YieldsList-from_chars c.args.text.now c.utf8.text cc) c.loop-c.yielded _ c.loop-c.yielded_by _ _ c.in-Some.c c.in-Some.is c.next.ensures.steps in
    let one = length_push c.loop-c.yielded c.in-Some.c in
    ap (λ n. joined (Some c.args.into.now.items) (encoded_text c.args.enc (take n (chars c.args.text.now)))) one
    ∙ text_more c.args.enc (chars c.args.text.now) (length c.loop-c.yielded) c.in-Some.c c.args.into.now.items c.loop-c.into.items _ t.0 t.1
    c.in-Ok.ensures.written c.loop-c.invariant
    ∙ ap Some (sym c.in-Ok-put.ensures)

pub returns-clause-written : goal.returns-clause-written
returns-clause-written c =
    let t = YieldsList-end (YieldsList-from_chars c.args.text.now c.utf8.text cc) c.loop-c.yielded _ c.loop-c.yielded_by _ _ c.in-None.is c.next.ensures.steps in
    let cs = chars c.args.text.now in
    let all : take (length c.loop-c.yielded) cs ≡ cs = take_all (length c.loop-c.yielded) cs (omega (arith, t.1)) in
    ap (λ xs. joined (Some c.args.into.now.items) (encoded_text c.args.enc xs)) (sym all) ∙ c.loop-c.invariant
