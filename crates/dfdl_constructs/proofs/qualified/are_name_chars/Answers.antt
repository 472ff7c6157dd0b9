use Rattle.std.proofs.Common.{◌≡◌, [], length, drop, ap, sym, ◌∙◌, arith, chars}
use Rattle.std.proofs.lemmas.Iterator.{YieldsList-from_chars}
use Rattle.std.proofs.lemmas.Iterator.Consumers.{YieldsList-turn, YieldsList-end}
use Rattle.std.proofs.lemmas.List.{length_push, drop_all}
use Rattle.std.specs.List.{list_all}
use Rattle.dfdl_xml_chars.specs.Characters.{is_name_char}
use Rattle.dfdl_constructs.proofs.Names.{first_fails, first_holds}
use Rattle.dfdl_constructs.proofs.qualified.are_name_chars.Goals as goal

pub returns-then-not-is_name_char : goal.returns-then-not-is_name_char
returns-then-not-is_name_char c =
    let t = YieldsList-turn (YieldsList-from_chars c.args.text.now c.utf8.text cc) c.loop-c.yielded _ c.loop-c.yielded_by _ _ c.in-Some.c c.in-Some.is c.next.ensures.steps in
    first_fails is_name_char (chars c.args.text.now) (length c.loop-c.yielded) c.in-Some.c t.0 t.1 (sym c.is_name_char.ensures ∙ c.if-not-is_name_char.true) ∙ c.loop-c.invariant

pub loop-c-preserved : goal.loop-c-preserved
loop-c-preserved c =
    let t = YieldsList-turn (YieldsList-from_chars c.args.text.now c.utf8.text cc) c.loop-c.yielded _ c.loop-c.yielded_by _ _ c.in-Some.c c.in-Some.is c.next.ensures.steps in
    ap (λ n. list_all is_name_char (drop n (chars c.args.text.now))) (length_push c.loop-c.yielded c.in-Some.c)
    ∙ first_holds is_name_char (chars c.args.text.now) (length c.loop-c.yielded) c.in-Some.c t.0 t.1 (sym c.is_name_char.ensures ∙ c.if-not-is_name_char.false)
    ∙ c.loop-c.invariant

pub returns : goal.returns
returns c =
    let t = YieldsList-end (YieldsList-from_chars c.args.text.now c.utf8.text cc) c.loop-c.yielded _ c.loop-c.yielded_by _ _ c.in-None.is c.next.ensures.steps in
    let cs = chars c.args.text.now in
    let all : drop (length c.loop-c.yielded) cs ≡ [] = drop_all (length c.loop-c.yielded) cs (omega (arith, t.1)) in
    sym (ap (list_all is_name_char) all) ∙ c.loop-c.invariant
