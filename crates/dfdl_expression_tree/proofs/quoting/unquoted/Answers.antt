use Rattle.std.proofs.Common.{◌≡◌, ◌+◌, [], ◌++◌, length, drop, ap, sym, ◌∙◌, arith, chars}
use Rattle.std.specs.String.{string_bytes}
use Rattle.std.proofs.lemmas.Iterator.{YieldsList-from_chars}
use Rattle.std.proofs.lemmas.Iterator.Consumers.{YieldsList-turn, YieldsList-end}
use Rattle.std.proofs.lemmas.List.{length_push, drop_all}
use Rattle.dfdl_expression_tree.specs.TokenLists.{coded}
use Rattle.dfdl_expression_tree.specs.Quoting.{quoted_rest, told_bytes}
use Rattle.dfdl_expression_tree.proofs.Quotes.{told_more, told_all}
use Rattle.dfdl_expression_tree.proofs.quoting.unquoted.Goals as goal

pub loop-c-preserved : goal.loop-c-preserved
loop-c-preserved c =
    let t = YieldsList-turn (YieldsList-from_chars c.args.written.now c.utf8.written cc) c.loop-c.yielded _ c.loop-c.yielded_by _ _
    c.in-Some.c c.in-Some.is c.next.ensures.steps in
    let cs = chars c.args.written.now in
    let later = string_bytes c.put.new.text in
    let told = c.in_ok-put.ensures ∙ ap (λ o. string_bytes c.loop-c.text ++ told_bytes o) c.tells.ensures in
    ap (λ n. later ++ coded (quoted_rest c.next-quoting.result (drop n cs))) (length_push c.loop-c.yielded c.in-Some.c)
    ∙ (ap (λ q. later ++ coded (quoted_rest q (drop (length c.loop-c.yielded + 1) cs))) c.next-quoting.ensures
    ∙ (told_more c.loop-c.quoting cs (length c.loop-c.yielded) c.in-Some.c (string_bytes c.loop-c.text) later t.0 t.1 told
    ∙ c.loop-c.invariant))

pub returns : goal.returns
returns c =
    let t = YieldsList-end (YieldsList-from_chars c.args.written.now c.utf8.written cc) c.loop-c.yielded _ c.loop-c.yielded_by _ _
    c.in-None.is c.next.ensures.steps in
    let cs = chars c.args.written.now in
    let all : drop (length c.loop-c.yielded) cs ≡ [] = drop_all (length c.loop-c.yielded) cs (omega (arith, t.1)) in
    sym (told_all c.loop-c.quoting (string_bytes c.loop-c.text) (drop (length c.loop-c.yielded) cs) all) ∙ c.loop-c.invariant
