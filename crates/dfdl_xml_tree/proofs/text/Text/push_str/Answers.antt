use Rattle.std.proofs.Common.{◌≡◌, ◌++◌, ap, ◌∙◌, subst, ℕ, List}
use Rattle.std.proofs.lemmas.Str.{IsUtf8-string_bytes, chars-append}
use Rattle.std.specs.Str.{chars}
use Rattle.std.specs.Prelude.{OnOk, Ok, Err, Result, is_ok, if◌then◌else◌}
use Rattle.std.specs.String.{string_bytes}
use Rattle.dfdl_xml_tree.proofs.text.Text.push_str.Goals as goal

by_result : {E : Type 0} (r : Result (Unit {0}) E) (old new more : List ℕ)
    → chars (old ++ more) ≡ chars old ++ chars more
    → new ≡ (if is_ok r then old ++ more else old)
    → OnOk r (chars new ≡ chars old ++ chars more)
by_result (Ok done) old new more grows e = ap chars e ∙ grows
by_result (Err error) old new more grows e = tt

pub returns : goal.returns
returns c =
    let old = string_bytes c.self.inside.text in
    let text = c.args.text.now in
    let grows = chars-append old text (IsUtf8-string_bytes c.self.inside.text) in
    let grown : OnOk c.push_str.result (chars (string_bytes c.push_str.new.self) ≡ chars old ++ chars text) =
    by_result c.push_str.result old (string_bytes c.push_str.new.self) text grows c.push_str.ensures.bytes in
    subst (λ v. OnOk c.push_str.result (chars (string_bytes c.push_str.new.self) ≡ v ++ chars text)) c.self.view_is grown
