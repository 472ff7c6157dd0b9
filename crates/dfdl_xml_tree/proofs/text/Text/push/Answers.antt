use Rattle.std.proofs.Common.{◌≡◌, ◌∷◌, ◌++◌, [], ap, ◌∙◌, subst, ℕ, List}
use Rattle.std.proofs.lemmas.Str.{IsUtf8-string_bytes}
use Rattle.std.specs.Str.{chars}
use Rattle.std.specs.Prelude.{OnOk, Ok, Err, Result, is_ok, if◌then◌else◌, encode_utf8}
use Rattle.std.specs.String.{string_bytes}
use Rattle.dfdl_xml_tree.proofs.Texts.{chars-push}
use Rattle.dfdl_xml_tree.proofs.text.Text.push.Goals as goal

by_result : {E : Type 0} (r : Result (Unit {0}) E) (old new : List ℕ) (c : ℕ)
    → chars (old ++ encode_utf8 c) ≡ chars old ++ c ∷ []
    → new ≡ (if is_ok r then old ++ encode_utf8 c else old)
    → OnOk r (chars new ≡ chars old ++ c ∷ [])
by_result (Ok done) old new c more e = ap chars e ∙ more
by_result (Err error) old new c more e = tt

pub returns : goal.returns
returns c =
    let old = string_bytes c.self.inside.text in
    let more = chars-push old c.args.c (IsUtf8-string_bytes c.self.inside.text) c.ranges.c.0 in
    let bytes = c.push.ensures.bytes in
    let grown : OnOk c.push.result (chars (string_bytes c.push.new.self) ≡ chars old ++ c.args.c ∷ []) =
    by_result c.push.result old (string_bytes c.push.new.self) c.args.c more bytes in
    subst (λ v. OnOk c.push.result (chars (string_bytes c.push.new.self) ≡ v ++ c.args.c ∷ [])) c.self.view_is grown
