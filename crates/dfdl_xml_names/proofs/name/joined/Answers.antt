use Rattle.std.specs.String.{string_bytes}
use Rattle.std.specs.Str.{chars}
use Rattle.std.specs.Prelude.{◌++◌, ◌∷◌, []}
use Rattle.std.proofs.Common.{ap, ◌∙◌, arith}
use Rattle.dfdl_xml_names.proofs.Texts.{joined_chars, is_text}
use Rattle.dfdl_xml_names.proofs.name.joined.Goals as goal

pub returns : goal.returns
returns c =
    ap chars
    (c.in_ok-push_str-2.ensures.bytes
    ∙ (ap (λ l. l ++ c.deref-2.result.now)
    (c.in_ok-push.ensures.bytes
    ∙ (ap (λ l. string_bytes c.push_str.new.self ++ l) (c.in_ok-push.ensures.ascii (omega arith))
    ∙ ap (λ l. l ++ 58 ∷ [])
    (c.in_ok-push_str.ensures.bytes
    ∙ (ap (λ l. l ++ c.deref.result.now) c.in_ok-text.ensures.bytes ∙ c.deref.ensures))))
    ∙ ap (λ l. (string_bytes c.args.prefix.now ++ 58 ∷ []) ++ l) c.deref-2.ensures))
    ∙ joined_chars (string_bytes c.args.prefix.now) (string_bytes c.args.part.now) (is_text c.args.prefix.now) (is_text c.args.part.now)
