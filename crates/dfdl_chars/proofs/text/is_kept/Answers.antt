use Rattle.std.proofs.Common.{rules, Some, ap, ◌∙◌, inl, inr}
use Rattle.std.specs.Str.{chars, IsAscii}
use Rattle.std.proofs.lemmas.Str.{encodes-chars, chars-IsAscii}
use Rattle.dfdl_chars.proofs.Texts.{utf8_text, ascii_text, latin_text}
use Rattle.dfdl_chars.proofs.text.is_kept.Goals as goal

pub returns-in-Utf8 : goal.returns-in-Utf8
returns-in-Utf8 c = λ kept.
    rw c.in-Utf8.is (utf8_text (chars c.args.text.now) ∙ ap Some (encodes-chars c.args.text.now c.utf8.text))

pub returns-in-UsAscii : goal.returns-in-UsAscii
returns-in-UsAscii c = λ kept.
    let ascii : IsAscii c.args.text.now = search (rules, kept, c.is_ascii.ensures.cases) in
    rw (chars-IsAscii c.args.text.now ascii)
    (elim c.in-UsAscii.is [
      | inl e ↦ rw e (ascii_text c.args.text.now ascii)
      | inr e ↦ rw e (latin_text c.args.text.now ascii)
    ])
