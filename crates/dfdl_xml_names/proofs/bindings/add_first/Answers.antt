use Rattle.std.specs.Prelude.{Some, option_map, string_bytes, if◌then◌else◌, None}
use Rattle.std.specs.BTreeMap.{get_by_text}
use Rattle.std.specs.Map.{update}
use Rattle.std.specs.Option.{option_or}
use Rattle.std.specs.Str.{bytes_eq}
use Rattle.std.proofs.Common.{ap, ◌∙◌, sym}
use Rattle.dfdl_xml_names.proofs.Put.{put_again, put_first}
use Rattle.dfdl_xml_names.proofs.bindings.add_first.Goals as goal

pub returns-in-None : goal.returns-in-None
returns-in-None c = λ q.
    let old = get_by_text c.args.first.now in
    let p = string_bytes c.in_ok-from_str.field-0 in
    let text = c.in_ok-text.text in
    ap (option_map string_bytes) (c.in_ok-put.ensures.put q)
    ∙ (put_first old p q text (sym c.in-None.is ∙ c.in_ok-put.ensures.before)
    ∙ (ap (λ l. option_or (option_map string_bytes (old q)) (if bytes_eq l q then Some (string_bytes text) else None)) c.in_ok-from_str.ensures.ok
    ∙ ap (λ l. option_or (option_map string_bytes (old q)) (if bytes_eq c.args.prefix.now q then Some l else None)) c.in_ok-text.ensures.ok))

pub returns-in_ok-put-in-Some : goal.returns-in_ok-put-in-Some
returns-in_ok-put-in-Some c = λ q.
    let old = get_by_text c.args.first.now in
    let p = string_bytes c.in_ok-from_str.field-0 in
    let text = c.in_ok-text.text in
    let before = c.in-Some.before in
    let same = c.in_ok-from_str-in-Some.ensures.ok ∙ sym c.in_ok-from_str.ensures.ok in
    ap (option_map string_bytes)
    (c.in_ok-put-in-Some.ensures.put q
    ∙ (ap (λ o. if bytes_eq (string_bytes c.in_ok-from_str-in-Some.field-0) q then Some before else o) (c.in_ok-put.ensures.put q)
    ∙ ap (λ l. if bytes_eq l q then Some before else update bytes_eq old p (Some text) q) same))
    ∙ (put_again old p q text before (sym c.in-Some.is ∙ c.in_ok-put.ensures.before)
    ∙ (ap (λ l. option_or (option_map string_bytes (old q)) (if bytes_eq l q then Some (string_bytes text) else None)) c.in_ok-from_str.ensures.ok
    ∙ ap (λ l. option_or (option_map string_bytes (old q)) (if bytes_eq c.args.prefix.now q then Some l else None)) c.in_ok-text.ensures.ok))
