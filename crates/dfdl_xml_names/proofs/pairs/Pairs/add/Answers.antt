use Rattle.std.specs.Prelude.{◌&&◌, Some, if◌then◌else◌, string_bytes, true}
use Rattle.std.specs.BTreeMap.{get_by_text}
use Rattle.std.specs.Map.{update}
use Rattle.std.specs.Str.{bytes_eq}
use Rattle.std.proofs.Common.{ap, ◌∙◌, sym}
use Rattle.dfdl_xml_names.specs.Paired.{has_in, has_second}
use Rattle.dfdl_xml_names.specs.declared.pairs.Seconds.{Seconds}
use Rattle.dfdl_xml_names.specs.declared.pairs.Seconds.TheVariants.{One}
use Rattle.dfdl_xml_names.proofs.Put.{pair_again, pair_first}
use Rattle.dfdl_xml_names.proofs.Texts.{on_ok}
use Rattle.dfdl_xml_names.proofs.pairs.Pairs.add.Goals as goal

pub returns-in-None-clause-pairs : goal.returns-in-None-clause-pairs
returns-in-None-clause-pairs c = λ a b.
    let old = get_by_text c.args.self.now.seconds in
    let s = bytes_eq c.args.second.now b in
    ap (λ o. has_in o b) (c.in_ok-put.ensures.put a)
    ∙ (pair_first old (string_bytes c.in_ok-from_str-2.field-0) a b (One c.in_ok-from_str.field-0) s (ap (λ l. bytes_eq l b) c.in_ok-from_str.ensures.ok)
    (sym c.in-None.is ∙ c.in_ok-put.ensures.before)
    ∙ ap (λ l. if bytes_eq l a && s then true else has_in (old a) b) c.in_ok-from_str-2.ensures.ok)

pub returns-in-Some-clause-pairs : goal.returns-in-Some-clause-pairs
returns-in-Some-clause-pairs c =
    let old = get_by_text c.args.self.now.seconds in
    let p = string_bytes c.in_ok-from_str-2.field-0 in
    let one : Seconds = One c.in_ok-from_str.field-0 in
    let before : Seconds = c.in-Some.before in
    on_ok c.put_back.result c.put_back.ensures.pairs
    (λ step a b.
    let s = bytes_eq c.args.second.now b in
    step a b
    ∙ (ap (λ o. if bytes_eq c.args.first.now a then (if s then true else has_second before b) else has_in o b) (c.in_ok-put.ensures.put a)
    ∙ (ap (λ l. if bytes_eq l a then (if s then true else has_second before b) else has_in (update bytes_eq old p (Some one) a) b) (sym c.in_ok-from_str-2.ensures.ok)
    ∙ (pair_again old p a b one before s (sym c.in-Some.is ∙ c.in_ok-put.ensures.before)
    ∙ ap (λ l. if bytes_eq l a && s then true else has_in (old a) b) c.in_ok-from_str-2.ensures.ok))))
