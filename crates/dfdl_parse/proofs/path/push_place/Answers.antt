use Rattle.std.proofs.Common.{◌≡◌, ◌∙◌, ap, sym, rules, refl, length, string_bytes, ◌++◌}
use Rattle.std.proofs.lemmas.Option.{slice_get_read}
use Rattle.dfdl_parse.proofs.Paths.{put-place, put-none}
use Rattle.dfdl_parse.proofs.path.push_place.Goals as goal

pub returns-in_ok-push_str-3 : goal.returns-in_ok-push_str-3
returns-in_ok-push_str-3 c t marked =
    put-place t c.args.nodes.now c.args.items.now c.args.number c.place_of.result c.in-Some.node.now (string_bytes c.args.text.now) (string_bytes c.push_str.new.self)
    (string_bytes c.push_str-then-has.new.self) (string_bytes c.push_str-then-has-2.new.self) (string_bytes c.in_ok-to_string.field-0) marked
    (slice_get_read c.args.nodes.now (length c.args.nodes.now) c.args.number c.in-Some.node.now refl c.in-Some.ensures.lookup.3.0 c.in-Some.ensures.lookup.1)
    (sym c.has.ensures ∙ c.if-has.true) c.place_of.ensures (search rules) c.in_ok-push_str.ensures.bytes
    (c.in_ok-push_str-2.ensures.bytes ∙ ap (λ ds. string_bytes c.push_str.new.self ++ ds) c.as_str.ensures.value) c.in_ok-push_str-3.ensures.bytes

pub returns-else-has : goal.returns-else-has
returns-else-has c t marked =
    put-none t c.args.nodes.now c.args.items.now c.args.number c.in-Some.node.now (string_bytes c.args.text.now) marked
    (slice_get_read c.args.nodes.now (length c.args.nodes.now) c.args.number c.in-Some.node.now refl c.in-Some.ensures.lookup.3.0 c.in-Some.ensures.lookup.1)
    (sym c.has.ensures ∙ c.if-has.false)
