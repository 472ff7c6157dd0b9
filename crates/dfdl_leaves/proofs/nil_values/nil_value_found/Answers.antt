use Rattle.std.proofs.Common.{List, ℕ, Bool, ap, sym, ◌∙◌}
use Rattle.std.specs.List.{list_any}
use Rattle.dfdl_looks.specs.Asks.{Told}
use Rattle.dfdl_grammar.specs.Leaves.{is_bytes, is_text, nil_find}
use Rattle.dfdl_leaves.specs.declared.leaf.Found.{Found}
use Rattle.dfdl_leaves.specs.Nils.{nil_value_reached}
use Rattle.dfdl_leaves.specs.Readings.{found_shown}
use Rattle.dfdl_leaves.proofs.nil_values.nil_value_found.Goals as goal

pub returns-in-Octets-clause-found : goal.returns-in-Octets-clause-found
returns-in-Octets-clause-found c after =
    c.nil_found-in-Octets.ensures.found after
    ∙ ap (λ (b : Bool). Told (nil_find c.in-Octets.span b))
    (c.are_octets.ensures ∙ ap (λ (bytes : List ℕ). list_any (is_bytes bytes) c.args.values.now) c.as_slice.ensures.value)
    ∙ sym (ap (λ (f : Found). nil_value_reached c.args.values.now (found_shown c.args.scratch.now f)) c.in-Octets.is)

pub returns-in-Utf8-clause-found : goal.returns-in-Utf8-clause-found
returns-in-Utf8-clause-found c after =
    c.nil_found-in-Utf8.ensures.found after
    ∙ ap (λ (b : Bool). Told (nil_find c.in-Utf8.span b))
    (c.is_text.ensures ∙ ap (λ (bytes : List ℕ). list_any (is_text bytes) c.args.values.now) c.as_slice-in-Utf8.ensures.value)
    ∙ sym (ap (λ (f : Found). nil_value_reached c.args.values.now (found_shown c.args.scratch.now f)) c.in-Utf8.is)
