use Rattle.std.proofs.Common.{◌≡◌, ◌^◌, ◌++◌, ◌∷◌, [], ◌∙◌, List, ℕ, length, sym, ap, arith}
use Rattle.dfdl_terms.specs.declared.row.Row.TheVariants.{Group}
use Rattle.dfdl_rows.specs.Framing.{rows_before, numbers}
use Rattle.dfdl_rows.proofs.Framed.{unframed_row}
use Rattle.dfdl_rows.proofs.Pushed.{none_pushed, before_few, behind_few, whole_few, whole_row, whole_rows}
use Rattle.dfdl_rows.proofs.framing.push_framed.Goals as goal

pub returns-then-not-has_framing-clause-rows : goal.returns-then-not-has_framing-clause-rows
returns-then-not-has_framing-clause-rows c =
    none_pushed c.args.framing c.args.separators c.args.content (length c.args.rows.now.items) c.args.rows.now.items (sym c.has_framing.ensures ∙ c.if-not-has_framing.true)

pub returns-then-not-has_framing-clause-whole : goal.returns-then-not-has_framing-clause-whole
returns-then-not-has_framing-clause-whole c =
    sym (unframed_row c.args.framing c.args.separators c.args.content (length c.args.rows.now.items) (sym c.has_framing.ensures ∙ c.if-not-has_framing.true))

pub push_before-requires : goal.push_before-requires
push_before-requires c =
    before_few c.args.framing c.args.separators (2 ^ 32) c.args.rows.now.items (sym c.has_framing.ensures ∙ c.if-not-has_framing.false) c.requires

pub push_behind-requires : goal.push_behind-requires
push_behind-requires c =
    behind_few c.args.framing c.args.separators c.args.content (2 ^ 32) c.args.rows.now.items c.push_before.new.rows.items
    (sym c.has_framing.ensures ∙ c.if-not-has_framing.false) c.requires c.in_ok-push_before.ensures.rows

pub overflow_cast-len : goal.overflow_cast-len
overflow_cast-len c =
    let few = whole_few c.args.framing c.args.separators c.args.content (2 ^ 32) c.args.rows.now.items c.push_before.new.rows.items
    (sym c.has_framing.ensures ∙ c.if-not-has_framing.false) c.requires c.in_ok-push_before.ensures.rows c.push_behind.new.rows.items c.in_ok-push_behind.ensures.rows in
    omega (arith, few, c.len.ensures)

pub returns-clause-rows : goal.returns-clause-rows
returns-clause-rows c =
    whole_rows c.args.framing c.args.separators c.args.content (2 ^ 32) c.args.rows.now.items c.push_before.new.rows.items
    (sym c.has_framing.ensures ∙ c.if-not-has_framing.false) c.requires c.in_ok-push_before.ensures.rows c.push_behind.new.rows.items c.in_ok-push_behind.ensures.rows
    c.push_before.new.group.items c.push.new.self.items c.push_behind.new.group.items
    (c.in_ok-push_before.ensures.group ∙ ap (λ (ns : List ℕ). ns ++ numbers (rows_before c.args.framing) (length c.args.rows.now.items)) c.new-group.ensures.items)
    c.in_ok-push.ensures.items c.in_ok-push_behind.ensures.group
    c.push-2.new.self.items
    (c.in_ok-push-2.ensures.items ∙ ap (λ (ns : List ℕ). c.push_behind.new.rows.items ++ Group ns ∷ []) c.new.ensures)

pub returns-clause-whole : goal.returns-clause-whole
returns-clause-whole c =
    let is : c.new-whole.result ≡ length c.push_behind.new.rows.items = omega (arith, c.new-whole.ensures, c.len.ensures) in
    whole_row c.args.framing c.args.separators c.args.content (2 ^ 32) c.args.rows.now.items c.push_before.new.rows.items
    (sym c.has_framing.ensures ∙ c.if-not-has_framing.false) c.requires c.in_ok-push_before.ensures.rows c.push_behind.new.rows.items c.in_ok-push_behind.ensures.rows c.new-whole.result is
