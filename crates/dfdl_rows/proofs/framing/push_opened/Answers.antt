use Rattle.std.proofs.Common.{◌∙◌, ◌+◌, ◌<◌, ◌^◌, ◌++◌, ℕ, List, length, true, false, sym, ap, subst}
use Rattle.dfdl_terms.specs.declared.row.Row.{Row}
use Rattle.dfdl_rows.proofs.Opened.{opened_by, size_by}
use Rattle.dfdl_rows.proofs.Walks.{on_ok}
use Rattle.dfdl_rows.proofs.framing.push_opened.Goals as goal

pub push_framed-requires : goal.push_framed-requires
push_framed-requires c =
    subst (λ (n : ℕ). length c.args.rows.now.items + n < 2 ^ 32)
    (size_by c.args.framing c.args.separators false (sym c.has_openings.ensures ∙ c.if-not-has_openings.true)) c.requires

pub returns-then-not-has_openings : goal.returns-then-not-has_openings
returns-then-not-has_openings c =
    c.in_ok-push_framed.ensures.rows
    ∙ ap (λ (own : List Row). c.args.rows.now.items ++ own)
    (sym (opened_by c.args.framing c.args.separators c.args.content (length c.args.rows.now.items) false (sym c.has_openings.ensures ∙ c.if-not-has_openings.true)))

pub push_with_instances-requires : goal.push_with_instances-requires
push_with_instances-requires c =
    subst (λ (n : ℕ). length c.args.rows.now.items + n < 2 ^ 32)
    (size_by c.args.framing c.args.separators true (sym c.has_openings.ensures ∙ c.if-not-has_openings.false)) c.requires

pub returns : goal.returns
returns c =
    on_ok c.push_with_instances.result _ _ c.push_with_instances.ensures
    (λ is.
    is
    ∙ ap (λ (own : List Row). c.args.rows.now.items ++ own)
    (sym (opened_by c.args.framing c.args.separators c.args.content (length c.args.rows.now.items) true (sym c.has_openings.ensures ∙ c.if-not-has_openings.false))))
