use Rattle.std.proofs.Common.{[], ◌∷◌, ◌++◌, sym, ap, subst, ◌∙◌}
use Rattle.dfdl_delims.specs.Firsts.{AreFirsts}
use Rattle.dfdl_delims.specs.Registers.{Register}
use Rattle.dfdl_delims.proofs.Fills.{not_none, popped, taken, untaken}
use Rattle.dfdl_delims.proofs.Held.{held}
use Rattle.dfdl_delims.proofs.Kept.{firsts_popped}
use Rattle.dfdl_delims.proofs.markup.Markup.pop.Goals as goal

pub returns-in-Some-clause-popped : goal.returns-in-Some-clause-popped
returns-in-Some-clause-popped c = λ lists list holds.
    let flat =
    popped (record { marks = c.self.inside.marks.items; starts = c.self.inside.starts.items; pieces = c.self.inside.pieces.items })
    (record { marks = c.pop.new.self.items; starts = c.truncate.new.self.items; pieces = c.truncate-in-Some.new.self.items }) lists list c.in-Some.mark
    (ap (λ (r : Register). r.flat) c.self.view_is ∙ holds.flat) c.in-Some.ensures.items c.truncate.ensures.items c.truncate-in-Some.ensures.items in
    record {
      flat = flat;
      firsts = firsts_popped lists list c.self.inside.firsts.items c.truncate-in-Some-2.new.self.items c.len.result
          (subst (AreFirsts (lists ++ list ∷ [])) (sym (ap (λ (r : Register). r.firsts) c.self.view_is)) holds.firsts) c.truncate-in-Some-2.ensures.items
          (c.len.ensures ∙ c.pop.new.self.ok.0
          ∙ (held (record { marks = c.pop.new.self.items; starts = c.truncate.new.self.items; pieces = c.truncate-in-Some.new.self.items }) lists flat).marks);
    }

pub returns-in-None-clause-popped : goal.returns-in-None-clause-popped
returns-in-None-clause-popped c = λ lists list holds.
    absurd
    (not_none (record { marks = c.self.inside.marks.items; starts = c.self.inside.starts.items; pieces = c.self.inside.pieces.items }) lists list
    (ap (λ (r : Register). r.flat) c.self.view_is ∙ holds.flat) (sym c.self.inside.marks.ok.0 ∙ c.in-None.ensures.cases.0))

pub returns-in-Some-clause-none : goal.returns-in-Some-clause-none
returns-in-Some-clause-none c = λ holds.
    absurd
    (taken (record { marks = c.self.inside.marks.items; starts = c.self.inside.starts.items; pieces = c.self.inside.pieces.items }) c.pop.new.self.items c.in-Some.mark
    (ap (λ (r : Register). r.flat) c.self.view_is ∙ holds.flat) c.in-Some.ensures.items)

pub returns-in-None-clause-none : goal.returns-in-None-clause-none
returns-in-None-clause-none c = λ holds. record {
  flat = untaken (record { marks = c.self.inside.marks.items; starts = c.self.inside.starts.items; pieces = c.self.inside.pieces.items }) c.pop.new.self.items
      (ap (λ (r : Register). r.flat) c.self.view_is ∙ holds.flat) (sym c.self.inside.marks.ok.0 ∙ c.in-None.ensures.cases.0) c.in-None.ensures.items;
  firsts = subst (AreFirsts []) (sym (ap (λ (r : Register). r.firsts) c.self.view_is)) holds.firsts;
}
