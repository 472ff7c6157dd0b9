use Rattle.std.proofs.Common.{◌<◌, ◌+◌, ◌∙◌, ◌++◌, ◌∷◌, ap, sym, subst, refl, arith, map, List, ℕ, None, get_or}
use Rattle.std.specs.BTreeSet.{contains}
use Rattle.std.specs.Cmp.Lexicographic.{slice_cmp}
use Rattle.std.specs.Ordering.{nat_cmp}
use Rattle.dfdl_rows.specs.Looking.{branch_tasks, looks_left, looks_of, names_at, stand_of}
use Rattle.dfdl_rows.specs.declared.looking.Task.{Task}
use Rattle.dfdl_rows.specs.declared.looking.Task.TheVariants.{Visit, Close}
use Rattle.dfdl_rows.proofs.Looks.{branches_less, parts_less, rest_less}
use Rattle.dfdl_rows.proofs.Elements.{branches_ready, choice_step, named_step, rest_ready, sequence_step, tasks_ready}
use Rattle.dfdl_rows.proofs.looking.Looking.open.Goals as goal

pub returns-in_ok-visit_all-in-Sequence-clause-step : goal.returns-in_ok-visit_all-in-Sequence-clause-step
returns-in_ok-visit_all-in-Sequence-clause-step c =
    sequence_step c.args.components.now c.args.known.idle.now c.args.known.refusals.now c.args.number c.args.self.now.tasks.items c.requires.ready
    (stand_of c.args.self.now.level c.args.self.now.outer.items) (contains (λ x y. slice_cmp nat_cmp x.now y.now) c.args.self.now.names) c.requires.kept
    c.visit_all.new.tasks.items _ c.requires.unrefused (sym c.in-Sequence.is ∙ c.component.ensures.component) (λ p parts. refl)
    (c.in_ok-visit_all-in-Sequence.ensures ∙ ap (λ (ps : List ℕ). map Visit ps ++ c.args.self.now.tasks.items) c.parts.ensures.parts)

pub returns-in_ok-visit_all-in-Sequence-clause-ready : goal.returns-in_ok-visit_all-in-Sequence-clause-ready
returns-in_ok-visit_all-in-Sequence-clause-ready c =
    tasks_ready _ _ _ c.args.number c.args.self.now.tasks.items c.visit_all.new.tasks.items c.requires.ready
    (c.in_ok-visit_all-in-Sequence.ensures ∙ ap (λ (ps : List ℕ). map Visit ps ++ c.args.self.now.tasks.items) c.parts.ensures.parts)

pub returns-in_ok-visit_all-in-Sequence-clause-less : goal.returns-in_ok-visit_all-in-Sequence-clause-less
returns-in_ok-visit_all-in-Sequence-clause-less c =
    subst
    (λ (ts : List Task). looks_left c.args.components.now ts < looks_of c.args.components.now c.args.number + looks_left c.args.components.now c.args.self.now.tasks.items)
    (sym (c.in_ok-visit_all-in-Sequence.ensures ∙ ap (λ (ps : List ℕ). map Visit ps ++ c.args.self.now.tasks.items) c.parts.ensures.parts))
    (parts_less c.args.components.now c.requires.ready.order c.requires.ready.are_known.is_order c.args.number (c.requires.ready.within 0 c.args.number (omega arith)) c.args.self.now.tasks.items)

pub returns-in_ok-begin-in-Choice-clause-step : goal.returns-in_ok-begin-in-Choice-clause-step
returns-in_ok-begin-in-Choice-clause-step c =
    choice_step c.args.components.now c.args.known.idle.now c.args.known.refusals.now c.args.number c.args.self.now.tasks.items c.requires.ready
    (stand_of c.args.self.now.level c.args.self.now.outer.items) (contains (λ x y. slice_cmp nat_cmp x.now y.now) c.args.self.now.names) c.requires.kept
    c.begin.new.self.tasks.items (stand_of c.begin.new.self.level c.begin.new.self.outer.items)
    (contains (λ x y. slice_cmp nat_cmp x.now y.now) c.begin.new.self.names) _ c.requires.unrefused
    (sym c.in-Choice.is ∙ c.component.ensures.component) (λ p parts. refl)
    (c.in_ok-begin-in-Choice.ensures.tasks
    ∙ (c.in_ok-enter_choice-in-Choice.ensures ∙ ap (λ (ps : List ℕ). branch_tasks ps ++ Close ∷ c.args.self.now.tasks.items) c.parts-in-Choice.ensures.parts))
    c.in_ok-begin-in-Choice.ensures.stand
    (ap (contains (λ x y. slice_cmp nat_cmp x.now y.now)) c.in_ok-begin-in-Choice.ensures.names)

pub returns-in_ok-begin-in-Choice-clause-ready : goal.returns-in_ok-begin-in-Choice-clause-ready
returns-in_ok-begin-in-Choice-clause-ready c =
    branches_ready _ _ _ c.args.number c.args.self.now.tasks.items c.begin.new.self.tasks.items c.requires.ready
    (c.in_ok-begin-in-Choice.ensures.tasks
    ∙ (c.in_ok-enter_choice-in-Choice.ensures ∙ ap (λ (ps : List ℕ). branch_tasks ps ++ Close ∷ c.args.self.now.tasks.items) c.parts-in-Choice.ensures.parts))

pub returns-in_ok-begin-in-Choice-clause-less : goal.returns-in_ok-begin-in-Choice-clause-less
returns-in_ok-begin-in-Choice-clause-less c =
    subst
    (λ (ts : List Task). looks_left c.args.components.now ts < looks_of c.args.components.now c.args.number + looks_left c.args.components.now c.args.self.now.tasks.items)
    (sym (c.in_ok-begin-in-Choice.ensures.tasks
    ∙ (c.in_ok-enter_choice-in-Choice.ensures ∙ ap (λ (ps : List ℕ). branch_tasks ps ++ Close ∷ c.args.self.now.tasks.items) c.parts-in-Choice.ensures.parts)))
    (branches_less c.args.components.now c.requires.ready.order c.requires.ready.are_known.is_order c.args.number (c.requires.ready.within 0 c.args.number (omega arith)) c.args.self.now.tasks.items)

pub returns-in_ok-found-in-ComplexElement-clause-step : goal.returns-in_ok-found-in-ComplexElement-clause-step
returns-in_ok-found-in-ComplexElement-clause-step c =
    named_step c.args.components.now c.args.known.idle.now c.args.known.refusals.now c.args.number c.args.self.now.tasks.items c.requires.ready
    (stand_of c.args.self.now.level c.args.self.now.outer.items) (contains (λ x y. slice_cmp nat_cmp x.now y.now) c.args.self.now.names) c.requires.kept
    (contains (λ x y. slice_cmp nat_cmp x.now y.now) c.add_element.new.names) _ c.in-ComplexElement.name c.as_str.result.now c.place-place.result
    (get_or c.args.known.refusals.now c.args.number None) c.in_ok-found-in-ComplexElement.found c.requires.unrefused
    (sym c.in-ComplexElement.is ∙ c.component.ensures.component) (λ p parts. refl) refl c.place-place.ensures refl c.as_str.ensures
    c.args.self.now.level.own.items c.add_element.new.own.items refl
    (c.in_ok-found-in-ComplexElement.ensures (names_at (stand_of c.args.self.now.level c.args.self.now.outer.items)) c.requires.kept.names)

pub returns-in_ok-found-in-ComplexElement-clause-ready : goal.returns-in_ok-found-in-ComplexElement-clause-ready
returns-in_ok-found-in-ComplexElement-clause-ready c = rest_ready _ _ _ _ _ c.requires.ready

pub returns-in_ok-found-in-ComplexElement-clause-less : goal.returns-in_ok-found-in-ComplexElement-clause-less
returns-in_ok-found-in-ComplexElement-clause-less c =
    rest_less c.args.components.now c.requires.ready.order c.requires.ready.are_known.is_order c.args.number (c.requires.ready.within 0 c.args.number (omega arith)) c.args.self.now.tasks.items

pub returns-in_ok-found-in-SimpleElement-clause-step : goal.returns-in_ok-found-in-SimpleElement-clause-step
returns-in_ok-found-in-SimpleElement-clause-step c =
    named_step c.args.components.now c.args.known.idle.now c.args.known.refusals.now c.args.number c.args.self.now.tasks.items c.requires.ready
    (stand_of c.args.self.now.level c.args.self.now.outer.items) (contains (λ x y. slice_cmp nat_cmp x.now y.now) c.args.self.now.names) c.requires.kept
    (contains (λ x y. slice_cmp nat_cmp x.now y.now) c.add_element-in-SimpleElement.new.names) _ c.in-SimpleElement.name c.as_str-in-SimpleElement.result.now c.place-place-in-SimpleElement.result
    (get_or c.args.known.refusals.now c.args.number None) c.in_ok-found-in-SimpleElement.found c.requires.unrefused
    (sym c.in-SimpleElement.is ∙ c.component.ensures.component) (λ p parts. refl) refl c.place-place-in-SimpleElement.ensures refl c.as_str-in-SimpleElement.ensures
    c.args.self.now.level.own.items c.add_element-in-SimpleElement.new.own.items refl
    (c.in_ok-found-in-SimpleElement.ensures (names_at (stand_of c.args.self.now.level c.args.self.now.outer.items)) c.requires.kept.names)

pub returns-in_ok-found-in-SimpleElement-clause-ready : goal.returns-in_ok-found-in-SimpleElement-clause-ready
returns-in_ok-found-in-SimpleElement-clause-ready c = rest_ready _ _ _ _ _ c.requires.ready

pub returns-in_ok-found-in-SimpleElement-clause-less : goal.returns-in_ok-found-in-SimpleElement-clause-less
returns-in_ok-found-in-SimpleElement-clause-less c =
    rest_less c.args.components.now c.requires.ready.order c.requires.ready.are_known.is_order c.args.number (c.requires.ready.within 0 c.args.number (omega arith)) c.args.self.now.tasks.items

pub returns-in_ok-found-in-CalculatedElement-clause-step : goal.returns-in_ok-found-in-CalculatedElement-clause-step
returns-in_ok-found-in-CalculatedElement-clause-step c =
    named_step c.args.components.now c.args.known.idle.now c.args.known.refusals.now c.args.number c.args.self.now.tasks.items c.requires.ready
    (stand_of c.args.self.now.level c.args.self.now.outer.items) (contains (λ x y. slice_cmp nat_cmp x.now y.now) c.args.self.now.names) c.requires.kept
    (contains (λ x y. slice_cmp nat_cmp x.now y.now) c.add_element-in-CalculatedElement.new.names) _ c.in-CalculatedElement.name c.as_str-in-CalculatedElement.result.now c.place-place-in-CalculatedElement.result
    (get_or c.args.known.refusals.now c.args.number None) c.in_ok-found-in-CalculatedElement.found c.requires.unrefused
    (sym c.in-CalculatedElement.is ∙ c.component.ensures.component) (λ p parts. refl) refl c.place-place-in-CalculatedElement.ensures refl c.as_str-in-CalculatedElement.ensures
    c.args.self.now.level.own.items c.add_element-in-CalculatedElement.new.own.items refl
    (c.in_ok-found-in-CalculatedElement.ensures (names_at (stand_of c.args.self.now.level c.args.self.now.outer.items)) c.requires.kept.names)

pub returns-in_ok-found-in-CalculatedElement-clause-ready : goal.returns-in_ok-found-in-CalculatedElement-clause-ready
returns-in_ok-found-in-CalculatedElement-clause-ready c = rest_ready _ _ _ _ _ c.requires.ready

pub returns-in_ok-found-in-CalculatedElement-clause-less : goal.returns-in_ok-found-in-CalculatedElement-clause-less
returns-in_ok-found-in-CalculatedElement-clause-less c =
    rest_less c.args.components.now c.requires.ready.order c.requires.ready.are_known.is_order c.args.number (c.requires.ready.within 0 c.args.number (omega arith)) c.args.self.now.tasks.items

pub returns-in_ok-visit_all-in-Hidden-clause-step : goal.returns-in_ok-visit_all-in-Hidden-clause-step
returns-in_ok-visit_all-in-Hidden-clause-step c =
    sequence_step c.args.components.now c.args.known.idle.now c.args.known.refusals.now c.args.number c.args.self.now.tasks.items c.requires.ready
    (stand_of c.args.self.now.level c.args.self.now.outer.items) (contains (λ x y. slice_cmp nat_cmp x.now y.now) c.args.self.now.names) c.requires.kept
    c.visit_all-in-Hidden.new.tasks.items _ c.requires.unrefused (sym c.in-Hidden.is ∙ c.component.ensures.component) (λ p parts. refl)
    (c.in_ok-visit_all-in-Hidden.ensures ∙ ap (λ (ps : List ℕ). map Visit ps ++ c.args.self.now.tasks.items) c.parts-in-Hidden.ensures.parts)

pub returns-in_ok-visit_all-in-Hidden-clause-ready : goal.returns-in_ok-visit_all-in-Hidden-clause-ready
returns-in_ok-visit_all-in-Hidden-clause-ready c =
    tasks_ready _ _ _ c.args.number c.args.self.now.tasks.items c.visit_all-in-Hidden.new.tasks.items c.requires.ready
    (c.in_ok-visit_all-in-Hidden.ensures ∙ ap (λ (ps : List ℕ). map Visit ps ++ c.args.self.now.tasks.items) c.parts-in-Hidden.ensures.parts)

pub returns-in_ok-visit_all-in-Hidden-clause-less : goal.returns-in_ok-visit_all-in-Hidden-clause-less
returns-in_ok-visit_all-in-Hidden-clause-less c =
    subst
    (λ (ts : List Task). looks_left c.args.components.now ts < looks_of c.args.components.now c.args.number + looks_left c.args.components.now c.args.self.now.tasks.items)
    (sym (c.in_ok-visit_all-in-Hidden.ensures ∙ ap (λ (ps : List ℕ). map Visit ps ++ c.args.self.now.tasks.items) c.parts-in-Hidden.ensures.parts))
    (parts_less c.args.components.now c.requires.ready.order c.requires.ready.are_known.is_order c.args.number (c.requires.ready.within 0 c.args.number (omega arith)) c.args.self.now.tasks.items)
