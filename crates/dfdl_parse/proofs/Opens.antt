-- The marks that are open, and the bytes that are needed.
use Rattle.std.proofs.Common.{◌≡◌, ◌⊎◌, inl, inr, ℕ, ◌+◌, ◌-◌, ◌*◌, ◌/◌, ◌<◌, ◌≤◌, nat_le, true, false, refl, List, [], ◌∷◌, ◌++◌, length, map, drop, get_or, Bool, cond, ap, sym, subst, ◌∙◌, arith}
use Rattle.std.specs.Prelude.{reverse}
use Rattle.std.proofs.lemmas.List.{drop_more, reverse-append}
use Rattle.std.proofs.lemmas.Bool.Decides.{nat_tests}
use Rattle.dfdl_grammar.specs.declared.end.End.{End}
use Rattle.dfdl_grammar.specs.declared.end.End.TheVariants.{Done, Failed, Stopped}
use Rattle.dfdl_grammar.specs.declared.mark.Mark.{Mark}
use Rattle.dfdl_grammar.specs.Marks.{back, back_among, is_settled, outer_marks, resolved_among, stays_at}
use Rattle.dfdl_separators.specs.declared.verdict.Here.{Here}
use Rattle.dfdl_separators.specs.Groups.{here_of}
use Rattle.dfdl_grammar.specs.Slots.{has_mark, is_tried, opens_before}
use Rattle.dfdl_grammar.specs.Framing.{aligned}
use Rattle.dfdl_grammar.specs.States.{State, held_from}
use Rattle.dfdl_parse.specs.declared.frame.Frame.{Frame}
use Rattle.dfdl_parse.specs.declared.frame.Frame.TheVariants.{Rest, Element, Box, Spanning, Scope as ScopeFrame, Trial, Branch, Occurrence, Times, Before, Content, Closing, Aside, Concluding, Instance as InstanceFrame}
use Rattle.dfdl_parse.specs.declared.frame.Focus.{Focus}
use Rattle.dfdl_parse.specs.declared.frame.Focus.TheVariants.{Enter, Pass, PassRest, Sized, Seek, LookIn, LookBehind, Count, Leave}
use Rattle.dfdl_parse.specs.Opens.{AreNested, AreOpen, AreSuch, ComesBackIn, GoesBack, Holds, IsBefore, Lie, NeedsBehind, NeedsFrom, before_at, first_at, outside_before, outside_slot, points_of, slot_at}

-- the outermost of some marks
held-last : (marks : List Mark) (last : Mark) (bit : ℕ) → held_from (marks ++ last ∷ []) bit ≡ cond last.is_resolved (held_from marks bit) last.at
held-last [] last bit = refl
held-last (mark ∷ rest) last bit = held-last rest last (cond mark.is_resolved bit mark.at)

pub held-first : (first : Mark) (rest : List Mark) (bit : ℕ)
    → held_from (reverse (first ∷ rest)) bit ≡ cond first.is_resolved (held_from (reverse rest) bit) first.at
held-first first rest bit = ap (λ (ms : List Mark). held_from ms bit) (reverse-append (first ∷ []) rest) ∙ held-last (reverse rest) first bit

-- the first of the marks from a place on is resolved, or not
module _ (marks : List Mark) (i bit : ℕ) (none : Mark) (less : i < length marks) where
  from-first : held_from (reverse (drop i marks)) bit
      ≡ cond (get_or marks i none).is_resolved (held_from (reverse (drop (i + 1) marks)) bit) (get_or marks i none).at
  from-first = ap (λ (ms : List Mark). held_from (reverse ms) bit) (drop_more marks i none less) ∙ held-first (get_or marks i none) (drop (i + 1) marks) bit

  pub from-next : (item : Mark) → item ≡ get_or marks i none → item.is_resolved ≡ true → held_from (reverse (drop (i + 1) marks)) bit ≡ held_from (reverse (drop i marks)) bit
  from-next item same is =
      let resolved : (get_or marks i none).is_resolved ≡ true = ap (λ (m : Mark). m.is_resolved) (sym same) ∙ is in
      sym (from-first ∙ ap (λ (b : Bool). cond b (held_from (reverse (drop (i + 1) marks)) bit) (get_or marks i none).at) resolved)

  pub from-here : (item : Mark) → item ≡ get_or marks i none → item.is_resolved ≡ false → item.at ≡ held_from (reverse (drop i marks)) bit
  from-here item same is =
      let resolved : (get_or marks i none).is_resolved ≡ false = ap (λ (m : Mark). m.is_resolved) (sym same) ∙ is in
      ap (λ (m : Mark). m.at) same
      ∙ sym (from-first ∙ ap (λ (b : Bool). cond b (held_from (reverse (drop (i + 1) marks)) bit) (get_or marks i none).at) resolved)

-- the first of some marks, which is resolved or not
held-settled : (mark : Mark) (outer : List Mark) (bit : ℕ) → mark.is_resolved ≡ true → held_from (mark ∷ outer) bit ≡ held_from outer bit
held-settled mark outer bit is = ap (λ (b : Bool). held_from outer (cond b bit mark.at)) is

held-open : (mark : Mark) (outer : List Mark) (bit : ℕ) → mark.is_resolved ≡ false → held_from (mark ∷ outer) bit ≡ held_from outer mark.at
held-open mark outer bit is = ap (λ (b : Bool). held_from outer (cond b bit mark.at)) is

-- the first byte that is needed is none behind the one that comes next
held-nested : (base at bit : ℕ) (marks : List Mark) → AreNested base at marks → at / 8 ≤ bit / 8 → held_from marks bit / 8 ≤ bit / 8
held-nested base at bit [] nested less = omega arith
held-nested base at bit (mark ∷ outer) nested less =
    by mark.is_resolved refl (λ b near. held-nested base mark.at b outer nested.1.1.1 near)
  where
    behind : mark.at ≤ at
    behind = nested.1.0

    by : (resolved : Bool) → mark.is_resolved ≡ resolved → ((b : ℕ) → mark.at / 8 ≤ b / 8 → held_from outer b / 8 ≤ b / 8)
        → held_from (mark ∷ outer) bit / 8 ≤ bit / 8
    by true is rest = subst (λ (n : ℕ). n / 8 ≤ bit / 8) (sym (held-settled mark outer bit is)) (rest bit (omega (arith, behind)))
    by false is rest =
        let before : held_from outer mark.at / 8 ≤ mark.at / 8 = rest mark.at (omega arith) in
        subst (λ (n : ℕ). n / 8 ≤ bit / 8) (sym (held-open mark outer bit is)) (omega (arith, behind))

-- the bit of the first of some marks is later where another one is
first-later : (at bit : ℕ) (marks : List Mark) → at ≤ bit → first_at marks at ≤ first_at marks bit
first-later at bit [] less = less
first-later at bit (mark ∷ outer) less = omega arith

-- and so is that of the outermost one of a slot
slot-by : (at bit : ℕ) (marks : List Mark) (tried mark : Bool) → at ≤ bit
    → cond tried (cond mark (first_at (outer_marks marks) (first_at marks at)) (first_at marks at)) at
    ≤ cond tried (cond mark (first_at (outer_marks marks) (first_at marks bit)) (first_at marks bit)) bit
slot-by at bit marks true true less = first-later (first_at marks at) (first_at marks bit) (outer_marks marks) (first-later at bit marks less)
slot-by at bit marks true false less = first-later at bit marks less
slot-by at bit marks false mark less = less

pub slot-later : (here : Here) (at bit : ℕ) (marks : List Mark) → at ≤ bit → slot_at here marks at ≤ slot_at here marks bit
slot-later here at bit marks less = slot-by at bit marks (is_tried here.rule) (has_mark here) less

pub before-later : (here : Here) (at bit : ℕ) (marks : List Mark) → at ≤ bit → before_at here marks at ≤ before_at here marks bit
before-later here at bit marks less = by (opens_before here)
  where
    by : (opens : Bool) → cond opens (slot_at here marks at) at ≤ cond opens (slot_at here marks bit) bit
    by true = slot-later here at bit marks less
    by false = less

-- a bit further on comes next
pub lie-later : (at bit : ℕ) (k : List Frame) (marks : List Mark) → at ≤ bit → Lie at k marks → Lie bit k marks
lie-later at bit [] marks less lies = tt
lie-later at bit (Rest id next ∷ k) marks less lies = lie-later at bit k marks less lies
lie-later at bit (Element outer complex ∷ k) marks less lies = lie-later at bit k marks less lies
lie-later at bit (Box outer from ∷ k) marks less lies = lie-later at bit k marks less lies
lie-later at bit (Spanning from ∷ k) marks less lies = lie-later at bit k marks less lies
lie-later at bit (ScopeFrame count ∷ k) marks less lies = lie-later at bit k marks less lies
lie-later at bit (Concluding statements start ∷ k) marks less lies = lie-later at bit k marks less lies
lie-later at bit (InstanceFrame ∷ k) marks less lies = lie-later at bit k marks less lies
lie-later at bit (Times body left ∷ k) marks less lies = lie-later at bit k marks less lies
lie-later at bit (Aside slot ∷ k) marks less lies = lie-later at bit k marks less lies
lie-later at bit (Trial id occurrence next ∷ k) marks less lies =
    lie-later (first_at marks at) (first_at marks bit) k (outer_marks marks) (first-later at bit marks less) lies
lie-later at bit (Branch id next ∷ k) marks less lies =
    lie-later (first_at marks at) (first_at marks bit) k (outer_marks marks) (first-later at bit marks less) lies
lie-later at bit (Occurrence body initiated left ∷ k) marks less lies =
    lie-later (first_at marks at) (first_at marks bit) k (outer_marks marks) (first-later at bit marks less) lies
lie-later at bit (Before slot ∷ k) marks less lies =
    let here : Here = here_of slot.progress slot.rule in
    (lies.0, lie-later (before_at here marks at) (before_at here marks bit) k (outside_before here marks) (before-later here at bit marks less) lies.1)
lie-later at bit (Content slot place empty ∷ k) marks less lies =
    let here : Here = here_of slot.progress slot.rule in
    let content = lies.0 in
    let within : place ≤ at = content.within in (
      record { stage = content.stage; full = content.full; within = omega arith; behind = content.behind; point = content.point },
      lie-later (slot_at here marks at) (slot_at here marks bit) k (outside_slot here marks) (slot-later here at bit marks less) lies.1,
    )
lie-later at bit (Closing slot place ∷ k) marks less lies =
    let here : Here = here_of slot.progress slot.rule in
    (lies.0, lie-later (slot_at here marks at) (slot_at here marks bit) k (outside_slot here marks) (slot-later here at bit marks less) lies.1)

-- the innermost point is resolved: the marks are where they were
first-resolved : (marks : List Mark) (at : ℕ) → first_at (resolved_among marks) at ≡ first_at marks at
first-resolved [] at = refl
first-resolved (mark ∷ outer) at = by mark.is_point
  where
    by : (point : Bool) → first_at (cond point (record mark { is_resolved = true } ∷ outer) (mark ∷ resolved_among outer)) at ≡ mark.at
    by true = refl
    by false = refl

outer-resolved : (P : List Mark → Type 0) (marks : List Mark) → P (outer_marks marks) → P (resolved_among (outer_marks marks)) → P (outer_marks (resolved_among marks))
outer-resolved P [] same other = same
outer-resolved P (mark ∷ outer) same other = by mark.is_point
  where
    by : (point : Bool) → P (outer_marks (cond point (record mark { is_resolved = true } ∷ outer) (mark ∷ resolved_among outer)))
    by true = same
    by false = other

-- of one mark, and of those of a slot
one-resolved : (at : ℕ) (k : List Frame) (marks : List Mark) → ((ms : List Mark) (bit : ℕ) → Lie bit k ms → Lie bit k (resolved_among ms))
    → Lie (first_at marks at) k (outer_marks marks) → Lie (first_at (resolved_among marks) at) k (outer_marks (resolved_among marks))
one-resolved at k marks each lies =
    subst (λ (n : ℕ). Lie n k (outer_marks (resolved_among marks))) (sym (first-resolved marks at))
    (outer-resolved (λ (ms : List Mark). Lie (first_at marks at) k ms) marks lies (each (outer_marks marks) (first_at marks at) lies))

two-resolved : (at : ℕ) (k : List Frame) (marks : List Mark) → ((ms : List Mark) (bit : ℕ) → Lie bit k ms → Lie bit k (resolved_among ms))
    → Lie (first_at (outer_marks marks) (first_at marks at)) k (outer_marks (outer_marks marks))
    → Lie (first_at (outer_marks (resolved_among marks)) (first_at (resolved_among marks) at)) k (outer_marks (outer_marks (resolved_among marks)))
two-resolved at k marks each lies =
    subst (λ (n : ℕ). Lie (first_at (outer_marks (resolved_among marks)) n) k (outer_marks (outer_marks (resolved_among marks)))) (sym (first-resolved marks at))
    (outer-resolved (λ (ms : List Mark). Lie (first_at ms (first_at marks at)) k (outer_marks ms)) marks lies
    (one-resolved (first_at marks at) k (outer_marks marks) each lies))

slot-resolved : (here : Here) (at : ℕ) (k : List Frame) (marks : List Mark) → ((ms : List Mark) (bit : ℕ) → Lie bit k ms → Lie bit k (resolved_among ms))
    → Lie (slot_at here marks at) k (outside_slot here marks) → Lie (slot_at here (resolved_among marks) at) k (outside_slot here (resolved_among marks))
slot-resolved here at k marks each lies = by (is_tried here.rule) (has_mark here) lies
  where
    by : (tried mark : Bool)
        → Lie (cond tried (cond mark (first_at (outer_marks marks) (first_at marks at)) (first_at marks at)) at) k
        (cond tried (cond mark (outer_marks (outer_marks marks)) (outer_marks marks)) marks)
        → Lie (cond tried (cond mark (first_at (outer_marks (resolved_among marks)) (first_at (resolved_among marks) at)) (first_at (resolved_among marks) at)) at) k
        (cond tried (cond mark (outer_marks (outer_marks (resolved_among marks))) (outer_marks (resolved_among marks))) (resolved_among marks))
    by true true there = two-resolved at k marks each there
    by true false there = one-resolved at k marks each there
    by false mark there = each marks at there

before-resolved : (here : Here) (at : ℕ) (k : List Frame) (marks : List Mark) → ((ms : List Mark) (bit : ℕ) → Lie bit k ms → Lie bit k (resolved_among ms))
    → (before : Bool) → Lie (cond before (slot_at here marks at) at) k (cond before (outside_slot here marks) marks)
    → Lie (cond before (slot_at here (resolved_among marks) at) at) k (cond before (outside_slot here (resolved_among marks)) (resolved_among marks))
before-resolved here at k marks each true there = slot-resolved here at k marks each there
before-resolved here at k marks each false there = each marks at there

resolved-lie : (at : ℕ) (k : List Frame) (marks : List Mark) → Lie at k marks → Lie at k (resolved_among marks)
resolved-lie at [] marks lies = tt
resolved-lie at (Rest id next ∷ k) marks lies = resolved-lie at k marks lies
resolved-lie at (Element outer complex ∷ k) marks lies = resolved-lie at k marks lies
resolved-lie at (Box outer from ∷ k) marks lies = resolved-lie at k marks lies
resolved-lie at (Spanning from ∷ k) marks lies = resolved-lie at k marks lies
resolved-lie at (ScopeFrame count ∷ k) marks lies = resolved-lie at k marks lies
resolved-lie at (Concluding statements start ∷ k) marks lies = resolved-lie at k marks lies
resolved-lie at (InstanceFrame ∷ k) marks lies = resolved-lie at k marks lies
resolved-lie at (Times body left ∷ k) marks lies = resolved-lie at k marks lies
resolved-lie at (Aside slot ∷ k) marks lies = resolved-lie at k marks lies
resolved-lie at (Trial id occurrence next ∷ k) marks lies = one-resolved at k marks (λ ms bit. resolved-lie bit k ms) lies
resolved-lie at (Branch id next ∷ k) marks lies = one-resolved at k marks (λ ms bit. resolved-lie bit k ms) lies
resolved-lie at (Occurrence body initiated left ∷ k) marks lies = one-resolved at k marks (λ ms bit. resolved-lie bit k ms) lies
resolved-lie at (Before slot ∷ k) marks lies =
    let here : Here = here_of slot.progress slot.rule in
    (lies.0, before-resolved here at k marks (λ ms bit. resolved-lie bit k ms) (opens_before here) lies.1)
resolved-lie at (Content slot place empty ∷ k) marks lies =
    let content = lies.0 in (
      record {
        stage = content.stage;
        full = content.full;
        within = content.within;
        behind = subst (λ (n : ℕ). n ≤ place) (sym (first-resolved marks place)) content.behind;
        point = λ tried none. subst (λ (n : ℕ). place ≤ n) (sym (first-resolved marks place)) (content.point tried none);
      },
      slot-resolved (here_of slot.progress slot.rule) at k marks (λ ms bit. resolved-lie bit k ms) lies.1,
    )
resolved-lie at (Closing slot place ∷ k) marks lies =
    (lies.0, slot-resolved (here_of slot.progress slot.rule) at k marks (λ ms bit. resolved-lie bit k ms) lies.1)

pub held-before : (base at bit : ℕ) (k : List Frame) (marks : List Mark) → AreOpen base at k marks → at / 8 ≤ bit / 8 → held_from marks bit / 8 ≤ bit / 8
held-before base at bit k marks opens less = held-nested base at bit marks opens.0.1 less

-- it is none behind the one that comes next where a mark is open that isn't resolved, and else that of a bit
nested-near : (base at bit : ℕ) (marks : List Mark) → AreNested base at marks → (held_from marks bit ≡ bit) ⊎ (held_from marks bit / 8 ≤ at / 8)
nested-near base at bit [] nested = inl refl
nested-near base at bit (mark ∷ outer) nested = by mark.is_resolved refl (nested-near base mark.at bit outer nested.1.1.1)
  where
    behind : mark.at ≤ at
    behind = nested.1.0

    further : (held_from outer bit ≡ bit) ⊎ (held_from outer bit / 8 ≤ mark.at / 8) → (held_from outer bit ≡ bit) ⊎ (held_from outer bit / 8 ≤ at / 8)
    further (inl same) = inl same
    further (inr less) = inr (omega (arith, behind))

    by : (resolved : Bool) → mark.is_resolved ≡ resolved → (held_from outer bit ≡ bit) ⊎ (held_from outer bit / 8 ≤ mark.at / 8)
        → (held_from (mark ∷ outer) bit ≡ bit) ⊎ (held_from (mark ∷ outer) bit / 8 ≤ at / 8)
    by true is rest = subst (λ (n : ℕ). (n ≡ bit) ⊎ (n / 8 ≤ at / 8)) (sym (held-settled mark outer bit is)) (further rest)
    by false is rest =
        let low : held_from outer mark.at / 8 ≤ mark.at / 8 = held-nested base mark.at mark.at outer nested.1.1.1 (omega arith) in
        inr (subst (λ (n : ℕ). n / 8 ≤ at / 8) (sym (held-open mark outer bit is)) (omega (arith, behind)))

pub held-near : (base at bit : ℕ) (k : List Frame) (marks : List Mark) → AreOpen base at k marks
    → (held_from marks bit ≡ bit) ⊎ (held_from marks bit / 8 ≤ at / 8)
held-near base at bit k marks opens = nested-near base at bit marks opens.0.1

-- it is held
nested-high : (base at bit : ℕ) (marks : List Mark) → AreNested base at marks → base ≤ bit / 8 → base ≤ held_from marks bit / 8
nested-high base at bit [] nested low = low
nested-high base at bit (mark ∷ outer) nested low = by mark.is_resolved refl (λ b few. nested-high base mark.at b outer nested.1.1.1 few)
  where
    by : (resolved : Bool) → mark.is_resolved ≡ resolved → ((b : ℕ) → base ≤ b / 8 → base ≤ held_from outer b / 8)
        → base ≤ held_from (mark ∷ outer) bit / 8
    by true is rest = subst (λ (n : ℕ). base ≤ n / 8) (sym (held-settled mark outer bit is)) (rest bit low)
    by false is rest = subst (λ (n : ℕ). base ≤ n / 8) (sym (held-open mark outer bit is)) (rest mark.at (nested.1.1.0 is))

pub held-high : (base at bit : ℕ) (k : List Frame) (marks : List Mark) → AreOpen base at k marks → base ≤ bit / 8 → base ≤ held_from marks bit / 8
held-high base at bit k marks opens low = nested-high base at bit marks opens.0.1 low

-- fewer bytes are given up
nested-lower : (low base at : ℕ) (marks : List Mark) → low ≤ base → AreNested base at marks → AreNested low at marks
nested-lower low base at [] less nested = tt
nested-lower low base at (mark ∷ outer) less nested =
    (nested.0, (nested.1.0, (λ open_still. let there : base ≤ mark.at / 8 = nested.1.1.0 open_still in omega arith, nested-lower low base mark.at outer less nested.1.1.1)))

pub lower : (low base at : ℕ) (k : List Frame) (marks : List Mark) → low ≤ base → AreOpen base at k marks → AreOpen low at k marks
lower low base at k marks less opens = ((opens.0.0, nested-lower low base at marks less opens.0.1), opens.1)

-- a bit further on comes next
pub nested-later : (base at bit : ℕ) (marks : List Mark) → at ≤ bit → AreNested base at marks → AreNested base bit marks
nested-later base at bit [] less nested = tt
nested-later base at bit (mark ∷ outer) less nested =
    let behind : mark.at ≤ at = nested.1.0 in
    (nested.0, (omega arith, nested.1.1))

pub later : (base at bit : ℕ) (k : List Frame) (marks : List Mark) → at ≤ bit → AreOpen base at k marks → AreOpen base bit k marks
later base at bit k marks less opens = ((opens.0.0, nested-later base at bit marks less opens.0.1), lie-later at bit k marks less opens.1)

-- the bytes before the first one that is needed are given up
pub nested-risen : (base at bit : ℕ) (marks : List Mark) → AreNested base at marks → AreNested (held_from marks bit / 8) at marks
nested-risen base at bit [] nested = tt
nested-risen base at bit (mark ∷ outer) nested = by mark.is_resolved refl (λ b. nested-risen base mark.at b outer nested.1.1.1)
  where
    by : (resolved : Bool) → mark.is_resolved ≡ resolved → ((b : ℕ) → AreNested (held_from outer b / 8) mark.at outer)
        → AreNested (held_from (mark ∷ outer) bit / 8) at (mark ∷ outer)
    by true is rest =
        subst (λ (n : ℕ). AreNested (n / 8) at (mark ∷ outer)) (sym (held-settled mark outer bit is))
        (nested.0, (nested.1.0, (λ not_resolved. absurd (cc), rest bit)))
    by false is rest =
        subst (λ (n : ℕ). AreNested (n / 8) at (mark ∷ outer)) (sym (held-open mark outer bit is))
        (nested.0, (nested.1.0, (λ not_resolved. held-nested base mark.at mark.at outer nested.1.1.1 (omega arith), rest mark.at)))

pub risen : (base at bit : ℕ) (k : List Frame) (marks : List Mark) → AreOpen base at k marks → AreOpen (held_from marks bit / 8) at k marks
risen base at bit k marks opens = ((opens.0.0, nested-risen base at bit marks opens.0.1), opens.1)

-- the innermost point is resolved
resolved-nested : (base at : ℕ) (marks : List Mark) → AreNested base at marks → AreNested base at (resolved_among marks)
resolved-nested base at [] nested = tt
resolved-nested base at (mark ∷ outer) nested = by mark.is_point refl (resolved-nested base mark.at outer nested.1.1.1)
  where
    by : (point : Bool) → mark.is_point ≡ point → AreNested base mark.at (resolved_among outer)
        → AreNested base at (cond point (record mark { is_resolved = true } ∷ outer) (mark ∷ resolved_among outer))
    by true is rest = (λ no_point. absurd (cc), (nested.1.0, (λ not_resolved. absurd (cc), nested.1.1.1)))
    by false is rest = (nested.0, (nested.1.0, (nested.1.1.0, rest)))

-- which of these marks are points
abbrev are_points : List Mark → List Bool
are_points marks = map (λ mark. mark.is_point) marks

resolved-points : (marks : List Mark) → are_points (resolved_among marks) ≡ are_points marks
resolved-points [] = refl
resolved-points (mark ∷ outer) = by mark.is_point (resolved-points outer)
  where
    by : (point : Bool) → are_points (resolved_among outer) ≡ are_points outer
        → are_points (cond point (record mark { is_resolved = true } ∷ outer) (mark ∷ resolved_among outer)) ≡ mark.is_point ∷ are_points outer
    by true rest = refl
    by false rest = ap (λ (points : List Bool). mark.is_point ∷ points) rest

pub resolved-open : (base at : ℕ) (k : List Frame) (marks : List Mark) → AreOpen base at k marks → AreOpen base at k (resolved_among marks)
resolved-open base at k marks opens =
    ((resolved-points marks ∙ opens.0.0, resolved-nested base at marks opens.0.1), resolved-lie at k marks opens.1)

-- the innermost mark is none behind the bit that comes next
nested-before : (base at : ℕ) (marks : List Mark) → AreNested base at marks → IsBefore marks at
nested-before base at [] nested = tt
nested-before base at (mark ∷ outer) nested = nested.1.0

before : (base at : ℕ) (k : List Frame) (marks : List Mark) → AreOpen base at k marks → IsBefore marks at
before base at k marks opens = nested-before base at marks opens.0.1

-- one mark more than those of a stack is open, which is a point or none
abbrev pub IsMarked : Bool → ℕ → ℕ → List Frame → List Mark → Type 0
IsMarked point base at k marks = AreSuch (point ∷ points_of k) base at marks × Lie (first_at marks at) k (outer_marks marks)

-- there is one
pub some-mark : {A : Type 0} (point : Bool) (points : List Bool) → ◌≡◌ {A = List Bool} [] (point ∷ points) → A
some-mark point points none = absurd (cc)

-- it is closed
pub closed-open : (point : Bool) (base at : ℕ) (k : List Frame) (marks : List Mark) → IsMarked point base at k marks → AreOpen base at k (outer_marks marks)
closed-open point base at k [] opens = some-mark point (points_of k) opens.0.0
closed-open point base at k (mark ∷ outer) opens = (
  (ap (λ (points : List Bool). drop 1 points) opens.0.0, nested-later base mark.at at outer opens.0.1.1.0 opens.0.1.1.1.1),
  lie-later mark.at at k outer opens.0.1.1.0 opens.1,
)

-- it is gone back to, where it isn't resolved, or where no bit was passed over since, and stays open
gone-to : (point : Bool) (base : ℕ) (k : List Frame) (s : State) (marks : List Mark) → s.marks ≡ marks
    → ((mark : Mark) (outer : List Mark) → marks ≡ mark ∷ outer → base ≤ mark.at / 8) → IsMarked point base s.at k marks
    → (base ≤ (back_among marks s).at / 8) × IsMarked point base (back_among marks s).at k (back_among marks s).marks
gone-to point base k s [] is there opens = some-mark point (points_of k) opens.0.0
gone-to point base k s (mark ∷ outer) is there opens = (
  there mark outer refl,
  subst (λ (ms : List Mark). IsMarked point base mark.at k ms) (sym is) ((opens.0.0, (opens.0.1.0, (omega arith, opens.0.1.1.1))), opens.1),
)

-- the first mark isn't resolved, so its byte is held
unresolved-held : (base at : ℕ) (marks : List Mark) → AreNested base at marks → is_settled marks ≡ false
    → (mark : Mark) (outer : List Mark) → marks ≡ mark ∷ outer → base ≤ mark.at / 8
unresolved-held base at marks nested not_settled mark outer is =
    let here : AreNested base at (mark ∷ outer) = subst (λ (ms : List Mark). AreNested base at ms) is nested in
    here.1.1.0 (ap is_settled (sym is) ∙ not_settled)

pub back-open : (point : Bool) (base : ℕ) (k : List Frame) (s : State) → IsMarked point base s.at k s.marks → is_settled s.marks ≡ false
    → (base ≤ (back s).at / 8) × IsMarked point base (back s).at k (back s).marks
back-open point base k s opens not_settled =
    gone-to point base k s s.marks refl (unresolved-held base s.at s.marks opens.0.1 not_settled) opens

-- a mark that is no point isn't resolved
none-settled : (base at : ℕ) (marks : List Mark) (k : List Frame) → IsMarked false base at k marks → is_settled marks ≡ false
none-settled base at [] k opens = refl
none-settled base at (mark ∷ outer) k opens = opens.0.1.0 (first mark.is_point (are_points outer) (points_of k) opens.0.0)
  where
    first : (a : Bool) (xs ys : List Bool) → ◌≡◌ {A = List Bool} (a ∷ xs) (false ∷ ys) → a ≡ false
    first a xs ys same = cc

pub mark-back-open : (base : ℕ) (k : List Frame) (s : State) → IsMarked false base s.at k s.marks
    → (base ≤ (back s).at / 8) × IsMarked false base (back s).at k (back s).marks
mark-back-open base k s opens = back-open false base k s opens (none-settled base s.at s.marks k opens)

-- it is gone back to and closed
pub back-closed : (point : Bool) (base : ℕ) (k : List Frame) (s : State) → IsMarked point base s.at k s.marks → is_settled s.marks ≡ false
    → (base ≤ (back s).at / 8) × AreOpen base (back s).at k (outer_marks (back s).marks)
back-closed point base k s opens not_settled =
    let there = back-open point base k s opens not_settled in
    (there.0, closed-open point base (back s).at k (back s).marks there.1)

-- the same where no bit was passed over since
stayed-held : (base at : ℕ) (marks : List Mark) → base ≤ at / 8 → stays_at marks at ≡ true → (mark : Mark) (outer : List Mark) → marks ≡ mark ∷ outer → base ≤ mark.at / 8
stayed-held base at marks low stays mark outer is =
    let here : nat_le at mark.at ≡ true = ap (λ (ms : List Mark). stays_at ms at) (sym is) ∙ stays in
    let less : at ≤ mark.at = grind (arith, nat_tests) in
    omega arith

pub stayed-closed : (point : Bool) (base : ℕ) (k : List Frame) (s : State) → IsMarked point base s.at k s.marks → base ≤ s.at / 8 → stays_at s.marks s.at ≡ true
    → (base ≤ (back s).at / 8) × AreOpen base (back s).at k (outer_marks (back s).marks)
stayed-closed point base k s opens low stays =
    let there = gone-to point base k s s.marks refl (stayed-held base s.at s.marks low stays) opens in
    (there.0, closed-open point base (back s).at k (back s).marks there.1)

-- it is opened here
pub mark-open : (base : ℕ) (k : List Frame) (s : State) (mark : Mark) → mark.at ≡ s.at → mark.is_resolved ≡ false → base ≤ s.at / 8
    → AreOpen base s.at k s.marks → IsMarked mark.is_point base s.at k (mark ∷ s.marks)
mark-open base k s mark at is low opens = (
  (
    ap (λ (points : List Bool). mark.is_point ∷ points) opens.0.0,
    (λ no_point. is, (omega arith, (λ not_resolved. omega arith, nested-later base s.at mark.at s.marks (omega arith) opens.0.1))),
  ),
  lie-later s.at mark.at k s.marks (omega arith) opens.1,
)

-- the content of a slot that waits began before
comes-back : (at : ℕ) (k : List Frame) (marks : List Mark) → Lie at k marks → ComesBackIn k at
comes-back at [] marks lies = tt
comes-back at (Rest id next ∷ k) marks lies = tt
comes-back at (Element outer complex ∷ k) marks lies = tt
comes-back at (Box outer from ∷ k) marks lies = tt
comes-back at (Spanning from ∷ k) marks lies = tt
comes-back at (ScopeFrame count ∷ k) marks lies = tt
comes-back at (Concluding statements start ∷ k) marks lies = tt
comes-back at (InstanceFrame ∷ k) marks lies = tt
comes-back at (Times body left ∷ k) marks lies = tt
comes-back at (Aside slot ∷ k) marks lies = tt
comes-back at (Trial id occurrence next ∷ k) marks lies = tt
comes-back at (Branch id next ∷ k) marks lies = tt
comes-back at (Occurrence body initiated left ∷ k) marks lies = tt
comes-back at (Before slot ∷ k) marks lies = tt
comes-back at (Content slot bit empty ∷ k) marks lies = lies.0.within
comes-back at (Closing slot bit ∷ k) marks lies = tt

behind_holds : (base : ℕ) (end : End) (k : List Frame) (s : State) → NeedsBehind base end k s → GoesBack end k s
behind_holds base Done k s needs = (before base s.at k s.marks needs.1, comes-back s.at k s.marks needs.1.1)
behind_holds base (Failed cause bit) k s needs = (before base s.at k s.marks needs, comes-back s.at k s.marks needs.1)
behind_holds base (Stopped cause quantity) k s needs = tt

-- what is done next finds the bytes that it looks at
pub holds : (base : ℕ) (focus : Focus) (k : List Frame) (s : State) → NeedsFrom base focus k s → Holds base focus k s
holds base (Enter id) k s needs = (held-high base s.at s.at k s.marks needs.1 needs.0, held-before base s.at s.at k s.marks needs.1 (omega arith))
holds base (Pass to) k s needs =
    let less = needs.1.0 in
    (held-high base s.at (to - 1) k s.marks needs.1.1 needs.0, held-before base s.at (to - 1) k s.marks needs.1.1 (omega arith))
holds base (PassRest bit outer) k s needs =
    let low = needs.0 in
    let less = needs.1.1.0 in
    (held-high base s.at (8 * (bit / 8)) k s.marks needs.1.1.1 (omega arith), held-before base s.at (8 * (bit / 8)) k s.marks needs.1.1.1 (omega arith))
holds base (Sized prim size) k s needs = (held-high base s.at s.at k s.marks needs.1 needs.0, held-before base s.at s.at k s.marks needs.1 (omega arith))
holds base (Seek what) k s needs =
    (held-high base s.at (aligned 8 s.at) k s.marks needs.1 needs.0, held-before base s.at (aligned 8 s.at) k s.marks needs.1 (omega arith))
holds base (LookIn slot) k s needs =
    (nested-high base s.at s.at s.marks needs.1.1.0.1 needs.0, held-nested base s.at s.at s.marks needs.1.1.0.1 (omega arith))
holds base (LookBehind slot bit) k s needs = (
  (nested-high base s.at s.at s.marks needs.1.1.0.1 needs.0, held-nested base s.at s.at s.marks needs.1.1.0.1 (omega arith)),
  nested-before base s.at s.marks needs.1.1.0.1,
)
holds base (Count slot question) k s needs =
    (held-high base s.at s.at k s.marks needs.1 needs.0, held-before base s.at s.at k s.marks needs.1 (omega arith))
holds base (Leave end) k s needs = behind_holds base end k s needs
